-- Runs of parts make runs of the whole: what a proof of the code needs.
use Rattle.std.proofs.Common.{sym, subst}
use Rattle.store.specs.Interface.{StoreMeaning}
use Rattle.search_method.specs.Tree.{Tree, done, ask, note, bind, Runs}

pub runs_bind : {S A B : Type 0} (𝓢 : StoreMeaning S) (x : Tree A) (g : A → Tree B) (s t u : S) (a : A) (r : B) →
    Runs 𝓢 x s t a → Runs 𝓢 (g a) t u r → Runs 𝓢 (bind x g) s u r
runs_bind 𝓢 (done y) g s t u a r p q =
    subst (λ z. Runs 𝓢 (g z) s u r) (sym p.1) (subst (λ z. Runs 𝓢 (g a) z u r) (sym p.0) q)
runs_bind 𝓢 (ask k f) g s t u a r p q = runs_bind 𝓢 (f (𝓢.shows s k)) g s t u a r p q
runs_bind 𝓢 (note f x) g s t u a r p q = (p.0, p.1, runs_bind 𝓢 x g p.0 t u a r p.2 q)
