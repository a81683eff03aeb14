-- What holds of every way through a tree: R of each answer that it is given, N of each entry that it notes, P of its result.
use Rattle.std.proofs.Common.{◌≡◌, ◌⊎◌, Some, None, Option, sym, refl, subst, inl, inr}
use Rattle.store.specs.declared.entry.Key.{Key}
use Rattle.store.specs.declared.entry.Entry.{Entry}
use Rattle.store.specs.Interface.{StoreMeaning}
use Rattle.search_method.specs.Tree.{Tree, done, ask, note, bind, Runs}

abbrev pub Good : {A : Type 0} → (Key → Option Entry → Type 0) → (Entry → Type 0) → (A → Type 0) → Tree A → Type 0
Good R N P (done x) = P x
Good R N P (ask k g) = (o : Option Entry) → R k o → Good R N P (g o)
Good R N P (note f t) = N f × Good R N P t

module _ (R : Key → Option Entry → Type 0) (N : Entry → Type 0) where
  pub good_bind : {A B : Type 0} (P : A → Type 0) (Q : B → Type 0) (t : Tree A) (g : A → Tree B) →
      Good R N P t → ((x : A) → P x → Good R N Q (g x)) → Good R N Q (bind t g)
  good_bind P Q (done x) g h k = k x h
  good_bind P Q (ask y t) g h k = λ o r. good_bind P Q (t o) g (h o r) k
  good_bind P Q (note f t) g h k = (h.0, good_bind P Q t g h.1 k)

  pub good_map : {A : Type 0} (P Q : A → Type 0) (t : Tree A) → ((x : A) → P x → Q x) → Good R N P t → Good R N Q t
  good_map P Q (done x) f h = f x h
  good_map P Q (ask y t) f h = λ o r. good_map P Q (t o) f (h o r)
  good_map P Q (note g t) f h = (h.0, good_map P Q t f h.1)

-- what may be answered for a key, where every entry held meets N
abbrev pub AnswerMeets : (Entry → Type 0) → Key → Option Entry → Type 0
AnswerMeets N k None = Unit {0}
AnswerMeets N k (Some f) = (f.key ≡ k) × N f

pub runs_good : {S A : Type 0} (𝓢 : StoreMeaning S) (N : Entry → Type 0) (P : A → Type 0) (x : Tree A) (s t : S) (r : A) →
    ((f : Entry) → 𝓢.holds s f → N f) → Good (AnswerMeets N) N P x → Runs 𝓢 x s t r → P r × ((f : Entry) → 𝓢.holds t f → N f)
runs_good 𝓢 N P (done y) s t r all h run =
    (subst P run.1 h, λ f x. all f (subst (λ u. 𝓢.holds u f) (sym run.0) x))
runs_good 𝓢 N P (ask k g) s t r all h run =
    runs_good 𝓢 N P (g (𝓢.shows s k)) s t r all (h (𝓢.shows s k) (meets (𝓢.shows s k) refl)) run
  where
    meets : (o : Option Entry) → 𝓢.shows s k ≡ o → AnswerMeets N k o
    meets None e = tt
    meets (Some f) e = let x = 𝓢.shown s k f e in (x.1, all f x.0)
runs_good 𝓢 N P (note f x) s t r all h run =
    runs_good 𝓢 N P x run.0 t r (λ g y. by g (𝓢.recorded s run.0 f g run.1 y)) h.1 run.2
  where
    by : (g : Entry) → (g ≡ f) ⊎ 𝓢.holds s g → N g
    by g (inl e) = subst N (sym e) h.0
    by g (inr y) = all g y
