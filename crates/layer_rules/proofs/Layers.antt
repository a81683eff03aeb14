-- What every layer keeps of the laws of the game below.
use Rattle.std.proofs.Common.{◌≡◌, ℕ, ◌^◌, ◌<◌, Bool, true, [], ◌∷◌, ◌++◌, ◌∙◌, subst, arith}
use Rattle.game.specs.Meaning.{Line, View, Meaning, Reachable, Same, Bisimilar}
use Rattle.game.specs.Laws.{Fit, BoundedBy, Lawful, Present}
use Rattle.layer_rules.specs.Layers.{Layer, layered_view, layered}

pub layered_fit : (v : View) (e : Bool) (t : ℕ) (c : Bool) → Fit v → t < 2 ^ 64 → Fit (layered_view v e t c)
layered_fit v e t c f low = grind arith

pub layered_same : (v w : View) (e f : Bool) (s t : ℕ) (c d : Bool) → Same v w → e ≡ f → Same (layered_view v e s c) (layered_view w f t d)
layered_same v w e f s t c d h i = grind arith

module _ (m : Meaning) (y : Layer) where
  -- what the layer lets happen, happens below
  pub below : (l : Line) → Reachable (layered m y) l → Reachable m l
  below [] r = tt
  below (k ∷ l) r = (below l r.0, grind arith)

  -- the two lines are bisimilar below, and the layer ends the same continuations of both
  pub record Agree (p q : Line) : Type 0 where
    pub bisimilar : Bisimilar m p m q
    pub ends : (w : Line) → Reachable (layered m y) (w ++ p) → y.ends (w ++ p) ≡ y.ends (w ++ q)

  pub agree_bisimilar : (p q : Line) → Reachable (layered m y) q → Agree p q → Bisimilar (layered m y) p (layered m y) q
  agree_bisimilar p q rq h [] r = (rq, layered_same _ _ _ _ _ _ _ _ (h.bisimilar [] (below p r)).1 (h.ends [] r))
  agree_bisimilar p q rq h (k ∷ w) r =
      let on = agree_bisimilar p q rq h w r.0 in
      let P : ℕ → Type 0 = λ n. k < n in (
        (on.0, subst P on.1.moves r.1),
        layered_same _ _ _ _ _ _ _ _ (h.bisimilar (k ∷ w) (below (k ∷ (w ++ p)) r)).1 (h.ends (k ∷ w) r),
      )

  abbrev pub Agreeing : Type 0
  Agreeing =
      (p q : Line) → Reachable (layered m y) p → Reachable (layered m y) q → y.independent p ≡ true → y.independent q ≡ true →
      (m.view p).a ≡ (m.view q).a → (m.view p).b ≡ (m.view q).b → y.context p ≡ y.context q → Agree p q

  pub layered_lawful : Lawful m → ((l : Line) → Reachable (layered m y) l → y.context l < 2 ^ 64) → Agreeing → Lawful (layered m y)
  layered_lawful law contexts agreeing = record {
    fit = λ l r. layered_fit (m.view l) (y.ends l) (y.context l) (y.independent l) (law.fit l (below l r)) (contexts l r);
    falls = λ w p r. law.falls w p (below (w ++ p) r);
    levels = λ p q rp rq. law.levels p q (below p rp) (below q rq);
    alike = λ p q rp rq cp cq i j k. agree_bisimilar p q rq (agreeing p q rp rq cp cq i j k);
  }

pub layered_present : (m : Meaning) (y : Layer) (l : Line) → Present m l → y.context l < 2 ^ 64 → Present (layered m y) l
layered_present m y l here low = record { fit = layered_fit (m.view l) (y.ends l) (y.context l) (y.independent l) here.fit low; short = here.short }

-- a layer that keeps the height of a bounded game is bounded by it
pub layered_bounded : (m : Meaning) (y : Layer) (h : ℕ) → y.height ≡ m.height → BoundedBy m h → BoundedBy (layered m y) h
layered_bounded m y h same bounded = record {
  height = same ∙ bounded.height;
  low = bounded.low;
  ends = λ l r e. let over = bounded.ends l (below m y l r) e in grind arith;
}
