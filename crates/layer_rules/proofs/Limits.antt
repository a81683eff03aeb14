-- The laws of a game under a limit.
use Rattle.std.proofs.Common.{◌≡◌, ℕ, ◌+◌, ◌-◌, ◌*◌, ◌^◌, ◌<◌, ◌≤◌, eqb, leb, [], ◌∷◌, length, sym, refl, ap, ◌∙◌, arith, length-append}
use Rattle.std.proofs.lemmas.Bool.{and_parts, cond-true}
use Rattle.game.specs.Meaning.{Line, Meaning, Reachable}
use Rattle.game.specs.Laws.{Fit, Lawful, Present, BoundedBy, Bounded, Room}
use Rattle.layer_rules.specs.Layers.{short_context, limit_layer, limited}
use Rattle.layer_rules.proofs.Layers.{below, layered_present, layered_lawful, Agreeing}

-- no reachable line is longer than the limit
pub limited_short : (n : ℕ) (m : Meaning) (l : Line) → Reachable (limited n m) l → length l ≤ n
limited_short n m [] r = omega arith
limited_short n m (k ∷ l) r = grind arith

-- so a reachable line ends here exactly where its length is the limit
pub limited_exact : (n : ℕ) (m : Meaning) (l : Line) → Reachable (limited n m) l → (limit_layer n m).ends l ≡ eqb (length l) n
limited_exact n m l r = let short = limited_short n m l r in grind arith

limited_context : (n : ℕ) (m : Meaning) (l : Line) → n ≤ 96 → Fit (m.view l) → (limit_layer n m).context l < 2 ^ 64
limited_context n m l low fit = grind arith

-- the share of the limit and the context word below, out of the context word
parted : (n t u x y : ℕ) → n ≤ 96 → x ≤ n → y ≤ n → 256 * t + (n - x) ≡ 256 * u + (n - y) → (t ≡ u) × (x ≡ y)
parted n t u x y low h i e = (omega arith, omega arith)

limited_agreeing : (n : ℕ) (m : Meaning) → n ≤ 96 → Lawful m → Agreeing m (limit_layer n m)
limited_agreeing n m low law p q rp rq cp cq i j e =
    let both = parted n (m.view p).context (m.view q).context (length p) (length q) low (limited_short n m p rp) (limited_short n m q rq)
    (sym (cond-true (short_context (m.view p)) _ _ cp) ∙ e ∙ cond-true (short_context (m.view q)) _ _ cq) in
    record {
      bisimilar = law.alike p q (below m (limit_layer n m) p rp) (below m (limit_layer n m) q rq)
          (and_parts _ _ cp).0 (and_parts _ _ cq).0 i j both.0;
      ends = λ w r. ap (λ x. leb n x) (length-append w p ∙ ap (λ x. length w + x) both.1 ∙ sym (length-append w q));
    }

pub limited_lawful : (n : ℕ) (m : Meaning) → n ≤ 96 → Lawful m → Lawful (limited n m)
limited_lawful n m low law =
    layered_lawful m (limit_layer n m) law
    (λ l r. limited_context n m l low (law.fit l (below m (limit_layer n m) l r)))
    (limited_agreeing n m low law)

pub limited_present : (n : ℕ) (m : Meaning) (l : Line) → n ≤ 96 → Present m l → Present (limited n m) l
limited_present n m l low here = layered_present m (limit_layer n m) l here (limited_context n m l low here.fit)

pub limited_bounded : (n : ℕ) (m : Meaning) → n ≤ 96 → BoundedBy (limited n m) n
limited_bounded n m low = record {
  height = refl;
  low = low;
  ends = λ l r e. grind arith;
}

pub limited_height : (n : ℕ) (m : Meaning) → n ≤ 96 → Bounded (limited n m)
limited_height n m low = (n, limited_bounded n m low)

pub limited_room : (n : ℕ) (m : Meaning) (l : Line) → Room (limited n m) l
limited_room n m l going = grind arith
