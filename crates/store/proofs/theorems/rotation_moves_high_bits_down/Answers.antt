use Rattle.std.proofs.Common.{◌≡◌, ℕ, ◌+◌, ◌-◌, ◌*◌, ◌%◌, ◌^◌, ◌<◌, sym, ap, ◌∙◌, subst, arith}
use Rattle.std.proofs.lemmas.Nat.{pow-add, or_shifted, div-mul-add, mod-mul-add, shl_below}
use Rattle.store.proofs.theorems.rotation_moves_high_bits_down.Goals as goal

pub returns : goal.returns
returns c = λ n high low h hi lo.
    let e : (64 - n) + n ≡ 64 = omega arith in
    let whole : 2 ^ (64 - n) * 2 ^ n ≡ 2 ^ 64 = sym (pow-add 2 (64 - n) n) ∙ ap (λ (k : ℕ). 2 ^ k) e in
    let small : low * 2 ^ n < 2 ^ 64 = subst (λ (k : ℕ). low * 2 ^ n < 2 ^ k) e (shl_below low (64 - n) n lo) in
    -- what is left of the word that is shifted up
    let upper : ((high * 2 ^ (64 - n) + low) * 2 ^ n) % 2 ^ 64 ≡ low * 2 ^ n = grind (arith, mod-mul-add high (2 ^ 64) (low * 2 ^ n) small) in
    grind (arith, upper, div-mul-add high (2 ^ (64 - n)) low lo, or_shifted low n high hi)
