-- The steps of the code's check, each by the definition.
use Rattle.std.proofs.Common.{◌≡◌, ℕ, ◌≤◌, eqb, List, length, drop, Some, Ok, refl, arith}
use Rattle.codec.specs.declared.Number.{Number}
use Rattle.codec.specs.Numbers.{read}
use Rattle.codec.specs.Files.{number_at}
use Rattle.codec.proofs.Spelling.{some_read}
use Rattle.game.specs.Meaning.{Line, Meaning}
use Rattle.proof_method.specs.Check.{claim, by_verdict, by_floor, check}
use Rattle.proof_file.specs.Faults.{claim_number}

module _ (m : Meaning) (l : Line) (bytes : List ℕ) (budget : ℕ) where
  pub check_is : check m l bytes budget ≡ by_floor m l bytes budget (read bytes)
  unfolding check
  check_is = refl

  module _ {x : Number} (floor : Ok x ≡ claim_number 0 1 2 (number_at bytes 0)) where
    pub floor_is : (check m l bytes budget ≡ by_verdict m l bytes budget x.value (drop x.end bytes) (read (drop x.end bytes))) × (x.end ≤ length bytes)
    floor_is =
        let some : Some x ≡ number_at bytes 0 = grind arith in
        let next = some_read bytes 0 (omega arith) x some in
        (grind (arith, check_is), next.1)

    pub verdict_is : {y : Number} → Ok y ≡ claim_number x.end 0 1 (number_at bytes x.end) →
        (check m l bytes budget ≡ claim m l bytes budget x.value (eqb y.value 1) (drop y.end bytes)) × (y.end ≤ length bytes)
    verdict_is {y} verdict =
        let some : Some y ≡ number_at bytes x.end = grind arith in
        let next = some_read bytes x.end floor_is.1 y some in
        (grind (arith, floor_is.0), next.1)
