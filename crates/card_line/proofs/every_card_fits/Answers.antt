use Rattle.std.proofs.Common.{◌≤◌, Bool, true, false, length, arith, length-append}
use Rattle.std.proofs.lemmas.Fmt.{length-decimal-le}
use Rattle.card_line.specs.Lines.{verdict_word}
use Rattle.card_line.proofs.every_card_fits.Goals as goal

word_room : (said : Bool) → length (verdict_word said) ≤ 3
word_room true = omega arith
word_room false = omega arith

pub returns : goal.returns
returns c = λ card floor bytes plays said c f b p.
    simp length-append (omega (
      arith,
      length-decimal-le 10 card (omega arith) (omega arith) (omega arith),
      length-decimal-le 3 floor (omega arith) (omega arith) (omega arith),
      length-decimal-le 20 bytes (omega arith) (omega arith) b,
      length-decimal-le 10 plays (omega arith) (omega arith) (omega arith),
      word_room said,
    ))
