use Rattle.std.proofs.Common.{◌≡◌, None, sym, ◌∙◌, arith}
use Rattle.go_rules.specs.Text.{lines_of}
use Rattle.go_rules.proofs.Texts.{in_form, form_answer, told, start_good}
use Rattle.go_rules.proofs.text.read_position.Goals as goal

pub returns-in_default-of : goal.returns-in_default-of
returns-in_default-of c =
    let form = in_form c.args.text.now (sym c.in_default.ensures) in
    absurd (omega (arith, form.low, form.high, c.from.ensures, c.lines_of.ensures, c.in_default-of.ensures))

pub returns : goal.returns
returns c =
    let lines : c.in-Some-of.board.n ≡ lines_of c.args.text.now = c.in-Some-of.ensures ∙ c.from.ensures ∙ c.lines_of.ensures in
    let b = c.in-Some-of.board in
    let t = c.args.text.now in
    let black = c.stones_of-black in
    let white = c.stones_of-white in
    let tells = told t b.n black.result white.result c.in_default.ensures lines black.ensures white.ensures c.side_of.result c.place_of.result
    c.side_of.ensures c.place_of.ensures in
    record {
      answer = form_answer t b.n black.result white.result c.in_default.ensures lines black.ensures white.ensures None c.in_default-dead_point.ensures;
      told = tells;
      placed = start_good t b.n c.place_of.result tells;
    }
