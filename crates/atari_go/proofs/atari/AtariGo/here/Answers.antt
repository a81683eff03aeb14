use Rattle.std.proofs.Common.{◌^◌, ◌<◌, sym, subst}
use Rattle.go_rules.specs.Play.{standing}
use Rattle.go_rules.specs.declared.place.Place.{Place}
use Rattle.go_rules.proofs.Walks.{few_moves, white_word}
use Rattle.atari_go.proofs.atari.AtariGo.here.Goals as goal

pub returns-clause-few : goal.returns-clause-few
returns-clause-few c = let s = c.args.self.now in few_moves s.board.n s.board.high c.here.result

pub returns-clause-white : goal.returns-clause-white
returns-clause-white c =
    let s = c.args.self.now in
    let is = c.here.ensures.stands (standing s.board.n s.history.start) s.follows in
    subst (λ (x : Place). x.white < 2 ^ 49) (sym is) (white_word s.board.n s.board.high s.history.start s.good _ s.legal)
