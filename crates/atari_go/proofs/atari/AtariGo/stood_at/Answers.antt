use Rattle.std.proofs.Common.{◌^◌, ◌<◌, sym, subst}
use Rattle.game.specs.Prefixes.{prefix}
use Rattle.go_rules.specs.Play.{standing, atari_go}
use Rattle.go_rules.specs.declared.place.Place.{Place}
use Rattle.go_rules.proofs.Walks.{reachable_prefix, white_word}
use Rattle.history.specs.Walks.{line_of}
use Rattle.atari_go.proofs.atari.AtariGo.stood_at.Goals as goal

pub returns : goal.returns
returns c =
    let s = c.args.self.now in
    let l = line_of s.history in
    let is = c.at.ensures.stands (standing s.board.n s.history.start) s.follows in
    let legal = reachable_prefix (atari_go s.board.n s.history.start) c.args.n l s.legal in
    record {
      is = is;
      white =
          subst (λ (x : Place). x.white < 2 ^ 49) (sym is)
          (white_word s.board.n s.board.high s.history.start s.good (prefix c.args.n l) legal);
    }
