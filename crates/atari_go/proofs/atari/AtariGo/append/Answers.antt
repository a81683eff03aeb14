use Rattle.std.proofs.Common.{sym, subst}
use Rattle.go_rules.specs.Play.{standing, atari_go, Position}
use Rattle.go_rules.specs.declared.place.Place.{Place}
use Rattle.history.specs.Walks.{line_of, Follows}
use Rattle.game.specs.Meaning.{Reachable}
use Rattle.atari_go.proofs.atari.AtariGo.append.Goals as goal

pub invariant_of-self : goal.invariant_of-self
invariant_of-self c =
    let s = c.args.self.now in
    let n = s.board.n in
    let start = s.history.start in
    let new = c.push.new.self in
    let same = sym c.push.ensures.start in
    record {
      good = subst (Position n) same s.good;
      legal = subst (λ (x : Place). Reachable (atari_go n x) (line_of new)) same (c.push.ensures.legal (atari_go n start) s.legal c.requires.legal);
      follows = subst (λ (x : Place). Follows (standing n x) new) same (c.push.ensures.follows (standing n start) s.follows c.requires.leads);
    }
