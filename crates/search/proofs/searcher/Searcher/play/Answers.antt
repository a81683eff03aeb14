use Rattle.std.proofs.Common.{◌∷◌, refl, ap, ◌∙◌, arith}
use Rattle.game.specs.Refusals.{line_after}
use Rattle.game.proofs.Bounds.{play_goes}
use Rattle.search.proofs.searcher.Searcher.play.Goals as goal

pub returns : goal.returns
returns g c =
    record {
      holds = record { floor = refl; game = refl; store = refl };
      same = c.play.ensures.same;
      goes = c.play.ensures.moved
          ∙ ap (λ r. line_after r (c.args.k ∷ g.G.Game.line c.args.self.now.game.now) (g.G.Game.line c.args.self.now.game.now))
          (play_goes (g.G.Game.means c.args.self.now.game.now) (g.G.Game.line c.args.self.now.game.now) c.args.k
          (g.met.G.Game.present c.args.self.now.game.now) (g.met.G.Bounded.bounded c.args.self.now.game.now) (g.met.G.Bounded.room c.args.self.now.game.now) c.requires.legal);
      counted = omega (arith, c.in_ok-self.ensures);
      reads = refl;
    }
