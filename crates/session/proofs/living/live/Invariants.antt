use Rattle.std.proofs.Common.{◌≡◌, take, drop}
use Rattle.game.specs.Meaning.{Reachable}
use Rattle.search_method.specs.Memory.{Lent}
use Rattle.session.specs.Requests.{desk_of, room_of}
use Rattle.session.specs.Runs.{RequestsLived}
use Rattle.session.proofs.living.live.Given as goal

abbrev pub invariant-loop-i : goal.invariant-loop-i
invariant-loop-i g l =
    record {
      same : g.G.Game.means l.session.game ≡ g.G.Game.means l.fn.game;
      ran : Reachable (g.G.Game.means l.fn.game) (g.G.Game.line l.fn.game) →
          RequestsLived (g.G.Game.means l.fn.game) g.S.Store.store (g.G.Game.line l.fn.game) l.fn.store (room_of l.initial.memory) (desk_of l.initial.desk)
          (take l.i l.requests) (take l.i l.replies) (g.G.Game.line l.session.game) l.session.store (desk_of l.desk);
      rest : drop l.i l.replies ≡ drop l.i l.initial.replies;
      same_buffer : l.desk.bytes.ghost_name ≡ l.initial.desk.bytes.ghost_name;
      room : room_of l.memory ≡ room_of l.initial.memory;
      lent : Lent l.initial.memory l.memory;
    }
