use Rattle.std.proofs.Common.{◌≡◌, take}
use Rattle.search_method.specs.Memory.{Lent}
use Rattle.session.specs.Requests.{desk_of, room_of, asked}
use Rattle.session.specs.Runs.{Ran}
use Rattle.session.proofs.living.live_exchanges.Given as goal

abbrev pub invariant-loop-exchange : goal.invariant-loop-exchange
invariant-loop-exchange g l =
    record {
      same : g.G.Game.means l.session.game ≡ g.G.Game.means l.fn.game;
      asked : asked l.exchanges ≡ asked l.initial.exchanges;
      ran : Ran (g.G.Game.means l.fn.game) g.S.Store.store (g.G.Game.line l.fn.game) l.fn.store (room_of l.initial.memory)
          (take l.exchange-index l.exchanges) (g.G.Game.line l.session.game) l.session.store (desk_of l.initial.desk) (desk_of l.desk);
      same_buffer : l.desk.bytes.ghost_name ≡ l.initial.desk.bytes.ghost_name;
      room : room_of l.memory ≡ room_of l.initial.memory;
      lent : Lent l.initial.memory l.memory;
    }
