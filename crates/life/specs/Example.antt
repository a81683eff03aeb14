-- Two short lives over one small game, so that the promise speaks of something; and why a session opens by clearing.
use Rattle.std.specs.Prelude.{◌≡◌, suc, true, false, cond, List, [], ◌∷◌, Some, None, Option, ◌==◌}
use Rattle.std.proofs.Common.{subst, sym, ap, inr}
use Rattle.game.specs.declared.kinds.Side.TheVariants.{Black, White}
use Rattle.game.specs.declared.kinds.Score.TheVariants.{WhiteWins, BlackWins}
use Rattle.game.specs.Meaning.{Line, Meaning, View}
use Rattle.game.specs.Laws.{Lawful, BoundedBy}
use Rattle.game.specs.Value.{value}
use Rattle.store.specs.declared.entry.Key.{Key}
use Rattle.store.specs.declared.entry.Entry.{Entry}
use Rattle.store.specs.declared.entry.Finding.TheVariants.{Verdict}
use Rattle.store.specs.Interface.{StoreMeaning}
use Rattle.search_method.specs.declared.kinds.Answer.TheVariants.{Solved, OutOfBudget}
use Rattle.search_method.specs.Tree.{Runs}
use Rattle.search_method.specs.Search.{solve as solving}
use Rattle.proof_method.specs.Check.{accepted, faulty}
use Rattle.proof_method.specs.Write.{proof, unwritten}
use Rattle.life.specs.Life.{Memory, Call, play, take_back, clear, solve, write, check, Answer, done, refused, found, wrote, checked, Event, Life}

-- Black plays 0 and loses, or 1 and wins
abbrev pub view : Line → View
view [] = record { turn = Black; moves = 2; score = None; a = 0; b = 0; context = 0; level = 1; independent = true }
view (k ∷ l) =
    record { turn = White; moves = 0; score = Some (cond (k == 1) BlackWins WhiteWins); a = suc k; b = 0; context = 0; level = 0; independent = false }

abbrev pub game : Meaning
game = record { view = view; height = Some 1 }

abbrev pub plenty : Memory
plenty = record { lines = 97; moves = 6_208 }

abbrev pub scant : Memory
scant = record { lines = 96; moves = 6_208 }

abbrev pub at : Line → Call → Answer → Event
at l c a = record { line = l; call = c; answer = a }

-- read from below: refusals, a budget that is used up, a verdict, two proofs that are written and two that are not, a
-- move, and a verdict by the score
abbrev pub first_life : List Event
first_life =
    at (1 ∷ []) (solve 2 0 plenty) (found (Solved true 255 0))
    ∷ at (1 ∷ []) (play 0) (refused 2)
    ∷ at [] (play 1) done
    ∷ at [] (write 2 3 (9 ∷ 9 ∷ []) plenty) (wrote (unwritten 8) (0 ∷ 0 ∷ []))
    ∷ at [] (write 2 3 (9 ∷ 9 ∷ 9 ∷ 9 ∷ []) plenty) (wrote (proof true (2 ∷ 1 ∷ 1 ∷ []) 3) (2 ∷ 1 ∷ 1 ∷ 9 ∷ []))
    ∷ at [] (write 3 3 (9 ∷ 9 ∷ []) plenty) (wrote (unwritten 5) (9 ∷ 9 ∷ []))
    ∷ at [] clear done
    ∷ at [] (solve 2 2 plenty) (found (Solved true 1 2))
    ∷ at [] (solve 2 1 plenty) (found (OutOfBudget 1))
    ∷ at [] (solve 2 9 scant) (refused 6)
    ∷ at [] (solve 3 9 scant) (refused 5)
    ∷ []

-- read from below: the move at which it opened is taken back, no other can be, and the proof is checked twice
abbrev pub second_life : List Event
second_life =
    at [] (check (2 ∷ 1 ∷ 1 ∷ []) 1 plenty) (checked (accepted 2 true 3 1))
    ∷ at [] (check (2 ∷ 1 ∷ 1 ∷ []) 1 scant) (checked (faulty (record { number = 6; place = 0; depth = 0; carried = 0 })))
    ∷ at [] take_back (refused 4)
    ∷ at (0 ∷ []) take_back done
    ∷ []

abbrev pub IsAbsent : Option Entry → Type 0
IsAbsent None = Unit {0}
IsAbsent (Some e) = ⊥

-- a store that holds nothing
abbrev pub nothing : StoreMeaning (Unit {0})
nothing =
    record {
      holds = λ s e. ⊥;
      shows = λ s k. None;
      records = λ s e t. Unit {0};
      clears = λ s t. Unit {0};
      shown = λ s k e z. absurd (subst IsAbsent z tt);
      recorded = λ s t e f r h. absurd h;
      cleared = λ s t e c h. h;
    }

abbrev pub TwoLive : Type 0
TwoLive =
    BoundedBy game 1 × Lawful game × Life game nothing [] tt first_life (1 ∷ []) tt × Life game nothing (0 ∷ []) tt second_life [] tt

-- Black has one move and then one more, and wins; but the store says no of every key, and marks it path-independent
abbrev pub deep_view : Line → View
deep_view [] = record { turn = Black; moves = 1; score = None; a = 0; b = 0; context = 0; level = 0; independent = false }
deep_view (k ∷ []) = record { turn = Black; moves = 1; score = None; a = 1; b = 0; context = 0; level = 0; independent = true }
deep_view (j ∷ (k ∷ l)) =
    record { turn = Black; moves = 0; score = Some BlackWins; a = 2; b = 0; context = 0; level = 0; independent = false }

abbrev pub deep : Meaning
deep = record { view = deep_view; height = Some 2 }

abbrev pub key_of : Key → Option Entry → Key
key_of k None = k
key_of k (Some e) = e.key

abbrev pub liar : StoreMeaning (Unit {0})
liar =
    record {
      holds = λ s e. Unit {0};
      shows = λ s k. Some (record { key = k; finding = Verdict false true 255 });
      records = λ s e t. Unit {0};
      clears = λ s t. ⊥;
      shown = λ s k e z. (tt, sym (ap (key_of k) z));
      recorded = λ s t e f r h. inr tt;
      cleared = λ s t e c h. c;
    }

-- over a store that was not cleared the search says no where the value is 2
abbrev pub UnclearedLies : Type 0
UnclearedLies = BoundedBy deep 2 × Lawful deep × (value deep 2 [] ≡ 2) × Runs liar (solving deep [] 2 9) tt tt (Solved false 255 1)
