-- One request more, and one exchange more.
use Rattle.std.proofs.Common.{◌≡◌, ℕ, ◌+◌, ◌<◌, List, [], ◌∷◌, ◌++◌, length, get_or, take, drop, set, Some, Option, refl, sym, ap, ◌∙◌, subst, subst₂, arith, min, drop-drop, drop-set-lt}
use Rattle.std.proofs.lemmas.List.{length-take, get_or-take, take_more_set}
use Rattle.std.proofs.lemmas.Grind.{take_at_read}
use Rattle.std.proofs.Math.Seq.{map-set_same}
use Rattle.game.specs.Meaning.{Line, Meaning, Reachable}
use Rattle.store.specs.Interface.{StoreMeaning}
use Rattle.life.specs.Life.{Memory, Event, Step, Life}
use Rattle.search_method.proofs.Lending.{lent_same, lent_then}
use Rattle.session.specs.declared.request.Request.{Request}
use Rattle.session.specs.declared.request.Reply.{Reply}
use Rattle.session.specs.declared.request.Exchange.{Exchange}
use Rattle.session.specs.Requests.{Desk, desk, call_of, answer_of, Leaves, RequestsTold, asked, Tells}
use Rattle.session.specs.Runs.{RequestsLived, RequestsRan, Lived, Ran, InTurn}

-- a life that begins at the line that a session has then
opened_at : {S : Type 0} (m : Meaning) (𝓢 : StoreMeaning S) (start : Line) (given : S) (l : Line) (s : S) →
    l ≡ start → Reachable m start → 𝓢.clears given s → Life m 𝓢 start given [] l s
opened_at m 𝓢 start given l s at reached cleared = rw at (Life.opened reached cleared)

pub requests_opened : {S : Type 0} (m : Meaning) (𝓢 : StoreMeaning S) (start : Line) (given : S) (w : Memory) (d : Desk) (l : Line) (s : S) →
    l ≡ start → Reachable m start → 𝓢.clears given s → RequestsLived m 𝓢 start given w d [] [] l s d
requests_opened m 𝓢 start given w d l s at reached cleared =
    record { past = []; life = opened_at m 𝓢 start given l s at reached cleared; told = RequestsTold.nothing }

-- a step of the game and with the work memory that a life began with
step_here : {S : Type 0} (m n : Meaning) (𝓢 : StoreMeaning S) (w v : Memory) (b c : Desk) (q : Request) (r : Reply) (l k : Line) (s t : S) → n ≡ m → v ≡ w →
    Step n 𝓢 l s (call_of v b q) (answer_of c.bytes r) k t → Step m 𝓢 l s (call_of w b q) (answer_of c.bytes r) k t
step_here m n 𝓢 w v b c q r l k s t same_game same_memory step =
    subst₂ (λ (x : Meaning) (u : Memory). Step x 𝓢 l s (call_of u b q) (answer_of c.bytes r) k t) same_game same_memory step

pub requests_next : {S : Type 0} (m n : Meaning) (𝓢 : StoreMeaning S) (start : Line) (given : S) (w v : Memory) (d b c : Desk)
    (qs : List Request) (rs : List (Option Reply)) (q : Request) (r : Reply) (l k : Line) (s t : S) → n ≡ m → v ≡ w →
    RequestsLived m 𝓢 start given w d qs rs l s b → Step n 𝓢 l s (call_of v b q) (answer_of c.bytes r) k t → Leaves r b c →
    RequestsLived m 𝓢 start given w d (qs ++ q ∷ []) (rs ++ Some r ∷ []) k t c
requests_next m n 𝓢 start given w v d b c qs rs q r l k s t same_game same_memory lived step leaves =
    record {
      past = record { line = l; call = call_of w b q; answer = answer_of c.bytes r } ∷ lived.past;
      life = Life.lived lived.life (step_here m n 𝓢 w v b c q r l k s t same_game same_memory step);
      told = RequestsTold.then b c q r l lived.told leaves;
    }

-- the replies past those made stay
pub rest_next : (xs ys : List (Option Reply)) (i : ℕ) (r : Option Reply) → drop i xs ≡ drop i ys → drop (i + 1) (set xs i r) ≡ drop (i + 1) ys
rest_next xs ys i r e = drop-set-lt (i + 1) xs i r (omega arith) ∙ sym (drop-drop 1 i xs) ∙ ap (drop 1) e ∙ drop-drop 1 i ys

-- what holds of a work memory and a desk holds of them written in another way
over_desk : (holds : Memory → Desk → Type 0) (w v : Memory) (b c : List ℕ) (n : ℕ) → c ≡ b → v ≡ w → holds v (desk b n) → holds w (desk c n)
over_desk holds w v b c n bytes memory it = subst₂ (λ (u : Memory) (x : List ℕ). holds u (desk x n)) memory (sym bytes) it

-- what is made over a desk, and what is made after it with the rows that came back, and with the buffer as the last desk has it
turned : (first : Desk → Desk → Type 0) (second : Memory → Desk → Desk → Type 0) (w v : Memory) (before after : List ℕ) (d e : Desk) → v ≡ w → after ≡ e.bytes →
    first (desk before 0) d → second v d e → InTurn first (second w) before after
turned first second w v before after d e memory bytes one two =
    record { mid = d; last = e.written; earlier = one; later = over_desk (λ u x. second u d x) w v e.bytes after e.written bytes memory two }

-- two lists made one after the other with one buffer and one work memory
pub in_turn : {S R : Type 0} (m n : Meaning) (𝓢 : StoreMeaning S) (𝓡 : StoreMeaning R) (start other : Line) (given : S) (taken : R) (w v : Memory)
    (qs ps : List Request) (rs os : List (Option Reply)) (l k : Line) (s : S) (t : R) (before after : List ℕ) (d e : Desk) → v ≡ w → after ≡ e.bytes →
    RequestsRan m 𝓢 start given w qs rs l s (desk before 0) d → RequestsRan n 𝓡 other taken v ps os k t d e →
    InTurn (RequestsRan m 𝓢 start given w qs rs l s) (RequestsRan n 𝓡 other taken w ps os k t) before after
in_turn m n 𝓢 𝓡 start other given taken w v qs ps rs os l k s t before after d e memory bytes first second =
    turned (RequestsRan m 𝓢 start given w qs rs l s) (λ u. RequestsRan n 𝓡 other taken u ps os k t) w v before after d e memory bytes first second

pub ruleset request_lives = (requests_opened, requests_next, rest_next, length-take, get_or-take, take_at_read, take_more_set, lent_same, lent_then)

pub ruleset together = (in_turn, lent_then)

-- the exchange with this reply
abbrev pub replied : Exchange → Reply → Exchange
replied x r = record { request = x.request; reply = Some r }

pub asked_next : (xs ys : List Exchange) (i : ℕ) (o : Exchange) (r : Reply) → asked xs ≡ asked ys → asked (set xs i (replied (get_or xs i o) r)) ≡ asked ys
asked_next xs ys i o r e = map-set_same (λ x. x.request) xs i (replied (get_or xs i o) r) o refl ∙ e

pub lived_opened : {S : Type 0} (m : Meaning) (𝓢 : StoreMeaning S) (start : Line) (given : S) (w : Memory) (d : Desk) (l : Line) (s : S) →
    l ≡ start → Reachable m start → 𝓢.clears given s → Lived m 𝓢 start given w d [] l s d
lived_opened m 𝓢 start given w d l s at reached cleared = record { past = []; life = opened_at m 𝓢 start given l s at reached cleared; told = Tells.nothing }

pub lived_next : {S : Type 0} (m n : Meaning) (𝓢 : StoreMeaning S) (start : Line) (given : S) (w v : Memory) (d b c : Desk)
    (xs : List Exchange) (i : ℕ) (q : Request) (r : Reply) (l k : Line) (s t : S) → i < length xs → n ≡ m → v ≡ w →
    Lived m 𝓢 start given w d (take i xs) l s b → Step n 𝓢 l s (call_of v b q) (answer_of c.bytes r) k t → Leaves r b c →
    Lived m 𝓢 start given w d (take (i + 1) (set xs i (record { request = q; reply = Some r }))) k t c
lived_next m n 𝓢 start given w v d b c xs i q r l k s t within same_game same_memory lived step leaves =
    let event : Event = record { line = l; call = call_of w b q; answer = answer_of c.bytes r } in
    record {
      past = event ∷ lived.past;
      life = Life.lived lived.life (step_here m n 𝓢 w v b c q r l k s t same_game same_memory step);
      told =
          subst (λ (x : List Exchange). Tells w d x (event ∷ lived.past) c) (sym (take_more_set xs i (record { request = q; reply = Some r }) within))
          (Tells.then b c q r l lived.told leaves);
    }

-- a life with the memory and the last buffer written in another way
pub ran_over : {S : Type 0} {m : Meaning} {𝓢 : StoreMeaning S} {start : Line} {given : S} {w v : Memory} {d : Desk} {xs : List Exchange} {l : Line}
    {s : S} {b c : List ℕ} {n : ℕ} → c ≡ b → v ≡ w → Lived m 𝓢 start given v d xs l s (desk b n) → Lived m 𝓢 start given w d xs l s (desk c n)
ran_over {m = m} {𝓢 = 𝓢} {start = start} {given = given} {w = w} {v = v} {d = d} {xs = xs} {l = l} {s = s} {b = b} {c = c} {n = n} bytes memory lived =
    over_desk (λ u e. Lived m 𝓢 start given u d xs l s e) w v b c n bytes memory lived

-- exchanges made one after the other with one buffer and one work memory
pub exchanges_in_turn : {S R : Type 0} (m n : Meaning) (𝓢 : StoreMeaning S) (𝓡 : StoreMeaning R) (start other : Line) (given : S) (taken : R) (w v : Memory)
    (xs ys : List Exchange) (l k : Line) (s : S) (t : R) (before after : List ℕ) (d e : Desk) → v ≡ w → after ≡ e.bytes →
    Ran m 𝓢 start given w xs l s (desk before 0) d → Ran n 𝓡 other taken v ys k t d e →
    InTurn (Ran m 𝓢 start given w xs l s) (Ran n 𝓡 other taken w ys k t) before after
exchanges_in_turn m n 𝓢 𝓡 start other given taken w v xs ys l k s t before after d e memory bytes first second =
    turned (Ran m 𝓢 start given w xs l s) (λ u. Ran n 𝓡 other taken u ys k t) w v before after d e memory bytes first second

pub ruleset lives = (asked_next, lived_opened, lived_next, lent_same, lent_then)

pub ruleset exchanged = (exchanges_in_turn, lent_then)
