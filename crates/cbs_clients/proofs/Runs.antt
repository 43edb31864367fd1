-- Runs of a house, one after another.
use Rattle.std.proofs.Common.{◌≡◌, ℕ, ◌+◌, ◌-◌, ◌*◌, ◌<◌, ◌≤◌, true, ◌||◌, ltb, ◌⊎◌, List, [], ◌∷◌, ◌++◌, Some, None, Result, Ok, Err, refl, arith, inl, inr}
use Rattle.std.proofs.Common.{ap, sym, ◌∙◌}
use Rattle.std.proofs.lemmas.Bool.{cases_lt, false≢true}
use Rattle.std.proofs.lemmas.Nat.{mul-le}
use Rattle.std.proofs.lemmas.Bool.Decides.{nat_tests}
use Rattle.std.specs.Prelude.{IfErr}
use Rattle.std.specs.Result.{IsErr}
use Rattle.cbs_job.specs.Work.{Meaning}
use Rattle.cbs_job.specs.declared.completion.Completion.{Completion}
use Rattle.cbs_job.specs.declared.work.Work.{Ghosts}
use Rattle.cbs_clients.specs.declared.error.HouseError.{HouseError}
use Rattle.cbs_clients.specs.declared.error.HouseError.TheVariants.{BadBacklog, BadRing, OutOfMemory, NoSuchServer, ClockEnd, Stalled, NotRunning}
use Rattle.cbs_clients.specs.declared.house.House.{House}
use Rattle.cbs_clients.specs.Houses.{ServesBy, core_of, received}
use Rattle.cbs_clients.specs.declared.turn.Turn.{Turn}
use Rattle.cbs_clients.specs.Turns.{TakesOwnTurn, GoesOn}
use Rattle.cbs_clients.proofs.OpenServers.{opens_none, same_open}
use Rattle.cbs_clients.proofs.PolledServers.{same_servers}
use Rattle.cbs_rules.specs.Rules.{clock_end}
use Rattle.cbs_core.specs.Held.{CoreHeld}
use Rattle.cbs_clients.specs.UntilClosed.{open_servers, moves_on, IsDue, idle_after, turn_stop, TakesDueTurns, RunsOn, IsStoppedBy, RunEnds, RunsTelling}
use Rattle.cbs_clients.specs.UntilClosed.{RunStops}
use Rattle.cbs_clients.proofs.Moves.{serves_none, serves_then, by_handed, none_taken}
use Rattle.cbs_clients.specs.Meters.{all_steps}
use Rattle.cbs_clients.proofs.Metered.{paid_messages}
use Rattle.cbs_clients.proofs.Turns.{lacked_behind, stopped_by}
use Rattle.cbs_clients.proofs.Tells.{tells_none, tells_both}
use Rattle.std.proofs.lemmas.List.{append-nil}
use Rattle.cbs_clients.specs.Messages.{has_end}
use Rattle.cbs_steps.specs.declared.reply.Ran.{Ran}

module _ {W A S : Type 0} {g : Ghosts W} (work : Meaning W) (may : ℕ → ℕ → Type 0) (hears : S → Completion → S → Type 0) where
  pub run_none : (a : House W A g) (u : S) → RunsTelling work may hears a a u u
  run_none a u = record { steps = serves_none work may a; told = tells_none hears a a u (λ s. refl) }

  pub run_then : (a b c : House W A g) (u v w : S) → RunsTelling work may hears a b u v → RunsTelling work may hears b c v w → RunsTelling work may hears a c u w
  run_then a b c u v w h k = record {
    steps = serves_then work may a b c h.steps k.steps;
    told = tells_both hears a b c u v w (by_handed work may a b h.steps) h.told k.told;
  }

module _ {W A : Type 0} {g : Ghosts W} (work : Meaning W) (may : ℕ → ℕ → Type 0) where
  -- a run that stops after another run stops the two
  stops_behind : (a b c : House W A g) (e : HouseError) → ServesBy work may a b → RunStops work may e b c → RunStops work may e a c
  stops_behind a b c OutOfMemory h k = lacked_behind work may a b c h k
  stops_behind a b c ClockEnd h k = k
  stops_behind a b c Stalled h k = k
  stops_behind a b c BadBacklog h k = k
  stops_behind a b c BadRing h k = k
  stops_behind a b c NoSuchServer h k = k
  stops_behind a b c NotRunning h k = k

  pub result_behind : {T : Type 0} (a b c : House W A g) (r : Result T HouseError) → ServesBy work may a b → IfErr r (λ error. RunStops work may error b c)
      → IfErr r (λ error. RunStops work may error a c)
  result_behind a b c (Ok x) h k = tt
  result_behind a b c (Err e) h k = stops_behind a b c e h k

-- one more turn, if one is due, after others
module _ {W A : Type 0} {g : Ghosts W} (work : Meaning W) (may : ℕ → ℕ → Type 0) (most : ℕ) where
  due_more : (k m : ℕ) (a b c : House W A g) (ts : List Turn) (t : Turn) → TakesDueTurns work may most k a ts b m → IsDue most m (core_of b)
      → TakesOwnTurn work may b c t → turn_stop t ≡ None
      → TakesDueTurns work may most k a (ts ++ t ∷ []) c (idle_after m (core_of b) (core_of c))
  due_more k m a b c [] t h due taken well =
      let d : IsDue most k (core_of a) = rw (h.0, h.1) at due in
      let w : TakesOwnTurn work may a c t = rw h.0 at taken in
      let e : idle_after m (core_of b) (core_of c) ≡ idle_after k (core_of a) (core_of c) = rw (h.0, h.1) refl in (c, d, w, well, (refl, e))
  due_more k m a b c (u ∷ ts) t h due taken well = (h.0, h.1, h.2, h.3, due_more (idle_after k (core_of a) (core_of h.0)) m h.0 b c ts t h.4 due taken well)

  pub run_begins : (a : House W A g) → RunsOn work may most a a 0
  run_begins a = record { turns = []; taken = (refl, refl) }

  pub run_goes_on : (a b c : House W A g) (m : ℕ) (t : Turn) → RunsOn work may most a b m → IsDue most m (core_of b) → TakesOwnTurn work may b c t → turn_stop t ≡ None
      → RunsOn work may most a c (idle_after m (core_of b) (core_of c))
  run_goes_on a b c m t h due taken well = record { turns = h.turns ++ t ∷ []; taken = due_more 0 m a b c h.turns t h.taken due taken well }

module _ {W A : Type 0} {g : Ghosts W} (work : Meaning W) (may : ℕ → ℕ → Type 0) (most m : ℕ) (a b c : House W A g) (t : Turn) (run : RunsOn work may most a b m)
    (due : IsDue most m (core_of b)) (taken : TakesOwnTurn work may b c t) where
  stopped : (error : HouseError) → turn_stop t ≡ Some error → IsStoppedBy work may most error a c
  stopped error why = record { before = b; idle = m; run = run; due = due; turn = t; taken = taken; why = why }

  -- no other error stops a run
  other : (error : HouseError) → (error ≡ OutOfMemory → ⊥) → (error ≡ ClockEnd → ⊥) → turn_stop t ≡ Some error → ⊥
  other error p q why = elim (stopped_by t error why) [ inl memory ↦ p memory.0 | inr end ↦ q end.0 ]

  -- a turn that stops a run ends it
  pub run_stopped : (r : Result (Unit {0}) HouseError) → IsErr r → IfErr r (λ error. turn_stop t ≡ Some error) → RunEnds work may most a r c
  run_stopped (Ok x) is why = absurd (false≢true is)
  run_stopped (Err OutOfMemory) is why = stopped OutOfMemory why
  run_stopped (Err ClockEnd) is why = stopped ClockEnd why
  run_stopped (Err Stalled) is why = absurd (other Stalled (λ e. cc) (λ e. cc) why)
  run_stopped (Err BadBacklog) is why = absurd (other BadBacklog (λ e. cc) (λ e. cc) why)
  run_stopped (Err BadRing) is why = absurd (other BadRing (λ e. cc) (λ e. cc) why)
  run_stopped (Err NotRunning) is why = absurd (other NotRunning (λ e. cc) (λ e. cc) why)
  run_stopped (Err NoSuchServer) is why = absurd (other NoSuchServer (λ e. cc) (λ e. cc) why)

-- one of two tests
either : (a b c d : ℕ) → (ltb a b || ltb c d) ≡ true → (a < b) ⊎ (c < d)
either a b c d e = elim (cases_lt a b) [
  | inl lt ↦ inl lt
  | inr ge ↦ elim (cases_lt c d) [
    | inl lt ↦ inr lt
    | inr ge' ↦ absurd (grind (arith, nat_tests))
  ]
]

-- a later clock is a move
pub moves_later : {W : Type 0} (old new : CoreHeld W) → old.clock < new.clock → moves_on old new ≡ true
moves_later old new lt = grind (arith, nat_tests)

-- what is left to do: ticks, and servers to close
abbrev pub left_of : {W : Type 0} → CoreHeld W → ℕ
left_of core = (clock_end - core.clock) * 65 + open_servers core

-- it is less after a turn that moved on
pub less_left : {W : Type 0} (old new : CoreHeld W) → moves_on old new ≡ true → old.clock ≤ new.clock → new.clock ≤ clock_end
    → open_servers new ≤ open_servers old → open_servers new ≤ 64 → left_of new < left_of old
less_left old new e later within fewer few = elim (either old.clock new.clock (open_servers new) (open_servers old) e) [
  | inl lt ↦ omega (arith, lt, within, few)
  | inr lt ↦ omega (arith, lt, later)
]

-- so a turn that moved on leaves less, however many idle turns may follow
pub fewer_turns : (most idle left less : ℕ) → less < left → less * (most + 1) + (most - 0) < left * (most + 1) + (most - idle)
fewer_turns most idle left less lt = omega (arith, mul-le (less + 1) (most + 1) left (most + 1) (omega (arith, lt)) (omega arith))

-- what a turn does after its polls receives nothing
went_on : {W A : Type 0} {g : Ghosts W} (work : Meaning W) (may : ℕ → ℕ → Type 0) (a b : House W A g) (r : Ran) (n : ℕ) → GoesOn work may a b r n → (s : ℕ)
    → received b s ≡ received a s
went_on work may a b r n (inl k) s =
    let none = paid_messages may (core_of a).clock r k.0.paid s k.0.pays in
    (k.0.made.seats s).received ∙ (ap (λ ms. received a s ++ ms) none ∙ append-nil (received a s))
went_on work may a b r n (inr (inl k)) s = (k.0.made.seats s).received ∙ append-nil (received a s)
went_on work may a b r n (inr (inr k)) s = ap (λ x. received x s) k.0

module _ {W A : Type 0} {g : Ghosts W} (may : ℕ → ℕ → Type 0) (a b : House W A g) where
  -- serving leaves no more servers open
  pub serves_open : ServesBy g.meaning may a b → open_servers (core_of b) ≤ open_servers (core_of a)
  serves_open s =
      let m = s.moves.1 in
      opens_none g.meaning (core_of a) (core_of b) (all_steps m.moves) a.housed.history m.made.steps (same_servers g.meaning a b a.housed b.housed m.made.rings)

  -- a turn that takes no message receives none
  none_received : (t : Turn) → TakesOwnTurn g.meaning may a b t → t.took ≡ 0 → (s : ℕ) → received b s ≡ received a s
  none_received t h none s =
      let polls : received h.between s ≡ received a s =
      (h.polled.made.seats s).received ∙ rw (none_taken s h.polled.polls (h.polled.count ∙ none)) (append-nil (received a s)) in
      went_on g.meaning may h.between b t.ran t.advanced h.goes_on s ∙ polls

  -- so it closes no server
  pub still_open : (t : Turn) → TakesOwnTurn g.meaning may a b t → ServesBy g.meaning may a b → t.took ≡ 0 → open_servers (core_of b) ≡ open_servers (core_of a)
  still_open t h serves none =
      let count = same_servers g.meaning a b a.housed b.housed serves.moves.1.made.rings in
      same_open (core_of a).faces (core_of b).faces count
      (λ s lt. (b.housed.servers s (omega (arith, lt, count))).closed ∙ (ap has_end (none_received t h none s) ∙ sym (a.housed.servers s lt).closed))
