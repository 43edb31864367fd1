-- Moves of a house, one after another.
use Rattle.std.proofs.Common.{◌≡◌, ℕ, ◌+◌, List, [], ◌∷◌, ◌++◌, refl, ◌∙◌, ap₂, arith}
use Rattle.std.proofs.lemmas.List.{append-nil}
use Rattle.cbs_job.specs.Work.{Meaning}
use Rattle.cbs_job.specs.declared.work.Work.{Ghosts}
use Rattle.cbs_core.specs.Agreement.{Agrees, HasHistory, AllAllowed}
use Rattle.cbs_steps.specs.History.{History, world_after, reply_in, ◌⊕◌}
use Rattle.cbs_steps.specs.Quiet.{IsQuietAfter, IsQuietAdvanceAfter}
use Rattle.cbs_steps.proofs.Lateness.{quiet_advance}
use Rattle.cbs_steps.specs.declared.reply.Ran.{Ran}
use Rattle.cbs_steps.specs.declared.reply.Reply.TheVariants as reply
use Rattle.cbs_steps.specs.declared.step.Step.{Step}
use Rattle.cbs_steps.specs.declared.step.Step.TheVariants.{Submit, Run, Advance, Close, Charge}
use Rattle.cbs_clients.specs.declared.house.House.{House}
use Rattle.cbs_host.specs.declared.poll.Poll.{Poll}
use Rattle.cbs_host.specs.declared.poll.Poll.TheVariants.{Nothing, Took, Closed, Full, OutOfMemory, NoSuchServer}
use Rattle.cbs_clients.specs.Houses.{early_of, core_of, rings_of, received, handed_of, IsHouseOnTime, Made, Moves, MovesBy, LooksOnly, Polled, ServesOn, ServesBy}
use Rattle.cbs_host.specs.Meters.{NothingBeyond, NeverCharges}
use Rattle.cbs_clients.specs.Meters.{IsRunPaid, IsMove, all_steps}
use Rattle.cbs_clients.specs.Steps.{messages_of, pops_of, pops, MayServe}
use Rattle.cbs_steps.specs.Continuations.{◌⊕⊕◌, IsNeeded, MayDrain}
use Rattle.cbs_steps.proofs.Laws.{allowed-append}
use Rattle.cbs_clients.proofs.MadeSteps.{made_both, made_nothing, made_look}
use Rattle.cbs_clients.proofs.StepMessages.{pops-append}
use Rattle.cbs_clients.proofs.Metered.{all_steps-append, moves-append, never_moves, weaker_moves, paid_pops, paid_quiet}
use Rattle.cbs_core.proofs.Laws.{allowed_weaker}
use Rattle.cbs_core.proofs.OnTimeCores.{all_on_time, all_paced, kept_on, on_time_carried}

pub none_taken : {W : Type 0} (s : ℕ) (xs : List (Step W)) → pops xs ≡ 0 → messages_of s xs ≡ []
none_taken s [] e = refl
none_taken s (Submit t job ∷ xs) e = absurd (omega (arith, e))
none_taken s (Run ∷ xs) e = none_taken s xs (omega (arith, e))
none_taken s (Advance n ∷ xs) e = none_taken s xs (omega (arith, e))
none_taken s (Charge t n ∷ xs) e = none_taken s xs (omega (arith, e))
none_taken s (Close t ∷ xs) e = absurd (omega (arith, e))

-- each step of a kind takes nobody's time at its place
abbrev pub TakesNoTime : {W : Type 0} → Meaning W → (History W → Step W → Type 0) → Type 0
TakesNoTime {W} work P = (N : History W) (x : Step W) → P N x → IsQuietAfter work N x

module _ {W A : Type 0} {g : Ghosts W} (work : Meaning W) (P : History W → Step W → Type 0) where
  -- steps hand nothing out
  moves_handed : (a b : House W A g) (n : ℕ) → Moves work P a b n → (s : ℕ) → handed_of b s ≡ handed_of a s
  moves_handed a b n m s = (m.made.seats s).handed

  -- and keep the rings
  moves_rings : (a b : House W A g) (n : ℕ) → Moves work P a b n → rings_of b ≡ rings_of a
  moves_rings a b n m = m.made.rings

  -- a house that is on time is so after moves that take nobody's time
  pub moves_on_time : (a b : House W A g) (n : ℕ) → HasHistory work (core_of a) → Moves work P a b n → IsHouseOnTime a → IsHouseOnTime b
  moves_on_time a b n history m =
      kept_on work (on_time_carried work) (IsQuietAfter work) (core_of a) (core_of b) m.steps history m.made.steps m.made.keeps_time m.quiet

module _ {W A : Type 0} {g : Ghosts W} (work : Meaning W) (may : ℕ → ℕ → Type 0) (P : History W → Step W → Type 0) where
  -- no step
  pub by_nothing : (a : House W A g) → MovesBy work may P a a 0
  by_nothing a = record { moves = []; made = made_nothing work a; each = λ M agrees. tt; quiet = λ M agrees. tt; count = refl }

  -- moves one after another
  pub by_both : (a b c : House W A g) (m n : ℕ) → MovesBy work may P a b m → MovesBy work may P b c n → MovesBy work may P a c (m + n)
  by_both a b c m n p q =
      let xs = all_steps p.moves in
      let ys = all_steps q.moves in
      let all = all_steps-append p.moves q.moves in
      record {
        moves = p.moves ++ q.moves;
        made = rw all (made_both work a b c xs ys p.made q.made);
        each = λ M agrees. moves-append work may P M p.moves q.moves (p.each M agrees) (q.each (M ⊕⊕ xs) (p.made.steps M agrees));
        quiet = λ M agrees. rw all (allowed-append (IsQuietAdvanceAfter work) M xs ys (p.quiet M agrees) (q.quiet (M ⊕⊕ xs) (p.made.steps M agrees)));
        count = rw all (pops-append xs ys ∙ ap₂ ◌+◌ p.count q.count);
      }

  -- one step, which advances quietly if it advances
  pub by_step : (a b : House W A g) (x : Step W) → Made work a b (x ∷ [])
      → ((M : History W) → Agrees work (core_of a) M → IsMove work may P M (x ∷ []))
      → AllAllowed work (IsQuietAdvanceAfter work) (core_of a) (x ∷ []) → MovesBy work may P a b (pops_of x)
  by_step a b x m p quiet = record { moves = (x ∷ []) ∷ []; made = m; each = λ M agrees. (p M agrees, tt); quiet = quiet; count = omega arith }

  -- one run, and what is paid for it
  pub by_run : (a b : House W A g) (told : Ran) (paid : List (Step W)) → IsRunPaid may (core_of a).clock told paid → Made work a b (Run ∷ paid)
      → ((M : History W) → Agrees work (core_of a) M → reply.Ran told ≡ reply_in work M Run) → ((M : History W) → Agrees work (core_of a) M → P M Run)
      → MovesBy work may P a b 0
  by_run a b told paid pays made answer p = record {
    moves = (Run ∷ paid) ∷ [];
    made = rw (append-nil paid) made;
    each = λ M agrees. ((p M agrees, record { told = told; answer = answer M agrees; pays = rw agrees.world.clock at pays }), tt);
    quiet = rw (append-nil paid) (λ M agrees. (tt, paid_quiet work may (M ⊕ Run) (core_of a).clock told paid pays));
    count = let none = paid_pops may (core_of a).clock told paid pays in rw (append-nil paid) (omega (arith, none));
  }

  -- what takes no message receives none
  pub by_none : (a b : House W A g) → MovesBy work may P a b 0 → (s : ℕ) → received b s ≡ received a s
  by_none a b m s = (m.made.seats s).received ∙ rw (none_taken s (all_steps m.moves) m.count) (append-nil (received a s))

  -- what makes no step
  by_made : (a b : House W A g) → Made work a b [] → MovesBy work may P a b 0
  by_made a b m = record { moves = []; made = m; each = λ M agrees. tt; quiet = λ M agrees. tt; count = refl }

  -- if a meter never charges, moves with it are moves without it
  pub by_never : (a b : House W A g) (n : ℕ) → NeverCharges may → TakesNoTime work P → MovesBy work may P a b n → Moves work P a b n
  by_never a b n never quiet m =
      let xs = all_steps m.moves in
      let each : AllAllowed work P (core_of a) xs = λ M agrees. never_moves work may P never M m.moves (m.each M agrees) in
      let still = allowed_weaker work P (IsQuietAfter work) (core_of a) xs quiet each in
      record {
        steps = xs;
        made = m.made;
        each = each;
        quiet = still;
        on_time = all_on_time work (core_of a) xs m.made.keeps_time still;
        paced = all_paced work (core_of a) xs m.made.keeps_pace
            (allowed_weaker work (IsQuietAfter work) (IsQuietAdvanceAfter work) (core_of a) xs (λ N x. quiet_advance work (world_after work N) x) still);
        count = m.count;
      }

module _ {W A : Type 0} {g : Ghosts W} (work : Meaning W) (may : ℕ → ℕ → Type 0) (P Q : History W → Step W → Type 0) where
  -- what one rule allows, a weaker one allows
  by_weaker : (a b : House W A g) (n : ℕ) → ((N : History W) (x : Step W) → P N x → Q N x) → MovesBy work may P a b n → MovesBy work may Q a b n
  by_weaker a b n w p = record {
    moves = p.moves;
    made = p.made;
    each = λ M agrees. weaker_moves work may P Q w M p.moves (p.each M agrees);
    quiet = p.quiet;
    count = p.count;
  }

module _ {W : Type 0} (work : Meaning W) where
  drain_serves : (N : History W) (x : Step W) → MayDrain work N x → MayServe work N x
  drain_serves N (Submit t job) p = tt
  drain_serves N Run p = tt
  drain_serves N (Advance n) p = p
  drain_serves N (Close t) p = tt
  drain_serves N (Charge t n) p = absurd p

  -- an advance of serving, and so of a drain, takes nobody's time
  pub serve_quiet : TakesNoTime work (MayServe work)
  serve_quiet N (Submit t job) p = tt
  serve_quiet N Run p = tt
  serve_quiet N (Advance n) p = λ early. p.span.quiet
  serve_quiet N (Close t) p = tt
  serve_quiet N (Charge t n) p = absurd p

  -- so such an advance is quiet
  pub needed_quiet : (N : History W) (n : ℕ) → IsNeeded work (world_after work N) n → IsQuietAdvanceAfter work N (Advance n)
  needed_quiet N n p = serve_quiet N (Advance n) p

  pub drain_quiet : TakesNoTime work (MayDrain work)
  drain_quiet N x p = serve_quiet N x (drain_serves N x p)

module _ {W A : Type 0} {g : Ghosts W} (work : Meaning W) where
  -- serving hands nothing out
  pub serves_handed : (a b : House W A g) → ServesOn work a b → (s : ℕ) → handed_of b s ≡ handed_of a s
  serves_handed a b m = moves_handed work (MayServe work) a b m.moves.0 m.moves.1

  -- no job ends early by it
  pub serves_early : (a b : House W A g) → ServesOn work a b → (s : ℕ) → early_of b s ≡ early_of a s
  serves_early a b m s = (m.moves.1.made.seats s).early

  -- and it keeps the rings
  pub serves_rings : (a b : House W A g) → ServesOn work a b → rings_of b ≡ rings_of a
  serves_rings a b m = moves_rings work (MayServe work) a b m.moves.0 m.moves.1

module _ {W A : Type 0} {g : Ghosts W} (work : Meaning W) (may : ℕ → ℕ → Type 0) where
  pub serves_made : (a b : House W A g) → Made work a b [] → ServesBy work may a b
  serves_made a b m = record { moves = (0, by_made work may (MayServe work) a b m) }

  -- steps of serving, one list after another
  pub serves_none : (a : House W A g) → ServesBy work may a a
  serves_none a = record { moves = (0, by_nothing work may (MayServe work) a) }

  -- serving, and more of it
  pub serves_then : (a b c : House W A g) → ServesBy work may a b → ServesBy work may b c → ServesBy work may a c
  serves_then a b c p q = record { moves = (p.moves.0 + q.moves.0, by_both work may (MayServe work) a b c p.moves.0 q.moves.0 p.moves.1 q.moves.1) }

  -- a drain serves
  pub serves_drain : (a b : House W A g) (n : ℕ) → MovesBy work may (MayDrain work) a b n → ServesBy work may a b
  serves_drain a b n m = record { moves = (n, by_weaker work may (MayDrain work) (MayServe work) a b n (drain_serves work) m) }

  -- so does a poll
  pub serves_poll : (a b : House W A g) (s : ℕ) (p : Poll) → Polled work a s p b → ServesBy work may a b
  serves_poll a b s Nothing k = serves_made a b k.0
  serves_poll a b s Full k = serves_made a b k.0
  serves_poll a b s OutOfMemory k = serves_made a b k.0
  serves_poll a b s NoSuchServer k = serves_made a b k.0
  serves_poll a b s (Took q) k = record { moves = (1, by_step work may (MayServe work) a b (Submit s k.0) k.1 (λ M agrees. (tt, refl)) (λ M agrees. (tt, tt))) }
  serves_poll a b s Closed k = record { moves = (1, by_step work may (MayServe work) a b (Close s) k.0 (λ M agrees. (tt, refl)) (λ M agrees. (tt, tt))) }

  -- and a look at the rings
  pub serves_look : (a b : House W A g) → LooksOnly a b → ServesBy work may a b
  serves_look a b l = record { moves = (0, by_made work may (MayServe work) a b (made_look work a b l)) }

  -- a drain after what was taken, and a look after that
  pub serves_drained : (a b c : House W A g) → ServesBy work may a b → MovesBy work may (MayDrain work) b c 0 → ServesBy work may a c
  serves_drained a b c taken drained = serves_then a b c taken (serves_drain b c 0 drained)

  pub serves_looked : (a b c : House W A g) → ServesBy work may a b → LooksOnly b c → ServesBy work may a c
  serves_looked a b c done looked = serves_then a b c done (serves_look b c looked)

  -- serving with a meter hands nothing out
  pub by_handed : (a b : House W A g) → ServesBy work may a b → (s : ℕ) → handed_of b s ≡ handed_of a s
  by_handed a b m s = (m.moves.1.made.seats s).handed

  -- and keeps the rings
  pub by_rings : (a b : House W A g) → ServesBy work may a b → rings_of b ≡ rings_of a
  by_rings a b m = m.moves.1.made.rings

  -- if the meter never charges, serving with it is serving without it
  pub serves_never : (a b : House W A g) → NeverCharges may → ServesBy work may a b → ServesOn work a b
  serves_never a b never s = record { moves = (s.moves.0, by_never work may (MayServe work) a b s.moves.0 never (serve_quiet work) s.moves.1) }

  -- and a house that is on time is so after it
  pub serves_on_time : (a b : House W A g) → NeverCharges may → HasHistory work (core_of a) → ServesBy work may a b → IsHouseOnTime a → IsHouseOnTime b
  serves_on_time a b never history s =
      moves_on_time work (MayServe work) a b s.moves.0 history (by_never work may (MayServe work) a b s.moves.0 never (serve_quiet work) s.moves.1)

-- a meter that returns no tick after a unit's first never charges
pub never_beyond : NeverCharges NothingBeyond
never_beyond s n e = e

module _ {W A : Type 0} {g : Ghosts W} (work : Meaning W) where
  -- a house that is on time is so after a poll
  pub polled_on_time : (a b : House W A g) (s : ℕ) (p : Poll) → HasHistory work (core_of a) → Polled work a s p b → IsHouseOnTime a → IsHouseOnTime b
  polled_on_time a b s p history k = serves_on_time work NothingBeyond a b never_beyond history (serves_poll work NothingBeyond a b s p k)
