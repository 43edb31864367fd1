-- The turns of a house in a round, one after another.
use Rattle.std.proofs.Common.{◌≡◌, ℕ, suc, ◌+◌, ◌≤◌, ◌<◌, Bool, List, [], ◌∷◌, ◌++◌, length, refl, ap, sym, ◌∙◌, subst, arith, length-append}
use Rattle.std.proofs.lemmas.List.{append-nil, append_assoc}
use Rattle.std.specs.List.{All, AllByRecursion}
use Rattle.cbs_job.specs.Work.{Meaning}
use Rattle.cbs_job.specs.declared.work.Work.{Ghosts}
use Rattle.cbs_steps.specs.History.{History, ◌⊕◌}
use Rattle.cbs_steps.specs.declared.reply.Ran.{Ran}
use Rattle.cbs_steps.specs.declared.step.Step.{Step}
use Rattle.cbs_steps.specs.declared.step.Step.TheVariants.{Submit, Run, Advance, Close, Charge}
use Rattle.cbs_house.specs.declared.feed.Feed.{Feed}
use Rattle.cbs_clients.specs.declared.house.House.{House}
use Rattle.cbs_clients.specs.Calls.{RunBy}
use Rattle.cbs_clients.specs.Houses.{core_of, rings_of, ServesBy}
use Rattle.cbs_host.specs.Meters.{NeverCharges}
use Rattle.cbs_clients.specs.Meters.{IsRunPaid, IsMove, AreMoves, all_steps}
use Rattle.cbs_clients.specs.Turns.{PollsEach, ArePolls}
use Rattle.cbs_clients.specs.Steps.{pops, MayServe}
use Rattle.cbs_steps.specs.Continuations.{◌⊕⊕◌, EachAllowed}
use Rattle.cbs_core.specs.Agreement.{Agrees, AllAllowed}
use Rattle.cbs_core.specs.Held.{IsClosed}
use Rattle.cbs_steps.specs.Quiet.{IsQuietAfter, IsQuietAdvanceAfter}
use Rattle.cbs_house.specs.Rounds.{RoundTurn, turn_steps, steps_in, IsTurn, RunsAfter, EachRuns, TakesTurn, TakesExactly, TakesTurns, MakesRound, MakesRounds}
use Rattle.cbs_clients.proofs.MadeSteps.{made_nothing, made_both}
use Rattle.cbs_clients.proofs.Metered.{all_steps-append, moves-append, never_moves, quiet_moves, paid_pops}
use Rattle.cbs_clients.proofs.Moves.{serves_then, needed_quiet, serve_quiet}
use Rattle.cbs_steps.proofs.Laws.{after-append}
use Rattle.cbs_core.proofs.Laws.{allowed_weaker}
use Rattle.cbs_core.proofs.OnTimeCores.{all_on_time, all_paced}
use Rattle.cbs_clients.proofs.StepMessages.{pops-append}

module _ {W : Type 0} where
  steps_in-append : (turns : List (RoundTurn W)) (t : RoundTurn W) → steps_in (turns ++ t ∷ []) ≡ steps_in turns ++ turn_steps t
  steps_in-append [] t = append-nil (turn_steps t)
  steps_in-append (u ∷ turns) t = ap (λ (ys : List (Step W)). turn_steps u ++ ys) (steps_in-append turns t)
      ∙ sym (append_assoc (turn_steps u) (steps_in turns) (turn_steps t))

  each-append : (may : ℕ → ℕ → Type 0) (n : ℕ) (turns : List (RoundTurn W)) (t : RoundTurn W) → AllByRecursion (IsTurn may n) turns → IsTurn may n t
      → AllByRecursion (IsTurn may n) (turns ++ t ∷ [])
  each-append may n [] t p q = (q, tt)
  each-append may n (u ∷ turns) t p q = (p.0, each-append may n turns t p.1 q)

  -- a turn takes the messages of its polls
  turn_pops : (may : ℕ → ℕ → Type 0) (n : ℕ) (t : RoundTurn W) → IsTurn may n t → pops (turn_steps t) ≡ pops t.polls
  turn_pops may n t is =
      let none = paid_pops may t.start t.told t.paid is.pays in
      let some = pops-append t.polls (Run ∷ t.paid) in
      omega (arith, none, some)

  -- each step as a move
  abbrev alone : List (Step W) → List (List (Step W))
  alone [] = []
  alone (x ∷ xs) = (x ∷ []) ∷ alone xs

  alone_steps : (xs : List (Step W)) → all_steps (alone xs) ≡ xs
  alone_steps [] = refl
  alone_steps (x ∷ xs) = ap (λ (ys : List (Step W)). x ∷ ys) (alone_steps xs)

  -- the moves of a turn, and of turns
  abbrev moves_of : RoundTurn W → List (List (Step W))
  moves_of t = alone t.polls ++ (Run ∷ t.paid) ∷ []

  abbrev moves_in : List (RoundTurn W) → List (List (Step W))
  moves_in [] = []
  moves_in (t ∷ ts) = moves_of t ++ moves_in ts

  turn_all : (t : RoundTurn W) → all_steps (moves_of t) ≡ turn_steps t
  turn_all t = all_steps-append (alone t.polls) ((Run ∷ t.paid) ∷ []) ∙ rw (alone_steps t.polls, append-nil t.paid) refl

  moves_all : (ts : List (RoundTurn W)) → all_steps (moves_in ts) ≡ steps_in ts
  moves_all [] = refl
  moves_all (t ∷ ts) = all_steps-append (moves_of t) (moves_in ts) ∙ rw (turn_all t, moves_all ts) refl

  module _ (work : Meaning W) (may : ℕ → ℕ → Type 0) where
    runs-append : (M : History W) (turns : List (RoundTurn W)) (t : RoundTurn W) → EachRuns work M turns → RunsAfter work (M ⊕⊕ steps_in turns) t
        → EachRuns work M (turns ++ t ∷ [])
    runs-append M [] t h k = (k, tt)
    runs-append M (u ∷ turns) t h k = (
      h.0,
      runs-append (M ⊕⊕ turn_steps u) turns t h.1 (subst (λ (N : History W). RunsAfter work N t) (after-append M (turn_steps u) (steps_in turns)) k),
    )

    -- polls are moves
    polls_move : (first n : ℕ) (xs : List (Step W)) (M : History W) → ArePolls first n xs → AreMoves work may (MayServe work) M (alone xs)
    polls_move first n [] M p = tt
    polls_move first n (Submit s job ∷ xs) M p = ((tt, refl), polls_move (s + 1) n xs (M ⊕ Submit s job) p.2)
    polls_move first n (Close s ∷ xs) M p = ((tt, refl), polls_move (s + 1) n xs (M ⊕ Close s) p.2)
    polls_move first n (Run ∷ xs) M p = absurd p
    polls_move first n (Advance m ∷ xs) M p = absurd p
    polls_move first n (Charge s m ∷ xs) M p = absurd p

    -- so is a run with what is paid for it
    turn_moves : (n : ℕ) (t : RoundTurn W) (M : History W) → IsTurn may n t → RunsAfter work M t → AreMoves work may (MayServe work) M (moves_of t)
    turn_moves n t M is runs =
        let run : IsMove work may (MayServe work) (M ⊕⊕ t.polls) (Run ∷ t.paid) = (
          tt,
          record { told = t.told; answer = runs.answer; pays = subst (λ start. IsRunPaid may start t.told t.paid) runs.start is.pays },
        ) in
        moves-append work may (MayServe work) M (alone t.polls) ((Run ∷ t.paid) ∷ []) (polls_move 0 n t.polls M is.polls)
        (subst (λ (xs : List (Step W)). AreMoves work may (MayServe work) (M ⊕⊕ xs) ((Run ∷ t.paid) ∷ [])) (sym (alone_steps t.polls)) (run, tt))

    each_moves : (n : ℕ) (turns : List (RoundTurn W)) (M : History W) → AllByRecursion (IsTurn may n) turns → EachRuns work M turns
        → AreMoves work may (MayServe work) M (moves_in turns)
    each_moves n [] M each runs = tt
    each_moves n (t ∷ turns) M each runs = moves-append work may (MayServe work) M (moves_of t) (moves_in turns) (turn_moves n t M each.0 runs.0)
        (subst (λ (xs : List (Step W)). AreMoves work may (MayServe work) (M ⊕⊕ xs) (moves_in turns)) (sym (turn_all t))
        (each_moves n turns (M ⊕⊕ turn_steps t) each.1 runs.1))

module _ {W A : Type 0} {g : Ghosts W} (work : Meaning W) (may : ℕ → ℕ → Type 0) where
  -- all servers are polled, and then the house runs
  pub turn_taken : (a b c : House W A g) (k : ℕ) (m : Bool) (told : Ran) → PollsEach work (length (core_of a).faces) a b k m → RunBy work may b told c
      → TakesTurn work may a c k
  turn_taken a b c k m told h run = record {
    turn = record { polls = h.polls; start = (core_of b).clock; told = told; paid = run.paid };
    is = record { polls = h.each; pays = run.pays };
    runs = λ M agrees. let later = h.made.steps M agrees in record { start = later.world.clock; answer = run.reply (M ⊕⊕ h.polls) later };
    made = made_both work a b c h.polls (Run ∷ run.paid) h.made run.made;
    count = h.count;
  }

  pub turns_none : (a : House W A g) → TakesExactly work may 0 a a 0
  turns_none a = record { turns = []; each = tt; runs = λ M agrees. tt; made = made_nothing work a; number = refl; count = refl }

  -- one more turn
  pub turns_next : (a b c : House W A g) (n k m : ℕ) → length (core_of b).faces ≡ length (core_of a).faces → TakesExactly work may n a b k
      → TakesTurn work may b c m → TakesExactly work may (n + 1) a c (k + m)
  turns_next a b c n k m e h t =
      let servers = length (core_of a).faces in
      let is : IsTurn may servers t.turn = rw (← e) t.is in
      record {
        turns = h.turns ++ t.turn ∷ [];
        each = each-append may servers h.turns t.turn h.each is;
        runs = λ M agrees. runs-append work may M h.turns t.turn (h.runs M agrees) (t.runs (M ⊕⊕ steps_in h.turns) (h.made.steps M agrees));
        made = rw (steps_in-append h.turns t.turn) (made_both work a b c (steps_in h.turns) (turn_steps t.turn) h.made t.made);
        number = let i = h.number in omega (arith, length-append h.turns (t.turn ∷ []), i);
        count =
            let i = h.count in
            let j = t.count in
            rw (steps_in-append h.turns t.turn) (omega (arith, pops-append (steps_in h.turns) (turn_steps t.turn), turn_pops may servers t.turn is, i, j));
      }

  all_move : (exactly n : ℕ) (a b : House W A g) (k : TakesExactly work may exactly a b n) (M : History W) → Agrees work (core_of a) M
      → AreMoves work may (MayServe work) M (moves_in k.turns)
  all_move exactly n a b k M agrees = each_moves work may (length (core_of a).faces) k.turns M k.each (k.runs M agrees)

  -- turns that are at most so many, and fewer only if these servers are closed
  pub turns_within : (most turns : ℕ) (servers : List ℕ) (a b : House W A g) (n : ℕ) → turns ≤ most → (turns < most → All (IsClosed (core_of b)) servers)
      → TakesExactly work may turns a b n → TakesTurns work may most servers a b n
  turns_within most turns servers a b n within fewer k =
      let xs = steps_in k.turns in
      let each : NeverCharges may → AllAllowed work (MayServe work) (core_of a) xs =
      λ never M agrees. subst (EachAllowed (MayServe work) M) (moves_all k.turns)
      (never_moves work may (MayServe work) never M (moves_in k.turns) (all_move turns n a b k M agrees)) in
      let quiet : NeverCharges may → AllAllowed work (IsQuietAfter work) (core_of a) xs =
      λ never. allowed_weaker work (MayServe work) (IsQuietAfter work) (core_of a) xs (serve_quiet work) (each never) in
      record {
        turns = turns;
        within = within;
        fewer = fewer;
        taken = k;
        quiet = quiet;
        on_time = λ never. all_on_time work (core_of a) xs k.made.keeps_time (quiet never);
        paced = all_paced work (core_of a) xs k.made.keeps_pace (λ M agrees. subst (EachAllowed (IsQuietAdvanceAfter work) M) (moves_all k.turns)
            (quiet_moves work may (MayServe work) (needed_quiet work) M (moves_in k.turns) (all_move turns n a b k M agrees)));
      }

  pub turns_rings : (most : ℕ) (servers : List ℕ) (a b : House W A g) (n : ℕ) → TakesTurns work may most servers a b n → rings_of b ≡ rings_of a
  turns_rings most servers a b n t = t.taken.made.rings

  -- turns are steps of serving
  pub serves_turns : (most : ℕ) (servers : List ℕ) (a b : House W A g) (n : ℕ) → TakesTurns work may most servers a b n → ServesBy work may a b
  serves_turns most servers a b n t =
      let k = t.taken in
      let all = moves_all k.turns in
      record {
        moves = (
          n,
          record {
            moves = moves_in k.turns;
            made = rw all k.made;
            each = all_move t.turns n a b k;
            quiet = λ M agrees. quiet_moves work may (MayServe work) (needed_quiet work) M (moves_in k.turns) (all_move t.turns n a b k M agrees);
            count = rw all k.count;
          },
        );
      }

  -- a round, and what is done after it
  pub serves_round : (most : ℕ) (servers : List ℕ) (a b c d : House W A g) (n : ℕ) → ServesBy work may a b → TakesTurns work may most servers b c n
      → ServesBy work may c d → ServesBy work may a d
  serves_round most servers a b c d n before round rest =
      serves_then work may a c d (serves_then work may a b c before (serves_turns most servers b c n round)) rest

  pub rounds_none : (a : House W A g) (fs : List (Feed W A g)) → MakesRounds work may 0 a fs a fs
  rounds_none a fs = (refl, refl)

  -- one more round of serving
  pub rounds_next : (n : ℕ) (a b c : House W A g) (fs gs hs : List (Feed W A g)) → MakesRounds work may n a fs b gs → MakesRound work may b gs c hs
      → MakesRounds work may (n + 1) a fs c hs
  rounds_next n a b c fs gs hs before round =
      let more : suc n ≡ n + 1 = omega arith in subst (λ (k : ℕ). MakesRounds work may k a fs c hs) more (b, gs, before, round)
