-- Turns that a house takes by itself.
use Rattle.std.proofs.Common.{◌≡◌, ◌≢◌, ◌⊎◌, ◌≤◌, ◌<◌, ℕ, ◌+◌, Bool, true, false, if◌then◌else◌, leb, List, Option, Some, None, Result, Ok, Err, ◌∷◌, []}
use Rattle.std.proofs.Common.{◌++◌, length, refl, ap, sym, ◌∙◌, arith, inl, inr, subst}
use Rattle.std.specs.List.{list_any}
use Rattle.std.specs.Prelude.{IfErr}
use Rattle.std.proofs.lemmas.Bool.{cases_eq, cases_lt, cases_Bool, false≢true}
use Rattle.std.proofs.lemmas.Bool.Decides.{nat_tests}
use Rattle.std.proofs.lemmas.List.{get_or_past}
use Rattle.cbs_job.specs.Work.{Meaning}
use Rattle.cbs_job.specs.declared.completion.Completion.{Completion}
use Rattle.cbs_job.specs.declared.work.Work.{Ghosts}
use Rattle.cbs_steps.specs.Accounts.{face_of, finished}
use Rattle.cbs_core.specs.Agreement.{Agrees, Follows}
use Rattle.cbs_steps.specs.Continuations.{◌⊕⊕◌, MayDrain}
use Rattle.cbs_steps.specs.Faces.{face_at, no_face, submit_refusal, close_refusal}
use Rattle.cbs_core.specs.Held.{HoldsNoJob, IsAtEnd}
use Rattle.cbs_steps.specs.History.{World, History, ◌⊕◌, account, faces, chosen, after_submit, after_closing, run_reply, world_after, reply_in}
use Rattle.cbs_steps.specs.declared.error.CoreError.{CoreError}
use Rattle.cbs_steps.specs.declared.reply.Ran.{Ran}
use Rattle.cbs_steps.specs.declared.reply.Ran.TheVariants as ran
use Rattle.cbs_steps.specs.declared.reply.Reply.TheVariants as reply
use Rattle.cbs_steps.specs.declared.step.Step.{Step}
use Rattle.cbs_steps.specs.declared.step.Step.TheVariants.{Submit, Run, Advance, Close, Charge}
use Rattle.cbs_steps.proofs.Histories.{account_face}
use Rattle.cbs_core.proofs.Laws.{run_later, advance_later, later_by}
use Rattle.cbs_rules.specs.Rules.{clock_end}
use Rattle.cbs_clients.specs.declared.error.HouseError.{HouseError}
use Rattle.cbs_clients.specs.declared.error.HouseError.TheVariants as house_error
use Rattle.cbs_clients.specs.declared.house.House.{House}
use Rattle.cbs_host.specs.declared.poll.Poll.{Poll}
use Rattle.cbs_host.specs.declared.poll.Poll.TheVariants.{Nothing, Took, Closed, Full, OutOfMemory, NoSuchServer}
use Rattle.cbs_clients.specs.declared.turn.Turn.{Turn}
use Rattle.cbs_results.specs.Collected.{shelf_at, no_shelf}
use Rattle.cbs_clients.specs.HouseInvariant.{Housed}
use Rattle.cbs_clients.specs.Houses.{core_of, results_of, handed_of, result_count, Collects, ServesBy, MovesBy}
use Rattle.cbs_clients.specs.Turns.{GoesOn, StaysBy, IsNumbered, TakesOwnTurn, lacks_memory, Answered, PollsEach, ArePolls}
use Rattle.cbs_clients.specs.UntilClosed.{meets_end, turn_stop, LackedMemory, RunStops}
use Rattle.cbs_clients.specs.Steps.{MayServe}
use Rattle.cbs_clients.proofs.Metered.{paid_is, unit_later}
use Rattle.cbs_clients.proofs.Moves.{by_step, by_run, needed_quiet, serves_none, serves_made, serves_then, serves_poll}
use Rattle.cbs_clients.proofs.MadeSteps.{made_same}

module _ {W A : Type 0} {g : Ghosts W} where
  -- what a run did to the results, after calls that left them
  pub collects_behind : (r : Ran) (a b c : House W A g) → ((s : ℕ) → results_of b s ≡ results_of a s) → Collects r b c → Collects r a c
  collects_behind ran.Idle a b c same k = λ s. k s ∙ same s
  collects_behind ran.ClockEnd a b c same k = λ s. k s ∙ same s
  collects_behind (ran.Unit t q) a b c same k = λ s. k s ∙ same s
  collects_behind (ran.Done x) a b c same k = (k.0 ∙ ap (λ rs. rs ++ x.result ∷ []) (same x.server), λ s ne. k.1 s ne ∙ same s)

  -- the number of a completion, after calls that left the results
  pub numbered_behind : (r : Ran) (a b : House W A g) → ((s : ℕ) → results_of b s ≡ results_of a s) → ((s : ℕ) → handed_of b s ≡ handed_of a s)
      → IsNumbered r b → IsNumbered r a
  numbered_behind ran.Idle a b same handed k = tt
  numbered_behind ran.ClockEnd a b same handed k = tt
  numbered_behind (ran.Unit t q) a b same handed k = tt
  numbered_behind (ran.Done x) a b same handed k =
      k ∙ (ap (λ n. n + length (results_of b x.server)) (handed x.server) ∙ ap (λ rs. handed_of a x.server + length rs) (same x.server))

-- which completion is in the result of a run that is done
picked : (c d : Completion) (stopped last : Bool) (t q : ℕ) → ran.Done c ≡ (if stopped then ran.ClockEnd else (if last then ran.Done d else ran.Unit t q))
    → c ≡ d
picked c d true last t q e = absurd (cc e)
picked c d false true t q e = cc e
picked c d false false t q e = absurd (cc e)

module _ {W : Type 0} (work : Meaning W) where
  -- a completion has the number of jobs that its server had finished
  done_number : (w : World W) (o : Option ℕ) (c : Completion) → ran.Done c ≡ run_reply work w o → c.seq ≡ finished work (account w.accounts c.server)
  done_number w None c e = absurd (cc e)
  done_number w (Some s) c e = let k = picked c _ _ _ _ _ e in ap (λ d. d.seq) k ∙ ap (λ t. finished work (account w.accounts t)) (sym (ap (λ d. d.server) k))

module _ {W A : Type 0} {g : Ghosts W} (work : Meaning W) where
  -- a server has finished as many jobs as it has results, and one that is not there none
  finished_results : (h : House W A g) → Housed work h.core h.rings h.collector → (s : ℕ) → (face_at (core_of h).faces s).finished ≡ result_count h s
  finished_results h housed s = elim (cases_lt s (length (core_of h).faces)) [
    | inl lt ↦ (housed.servers s lt).finished
    | inr ge ↦
        let face : face_at (core_of h).faces s ≡ no_face = get_or_past (core_of h).faces s no_face ge in
        let count = housed.shelf_count in
        let shelf : shelf_at h.collector s ≡ no_shelf = get_or_past h.collector s no_shelf (omega (arith, count, ge)) in
        ap (λ f. f.finished) face ∙ sym (ap (λ x. x.handed + length x.results) shelf)
  ]

  -- a completion has the number of its place among the results
  pub numbered : (h : House W A g) → Housed work h.core h.rings h.collector → (r : Ran)
      → ((M : History W) → Agrees work (core_of h) M → reply.Ran r ≡ reply_in work M Run) → IsNumbered r h
  numbered h housed ran.Idle answer = tt
  numbered h housed ran.ClockEnd answer = tt
  numbered h housed (ran.Unit t q) answer = tt
  numbered h housed (ran.Done c) answer = elim (cases_eq c.seq (result_count h c.server)) [
    | inl e ↦ e
    | inr ne ↦ absurd (housed.history (λ M agrees.
        let w = world_after work M in
        let told : ran.Done c ≡ run_reply work w (chosen work w) = let e = answer M agrees in cc in
        let shown : face_at (core_of h).faces c.server ≡ face_of work (account w.accounts c.server) =
        ap (λ fs. face_at fs c.server) agrees.world.shown ∙ account_face work w.accounts c.server in
        ne (done_number work w (chosen work w) c told ∙ (sym (ap (λ f. f.finished) shown) ∙ finished_results h housed c.server))))
  ]

-- a run with this result stood at the clock's end
not_at_end : (stopped last : Bool) (d : Completion) (t q : ℕ)
    → ran.ClockEnd ≡ (if stopped then ran.ClockEnd else (if last then ran.Done d else ran.Unit t q)) → stopped ≡ true
not_at_end true last d t q e = refl
not_at_end false true d t q e = absurd (cc e)
not_at_end false false d t q e = absurd (cc e)

module _ {W : Type 0} (work : Meaning W) where
  stops_at_end : (w : World W) (o : Option ℕ) → ran.ClockEnd ≡ run_reply work w o → clock_end ≤ w.now
  stops_at_end w None e = absurd (cc e)
  stops_at_end w (Some s) e = let k = not_at_end _ _ _ _ _ e in let t : leb clock_end w.now ≡ true = k in grind (arith, nat_tests)

  -- a message that is taken, or refused, leaves the clock
  submit_now : (w : World W) (s : ℕ) (job : W) (o : Option CoreError) → (after_submit work w s job o).now ≡ w.now
  submit_now w s job None = refl
  submit_now w s job (Some e) = refl

  closing_now : (w : World W) (s : ℕ) (o : Option CoreError) → (after_closing w s o).now ≡ w.now
  closing_now w s None = refl
  closing_now w s (Some e) = refl

  -- polls leave the clock
  polls_now : (M : History W) (first n : ℕ) (xs : List (Step W)) → ArePolls first n xs → (world_after work (M ⊕⊕ xs)).now ≡ (world_after work M).now
  polls_now M first n [] p = refl
  polls_now M first n (Submit s job ∷ xs) p =
      polls_now (M ⊕ Submit s job) (s + 1) n xs p.2 ∙ submit_now (world_after work M) s job (submit_refusal M.setup.backlog (faces work (world_after work M)) s)
  polls_now M first n (Close s ∷ xs) p = polls_now (M ⊕ Close s) (s + 1) n xs p.2
      ∙ closing_now (world_after work M) s (close_refusal (faces work (world_after work M)) s)
  polls_now M first n (Run ∷ xs) p = absurd p
  polls_now M first n (Advance m ∷ xs) p = absurd p
  polls_now M first n (Charge t m ∷ xs) p = absurd p

module _ {W A : Type 0} {g : Ghosts W} (work : Meaning W) where
  polled_clock : (a b : House W A g) (n k : ℕ) (m : Bool) → Housed work a.core a.rings a.collector → PollsEach work n a b k m
      → (core_of b).clock ≡ (core_of a).clock
  polled_clock a b n k m housed h = elim (cases_eq (core_of b).clock (core_of a).clock) [
    | inl e ↦ e
    | inr ne ↦ absurd (housed.history (λ M agrees. ne ((h.made.steps M agrees).world.clock ∙ (polls_now work M 0 n h.polls h.each ∙ sym agrees.world.clock))))
  ]

module _ {W A : Type 0} {g : Ghosts W} (work : Meaning W) (may : ℕ → ℕ → Type 0) where
  -- polls, one after another, are steps of serving
  serves_answered : (s : ℕ) (a b : House W A g) (ps : List Poll) → Answered work s a ps b → ServesBy work may a b
  serves_answered s a b [] h = serves_made work may a b (made_same work a b h)
  serves_answered s a b (p ∷ ps) h = serves_then work may a h.0 b (serves_poll work may a h.0 s p h.1) (serves_answered (s + 1) h.0 b ps h.2)

  -- what a turn does after its polls are steps of serving
  serves_on : (a b : House W A g) (r : Ran) (n : ℕ) → GoesOn work may a b r n → ServesBy work may a b
  serves_on a b r n (inl k) = record { moves = (0, by_run work may (MayServe work) a b r k.0.paid k.0.pays k.0.made k.0.answer (λ M agrees. tt)) }
  serves_on a b r n (inr (inl k)) = record {
    moves = (
      0,
      by_step work may (MayServe work) a b (Advance n) k.0.made (λ M agrees. (k.0.needed M agrees, refl))
          (λ M agrees. (needed_quiet work M n (k.0.needed M agrees), tt)),
    );
  }
  serves_on a b r n (inr (inr k)) = rw k.0 (serves_none work may a)

  -- what a turn does after its polls is a step of a drain, if the clock is later
  pub drained_on : (a b : House W A g) (r : Ran) (n : ℕ) → GoesOn work may a b r n → (core_of a).clock < (core_of b).clock
      → MovesBy work may (MayDrain work) a b 0
  drained_on a b r n (inl k) later = by_run work may (MayDrain work) a b r k.0.paid k.0.pays k.0.made k.0.answer k.0.useful
  drained_on a b r n (inr (inl k)) later = by_step work may (MayDrain work) a b (Advance n) k.0.made (λ M agrees. (k.0.needed M agrees, refl))
      (λ M agrees. (needed_quiet work M n (k.0.needed M agrees), tt))
  drained_on a b r n (inr (inr k)) later =
      let e : (core_of b).clock ≡ (core_of a).clock = ap (λ (x : House W A g). (core_of x).clock) k.0 in absurd (omega (arith, later, e))

  -- polls, and what a turn does after them, are steps of serving
  pub polls_serve : (a b c : House W A g) (n k j : ℕ) (m : Bool) (r : Ran) → PollsEach work n a b k m → GoesOn work may b c r j → ServesBy work may a c
  polls_serve a b c n k j m r h on = serves_then work may a b c (serves_answered 0 a b h.answers h.answered) (serves_on b c r j on)

  -- a turn makes steps of serving
  pub turn_serves : (a b : House W A g) (t : Turn) → TakesOwnTurn work may a b t → ServesBy work may a b
  turn_serves a b t h = serves_then work may a h.between b (serves_answered 0 a h.between h.polled.answers h.polled.answered)
      (serves_on h.between b t.ran t.advanced h.goes_on)

  -- what leads to a poll without memory, and on from it
  pub lacked_behind : (a b c : House W A g) → ServesBy work may a b → LackedMemory work may b c → LackedMemory work may a c
  lacked_behind a b c h k = record {
    before = k.before;
    after = k.after;
    server = k.server;
    first = serves_then work may a b k.before h k.first;
    polled = k.polled;
    rest = k.rest;
  }

  lacked_before : (a b c : House W A g) → LackedMemory work may a b → ServesBy work may b c → LackedMemory work may a c
  lacked_before a b c k h = record {
    before = k.before;
    after = k.after;
    server = k.server;
    first = k.first;
    polled = k.polled;
    rest = serves_then work may k.after b c k.rest h;
  }

  lacked : (s : ℕ) (a b : House W A g) (ps : List Poll) → Answered work s a ps b → list_any lacks_memory ps ≡ true → LackedMemory work may a b
  lacked s a b [] h e = absurd (false≢true e)
  lacked s a b (OutOfMemory ∷ ps) h e = record {
    before = a;
    after = h.0;
    server = s;
    first = serves_none work may a;
    polled = h.1;
    rest = serves_answered (s + 1) h.0 b ps h.2;
  }
  lacked s a b (Nothing ∷ ps) h e = lacked_behind a h.0 b (serves_poll work may a h.0 s Nothing h.1) (lacked (s + 1) h.0 b ps h.2 e)
  lacked s a b (Took q ∷ ps) h e = lacked_behind a h.0 b (serves_poll work may a h.0 s (Took q) h.1) (lacked (s + 1) h.0 b ps h.2 e)
  lacked s a b (Closed ∷ ps) h e = lacked_behind a h.0 b (serves_poll work may a h.0 s Closed h.1) (lacked (s + 1) h.0 b ps h.2 e)
  lacked s a b (Full ∷ ps) h e = lacked_behind a h.0 b (serves_poll work may a h.0 s Full h.1) (lacked (s + 1) h.0 b ps h.2 e)
  lacked s a b (NoSuchServer ∷ ps) h e = lacked_behind a h.0 b (serves_poll work may a h.0 s NoSuchServer h.1) (lacked (s + 1) h.0 b ps h.2 e)

  -- if the result of a turn says that a poll was out of memory, one of its polls was
  turn_lacked : (a b : House W A g) (t : Turn) → TakesOwnTurn work may a b t → t.out_of_memory ≡ true → LackedMemory work may a b
  turn_lacked a b t h e =
      lacked_before a h.between b (lacked 0 a h.between h.polled.answers h.polled.answered (sym h.polled.memory ∙ e))
      (serves_on h.between b t.ran t.advanced h.goes_on)

  -- a unit, or an advance, moves the clock
  later_on : (a b : House W A g) (r : Ran) (n : ℕ) → Housed work a.core a.rings a.collector → GoesOn work may a b r n
      → ((core_of a).clock < (core_of b).clock) ⊎ ((b ≡ a) × StaysBy r a)
  later_on a b r n housed (inl k) =
      let is = paid_is may (core_of a).clock r k.0.paid k.0.pays in
      inl (unit_later work a.core b.core is.0 is.1 housed.history
      (subst (λ (xs : List (Step W)). Follows work a.core b.core (Run ∷ xs)) is.2 k.0.made.steps)
      (λ M agrees. let u = k.0.useful M agrees in run_later work M.setup.backlog (world_after work M) u.ready u.early))
  later_on a b r n housed (inr (inl k)) =
      inl (later_by work a.core b.core (Advance n) housed.history k.0.made.steps
      (λ M agrees. let u = k.0.needed M agrees in advance_later work M.setup.backlog (world_after work M) n u.span u.early))
  later_on a b r n housed (inr (inr k)) = inr (k.0, k.1)

  stays_idle : (r : Ran) (h : House W A g) → r ≢ ran.ClockEnd → StaysBy r h → HoldsNoJob (core_of h)
  stays_idle ran.Idle h n k = k
  stays_idle ran.ClockEnd h n k = absurd (n refl)
  stays_idle (ran.Unit s q) h n k = absurd k
  stays_idle (ran.Done c) h n k = absurd k

  -- a turn whose result is the clock's end stands there, with a job unfinished
  at_end : (a b : House W A g) (n : ℕ) → Housed work a.core a.rings a.collector → GoesOn work may a b ran.ClockEnd n → IsAtEnd (core_of b)
  at_end a b n housed (inl k) =
      absurd (housed.history (λ M agrees.
      let told : ran.ClockEnd ≡ run_reply work (world_after work M) (chosen work (world_after work M)) = let e = k.0.answer M agrees in cc in
      let l = stops_at_end work (world_after work M) (chosen work (world_after work M)) told in
      let early = (k.0.useful M agrees).early in
      omega (arith, l, early)))
  at_end a b n housed (inr (inl k)) = absurd (cc (k.1))
  at_end a b n housed (inr (inr k)) = rw k.0 k.1

-- if what ran met the clock's end, the result is ClockEnd
met_end : (r : Ran) → meets_end r ≡ true → r ≡ ran.ClockEnd
met_end ran.Idle e = absurd (false≢true e)
met_end ran.ClockEnd e = refl
met_end (ran.Unit s q) e = absurd (false≢true e)
met_end (ran.Done c) e = absurd (false≢true e)

-- a turn that does not stop a run did not meet the clock's end
early_turn : (t : Turn) → turn_stop t ≡ None → t.ran ≡ ran.ClockEnd → ⊥
early_turn t none end = elim (cases_Bool t.out_of_memory) [
  | inl lacks ↦ let e : Some house_error.OutOfMemory ≡ None = rw lacks at none in cc
  | inr found ↦ let e : Some house_error.ClockEnd ≡ None = rw (found, end) at none in cc
]

-- why a turn stops a run: one of two
pub stopped_by : (t : Turn) (error : HouseError) → turn_stop t ≡ Some error
    → ((error ≡ house_error.OutOfMemory) × (t.out_of_memory ≡ true)) ⊎ ((error ≡ house_error.ClockEnd) × (t.ran ≡ ran.ClockEnd))
stopped_by t error why = elim (cases_Bool t.out_of_memory) [
  | inl lacks ↦ let e : Some house_error.OutOfMemory ≡ Some error = rw lacks at why in inl (cc, lacks)
  | inr found ↦ elim (cases_Bool (meets_end t.ran)) [
    | inl end ↦ let e : Some house_error.ClockEnd ≡ Some error = rw (found, end) at why in inr (cc, met_end t.ran end)
    | inr early ↦ let e : None ≡ Some error = rw (found, early) at why in cc
  ]
]

module _ {W A : Type 0} {g : Ghosts W} (may : ℕ → ℕ → Type 0) (a b : House W A g) (t : Turn) (h : TakesOwnTurn g.meaning may a b t) where
  -- the polls of a turn leave the clock
  polls_stand : (core_of h.between).clock ≡ (core_of a).clock
  polls_stand = polled_clock g.meaning a h.between (length (core_of a).faces) t.took t.out_of_memory a.housed h.polled

  -- a turn does not move the clock back
  pub turn_on : (core_of a).clock ≤ (core_of b).clock
  turn_on =
      let e = polls_stand in
      elim (later_on g.meaning may h.between b t.ran t.advanced h.between.housed h.goes_on) [
        | inl lt ↦ omega (arith, e, lt)
        | inr stays ↦ let f : (core_of b).clock ≡ (core_of h.between).clock = ap (λ (x : House W A g). (core_of x).clock) stays.0 in omega (arith, e, f)
      ]

  -- a turn that does not stop a run moves the clock, or leaves no job
  pub turn_idle : turn_stop t ≡ None → ((core_of a).clock < (core_of b).clock) ⊎ HoldsNoJob (core_of b)
  turn_idle none =
      let e = polls_stand in
      elim (later_on g.meaning may h.between b t.ran t.advanced h.between.housed h.goes_on) [
        | inl lt ↦ inl (omega (arith, e, lt))
        | inr stays ↦ inr (rw stays.0 (stays_idle g.meaning may t.ran h.between (λ end. early_turn t none end) stays.1))
      ]

  -- why a turn stops a run
  turn_stops : (error : HouseError) → turn_stop t ≡ Some error → RunStops g.meaning may error a b
  turn_stops error why = elim (stopped_by t error why) [
    | inl memory ↦ rw memory.0 (turn_lacked g.meaning may a b t h memory.1)
    | inr end ↦ rw end.0 (at_end g.meaning may h.between b t.advanced h.between.housed (subst (λ r. GoesOn g.meaning may h.between b r t.advanced) end.1 h.goes_on))
  ]

  pub told_stops : {T : Type 0} (r : Result T HouseError) → IfErr r (λ error. turn_stop t ≡ Some error) → IfErr r (λ error. RunStops g.meaning may error a b)
  told_stops (Ok x) why = tt
  told_stops (Err e) why = turn_stops e why
