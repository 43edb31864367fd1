-- Steps that a house made, one list of them after another.
use Rattle.std.specs.Prelude.{MatchResult}
use Rattle.std.proofs.Common.{◌≡◌, ◌≢◌, ℕ, ◌+◌, ◌<◌, ◌≤◌, true, false, eqb, Result, Ok, Err, IsOk, OnOk, List, [], ◌∷◌, ◌++◌, length, refl, ap, sym, ◌∙◌}
use Rattle.std.proofs.Common.{arith, inl, inr}
use Rattle.std.proofs.lemmas.List.{append-nil, append_assoc}
use Rattle.std.proofs.lemmas.Bool.{cases_eq, false≢true}
use Rattle.std.proofs.lemmas.Bool.Decides.{nat_tests}
use mathlib.Core.List.{IsPrefix}
use Rattle.cbs_job.specs.Work.{Meaning}
use Rattle.cbs_job.specs.declared.work.Work.{Ghosts}
use Rattle.cbs_job.specs.declared.completion.Completion.{Completion}
use Rattle.cbs_rules.specs.Rules.{clock_end}
use Rattle.cbs_core.specs.Agreement.{Agrees, Follows, HasHistory}
use Rattle.cbs_core.specs.Held.{CoreHeld, Accepts}
use Rattle.cbs_steps.specs.History.{History, world_after}
use Rattle.cbs_steps.specs.OnTime.{KeepsTime}
use Rattle.cbs_steps.specs.Paced.{KeepsPace}
use Rattle.cbs_steps.specs.Quiet.{IsIdleSpan}
use Rattle.cbs_steps.specs.declared.reply.Ran.{Ran}
use Rattle.cbs_steps.specs.declared.reply.Ran.TheVariants as ran
use Rattle.cbs_steps.specs.declared.step.Step.{Step}
use Rattle.cbs_steps.specs.declared.step.Step.TheVariants as step
use Rattle.cbs_clients.specs.declared.house.House.{House}
use Rattle.cbs_clients.specs.declared.message.Message.{Message}
use Rattle.cbs_clients.specs.declared.message.Message.TheVariants.{Job, End}
use Rattle.cbs_host.specs.declared.poll.Poll.{Poll}
use Rattle.cbs_host.specs.declared.poll.Poll.TheVariants.{Nothing, Took, Closed, Full, OutOfMemory, NoSuchServer}
use Rattle.cbs_results.specs.Collected.{AllShelvesSame}
use Rattle.cbs_clients.specs.Rings.{Looked}
use Rattle.cbs_clients.specs.Houses.{Seat, seat_at, core_of, rings_of, tape_of, received, known, results_of, handed_of, early_of, Made, LooksOnly, SameHouse, Collects, Polled}
use Rattle.cbs_clients.specs.Calls.{PollOf}
use Rattle.cbs_clients.specs.Messages.{jobs_among}
use Rattle.cbs_clients.specs.Steps.{message_of, messages_of}
use Rattle.cbs_clients.proofs.StepMessages.{messages_of-append}
use Rattle.cbs_core.proofs.Laws.{follows_both, allowed_both}
use Rattle.cbs_recorded.specs.Records.{Recorded}
use Rattle.cbs_recorded.proofs.Recorded.{recorded_then, recorded_same}

prefix_through : {X : Type 0} (a e b r : List X) → IsPrefix a (e ++ b) → IsPrefix b r → (z : List X) → z ≡ e ++ r → IsPrefix a z
prefix_through a e b r p q z k =
    (p.0 ++ q.0, sym (append_assoc a p.0 q.0) ∙ (ap (λ ms. ms ++ q.0) p.1 ∙ (append_assoc e b q.0 ∙ (ap (λ ms. e ++ ms) q.1 ∙ sym k))))

pub eqb_same : (t : ℕ) → eqb t t ≡ true
eqb_same t = grind (arith, nat_tests)

pub eqb_other : (t s : ℕ) → s ≢ t → eqb t s ≡ false
eqb_other t s n = grind (arith, nat_tests)

-- what more room leaves
accepts_same : {W : Type 0} (a b : CoreHeld W) (s : ℕ) → b ≡ record a { rooms = b.rooms } → Accepts b s → Accepts a s
accepts_same a b s e k = record { is_open = record { within = rw e at k.is_open.within; unclosed = rw e at k.is_open.unclosed }; few = rw e at k.few }

-- the value of a result Ok
module _ {T E : Type 0} where
  pub on_ok : (r : Result T E) (P : Type 0) → IsOk r → OnOk r P → P
  on_ok (Ok x) P i p = p
  on_ok (Err e) P i p = absurd (false≢true i)

-- an advance by the idle span does not pass the clock's end
pub span_granted : {W E : Type 0} (work : Meaning W) (core : CoreHeld W) (r : Result (Unit {0}) E) (n : ℕ) → HasHistory work core → core.clock < clock_end
    → ((M : History W) → Agrees work core M → MatchResult r (λ _. (world_after work M).now + n ≤ clock_end) (λ _. clock_end < (world_after work M).now + n))
    → ((M : History W) → Agrees work core M → IsIdleSpan work (world_after work M) n) → IsOk r
span_granted work core (Ok x) n history early end span = refl
span_granted work core (Err e) n history early end span =
    absurd (history (λ M agrees. let past = end M agrees in let within = (span M agrees).within in let clock = agrees.world.clock in omega
    (arith, past, within, clock)))

module _ {W A : Type 0} {g : Ghosts W} where
  -- a look receives nothing
  pub looks_received : (a b : House W A g) → LooksOnly a b → (s : ℕ) → received b s ≡ received a s
  looks_received a b l s = ap (λ (x : Seat W). x.received) (l.seats s).same

  -- and finds no result
  pub looks_results : (a b : House W A g) → LooksOnly a b → (s : ℕ) → results_of b s ≡ results_of a s
  looks_results a b l s = ap (λ (x : Seat W). x.results) (l.seats s).same

  -- nothing of a house changed
  pub same_here : (a : House W A g) → SameHouse a a
  same_here a = record { core = refl; rings = refl; tape = refl; seats = λ s. refl }

  -- nothing changed but whose rings will be looked at
  pub same_by_ends : (a b : House W A g) → b.core ≡ a.core → b.collector ≡ a.collector → b.rings.ends ≡ a.rings.ends → tape_of b ≡ tape_of a → SameHouse a b
  same_by_ends a b core shelves ends tape = record { core = core; rings = rw ends refl; tape = tape; seats = λ s. rw (shelves, ends) refl }

  -- nothing changed, so no look found anything
  pub looks_same : (a b : House W A g) → SameHouse a b → LooksOnly a b
  looks_same a b h = record {
    core = h.core;
    rings = h.rings;
    tape = h.tape;
    seats = λ s. let e = ap (λ (x : Seat W). x.known) (h.seats s) in record {
      same = h.seats s ∙ ap (λ ms. record (seat_at a s) { known = ms }) (sym e);
      known = ([], append-nil (known a s) ∙ sym e);
    };
  }

module _ {W A : Type 0} {g : Ghosts W} (work : Meaning W) where
  -- a poll of a server that is there does not say that there is none
  pub polled_there : (a b : House W A g) (s : ℕ) (p : Poll) → Polled work a s p b → s < length (core_of a).faces → p ≡ NoSuchServer → b ≡ a
  polled_there a b s p polled within is = let past = (rw is at polled).1 in absurd (omega (arith, within, past))

  -- steps, and more steps
  pub made_both : (a b c : House W A g) (xs ys : List (Step W)) → Made work a b xs → Made work b c ys → Made work a c (xs ++ ys)
  made_both a b c xs ys p q = record {
    steps = follows_both work (core_of a) (core_of b) (core_of c) xs ys p.steps q.steps;
    keeps_time = allowed_both work (KeepsTime work) (core_of a) (core_of b) xs ys p.steps p.keeps_time q.keeps_time;
    keeps_pace = allowed_both work (KeepsPace work) (core_of a) (core_of b) xs ys p.steps p.keeps_pace q.keeps_pace;
    rings = q.rings ∙ p.rings;
    recorded = recorded_then work (core_of a) (core_of b) (core_of c) (tape_of a) (tape_of b) (tape_of c) p.recorded q.recorded;
    seats = λ s. record {
      received = (q.seats s).received ∙ (ap (λ ms. ms ++ messages_of s ys) (p.seats s).received
          ∙ (append_assoc (received a s) (messages_of s xs) (messages_of s ys) ∙ ap (λ ms. received a s ++ ms) (sym (messages_of-append s xs ys))));
      known = prefix_through (known a s) (messages_of s xs) (known b s) (messages_of s ys ++ known c s) (p.seats s).known (q.seats s).known
          (messages_of s (xs ++ ys) ++ known c s)
          (ap (λ ms. ms ++ known c s) (messages_of-append s xs ys) ∙ append_assoc (messages_of s xs) (messages_of s ys) (known c s));
      handed = (q.seats s).handed ∙ (p.seats s).handed;
      early = (q.seats s).early ∙ (p.seats s).early;
    };
  }

  pub made_nothing : (a : House W A g) → Made work a a []
  made_nothing a = record {
    steps = λ M agrees. agrees;
    keeps_time = λ M agrees. tt;
    keeps_pace = λ M agrees. tt;
    rings = refl;
    recorded = recorded_same work (core_of a) (core_of a) (tape_of a) refl;
    seats = λ s. record { received = sym (append-nil (received a s)); known = ([], append-nil (known a s)); handed = refl; early = refl };
  }

  -- a look is no step
  pub made_look : (a b : House W A g) → LooksOnly a b → Made work a b []
  made_look a b l = record {
    steps = λ M agrees. rw l.core agrees;
    keeps_time = λ M agrees. tt;
    keeps_pace = λ M agrees. tt;
    rings = l.rings;
    recorded = rw l.tape (recorded_same work (core_of a) (core_of b) (tape_of a) l.core);
    seats = λ s. record {
      received = looks_received a b l s ∙ sym (append-nil (received a s));
      known = (l.seats s).known;
      handed = ap (λ (x : Seat W). x.handed) (l.seats s).same;
      early = ap (λ (x : Seat W). x.early) (l.seats s).same;
    };
  }

  -- a house of which nothing changed made no step
  pub made_same : (a b : House W A g) → SameHouse a b → Made work a b []
  made_same a b h = made_look a b (looks_same a b h)

  -- looks at the rings, and more room, are no step
  pub made_room : (a b : House W A g) → Looked a.rings b.rings → Follows work (core_of a) (core_of b) [] → AllShelvesSame a.collector b.collector
      → Recorded work (core_of a) (core_of b) (tape_of a) (tape_of b) → Made work a b []
  made_room a b l steps shelves recorded = record {
    steps = steps;
    keeps_time = λ M agrees. tt;
    keeps_pace = λ M agrees. tt;
    rings = l.rings;
    recorded = recorded;
    seats = λ s. record {
      received = l.received s ∙ sym (append-nil (received a s));
      known = l.known s;
      handed = (shelves s).handed;
      early = (shelves s).early;
    };
  }

  -- a step that takes no message
  pub made_time : (a b : House W A g) (x : Step W) → ((s : ℕ) → message_of s x ≡ []) → Follows work (core_of a) (core_of b) (x ∷ [])
      → ((M : History W) → Agrees work (core_of a) M → KeepsTime work M x)
      → ((M : History W) → Agrees work (core_of a) M → KeepsPace work M x)
      → b.rings ≡ a.rings → ((s : ℕ) → (handed_of b s ≡ handed_of a s) × (early_of b s ≡ early_of a s))
      → Recorded work (core_of a) (core_of b) (tape_of a) (tape_of b) → Made work a b (x ∷ [])
  made_time a b x none f keep pace e handed recorded = record {
    steps = f;
    keeps_time = λ M agrees. (keep M agrees, tt);
    keeps_pace = λ M agrees. (pace M agrees, tt);
    rings = rw e refl;
    recorded = recorded;
    seats = λ s. record {
      received = rw (e, none s) (sym (append-nil (received a s)));
      known = rw (e, none s) ([], append-nil (known a s));
      handed = (handed s).0;
      early = (handed s).1;
    };
  }

  -- the next message of server t is taken
  pub made_one :
      (a b : House W A g) (t : ℕ) (m : Message W) (x : Step W) → message_of t x ≡ m ∷ [] → ((s : ℕ) → s ≢ t → message_of s x ≡ [])
      → rings_of b ≡ rings_of a → received b t ≡ received a t ++ m ∷ [] → known a t ≡ m ∷ known b t
      → ((s : ℕ) → s ≢ t → (received b s ≡ received a s) × (known b s ≡ known a s))
      → ((s : ℕ) → (handed_of b s ≡ handed_of a s) × (early_of b s ≡ early_of a s)) → Follows work (core_of a) (core_of b) (x ∷ [])
      → ((M : History W) → Agrees work (core_of a) M → KeepsTime work M x)
      → ((M : History W) → Agrees work (core_of a) M → KeepsPace work M x)
      → Recorded work (core_of a) (core_of b) (tape_of a) (tape_of b) → Made work a b (x ∷ [])
  made_one a b t m x here elsewhere same taken first others handed f keep pace recorded = record {
    steps = f;
    keeps_time = λ M agrees. (keep M agrees, tt);
    keeps_pace = λ M agrees. (pace M agrees, tt);
    rings = same;
    recorded = recorded;
    seats = λ s. record {
      received = elim (cases_eq s t) [
        | inl e ↦ rw (e, here, append-nil (m ∷ [])) taken
        | inr n ↦ rw (elsewhere s n) ((others s n).0 ∙ sym (append-nil (received a s)))
      ];
      known = elim (cases_eq s t) [
        | inl e ↦ rw (e, here, first) ([], append-nil (m ∷ known b t))
        | inr n ↦ rw (elsewhere s n, (others s n).1) ([], append-nil (known a s))
      ];
      handed = (handed s).0;
      early = (handed s).1;
    };
  }

  pub made_job :
      (a b : House W A g) (t : ℕ) (job : W)
      → rings_of b ≡ rings_of a → received b t ≡ received a t ++ Job job ∷ [] → known a t ≡ Job job ∷ known b t
      → ((s : ℕ) → s ≢ t → (received b s ≡ received a s) × (known b s ≡ known a s))
      → ((s : ℕ) → (handed_of b s ≡ handed_of a s) × (early_of b s ≡ early_of a s)) → Follows work (core_of a) (core_of b) (step.Submit t job ∷ [])
      → ((M : History W) → Agrees work (core_of a) M → KeepsTime work M (step.Submit t job))
      → ((M : History W) → Agrees work (core_of a) M → KeepsPace work M (step.Submit t job))
      → Recorded work (core_of a) (core_of b) (tape_of a) (tape_of b) → Made work a b (step.Submit t job ∷ [])
  made_job a b t job = made_one a b t (Job job) (step.Submit t job) (rw (eqb_same t) refl) (λ s n. rw (eqb_other t s n) refl)

  pub made_end :
      (a b : House W A g) (t : ℕ)
      → rings_of b ≡ rings_of a → received b t ≡ received a t ++ End ∷ [] → known a t ≡ End ∷ known b t
      → ((s : ℕ) → s ≢ t → (received b s ≡ received a s) × (known b s ≡ known a s))
      → ((s : ℕ) → (handed_of b s ≡ handed_of a s) × (early_of b s ≡ early_of a s)) → Follows work (core_of a) (core_of b) (step.Close t ∷ [])
      → ((M : History W) → Agrees work (core_of a) M → KeepsTime work M (step.Close t))
      → ((M : History W) → Agrees work (core_of a) M → KeepsPace work M (step.Close t))
      → Recorded work (core_of a) (core_of b) (tape_of a) (tape_of b) → Made work a b (step.Close t ∷ [])
  made_end a b t = made_one a b t End (step.Close t) (rw (eqb_same t) refl) (λ s n. rw (eqb_other t s n) refl)

  -- a run that finished no job leaves the results
  pub collects_none : (r : Ran) (a b : House W A g) → ((c : Completion) → r ≡ ran.Done c → ⊥) → ((s : ℕ) → results_of b s ≡ results_of a s) → Collects r a b
  collects_none ran.Idle a b n e = e
  collects_none ran.ClockEnd a b n e = e
  collects_none (ran.Unit t q) a b n e = e
  collects_none (ran.Done c) a b n e = absurd (n c refl)

  -- a poll has the same effect and result if nothing was popped before, and the core held the same except for room
  pub polled_after :
      (a b c : House W A g) (s : ℕ) (p : Poll) → Made work a b [] → core_of b ≡ record (core_of a) { rooms = (core_of b).rooms }
      → Polled work b s p c → Polled work a s p c
  polled_after a b c s Nothing m e k = (made_both a b c [] [] m k.0, rw e at k.1, rw e at k.2)
  polled_after a b c s Full m e k = (made_both a b c [] [] m k.0, record { within = rw e at k.1.within; unclosed = rw e at k.1.unclosed }, k.2, rw e at k.3)
  polled_after a b c s OutOfMemory m e k = (made_both a b c [] [] m k.0, accepts_same (core_of a) (core_of b) s e k.1, k.2)
  polled_after a b c s NoSuchServer m e k = (made_both a b c [] [] m k.0, rw e at k.1)
  polled_after a b c s (Took q) m e k = (
    k.0,
    made_both a b c [] (step.Submit s k.0 ∷ []) m k.1,
    accepts_same (core_of a) (core_of b) s e k.2,
    k.3 ∙ ap (λ ms. length (jobs_among ms)) ((m.seats s).received ∙ append-nil (received a s)),
  )
  polled_after a b c s Closed m e k = (made_both a b c [] (step.Close s ∷ []) m k.0, accepts_same (core_of a) (core_of b) s e k.1)

  -- the same poll, if nothing changed after it
  polled_same : (a b c : House W A g) (s : ℕ) (p : Poll) → SameHouse b c → Polled work a s p b → Polled work a s p c
  polled_same a b c s Nothing h k =
      (made_both a b c [] [] k.0 (made_same b c h), k.1, rw (ap (λ (x : Seat W). x.known) (h.seats s)) k.2)
  polled_same a b c s Full h k =
      (made_both a b c [] [] k.0 (made_same b c h), k.1, rw (ap (λ (x : Seat W). x.known) (h.seats s)) k.2, k.3)
  polled_same a b c s OutOfMemory h k =
      (made_both a b c [] [] k.0 (made_same b c h), k.1, rw (ap (λ (x : Seat W). x.known) (h.seats s)) k.2)
  polled_same a b c s NoSuchServer h k = (made_both a b c [] [] k.0 (made_same b c h), k.1)
  polled_same a b c s (Took q) h k = (k.0, made_both a b c (step.Submit s k.0 ∷ []) [] k.1 (made_same b c h), k.2, k.3)
  polled_same a b c s Closed h k = (made_both a b c (step.Close s ∷ []) [] k.0 (made_same b c h), k.1)

  pub poll_same : (a b c : House W A g) (s : ℕ) (p : Poll) → s < length (core_of a).faces → PollOf work s a p b → SameHouse b c → PollOf work s a p c
  poll_same a b c s p within k h =
      let polled = polled_same a b c s p h k.polled in
      record {
        polled = polled;
        on_time = λ on. rw h.core (k.on_time on);
        paced = λ on. rw h.core (k.paced on);
        rings = h.rings ∙ k.rings;
        results = λ t. ap (λ (x : Seat W). x.results) (h.seats t) ∙ k.results t;
        same = polled_there a c s p polled within;
      }
