-- How each change of its parts keeps what is true of a house.
use Rattle.std.proofs.Common.{◌≡◌, ◌≢◌, ℕ, ◌<◌, ◌≤◌, ◌+◌, Bool, true, false, Some, Result, Ok, Err, OnOk, OnErr, List, [], ◌∷◌, ◌++◌, drop, length, map, refl, ap, sym, ◌∙◌, arith}
use Rattle.std.proofs.Common.{inl, inr, length-append}
use Rattle.std.proofs.lemmas.List.{append_assoc, map-append, length-map, length-drop, drop-drop, drop-append-le, append-nil}
use Rattle.std.proofs.Math.Seq.{drop-append_seam}
use Rattle.std.specs.List.{All}
use Rattle.std.proofs.lemmas.Bool.{cases_eq, cases_lt}
use Rattle.cbs_job.specs.Work.{Meaning, whole}
use Rattle.cbs_job.specs.declared.completion.Completion.{Completion}
use Rattle.cbs_core.proofs.Laws.{holds_within, none_beyond, history_kept, backlog_kept}
use Rattle.cbs_core.specs.Held.{Held, CoreHeld, held_at, SameJobs, TakesJob, RunsJob, FinishesJob, EndsJob, front_output, ClosesServer, DoesRun, OthersSame, HoldsNoJob}
use Rattle.cbs_steps.specs.declared.reply.Ran.{Ran}
use Rattle.cbs_steps.specs.declared.step.Step.{Step}
use Rattle.cbs_steps.specs.declared.reply.Ran.TheVariants as ran
use Rattle.cbs_clients.specs.declared.message.Message.{Message}
use Rattle.cbs_clients.specs.declared.message.Message.TheVariants.{Job, End}
use Rattle.cbs_clients.specs.declared.rings.Rings.{Rings}
use Rattle.cbs_results.specs.Collected.{Shelved, shelf_at, no_shelf, taken, SameShelf, OtherShelvesSame, HandsOut, IsComplete, IsNext, TakesEarly}
use Rattle.cbs_clients.specs.HouseInvariant.{KeepsServer, KeepsShelf, Housed}
use Rattle.cbs_clients.specs.Messages.{jobs_among}
use Rattle.cbs_clients.specs.Rings.{rings_in, received_in}
use Rattle.cbs_core.specs.Agreement.{Follows, HasHistory}
use Rattle.cbs_clients.proofs.Messages.{jobs_among-job, jobs_among-end, has_end-job, has_end-end, end_is_last-more}
use Rattle.cbs_clients.specs.Houses.{core_of, results_of, AllFinished}
use Rattle.cbs_job.specs.declared.work.Work.{Ghosts}
use Rattle.cbs_clients.specs.declared.house.House.{House}

-- a shelf is the same as itself
pub same_shelf : (h : Shelved) → SameShelf h h
same_shelf h = record { handed = refl; results = refl; announced = refl; spare = λ l. l; early = refl }

-- if nothing was handed out of one shelf, and the others are as before, nothing was handed out of any
pub none_handed : (old new : List Shelved) (t : ℕ) → (shelf_at new t).handed ≡ (shelf_at old t).handed → (shelf_at new t).early ≡ (shelf_at old t).early
    → OtherShelvesSame t old new → (s : ℕ) → ((shelf_at new s).handed ≡ (shelf_at old s).handed) × ((shelf_at new s).early ≡ (shelf_at old s).early)
none_handed old new t here early others s = elim (cases_eq s t) [
  | inl e ↦ rw e (here, early)
  | inr ne ↦ ((others s ne).handed, (others s ne).early)
]

module _ {W : Type 0} (work : Meaning W) (h h' : Held W) (ms ms' : List (Message W)) (n n' : ℕ) (y y' : Bool) (rs rs' : List ℕ) (k : KeepsServer work h ms n y rs) where
  -- the house keeps a server if jobs, messages and results are the same
  pub keeps_same : SameJobs h h' → ms' ≡ ms → n' ≡ n → rs' ≡ rs → y' ≡ y → KeepsServer work h' ms' n' y' rs'
  keeps_same s e i f j = rw (e, i, f, j) (record {
    outputs = λ none. rw s.jobs (k.outputs none);
    held = rw s.jobs k.held;
    within = k.within;
    accepted = s.accepted ∙ k.accepted;
    finished = s.finished ∙ k.finished;
    closed = s.closed ∙ k.closed;
    last = k.last;
  })

  -- through a job that is taken
  pub keeps_job : (job : W) (q : ℕ) → TakesJob job q h h' → h.face.closed ≡ false → ms' ≡ ms ++ Job job ∷ [] → n' ≡ n → rs' ≡ rs
      → y' ≡ y → KeepsServer work h' ms' n' y' rs'
  keeps_job job q t unclosed e i f j = rw (e, i, f, j) (record {
    held = rw (t.jobs, jobs_among-job ms job, map-append (whole work) h.jobs (job ∷ []), map-append (whole work) (jobs_among ms) (job ∷ []), k.held)
        (sym (drop-append-le (n + length rs) (map (whole work) (jobs_among ms)) (whole work job ∷ [])
        (let w = k.within in omega (arith, w, length-map (jobs_among ms) (whole work)))));
    outputs = λ none. rw (
      t.jobs,
      jobs_among-job ms job,
      map-append (whole work) h.jobs (job ∷ []),
      map-append (whole work) (jobs_among ms) (job ∷ []),
      ← append_assoc rs (map (whole work) h.jobs) (whole work job ∷ []),
      k.outputs none,
    )
        (sym (drop-append-le n (map (whole work) (jobs_among ms)) (whole work job ∷ [])
        (let w = k.within in omega (arith, w, length-map (jobs_among ms) (whole work)))));
    within = let w = k.within in rw (jobs_among-job ms job) (omega (arith, w, length-append (jobs_among ms) (job ∷ [])));
    accepted = let a = t.accepted in let b = k.accepted in rw (jobs_among-job ms job) (omega (arith, length-append (jobs_among ms) (job ∷ [])));
    finished = t.finished ∙ k.finished;
    closed = t.closed ∙ (k.closed ∙ sym (has_end-job ms job));
    last = end_is_last-more ms (Job job) (sym k.closed ∙ unclosed);
  })

  -- through an end
  pub keeps_end : ClosesServer h h' → h.face.closed ≡ false → ms' ≡ ms ++ End ∷ [] → n' ≡ n → rs' ≡ rs → y' ≡ y → KeepsServer work h' ms' n' y' rs'
  keeps_end t unclosed e i f j = rw (e, i, f, j) (record {
    outputs = λ none. rw (t.jobs, jobs_among-end ms) (k.outputs none);
    held = rw (t.jobs, jobs_among-end ms) k.held;
    within = rw (jobs_among-end ms) k.within;
    accepted = rw (jobs_among-end ms) (t.accepted ∙ k.accepted);
    finished = t.finished ∙ k.finished;
    closed = t.closed ∙ sym (has_end-end ms);
    last = end_is_last-more ms End (sym k.closed ∙ unclosed);
  })

  -- through a unit that is not the last
  pub keeps_unit : (q : ℕ) → RunsJob work q h h' → ms' ≡ ms → n' ≡ n → rs' ≡ rs → y' ≡ y → KeepsServer work h' ms' n' y' rs'
  keeps_unit q t e i f j = rw (e, i, f, j) (record {
    outputs = λ none. rw t.results (k.outputs none);
    held = rw t.results k.held;
    within = k.within;
    accepted = t.accepted ∙ k.accepted;
    finished = t.finished ∙ k.finished;
    closed = t.closed ∙ k.closed;
    last = k.last;
  })

  -- the results of the jobs after the first one held
  next_held : (x : ℕ) (xs : List ℕ) {rest : List ℕ} → xs ≡ x ∷ rest → xs ≡ drop (n + length rs) (map (whole work) (jobs_among ms))
      → rest ≡ drop (n + length (rs ++ x ∷ [])) (map (whole work) (jobs_among ms))
  next_held x xs {rest} e d =
      let all = map (whole work) (jobs_among ms) in
      let place : n + length (rs ++ x ∷ []) ≡ n + length rs + 1 = omega (arith, length-append rs (x ∷ [])) in
      rw place (sym (sym (drop-drop 1 (n + length rs) all) ∙ ap (drop 1) (sym d ∙ e)))

  next_within : (x : ℕ) (rest : List ℕ) → x ∷ rest ≡ drop (n + length rs) (map (whole work) (jobs_among ms)) → n + length (rs ++ x ∷ []) ≤ length (jobs_among ms)
  next_within x rest d =
      let all = map (whole work) (jobs_among ms) in
      let c = ap length d in
      omega (arith, length-append rs (x ∷ []), length-drop (n + length rs) all, length-map (jobs_among ms) (whole work))

  -- through the last unit of a job
  pub keeps_done : (c : Completion) → FinishesJob work c h h' → ms' ≡ ms → n' ≡ n → rs' ≡ rs ++ c.result ∷ [] → y' ≡ y → KeepsServer work h' ms' n' y' rs'
  keeps_done c t e i f j = rw (e, i, f, j) (record {
    outputs = λ none. append_assoc rs (c.result ∷ []) (map (whole work) h'.jobs) ∙ rw (← t.results) (k.outputs none);
    held = next_held c.result (c.result ∷ map (whole work) h'.jobs) refl (sym t.results ∙ k.held);
    within = next_within c.result (map (whole work) h'.jobs) (sym t.results ∙ k.held);
    accepted = t.accepted ∙ k.accepted;
    finished = let a = t.finished in let b = k.finished in omega (arith, length-append rs (c.result ∷ []));
    closed = t.closed ∙ k.closed;
    last = k.last;
  })

  -- through the early end of a job
  pub keeps_ended : (c : Completion) → EndsJob work c h h' → ms' ≡ ms → n' ≡ n → rs' ≡ rs ++ c.result ∷ [] → y' ≡ true → KeepsServer work h' ms' n' y' rs'
  keeps_ended c t e i f j = rw (e, i, f, j) (go h.jobs refl t.result)
    where
      go : (jobs : List W) → h.jobs ≡ jobs → front_output work jobs ≡ Some c.result → KeepsServer work h' ms n true (rs ++ c.result ∷ [])
      go [] first out = absurd (cc)
      go (job ∷ jobs) first out =
          let left : h'.jobs ≡ jobs = rw first at t.jobs in
          let d : whole work job ∷ map (whole work) jobs ≡ drop (n + length rs) (map (whole work) (jobs_among ms)) = rw first at k.held in
          let same : length (rs ++ c.result ∷ []) ≡ length (rs ++ whole work job ∷ []) =
          omega (arith, length-append rs (whole work job ∷ []), length-append rs (c.result ∷ [])) in
          record {
            outputs = λ none. absurd (cc);
            held = rw (left, same) (next_held (whole work job) (whole work job ∷ map (whole work) jobs) refl d);
            within = rw same (next_within (whole work job) (map (whole work) jobs) d);
            accepted = t.accepted ∙ k.accepted;
            finished = let a = t.finished in let b = k.finished in omega (arith, length-append rs (c.result ∷ []));
            closed = t.closed ∙ k.closed;
            last = k.last;
          }

  -- the results that were handed out, those that are kept, and the jobs held are as many as the jobs received
  pub counts : n + length rs + length h.jobs ≡ length (jobs_among ms)
  counts =
      let e = ap length k.held in
      let w = k.within in
      omega (arith, length-map h.jobs (whole work), length-map (jobs_among ms) (whole work), length-drop (n + length rs) (map (whole work) (jobs_among ms)), e, w)

  -- all results are handed out: none of them is kept, and they are counted
  pub keeps_handed : n' ≡ n + length rs → rs' ≡ [] → y' ≡ y → KeepsServer work h ms n' y' rs'
  keeps_handed i f j = rw (i, f, j) (record {
    outputs = λ none. sym (drop-append_seam rs (map (whole work) h.jobs))
        ∙ (ap (drop (length rs)) (k.outputs none) ∙ drop-drop (length rs) n (map (whole work) (jobs_among ms)));
    held = let z : n + length rs + 0 ≡ n + length rs = omega arith in rw z k.held;
    within = let w = k.within in omega arith;
    accepted = k.accepted;
    finished = let e = k.finished in omega (arith, e);
    closed = k.closed;
    last = k.last;
  })

module _ {W A : Type 0} {g : Ghosts W} (work : Meaning W) (core core' : CoreHeld W) (rings rings' : Rings W A g) (shelves shelves' : List Shelved)
    (h : Housed work core rings shelves) where
  -- one server is changed, and the others are as before
  housed_change :
      (t : ℕ) → rings_in rings' ≡ rings_in rings → length shelves' ≡ length shelves → length core'.faces ≡ length core.faces → HasHistory work core'
      → core'.backlog ≡ core.backlog
      → (t < length core.faces → KeepsShelf work (held_at core' t) (received_in rings' t) (shelf_at shelves' t))
      → (t < length core.faces → (shelf_at shelves' t).announced ≡ (held_at core' t).face.accepted)
      → ((s : ℕ) → s ≢ t → SameJobs (held_at core s) (held_at core' s))
      → ((s : ℕ) → s ≢ t → received_in rings' s ≡ received_in rings s)
      → ((s : ℕ) → s ≢ t → SameShelf (shelf_at shelves s) (shelf_at shelves' s))
      → Housed work core' rings' shelves'
  housed_change t r n c history backlog here told cores messages results = record {
    ring_count = ap length r ∙ (h.ring_count ∙ sym c);
    shelf_count = n ∙ (h.shelf_count ∙ sym c);
    servers = λ s l. elim (cases_eq s t) [
      | inl e ↦ rw e (here (omega (arith, e, c, l)))
      | inr ne ↦ keeps_same work (held_at core s) (held_at core' s) (received_in rings s) (received_in rings' s)
          (shelf_at shelves s).handed (shelf_at shelves' s).handed (shelf_at shelves s).early (shelf_at shelves' s).early (shelf_at shelves s).results (shelf_at shelves' s).results
          (h.servers s (omega (arith, c, l))) (cores s ne) (messages s ne) (results s ne).handed (results s ne).results (results s ne).early
    ];
    announced = λ s l. elim (cases_eq s t) [
      | inl e ↦ rw e (told (omega (arith, e, c, l)))
      | inr ne ↦ (results s ne).announced ∙ (h.announced s (omega (arith, c, l)) ∙ sym (cores s ne).accepted)
    ];
    history = history;
    backlog = rw backlog h.backlog;
  }

  -- by some steps
  pub housed_one :
      (t : ℕ) → rings_in rings' ≡ rings_in rings → length shelves' ≡ length shelves → length core'.faces ≡ length core.faces → (xs : List (Step W))
      → Follows work core core' xs
      → (t < length core.faces → KeepsShelf work (held_at core' t) (received_in rings' t) (shelf_at shelves' t))
      → (t < length core.faces → (shelf_at shelves' t).announced ≡ (held_at core' t).face.accepted)
      → ((s : ℕ) → s ≢ t → SameJobs (held_at core s) (held_at core' s))
      → ((s : ℕ) → s ≢ t → received_in rings' s ≡ received_in rings s)
      → ((s : ℕ) → s ≢ t → SameShelf (shelf_at shelves s) (shelf_at shelves' s))
      → Housed work core' rings' shelves'
  housed_one t r n c xs follows = housed_change t r n c (history_kept work core core' xs h.history follows) (backlog_kept work core core' xs h.history follows)

  -- a job that ends early is the next one whose result is awaited
  pub ended_next : (x : Completion) (s : ℕ) → x.server ≡ s → EndsJob work x (held_at core s) (held_at core' s) → IsNext shelves x
  ended_next x s e f =
      let some = held_first (held_at core s).jobs f.result in
      let l = holds_within work core h.history s some in
      let k = h.servers s l in
      let shelf = shelf_at shelves s in
      let all = counts work (held_at core s) (held_at core s) (received_in rings s) (received_in rings s) shelf.handed shelf.handed
      shelf.early shelf.early shelf.results shelf.results k in
      let known : s < length shelves = omega (arith, h.shelf_count, l) in
      let number : x.seq ≡ taken shelf = f.number ∙ k.finished in
      let announced : x.seq < shelf.announced = let a = k.finished in let b = k.accepted in omega (arith, h.announced s l, all, some) in
      record { known = rw e known; number = rw e number; announced = rw e announced }
    where
      held_first : (jobs : List W) → {o : ℕ} → front_output work jobs ≡ Some o → 0 < length jobs
      held_first [] out = absurd (cc)
      held_first (job ∷ jobs) out = omega arith

  -- its early end
  pub housed_ended : (x : Completion) (s : ℕ) → x.server ≡ s → EndsJob work x (held_at core s) (held_at core' s) → OthersSame s core core'
      → HasHistory work core' → length core'.faces ≡ length core.faces → core'.backlog ≡ core.backlog → rings' ≡ rings → length shelves' ≡ length shelves
      → TakesEarly x.result (shelf_at shelves x.server) (shelf_at shelves' x.server) → OtherShelvesSame x.server shelves shelves' → Housed work core' rings' shelves'
  housed_ended x s e f others history c b r n took shelves-others =
      let t : TakesEarly x.result (shelf_at shelves s) (shelf_at shelves' s) = rw e at took in
      let rest : OtherShelvesSame s shelves shelves' = rw e at shelves-others in
      housed_change s (ap rings_in r) n c history b
      (λ l. rw r (keeps_ended work (held_at core s) (held_at core' s) (received_in rings s) (received_in rings s) (shelf_at shelves s).handed (shelf_at shelves' s).handed
      (shelf_at shelves s).early (shelf_at shelves' s).early (shelf_at shelves s).results (shelf_at shelves' s).results (h.servers s l) x f refl t.handed t.results t.early))
      (λ l. t.announced ∙ (h.announced s l ∙ sym f.accepted))
      others (λ u ne. rw r refl) rest

  -- all servers are as before
  pub housed_all :
      rings_in rings' ≡ rings_in rings → length shelves' ≡ length shelves → length core'.faces ≡ length core.faces → (xs : List (Step W))
      → Follows work core core' xs
      → ((s : ℕ) → SameJobs (held_at core s) (held_at core' s))
      → ((s : ℕ) → received_in rings' s ≡ received_in rings s)
      → ((s : ℕ) → SameShelf (shelf_at shelves s) (shelf_at shelves' s))
      → Housed work core' rings' shelves'
  housed_all r n c xs follows cores messages results = record {
    ring_count = ap length r ∙ (h.ring_count ∙ sym c);
    shelf_count = n ∙ (h.shelf_count ∙ sym c);
    servers = λ s l. keeps_same work (held_at core s) (held_at core' s) (received_in rings s) (received_in rings' s)
        (shelf_at shelves s).handed (shelf_at shelves' s).handed (shelf_at shelves s).early (shelf_at shelves' s).early (shelf_at shelves s).results (shelf_at shelves' s).results
        (h.servers s (omega (arith, c, l))) (cores s) (messages s) (results s).handed (results s).results (results s).early;
    announced = λ s l. (results s).announced ∙ (h.announced s (omega (arith, c, l)) ∙ sym (cores s).accepted);
    history = history_kept work core core' xs h.history follows;
    backlog = rw (backlog_kept work core core' xs h.history follows) h.backlog;
  }

  -- the results of one server are handed out
  pub housed_handed : (t : ℕ) → core' ≡ core → rings' ≡ rings → length shelves' ≡ length shelves → HandsOut (shelf_at shelves t) (shelf_at shelves' t)
      → ((s : ℕ) → s ≢ t → SameShelf (shelf_at shelves s) (shelf_at shelves' s)) → Housed work core' rings' shelves'
  housed_handed t c r n here others = housed_one t (ap rings_in r) n (ap (λ (x : CoreHeld W). length x.faces) c) [] (λ M agrees. rw c agrees)
      (λ l. rw (c, r) (keeps_handed work (held_at core t) (held_at core t) (received_in rings t) (received_in rings t)
      (shelf_at shelves t).handed (shelf_at shelves' t).handed (shelf_at shelves t).early (shelf_at shelves' t).early (shelf_at shelves t).results (shelf_at shelves' t).results
      (h.servers t l) here.handed here.results here.early))
      (λ l. rw c (here.announced ∙ h.announced t l))
      (λ s ne. rw c (record { jobs = refl; accepted = refl; finished = refl; closed = refl })) (λ s ne. rw r refl) others

  -- they are handed out, or nothing changed, by the result
  pub housed_answered : {X E : Type 0} (r : Result X E) (t : ℕ) → core' ≡ core → rings' ≡ rings → length shelves' ≡ length shelves
      → OnOk r (HandsOut (shelf_at shelves t) (shelf_at shelves' t))
      → OnErr r (shelves' ≡ shelves) → ((s : ℕ) → s ≢ t → SameShelf (shelf_at shelves s) (shelf_at shelves' s)) → Housed work core' rings' shelves'
  housed_answered (Ok x) t c r n ok err others = housed_handed t c r n ok others
  housed_answered (Err e) t c r n ok err others = rw (c, r, err) h

  -- a run that finished no job
  pub housed_ran : (r : Ran) → ((c : Completion) → r ≡ ran.Done c → ⊥) → DoesRun work r core core' → length core'.faces ≡ length core.faces
      → (xs : List (Step W)) → Follows work core core' xs
      → rings_in rings' ≡ rings_in rings → ((s : ℕ) → received_in rings' s ≡ received_in rings s) → shelves' ≡ shelves → Housed work core' rings' shelves'
  housed_ran ran.Idle n d c xs follows r m e = housed_all r (ap length e) c xs follows
      (λ s. rw d (record { jobs = refl; accepted = refl; finished = refl; closed = refl })) m (λ s. rw e (same_shelf _))
  housed_ran ran.ClockEnd n d c xs follows r m e = housed_all r (ap length e) c xs follows
      (λ s. rw d (record { jobs = refl; accepted = refl; finished = refl; closed = refl })) m (λ s. rw e (same_shelf _))
  housed_ran (ran.Unit t q) n d c xs follows r m e =
      housed_one t r (ap length e) c xs follows
      (λ l. keeps_unit work (held_at core t) (held_at core' t) (received_in rings t) (received_in rings' t)
      (shelf_at shelves t).handed (shelf_at shelves' t).handed (shelf_at shelves t).early (shelf_at shelves' t).early (shelf_at shelves t).results (shelf_at shelves' t).results
      (h.servers t l) q d.0 (m t) (rw e refl) (rw e refl) (rw e refl))
      (λ l. rw e (h.announced t l ∙ sym d.0.accepted))
      d.1 (λ s ne. m s) (λ s ne. rw e (same_shelf _))
  housed_ran (ran.Done x) n d c xs follows r m e = absurd (n x refl)

  -- a finished job is the next one whose result is awaited
  pub finished_next : (x : Completion) → FinishesJob work x (held_at core x.server) (held_at core' x.server) → IsNext shelves x
  finished_next x f =
      let s = x.server in
      let l = holds_within work core h.history s (let e = ap length f.results in omega (arith, length-map (held_at core s).jobs (whole work))) in
      let k = h.servers s l in
      let shelf = shelf_at shelves s in
      let all = counts work (held_at core s) (held_at core' s) (received_in rings s) (received_in rings s) shelf.handed shelf.handed
      shelf.early shelf.early shelf.results shelf.results k in
      let some : length (held_at core s).jobs ≡ length (held_at core' s).jobs + 1 =
      let e = ap length f.results in omega (arith, e, length-map (held_at core s).jobs (whole work), length-map (held_at core' s).jobs (whole work)) in
      record {
        known = omega (arith, h.shelf_count, l);
        number = f.number ∙ k.finished;
        announced = let a = k.finished in let b = k.accepted in let n = f.number in omega (arith, h.announced s l, all, some);
      }

no_jobs : {W : Type 0} (n m : ℕ) (ws : List W) → n + length ws ≡ m → m ≡ n → ws ≡ []
no_jobs n m [] e k = refl
no_jobs n m (w ∷ ws) e k = absurd (omega (arith, e, k))

-- if every completion that was announced was taken, no job is held
pub held_none : {W A : Type 0} {g : Ghosts W} (work : Meaning W) (core : CoreHeld W) (rings : Rings W A g) (shelves : List Shelved) → Housed work core rings shelves
    → All IsComplete shelves → (s : ℕ) → (held_at core s).jobs ≡ []
held_none work core rings shelves h complete s = elim (cases_lt s (length core.faces)) [
  | inl l ↦
      let k = h.servers s l in
      let shelf = shelf_at shelves s in
      let all = counts work (held_at core s) (held_at core s) (received_in rings s) (received_in rings s) shelf.handed shelf.handed
      shelf.early shelf.early shelf.results shelf.results k in
      let done = complete s no_shelf (omega (arith, h.shelf_count, l)) in
      no_jobs (taken shelf) (length (jobs_among (received_in rings s))) (held_at core s).jobs all (sym k.accepted ∙ (sym (h.announced s l) ∙ done))
  | inr ge ↦ none_beyond work core h.history s ge
]

module _ {W A : Type 0} {g : Ghosts W} (work : Meaning W) (h : House W A g) (housed : Housed work h.core h.rings h.collector) where
  -- if no job is held, every job received is finished
  pub none_held : HoldsNoJob (core_of h) → AllFinished work h
  none_held none s l early = sym (append-nil (results_of h s)) ∙ (ap (λ ws. results_of h s ++ map (whole work) ws) (sym (none s)) ∙ (housed.servers s l).outputs early)
