-- What a report counts of a server whose moves keep what is promised.
use Rattle.std.proofs.Common.{Some, None, subst, ◌≡◌, ℕ, ◌+◌, ◌≤◌, ◌<◌, List, [], ◌∷◌, ◌++◌, length, arith, refl}
use Rattle.std.proofs.Common.{Option, length-append}
use Rattle.std.specs.List.{AllByRecursion}
use Rattle.std.specs.Option.{option_to_list}
use Rattle.cbsrun_figures.specs.Figures.{accepted_job, waiting, put_off, newest, settled, total, refusals}
use Rattle.cbsrun_figures.specs.declared.job.AcceptedJob.{AcceptedJob}
use Rattle.cbsrun_figures.specs.declared.job.Finish.{Finish}
use Rattle.cbsrun_simulate.specs.Loading.{loading}
use Rattle.cbsrun_simulate.specs.declared.load_job.LoadJob.{LoadJob}
use Rattle.cbs_steps.specs.Accounts.{Account, finished}
use Rattle.cbs_steps.specs.declared.reply.Ran.TheVariants as ran
use Rattle.cbs_steps.specs.declared.view.ServerView.{ServerView}
use Rattle.cbsrun_events.specs.declared.seen.Arrival.{Arrival}
use Rattle.cbsrun_events.specs.declared.seen.Event.TheVariants as event
use Rattle.cbsrun_events.specs.declared.seen.Seen.{Seen}

-- what holds of all of a list, and of all of another, holds of all of both
pub all_append : (P : Finish → Type 0) (xs ys : List Finish) → AllByRecursion P xs → AllByRecursion P ys → AllByRecursion P (xs ++ ys)
all_append P [] ys some rest = rest
all_append P (x ∷ xs) ys some rest = (some.0, all_append P xs ys some.1 rest)

module _ (released : ℕ → ℕ) (time : ℕ) where
  -- the job ended in time
  abbrev pub IsSoon : Finish → Type 0
  IsSoon job = job.at ≤ job.job.came + time

  -- so it is of a list of it
  pub listed : (o : Option Finish) → ((job : Finish) → o ≡ Some job → IsSoon job) → AllByRecursion IsSoon (option_to_list o)
  listed None all = tt
  listed (Some job) all = (all job refl, tt)

  -- the jobs that wait are those with the numbers from k on
  abbrev pub CameFrom : ℕ → List AcceptedJob → Type 0
  CameFrom k [] = Unit {0}
  CameFrom k (job ∷ jobs) = (job.came ≡ released k) × CameFrom (k + 1) jobs

  -- one job more
  came_more : (k : ℕ) (jobs : List AcceptedJob) (job : AcceptedJob) → CameFrom k jobs → job.came ≡ released (k + length jobs) → CameFrom k (jobs ++ job ∷ [])
  came_more k [] job came is = let z : k + 0 ≡ k = omega arith in (rw z at is, tt)
  came_more k (x ∷ jobs) job came is =
      let e : k + length (x ∷ jobs) ≡ k + 1 + length jobs = omega arith in
      (came.0, came_more (k + 1) jobs job came.1 (rw e at is))

  -- the steps of a server with this account tell that none of its jobs was refused, and that each ended in time
  pub record Tells (a : Account LoadJob) (own : List Seen) : Type 0 where
    pub some : AllByRecursion (λ j. 0 < loading.left j) a.accepted
    pub refused : total (λ o. refusals o.event) own ≡ 0
    pub before : AllByRecursion IsSoon (settled own)
    pub last : (job : Finish) → newest own ≡ Some job → IsSoon job
    pub came : CameFrom (finished loading a) (waiting own)
    pub count : finished loading a + length (waiting own) ≡ length a.accepted

  -- nothing changed
  pub tells_still : (a b : Account LoadJob) (own : List Seen) → b.accepted ≡ a.accepted → finished loading b ≡ finished loading a → Tells a own → Tells b own
  tells_still a b own jobs done h = record {
    some = rw jobs h.some;
    refused = h.refused;
    before = h.before;
    last = h.last;
    came = rw done h.came;
    count = rw (done, jobs) h.count;
  }

  all_push : (js : List LoadJob) (j : LoadJob) → AllByRecursion (λ j. 0 < loading.left j) js → 0 < loading.left j
      → AllByRecursion (λ j. 0 < loading.left j) (js ++ j ∷ [])
  all_push [] j all some = (some, tt)
  all_push (x ∷ js) j all some = (all.0, all_push js j all.1 some)

  -- a job was accepted
  pub tells_job : (a b : Account LoadJob) (own : List Seen) (j : LoadJob) (clock number : ℕ) (job : Arrival) (promised : Option ℕ) (view : Option ServerView)
      → b.accepted ≡ a.accepted ++ j ∷ [] → finished loading b ≡ finished loading a → 0 < loading.left j → job.came ≡ released (length a.accepted)
      → Tells a own → Tells b (record { clock = clock; event = event.Accepted job number promised; view = view } ∷ own)
  tells_job a b own j clock number job promised view jobs done some came h =
      let count = h.count in
      let k = finished loading a in
      let is : job.came ≡ released (k + length (waiting own)) = rw count came in
      record {
        some = rw jobs (all_push a.accepted j h.some some);
        refused = let r = h.refused in omega arith;
        before = h.before;
        last = h.last;
        came = rw done (came_more k (waiting own) _ h.came is);
        count = rw (done, jobs) (omega (arith, length-append (waiting own) (accepted_job job promised ∷ []), length-append a.accepted (j ∷ [])));
      }

  -- a unit finished no job
  pub tells_unit : (a b : Account LoadJob) (own : List Seen) (clock t q : ℕ) (view : Option ServerView)
      → b.accepted ≡ a.accepted → finished loading b ≡ finished loading a → Tells a own
      → Tells b (record { clock = clock; event = event.Ran (ran.Unit t q); view = view } ∷ own)
  tells_unit a b own clock t q view jobs done h = record {
    some = rw jobs h.some;
    refused = let r = h.refused in omega arith;
    before = all_append IsSoon (settled own) (option_to_list (newest own)) h.before (listed (newest own) h.last);
    last = λ job told. cc;
    came = rw done h.came;
    count = rw (done, jobs) h.count;
  }

  -- a unit finished the oldest job in time
  pub tells_done : (a b : Account LoadJob) (own : List Seen) (clock : ℕ) (c : _) (view : Option ServerView)
      → b.accepted ≡ a.accepted → finished loading b ≡ finished loading a + 1 → finished loading a < length a.accepted
      → clock ≤ released (finished loading a) + time → Tells a own
      → Tells b (record { clock = clock; event = event.Ran (ran.Done c); view = view } ∷ own)
  tells_done a b own clock c view jobs done lt soon h = go (waiting own) refl
    where
      go : (js : List AcceptedJob) → waiting own ≡ js → Tells b (record { clock = clock; event = event.Ran (ran.Done c); view = view } ∷ own)
      go [] e = let count : finished loading a + length {A = AcceptedJob} [] ≡ length a.accepted = rw e at h.count in absurd (omega arith)
      go (j ∷ js) e =
          let count : finished loading a + length (j ∷ js) ≡ length a.accepted = rw e at h.count in
          let came : CameFrom (finished loading a) (j ∷ js) = rw e at h.came in
          let first = came.0 in
          record {
            some = rw jobs h.some;
            refused = let r = h.refused in omega arith;
            before = all_append IsSoon (settled own) (option_to_list (newest own)) h.before (listed (newest own) h.last);
            last = λ job told.
                let ended : Finish = record { job = j; at = clock } in
                let g : Some ended ≡ Some job = rw e at told in
                let is : ended ≡ job = cc in
                subst IsSoon is (omega arith);
            came = rw (e, done) came.1;
            count = rw (e, done, jobs) (omega arith);
          }

  -- a charge of the server puts off the end of the job that its unit finished
  pub tells_charge : (a b : Account LoadJob) (own : List Seen) (clock t n : ℕ) (view : Option ServerView)
      → b.accepted ≡ a.accepted → finished loading b ≡ finished loading a → ((job : Finish) → newest own ≡ Some job → clock ≤ job.job.came + time)
      → Tells a own → Tells b (record { clock = clock; event = event.Charged t n; view = view } ∷ own)
  tells_charge a b own clock t n view jobs done soon h = record {
    some = rw jobs h.some;
    refused = let r = h.refused in omega arith;
    before = h.before;
    last = later (newest own) soon;
    came = rw done h.came;
    count = rw (done, jobs) h.count;
  }
    where
      later : (o : Option Finish) → ((job : Finish) → o ≡ Some job → clock ≤ job.job.came + time) → (job : Finish) → put_off clock o ≡ Some job → IsSoon job
      later None soon job told = cc
      later (Some x) soon job told =
          let ended : Finish = record { job = x.job; at = clock } in
          let is : ended ≡ job = cc in
          subst IsSoon is (soon x refl)
