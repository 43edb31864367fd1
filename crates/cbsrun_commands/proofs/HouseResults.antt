-- The results that a house has after it served the jobs of a file.
use Rattle.std.proofs.Common.{false, ◌≡◌, ℕ, List, [], ◌∷◌, ◌++◌, drop, length, map, refl, sym, ap, ap₂, ◌∙◌, subst}
use Rattle.std.specs.List.{All, range_with_len}
use Rattle.std.proofs.lemmas.List.Elements.{All-head, All-tail, All-weaker}
use Rattle.std.proofs.lemmas.Simd.{map-map}
use Rattle.cbs_job.specs.Work.{Meaning, whole}
use Rattle.cbs_job.specs.declared.work.Work.{Ghosts}
use Rattle.cbs_job.specs.FileJobs.{of_files}
use Rattle.cbs_job.specs.declared.file.FileJob.{FileJob}
use mathlib.Core.List.{IsPrefix}
use Rattle.cbs_core.specs.Agreement.{Agrees}
use Rattle.cbs_core.specs.Held.{CoreHeld, IsAtEnd}
use Rattle.cbs_host.specs.Meters.{NothingBeyond}
use Rattle.cbs_steps.specs.declared.step.Step.{Step}
use Rattle.cbs_clients.specs.Clients.{server_of}
use Rattle.cbs_house.specs.Feeds.{client_of, unsent_jobs, all_jobs, KeepsFeeds}
use Rattle.cbs_clients.specs.Houses.{Seat, core_of, rings_of, received, results_of, handed_of, early_of, seat_at, new_seat, ServesOn}
use Rattle.cbs_clients.specs.Messages.{jobs_among}
use Rattle.cbs_clients.specs.Steps.{messages_of}
use Rattle.cbs_clients.specs.Opened.{IsUnused}
use Rattle.cbs_house.specs.Rounds.{Ready, ReceivesFirst, IsServed, Stops}
use Rattle.cbs_clients.specs.declared.error.HouseError.{HouseError}
use Rattle.cbs_clients.specs.declared.error.HouseError.TheVariants as house
use Rattle.cbs_house.specs.declared.feed.Feed.{Feed}
use Rattle.cbs_clients.specs.declared.house.House.{House}
use Rattle.cbs_house.proofs.Feeds.{feeds_servers, feeds_jobs, unused_jobs, all_of_feeds}
use Rattle.cbs_clients.proofs.Moves.{serves_rings}
use Rattle.cbs_core.proofs.Laws.{new_count, terms_count}
use Rattle.cbsrun_tasks.specs.TaskFiles.{File, IsFile}
use Rattle.cbsrun_commands.specs.ResultLines.{jobs_for, results_by_server}
use Rattle.cbsrun_commands.specs.Verbs.{ComesTo, IsLeftOpen, HouseStops}
use Rattle.cbsrun_runs.specs.Tasks.{start_of_tasks}
use Rattle.cbsrun_commands.proofs.ServedJobs.{jobs_taken, received_first, some_open, feeds_orderly}

module _ {X Y : Type 0} where
  -- what is the same for each element is the same for all
  map_all : (f k : X → Y) (xs : List X) → All (λ x. f x ≡ k x) xs → map f xs ≡ map k xs
  map_all f k [] h = refl
  map_all f k (x ∷ xs) h = ap₂ ◌∷◌ (All-head (λ x. f x ≡ k x) x xs h) (map_all f k xs (All-tail (λ x. f x ≡ k x) x xs h))

module _ {W A : Type 0} {g : Ghosts W} where
  -- the jobs of feeds that are kept, if their clients had sent nothing
  pub jobs_kept : (ring : ℕ) (fs fs' : List (Feed W A g)) (jobs : List (List W)) → All (λ f. IsUnused ring (client_of f)) fs → map unsent_jobs fs ≡ jobs
      → KeepsFeeds fs fs' → map all_jobs fs' ≡ jobs
  jobs_kept ring fs fs' jobs unused lefts kept =
      feeds_jobs fs fs' kept ∙ (map_all all_jobs unsent_jobs fs
      (All-weaker (λ f. IsUnused ring (client_of f)) (λ f. all_jobs f ≡ unsent_jobs f) (unused_jobs ring) fs unused) ∙ lefts)

  -- if nothing was handed out, and no job ended early, the results of the servers are those of the lists of jobs
  pub results_are : (work : Meaning W) (h : House W A g) (ring n : ℕ) (fs fs' : List (Feed W A g)) (jobs : List (List W))
      → All (λ f. IsUnused ring (client_of f)) fs
      → map (λ f. server_of (client_of f)) fs ≡ range_with_len 0 n → map unsent_jobs fs ≡ jobs → KeepsFeeds fs fs' → ((s : ℕ) → handed_of h s ≡ 0)
      → ((s : ℕ) → early_of h s ≡ false)
      → All (IsServed work h) fs' → map (results_of h) (range_with_len 0 n) ≡ map (map (whole work)) jobs
  results_are work h ring n fs fs' jobs unused servers lefts kept none early served =
      let numbers : map (λ f. server_of (client_of f)) fs' ≡ range_with_len 0 n = feeds_servers fs fs' kept ∙ servers in
      let all = jobs_kept ring fs fs' jobs unused lefts kept in
      let each : map (λ f. results_of h (server_of (client_of f))) fs' ≡ map (λ f. map (whole work) (all_jobs f)) fs' =
      map_all (λ f. results_of h (server_of (client_of f))) (λ f. map (whole work) (all_jobs f)) fs'
      (All-weaker (IsServed work h) (λ f. results_of h (server_of (client_of f)) ≡ map (whole work) (all_jobs f))
      (λ f s. s.results (early (server_of (client_of f))) ∙ ap (λ k. drop k (map (whole work) (all_jobs f))) (none (server_of (client_of f)))) fs' served) in
      ap (map (results_of h)) (sym numbers) ∙ (map-map (results_of h) (λ f. server_of (client_of f)) fs'
      ∙ (each ∙ (sym (map-map (map (whole work)) all_jobs fs') ∙ ap (map (map (whole work))) all)))

module _ {A : Type 0} {g : Ghosts FileJob} (f : File) where
  -- a house that served has the servers that it was opened with
  pub served_count : (a b : House FileJob A g) → Agrees of_files (core_of a) (start_of_tasks f) → ServesOn of_files a b → IsFile f
      → length (core_of b).faces ≡ length f.plan.rates
  served_count a b agrees on lawful =
      sym b.housed.ring_count ∙ (ap length (serves_rings of_files a b on)
      ∙ (a.housed.ring_count ∙ (new_count of_files (core_of a) (start_of_tasks f).setup agrees ∙ terms_count f.modes f.plan.rates lawful.moded)))

  module _ (a b : House FileJob A g) (fs : List (Feed FileJob A g)) (ring : ℕ) (agrees : Agrees of_files (core_of a) (start_of_tasks f)) (lawful : IsFile f)
      (empty : (s : ℕ) → seat_at a s ≡ new_seat) (unused : All (λ f. IsUnused ring (client_of f)) fs)
      (servers : map (λ f. server_of (client_of f)) fs ≡ range_with_len 0 (length f.plan.rates))
      (lefts : map unsent_jobs fs ≡ map (λ s. jobs_for s f.steps) (range_with_len 0 (length f.plan.rates))) (on : ServesOn of_files a b) where
    -- the state of a house that served the file, and what its steps submit
    comes_to : (fs' : List (Feed FileJob A g)) (state : CoreHeld FileJob → Type 0) → KeepsFeeds fs fs' → All (ReceivesFirst b) fs' → state (core_of b)
        → ComesTo f state
    comes_to fs' state kept first comes =
        let m = on.moves.1 in
        let count = b.housed.ring_count ∙ served_count a b agrees on lawful in
        let taken : (s : ℕ) → received b s ≡ messages_of s m.steps =
        λ s. (m.made.seats s).received ∙ ap (λ (x : Seat FileJob). x.received ++ messages_of s m.steps) (empty s) in
        record {
          steps = m.steps;
          core = core_of b;
          allowed = m.each (start_of_tasks f) agrees;
          submits = λ s. subst (λ (js : List FileJob). IsPrefix js (jobs_for s f.steps)) (ap jobs_among (taken s) ∙ jobs_taken s m.steps)
              (received_first b (length f.plan.rates) s (λ t. jobs_for t f.steps) fs' count (feeds_servers fs fs' kept ∙ servers)
              (jobs_kept ring fs fs' _ unused lefts kept) first);
          agrees = m.made.steps (start_of_tasks f) agrees;
          comes = comes;
        }

    -- why a house that serves the file stops
    pub stops_short : (fs' : List (Feed FileJob A g)) (e : HouseError) → Ready b fs' → KeepsFeeds fs fs' → All (ReceivesFirst b) fs'
        → Stops of_files NothingBeyond a fs b fs' e → HouseStops f e
    stops_short fs' house.OutOfMemory ready kept first s = tt
    stops_short fs' house.ClockEnd ready kept first s = comes_to fs' IsAtEnd kept first s
    stops_short fs' house.Stalled ready kept first s =
        comes_to fs' IsLeftOpen kept first (record {
          drained = s.0.drained;
          unclosed = some_open b fs' (all_of_feeds (rings_of b) fs' ready.opened) (feeds_orderly ring fs fs' unused kept) s.0.settled s.0.undone;
        })
    stops_short fs' house.BadBacklog ready kept first s = s
    stops_short fs' house.BadRing ready kept first s = s
    stops_short fs' house.NoSuchServer ready kept first s = s
    stops_short fs' house.NotRunning ready kept first s = s

-- the lists of jobs, and the results of each server
pub jobs_are : (f : File) (n : ℕ) (steps : List (Step FileJob)) → n ≡ length f.plan.rates → steps ≡ f.steps
    → map (λ s. jobs_for s steps) (range_with_len 0 n) ≡ map (λ s. jobs_for s f.steps) (range_with_len 0 (length f.plan.rates))
jobs_are f n steps servers same = rw (servers, same) refl

-- the whole results of the jobs, server by server, are those of the file
pub by_server : (f : File) → map (map (whole of_files)) (map (λ s. jobs_for s f.steps) (range_with_len 0 (length f.plan.rates))) ≡ results_by_server f
by_server f = map-map (map (whole of_files)) (λ s. jobs_for s f.steps) (range_with_len 0 (length f.plan.rates))
