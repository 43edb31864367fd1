-- Each job of streams that a server bears is accepted, if the backlog suffices for as long as a job takes.
use Rattle.std.proofs.Common.{◌≡◌, ℕ, zero, suc, ◌+◌, ◌-◌, ◌/◌, ◌≤◌, ◌<◌, true, false, eqb, leb, List, [], ◌∷◌, ◌++◌, length, get_or, arith}
use Rattle.std.proofs.Common.{refl, sym, ◌∙◌, ap}
use Rattle.std.proofs.Common.{append_assoc, None, inl, inr}
use Rattle.std.specs.Prelude.{map}
use Rattle.std.specs.Int.{div_ceil}
use Rattle.std.specs.List.{sum_by, AllByRecursion}
use Rattle.std.proofs.lemmas.Bool.{cases_lt}
use Rattle.std.proofs.lemmas.Bool.Decides.{nat_tests}
use Rattle.std.proofs.lemmas.Grind.{div_ceil_times}
use Rattle.std.proofs.lemmas.List.{length-map}
use Rattle.std.proofs.lemmas.List.Sums.{sum_by-cons}
use Rattle.std.proofs.lemmas.Nat.{mul-le}
use Rattle.cbs_job.specs.Work.{Meaning}
use Rattle.cbs_lists.specs.Lists.{changed_at}
use Rattle.cbs_lists.proofs.Lists.{AllByRecursion-get}
use Rattle.cbs_lists.proofs.Sums.{sum_changed, sum_raised, sum_changed_same}
use Rattle.cbs_rate.specs.Rate.{Rate}
use Rattle.cbs_rate.specs.Plan.{all_periods}
use Rattle.cbs_steps.specs.Accounts.{Account, finished, face_of}
use Rattle.cbs_steps.specs.Charged.{KeepsChargedDue}
use Rattle.cbs_steps.specs.Faces.{backlog_of, submit_refusal}
use Rattle.cbs_steps.specs.History.{Setup, History, account, faces, after, world_after}
use Rattle.cbs_steps.specs.Laws.{account_in}
use Rattle.cbs_steps.specs.declared.step.Step.{Step}
use Rattle.cbs_steps.specs.declared.step.Step.TheVariants.{Submit}
use Rattle.cbs_steps.proofs.FinishedJobs.{count_done-le}
use Rattle.cbs_guarantee.specs.Streams.{Stream, no_stream, came, IsStream, IsBearable, all_spans, jobs_of, streams_after}
use Rattle.cbs_guarantee.specs.Streams.{AreStreams, KeepsAccepting}
use Rattle.cbs_guarantee.proofs.Debts.{IsOpenSoon}
use Rattle.cbs_guarantee.proofs.Steps.{no_jobs, total_of, total_behind, jobs_given, charge_counts, by_step}
use Rattle.cbs_guarantee.proofs.Streams.{sum_of_rates, borne_after, streams_kept}

-- the distances of a stream from `since` to when its next job may come: at least the number of its jobs since then
abbrev pub jobs_since : ℕ → Stream → ℕ
jobs_since since x = (x.open_at - since) / x.rate.period

-- a job more is a distance more
since_came : (since open_at now period : ℕ) → 0 < period → since ≤ now → open_at ≤ now → (open_at - since) / period + 1 ≤ (now + period - since) / period
since_came since open_at now period some recent late =
    let a = (open_at - since) / period in
    let b = (now + period - since) / period in
    elim (cases_lt a b) [
      | inl lt ↦ omega arith
      | inr ge ↦ let m = mul-le period b period a (omega arith) ge in absurd (omega arith)
    ]

-- the jobs of the last `within` ticks are as many as have so many distances, at most
since_most : (within open_at now period : ℕ) → 0 < period → open_at ≤ now + period → (open_at - (now + 1 - within)) / period ≤ div_ceil within period
since_most within open_at now period some soon =
    let a = (open_at - (now + 1 - within)) / period in
    let up = (div_ceil_times within period some).0 in
    elim (cases_lt (div_ceil within period) a) [
      | inr ge ↦ ge
      | inl lt ↦
          let m = mul-le (div_ceil within period + 1) period a period (omega arith) (omega arith) in
          absurd (omega arith)
    ]

-- and one less, if the next may come
since_open : (within open_at now period : ℕ) → 0 < period → 0 < within → open_at ≤ now → (open_at - (now + 1 - within)) / period + 1 ≤ div_ceil within period
since_open within open_at now period some long late =
    let a = (open_at - (now + 1 - within)) / period in
    let up = (div_ceil_times within period some).0 in
    elim (cases_lt a (div_ceil within period)) [
      | inl lt ↦ omega arith
      | inr ge ↦
          let m = mul-le (div_ceil within period) period a period ge (omega arith) in
          absurd (omega arith)
    ]

-- the sum of all such numbers grows by one if a job comes
pub all_since_came : (parts since now i : ℕ) (xs : List Stream) → AllByRecursion (IsOpenSoon parts now) xs → i < length xs → since ≤ now
    → (get_or xs i no_stream).open_at ≤ now
    → sum_by (jobs_since since) xs + 1 ≤ sum_by (jobs_since since) (changed_at (came now) xs i)
all_since_came parts since now i xs each lt recent late =
    let x = get_or xs i no_stream in
    let some = (AllByRecursion-get (IsOpenSoon parts now) xs i no_stream each lt).some in
    sum_raised (jobs_since since) (jobs_since since) (came now) xs i 1 no_stream lt (λ k within. omega arith)
    (since_came since x.open_at now x.rate.period some recent late)

-- and it is less than the backlog that suffices, if the next job of a stream may come
pub all_since_open : (parts within now i : ℕ) (xs : List Stream) → AllByRecursion (IsOpenSoon parts now) xs → i < length xs → 0 < within
    → (get_or xs i no_stream).open_at ≤ now
    → sum_by (jobs_since (now + 1 - within)) xs + 1 ≤ sum_by (λ x. div_ceil within x.rate.period) xs
all_since_open parts within now i xs each lt long late =
    let x = get_or xs i no_stream in
    let f = jobs_since (now + 1 - within) in
    let g = λ (x : Stream). div_ceil within x.rate.period in
    let some = (AllByRecursion-get (IsOpenSoon parts now) xs i no_stream each lt).some in
    let most : (k : ℕ) → k < length xs → f (get_or xs k no_stream) ≤ g (get_or xs k no_stream) = λ k lt.
    let o = AllByRecursion-get (IsOpenSoon parts now) xs k no_stream each lt in
    since_most within (get_or xs k no_stream).open_at now (get_or xs k no_stream).rate.period o.some o.soon in
    let h = sum_changed f g (λ x. x) xs i 1 no_stream lt most (since_open within x.open_at now x.rate.period some long late) in
    rw (sum_changed_same f (λ x. x) xs i (λ x. refl)) at h

-- if there is a stream, the sum of all spans is positive
pub spans_some : (rates : List Rate) (i : ℕ) → AllByRecursion IsStream rates → i < length rates → 0 < all_spans rates
spans_some [] i each lt = absurd (omega arith)
spans_some (r ∷ rates) i each lt = let h = each.0.span in omega (arith, sum_by-cons (λ (r : Rate). r.budget) r rates)

module _ {W : Type 0} (work : Meaning W) where
  -- a server whose unfinished jobs are fewer than the backlog accepts one more, unless it is closed
  pub room_accepts : (backlog : ℕ) (accounts : List (Account W)) (s : ℕ) → (account accounts s).closed ≡ false
      → length (account accounts s).accepted < finished work (account accounts s) + backlog → submit_refusal backlog (map (face_of work) accounts) s ≡ None
  room_accepts backlog [] s shut few = cc
  room_accepts backlog (a ∷ accounts) zero shut few =
      let l = count_done-le work.left a.accepted a.got in
      let room : leb backlog (backlog_of (face_of work a)) ≡ false = grind (arith, nat_tests) in
      rw (shut, room) refl
  room_accepts backlog (a ∷ accounts) (suc s) shut few = room_accepts backlog accounts s shut few

  module _ (N : History W) (keeps : KeepsChargedDue work N) (s : ℕ) (rates : List Rate) (of : ℕ → ℕ) (ok : IsBearable rates) (since : ℕ) where
    abbrev setup : Setup
    setup = N.setup

    abbrev done : ℕ
    done = finished work (account_in work N s)

    -- the sum of the numbers of all streams
    abbrev since_after : List (Step W) → ℕ
    since_after M = sum_by (jobs_since since) (streams_after work setup s rates of M)

    -- each accepted job that came before `since` is finished
    abbrev AreDone : Type 0
    AreDone = (K M : List (Step W)) (job : W) → N.steps ≡ K ++ Submit s job ∷ M → submit_refusal setup.backlog (faces work (after work setup M)) s ≡ None
        → AreStreams work setup s rates of (Submit s job ∷ M) → (after work setup M).now < since → jobs_of work setup s M < done

    -- then the others are no more than the streams give, after each of the steps
    abbrev IsCounted : List (Step W) → Type 0
    IsCounted L = (K : List (Step W)) → N.steps ≡ K ++ L → total_of work setup s L ≡ 0 → AreStreams work setup s rates of L
        → jobs_of work setup s L ≤ done + since_after L

    -- if a job comes, it is one of them, or finished
    counted_given : AreDone → (M : List (Step W)) (job : W) → submit_refusal setup.backlog (faces work (after work setup M)) s ≡ None
        → (K : List (Step W)) → N.steps ≡ K ++ Submit s job ∷ M → total_of work setup s M ≡ 0 → AreStreams work setup s rates of (Submit s job ∷ M)
        → jobs_of work setup s M ≤ done + since_after M → jobs_of work setup s (Submit s job ∷ M) ≤ done + since_after (Submit s job ∷ M)
    counted_given early M job accepted K e none are h =
        let w = after work setup M in
        let xs = streams_after work setup s rates of M in
        let i = of (jobs_of work setup s M) in
        let more = jobs_given work setup s M job accepted in
        let is = are.1 refl accepted in
        let b = borne_after work setup s rates of ok M none are.0 in
        let count : length xs ≡ length rates = sym (length-map xs (λ (x : Stream). x.rate)) ∙ ap length b.rates_are in
        let there = is.there in
        elim (cases_lt w.now since) [
          | inl past ↦ let d = early K M job e accepted are past in omega arith
          | inr recent ↦
              let itself : eqb s s ≡ true = grind (arith, nat_tests) in
              let changed : streams_after work setup s rates of (Submit s job ∷ M) ≡ changed_at (came w.now) xs i = rw (itself, accepted) refl in
              let c = all_since_came (all_periods rates) since w.now i xs b.borne.each (omega arith) recent is.late in
              rw changed (omega arith)
        ]

    jobs_counted : AreDone → (L : List (Step W)) → IsCounted L
    jobs_counted early [] = λ K e none are. let z = no_jobs work setup s in omega arith
    jobs_counted early (x ∷ M) = λ K e none are.
        let less = total_behind work setup (x ∷ []) M s in
        let f : N.steps ≡ (K ++ x ∷ []) ++ M = e ∙ sym (append_assoc K (x ∷ []) M) in
        let h = jobs_counted early M (K ++ x ∷ []) f (omega arith) are.0 in
        by_step work setup s (λ L. (K : List (Step W)) → N.steps ≡ K ++ L → AreStreams work setup s rates of L
        → jobs_of work setup s L ≤ done + since_after L) x M
        (λ job accepted K e are. counted_given early M job accepted K e (omega arith) are h)
        (λ n charged K e are. let c = (charge_counts work setup s M n charged).0 in omega arith)
        (λ other moves K e are. let j = other.jobs in rw (other.streams rates of) (omega arith))
        K e are

  -- each job of the streams is accepted
  pub accepting_kept : (N : History W) → KeepsChargedDue work N → KeepsAccepting work N
  accepting_kept N keeps = λ quiet s rates of delay ok none others enough are job is.
      let setup = N.setup in
      let w = world_after work N in
      let within = all_spans rates + delay in
      let since = w.now + 1 - within in
      let xs = streams_after work setup s rates of N.steps in
      let i = of (jobs_of work setup s N.steps) in
      let b = borne_after work setup s rates of ok N.steps none are in
      let count : length xs ≡ length rates = sym (length-map xs (λ (x : Stream). x.rate)) ∙ ap length b.rates_are in
      let there = is.there in
      let some = spans_some rates i ok.each is.there in
      let early : AreDone N keeps s rates of ok since = λ K M j e accepted are past.
      streams_kept work N keeps quiet s rates of ok none K M j (record { steps = e; accepted = accepted }) are (omega arith) in
      let all = jobs_counted N keeps s rates of ok since early N.steps [] refl none are in
      let few = all_since_open (all_periods rates) within w.now i xs b.borne.each (omega arith) (omega arith) is.late in
      let total = sum_of_rates (λ r. div_ceil within r.period) xs rates b.rates_are in
      λ shut. room_accepts setup.backlog w.accounts s shut (omega arith)
