-- Each job of streams that a server bears is accepted, though it is submitted late, if the backlog suffices for as long as a
-- job takes from its release on.
use Rattle.std.proofs.Common.{◌≡◌, ℕ, ◌+◌, ◌-◌, ◌≤◌, ◌<◌, true, eqb, List, [], ◌∷◌, ◌++◌, length, arith, refl, sym, ◌∙◌, ap, append_assoc, None, inl, inr}
use Rattle.std.specs.Int.{div_ceil}
use Rattle.std.specs.List.{sum_by}
use Rattle.std.proofs.lemmas.Bool.{cases_lt}
use Rattle.std.proofs.lemmas.Bool.Decides.{nat_tests}
use Rattle.std.proofs.lemmas.List.{length-map}
use Rattle.cbs_job.specs.Work.{Meaning}
use Rattle.cbs_lists.specs.Lists.{changed_at}
use Rattle.cbs_rate.specs.Rate.{Rate}
use Rattle.cbs_rate.specs.Plan.{all_periods}
use Rattle.cbs_steps.specs.Accounts.{finished}
use Rattle.cbs_steps.specs.Charged.{KeepsChargedDue}
use Rattle.cbs_steps.specs.Faces.{submit_refusal}
use Rattle.cbs_steps.specs.History.{Setup, History, faces, after, world_after}
use Rattle.cbs_steps.specs.Laws.{account_in}
use Rattle.cbs_steps.specs.declared.step.Step.{Step}
use Rattle.cbs_steps.specs.declared.step.Step.TheVariants.{Submit}
use Rattle.cbs_guarantee.specs.Late.{AreInOrder, released_after, AreReleased, KeepsLateAccepting}
use Rattle.cbs_guarantee.specs.Streams.{Stream, came, IsBearable, all_spans, jobs_of}
use Rattle.cbs_guarantee.proofs.Accepting.{jobs_since, all_since_came, all_since_open, spans_some, room_accepts}
use Rattle.cbs_guarantee.proofs.Debts.{borne_later}
use Rattle.cbs_guarantee.proofs.Late.{late_after, late_kept}
use Rattle.cbs_guarantee.proofs.Steps.{no_jobs, total_of, total_behind, jobs_given, charge_counts, by_step}
use Rattle.cbs_guarantee.proofs.Streams.{sum_of_rates}

module _ {W : Type 0} (work : Meaning W) where
  module _ (N : History W) (s : ℕ) (released : ℕ → ℕ) (rates : List Rate) (of : ℕ → ℕ) (passed : ℕ) (ok : IsBearable rates) (order : AreInOrder released) (since : ℕ) where
    abbrev setup : Setup
    setup = N.setup

    abbrev done : ℕ
    done = finished work (account_in work N s)

    -- the sum of the numbers of all streams
    abbrev since_after : List (Step W) → ℕ
    since_after M = sum_by (jobs_since since) (released_after work setup s released rates of M)

    -- each accepted job that was released before `since` is finished
    abbrev AreDone : Type 0
    AreDone = (K M : List (Step W)) (job : W) → N.steps ≡ K ++ Submit s job ∷ M → submit_refusal setup.backlog (faces work (after work setup M)) s ≡ None
        → AreReleased work setup s released rates of passed (Submit s job ∷ M) → released (jobs_of work setup s M) < since → jobs_of work setup s M < done

    -- then the others are no more than the streams give, after each of the steps
    abbrev IsCounted : List (Step W) → Type 0
    IsCounted L = (K : List (Step W)) → N.steps ≡ K ++ L → total_of work setup s L ≡ 0 → AreReleased work setup s released rates of passed L
        → jobs_of work setup s L ≤ done + since_after L

    -- if a job comes, it is one of them, or finished
    counted_given : AreDone → (M : List (Step W)) (job : W) → submit_refusal setup.backlog (faces work (after work setup M)) s ≡ None
        → (K : List (Step W)) → N.steps ≡ K ++ Submit s job ∷ M → total_of work setup s M ≡ 0 → AreReleased work setup s released rates of passed (Submit s job ∷ M)
        → jobs_of work setup s M ≤ done + since_after M → jobs_of work setup s (Submit s job ∷ M) ≤ done + since_after (Submit s job ∷ M)
    counted_given early M job accepted K e none are h =
        let xs = released_after work setup s released rates of M in
        let q = jobs_of work setup s M in
        let i = of q in
        let r = released q in
        let more = jobs_given work setup s M job accepted in
        let is = are.1 refl accepted in
        let b = late_after work setup s released rates of passed ok order M none are.0 in
        let count : length xs ≡ length rates = sym (length-map xs (λ (x : Stream). x.rate)) ∙ ap length b.rates_are in
        let there = is.there in
        let before = b.before in
        let f : b.last + (r - b.last) ≡ r = omega arith in
        let later = rw f at (borne_later (all_periods rates) b.last (r - b.last) b.due xs b.borne) in
        elim (cases_lt r since) [
          | inl past ↦ let d = early K M job e accepted are past in omega arith
          | inr recent ↦
              let itself : eqb s s ≡ true = grind (arith, nat_tests) in
              let changed : released_after work setup s released rates of (Submit s job ∷ M) ≡ changed_at (came r) xs i = rw (itself, accepted) refl in
              let c = all_since_came (all_periods rates) since r i xs later.each (omega arith) recent is.apart in
              rw changed (omega arith)
        ]

    jobs_counted : AreDone → (L : List (Step W)) → IsCounted L
    jobs_counted early [] = λ K e none are. let z = no_jobs work setup s in omega arith
    jobs_counted early (x ∷ M) = λ K e none are.
        let less = total_behind work setup (x ∷ []) M s in
        let f : N.steps ≡ (K ++ x ∷ []) ++ M = e ∙ sym (append_assoc K (x ∷ []) M) in
        let h = jobs_counted early M (K ++ x ∷ []) f (omega arith) are.0 in
        by_step work setup s (λ L. (K : List (Step W)) → N.steps ≡ K ++ L → AreReleased work setup s released rates of passed L
        → jobs_of work setup s L ≤ done + since_after L) x M
        (λ job accepted K e are. counted_given early M job accepted K e (omega arith) are h)
        (λ n charged K e are. let c = (charge_counts work setup s M n charged).0 in omega arith)
        (λ other moves K e are. let j = other.jobs in rw (other.released released rates of) (omega arith))
        K e are

  -- each job of the streams is accepted
  pub late_accepting_kept : (N : History W) → KeepsChargedDue work N → KeepsLateAccepting work N
  late_accepting_kept N keeps = λ quiet s released rates of passed delay ok order none others enough are job is.
      let setup = N.setup in
      let w = world_after work N in
      let q = jobs_of work setup s N.steps in
      let r = released q in
      let within = all_spans rates + delay + passed in
      let since = r + 1 - within in
      let xs = released_after work setup s released rates of N.steps in
      let i = of q in
      let b = late_after work setup s released rates of passed ok order N.steps none are in
      let count : length xs ≡ length rates = sym (length-map xs (λ (x : Stream). x.rate)) ∙ ap length b.rates_are in
      let there = is.there in
      let out = is.out in
      let before = b.before in
      let f : b.last + (r - b.last) ≡ r = omega arith in
      let later = rw f at (borne_later (all_periods rates) b.last (r - b.last) b.due xs b.borne) in
      let some = spans_some rates i ok.each is.there in
      let early : AreDone N s released rates of passed ok order since = λ K M j e accepted are past.
      late_kept work N keeps quiet s released rates of passed ok order none K M j (record { steps = e; accepted = accepted }) are (omega arith) in
      let all = jobs_counted N s released rates of passed ok order since early N.steps [] refl none are in
      let few = all_since_open (all_periods rates) within r i xs later.each (omega arith) (omega arith) is.apart in
      let total = sum_of_rates (λ r. div_ceil within r.period) xs rates b.rates_are in
      λ shut. room_accepts work setup.backlog w.accounts s shut (omega arith)
