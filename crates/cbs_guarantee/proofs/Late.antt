-- Jobs that are submitted late end late by no more than that.
use Rattle.std.proofs.Common.{◌≡◌, ℕ, ◌+◌, ◌-◌, ◌≤◌, true, eqb, List, [], ◌∷◌, ◌++◌, length, arith, refl, sym, ◌∙◌, ap, subst, None}
use Rattle.std.specs.Prelude.{map, max}
use Rattle.std.proofs.lemmas.Bool.Decides.{nat_tests}
use Rattle.std.proofs.lemmas.List.{length-map}
use Rattle.cbs_job.specs.Work.{Meaning}
use Rattle.cbs_lists.proofs.Lists.{changed_kept}
use Rattle.cbs_rate.specs.Rate.{Rate}
use Rattle.cbs_rate.specs.Plan.{share, all_periods}
use Rattle.cbs_rate.proofs.Multiples.{all_periods-common}
use Rattle.cbs_steps.specs.Charged.{due_tick, charged_due, KeepsChargedDue, KeepsChargedDueEnd}
use Rattle.cbs_steps.specs.Faces.{submit_refusal}
use Rattle.cbs_steps.specs.History.{Setup, History, faces, after}
use Rattle.cbs_steps.specs.Promises.{IsJobOf}
use Rattle.cbs_steps.specs.declared.step.Step.{Step}
use Rattle.cbs_steps.specs.declared.step.Step.TheVariants.{Submit, Run, Charge}
use Rattle.cbs_guarantee.specs.Late.{AreInOrder, released_after, IsReleasedJob, AreReleased, KeepsLate, KeepsLateEnds}
use Rattle.cbs_guarantee.specs.Streams.{Stream, new_streams, came, span_of, IsBearable, IsUncharged, all_spans, streams_submitted, jobs_of}
use Rattle.cbs_guarantee.proofs.Debts.{IsBorne, borne_later, borne_came, borne_by, spans}
use Rattle.cbs_guarantee.proofs.Steps.{total_behind, total_of, jobs_given, charge_counts, by_step}
use Rattle.cbs_guarantee.proofs.Streams.{periods_some, new_open, new_rates, none_due, sum_of_rates, reserved, reserved_after, due_after, due_given, due_charged}

module _ {W : Type 0} (work : Meaning W) (setup : Setup) (s : ℕ) (released : ℕ → ℕ) (rates : List Rate) (of : ℕ → ℕ) (passed : ℕ) (ok : IsBearable rates)
    (order : AreInOrder released) where
  abbrev parts : ℕ
  parts = all_periods rates

  abbrev streams : List (Step W) → List Stream
  streams M = released_after work setup s released rates of M

  abbrev jobs : List (Step W) → ℕ
  jobs M = jobs_of work setup s M

  -- What would be due if each job came when it was released is borne, when the last one was. What is due is later by
  -- `passed` ticks at most. The streams are those that were given
  pub record IsLate (M : List (Step W)) : Type 0 where
    pub last : ℕ
    pub due : ℕ
    pub before : last ≤ released (jobs M)
    pub borne : IsBorne parts last due (streams M)
    pub late : due_after work setup s M ≤ due + passed
    pub rates_are : map (λ (x : Stream). x.rate) (streams M) ≡ rates

  -- if nothing of that changes, it is so still
  stays : (x : Step W) (M : List (Step W)) → IsLate M → due_after work setup s (x ∷ M) ≡ due_after work setup s M → streams (x ∷ M) ≡ streams M
      → jobs (x ∷ M) ≡ jobs M → IsLate (x ∷ M)
  stays x M h e f g = record {
    last = h.last;
    due = h.due;
    before = rw g h.before;
    borne = rw f h.borne;
    late = rw e h.late;
    rates_are = rw f h.rates_are;
  }

  -- if a job of a stream comes, it is the last one
  given : (job : W) (M : List (Step W)) → submit_refusal setup.backlog (faces work (after work setup M)) s ≡ None → IsReleasedJob work setup s released rates of passed M job
      → IsLate M → (k : IsLate (Submit s job ∷ M)) × (k.last ≡ released (jobs M))
  given job M accepted is h =
      let q = jobs M in
      let i = of q in
      let r = released q in
      let itself : eqb s s ≡ true = grind (arith, nat_tests) in
      let changed : streams (Submit s job ∷ M) ≡ streams_submitted (streams M) r i None = rw (itself, accepted) refl in
      let due : due_after work setup s (Submit s job ∷ M) ≡ max (due_after work setup s M) (after work setup M).now + span_of (reserved work setup s) (work.left job) =
      ap (due_tick (reserved work setup s)) (due_given work setup s M job accepted) in
      let count : length (streams M) ≡ length rates = sym (length-map (streams M) (λ x. x.rate)) ∙ ap length h.rates_are in
      let there = is.there in
      let small = rw (reserved_after work setup s M) at is.small in
      let before = h.before in
      let e : h.last + (r - h.last) ≡ r = omega arith in
      let later : IsBorne parts r h.due (streams M) = rw e at (borne_later parts h.last (r - h.last) h.due (streams M) h.borne) in
      let more = borne_came parts r h.due (span_of (reserved work setup s) (work.left job)) i (streams M) later (omega arith) is.apart small in
      let one = jobs_given work setup s M job accepted in
      let next = order q (jobs (Submit s job ∷ M)) (omega arith) in
      let soon = is.late in
      let late = h.late in (
        record {
          last = r;
          due = max h.due r + span_of (reserved work setup s) (work.left job);
          before = next;
          borne = rw changed more;
          late = rw due (omega arith);
          rates_are = rw changed (changed_kept (λ (x : Stream). x.rate) (came r) (streams M) i (λ x. refl) ∙ h.rates_are);
        },
        refl,
      )

  -- so it is after all steps whose jobs are released so, if the server is charged nothing
  pub late_after : (M : List (Step W)) → total_of work setup s M ≡ 0 → AreReleased work setup s released rates of passed M → IsLate M
  late_after [] none are = record {
    last = 0;
    due = 0;
    before = omega arith;
    borne = record {
      borne = omega arith;
      each = new_open parts rates (all_periods-common rates) ok.each;
      fits = rw (sum_of_rates (share parts) (new_streams rates) rates (new_rates rates)) ok.fits;
    };
    late = let z = none_due (reserved work setup s) in rw z (omega arith);
    rates_are = new_rates rates;
  }
  late_after (x ∷ M) none are = by_step work setup s (λ L. total_of work setup s L ≡ 0 → AreReleased work setup s released rates of passed L → IsLate L) x M
      (λ job accepted none are. (given job M accepted (are.1 refl accepted) (late_after M (before (Submit s job) none) are.0)).0)
      (λ n charged none are.
      let c = charge_counts work setup s M n charged in
      let counts = c.1 in
      let d = charged_due work setup s M in
      let z : d.units + n ≡ d.units = omega arith in
      let same : due_after work setup s (Charge s n ∷ M) ≡ due_after work setup s M = ap (due_tick (reserved work setup s)) (due_charged work setup s M n charged) ∙ rw z refl in
      stays (Charge s n) M (late_after M (before (Charge s n) none) are.0) same refl c.0)
      (λ other moves none are. stays x M (late_after M (before x none) are.0) (ap (due_tick (reserved work setup s)) other.due) (other.released released rates of) other.jobs) none are
    where
      before : (x : Step W) → total_of work setup s (x ∷ M) ≡ 0 → total_of work setup s M ≡ 0
      before x none = let h = total_behind work setup (x ∷ []) M s in omega arith

module _ {W : Type 0} (work : Meaning W) (N : History W) (s : ℕ) (released : ℕ → ℕ) (rates : List Rate) (of : ℕ → ℕ) (passed : ℕ) (ok : IsBearable rates)
    (order : AreInOrder released) (none : IsUncharged work N s) where
  -- a job that came is due by its release, all spans, and what it is late
  due_late : (K M : List (Step W)) (job : W) → IsJobOf work N K M s job → AreReleased work N.setup s released rates of passed (Submit s job ∷ M)
      → (let L = Submit s job ∷ M in
      (due_after work N.setup s L ≤ released (jobs_of work N.setup s M) + all_spans rates + passed)
      × ((charged_due work N.setup s L).units + (total_of work N.setup s N.steps - total_of work N.setup s L) ≡ (charged_due work N.setup s L).units))
  due_late K M job is are =
      let setup = N.setup in
      let L = Submit s job ∷ M in
      let steps : N.steps ≡ K ++ L = is.steps in
      let less : total_of work setup s L ≤ total_of work setup s (K ++ L) = total_behind work setup K L s in
      let all : total_of work setup s (K ++ L) ≡ 0 = subst (λ A. total_of work setup s A ≡ 0) steps none in
      let start = late_after work setup s released rates of passed ok order M (let h = total_behind work setup (Submit s job ∷ []) M s in omega arith) are.0 in
      let came = given work setup s released rates of passed ok order job M is.accepted (are.1 refl is.accepted) start in
      let h = came.0 in
      let at = came.1 in
      let by = borne_by (all_periods rates) h.last h.due (released_after work setup s released rates of L) (periods_some rates ok.each) h.borne in
      let e : spans (released_after work setup s released rates of L) ≡ all_spans rates =
      sum_of_rates (λ r. r.budget) (released_after work setup s released rates of L) rates h.rates_are in
      let d = charged_due work setup s L in
      let late = h.late in
      (omega arith, omega arith)

module _ {W : Type 0} (work : Meaning W) where
  -- a job is finished in time
  pub late_kept : (N : History W) → KeepsChargedDue work N → KeepsLate work N
  late_kept N keeps = λ quiet s released rates of passed ok order none K M job is are late.
      let due = due_late work N s released rates of passed ok order none K M job is are in
      let by = due.0 in
      keeps quiet K M s job is (rw (due.1, reserved_after work N.setup s (Submit s job ∷ M)) (omega arith))

  -- and ends in time
  pub late_ends_kept : (N : History W) → KeepsChargedDueEnd work N → KeepsLateEnds work N
  late_ends_kept N ends = λ quiet s released rates of passed ok order none C K M job is are.
      let due = due_late work N s released rates of passed ok order none (C ++ Run ∷ K) M job is.job_of are in
      let by = due.0 in
      let last = rw (due.1, reserved_after work N.setup s (Submit s job ∷ M)) at (ends quiet C K M s job is) in
      omega arith
