-- Each job of streams that ask for no more than all of a server's time is finished all spans after it came.
use Rattle.std.proofs.Common.{◌≡◌, ℕ, ◌+◌, ◌-◌, ◌*◌, ◌/◌, ◌%◌, ◌≤◌, ◌<◌, true, eqb, List, [], ◌∷◌, ◌++◌, length, arith, refl, sym}
use Rattle.std.proofs.Common.{◌∙◌, ap, subst, None}
use Rattle.std.specs.Prelude.{map, max}
use Rattle.std.specs.List.{sum_by, AllByRecursion}
use Rattle.std.proofs.Math.Nat.{dvd_of_mod-eq-zero, mul-div_cancel', zero-div, zero-mod}
use Rattle.std.proofs.lemmas.Bool.Decides.{nat_tests}
use Rattle.std.proofs.lemmas.List.{length-map}
use native.Mathlib.Nat.{mul_assoc, mul_comm, mul-pos}
use Rattle.cbs_job.specs.Work.{Meaning}
use Rattle.cbs_lists.proofs.Lists.{changed_kept}
use Rattle.cbs_lists.proofs.Sums.{sum_map}
use Rattle.cbs_rate.specs.Rate.{Rate}
use Rattle.cbs_rate.specs.Plan.{share, all_periods, IsCommonMultiple}
use Rattle.cbs_rate.proofs.Multiples.{all_periods-common}
use Rattle.cbs_rules.specs.Rules.{Terms}
use Rattle.cbs_steps.specs.Charged.{Due, due_tick, charged_due, KeepsChargedDue, KeepsChargedDueEnd}
use Rattle.cbs_steps.specs.Faces.{submit_refusal}
use Rattle.cbs_steps.specs.History.{Setup, History, account, faces, start, after, charge_refusal}
use Rattle.cbs_steps.specs.declared.step.Step.{Step}
use Rattle.cbs_steps.specs.declared.step.Step.TheVariants.{Submit, Run, Charge}
use Rattle.cbs_guarantee.specs.Streams.{Stream, new_streams, came, span_of, IsStream, IsBearable, all_spans, streams_submitted, jobs_of}
use Rattle.cbs_guarantee.specs.Streams.{streams_after, next_stream}
use Rattle.cbs_guarantee.specs.Streams.{IsStreamJob, AreStreams, KeepsStreams, KeepsStreamEnds}
use Rattle.cbs_guarantee.proofs.Debts.{IsOpenSoon, IsBorne, borne_later, borne_came, borne_by, spans}
use Rattle.cbs_guarantee.proofs.Steps.{submit-now, clock_grows, terms_after, total_behind, total_of, charge_counts, by_step}

-- a product of positive periods is positive
pub periods_some : (rates : List Rate) → AllByRecursion IsStream rates → 0 < all_periods rates
periods_some [] each = omega arith
periods_some (r ∷ rates) each = mul-pos each.0.distance (periods_some rates each.1)

-- each period of such a product comes to its span
pub whole_share : (parts : ℕ) (r : Rate) → parts % r.period ≡ 0 → share parts r * r.period ≡ r.budget * parts
whole_share parts r common =
    let e : r.period * (parts / r.period) ≡ parts = mul-div_cancel' r.period {m = parts} (dvd_of_mod-eq-zero r.period common) in
    mul_assoc r.budget (parts / r.period) r.period ∙ ap (λ n. r.budget * n) (mul_comm (parts / r.period) r.period ∙ e)

-- new streams owe nothing
pub new_open : (parts : ℕ) (rates : List Rate) → IsCommonMultiple parts rates → AllByRecursion IsStream rates
    → AllByRecursion (IsOpenSoon parts 0) (new_streams rates)
new_open parts [] common each = tt
new_open parts (r ∷ rates) common each =
    (record { some = each.0.distance; soon = omega arith; whole = whole_share parts r common.0 }, new_open parts rates common.1 each.1)

-- new streams have the rates that were given
pub new_rates : (rates : List Rate) → map (λ (x : Stream). x.rate) (new_streams rates) ≡ rates
new_rates [] = refl
new_rates (r ∷ rates) = ap (λ rs. r ∷ rs) (new_rates rates)

-- no ticks have no span
pub none_due : (r : Rate) → due_tick r (record { from = 0; units = 0 }) ≡ 0
none_due r = rw (zero-div r.budget, zero-mod r.budget) (omega arith)

-- a sum over the rates of streams
pub sum_of_rates : (f : Rate → ℕ) (xs : List Stream) (rates : List Rate) → map (λ x. x.rate) xs ≡ rates → sum_by (λ x. f x.rate) xs ≡ sum_by f rates
sum_of_rates f xs rates e = sym (sum_map f (λ x. x.rate) xs) ∙ ap (sum_by f) e

module _ {W : Type 0} (work : Meaning W) (setup : Setup) (s : ℕ) where
  -- the reservation of server s, which it keeps
  abbrev pub reserved : Rate
  reserved = (account (start {W = W} setup).accounts s).terms.reservation

  pub reserved_after : (M : List (Step W)) → (account (after work setup M).accounts s).terms.reservation ≡ reserved
  reserved_after M = ap (λ (v : Terms). v.reservation) (terms_after work setup M s)

  -- when the last job that server s accepted is due
  abbrev pub due_after : List (Step W) → ℕ
  due_after M = due_tick reserved (charged_due work setup s M)

  -- by an accepted submit
  pub due_given : (M : List (Step W)) (job : W) → submit_refusal setup.backlog (faces work (after work setup M)) s ≡ None
      → charged_due work setup s (Submit s job ∷ M) ≡ record { from = max (due_after M) (after work setup M).now; units = work.left job }
  due_given M job accepted =
      let itself : eqb s s ≡ true = grind (arith, nat_tests) in
      rw (itself, accepted, reserved_after M) refl

  -- by a charge of server s
  pub due_charged : (M : List (Step W)) (n : ℕ) → charge_refusal (after work setup M) s n ≡ None
      → (let d = charged_due work setup s M in charged_due work setup s (Charge s n ∷ M) ≡ record d { units = d.units + n })
  due_charged M n charged = let itself : eqb s s ≡ true = grind (arith, nat_tests) in rw (itself, charged) refl

  module _ (rates : List Rate) (of : ℕ → ℕ) (ok : IsBearable rates) where
    abbrev parts : ℕ
    parts = all_periods rates

    abbrev now_after : List (Step W) → ℕ
    now_after M = (after work setup M).now

    abbrev streams : List (Step W) → List Stream
    streams M = streams_after work setup s rates of M

    -- what is due after the steps is borne, and the streams are those that were given
    pub record IsBorneAfter (M : List (Step W)) : Type 0 where
      pub borne : IsBorne parts (now_after M) (due_after M) (streams M)
      pub rates_are : map (λ (x : Stream). x.rate) (streams M) ≡ rates

    -- if neither a job nor anything that is due came, it is so still
    stays : (x : Step W) (M : List (Step W)) → IsBorneAfter M → due_after (x ∷ M) ≡ due_after M → streams (x ∷ M) ≡ streams M → IsBorneAfter (x ∷ M)
    stays x M h e f =
        let later = borne_later parts (now_after M) (now_after (x ∷ M) - now_after M) (due_after M) (streams M) h.borne in
        let g = clock_grows work setup.backlog (after work setup M) x in
        let n : now_after M + (now_after (x ∷ M) - now_after M) ≡ now_after (x ∷ M) = omega arith in
        record { borne = rw (e, f) (rw n at later); rates_are = rw f h.rates_are }

    -- if a job of a stream comes
    given : (job : W) (M : List (Step W)) → submit_refusal setup.backlog (faces work (after work setup M)) s ≡ None → IsStreamJob work setup s rates of M job
        → IsBorneAfter M → IsBorneAfter (Submit s job ∷ M)
    given job M accepted is h =
        let i = of (jobs_of work setup s M) in
        let itself : eqb s s ≡ true = grind (arith, nat_tests) in
        let changed : streams (Submit s job ∷ M) ≡ streams_submitted (streams M) (now_after M) i None = rw (itself, accepted) refl in
        let stands : now_after (Submit s job ∷ M) ≡ now_after M =
        submit-now work (after work setup M) s job (submit_refusal setup.backlog (faces work (after work setup M)) s) in
        let due : due_after (Submit s job ∷ M) ≡ max (due_after M) (now_after M) + span_of reserved (work.left job) =
        ap (due_tick reserved) (due_given M job accepted) in
        let count : length (streams M) ≡ length rates = sym (length-map (streams M) (λ x. x.rate)) ∙ ap length h.rates_are in
        let there = is.there in
        let small : span_of reserved (work.left job) ≤ (next_stream work setup s rates of M).rate.budget = rw (reserved_after M) at is.small in
        let more = borne_came parts (now_after M) (due_after M) (span_of reserved (work.left job)) i (streams M) h.borne (omega arith) is.late small in
        record {
          borne = rw (changed, stands, due) more;
          rates_are = rw changed (changed_kept (λ (x : Stream). x.rate) (came (now_after M)) (streams M) i (λ x. refl) ∙ h.rates_are);
        }

    -- so it is after all steps whose jobs are those of the streams, if the server is charged nothing
    pub borne_after : (M : List (Step W)) → total_of work setup s M ≡ 0 → AreStreams work setup s rates of M → IsBorneAfter M
    borne_after [] none are = record {
      borne = record {
        borne = let z = none_due reserved in rw z (omega arith);
        each = new_open parts rates (all_periods-common rates) ok.each;
        fits = rw
            (sum_of_rates (share parts) (new_streams rates) rates (new_rates rates)) ok.fits;
      };
      rates_are = new_rates rates;
    }
    borne_after (x ∷ M) none are = by_step work setup s (λ L. total_of work setup s L ≡ 0 → AreStreams work setup s rates of L → IsBorneAfter L) x M
        (λ job accepted none are. given job M accepted (are.1 refl accepted) (borne_after M (before (Submit s job) none) are.0))
        (λ n charged none are.
        let c = (charge_counts work setup s M n charged).1 in
        let d = charged_due work setup s M in
        let z : d.units + n ≡ d.units = omega arith in
        let same : due_after (Charge s n ∷ M) ≡ due_after M = ap (due_tick reserved) (due_charged M n charged) ∙ rw z refl in
        stays (Charge s n) M (borne_after M (before (Charge s n) none) are.0) same refl)
        (λ other moves none are. stays x M (borne_after M (before x none) are.0) (ap (due_tick reserved) other.due) (other.streams rates of)) none are
      where
        before : (x : Step W) → total_of work setup s (x ∷ M) ≡ 0 → total_of work setup s M ≡ 0
        before x none = let h = total_behind work setup (x ∷ []) M s in omega arith

module _ {W : Type 0} (work : Meaning W) where
  -- while nothing is charged, a job of streams is due when the streams' spans have passed
  due_in_spans : (N : History W) (s : ℕ) (rates : List Rate) (of : ℕ → ℕ) → IsBearable rates → total_of work N.setup s N.steps ≡ 0
      → (K M : List (Step W)) (job : W) → N.steps ≡ K ++ Submit s job ∷ M → AreStreams work N.setup s rates of (Submit s job ∷ M)
      → (let L = Submit s job ∷ M in
      let d = charged_due work N.setup s L in
      let behind : Due = record d { units = d.units + (total_of work N.setup s N.steps - total_of work N.setup s L) } in
      due_tick (account (after work N.setup L).accounts s).terms.reservation behind ≤ (after work N.setup M).now + all_spans rates)
  due_in_spans N s rates of ok none K M job is are =
      let setup = N.setup in
      let L = Submit s job ∷ M in
      let less : total_of work setup s L ≤ total_of work setup s (K ++ L) = total_behind work setup K L s in
      let all : total_of work setup s (K ++ L) ≡ 0 = subst (λ A. total_of work setup s A ≡ 0) is none in
      let h = borne_after work setup s rates of ok L (omega arith) are in
      let by = borne_by (all_periods rates) (after work setup L).now (due_after work setup s L) (streams_after work setup s rates of L)
      (periods_some rates ok.each) h.borne in
      let e : spans (streams_after work setup s rates of L) ≡ all_spans rates =
      sum_of_rates (λ r. r.budget) (streams_after work setup s rates of L) rates h.rates_are in
      let stands : (after work setup L).now ≡ (after work setup M).now =
      submit-now work (after work setup M) s job (submit_refusal setup.backlog (faces work (after work setup M)) s) in
      let d = charged_due work setup s L in
      let nothing : d.units + (total_of work setup s N.steps - total_of work setup s L) ≡ d.units = omega arith in
      rw (nothing, reserved_after work setup s L) (omega arith)

  -- each job is finished when the streams' spans have passed, by the law of what is due
  pub streams_kept : (N : History W) → KeepsChargedDue work N → KeepsStreams work N
  streams_kept N keeps = λ quiet s rates of ok none K M job is are late.
      let due = due_in_spans N s rates of ok none K M job is.steps are in
      keeps quiet K M s job is (omega arith)

  -- and it ends as soon
  pub stream_ends_kept : (N : History W) → KeepsChargedDueEnd work N → KeepsStreamEnds work N
  stream_ends_kept N ends = λ quiet s rates of ok none C K M job is are.
      let due = due_in_spans N s rates of ok none (C ++ Run ∷ K) M job is.job_of.steps are in
      let last = ends quiet C K M s job is in
      omega arith
