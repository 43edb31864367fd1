-- What is not enough at a period is not enough at a longer one.
use Rattle.std.proofs.Common.{◌≡◌, ℕ, zero, suc, ◌+◌, ◌*◌, ◌/◌, ◌%◌, ◌≤◌, ◌<◌, Bool, true, false, eqb, ◌&&◌, min, List, [], ◌∷◌, arith, refl, inl, inr, ap, ◌∙◌, Option, Some, None}
use Rattle.std.specs.Int.{div_ceil}
use Rattle.std.specs.List.{sum_by, list_all, AllByRecursion}
use Rattle.std.proofs.Math.Nat.{lt_of_mul-lt-mul_right}
use Rattle.std.proofs.lemmas.Bool.Decides.{nat_tests}
use Rattle.std.proofs.lemmas.Nat.{mul-le}
use Rattle.std.proofs.lemmas.Grind.{div_ceil_times}
use Rattle.std.proofs.lemmas.List.Sums.{sum_by-cons}
use Rattle.cbs_rate.specs.Rate.{Rate}
use Rattle.cbs_rate.specs.Plan.{share, all_periods, common_multiple, common_multiple_from}
use Rattle.cbs_guarantee.specs.Sources.{ticks_of, streams_of, time_for}
use Rattle.cbs_guarantee.specs.Streams.{span_of, all_spans, backlog_for, IsStream, IsBearable}
use Rattle.cbs_guarantee.specs.declared.source.NotPromised.TheVariants as why
use Rattle.cbs_guarantee.specs.declared.source.Source.{Source}
use Rattle.cbsrun_proposals.specs.Proposals.{rate, is_by, IsNotEnough}
use Rattle.cbsrun_proposals.specs.declared.wanted.Wanted.{Wanted}

-- more is rounded up to no less
ceil-le : (a b n : ℕ) → a ≤ b → div_ceil a n ≤ div_ceil b n
ceil-le a b zero h = omega arith
ceil-le a b (suc n) h =
    let x = div_ceil_times a (suc n) (omega arith) in
    let y = div_ceil_times b (suc n) (omega arith) in
    let most : (a / suc n + min 1 (a % suc n)) * suc n < (b / suc n + min 1 (b % suc n) + 1) * suc n = omega arith in
    let less = lt_of_mul-lt-mul_right (suc n) most in
    omega arith

module _ (q t u : ℕ) (some : 0 < t) (le : t ≤ u) where
  -- spans are no longer
  span-le : (ticks : ℕ) → span_of (rate q t) ticks ≤ span_of (rate q u) ticks
  span-le ticks = mul-le (div_ceil ticks q) t (div_ceil ticks q) u (omega arith) le

  spans-le : (sources : List Source) → all_spans (streams_of (rate q t) sources) ≤ all_spans (streams_of (rate q u) sources)
  spans-le [] = omega arith
  spans-le (x ∷ xs) =
      let f : Rate → ℕ = λ r. r.budget in
      omega (
        arith,
        sum_by-cons f (record { budget = span_of (rate q t) (ticks_of x); period = x.every }) (streams_of (rate q t) xs),
        sum_by-cons f (record { budget = span_of (rate q u) (ticks_of x); period = x.every }) (streams_of (rate q u) xs),
        span-le (ticks_of x),
        spans-le xs,
      )

  -- nor does a sum of shares rise
  shares-le : (P : ℕ) (sources : List Source) → sum_by (share P) (streams_of (rate q t) sources) ≤ sum_by (share P) (streams_of (rate q u) sources)
  shares-le P [] = omega arith
  shares-le P (x ∷ xs) =
      let m = mul-le (span_of (rate q t) (ticks_of x)) (P / x.every) (span_of (rate q u) (ticks_of x)) (P / x.every) (span-le (ticks_of x)) (omega arith) in
      omega (
        arith,
        sum_by-cons (share P) (record { budget = span_of (rate q t) (ticks_of x); period = x.every }) (streams_of (rate q t) xs),
        sum_by-cons (share P) (record { budget = span_of (rate q u) (ticks_of x); period = x.every }) (streams_of (rate q u) xs),
        m,
        shares-le P xs,
      )

  -- nor does the backlog that is needed
  backlog-le : (v w : ℕ) → v ≤ w → (sources : List Source) → backlog_for v (streams_of (rate q t) sources) ≤ backlog_for w (streams_of (rate q u) sources)
  backlog-le v w h [] = omega arith
  backlog-le v w h (x ∷ xs) =
      omega (
        arith,
        sum_by-cons (λ r. div_ceil v r.period) (record { budget = span_of (rate q t) (ticks_of x); period = x.every }) (streams_of (rate q t) xs),
        sum_by-cons (λ r. div_ceil w r.period) (record { budget = span_of (rate q u) (ticks_of x); period = x.every }) (streams_of (rate q u) xs),
        ceil-le v w x.every h,
        backlog-le v w h xs,
      )

  -- the distances of the jobs are the same
  periods_same : (sources : List Source) → all_periods (streams_of (rate q t) sources) ≡ all_periods (streams_of (rate q u) sources)
  periods_same [] = refl
  periods_same (x ∷ xs) = ap (λ n. x.every * n) (periods_same xs)

  divides_same : (n : ℕ) (sources : List Source)
      → list_all (λ r. eqb (n % r.period) 0) (streams_of (rate q t) sources) ≡ list_all (λ r. eqb (n % r.period) 0) (streams_of (rate q u) sources)
  divides_same n [] = refl
  divides_same n (x ∷ xs) = ap (λ b. eqb (n % x.every) 0 && b) (divides_same n xs)

  multiple_from : (from room : ℕ) (sources : List Source)
      → common_multiple_from (streams_of (rate q t) sources) from room ≡ common_multiple_from (streams_of (rate q u) sources) from room
  multiple_from from zero sources = refl
  multiple_from from (suc room) sources =
      let on : Bool → ℕ → ℕ = λ b n. elim b [ true ↦ from | false ↦ n ] in
      ap (λ b. on b (common_multiple_from (streams_of (rate q t) sources) (from + 1) room)) (divides_same from sources)
      ∙ ap (on (list_all (λ r. eqb (from % r.period) 0) (streams_of (rate q u) sources))) (multiple_from (from + 1) room sources)

  multiple_same : (sources : List Source) → common_multiple (streams_of (rate q t) sources) ≡ common_multiple (streams_of (rate q u) sources)
  unfolding common_multiple
  multiple_same sources =
      ap (common_multiple_from (streams_of (rate q t) sources) 1) (periods_same sources) ∙ multiple_from 1 (all_periods (streams_of (rate q u) sources)) sources

  -- what can be borne at the longer period can be borne at the shorter one
  each_borne : (sources : List Source) → AllByRecursion IsStream (streams_of (rate q u) sources) → AllByRecursion IsStream (streams_of (rate q t) sources)
  each_borne [] h = tt
  each_borne (x ∷ xs) (here, rest) = (record { span = positive (div_ceil (ticks_of x) q) here.span; distance = here.distance }, each_borne xs rest)
    where
      positive : (n : ℕ) → 0 < n * u → 0 < n * t
      positive zero h = absurd (omega arith)
      positive (suc n) h = let m = mul-le 1 t (suc n) t (omega arith) (omega arith) in omega arith

  borne : (sources : List Source) → IsBearable (streams_of (rate q u) sources) → IsBearable (streams_of (rate q t) sources)
  borne sources b = record {
    each = each_borne sources b.each;
    fits =
        let P = all_periods (streams_of (rate q u) sources) in
        let same : all_periods (streams_of (rate q t) sources) ≡ P = periods_same sources in
        let less = shares-le P sources in
        let most = b.fits in
        rw same (omega arith);
  }

  -- so it is with what is not enough
  pub not_enough_longer : (sources : List Source) (w : Wanted) → IsNotEnough sources w (rate q t) → IsNotEnough sources w (rate q u)
  not_enough_longer sources w (inl (why.AsksTooMuch, over)) = inl (why.AsksTooMuch, λ b. over (borne sources b))
  not_enough_longer sources w (inl (why.BacklogTooSmall needed, (is, less))) =
      let time = time_for (rate q t) sources w.delay in
      let later = time_for (rate q u) sources w.delay in
      let more = backlog-le time later (omega (arith, spans-le sources)) sources in
      inl (why.BacklogTooSmall (backlog_for later (streams_of (rate q u) sources)), (refl, omega arith))
  not_enough_longer sources w (inl (why.SharedOverrun, h)) = inl (why.SharedOverrun, h)
  not_enough_longer sources w (inl (why.LateOverrun, (overruns, apart))) =
      inl (why.LateOverrun, (overruns, λ one. apart (record { source = one.source; only = one.only; apart = let a = one.apart in omega (arith, spans-le sources) })))
  not_enough_longer sources w (inl (why.BeyondLimits, beyond)) =
      inl (why.BeyondLimits, λ is. beyond (record { few = is.few; each = is.each; coarse = rw (multiple_same sources) is.coarse; short = is.short }))
  not_enough_longer sources w (inr late) = inr (later w.within late)
    where
      later : (o : Option ℕ) → is_by (time_for (rate q t) sources w.delay) o ≡ false → is_by (time_for (rate q u) sources w.delay) o ≡ false
      later None e = e
      later (Some n) e =
          let a : n < time_for (rate q t) sources w.delay = grind (arith, nat_tests) in
          let b : n < time_for (rate q u) sources w.delay = omega (arith, spans-le sources) in
          grind (arith, nat_tests)
