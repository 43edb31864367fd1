-- Why nothing is promised of sources: their streams, and the first ones of them.
use Rattle.std.proofs.Common.{◌≡◌, ℕ, zero, suc, ◌*◌, ◌%◌, ◌≤◌, ◌<◌, leb, ltb, List, [], ◌∷◌, ◌++◌, length, take, get_or}
use Rattle.std.proofs.Common.{arith, refl, ap, ◌∙◌, inl, inr, Some}
use Rattle.std.specs.Prelude.{map}
use Rattle.std.specs.List.{sum_by, AllByRecursion}
use Rattle.std.proofs.lemmas.Bool.{cases_Bool}
use Rattle.std.proofs.lemmas.Bool.Decides.{nat_tests}
use Rattle.std.proofs.lemmas.List.{length-map, length-take-le}
use Rattle.std.proofs.lemmas.List.Sums.{sum_by-cons, sum_by-append}
use native.Mathlib.Nat.{mul-le-mul_right, le_of_mul-le-mul_right, le_of_mul-le-mul_left}
use Rattle.cbs_lists.proofs.Lists.{AllByRecursion-get, AllByRecursion-weaker, AllByRecursion-mapped}
use Rattle.cbs_rate.specs.Limits.{most_servers, greatest_common_multiple}
use Rattle.cbs_rate.specs.Plan.{Planned, IsPlan, share, all_periods, total_share, common_multiple, IsCommonMultiple, fits, admit_refusal}
use Rattle.cbs_rate.specs.Rate.{Rate, IsRate}
use Rattle.cbs_rate.specs.declared.error.AdmitError.{AdmitError}
use Rattle.cbs_rate.specs.declared.error.AdmitError.TheVariants.{TooManyServers, PeriodsTooFine, OverBound}
use Rattle.cbs_rate.proofs.Multiples.{AllLawful, period_some, all_periods_some, all_periods-common, common_multiple-least}
use Rattle.cbs_rate.proofs.Shares.{sum_scaled}
use Rattle.cbs_guarantee.specs.Sources.{stream_of, streams_of, IsSource, IsStreamReason, IsReason, HaveStreams, AreBorne, reason_of}
use Rattle.cbs_guarantee.specs.Streams.{IsStream, IsBearable}
use Rattle.cbs_guarantee.specs.declared.source.Source.{Source}
use Rattle.cbs_guarantee.specs.declared.source.NotPromised.{NotPromised}
use Rattle.cbs_guarantee.specs.declared.source.NotPromised.TheVariants as why
use Rattle.cbs_guarantee.proofs.Streams.{periods_some, whole_share}

-- each of streams that fit together fits alone
each_fits : (parts : ℕ) (rates : List Rate) → 0 < parts → IsCommonMultiple parts rates → sum_by (share parts) rates ≤ parts
    → AllByRecursion (λ r. r.budget ≤ r.period) rates
each_fits parts [] some common fits = tt
each_fits parts (r ∷ rates) some common fits =
    let sum = sum_by-cons (share parts) r rates in
    let most : share parts r ≤ parts = omega arith in
    let times = mul-le-mul_right r.period most in
    let whole = whole_share parts r common.0 in
    let le : r.budget * parts ≤ r.period * parts = omega arith in
    (le_of_mul-le-mul_right le some, each_fits parts rates some common.1 (omega arith))

bearable_each : (rates : List Rate) → IsBearable rates → AllByRecursion (λ r. r.budget ≤ r.period) rates
bearable_each rates ok = each_fits (all_periods rates) rates (periods_some rates ok.each) (all_periods-common rates) ok.fits

-- a source that has no stream, or one that fits not even alone, is a reason for all
pub reason_alone : (server : Rate) (sources : List Source) (k : ℕ) (d : Source) (e : NotPromised) → k < length sources
    → IsStreamReason server (get_or sources k d) e
    → (delay backlog : ℕ) → IsReason server sources delay backlog e
reason_alone server sources k d why.AsksTooMuch lt over = λ delay backlog ok.
    let each = AllByRecursion-mapped (λ (r : Rate). r.budget ≤ r.period) (stream_of server) sources (bearable_each (streams_of server sources) ok) in
    let alone = AllByRecursion-get (λ (x : Source). (stream_of server x).budget ≤ (stream_of server x).period) sources k d each lt in
    absurd (omega arith)
reason_alone server sources k d why.BeyondLimits lt none = λ delay backlog ok. none (AllByRecursion-get IsSource sources k d ok.each lt)
reason_alone server sources k d (why.BacklogTooSmall n) lt none = absurd none
reason_alone server sources k d why.SharedOverrun lt none = absurd none
reason_alone server sources k d why.LateOverrun lt none = absurd none

-- of all, the first
front : {X : Type 0} (P : X → Type 0) (xs ys : List X) → AllByRecursion P (xs ++ ys) → AllByRecursion P xs
front P [] ys all = tt
front P (x ∷ xs) ys all = (all.0, front P xs ys all.1)

-- the product of all periods is that of the first and that of the others
all_periods-append : (xs ys : List Rate) → all_periods (xs ++ ys) ≡ all_periods ys * all_periods xs
all_periods-append [] ys = omega arith
all_periods-append (x ∷ xs) ys = let e = all_periods-append xs ys in rw e (omega arith)

-- the first of streams that fit together fit
fits_front : (xs ys : List Rate) → AllLawful (xs ++ ys) → AllLawful ys → total_share (xs ++ ys) ≤ all_periods (xs ++ ys) → total_share xs ≤ all_periods xs
fits_front xs ys lawful others fit =
    let e = all_periods-append xs ys in
    let scaled = sum_scaled (all_periods xs) (all_periods ys) xs (front (λ (r : Rate). IsRate r.budget r.period) xs ys lawful) (all_periods-common xs) in
    let sum = sum_by-append (share (all_periods ys * all_periods xs)) xs ys in
    let all = rw e at fit in
    let some = all_periods_some ys others in
    let le : all_periods ys * total_share xs ≤ all_periods ys * all_periods xs = omega arith in
    le_of_mul-le-mul_left le some

-- their least common multiple is no greater
coarse_front : (xs ys : List Rate) → AllLawful (xs ++ ys) → common_multiple xs ≤ common_multiple (xs ++ ys)
coarse_front xs ys lawful =
    let all = common_multiple-least (xs ++ ys) lawful in
    (common_multiple-least xs (front (λ (r : Rate). IsRate r.budget r.period) xs ys lawful)).least (common_multiple (xs ++ ys)) all.some
    (front (λ (r : Rate). common_multiple (xs ++ ys) % r.period ≡ 0) xs ys all.common)

-- the streams of the first sources and of one more are the first of all
streams_front : (f : Source → Rate) (sources : List Source) (k : ℕ) (d : Source) → k < length sources
    → (ys : List Rate) × (map f sources ≡ (map f (take k sources) ++ f (get_or sources k d) ∷ []) ++ ys)
streams_front f [] k d lt = absurd (omega arith)
streams_front f (x ∷ sources) zero d lt = (map f sources, refl)
streams_front f (x ∷ sources) (suc k) d lt = let rest = streams_front f sources k d (omega arith) in (rest.0, ap (λ rs. f x ∷ rs) rest.1)

-- of all, the others
back : {X : Type 0} (P : X → Type 0) (xs ys : List X) → AllByRecursion P (xs ++ ys) → AllByRecursion P ys
back P [] ys all = all
back P (x ∷ xs) ys all = back P xs ys all.1

-- what a plan of the first sources, of one processor, does not take is a reason for all
pub reason_refused : (server : Rate) (sources : List Source) (k : ℕ) (d : Source) (e : AdmitError) (plan : Planned) (stream : Rate) → k < length sources
    → HaveStreams server sources → plan.bound ≡ record { num = 1; den = 1 } → plan.rates ≡ streams_of server (take k sources)
    → stream ≡ stream_of server (get_or sources k d) → admit_refusal plan stream ≡ Some e → (delay backlog : ℕ)
    → IsReason server sources delay backlog (reason_of e)
reason_refused server sources k d e plan stream lt have bound rates is refused = λ delay backlog.
    let refusal = rw (bound, rates, is) at refused in
    let first = streams_of server (take k sources) in
    let more = first ++ stream_of server (get_or sources k d) ∷ [] in
    let split = streams_front (stream_of server) sources k d lt in
    let ys : List Rate = split.0 in
    let all : streams_of server sources ≡ more ++ ys = split.1 in
    let lawful : AllLawful (more ++ ys) = rw all at have.lawful in
    let count : length first ≡ k = omega (arith, length-map (take k sources) (stream_of server), length-take-le k sources (omega arith)) in
    elim (cases_Bool (leb most_servers (length first))) [
      | inl t ↦
          let same : e ≡ TooManyServers = let h = rw t at refusal in cc in
          rw same (λ within. let few = within.few in let full : most_servers ≤ length first = grind (arith, nat_tests) in absurd (omega arith))
      | inr f ↦ elim (cases_Bool (ltb greatest_common_multiple (common_multiple more))) [
        | inl t ↦
            let same : e ≡ PeriodsTooFine = let h = rw (f, t) at refusal in cc in
            let fine : greatest_common_multiple < common_multiple more = grind (arith, nat_tests) in
            let less = coarse_front more ys lawful in
            rw same (λ within. let coarse = rw all at within.coarse in absurd (omega arith))
        | inr g ↦ elim (cases_Bool (fits (record { num = 1; den = 1 }) more)) [
          | inl y ↦ absurd (let h = rw (f, g, y) at refusal in cc)
          | inr n ↦
              let same : e ≡ OverBound = let h = rw (f, g, n) at refusal in cc in
              let over : all_periods more < total_share more = grind (arith, nat_tests) in
              rw same (λ ok. let fit = rw all at ok.fits in
              let less = fits_front more ys lawful (back (λ (r : Rate). IsRate r.budget r.period) more ys lawful) fit in absurd (omega arith))
        ]
      ]
    ]

-- the sources of a plan are borne
pub borne_of : (server : Rate) (sources : List Source) (plan : Planned) → IsPlan plan → plan.rates ≡ streams_of server sources
    → AllByRecursion IsSource sources → AreBorne server sources
borne_of server sources plan ok rates each =
    let few = ok.few in
    let same : length plan.rates ≡ length sources = ap length rates ∙ length-map sources (stream_of server) in
    record {
      few = omega arith;
      each = each;
      bearable = rw (← rates) record {
        each = AllByRecursion-weaker (λ (r : Rate). IsRate r.budget r.period) IsStream plan.rates ok.lawful (λ r is.
            record { span = is.some; distance = period_some r is });
        fits = ok.at_most_one;
      };
    }
