-- What is promised for a server of a load whose units never overrun is kept by each move of the load's simulation.
use Rattle.std.proofs.Common.{◌≡◌, ℕ, zero, suc, ◌+◌, ◌*◌, ◌≤◌, ◌<◌, false, eqb, List, [], ◌∷◌, length, map, get_or, arith, refl, sym, subst, ◌∙◌, inl, inr}
use Rattle.std.proofs.Common.{Some, None}
use Rattle.std.specs.Prelude.{slice_get}
use Rattle.std.specs.List.{AllByRecursion, sum_by}
use Rattle.std.proofs.lemmas.Bool.{cases_Bool}
use Rattle.std.proofs.lemmas.Bool.Decides.{nat_tests}
use Rattle.std.proofs.lemmas.List.Elements.{recursion_from_All}
use Rattle.std.proofs.lemmas.Nat.{mul-le}
use Rattle.std.proofs.lemmas.Option.{get_or_from_slice_get, slice_get_within}
use Rattle.cbs_lists.proofs.Lists.{AllByRecursion-weaker, AllByRecursion-mapped}
use Rattle.cbsrun_loads.specs.Loads.{LoadFile, releases_of, IsLoad, IsSource}
use Rattle.cbs_rate.specs.Plan.{IsPlan}
use Rattle.cbs_rate.specs.Rate.{Rate}
use Rattle.cbs_rules.specs.declared.mode.Mode.{Mode}
use Rattle.cbs_steps.specs.Accounts.{Account, new_account, no_account}
use Rattle.cbs_steps.specs.Charged.{others_charges}
use Rattle.cbs_steps.specs.History.{World, Setup, account}
use Rattle.cbs_steps.specs.Setups.{setup_of, terms_of}
use Rattle.cbs_steps.proofs.Punctual.{plan_punctual}
use Rattle.cbs_guarantee.specs.Parts.{rate_at}
use Rattle.cbs_guarantee.specs.Sources.{stream_of, streams_of, NoneOverruns, IsPromised}
use Rattle.cbs_guarantee.specs.Streams.{no_stream, new_streams, all_spans}
use Rattle.cbs_guarantee.proofs.Guarantees.{guaranteed_of}
use Rattle.cbs_guarantee.proofs.Overruns.{span-mono}
use Rattle.cbs_guarantee.proofs.Steps.{no_jobs}
use Rattle.cbsrun_simulate.specs.Loading.{loading, job_of}
use Rattle.cbsrun_simulate.specs.MoveLaws.{AllMoves}
use Rattle.cbsrun_simulate.specs.Moves.{Simulation, moves_of}
use Rattle.cbsrun_simulate.specs.Released.{HasRanges, IsOfSource, AreApart, least_distance}
use Rattle.cbsrun_simulate.specs.declared.load_job.LoadJob.{LoadJob}
use Rattle.cbsrun_simulate.specs.declared.release.Release.{Release}
use Rattle.cbsrun_simulate.specs.declared.terms.SourceTerms.{SourceTerms}
use Rattle.cbsrun_simulate.proofs.Apart.{merged_are, merged_apart, least_at, all_in_order}
use Rattle.cbsrun_simulate.proofs.Bounded.{bounded_new}
use Rattle.cbsrun_simulate.proofs.MoveSteps.{IsGoing}
use Rattle.cbsrun_simulate.proofs.Simulations.{moves_are}
use Rattle.cbsrun_sizing.specs.Lateness.{IsKeptMove}
use Rattle.cbsrun_sizing.specs.ServerLoads.{at_most, held, sources_of, most_charged, all_charges, most_passed, delay_of, delay_from_release}
use Rattle.cbsrun_sizing.proofs.KeptMoves.{IsOwn, IsGiven, IsKept, kept_moves}
use Rattle.cbsrun_sizing.proofs.LateServers.{as_many, spared}
use Rattle.cbsrun_sizing.proofs.OwnSources.{place_of, own, own_releases, IsOwnSource, stream_at, places_apart, none_more, charged_at, passed_more, tick_at}
use Rattle.cbsrun_sizing.proofs.OwnSources.{ticks_grow, numbered}

-- the server of a plan has the reservation of its place
pub reservation_at : (modes : List Mode) (rates : List Rate) (s : ℕ) → length modes ≡ length rates
    → (let a : Account LoadJob = account (map new_account (terms_of modes rates)) s in a.terms.reservation ≡ rate_at rates s)
reservation_at [] [] s e = refl
reservation_at [] (r ∷ rates) s e = absurd (omega arith)
reservation_at (m ∷ modes) [] s e = absurd (omega arith)
reservation_at (m ∷ modes) (r ∷ rates) zero e = refl
reservation_at (m ∷ modes) (r ∷ rates) (suc s) e = reservation_at modes rates s (omega arith)

-- it is not closed at the start
pub free_at : (modes : List Mode) (rates : List Rate) (s : ℕ) → length modes ≡ length rates → s < length rates
    → (let a : Account LoadJob = account (map new_account (terms_of modes rates)) s in a.closed ≡ false)
free_at modes [] s e lt = absurd (omega arith)
free_at [] (r ∷ rates) s e lt = absurd (omega arith)
free_at (m ∷ modes) (r ∷ rates) zero e lt = refl
free_at (m ∷ modes) (r ∷ rates) (suc s) e lt = free_at modes rates s (omega arith) (omega arith)

-- a new stream may have its first job at once
open_new : (rates : List Rate) (i : ℕ) → (get_or (new_streams rates) i no_stream).open_at ≡ 0
open_new [] i = refl
open_new (r ∷ rates) zero = refl
open_new (r ∷ rates) (suc i) = open_new rates i

-- what holds of each source holds of one
pub at_place : (P : SourceTerms → Type 0) (ts : List SourceTerms) (i : ℕ) (t : SourceTerms) → AllByRecursion P ts → slice_get ts i ≡ Some t → P t
at_place P [] i t all e = cc
at_place P (u ∷ ts) zero t all e = let is : u ≡ t = cc in subst P is all.0
at_place P (u ∷ ts) (suc i) t all e = at_place P ts i t all.1 e

-- every release is open to a new stream
all_open : (rates : List Rate) (s : ℕ) (place : ℕ → ℕ) (rs : List Release)
    → AllByRecursion (λ r. r.server ≡ s → (get_or (new_streams rates) (place r.source) no_stream).open_at ≤ r.tick) rs
all_open rates s place [] = tt
all_open rates s place (r ∷ rs) = (λ same. rw (open_new rates (place r.source)) (omega arith), all_open rates s place rs)

module _ (f : LoadFile) (load : IsLoad f) where
  -- what holds of the sources of a load
  pub lawful_sources : AllByRecursion (IsSource (length f.plan.rates)) f.sources
  lawful_sources = recursion_from_All (IsSource (length f.plan.rates)) f.sources load.lawful

  drawable : AllByRecursion (λ t. (0 < t.units.least) × HasRanges t) f.sources
  drawable = AllByRecursion-weaker (IsSource (length f.plan.rates)) (λ t. (0 < t.units.least) × HasRanges t) f.sources lawful_sources
      (λ t h. (h.lawful.some_units, h.ranges))

  -- and of their releases
  pub releases_are : AllByRecursion (IsOfSource f.until 0 f.sources) (releases_of f)
  releases_are = merged_are f.until f.seed 0 f.listed f.sources drawable

  pub releases_apart : AreApart (least_distance f.sources) (releases_of f)
  releases_apart = merged_apart (least_distance f.sources) f.until f.seed 0 f.listed f.sources drawable
      (AllByRecursion-weaker (IsSource (length f.plan.rates)) (λ t. t.jitter < t.every.least) f.sources lawful_sources (λ t h. h.lawful.little_jitter))
      (λ j t e. let z : 0 + j ≡ j = omega arith in rw z (least_at f.sources j t e))
      (λ j t e. let z : 0 + j ≡ j = omega arith in rw z (load.listed j t e))

  pub overruns_within : AllByRecursion (λ r. r.overrun ≤ most_charged f.sources r.server) (releases_of f)
  overruns_within = AllByRecursion-weaker (IsOfSource f.until 0 f.sources) (λ r. r.overrun ≤ most_charged f.sources r.server)
      (releases_of f) releases_are
      (λ r h.
      let at = charged_at r.server f.sources h.place 0 h.terms h.stands (sym h.is.server) in
      let le = h.is.overrun in
      omega arith)

-- the others are charged no more than the delay
pub others_within : (f : LoadFile) → IsLoad f → (s : ℕ) → s < length f.plan.rates → (w : World LoadJob)
    → length w.accounts ≡ length (terms_of f.modes f.plan.rates) → ((t : ℕ) → (account w.accounts t).charges.most ≤ most_charged f.sources t)
    → others_charges w.accounts s ≤ delay_of f s
others_within f load s lt w count within_bound =
    let charge : Account LoadJob → ℕ = λ a. a.charges.most in
    let servers : length w.accounts ≡ length f.plan.rates = count ∙ as_many f.modes f.plan.rates load.moded in
    let sum_is = spared charge (most_charged f.sources) no_account w.accounts 0 s (omega arith)
    (λ i l. let e : 0 + i ≡ i = omega arith in rw e (within_bound i)) in
    let total : sum_by charge w.accounts + most_charged f.sources s ≤ all_charges f.sources (length f.plan.rates) + charge (account w.accounts s) =
    let z : 0 + s ≡ s = omega arith in
    rw (z, servers) at sum_is in
    omega arith

module _ (f : LoadFile) (load : IsLoad f) (plan : IsPlan f.plan) (s within : ℕ) (lt : s < length f.plan.rates)
    (promised : IsPromised (rate_at f.plan.rates s) (sources_of s f.sources) (delay_from_release f s) f.backlog within)
    (plain : NoneOverruns (sources_of s f.sources)) where
  abbrev rate : Rate
  rate = rate_at f.plan.rates s

  abbrev rates : List Rate
  rates = streams_of rate (sources_of s f.sources)

  abbrev releases : List Release
  releases = releases_of f

  abbrev place : ℕ → ℕ
  place = place_of s f.sources

  -- the tick at which job q of the server is released
  abbrev pub released : ℕ → ℕ
  released = tick_at s f.until (own_releases s releases)

  abbrev of : ℕ → ℕ
  of q = get_or (map (λ (r : Release). place r.source) (own_releases s releases)) q 0

  abbrev setup : Setup
  setup = setup_of f.modes f.plan.rates f.backlog

  abbrev pub sim : Simulation LoadJob
  sim = record { history = record { setup = setup; steps = [] }; coming = releases; owing = None }

  abbrev passed : ℕ
  passed = most_passed f.sources s

  -- the server is charged nothing
  none : most_charged f.sources s ≡ 0
  none = none_more s f.sources 0 (AllByRecursion-mapped (λ source. source.overrun ≡ 0) at_most (own s f.sources)
      (recursion_from_All (λ source. source.overrun ≡ 0) (sources_of s f.sources) plain))

  -- no charge passes a release by more than the most
  most : (t : ℕ) → most_charged f.sources t ≤ most_passed f.sources s
  most t = elim (cases_Bool (eqb t s)) [
    | inl y ↦ let same : t ≡ s = grind (arith, nat_tests) in rw (same, none) (omega arith)
    | inr n ↦ passed_more s f.sources t 0 0 (λ same. let y : eqb t s ≡ _ = refl in grind (arith, nat_tests)) (omega arith)
  ]

  -- a release of the server is one of a stream
  owned : AllByRecursion (λ r. r.server ≡ s → IsOwn f.until load.few_ticks s released of place (least_distance f.sources) (most_charged f.sources) rates passed
      (delay_of f s) (IsOwnSource s f.sources) setup r) releases
  owned = AllByRecursion-weaker (IsOfSource f.until 0 f.sources) _ releases (releases_are f load)
      (λ r h same.
      let t = h.terms in
      let e : r.source ≡ h.place = let at = h.source in omega arith in
      let stands : slice_get f.sources r.source ≡ Some t = rw e h.stands in
      let server : t.server ≡ s = sym h.is.server ∙ same in
      let stream = stream_at s rate f.sources r.source t stands server in
      let there = slice_get_within rates (place r.source) (stream_of rate (at_most t)) stream in
      let is = get_or_from_slice_get rates (place r.source) (stream_of rate (at_most t)) (no_stream.rate) stream in
      let few = (at_place (IsSource (length f.plan.rates)) f.sources h.place t (lawful_sources f load) h.stands).lawful.few_units in
      let units = h.is.units in
      let n = held t.units.greatest in
      let o = held t.overrun.greatest in
      let times : n * 1 ≤ n * (1 + o) = mul-le n 1 n (1 + o) (omega arith) (omega arith) in
      let more : r.units ≤ n * (1 + o) = omega arith in
      record {
        source = record { terms = t; stands = stands; server = server };
        some = h.is.some;
        there = there;
        small = rw (is, reservation_at f.modes f.plan.rates s load.moded) (span-mono rate r.units (n * (1 + o)) more);
        distance = rw is (sym (least_at f.sources r.source t stands));
      })

  given : IsGiven f.until load.few_ticks s released of place (least_distance f.sources) (most_charged f.sources) rates passed (delay_of f s)
      (IsOwnSource s f.sources) setup
  given =
      let early = AllByRecursion-weaker (IsOfSource f.until 0 f.sources) (λ r. r.tick < f.until) releases (releases_are f load) (λ r h. h.is.early) in
      let time = promised.time in
      let sum : within ≡ all_spans rates + delay_of f s + passed = omega arith in
      record {
        ok = promised.bearable;
        order = ticks_grow s f.until releases (all_in_order f.until f.seed 0 f.listed f.sources) early;
        enough = rw sum at promised.enough;
        laws = λ steps. guaranteed_of loading (record { setup = setup; steps = steps })
            (λ steps. plan_punctual loading f.plan f.modes f.backlog plan load.moded steps);
        none = none;
        most = most;
        others = others_within f load s lt;
        apart_places = places_apart s f.sources;
      }

  going : IsGoing loading job_of f.until load.few_ticks 0 sim
  going = record { early = omega arith; waited = omega arith; order = all_in_order f.until f.seed 0 f.listed f.sources; owed = λ lt c e. cc }

  start : IsKept f.until load.few_ticks s released of place (least_distance f.sources) (most_charged f.sources) rates passed (delay_of f s)
      (IsOwnSource s f.sources) 0 sim
  start = record {
    going = going;
    soon = omega arith;
    bounded = bounded_new (most_charged f.sources) f.until (terms_of f.modes f.plan.rates) f.backlog releases (overruns_within f load);
    free = free_at f.modes f.plan.rates s load.moded lt;
    quiet = tt;
    are = tt;
    jobs = rw (no_jobs loading setup s) (numbered s f.until released of place 0 releases
        (λ i. let z : 0 + i ≡ i = omega arith in rw z refl) (λ i. let z : 0 + i ≡ i = omega arith in rw z refl));
    apart = releases_apart f load;
    opened = all_open rates s place releases;
    own = owned;
  }

  -- each move of the simulation keeps what is promised
  pub load_kept : AllMoves loading job_of (IsKeptMove s released within) sim (moves_of loading job_of f.until sim)
  load_kept =
      let time = promised.time in
      let sum : all_spans rates + delay_of f s + passed ≡ within = omega arith in
      rw sum at (kept_moves f.until load.few_ticks s released of place (least_distance f.sources) (most_charged f.sources) rates passed (delay_of f s)
      (IsOwnSource s f.sources) 0 sim (moves_of loading job_of f.until sim) given start (moves_are loading job_of f.until load.few_ticks 0 sim going).each)
