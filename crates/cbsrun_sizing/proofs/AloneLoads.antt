-- What is promised for a server with one source is kept by each move of a load's simulation, though its units overrun.
use Rattle.std.proofs.Common.{◌≡◌, ℕ, zero, suc, ◌+◌, ◌*◌, ◌≤◌, ◌<◌, List, [], ◌∷◌, length, map, get_or, arith, refl, sym, ap, ◌∙◌, Some, None}
use Rattle.std.specs.Prelude.{slice_get, option_map}
use Rattle.std.specs.List.{AllByRecursion}
use Rattle.std.proofs.lemmas.List.Sums.{sum_by-cons}
use Rattle.std.proofs.lemmas.Option.{slice_get-map}
use Rattle.cbs_lists.proofs.Lists.{AllByRecursion-weaker}
use Rattle.cbsrun_loads.specs.Loads.{LoadFile, releases_of, IsLoad, IsSource}
use Rattle.cbs_rate.specs.Plan.{IsPlan}
use Rattle.cbs_rate.specs.Rate.{Rate}
use Rattle.cbs_steps.specs.History.{Setup}
use Rattle.cbs_steps.specs.Setups.{setup_of, terms_of}
use Rattle.cbs_steps.proofs.Punctual.{plan_punctual}
use Rattle.cbs_guarantee.specs.Parts.{rate_at}
use Rattle.cbs_guarantee.specs.Sources.{stream_of, streams_of, ticks_of, IsOneAtATime, IsPromised}
use Rattle.cbs_guarantee.specs.Streams.{span_of, all_spans}
use Rattle.cbs_guarantee.specs.declared.source.Source.{Source}
use Rattle.cbs_guarantee.proofs.Guarantees.{guaranteed_of}
use Rattle.cbs_guarantee.proofs.Steps.{no_jobs}
use Rattle.cbs_guarantee.proofs.Streams.{reserved}
use Rattle.cbsrun_simulate.specs.Loading.{loading, job_of}
use Rattle.cbsrun_simulate.specs.MoveLaws.{AllMoves}
use Rattle.cbsrun_simulate.specs.Moves.{Simulation, moves_of}
use Rattle.cbsrun_simulate.specs.Released.{IsOfSource, least_distance}
use Rattle.cbsrun_simulate.specs.declared.load_job.LoadJob.{LoadJob}
use Rattle.cbsrun_simulate.specs.declared.release.Release.{Release}
use Rattle.cbsrun_simulate.specs.declared.terms.SourceTerms.{SourceTerms}
use Rattle.cbsrun_simulate.proofs.Apart.{least_at, all_in_order}
use Rattle.cbsrun_simulate.proofs.Bounded.{bounded_new}
use Rattle.cbsrun_simulate.proofs.MoveSteps.{IsGoing}
use Rattle.cbsrun_simulate.proofs.Simulations.{moves_are}
use Rattle.cbsrun_sizing.specs.Lateness.{IsKeptMove}
use Rattle.cbsrun_sizing.specs.ServerLoads.{at_most, held, sources_of, most_charged, most_passed, delay_of, delay_from_release}
use Rattle.cbsrun_sizing.proofs.AloneMoves.{IsAloneRelease, IsGivenAlone, IsAloneKept, no_place, alone_moves}
use Rattle.cbsrun_sizing.proofs.KeptLoads.{reservation_at, free_at, at_place, others_within, lawful_sources, releases_are, releases_apart, overruns_within}
use Rattle.cbsrun_sizing.proofs.LateServers.{as_many}
use Rattle.cbsrun_sizing.proofs.OwnSources.{place_of, own, own_at, own_releases, IsOwnSource, places_apart, passed_more, charged_most, all_own_sources, tick_at}
use Rattle.cbsrun_sizing.proofs.OwnSources.{ticks_grow, numbered}

-- the one element of a list
pub only_one : {X : Type 0} (x y : X) (i : ℕ) → slice_get (x ∷ []) i ≡ Some y → (i ≡ 0) × (x ≡ y)
only_one x y zero e = (refl, cc)
only_one x y (suc i) e = cc

-- the one source at its greatest demand
one_is : (xs : List SourceTerms) (x : Source) → map at_most xs ≡ x ∷ [] → AllByRecursion (λ t. held t.overrun.greatest ≡ x.overrun) xs
one_is [] x e = cc
one_is (t ∷ []) x e = let is : at_most t ≡ x = cc in (ap (λ (y : Source). y.overrun) is, tt)
one_is (t ∷ u ∷ xs) x e = cc

both_hold : (P Q : SourceTerms → Type 0) (ts : List SourceTerms) → AllByRecursion P ts → AllByRecursion Q ts → AllByRecursion (λ t. P t × Q t) ts
both_hold P Q [] p q = tt
both_hold P Q (t ∷ ts) p q = ((p.0, q.0), both_hold P Q ts p.1 q.1)

zero_at : (rs : List Release) (i : ℕ) → 0 ≡ get_or (map (λ (r : Release). no_place r.source) rs) i 0
zero_at [] i = refl
zero_at (r ∷ rs) zero = refl
zero_at (r ∷ rs) (suc i) = zero_at rs i

module _ (f : LoadFile) (load : IsLoad f) (plan : IsPlan f.plan) (s within : ℕ) (lt : s < length f.plan.rates)
    (promised : IsPromised (rate_at f.plan.rates s) (sources_of s f.sources) (delay_from_release f s) f.backlog within)
    (one : IsOneAtATime (sources_of s f.sources) within) where
  abbrev rate : Rate
  rate = rate_at f.plan.rates s

  abbrev source : Source
  source = one.source

  abbrev releases : List Release
  releases = releases_of f

  abbrev released : ℕ → ℕ
  released = tick_at s f.until (own_releases s releases)

  abbrev setup : Setup
  setup = setup_of f.modes f.plan.rates f.backlog

  abbrev sim : Simulation LoadJob
  sim = record { history = record { setup = setup; steps = [] }; coming = releases; owing = None }

  abbrev passed : ℕ
  passed = most_passed f.sources s

  -- each source of the server is the one
  source_is : (i : ℕ) (t : SourceTerms) → slice_get f.sources i ≡ Some t → t.server ≡ s → (place_of s f.sources i ≡ 0) × (source ≡ at_most t)
  source_is i t stands same =
      let at : slice_get (sources_of s f.sources) (place_of s f.sources i) ≡ Some (at_most t) =
      slice_get-map at_most (own s f.sources) (place_of s f.sources i) ∙ ap (option_map at_most) (own_at s f.sources i t stands same) in
      only_one source (at_most t) (place_of s f.sources i) (rw one.only at at)

  -- it is charged no more than its source may overrun
  mine : most_charged f.sources s ≤ source.overrun
  mine =
      let short = AllByRecursion-weaker (IsSource (length f.plan.rates)) (λ t. t.overrun.greatest ≤ 1000000000) f.sources (lawful_sources f load) (λ t h. h.short) in
      let own_short = all_own_sources s (λ t. t.overrun.greatest ≤ 1000000000) f.sources short in
      let all = both_hold (λ t. held t.overrun.greatest ≡ source.overrun) (λ t. t.overrun.greatest ≤ 1000000000) (own s f.sources)
      (one_is (own s f.sources) source one.only) own_short in
      charged_most s f.sources 0 source.overrun (omega arith)
      (AllByRecursion-weaker (λ t. (held t.overrun.greatest ≡ source.overrun) × (t.overrun.greatest ≤ 1000000000)) (λ t. t.overrun.greatest ≤ source.overrun)
      (own s f.sources) all (λ t h. let a = h.0 in let b = h.1 in omega arith))

  owned : AllByRecursion (λ r. r.server ≡ s → IsAloneRelease f.until load.few_ticks s released (least_distance f.sources) (most_charged f.sources) source.units
      source.overrun source.every passed (delay_of f s) (IsOwnSource s f.sources) r) releases
  owned = AllByRecursion-weaker (IsOfSource f.until 0 f.sources) _ releases (releases_are f load)
      (λ r h same.
      let t = h.terms in
      let e : r.source ≡ h.place = let at = h.source in omega arith in
      let stands : slice_get f.sources r.source ≡ Some t = rw e h.stands in
      let server : t.server ≡ s = sym h.is.server ∙ same in
      let is = (source_is r.source t stands server).1 in
      let few = (at_place (IsSource (length f.plan.rates)) f.sources h.place t (lawful_sources f load) h.stands).lawful.few_units in
      let units = h.is.units in
      let held_is : source.units ≡ held t.units.greatest = ap (λ (x : Source). x.units) is in
      record {
        source_is = record { terms = t; stands = stands; server = server };
        every_is = least_at f.sources r.source t stands ∙ sym (ap (λ (x : Source). x.every) is);
        some = h.is.some;
        few = omega arith;
      })

  -- the promised time is that of the one source
  time_is : span_of (reserved loading setup s) (source.units * (1 + source.overrun)) + delay_of f s + passed ≡ within
  time_is =
      let time = promised.time in
      let sum : all_spans (streams_of rate (sources_of s f.sources)) ≡ span_of rate (ticks_of source) =
      ap (λ xs. all_spans (streams_of rate xs)) one.only ∙ omega (arith, sum_by-cons (λ (x : Rate). x.budget) (stream_of rate source) []) in
      rw (reservation_at f.modes f.plan.rates s load.moded) (omega arith)

  given : IsGivenAlone f.until load.few_ticks s released (least_distance f.sources) (most_charged f.sources) source.units source.overrun source.every passed
      (delay_of f s) (IsOwnSource s f.sources) setup
  given =
      let early = AllByRecursion-weaker (IsOfSource f.until 0 f.sources) (λ r. r.tick < f.until) releases (releases_are f load) (λ r h. h.is.early) in
      let apart = one.apart in
      record {
        order = ticks_grow s f.until releases (all_in_order f.until f.seed 0 f.listed f.sources) early;
        laws = λ steps. guaranteed_of loading (record { setup = setup; steps = steps })
            (λ steps. plan_punctual loading f.plan f.modes f.backlog plan load.moded steps);
        most = λ t ne. passed_more s f.sources t 0 0 ne (omega arith);
        mine = mine;
        others = others_within f load s lt;
        fits = let is = time_is in omega arith;
        backlog = load.some_backlog;
        there = omega (arith, as_many f.modes f.plan.rates load.moded);
        only = λ i j a b. places_apart s f.sources i j a b
            ((source_is i a.terms a.stands a.server).0 ∙ sym (source_is j b.terms b.stands b.server).0);
      }

  going : IsGoing loading job_of f.until load.few_ticks 0 sim
  going = record { early = omega arith; waited = omega arith; order = all_in_order f.until f.seed 0 f.listed f.sources; owed = λ lt c e. cc }

  start : IsAloneKept f.until load.few_ticks s released (least_distance f.sources) (most_charged f.sources) source.units source.overrun source.every passed
      (delay_of f s) (IsOwnSource s f.sources) 0 sim
  start = record {
    going = going;
    bounded = bounded_new (most_charged f.sources) f.until (terms_of f.modes f.plan.rates) f.backlog releases (overruns_within f load);
    free = free_at f.modes f.plan.rates s load.moded lt;
    quiet = tt;
    are = tt;
    soon = tt;
    jobs = rw (no_jobs loading setup s) (numbered s f.until released no_place no_place 0 releases
        (λ i. let z : 0 + i ≡ i = omega arith in rw z refl) (λ i. zero_at (own_releases s releases) i));
    apart = releases_apart f load;
    next = AllByRecursion-weaker (IsOfSource f.until 0 f.sources) _ releases (releases_are f load)
        (λ r h same. let none = no_jobs loading setup s in
        record { opened = omega arith; later = λ some. absurd (omega arith); soon = omega arith });
    own = owned;
  }

  -- each move of the simulation keeps what is promised
  pub alone_load_kept : AllMoves loading job_of (IsKeptMove s released within) sim (moves_of loading job_of f.until sim)
  alone_load_kept = rw time_is at (alone_moves f.until load.few_ticks s released (least_distance f.sources) (most_charged f.sources) source.units source.overrun
      source.every passed (delay_of f s) (IsOwnSource s f.sources) 0 sim (moves_of loading job_of f.until sim) given start
      (moves_are loading job_of f.until load.few_ticks 0 sim going).each)
