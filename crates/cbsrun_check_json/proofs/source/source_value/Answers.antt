use Rattle.std.proofs.Common.{◌≡◌, ◌+◌, ◌*◌, ℕ, Bool, List, [], ◌∷◌, Option, Result, refl, subst}
use Rattle.std.specs.Prelude.{codes, IfOk}
use Rattle.std.specs.Result.{result_ok}
use Rattle.serde_json.specs.Data.{Data, boolean, string}
use Rattle.serde_json.specs.View.{view}
use Rattle.cbs_guarantee.specs.declared.source.NotPromised.{NotPromised}
use Rattle.cbsrun_json.specs.Members.{object_of, pair_data, scalar_data, text_if, told, whole, whole_if}
use Rattle.cbsrun_json.specs.declared.scalar.Scalar.{Scalar}
use Rattle.cbsrun_simulate.specs.Released.{distance}
use Rattle.cbsrun_simulate.specs.declared.terms.SourceTerms.{SourceTerms}
use Rattle.cbsrun_check_json.specs.Json.{is_in_time, range_scalar, reason_of, source_data}
use Rattle.cbsrun_check_json.proofs.source.source_value.Goals as goal

-- the object of a source, by its parts
source_is : (name : List ℕ) (promised : Result ℕ NotPromised) (t : SourceTerms) (every units overrun : Scalar) (most apart : ℕ) (finished : Option ℕ) (in_time : Bool)
    (reason : Option (List ℕ))
    → every ≡ range_scalar t.every → units ≡ range_scalar t.units → overrun ≡ range_scalar t.overrun
    → most ≡ told (t.units.greatest * (1 + t.overrun.greatest)) → apart ≡ distance t → finished ≡ result_ok promised
    → in_time ≡ is_in_time promised t.within → reason ≡ reason_of in_time promised
    → object_of (
    (codes "server", string name)
    ∷ (codes "every", scalar_data every)
    ∷ (codes "jitter", whole t.jitter)
    ∷ (codes "units", scalar_data units)
    ∷ (codes "overrun", scalar_data overrun)
    ∷ (codes "asked", pair_data most apart)
    ∷ (codes "within", whole_if t.within)
    ∷ (codes "finished_within", whole_if finished)
    ∷ (codes "in_time_always", boolean in_time)
    ∷ (codes "reason", text_if reason)
    ∷ []) ≡ source_data name promised t
unfolding source_data
source_is name promised t every units overrun most apart finished in_time reason e u o m a f i r = rw (e, u, o, m, a, f, r, i) refl

pub returns : goal.returns
returns c = subst (λ (d : Data). IfOk c.object_of.result (λ v. view v ≡ d))
    (source_is c.args.name.now c.args.promised c.args.terms.now c.pair_of.result c.pair_of-2.result c.pair_of-3.result c.most_ticks.result c.distance.result
    c.ok.result c.is_in_time-in_time.result _ c.pair_of.ensures c.pair_of-2.ensures c.pair_of-3.ensures c.most_ticks.ensures c.distance.ensures
    c.ok.ensures.value c.is_in_time-in_time.ensures c.reason_of.ensures)
    c.object_of.ensures
