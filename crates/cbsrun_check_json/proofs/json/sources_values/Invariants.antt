use Rattle.std.proofs.Common.{◌≡◌, map, take}
use Rattle.serde_json.specs.View.{view}
use Rattle.cbsrun_check_json.specs.Json.{source_of}
use Rattle.cbsrun_check_json.proofs.json.sources_values.Given as goal

abbrev pub invariant-loop-terms : goal.invariant-loop-terms
invariant-loop-terms l = map view l.values.items ≡ map (source_of l.load l.loads) (take l.terms-index l.load.sources)
