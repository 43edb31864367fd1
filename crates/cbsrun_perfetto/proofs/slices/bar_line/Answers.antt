use Rattle.std.proofs.Common.{◌∙◌, ap}
use Rattle.serde_json.specs.Written.{has_float}
use Rattle.cbsrun_perfetto.proofs.Floats.{job_plain}
use Rattle.cbsrun_perfetto.proofs.slices.bar_line.Goals as goal

pub slice_line-requires : goal.slice_line-requires
slice_line-requires c = ap has_float c.in_ok-args.ensures ∙ job_plain c.args.number c.job_of.result
