use Rattle.std.proofs.Common.{◌∙◌, ap, map, string_bytes}
use Rattle.serde_json.specs.Written.{has_float}
use Rattle.cbsrun_sweep_texts.proofs.Floats.{sweep_plain}
use Rattle.cbsrun_sweep_texts.proofs.json.sweep_json.Goals as goal

pub line_of-requires : goal.line_of-requires
line_of-requires c = ap has_float c.in_ok-value.ensures ∙ sweep_plain c.args.file.now c.args.tick (map string_bytes c.args.names.now) c.args.sweep.now
