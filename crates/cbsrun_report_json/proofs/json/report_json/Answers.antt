use Rattle.std.proofs.Common.{◌∙◌, ap}
use Rattle.serde_json.specs.Written.{has_float}
use Rattle.cbsrun_report_json.proofs.Floats.{report_plain}
use Rattle.cbsrun_report_json.proofs.json.report_json.Goals as goal

pub line_of-requires : goal.line_of-requires
line_of-requires c = ap has_float c.in_ok-value.ensures ∙ report_plain c.args.report.now
