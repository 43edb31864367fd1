use Rattle.std.proofs.Common.{◌≡◌, take}
use Rattle.std.specs.Prelude.{option_map}
use Rattle.cbsrun_report_text.specs.Notes.{delaying}
use Rattle.cbsrun_report_text.proofs.notes.delaying.Given as goal

abbrev pub invariant-loop-other : goal.invariant-loop-other
invariant-loop-other l = option_map (λ o. o.now) l.most ≡ delaying l.server (take l.other-index l.servers)
