use Rattle.std.proofs.Common.{inr}
use Rattle.cbsrun_lines.proofs.Writers.{tries}
use Rattle.cbsrun_commands.specs.FaultLines.{StandsLast}
use Rattle.cbsrun_commands.proofs.Others.{first_alone, first_whole, others_below}
use Rattle.cbsrun_commands.proofs.ending.write_all_explained.Goals as goal

pub returns-in_default : goal.returns-in_default
returns-in_default g c = first_alone c.args.name.now c.args.bytes.now c.args.fault _ _ c.in_default.ensures.explained

pub returns-in-Ok : goal.returns-in-Ok
returns-in-Ok g c =
    let last : StandsLast c.args.bytes.now c.as_bytes.result.now = rw c.as_bytes.ensures.value (inr c.in-Ok.ensures.others) in
    others_below c.args.name.now c.args.bytes.now c.args.fault c.as_bytes.result.now _ _ _ c.in-Some.ensures.whole last
    (tries c.write_text-written.result _ _ _ c.write_text-written.ensures.ok c.write_text-written.ensures.err)

pub returns-in_default-explain_others : goal.returns-in_default-explain_others
returns-in_default-explain_others g c = first_whole c.args.name.now c.args.bytes.now c.args.fault _ _ c.in-Some.ensures.whole
