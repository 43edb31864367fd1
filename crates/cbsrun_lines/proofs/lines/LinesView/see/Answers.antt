use Rattle.std.proofs.Common.{◌≡◌, ◌∙◌, refl}
use Rattle.cbsrun_lines.specs.Lines.{line_of}
use Rattle.cbsrun_lines.proofs.LineSteps.{failed_line, wrote_line}
use Rattle.cbsrun_lines.proofs.lines.LinesView.see.Goals as goal

pub returns-in_default-clause-failed : goal.returns-in_default-clause-failed
returns-in_default-clause-failed g c = λ first all has.
    let text : c.as_str.result.now ≡ line_of c.args.seen = c.as_str.ensures.value ∙ c.in_ok-write_line.ensures in
    failed_line _ _ _ c.args.self.now _ all c.args.seen c.as_str.result.now has text refl c.in_default.ensures.err

pub returns-clause-saw : goal.returns-clause-saw
returns-clause-saw g c = λ first all has.
    let text : c.as_str.result.now ≡ line_of c.args.seen = c.as_str.ensures.value ∙ c.in_ok-write_line.ensures in
    wrote_line _ _ _ c.args.self.now _ all c.args.seen c.as_str.result.now has text refl c.in-Ok.ensures.ok
