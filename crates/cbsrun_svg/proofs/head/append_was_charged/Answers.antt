use Rattle.std.proofs.Common.{append_assoc, ne_eqb}
use Rattle.cbsrun_svg.specs.Heads.{was_charged_text}
use Rattle.cbsrun_svg.proofs.head.append_was_charged.Goals as goal

pub returns : goal.returns
unfolding was_charged_text
returns c =
    rw (ne_eqb c.args.charged 0 c.if-charged-eq0.false) (simp (append_assoc, c.in_ok-push_str.ensures.bytes) at c.append_ticks.ensures)
