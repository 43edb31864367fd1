use Rattle.cbsrun_svg.specs.Pictures.{budget_legend, charged_legend, fine_legend}
use Rattle.cbsrun_svg.specs.declared.style.TheConstants.{LEGEND}
use Rattle.cbsrun_svg.proofs.Frames.{three_pieces}
use Rattle.cbsrun_svg.proofs.picture.append_fine_legend.Goals as goal

pub returns : goal.returns
unfolding fine_legend
returns c =
    three_pieces c.append_budget_legend.result _ _ _ _ LEGEND.now _ (charged_legend c.args.axis.now) (budget_legend c.args.layout.now)
    c.in_ok-push_str.ensures.bytes c.in_ok-push_str-2.ensures.bytes c.charged_legend.ensures c.append_budget_legend.ensures
