use Rattle.std.proofs.lemmas.Result.{IfOk-weaker}
use Rattle.cbsrun_runs.proofs.Drawings.{picture_same}
use Rattle.cbsrun_runs.proofs.picture.picture_of.Goals as goal

pub returns-clause-picture : goal.returns-clause-picture
returns-clause-picture g c = IfOk-weaker c.picture_of_chart.result _ _ (λ p h. record {
  chart = c.in_ok-chart.chart;
  window = c.in_ok-chart.ensures.window;
  end = c.in_ok-chart.ensures.end;
  shows = c.in_ok-chart.ensures.chart;
  in_turn = c.in_ok-chart.ensures.in_order;
  picture = picture_same _ _ _ _ _ c.in_ok-chart.ensures.servers h;
}) c.picture_of_chart.ensures.picture
