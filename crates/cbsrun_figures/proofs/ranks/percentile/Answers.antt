use Rattle.cbsrun_figures.proofs.Ranking.{percentile_at}
use Rattle.cbsrun_figures.proofs.ranks.percentile.Goals as goal

pub returns : goal.returns
returns c =
    percentile_at c.args.percent c.div_ceil-rank.result c.args.sorted.now c.requires.some c.requires.most c.requires.numbers c.requires.order
    (rw (← c.from.ensures) c.div_ceil-rank.ensures)
