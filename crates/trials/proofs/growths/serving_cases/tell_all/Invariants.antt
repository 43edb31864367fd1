use Rattle.cbs_house.specs.Rounds.{Ready}
use Rattle.trials.proofs.growths.serving_cases.tell_all.Given as goal

abbrev pub invariant-loop-index : goal.invariant-loop-index
invariant-loop-index g l = Ready l.house l.feeds
