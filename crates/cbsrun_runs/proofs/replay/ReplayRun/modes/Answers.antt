use Rattle.std.proofs.Common.{◌∙◌, length}
use Rattle.std.proofs.lemmas.List.{length-map}
use Rattle.std.proofs.lemmas.List.FromFn.{length-range_with_len}
use Rattle.std.specs.List.{range_with_len}
use Rattle.cbsrun_runs.specs.Tasks.{name_of}
use Rattle.cbsrun_runs.proofs.replay.ReplayRun.modes.Goals as goal

pub returns-clause-servers : goal.returns-clause-servers
returns-clause-servers c =
    let n = length c.args.self.now.plan.rates in
    record {
      named = length-map (range_with_len 0 n) name_of ∙ length-range_with_len 0 n;
      moded = rw (← c.self.view_is) c.modes.ensures.paired;
    }
