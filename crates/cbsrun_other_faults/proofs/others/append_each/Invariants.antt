use Rattle.cbsrun_other_faults.specs.Others.{TellsEach}
use Rattle.cbsrun_refusal_texts.specs.Pages.{AppendsA}
use Rattle.cbsrun_other_faults.proofs.others.append_each.Given as goal

abbrev pub invariant-loop-fault : goal.invariant-loop-fault
invariant-loop-fault l = AppendsA (TellsEach l.fault-index) l.initial.page l.page
