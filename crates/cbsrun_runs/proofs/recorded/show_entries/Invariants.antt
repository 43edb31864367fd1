use Rattle.std.proofs.Common.{take}
use Rattle.cbs_tape.specs.Tapes.{all_steps}
use Rattle.cbs_units.specs.Counting.{counting}
use Rattle.cbsrun_runs.specs.Steps.{Shows}
use Rattle.cbsrun_runs.proofs.recorded.show_entries.Given as goal

-- the core made the steps of the first entries, and the view saw them
abbrev pub invariant-loop-entry : goal.invariant-loop-entry
invariant-loop-entry g l = record {
  ready : g.V.View.ready l.view l.lent;
  shown : Shows counting g.V.View.saw (all_steps (take l.entry-index l.entries)) l.fn.core l.core (l.fn.view, l.fn.lent) (l.view, l.lent);
}
