use Rattle.std.proofs.Common.{◌≡◌, ℕ, ◌<◌, get_or, length}
use Rattle.cbs_tape.specs.declared.entry.Entry.TheVariants.{Closed}
use Rattle.cbsrun_run_records.proofs.same.are_same_entries.Given as goal

-- the first entries are the same
abbrev pub invariant-loop-i : goal.invariant-loop-i
invariant-loop-i l = record {
  count : length l.own ≡ length l.others;
  same : (k : ℕ) → k < l.i → get_or l.own k (Closed 0) ≡ get_or l.others k (Closed 0);
}
