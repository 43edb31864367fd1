-- What earlier and later runs tell together is what all of them tell.
use Rattle.std.proofs.Common.{◌≡◌, ◌+◌, ◌∷◌, ◌++◌, ◌∙◌, [], arith, length, length-append, List, refl, subst, sym, ℕ}
use Rattle.std.specs.Prelude.{Option, None, Some, slice_get}
use Rattle.cbsrun_figures.specs.Figures.{told}
use Rattle.cbsrun_loads.specs.Loads.{LoadFile, with_seed}
use Rattle.cbsrun_report_text.specs.declared.report.RunReport.{RunReport}
use Rattle.cbsrun_runs.specs.Loads.{run_of}
use Rattle.cbsrun_runs.specs.Runs.{IsReportOf}
use Rattle.cbsrun_sweeps.specs.Servers.{joined, no_sweep, worse}
use Rattle.cbsrun_sweeps.specs.Sweeps.{AreRuns, AreSwept, AreJoined, swept, told_by}
use Rattle.cbsrun_sweeps.specs.declared.server.ServerSweep.{ServerSweep}
use Rattle.cbsrun_sweeps.specs.declared.server.Worst.{Worst}

-- the order in which counts are added up does not matter
told_joined : (a b c : ℕ) → told (told (a + b) + c) ≡ told (a + told (b + c))
told_joined a b c = omega arith

-- nor that in which the worst of three is found
worse_of_three : (a b c : Worst) → worse (worse (Some a) (Some b)) (Some c) ≡ worse (Some a) (worse (Some b) (Some c))
worse_of_three a b c = grind arith

worse_joined : (a b c : Option Worst) → worse (worse a b) c ≡ worse a (worse b c)
worse_joined None b c = refl
worse_joined (Some a) None c = refl
worse_joined (Some a) (Some b) None = refl
worse_joined (Some a) (Some b) (Some c) = worse_of_three a b c

-- what three groups of runs tell together
joined_joined : (a b c : ServerSweep) → joined (joined a b) c ≡ joined a (joined b c)
joined_joined a b c = rw (told_joined a.late_in b.late_in c.late_in, told_joined a.late b.late c.late, told_joined a.refused_in b.refused_in c.refused_in, told_joined a.refused b.refused c.refused, worse_joined a.worst b.worst c.worst) refl

-- every count is one that 64 bits hold
record IsTold (s : ServerSweep) : Type 0 where
  late_in : told (s.late_in + 0) ≡ s.late_in
  late : told (s.late + 0) ≡ s.late
  refused_in : told (s.refused_in + 0) ≡ s.refused_in
  refused : told (s.refused + 0) ≡ s.refused

told_again : (n : ℕ) → told (told n + 0) ≡ told n
told_again n = omega arith

swept_told : (first s : ℕ) (runs : List RunReport) → IsTold (swept first s runs)
swept_told first s [] = record { late_in = refl; late = refl; refused_in = refl; refused = refl }
swept_told first s (r ∷ rs) =
    record { late_in = told_again _; late = told_again _; refused_in = told_again _; refused = told_again _ }

worse_none : (a : Option Worst) → worse a None ≡ a
worse_none None = refl
worse_none (Some a) = refl

-- no runs tell nothing more
joined_none : (a : ServerSweep) → IsTold a → joined a no_sweep ≡ a
joined_none a is = rw (is.late_in, is.late, is.refused_in, is.refused, worse_none a.worst) refl

-- what earlier and later runs tell, of which the newest stands first
append_swept : (first s : ℕ) (later earlier : List RunReport)
    → swept first s (later ++ earlier) ≡ joined (swept first s earlier) (swept (first + length earlier) s later)
append_swept first s [] earlier = sym (joined_none (swept first s earlier) (swept_told first s earlier))
append_swept first s (r ∷ later) earlier =
    let now : first + length (later ++ earlier) ≡ first + length earlier + length later = rw (length-append later earlier) (omega arith) in
    rw (now, append_swept first s later earlier)
    (joined_joined (swept first s earlier) (swept (first + length earlier) s later)
    (told_by (first + length earlier + length later) (slice_get r.servers.items s)))

append_runs : (name : List ℕ) (f : LoadFile) (first : ℕ) (later earlier : List RunReport) → AreRuns name f first earlier
    → AreRuns name f (first + length earlier) later → AreRuns name f first (later ++ earlier)
append_runs name f first [] earlier before after = before
append_runs name f first (r ∷ later) earlier before after =
    let now : first + length earlier + length later ≡ first + length (later ++ earlier) = rw (length-append later earlier) (omega arith) in
    (subst (λ n. IsReportOf name (run_of (with_seed n f)) r) now after.0, append_runs name f first later earlier before after.1)

-- what is told of each server together is what all runs tell
pub swept_together : (name : List ℕ) (f : LoadFile) (first before middle after runs : ℕ) (earlier later together : List ServerSweep)
    → AreSwept name f first before earlier → AreSwept name f middle after later → AreJoined earlier later together
    → middle ≡ first + before → before + after ≡ runs → AreSwept name f first runs together
swept_together name f first before middle after runs earlier later together was is all begins counts =
    let from : middle ≡ first + length was.reports = rw was.counted begins in
    record {
      reports = is.reports ++ was.reports;
      counted = rw (length-append is.reports was.reports, was.counted, is.counted) (omega (arith, counts));
      are = append_runs name f first is.reports was.reports was.are (subst (λ m. AreRuns name f m is.reports) from is.are);
      count = all.count ∙ was.count;
      each = λ s lt. rw (append_swept first s is.reports was.reports, ← from, ← was.each s lt, ← is.each s lt)
          (all.each s (omega (arith, lt, was.count)));
    }
