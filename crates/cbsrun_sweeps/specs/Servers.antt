-- What many runs of a load tell of one server.
use Rattle.std.specs.Prelude.{ℕ, Bool, ◌&&◌, ◌+◌, eqb, leb, ltb, if◌then◌else◌, Option, Some, None, option_map}
use Rattle.cbsrun_figures.specs.Figures.{told}
use Rattle.cbsrun_figures.specs.declared.figures.Figures.{Figures}
use Rattle.cbsrun_figures.specs.declared.figures.Ranks.{Ranks}
use Rattle.cbsrun_sweeps.specs.declared.server.ServerSweep.{ServerSweep}
use Rattle.cbsrun_sweeps.specs.declared.server.Worst.{Worst}

-- how many jobs are late
abbrev pub late_jobs : Figures → ℕ
late_jobs f = told (f.late_finished + f.late_unfinished)

-- 1 if there are some
abbrev pub one_if : ℕ → ℕ
one_if n = if ltb 0 n then 1 else 0

-- the greatest response of the run with this seed
abbrev pub worst_of : ℕ → Ranks → Worst
worst_of seed ranks = record { response = ranks.greatest; seed = seed }

-- the worse one of two responses, that of earlier runs and that of later ones; of two that are equal, the earlier one
abbrev pub worse : Option Worst → Option Worst → Option Worst
worse None later = later
worse (Some earlier) None = Some earlier
worse (Some earlier) (Some later) = Some (if leb later.response earlier.response then earlier else later)

-- what no runs tell
abbrev pub no_sweep : ServerSweep
no_sweep = record { late_in = 0; late = 0; refused_in = 0; refused = 0; worst = None }

-- what one run tells, with this seed and these figures
abbrev pub run_sweep : ℕ → Figures → ServerSweep
run_sweep seed f = record {
  late_in = one_if (late_jobs f);
  late = late_jobs f;
  refused_in = one_if f.refused;
  refused = f.refused;
  worst = option_map (worst_of seed) f.responses;
}

-- what earlier and later runs tell together
abbrev pub joined : ServerSweep → ServerSweep → ServerSweep
joined earlier later = record {
  late_in = told (earlier.late_in + later.late_in);
  late = told (earlier.late + later.late);
  refused_in = told (earlier.refused_in + later.refused_in);
  refused = told (earlier.refused + later.refused);
  worst = worse earlier.worst later.worst;
}

-- no job of a server was late in any run, or refused
abbrev pub is_in_time : ServerSweep → Bool
is_in_time s = eqb s.late_in 0 && eqb s.refused_in 0
