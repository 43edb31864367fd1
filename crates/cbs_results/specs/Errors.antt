-- The numbers and names of the errors of a collector.
use Rattle.std.specs.Prelude.{ℕ, List, codes}
use Rattle.cbs_results.specs.declared.error.CollectError.{CollectError}
use Rattle.cbs_results.specs.declared.error.CollectError.TheVariants as collect

-- the number of each error of a collector
abbrev pub collect_error_number : CollectError → ℕ
collect_error_number collect.Stranger = 1
collect_error_number collect.Double = 2
collect_error_number collect.Early = 3
collect_error_number collect.OutOfMemory = 4

-- the name of each error of a collector, as text
abbrev pub collect_error_name : CollectError → List ℕ
collect_error_name collect.Stranger = codes "Stranger"
collect_error_name collect.Double = codes "Double"
collect_error_name collect.Early = codes "Early"
collect_error_name collect.OutOfMemory = codes "OutOfMemory"
