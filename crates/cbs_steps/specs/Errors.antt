-- The numbers and names of the core's errors.
use Rattle.std.specs.Prelude.{ℕ, List, codes, Bool, true, false}
use Rattle.cbs_steps.specs.declared.error.CoreError.{CoreError}
use Rattle.cbs_steps.specs.declared.error.CoreError.TheVariants.{BadBacklog, OutOfMemory, NoSuchServer, Closed, BacklogFull, ClockEnd, NotRunning}

-- the number of each error
abbrev pub core_error_number : CoreError → ℕ
core_error_number BadBacklog = 1
core_error_number OutOfMemory = 2
core_error_number NoSuchServer = 3
core_error_number Closed = 4
core_error_number BacklogFull = 5
core_error_number ClockEnd = 6
core_error_number NotRunning = 7

-- the name of each error, as text
abbrev pub core_error_name : CoreError → List ℕ
core_error_name BadBacklog = codes "BadBacklog"
core_error_name OutOfMemory = codes "OutOfMemory"
core_error_name NoSuchServer = codes "NoSuchServer"
core_error_name Closed = codes "Closed"
core_error_name BacklogFull = codes "BacklogFull"
core_error_name ClockEnd = codes "ClockEnd"
core_error_name NotRunning = codes "NotRunning"

-- whether an error says that memory was refused
abbrev pub is_out_of_memory : CoreError → Bool
is_out_of_memory OutOfMemory = true
is_out_of_memory _ = false
