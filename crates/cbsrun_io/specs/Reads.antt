-- What a call that reads returned.
use Rattle.std.specs.Prelude.{ℕ, List, codes, Bool, true, false, Result, Ok, Err}
use Rattle.cbsrun_io.specs.declared.input.ReadError.{ReadError}
use Rattle.cbsrun_io.specs.declared.input.ReadError.TheVariants.{OutOfMemory, ReadFault, TooLarge}

-- the result is that a read failed
abbrev pub is_read_fault : {A : Type 0} → Result A ReadError → Bool
is_read_fault (Ok x) = false
is_read_fault (Err OutOfMemory) = false
is_read_fault (Err ReadFault) = true
is_read_fault (Err TooLarge) = false

-- the number of each read fault
abbrev pub read_error_number : ReadError → ℕ
read_error_number OutOfMemory = 1
read_error_number ReadFault = 2
read_error_number TooLarge = 3

-- the name of each read fault
abbrev pub read_error_name : ReadError → List ℕ
read_error_name OutOfMemory = codes "OutOfMemory"
read_error_name ReadFault = codes "ReadFault"
read_error_name TooLarge = codes "TooLarge"
