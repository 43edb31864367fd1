-- The numbers and names of the errors of a house and of a client.
use Rattle.std.specs.Prelude.{ℕ, List, codes, Option, None, Some, Result, Ok, Err}
use Rattle.cbs_steps.specs.declared.error.CoreError.{CoreError}
use Rattle.cbs_steps.specs.declared.error.CoreError.TheVariants as core
use Rattle.cbs_clients.specs.declared.error.HouseError.{HouseError}
use Rattle.cbs_clients.specs.declared.error.HouseError.TheVariants as house
use Rattle.cbs_clients.specs.declared.error.SendError.{SendError}
use Rattle.cbs_clients.specs.declared.error.SendError.TheVariants as send

-- the number of each error of the house
abbrev pub house_error_number : HouseError → ℕ
house_error_number house.BadBacklog = 1
house_error_number house.BadRing = 2
house_error_number house.OutOfMemory = 3
house_error_number house.NoSuchServer = 4
house_error_number house.ClockEnd = 5
house_error_number house.Stalled = 6
house_error_number house.NotRunning = 7

-- the name of each error of the house, as text
abbrev pub house_error_name : HouseError → List ℕ
house_error_name house.BadBacklog = codes "BadBacklog"
house_error_name house.BadRing = codes "BadRing"
house_error_name house.OutOfMemory = codes "OutOfMemory"
house_error_name house.NoSuchServer = codes "NoSuchServer"
house_error_name house.ClockEnd = codes "ClockEnd"
house_error_name house.Stalled = codes "Stalled"
house_error_name house.NotRunning = codes "NotRunning"

-- the house's error for the core's refusal of a charge, which is one of three
abbrev pub charge_error : CoreError → HouseError
charge_error core.NoSuchServer = house.NoSuchServer
charge_error core.NotRunning = house.NotRunning
charge_error _ = house.ClockEnd

-- the result of a charge, by why the core refuses it, if it does
abbrev pub charge_answer : Option CoreError → Result (Unit {0}) HouseError
charge_answer None = Ok tt
charge_answer (Some e) = Err (charge_error e)

-- the number of each error of a client
abbrev pub send_error_number : SendError → ℕ
send_error_number send.Ended = 1
send_error_number send.RingFull = 2

-- the name of each error of a client, as text
abbrev pub send_error_name : SendError → List ℕ
send_error_name send.Ended = codes "Ended"
send_error_name send.RingFull = codes "RingFull"
