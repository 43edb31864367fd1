-- What a unit is charged for the time that it took, and what its server carries to the next one.
use Rattle.std.specs.Prelude.{Bool, true, false, ℕ, ◌+◌, ◌-◌, ◌/◌, ◌%◌}
use Rattle.cbs_pace.specs.declared.rounding.Rounding.{Rounding}
use Rattle.cbs_pace.specs.declared.rounding.Rounding.TheVariants.{Up, Carry}

-- how many ticks a unit is charged that took so long, if its server carried so much
abbrev pub charge_of : Rounding → ℕ → ℕ → ℕ → ℕ
charge_of Up tick carried took = (took - 1) / tick
charge_of Carry tick carried took = (carried + (took - tick)) / tick

-- what its server then carries
abbrev pub carried_of : Rounding → ℕ → ℕ → ℕ → ℕ
carried_of Up tick carried took = carried
carried_of Carry tick carried took = (carried + (took - tick)) % tick

-- how overruns are charged, by whether what is less than a tick is carried
abbrev pub rounding_of : Bool → Rounding
rounding_of true = Carry
rounding_of false = Up

abbrev pub carries_of : Rounding → Bool
carries_of Carry = true
carries_of Up = false
