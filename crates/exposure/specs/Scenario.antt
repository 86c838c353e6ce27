-- An account's figures under a scenario, and its own, under one name: the program has one path for both.
use Rattle.std.specs.Prelude.{List, ℕ, ◌-◌, ℤ, length}
use Rattle.methodology.specs.Account.{Account, decrease, largest_decrease, eul_under, own_eul}
use Rattle.exposure.specs.declared.account.Scenario.{Scenario}
use Rattle.exposure.specs.declared.account.Scenario.TheVariants.{Own, Under}

-- the number of the stress that is read of a row; a largest decrease asks for none
abbrev pub stress_read : Scenario → ℕ
stress_read Own = 0
stress_read (Under j) = j

-- a row's largest decrease, or the one under scenario j
abbrev pub fall_under : Scenario → (row : List ℤ) → ℕ
fall_under Own row = largest_decrease (length row - 1) row
fall_under (Under j) row = decrease row j

-- an account's own EUL, or the one under scenario j
abbrev pub eul_by : (k : ℕ) → Scenario → Account → ℤ
eul_by k Own = own_eul k
eul_by k (Under j) = eul_under j
