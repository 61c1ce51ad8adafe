-- What the tests of flights ask of the work that they add.
use Rattle.std.specs.Prelude.{◌≡◌, ℕ, Bool, Option, Some, true}
use Rattle.tier_types.specs.declared.flight.Flight.{Flight}
use Rattle.tier_flight.specs.Numbers.{IsSingle, has_call, has_opid}

-- the work has no other number than this
abbrev pub IsOnly : (Option Flight → ℕ → Bool) → ℕ → Flight → Type 0
IsOnly has number work = (k : ℕ) → has (Some work) k ≡ true → k ≡ number

-- one operation of this number, for which no other call waits than this one
pub record IsOne (call opid : ℕ) (work : Flight) : Type 0 where
  pub single : IsSingle work
  pub operation : IsOnly has_opid opid work
  pub caller : IsOnly has_call call work
