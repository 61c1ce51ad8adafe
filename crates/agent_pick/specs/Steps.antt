-- What the steps of a pick promise each other.
use Rattle.std.specs.Prelude.{◌≡◌, ◌<◌, ◌≤◌, ◌^◌, ℕ, true, false, List, nat_lt}
use Rattle.agent_state.specs.declared.modes.EvictMode.{EvictMode}
use Rattle.agent_state.specs.declared.modes.EvictMode.TheVariants as evict
use Rattle.agent_pick.specs.declared.row.Row.{Row}
use Rattle.agent_pick.specs.declared.row.Rule.{Rule}
use Rattle.agent_pick.specs.declared.temperatures.Between.{Between}
use Rattle.agent_pick.specs.Rules.{is_cold}

-- the cold temperatures are those below the limit
abbrev pub IsColdLimit : List Row → ℕ → ℕ → Type 0
IsColdLimit rows effort limit =
    (temperature : ℕ) → temperature < 2 ^ 64 →
    is_cold rows effort temperature ≡ nat_lt temperature limit

-- a limit is asked for in some mode alone
abbrev pub IsLimitIn : EvictMode → List Row → ℕ → ℕ → Type 0
IsLimitIn evict.Idle rows effort limit = Unit {0}
IsLimitIn evict.Some rows effort limit = IsColdLimit rows effort limit
IsLimitIn evict.Full rows effort limit = Unit {0}

-- the limit that the rule asks for among these rows
abbrev pub IsLimit : List Row → Rule → ℕ → Type 0
IsLimit rows rule limit = IsLimitIn rule.modes.evict rows rule.modes.effort limit

-- the limit of cold temperatures lies between these
pub record IsBetween (rows : List Row) (effort : ℕ) (b : Between) : Type 0 where
  pub ordered : b.low ≤ b.high
  pub top : b.high ≤ 2 ^ 64
  pub cold : (t : ℕ) → t < b.low → is_cold rows effort t ≡ true
  pub warm : (t : ℕ) → b.high ≤ t → t < 2 ^ 64 → is_cold rows effort t ≡ false
