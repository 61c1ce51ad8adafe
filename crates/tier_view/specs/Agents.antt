-- The agent of a group, and its clock.
use Rattle.std.specs.Prelude.{ℕ, List, Option}
use Rattle.agent_state.specs.declared.modes.Modes.{Modes}
use Rattle.agent_state.specs.declared.totals.Share.{Share}
use Rattle.agent_state.specs.declared.totals.Totals.{Totals}
use Rattle.obj_model.specs.declared.tier.Mode.{Mode}
use Rattle.obj_model.specs.declared.tier.PoolValues.{PoolValues}

-- The pool's values and the group's share of its targets, which never change; the mode; what the
-- agent does, with the two ratios that it follows from; the moment; the name behind which the next
-- turn begins; and the sums over the cache's records.
pub record Agents : Type 0 where
  pub values : PoolValues
  pub share : Share
  pub mode : Mode
  pub modes : Modes
  pub moment : ℕ
  pub cursor : Option (List ℕ)
  pub totals : Totals
