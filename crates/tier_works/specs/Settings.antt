-- A mode, a moment, the agent's cursor and its modes change, at any moment, in a doubt too.
use Rattle.std.specs.Prelude.{ℕ, max, Some}
use Rattle.agent_state.specs.Modes.{idle_modes, modes_of}
use Rattle.obj_model.specs.declared.tier.Mode.{Mode}
use Rattle.tier_protocol.specs.Tiers.{Name}
use Rattle.tier_view.specs.Answers.{KeepsQuietly}
use Rattle.tier_view.specs.Views.{GroupView}
use Rattle.tier_view.specs.Whole.{IsWhole}

-- a quiet change that may come at any moment, in a doubt too
abbrev pub MayComeQuietly : (GroupView → GroupView) → Type 0
MayComeQuietly change = (v : GroupView) → IsWhole v → KeepsQuietly v (change v)

-- another mode
abbrev pub with_mode : Mode → GroupView → GroupView
with_mode mode v = record v { agent = record v.agent { mode = mode } }

abbrev pub SettingModesKeeps : Type 0
SettingModesKeeps = (mode : Mode) → MayComeQuietly (with_mode mode)

-- a moment, which never falls: an earlier one changes nothing
abbrev pub with_moment : (moment : ℕ) → GroupView → GroupView
with_moment moment v = record v { agent = record v.agent { moment = max v.agent.moment moment } }

abbrev pub SettingMomentsKeeps : Type 0
SettingMomentsKeeps = (moment : ℕ) → MayComeQuietly (with_moment moment)

-- the agent's next turn begins behind this name
abbrev pub with_cursor : Name → GroupView → GroupView
with_cursor name v = record v { agent = record v.agent { cursor = Some name } }

abbrev pub MovingCursorsKeeps : Type 0
MovingCursorsKeeps = (name : Name) → MayComeQuietly (with_cursor name)

-- what the agent does follows anew from the sums, after what it did
abbrev pub with_modes_anew : GroupView → GroupView
with_modes_anew v = record v {
  agent = record v.agent {
    modes = modes_of v.agent.totals v.agent.values v.agent.share v.agent.modes;
  };
}

abbrev pub FollowingModesKeeps : Type 0
FollowingModesKeeps = MayComeQuietly with_modes_anew

-- the agent does nothing, as where the cache stops
abbrev pub with_idle_modes : GroupView → GroupView
with_idle_modes v = record v { agent = record v.agent { modes = idle_modes } }

abbrev pub DroppingModesKeeps : Type 0
DroppingModesKeeps = MayComeQuietly with_idle_modes
