-- The agent's part changes in what no other part speaks of.
use Rattle.std.proofs.Common.{◌≡◌, refl, ◌∙◌}
use Rattle.tier_view.specs.Agents.{Agents}
use Rattle.tier_view.specs.Answers.{KeepsQuietly}
use Rattle.tier_view.specs.Views.{GroupView, joined}
use Rattle.tier_view.specs.Whole.{IsWhole}
use Rattle.tier_view.proofs.Resting.{rests_promises}
use Rattle.tier_works.specs.Settings.{DroppingModesKeeps, FollowingModesKeeps, MovingCursorsKeeps, SettingModesKeeps, SettingMomentsKeeps, with_cursor, with_idle_modes, with_mode, with_modes_anew, with_moment}
use Rattle.tier_works.proofs.QuietSteps.{quiet_step, same_entries, same_flown}

-- pool values, share and sums stay
agent_changes : (v : GroupView) (agent : Agents) → IsWhole v → agent.share ≡ v.agent.share
    → agent.values ≡ v.agent.values → agent.totals ≡ v.agent.totals
    → KeepsQuietly v (record v { agent = agent })
agent_changes v agent h share values totals =
    quiet_step v h v.calls.entries v.calls.flown v.traffic agent (rests_promises (joined v))
    (λ start b z i k. k) refl (same_entries v) (same_flown v) share values h.flights h.traffic
    (λ known x left recs epoch spelled. totals ∙ h.totals known x left recs epoch spelled)

pub setting_modes_keeps : SettingModesKeeps
setting_modes_keeps mode v h = agent_changes v (with_mode mode v).agent h refl refl refl

pub setting_moments_keeps : SettingMomentsKeeps
setting_moments_keeps moment v h = agent_changes v (with_moment moment v).agent h refl refl refl

pub moving_cursors_keeps : MovingCursorsKeeps
moving_cursors_keeps name v h = agent_changes v (with_cursor name v).agent h refl refl refl

pub following_modes_keeps : FollowingModesKeeps
following_modes_keeps v h = agent_changes v (with_modes_anew v).agent h refl refl refl

pub dropping_modes_keeps : DroppingModesKeeps
dropping_modes_keeps v h = agent_changes v (with_idle_modes v).agent h refl refl refl
