-- What a step owes beside its growth, so that what always holds goes on; and the general law.
use Rattle.std.specs.Prelude.{◌≡◌, ◌≤◌, ◌+◌, false, List, ◌++◌, length, Option}
use Rattle.std.specs.List.{AllByRecursion}
use Rattle.obj_model.specs.declared.change.Pool.TheVariants.{Cache, Base}
use Rattle.obj_ops.specs.Stores.{Store}
use Rattle.tier_chron.specs.Shapes.{IsShaped}
use Rattle.tier_chron.specs.declared.entries.Logged.{Logged}
use Rattle.tier_join.specs.Group.{IsGroup}
use Rattle.tier_view.specs.Grows.{Grows, Wanted}
use Rattle.tier_view.specs.Tables.{IsUnanswered, SoundFlights}
use Rattle.tier_view.specs.Views.{GroupView, calls_in, joined}
use Rattle.tier_view.specs.Whole.{AreSums, HaveCauses, IsWhole, SoundStops, SoundTraffic, faults_told}
use Rattle.tier_view.specs.Worlds.{MayPend}

-- What a step owes that logs these answers.
pub record Owes (answers : List Logged) (old new : GroupView) : Type 0 where
  pub logs : new.log.answers ≡ old.log.answers ++ answers
  pub shaped : IsShaped (calls_in old.calls.entries) old.log
      → IsShaped (calls_in new.calls.entries) new.log
  pub pending : MayPend new.calls.entries new.log new.stores.pending
  -- no call is in flight that was answered
  pub over : AllByRecursion (λ e. e.ended ≡ false → IsUnanswered e.number answers)
      new.calls.entries
  pub flights : SoundFlights new.calls.entries new.calls.flown new.traffic.flights
      new.traffic.begun new.standing.cache_epoch (length new.log.answers)
  pub traffic : SoundTraffic new.calls.entries new.traffic
  pub causes : HaveCauses (length old.log.answers) new.calls new.agent.share
      new.standing.cache_epoch answers
  -- a disk failed in the step where an answer says so
  pub cache_failed : old.stores.cache.faults + faults_told Cache answers ≤ new.stores.cache.faults
  pub base_failed : old.stores.base.faults + faults_told Base answers ≤ new.stores.base.faults
  pub stops : SoundStops new.stores new.standing
  pub totals : AreSums new.stores new.agent

-- Any step that grows as a step may, and has what it owes, keeps what always holds.
abbrev pub StepsKeep : Type 0
StepsKeep =
    (other : Store → Store) (wanted : Option Wanted) (answers : List Logged) (v w : GroupView)
    → IsWhole v → Grows other wanted v w → Owes answers v w → IsWhole w

-- what always holds of a group has what holds of its pools
abbrev pub WholeIsGroup : Type 0
WholeIsGroup = (v : GroupView) → IsWhole v → IsGroup (joined v)
