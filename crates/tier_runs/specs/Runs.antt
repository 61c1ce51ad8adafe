-- Runs of a group: what steps, one after another, keep together.
use Rattle.std.specs.Prelude.{◌≡◌, ◌≤◌, ◌⊎◌, ℕ, List, [], ◌∷◌, ◌++◌, length, Option}
use Rattle.std.specs.List.{AllByRecursion}
use Rattle.obj_model.specs.declared.req.Req.{Req}
use Rattle.obj_ops.specs.Stores.{Store}
use Rattle.tier_chron.specs.Calls.{call_of}
use Rattle.tier_chron.specs.Fits.{FitsCall, IsHistoryFrom}
use Rattle.tier_chron.specs.Laws.{HaveOwnIds}
use Rattle.tier_chron.specs.Logs.{Log}
use Rattle.tier_chron.specs.Places.{behind}
use Rattle.tier_chron.specs.declared.entries.Act.{Act}
use Rattle.tier_chron.specs.declared.entries.First.{First}
use Rattle.tier_chron.specs.declared.entries.Logged.{Logged}
use Rattle.tier_join.specs.Group.{AreLeft, BothTell, TwoMaps}
use Rattle.tier_join.specs.Promises.{StandsFor, StopsLeave, as_it_is, with_req}
use Rattle.tier_join.specs.Steps.{with_doubt}
use Rattle.tier_view.specs.Grows.{Extends, Remains, Stays, Wanted}
use Rattle.tier_view.specs.Laws.{HasAsked, Keeps}
use Rattle.tier_view.specs.Views.{GroupView, calls_in, joined}
use Rattle.tier_view.specs.Whole.{IsWhole}
use Rattle.tier_view.specs.Worlds.{Began}

-- ---- steps

-- What the act of a step may make of the plain store: nothing; what a request makes, which a call
-- asked for; or what the act makes that was in doubt before the step.
pub data MayMake (old new : GroupView) (other : Store → Store) : Type 0 where
  nothing : other ≡ as_it_is → MayMake old new other
  request : (call line : ℕ) (r : Req) → HasAsked new call line r → other ≡ with_req r
      → MayMake old new other
  in_doubt : other ≡ with_doubt (joined old).doubt → MayMake old new other

-- one step, whatever call it enters
pub record IsOneStep (old new : GroupView) : Type 0 where
  pub other : Store → Store
  pub wanted : Option Wanted
  pub makes : MayMake old new other
  pub keeps : Keeps other wanted old new

-- steps one after another
abbrev pub AreSteps : GroupView → List GroupView → Type 0
AreSteps v [] = Unit {0}
AreSteps v (w ∷ ws) = IsOneStep v w × AreSteps w ws

-- the group behind them
abbrev pub last_of : GroupView → List GroupView → GroupView
last_of v [] = v
last_of v (w ∷ ws) = last_of w ws

-- ---- how a group grows over a run

-- what was in a history stays, in its order; more may have come behind it
pub record LogGoesOn (old new : Log) : Type 0 where
  pub opening : List First
  pub acts : List Act
  pub answers : List Logged
  pub is_opening : new.opening ≡ old.opening ++ opening
  pub is_acts : new.acts ≡ old.acts ++ acts
  pub is_answers : new.answers ≡ old.answers ++ answers

-- any number more
abbrev pub AnyMore : {X : Type 0} → List X → Type 0
AnyMore xs = Unit {0}

-- The entries of both tables stay; work that stood may have gone, at a number of answers between
-- the run's beginning and its end.
pub record GrowsOver (old new : GroupView) : Type 0 where
  pub tell : BothTell (joined old) → BothTell (joined new)
  pub told : BothTell (joined new) → BothTell (joined old)
  pub began : (start : Store) → BothTell (joined old) → Began start old → Began start new
  pub log : LogGoesOn old.log new.log
  pub calls : Extends Stays AnyMore old.calls.entries new.calls.entries
  pub flown : Extends (Remains (length old.log.answers) (length new.log.answers)) AnyMore
      old.calls.flown new.calls.flown
  pub epoch : old.standing.cache_epoch ≤ new.standing.cache_epoch
  pub cache_faults : old.stores.cache.faults ≤ new.stores.cache.faults
  pub base_faults : old.stores.base.faults ≤ new.stores.base.faults
  pub share : new.agent.share ≡ old.agent.share
  pub values : new.agent.values ≡ old.agent.values

-- ---- one plain store

-- Whatever a stop leaves while a step is made stands for the plain store before the step, or for
-- that with what the step's act makes of it.
pub record StandsMeanwhile (start : Store) (old new : GroupView) : Type 0 where
  pub other : Store → Store
  pub makes : MayMake old new other
  pub stands : StopsLeave (behind start old.log.acts) (other (behind start old.log.acts))
      (joined old) (joined new)

-- so it is in each step of a run
abbrev pub StandThroughout : Store → GroupView → List GroupView → Type 0
StandThroughout start v [] = Unit {0}
StandThroughout start v (w ∷ ws) = StandsMeanwhile start v w × StandThroughout start w ws

-- What may be relied upon: the history is one from this store, so each act acted on the store that
-- those before it leave, and each answer fits what its call asked, at its place; no request id acts
-- twice; and whatever a stop now leaves stands for the store behind all acts, or behind these and
-- the act in doubt.
pub record IsOneStore (start : Store) (v : GroupView) : Type 0 where
  pub history : IsHistoryFrom start (calls_in v.calls.entries) v.log
  pub fit : AllByRecursion
      (λ l. FitsCall start v.log.acts l (call_of (calls_in v.calls.entries) l.call)) v.log.answers
  pub once : HaveOwnIds v.log.acts
  pub left : (z : TwoMaps) → AreLeft (joined v) z
      → StandsFor z (behind start v.log.acts)
      ⊎ StandsFor z (with_doubt (joined v).doubt (behind start v.log.acts))

-- ---- the laws

abbrev pub RunsKeep : Type 0
RunsKeep =
    (v : GroupView) (ws : List GroupView) → IsWhole v → AreSteps v ws
    → IsWhole (last_of v ws) × GrowsOver v (last_of v ws)

-- A group over stores that tell, which began at a store, stands for that store and its acts through
-- every run, and behind it.
abbrev pub RunsAreOneStore : Type 0
RunsAreOneStore =
    (start : Store) (v : GroupView) (ws : List GroupView) → BothTell (joined v) → Began start v
    → AreSteps v ws → IsOneStore start (last_of v ws) × StandThroughout start v ws

-- A run behind a run is one run, from the one beginning to the other end.
abbrev pub RunsJoin : Type 0
RunsJoin =
    (v : GroupView) (ws us : List GroupView) → AreSteps v ws → AreSteps (last_of v ws) us
    → AreSteps v (ws ++ us) × (last_of v (ws ++ us) ≡ last_of (last_of v ws) us)
