-- Lists of events, and the theorem of a run of them.
use Rattle.std.specs.Prelude.{◌≡◌, List, [], ◌∷◌}
use Rattle.obj_ops.specs.Stores.{Store}
use Rattle.tier_join.specs.Group.{BothTell}
use Rattle.tier_node.specs.Steps.{Steps}
use Rattle.tier_node.specs.declared.event.Event.{Event}
use Rattle.tier_node.specs.declared.outcome.Outcome.{Outcome}
use Rattle.tier_runs.specs.Runs.{AreSteps, GrowsOver, IsOneStore, StandThroughout, last_of}
use Rattle.tier_view.specs.Views.{GroupView, joined}
use Rattle.tier_view.specs.Whole.{IsWhole}
use Rattle.tier_view.specs.Worlds.{Began}

-- steps of a group, one after another, from this view of it to that
pub record IsRun (old new : GroupView) : Type 0 where
  pub views : List GroupView
  pub steps : AreSteps old views
  pub last : last_of old views ≡ new

-- The events were carried out one behind the other, each as its step promises, and each has its
-- outcome.
abbrev pub Runs : List Event → (old new : GroupView) → List Outcome → Type 0
Runs [] old new [] = new ≡ old
Runs (e ∷ events) old new (o ∷ outcomes) =
    (next : GroupView) × Steps e old next o × IsRun old next × Runs events next new outcomes
Runs events old new outcomes = ⊥

-- Over stores that tell, the group is behind the run one plain object store, from each store at
-- which it began, and whatever a stop leaves, in each step, stands for that store.
abbrev pub IsOneThroughout : (old new : GroupView) → IsRun old new → Type 0
IsOneThroughout old new run =
    (start : Store) → BothTell (joined old) → Began start old
    → IsOneStore start new × StandThroughout start old run.views

-- The theorem of a run: it is steps, one after another; what always holds, holds behind it; the
-- group grew; and it is one plain store throughout.
pub record EventsHold (old new : GroupView) : Type 0 where
  pub run : IsRun old new
  pub whole : IsWhole new
  pub grows : GrowsOver old new
  pub one_store : IsOneThroughout old new run
