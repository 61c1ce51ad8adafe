-- Over stores that tell, a run is one plain store.
use Rattle.std.proofs.Common.{[], ◌∷◌}
use Rattle.obj_ops.specs.Stores.{Store}
use Rattle.tier_chron.proofs.Ids.{ids_act_once}
use Rattle.tier_chron.proofs.Staying.{answers_fit}
use Rattle.tier_join.specs.Group.{BothTell}
use Rattle.tier_join.proofs.Telling.{left_stands}
use Rattle.tier_view.specs.Views.{GroupView, calls_in, joined}
use Rattle.tier_view.specs.Worlds.{Began}
use Rattle.tier_runs.specs.Runs.{IsOneStep, IsOneStore, RunsAreOneStore, StandsMeanwhile}

began_is_one : (start : Store) (v : GroupView) → Began start v → IsOneStore start v
began_is_one start v b = record {
  history = b.history;
  fit = answers_fit v.log start (calls_in v.calls.entries) b.history;
  once = ids_act_once v.log start b.history.legal;
  left = λ z left. left_stands start (joined v) z b.pools left;
}

step_stands : (start : Store) (v w : GroupView) → BothTell (joined v) → Began start v
    → IsOneStep v w → StandsMeanwhile start v w
step_stands start v w tell b s = record {
  other = s.other;
  makes = s.makes;
  stands = s.keeps.1.pools.stops start tell b.pools;
}

pub runs_are_one_store : RunsAreOneStore
runs_are_one_store start v [] tell b steps = (began_is_one start v b, tt)
runs_are_one_store start v (w ∷ ws) tell b steps =
    let grows = steps.0.keeps.1 in
    let rest = runs_are_one_store start w ws (grows.pools.tell tell) (grows.began start tell b) steps.1
    in (rest.0, (step_stands start v w tell b steps.0, rest.1))
