-- One step of a group, or none, as a run.
use Rattle.std.proofs.Common.{◌≡◌, [], ◌∷◌, Option, None, refl, sym, subst}
use Rattle.tier_core.specs.Steps.{IsStep}
use Rattle.tier_join.specs.Promises.{as_it_is}
use Rattle.tier_join.specs.Steps.{with_doubt}
use Rattle.tier_node.specs.Runs.{IsRun}
use Rattle.tier_runs.specs.Runs.{IsOneStep, MayMake}
use Rattle.tier_view.proofs.Answering.{quiet_is_step}
use Rattle.tier_view.specs.Answers.{KeepsQuietly}
use Rattle.tier_view.specs.Grows.{Wanted}
use Rattle.tier_view.specs.Laws.{Keeps}
use Rattle.tier_view.specs.Views.{GroupView, joined}

pub single : (v w : GroupView) → IsOneStep v w → IsRun v w
single v w s = record { views = w ∷ []; steps = (s, tt); last = refl }

pub resting : (v : GroupView) → IsRun v v
resting v = record { views = []; steps = tt; last = refl }

pub unmoved : (v w : GroupView) → w ≡ v → IsRun v w
unmoved v w is = subst (λ (x : GroupView). IsRun v x) (sym is) (resting v)

-- a step that may come in a doubt too
pub doubting : (v w : GroupView) → IsStep None v w → IsRun v w
doubting v w h = single v w (record {
  other = with_doubt (joined v).doubt;
  wanted = None;
  makes = MayMake.in_doubt refl;
  keeps = h;
})

pub quietly : (v w : GroupView) → KeepsQuietly v w → IsRun v w
quietly v w h = doubting v w (quiet_is_step v w h)

-- a step without an act
pub plainly : (v w : GroupView) → Keeps as_it_is None v w → IsRun v w
plainly v w h = single v w (record {
  other = as_it_is;
  wanted = None;
  makes = MayMake.nothing refl;
  keeps = h;
})

-- a step that may come in a doubt too, and enters a call
pub entering : (wanted : Option Wanted) (v w : GroupView) → IsStep wanted v w → IsRun v w
entering wanted v w h = single v w (record {
  other = with_doubt (joined v).doubt;
  wanted = wanted;
  makes = MayMake.in_doubt refl;
  keeps = h;
})
