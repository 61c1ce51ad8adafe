-- Runs, one behind the other.
use Rattle.std.proofs.Common.{◌++◌, sym, ap, subst, ◌∙◌}
use Rattle.tier_node.specs.Runs.{EventsHold, IsRun}
use Rattle.tier_runs.proofs.Growing.{runs_join, runs_keep}
use Rattle.tier_runs.proofs.Standing.{runs_are_one_store}
use Rattle.tier_runs.specs.Runs.{AreSteps, GrowsOver, IsOneStore, last_of}
use Rattle.tier_view.specs.Views.{GroupView}
use Rattle.tier_view.specs.Whole.{IsWhole}

pub run_behind : (u v w : GroupView) → IsRun u v → IsRun v w → IsRun u w
run_behind u v w h k =
    let more : AreSteps (last_of u h.views) k.views =
    subst (λ (x : GroupView). AreSteps x k.views) (sym h.last) k.steps in
    let both = runs_join u h.views k.views h.steps more in
    record {
      views = h.views ++ k.views;
      steps = both.0;
      last = both.1 ∙ ap (λ (x : GroupView). last_of x k.views) h.last ∙ k.last;
    }

pub run_holds : (v w : GroupView) → IsWhole v → IsRun v w → EventsHold v w
run_holds v w whole h =
    let kept = runs_keep v h.views whole h.steps in
    record {
      run = h;
      whole = subst IsWhole h.last kept.0;
      grows = subst (GrowsOver v) h.last kept.1;
      one_store = λ start tell began.
          let one = runs_are_one_store start v h.views tell began h.steps in
          (subst (IsOneStore start) h.last one.0, one.1);
    }
