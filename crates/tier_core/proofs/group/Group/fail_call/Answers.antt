use Rattle.std.proofs.Common.{subst, sym}
use Rattle.tier_view.specs.Views.{GroupView}
use Rattle.tier_view.specs.Whole.{IsWhole}
use Rattle.tier_core.proofs.EndedCalls.{fault_may}
use Rattle.tier_core.proofs.group.Group.fail_call.Goals as goal

pub answer_call-requires : goal.answer_call-requires
answer_call-requires g c =
    fault_may c.args.self.now c.args.logged (subst (λ (v : GroupView). IsWhole v) c.self.view_is c.self.invariant.whole)
    (record { may = c.requires.may; fault = c.requires.fault; cause = c.requires.cause })
