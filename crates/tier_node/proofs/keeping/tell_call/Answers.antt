use Rattle.std.proofs.Common.{sym, subst}
use Rattle.tier_node.proofs.Joined.{run_behind}
use Rattle.tier_node.proofs.Single.{doubting, quietly}
use Rattle.tier_node.proofs.Turns.{forgot_may}
use Rattle.tier_node.specs.Tells.{MayBeTold}
use Rattle.tier_view.specs.Views.{GroupView}
use Rattle.tier_node.proofs.keeping.tell_call.Goals as goal

pub tell-requires-clause-may : goal.tell-requires-clause-may
tell-requires-clause-may g c =
    subst (λ (v : GroupView). MayBeTold v c.args.turn c.args.answer)
    (sym c.forget_kept.ensures.forgot)
    (forgot_may c.args.g.now c.args.turn c.args.answer c.requires.may)

pub returns-clause-run : goal.returns-clause-run
returns-clause-run g c =
    run_behind c.args.g.now c.forget_kept.new.self c.tell.new.g
    (doubting c.args.g.now c.forget_kept.new.self c.forget_kept.ensures.step)
    (quietly c.forget_kept.new.self c.tell.new.g c.tell.ensures.step)
