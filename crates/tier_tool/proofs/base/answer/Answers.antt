use Rattle.std.proofs.Common.{sym, subst}
use Rattle.tier_tool.specs.declared.task.Task.{Task}
use Rattle.log_store.specs.Views.{store_of}
use Rattle.tier_tool.specs.Steps.Serving.{LineEnds, LineUses}
use Rattle.tier_tool.proofs.base.answer.Goals as goal

pub returns-in-Get-clause-ended : goal.returns-in-Get-clause-ended
returns-in-Get-clause-ended g c =
    subst (λ (l : Task). LineEnds l (store_of c.args.pool.now) (store_of c.reading.new.pool) c.reading.result) (sym c.in-Get.is) (c.reading.ensures.ended c.in-Get.client)

pub returns-in-Get-clause-uses : goal.returns-in-Get-clause-uses
returns-in-Get-clause-uses g c =
    subst (λ (l : Task). LineUses l c.args.pool.now c.reading.new.pool c.reading.result) (sym c.in-Get.is) (c.reading.ensures.uses c.in-Get.client)
