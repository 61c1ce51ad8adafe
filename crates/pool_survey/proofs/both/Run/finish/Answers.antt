use Rattle.pool_survey.proofs.Endings.{finish_done}
use Rattle.pool_survey.proofs.both.Run.finish.Goals as goal

pub returns-in-Ok-clause-finished : goal.returns-in-Ok-clause-finished
returns-in-Ok-clause-finished g c =
    finish_done c.args.self c.read_up_to.new.self c.conclude.result
    (g.B.Store.state c.args.base.now) (g.B.Store.state c.read_up_to.new.base)
    c.in-Ok.ensures.read c.conclude.ensures
