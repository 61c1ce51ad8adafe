use Rattle.agent_pick.proofs.Ranks.{limit_found}
use Rattle.agent_pick.proofs.temperatures.cold_limit.Goals as goal

pub returns : goal.returns
returns c =
    limit_found c.args.rows.now c.args.effort c.loop-between.between c.loop-between.invariant.0
    c.loop-between-test.false
