use Rattle.std.proofs.Common.{sym}
use Rattle.agent_pick.proofs.Ranks.{colder_known, warmer_known}
use Rattle.agent_pick.proofs.temperatures.narrowed.Goals as goal

pub returns-then-ranks_below-clause-known : goal.returns-then-ranks_below-clause-known
returns-then-ranks_below-clause-known c =
    colder_known c.args.rows.now c.args.effort c.args.probe c.args.between c.requires.between
    c.requires.inside.0 c.requires.inside.1 (sym c.if-ranks_below.ensures)

pub returns-else-ranks_below-clause-known : goal.returns-else-ranks_below-clause-known
returns-else-ranks_below-clause-known c =
    warmer_known c.args.rows.now c.args.effort c.args.probe c.args.between c.requires.between
    c.requires.inside.0 c.requires.inside.1 (sym c.if-ranks_below.ensures)
