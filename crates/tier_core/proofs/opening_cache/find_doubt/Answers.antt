use Rattle.tier_core.proofs.FoundHere.{act_doubted}
use Rattle.tier_core.proofs.opening_cache.find_doubt.Goals as goal

pub returns-in-Act-clause-found : goal.returns-in-Act-clause-found
returns-in-Act-clause-found g c =
    let i = c.in-Act in
    act_doubted c.args.doubt.now i.pool i.first i.act i.seq (g.P.Store.state c.args.cache.now) (g.P.Store.state c.find_act.new.cache) c.find_act.result i.is c.requires.here (c.find_act.ensures.found i.first)
