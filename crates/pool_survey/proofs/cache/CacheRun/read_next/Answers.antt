use Rattle.std.proofs.Common.{None, Ok, subst}
use Rattle.pool_survey.specs.Steps.{Moves}
use Rattle.pool_survey.proofs.CacheReads.{cache_entered}
use Rattle.pool_survey.proofs.cache.CacheRun.read_next.Goals as goal

pub returns-in-Ok-Some-clause-read : goal.returns-in-Ok-Some-clause-read
returns-in-Ok-Some-clause-read g c =
    let a = g.P.Store.state c.args.cache.now in
    let b = g.P.Store.state c.read_value.new.cache in
    cache_entered c.args.self.now c.read_value.new.self c.take_in.new.self _ _ a b
    (subst (λ o. Moves None c.args.self.now.cursor c.read_value.new.self.cursor a b (Ok o)) c.in-Ok-Some.field-0-is c.in-Ok-Some.ensures.moved)
    c.in-Ok-Some.ensures.epoch c.in-Ok-Some.ensures.totals c.take_in.ensures c.requires.so_far
