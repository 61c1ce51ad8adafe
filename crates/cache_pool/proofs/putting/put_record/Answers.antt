use Rattle.cache_pool.proofs.Committing.{record_committed}
use Rattle.cache_pool.proofs.putting.put_record.Goals as goal

pub returns-clause-put : goal.returns-clause-put
returns-clause-put g c =
    record_committed c.in_ok-key.key c.args.name.now c.from_vec-value.result
    c.in_ok-write_tier.field-0.items c.args.held.now (g.P.Store.state c.args.store.now)
    (g.P.Store.state c.commit.new.store) c.commit.result c.in_ok-key.ensures.key
    c.from_vec-value.ensures c.in_ok-write_tier.ensures.spelled c.commit.ensures.put
