use Rattle.base_pool.proofs.Puts.{state_committed}
use Rattle.base_pool.proofs.putting.put_state.Goals as goal

pub returns-clause-put : goal.returns-clause-put
returns-clause-put g c =
    state_committed c.in_ok-key.key c.args.name.now c.from_vec-value.result c.in_ok-write_state.field-0.items c.args.state.now
    (g.P.Store.state c.args.store.now) (g.P.Store.state c.commit_one.new.store) c.commit_one.result c.in_ok-key.ensures.key c.from_vec-value.ensures
    c.in_ok-write_state.ensures.spelled c.commit_one.ensures.committed
