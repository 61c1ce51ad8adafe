use Rattle.std.proofs.Common.{subst, sym}
use Rattle.tier_types.specs.declared.message.BaseMsg.{BaseMsg}
use Rattle.base_pool.specs.Serves.{Serves}
use Rattle.base_pool.specs.Steps.{base_of}
use Rattle.base_pool.proofs.Acting.{fresh_done, fresh_refused}
use Rattle.base_pool.proofs.kinds.put_fresh.Goals as goal

pub returns-in-Ok-clause-served : goal.returns-in-Ok-clause-served
returns-in-Ok-clause-served g c = λ o a s stays lawful has e.
    fresh_done c.args.have c.args.opid c.args.req.now s c.args.state.now c.args.reply o a (g.P.Store.state c.args.store.now) (g.P.Store.state c.put_state.new.store)
    stays lawful has e c.in-Ok.ensures.spelled c.in-Ok.ensures.put

pub returns-in-Err-clause-served : goal.returns-in-Err-clause-served
returns-in-Err-clause-served g c = λ o a s stays lawful has e.
    let b = g.P.Store.state c.put_state.new.store in
    subst (λ r. Serves (BaseMsg.Write c.args.have c.args.opid c.args.req.now) (base_of a c.args.have o) (base_of b c.args.have o) r) (sym c.refused.ensures)
    (fresh_refused c.args.have c.args.opid c.args.req.now s c.args.state.now c.args.reply c.in-Err.fault o a (g.P.Store.state c.args.store.now) b
    stays lawful has e c.requires.low c.in-Err.ensures.spelled c.in-Err.ensures.put)
