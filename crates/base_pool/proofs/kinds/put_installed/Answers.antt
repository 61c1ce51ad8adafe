use Rattle.std.proofs.Common.{subst, sym}
use Rattle.tier_types.specs.declared.message.BaseMsg.{BaseMsg}
use Rattle.base_pool.specs.Serves.{Serves}
use Rattle.base_pool.specs.Steps.{base_of}
use Rattle.base_pool.proofs.Acting.{install_done, install_refused}
use Rattle.base_pool.proofs.kinds.put_installed.Goals as goal

pub returns-in-Ok-clause-served : goal.returns-in-Ok-clause-served
returns-in-Ok-clause-served g c = λ o a s stays lawful has e.
    install_done c.args.have c.args.opid c.args.name.now s c.args.state.now o a (g.P.Store.state c.args.store.now) (g.P.Store.state c.put_state.new.store)
    stays lawful has e c.in-Ok.ensures.spelled c.in-Ok.ensures.put

pub returns-in-Err-clause-served : goal.returns-in-Err-clause-served
returns-in-Err-clause-served g c = λ o a s stays lawful has e.
    let b = g.P.Store.state c.put_state.new.store in
    subst (λ r. Serves (BaseMsg.Install c.args.have c.args.opid c.args.name.now c.args.state.now) (base_of a c.args.have o) (base_of b c.args.have o) r) (sym c.refused.ensures)
    (install_refused c.args.have c.args.opid c.args.name.now s c.args.state.now c.in-Err.fault o a (g.P.Store.state c.args.store.now) b
    stays lawful has e c.requires.low c.in-Err.ensures.spelled c.in-Err.ensures.put)
