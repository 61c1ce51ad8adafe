use Rattle.std.proofs.Common.{subst, ◌<◌}
use Rattle.obj_model.specs.declared.state.NameState.{NameState}
use Rattle.base_pool.proofs.kinds.install.Goals as goal

pub returns-then-state-clause-served : goal.returns-then-state-clause-served
returns-then-state-clause-served g c = λ o.
    let found = c.in-Ok.ensures.found in
    c.put_installed.ensures.served o (g.P.Store.state c.args.store.now) c.in-Ok.held.state found.3 found.1 found.2
    (subst (λ (s : NameState). s.seq < c.args.state.now.seq) c.state.ensures c.if-state.true)
