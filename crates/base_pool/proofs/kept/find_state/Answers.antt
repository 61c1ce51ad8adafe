use Rattle.std.proofs.Common.{Ok, subst, sym}
use Rattle.base_pool.specs.Steps.{Finds, FindsValue}
use Rattle.base_pool.proofs.Found.{no_state}
use Rattle.base_pool.proofs.kept.find_state.Goals as goal

pub returns-in-Ok-None-clause-found : goal.returns-in-Ok-None-clause-found
returns-in-Ok-None-clause-found g c =
    let a = g.P.Store.state c.args.store.now in
    let b = g.P.Store.state c.find_value.new.store in
    subst (λ s. Finds c.args.name.now a b (Ok s)) (sym c.unknown.ensures)
    (no_state c.args.name.now a b (subst (λ o. FindsValue c.args.name.now a b (Ok o)) c.in-Ok-None.field-0-is c.in-Ok-None.ensures.found))
