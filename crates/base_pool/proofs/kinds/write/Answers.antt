use Rattle.std.proofs.Common.{refl, sym, ap, ◌∙◌}
use Rattle.obj_model.specs.declared.state.NameState.{NameState}
use Rattle.obj_ops.specs.Acts.{act}
use Rattle.obj_ops.specs.declared.request.Acted.TheVariants.{Again, Stale, Worn}
use Rattle.base_pool.proofs.Acting.{unacted_given}
use Rattle.base_pool.proofs.kinds.write.Goals as goal

pub returns-in-Ok-Fresh-clause-served : goal.returns-in-Ok-Fresh-clause-served
returns-in-Ok-Fresh-clause-served g c = λ o.
    let found = c.in-Ok.ensures.found in
    let acted = rw c.in-Ok-Fresh.field-0-is at c.in-Ok-Fresh.ensures.exact in
    c.put_fresh.ensures.served o (g.P.Store.state c.args.store.now) c.in-Ok.held.state found.3 found.1 found.2
    (ap (λ (s : NameState). act s c.args.req.now) (sym c.into_state-state.ensures) ∙ acted)

pub returns-in-Ok-Again-clause-served : goal.returns-in-Ok-Again-clause-served
returns-in-Ok-Again-clause-served g c = λ o.
    let acted = rw c.in-Ok-Again.field-0-is at c.in-Ok-Again.ensures.exact in
    unacted_given c.args.have c.args.opid c.args.req.now (Again c.in-Ok-Again.reply) o (g.P.Store.state c.args.store.now) (g.P.Store.state c.recall.new.store) c.in-Ok.held refl
    c.in-Ok.ensures.found (ap (λ (s : NameState). act s c.args.req.now) (sym c.into_state-state.ensures) ∙ acted.0)

pub returns-in-Ok-Stale-clause-served : goal.returns-in-Ok-Stale-clause-served
returns-in-Ok-Stale-clause-served g c = λ o.
    let acted = rw c.in-Ok-Stale.field-0-is at c.in-Ok-Stale.ensures.exact in
    unacted_given c.args.have c.args.opid c.args.req.now (Stale c.in-Ok-Stale.tid) o (g.P.Store.state c.args.store.now) (g.P.Store.state c.recall.new.store) c.in-Ok.held refl
    c.in-Ok.ensures.found (ap (λ (s : NameState). act s c.args.req.now) (sym c.into_state-state.ensures) ∙ acted.0)

pub returns-in-Ok-Worn-clause-served : goal.returns-in-Ok-Worn-clause-served
returns-in-Ok-Worn-clause-served g c = λ o.
    let acted = rw c.in-Ok-Worn.field-0-is at c.in-Ok-Worn.ensures.exact in
    unacted_given c.args.have c.args.opid c.args.req.now (Worn c.in-Ok-Worn.limit) o (g.P.Store.state c.args.store.now) (g.P.Store.state c.recall.new.store) c.in-Ok.held refl
    c.in-Ok.ensures.found (ap (λ (s : NameState). act s c.args.req.now) (sym c.into_state-state.ensures) ∙ acted.0)
