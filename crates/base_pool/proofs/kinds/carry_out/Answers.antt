use Rattle.std.proofs.Common.{sym, subst, ap, ◌∙◌}
use Rattle.tier_types.specs.declared.message.BaseMsg.{BaseMsg}
use Rattle.base_pool.specs.Serves.{Serves}
use Rattle.base_pool.specs.Steps.{base_of, refusal}
use Rattle.base_pool.proofs.Taking.{taken_as}
use Rattle.base_pool.proofs.kinds.carry_out.Goals as goal

pub returns-in-Fence-clause-served : goal.returns-in-Fence-clause-served
returns-in-Fence-clause-served g c = λ o.
    subst (λ m. Serves m (base_of (g.P.Store.state c.args.store.now) c.args.epoch.now o) (base_of (g.P.Store.state c.fence.new.store) c.fence.new.epoch o) c.fence.result)
    (sym c.in-Fence.is) (c.fence.ensures.served o)

pub returns-in-GetChunk-clause-served : goal.returns-in-GetChunk-clause-served
returns-in-GetChunk-clause-served g c = λ o.
    let a = g.P.Store.state c.args.store.now in
    let b = g.P.Store.state c.get_chunk.new.store in
    subst (λ m. Serves m (base_of a c.args.epoch.now o) (base_of b c.args.epoch.now o) c.get_chunk.result) (sym c.in-GetChunk.is)
    (taken_as (λ e. BaseMsg.GetChunk e c.in-GetChunk.opid c.in-GetChunk.name c.in-GetChunk.at) c.args.epoch.now c.in-GetChunk.epoch a b c.get_chunk.result
    (ap (refusal c.args.epoch.now) (sym c.in-GetChunk.is) ∙ c.requires.taken) c.get_chunk.ensures.served o)

pub returns-in-Look-clause-served : goal.returns-in-Look-clause-served
returns-in-Look-clause-served g c = λ o.
    let a = g.P.Store.state c.args.store.now in
    let b = g.P.Store.state c.look_up.new.store in
    subst (λ m. Serves m (base_of a c.args.epoch.now o) (base_of b c.args.epoch.now o) c.look_up.result) (sym c.in-Look.is)
    (taken_as (λ e. BaseMsg.Look e c.in-Look.opid c.in-Look.name c.in-Look.vector) c.args.epoch.now c.in-Look.epoch a b c.look_up.result
    (ap (refusal c.args.epoch.now) (sym c.in-Look.is) ∙ c.requires.taken) c.look_up.ensures.served o)

pub returns-in-Write-clause-served : goal.returns-in-Write-clause-served
returns-in-Write-clause-served g c = λ o.
    let a = g.P.Store.state c.args.store.now in
    let b = g.P.Store.state c.write.new.store in
    subst (λ m. Serves m (base_of a c.args.epoch.now o) (base_of b c.args.epoch.now o) c.write.result) (sym c.in-Write.is)
    (taken_as (λ e. BaseMsg.Write e c.in-Write.opid c.in-Write.req) c.args.epoch.now c.in-Write.epoch a b c.write.result
    (ap (refusal c.args.epoch.now) (sym c.in-Write.is) ∙ c.requires.taken) c.write.ensures.served o)

pub returns-in-Install-clause-served : goal.returns-in-Install-clause-served
returns-in-Install-clause-served g c = λ o.
    let a = g.P.Store.state c.args.store.now in
    let b = g.P.Store.state c.install.new.store in
    subst (λ m. Serves m (base_of a c.args.epoch.now o) (base_of b c.args.epoch.now o) c.install.result) (sym c.in-Install.is)
    (taken_as (λ e. BaseMsg.Install e c.in-Install.opid c.in-Install.name c.in-Install.state) c.args.epoch.now c.in-Install.epoch a b c.install.result
    (ap (refusal c.args.epoch.now) (sym c.in-Install.is) ∙ c.requires.taken) c.install.ensures.served o)
