use Rattle.std.proofs.Common.{arith, subst, sym}
use Rattle.tier_types.specs.declared.message.BaseMsg.{BaseMsg}
use Rattle.base_pool.specs.Serves.{Serves}
use Rattle.base_pool.specs.Steps.{base_of}
use Rattle.base_pool.proofs.Fences.{fence_done, fence_high, fence_refused, fence_stands}
use Rattle.base_pool.proofs.kinds.fence.Goals as goal

pub returns-then-got-epoch-clause-served : goal.returns-then-got-epoch-clause-served
returns-then-got-epoch-clause-served g c = λ o. fence_stands c.args.epoch.now c.args.got o (g.P.Store.state c.args.store.now) c.if-got-epoch.true

pub returns-in-Ok-clause-served : goal.returns-in-Ok-clause-served
returns-in-Ok-clause-served g c = λ o.
    fence_done c.args.epoch.now c.args.got o (g.P.Store.state c.args.store.now) (g.P.Store.state c.put_epoch.new.store)
    (omega (arith, c.requires.own, c.if-got-epoch.false)) (omega (arith, c.if-got-gt-NUMBER_LIMIT.false)) c.in-Ok.ensures.put

pub returns-in-Err-clause-served : goal.returns-in-Err-clause-served
returns-in-Err-clause-served g c = λ o.
    let a = g.P.Store.state c.args.store.now in
    let b = g.P.Store.state c.put_epoch.new.store in
    subst (λ r. Serves (BaseMsg.Fence c.args.got) (base_of a c.args.epoch.now o) (base_of b c.args.epoch.now o) r) (sym c.refused.ensures)
    (fence_refused c.args.epoch.now c.args.got c.in-Err.fault o a b (omega (arith, c.requires.own, c.if-got-epoch.false)) (omega (arith, c.if-got-gt-NUMBER_LIMIT.false)) c.in-Err.ensures.put)
