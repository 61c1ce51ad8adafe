use Rattle.std.proofs.Common.{subst, sym}
use Rattle.tier_stop.specs.Starts.{Starts}
use Rattle.tier_stop.specs.declared.choosing.StartStep.{StartStep}
use Rattle.tier_stop.specs.declared.starting.Started.TheVariants.{Ready}
use Rattle.tier_stop.proofs.Making.{rests}
use Rattle.tier_stop.proofs.starting.start_step.Goals as goal

pub open_cache-requires : goal.open_cache-requires
open_cache-requires g c = sym c.in-OpenCache.ensures

pub returns-in-OpenCache : goal.returns-in-OpenCache
returns-in-OpenCache g c =
    subst (λ (n : StartStep). Starts n c.args.line c.args.call c.args.group.now c.open_cache.new.group c.open_cache.result) c.in-OpenCache.ensures (c.open_cache.ensures c.args.line c.args.call)

pub open_base-requires : goal.open_base-requires
open_base-requires g c = sym c.in-OpenBase.ensures

pub returns-in-OpenBase : goal.returns-in-OpenBase
returns-in-OpenBase g c =
    subst (λ (n : StartStep). Starts n c.args.line c.args.call c.args.group.now c.open_base.new.group c.open_base.result) c.in-OpenBase.ensures (c.open_base.ensures c.args.line c.args.call)

pub raise-requires : goal.raise-requires
raise-requires g c = sym c.in-Raise.ensures

pub returns-in-Raise : goal.returns-in-Raise
returns-in-Raise g c =
    subst (λ (n : StartStep). Starts n c.args.line c.args.call c.args.group.now c.raise.new.group c.raise.result) c.in-Raise.ensures (c.raise.ensures c.args.line c.args.call)

pub fence-requires : goal.fence-requires
fence-requires g c = sym c.in-Fence.ensures

pub returns-in-Fence : goal.returns-in-Fence
returns-in-Fence g c =
    subst (λ (n : StartStep). Starts n c.args.line c.args.call c.args.group.now c.fence.new.group c.fence.result) c.in-Fence.ensures c.fence.ensures

pub returns-in-Nothing : goal.returns-in-Nothing
returns-in-Nothing g c =
    subst (λ (n : StartStep). Starts n c.args.line c.args.call c.args.group.now c.args.group.now Ready) c.in-Nothing.ensures
    (rests c.args.line c.args.call c.args.group.now (sym c.in-Nothing.ensures) c.rest.ensures.step)
