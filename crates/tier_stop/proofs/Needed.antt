-- What is known where a step of a start is needed.
use Rattle.std.proofs.Common.{◌≡◌, ◌≢◌, Bool, true, false, Option, Some, None, option_map, refl, ap, ◌∙◌}
use Rattle.obj_model.specs.declared.change.Pool.{Pool}
use Rattle.obj_model.specs.declared.change.Pool.TheVariants.{Cache, Base}
use Rattle.tier_protocol.specs.Tiers.{Phase}
use Rattle.tier_stop.specs.Needs.{is_of, is_shut, must_open, start_needed, step_by}
use Rattle.tier_stop.specs.declared.choosing.StartStep.{StartStep}
use Rattle.tier_stop.specs.declared.choosing.StartStep.TheVariants as need
use Rattle.tier_view.specs.Starts.{pool_in}
use Rattle.tier_view.specs.Stores.{Stores}
use Rattle.tier_view.specs.declared.parts.Pending.{Pending}
use Rattle.tier_view.specs.Views.{GroupView}
use Rattle.tier_view.specs.Whole.{IsReady}

-- ---- stores that need not be opened

pub open_facts : (l s d : Bool) → is_shut l s d ≡ false → (l ≡ true) × (s ≡ false) × (d ≡ false)
open_facts false s d h = absurd (cc)
open_facts true true d h = absurd (cc)
open_facts true false d h = (refl, refl, h)

-- each pool is one of the two
pub no_pool : (p : Pool) → is_of Cache (Some p) ≡ false → is_of Base (Some p) ≡ false → ⊥
no_pool Cache h k = absurd (cc)
no_pool Base h k = absurd (cc)

pub no_doubt : (o : Option Pending) → is_of Cache (option_map pool_in o) ≡ false → is_of Base (option_map pool_in o) ≡ false → o ≡ None
no_doubt None h k = refl
no_doubt (Some p) h k = absurd (no_pool (pool_in p) h k)

pub record AreOpen (x : Stores) : Type 0 where
  pub cache : x.cache.live ≡ true
  pub base : x.base.live ≡ true
  pub cache_runs : x.cache_stopped ≡ false
  pub base_runs : x.base_stopped ≡ false
  pub settled : x.pending ≡ None

pub both_open : (x : Stores) → must_open Cache x ≡ false → must_open Base x ≡ false → AreOpen x
both_open x cache base =
    let c = open_facts x.cache.live x.cache_stopped (is_of Cache (option_map pool_in x.pending)) cache in
    let b = open_facts x.base.live x.base_stopped (is_of Base (option_map pool_in x.pending)) base in
    record { cache = c.0; base = b.0; cache_runs = c.1; base_runs = b.1; settled = no_doubt x.pending c.2 b.2 }

-- a store that is live, of a pool that was not stopped, without a doubt of it
pub stays_open : (l s d : Bool) → l ≡ true → s ≡ false → d ≡ false → is_shut l s d ≡ false
stays_open l s d live runs sure =
    ap (λ (x : Bool). is_shut x s d) live ∙ ap (λ (x : Bool). is_shut true x d) runs ∙ sure

pub cache_is_open : (x : Stores) → AreOpen x → must_open Cache x ≡ false
cache_is_open x h =
    stays_open x.cache.live x.cache_stopped (is_of Cache (option_map pool_in x.pending)) h.cache h.cache_runs
    (ap (λ (o : Option Pending). is_of Cache (option_map pool_in o)) h.settled)

pub base_is_open : (x : Stores) → AreOpen x → must_open Base x ≡ false
base_is_open x h =
    stays_open x.base.live x.base_stopped (is_of Base (option_map pool_in x.pending)) h.base h.base_runs
    (ap (λ (o : Option Pending). is_of Base (option_map pool_in o)) h.settled)

-- ---- where each step is needed

pub at_base : (c b : Bool) (p : Phase) (f : Bool) → step_by c b p f ≡ need.OpenBase → c ≡ false
at_base true b p f h = absurd (cc)
at_base false b p f h = refl

pub at_raise : (c b : Bool) (p : Phase) (f : Bool) → step_by c b p f ≡ need.Raise → (c ≡ false) × (b ≡ false) × (p ≡ Phase.Down)
at_raise true b p f h = absurd (cc)
at_raise false true p f h = absurd (cc)
at_raise false false Phase.Down f h = (refl, refl, refl)
at_raise false false Phase.Raised f h = absurd (cc)
at_raise false false Phase.Up true h = absurd (cc)
at_raise false false Phase.Up false h = absurd (cc)

pub at_fence : (c b : Bool) (p : Phase) (f : Bool) → step_by c b p f ≡ need.Fence → (c ≡ false) × (b ≡ false) × (p ≢ Phase.Down)
at_fence true b p f h = absurd (cc)
at_fence false true p f h = absurd (cc)
at_fence false false Phase.Down f h = absurd (cc)
at_fence false false Phase.Raised f h = (refl, refl, λ e. absurd (cc))
at_fence false false Phase.Up true h = absurd (cc)
at_fence false false Phase.Up false h = (refl, refl, λ e. absurd (cc))

pub at_nothing : (c b : Bool) (p : Phase) (f : Bool) → step_by c b p f ≡ need.Nothing → (c ≡ false) × (b ≡ false) × (p ≡ Phase.Up) × (f ≡ true)
at_nothing true b p f h = absurd (cc)
at_nothing false true p f h = absurd (cc)
at_nothing false false Phase.Down f h = absurd (cc)
at_nothing false false Phase.Raised f h = absurd (cc)
at_nothing false false Phase.Up true h = (refl, refl, refl, refl)
at_nothing false false Phase.Up false h = absurd (cc)

-- the same of a group
pub cache_open_at_base : (v : GroupView) → start_needed v ≡ need.OpenBase → must_open Cache v.stores ≡ false
cache_open_at_base v h = at_base (must_open Cache v.stores) (must_open Base v.stores) v.standing.phase v.standing.fenced h

pub open_at_raise : (v : GroupView) → start_needed v ≡ need.Raise → AreOpen v.stores × (v.standing.phase ≡ Phase.Down)
open_at_raise v h =
    let k = at_raise (must_open Cache v.stores) (must_open Base v.stores) v.standing.phase v.standing.fenced h in
    (both_open v.stores k.0 k.1, k.2)

pub open_at_fence : (v : GroupView) → start_needed v ≡ need.Fence → AreOpen v.stores × (v.standing.phase ≢ Phase.Down)
open_at_fence v h =
    let k = at_fence (must_open Cache v.stores) (must_open Base v.stores) v.standing.phase v.standing.fenced h in
    (both_open v.stores k.0 k.1, k.2)

-- ---- nothing is needed exactly where the group is ready

pub ready_of : (v : GroupView) → start_needed v ≡ need.Nothing → IsReady v.stores v.standing
ready_of v h =
    let k = at_nothing (must_open Cache v.stores) (must_open Base v.stores) v.standing.phase v.standing.fenced h in
    let o = both_open v.stores k.0 k.1 in
    record {
      cache = o.cache;
      base = o.base;
      cache_runs = o.cache_runs;
      base_runs = o.base_runs;
      settled = o.settled;
      up = k.2;
      fenced = k.3;
    }

pub nothing_of : (v : GroupView) → IsReady v.stores v.standing → start_needed v ≡ need.Nothing
nothing_of v h =
    let o : AreOpen v.stores = record { cache = h.cache; base = h.base; cache_runs = h.cache_runs; base_runs = h.base_runs; settled = h.settled } in
    ap (λ (c : Bool). step_by c (must_open Base v.stores) v.standing.phase v.standing.fenced) (cache_is_open v.stores o)
    ∙ ap (λ (b : Bool). step_by false b v.standing.phase v.standing.fenced) (base_is_open v.stores o)
    ∙ ap (λ (p : Phase). step_by false false p v.standing.fenced) h.up
    ∙ ap (λ (f : Bool). step_by false false Phase.Up f) h.fenced
