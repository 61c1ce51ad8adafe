-- What comes of each step of a start.
use Rattle.std.proofs.Common.{◌≡◌, ◌≢◌, ◌<◌, inl, inr, ℕ, Bool, true, false, Option, Some, None, Ok, Err, option_map, refl, ap, subst, sym, ◌∙◌, arith}
use Rattle.agent_state.specs.declared.totals.Totals.{Totals}
use Rattle.obj_model.specs.declared.change.Pool.{Pool}
use Rattle.obj_model.specs.declared.change.Pool.TheVariants.{Cache, Base}
use Rattle.store_face.specs.Views.{StoreView}
use Rattle.tier_core.specs.Opens.{OpensBase, OpensCache, RunsAgain}
use Rattle.tier_core.specs.Raises.{Raises, next_epoch}
use Rattle.tier_core.specs.Steps.{IsStep}
use Rattle.tier_core.specs.declared.opening.OpenFault.{OpenFault}
use Rattle.tier_core.specs.declared.raising.RaiseFault.{RaiseFault}
use Rattle.tier_join.specs.Promises.{as_it_is}
use Rattle.tier_join.specs.Steps.{with_doubt}
use Rattle.tier_protocol.specs.Tiers.{Phase}
use Rattle.tier_runs.specs.Runs.{IsOneStep, MayMake}
use Rattle.tier_stop.specs.Needs.{is_of, is_shut, must_open, start_needed, step_by}
use Rattle.tier_stop.specs.Starts.{BaseOpens, CacheOpens, Leads, Starts, place, told_opened}
use Rattle.tier_stop.specs.declared.choosing.StartStep.{StartStep}
use Rattle.tier_stop.specs.declared.choosing.StartStep.TheVariants as need
use Rattle.tier_stop.specs.declared.starting.StartFault.TheVariants as fault
use Rattle.tier_stop.specs.declared.starting.Started.{Started}
use Rattle.tier_stop.specs.declared.starting.Started.TheVariants as told
use Rattle.tier_view.specs.Laws.{Keeps}
use Rattle.tier_view.specs.Settles.{reopened}
use Rattle.tier_view.specs.Starts.{IsSettledBy, fence_sent, pool_in, raised_there, running}
use Rattle.tier_view.specs.Stores.{Stores}
use Rattle.tier_view.specs.declared.parts.Pending.{Pending}
use Rattle.tier_view.specs.Views.{GroupView, joined}
use Rattle.tier_stop.proofs.Needed.{AreOpen, cache_open_at_base, open_at_raise, open_facts, ready_of, stays_open}

-- ---- steps of a run

-- an opening
pub opening_step : (old new : GroupView) → IsStep None old new → IsOneStep old new
opening_step old new k =
    record { other = with_doubt (joined old).doubt; wanted = None; makes = MayMake.in_doubt refl; keeps = k }

-- a raise, or a Fence
pub calm_step : (old new : GroupView) → Keeps as_it_is None old new → IsOneStep old new
calm_step old new k = record { other = as_it_is; wanted = None; makes = MayMake.nothing refl; keeps = k }

-- ---- the stores behind an opening

-- the pool's store is this, it runs again, and nothing is in doubt
pub settled_stores : (p : Pending) (s : StoreView) (totals : Totals) (old new : GroupView) → IsSettledBy p s totals old new → new.stores ≡ reopened (pool_in p) s old.stores
settled_stores (Pending.Plain pool name) s totals old new h = ap (λ (v : GroupView). v.stores) h.1
settled_stores (Pending.Act pool first a seq) s totals old new (inl h) = ap (λ (v : GroupView). v.stores) h.1
settled_stores (Pending.Act pool first a seq) s totals old new (inr h) = ap (λ (v : GroupView). v.stores) h.1
settled_stores (Pending.Epoch Cache e) s totals old new (inl h) = ap (λ (v : GroupView). v.stores) h.1
settled_stores (Pending.Epoch Cache e) s totals old new (inr h) = ap (λ (v : GroupView). v.stores) h.1
settled_stores (Pending.Epoch Base e) s totals old new (inl h) = ap (λ (v : GroupView). v.stores) h.1
settled_stores (Pending.Epoch Base e) s totals old new (inr h) = ap (λ (v : GroupView). v.stores) h.1

pub other_pool : (p q : Pool) → q ≢ p → is_of p (Some q) ≡ false
other_pool Cache Cache h = absurd (h refl)
other_pool Cache Base h = refl
other_pool Base Cache h = refl
other_pool Base Base h = absurd (h refl)

-- either nothing of this pool is in doubt, or nothing is
pub data OpenBehind (pool : Pool) (s : StoreView) (old new : Stores) : Type 0 where
  ran : is_of pool (option_map pool_in old.pending) ≡ false → new ≡ running pool s old
      → OpenBehind pool s old new
  settled : new ≡ reopened pool s old → OpenBehind pool s old new

pub open_behind : (pool : Pool) (p : Option Pending) (s : StoreView) (totals : Totals) (old new : GroupView) → old.stores.pending ≡ p → RunsAgain pool p s totals old new
    → OpenBehind pool s old.stores new.stores
open_behind pool None s totals old new at h =
    OpenBehind.ran (ap (λ (o : Option Pending). is_of pool (option_map pool_in o)) at) (ap (λ (v : GroupView). v.stores) h)
open_behind pool (Some p) s totals old new at (inl h) =
    OpenBehind.ran (ap (λ (o : Option Pending). is_of pool (option_map pool_in o)) at ∙ other_pool pool (pool_in p) h.0) (ap (λ (v : GroupView). v.stores) h.1)
open_behind pool (Some p) s totals old new at (inr h) =
    OpenBehind.settled (settled_stores p s totals old new h.1 ∙ ap (λ (q : Pool). reopened q s old.stores) h.0)

-- the cache's store is open behind its opening
pub cache_opens : (s : StoreView) (old new : Stores) → s.live ≡ true → OpenBehind Cache s old new → must_open Cache new ≡ false
cache_opens s old new live (OpenBehind.ran sure is) =
    ap (must_open Cache) is ∙ stays_open s.live false (is_of Cache (option_map pool_in old.pending)) live refl sure
cache_opens s old new live (OpenBehind.settled is) = ap (must_open Cache) is ∙ stays_open s.live false false live refl refl

-- both are, behind that of the base
pub base_opens : (s : StoreView) (old new : Stores) → s.live ≡ true → must_open Cache old ≡ false → OpenBehind Base s old new → (must_open Cache new ≡ false) × (must_open Base new ≡ false)
base_opens s old new live cache (OpenBehind.ran sure is) =
    (ap (must_open Cache) is ∙ cache, ap (must_open Base) is ∙ stays_open s.live false (is_of Base (option_map pool_in old.pending)) live refl sure)
base_opens s old new live cache (OpenBehind.settled is) =
    let c = open_facts old.cache.live old.cache_stopped (is_of Cache (option_map pool_in old.pending)) cache in
    (ap (must_open Cache) is ∙ stays_open old.cache.live old.cache_stopped false c.0 c.1 refl, ap (must_open Base) is ∙ stays_open s.live false false live refl refl)

-- ---- what is needed then

pub behind_cache : (c b : Bool) (p : Phase) (f : Bool) → c ≡ false → place need.OpenCache < place (step_by c b p f)
behind_cache true b p f h = absurd (cc)
behind_cache false true p f h = omega arith
behind_cache false false Phase.Down f h = omega arith
behind_cache false false Phase.Raised f h = omega arith
behind_cache false false Phase.Up true h = omega arith
behind_cache false false Phase.Up false h = omega arith

pub behind_base : (c b : Bool) (p : Phase) (f : Bool) → c ≡ false → b ≡ false → place need.OpenBase < place (step_by c b p f)
behind_base true b p f h k = absurd (cc)
behind_base false true p f h k = absurd (cc)
behind_base false false Phase.Down f h k = omega arith
behind_base false false Phase.Raised f h k = omega arith
behind_base false false Phase.Up true h k = omega arith
behind_base false false Phase.Up false h k = omega arith

-- a later step
pub goes_on : (made now : StartStep) (v : GroupView) → start_needed v ≡ now → place made < place now → place now < 4 → Leads made v told.Going
goes_on made now v is later last =
    subst (λ (n : StartStep). (place made < place n) × (place n < 4)) (sym is) (later, last)

-- that one, or none
pub leads_on : (made now : StartStep) (v : GroupView) → start_needed v ≡ now → place made < place now → Leads made v (told_opened now)
leads_on made need.OpenCache v is later = goes_on made need.OpenCache v is later (omega arith)
leads_on made need.OpenBase v is later = goes_on made need.OpenBase v is later (omega arith)
leads_on made need.Raise v is later = goes_on made need.Raise v is later (omega arith)
leads_on made need.Fence v is later = goes_on made need.Fence v is later (omega arith)
leads_on made need.Nothing v is later = ready_of v is

-- ---- the cache is opened

module _ (line call : Option ℕ) (old new : GroupView) where
  cache_made : (now : StartStep) → OpensCache old new (Ok tt) → CacheOpens old new (told_opened now)
  cache_made need.OpenCache h = h
  cache_made need.OpenBase h = h
  cache_made need.Raise h = h
  cache_made need.Fence h = h
  cache_made need.Nothing h = h

  pub cache_opened : (t : Started) → OpensCache old new (Ok tt) → IsStep None old new → t ≡ told_opened (start_needed new) → Starts need.OpenCache line call old new t
  cache_opened t h k is =
      let behind = open_behind Cache old.stores.pending new.stores.cache new.agent.totals old new refl h.comes.2 in
      let opens = cache_opens new.stores.cache old.stores new.stores h.comes.0 behind in
      let later = behind_cache (must_open Cache new.stores) (must_open Base new.stores) new.standing.phase new.standing.fenced opens in
      subst (λ (x : Started). Starts need.OpenCache line call old new x) (sym is) (record {
        makes = cache_made (start_needed new) h;
        leads = leads_on need.OpenCache (start_needed new) new refl later;
        step = opening_step old new k;
      })

  pub cache_not_opened : (f : OpenFault) → OpensCache old new (Err f) → IsStep None old new → Starts need.OpenCache line call old new (told.Failed (fault.Cache f))
  cache_not_opened f h k = record { makes = h; leads = tt; step = opening_step old new k }

  -- ---- the base is opened

  base_made : (now : StartStep) → OpensBase old new (Ok tt) → BaseOpens old new (told_opened now)
  base_made need.OpenCache h = h
  base_made need.OpenBase h = h
  base_made need.Raise h = h
  base_made need.Fence h = h
  base_made need.Nothing h = h

  pub base_opened : (t : Started) → start_needed old ≡ need.OpenBase → OpensBase old new (Ok tt) → IsStep None old new → t ≡ told_opened (start_needed new)
      → Starts need.OpenBase line call old new t
  base_opened t at h k is =
      let behind = open_behind Base old.stores.pending new.stores.base old.agent.totals old new refl h.comes.1 in
      let opens = base_opens new.stores.base old.stores new.stores h.comes.0 (cache_open_at_base old at) behind in
      let later = behind_base (must_open Cache new.stores) (must_open Base new.stores) new.standing.phase new.standing.fenced opens.0 opens.1 in
      subst (λ (x : Started). Starts need.OpenBase line call old new x) (sym is) (record {
        makes = base_made (start_needed new) h;
        leads = leads_on need.OpenBase (start_needed new) new refl later;
        step = opening_step old new k;
      })

  pub base_not_opened : (f : OpenFault) → OpensBase old new (Err f) → IsStep None old new → Starts need.OpenBase line call old new (told.Failed (fault.Base f))
  base_not_opened f h k = record { makes = h; leads = tt; step = opening_step old new k }

  -- ---- the epoch is raised

  -- a Fence is needed behind it
  fence_behind : (s : StoreView) → AreOpen old.stores → s.live ≡ true → new ≡ raised_there (next_epoch old) s (Ok tt) old → start_needed new ≡ need.Fence
  fence_behind s h live is =
      ap start_needed is
      ∙ ap (λ (c : Bool). step_by c (is_shut old.stores.base.live old.stores.base_stopped false) Phase.Raised false) (stays_open s.live old.stores.cache_stopped false live h.cache_runs refl)
      ∙ ap (λ (b : Bool). step_by false b Phase.Raised false) (stays_open old.stores.base.live old.stores.base_stopped false h.base h.base_runs refl)

  pub raised : (epoch : ℕ) → start_needed old ≡ need.Raise → Raises old new (Ok epoch) → Keeps as_it_is None old new → Starts need.Raise line call old new told.Going
  raised epoch at h k = record {
    makes = (refl, h.1);
    leads = goes_on need.Raise need.Fence new (fence_behind new.stores.cache (open_at_raise old at).0 h.1.put.committed.live h.1.is) (omega arith) (omega arith);
    step = calm_step old new k;
  }

  pub not_raised : (f : RaiseFault) → Raises old new (Err f) → Keeps as_it_is None old new → Starts need.Raise line call old new (told.Failed (fault.Raise f))
  not_raised f h k = record { makes = h; leads = tt; step = calm_step old new k }

  -- ---- a Fence is sent

  pub fenced : (number : ℕ) → start_needed old ≡ need.Fence → number ≡ old.traffic.next_message → new ≡ fence_sent line call old → Keeps as_it_is None old new
      → Starts need.Fence line call old new (told.Sent number)
  fenced number at next is k = record {
    makes = (next, is);
    leads = ap start_needed is ∙ at;
    step = calm_step old new k;
  }

  pub not_fenced : start_needed old ≡ need.Fence → new ≡ old → IsStep None old old → Starts need.Fence line call old new told.NoMemory
  not_fenced at is k = record {
    makes = is;
    leads = ap start_needed is ∙ at;
    step = subst (λ (v : GroupView). IsOneStep old v) (sym is) (opening_step old old k);
  }

-- ---- nothing is needed

pub rests : (line call : Option ℕ) (v : GroupView) → start_needed v ≡ need.Nothing → IsStep None v v → Starts need.Nothing line call v v told.Ready
rests line call v at k = record { makes = refl; leads = ready_of v at; step = opening_step v v k }
