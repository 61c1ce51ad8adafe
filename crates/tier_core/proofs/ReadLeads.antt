-- A reading of the cache, and a step behind it, are one step.
use Rattle.std.proofs.Common.{◌≡◌, ◌≤◌, ◌⊎◌, inl, inr, Option, None, sym, subst, ◌∙◌, arith}
use Rattle.std.specs.Prelude.{List, Result, ℕ}
use Rattle.cache_pool.specs.declared.fault.CacheFault.{CacheFault}
use Rattle.obj_ops.specs.Stores.{Store}
use Rattle.pool_keys.specs.Left.{IsLeftSinceBy}
use Rattle.store_face.specs.Calls.{Among, Between, Fails, Stays}
use Rattle.store_face.specs.Rooms.{Room}
use Rattle.store_face.specs.Views.{CrashMaps, StoreView}
use Rattle.tier_join.specs.Promises.{Promises, as_it_is}
use Rattle.tier_types.specs.declared.record.TierRec.{TierRec}
use Rattle.tier_view.specs.Grows.{Grows, IsTouched, OneCommit, in_base, in_cache, no_commit}
use Rattle.tier_view.specs.Laws.{Keeps}
use Rattle.tier_view.specs.Locals.{with_cache}
use Rattle.tier_view.specs.Stores.{Stores}
use Rattle.tier_view.specs.Views.{GroupView, joined}
use Rattle.tier_core.specs.Reads.{ReadsHere}
use Rattle.tier_core.proofs.ReadHere.{leaves}

-- ---- the store

same_room : (s t : StoreView) → Stays s t ⊎ Fails s t → t.room ≡ s.room
same_room s t (inl stays) = stays.room
same_room s t (inr fails) = fails.closes.room

touched_before : (s t w : StoreView) → t.moments ≡ s.moments → t.room ≡ s.room → IsTouched t w → IsTouched s w
touched_before s t w same room (inl k) =
    inl (k.0, subst (λ (r : Room). Between k.0 (record s { room = r }) w) room (subst (λ (m : Option (List CrashMaps)). Between k.0 (record s { moments = m; room = t.room }) w) same k.1))
touched_before s t w same room (inr among) = inr (subst (λ (m : Option (List CrashMaps)). Among (record s { moments = m }) w) same among)

commit_before : (v w : Stores) (t : StoreView) → t.moments ≡ v.cache.moments → t.room ≡ v.cache.room → OneCommit (record v { cache = t; pending = None }) w → OneCommit v w
commit_before v w t same room (no_commit cache base) = no_commit (cache ∙ same) base
commit_before v w t same room (in_cache cache base) = in_cache (touched_before v.cache t w.cache same room cache) base
commit_before v w t same room (in_base cache base) = in_base (cache ∙ same) base

-- ---- the step

module _ (other : Store → Store) (u w : GroupView) (t : StoreView) (same : t.moments ≡ u.stores.cache.moments) (later : Stays u.stores.cache t ⊎ Fails u.stores.cache t)
    (r : Grows as_it_is None u (with_cache t None u)) (g : Grows other None (with_cache t None u) w) where
  promises_before : Promises other (joined u) (joined w)
  promises_before = record {
    history = g.pools.history;
    memory = λ h. g.pools.memory (r.pools.memory h);
    tell = λ h. g.pools.tell (r.pools.tell h);
    told = λ h. r.pools.told (g.pools.told h);
    began = λ start tell b. g.pools.began start (r.pools.tell tell) (r.pools.began start tell b);
    stops = λ start tell b z since.
        g.pools.stops start (r.pools.tell tell) (r.pools.began start tell b) z (subst (λ (m : Option (List CrashMaps)). IsLeftSinceBy m w.stores.cache.moments z.cache) (sym same) since.0, since.1);
  }

  grows_before : Grows other None u w
  grows_before = record {
    pools = promises_before;
    began = λ start tell b. g.began start (r.pools.tell tell) (r.began start tell b);
    log = g.log;
    one_answer = g.one_answer;
    calls = g.calls;
    flown = g.flown;
    commit = commit_before u.stores w.stores t same (same_room u.stores.cache t later) g.commit;
    epoch = g.epoch;
    cache_faults = omega (arith, r.cache_faults, g.cache_faults);
    base_faults = g.base_faults;
    share = g.share;
    values = g.values;
  }

pub reading_leads : (other : Store → Store) (name : List ℕ) (u v w : GroupView) (found : Result (Option TierRec) CacheFault) → ReadsHere name u v found → Keeps as_it_is None u v → Keeps other None v w
    → Keeps other None u w
reading_leads other name u v w found read first second =
    let l = leaves name u.stores.cache v.stores.cache found read.read in (
      second.0,
      grows_before other u w v.stores.cache l.0 l.1 (subst (λ (x : GroupView). Grows as_it_is None u x) read.is first.1) (subst (λ (x : GroupView). Grows other None x w) read.is second.1),
    )
