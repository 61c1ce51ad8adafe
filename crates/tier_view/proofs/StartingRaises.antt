-- The cache's epoch is raised: the step, whole, for each outcome of its commit.
use Rattle.std.proofs.Common.{◌≡◌, ◌≢◌, ◌<◌, inl, inr, ℕ, Bool, true, false, List, Option, Some, None, Ok, Err, refl, sym, ap, subst, ◌∙◌, true≢false, arith}
use Rattle.std.specs.FinMap as fin
use Rattle.std.specs.Option.{option_map}
use Rattle.obj_model.specs.declared.change.Change.{Change}
use Rattle.obj_model.specs.declared.change.Pool.TheVariants.{Cache}
use Rattle.obj_ops.specs.Stores.{Store}
use Rattle.pool_keys.specs.Keys.{epoch_key, record_key}
use Rattle.pool_keys.specs.Maps.{SpellsCache}
use Rattle.pool_keys.specs.Values.{IsAtEpoch, IsRecOf}
use Rattle.store_face.specs.Calls.{Committed, Made, MayBeMade, Stays as StoreStays}
use Rattle.store_face.specs.Tables.{Table}
use Rattle.store_face.specs.Views.{StoreView}
use Rattle.store_face.specs.declared.fault.StoreFault.TheVariants.{Disk, BadImage, NoSpace, Worn, NoMemory}
use Rattle.tier_join.specs.Group.{Memory, TwoMaps, View, AreLeft, changed_in, tier_of, with_epoch}
use Rattle.tier_join.specs.Promises.{Promises, as_it_is}
use Rattle.tier_join.specs.Steps.{Outcome, after, behind as left_behind, sets, unless_disk}
use Rattle.tier_join.specs.declared.doubt.Doubt.{Doubt}
use Rattle.tier_join.proofs.CacheSteps.{raising_promises}
use Rattle.tier_join.proofs.Keys.{cache_at}
use Rattle.tier_join.proofs.Left.{made_left, now_since, rests_left, torn_since}
use Rattle.tier_owners.proofs.Quiets.{quiet_found, quiet_raised}
use Rattle.tier_protocol.specs.Moves.{MayRaise, epoch_found, raised_to, set_at}
use Rattle.tier_protocol.specs.Owners.{Ledger}
use Rattle.tier_protocol.specs.Tiers.{Net, Phase, Recs, Tier}
use Rattle.tier_protocol.proofs.Cells.{get_there, same_or_not}
use Rattle.tier_protocol.proofs.Memory.{free_unless_up}
use Rattle.tier_protocol.proofs.Owners.{quiet_keeps}
use Rattle.tier_protocol.proofs.Steps.{finding, raising}
use Rattle.tier_view.specs.Grows.{in_cache, no_commit}
use Rattle.tier_view.specs.Laws.{Keeps}
use Rattle.tier_view.specs.Locals.{with_cache}
use Rattle.tier_view.specs.Starts.{RaisesHaveTheirLimit, RaisesThere, RaisingThereKeeps, raised_in, raised_there}
use Rattle.tier_view.specs.Stores.{Pending, doubt_in}
use Rattle.tier_view.specs.Views.{GroupView, joined, ledger_in}
use Rattle.tier_view.specs.Whole.{IsElsewhere, IsWhole}
use Rattle.tier_view.specs.Worlds.{Began, IsOwned}
use Rattle.tier_view.proofs.Beginning.{surely_owned}
use Rattle.tier_view.proofs.StartingStores.{changed, stores_keep}

-- ---- the sums do not hang on the epoch

record_off : (name : List ℕ) → record_key name ≢ epoch_key
record_off name e = let f : ◌≡◌ {A = ℕ} 0x52 0x45 = cc in absurd (omega (arith, f))

-- without another epoch the map has the same records
spelled_before : (u : Table) (recs : Recs) (bytes : List ℕ) (was e : ℕ) → IsAtEpoch was u → SpellsCache (set_at u epoch_key (Some bytes)) recs e → SpellsCache u recs was
spelled_before u recs bytes was e has h = record {
  each = λ n. subst (λ b. IsRecOf b (fin.get recs n)) (get_there u epoch_key (Some bytes) (record_key n) (record_off n)) (h.each n);
  is_epoch = has;
  keys = λ key value there. elim (same_or_not key epoch_key) [
    | inl same ↦ inl same
    | inr other ↦ h.keys key value (get_there u epoch_key (Some bytes) key other ∙ there)
  ];
}

-- ---- while the cache is down

no_flight : {X : Type 0} (o : Option X) (x : X) → o ≡ None → o ≡ Some x → ⊥
no_flight o x none some = absurd (cc)

-- nothing says then that the base told the epoch
down_net : (net : Net) (fenced : Bool) → net.fenced ≡ fenced → net.phase ≡ Phase.Down → (net.fenced ≡ true → net.phase ≡ Phase.Up) → record net { phase = Phase.Down; fenced = false } ≡ net
down_net net true is down up = let u = up is in absurd (cc)
down_net net false is down up =
    subst (λ p. record net { phase = p; fenced = false } ≡ net) down (subst (λ f. record net { fenced = f } ≡ net) is refl)

module _ (v : GroupView) (e was : ℕ) (bytes : List ℕ) (s : StoreView) (result : Outcome) (h : IsWhole v) (none : v.stores.pending ≡ None) (may : RaisesThere v e was bytes s result) where
  abbrev Mem : Memory
  Mem = (joined v).memory

  abbrev Led : Ledger
  Led = ledger_in v

  abbrev Cs : List Change
  Cs = sets epoch_key (Some bytes)

  not_up : v.standing.phase ≢ Phase.Up
  not_up up = let down = may.down in absurd (cc)

  later : v.standing.cache_epoch < e
  later = omega (arith, may.next)

  above : v.standing.base_epoch < e
  above = omega (arith, may.next)

  raises : (start : Store) (k : TwoMaps) (g : IsOwned start Mem Led k) → MayRaise (tier_of start Mem g.spells.recs g.spells.base) e
  raises start k g = record { stopped = not_up; later = later; above = above }

  promised : (w : View) → Committed Cs v.stores.cache w.cache result
      → w ≡ left_behind Cache (after (raised_to e) Mem) (unless_disk Mem Mem) (Doubt.Epoch Cache e) result (joined v) w → Promises as_it_is (joined v) w
  promised w committed same = raising_promises (joined v) w e bytes result (ap (option_map doubt_in) none) may.down later above may.spelled (record { committed = committed; same = same })

  old_world : (start : Store) → Began start v → (z : TwoMaps) → AreLeft (joined v) z → IsOwned start Mem Led z
  old_world start b z i = surely_owned start v z none (b.owners z i)

  -- the map has the epoch, and the cache is raised
  made_owned : (start : Store) (z : TwoMaps) → IsOwned start Mem Led z → IsOwned start (after (raised_to e) Mem) Led (changed_in Cache Cs z)
  made_owned start z k =
      let t : Tier = tier_of start Mem k.spells.recs k.spells.base in
      record {
        spells = record {
          recs = k.spells.recs;
          base = k.spells.base;
          cached = cache_at z.cache k.spells.recs v.standing.cache_epoch e bytes may.spelled k.spells.cached;
          based = k.spells.based;
          sound = raising t e k.spells.sound (raises start z k);
        };
        owners = quiet_keeps t (raised_to e t) Led k.owners (quiet_raised t e k.spells.sound (raises start z k));
      }

  -- the map has the epoch, and nobody knows
  torn_owned : (start : Store) (z : TwoMaps) → IsOwned start Mem Led z → IsOwned start (with_epoch Cache e Mem) Led (changed_in Cache Cs z)
  torn_owned start z k =
      let t : Tier = tier_of start Mem k.spells.recs k.spells.base in
      subst (λ n. IsOwned start (record Mem { net = n }) Led (changed_in Cache Cs z))
      (down_net (record Mem.net { cache_epoch = e }) Mem.net.fenced refl may.down h.memory.sound.wire.fenced)
      (record {
        spells = record {
          recs = k.spells.recs;
          base = k.spells.base;
          cached = cache_at z.cache k.spells.recs v.standing.cache_epoch e bytes may.spelled k.spells.cached;
          based = k.spells.based;
          sound = (finding t e k.spells.sound (raises start z k)).0;
        };
        owners = quiet_keeps t (epoch_found e t) Led k.owners (quiet_found t e k.spells.sound (raises start z k));
      })

  -- ---- it was made
  made_keeps : (made : Made Cs v.stores.cache s) → Promises as_it_is (joined v) (joined (changed (with_cache s None v).stores (raised_in e v.standing) v.agent.totals v))
      → Keeps as_it_is None v (changed (with_cache s None v).stores (raised_in e v.standing) v.agent.totals v)
  made_keeps made promises = stores_keep as_it_is v (with_cache s None v).stores (raised_in e v.standing) v.agent.totals h (record {
    promises = promises;
    worlds = λ start b z i.
        let from = made_left Cs v.stores.cache s made z.cache i.0 in
        let y : TwoMaps = record z { cache = from.0 } in
        subst (IsOwned start (after (raised_to e) Mem) Led) (sym (ap {A = Table} {B = TwoMaps} (λ t. record z { cache = t }) from.2))
        (made_owned start y (old_world start b y (from.1, i.1)));
    next = λ start b. tt;
    pending = tt;
    commit = in_cache (inl (Cs, made.between)) refl;
    come = inr (λ same. absurd (omega (arith, same, later)), refl);
    epoch = omega (arith, later);
    flights = record {
      listed = λ n f on. absurd (no_flight (fin.get v.traffic.flights n) f (free_unless_up n (fin.get v.traffic.flights n) Mem.net (h.memory.sound.each n) not_up) on);
      table = h.flights.table;
    };
    cache_faults = made.later;
    base_faults = omega arith;
    stops = record { cache = λ stopped. absurd (true≢false (sym stopped ∙ may.runs)); base = λ e. refl };
    summed = λ k x left recs epoch spells.
        let from = made_left Cs v.stores.cache s made x left in
        h.totals (record { live = may.live; runs = k.runs; sure = subst (IsElsewhere Cache) (sym none) tt }) from.0 from.1 recs was
        (spelled_before from.0 recs bytes was epoch (may.has from.0 from.1) (subst (λ t. SpellsCache t recs epoch) from.2 spells));
  })

  -- ---- the disk failed: it may be there or not
  torn_keeps : (made : MayBeMade Cs v.stores.cache s) → Promises as_it_is (joined v) (joined (with_cache s (Some (Pending.Epoch Cache e)) v))
      → Keeps as_it_is None v (with_cache s (Some (Pending.Epoch Cache e)) v)
  torn_keeps made promises = stores_keep as_it_is v (with_cache s (Some (Pending.Epoch Cache e)) v).stores v.standing v.agent.totals h (record {
    promises = promises;
    worlds = λ start b z i. elim (torn_since Cs v.stores.cache s made z.cache (now_since v.stores.cache s _ made.between z.cache i.0)) [
      | inl was ↦ inl (old_world start b z (was, i.1))
      | inr from ↦ inr (
          subst (IsOwned start (with_epoch Cache e Mem) Led) (sym (ap {A = Table} {B = TwoMaps} (λ t. record z { cache = t }) from.2))
          (torn_owned start (record z { cache = from.0 }) (old_world start b (record z { cache = from.0 }) (from.1, i.1))))
    ];
    next = λ start b. tt;
    pending = tt;
    commit = in_cache (inl (Cs, made.between)) refl;
    come = inl (refl, refl);
    epoch = omega arith;
    flights = h.flights;
    cache_faults = made.fails.closes.later;
    base_faults = omega arith;
    stops = record { cache = h.stops.cache; base = h.stops.base };
    summed = λ k. absurd (k.sure refl);
  })

  -- ---- no map changed
  rests_keep : (stays : StoreStays v.stores.cache s) → Promises as_it_is (joined v) (joined (with_cache s None v)) → Keeps as_it_is None v (with_cache s None v)
  rests_keep stays promises = stores_keep as_it_is v (with_cache s None v).stores v.standing v.agent.totals h (record {
    promises = promises;
    worlds = λ start b z i. old_world start b z (rests_left v.stores.cache s stays.moments z.cache i.0, i.1);
    next = λ start b. tt;
    pending = tt;
    commit = no_commit stays.moments refl;
    come = inl (refl, refl);
    epoch = omega arith;
    flights = h.flights;
    cache_faults = stays.later;
    base_faults = omega arith;
    stops = record { cache = h.stops.cache; base = h.stops.base };
    summed = λ k x left.
        h.totals (record { live = sym stays.live ∙ k.live; runs = k.runs; sure = subst (IsElsewhere Cache) (sym none) tt }) x (rests_left v.stores.cache s stays.moments x left);
  })

pub raising_there_keeps : RaisingThereKeeps
raising_there_keeps v e was bytes s (Ok made) h none may =
    made_keeps v e was bytes s (Ok made) h none may may.committed
    (promised v e was bytes s (Ok made) h none may (joined (raised_there e s (Ok made) v)) may.committed refl)
raising_there_keeps v e was bytes s (Err Disk) h none may =
    torn_keeps v e was bytes s (Err Disk) h none may may.committed
    (promised v e was bytes s (Err Disk) h none may (joined (raised_there e s (Err Disk) v)) may.committed refl)
raising_there_keeps v e was bytes s (Err (BadImage at)) h none may = absurd may.committed
raising_there_keeps v e was bytes s (Err (NoSpace used need limit)) h none may =
    rests_keep v e was bytes s (Err (NoSpace used need limit)) h none may may.committed.1
    (promised v e was bytes s (Err (NoSpace used need limit)) h none may (joined (with_cache s None v)) may.committed refl)
raising_there_keeps v e was bytes s (Err (Worn limit)) h none may =
    rests_keep v e was bytes s (Err (Worn limit)) h none may may.committed.3
    (promised v e was bytes s (Err (Worn limit)) h none may (joined (with_cache s None v)) may.committed refl)
raising_there_keeps v e was bytes s (Err NoMemory) h none may =
    rests_keep v e was bytes s (Err NoMemory) h none may may.committed
    (promised v e was bytes s (Err NoMemory) h none may (joined (with_cache s None v)) may.committed refl)

pub raises_have_their_limit : RaisesHaveTheirLimit
raises_have_their_limit v e was bytes s result may = (omega (arith, may.next, may.spelled.most), omega (arith, may.next, may.spelled.most))
