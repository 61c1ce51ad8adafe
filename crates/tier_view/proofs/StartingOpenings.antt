-- A store is opened anew, in each of its outcomes.
use Rattle.std.proofs.Common.{◌≡◌, ◌≢◌, ◌≤◌, ◌⊎◌, inl, inr, ℕ, Bool, List, length, Option, Some, None, refl, sym, ap, subst, true≢false, arith}
use Rattle.std.specs.FinMap as fin
use Rattle.std.specs.Option.{option_map}
use Rattle.agent_state.specs.declared.totals.Totals.{Totals}
use Rattle.obj_model.specs.declared.change.Pool.{Pool}
use Rattle.obj_model.specs.declared.change.Pool.TheVariants.{Base, Cache}
use Rattle.obj_ops.specs.Stores.{Store}
use Rattle.pool_keys.specs.Keys.{epoch_key}
use Rattle.pool_keys.proofs.Epochs.{epoch_one}
use Rattle.store_face.specs.Calls.{Among}
use Rattle.store_face.specs.Views.{StoreView}
use Rattle.tier_join.specs.Group.{EpochIsNext, Memory, TwoMaps, View, AreLeft, store_in, tier_of, with_epoch}
use Rattle.tier_join.specs.Promises.{Promises}
use Rattle.tier_join.specs.Steps.{Has, ReadAgain, Rests, with_doubt}
use Rattle.tier_join.specs.declared.doubt.Doubt.{Doubt}
use Rattle.tier_join.proofs.Reopening.{opening_promises}
use Rattle.tier_join.proofs.Rests.{first_rests}
use Rattle.tier_owners.proofs.Quiets.{counting_keeps}
use Rattle.tier_protocol.specs.Owners.{Ledger}
use Rattle.tier_protocol.specs.Tiers.{Phase, Tier}
use Rattle.tier_protocol.proofs.Memory.{free_unless_up}
use Rattle.tier_protocol.proofs.Steps.{counting}
use Rattle.tier_view.specs.Grows.{Grows, OneCommit, in_base, in_cache}
use Rattle.tier_view.specs.Laws.{Keeps}
use Rattle.tier_view.specs.Settles.{settled, settled_with}
use Rattle.tier_view.specs.Standing.{Standing}
use Rattle.tier_view.specs.Starts.{ComesTo, IsSettledBy, OpeningStoresKeeps, fails, halted, halts, opened_anew, opens, pool_in, raised_in, settled_fenced, settled_raised, settles, unopened, with_base_stopped}
use Rattle.tier_view.specs.Stops.{with_cache_stopped}
use Rattle.tier_view.specs.Stores.{Pending, Stores, doubt_in}
use Rattle.tier_view.specs.Tables.{SoundFlights}
use Rattle.tier_view.specs.Views.{GroupView, joined, joined_of, ledger_in, memory_of}
use Rattle.tier_view.specs.Whole.{AreSums, IsWhole, SoundStops}
use Rattle.tier_view.specs.Worlds.{IsOwned, IsOwnedBy, IsOwnedWith}
use Rattle.tier_view.proofs.Settling.{settling_acts_keeps}
use Rattle.tier_view.proofs.Stopping.{stopping_cache_keeps}
use Rattle.tier_view.proofs.StartingRests.{stopping_base_keeps}
use Rattle.tier_view.proofs.StartingStores as to
use Rattle.tier_view.proofs.StartingStores.{StoreStep, base_flag, cache_flag, changed, put_in, stores_keep}
use Rattle.pool_keys.specs.Values.{IsAtEpoch}

module _ (pool : Pool) (v : GroupView) (s : StoreView) (h : IsWhole v) (among : Among (store_in pool (joined v)) s) (later : (store_in pool (joined v)).faults ≤ s.faults) where
  abbrev Mem : Memory
  Mem = memory_of v.log v.traffic v.standing

  abbrev Led : Ledger
  Led = ledger_in v

  -- ---- the doubt stays
  module _ (cs bs : Bool) (totals : Totals) where
    abbrev X : Stores
    X = put_in pool s cs bs v.stores.pending v.stores

    stays_keeps : SoundStops X v.standing → AreSums X (record v.agent { totals = totals }) → Keeps (with_doubt (joined v).doubt) None v (changed X v.standing totals v)
    stays_keeps stops summed = stores_keep (with_doubt (joined v).doubt) v X v.standing totals h (record {
      promises = opening_promises pool (joined v) (joined_of X Mem) (record {
        among = subst (Among (store_in pool (joined v))) (sym (to.put_store pool s cs bs v.stores.pending v.stores Mem)) among;
        settles = inl (to.put_placed pool s cs bs v.stores Mem);
      });
      worlds = λ start b z i. b.owners z (to.put_left pool s cs bs v.stores.pending v.stores Mem among Mem z i);
      next = λ start b. b.next;
      pending = h.pending;
      commit = to.put_commit pool s cs bs v.stores.pending v.stores Mem among;
      come = inl (refl, refl);
      epoch = omega arith;
      flights = h.flights;
      cache_faults = (to.put_faults pool s v.stores Mem later).0;
      base_faults = (to.put_faults pool s v.stores Mem later).1;
      stops = stops;
      summed = summed;
    })

  unopened_keeps : AreSums (unopened pool s v).stores v.agent → Keeps (with_doubt (joined v).doubt) None v (unopened pool s v)
  unopened_keeps summed =
      subst (λ x. Keeps (with_doubt (joined v).doubt) None v (record v { stores = x })) (to.placed_is pool s v.stores)
      (stays_keeps v.stores.cache_stopped v.stores.base_stopped v.agent.totals (record { cache = h.stops.cache; base = h.stops.base })
      (subst (λ x. AreSums x v.agent) (sym (to.placed_is pool s v.stores)) summed))

  opened_keeps : (totals : Totals) → AreSums (opened_anew pool s totals v).stores (opened_anew pool s totals v).agent → Keeps (with_doubt (joined v).doubt) None v (opened_anew pool s totals v)
  opened_keeps totals summed =
      subst (λ x. Keeps (with_doubt (joined v).doubt) None v (record v { stores = x; agent = record v.agent { totals = totals } })) (to.running_is pool s v.stores)
      (stays_keeps (cache_flag pool v.stores.cache_stopped) (base_flag pool v.stores.base_stopped) totals (to.stops_run pool s v.stores.pending v.stores v.standing h.stops)
      (subst (λ x. AreSums x (record v.agent { totals = totals })) (sym (to.running_is pool s v.stores)) summed))

  -- ---- the doubt is settled
  module _ (p : Pending) (is : v.stores.pending ≡ Some p) (st : Standing) (totals : Totals) where
    abbrev Y : Stores
    Y = put_in pool s (cache_flag pool v.stores.cache_stopped) (base_flag pool v.stores.base_stopped) None v.stores

    abbrev Mew : Memory
    Mew = memory_of v.log v.traffic st

    next : EpochIsNext Mem.net (Some (doubt_in p))
    next = subst (λ o. EpochIsNext Mem.net (option_map doubt_in o)) is h.memory.epochs

    settled_keeps : Promises (with_doubt (joined v).doubt) (joined v) (joined_of Y Mew)
        → ((start : Store) (z : TwoMaps) → AreLeft (joined_of Y Mew) z → IsOwned start Mem Led z ⊎ IsOwnedWith start Mem Led p z → IsOwned start Mew Led z)
        → ((st.cache_epoch ≡ v.standing.cache_epoch) × (st.next_opid ≡ v.standing.next_opid)) ⊎ ((st.cache_epoch ≢ v.standing.cache_epoch) × (st.next_opid ≡ 1))
        → v.standing.cache_epoch ≤ st.cache_epoch
        → SoundFlights v.calls.entries v.calls.flown v.traffic.flights v.traffic.begun st.cache_epoch (length v.log.answers)
        → SoundStops Y st → AreSums Y (record v.agent { totals = totals })
        → Keeps (with_doubt (joined v).doubt) None v (changed Y st totals v)
    settled_keeps promises worlds come epoch flights stops summed = stores_keep (with_doubt (joined v).doubt) v Y st totals h (record {
      promises = promises;
      worlds = λ start b z i. worlds start z i
          (subst (λ o. IsOwnedBy start Mem Led o z) is
          (b.owners z (to.put_left pool s (cache_flag pool v.stores.cache_stopped) (base_flag pool v.stores.base_stopped) None v.stores Mem among Mew z i)));
      next = λ start b. tt;
      pending = tt;
      commit = to.put_commit pool s (cache_flag pool v.stores.cache_stopped) (base_flag pool v.stores.base_stopped) None v.stores Mem among;
      come = come;
      epoch = epoch;
      flights = flights;
      cache_faults = (to.put_faults pool s v.stores Mem later).0;
      base_faults = (to.put_faults pool s v.stores Mem later).1;
      stops = stops;
      summed = summed;
    })

-- ---- the pool counts as stopped from then on

-- a pool is stopped, and then its opening fails
module _ (v u : GroupView) (pool : Pool) (s : StoreView) (g : Grows (with_doubt (joined v).doubt) None v u) (stores : Rests (joined v) (joined u)) (acts : (joined u).memory.acts ≡ (joined v).memory.acts)
    (opened : Grows (with_doubt (joined u).doubt) None u (unopened pool s u)) where
  halting_grows : OneCommit v.stores (unopened pool s u).stores → v.stores.cache.faults ≤ (unopened pool s u).stores.cache.faults → v.stores.base.faults ≤ (unopened pool s u).stores.base.faults
      → Grows (with_doubt (joined u).doubt) None v (unopened pool s u)
  halting_grows commit cache_faults base_faults = record {
    pools = first_rests (with_doubt (joined u).doubt) (with_doubt (joined v).doubt) (joined v) (joined u) (joined (unopened pool s u)) acts stores g.pools opened.pools;
    began = λ start told b. opened.began start (g.pools.tell told) (g.began start told b);
    log = g.log;
    one_answer = g.one_answer;
    calls = g.calls;
    flown = g.flown;
    commit = commit;
    epoch = g.epoch;
    cache_faults = cache_faults;
    base_faults = base_faults;
    share = g.share;
    values = g.values;
  }

cache_halts : (v : GroupView) (s : StoreView) → IsWhole v → Among v.stores.cache s → v.stores.cache.faults ≤ s.faults → Keeps (with_doubt (joined v).doubt) None v (halted Cache s v)
cache_halts v s h among later =
    let first = stopping_cache_keeps v h in
    let u : GroupView = with_cache_stopped v in
    let second = unopened_keeps Cache u s first.0 among later (λ k. absurd (true≢false k.runs)) in
    (second.0, halting_grows v u Cache s first.1 (record { cache = refl; base = refl; doubt = refl }) refl second.1 (in_cache (inr among) refl) later (omega arith))

base_halts : (v : GroupView) (s : StoreView) → IsWhole v → Among v.stores.base s → v.stores.base.faults ≤ s.faults → Keeps (with_doubt (joined v).doubt) None v (halted Base s v)
base_halts v s h among later =
    let first = stopping_base_keeps v h in
    let u : GroupView = with_base_stopped v in
    let second = unopened_keeps Base u s first.0 among later (λ k. first.0.totals (record { live = k.live; runs = k.runs; sure = k.sure })) in
    (second.0, halting_grows v u Base s first.1 (record { cache = refl; base = refl; doubt = refl }) refl second.1 (in_base refl (inr among)) (omega arith) later)

halting_keeps : (pool : Pool) (v : GroupView) (s : StoreView) → IsWhole v → Among (store_in pool (joined v)) s → (store_in pool (joined v)).faults ≤ s.faults
    → Keeps (with_doubt (joined v).doubt) None v (halted pool s v)
halting_keeps Cache v s h among later = cache_halts v s h among later
halting_keeps Base v s h among later = base_halts v s h among later

-- what was in doubt is not there, or is the same to memory
module _ (pool : Pool) (v : GroupView) (s : StoreView) (h : IsWhole v) (among : Among (store_in pool (joined v)) s) (later : (store_in pool (joined v)).faults ≤ s.faults)
    (p : Pending) (is : v.stores.pending ≡ Some p) (totals : Totals) (summed : AreSums (settled pool s totals v).stores (settled pool s totals v).agent) where
  abbrev Same : Stores
  Same = put_in pool s (cache_flag pool v.stores.cache_stopped) (base_flag pool v.stores.base_stopped) None v.stores

  as_it_was : Promises (with_doubt (joined v).doubt) (joined v) (joined_of Same (memory_of v.log v.traffic v.standing))
      → ((start : Store) (z : TwoMaps) → AreLeft (joined_of Same (memory_of v.log v.traffic v.standing)) z
      → IsOwned start (memory_of v.log v.traffic v.standing) (ledger_in v) z ⊎ IsOwnedWith start (memory_of v.log v.traffic v.standing) (ledger_in v) p z
      → IsOwned start (memory_of v.log v.traffic v.standing) (ledger_in v) z)
      → Keeps (with_doubt (joined v).doubt) None v (settled pool s totals v)
  as_it_was promises worlds =
      subst (λ x. Keeps (with_doubt (joined v).doubt) None v (record v { stores = x; agent = record v.agent { totals = totals } })) (to.reopened_is pool s v.stores)
      (settled_keeps pool v s h among later p is v.standing totals promises worlds (inl (refl, refl)) (omega arith) h.flights (to.stops_run pool s None v.stores v.standing h.stops)
      (subst (λ x. AreSums x (record v.agent { totals = totals })) (sym (to.reopened_is pool s v.stores)) summed))

plain_keeps : (pool : Pool) (v : GroupView) (s : StoreView) (h : IsWhole v) (among : Among (store_in pool (joined v)) s) (later : (store_in pool (joined v)).faults ≤ s.faults)
    (name : List ℕ) (is : v.stores.pending ≡ Some (Pending.Plain pool name)) (totals : Totals) → AreSums (settled pool s totals v).stores (settled pool s totals v).agent
    → ReadAgain pool name (joined (settled pool s totals v)) → Keeps (with_doubt (joined v).doubt) None v (settled pool s totals v)
plain_keeps pool v s h among later name is totals summed read =
    as_it_was pool v s h among later (Pending.Plain pool name) is totals summed
    (opening_promises pool (joined v) W (record {
      among = subst (Among (store_in pool (joined v))) (sym (to.put_store pool s (cache_flag pool v.stores.cache_stopped) (base_flag pool v.stores.base_stopped) None v.stores Mem)) among;
      settles = inr (
        Doubt.Plain pool name,
        ap (option_map doubt_in) is,
        refl,
        (
          subst (λ x. ReadAgain pool name (joined_of x Mem)) (sym (to.reopened_is pool s v.stores)) read,
          to.put_settled pool s (cache_flag pool v.stores.cache_stopped) (base_flag pool v.stores.base_stopped) v.stores Mem Mem,
        ),
      );
    }))
    (λ start z i k. elim k [ inl k ↦ k | inr k ↦ absurd k ])
  where
    Mem : Memory
    Mem = memory_of v.log v.traffic v.standing

    W : View
    W = joined_of (put_in pool s (cache_flag pool v.stores.cache_stopped) (base_flag pool v.stores.base_stopped) None v.stores) Mem

-- ---- the cache's epoch was in doubt

no_flight : {X : Type 0} (o : Option X) (x : X) → o ≡ None → o ≡ Some x → ⊥
no_flight o x none some = absurd (cc)

module _ (v : GroupView) (s : StoreView) (h : IsWhole v) (among : Among v.stores.cache s) (later : v.stores.cache.faults ≤ s.faults)
    (e : ℕ) (is : v.stores.pending ≡ Some (Pending.Epoch Cache e)) (totals : Totals) where
  abbrev In : Memory
  In = memory_of v.log v.traffic v.standing

  above : EpochIsNext In.net (Some (Doubt.Epoch Cache e))
  above = subst (λ o. EpochIsNext In.net (option_map doubt_in o)) is h.memory.epochs

  cache_found_keeps : Has s (IsAtEpoch e) → AreSums (settled_raised e s totals v).stores (settled_raised e s totals v).agent
      → Keeps (with_doubt (joined v).doubt) None v (settled_raised e s totals v)
  cache_found_keeps has summed =
      settled_keeps Cache v s h among later (Pending.Epoch Cache e) is (raised_in e v.standing) totals
      (opening_promises Cache (joined v) (joined (settled_raised e s totals v)) (record { among = among; settles = inr (Doubt.Epoch Cache e, ap (option_map doubt_in) is, refl, inl (has, refl)) }))
      worlds
      (inr (λ same. absurd (omega (arith, same, above.0)), refl)) (omega (arith, above.0))
      (record { listed = λ n f on. absurd (no_flight (fin.get v.traffic.flights n) f (free_unless_up n (fin.get v.traffic.flights n) In.net (h.memory.sound.each n) not_up) on); table = h.flights.table })
      (record { cache = λ e. absurd (true≢false (sym e)); base = λ e. refl })
      summed
    where
      not_up : v.standing.phase ≢ Phase.Up
      not_up up = let down = above.2 in absurd (cc)

      worlds : (start : Store) (z : TwoMaps) → AreLeft (joined (settled_raised e s totals v)) z
          → IsOwned start In (ledger_in v) z ⊎ IsOwnedWith start In (ledger_in v) (Pending.Epoch Cache e) z → IsOwned start (joined (settled_raised e s totals v)).memory (ledger_in v) z
      worlds start z i (inl k) = absurd (omega (arith, above.0, epoch_one (fin.get z.cache epoch_key) v.standing.cache_epoch e k.spells.cached.is_epoch (has z.cache i.0)))
      worlds start z i (inr k) =
          let t : Tier = tier_of start (with_epoch Cache e In) k.spells.recs k.spells.base in
          record {
            spells = record {
              recs = k.spells.recs;
              base = k.spells.base;
              cached = k.spells.cached;
              based = k.spells.based;
              sound = counting t k.spells.sound (record { down = above.2; above = above.1 });
            };
            owners = counting_keeps t (ledger_in v) k.spells.sound k.owners (record { down = above.2; above = above.1 });
          }

  cache_missing_keeps : Has s (λ t. IsAtEpoch e t → ⊥) → AreSums (settled Cache s totals v).stores (settled Cache s totals v).agent
      → Keeps (with_doubt (joined v).doubt) None v (settled Cache s totals v)
  cache_missing_keeps has summed =
      as_it_was Cache v s h among later (Pending.Epoch Cache e) is totals summed
      (opening_promises Cache (joined v) (joined (settled Cache s totals v)) (record { among = among; settles = inr (Doubt.Epoch Cache e, ap (option_map doubt_in) is, refl, inr (has, refl)) }))
      (λ start z i k. elim k [ inl k ↦ k | inr k ↦ absurd (has z.cache i.0 k.spells.cached.is_epoch) ])

-- ---- the base's epoch was in doubt

module _ (v : GroupView) (s : StoreView) (h : IsWhole v) (among : Among v.stores.base s) (later : v.stores.base.faults ≤ s.faults)
    (e : ℕ) (is : v.stores.pending ≡ Some (Pending.Epoch Base e)) (totals : Totals) where
  abbrev On : Memory
  On = memory_of v.log v.traffic v.standing

  higher : EpochIsNext On.net (Some (Doubt.Epoch Base e))
  higher = subst (λ o. EpochIsNext On.net (option_map doubt_in o)) is h.memory.epochs

  base_found_keeps : Has s (IsAtEpoch e) → AreSums (settled_fenced e s totals v).stores (settled_fenced e s totals v).agent
      → Keeps (with_doubt (joined v).doubt) None v (settled_fenced e s totals v)
  base_found_keeps has summed =
      settled_keeps Base v s h among later (Pending.Epoch Base e) is (record v.standing { base_epoch = e }) totals
      (opening_promises Base (joined v) (joined (settled_fenced e s totals v)) (record { among = among; settles = inr (Doubt.Epoch Base e, ap (option_map doubt_in) is, refl, inl (has, refl)) }))
      (λ start z i k. elim k [
        | inl k ↦ absurd (omega (arith, higher, epoch_one (fin.get z.base epoch_key) v.standing.base_epoch e k.spells.based.is_epoch (has z.base i.1)))
        | inr k ↦ k
      ])
      (inl (refl, refl)) (omega arith) h.flights
      (record { cache = h.stops.cache; base = λ e. absurd (true≢false (sym e)) })
      summed

  base_missing_keeps : Has s (λ t. IsAtEpoch e t → ⊥) → AreSums (settled Base s totals v).stores (settled Base s totals v).agent
      → Keeps (with_doubt (joined v).doubt) None v (settled Base s totals v)
  base_missing_keeps has summed =
      as_it_was Base v s h among later (Pending.Epoch Base e) is totals summed
      (opening_promises Base (joined v) (joined (settled Base s totals v)) (record { among = among; settles = inr (Doubt.Epoch Base e, ap (option_map doubt_in) is, refl, inr (has, refl)) }))
      (λ start z i k. elim k [ inl k ↦ k | inr k ↦ absurd (has z.base i.1 k.spells.based.is_epoch) ])

-- ---- all of them

module _ (v w : GroupView) (s : StoreView) (totals : Totals) (h : IsWhole v) (summed : AreSums w.stores w.agent) where
  -- what is kept by what it is, is kept by w
  became : (u : GroupView) → w ≡ u → (AreSums u.stores u.agent → Keeps (with_doubt (joined v).doubt) None v u) → Keeps (with_doubt (joined v).doubt) None v w
  became u same keeps = subst (Keeps (with_doubt (joined v).doubt) None v) (sym same) (keeps (subst (λ x. AreSums x.stores x.agent) same summed))

  settling : (p : Pending) → v.stores.pending ≡ Some p → Among (store_in (pool_in p) (joined v)) s → (store_in (pool_in p) (joined v)).faults ≤ s.faults
      → IsSettledBy p s totals v w → Keeps (with_doubt (joined v).doubt) None v w
  settling (Pending.Plain pool name) is among later k =
      became (settled pool s totals v) k.1 (λ sums. plain_keeps pool v s h among later name is totals sums (subst (λ x. ReadAgain pool name (joined x)) k.1 k.0))
  settling (Pending.Act pool first a seq) is among later (inl k) =
      became (settled_with pool s totals first a v) k.1
      (λ sums. (settling_acts_keeps pool v first a seq s totals h (record { pending = is; among = among; later = later; summed = sums })).0 k.0)
  settling (Pending.Act pool first a seq) is among later (inr k) =
      became (settled pool s totals v) k.1
      (λ sums. (settling_acts_keeps pool v first a seq s totals h (record { pending = is; among = among; later = later; summed = sums })).1 k.0)
  settling (Pending.Epoch Cache e) is among later (inl k) = became (settled_raised e s totals v) k.1 (cache_found_keeps v s h among later e is totals k.0)
  settling (Pending.Epoch Cache e) is among later (inr k) = became (settled Cache s totals v) k.1 (cache_missing_keeps v s h among later e is totals k.0)
  settling (Pending.Epoch Base e) is among later (inl k) = became (settled_fenced e s totals v) k.1 (base_found_keeps v s h among later e is totals k.0)
  settling (Pending.Epoch Base e) is among later (inr k) = became (settled Base s totals v) k.1 (base_missing_keeps v s h among later e is totals k.0)

  coming : (pool : Pool) → Among (store_in pool (joined v)) s → (store_in pool (joined v)).faults ≤ s.faults → ComesTo pool s totals v w → Keeps (with_doubt (joined v).doubt) None v w
  coming pool among later (fails same) = became (unopened pool s v) same (unopened_keeps pool v s h among later)
  coming pool among later (halts same) = became (halted pool s v) same (λ sums. halting_keeps pool v s h among later)
  coming pool among later (opens elsewhere same) = became (opened_anew pool s totals v) same (opened_keeps pool v s h among later totals)
  coming pool among later (settles p is of by) =
      settling p is (subst (λ q. Among (store_in q (joined v)) s) (sym of) among) (subst (λ q. (store_in q (joined v)).faults ≤ s.faults) (sym of) later) by

pub opening_stores_keeps : OpeningStoresKeeps
opening_stores_keeps pool s totals v w h o = coming v w s totals h o.summed pool o.among o.later o.comes
