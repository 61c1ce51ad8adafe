-- A record of the cache comes or goes, and the plain store stays.
use Rattle.std.proofs.Common.{◌≡◌, inl, inr, ℕ, Bool, false, List, [], length, Option, Some, None, Ok, Err, refl, sym, ap, subst, ◌∙◌}
use Rattle.std.specs.FinMap as fin
use Rattle.std.specs.Option.{option_map}
use Rattle.std.proofs.lemmas.List.{append-nil}
use Rattle.agent_state.specs.declared.totals.Totals.{Totals}
use Rattle.copy_chunk.specs.declared.chunk.Chunk.{Chunk}
use Rattle.obj_model.specs.declared.change.Change.{Change}
use Rattle.obj_model.specs.declared.change.Pool.TheVariants.{Cache}
use Rattle.obj_model.specs.declared.tier.Kind.{Kind}
use Rattle.obj_model.specs.declared.tier.Kind.TheVariants as kind
use Rattle.obj_ops.specs.Stores.{Store}
use Rattle.pool_keys.specs.Keys.{record_key}
use Rattle.pool_keys.specs.Maps.{SpellsCache}
use Rattle.store_face.specs.Calls.{Committed, Made, MayBeMade, Stays as StoreStays}
use Rattle.store_face.specs.Views.{StoreView}
use Rattle.store_face.specs.declared.fault.StoreFault.TheVariants.{Disk, BadImage, NoSpace, Worn, NoMemory}
use Rattle.tier_join.specs.declared.doubt.Doubt.{Doubt}
use Rattle.tier_join.specs.Group.{Memory, TwoMaps, View, AreLeft, BothTell, changed_in, tier_of}
use Rattle.tier_join.specs.Promises.{Promises, as_it_is}
use Rattle.tier_join.specs.Steps.{Outcome, behind as left_behind, sets, unless_disk}
use Rattle.tier_join.proofs.CacheSteps.{cleaning_promises, draining_promises, evicting_promises, promoting_promises, rec_is}
use Rattle.tier_join.proofs.Keys.{cache_with, set_is}
use Rattle.tier_join.proofs.Left.{rests_left}
use Rattle.tier_owners.proofs.Quiets.{cleaning_quiet, evicting_quiet, promoting_quiet, quiet_at}
use Rattle.tier_protocol.specs.Moves.{set_at, with_flight}
use Rattle.tier_protocol.specs.Owners.{Ledger, Quiet}
use Rattle.tier_protocol.specs.Sound.{IsSound, is_dirty}
use Rattle.tier_protocol.specs.Tiers.{Ask, Flight, Flights, Name, TierRec}
use Rattle.tier_protocol.proofs.Cells.{get_here, get_there}
use Rattle.tier_protocol.proofs.Owners.{quiet_keeps}
use Rattle.tier_protocol.proofs.Steps.{cleaning, evicting, leaving, promoting}
use Rattle.tier_rec.specs.Records.{clean_record, totals_after}
use Rattle.tier_types.specs.Flights.{HasOpid, is_write}
use Rattle.tier_view.specs.Calls.{Flown}
use Rattle.tier_view.specs.Changes.{gone_in}
use Rattle.tier_view.specs.Grows.{Extends, HaveCome, Remains, in_cache, no_commit}
use Rattle.tier_view.specs.Laws.{Keeps}
use Rattle.tier_view.specs.Locals.{CleaningHereKeeps, EvictingHereKeeps, EvictsHere, FlushesHere, PromotingHereKeeps, PutsRec, put_locally, with_cache}
use Rattle.tier_view.specs.Stores.{Pending, doubt_in}
use Rattle.tier_view.specs.Tables.{IsOfKind, SoundFlights}
use Rattle.tier_view.specs.Views.{GroupView, joined, ledger_in}
use Rattle.tier_view.specs.Whole.{IsWhole}
use Rattle.tier_view.specs.Worlds.{Began, IsOwned}
use Rattle.tier_view.proofs.Beginning.{surely_owned}
use Rattle.tier_view.proofs.LocalMaps.{cache_made_from, cache_torn_from}
use Rattle.tier_view.proofs.LocalSteps.{cache_grows, cache_keeps, cache_owes, sums_failed, sums_put, sums_rest}
use Rattle.tier_view.proofs.LocalWork.{flown_gone, one_number, work_gone}
use Rattle.tier_view.proofs.Resting.{extends_same, remains_itself}

-- what comes to the table of work in such a step: nothing
abbrev NoneCome : GroupView → List Flown → Type 0
NoneCome v = HaveCome v.calls.entries v.calls.entries (length v.log.answers) v.standing v.standing

-- ---- the step, by its worlds

module _ (v : GroupView) (h : IsWhole v) (none : v.stores.pending ≡ None) (s : StoreView) (k : Name) (old new : Option TierRec) (o : Option (List ℕ)) (flights : Flights) (flown : List Flown)
    (sound : SoundFlights v.calls.entries flown flights v.traffic.begun v.standing.cache_epoch (length v.log.answers))
    (work : Extends (Remains (length v.log.answers) (length v.log.answers)) (NoneCome v) v.calls.flown flown) where
  abbrev Mem : Memory
  Mem = (joined v).memory

  -- the memory where the work is gone
  abbrev Rest : Memory
  Rest = record Mem { flights = flights }

  abbrev L : Ledger
  L = ledger_in v

  abbrev Cs : List Change
  Cs = sets (record_key k) o

  abbrev B : Option Pending → Totals → GroupView
  B p totals = record v {
    stores = record v.stores { cache = s; pending = p };
    calls = record v.calls { flown = flown };
    traffic = record v.traffic { flights = flights };
    agent = record v.agent { totals = totals };
  }

  abbrev Promised : Outcome → Type 0
  Promised result =
      (w : View) → w.cache ≡ s → w ≡ left_behind Cache Rest (unless_disk Rest Mem) (Doubt.Plain Cache k) result (joined v) w → Promises as_it_is (joined v) w

  module _ (put : (start : Store) (z : TwoMaps) → AreLeft (joined v) z → IsOwned start Mem L z → IsOwned start Rest L (changed_in Cache Cs z))
      (kept : (start : Store) (z : TwoMaps) → AreLeft (joined v) z → IsOwned start Mem L z → IsOwned start Rest L z) where
    old_world : (start : Store) → Began start v → (z : TwoMaps) → AreLeft (joined v) z → IsOwned start Mem L z
    old_world start g z i = surely_owned start v z none (g.owners z i)

    pub put_made : (done : Unit {0}) → PutsRec v k old new o s (Ok done) → Promised (Ok done) → Keeps as_it_is None v (B None (totals_after v.agent.totals old new))
    put_made done puts promised =
        cache_keeps v h none s None v.log.opening [] v.log.acts [] flights flown Sums as_it_is
        (cache_grows v h none s None v.log.opening [] v.log.acts [] flights flown Sums as_it_is made.later promises began
        (sym (append-nil v.log.opening)) (sym (append-nil v.log.acts)) work (in_cache (inl (Cs, made.between)) refl))
        (cache_owes v h none s None v.log.opening [] v.log.acts [] flights flown Sums made.later (λ sh. sh) tt sound (sums_put v h none s k old new o done puts))
      where
        Sums : Totals
        Sums = totals_after v.agent.totals old new

        made : Made Cs v.stores.cache s
        made = puts.committed

        promises : Promises as_it_is (joined v) (joined (B None (totals_after v.agent.totals old new)))
        promises = promised (joined (B None (totals_after v.agent.totals old new))) refl refl

        began : (start : Store) → BothTell (joined v) → Began start v → Began start (B None (totals_after v.agent.totals old new))
        began start told g = record {
          pools = promises.began start told g.pools;
          owners = λ z i.
              let from = cache_made_from Cs v s made z i.0 i.1 in
              subst (IsOwned start Rest L) (sym from.2) (put start from.0 from.1 (old_world start g from.0 from.1));
          history = g.history;
          next = tt;
        }

    pub put_torn : PutsRec v k old new o s (Err Disk) → Promised (Err Disk) → Keeps as_it_is None v (B (Some (Pending.Plain Cache k)) v.agent.totals)
    put_torn puts promised =
        cache_keeps v h none s Doubted v.log.opening [] v.log.acts [] flights flown v.agent.totals as_it_is
        (cache_grows v h none s Doubted v.log.opening [] v.log.acts [] flights flown v.agent.totals as_it_is made.fails.closes.later promises began
        (sym (append-nil v.log.opening)) (sym (append-nil v.log.acts)) work (in_cache (inl (Cs, made.between)) refl))
        (cache_owes v h none s Doubted v.log.opening [] v.log.acts [] flights flown v.agent.totals made.fails.closes.later (λ sh. sh) tt sound
        (sums_failed v h none s made.fails.closes.live Doubted v.agent))
      where
        Doubted : Option Pending
        Doubted = Some (Pending.Plain Cache k)

        made : MayBeMade Cs v.stores.cache s
        made = puts.committed

        promises : Promises as_it_is (joined v) (joined (B Doubted v.agent.totals))
        promises = promised (joined (B Doubted v.agent.totals)) refl refl

        began : (start : Store) → BothTell (joined v) → Began start v → Began start (B Doubted v.agent.totals)
        began start told g = record {
          pools = promises.began start told g.pools;
          owners = λ z i. elim (cache_torn_from Cs v s made z i.0 i.1) [
            | inl was ↦ inl (kept start z was (old_world start g z was))
            | inr from ↦ inl (subst (IsOwned start Rest L) (sym from.2) (put start from.0 from.1 (old_world start g from.0 from.1)))
          ];
          history = g.history;
          next = tt;
        }

-- no map changed, and the work stays
put_rests : (v : GroupView) (h : IsWhole v) (none : v.stores.pending ≡ None) (s : StoreView) → StoreStays v.stores.cache s → Promises as_it_is (joined v) (joined (with_cache s None v))
    → Keeps as_it_is None v (with_cache s None v)
put_rests v h none s stays promises =
    cache_keeps v h none s None v.log.opening [] v.log.acts [] v.traffic.flights v.calls.flown v.agent.totals as_it_is
    (cache_grows v h none s None v.log.opening [] v.log.acts [] v.traffic.flights v.calls.flown v.agent.totals as_it_is stays.later promises
    (λ start told g. record {
      pools = promises.began start told g.pools;
      owners = λ z i. surely_owned start v z none (g.owners z (rests_left v.stores.cache s stays.moments z.cache i.0, i.1));
      history = g.history;
      next = tt;
    })
    (sym (append-nil v.log.opening)) (sym (append-nil v.log.acts))
    (extends_same (Remains (length v.log.answers) (length v.log.answers)) (NoneCome v) (remains_itself (length v.log.answers) (length v.log.answers)) v.calls.flown (inl (refl, refl)))
    (no_commit stays.moments refl))
    (cache_owes v h none s None v.log.opening [] v.log.acts [] v.traffic.flights v.calls.flown v.agent.totals stays.later (λ sh. sh) tt h.flights
    (sums_rest v h none s stays.moments stays.live None))

-- ---- the worlds

-- a pair with another record of one name, where the move is quiet
put_owned : (v : GroupView) (k : Name) (o : Option (List ℕ)) (new old : Option TierRec) (s : StoreView) (result : Outcome) (puts : PutsRec v k old new o s result) (flights : Flights)
    (start : Store) (z : TwoMaps) (w : IsOwned start (joined v).memory (ledger_in v) z)
    → IsSound (tier_of start (record (joined v).memory { flights = flights }) (set_at w.spells.recs k new) w.spells.base)
    → Quiet (tier_of start (joined v).memory w.spells.recs w.spells.base) (tier_of start (record (joined v).memory { flights = flights }) (set_at w.spells.recs k new) w.spells.base)
    → IsOwned start (record (joined v).memory { flights = flights }) (ledger_in v) (changed_in Cache (sets (record_key k) o) z)
put_owned v k o new old s result puts flights start z w sound quiet = record {
  spells = record {
    recs = set_at w.spells.recs k new;
    base = w.spells.base;
    cached = subst (λ x. SpellsCache x (set_at w.spells.recs k new) v.standing.cache_epoch) (sym (set_is z.cache (record_key k) o))
        (cache_with z.cache w.spells.recs (set_at w.spells.recs k new) v.standing.cache_epoch k o new
        (record { here = get_here w.spells.recs k new; there = λ n ne. get_there w.spells.recs k new n ne }) puts.spelled puts.named w.spells.cached);
    based = w.spells.based;
    sound = sound;
  };
  owners = quiet_keeps (tier_of start (joined v).memory w.spells.recs w.spells.base) (tier_of start (record (joined v).memory { flights = flights }) (set_at w.spells.recs k new) w.spells.base)
      (ledger_in v) w.owners quiet;
}

-- the work goes, and the record stays
pub freed_owned : (v : GroupView) (k : Name) → is_write (fin.get v.traffic.flights k) ≡ false → (start : Store) (z : TwoMaps) → IsOwned start (joined v).memory (ledger_in v) z
    → IsOwned start (record (joined v).memory { flights = set_at v.traffic.flights k None }) (ledger_in v) z
freed_owned v k idle start z w =
    let t = tier_of start (joined v).memory w.spells.recs w.spells.base in
    record {
      spells = record { recs = w.spells.recs; base = w.spells.base; cached = w.spells.cached; based = w.spells.based; sound = leaving t k None w.spells.sound idle };
      owners = quiet_keeps t (with_flight k None t) (ledger_in v) w.owners (quiet_at t k None refl);
    }

-- ---- an eviction

module _ (v : GroupView) (k : Name) (r : TierRec) (s : StoreView) (h : IsWhole v) (none : v.stores.pending ≡ None) (a : EvictsHere v k r) where
  evicted_put : (result : Outcome) → PutsRec v k (Some r) None None s result → (start : Store) (z : TwoMaps) → AreLeft (joined v) z → IsOwned start (joined v).memory (ledger_in v) z
      → IsOwned start (joined v).memory (ledger_in v) (changed_in Cache (sets (record_key k) None) z)
  evicted_put result puts start z i w =
      let t = tier_of start (joined v).memory w.spells.recs w.spells.base in
      put_owned v k None None (Some r) s result puts v.traffic.flights start z w
      (evicting t k w.spells.sound (record { clean = ap is_dirty (rec_is start (joined v) z k (Some r) puts.has i w.spells) ∙ a.clean; up = a.up; free = a.free }))
      (evicting_quiet t k)

  evicted_promises : (result : Outcome) (puts : PutsRec v k (Some r) None None s result) (w : View) → w.cache ≡ s
      → w ≡ left_behind Cache (joined v).memory (unless_disk (joined v).memory (joined v).memory) (Doubt.Plain Cache k) result (joined v) w → Promises as_it_is (joined v) w
  evicted_promises result puts w at same =
      evicting_promises (joined v) w (Some r) k result (ap (option_map doubt_in) none) puts.has
      (record { clean = ap is_dirty (get_here {X = TierRec} fin.empty k (Some r)) ∙ a.clean; up = a.up; free = a.free }) puts.named
      (record { committed = subst (λ x. Committed (sets (record_key k) None) v.stores.cache x result) (sym at) puts.committed; same = same })

  same_work : Extends (Remains (length v.log.answers) (length v.log.answers)) (NoneCome v) v.calls.flown v.calls.flown
  same_work = extends_same (Remains (length v.log.answers) (length v.log.answers)) (NoneCome v) (remains_itself (length v.log.answers) (length v.log.answers)) v.calls.flown (inl (refl, refl))

  evicted_by : (result : Outcome) → PutsRec v k (Some r) None None s result → Keeps as_it_is None v (put_locally k None (Some r) None s result v)
  evicted_by (Ok done) puts = put_made v h none s k (Some r) None None v.traffic.flights v.calls.flown h.flights same_work (evicted_put (Ok done) puts) (λ start z i w. w) done puts (evicted_promises (Ok done) puts)
  evicted_by (Err Disk) puts = put_torn v h none s k (Some r) None None v.traffic.flights v.calls.flown h.flights same_work (evicted_put (Err Disk) puts) (λ start z i w. w) puts (evicted_promises (Err Disk) puts)
  evicted_by (Err (BadImage at)) puts = absurd puts.committed
  evicted_by (Err (NoSpace used need limit)) puts = put_rests v h none s puts.committed.1 (evicted_promises (Err (NoSpace used need limit)) puts (joined (with_cache s None v)) refl refl)
  evicted_by (Err (Worn limit)) puts = put_rests v h none s puts.committed.3 (evicted_promises (Err (Worn limit)) puts (joined (with_cache s None v)) refl refl)
  evicted_by (Err NoMemory) puts = put_rests v h none s puts.committed (evicted_promises (Err NoMemory) puts (joined (with_cache s None v)) refl refl)

pub evicting_here_keeps : EvictingHereKeeps
evicting_here_keeps v k r s result h none a puts = evicted_by v k r s h none a result puts

-- ---- work on the name ends with a record

module _ (v : GroupView) (k : Name) (f : Flight) (op : ℕ) (old new : Option TierRec) (o : Option (List ℕ)) (s : StoreView) (h : IsWhole v) (none : v.stores.pending ≡ None)
    (flies : fin.get v.traffic.flights k ≡ Some f) (idle : is_write (Some f) ≡ false) (has : HasOpid (Some f) op) (only : (kd : Kind) (p : ℕ) → IsOfKind (Some f) kd p → p ≡ op)
    (put : (result : Outcome) → PutsRec v k old new o s result → (start : Store) (z : TwoMaps) → AreLeft (joined v) z → IsOwned start (joined v).memory (ledger_in v) z
    → IsOwned start (record (joined v).memory { flights = set_at v.traffic.flights k None }) (ledger_in v) (changed_in Cache (sets (record_key k) o) z))
    (promised : (result : Outcome) → PutsRec v k old new o s result → (w : View) → w.cache ≡ s
    → w ≡ left_behind Cache (record (joined v).memory { flights = set_at v.traffic.flights k None }) (unless_disk (record (joined v).memory { flights = set_at v.traffic.flights k None }) (joined v).memory)
    (Doubt.Plain Cache k) result (joined v) w → Promises as_it_is (joined v) w) where
  abbrev Gone : Flights
  Gone = set_at v.traffic.flights k None

  abbrev Flew : List Flown
  Flew = gone_in (length v.log.answers) op v.calls.flown

  gone_sound : SoundFlights v.calls.entries Flew Gone v.traffic.begun v.standing.cache_epoch (length v.log.answers)
  gone_sound = work_gone v.calls.entries v.traffic.flights v.traffic.begun v.standing.cache_epoch (length v.log.answers) op k h.memory.sound.apart
      (subst (λ x. HasOpid x op) (sym flies) has) (one_number v.traffic.flights k f op only flies) v.calls.flown h.flights

  gone_work : Extends (Remains (length v.log.answers) (length v.log.answers)) (NoneCome v) v.calls.flown Flew
  gone_work = flown_gone (length v.log.answers) op (NoneCome v) v.calls.flown (inl (refl, refl))

  kept : (start : Store) (z : TwoMaps) → AreLeft (joined v) z → IsOwned start (joined v).memory (ledger_in v) z → IsOwned start (record (joined v).memory { flights = Gone }) (ledger_in v) z
  kept start z i w = freed_owned v k (ap is_write flies ∙ idle) start z w

  pub ended_by : (result : Outcome) → PutsRec v k old new o s result → Keeps as_it_is None v (put_locally k (Some op) old new s result v)
  ended_by (Ok done) puts = put_made v h none s k old new o Gone Flew gone_sound gone_work (put (Ok done) puts) kept done puts (promised (Ok done) puts)
  ended_by (Err Disk) puts = put_torn v h none s k old new o Gone Flew gone_sound gone_work (put (Err Disk) puts) kept puts (promised (Err Disk) puts)
  ended_by (Err (BadImage at)) puts = absurd puts.committed
  ended_by (Err (NoSpace used need limit)) puts = put_rests v h none s puts.committed.1 (promised (Err (NoSpace used need limit)) puts (joined (with_cache s None v)) refl refl)
  ended_by (Err (Worn limit)) puts = put_rests v h none s puts.committed.3 (promised (Err (Worn limit)) puts (joined (with_cache s None v)) refl refl)
  ended_by (Err NoMemory) puts = put_rests v h none s puts.committed (promised (Err NoMemory) puts (joined (with_cache s None v)) refl refl)

-- ---- a flush ends

one_flush : (call : Option ℕ) (op seq : ℕ) (blocking drain : Bool) (kd : Kind) (p : ℕ) → IsOfKind (Some (Flight.Flush call op seq blocking drain)) kd p → p ≡ op
one_flush call op seq blocking drain kind.Promote p h = absurd h
one_flush call op seq blocking drain kind.Write p h = absurd h
one_flush call op seq blocking drain kind.Read p h = absurd h
one_flush call op seq blocking drain kind.Flush p h = sym h

module _ (v : GroupView) (k : Name) (call : Option ℕ) (op m : ℕ) (blocking drain : Bool) (r : TierRec) (o : Option (List ℕ)) (s : StoreView) (h : IsWhole v) (none : v.stores.pending ≡ None)
    (a : FlushesHere v k call op m blocking drain r) where
  abbrev F : Flight
  F = Flight.Flush call op r.state.seq blocking drain

  pub cleaned_keeps : (result : Outcome) → PutsRec v k (Some r) (Some (clean_record r)) o s result → Keeps as_it_is None v (put_locally k (Some op) (Some r) (Some (clean_record r)) s result v)
  cleaned_keeps =
      ended_by v k F op (Some r) (Some (clean_record r)) o s h none a.flight refl refl (one_flush call op r.state.seq blocking drain)
      (λ result puts start z i w.
      let t = tier_of start (joined v).memory w.spells.recs w.spells.base in
      put_owned v k o (Some (clean_record r)) (Some r) s result puts (set_at v.traffic.flights k None) start z w
      (cleaning t k call op r.state.seq m blocking drain r w.spells.sound (record { flight = a.flight; reply = a.reply; rec = rec_is start (joined v) z k (Some r) puts.has i w.spells; same = refl })).0
      (cleaning_quiet t k r).0)
      (λ result puts w at same.
      cleaning_promises (joined v) w (Some r) k call op r.state.seq m blocking drain r o result (ap (option_map doubt_in) none) puts.has
      (record { flight = a.flight; reply = a.reply; rec = get_here {X = TierRec} fin.empty k (Some r); same = refl }) puts.named puts.spelled
      (record { committed = subst (λ x. Committed (sets (record_key k) o) v.stores.cache x result) (sym at) puts.committed; same = same }))

  pub drained_keeps : (result : Outcome) → PutsRec v k (Some r) None None s result → Keeps as_it_is None v (put_locally k (Some op) (Some r) None s result v)
  drained_keeps =
      ended_by v k F op (Some r) None None s h none a.flight refl refl (one_flush call op r.state.seq blocking drain)
      (λ result puts start z i w.
      let t = tier_of start (joined v).memory w.spells.recs w.spells.base in
      put_owned v k None None (Some r) s result puts (set_at v.traffic.flights k None) start z w
      (cleaning t k call op r.state.seq m blocking drain r w.spells.sound (record { flight = a.flight; reply = a.reply; rec = rec_is start (joined v) z k (Some r) puts.has i w.spells; same = refl })).1
      (cleaning_quiet t k r).1)
      (λ result puts w at same.
      draining_promises (joined v) w (Some r) k call op r.state.seq m blocking drain r result (ap (option_map doubt_in) none) puts.has
      (record { flight = a.flight; reply = a.reply; rec = get_here {X = TierRec} fin.empty k (Some r); same = refl }) puts.named
      (record { committed = subst (λ x. Committed (sets (record_key k) None) v.stores.cache x result) (sym at) puts.committed; same = same }))

pub cleaning_here_keeps : CleaningHereKeeps
cleaning_here_keeps v k call op m blocking drain r o s result h none a =
    (cleaned_keeps v k call op m blocking drain r o s h none a result, drained_keeps v k call op m blocking drain r None s h none a result)

-- ---- a promotion ends

pub one_promotion : (call op : ℕ) (gather : List Chunk) (ask : Ask) (kd : Kind) (p : ℕ) → IsOfKind (Some (Flight.Promote call op gather ask)) kd p → p ≡ op
one_promotion call op gather ask kind.Promote p h = sym h
one_promotion call op gather ask kind.Write p h = absurd h
one_promotion call op gather ask kind.Read p h = absurd h
one_promotion call op gather ask kind.Flush p h = absurd h

pub promoting_here_keeps : PromotingHereKeeps
promoting_here_keeps v k call op gather ask b old moment o s result h none a =
    ended_by v k (Flight.Promote call op gather ask) op old (Some New) o s h none a.flight refl refl (one_promotion call op gather ask)
    (λ res puts start z i w.
    let t = tier_of start (joined v).memory w.spells.recs w.spells.base in
    put_owned v k o (Some New) old s res puts (set_at v.traffic.flights k None) start z w
    (promoting t k call op gather ask b moment w.spells.sound (record { flight = a.flight; whole = a.whole })).0
    (promoting_quiet t k b moment))
    (λ res puts w at same.
    promoting_promises (joined v) w k call op gather ask b moment o res (ap (option_map doubt_in) none) (record { flight = a.flight; whole = a.whole }) puts.named puts.spelled
    (record { committed = subst (λ x. Committed (sets (record_key k) o) v.stores.cache x res) (sym at) puts.committed; same = same }))
    result
  where
    New : TierRec
    New = record { state = b; dirty = false; mtime = moment }
