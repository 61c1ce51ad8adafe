-- The commits of the cache.
use Rattle.std.proofs.Common.{◌≡◌, ◌≢◌, inl, inr, ℕ, Bool, true, false, List, Option, Some, None, refl, sym, ap, subst, ◌∙◌, ◌++◌, [], ◌∷◌}
use Rattle.std.specs.FinMap as fin
use Rattle.obj_model.specs.Names.{name_fault}
use Rattle.obj_model.specs.declared.change.Pool.TheVariants.{Cache}
use Rattle.obj_model.specs.declared.reply.Reply.{Reply}
use Rattle.obj_model.specs.declared.req.Req.{Req}
use Rattle.obj_ops.specs.declared.request.Acted.TheVariants.{Fresh}
use Rattle.obj_ops.specs.Acts.{act}
use Rattle.obj_ops.specs.Stores.{Store, replay, state_of}
use Rattle.store_face.specs.declared.fault.StoreFault.{StoreFault}
use Rattle.store_face.specs.declared.fault.StoreFault.TheVariants.{Disk, BadImage, NoSpace, Worn, NoMemory}
use Rattle.tier_types.specs.Flights.{is_write}
use Rattle.tier_protocol.specs.Tiers.{Name, Net, Phase, Recs, TierRec}
use Rattle.tier_protocol.specs.Sound.{IsSound}
use Rattle.tier_protocol.specs.Moves.{raised_to, set_at, with_flight, MayActHere, MayClean, MayPromote}
use Rattle.tier_protocol.proofs.Cells.{get_here, get_there}
use Rattle.tier_protocol.proofs.Memory.{memory_raised}
use Rattle.tier_protocol.proofs.Requests.{replay_more}
use Rattle.tier_protocol.proofs.Steps.{acting, cleaning, evicting, finding, leaving, promoting, raising, shown}
use Rattle.tier_protocol.proofs.Worlds.{cache_doubt_keeps}
use Rattle.tier_join.specs.Group.{Doubt, Memory, TwoMaps, View, AreLeft, HasRecordAt, IsSoundMemory, ShowsIn, Spells, changed_in, tier_of, with_act}
use Rattle.pool_keys.proofs.Caches.{record_one}
use Rattle.pool_keys.specs.Keys.{epoch_key, record_key}
use Rattle.pool_keys.specs.Maps.{SpellsBase, SpellsCache}
use Rattle.pool_keys.specs.Values.{IsRecOf}
use Rattle.tier_join.specs.Promises.{as_it_is, with_req}
use Rattle.tier_join.specs.Laws.{ActingPromises, CleaningPromises, DrainingPromises, EvictingPromises, PromotingActsPromises, PromotingPromises, RaisingPromises}
use Rattle.tier_join.specs.Steps.{HasRec, Outcome, Owes, after, seen, sets, unless_disk}
use Rattle.tier_join.proofs.Commits.{commit_promises}
use Rattle.tier_join.proofs.Keys.{IsWith, cache_at, cache_with, set_is}
use Rattle.tier_join.proofs.MemoryMoves.{free_memory, unless_sound}

-- ---- what was read

-- a record that was read is the pair's
pub rec_is : (start : Store) (v : View) (z : TwoMaps) (k : Name) (rec : Option TierRec) → HasRec v k rec → AreLeft v z → (h : Spells start v.memory z) → fin.get h.recs k ≡ rec
rec_is start v z k rec has i h = record_one (fin.get z.cache (record_key k)) (fin.get h.recs k) rec (h.cached.each k) (has z.cache i.0)

-- and it is the one that the step sees
pub rec_seen : (start : Store) (v : View) (z : TwoMaps) (k : Name) (rec : Option TierRec) → HasRec v k rec → AreLeft v z → (h : Spells start v.memory z) → fin.get h.recs k ≡ fin.get (set_at {X = TierRec} fin.empty k rec) k
rec_seen start v z k rec has i h = rec_is start v z k rec has i h ∙ sym (get_here {X = TierRec} fin.empty k rec)

-- ---- another record of one name

-- a sound pair with another record, or none, of a name
record Moved (start : Store) (m : Memory) (recs : Recs) (base : Store) (k : Name) (rec : Option TierRec) : Type 0 where
  new : Recs
  is : IsWith recs new k rec
  sound : IsSound (tier_of start m new base)

is_with : (recs : Recs) (k : Name) (rec : Option TierRec) → IsWith recs (set_at recs k rec) k rec
is_with recs k rec = record { here = get_here recs k rec; there = λ n ne. get_there recs k rec n ne }

makes : (start : Store) (m done : Memory) (z : TwoMaps) (k : Name) (o : Option (List ℕ)) (rec : Option TierRec) → name_fault k ≡ None → IsRecOf o rec → done.net ≡ m.net
    → (h : Spells start m z) → Moved start done h.recs h.base k rec → Spells start done (changed_in Cache (sets (record_key k) o) z)
makes start m done z k o rec named spelled net h moved = record {
  recs = moved.new;
  base = h.base;
  cached = subst (λ t. SpellsCache t moved.new done.net.cache_epoch) (sym (set_is z.cache (record_key k) o))
      (cache_with z.cache h.recs moved.new done.net.cache_epoch k o rec moved.is spelled named (subst (λ n. SpellsCache z.cache h.recs n.cache_epoch) (sym net) h.cached));
  based = subst (λ n. SpellsBase z.base h.base n.base_epoch) (sym net) h.based;
  sound = moved.sound;
}

unless_spells : (start : Store) (torn kept : Memory) (z : TwoMaps) (fault : StoreFault) → Spells start torn z → Spells start kept z → Spells start (unless_disk torn kept fault) z
unless_spells start torn kept z Disk h k = h
unless_spells start torn kept z (BadImage at) h k = k
unless_spells start torn kept z (NoSpace used need limit) h k = k
unless_spells start torn kept z (Worn limit) h k = k
unless_spells start torn kept z NoMemory h k = k

unless_acts : (torn kept : Memory) (fault : StoreFault) (acts : List Req) → torn.acts ≡ acts → kept.acts ≡ acts → (unless_disk torn kept fault).acts ≡ acts
unless_acts torn kept Disk acts h k = h
unless_acts torn kept (BadImage at) acts h k = k
unless_acts torn kept (NoSpace used need limit) acts h k = k
unless_acts torn kept (Worn limit) acts h k = k
unless_acts torn kept NoMemory acts h k = k

record_at : (o : Option (List ℕ)) (r : TierRec) → IsRecOf o (Some r) → HasRecordAt r.state.seq o
record_at None r h = absurd h
record_at (Some bytes) r h = (r, h, refl)

-- A commit of a name's record. Where the disk fails it leaves the memory `rest`, in which the work
-- on the name may be gone.
module _ (v : View) (k : Name) (o : Option (List ℕ)) (rec : Option TierRec) (rest : Memory) (result : Outcome)
    (none : v.doubt ≡ None) (named : name_fault k ≡ None) (spelled : IsRecOf o rec) (net : rest.net ≡ v.memory.net)
    (frees : (start : Store) (z : TwoMaps) → AreLeft v z → Spells start v.memory z → Spells start rest z)
    (sound : IsSoundMemory v.memory → IsSoundMemory rest) (kept : rest.acts ≡ v.memory.acts) where
  -- memory is the same where it is made
  plain_owes : ((start : Store) (z : TwoMaps) → AreLeft v z → (h : Spells start v.memory z) → Moved start rest h.recs h.base k rec)
      → Owes Cache (sets (record_key k) o) rest (unless_disk rest v.memory) (Doubt.Plain Cache k) result v
  plain_owes moves = record {
    settled = none;
    makes = λ start z i h. makes start v.memory rest z k o rec named spelled net h (moves start z i h);
    stays = λ start z fault e i h. unless_spells start rest v.memory z fault (frees start z i h) h;
    torn = λ start z i h. inl (makes start v.memory rest z k o rec named spelled net h (moves start z i h));
    acts = λ start z i h. tt;
    epochs = tt;
    history = inl kept;
    kept = λ fault e. unless_acts rest v.memory fault v.memory.acts kept refl;
    made = sound;
    failed = λ fault e h. unless_sound rest v.memory fault (sound h) h;
  }

  -- a request acted where it is made
  act_owes : (q : Req) (r : TierRec) (answer : Reply) → q.name ≡ k → rec ≡ Some r
      → ((start : Store) (z : TwoMaps) → AreLeft v z → (h : Spells start v.memory z) → act (state_of (replay start rest.acts) q.name) q ≡ Fresh r.state answer)
      → ((start : Store) (z : TwoMaps) → AreLeft v z → (h : Spells start v.memory z) → Moved start (with_act q rest) h.recs h.base k rec)
      → Owes Cache (sets (record_key k) o) (with_act q rest) (unless_disk rest v.memory) (Doubt.Act Cache q r.state.seq) result v
  act_owes q r answer same is acts moves = record {
    settled = none;
    makes = λ start z i h. makes start v.memory (with_act q rest) z k o rec named spelled net h (moves start z i h);
    stays = λ start z fault e i h. unless_spells start rest v.memory z fault (frees start z i h) h;
    torn = λ start z i h. inr (shows z, makes start v.memory (with_act q rest) z k o rec named spelled net h (moves start z i h));
    acts = λ start z i h. (r.state, answer, acts start z i h, refl);
    epochs = tt;
    history = inr (q, ap (λ a. a ++ q ∷ []) kept);
    kept = λ fault e. unless_acts rest v.memory fault v.memory.acts kept refl;
    made = λ h. sound h;
    failed = λ fault e h. unless_sound rest v.memory fault (sound h) h;
  }
    where
      shows : (z : TwoMaps) → ShowsIn Cache q.name r.state.seq (changed_in Cache (sets (record_key k) o) z).cache
      shows z =
          subst (λ n. HasRecordAt r.state.seq (fin.get (changed_in Cache (sets (record_key k) o) z).cache (record_key n))) (sym same)
          (subst (λ t. HasRecordAt r.state.seq (fin.get t (record_key k))) (sym (set_is z.cache (record_key k) o))
          (subst (HasRecordAt r.state.seq) (sym (get_here z.cache (record_key k) o)) (record_at o r (subst (IsRecOf o) is spelled))))

same_acts : (m : Memory) (start : Store) → replay start m.acts ≡ as_it_is (replay start m.acts)
same_acts m start = refl

-- ---- a request acts on a record

pub acting_promises : ActingPromises
acting_promises v w rec r q s answer moment o result none has may named spelled step =
    commit_promises Cache (sets (record_key q.name) o) (with_act q v.memory) (unless_disk v.memory v.memory) (Doubt.Act Cache q s.seq) result v w
    (act_owes v q.name o (Some new) v.memory result none named spelled refl (λ start z i h. h) (λ h. h) refl q new answer refl refl
    (λ start z i h. subst (λ b. act b q ≡ Fresh s answer) (shown (tier_of start v.memory h.recs h.base) q.name r h.sound (may_here start z i h).rec) may.acts)
    (λ start z i h. record {
      new = set_at h.recs q.name (Some new);
      is = is_with h.recs q.name (Some new);
      sound = acting (tier_of start v.memory h.recs h.base) r q s answer moment h.sound (may_here start z i h);
    }))
    step (with_req q) (λ start. replay_more v.memory.acts start q)
  where
    new : TierRec
    new = record { state = s; dirty = true; mtime = moment }

    may_here : (start : Store) (z : TwoMaps) → AreLeft v z → (h : Spells start v.memory z) → MayActHere (tier_of start v.memory h.recs h.base) r q s answer
    may_here start z i h = record { up = may.up; rec = rec_seen start v z q.name rec has i h ∙ may.rec; lets = may.lets; acts = may.acts }

-- ---- work ends with a record

-- the work on a name goes, where it is no write request
frees_name : (v : View) (k : Name) → is_write (fin.get v.memory.flights k) ≡ false → (start : Store) (z : TwoMaps) → AreLeft v z → Spells start v.memory z → Spells start (after (with_flight k None) v.memory) z
frees_name v k idle start z i h = record {
  recs = h.recs;
  base = h.base;
  cached = h.cached;
  based = h.based;
  sound = leaving (tier_of start v.memory h.recs h.base) k None h.sound idle;
}

pub promoting_promises : PromotingPromises
promoting_promises v w k call op gather ask s moment o result none may named spelled step =
    commit_promises Cache (sets (record_key k) o) (after (with_flight k None) v.memory) (unless_disk (after (with_flight k None) v.memory) v.memory) (Doubt.Plain Cache k) result v w
    (plain_owes v k o (Some new) (after (with_flight k None) v.memory) result none named spelled refl (frees_name v k (ap is_write may.flight)) (free_memory v.memory k) refl
    (λ start z i h. record {
      new = set_at h.recs k (Some new);
      is = is_with h.recs k (Some new);
      sound = (promoting (tier_of start v.memory h.recs h.base) k call op gather ask s moment h.sound (record { flight = may.flight; whole = may.whole })).0;
    }))
    step as_it_is (same_acts v.memory)
  where
    new : TierRec
    new = record { state = s; dirty = false; mtime = moment }

pub promoting_acts_promises : PromotingActsPromises
promoting_acts_promises v w q call op gather ask b s answer moment o result none may fresh named spelled step =
    commit_promises Cache (sets (record_key k) o) (with_act q rest) (unless_disk rest v.memory) (Doubt.Act Cache q s.seq) result v w
    (act_owes v k o (Some new) rest result none named spelled refl (frees_name v k (ap is_write may.flight)) (free_memory v.memory k) refl q new answer refl refl
    (λ start z i h. subst (λ x. act x q ≡ Fresh s answer) (promoting (tier_of start v.memory h.recs h.base) k call op gather ask b moment h.sound (there start z h)).1 fresh)
    (λ start z i h. record {
      new = fin.insert (fin.insert h.recs k clean) k new;
      is = record { here = get_here (fin.insert h.recs k clean) k (Some new); there = λ n ne. get_there (fin.insert h.recs k clean) k (Some new) n ne ∙ get_there h.recs k (Some clean) n ne };
      sound = ((cache_doubt_keeps.1 (tier_of start v.memory h.recs h.base) k call op gather ask b moment h.sound (there start z h)).1 q s answer refl fresh).within;
    }))
    step (with_req q) (λ start. replay_more v.memory.acts start q)
  where
    k : Name
    k = q.name

    rest : Memory
    rest = after (with_flight q.name None) v.memory

    clean : TierRec
    clean = record { state = b; dirty = false; mtime = moment }

    new : TierRec
    new = record { state = s; dirty = true; mtime = moment }

    there : (start : Store) (z : TwoMaps) → (h : Spells start v.memory z) → MayPromote (tier_of start v.memory h.recs h.base) q.name call op gather ask b
    there start z h = record { flight = may.flight; whole = may.whole }

-- the guard of a flush's end, at each pair
clean_here : (v : View) (rec : Option TierRec) (k : Name) (call : Option ℕ) (op seq m : ℕ) (blocking drain : Bool) (r : TierRec) → HasRec v k rec
    → MayClean (seen v.memory k rec) k call op seq m blocking drain r → (start : Store) (z : TwoMaps) → AreLeft v z → (h : Spells start v.memory z)
    → MayClean (tier_of start v.memory h.recs h.base) k call op seq m blocking drain r
clean_here v rec k call op seq m blocking drain r has may start z i h =
    record { flight = may.flight; reply = may.reply; rec = rec_seen start v z k rec has i h ∙ may.rec; same = may.same }

pub cleaning_promises : CleaningPromises
cleaning_promises v w rec k call op seq m blocking drain r o result none has may named spelled step =
    commit_promises Cache (sets (record_key k) o) (after (with_flight k None) v.memory) (unless_disk (after (with_flight k None) v.memory) v.memory) (Doubt.Plain Cache k) result v w
    (plain_owes v k o (Some (record r { dirty = false })) (after (with_flight k None) v.memory) result none named spelled refl (frees_name v k (ap is_write may.flight)) (free_memory v.memory k) refl
    (λ start z i h. record {
      new = set_at h.recs k (Some (record r { dirty = false }));
      is = is_with h.recs k (Some (record r { dirty = false }));
      sound = (cleaning (tier_of start v.memory h.recs h.base) k call op seq m blocking drain r h.sound (clean_here v rec k call op seq m blocking drain r has may start z i h)).0;
    }))
    step as_it_is (same_acts v.memory)

pub draining_promises : DrainingPromises
draining_promises v w rec k call op seq m blocking drain r result none has may named step =
    commit_promises Cache (sets (record_key k) None) (after (with_flight k None) v.memory) (unless_disk (after (with_flight k None) v.memory) v.memory) (Doubt.Plain Cache k) result v w
    (plain_owes v k None None (after (with_flight k None) v.memory) result none named tt refl (frees_name v k (ap is_write may.flight)) (free_memory v.memory k) refl
    (λ start z i h. record {
      new = set_at h.recs k None;
      is = is_with h.recs k None;
      sound = (cleaning (tier_of start v.memory h.recs h.base) k call op seq m blocking drain r h.sound (clean_here v rec k call op seq m blocking drain r has may start z i h)).1;
    }))
    step as_it_is (same_acts v.memory)

pub evicting_promises : EvictingPromises
evicting_promises v w rec k result none has may named step =
    commit_promises Cache (sets (record_key k) None) v.memory (unless_disk v.memory v.memory) (Doubt.Plain Cache k) result v w
    (plain_owes v k None None v.memory result none named tt refl (λ start z i h. h) (λ h. h) refl
    (λ start z i h. record {
      new = set_at h.recs k None;
      is = is_with h.recs k None;
      sound = evicting (tier_of start v.memory h.recs h.base) k h.sound (record { clean = ap dirt (rec_seen start v z k rec has i h) ∙ may.clean; up = may.up; free = may.free });
    }))
    step as_it_is (same_acts v.memory)
  where
    dirt : Option TierRec → Bool
    dirt None = false
    dirt (Some r) = r.dirty

-- ---- the epoch is raised

-- while the cache is down nothing says that the base told the epoch
down_net : (net : Net) (fenced : Bool) → net.fenced ≡ fenced → net.phase ≡ Phase.Down → (net.fenced ≡ true → net.phase ≡ Phase.Up) → record net { phase = Phase.Down; fenced = false } ≡ net
down_net net true is down up = let u = up is in absurd (cc)
down_net net false is down up =
    subst (λ p. record net { phase = p; fenced = false } ≡ net) down (subst (λ f. record net { fenced = f } ≡ net) is refl)

pub raising_promises : RaisingPromises
raising_promises v w e bytes result none down later above spelled step =
    commit_promises Cache (sets epoch_key (Some bytes)) (after (raised_to e) v.memory) (unless_disk v.memory v.memory) (Doubt.Epoch Cache e) result v w
    (record {
      settled = none;
      makes = λ start z i h. record {
        recs = h.recs;
        base = h.base;
        cached = cache_at z.cache h.recs v.memory.net.cache_epoch e bytes spelled h.cached;
        based = h.based;
        sound = raising (tier_of start v.memory h.recs h.base) e h.sound (record { stopped = not_up; later = later; above = above });
      };
      stays = λ start z fault is i h. unless_spells start v.memory v.memory z fault h h;
      torn = λ start z i h. inr (record {
        recs = h.recs;
        base = h.base;
        cached = cache_at z.cache h.recs v.memory.net.cache_epoch e bytes spelled h.cached;
        based = h.based;
        sound = subst (λ n. IsSound (tier_of start (record v.memory { net = n }) h.recs h.base))
            (down_net (record v.memory.net { cache_epoch = e }) v.memory.net.fenced refl down h.sound.memory.wire.fenced)
            (finding (tier_of start v.memory h.recs h.base) e h.sound (record { stopped = not_up; later = later; above = above })).0;
      });
      acts = λ start z i h. tt;
      epochs = (later, above, down);
      history = inl refl;
      kept = λ fault is. unless_acts v.memory v.memory fault v.memory.acts refl refl;
      made = λ h. memory_raised v.memory.flights v.memory.net e h not_up later;
      failed = λ fault is h. unless_sound v.memory v.memory fault h h;
    })
    step as_it_is (same_acts v.memory)
  where
    not_up : v.memory.net.phase ≢ Phase.Up
    not_up = λ up. absurd (cc)
