-- Each step takes no epoch back, nor does a run.
use Rattle.std.proofs.Common.{◌≡◌, ◌≤◌, ◌<◌, ℕ, List, [], ◌∷◌, inl, inr, refl, sym, subst, arith}
use Rattle.std.proofs.lemmas.Bool.{lt-ltb}
use Rattle.std.specs.FinMap as fin
use Rattle.obj_model.specs.declared.change.Pool.TheVariants.{Cache, Base}
use Rattle.obj_model.specs.declared.state.NameState.{NameState}
use Rattle.store_face.specs.Tables.{Table}
use Rattle.store_face.specs.declared.fault.StoreFault.{StoreFault}
use Rattle.store_face.specs.declared.fault.StoreFault.TheVariants.{Disk, BadImage, NoSpace, Worn, NoMemory}
use Rattle.tier_types.specs.Serving.{epoch_in, replies, served}
use Rattle.tier_protocol.specs.Rising.{EpochsRise}
use Rattle.tier_protocol.specs.Tiers.{BaseMsg, BaseReply, IsIn, Net}
use Rattle.tier_protocol.proofs.Climbs.{rises_join}
use Rattle.pool_keys.specs.Keys.{epoch_key}
use Rattle.pool_keys.specs.Left.{IsLeftSinceBy}
use Rattle.pool_keys.proofs.Epochs.{epoch_one}
use Rattle.tier_join.specs.Group.{Memory, TwoMaps, View}
use Rattle.tier_join.specs.Promises.{AreLeftSince}
use Rattle.tier_join.specs.Rising.{AreAtLeast, AreRisingSteps, EachStepRises, EpochsNeverFall, IsAtLeast, MapsNeverFall, MemoryRises, OldAnswersStay, RisingStepsJoin}
use Rattle.tier_join.specs.Steps.{no_space, unless_disk}
use Rattle.tier_join.proofs.Commits.{surely}
use Rattle.tier_join.proofs.Lasting.{commits_rise, opens_rise, rests_rise}

-- ---- memory

same_epochs : (a b : Net) → b.cache_epoch ≡ a.cache_epoch → b.base_epoch ≡ a.base_epoch
    → EpochsRise a b
same_epochs a b cache base = record { cache = omega (arith, cache); base = omega (arith, base) }

stays : (a : Net) → EpochsRise a a
stays a = record { cache = omega arith; base = omega arith }

disk_or : (net : Net) (torn kept : Memory) → EpochsRise net torn.net → EpochsRise net kept.net
    → (fault : StoreFault) → EpochsRise net (unless_disk torn kept fault).net
disk_or net torn kept a b Disk = a
disk_or net torn kept a b (BadImage at) = b
disk_or net torn kept a b (NoSpace used need limit) = b
disk_or net torn kept a b (Worn limit) = b
disk_or net torn kept a b NoMemory = b

space_or : (m : Memory) (msg : BaseMsg) (fault : StoreFault)
    → EpochsRise m.net (no_space msg m fault).net
space_or m msg Disk = stays m.net
space_or m msg (BadImage at) = stays m.net
space_or m msg (NoSpace used need limit) = same_epochs m.net _ refl refl
space_or m msg (Worn limit) = stays m.net
space_or m msg NoMemory = stays m.net

-- memory of the same epochs, whatever came of the commit
module _ (v : View) where
  kept : (done torn : Memory) → done.net.cache_epoch ≡ v.memory.net.cache_epoch
      → done.net.base_epoch ≡ v.memory.net.base_epoch
      → torn.net.cache_epoch ≡ v.memory.net.cache_epoch
      → torn.net.base_epoch ≡ v.memory.net.base_epoch
      → MemoryRises v done (unless_disk torn v.memory)
  kept done torn c b d e = record {
    made = same_epochs v.memory.net done.net c b;
    failed = disk_or v.memory.net torn v.memory (same_epochs v.memory.net torn.net d e)
        (stays v.memory.net);
  }

  replied : (done : Memory) (msg : BaseMsg) → EpochsRise v.memory.net done.net
      → MemoryRises v done (no_space msg v.memory)
  replied done msg rise = record { made = rise; failed = space_or v.memory msg }

rests : (v w : View) (m : Memory) → w.memory ≡ m → EpochsRise v.memory.net m.net
    → EpochsRise v.memory.net w.memory.net
rests v w m is rise = subst (λ x. EpochsRise v.memory.net x.net) (sym is) rise

pub each_step_rises : EachStepRises
each_step_rises v w = record {
  acts = λ q s moment o d result.
      (commits_rise Cache _ _ d result v w (kept v _ _ refl refl refl refl)).0 q.name o;
  promotes = λ k s moment o d result.
      (commits_rise Cache _ _ d result v w (kept v _ _ refl refl refl refl)).0 k o;
  promotes_and_acts = λ q b s moment o d result.
      (commits_rise Cache _ _ d result v w (kept v _ _ refl refl refl refl)).0 q.name o;
  cleans = λ k r o d result.
      (commits_rise Cache _ _ d result v w (kept v _ _ refl refl refl refl)).0 k o;
  drains = λ k o d result.
      (commits_rise Cache _ _ d result v w (kept v _ _ refl refl refl refl)).0 k o;
  evicts = λ k o d result.
      (commits_rise Cache _ _ d result v w (kept v _ _ refl refl refl refl)).0 k o;
  raises = λ e bytes d result later spells.
      (commits_rise Cache _ _ d result v w (record {
        made = record { cache = omega (arith, later); base = omega arith };
        failed = disk_or v.memory.net v.memory v.memory (stays v.memory.net) (stays v.memory.net);
      })).1 e bytes (omega (arith, later)) spells;
  answers = λ msg out same rest is.
      rests_rise v w (rests v w _ is (same_epochs v.memory.net _ refl same)) rest;
  puts = λ msg k out o d result same.
      (commits_rise Base _ _ d result v w
      (replied v _ msg (same_epochs v.memory.net _ refl same))).0 k o;
  fences = λ e bytes d result later spells.
      (commits_rise Base _ _ d result v w (replied v _ (BaseMsg.Fence e)
      (record { cache = omega arith; base = omega (arith, later) }))).1
      e bytes (omega (arith, later)) spells;
  begins = λ k f rest is.
      rests_rise v w (rests v w _ is (same_epochs v.memory.net _ refl refl)) rest;
  sends = λ msg rest is.
      rests_rise v w (rests v w _ is (same_epochs v.memory.net _ refl refl)) rest;
  gathers = λ k call op gather ask x rest is.
      rests_rise v w (rests v w _ is (same_epochs v.memory.net _ refl refl)) rest;
  lands = λ k rest is.
      rests_rise v w (rests v w _ is (same_epochs v.memory.net _ refl refl)) rest;
  loses = λ flights wire told rest is.
      rests_rise v w (rests v w _ is (same_epochs v.memory.net _ refl refl)) rest;
  stops_cache = λ rest is.
      rests_rise v w (rests v w _ is (same_epochs v.memory.net _ refl refl)) rest;
  stops_base = λ rest is.
      rests_rise v w (rests v w _ is (same_epochs v.memory.net _ refl refl)) rest;
  goes_up = λ rest is.
      rests_rise v w (rests v w _ is (same_epochs v.memory.net _ refl refl)) rest;
  opens = λ pool r opens. opens_rise pool v w r opens;
}

-- ---- runs

weaker : (least low : ℕ) (t : Table) → low ≤ least → IsAtLeast least t → IsAtLeast low t
weaker least low t le h = (h.0, h.1, omega (arith, le, h.2))

weaker_both : (old new : Net) (z : TwoMaps) → EpochsRise old new → AreAtLeast new z
    → AreAtLeast old z
weaker_both old new z rise h = (
  weaker new.cache_epoch old.cache_epoch z.cache rise.cache h.0,
  weaker new.base_epoch old.base_epoch z.base rise.base h.1,
)

pub rising_steps_join : RisingStepsJoin
rising_steps_join = (
  λ v w u first rest rise. record {
    memory = rises_join v.memory.net w.memory.net u.memory.net first.memory rise;
    maps = λ start b z i. first.maps start b z (
      subst (λ m. IsLeftSinceBy v.cache.moments m z.cache) rest.cache i.0,
      subst (λ m. IsLeftSinceBy v.base.moments m z.base) rest.base i.1,
    );
  },
  λ other v w u told p rest rise second. record {
    memory = rises_join v.memory.net w.memory.net u.memory.net rise second.memory;
    maps = λ start b z i.
        weaker_both v.memory.net w.memory.net z rise
        (second.maps start (p.began start told b) z (
          subst (λ m. IsLeftSinceBy m u.cache.moments z.cache) (sym rest.cache) i.0,
          subst (λ m. IsLeftSinceBy m u.base.moments z.base) (sym rest.base) i.1,
        ));
  },
)

pub epochs_never_fall : EpochsNeverFall
epochs_never_fall start v [] from to told b steps of = absurd of
epochs_never_fall start v (w ∷ ws) from to told b steps (inl same) = (
  subst (λ x. EpochsRise v.memory.net x.memory.net) (sym same.1) steps.1.memory,
  λ z i. steps.1.maps start b z
      (subst (λ x. AreLeftSince x w z) same.0 (subst (λ x. AreLeftSince from x z) same.1 i)),
)
epochs_never_fall start v (w ∷ ws) from to told b steps (inr later) =
    let p = steps.0.1 in
    let rest = epochs_never_fall start w ws from to (p.tell told) (p.began start told b) steps.2
    later in (
      rises_join v.memory.net w.memory.net to.memory.net steps.1.memory rest.0,
      λ z i. weaker_both v.memory.net w.memory.net z steps.1.memory (rest.1 z i),
    )

pub maps_never_fall : MapsNeverFall
maps_never_fall start v ws from to told b none steps of y z was i =
    let h = surely start v none b y was in
    let least = (epochs_never_fall start v ws from to told b steps of).1 z i in (
      λ e at. subst (λ n. IsAtLeast n z.cache)
          (epoch_one (fin.get y.cache epoch_key) v.memory.net.cache_epoch e h.cached.is_epoch at)
          least.0,
      λ e at. subst (λ n. IsAtLeast n z.base)
          (epoch_one (fin.get y.base epoch_key) v.memory.net.base_epoch e h.based.is_epoch at)
          least.1,
    )

run_rises : (v : View) (ws : List View) (w : View) → AreRisingSteps v ws → IsIn w (v ∷ ws)
    → EpochsRise v.memory.net w.memory.net
run_rises v ws w steps (inl same) =
    subst (λ x. EpochsRise v.memory.net x.memory.net) (sym same) (stays v.memory.net)
run_rises v [] w steps (inr on) = absurd on
run_rises v (u ∷ us) w steps (inr on) =
    rises_join v.memory.net u.memory.net w.memory.net steps.1.memory
    (run_rises u us w steps.2 on)

old_refused : (have : ℕ) (s : NameState) (msg : BaseMsg) → epoch_in msg < have
    → served have s msg ≡ replies have (BaseReply.OldEpoch have (epoch_in msg))
old_refused have s (BaseMsg.Fence e) lt = rw (lt-ltb e have lt) refl
old_refused have s (BaseMsg.GetChunk e op k at) lt = rw (lt-ltb e have lt) refl
old_refused have s (BaseMsg.Look e op k v) lt = rw (lt-ltb e have lt) refl
old_refused have s (BaseMsg.Write e op r) lt = rw (lt-ltb e have lt) refl
old_refused have s (BaseMsg.Install e op k t) lt = rw (lt-ltb e have lt) refl

pub old_answers_stay : OldAnswersStay
old_answers_stay v ws w msg s steps on low =
    old_refused w.memory.net.base_epoch s msg
    (omega (arith, low, (run_rises v ws w steps on).base))
