-- A store is opened anew, and a doubt about it is settled.
use Rattle.std.proofs.Common.{◌≡◌, ◌⊎◌, ◌<◌, inl, inr, ℕ, ◌+◌, List, [], Option, Some, None, Ok, Err, refl, sym, ap, subst, ◌∙◌, arith}
use Rattle.std.specs.FinMap as fin
use Rattle.obj_model.specs.declared.change.Pool.{Pool}
use Rattle.obj_model.specs.declared.change.Pool.TheVariants.{Cache, Base}
use Rattle.obj_model.specs.declared.req.Req.{Req}
use Rattle.obj_model.specs.declared.state.NameState.{NameState}
use Rattle.obj_ops.specs.Stores.{Store, replay, state_of}
use Rattle.store_face.specs.Calls.{Among, Both}
use Rattle.store_face.specs.Tables.{Table}
use Rattle.store_face.specs.Views.{CrashMaps, StoreView, no_map}
use Rattle.store_face.specs.declared.fault.StoreFault.TheVariants.{Disk, BadImage, NoSpace, Worn, NoMemory}
use Rattle.tier_outside.specs.Moments.{Each, Now, grown}
use Rattle.tier_protocol.specs.Tiers.{Name, TierRec}
use Rattle.tier_protocol.specs.Sound.{Shows}
use Rattle.tier_protocol.specs.Moves.{counted_raised, epoch_found}
use Rattle.tier_protocol.proofs.Memory.{memory_fenced, memory_raised}
use Rattle.tier_protocol.proofs.Requests.{fresh_seq}
use Rattle.tier_protocol.proofs.Steps.{counting}
use Rattle.tier_join.specs.Group.{Doubt, Memory, TwoMaps, View, ActIsNext, AreLeft, BeganAt, EpochIsNext, HasRecordAt, HasStateAt, IsRemembered, IsSoundMemory, ShowsIn, Spells, SpellsAny, map_in, store_in, store_now, tier_of, with_act, with_epoch, with_store}
use Rattle.pool_keys.specs.Keys.{epoch_key, record_key, state_key}
use Rattle.pool_keys.specs.Left.{AreTold, IsLeftSinceBy}
use Rattle.pool_keys.specs.Values.{IsAtEpoch, IsRecOf, IsStateOf}
use Rattle.tier_join.specs.Promises.{AreLeftSince, OneMore, Promises}
use Rattle.tier_join.specs.Laws.{OpeningPromises, ReopeningsAreAmong}
use Rattle.tier_join.specs.Steps.{Has, Opens, Settles, after, pool_of, settled, with_doubt}
use Rattle.tier_join.proofs.Commits.{told_in}
use Rattle.pool_keys.proofs.Bases.{state_one}
use Rattle.pool_keys.proofs.Caches.{record_one}
use Rattle.pool_keys.proofs.Epochs.{epoch_one}
use Rattle.tier_join.proofs.Left.{among_since, now_since, rests_since, tells_on}
use Rattle.tier_join.proofs.Rests.{within_stands}

-- ---- the maps of a store that was opened

was_left : (pool : Pool) (v : View) (s : StoreView) → Among (store_in pool v) s → (z : TwoMaps) → AreLeft (with_store pool s v) z → AreLeft v z
was_left Cache v s among z i = (among_since v.cache s among z.cache (now_since v.cache s _ among z.cache i.0), i.1)
was_left Base v s among z i = (i.0, among_since v.base s among z.base (now_since v.base s _ among z.base i.1))

pub was_left_since : (pool : Pool) (v : View) (s : StoreView) → Among (store_in pool v) s → (z : TwoMaps) → AreLeftSince v (with_store pool s v) z → AreLeft v z
was_left_since Cache v s among z i = (among_since v.cache s among z.cache i.0, rests_since v.base v.base refl z.base i.1)
was_left_since Base v s among z i = (rests_since v.cache v.cache refl z.cache i.0, among_since v.base s among z.base i.1)

-- the opened store leaves its own map of the pair
own_left : (pool : Pool) (v : View) (s : StoreView) (P : Table → Type 0) → Has s P → (z : TwoMaps) → AreLeft (with_store pool s v) z → P (map_in pool z)
own_left Cache v s P has z i = has z.cache i.0
own_left Base v s P has z i = has z.base i.1

-- ---- which of the two worlds it is

-- a name whose record, or state in the base, is of a later `seq` than the plain store's is no pair
-- without the act
record_behind : (o : Option (List ℕ)) (rec : Option TierRec) (seq : ℕ) (plain : NameState) → HasRecordAt seq o → IsRecOf o rec → Shows rec plain → seq ≡ plain.seq
record_behind None rec seq plain has is shows = absurd has
record_behind (Some bytes) None seq plain has is shows = absurd is
record_behind (Some bytes) (Some r) seq plain has is shows =
    let same : Some has.0 ≡ Some r = record_one (Some bytes) (Some has.0) (Some r) has.1 is in
    let one : has.0 ≡ r = cc in
    sym has.2 ∙ ap (λ x. x.state.seq) one ∙ ap (λ s. s.seq) shows

state_behind : (o : Option (List ℕ)) (seq : ℕ) (base : NameState) → HasStateAt seq o → IsStateOf o base → seq ≡ base.seq
state_behind None seq base has is = absurd has
state_behind (Some bytes) seq base has is = sym has.2 ∙ ap (λ s. s.seq) (state_one (Some bytes) has.0 base has.1 is)

pub not_without : (pool : Pool) (start : Store) (m : Memory) (z : TwoMaps) (name : Name) (seq : ℕ) → ShowsIn pool name seq (map_in pool z) → seq ≡ (state_of (replay start m.acts) name).seq + 1 → Spells start m z → ⊥
not_without Cache start m z name seq shows next h =
    let same = record_behind (fin.get z.cache (record_key name)) (fin.get h.recs name) seq (state_of (replay start m.acts) name) shows (h.cached.each name) (h.sound.names name).shows in
    absurd (omega (arith, same, next))
not_without Base start m z name seq shows next h =
    let same = state_behind (fin.get z.base (state_key name)) seq (state_of h.base name) shows (h.based.each name) in
    absurd (omega (arith, same, next, (h.sound.names name).base.behind))

module _ (v : View) (s : StoreView) where
  -- within the maps that were left, the one world or the other
  module _ (pool : Pool) (among : Among (store_in pool v) s) (start : Store) (b : BeganAt start v) (d : Doubt) (is : v.doubt ≡ Some d) where
    within : (z : TwoMaps) → AreLeft (with_store pool s v) z → Spells start v.memory z ⊎ SpellsAny start v.memory (Some d) z
    within z i = subst (λ o. Spells start v.memory z ⊎ SpellsAny start v.memory o z) is (b.holds z (was_left pool v s among z i))

    surely_so : (m : Memory) → ((z : TwoMaps) → AreLeft (with_store pool s v) z → Spells start v.memory z ⊎ SpellsAny start v.memory (Some d) z → Spells start m z)
        → BeganAt start (record (with_store pool s v) { doubt = None; memory = m })
    surely_so m by = record { holds = λ z i. inl (by z i (within z i)); acts = tt; epochs = tt }

  module _ (start : Store) (b : BeganAt start v) where
    plain_settled : (pool : Pool) (name : Name) → Among (store_in pool v) s → v.doubt ≡ Some (Doubt.Plain pool name) → BeganAt start (record (with_store pool s v) { doubt = None; memory = v.memory })
    plain_settled pool name among is = surely_so pool among start b (Doubt.Plain pool name) is v.memory (λ z i h. elim h [ inl g ↦ g | inr g ↦ absurd g ])

    act_found : (pool : Pool) (q : Req) (seq : ℕ) → Among (store_in pool v) s → v.doubt ≡ Some (Doubt.Act pool q seq) → Has s (ShowsIn pool q.name seq)
        → BeganAt start (record (with_store pool s v) { doubt = None; memory = with_act q v.memory })
    act_found pool q seq among is has = surely_so pool among start b (Doubt.Act pool q seq) is (with_act q v.memory) (λ z i h. elim h [
      | inl g ↦ absurd (not_without pool start v.memory z q.name seq (own_left pool v s (ShowsIn pool q.name seq) has z i) next g)
      | inr g ↦ g.1
    ])
      where
        acts : ActIsNext (store_now start v) (Some (Doubt.Act pool q seq))
        acts = subst (ActIsNext (store_now start v)) is b.acts

        next : seq ≡ (state_of (store_now start v) q.name).seq + 1
        next = sym acts.3 ∙ fresh_seq (state_of (store_now start v) q.name) q acts.0 acts.1 acts.2

    act_missing : (pool : Pool) (q : Req) (seq : ℕ) → Among (store_in pool v) s → v.doubt ≡ Some (Doubt.Act pool q seq) → Has s (λ t. ShowsIn pool q.name seq t → ⊥)
        → BeganAt start (record (with_store pool s v) { doubt = None; memory = v.memory })
    act_missing pool q seq among is has = surely_so pool among start b (Doubt.Act pool q seq) is v.memory (λ z i h. elim h [
      | inl g ↦ g
      | inr g ↦ absurd (own_left pool v s (λ t. ShowsIn pool q.name seq t → ⊥) has z i g.0)
    ])

    -- an epoch that is found is not memory's
    cache_found : (e : ℕ) → Among v.cache s → v.doubt ≡ Some (Doubt.Epoch Cache e) → Has s (IsAtEpoch e)
        → BeganAt start (record v { cache = s; doubt = None; memory = after (λ t. counted_raised (epoch_found e t)) v.memory })
    cache_found e among is has = surely_so Cache among start b (Doubt.Epoch Cache e) is (after (λ t. counted_raised (epoch_found e t)) v.memory) (λ z i h. elim h [
      | inl g ↦ absurd (omega (arith, next.0, epoch_one (fin.get z.cache epoch_key) v.memory.net.cache_epoch e g.cached.is_epoch (has z.cache i.0)))
      | inr g ↦ record {
        recs = g.recs;
        base = g.base;
        cached = g.cached;
        based = g.based;
        sound = counting (tier_of start (with_epoch Cache e v.memory) g.recs g.base) g.sound (record { down = next.2; above = next.1 });
      }
    ])
      where
        next : EpochIsNext v.memory.net (Some (Doubt.Epoch Cache e))
        next = subst (EpochIsNext v.memory.net) is b.epochs

    base_found : (e : ℕ) → Among v.base s → v.doubt ≡ Some (Doubt.Epoch Base e) → Has s (IsAtEpoch e)
        → BeganAt start (record v { base = s; doubt = None; memory = with_epoch Base e v.memory })
    base_found e among is has = surely_so Base among start b (Doubt.Epoch Base e) is (with_epoch Base e v.memory) (λ z i h. elim h [
      | inl g ↦ absurd (omega (arith, next, epoch_one (fin.get z.base epoch_key) v.memory.net.base_epoch e g.based.is_epoch (has z.base i.1)))
      | inr g ↦ g
    ])
      where
        next : v.memory.net.base_epoch < e
        next = subst (EpochIsNext v.memory.net) is b.epochs

    cache_missing : (e : ℕ) → Among v.cache s → v.doubt ≡ Some (Doubt.Epoch Cache e) → Has s (λ t. IsAtEpoch e t → ⊥)
        → BeganAt start (record v { cache = s; doubt = None; memory = v.memory })
    cache_missing e among is has = surely_so Cache among start b (Doubt.Epoch Cache e) is v.memory (λ z i h. elim h [ inl g ↦ g | inr g ↦ absurd (has z.cache i.0 g.cached.is_epoch) ])

    base_missing : (e : ℕ) → Among v.base s → v.doubt ≡ Some (Doubt.Epoch Base e) → Has s (λ t. IsAtEpoch e t → ⊥)
        → BeganAt start (record v { base = s; doubt = None; memory = v.memory })
    base_missing e among is has = surely_so Base among start b (Doubt.Epoch Base e) is v.memory (λ z i h. elim h [ inl g ↦ g | inr g ↦ absurd (has z.base i.1 g.based.is_epoch) ])

-- ---- all kinds of doubt

module _ (v w : View) where
  settles_began : (start : Store) → BeganAt start v → (d : Doubt) → v.doubt ≡ Some d → Among (store_in (pool_of d) v) (store_in (pool_of d) w) → Settles d v w → BeganAt start w
  settles_began start b (Doubt.Plain pool name) is among h = subst (BeganAt start) (sym h.1) (plain_settled v (store_in pool w) start b pool name among is)
  settles_began start b (Doubt.Act pool q seq) is among (inl h) = subst (BeganAt start) (sym h.1) (act_found v (store_in pool w) start b pool q seq among is h.0)
  settles_began start b (Doubt.Act pool q seq) is among (inr h) = subst (BeganAt start) (sym h.1) (act_missing v (store_in pool w) start b pool q seq among is h.0)
  settles_began start b (Doubt.Epoch Cache e) is among (inl h) = subst (BeganAt start) (sym h.1) (cache_found v w.cache start b e among is h.0)
  settles_began start b (Doubt.Epoch Cache e) is among (inr h) = subst (BeganAt start) (sym h.1) (cache_missing v w.cache start b e among is h.0)
  settles_began start b (Doubt.Epoch Base e) is among (inl h) = subst (BeganAt start) (sym h.1) (base_found v w.base start b e among is h.0)
  settles_began start b (Doubt.Epoch Base e) is among (inr h) = subst (BeganAt start) (sym h.1) (base_missing v w.base start b e among is h.0)

  remembers : (m : Memory) (pool : Pool) → IsSoundMemory m → w ≡ settled pool v w m → IsRemembered w
  remembers m pool sound same = subst IsRemembered (sym same) (record { sound = sound; epochs = tt })

  settles_remembered : IsRemembered v → (d : Doubt) → v.doubt ≡ Some d → Settles d v w → IsRemembered w
  settles_remembered r (Doubt.Plain pool name) is h = remembers v.memory pool r.sound h.1
  settles_remembered r (Doubt.Act pool q seq) is (inl h) = remembers (with_act q v.memory) pool r.sound h.1
  settles_remembered r (Doubt.Act pool q seq) is (inr h) = remembers v.memory pool r.sound h.1
  settles_remembered r (Doubt.Epoch Cache e) is (inl h) =
      let next : EpochIsNext v.memory.net (Some (Doubt.Epoch Cache e)) = subst (EpochIsNext v.memory.net) is r.epochs in
      remembers (after (λ t. counted_raised (epoch_found e t)) v.memory) Cache
      (memory_raised v.memory.flights v.memory.net e r.sound (λ up. let down = next.2 in absurd (cc)) next.0) h.1
  settles_remembered r (Doubt.Epoch Cache e) is (inr h) = remembers v.memory Cache r.sound h.1
  settles_remembered r (Doubt.Epoch Base e) is (inl h) = remembers (with_epoch Base e v.memory) Base (memory_fenced v.memory.flights v.memory.net e r.sound) h.1
  settles_remembered r (Doubt.Epoch Base e) is (inr h) = remembers v.memory Base r.sound h.1

  settles_history : (d : Doubt) → Settles d v w → OneMore v.memory.acts w.memory.acts
  settles_history (Doubt.Plain pool name) h = inl (ap (λ u. u.memory.acts) h.1)
  settles_history (Doubt.Act pool q seq) (inl h) = inr (q, ap (λ u. u.memory.acts) h.1)
  settles_history (Doubt.Act pool q seq) (inr h) = inl (ap (λ u. u.memory.acts) h.1)
  settles_history (Doubt.Epoch Cache e) (inl h) = inl (ap (λ u. u.memory.acts) h.1)
  settles_history (Doubt.Epoch Cache e) (inr h) = inl (ap (λ u. u.memory.acts) h.1)
  settles_history (Doubt.Epoch Base e) (inl h) = inl (ap (λ u. u.memory.acts) h.1)
  settles_history (Doubt.Epoch Base e) (inr h) = inl (ap (λ u. u.memory.acts) h.1)

  opened_history : (pool : Pool) → w ≡ with_store pool (store_in pool w) v → OneMore v.memory.acts w.memory.acts
  opened_history Cache same = inl (ap (λ u. u.memory.acts) same)
  opened_history Base same = inl (ap (λ u. u.memory.acts) same)

  -- where a view's stores are those
  stores_by : (pool : Pool) → w ≡ with_store pool (store_in pool w) v → (w.cache ≡ (with_store pool (store_in pool w) v).cache) × (w.base ≡ (with_store pool (store_in pool w) v).base)
  stores_by pool same = (ap (λ u. u.cache) same, ap (λ u. u.base) same)

  settles_stores : (d : Doubt) → Settles d v w → (w.cache ≡ (with_store (pool_of d) (store_in (pool_of d) w) v).cache) × (w.base ≡ (with_store (pool_of d) (store_in (pool_of d) w) v).base)
  settles_stores (Doubt.Plain pool name) h = (ap (λ u. u.cache) h.1, ap (λ u. u.base) h.1)
  settles_stores (Doubt.Act pool q seq) (inl h) = (ap (λ u. u.cache) h.1, ap (λ u. u.base) h.1)
  settles_stores (Doubt.Act pool q seq) (inr h) = (ap (λ u. u.cache) h.1, ap (λ u. u.base) h.1)
  settles_stores (Doubt.Epoch Cache e) (inl h) = (ap (λ u. u.cache) h.1, ap (λ u. u.base) h.1)
  settles_stores (Doubt.Epoch Cache e) (inr h) = (ap (λ u. u.cache) h.1, ap (λ u. u.base) h.1)
  settles_stores (Doubt.Epoch Base e) (inl h) = (ap (λ u. u.cache) h.1, ap (λ u. u.base) h.1)
  settles_stores (Doubt.Epoch Base e) (inr h) = (ap (λ u. u.cache) h.1, ap (λ u. u.base) h.1)

  module _ (pool : Pool) (opens : Opens pool v w) where
    pub stores : (w.cache ≡ (with_store pool (store_in pool w) v).cache) × (w.base ≡ (with_store pool (store_in pool w) v).base)
    stores = elim opens.settles [
      | inl same ↦ stores_by pool same
      | inr d ↦ subst (λ p. (w.cache ≡ (with_store p (store_in p w) v).cache) × (w.base ≡ (with_store p (store_in p w) v).base)) d.2 (settles_stores d.0 d.3)
    ]

    began : (start : Store) → BeganAt start v → BeganAt start w
    began start b = elim opens.settles [
      | inl same ↦ subst (BeganAt start) (sym same) (kept pool b opens.among)
      | inr d ↦ settles_began start b d.0 d.1 (subst (λ p. Among (store_in p v) (store_in p w)) (sym d.2) opens.among) d.3
    ]
      where
        kept : (p : Pool) → BeganAt start v → Among (store_in p v) (store_in p w) → BeganAt start (with_store p (store_in p w) v)
        kept Cache b among = record { holds = λ z i. b.holds z (was_left Cache v w.cache among z i); acts = b.acts; epochs = b.epochs }
        kept Base b among = record { holds = λ z i. b.holds z (was_left Base v w.base among z i); acts = b.acts; epochs = b.epochs }

    remembered : IsRemembered v → IsRemembered w
    remembered r = elim opens.settles [
      | inl same ↦ subst IsRemembered (sym same) (kept pool r)
      | inr d ↦ settles_remembered r d.0 d.1 d.3
    ]
      where
        kept : (p : Pool) → IsRemembered v → IsRemembered (with_store p (store_in p w) v)
        kept Cache r = record { sound = r.sound; epochs = r.epochs }
        kept Base r = record { sound = r.sound; epochs = r.epochs }

    opening : Promises (with_doubt v.doubt) v w
    opening =
        let on = told_in pool v (store_in pool w) (tells_on (store_in pool v) (store_in pool w) _ opens.among) in
        record {
          history = elim opens.settles [ inl same ↦ opened_history pool same | inr d ↦ settles_history d.0 d.3 ];
          memory = remembered;
          tell = λ told. let t = on.0 told in (subst (λ s. AreTold s.moments) (sym stores.0) t.0, subst (λ s. AreTold s.moments) (sym stores.1) t.1);
          told = λ told. on.1 (subst (λ s. AreTold s.moments) stores.0 told.0, subst (λ s. AreTold s.moments) stores.1 told.1);
          began = λ start told b. began start b;
          stops = λ start told b z i.
              within_stands start v z (b.holds z (was_left_since pool v (store_in pool w) opens.among z (
                subst (λ s. IsLeftSinceBy v.cache.moments s.moments z.cache) stores.0 i.0,
                subst (λ s. IsLeftSinceBy v.base.moments s.moments z.base) stores.1 i.1,
              )));
        }

pub opening_promises : OpeningPromises
opening_promises pool v w opens = opening v w pool opens

nothing_came : (m n : Option (List CrashMaps)) → m ≡ None → n ≡ None → n ≡ grown m []
nothing_came None n e f = f
nothing_came (Some ss) n e f = absurd (cc)

of_none : (m : Option (List CrashMaps)) → m ≡ None → Now no_map m (λ was. Each [] (Both (λ d. (d ≡ was.before) ⊎ (d ≡ was.after))))
of_none None e = tt
of_none (Some ss) e = tt

-- whatever a reopening answers
pub reopenings_are_among : ReopeningsAreAmong
reopenings_are_among old new (Ok done) h = h.among
reopenings_are_among old new (Err Disk) h = h.0
reopenings_are_among old new (Err (BadImage at)) h = record { more = []; grew = nothing_came old.moments new.moments h.0 h.1; each = of_none old.moments h.0 }
reopenings_are_among old new (Err (NoSpace used need limit)) h = absurd h
reopenings_are_among old new (Err (Worn limit)) h = absurd h
reopenings_are_among old new (Err NoMemory) h = h.0
