-- No commit, no change of memory and no opening takes an epoch back.
use Rattle.std.proofs.Common.{◌≡◌, ◌≢◌, ◌≤◌, ◌<◌, ◌⊎◌, inl, inr, ℕ, List, Option, Some, None, Ok, Err, refl, sym, ap, subst, ◌∙◌, arith}
use Rattle.obj_model.specs.declared.change.Change.{Change}
use Rattle.obj_model.specs.declared.change.Pool.{Pool}
use Rattle.obj_model.specs.declared.change.Pool.TheVariants.{Cache, Base}
use Rattle.obj_ops.specs.Stores.{Store}
use Rattle.store_face.specs.Tables.{Table, changed_by}
use Rattle.store_face.specs.Views.{StoreView}
use Rattle.store_face.specs.declared.fault.StoreFault.{StoreFault}
use Rattle.tier_protocol.specs.Rising.{EpochsRise}
use Rattle.tier_protocol.specs.Tiers.{Name, Net}
use Rattle.tier_protocol.proofs.Cells.{get_here, get_there}
use Rattle.pool_keys.specs.Keys.{epoch_key, record_key, state_key}
use Rattle.pool_keys.specs.Left.{IsLeftSinceBy}
use Rattle.pool_keys.specs.Values.{IsAtEpoch, IsEpochOf, SpellsEpoch}
use Rattle.tier_join.specs.Group.{Doubt, Memory, TwoMaps, View, AreLeft, EpochIsNext, IsRemembered, Spells, SpellsAny, changed_in, store_in, with_store}
use Rattle.tier_join.specs.Promises.{AreLeftSince}
use Rattle.tier_join.specs.Rising.{AreAtLeast, CommitsRise, IsAtLeast, LeftAreAtLeast, MemoryRises, NoEpochFalls, RestsRise, epoch_of, key_in}
use Rattle.tier_join.specs.Steps.{Commits, Opens, Outcome, Settles, memory_after, sets}
use Rattle.tier_join.proofs.Commits.{Came, ComesFrom, came, same_since_in, since_in}
use Rattle.tier_join.proofs.Keys.{record_off, set_is, state_off}
use Rattle.tier_join.proofs.Left.{made_since, torn_since}
use Rattle.tier_join.proofs.Reopening.{stores, was_left_since}
use Rattle.tier_join.proofs.Rests.{rest_since}

-- ---- what is left now

spelled : (start : Store) (m : Memory) (z : TwoMaps) → Spells start m z → AreAtLeast m.net z
spelled start m z h = (
  (m.net.cache_epoch, h.cached.is_epoch, omega arith),
  (m.net.base_epoch, h.based.is_epoch, omega arith),
)

in_doubt : (start : Store) (m : Memory) (o : Option Doubt) (z : TwoMaps) → EpochIsNext m.net o
    → SpellsAny start m o z → AreAtLeast m.net z
in_doubt start m None z next h = absurd h
in_doubt start m (Some (Doubt.Plain pool name)) z next h = absurd h
in_doubt start m (Some (Doubt.Act pool q seq)) z next h = (
  (m.net.cache_epoch, h.1.cached.is_epoch, omega arith),
  (m.net.base_epoch, h.1.based.is_epoch, omega arith),
)
in_doubt start m (Some (Doubt.Epoch Cache e)) z next h = (
  (e, h.cached.is_epoch, omega (arith, next.0)),
  (m.net.base_epoch, h.based.is_epoch, omega arith),
)
in_doubt start m (Some (Doubt.Epoch Base e)) z next h = (
  (m.net.cache_epoch, h.cached.is_epoch, omega arith),
  (e, h.based.is_epoch, omega (arith, next)),
)

pub left_are_at_least : LeftAreAtLeast
left_are_at_least start v z b i = elim (b.holds z i) [
  | inl h ↦ spelled start v.memory z h
  | inr h ↦ in_doubt start v.memory v.doubt z b.epochs h
]

-- ---- a step without a commit

pub rests_rise : RestsRise
rests_rise v w rise rests = record {
  memory = rise;
  maps = λ start b z i. left_are_at_least start v z b (rest_since v w rests z i);
}

-- ---- a commit

memory_rises : (v : View) (done : Memory) (left : StoreFault → Memory) (result : Outcome)
    → MemoryRises v done left → EpochsRise v.memory.net (memory_after result done left).net
memory_rises v done left (Ok made) rise = rise.made
memory_rises v done left (Err fault) rise = rise.failed fault

-- what a commit leaves meanwhile it left before, or it has the changes
lies : (pool : Pool) (cs : List Change) (d : Doubt) (result : Outcome) (v : View) (s : StoreView)
    → Came cs d (store_in pool v) s result → (z : TwoMaps) → AreLeftSince v (with_store pool s v) z
    → AreLeft v z ⊎ ComesFrom pool cs v z
lies pool cs d result v s (inl h) z i =
    since_in pool cs v s (made_since cs (store_in pool v) s h.1) z i
lies pool cs d result v s (inr (inl h)) z i =
    since_in pool cs v s (torn_since cs (store_in pool v) s h.1) z i
lies pool cs d result v s (inr (inr h)) z i = inl (same_since_in pool v s h.3 z i)

-- a step of which the changes leave each pool's epoch, or take it to a later one
commit_rises : (pool : Pool) (cs : List Change) (done : Memory) (left : StoreFault → Memory)
    (d : Doubt) (result : Outcome) (v w : View)
    → MemoryRises v done left → Commits pool cs done left d result v w
    → ((y : TwoMaps) → AreAtLeast v.memory.net y → AreAtLeast v.memory.net (changed_in pool cs y))
    → NoEpochFalls v w
commit_rises pool cs done left d result v w rise step keeps = record {
  memory = subst (λ m. EpochsRise v.memory.net m.net) (sym (ap (λ u. u.memory) step.same))
      (memory_rises v done left result rise);
  maps = λ start b z i. elim (lies pool cs d result v s
      (came cs d (store_in pool v) s result step.committed) z
      (subst (λ u. AreLeftSince v u z) step.same i)) [
        | inl was ↦ left_are_at_least start v z b was
        | inr from ↦ subst (AreAtLeast v.memory.net) (sym from.2)
            (keeps from.0 (left_are_at_least start v from.0 b from.1))
      ];
}
  where
    s : StoreView
    s = store_in pool w

off : (key : List ℕ) (o : Option (List ℕ)) (least : ℕ) (t : Table) → epoch_key ≢ key
    → IsAtLeast least t → IsAtLeast least (changed_by t (sets key o))
off key o least t ne h = (
  h.0,
  subst (λ x. IsAtEpoch h.0 x) (sym (set_is t key o))
      (subst (λ x. IsEpochOf x h.0) (sym (get_there t key o epoch_key ne)) h.1),
  h.2,
)

named : (pool : Pool) (k : Name) (o : Option (List ℕ)) (net : Net) (y : TwoMaps)
    → AreAtLeast net y → AreAtLeast net (changed_in pool (sets (key_in pool k) o) y)
named Cache k o net y h = (off (record_key k) o net.cache_epoch y.cache (record_off k) h.0, h.1)
named Base k o net y h = (h.0, off (state_key k) o net.base_epoch y.base (state_off k) h.1)

at_epoch : (bytes : List ℕ) (e least : ℕ) (t : Table) → least ≤ e → SpellsEpoch bytes e
    → IsAtLeast least (changed_by t (sets epoch_key (Some bytes)))
at_epoch bytes e least t low spells = (
  e,
  subst (λ x. IsAtEpoch e x) (sym (set_is t epoch_key (Some bytes)))
      (subst (λ x. IsEpochOf x e) (sym (get_here t epoch_key (Some bytes))) spells),
  low,
)

raised_in : (pool : Pool) (bytes : List ℕ) (e : ℕ) (v : View) (y : TwoMaps) → epoch_of pool v ≤ e
    → SpellsEpoch bytes e → AreAtLeast v.memory.net y
    → AreAtLeast v.memory.net (changed_in pool (sets epoch_key (Some bytes)) y)
raised_in Cache bytes e v y low spells h =
    (at_epoch bytes e v.memory.net.cache_epoch y.cache low spells, h.1)
raised_in Base bytes e v y low spells h =
    (h.0, at_epoch bytes e v.memory.net.base_epoch y.base low spells)

pub commits_rise : CommitsRise
commits_rise pool done left d result v w rise = (
  λ k o step. commit_rises pool (sets (key_in pool k) o) done left d result v w rise step
      (named pool k o v.memory.net),
  λ e bytes low spells step.
      commit_rises pool (sets epoch_key (Some bytes)) done left d result v w rise step
      (λ y h. raised_in pool bytes e v y low spells h),
)

-- ---- an opening

as_before : (v w : View) → w.memory.net.cache_epoch ≡ v.memory.net.cache_epoch
    → w.memory.net.base_epoch ≡ v.memory.net.base_epoch → EpochsRise v.memory.net w.memory.net
as_before v w cache base = record { cache = omega (arith, cache); base = omega (arith, base) }

same_memory : (v w : View) (m : Memory) → w.memory ≡ m
    → m.net.cache_epoch ≡ v.memory.net.cache_epoch → m.net.base_epoch ≡ v.memory.net.base_epoch
    → EpochsRise v.memory.net w.memory.net
same_memory v w m is cache base =
    as_before v w (ap (λ x. x.net.cache_epoch) is ∙ cache) (ap (λ x. x.net.base_epoch) is ∙ base)

settles_rises : (v w : View) → IsRemembered v → (d : Doubt) → v.doubt ≡ Some d → Settles d v w
    → EpochsRise v.memory.net w.memory.net
settles_rises v w r (Doubt.Plain pool name) is h =
    same_memory v w v.memory (ap (λ u. u.memory) h.1) refl refl
settles_rises v w r (Doubt.Act pool q seq) is (inl h) =
    as_before v w (ap (λ u. u.memory.net.cache_epoch) h.1) (ap (λ u. u.memory.net.base_epoch) h.1)
settles_rises v w r (Doubt.Act pool q seq) is (inr h) =
    same_memory v w v.memory (ap (λ u. u.memory) h.1) refl refl
settles_rises v w r (Doubt.Epoch Cache e) is (inl h) =
    let next : EpochIsNext v.memory.net (Some (Doubt.Epoch Cache e)) =
    subst (EpochIsNext v.memory.net) is r.epochs in
    let cache : w.memory.net.cache_epoch ≡ e = ap (λ u. u.memory.net.cache_epoch) h.1 in
    let base : w.memory.net.base_epoch ≡ v.memory.net.base_epoch =
    ap (λ u. u.memory.net.base_epoch) h.1 in
    record { cache = omega (arith, cache, next.0); base = omega (arith, base) }
settles_rises v w r (Doubt.Epoch Cache e) is (inr h) =
    same_memory v w v.memory (ap (λ u. u.memory) h.1) refl refl
settles_rises v w r (Doubt.Epoch Base e) is (inl h) =
    let next : v.memory.net.base_epoch < e = subst (EpochIsNext v.memory.net) is r.epochs in
    let cache : w.memory.net.cache_epoch ≡ v.memory.net.cache_epoch =
    ap (λ u. u.memory.net.cache_epoch) h.1 in
    let base : w.memory.net.base_epoch ≡ e = ap (λ u. u.memory.net.base_epoch) h.1 in
    record { cache = omega (arith, cache); base = omega (arith, base, next) }
settles_rises v w r (Doubt.Epoch Base e) is (inr h) =
    same_memory v w v.memory (ap (λ u. u.memory) h.1) refl refl

with_store_memory : (pool : Pool) (s : StoreView) (v : View) → (with_store pool s v).memory
    ≡ v.memory
with_store_memory Cache s v = refl
with_store_memory Base s v = refl

pub opens_rise : (pool : Pool) (v w : View) → IsRemembered v → Opens pool v w → NoEpochFalls v w
opens_rise pool v w r opens = record {
  memory = elim opens.settles [
    | inl same ↦ same_memory v w v.memory
        (ap (λ u. u.memory) same ∙ with_store_memory pool (store_in pool w) v) refl refl
    | inr d ↦ settles_rises v w r d.0 d.1 d.3
  ];
  maps = λ start b z i.
      let is = stores v w pool opens in
      left_are_at_least start v z b (was_left_since pool v (store_in pool w) opens.among z (
        subst (λ s. IsLeftSinceBy v.cache.moments s.moments z.cache) is.0 i.0,
        subst (λ s. IsLeftSinceBy v.base.moments s.moments z.base) is.1 i.1,
      ));
}
