-- What one change of one key does to what a map spells.
use Rattle.std.proofs.Common.{◌≡◌, ◌≢◌, inl, inr, ℕ, List, ◌∷◌, Option, Some, None, unwrap_or, refl, sym, ap, subst, ◌∙◌, arith}
use Rattle.std.specs.FinMap as fin
use Rattle.obj_model.specs.Names.{name_fault}
use Rattle.obj_model.specs.States.{unknown}
use Rattle.obj_model.specs.declared.state.NameState.{NameState}
use Rattle.obj_ops.specs.Stores.{Store, state_of}
use Rattle.rec_codec.specs.Spelling.{SpellsState}
use Rattle.store_face.specs.Tables.{Table, changed_by}
use Rattle.tier_protocol.specs.Tiers.{Name, TierRec, Recs}
use Rattle.tier_protocol.specs.Moves.{set_at}
use Rattle.tier_protocol.proofs.Cells.{get_here, get_there, names_by, same_or_not}
use Rattle.pool_keys.specs.Keys.{HasPoolKeys, IsPoolKey, epoch_key, record_key, state_key}
use Rattle.pool_keys.specs.Maps.{SpellsBase, SpellsCache}
use Rattle.pool_keys.specs.Values.{IsEpochOf, IsRecOf, IsStateOf, SpellsEpoch}
use Rattle.tier_join.specs.Steps.{sets}

-- ---- keys are apart

key_apart : (k : ℕ) (q name : Name) → q ≢ name → k ∷ q ≢ k ∷ name
key_apart k q name ne e = let f : q ≡ name = cc in ne f

pub record_off : (name : Name) → epoch_key ≢ record_key name
record_off name e = let f : ◌≡◌ {A = ℕ} 0x45 0x52 = cc in absurd (omega (arith, f))

pub state_off : (name : Name) → epoch_key ≢ state_key name
state_off name e = let f : ◌≡◌ {A = ℕ} 0x45 0x4e = cc in absurd (omega (arith, f))

pub set_is : (t : Table) (key : List ℕ) (o : Option (List ℕ)) → changed_by t (sets key o) ≡ set_at t key o
set_is t key None = refl
set_is t key (Some bytes) = refl

-- keys of a map that has one key more, which is a pool's
more_keys : (key_of : List ℕ → List ℕ) (t : Table) (key : List ℕ) (o : Option (List ℕ)) → IsPoolKey key_of key → HasPoolKeys key_of t → HasPoolKeys key_of (set_at t key o)
more_keys key_of t key o is h k value there = elim (same_or_not k key) [
  | inl same ↦ subst (IsPoolKey key_of) (sym same) is
  | inr ne ↦ h k value (sym (get_there t key o k ne) ∙ there)
]

-- ---- a record

-- records with another one, or none, of a name
pub record IsWith (recs new : Recs) (k : Name) (v : Option TierRec) : Type 0 where
  pub here : fin.get new k ≡ v
  pub there : (n : Name) → n ≢ k → fin.get new n ≡ fin.get recs n

pub cache_with : (x : Table) (recs new : Recs) (e : ℕ) (k : Name) (o : Option (List ℕ)) (v : Option TierRec) → IsWith recs new k v → IsRecOf o v → name_fault k ≡ None
    → SpellsCache x recs e → SpellsCache (set_at x (record_key k) o) new e
cache_with x recs new e k o v is spelled named h = record {
  each = names_by (λ n. IsRecOf (fin.get (set_at x (record_key k) o) (record_key n)) (fin.get new n)) k
      (subst (λ b. IsRecOf b (fin.get new k)) (sym (get_here x (record_key k) o)) (subst (IsRecOf o) (sym is.here) spelled))
      (λ n ne. subst (λ b. IsRecOf b (fin.get new n)) (sym (get_there x (record_key k) o (record_key n) (key_apart 0x52 n k ne)))
      (subst (IsRecOf (fin.get x (record_key n))) (sym (is.there n ne)) (h.each n)));
  is_epoch = subst (λ b. IsEpochOf b e) (sym (get_there x (record_key k) o epoch_key (record_off k))) h.is_epoch;
  keys = more_keys record_key x (record_key k) o (inr (k, record { spelled = refl; lawful = named })) h.keys;
}

-- ---- a state of the base

pub base_with : (y : Table) (base : Store) (e : ℕ) (k : Name) (bytes : List ℕ) (s : NameState) → SpellsState bytes s → name_fault k ≡ None
    → SpellsBase y base e → SpellsBase (set_at y (state_key k) (Some bytes)) (fin.insert base k s) e
base_with y base e k bytes s spelled named h = record {
  each = names_by (λ n. IsStateOf (fin.get (set_at y (state_key k) (Some bytes)) (state_key n)) (state_of (fin.insert base k s) n)) k
      (subst (λ b. IsStateOf b (state_of (fin.insert base k s) k)) (sym (get_here y (state_key k) (Some bytes)))
      (subst (SpellsState bytes) (sym (ap (λ o. unwrap_or o unknown) (get_here base k (Some s)))) spelled))
      (λ n ne. subst (λ b. IsStateOf b (state_of (fin.insert base k s) n)) (sym (get_there y (state_key k) (Some bytes) (state_key n) (key_apart 0x4e n k ne)))
      (subst (IsStateOf (fin.get y (state_key n))) (sym (ap (λ o. unwrap_or o unknown) (get_there base k (Some s) n ne))) (h.each n)));
  is_epoch = subst (λ b. IsEpochOf b e) (sym (get_there y (state_key k) (Some bytes) epoch_key (state_off k))) h.is_epoch;
  keys = more_keys state_key y (state_key k) (Some bytes) (inr (k, record { spelled = refl; lawful = named })) h.keys;
}

-- ---- an epoch

pub cache_at : (x : Table) (recs : Recs) (e n : ℕ) (bytes : List ℕ) → SpellsEpoch bytes n → SpellsCache x recs e → SpellsCache (set_at x epoch_key (Some bytes)) recs n
cache_at x recs e n bytes spelled h = record {
  each = λ k. subst (λ b. IsRecOf b (fin.get recs k)) (sym (get_there x epoch_key (Some bytes) (record_key k) (λ same. record_off k (sym same)))) (h.each k);
  is_epoch = subst (λ b. IsEpochOf b n) (sym (get_here x epoch_key (Some bytes))) spelled;
  keys = more_keys record_key x epoch_key (Some bytes) (inl refl) h.keys;
}

pub base_at : (y : Table) (base : Store) (e n : ℕ) (bytes : List ℕ) → SpellsEpoch bytes n → SpellsBase y base e → SpellsBase (set_at y epoch_key (Some bytes)) base n
base_at y base e n bytes spelled h = record {
  each = λ k. subst (λ b. IsStateOf b (state_of base k)) (sym (get_there y epoch_key (Some bytes) (state_key k) (λ same. state_off k (sym same)))) (h.each k);
  is_epoch = subst (λ b. IsEpochOf b n) (sym (get_here y epoch_key (Some bytes))) spelled;
  keys = more_keys state_key y epoch_key (Some bytes) (inl refl) h.keys;
}
