-- What was read under a key.
use Rattle.std.proofs.Common.{◌≡◌, ℕ, Bool, List, Option, None, Some, Ok, Err, refl, sym, ap, subst, ◌∙◌}
use Rattle.std.specs.FinMap as fin
use Rattle.tier_outside.proofs.Moments.{now_weaker}
use Rattle.copy_chunk.proofs.Lawful.{first_lawful}
use Rattle.obj_model.specs.States.{unknown}
use Rattle.obj_model.specs.declared.state.NameState.{NameState}
use Rattle.rec_codec.specs.Spelling.{SpellsState}
use Rattle.pool_keys.specs.Keys.{state_key}
use Rattle.pool_keys.specs.Values.{IsStateOf}
use Rattle.store_face.specs.Calls.{Got}
use Rattle.store_face.specs.Tables.{Table}
use Rattle.store_face.specs.Views.{Holds, StoreView, no_map}
use Rattle.store_face.specs.declared.fault.StoreFault.{StoreFault}
use Rattle.store_face.specs.declared.fault.StoreFault.TheVariants as store
use Rattle.base_pool.specs.Opens.{IsSeqOf, ReadsSeq}
use Rattle.base_pool.specs.Serves.{IsUnreadable}
use Rattle.base_pool.specs.Steps.{Finds, FindsValue, IsValueOf, base_of}
use Rattle.base_pool.specs.declared.fault.BaseFault.{BaseFault}
use Rattle.base_pool.specs.declared.fault.BaseFault.TheVariants.{Store, BadRecord}
use Rattle.store_face.proofs.Later.{stays_same}
use Rattle.pool_keys.proofs.Found.{at_key}

-- ---- a state

pub find_none : (key name : List ℕ) (a b : StoreView) → key ≡ state_key name → Got key a b (Ok None) → FindsValue name a b (Ok None)
find_none key name a b same h = (tt, at_key a key (state_key name) (λ o. IsValueOf o None) None same h.1 tt, h.0)

pub find_some : (key name bytes value : List ℕ) (s : NameState) (a b : StoreView) → key ≡ state_key name → bytes ≡ value → Got key a b (Ok (Some value)) → SpellsState bytes s
    → FindsValue name a b (Ok (Some s))
find_some key name bytes value s a b same e h spells =
    (spells.lawful, at_key a key (state_key name) (λ o. IsValueOf o (Some s)) (Some value) same h.1 (subst (λ x. SpellsState x s) e spells), h.0)

wrong_at : (t : Table) (key name bytes value : List ℕ) → key ≡ state_key name → bytes ≡ value → Some value ≡ fin.get t key
    → ((s : NameState) → SpellsState bytes s → ⊥) → IsUnreadable name t
wrong_at t key name bytes value same e h none =
    record { bytes = bytes; there = ap (fin.get t) (sym same) ∙ sym h ∙ ap Some (sym e); none = none }

pub find_wrong : (key name bytes value : List ℕ) (a b : StoreView) → key ≡ state_key name → bytes ≡ value → Got key a b (Ok (Some value))
    → ((s : NameState) → SpellsState bytes s → ⊥) → FindsValue name a b (Err (BadRecord name))
find_wrong key name bytes value a b same e h none = (
  refl,
  now_weaker no_map a.moments (λ s. Some value ≡ fin.get s.before.table key) (λ s. IsUnreadable name s.before.table)
      (λ s is. wrong_at s.before.table key name bytes value same e is none) h.1,
  h.0,
)

pub find_memory : (key name : List ℕ) (value : Option (List ℕ)) (fault : StoreFault) (a b : StoreView) → fault ≡ store.NoMemory → Got key a b (Ok value)
    → FindsValue name a b (Err (Store fault))
find_memory key name value fault a b e h = subst (λ f. FindsValue name a b (Err (Store f))) (sym e) h.0

-- ---- the state that a value spells

-- a value that was read is the map's
of_value : (v : StoreView) (name : List ℕ) (s : Option NameState) (P : Option (List ℕ) → Type 0) → ((o : Option (List ℕ)) → IsValueOf o s → P o)
    → Holds v (λ t. IsValueOf (fin.get t (state_key name)) s) → Holds v (λ t. P (fin.get t (state_key name)))
of_value v name s P each h =
    now_weaker no_map v.moments (λ c. IsValueOf (fin.get c.before.table (state_key name)) s) (λ c. P (fin.get c.before.table (state_key name)))
    (λ c. each (fin.get c.before.table (state_key name))) h

state_some : (s : NameState) (o : Option (List ℕ)) → IsValueOf o (Some s) → IsStateOf o s
state_some s None h = absurd h
state_some s (Some bytes) h = h

state_none : (o : Option (List ℕ)) → IsValueOf o None → IsStateOf o unknown
state_none None h = refl
state_none (Some bytes) h = absurd h

seq_some : (s : NameState) (o : Option (List ℕ)) → IsValueOf o (Some s) → IsSeqOf o (Some s.seq)
seq_some s None h = absurd h
seq_some s (Some bytes) h = (s, h, refl)

seq_none : (o : Option (List ℕ)) → IsValueOf o None → IsSeqOf o None
seq_none None h = tt
seq_none (Some bytes) h = absurd h

pub some_state : (name : List ℕ) (s : NameState) (a b : StoreView) → FindsValue name a b (Ok (Some s)) → Finds name a b (Ok s)
some_state name s a b h = (h.0, of_value a name (Some s) (λ o. IsStateOf o s) (state_some s) h.1, h.2)

pub no_state : (name : List ℕ) (a b : StoreView) → FindsValue name a b (Ok None) → Finds name a b (Ok unknown)
no_state name a b h = (first_lawful, of_value a name None (λ o. IsStateOf o unknown) state_none h.1, h.2)

pub failed_state : (name : List ℕ) (fault : BaseFault) (a b : StoreView) → FindsValue name a b (Err fault) → Finds name a b (Err fault)
failed_state name (Store fault) a b h = h
failed_state name (BadRecord other) a b h = h

-- ---- its `seq`

module _ (name : List ℕ) (a b : StoreView) (epoch : ℕ) (opened : Bool) where
  pub some_seq : (s : NameState) → FindsValue name a b (Ok (Some s)) → ReadsSeq name (base_of a epoch opened) (base_of b epoch opened) (Ok (Some s.seq))
  some_seq s h = (of_value a name (Some s) (λ o. IsSeqOf o (Some s.seq)) (seq_some s) h.1, record { store = h.2; epoch = refl; opened = refl })

  pub no_seq : FindsValue name a b (Ok None) → ReadsSeq name (base_of a epoch opened) (base_of b epoch opened) (Ok None)
  no_seq h = (of_value a name None (λ o. IsSeqOf o None) seq_none h.1, record { store = h.2; epoch = refl; opened = refl })

  pub failed_seq : (fault : BaseFault) → FindsValue name a b (Err fault) → ReadsSeq name (base_of a epoch opened) (base_of b epoch opened) (Err fault)
  failed_seq (Store fault) h = (h, refl, refl)
  failed_seq (BadRecord other) h = (h.0, h.1, record { store = h.2; epoch = refl; opened = refl })

-- what the reading of a value rests on
pub ruleset find_rules = (find_none, find_some, find_wrong, find_memory, stays_same)

-- what the reading of a state rests on
pub ruleset state_rules = (some_state, no_state, failed_state)

-- what the reading of its `seq` rests on
pub ruleset seq_rules = (some_seq, no_seq, failed_seq)
