-- Keys: one kind each, and their order.
use Rattle.std.proofs.Common.{◌≡◌, ℕ, List, [], ◌∷◌, None, refl, sym, ap, ◌∙◌, arith}
use Rattle.obj_model.specs.Changes.{IsStoreKey}
use Rattle.obj_model.specs.Names.{name_fault}
use Rattle.rec_codec.proofs.BlockLaws.{name_short}
use Rattle.pool_keys.specs.Keys.{record_key, state_key}
use Rattle.pool_keys.specs.Laws.{KeyIsOne, KeysRise}
use Rattle.pool_keys.specs.declared.key.PoolKey.TheVariants.{Epoch, Record, State}

-- a letter and a name are the key of a store
pub state_key_fits : (name : List ℕ) → name_fault name ≡ None → IsStoreKey (state_key name)
state_key_fits name lawful = let short = name_short name lawful in (omega arith, omega (arith, short.1))

pub record_key_fits : (name : List ℕ) → name_fault name ≡ None → IsStoreKey (record_key name)
record_key_fits name lawful = let short = name_short name lawful in (omega arith, omega (arith, short.1))

letters : (a b : ℕ) (x y : List ℕ) → a ∷ x ≡ b ∷ y → a ≡ b
letters a b x y e = cc

names : (a b : ℕ) (x y : List ℕ) → a ∷ x ≡ b ∷ y → x ≡ y
names a b x y e = cc

pub key_one : KeyIsOne
key_one key Epoch Epoch h k = refl
key_one key Epoch (State name) h k = absurd (omega (arith, letters 0x45 0x4e [] name (sym h ∙ k.spelled)))
key_one key Epoch (Record name) h k = absurd (omega (arith, letters 0x45 0x52 [] name (sym h ∙ k.spelled)))
key_one key (State name) Epoch h k = absurd (omega (arith, letters 0x45 0x4e [] name (sym k ∙ h.spelled)))
key_one key (State name) (State other) h k = ap State (names 0x4e 0x4e name other (sym h.spelled ∙ k.spelled))
key_one key (State name) (Record other) h k = absurd (omega (arith, letters 0x4e 0x52 name other (sym h.spelled ∙ k.spelled)))
key_one key (Record name) Epoch h k = absurd (omega (arith, letters 0x45 0x52 [] name (sym k ∙ h.spelled)))
key_one key (Record name) (State other) h k = absurd (omega (arith, letters 0x52 0x4e name other (sym h.spelled ∙ k.spelled)))
key_one key (Record name) (Record other) h k = ap Record (names 0x52 0x52 name other (sym h.spelled ∙ k.spelled))

pub rise : KeysRise
rise = record { states = λ a b. refl; records = λ a b. refl; state_behind = λ a. refl; record_behind = λ a. refl }
