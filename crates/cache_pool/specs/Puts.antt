-- What a commit in the cache puts, and what it answers.
use Rattle.std.specs.Prelude.{◌≡◌, ◌<◌, ℕ, ◌+◌, List, [], ◌∷◌, Result, Ok, Err}
use Rattle.byteorder.specs.Endian.{big_bytes}
use Rattle.obj_model.specs.declared.change.Change.{Change}
use Rattle.obj_model.specs.declared.change.Change.TheVariants.{Put, Remove}
use Rattle.pool_keys.specs.Keys.{epoch_key, record_key}
use Rattle.rec_codec.specs.Spelling.{SpellsTier, tier_bytes}
use Rattle.store_face.specs.Calls.{Committed}
use Rattle.store_face.specs.Views.{StoreView}
use Rattle.store_face.specs.declared.fault.StoreFault.{StoreFault}
use Rattle.store_face.specs.declared.fault.StoreFault.TheVariants as store
use Rattle.tier_types.specs.declared.record.TierRec.{TierRec}

-- what a commit answers
abbrev pub Outcome : Type 0
Outcome = Result (Unit {0}) StoreFault

-- the one spelling of a record
abbrev pub record_bytes : TierRec → List ℕ
record_bytes r = tier_bytes r.state r.dirty r.mtime

-- a record is put under its name's key
abbrev pub record_put : List ℕ → TierRec → List Change
record_put name r = Put (record_key name) (record_bytes r) ∷ []

-- a name's record goes
abbrev pub record_gone : List ℕ → List Change
record_gone name = Remove (record_key name) ∷ []

-- the epoch is put under its key
abbrev pub epoch_put : ℕ → List Change
epoch_put epoch = Put epoch_key (big_bytes 8 epoch) ∷ []

-- what is put spells the record, unless there was no memory for it
abbrev pub IsSpelled : TierRec → Outcome → Type 0
IsSpelled r (Err store.NoMemory) = Unit {0}
IsSpelled r other = SpellsTier (record_bytes r) r.state r.dirty r.mtime

-- a want of room has numbers that are one: more is needed than is left
abbrev pub IsOver : Outcome → Type 0
IsOver result =
    (used need limit : ℕ) → result ≡ Err (store.NoSpace used need limit) → limit < used + need

-- a commit of these changes, whose want of room is one
pub record Commits (changes : List Change) (old new : StoreView) (result : Outcome) : Type 0 where
  pub committed : Committed changes old new result
  pub over : IsOver result
