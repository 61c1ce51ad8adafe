-- One change is committed.
use Rattle.std.proofs.Common.{◌≡◌, ◌≤◌, ◌<◌, ℕ, ◌+◌, List, [], ◌∷◌, length, Some, Result, Ok, Err, refl, sym, subst, ◌∙◌, ap, ap₂, arith}
use Rattle.std.proofs.lemmas.List.Elements.{All-from_recursion}
use Rattle.byteorder.specs.Endian.{big_bytes}
use Rattle.byteorder.specs.Numbers.{length-bytes_high_first}
use Rattle.obj_model.specs.Changes.{IsChange, IsStoreKey, IsTxn}
use Rattle.obj_model.specs.declared.change.Change.{Change}
use Rattle.obj_model.specs.declared.change.Change.TheVariants.{Put, Remove}
use Rattle.pool_keys.specs.Keys.{epoch_key, record_key}
use Rattle.pool_keys.specs.Values.{SpellsEpoch}
use Rattle.rec_codec.specs.Spelling.{SpellsTier}
use Rattle.store_face.specs.Calls.{Committed}
use Rattle.store_face.specs.Views.{StoreView}
use Rattle.store_face.specs.declared.fault.StoreFault.{StoreFault}
use Rattle.store_face.specs.declared.fault.StoreFault.TheVariants as store
use Rattle.tier_types.specs.declared.record.TierRec.{TierRec}
use Rattle.cache_pool.specs.Puts.{Commits, IsOver, IsSpelled, Outcome, epoch_put, record_bytes, record_gone, record_put}
use Rattle.store_face.proofs.Later.{stays_same}

-- ---- the numbers of a want of room

pub over_not : (changes : List Change) (a b : StoreView) (used need limit : ℕ)
    → Committed changes a b (Err (store.NoSpace used need limit))
    → Commits changes a b (Err store.NoMemory)
over_not changes a b used need limit h =
    record { committed = h.1; over = λ u n l e. absurd (cc) }

-- what a commit rests on
pub ruleset commit_rules = (over_not)

-- ---- what is put

pub no_memory : (changes : List Change) (a : StoreView) → Commits changes a a (Err store.NoMemory)
no_memory changes a = record { committed = stays_same a; over = λ u n l e. absurd (cc) }

-- one change is a transaction
one_change : (c : Change) → IsChange c → IsTxn (c ∷ [])
one_change c h = record {
  some = omega arith;
  few = omega arith;
  each = All-from_recursion IsChange (c ∷ []) (h, tt);
  apart = (tt, tt);
}

pub record_txn : (key place value : List ℕ) → key ≡ place → IsStoreKey place
    → length value ≤ 16777216 → IsTxn (Put key value ∷ [])
record_txn key place value same named short =
    one_change (Put key value) (subst IsStoreKey (sym same) named, short)

pub record_committed : (key name value bytes : List ℕ) (r : TierRec) (a b : StoreView)
    (result : Outcome) → key ≡ record_key name → value ≡ bytes
    → SpellsTier bytes r.state r.dirty r.mtime → Commits (Put key value ∷ []) a b result
    → Commits (record_put name r) a b result
record_committed key name value bytes r a b result same e spells h =
    subst (λ (c : Change). Commits (c ∷ []) a b result) (ap₂ Put same (e ∙ spells.spelled)) h

spelled_by : (r : TierRec) (result : Outcome)
    → SpellsTier (record_bytes r) r.state r.dirty r.mtime → IsSpelled r result
spelled_by r (Ok _) h = h
spelled_by r (Err store.Disk) h = h
spelled_by r (Err (store.BadImage at)) h = h
spelled_by r (Err (store.NoSpace used need limit)) h = h
spelled_by r (Err (store.Worn limit)) h = h
spelled_by r (Err store.NoMemory) h = tt

pub record_spelled : (bytes : List ℕ) (r : TierRec) (result : Outcome)
    → SpellsTier bytes r.state r.dirty r.mtime → IsSpelled r result
record_spelled bytes r result h = spelled_by r result
    (record { lawful = h.lawful; typed = h.typed; timed = h.timed; spelled = refl })

pub gone_txn : (key place : List ℕ) → key ≡ place → IsStoreKey place → IsTxn (Remove key ∷ [])
gone_txn key place same named = one_change (Remove key) (subst IsStoreKey (sym same) named)

pub gone_committed : (key name : List ℕ) (a b : StoreView) (result : Outcome)
    → key ≡ record_key name → Commits (Remove key ∷ []) a b result
    → Commits (record_gone name) a b result
gone_committed key name a b result same h =
    subst (λ (c : Change). Commits (c ∷ []) a b result) (ap Remove same) h

pub epoch_txn : (key value : List ℕ) (epoch : ℕ) → key ≡ epoch_key → IsStoreKey epoch_key
    → SpellsEpoch value epoch → IsTxn (Put key value ∷ [])
epoch_txn key value epoch same named spells =
    let long : length (big_bytes 8 epoch) ≡ 8 = length-bytes_high_first 8 epoch in
    one_change (Put key value) (
      subst IsStoreKey (sym same) named,
      subst (λ v. length v ≤ 16777216) (sym spells.spelled) (omega (arith, long)),
    )

pub epoch_committed : (key value : List ℕ) (epoch : ℕ) (a b : StoreView) (result : Outcome)
    → key ≡ epoch_key → SpellsEpoch value epoch → Commits (Put key value ∷ []) a b result
    → Commits (epoch_put epoch) a b result
epoch_committed key value epoch a b result same spells h =
    subst (λ (c : Change). Commits (c ∷ []) a b result) (ap₂ Put same spells.spelled) h

-- what the putting of a record rests on
pub ruleset record_rules = (record_txn, record_committed, record_spelled, no_memory)

-- what the taking out of a record rests on
pub ruleset gone_rules = (gone_txn, gone_committed, no_memory)

-- what the putting of an epoch rests on
pub ruleset epoch_rules = (epoch_txn, epoch_committed, no_memory)
