-- What was read under a key of the cache.
use Rattle.std.proofs.Common.{◌≡◌, ◌≤◌, ℕ, List, Option, None, Some, Ok, Err, refl, sym, ap, subst, ◌∙◌, arith}
use Rattle.std.specs.FinMap as fin
use Rattle.std.specs.Option.{IfNone}
use Rattle.tier_outside.proofs.Moments.{now_weaker}
use Rattle.pool_keys.specs.Keys.{record_key}
use Rattle.pool_keys.specs.Values.{IsRecOf}
use Rattle.rec_codec.specs.Spelling.{SpellsParts, SpellsTier, TierParts}
use Rattle.store_face.specs.Calls.{Got}
use Rattle.store_face.specs.Tables.{Table}
use Rattle.store_face.specs.Views.{Holds, StoreView, no_map}
use Rattle.store_face.specs.declared.fault.StoreFault.{StoreFault}
use Rattle.store_face.specs.declared.fault.StoreFault.TheVariants as store
use Rattle.tier_types.specs.declared.record.TierRec.{TierRec}
use Rattle.cache_pool.specs.Reads.{IsUnreadable, ReadsRecord}
use Rattle.cache_pool.specs.Steps.{Decodes}
use Rattle.cache_pool.specs.declared.fault.CacheFault.TheVariants.{Store, BadRecord}
use Rattle.store_face.proofs.Later.{stays_same}
use Rattle.pool_keys.proofs.Found.{at_key}

-- ---- a record

pub decoded_none : (bytes : List ℕ) (o : Option TierParts) → o ≡ None
    → IfNone o ((p : TierParts) → SpellsParts bytes p → ⊥) → Decodes bytes (Ok None)
decoded_none bytes o is none r h =
    subst (λ x. IfNone x ((p : TierParts) → SpellsParts bytes p → ⊥)) is none
    (r.state, r.dirty, r.mtime) h

pub record_none : (key name : List ℕ) (a b : StoreView) → key ≡ record_key name
    → Got key a b (Ok None) → ReadsRecord name a b (Ok None)
record_none key name a b same h =
    (tt, at_key a key (record_key name) (λ o. IsRecOf o None) None same h.1 tt, h.0)

pub record_some : (key name bytes value : List ℕ) (r : TierRec) (a b : StoreView)
    → key ≡ record_key name → bytes ≡ value → Got key a b (Ok (Some value))
    → SpellsTier bytes r.state r.dirty r.mtime → ReadsRecord name a b (Ok (Some r))
record_some key name bytes value r a b same e h spells = (
  spells.lawful,
  at_key a key (record_key name) (λ o. IsRecOf o (Some r)) (Some value) same h.1
      (subst (λ x. SpellsTier x r.state r.dirty r.mtime) e spells),
  h.0,
)

wrong_at : (t : Table) (key name bytes value : List ℕ) → key ≡ record_key name → bytes ≡ value
    → Some value ≡ fin.get t key
    → ((r : TierRec) → SpellsTier bytes r.state r.dirty r.mtime → ⊥) → IsUnreadable name t
wrong_at t key name bytes value same e h none =
    record { bytes = bytes; there = ap (fin.get t) (sym same) ∙ sym h ∙ ap Some (sym e); none = none }

pub record_wrong : (key name bytes value : List ℕ) (a b : StoreView) → key ≡ record_key name
    → bytes ≡ value → Got key a b (Ok (Some value))
    → ((r : TierRec) → SpellsTier bytes r.state r.dirty r.mtime → ⊥)
    → ReadsRecord name a b (Err (BadRecord name))
record_wrong key name bytes value a b same e h none = (
  refl,
  now_weaker no_map a.moments (λ s. Some value ≡ fin.get s.before.table key)
      (λ s. IsUnreadable name s.before.table)
      (λ s is. wrong_at s.before.table key name bytes value same e is none) h.1,
  h.0,
)

pub record_memory : (key name : List ℕ) (value : Option (List ℕ)) (fault : StoreFault)
    (a b : StoreView) → fault ≡ store.NoMemory → Got key a b (Ok value)
    → ReadsRecord name a b (Err (Store fault))
record_memory key name value fault a b e h =
    subst (λ f. ReadsRecord name a b (Err (Store f))) (sym e) h.0

-- what the reading of a record rests on
pub ruleset record_rules = (record_none, record_some, record_wrong, record_memory, stays_same)
