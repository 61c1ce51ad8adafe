-- What a private step promises.
use Rattle.std.specs.Prelude.{◌≡◌, ℕ, List, Option, Some, None, Result, Ok, Err}
use Rattle.rec_codec.specs.Spelling.{SpellsTier}
use Rattle.store_face.specs.declared.fault.StoreFault.{StoreFault}
use Rattle.store_face.specs.declared.fault.StoreFault.TheVariants as store
use Rattle.tier_types.specs.declared.record.TierRec.{TierRec}

-- the record that bytes spell, or that they spell none
abbrev pub Decodes : List ℕ → Result (Option TierRec) StoreFault → Type 0
Decodes bytes (Ok (Some r)) = SpellsTier bytes r.state r.dirty r.mtime
Decodes bytes (Ok None) = (r : TierRec) → SpellsTier bytes r.state r.dirty r.mtime → ⊥
Decodes bytes (Err fault) = fault ≡ store.NoMemory
