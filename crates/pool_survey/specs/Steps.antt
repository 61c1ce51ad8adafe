-- What the private steps promise.
use Rattle.std.specs.Prelude.{◌≡◌, ℕ, Bool, true, false, List, [], ◌∷◌, Option, Some, None, unwrap_or, Result, Ok, Err}
use Rattle.std.specs.FinMap as fin
use Rattle.obj_model.specs.States.{unknown}
use Rattle.obj_model.specs.declared.state.NameState.{NameState}
use Rattle.pool_keys.specs.Keys.{IsKeyOf, epoch_key, record_key, state_key}
use Rattle.pool_keys.specs.Values.{IsStateOf, SpellsEpoch}
use Rattle.rec_codec.specs.Spelling.{SpellsState, SpellsTier}
use Rattle.store_face.specs.Calls.{ReadFails, Stays}
use Rattle.store_face.specs.Tables.{Table, keys_above}
use Rattle.store_face.specs.Views.{Holds, StoreView}
use Rattle.store_face.specs.declared.fault.StoreFault.{StoreFault}
use Rattle.tier_types.specs.declared.record.TierRec.{TierRec}
use Rattle.pool_survey.specs.Causes.{Clashes, Fits}
use Rattle.pool_survey.specs.Places.{IsLast, IsNext, IsPage, is_within}
use Rattle.pool_survey.specs.declared.cursor.Cursor.{Cursor}
use Rattle.pool_survey.specs.declared.entries.Held.{Held}
use Rattle.pool_survey.specs.declared.entries.Held.TheVariants as held
use Rattle.pool_survey.specs.declared.entries.Kept.{Kept}
use Rattle.pool_survey.specs.declared.entries.Kept.TheVariants as kept
use Rattle.pool_survey.specs.declared.fitting.Found.{Found}

-- ---- the place in a store

-- the key that was passed last
abbrev pub place : Cursor → List ℕ
place c = unwrap_or c.passed []

-- the page behind a place was read, which has no key only where the map has none there
pub record IsPageRead (passed : Option (List ℕ)) (page : List (List ℕ)) (t : Table) : Type 0 where
  pub page_is : IsPage passed page t
  pub none : page ≡ [] → keys_above passed t ≡ []

abbrev pub ReadsPage :
    Option (List ℕ) → (old new : StoreView) → Result (List (List ℕ)) StoreFault → Type 0
ReadsPage passed old new (Ok page) = Stays old new × Holds old (IsPageRead passed page)
ReadsPage passed old new (Err fault) = ReadFails fault old new

-- a page was read where none was left
abbrev pub Refills : (was is : Cursor) → (old new : StoreView) → Result (Unit {0}) StoreFault → Type 0
Refills was is old new (Ok done) =
    Stays old new × (is.passed ≡ was.passed)
    × Holds old (IsPageRead is.passed is.page.items)
Refills was is old new (Err fault) = ReadFails fault old new

-- the first key of a page is within the bound, or the page has none that is
abbrev pub HasNext : Option (List ℕ) → List (List ℕ) → Bool → Type 0
HasNext bound page true =
    (key : List ℕ) × (rest : List (List ℕ)) × (page ≡ key ∷ rest) × (is_within bound key ≡ true)
HasNext bound page false =
    (key : List ℕ) (rest : List (List ℕ)) → page ≡ key ∷ rest → is_within bound key ≡ false

-- the next key of the page was passed
pub record IsTaken (bound : Option (List ℕ)) (was is : Cursor) : Type 0 where
  pub key : List ℕ
  pub next : was.page.items ≡ key ∷ is.page.items
  pub within : is_within bound key ≡ true
  pub passed : is.passed ≡ Some key

-- the page has no key, or none within the bound
pub record IsLeftThere (bound : Option (List ℕ)) (was is : Cursor) : Type 0 where
  pub passed : is.passed ≡ was.passed
  pub page : is.page.items ≡ was.page.items
  pub out : HasNext bound was.page.items false

abbrev pub Takes : Option (List ℕ) → (was is : Cursor) → Bool → Type 0
Takes bound was is true = IsTaken bound was is
Takes bound was is false = IsLeftThere bound was is

-- the next key was passed, within the bound, and its value read
pub record IsPassed (bound : Option (List ℕ)) (was is : Cursor) (v : StoreView)
    (value : Option (List ℕ))
    : Type 0 where
  pub passed : is.passed ≡ Some (place is)
  pub within : is_within bound (place is) ≡ true
  pub next : Holds v (IsNext was.passed (place is))
  pub got : Holds v (λ t. value ≡ fin.get t (place is))
  pub page : Holds v (IsPage is.passed is.page.items)

-- no key is left within the bound
pub record IsThere (bound : Option (List ℕ)) (was is : Cursor) (v : StoreView) : Type 0 where
  pub passed : is.passed ≡ was.passed
  pub last : Holds v (IsLast was.passed bound)
  pub page : Holds v (IsPage is.passed is.page.items)

-- the next key within the bound is passed, if there is one
abbrev pub Advances :
    Option (List ℕ) → (was is : Cursor) → (old new : StoreView) → Result Bool StoreFault → Type 0
Advances bound was is old new (Ok true) =
    Stays old new × (is.passed ≡ Some (place is)) × (is_within bound (place is) ≡ true)
    × Holds old (IsNext was.passed (place is))
    × Holds old (IsPage is.passed is.page.items)
Advances bound was is old new (Ok false) = Stays old new × IsThere bound was is old
Advances bound was is old new (Err fault) = ReadFails fault old new

-- the same, with its value
abbrev pub Moves :
    Option (List ℕ) → (was is : Cursor) → (old new : StoreView)
    → Result (Option (Option (List ℕ))) StoreFault → Type 0
Moves bound was is old new (Ok None) = Stays old new × IsThere bound was is old
Moves bound was is old new (Ok (Some value)) = Stays old new × IsPassed bound was is old value
Moves bound was is old new (Err fault) = ReadFails fault old new

-- ---- one entry

-- the bytes, all of them, spell the record
abbrev pub SpellsRec : List ℕ → TierRec → Type 0
SpellsRec bytes r = SpellsTier bytes r.state r.dirty r.mtime

-- what a key of the cache and its value spell
abbrev pub IsHeld : (key value : List ℕ) → Held → Type 0
IsHeld key value (held.Epoch epoch) = (key ≡ epoch_key) × SpellsEpoch value epoch
IsHeld key value (held.Record name r) = IsKeyOf record_key key name × SpellsRec value r

-- what a key of the base and its value spell
abbrev pub IsKept : (key value : List ℕ) → Kept → Type 0
IsKept key value (kept.Epoch epoch) = (key ≡ epoch_key) × SpellsEpoch value epoch
IsKept key value (kept.State name s) = IsKeyOf state_key key name × SpellsState value s

-- ---- a record beside the base's state

-- the state was found in the base; where nothing was, it is the unknown one
abbrev pub IsFound : Option Found → NameState → Type 0
IsFound None s = s ≡ unknown
IsFound (Some f) s = SpellsState f.spelled s × (f.seq ≡ s.seq)

-- two states are one, or are not
abbrev pub SameAs : (r s : NameState) → Bool → Type 0
SameAs r s true = r ≡ s
SameAs r s false = r ≡ s → ⊥

-- a record fits, or clashes
abbrev pub Judges : (dirty : Bool) → (r s : NameState) → Bool → Type 0
Judges dirty r s true = Fits dirty r s
Judges dirty r s false = Clashes dirty r s

-- what a value under a name's key spells was found
abbrev pub Shows : Option (List ℕ) → Option Found → Type 0
Shows value found = (s : NameState) → IsStateOf value s → IsFound found s
