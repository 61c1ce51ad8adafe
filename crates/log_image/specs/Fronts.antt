-- What the first bytes of a disk say: whether it is empty, refused, or a log of some pair.
use Rattle.std.specs.Prelude.{◌≡◌, ◌↔◌, ◌⊎◌, ℕ, ◌+◌, ◌<◌, ◌≤◌, Bool, not, nat_lt, IsTrue, List}
use Rattle.std.specs.Prelude.{[], ◌∷◌, ◌++◌, length, take, drop, slice_index, Option, Some, None}
use Rattle.std.specs.Prelude.{bytes_eq, codes, ◌==◌, if◌then◌else◌}
use Rattle.byteorder.specs.Endian.{big_bytes, big_number}
use Rattle.obj_model.specs.declared.change.Change.{Change}
use Rattle.obj_model.specs.declared.change.Pool.{Pool}
use Rattle.gate_journal.specs.Journals.{AreRecords, Spells, Means, Broken}
use Rattle.store_face.specs.Limits.{store_limit}
use Rattle.rec_codec.specs.Spelling.{SpellsTxn}
use Rattle.log_image.specs.Images.{IsEmpty, IsHalfOpen, AreTxns, role_byte}
use Rattle.log_image.specs.declared.front.Front.{Front}
use Rattle.log_image.specs.declared.front.Front.TheVariants.{Blank, HalfOpen, Bad, Headed}

-- The place of the first test that the head of a disk fails: its first gate, the length of its
-- first record, its magic, its pool; a record that ends before its pair does is broken at its gate.
abbrev pub head_fault : Pool → List ℕ → Option ℕ
head_fault role image =
    if not (slice_index image 0 == 1) then Some 0
    else if not (bytes_eq (take 4 (drop 1 image)) (big_bytes 4 17)) then Some 1
    else if not (bytes_eq (take 8 (drop 5 image)) (codes "RTLOG001")) then Some 5
    else if not (bytes_eq (take 1 (drop 13 image)) (role_byte role ∷ [])) then Some 13
    else if nat_lt (length image) 22 then Some 0
    else None

-- the number of the pair that stands in the head
abbrev pub pair_at : List ℕ → ℕ
pair_at image = big_number 8 (drop 14 image)

-- the head of a disk that is not empty passes all tests, and has this pair
pub record IsHeaded (role : Pool) (pair : ℕ) (image : List ℕ) : Type 0 where
  pub used : ¬ IsEmpty role image
  pub tested : head_fault role image ≡ None
  pub pair_is : pair_at image ≡ pair
  pub pair_bytes : take 8 (drop 14 image) ≡ big_bytes 8 pair

-- the head of a disk that is not empty fails a test at this place
pub record IsMisheaded (role : Pool) (image : List ℕ) (at : ℕ) : Type 0 where
  pub used : ¬ IsEmpty role image
  pub failed : head_fault role image ≡ Some at

-- a disk with at most one byte, or one that begins with a zero; and whether there is a first byte
-- that is zero
pub record IsUnwritten (image : List ℕ) (zeroed : Bool) : Type 0 where
  pub blank : (length image ≤ 1) ⊎ (slice_index image 0 ≡ 0)
  pub zero_is : IsTrue zeroed ↔ ((0 < length image) × (slice_index image 0 ≡ 0))

-- what the first bytes say
abbrev pub FrontIs : Pool → List ℕ → Front → Type 0
FrontIs role image (Blank zeroed) = IsUnwritten image zeroed
FrontIs role image (HalfOpen pair) = IsHalfOpen role pair image
FrontIs role image (Bad at) = IsMisheaded role image at
FrontIs role image (Headed pair) = IsHeaded role pair image

-- a record behind the first is no transaction; those between are; it is told at its payload
pub record HasNoTxn (image : List ℕ) (at : ℕ) : Type 0 where
  pub first : List ℕ
  pub before : List (List ℕ)
  pub payload : List ℕ
  pub behind : List (List ℕ)
  pub txns : List (List Change)
  pub gate : ℕ
  pub next : ℕ
  pub spelled : Spells 0 store_limit image (first ∷ (before ++ payload ∷ behind)) next
  pub each : AreTxns before txns
  pub place : AreRecords (take store_limit image) 0 (first ∷ before) gate
  pub at_is : at ≡ gate + 5
  pub none : (txn : List Change) → ¬ SpellsTxn payload txn

-- the bytes of a disk whose head passes are no log: they are no journal, or else a record behind
-- the first is no transaction
abbrev pub IsNoLog : List ℕ → ℕ → Type 0
IsNoLog image at = Means 0 store_limit image (Broken at) ⊎ HasNoTxn image at

-- a disk is refused as no log of this pool and pair, at this place
abbrev pub IsBad : Pool → ℕ → List ℕ → ℕ → Type 0
IsBad role pair image at = IsMisheaded role image at ⊎ (IsHeaded role pair image × IsNoLog image at)

-- a disk is of this pair, of which it has a log or at which formatting stopped
abbrev pub IsOf : Pool → ℕ → List ℕ → Type 0
IsOf role pair image = IsHalfOpen role pair image ⊎ IsHeaded role pair image
