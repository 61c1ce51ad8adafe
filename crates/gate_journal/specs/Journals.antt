-- What a range of bytes means as a journal: the payloads that it spells, or that it is no journal,
-- and where.
use Rattle.std.specs.Prelude.{◌≡◌, ◌≢◌, ◌⊎◌, ℕ, ◌+◌, ◌<◌, ◌≤◌, List, [], ◌∷◌, ◌++◌, length, take}
use Rattle.std.specs.Prelude.{drop, slice_index}
use Rattle.byteorder.specs.Endian.{big_number, big_bytes}

-- the number of four bytes behind a gate, the greatest first, which is its record's length
abbrev pub size_at : List ℕ → ℕ → ℕ
size_at bytes gate = big_number 4 (drop (gate + 1) bytes)

-- the gate is open, its length and its payload stand behind it, and behind these another gate
pub record IsRecord (bytes : List ℕ) (gate : ℕ) (payload : List ℕ) : Type 0 where
  pub opened : slice_index bytes gate ≡ 1
  pub size : size_at bytes gate ≡ length payload
  pub body : take (length payload) (drop (gate + 5) bytes) ≡ payload
  pub followed : gate + 5 + length payload < length bytes

-- whole records of these payloads stand one after another from a gate up to the next gate behind
-- them
abbrev pub AreRecords : List ℕ → ℕ → List (List ℕ) → ℕ → Type 0
AreRecords bytes gate [] next = gate ≡ next
AreRecords bytes gate (payload ∷ payloads) next =
    IsRecord bytes gate payload × AreRecords bytes (gate + 5 + length payload) payloads next

-- the gate is there, and it is not open
pub record IsClosed (bytes : List ℕ) (gate : ℕ) : Type 0 where
  pub there : gate < length bytes
  pub closed : slice_index bytes gate ≢ 1

-- the gate is open, and its payload or the gate behind that is not there
pub record IsCut (bytes : List ℕ) (gate : ℕ) : Type 0 where
  pub opened : slice_index bytes gate ≡ 1
  pub short : length bytes ≤ gate + 5 + size_at bytes gate

-- no journal goes on here: the gate is not there, or its record is cut short
abbrev pub IsBroken : List ℕ → ℕ → Type 0
IsBroken bytes gate = (length bytes ≤ gate) ⊎ IsCut bytes gate

-- a journal of these payloads with its closed gate at this offset; or none, which breaks at the
-- gate at this offset
pub data Reading : Type 0 where
  Spelled : List (List ℕ) → ℕ → Reading
  Broken : ℕ → Reading

-- These payloads are spelled from an offset on; only bytes before the end count. Their records
-- stand there one after another, and behind them the closed gate.
pub record Spells (at end : ℕ) (image : List ℕ) (payloads : List (List ℕ)) (next : ℕ) : Type 0 where
  pub records : AreRecords (take end image) at payloads next
  pub gate : IsClosed (take end image) next

-- It is no journal, because of a gate that breaks it behind some whole records.
pub record Breaks (at end : ℕ) (image : List ℕ) (gate : ℕ) : Type 0 where
  pub payloads : List (List ℕ)
  pub records : AreRecords (take end image) at payloads gate
  pub broken : IsBroken (take end image) gate

-- what the bytes of an image from an offset up to the end mean
abbrev pub Means : ℕ → ℕ → List ℕ → Reading → Type 0
Means at end image (Spelled payloads next) = Spells at end image payloads next
Means at end image (Broken gate) = Breaks at end image gate

-- what is written behind the gate of a record: its length, its payload and a closed gate
abbrev pub behind_gate : List ℕ → List ℕ
behind_gate payload = big_bytes 4 (length payload) ++ payload ++ 0 ∷ []
