-- What the bytes of a disk mean as a log of transactions: a map, or that the disk is empty.
use Rattle.std.specs.Prelude.{◌≡◌, ◌≢◌, ◌⊎◌, ℕ, ◌+◌, ◌<◌, ◌≤◌, ◌^◌, List, [], ◌∷◌, ◌++◌, length}
use Rattle.std.specs.Prelude.{take, drop, slice_index, codes}
use Rattle.std.specs.FinMap as fin
use Rattle.byteorder.specs.Endian.{big_bytes}
use Rattle.obj_model.specs.declared.change.Change.{Change}
use Rattle.obj_model.specs.declared.change.Pool.{Pool}
use Rattle.obj_model.specs.declared.change.Pool.TheVariants.{Cache, Base}
use Rattle.store_face.specs.Limits.{store_limit}
use Rattle.store_face.specs.Tables.{Table, changed_by}
use Rattle.store_face.specs.Views.{Durable}
use Rattle.store_face.specs.Views.{Durable}
use Rattle.rec_codec.specs.Spelling.{SpellsTxn}
use Rattle.gate_journal.specs.Journals.{Spells, behind_gate}

-- the byte that names the pool of a disk
abbrev pub role_byte : Pool → ℕ
role_byte Cache = 1
role_byte Base = 2

-- the payload of the first record: what kind of disk it is, of which pool, and of which pair of
-- pools
abbrev pub head : Pool → ℕ → List ℕ
head role pair = codes "RTLOG001" ++ role_byte role ∷ big_bytes 8 pair

-- what stands behind the first gate of a disk without transactions: the rest of the first record,
-- and a closed gate
abbrev pub rest : Pool → ℕ → List ℕ
rest role pair = behind_gate (head role pair)

-- All that formatting writes behind the first byte stands there, and the first byte is neither an
-- open gate nor a zero.
pub record IsHalfOpen (role : Pool) (pair : ℕ) (image : List ℕ) : Type 0 where
  pub fits : pair < 2 ^ 64
  pub not_zero : slice_index image 0 ≢ 0
  pub not_open : slice_index image 0 ≢ 1
  pub behind : take 22 (drop 1 image) ≡ rest role pair

-- a disk that opening formats for this pair: it has at most one byte, or begins with a zero, or
-- formatting stopped at its last write
abbrev pub IsBlank : Pool → ℕ → List ℕ → Type 0
IsBlank role pair image =
    (length image ≤ 1) ⊎ (slice_index image 0 ≡ 0) ⊎ IsHalfOpen role pair image

-- a disk that is empty, for whichever pair
abbrev pub IsEmpty : Pool → List ℕ → Type 0
IsEmpty role image = (pair : ℕ) × IsBlank role pair image

-- each payload spells a transaction
abbrev pub AreTxns : List (List ℕ) → List (List Change) → Type 0
AreTxns [] [] = Unit {0}
AreTxns [] (txn ∷ txns) = ⊥
AreTxns (payload ∷ payloads) [] = ⊥
AreTxns (payload ∷ payloads) (txn ∷ txns) = SpellsTxn payload txn × AreTxns payloads txns

-- what transactions make of a map, one after another
abbrev pub made_by : Table → List (List Change) → Table
made_by t [] = t
made_by t (txn ∷ txns) = made_by (changed_by t txn) txns

-- what a log without transactions holds: the empty map, and the offset behind its last gate
abbrev pub no_txns : Durable
no_txns = record { table = fin.empty; used = 23 }

-- The bytes hold a log: the first record with an open gate, records of transactions with open
-- gates, a gate that is not open, all within the most bytes of a log, and then anything. The map is
-- what the transactions make of the empty one, and used is the offset behind the last gate.
pub record HoldsLog (role : Pool) (pair : ℕ) (image : List ℕ) (log : Durable) : Type 0 where
  pub payloads : List (List ℕ)
  pub txns : List (List Change)
  pub next : ℕ
  pub spelled : Spells 0 store_limit image (head role pair ∷ payloads) next
  pub each : AreTxns payloads txns
  pub made : log.table ≡ made_by fin.empty txns
  pub used_is : log.used ≡ next + 1

-- the bytes hold a map
abbrev pub HoldsMap : Pool → ℕ → List ℕ → Table → Type 0
HoldsMap role pair image t =
    (used : ℕ) × HoldsLog role pair image (record { table = t; used = used })
