-- The room of a store, and when changes are refused for want of it.
use Rattle.std.specs.Prelude.{◌≡◌, ◌⊎◌, ◌<◌, ◌≤◌, ℕ, ◌+◌, ◌-◌, ◌*◌, ◌/◌, Bool, true, false, List, [], ◌∷◌, length, Option, Some, None, sum_by}
use Rattle.std.specs.FinMap as fin
use Rattle.obj_model.specs.declared.change.Change.{Change}
use Rattle.obj_model.specs.declared.change.Change.TheVariants.{Put, Remove}
use Rattle.store_face.specs.Limits.{generation_limit}
use Rattle.store_face.specs.Tables.{Table, changed_by}

-- The room of a store never changes. That of a log is so many bytes, of which each transaction uses
-- some for good. That of a store in blocks is so many blocks for values and so many bytes for the
-- index of its map; what it uses up for good are generations of the index.
pub data Room : Type 0 where
  LogRoom : (limit : ℕ) → Room
  BlockRoom : (blocks area : ℕ) → Room

-- a want of room: so much is used, and so much more is needed, above this limit
pub record Lack : Type 0 where
  pub used : ℕ
  pub need : ℕ
  pub limit : ℕ

-- ---- a log

-- the bytes that spell a change: its kind, the length of its key and the key, and for a value the
-- same with a length of four bytes
abbrev pub change_size : Change → ℕ
change_size (Put key value) = 7 + length key + length value
change_size (Remove key) = 3 + length key

-- what a transaction uses of a log: four bytes of length, one with the number of its changes, the
-- changes, and the gate behind them
abbrev pub record_size : List Change → ℕ
record_size changes = 6 + sum_by change_size changes

-- a log lacks room exactly where the record of the changes does not fit behind what is used
abbrev pub LogLacks : (limit used : ℕ) → List Change → Option Lack → Type 0
LogLacks limit used changes None = used + record_size changes ≤ limit
LogLacks limit used changes (Some lack) =
    (limit < used + record_size changes)
    × (lack ≡ record { used = used; need = record_size changes; limit = limit })

-- ---- a store in blocks

-- the bytes of a block
abbrev pub block_size : ℕ
block_size = 4096

-- the blocks of a value: one for each 4,096 bytes that are begun
abbrev pub blocks_of : List ℕ → ℕ
blocks_of value = (length value + (block_size - 1)) / block_size

-- the blocks of the value that a change puts
abbrev pub blocks_put : Change → ℕ
blocks_put (Put key value) = blocks_of value
blocks_put (Remove key) = 0

-- the blocks of a map
abbrev pub blocks_used : Table → ℕ
blocks_used t = sum_by (λ e. blocks_of e.1) (fin.entries t)

-- the bytes of an index entry: the lengths of key and value, the key, and the numbers of the blocks
abbrev pub entry_size : List ℕ × List ℕ → ℕ
entry_size e = 6 + length e.0 + 4 * blocks_of e.1

-- the bytes of a map's index, with those of its gates, its length and its head
abbrev pub index_size : Table → ℕ
index_size t = 18 + sum_by entry_size (fin.entries t)

-- one of the changes puts a value
abbrev pub has_put : List Change → Bool
has_put [] = false
has_put (Put key value ∷ changes) = true
has_put (Remove key ∷ changes) = has_put changes

-- the blocks of the changes fit beside those of the map
abbrev pub HasBlocks : (blocks : ℕ) → Table → List Change → Type 0
HasBlocks blocks t changes = blocks_used t + sum_by blocks_put changes ≤ blocks

-- A store in blocks lacks room exactly where the blocks do not suffice; or, where they do and a
-- value is put, where the index of the map with the changes is too large.
abbrev pub BlockLacks : (blocks area : ℕ) → Table → List Change → Option Lack → Type 0
BlockLacks blocks area t changes None =
    HasBlocks blocks t changes
    × (has_put changes ≡ true → index_size (changed_by t changes) ≤ area)
BlockLacks blocks area t changes (Some lack) =
    ((blocks < blocks_used t + sum_by blocks_put changes)
    × (lack ≡ record { used = blocks_used t; need = sum_by blocks_put changes; limit = blocks }))
    ⊎ (HasBlocks blocks t changes × (has_put changes ≡ true)
    × (area < index_size (changed_by t changes))
    × (lack ≡ record {
      used = index_size t;
      need = index_size (changed_by t changes) - index_size t;
      limit = area;
    }))

-- ---- either

-- what changes use up for good: a log's bytes of their record; of blocks one generation or none
abbrev pub Uses : Room → List Change → (before behind : ℕ) → Type 0
Uses (LogRoom limit) changes before behind = behind ≡ before + record_size changes
Uses (BlockRoom blocks area) changes before behind = (behind ≡ before) ⊎ (behind ≡ before + 1)

-- a store is worn out where its generation is the last one; a log never is
abbrev pub IsWornOut : Room → (used : ℕ) → Type 0
IsWornOut (LogRoom limit) used = ⊥
IsWornOut (BlockRoom blocks area) used = used ≡ generation_limit
