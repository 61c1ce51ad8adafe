-- How many chunks may still come behind others.
use Rattle.std.specs.Prelude.{◌≡◌, ◌<◌, ◌≤◌, ◌+◌, ◌-◌, ℕ, true, List, [], ◌∷◌, ◌++◌, length}
use Rattle.std.specs.Prelude.{Option, Some, None}
use Rattle.std.specs.FinMap as fin
use Rattle.obj_model.specs.Limits.{body_limit, attrs_limit, omap_limit}
use Rattle.obj_model.specs.declared.state.Obj.{Obj}
use Rattle.copy_chunk.specs.declared.chunk.Chunk.{Chunk}
use Rattle.copy_chunk.specs.declared.chunk.Cursor.{Cursor}
use Rattle.copy_chunk.specs.declared.chunk.Cursor.TheVariants.{Head, Seen}
use Rattle.copy_chunk.specs.declared.gather.Added.{Added}
use Rattle.copy_chunk.specs.declared.gather.Added.TheVariants.{Taken}
use Rattle.copy_chunk.specs.Gathers.{made, wanted, fits, Adds}

-- the bytes of a body, the attributes and the entries of an omap for which an object has room; none
-- where there is no object
abbrev pub room : Option Obj → ℕ
room None = 0
room (Some o) =
    (body_limit - length o.body) + (attrs_limit - fin.len o.attrs) + (omap_limit - fin.len o.omap)

-- the most chunks: a head, the kept requests, and one for each byte and each pair of an object
abbrev pub most_chunks : ℕ
most_chunks = 2 + body_limit + attrs_limit + omap_limit

-- how many chunks may come from a place on, behind an object: none where none is wanted, the kept
-- requests alone where they are, and before them one for each byte or pair that has room, since
-- each chunk between the head and them brings at least one
abbrev pub left_from : Option Cursor → Option Obj → ℕ
left_from None obj = 0
left_from (Some Head) obj = most_chunks
left_from (Some Seen) obj = 1
left_from (Some at) obj = 1 + room obj

-- how many chunks may come behind these
unfoldable pub chunks_left : List Chunk → ℕ
chunks_left cs = left_from (wanted cs) (made cs).obj

-- ---- the laws

-- a chunk that is wanted and fits leaves fewer
abbrev pub TakenChunksLeaveFewer : Type 0
TakenChunksLeaveFewer =
    (cs : List Chunk) (c : Chunk) → wanted cs ≡ Some c.at → fits cs c ≡ true
    → chunks_left (cs ++ c ∷ []) < chunks_left cs

-- whatever a gather does with a chunk leaves no more
abbrev pub AddingLeavesNoMore : Type 0
AddingLeavesNoMore =
    (c : Chunk) (old new : List Chunk) (added : Added) → Adds c old added new
    → chunks_left new ≤ chunks_left old

-- none may come exactly where none is wanted
abbrev pub NothingLeftIsWhole : Type 0
NothingLeftIsWhole =
    (cs : List Chunk) → (chunks_left cs ≡ 0 → wanted cs ≡ None)
    × (wanted cs ≡ None → chunks_left cs ≡ 0)

-- so many may come before the first
abbrev pub FirstHasMostLeft : Type 0
FirstHasMostLeft = chunks_left [] ≡ 1049666

-- and no more behind any
abbrev pub FewAreLeft : Type 0
FewAreLeft = (cs : List Chunk) → chunks_left cs ≤ 1049666

-- a gather of some chunks takes others, one behind the other
abbrev pub AreTaken : List Chunk → List Chunk → Type 0
AreTaken cs [] = Unit {0}
AreTaken cs (d ∷ ds) = Adds d cs Taken (cs ++ d ∷ []) × AreTaken (cs ++ d ∷ []) ds

-- these are, with those that may come behind them, no more than could come before them
abbrev pub TakenChunksAreFew : Type 0
TakenChunksAreFew =
    (cs ds : List Chunk) → AreTaken cs ds
    → length ds + chunks_left (cs ++ ds) ≤ chunks_left cs
