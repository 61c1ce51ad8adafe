-- An omap that is listed page by page.
use Rattle.std.specs.Prelude.{◌≡◌, ◌<◌, ◌≤◌, ℕ, ◌+◌, ◌*◌, List, [], ◌∷◌, ◌++◌, length, map, take, Option, Some, None, Ok}
use Rattle.std.specs.FinMap as fin
use Rattle.std.specs.List.{AllByRecursion}
use Rattle.std.specs.List.Sorted.{IsStrictlySortedBy}
use Rattle.obj_model.specs.Names.{name_cmp}
use Rattle.obj_model.specs.Tables.{Table, entries_above}
use Rattle.obj_model.specs.declared.sub_op.SubOp.TheVariants.{OmapList}
use Rattle.obj_model.specs.declared.state.Obj.{Obj}
use Rattle.obj_model.specs.declared.out.Pair.{Pair}
use Rattle.obj_model.specs.declared.out.Out.TheVariants.{Pairs}
use Rattle.obj_ops.specs.Effects.{pair_of}
use Rattle.obj_ops.specs.Ops.{sub}

-- this page was told of an object with this omap, whatever else the object had then, at whatever
-- version of its name
pub record IsPage (t : Table) (max : ℕ) (after : Option (List ℕ)) (page : List Pair) : Type 0 where
  pub obj : Obj
  pub ver : ℕ
  pub its : obj.omap ≡ t
  pub told :
      sub (OmapList after max) ver (Some obj) ≡ Ok (record { obj = Some obj; out = Pairs page })

-- the last key of a page, from which the page behind it is asked for; an empty page leaves the key
abbrev pub last_key : Option (List ℕ) → List Pair → Option (List ℕ)
last_key after [] = after
last_key after (p ∷ page) = last_key (Some p.key) page

-- these pages were told one after another, each from the last key of the page before
abbrev pub AreInTurn : Table → ℕ → Option (List ℕ) → List (List Pair) → Type 0
AreInTurn t max after [] = Unit {0}
AreInTurn t max after (page ∷ pages) =
    IsPage t max after page × AreInTurn t max (last_key after page) pages

-- all that the pages tell, one page behind another
abbrev pub all_told : List (List Pair) → List Pair
all_told [] = []
all_told (page ∷ pages) = page ++ all_told pages

-- the entries with keys above this one, in order
abbrev pub pairs_above : Option (List ℕ) → Table → List Pair
pairs_above after t = map pair_of (entries_above after t)

-- all entries, in order
abbrev pub pairs_of : Table → List Pair
pairs_of t = map pair_of (fin.entries t)

-- so many pages tell `max` entries for each, or all that there are
abbrev pub PagesTellEachOnce : Table → ℕ → Type 0
PagesTellEachOnce t max =
    (after : Option (List ℕ)) (pages : List (List Pair)) → AreInTurn t max after pages
    → all_told pages ≡ take (length pages * max) (pairs_above after t)

-- over all pages the keys rise
abbrev pub KeysRise : Table → ℕ → Type 0
KeysRise t max =
    (after : Option (List ℕ)) (pages : List (List Pair)) → AreInTurn t max after pages
    → IsStrictlySortedBy name_cmp (map (λ p. p.key) (all_told pages))

-- a page with fewer entries than were asked for tells all that is left, and pages behind it tell
-- nothing
abbrev pub ShortPageIsLast : Table → ℕ → Type 0
ShortPageIsLast t max =
    (after : Option (List ℕ)) (page : List Pair) → IsPage t max after page → length page < max
    → (page ≡ pairs_above after t)
    × ((pages : List (List Pair)) → AreInTurn t max (last_key after page) pages
    → all_told pages ≡ [])

-- the last of these pages is short
abbrev pub EndShort : ℕ → List (List Pair) → Type 0
EndShort max [] = ⊥
EndShort max (page ∷ []) = length page < max
EndShort max (page ∷ next ∷ pages) = EndShort max (next ∷ pages)

-- pages that end with a short one tell all above their key; from the first entry on, that is all
abbrev pub PagesTellAll : Table → ℕ → Type 0
PagesTellAll t max =
    ((after : Option (List ℕ)) (pages : List (List Pair)) → AreInTurn t max after pages
    → EndShort max pages → all_told pages ≡ pairs_above after t)
    × (pairs_above None t ≡ pairs_of t)

-- full pages have no more room than there are entries
abbrev pub FullPagesAreFew : Table → ℕ → Type 0
FullPagesAreFew t max =
    (after : Option (List ℕ)) (pages : List (List Pair)) → AreInTurn t max after pages
    → AllByRecursion (λ page. length page ≡ max) pages
    → length pages * max ≤ length (pairs_above after t)

-- a reading from a key to a short page: it has room for one entry more than there are, and no page
-- more than that takes
pub record Reading (t : Table) (max : ℕ) (after : Option (List ℕ)) : Type 0 where
  pub pages : List (List Pair)
  pub in_turn : AreInTurn t max after pages
  pub short : EndShort max pages
  pub enough : length (pairs_above after t) < length pages * max
  pub few : length pages * max ≤ length (pairs_above after t) + max

-- reading ends
abbrev pub ReadingEnds : Table → ℕ → Type 0
ReadingEnds t max = (after : Option (List ℕ)) → 1 ≤ max → Reading t max after
