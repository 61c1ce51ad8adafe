-- What private steps of a gather do.
use Rattle.std.specs.Prelude.{◌≡◌, ℕ, Bool, true, false, List, Option, ◌++◌, map, if◌then◌else◌}
use Rattle.std.specs.Prelude.{Some, None}
use Rattle.std.specs.List.Sorted.{IsStrictlySortedBy}
use Rattle.std.specs.FinMap as fin
use Rattle.obj_model.specs.Names.{name_cmp}
use Rattle.obj_model.specs.States.{IsState}
use Rattle.obj_model.specs.declared.out.Pair.{Pair}
use Rattle.obj_model.specs.declared.state.NameState.{NameState}
use Rattle.copy_chunk.specs.declared.chunk.Chunk.{Chunk}
use Rattle.copy_chunk.specs.declared.chunk.Cursor.{Cursor}
use Rattle.copy_chunk.specs.declared.chunk.Part.{Part}
use Rattle.copy_chunk.specs.declared.draft.Draft.{Draft}
use Rattle.copy_chunk.specs.Chunks.{Entry, entry_of}
use Rattle.copy_chunk.specs.Gathers.{with_part, part_fits, table_fits, body_fits, made, wanted}
use Rattle.copy_chunk.specs.Gathers.{IsChain}

-- the state that a draft is
abbrev pub state_of : Draft → NameState
state_of d = record {
  ver = d.ver;
  seq = d.seq;
  obj = if d.present then Some (record {
    body = d.body.items;
    attrs = fin.from_entries d.attrs.entries;
    omap = fin.from_entries d.omap.entries;
  }) else None;
  seen = d.seen;
}

-- keys that rise
abbrev pub IsRising : List Entry → Type 0
IsRising es = IsStrictlySortedBy name_cmp (map (λ e. e.0) es)

-- pairs that a table can take are behind its entries now, and others changed nothing
abbrev pub PutsTable : ℕ → List Pair → List Entry → Bool → List Entry → Type 0
PutsTable most ps old true new = (table_fits most old ps ≡ true) × (new ≡ old ++ map entry_of ps)
PutsTable most ps old false new = (table_fits most old ps ≡ false) × (new ≡ old)

-- bytes that a body can take are behind it now, and others changed nothing
abbrev pub PutsBody : List ℕ → List ℕ → Bool → List ℕ → Type 0
PutsBody bytes old true new = (body_fits old bytes ≡ true) × (new ≡ old ++ bytes)
PutsBody bytes old false new = (body_fits old bytes ≡ false) × (new ≡ old)

-- a part that fits is there now, and another one changed nothing
abbrev pub Puts : Cursor → Part → NameState → Bool → NameState → Type 0
Puts at part old true new = (part_fits old at part ≡ true) × (new ≡ with_part old at part)
Puts at part old false new = (part_fits old at part ≡ false) × (new ≡ old)

-- what a gather holds of the chunks that it took
pub record IsGathered (s : NameState) (at : Option Cursor) (cs : List Chunk) : Type 0 where
  pub state : s ≡ made cs
  pub place : at ≡ wanted cs
  pub chain : IsChain cs
  pub lawful : IsState (made cs)
