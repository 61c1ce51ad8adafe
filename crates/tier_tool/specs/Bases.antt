-- What the map of a base pool says of objects, and whether a line has room.
use Rattle.std.specs.Prelude.{◌≡◌, ◌⊎◌, ◌≤◌, ℕ, ◌+◌, List, Option, Some, None}
use Rattle.std.specs.FinMap as fin
use Rattle.obj_model.specs.declared.state.NameState.{NameState}
use Rattle.obj_ops.specs.Acts.{act}
use Rattle.obj_ops.specs.Stores.{Store, state_of}
use Rattle.obj_ops.specs.declared.request.Acted.{Acted}
use Rattle.obj_ops.specs.declared.request.Acted.TheVariants.{Fresh, Again, Stale, Worn}
use Rattle.rec_codec.specs.Spelling.{SpellsState}
use Rattle.store_face.specs.Tables.{Table}
use Rattle.store_face.specs.Views.{Durable}
use Rattle.tier_tool.specs.Costs.{cost, state_key}
use Rattle.tier_tool.specs.Plain.{Plain, after}
use Rattle.tier_tool.specs.declared.task.Task.{Task}
use Rattle.tier_tool.specs.declared.task.Task.TheVariants.{Op, Get}

-- a name has a state that its key's value spells; a name has none where it has no value, or one
-- that spells none
abbrev pub IsSpelled : Option (List ℕ) → Option NameState → Type 0
IsSpelled None None = Unit {0}
IsSpelled None (Some s) = ⊥
IsSpelled (Some bytes) None = (s : NameState) → ¬ SpellsState bytes s
IsSpelled (Some bytes) (Some s) = SpellsState bytes s

-- The map of a base pool stands for a plain object store: each name has in the store the state that
-- its value in the map spells.
pub record StandsFor (t : Table) (store : Store) : Type 0 where
  pub each : (name : List ℕ) → IsSpelled (fin.get t (state_key name)) (fin.get store name)

-- the map has a value for a name that spells no state
pub record IsUnreadable (t : Table) (name : List ℕ) : Type 0 where
  pub bytes : List ℕ
  pub there : fin.get t (state_key name) ≡ Some bytes
  pub none : (s : NameState) → ¬ SpellsState bytes s

-- a request acts
abbrev pub IsFresh : Acted → Type 0
IsFresh (Fresh state reply) = Unit {0}
IsFresh (Again reply) = ⊥
IsFresh (Stale kept) = ⊥
IsFresh (Worn limit) = ⊥

-- a line is a request that acts
abbrev pub ActsOn : Store → Task → Type 0
ActsOn store (Op req) = IsFresh (act (state_of store req.name) req)
ActsOn store (Get client name vector) = ⊥

-- What a crash leaves stands for the store before a line, with so much used; or for the one after
-- it, with its cost used too.
abbrev pub BeforeOrAfter : Plain → Task → (used : ℕ) → Durable → Type 0
BeforeOrAfter p line used d =
    (StandsFor d.table p.store × (d.used ≡ used))
    ⊎ (StandsFor d.table (after p line).store × (d.used ≡ used + cost p.store line))

-- a line that acts has room
abbrev pub HasRoom : (room used : ℕ) → Store → Task → Type 0
HasRoom room used store line = ActsOn store line → used + cost store line ≤ room
