-- What lines of a script ask of the base, and the first line that asks for something else.
use Rattle.std.specs.Prelude.{◌≡◌, ◌≤◌, ℕ, Bool, true, false, List, ◌∷◌, ◌++◌, map, Option}
use Rattle.std.specs.Prelude.{Some, None}
use Rattle.std.specs.List.{list_any}
use Rattle.obj_model.specs.SubOps.{is_write}
use Rattle.script_lang.specs.Spelling.{IsAddressed}
use Rattle.script_lang.specs.declared.line.Line.{Line}
use Rattle.script_lang.specs.declared.line.Line.TheVariants as line
use Rattle.script_lang.specs.declared.line.Numbered as lang
use Rattle.tier_tool.specs.declared.task.Numbered.{Numbered}
use Rattle.tier_tool.specs.declared.task.Task.{Task}
use Rattle.tier_tool.specs.declared.task.Task.TheVariants as task
use Rattle.tier_tool.specs.declared.task.Untold.{Untold}
use Rattle.tier_tool.specs.declared.task.Untold.TheVariants.{Unbuilt, NoMemory}
use Rattle.obj_model.specs.Limits.{number_limit}

-- the name that a line speaks of
abbrev pub name_of : Task → List ℕ
name_of (task.Op req) = req.name
name_of (task.Get client name vector) = name

-- the line that asks this
abbrev pub line_of : Task → Line
line_of (task.Op req) = line.Op req
line_of (task.Get client name vector) = line.Get client name vector

-- the same with its number
abbrev pub as_line : Numbered → lang.Numbered
as_line n = record { number = n.number; line = line_of n.line }

-- the lines whose verbs are built: requests and readings
abbrev pub is_built : Line → Bool
is_built (line.Op req) = true
is_built (line.Get client name vector) = true
is_built other = false

-- a line asks this; or its verb is not built
abbrev pub AsksFor : Line → Option Task → Type 0
AsksFor l (Some t) = l ≡ line_of t
AsksFor l None = is_built l ≡ false

-- a request within its limits, which writes; or a reading, which does not
abbrev pub IsTask : Task → Type 0
IsTask (task.Op req) =
    IsAddressed req.client req.name req.vector × (req.tid ≤ number_limit)
    × (list_any is_write req.vector ≡ true)
IsTask (task.Get client name vector) =
    IsAddressed client name vector × (list_any is_write vector ≡ false)

-- the first line whose verb is not built has this number
pub record IsFirstUnbuilt (lines : List lang.Numbered) (number : ℕ) : Type 0 where
  pub before : List Numbered
  pub first : lang.Numbered
  pub others : List lang.Numbered
  pub split : lines ≡ map as_line before ++ first ∷ others
  pub unbuilt : is_built first.line ≡ false
  pub counted : number ≡ first.number

-- why lines are not carried out; want of memory is free
abbrev pub Refuses : List lang.Numbered → Untold → Type 0
Refuses lines (Unbuilt number) = IsFirstUnbuilt lines number
Refuses lines NoMemory = Unit {0}
