-- The text of each line.
use Rattle.std.specs.Prelude.{ℕ, Bool, true, false, List, [], ◌∷◌, ◌++◌, length, decimal, codes, Option, Some, None}
use Rattle.std.specs.List.{flat_map}
use Rattle.std.specs.FinMap as fin
use Rattle.obj_model.specs.declared.state.NameState.{NameState}
use Rattle.obj_model.specs.declared.state.Obj.{Obj}
use Rattle.obj_model.specs.declared.tier.Path.{Path}
use Rattle.report_text.specs.Answers.{answer_text}
use Rattle.report_text.specs.Words.{key_text, number_text, path_text, reply_text}
use Rattle.report_text.specs.declared.told.Told.{Told}
use Rattle.report_text.specs.declared.told.Told.TheVariants as told
use Rattle.script_lang.specs.Spelling.{mode_word}
use Rattle.tier_chron.specs.declared.answer.Answer.{Answer}
use Rattle.tier_chron.specs.declared.entries.Act.{Act}

-- the path of an answer that has one, where paths are asked for
abbrev pub way_text : Bool → Option Path → List ℕ
way_text true (Some path) = codes " " ++ path_text path
way_text true None = []
way_text false path = []

-- what is told of one group
abbrev pub told_text : Bool → Told → List ℕ
told_text paths (told.Answered answer path place) =
    answer_text place answer.now ++ way_text paths path
told_text paths (told.Mode mode) = codes "mode " ++ mode_word mode
told_text paths (told.Time moment) = codes "time" ++ number_text moment
told_text paths (told.CacheStopped epoch) = codes "stopped cache epoch" ++ number_text epoch
told_text paths told.BaseStopped = codes "stopped base"

-- what is told of one more group
abbrev pub next_told_text : Bool → Told → List ℕ
next_told_text paths t = codes " ; " ++ told_text paths t

-- what is told of groups, with a semicolon between two
abbrev pub all_told_text : Bool → List Told → List ℕ
all_told_text paths [] = []
all_told_text paths (first ∷ others) =
    told_text paths first ++ flat_map (next_told_text paths) others

-- a line's answers: its number, a space, what is told, and a newline
abbrev pub line_text : Bool → ℕ → List Told → List ℕ
line_text paths number all = decimal number ++ codes " " ++ all_told_text paths all ++ codes "\n"

-- the line of a client's call that one group answered, without its path
abbrev pub call_text : ℕ → ℕ → Answer → List ℕ
call_text number place a = decimal number ++ codes " " ++ answer_text place a ++ codes "\n"

-- an act of a group's history, by its number
abbrev pub act_text : ℕ → ℕ → Act → List ℕ
act_text group number a =
    codes "act" ++ number_text group ++ number_text number ++ number_text a.req.client
    ++ number_text a.req.tid
    ++ key_text a.req.name ++ codes " " ++ reply_text a.reply ++ codes "\n"

-- what an object has
abbrev pub obj_text : Option Obj → List ℕ
obj_text None = codes "gone"
obj_text (Some o) =
    codes "bytes" ++ number_text (length o.body) ++ codes " attrs" ++ number_text (fin.len o.attrs)
    ++ codes " omap" ++ number_text (fin.len o.omap)

-- a state, without its bytes
abbrev pub state_text : NameState → List ℕ
state_text s =
    codes "v" ++ decimal s.ver ++ codes " q" ++ decimal s.seq ++ codes " " ++ obj_text s.obj
    ++ codes " ids"
    ++ number_text (length s.seen)

-- whether a record has been written back
abbrev pub status_text : Bool → List ℕ
status_text true = codes "dirty"
status_text false = codes "clean"

-- a record of the cache
abbrev pub cache_text : ℕ → List ℕ → Bool → NameState → List ℕ
cache_text group name dirty s =
    codes "cache" ++ number_text group ++ key_text name ++ codes " " ++ status_text dirty
    ++ codes " " ++ state_text s ++ codes "\n"

-- a state of the base
abbrev pub base_text : ℕ → List ℕ → NameState → List ℕ
base_text group name s =
    codes "base" ++ number_text group ++ key_text name ++ codes " " ++ state_text s ++ codes "\n"
