-- The texts of why a script or a disk is refused, and of a script that is accepted.
use Rattle.std.specs.Prelude.{ℕ, List, ◌++◌, decimal, codes}
use Rattle.obj_model.specs.declared.change.Pool.{Pool}
use Rattle.report_text.specs.Words.{number_text, pool_text}
use Rattle.script_lang.specs.declared.cause.Cause.{Cause}
use Rattle.script_lang.specs.declared.cause.Cause.TheVariants as cause

-- why a line of a script is wrong
abbrev pub cause_text : Cause → List ℕ
cause_text cause.Byte = codes "byte"
cause_text cause.Words = codes "words"
cause_text (cause.LeftOut word) = codes "left-out " ++ word
cause_text cause.Verb = codes "verb"
cause_text cause.Subop = codes "subop"
cause_text cause.Mode = codes "mode"
cause_text cause.Number = codes "number"
cause_text cause.Client = codes "client"
cause_text cause.Name = codes "name"
cause_text cause.Hex = codes "hex"
cause_text cause.Many = codes "many"
cause_text (cause.Mixed place) = codes "mixed " ++ decimal place
cause_text cause.Heavy = codes "heavy"
cause_text cause.Time = codes "time"
cause_text cause.Par = codes "par"
cause_text cause.Long = codes "long"
cause_text cause.Lines = codes "lines"

-- a script whose first wrong line is this one
abbrev pub fault_text : ℕ → Cause → List ℕ
fault_text line why =
    codes "script " ++ decimal line ++ codes " " ++ cause_text why ++ codes "\n"

-- a script whose first line of a verb that is not carried out yet is this one
abbrev pub unbuilt_text : ℕ → List ℕ
unbuilt_text line = codes "script " ++ decimal line ++ codes " unbuilt\n"

-- a script that is accepted, with so many lines that are neither blank nor comments
abbrev pub accepted_text : ℕ → List ℕ
accepted_text lines = codes "ok " ++ decimal lines ++ codes "\n"

-- a disk, by its pool and its group
abbrev pub image_text : Pool → ℕ → List ℕ
image_text pool group = codes "image " ++ pool_text pool ++ number_text group

-- a disk with something at this offset that is no log of the pool
abbrev pub bad_image_text : Pool → ℕ → ℕ → List ℕ
bad_image_text pool group at =
    image_text pool group ++ codes " bad" ++ number_text at ++ codes "\n"

-- a disk of another pair than the one wanted
abbrev pub wrong_pair_text : Pool → ℕ → ℕ → ℕ → List ℕ
wrong_pair_text pool group found want =
    image_text pool group ++ codes " pair" ++ number_text found ++ number_text want ++ codes "\n"
