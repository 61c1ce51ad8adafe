-- How much the entries of a history weigh: 64 and the bytes that each carries.
use Rattle.std.specs.Prelude.{ℕ, ◌+◌, ◌-◌, ◌^◌, min, List, length, sum_by, Option, Some, None}
use Rattle.std.specs.FinMap as fin
use Rattle.obj_model.specs.Names.{name_cmp}
use Rattle.obj_model.specs.Vectors.{payload_of}
use Rattle.obj_model.specs.declared.out.Out.{Out}
use Rattle.obj_model.specs.declared.out.Pair.{Pair}
use Rattle.obj_model.specs.declared.out.Out.TheVariants.{Checked, Bytes, Size, Names, Pairs}
use Rattle.obj_model.specs.declared.state.Obj.{Obj}
use Rattle.tier_chron.specs.Logs.{Log}
use Rattle.tier_chron.specs.declared.answer.Answer.{Answer}
use Rattle.tier_chron.specs.declared.answer.Answer.TheVariants as answer
use Rattle.tier_chron.specs.declared.entries.First.{First}
use Rattle.tier_chron.specs.declared.entries.Act.{Act}
use Rattle.tier_chron.specs.declared.entries.Logged.{Logged}

-- a number as far as 64 bits hold it
abbrev pub cut : ℕ → ℕ
cut n = min n (2 ^ 64 - 1)

-- the keys and values of a table
abbrev pub table_weight : fin.FinMap name_cmp (List ℕ) → ℕ
table_weight t = sum_by (λ e. length e.0 + length e.1) (fin.entries t)

-- the body, keys and values of an object
abbrev pub obj_weight : Option Obj → ℕ
obj_weight None = 0
obj_weight (Some o) = length o.body + (table_weight o.attrs + table_weight o.omap)

-- a key with its value
abbrev pub pair_weight : Pair → ℕ
pair_weight p = length p.key + length p.value

-- the bytes and names that a sub-operation told
abbrev pub out_weight : Out → ℕ
out_weight Checked = 0
out_weight (Bytes bytes) = length bytes
out_weight (Size size) = 0
out_weight (Names keys) = sum_by length keys
out_weight (Pairs pairs) = sum_by pair_weight pairs

-- what an answer carries: its outs
abbrev pub answer_payload : Answer → ℕ
answer_payload (answer.Values ver outs) = sum_by out_weight outs
answer_payload other = 0

abbrev pub first_weight : First → ℕ
first_weight f = 64 + obj_weight f.state.obj

abbrev pub act_weight : Act → ℕ
act_weight a = 64 + payload_of a.req.vector

abbrev pub logged_weight : Logged → ℕ
logged_weight l = 64 + answer_payload l.answer

-- how many entries there are, and what they weigh together
abbrev pub entries_of : Log → ℕ
entries_of log = length log.opening + (length log.acts + length log.answers)

abbrev pub bytes_of : Log → ℕ
bytes_of log =
    sum_by first_weight log.opening
    + (sum_by act_weight log.acts + sum_by logged_weight log.answers)
