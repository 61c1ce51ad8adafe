-- The text of each answer.
use Rattle.std.specs.Prelude.{ℕ, List, ◌++◌, codes}
use Rattle.report_text.specs.Words.{key_text, kept_text, kind_text, number_text, outs_text, pool_text, standing_text, why_text}
use Rattle.script_lang.specs.Spelling.{mode_word}
use Rattle.tier_chron.specs.declared.answer.AgentDid.{AgentDid}
use Rattle.tier_chron.specs.declared.answer.AgentDid.TheVariants as did
use Rattle.tier_chron.specs.declared.answer.Answer.{Answer}
use Rattle.tier_chron.specs.declared.answer.Answer.TheVariants as answer

-- what a turn of the agent did
abbrev pub did_text : AgentDid → List ℕ
did_text (did.Evicted name seq) = codes "evicted" ++ key_text name ++ number_text seq
did_text (did.Flushed name seq) = codes "flushed" ++ key_text name ++ number_text seq
did_text (did.Again name flushed now) =
    codes "again" ++ key_text name ++ number_text flushed ++ number_text now
did_text did.Nothing = codes "nothing"

-- an answer, given at this place
abbrev pub answer_text : ℕ → Answer → List ℕ
answer_text place (answer.Done ver kept) = codes "done" ++ standing_text ver place ++ kept_text kept
answer_text place (answer.Refused at why ver kept) =
    codes "refused" ++ number_text at ++ codes " " ++ why_text why ++ standing_text ver place
    ++ kept_text kept
answer_text place (answer.Values ver outs) =
    codes "values" ++ standing_text ver place ++ codes " " ++ outs_text outs
answer_text place (answer.Stale kept) = codes "stale" ++ number_text kept
answer_text place (answer.Worn limit) = codes "worn" ++ number_text limit
answer_text place (answer.Blocked kind opid) =
    codes "blocked " ++ kind_text kind ++ number_text opid
answer_text place (answer.Full micro) = codes "full" ++ number_text micro
answer_text place (answer.Restarted was now) =
    codes "restarted" ++ number_text was ++ number_text now
answer_text place (answer.Flushed seq) = codes "flushed" ++ number_text seq
answer_text place answer.Clean = codes "clean"
answer_text place answer.Absent = codes "absent"
answer_text place (answer.Again flushed now) =
    codes "again" ++ number_text flushed ++ number_text now
answer_text place (answer.Evicted seq) = codes "evicted" ++ number_text seq
answer_text place (answer.Dirty seq) = codes "dirty" ++ number_text seq
answer_text place (answer.Begun opid) = codes "begun" ++ number_text opid
answer_text place answer.NoBegun = codes "nothing"
answer_text place answer.Drained = codes "drained"
answer_text place (answer.Left count name kind opid) =
    codes "left" ++ number_text count ++ key_text name ++ codes " " ++ kind_text kind
    ++ number_text opid
answer_text place (answer.NotProxy mode) = codes "notproxy " ++ mode_word mode
answer_text place (answer.Agent did) = codes "agent " ++ did_text did
answer_text place (answer.NoSpace pool used need limit) =
    codes "nospace " ++ pool_text pool ++ number_text used ++ number_text need ++ number_text limit
answer_text place (answer.HistoryFull entries bytes) =
    codes "historyfull" ++ number_text entries ++ number_text bytes
answer_text place (answer.DiskFault pool) = codes "fault " ++ pool_text pool
answer_text place (answer.Damaged pool at) = codes "damaged " ++ pool_text pool ++ number_text at
answer_text place (answer.BadRecord pool name) =
    codes "badrecord " ++ pool_text pool ++ key_text name
answer_text place answer.NoMemory = codes "nomemory"
