-- What is said of one line: it is what the plain store answers, and it was put into words.
use Rattle.std.proofs.Common.{◌≡◌, inl, inr, ◌<◌, ℕ, ◌+◌, Bool, true, List, [], ◌++◌, take, drop}
use Rattle.std.proofs.Common.{Option, Some, None, Result, Ok, Err, OnOk, refl, sym, ap, ap₂, subst}
use Rattle.std.proofs.Common.{◌∙◌}
use Rattle.std.proofs.lemmas.List.{take-append-drop}
use Rattle.log_store.specs.Views.{LogView, store_of}
use Rattle.obj_model.specs.declared.memory.NoMemory.{NoMemory}
use Rattle.obj_ops.specs.Stores.{Store}
use Rattle.report_text.specs.Lines.{call_text}
use Rattle.store_face.specs.Calls.{Stays}
use Rattle.store_face.specs.Tables.{Table}
use Rattle.store_face.specs.Views.{CrashMaps, Holds, no_map}
use Rattle.tier_chron.specs.declared.answer.Answer.{Answer}
use Rattle.tier_outside.specs.Causes.{Rose}
use Rattle.tier_outside.specs.Moments.{last}
use Rattle.tier_outside.specs.Streams.{StreamState}
use Rattle.tier_tool.specs.Bases.{HasRoom, IsUnreadable, StandsFor}
use Rattle.tier_tool.specs.Costs.{cost}
use Rattle.tier_tool.specs.Lines.{AnswersLine, LineAnswer, Standing, TellsFailure, behind_line}
use Rattle.tier_tool.specs.Lines.{disk_fault_text, line_answer_text}
use Rattle.tier_tool.specs.Lines.LineAnswer.{Given, NoRoom, BadRecord}
use Rattle.tier_tool.specs.Plain.{after}
use Rattle.tier_tool.specs.Steps.Serving.{IsAnswered, LineEnds, LineUses, SameUnreadable, WouldAct}
use Rattle.tier_tool.specs.Steps.Serving.{TakesCost, acts_more}
use Rattle.tier_tool.specs.Steps.Telling.{HasSaid, IsInWords, IsSaid, IsUnheard, IsUnwritten}
use Rattle.tier_tool.specs.Steps.Telling.{IsWritten, SayEnds, SaysFault, SaysLine}
use Rattle.tier_tool.specs.Steps.Telling.{Words}
use Rattle.tier_tool.specs.Tasks.{name_of}
use Rattle.tier_tool.specs.declared.base.LineFault.{LineFault}
use Rattle.tier_tool.specs.declared.base.LineFault.TheVariants as fault
use Rattle.tier_tool.specs.declared.saying.Unsaid.{Unsaid}
use Rattle.tier_tool.specs.declared.saying.Unsaid.TheVariants as unsaid
use Rattle.tier_tool.specs.declared.task.Numbered.{Numbered}
use Rattle.tool_jobs.specs.Putting.{Puts, Took}
use Rattle.tier_tool.proofs.Views.{At, now_same, now_two, now_weaker}

-- ---- one line

-- a line was answered
given_is : (n : Numbered) (a : Answer) (acted : Bool) (before acts : ℕ) (old new : LogView) → acts ≡ before + acts_more acted → LineEnds n.line (store_of old) (store_of new) (Ok (a, acted))
    → LineUses n.line old new (Ok (a, acted)) → IsSaid n (Given (record { number = n.number; answer = a; place = acts })) before acts old new
given_is n a acted before acts old new counted h uses = record {
  live = h.1;
  unreadable = now_weaker old.moments (λ s. IsAnswered n.line s.before.table (store_of new) a acted) (λ s. Holds (store_of new) (SameUnreadable s.before.table)) (λ s is. is.unreadable) h.0;
  from = now_two old.moments (λ s. IsAnswered n.line s.before.table (store_of new) a acted) (λ s. TakesCost n.line old new s.before.table)
      (λ s. (p : Standing) → p.plain.acts ≡ before → p.used ≡ old.used → StandsFor s.before.table p.plain.store
      → SaysLine s.before.table old.room p n (Given (record { number = n.number; answer = a; place = acts })) acts new)
      (λ s is took p was taken stands. plainly s.before.table is p was taken stands (took p.plain.store stands)) h.0 uses;
}
  where
    plainly : (t : Table) → IsAnswered n.line t (store_of new) a acted → (p : Standing) → p.plain.acts ≡ before → p.used ≡ old.used → StandsFor t p.plain.store
        → HasRoom old.room old.used p.plain.store n.line × (new.used ≡ old.used + cost p.plain.store n.line)
        → SaysLine t old.room p n (Given (record { number = n.number; answer = a; place = acts })) acts new
    plainly t is p was taken stands took =
        let h = is.plainly p.plain stands in
        let place : (after p.plain n.line).acts ≡ acts = h.1 ∙ ap (λ k. k + acts_more acted) was ∙ sym counted in
        record {
          behind = behind_line p n;
          says = (
            is.readable,
            ap₂ (λ x k. record { number = n.number; answer = x; place = k }) h.0 (sym place),
            subst (λ k. HasRoom old.room k p.plain.store n.line) (sym taken) took.0,
            refl,
          );
          counted = place;
          taken = ap (λ k. k + cost p.plain.store n.line) taken ∙ sym took.1;
          stands = h.2;
        }

-- a map that is the same stands so to itself
pub same_map : (a b : Option (List CrashMaps)) (P : Table → Table → Type 0) → b ≡ a → ((t : Table) → P t t) → At a (λ was. At b (λ s. P was.before.table s.before.table))
same_map None b P same each = tt
same_map (Some ss) b P same each = now_same (Some ss) b (λ s. P (last no_map ss).before.table s.before.table) (sym same) (each (last no_map ss).before.table)

-- a line of which this is said changed nothing
unchanged_is : (n : Numbered) (s : LineAnswer) (acts : ℕ) (old new : LogView) → old.live ≡ true → Stays (store_of old) (store_of new) → new.used ≡ old.used
    → Holds (store_of old) (λ t. (p : Standing) → p.used ≡ old.used → StandsFor t p.plain.store → AnswersLine t old.room p n s p) → IsSaid n s acts acts old new
unchanged_is n s acts old new live stays used says = record {
  live = stays.live ∙ live;
  unreadable = same_map old.moments new.moments SameUnreadable stays.moments (λ t name. (λ un. un, λ un. un));
  from = from old.moments stays.moments says;
}
  where
    from : (a : Option (List CrashMaps)) → new.moments ≡ a → At a (λ was. (p : Standing) → p.used ≡ old.used → StandsFor was.before.table p.plain.store → AnswersLine was.before.table old.room p n s p)
        → At a (λ was. (p : Standing) → p.plain.acts ≡ acts → p.used ≡ old.used → StandsFor was.before.table p.plain.store → SaysLine was.before.table old.room p n s acts new)
    from None same says = tt
    from (Some ss) same says =
        λ p counted taken stands. record {
          behind = p;
          says = says p taken stands;
          counted = counted;
          taken = taken ∙ sym used;
          stands = now_same (Some ss) new.moments (λ (u : CrashMaps). StandsFor u.before.table p.plain.store) (sym same) stands;
        }

no_room_is : (n : Numbered) (used more limit acts : ℕ) (old new : LogView) → old.live ≡ true → LineEnds n.line (store_of old) (store_of new) (Err (fault.NoSpace used more limit))
    → LineUses n.line old new (Err (fault.NoSpace used more limit)) → IsSaid n (NoRoom n.number used more limit) acts acts old new
no_room_is n used more limit acts old new live h uses =
    unchanged_is n (NoRoom n.number used more limit) acts old new live h.2 uses.3
    (now_two old.moments (λ s. WouldAct n.line s.before.table) (λ s. (store : Store) → StandsFor s.before.table store → more ≡ cost store n.line)
    (λ s. (p : Standing) → p.used ≡ old.used → StandsFor s.before.table p.plain.store → AnswersLine s.before.table old.room p n (NoRoom n.number used more limit) p)
    (λ s is costs p taken stands. (
      is.0,
      is.1 p.plain.store stands,
      refl,
      uses.0 ∙ sym taken,
      costs p.plain.store stands,
      uses.1,
      subst (λ k. old.room < k + more) (sym uses.0) uses.2,
      refl,
    )) h.0 uses.4)

bad_record_is : (n : Numbered) (name : List ℕ) (acts : ℕ) (old new : LogView) → name ≡ name_of n.line → old.live ≡ true → LineEnds n.line (store_of old) (store_of new) (Err fault.BadRecord)
    → LineUses n.line old new (Err fault.BadRecord) → IsSaid n (BadRecord n.number name) acts acts old new
bad_record_is n name acts old new same live h uses =
    unchanged_is n (BadRecord n.number name) acts old new live h.1 uses
    (now_weaker old.moments (λ s. IsUnreadable s.before.table (name_of n.line))
    (λ s. (p : Standing) → p.used ≡ old.used → StandsFor s.before.table p.plain.store → AnswersLine s.before.table old.room p n (BadRecord n.number name) p)
    (λ s is p taken stands. (subst (IsUnreadable s.before.table) (sym same) is, refl, same, refl)) h.0)

-- a text was written, unless memory lacked
pub is_written : (P : Type 0) (written : Result (Unit {0}) NoMemory)
    (result : Result (Unit {0}) Unsaid) → IsInWords written result → OnOk written P
    → IsWritten P result
is_written P (Ok done) result is h = subst (IsWritten P) (sym is) h
is_written P (Err lacking) result is h = subst (IsWritten P) (sym is) tt

-- what is said of a line was written
written_is : (n : Numbered) (s : LineAnswer) (before acts : ℕ) (old new : LogView)
    (cleared text : List ℕ) (result : Result (Unit {0}) Unsaid) (disk_rose : Type 0)
    → cleared ≡ [] → IsWritten (text ≡ cleared ++ line_answer_text s) result → IsSaid n s before acts old new
    → SayEnds n before acts old new text result disk_rose
written_is n s before acts old new cleared text (Ok done) rose empty is said =
    record { said = s; text_is = is ∙ ap (λ w. w ++ line_answer_text s) empty; is = said }
written_is n s before acts old new cleared text (Err unsaid.Disk) rose empty is said = absurd is
written_is n s before acts old new cleared text (Err unsaid.NoMemory) rose empty is said = absurd is
written_is n s before acts old new cleared text (Err unsaid.Unwritten) rose empty is said =
    record { said = s; is = said }

-- a line was answered, and its answer put into words
pub answer_said : (n : Numbered) (a : Answer) (acted : Bool) (before acts : ℕ) (old new : LogView)
    (cleared text : List ℕ) (written : Result (Unit {0}) NoMemory)
    (result : Result (Unit {0}) Unsaid) (disk_rose : Type 0) → cleared ≡ []
    → acts ≡ before + acts_more acted
    → LineEnds n.line (store_of old) (store_of new) (Ok (a, acted))
    → LineUses n.line old new (Ok (a, acted)) → IsInWords written result
    → OnOk written (text ≡ cleared ++ call_text n.number acts a)
    → SayEnds n before acts old new text result disk_rose
answer_said n a acted before acts old new cleared text written result rose empty counted h uses is
    text_is =
    let s = Given (record { number = n.number; answer = a; place = acts }) in
    written_is n s before acts old new cleared text result rose empty
    (is_written (text ≡ cleared ++ line_answer_text s) written result is text_is)
    (given_is n a acted before acts old new counted h uses)

-- a line was not carried out, and why was put into words
pub fault_said : (n : Numbered) (f : LineFault) (acts : ℕ) (old new : LogView)
    (cleared text : List ℕ) (result : Result (Unit {0}) Unsaid) → cleared ≡ [] → old.live ≡ true
    → LineEnds n.line (store_of old) (store_of new) (Err f) → LineUses n.line old new (Err f)
    → SaysFault n f cleared text result
    → SayEnds n acts acts old new text result (Rose old.faults new.faults)
fault_said n (fault.NoSpace used more limit) acts old new cleared text result empty live h uses says =
    written_is n (NoRoom n.number used more limit) acts acts old new cleared text result
    (Rose old.faults new.faults) empty says
    (no_room_is n used more limit acts old new live h uses)
fault_said n fault.BadRecord acts old new cleared text result empty live h uses says =
    written_is n (BadRecord n.number (name_of n.line)) acts acts old new cleared text result
    (Rose old.faults new.faults) empty says
    (bad_record_is n (name_of n.line) acts old new refl live h uses)
fault_said n fault.Disk acts old new cleared text result empty live h uses says =
    subst (λ r. SayEnds n acts acts old new text r (Rose old.faults new.faults)) (sym says)
    (h.0, h.1.rose)
fault_said n fault.NoMemory acts old new cleared text result empty live h uses says =
    subst (λ r. SayEnds n acts acts old new text r (Rose old.faults new.faults)) (sym says)
    (uses, refl)

-- ---- the sink

-- the sink failed at the text of a line
pub unheard_is : (n : Numbered) (before acts count : ℕ) (old new : LogView) (sink_rose : Type 0)
    (piece : List ℕ) → sink_rose → Words n before acts old new piece
    → IsUnheard n before acts old new sink_rose (take count piece) 8
unheard_is n before acts count old new sink_rose piece cause words = record {
  said = words.said;
  is = words.is;
  ended = refl;
  cause = cause;
  front = record {
    rest = drop count piece;
    joined = take-append-drop count piece ∙ words.text_is;
  };
}

-- memory lacked for the text of a line
pub unwritten_is : (n : Numbered) (before acts : ℕ) (old new : LogView)
    → HasSaid n before acts old new → IsUnwritten n before acts old new [] 9
unwritten_is n before acts old new h =
    record { said = h.said; is = h.is; ended = refl; silent = refl }

-- that the disk failed in a line was told, or the sink failed in it
pub tells_failure : (n : Numbered) (text : List ℕ) (old new : StreamState) (status : ℕ)
    → text ≡ disk_fault_text n.number → Puts text 6 old new status
    → Took old.bytes new.bytes (λ put. TellsFailure (Rose old.faults new.faults) n put status)
tells_failure n text old new status is (inl all) = (text, all.all, inl (all.ended, inl is))
tells_failure n text old new status is (inr failed) =
    let count = failed.front.count in (
      take count text,
      failed.front.gained,
      inr (
        failed.ended,
        failed.cause,
        record { rest = drop count text; joined = take-append-drop count text ∙ is },
      ),
    )
