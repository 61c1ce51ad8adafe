-- What was told so far, and how a run of lines ends.
use Rattle.std.proofs.Common.{◌≡◌, inl, inr, ℕ, true, List, [], ◌∷◌, ◌++◌, Option, Some, None, Err}
use Rattle.std.proofs.Common.{refl, sym, ap, ap₂, subst, ◌∙◌, append_assoc}
use Rattle.std.proofs.lemmas.List.{append-nil}
use Rattle.log_store.specs.Commits.{SameStore}
use Rattle.log_store.specs.Views.{LogView, store_of}
use Rattle.obj_ops.specs.Stores.{Store}
use Rattle.store_face.specs.Tables.{Table}
use Rattle.store_face.specs.Views.{CrashMaps, Durable, Holds, IsOne, Now, Sound, no_map}
use Rattle.tier_outside.specs.Moments.{grown, last}
use Rattle.tier_tool.specs.Bases.{BeforeOrAfter, StandsFor}
use Rattle.tier_tool.specs.Lines.{Ending, IsBehind, IsLeft, AnswersLine, LineAnswer, AnswersLines, Standing}
use Rattle.tier_tool.specs.Lines.{TellsFailure, line_answer_text, standing, texts_of}
use Rattle.tier_tool.specs.Lines.Ending.{Failed, Lacking, Unheard, Unwritten, Whole}
use Rattle.tier_tool.specs.Lines.LineAnswer.{Given, NoRoom, BadRecord}
use Rattle.tier_tool.specs.Steps.Serving.{GoesOn, InDoubt, SameUnreadable}
use Rattle.tier_tool.specs.Steps.Telling.{FailsIn, IsSaid, IsUnheard, IsUnwritten, LacksIn}
use Rattle.tier_tool.specs.Steps.Telling.{SaysFrom, SaysLine, SaysSoFar, TellsLine, TellsLines}
use Rattle.tier_tool.specs.Steps.Telling.{ToldSoFar, Words}
use Rattle.tier_tool.specs.Tasks.{name_of}
use Rattle.tier_tool.specs.declared.task.Numbered.{Numbered}
use Rattle.tier_tool.proofs.LineAnswer.{same_map}
use Rattle.tier_tool.proofs.Views.{At, goes_further, nothing_came, now_same, now_then}
use Rattle.tier_tool.proofs.Views.{now_two, now_weaker}

-- ---- lines, one after another

-- one more line was said
says_more : (t : Table) (room : ℕ) (p q m : Standing) (n : Numbered) (s : LineAnswer) (lines rest : List Numbered) (said : List LineAnswer) → AnswersLines t room p lines said (n ∷ rest) q
    → AnswersLine t room q n s m → AnswersLines t room p lines (said ++ s ∷ []) rest m
says_more t room p q m n s [] rest [] says more = absurd (nil_cons says.0)
  where
    nil_cons : n ∷ rest ≡ [] → ⊥
    nil_cons e = cc
says_more t room p q m n s (l ∷ lines) rest [] says more =
    let same : l ≡ n = cc in
    let others : rest ≡ lines = cc in
    (m, subst (λ w. AnswersLine t room p w s m) (sym same) (subst (λ w. AnswersLine t room w n s m) says.1 more), (others, refl))
says_more t room p q m n s [] rest (x ∷ said) says more = absurd says
says_more t room p q m n s (l ∷ lines) rest (x ∷ said) says more = (says.0, says.1, says_more t room says.0 q m n s lines rest said says.2 more)

-- what is said of a line speaks of the names that are unreadable, which stay the same
same_says : (t u : Table) (room : ℕ) (p q : Standing) (n : Numbered) (s : LineAnswer) → SameUnreadable t u → AnswersLine u room p n s q → AnswersLine t room p n s q
same_says t u room p q n (Given a) same says = (λ un. says.0 ((same (name_of n.line)).1 un), says.1, says.2, says.3)
same_says t u room p q n (NoRoom number used more limit) same says =
    (λ un. says.0 ((same (name_of n.line)).1 un), says.1, says.2, says.3, says.4, says.5, says.6, says.7)
same_says t u room p q n (BadRecord number name) same says = ((same name).0 says.0, says.1, says.2, says.3)

texts_more : (said : List LineAnswer) (s : LineAnswer) → texts_of (said ++ s ∷ []) ≡ texts_of said ++ line_answer_text s
texts_more [] s = append-nil (line_answer_text s)
texts_more (x ∷ said) s = ap (λ w. line_answer_text x ++ w) (texts_more said s) ∙ sym (append_assoc (line_answer_text x) (texts_of said) (line_answer_text s))

-- what was said so far, and of one more line
more_so_far : (t u : Table) (room : ℕ) (began : Standing) (lines rest : List Numbered) (n : Numbered) (said : List LineAnswer) (s : LineAnswer) (before acts : ℕ) (mid new : LogView) → SameUnreadable t u
    → (so : SaysSoFar t room began lines (n ∷ rest) said before mid) → StandsFor u so.behind.plain.store
    → ((p : Standing) → p.plain.acts ≡ before → p.used ≡ mid.used → StandsFor u p.plain.store → SaysLine u room p n s acts new)
    → SaysSoFar t room began lines rest (said ++ s ∷ []) acts new
more_so_far t u room began lines rest n said s before acts mid new same so stands from =
    let line = from so.behind so.counted so.taken stands in
    record {
      behind = line.behind;
      says = says_more t room began so.behind line.behind n s lines rest said so.says (same_says t u room so.behind line.behind n s same line.says);
      counted = line.counted;
      taken = line.taken;
      stands = line.stands;
    }

-- the store stayed the same over two calls
pub same_store : (a b c : LogView) → SameStore a b → SameStore b c → SameStore a c
same_store a b c h k = record { role = k.role ∙ h.role; pair = k.pair ∙ h.pair; room = k.room ∙ h.room }

-- one more line was told
told_more : (lines rest : List Numbered) (n : Numbered) (before acts : ℕ) (old mid new : LogView) (put piece : List ℕ) → Sound (store_of new) → SameStore mid new
    → GoesOn (store_of mid) (store_of new) → ToldSoFar lines (n ∷ rest) before old mid put → Words n before acts mid new piece → ToldSoFar lines rest acts old new (put ++ piece)
told_more lines rest n before acts old mid new put piece sound same goes so words = record {
  said = so.said ++ words.said ∷ [];
  put_is = ap₂ (λ a b. a ++ b) so.put_is words.text_is ∙ sym (texts_more so.said words.said);
  live = words.is.live;
  sound = sound;
  same = same_store old mid new so.same same;
  goes_on = goes_further (store_of old) (store_of mid) (store_of new) so.goes_on goes;
  unreadable = now_then old.moments mid.moments new.moments so.goes_on.more
      (λ x y. SameUnreadable x.before.table y.before.table) (λ y z. SameUnreadable y.before.table z.before.table) (λ x z. SameUnreadable x.before.table z.before.table) so.goes_on.grew
      (λ x y z h k name. (λ un. (h name).0 ((k name).0 un), λ un. (k name).1 ((h name).1 un))) so.unreadable words.is.unreadable;
  from = from old.moments so.goes_on.grew so.from so.unreadable;
}
  where
    Next : ℕ → Table → Type 0
    Next room u = (p : Standing) → p.plain.acts ≡ before → p.used ≡ mid.used → StandsFor u p.plain.store → SaysLine u room p n words.said acts new

    from : (a : Option (List CrashMaps)) → mid.moments ≡ grown a so.goes_on.more
        → At a (λ x. (store : Store) → StandsFor x.before.table store → SaysSoFar x.before.table old.room (standing store old.used) lines (n ∷ rest) so.said before mid)
        → At a (λ x. At mid.moments (λ y. SameUnreadable x.before.table y.before.table))
        → At a (λ x. (store : Store) → StandsFor x.before.table store → SaysSoFar x.before.table old.room (standing store old.used) lines rest (so.said ++ words.said ∷ []) acts new)
    from None grew says same = tt
    from (Some xs) grew says same =
        λ store stands.
        let there = Some (xs ++ so.goes_on.more) in
        let y = last no_map (xs ++ so.goes_on.more) in
        let at = says store stands in
        more_so_far (last no_map xs).before.table y.before.table old.room (standing store old.used) lines rest n so.said words.said before acts mid new
        (now_same mid.moments there (λ z. SameUnreadable (last no_map xs).before.table z.before.table) grew same) at
        (now_same mid.moments there (λ z. StandsFor z.before.table at.behind.plain.store) grew at.stands)
        (subst (λ room. Next room y.before.table) so.same.room (now_same mid.moments there (λ z. Next mid.room z.before.table) grew words.is.from))

-- of the lines that were left the first was told
pub told_next : (lines left rest : List Numbered) (n : Numbered) (before acts : ℕ) (old mid new : LogView) (put piece : List ℕ) → left ≡ n ∷ rest → Sound (store_of new) → SameStore mid new
    → GoesOn (store_of mid) (store_of new) → ToldSoFar lines left before old mid put → Words n before acts mid new piece → ToldSoFar lines rest acts old new (put ++ piece)
told_next lines left rest n before acts old mid new put piece here sound same goes so words =
    told_more lines rest n before acts old mid new put piece sound same goes (subst (λ ls. ToldSoFar lines ls before old mid put) here so) words

-- nothing was told yet
pub told_none : (lines : List Numbered) (v : LogView) → Sound (store_of v) → v.live ≡ true → ToldSoFar lines lines 0 v v []
told_none lines v sound live = record {
  said = [];
  put_is = refl;
  live = live;
  sound = sound;
  same = record { role = refl; pair = refl; room = refl };
  goes_on = nothing_came (store_of v);
  unreadable = same_map v.moments v.moments SameUnreadable refl (λ t name. (λ un. un, λ un. un));
  from = from v.moments refl;
}
  where
    from : (a : Option (List CrashMaps)) → v.moments ≡ a → At a (λ x. (store : Store) → StandsFor x.before.table store → SaysSoFar x.before.table v.room (standing store v.used) lines lines [] 0 v)
    from None same = tt
    from (Some xs) same =
        λ store stands. record {
          behind = standing store v.used;
          says = (refl, refl);
          counted = refl;
          taken = refl;
          stands = now_same (Some xs) v.moments (λ (z : CrashMaps). StandsFor z.before.table store) (sym same) stands;
        }

-- ---- how a run of lines ends

-- a live store's one map, with as much used as stands behind the lines
left_before : (v : LogView) (q : Standing) → Now (store_of v) (IsOne v.used) → q.used ≡ v.used
    → Holds (store_of v) (λ u. StandsFor u q.plain.store)
    → Now (store_of v) (λ s. IsBehind q s.before)
left_before v q one taken stands =
    now_two v.moments (IsOne v.used) (λ s. StandsFor s.before.table q.plain.store)
    (λ s. IsBehind q s.before) (λ s is there. (there, is.counted ∙ sym taken)) one stands

left_after : (v : LogView) (q : Standing) → Now (store_of v) (IsOne v.used) → q.used ≡ v.used
    → Holds (store_of v) (λ u. StandsFor u q.plain.store)
    → Now (store_of v) (λ s. IsBehind q s.after)
left_after v q one taken stands =
    now_two v.moments (IsOne v.used) (λ s. StandsFor s.before.table q.plain.store)
    (λ s. IsBehind q s.after)
    (λ s is there. (
      subst (λ (d : Durable). StandsFor d.table q.plain.store) is.same there,
      ap (λ (d : Durable). d.used) (sym is.same) ∙ is.counted ∙ sym taken,
    )) one stands

-- where the run ends between two lines, what is left stands behind those that were said
from_here : (ending : Ending) (lines left : List Numbered) (said : List LineAnswer) (acts : ℕ)
    (old new : LogView) → ((q : Standing) (d : Durable) → IsBehind q d → IsLeft q ending d)
    → Sound (store_of new) → new.live ≡ true
    → Holds (store_of old) (λ t. (store : Store) → StandsFor t store
    → SaysSoFar t old.room (standing store old.used) lines left said acts new)
    → Holds (store_of old) (λ t. (store : Store) → StandsFor t store
    → SaysFrom t old.room (standing store old.used) lines said left ending (store_of new))
from_here ending lines left said acts old new is_left sound live so =
    now_weaker old.moments
    (λ x. (store : Store) → StandsFor x.before.table store
    → SaysSoFar x.before.table old.room (standing store old.used) lines left said acts new)
    (λ x. (store : Store) → StandsFor x.before.table store
    → SaysFrom x.before.table old.room (standing store old.used) lines said left ending
    (store_of new))
    (λ x says store stands. let at = says store stands in record {
      now = at.behind;
      says = at.says;
      before = now_weaker new.moments (λ s. IsBehind at.behind s.before)
          (λ s. IsLeft at.behind ending s.before) (λ s. is_left at.behind s.before)
          (left_before new at.behind (sound live) at.taken at.stands);
      after_ = now_weaker new.moments (λ s. IsBehind at.behind s.after)
          (λ s. IsLeft at.behind ending s.after) (λ s. is_left at.behind s.after)
          (left_after new at.behind (sound live) at.taken at.stands);
    }) so

-- no line is left
pub tells_whole : (lines left : List Numbered) (acts : ℕ) (old new : LogView)
    (disk_rose sink_rose : Type 0) (put : List ℕ) → left ≡ [] → ToldSoFar lines left acts old new put
    → TellsLines lines old new disk_rose sink_rose put 0
tells_whole lines left acts old new disk_rose sink_rose put none so = record {
  said = so.said;
  left = left;
  ending = Whole;
  ends = record { ended = refl; none_left = none; all = so.put_is };
  from = from_here Whole lines left so.said acts old new (λ q d h. h) so.sound so.live so.from;
}

-- one more line was said, and its text is taken for told
said_more : (lines rest : List Numbered) (n : Numbered) (before acts : ℕ) (old mid new : LogView)
    (put : List ℕ) (s : LineAnswer) → Sound (store_of new) → SameStore mid new
    → GoesOn (store_of mid) (store_of new) → ToldSoFar lines (n ∷ rest) before old mid put
    → IsSaid n s before acts mid new → ToldSoFar lines rest acts old new (put ++ line_answer_text s)
said_more lines rest n before acts old mid new put s sound same goes so is =
    told_more lines rest n before acts old mid new put (line_answer_text s) sound same goes so
    (record { said = s; text_is = refl; is = is })

-- the sink failed at the last text
unheard_ends : (lines rest : List Numbered) (n : Numbered) (before acts : ℕ)
    (old mid new : LogView) (disk_rose sink_rose whole_sink : Type 0) (put piece : List ℕ)
    (status : ℕ) → Sound (store_of new) → SameStore mid new → GoesOn (store_of mid) (store_of new)
    → (sink_rose → whole_sink) → ToldSoFar lines (n ∷ rest) before old mid put
    → IsUnheard n before acts mid new sink_rose piece status
    → TellsLines lines old new disk_rose whole_sink (put ++ piece) status
unfolding told_more said_more
unheard_ends lines rest n before acts old mid new disk_rose sink_rose whole_sink put piece status
    sound same goes weaker so h =
    let all = said_more lines rest n before acts old mid new put h.said sound same goes so h.is in
    record {
      said = so.said ++ h.said ∷ [];
      left = rest;
      ending = Unheard;
      ends = record {
        ended = h.ended;
        cause = weaker h.cause;
        before = so.said;
        last = h.said;
        split = refl;
        part = piece;
        front = h.front;
        heard = ap (λ a. a ++ piece) so.put_is;
      };
      from = from_here Unheard lines rest (so.said ++ h.said ∷ []) acts old new (λ q d k. k) sound
          h.is.live all.from;
    }

-- memory lacked for the last text
unwritten_ends : (lines rest : List Numbered) (n : Numbered) (before acts : ℕ)
    (old mid new : LogView) (disk_rose sink_rose : Type 0) (put piece : List ℕ) (status : ℕ)
    → Sound (store_of new) → SameStore mid new → GoesOn (store_of mid) (store_of new)
    → ToldSoFar lines (n ∷ rest) before old mid put
    → IsUnwritten n before acts mid new piece status
    → TellsLines lines old new disk_rose sink_rose (put ++ piece) status
unfolding told_more said_more
unwritten_ends lines rest n before acts old mid new disk_rose sink_rose put piece status sound same
    goes so h =
    let all = said_more lines rest n before acts old mid new put h.said sound same goes so h.is in
    record {
      said = so.said ++ h.said ∷ [];
      left = rest;
      ending = Unwritten;
      ends = record {
        ended = h.ended;
        before = so.said;
        last = h.said;
        split = refl;
        heard = ap (λ a. put ++ a) h.silent ∙ append-nil put ∙ so.put_is;
      };
      from = from_here Unwritten lines rest (so.said ++ h.said ∷ []) acts old new (λ q d k. k) sound
          h.is.live all.from;
    }

-- there was no memory for a line, which changed nothing
lacking_ends : (lines rest : List Numbered) (n : Numbered) (before : ℕ) (old mid new : LogView)
    (disk_rose sink_rose : Type 0) (put piece : List ℕ) (status : ℕ)
    → ToldSoFar lines (n ∷ rest) before old mid put → LacksIn mid new piece status
    → TellsLines lines old new disk_rose sink_rose (put ++ piece) status
lacking_ends lines rest n before old mid new disk_rose sink_rose put piece status so h = record {
  said = so.said;
  left = n ∷ rest;
  ending = Lacking n;
  ends = record {
    ended = h.ended;
    others = rest;
    at = refl;
    all = ap (λ a. put ++ a) h.silent ∙ append-nil put ∙ so.put_is;
  };
  from = subst
      (λ (v : LogView). Holds (store_of old) (λ t. (store : Store) → StandsFor t store
      → SaysFrom t old.room (standing store old.used) lines so.said (n ∷ rest) (Lacking n)
      (store_of v)))
      (sym h.same)
      (from_here (Lacking n) lines (n ∷ rest) so.said before old mid (λ q d k. k) so.sound so.live
      so.from);
}

-- how a failure is told does not depend on why the sink failed
tells_weaker : (sink_rose whole_sink : Type 0) (n : Numbered) (piece : List ℕ) (status : ℕ)
    → (sink_rose → whole_sink) → TellsFailure sink_rose n piece status
    → TellsFailure whole_sink n piece status
tells_weaker sink_rose whole_sink n piece status weaker (inl told) = inl told
tells_weaker sink_rose whole_sink n piece status weaker (inr told) =
    inr (told.0, weaker told.1, told.2)

-- the disk failed in a line
failed_ends : (lines rest : List Numbered) (n : Numbered) (before : ℕ) (old mid new : LogView)
    (disk_rose sink_rose whole_disk whole_sink : Type 0) (put piece : List ℕ) (status : ℕ)
    → (disk_rose → whole_disk) → (sink_rose → whole_sink)
    → ToldSoFar lines (n ∷ rest) before old mid put
    → FailsIn n (store_of mid) (store_of new) disk_rose sink_rose piece status
    → TellsLines lines old new whole_disk whole_sink (put ++ piece) status
failed_ends lines rest n before old mid new disk_rose sink_rose whole_disk whole_sink put piece
    status disk sink so fails = record {
      said = so.said;
      left = n ∷ rest;
      ending = Failed n;
      ends = record {
        others = rest;
        at = refl;
        cause = disk fails.cause;
        part = piece;
        told = tells_weaker sink_rose whole_sink n piece status sink fails.told;
        heard = ap (λ a. a ++ piece) so.put_is;
      };
      from = from old.moments so.goes_on.grew so.from;
    }
  where
    from : (a : Option (List CrashMaps)) → mid.moments ≡ grown a so.goes_on.more
        → At a (λ x. (store : Store) → StandsFor x.before.table store
        → SaysSoFar x.before.table old.room (standing store old.used) lines (n ∷ rest) so.said
        before mid)
        → At a (λ x. (store : Store) → StandsFor x.before.table store
        → SaysFrom x.before.table old.room (standing store old.used) lines so.said (n ∷ rest)
        (Failed n) (store_of new))
    from None grew says = tt
    from (Some xs) grew says =
        λ store stands.
        let there = Some (xs ++ so.goes_on.more) in
        let y = last no_map (xs ++ so.goes_on.more) in
        let at = says store stands in
        let was = now_same mid.moments there
        (λ z. StandsFor z.before.table at.behind.plain.store) grew at.stands in
        let leaves = now_same mid.moments there
        (λ z. Now (store_of new) (InDoubt n.line z.before.table mid.used)) grew fails.leaves in
        record {
          now = at.behind;
          says = at.says;
          before = now_weaker new.moments (InDoubt n.line y.before.table mid.used)
              (λ s. IsLeft at.behind (Failed n) s.before)
              (λ s doubt. subst (λ used. BeforeOrAfter at.behind.plain n.line used s.before)
              (sym at.taken) (doubt at.behind.plain was).0) leaves;
          after_ = now_weaker new.moments (InDoubt n.line y.before.table mid.used)
              (λ s. IsLeft at.behind (Failed n) s.after)
              (λ s doubt. subst (λ used. BeforeOrAfter at.behind.plain n.line used s.after)
              (sym at.taken) (doubt at.behind.plain was).1) leaves;
        }

-- the run ends at a line
tells_ended : (lines rest : List Numbered) (n : Numbered) (before acts : ℕ) (old mid new : LogView)
    (disk_rose sink_rose whole_disk whole_sink : Type 0) (put piece : List ℕ) (status : ℕ)
    → Sound (store_of new) → SameStore mid new → GoesOn (store_of mid) (store_of new)
    → (disk_rose → whole_disk) → (sink_rose → whole_sink)
    → ToldSoFar lines (n ∷ rest) before old mid put
    → TellsLine n before acts mid new disk_rose sink_rose piece (Err status)
    → TellsLines lines old new whole_disk whole_sink (put ++ piece) status
tells_ended lines rest n before acts old mid new disk_rose sink_rose whole_disk whole_sink put piece
    status sound same goes disk sink so (inl unheard) =
    unheard_ends lines rest n before acts old mid new whole_disk sink_rose whole_sink put piece
    status sound same goes sink so unheard
tells_ended lines rest n before acts old mid new disk_rose sink_rose whole_disk whole_sink put piece
    status sound same goes disk sink so (inr (inl unwritten)) =
    unwritten_ends lines rest n before acts old mid new whole_disk whole_sink put piece status sound
    same goes so unwritten
tells_ended lines rest n before acts old mid new disk_rose sink_rose whole_disk whole_sink put piece
    status sound same goes disk sink so (inr (inr (inl fails))) =
    failed_ends lines rest n before old mid new disk_rose sink_rose whole_disk whole_sink put piece
    status disk sink so fails
tells_ended lines rest n before acts old mid new disk_rose sink_rose whole_disk whole_sink put piece
    status sound same goes disk sink so (inr (inr (inr lacks))) =
    lacking_ends lines rest n before old mid new whole_disk whole_sink put piece status so lacks

-- the run ends at the first of the lines that were left
pub ended_at : (lines left rest : List Numbered) (n : Numbered) (before acts : ℕ)
    (old mid new : LogView) (disk_rose sink_rose whole_disk whole_sink : Type 0)
    (put piece : List ℕ) (status : ℕ) → left ≡ n ∷ rest → Sound (store_of new) → SameStore mid new
    → GoesOn (store_of mid) (store_of new) → (disk_rose → whole_disk) → (sink_rose → whole_sink)
    → ToldSoFar lines left before old mid put
    → TellsLine n before acts mid new disk_rose sink_rose piece (Err status)
    → TellsLines lines old new whole_disk whole_sink (put ++ piece) status
ended_at lines left rest n before acts old mid new disk_rose sink_rose whole_disk whole_sink put
    piece status here sound same goes disk sink so tells =
    tells_ended lines rest n before acts old mid new disk_rose sink_rose whole_disk whole_sink put
    piece status sound same goes disk sink
    (subst (λ ls. ToldSoFar lines ls before old mid put) here so) tells
