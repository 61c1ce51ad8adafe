-- A fault is told to a call.
use Rattle.std.proofs.Common.{◌≡◌, inl, inr, not, ℕ, true, false, true≢false, List, length, Some, None, refl, sym, ap, subst, arith}
use Rattle.obj_model.specs.declared.change.Pool.TheVariants.{Cache, Base}
use Rattle.obj_model.specs.declared.req.Req.{Req}
use Rattle.tier_chron.specs.Laws.{MayLog}
use Rattle.tier_chron.specs.Shapes.{NumbersAgree, Stands, StandsBeside, is_fault, is_reading_fault, is_served, is_start_fault, may_answer, may_go}
use Rattle.tier_chron.specs.declared.answer.Answer.{Answer}
use Rattle.tier_chron.specs.declared.answer.Answer.TheVariants as answer
use Rattle.tier_chron.specs.declared.asked.Asked.{Asked}
use Rattle.tier_chron.specs.declared.asked.Asked.TheVariants.{Write, Read, Flush, Finish, Evict, Drain, Agent, Start}
use Rattle.tier_chron.specs.declared.entries.Act.{Act}
use Rattle.tier_chron.specs.declared.entries.Logged.{Logged}
use Rattle.tier_core.proofs.Unacted.{turn_seen}
use Rattle.tier_core.specs.Ends.{IsEnded}
use Rattle.tier_core.specs.declared.turns.Turn.{Turn}
use Rattle.tier_node.specs.Starting.{is_brief}
use Rattle.tier_node.specs.Tells.{IsCause, IsRestart, IsSo, MayBeTold, told_here}
use Rattle.tier_view.proofs.AnsweringFaults.{entries_may_log}
use Rattle.tier_view.specs.Answered.{HasFaultCause, IsAnswerOf}
use Rattle.tier_view.specs.Calls.{entry_of}
use Rattle.tier_view.specs.Views.{GroupView, calls_in}
use Rattle.tier_view.specs.Whole.{IsFirstEpoch, IsWhole}

-- ---- what a fault is that is so

-- what is known of an answer
record IsKnown (v : GroupView) (turn : Turn) (x : Answer) : Type 0 where
  fault : is_fault x ≡ true
  numbers : NumbersAgree x
  cause : (l : Logged) → l.call ≡ turn.call → HasFaultCause v l x
  served : is_served x ≡ false
  beside : (acts : List Act) (r : Req) (l : Logged) → StandsBeside acts r l x

module _ (v : GroupView) (turn : Turn) where
  known_so : (x : Answer) → IsSo v x → IsKnown v turn x
  known_so (answer.Worn limit) h = record {
    fault = refl;
    numbers = h;
    cause = λ l same. tt;
    served = refl;
    beside = λ acts r l. tt;
  }
  known_so (answer.NoSpace pool used need limit) h = record {
    fault = refl;
    numbers = h;
    cause = λ l same. tt;
    served = refl;
    beside = λ acts r l. tt;
  }
  known_so (answer.DiskFault Cache) h = record {
    fault = refl;
    numbers = tt;
    cause = λ l same. h;
    served = refl;
    beside = λ acts r l. tt;
  }
  known_so (answer.DiskFault Base) h = record {
    fault = refl;
    numbers = tt;
    cause = λ l same. h;
    served = refl;
    beside = λ acts r l. tt;
  }
  known_so (answer.Damaged pool at) h = record {
    fault = refl;
    numbers = tt;
    cause = λ l same. tt;
    served = refl;
    beside = λ acts r l. tt;
  }
  known_so (answer.BadRecord pool name) h = record {
    fault = refl;
    numbers = tt;
    cause = λ l same. tt;
    served = refl;
    beside = λ acts r l. tt;
  }
  known_so x h = absurd h

  known_restart : (x : Answer) → IsRestart v turn x → IsKnown v turn x
  known_restart (answer.Restarted was now) h = record {
    fault = refl;
    numbers = h.0;
    cause = λ l same. (
      h.0,
      h.1,
      subst (λ n. IsFirstEpoch v.calls.entries
          (entry_of v.calls.entries n) was) (sym same) h.2,
    );
    served = refl;
    beside = λ acts r l. tt;
  }
  known_restart x h = absurd h

  known : (x : Answer) → IsCause v turn x → IsKnown v turn x
  known x (inl h) = known_so x h
  known x (inr h) = known_restart x h

stands : (acts : List Act) (a : Asked) (l : Logged)
    → ((r : Req) → StandsBeside acts r l l.answer) → Stands acts a l
stands acts (Write r) l h = h r
stands acts (Read client name vector) l h = tt
stands acts (Flush name blocking begin_only) l h = tt
stands acts (Finish name) l h = tt
stands acts (Evict name) l h = tt
stands acts Drain l h = tt
stands acts Agent l h = tt
stands acts Start l h = tt

no_way : (a : Asked) (x : Answer) → is_served x ≡ false → may_go a x None ≡ true
no_way (Write r) x h = ap not h
no_way (Read client name vector) x h = ap not h
no_way (Flush name blocking begin_only) x h = refl
no_way (Finish name) x h = refl
no_way (Evict name) x h = refl
no_way Drain x h = refl
no_way Agent x h = refl
no_way Start x h = refl

-- ---- it may be logged

-- what is asked of a fault that is answered
pub record IsFault (v : GroupView) (l : Logged) : Type 0 where
  pub may : MayLog (calls_in v.calls.entries) v.log l
  pub fault : is_fault l.answer ≡ true
  pub cause : HasFaultCause v l l.answer

module _ (v : GroupView) (turn : Turn) (told : Answer) (whole : IsWhole v)
    (h : MayBeTold v turn told) (so : IsCause v turn told) where
  abbrev L : Logged
  L = told_here turn v.log told

  is : IsKnown v turn told
  is = known v turn told so

  answers : IsAnswerOf v h.turn_is.entry L
  answers = record {
    entry = h.turn_is.is;
    going = h.turn_is.turn_is.going;
    line = h.turn_is.turn_is.line;
    begin = h.turn_is.turn_is.begin;
    seen = turn_seen v turn h.asked whole h.turn_is;
    done = omega arith;
    now = refl;
    kind = subst (λ (a : Asked). may_answer a told ≡ true) (sym h.turn_is.asked_is) h.kind;
    numbers = is.numbers;
    way = no_way h.turn_is.entry.asked told is.served;
    beside = stands v.log.acts h.turn_is.entry.asked L (λ r. is.beside v.log.acts r L);
  }

  pub tells_fault : IsFault v L
  tells_fault = record {
    may = entries_may_log v h.turn_is.entry L whole answers;
    fault = is.fault;
    cause = is.cause L refl;
  }

-- ---- every call may be told what it can meet that reads a record

pub every_call : (a : Asked) (x : Answer) → is_reading_fault x ≡ true → may_answer a x ≡ true
every_call a (answer.Worn limit) h = worn a
  where
    worn : (b : Asked) → may_answer b (answer.Worn limit) ≡ true
    worn (Write r) = refl
    worn (Read client name vector) = refl
    worn (Flush name blocking false) = refl
    worn (Flush name blocking true) = refl
    worn (Finish name) = refl
    worn (Evict name) = refl
    worn Drain = refl
    worn Agent = refl
    worn Start = refl
every_call a (answer.DiskFault pool) h = failed a
  where
    failed : (b : Asked) → may_answer b (answer.DiskFault pool) ≡ true
    failed (Write r) = refl
    failed (Read client name vector) = refl
    failed (Flush name blocking false) = refl
    failed (Flush name blocking true) = refl
    failed (Finish name) = refl
    failed (Evict name) = refl
    failed Drain = refl
    failed Agent = refl
    failed Start = refl
every_call a (answer.BadRecord pool key) h = bad a
  where
    bad : (b : Asked) → may_answer b (answer.BadRecord pool key) ≡ true
    bad (Write r) = refl
    bad (Read client name vector) = refl
    bad (Flush name blocking false) = refl
    bad (Flush name blocking true) = refl
    bad (Finish name) = refl
    bad (Evict name) = refl
    bad Drain = refl
    bad Agent = refl
    bad Start = refl
every_call a x h = absurd (true≢false (sym h))

-- ---- a call that goes on over several steps may be told each fault of a start

pub lasting_call : (a : Asked) (x : Answer) → is_brief a ≡ false → is_start_fault x ≡ true
    → may_answer a x ≡ true
lasting_call a (answer.Worn limit) going h = every_call a (answer.Worn limit) refl
lasting_call a (answer.DiskFault pool) going h = every_call a (answer.DiskFault pool) refl
lasting_call a (answer.BadRecord pool name) going h = every_call a (answer.BadRecord pool name) refl
lasting_call a (answer.NoSpace pool used need limit) going h = lacks a going
  where
    lacks : (b : Asked) → is_brief b ≡ false
        → may_answer b (answer.NoSpace pool used need limit) ≡ true
    lacks (Write r) k = refl
    lacks (Read client name vector) k = refl
    lacks (Flush name blocking false) k = refl
    lacks (Flush name blocking true) k = absurd (true≢false k)
    lacks (Finish name) k = refl
    lacks (Evict name) k = refl
    lacks Drain k = refl
    lacks Agent k = refl
    lacks Start k = refl
lasting_call a (answer.Damaged pool at) going h = damaged a going
  where
    damaged : (b : Asked) → is_brief b ≡ false → may_answer b (answer.Damaged pool at) ≡ true
    damaged (Write r) k = refl
    damaged (Read client name vector) k = refl
    damaged (Flush name blocking false) k = refl
    damaged (Flush name blocking true) k = absurd (true≢false k)
    damaged (Finish name) k = refl
    damaged (Evict name) k = absurd (true≢false k)
    damaged Drain k = refl
    damaged Agent k = refl
    damaged Start k = refl
lasting_call a x going h = absurd (true≢false (sym h))

-- ---- in the code

abbrev pub told_at : Turn → (acts : ℕ) → Answer → Logged
told_at turn n told = record {
  call = turn.call;
  line = turn.line;
  begin = turn.begin;
  place = n;
  end = n;
  path = None;
  answer = told;
}

pub told_at_is : (v : GroupView) (turn : Turn) (told : Answer) (n : ℕ) → n ≡ length v.log.acts
    → told_at turn n told ≡ told_here turn v.log told
told_at_is v turn told n is = ap (λ k. told_at turn k told) is

pub tells_at : (v : GroupView) (turn : Turn) (told : Answer) (n : ℕ) → n ≡ length v.log.acts
    → IsWhole v → MayBeTold v turn told → IsCause v turn told → IsFault v (told_at turn n told)
tells_at v turn told n is whole h so =
    subst (IsFault v) (sym (told_at_is v turn told n is)) (tells_fault v turn told whole h so)

pub ended_at : (v w : GroupView) (turn : Turn) (told : Answer) (n : ℕ) → n ≡ length v.log.acts
    → IsEnded turn.call (Some (told_at turn n told)) v w
    → IsEnded turn.call (Some (told_here turn v.log told)) v w
ended_at v w turn told n is h =
    subst (λ (l : Logged). IsEnded turn.call (Some l) v w) (told_at_is v turn told n is) h
