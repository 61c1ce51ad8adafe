-- Answers go on fitting when acts come.
use Rattle.std.proofs.Common.{◌≡◌, ◌≢◌, ℕ, ◌≤◌, zero, suc, true, false, List, [], ◌∷◌, ◌++◌, length, Option, Some, None, refl, sym, ap, subst, ◌∙◌, true≢false, arith, length-append}
use Rattle.std.specs.List.{AllByRecursion}
use Rattle.std.proofs.lemmas.List.{take-append-le}
use Rattle.obj_model.specs.declared.reply.Reply.{Reply}
use Rattle.obj_model.specs.declared.reply.Reply.TheVariants as reply
use Rattle.obj_model.specs.declared.req.Req.{Req}
use Rattle.obj_model.specs.declared.state.NameState.{NameState}
use Rattle.obj_ops.specs.Acts.{act}
use Rattle.obj_ops.specs.Stores.{Store, state_of}
use Rattle.tier_chron.specs.Calls.{Call, call_of}
use Rattle.tier_chron.specs.Fits.{FitsCall, HasReply, IsKept, TellsTruth, TellsCall, TellsRead, TellsWrite}
use Rattle.tier_chron.specs.Laws.{ActKeepsShape, ActKeepsTruth, AnswerKeeps, AnswerStays, AnswersFit, MayLog}
use Rattle.tier_chron.specs.Legal.{AreInOrder, IsOrdered, IsPlaced}
use Rattle.tier_chron.specs.Logs.{Log, answered_log}
use Rattle.tier_chron.specs.Places.{act_at, state_at}
use Rattle.tier_chron.specs.Shapes.{AreSingle, HasNoAct, HasOneAct, IsAnswered, IsAskedBy, IsBegun, Stands, StandsBeside, is_fault}
use Rattle.tier_chron.specs.declared.answer.Answer.{Answer}
use Rattle.tier_chron.specs.declared.answer.Answer.TheVariants as answer
use Rattle.tier_chron.specs.declared.asked.Asked.{Asked}
use Rattle.tier_chron.specs.declared.asked.Asked.TheVariants.{Write, Read}
use Rattle.tier_chron.specs.declared.entries.Act.{Act}
use Rattle.tier_chron.specs.declared.entries.Logged.{Logged}
use Rattle.tier_chron.proofs.Growing.{ordered_push}
use Rattle.tier_chron.proofs.Lists.{all_both, all_imply, all_push, got_stays}
use Rattle.tier_chron.proofs.Places.{place_stays}

act_stays : (acts : List Act) (a : Act) (n : ℕ) (b : Act) → act_at acts n ≡ Some b → act_at (acts ++ a ∷ []) n ≡ Some b
act_stays acts a zero b h = absurd (cc)
act_stays acts a (suc k) b h = got_stays acts (a ∷ []) k b h

none_stays : (acts : List Act) (a : Act) (l : Logged) → (l.call ≡ a.call → false ≡ true) → HasNoAct l.call acts → HasNoAct l.call (acts ++ a ∷ [])
none_stays acts a l ne h = all_push (λ b. b.call ≢ l.call) acts a h (λ e. true≢false (sym (ne (sym e))))

reply_stays : (acts : List Act) (a : Act) (l : Logged) (given : Reply) → (l.call ≡ a.call → false ≡ true) → HasReply l.call given acts → HasReply l.call given (acts ++ a ∷ [])
reply_stays acts a l given ne h = all_push (λ b. b.call ≡ l.call → b.reply ≡ given) acts a h (λ e. absurd (true≢false (sym (ne (sym e)))))

beside_stays : (acts : List Act) (a : Act) (req : Req) (l : Logged) (x : Answer) → (l.call ≡ a.call → is_fault x ≡ true) → StandsBeside acts req l x → StandsBeside (acts ++ a ∷ []) req l x
beside_stays acts a req l (answer.Done ver false) ne h = act_stays acts a l.place _ h
beside_stays acts a req l (answer.Refused at why ver false) ne h = act_stays acts a l.place _ h
beside_stays acts a req l (answer.Blocked kind opid) ne h = none_stays acts a l ne h
beside_stays acts a req l (answer.Full micro) ne h = none_stays acts a l ne h
beside_stays acts a req l other ne h = tt

stands_stay : (acts : List Act) (a : Act) (asked : Asked) (l : Logged) → (l.call ≡ a.call → is_fault l.answer ≡ true) → Stands acts asked l → Stands (acts ++ a ∷ []) asked l
stands_stay acts a (Write req) l ne h = beside_stays acts a req l l.answer ne h
stands_stay acts a other l ne h = tt

kept_stays : (s t : NameState) (acts : List Act) (a : Act) (req : Req) (l : Logged) (given : Reply) → t ≡ s → (l.call ≡ a.call → false ≡ true)
    → IsKept s acts req l given → IsKept t (acts ++ a ∷ []) req l given
kept_stays s t acts a req l given e ne h = record {
  again = ap (λ (u : NameState). act u req) e ∙ h.again;
  same = reply_stays acts a l given ne h.same;
}

write_stays : (s t : NameState) (acts : List Act) (a : Act) (req : Req) (l : Logged) (x : Answer) → t ≡ s → (l.call ≡ a.call → is_fault x ≡ true)
    → TellsWrite s acts req l x → TellsWrite t (acts ++ a ∷ []) req l x
write_stays s t acts a req l (answer.Done ver true) e ne h = kept_stays s t acts a req l (reply.Done ver) e ne h
write_stays s t acts a req l (answer.Refused at why ver true) e ne h = kept_stays s t acts a req l (reply.Refused at why ver) e ne h
write_stays s t acts a req l (answer.Stale tid) e ne h = record {
  stale = ap (λ (u : NameState). act u req) e ∙ h.stale;
  none = none_stays acts a l ne h.none;
}
write_stays s t acts a req l other e ne h = tt

tells_stay : (start : Store) (acts : List Act) (a : Act) (asked : Asked) (l : Logged) → l.place ≤ length acts → (l.call ≡ a.call → is_fault l.answer ≡ true)
    → TellsTruth start acts asked l → TellsTruth start (acts ++ a ∷ []) asked l
tells_stay start acts a (Write req) l le ne h =
    write_stays (state_at start acts l.place req.name) (state_at start (acts ++ a ∷ []) l.place req.name) acts a req l l.answer
    (ap (λ (s : Store). state_of s req.name) (place_stays start acts (a ∷ []) l.place le)) ne h
tells_stay start acts a (Read client name vector) l le ne h =
    subst (λ (s : Store). TellsRead (state_of s name) vector l.answer) (sym (place_stays start acts (a ∷ []) l.place le)) h
tells_stay start acts a other l le ne h = tt

-- no act of the call stays at most one, and one act of another call adds none
one_push : (acts : List Act) (a : Act) (call : ℕ) → (call ≡ a.call → HasNoAct call acts) → HasOneAct call acts → HasOneAct call (acts ++ a ∷ [])
one_push [] a call first h = ((λ e. tt), tt)
one_push (b ∷ acts) a call first h = (
  λ e. all_push (λ c. c.call ≢ call) acts a (h.0 e) (λ same. (first (sym same)).0 e),
  one_push acts a call (λ same. (first same).1) h.1,
)

-- an answer that fits goes on fitting
pub answer_stays : (a : Act) (l : Logged) → AnswerStays a l
answer_stays a l start acts asked le may h = record {
  kind = h.kind;
  numbers = h.numbers;
  way = h.way;
  single = one_push acts a l.call (λ e. (may e).first) h.single;
  own = all_push (λ b. b.call ≡ l.call → asked ≡ Write b.req) acts a h.own (λ e. (may (sym e)).wanted);
  beside = stands_stay acts a asked l (λ e. (may e).free) h.beside;
  told = tells_stay start acts a asked l le (λ e. (may e).free) h.told;
}

-- ---- a whole history with one more act

single_push : (acts : List Act) (a : Act) → AreSingle acts → HasNoAct a.call acts → AreSingle (acts ++ a ∷ [])
single_push [] a h k = (tt, tt)
single_push (b ∷ acts) a h k = (all_push (λ c. c.call ≢ b.call) acts a h.0 (λ e. k.0 (sym e)), single_push acts a h.1 k.1)

begun_push : (acts : List Act) (a : Act) (c : Call) → IsBegun acts c → IsBegun (acts ++ a ∷ []) c
begun_push acts a c h = record {
  begun = omega (arith, h.begun, length-append acts (a ∷ []));
  later = subst (HasNoAct c.number) (sym (take-append-le c.begin acts (a ∷ []) h.begun)) h.later;
}

answered_push : (acts : List Act) (a : Act) (l : Logged) (c : Option Call) → (l.call ≡ a.call → is_fault l.answer ≡ true) → IsAnswered acts l c → IsAnswered (acts ++ a ∷ []) l c
answered_push acts a l None ne h = absurd h
answered_push acts a l (Some c) ne h = record {
  line = h.line;
  begin = h.begin;
  kind = h.kind;
  numbers = h.numbers;
  way = h.way;
  beside = stands_stay acts a c.asked l ne h.beside;
}

-- a history keeps its shape with one more act
pub act_keeps_shape : (a : Act) → ActKeepsShape a
act_keeps_shape a calls log f h may is = record {
  ordered = ordered_push f a log is h.ordered;
  in_turn = h.in_turn;
  begun = all_imply (IsBegun log.acts) (IsBegun (log.acts ++ a ∷ [])) (begun_push log.acts a) calls h.begun;
  single = single_push log.acts a h.single may.first;
  asked = all_push (λ b. IsAskedBy b (call_of calls b.call)) log.acts a h.asked may.asked;
  answered = all_both (λ l. l.call ≡ a.call → is_fault l.answer ≡ true) (λ l. IsAnswered log.acts l (call_of calls l.call)) (λ l. IsAnswered (log.acts ++ a ∷ []) l (call_of calls l.call))
      (λ l ne k. answered_push log.acts a l (call_of calls l.call) ne k) log.answers may.free h.answered;
}

told_push : (start : Store) (acts : List Act) (a : Act) (l : Logged) (c : Option Call) → l.place ≤ length acts → (l.call ≡ a.call → is_fault l.answer ≡ true)
    → TellsCall start acts l c → TellsCall start (acts ++ a ∷ []) l c
told_push start acts a l None le ne h = absurd h
told_push start acts a l (Some c) le ne h = tells_stay start acts a c.asked l le ne h

-- and its answers go on telling the truth
pub act_keeps_truth : (a : Act) → ActKeepsTruth a
act_keeps_truth a start calls log f h may told =
    all_both (λ l. (l.place ≤ length log.acts) × (l.call ≡ a.call → is_fault l.answer ≡ true)) (λ l. TellsCall start log.acts l (call_of calls l.call))
    (λ l. TellsCall start (log.acts ++ a ∷ []) l (call_of calls l.call))
    (λ l both k. told_push start log.acts a l (call_of calls l.call) both.0 both.1 k) log.answers
    (all_both (IsPlaced (length log.acts)) (λ l. l.call ≡ a.call → is_fault l.answer ≡ true) (λ l. (l.place ≤ length log.acts) × (l.call ≡ a.call → is_fault l.answer ≡ true))
    (λ l p ne. (omega (arith, p.done, p.there), ne)) log.answers h.ordered.placed may.free) told

-- ---- and with one more answer

order_push : (count : ℕ) (ls : List Logged) (m : Logged) → AllByRecursion (IsPlaced count) ls → AllByRecursion (λ l. l.call ≢ m.call) ls → count ≡ m.end → AreInOrder ls → AreInOrder (ls ++ m ∷ [])
order_push count [] m p ne e h = (tt, tt)
order_push count (l ∷ ls) m p ne e h = (
  all_push (λ n. (l.end ≤ n.end) × (n.call ≢ l.call)) ls m h.0 (omega (arith, p.0.there, e), λ same. ne.0 (sym same)),
  order_push count ls m p.1 ne.1 e h.1,
)

ordered_answer : (calls : List Call) (log : Log) (l : Logged) → IsOrdered log → MayLog calls log l → IsOrdered (answered_log l log)
ordered_answer calls log l h may = record {
  opened = h.opened;
  placed = all_push (IsPlaced (length log.acts)) log.answers l h.placed (record { seen = may.seen; done = may.done; there = omega (arith, may.now) });
  in_order = order_push (length log.acts) log.answers l h.placed may.unanswered (sym may.now) h.in_order;
}

-- a history goes on with one more answer
pub answer_keeps : (l : Logged) → AnswerKeeps l
answer_keeps l start calls log h may told = record {
  shaped = record {
    ordered = ordered_answer calls log l h.shaped.ordered may;
    in_turn = h.shaped.in_turn;
    begun = h.shaped.begun;
    single = h.shaped.single;
    asked = h.shaped.asked;
    answered = all_push (λ m. IsAnswered log.acts m (call_of calls m.call)) log.answers l h.shaped.answered may.answered;
  };
  legal = record { ordered = ordered_answer calls log l h.legal.ordered may; fresh = h.legal.fresh; first = h.legal.first };
  told = all_push (λ m. TellsCall start log.acts m (call_of calls m.call)) log.answers l h.told told;
}

-- ---- all of it says that each answer fits

one_of : (acts : List Act) (call : ℕ) → AreSingle acts → HasOneAct call acts
one_of [] call h = tt
one_of (a ∷ acts) call h = (λ e. subst (λ n. HasNoAct n acts) e h.0, one_of acts call h.1)

own_of : (calls : List Call) (a : Act) (call : ℕ) (c : Call) → call_of calls call ≡ Some c → IsAskedBy a (call_of calls a.call) → a.call ≡ call → c.asked ≡ Write a.req
own_of calls a call c found asked e = (subst (IsAskedBy a) (ap (call_of calls) e ∙ found) asked).0

fits_call : (start : Store) (calls : List Call) (acts : List Act) (l : Logged) (found : Option Call) → call_of calls l.call ≡ found → AreSingle acts
    → AllByRecursion (λ a. IsAskedBy a (call_of calls a.call)) acts → IsAnswered acts l found → TellsCall start acts l found → FitsCall start acts l found
fits_call start calls acts l None e single asked h told = h
fits_call start calls acts l (Some c) e single asked h told = record {
  kind = h.kind;
  numbers = h.numbers;
  way = h.way;
  single = one_of acts l.call single;
  own = all_imply (λ a. IsAskedBy a (call_of calls a.call)) (λ a. a.call ≡ l.call → c.asked ≡ Write a.req) (λ a k. own_of calls a l.call c e k) acts asked;
  beside = h.beside;
  told = told;
}

-- each answer of a history from a store fits
pub answers_fit : (log : Log) → AnswersFit log
answers_fit log start calls h =
    all_both (λ l. IsAnswered log.acts l (call_of calls l.call)) (λ l. TellsCall start log.acts l (call_of calls l.call)) (λ l. FitsCall start log.acts l (call_of calls l.call))
    (λ l k told. fits_call start calls log.acts l (call_of calls l.call) refl h.shaped.single h.shaped.asked k told) log.answers h.shaped.answered h.told
