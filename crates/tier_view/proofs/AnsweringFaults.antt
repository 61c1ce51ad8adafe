-- Faults, and what may be logged of a call.
use Rattle.std.proofs.Common.{◌≡◌, ◌≢◌, ◌≤◌, ◌<◌, ◌⊎◌, inl, inr, ℕ, ◌+◌, ◌==◌, cond, Bool, true, false, List, [], ◌∷◌, ◌++◌, length, Option, Some, None, refl, sym, ap, subst, ◌∙◌, true≢false, arith}
use Rattle.std.specs.List.{AllByRecursion}
use Rattle.std.proofs.lemmas.Bool.{eqb-true}
use Rattle.obj_model.specs.declared.change.Pool.{Pool}
use Rattle.obj_model.specs.declared.change.Pool.TheVariants.{Cache, Base}
use Rattle.obj_model.specs.declared.req.Req.{Req}
use Rattle.obj_model.specs.declared.state.NameState.{NameState}
use Rattle.obj_model.specs.declared.sub_op.SubOp.{SubOp}
use Rattle.obj_ops.specs.Stores.{Store}
use Rattle.tier_chron.specs.Calls.{Call, call_of}
use Rattle.tier_chron.specs.Fits.{TellsTruth, TellsCall, TellsRead, TellsWrite}
use Rattle.tier_chron.specs.Laws.{MayLog}
use Rattle.tier_chron.specs.Places.{state_at}
use Rattle.tier_chron.specs.Shapes.{IsAnswered, is_fault}
use Rattle.tier_chron.specs.declared.answer.Answer.{Answer}
use Rattle.tier_chron.specs.declared.answer.Answer.TheVariants as answer
use Rattle.tier_chron.specs.declared.asked.Asked.{Asked}
use Rattle.tier_chron.specs.declared.asked.Asked.TheVariants.{Write, Read, Flush, Finish, Evict, Drain, Agent, Start}
use Rattle.tier_chron.specs.declared.entries.Act.{Act}
use Rattle.tier_chron.specs.declared.entries.Logged.{Logged}
use Rattle.tier_protocol.specs.Tiers.{Flights}
use Rattle.tier_view.specs.Answered.{EntriesMayLog, FaultsHaveRoom, FaultyCallsKeep, HasFaultCause, IsAnswerOf}
use Rattle.tier_view.specs.Answers.{MayEndWith, NoMore, ended_calls}
use Rattle.tier_view.specs.Calls.{Calls, Entry, IsGoing, IsInFlight, call_in, entry_of}
use Rattle.tier_view.specs.Changes.{ended_in}
use Rattle.tier_view.specs.Grows.{Stays}
use Rattle.tier_view.specs.Views.{GroupView, calls_in}
use Rattle.tier_view.specs.Whole.{AreCounted, HasCause, IsWhole, faults_told, tells_fault}
use Rattle.tier_view.proofs.AnsweringEnds.{ending_calls_keeps}
use Rattle.tier_view.proofs.AnsweringWork.{entries_end}
use Rattle.tier_view.proofs.Finding.{going_unanswered}
use Rattle.tier_view.proofs.Growth.{entry_stays, faults_append, first_stays, heir}

-- ---- what may be logged

pub one_entry : (d e : Entry) → Some d ≡ Some e → d ≡ e
one_entry d e k = cc

found_step : (b : Bool) (d e : Entry) (o : Option Entry) (c : Option Call) → (o ≡ Some e → c ≡ Some (call_in e)) → cond b (Some d) o ≡ Some e → cond b (Some (call_in d)) c ≡ Some (call_in e)
found_step true d e o c rest k = ap (λ x. Some (call_in x)) (one_entry d e k)
found_step false d e o c rest k = rest k

pub call_found : (es : List Entry) (n : ℕ) (e : Entry) → entry_of es n ≡ Some e → call_of (calls_in es) n ≡ Some (call_in e)
call_found [] n e is = absurd (cc)
call_found (d ∷ es) n e is = found_step (d.number == n) d e (entry_of es n) (call_of (calls_in es) n) (call_found es n e) is

pub entries_may_log : EntriesMayLog
entries_may_log v e l h a = record {
  unanswered = going_unanswered v.calls.last v.standing.cache_epoch v.log.answers v.calls.entries l.call h.calls (subst IsGoing (sym a.entry) a.going);
  seen = a.seen;
  done = a.done;
  now = a.now;
  answered = subst (IsAnswered v.log.acts l) (sym (call_found v.calls.entries l.call e a.entry)) (record {
    line = a.line;
    begin = a.begin;
    kind = a.kind;
    numbers = a.numbers;
    way = a.way;
    beside = a.beside;
  });
}

-- ---- a fault tells nothing of objects

pub write_nothing : (s : NameState) (acts : List Act) (req : Req) (l : Logged) (x : Answer) → is_fault x ≡ true → TellsWrite s acts req l x
write_nothing s acts req l (answer.Done ver kept) is = absurd (true≢false (sym is))
write_nothing s acts req l (answer.Refused at why ver kept) is = absurd (true≢false (sym is))
write_nothing s acts req l (answer.Stale tid) is = absurd (true≢false (sym is))
write_nothing s acts req l x is = tt

read_nothing : (s : NameState) (vector : List SubOp) (x : Answer) → is_fault x ≡ true → TellsRead s vector x
read_nothing s vector (answer.Values ver outs) is = absurd (true≢false (sym is))
read_nothing s vector (answer.Refused at why ver kept) is = absurd (true≢false (sym is))
read_nothing s vector x is = tt

fault_tells : (start : Store) (acts : List Act) (asked : Asked) (l : Logged) → is_fault l.answer ≡ true → TellsTruth start acts asked l
fault_tells start acts (Write req) l is = write_nothing (state_at start acts l.place req.name) acts req l l.answer is
fault_tells start acts (Read client name vector) l is = read_nothing (state_at start acts l.place name) vector l.answer is
fault_tells start acts (Flush name blocking begin_only) l is = tt
fault_tells start acts (Finish name) l is = tt
fault_tells start acts (Evict name) l is = tt
fault_tells start acts Drain l is = tt
fault_tells start acts Agent l is = tt
fault_tells start acts Start l is = tt

pub fault_true : (start : Store) (acts : List Act) (l : Logged) (c : Option Call) → is_fault l.answer ≡ true → IsAnswered acts l c → TellsCall start acts l c
fault_true start acts l None is h = absurd h
fault_true start acts l (Some c) is h = fault_tells start acts c.asked l is

-- ---- counts of faults

module _ (v : GroupView) (l : Logged) (h : IsWhole v) where
  abbrev Room : Answer → Type 0
  Room x = (faults_told Cache v.log.answers + tells_fault Cache x ≤ v.stores.cache.faults) × (faults_told Base v.log.answers + tells_fault Base x ≤ v.stores.base.faults)

  fault_room : (x : Answer) → HasFaultCause v l x → Room x
  fault_room (answer.DiskFault Cache) k = (omega (arith, k), omega (arith, h.counted.base))
  fault_room (answer.DiskFault Base) k = (omega (arith, h.counted.cache), omega (arith, k))
  fault_room x k = (omega (arith, h.counted.cache), omega (arith, h.counted.base))

  pub counted_with : HasFaultCause v l l.answer → AreCounted v.stores (v.log.answers ++ l ∷ [])
  counted_with k = let room = fault_room l.answer k in record {
    cache = omega (arith, room.0, faults_append Cache v.log.answers (l ∷ []));
    base = omega (arith, room.1, faults_append Base v.log.answers (l ∷ []));
  }

  -- ---- the cause of a fault

  pub fault_cause : (now : ℕ) (dropped : Option ℕ) (x : Answer) → is_fault x ≡ true → HasFaultCause v l x
      → HasCause (length v.log.answers) (ended_calls now l.call dropped v.calls) v.agent.share v.standing.cache_epoch l x
  fault_cause now dropped (answer.Blocked k op) is c = absurd (true≢false (sym is))
  fault_cause now dropped (answer.Full micro) is c = absurd (true≢false (sym is))
  fault_cause now dropped (answer.Restarted was at) is c = (
    c.0,
    c.1,
    first_stays v.calls.entries (ended_in l.call v.calls.entries) (heir Stays NoMore v.calls.entries (ended_in l.call v.calls.entries) (entries_end l.call v.calls.entries))
        (entry_of v.calls.entries l.call) (entry_of (ended_in l.call v.calls.entries) l.call)
        (entry_stays NoMore v.calls.entries (ended_in l.call v.calls.entries) (entries_end l.call v.calls.entries) l.call) was c.2,
  )
  fault_cause now dropped x is c = tt

pub faulty_calls_keep : FaultyCallsKeep
faulty_calls_keep v l left dropped h d may fault cause =
    ending_calls_keeps v l.call (Some l) left dropped h d (
      record {
        own = refl;
        may = may;
        cause = fault_cause v l h (length v.log.answers) dropped l.answer fault cause;
        counted = counted_with v l h cause;
      },
      record { tells = λ start tell b. fault_true start v.log.acts l (call_of (calls_in v.calls.entries) l.call) fault may.answered; good = inl fault },
    )

pub faults_have_room : FaultsHaveRoom
faults_have_room u v h same = (
  λ less. subst (λ ls. faults_told Cache ls < v.stores.cache.faults) (sym same) (omega (arith, less, h.counted.cache)),
  λ less. subst (λ ls. faults_told Base ls < v.stores.base.faults) (sym same) (omega (arith, less, h.counted.base)),
)
