-- A call ends.
use Rattle.std.proofs.Common.{◌≡◌, ◌≢◌, ◌≤◌, ◌<◌, ◌⊎◌, inl, inr, ℕ, ◌+◌, ◌==◌, ◌&&◌, ◌||◌, not, cond, Bool, true, false, List, [], ◌∷◌, ◌++◌, map, length, Option, Some, None, refl, sym, ap, subst, ◌∙◌, true≢false, arith}
use Rattle.std.specs.Prelude.{if◌then◌else◌}
use Rattle.std.specs.FinMap as fin
use Rattle.std.specs.List.{AllByRecursion, list_any}
use Rattle.std.proofs.lemmas.Bool.{eq-eqb, eqb-true, ne_eqb}
use Rattle.std.proofs.lemmas.List.{append-nil}
use Rattle.obj_model.specs.declared.change.Pool.TheVariants.{Base, Cache}
use Rattle.obj_ops.specs.Stores.{Store}
use Rattle.tier_chron.proofs.Lists.{all_imply, all_push}
use Rattle.tier_chron.proofs.Staying.{answer_keeps}
use Rattle.tier_chron.specs.Calls.{Call, call_of}
use Rattle.tier_chron.specs.Fits.{IsHistoryFrom, TellsCall}
use Rattle.tier_chron.specs.Laws.{MayLog}
use Rattle.tier_chron.specs.Logs.{Log, answered_log}
use Rattle.tier_chron.specs.Legal.{AreInOrder, IsPlaced}
use Rattle.tier_chron.specs.Shapes.{IsAnswered, IsAskedBy, IsShaped, is_fault}
use Rattle.tier_chron.specs.declared.entries.Act.{Act}
use Rattle.tier_chron.specs.declared.entries.Logged.{Logged}
use Rattle.tier_flight.proofs.WorkLaws.{ends_leave}
use Rattle.tier_join.specs.Group.{AreLeft, BothTell, Memory, TwoMaps, tier_of, with_act, with_epoch}
use Rattle.tier_join.specs.Promises.{Promises}
use Rattle.tier_join.specs.Steps.{with_doubt}
use Rattle.tier_join.proofs.MemorySteps.{losing_promises}
use Rattle.tier_owners.specs.Calls.{MayClose, with_closed}
use Rattle.tier_owners.proofs.Closing.{closing_owned}
use Rattle.tier_protocol.specs.Moves.{Loses, with_left}
use Rattle.tier_protocol.specs.Owners.{Asking, Ledger, SoundOwners, with_call_act}
use Rattle.tier_protocol.specs.Sound.{IsSound}
use Rattle.tier_protocol.specs.Tiers.{BaseMsg, Flights, Name, Tier}
use Rattle.tier_protocol.proofs.Owners.{losses_quiet, quiet_keeps}
use Rattle.tier_protocol.proofs.Steps.{losing}
use Rattle.tier_types.specs.Flights.{IsLeftOf}
use Rattle.tier_view.specs.Answers.{DropsWork, EndingCallsKeeps, IsLoggedAt, IsNotPending, IsTruth, KeepsQuietly, MayCloseAt, MayCloseBy, MayCloseNow, MayCloseWith, MayEnd, MayEndWith, Quiet, ended_call, ended_calls, told, told_log}
use Rattle.tier_view.specs.Calls.{Entry, IsInFlight}
use Rattle.tier_view.specs.Changes.{ended_in, unawaited, unnoted}
use Rattle.tier_view.specs.Stores.{Pending}
use Rattle.tier_view.specs.Tables.{IsUnanswered}
use Rattle.tier_view.specs.Traffic.{Awaited, Owner, Sent, Traffic}
use Rattle.tier_view.specs.Views.{GroupView, act_in, asking_of, calls_in, closes, joined, ledger_in, memory_of}
use Rattle.tier_view.specs.Whole.{AreCounted, HasCause, HasOwner, HaveCauses, IsWhole, SoundTraffic}
use Rattle.tier_view.specs.Worlds.{Began, HasOwners, IsOwned, IsNextAct, IsOwnedBy, IsOwnedWith, MayPend}
use Rattle.tier_view.proofs.Answering.{Still, quiet_of_still}
use Rattle.tier_view.proofs.AnsweringKeeps.{OwesQuietly, quiet_whole}
use Rattle.tier_view.proofs.AnsweringWork.{entries_end, flights_left, flown_goes, going_still, none_answered, same_calls}
use Rattle.tier_view.proofs.Owning.{KnowsMore, knows_more}
use Rattle.tier_view.proofs.Resting.{all_of}

-- ---- who was answered for good

or_none : (a b c : Bool) → (b ≡ false → c ≡ false) → (a || b) ≡ false → (a || c) ≡ false
or_none true b c f e = e
or_none false b c f e = f e

closed_more : (c : ℕ) (xs ys : List Logged) → list_any (closes c) xs ≡ false → list_any (closes c) ys ≡ false → list_any (closes c) (xs ++ ys) ≡ false
closed_more c [] ys h k = k
closed_more c (x ∷ xs) ys h k = or_none (closes c x) (list_any (closes c) xs) (list_any (closes c) (xs ++ ys)) (λ e. closed_more c xs ys e k) h

no_fault : (c : ℕ) (l : Logged) → is_fault l.answer ≡ true → list_any (closes c) (l ∷ []) ≡ false
no_fault c l is = by (l.call == c) (is_fault l.answer) is
  where
    by : (a b : Bool) → b ≡ true → ((a && not b) || false) ≡ false
    by true true e = refl
    by true false e = absurd (true≢false (sym e))
    by false b e = refl

not_this : (c : ℕ) (l : Logged) → l.call ≢ c → list_any (closes c) (l ∷ []) ≡ false
not_this c l ne = ap (λ a. (a && not (is_fault l.answer)) || false) (ne_eqb l.call c ne)

still_open : (l : Logged) (call c : ℕ) (old : Bool) → l.call ≡ call → (if c == call then true else old) ≡ false → (old ≡ false) × (l.call ≢ c)
still_open l call c old own e = by (c == call) refl e
  where
    by : (b : Bool) → (c == call) ≡ b → (if b then true else old) ≡ false → (old ≡ false) × (l.call ≢ c)
    by true same e = absurd (true≢false e)
    by false other e = (e, λ is. true≢false (sym (eq-eqb c call (sym is ∙ own)) ∙ other))

-- ---- the owners, where work is dropped

loses_work : (t : Tier) (left : Flights) → ((n : Name) → IsLeftOf (fin.get t.flights n) (fin.get left n)) → Loses t (with_left left t.net.wire t.net.replies t)
loses_work t left are = record { same = refl; flights = are; wire = λ m on. on; replies = λ p on. on }

module _ (start : Store) (m : Memory) (left : Flights) (are : (n : Name) → IsLeftOf (fin.get m.flights n) (fin.get left n)) where
  dropped_owned : (l k : Ledger) (z : TwoMaps) → KnowsMore l k → IsOwned start m l z → IsOwned start (record m { flights = left }) k z
  dropped_owned l k z more h =
      let t : Tier = tier_of start m h.spells.recs h.spells.base in
      let u : Tier = with_left left t.net.wire t.net.replies t in
      record {
        spells = record { recs = h.spells.recs; base = h.spells.base; cached = h.spells.cached; based = h.spells.based; sound = losing t u h.spells.sound (loses_work t left are) };
        owners = knows_more u l k more (quiet_keeps t u l h.owners ((losses_quiet t h.spells.sound).0 u (loses_work t left are)));
      }

  closed_owned : (l k : Ledger) (z : TwoMaps) (call : ℕ) → KnowsMore (with_closed call l) k → MayCloseAt start m l z call → IsOwned start (record m { flights = left }) k z
  closed_owned l k z call more h =
      let t : Tier = tier_of start m h.owned.spells.recs h.owned.spells.base in
      dropped_owned (with_closed call l) k z more (record { spells = h.owned.spells; owners = closing_owned t l call h.owned.owners h.may })

with_same : (l k : Ledger) (call : ℕ) (a : Act) → KnowsMore l k → KnowsMore (with_call_act (act_in a) l) (with_call_act (act_in a) k)
with_same l k call a more = record { owned = more.owned; acts = ap (λ xs. xs ++ act_in a ∷ []) more.acts; asks = more.asks; closed = more.closed }

-- in each world of a doubt
module _ (start : Store) (m : Memory) (left : Flights) (are : (n : Name) → IsLeftOf (fin.get m.flights n) (fin.get left n)) (l k : Ledger) (z : TwoMaps) where
  with_dropped : (p : Pending) → KnowsMore l k → IsOwnedWith start m l p z → IsOwnedWith start (record m { flights = left }) k p z
  with_dropped (Pending.Plain pool name) more h = h
  with_dropped (Pending.Act pool first a seq) more h = (h.0, dropped_owned start (with_act a.req m) left are (with_call_act (act_in a) l) (with_call_act (act_in a) k) z (with_same l k 0 a more) h.1)
  with_dropped (Pending.Epoch Cache e) more h = dropped_owned start (with_epoch Cache e m) left are l k z more h
  with_dropped (Pending.Epoch Base e) more h = dropped_owned start (with_epoch Base e m) left are l k z more h

  pub by_dropped : (o : Option Pending) → KnowsMore l k → IsOwnedBy start m l o z → IsOwnedBy start (record m { flights = left }) k o z
  by_dropped None more h = dropped_owned start m left are l k z more h
  by_dropped (Some p) more (inl h) = inl (dropped_owned start m left are l k z more h)
  by_dropped (Some p) more (inr h) = inr (with_dropped p more h)

  module _ (call : ℕ) (more : KnowsMore (with_closed call l) k) where
    with_closed_there : (p : Pending) → MayCloseWith start m l p z call → IsOwnedWith start (record m { flights = left }) k p z
    with_closed_there (Pending.Plain pool name) h = absurd h
    with_closed_there (Pending.Act pool first a seq) h =
        (h.0, closed_owned start (with_act a.req m) left are (with_call_act (act_in a) l) (with_call_act (act_in a) k) z call (with_same (with_closed call l) k call a more) h.1)
    with_closed_there (Pending.Epoch Cache e) h = closed_owned start (with_epoch Cache e m) left are l k z call more h
    with_closed_there (Pending.Epoch Base e) h = closed_owned start (with_epoch Base e m) left are l k z call more h

    pub by_closed : (o : Option Pending) → MayCloseBy start m l o z call → IsOwnedBy start (record m { flights = left }) k o z
    by_closed None h = closed_owned start m left are l k z call more h
    by_closed (Some p) (inl h) = inl (closed_owned start m left are l k z call more h)
    by_closed (Some p) (inr h) = inr (with_closed_there p h)

-- ---- the history's shape

order_push : (count : ℕ) (ls : List Logged) (m : Logged) → AllByRecursion (IsPlaced count) ls → AllByRecursion (λ l. l.call ≢ m.call) ls → count ≡ m.end → AreInOrder ls → AreInOrder (ls ++ m ∷ [])
order_push count [] m p ne e h = (tt, tt)
order_push count (l ∷ ls) m p ne e h = (
  all_push (λ n. (l.end ≤ n.end) × (n.call ≢ l.call)) ls m h.0 (omega (arith, p.0.there, e), λ same. ne.0 (sym same)),
  order_push count ls m p.1 ne.1 e h.1,
)

answer_shapes : (l : Logged) (calls : List Call) (log : Log) → IsShaped calls log → MayLog calls log l → IsShaped calls (answered_log l log)
answer_shapes l calls log h may = record {
  ordered = record {
    opened = h.ordered.opened;
    placed = all_push (IsPlaced (length log.acts)) log.answers l h.ordered.placed (record { seen = may.seen; done = may.done; there = omega (arith, may.now) });
    in_order = order_push (length log.acts) log.answers l h.ordered.placed may.unanswered (sym may.now) h.ordered.in_order;
  };
  in_turn = h.in_turn;
  begun = h.begun;
  single = h.single;
  asked = h.asked;
  answered = all_push (λ m. IsAnswered log.acts m (call_of calls m.call)) log.answers l h.answered may.answered;
}

-- ---- traffic

owner_same : (es fs : List Entry) → calls_in fs ≡ calls_in es → (m : BaseMsg) (o : Option Owner) → HasOwner es m o → HasOwner fs m o
owner_same es fs same (BaseMsg.Write e op r) None h = h
owner_same es fs same (BaseMsg.Write e op r) (Some o) h = subst (λ cs. asking_of (call_of cs o.call) ≡ Some (record { line = o.line; req = r })) (sym same) h
owner_same es fs same (BaseMsg.Fence e) o h = h
owner_same es fs same (BaseMsg.GetChunk e op k at) o h = h
owner_same es fs same (BaseMsg.Look e op k v) o h = h
owner_same es fs same (BaseMsg.Install e op k s) o h = h

waits_step : (call : ℕ) (es : List Entry) (next : ℕ) (a : Awaited) (waits : List Awaited) → AllByRecursion (λ a. IsInFlight (ended_in call es) a.call × (a.message < next)) waits
    → IsInFlight es a.call × (a.message < next) → AllByRecursion (λ a. IsInFlight (ended_in call es) a.call × (a.message < next)) (cond (not (a.call == call)) (a ∷ waits) waits)
waits_step call es next a waits rest h = by (a.call == call) refl
  where
    by : (b : Bool) → (a.call == call) ≡ b → AllByRecursion (λ a. IsInFlight (ended_in call es) a.call × (a.message < next)) (cond (not b) (a ∷ waits) waits)
    by true same = rest
    by false other = ((going_still call a.call es (λ is. true≢false (sym (eq-eqb a.call call is) ∙ other)) h.0, h.1), rest)

waits_still : (call : ℕ) (es : List Entry) (next : ℕ) (waits : List Awaited) → AllByRecursion (λ a. IsInFlight es a.call × (a.message < next)) waits
    → AllByRecursion (λ a. IsInFlight (ended_in call es) a.call × (a.message < next)) (unawaited call waits)
waits_still call es next [] h = tt
waits_still call es next (a ∷ waits) h = waits_step call es next a (unawaited call waits) (waits_still call es next waits h.1) h.0

-- ---- the step, with this answer or none

module _ (v : GroupView) (call : ℕ) (left : Flights) (dropped : Option ℕ) (h : IsWhole v) (d : DropsWork call v.traffic.flights left dropped) where
  are_left : (n : Name) → IsLeftOf (fin.get v.traffic.flights n) (fin.get left n)
  are_left n = subst (IsLeftOf (fin.get v.traffic.flights n)) (sym (d.left n)) (ends_leave call (fin.get v.traffic.flights n))

  -- the group where these answers are logged
  abbrev U : List Logged → GroupView
  U more = record (ended_call call None left dropped v) { log = record v.log { answers = v.log.answers ++ more } }

  promises : (more : List Logged) → Promises (with_doubt (joined v).doubt) (joined v) (joined (U more))
  promises more = losing_promises (joined v) (joined (U more)) left (joined v).memory.net.wire (joined v).memory.net.replies are_left (λ m on. on) (λ p on. on) (record { cache = refl; base = refl; doubt = refl }) refl

  asks_same : (c : ℕ) (a : Asking) → (ledger_in v).asks c ≡ Some a → (ledger_in (U [])).asks c ≡ Some a
  asks_same c a e = ap (λ cs. asking_of (call_of cs c)) (same_calls call v.calls.entries) ∙ e

  knows : (more : List Logged) → ((c : ℕ) → list_any (closes c) v.log.answers ≡ false → list_any (closes c) (v.log.answers ++ more) ≡ false) → KnowsMore (ledger_in v) (ledger_in (U more))
  knows more f = record { owned = refl; acts = refl; asks = asks_same; closed = f }

  knows_closed : (l : Logged) → l.call ≡ call → KnowsMore (with_closed call (ledger_in v)) (ledger_in (U (l ∷ [])))
  knows_closed l own = record {
    owned = refl;
    acts = refl;
    asks = asks_same;
    closed = λ c e. let k = still_open l call c (list_any (closes c) v.log.answers) own e in closed_more c v.log.answers (l ∷ []) k.0 (not_this c l k.1);
  }

  -- what follows wherever the owners and the history go on
  module _ (more : List Logged) (o : Option Logged) (is : more ≡ told o) (ends : IsLoggedAt (length v.log.acts) o)
      (shape : IsShaped (calls_in v.calls.entries) v.log → IsShaped (calls_in v.calls.entries) (record v.log { answers = v.log.answers ++ more }))
      (pend : MayPend v.calls.entries (record v.log { answers = v.log.answers ++ more }) v.stores.pending) where
    after_began : (start : Store) → BothTell (joined v) → Began start v → IsHistoryFrom start (calls_in v.calls.entries) (record v.log { answers = v.log.answers ++ more })
        → ((z : TwoMaps) → AreLeft (joined v) z → HasOwners start (U more) z) → Began start (U more)
    after_began start tell b history owners = record {
      pools = (promises more).began start tell b.pools;
      owners = owners;
      history = subst (λ cs. IsHistoryFrom start cs (U more).log) (sym (same_calls call v.calls.entries)) history;
      next = by v.stores.pending b.next;
    }
      where
        by : (p : Option Pending) → IsNextAct start v.log p → IsNextAct start (U more).log p
        by None k = k
        by (Some (Pending.Plain pool name)) k = k
        by (Some (Pending.Act pool first a seq)) k = k
        by (Some (Pending.Epoch pool e)) k = k

    still_at : Still v (U more)
    still_at = record {
      pools = promises more;
      stores = refl;
      opening = refl;
      acts = refl;
      answer = o;
      is_answer = ap (λ ls. v.log.answers ++ ls) is;
      ends = ends;
      last = refl;
      entries = entries_end call v.calls.entries;
      flown = flown_goes (length v.log.answers) (length (v.log.answers ++ more)) dropped v.calls.flown (longer v.log.answers);
      epoch = refl;
      opids = refl;
      share = refl;
      values = refl;
    }
      where
        longer : (xs : List Logged) → length xs ≤ length (xs ++ more)
        longer [] = omega arith
        longer (x ∷ xs) = omega (arith, longer xs)

    pending_still : (p : Option Pending) → MayPend v.calls.entries (U more).log p → MayPend (ended_in call v.calls.entries) (U more).log p
    pending_still None k = k
    pending_still (Some (Pending.Plain pool name)) k = k
    pending_still (Some (Pending.Act pool first a seq)) k =
        (record { asked = subst (λ cs. IsAskedBy a (call_of cs a.call)) (sym (same_calls call v.calls.entries)) k.0.asked; first = k.0.first; free = k.0.free }, k.1)
    pending_still (Some (Pending.Epoch pool e)) k = k

    owes_at : AllByRecursion (λ e. e.ended ≡ false → IsUnanswered e.number more) (ended_in call v.calls.entries)
        → HaveCauses (length v.log.answers) (ended_calls (length v.log.answers) call dropped v.calls) v.agent.share v.standing.cache_epoch more
        → AreCounted v.stores (v.log.answers ++ more) → OwesQuietly v (U more) more
    owes_at over causes counted = record {
      shaped = λ s. subst (λ cs. IsShaped cs (U more).log) (sym (same_calls call v.calls.entries)) (shape s);
      pending = pending_still v.stores.pending pend;
      over = over;
      flights = flights_left call v.calls.entries v.calls.flown v.traffic.flights left v.traffic.begun v.standing.cache_epoch (length v.log.answers) (length (v.log.answers ++ more)) dropped
          (longer v.log.answers) d h.flights;
      traffic = record {
        messages = h.traffic.messages;
        replies = h.traffic.replies;
        answers = h.traffic.answers;
        owned = all_imply (λ s. HasOwner v.calls.entries s.message s.owner) (λ s. HasOwner (ended_in call v.calls.entries) s.message s.owner)
            (λ s k. owner_same v.calls.entries (ended_in call v.calls.entries) (same_calls call v.calls.entries) s.message s.owner k) v.traffic.messages h.traffic.owned;
        begun = h.traffic.begun;
        awaited = waits_still call v.calls.entries v.traffic.next_message v.traffic.awaited h.traffic.awaited;
      };
      causes = causes;
      counted = counted;
      stops = h.stops;
      totals = h.totals;
    }
      where
        longer : (xs : List Logged) → length xs ≤ length (xs ++ more)
        longer [] = omega arith
        longer (x ∷ xs) = omega (arith, longer xs)

  -- ---- no answer

  same_log : record v.log { answers = v.log.answers ++ [] } ≡ v.log
  same_log = ap (λ ls. record v.log { answers = ls }) (append-nil v.log.answers)

  without_answer : KeepsQuietly v (U [])
  without_answer =
      let pend = subst (λ g. MayPend v.calls.entries g v.stores.pending) (sym same_log) h.pending in
      let shape : IsShaped (calls_in v.calls.entries) v.log → IsShaped (calls_in v.calls.entries) (record v.log { answers = v.log.answers ++ [] }) = subst (IsShaped (calls_in v.calls.entries)) (sym same_log) in
      let quiet = quiet_of_still v (U []) (still_at [] None refl tt shape pend)
      (λ start tell b. after_began [] None refl tt shape pend start tell b (subst (IsHistoryFrom start (calls_in v.calls.entries)) (sym same_log) b.history)
      (λ z i. by_dropped start (joined v).memory left are_left (ledger_in v) (ledger_in (U [])) z v.stores.pending
      (knows [] (λ c e. closed_more c v.log.answers [] e refl)) (b.owners z i))) in (
        quiet_whole v (U []) [] h quiet refl
            (owes_at [] None refl tt shape pend (all_of (λ e. e.ended ≡ false → IsUnanswered e.number []) (λ e going. tt) (ended_in call v.calls.entries)) tt
            (subst (AreCounted v.stores) (sym (append-nil v.log.answers)) h.counted)),
        quiet,
      )

  -- ---- an answer

  module _ (l : Logged) (may : MayEndWith v (ended_calls (length v.log.answers) call dropped v.calls) call l) (free : (is_fault l.answer ≡ true) ⊎ IsNotPending l.call v.stores.pending) where
    pending_on : (p : Option Pending) → (is_fault l.answer ≡ true) ⊎ IsNotPending l.call p → MayPend v.calls.entries v.log p → MayPend v.calls.entries (answered_log l v.log) p
    pending_on None f k = k
    pending_on (Some (Pending.Plain pool name)) f k = k
    pending_on (Some (Pending.Act pool first a seq)) f k = (
      record {
        asked = k.0.asked;
        first = k.0.first;
        free = all_push (λ x. x.call ≡ a.call → is_fault x.answer ≡ true) v.log.answers l k.0.free (λ same. elim f [ inl fault ↦ fault | inr other ↦ absurd (other (sym same)) ]);
      },
      k.1,
    )
    pending_on (Some (Pending.Epoch pool e)) f k = k

    on_owners : (start : Store) (z : TwoMaps) → HasOwners start v z → is_fault l.answer ≡ true → HasOwners start (U (l ∷ [])) z
    on_owners start z k fault = by_dropped start (joined v).memory left are_left (ledger_in v) (ledger_in (U (l ∷ []))) z v.stores.pending
        (knows (l ∷ []) (λ c e. closed_more c v.log.answers (l ∷ []) e (no_fault c l fault))) k

    on_closed : (start : Store) (z : TwoMaps) → MayCloseBy start (memory_of v.log v.traffic v.standing) (ledger_in v) v.stores.pending z l.call → HasOwners start (U (l ∷ [])) z
    on_closed start z k = by_closed start (joined v).memory left are_left (ledger_in v) (ledger_in (U (l ∷ []))) z call (knows_closed l may.own) v.stores.pending
        (subst (MayCloseBy start (memory_of v.log v.traffic v.standing) (ledger_in v) v.stores.pending z) may.own k)

    shape_on : IsShaped (calls_in v.calls.entries) v.log → IsShaped (calls_in v.calls.entries) (answered_log l v.log)
    shape_on s = answer_shapes l (calls_in v.calls.entries) v.log s may.may

    -- at a store at which the group began
    pub ended_began : (start : Store) → BothTell (joined v) → Began start v → TellsCall start v.log.acts l (call_of (calls_in v.calls.entries) l.call)
        → (is_fault l.answer ≡ true) ⊎ ((z : TwoMaps) → AreLeft (joined v) z → MayCloseBy start (memory_of v.log v.traffic v.standing) (ledger_in v) v.stores.pending z l.call)
        → Began start (U (l ∷ []))
    ended_began start tell b tells good =
        after_began (l ∷ []) (Some l) refl may.may.now shape_on (pending_on v.stores.pending free h.pending) start tell b
        (answer_keeps l start (calls_in v.calls.entries) v.log b.history may.may tells)
        (λ z i. elim good [ inl fault ↦ on_owners start z (b.owners z i) fault | inr closing ↦ on_closed start z (closing z i) ])

    pub ended_still : Still v (U (l ∷ []))
    ended_still = still_at (l ∷ []) (Some l) refl may.may.now shape_on (pending_on v.stores.pending free h.pending)

    pub ended_owes : OwesQuietly v (U (l ∷ [])) (l ∷ [])
    ended_owes = owes_at (l ∷ []) (Some l) refl may.may.now shape_on (pending_on v.stores.pending free h.pending) (none_answered call l may.own v.calls.entries) (may.cause, tt) may.counted

truth_free : (v : GroupView) (l : Logged) → (is_fault l.answer ≡ true) ⊎ MayCloseNow v l.call → (is_fault l.answer ≡ true) ⊎ IsNotPending l.call v.stores.pending
truth_free v l (inl fault) = inl fault
truth_free v l (inr good) = inr good.free

pub ending_calls_keeps : EndingCallsKeeps
ending_calls_keeps v call None left dropped h d may =
    subst (KeepsQuietly v) (ap (λ g. record (ended_call call None left dropped v) { log = g }) (same_log v call left dropped h d)) (without_answer v call left dropped h d)
ending_calls_keeps v call (Some l) left dropped h d may =
    let free = truth_free v l may.1.good in
    let w : GroupView = ended_call call (Some l) left dropped v in
    let quiet : Quiet v w =
    quiet_of_still v w (ended_still v call left dropped h d l may.0 free)
    (λ start tell b. ended_began v call left dropped h d l may.0 free start tell b (may.1.tells start tell b)
    (elim may.1.good [ inl fault ↦ inl fault | inr good ↦ inr (λ z i. good.closes start tell b z i) ])) in
    (quiet_whole v w (l ∷ []) h quiet refl (ended_owes v call left dropped h d l may.0 free), quiet)
