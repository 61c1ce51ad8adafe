-- Replies of the base: a proxied write lands, and a reader is told what was looked up.
use Rattle.std.proofs.Common.{◌≡◌, ◌≢◌, ◌≤◌, ◌<◌, ◌⊎◌, inl, inr, ℕ, ◌+◌, Bool, true, false, List, [], ◌∷◌, ◌++◌, take, length, map, Option, Some, None, refl, sym, ap, subst, ◌∙◌, true≢false, arith}
use Rattle.std.specs.FinMap as fin
use Rattle.std.specs.List.{AllByRecursion}
use Rattle.std.specs.Option.{option_map}
use Rattle.std.proofs.lemmas.List.{append-nil}
use Rattle.obj_model.specs.declared.reply.Reply.{Reply}
use Rattle.obj_model.specs.declared.reply.Reply.TheVariants as reply
use Rattle.obj_model.specs.declared.req.Req.{Req}
use Rattle.obj_model.specs.declared.state.NameState.{NameState}
use Rattle.obj_model.specs.declared.sub_op.SubOp.{SubOp}
use Rattle.obj_model.specs.declared.tier.Kind.{Kind}
use Rattle.obj_model.specs.declared.tier.Kind.TheVariants as kind
use Rattle.obj_ops.specs.Acts.{act, look}
use Rattle.obj_ops.specs.Stores.{Store, state_of}
use Rattle.obj_ops.specs.declared.reading.Looked.{Looked}
use Rattle.obj_ops.specs.declared.reading.Looked.TheVariants as looked
use Rattle.obj_ops.specs.declared.request.Acted.{Acted}
use Rattle.obj_ops.specs.declared.request.Acted.TheVariants as acted
use Rattle.tier_chron.specs.Calls.{Call, call_of}
use Rattle.tier_chron.specs.Fits.{TellsTruth, TellsCall, TellsRead, TellsWrite}
use Rattle.tier_chron.specs.Laws.{MayLog}
use Rattle.tier_chron.specs.Places.{behind, state_at}
use Rattle.tier_chron.specs.Shapes.{is_fault}
use Rattle.tier_chron.specs.declared.answer.Answer.{Answer}
use Rattle.tier_chron.specs.declared.answer.Answer.TheVariants as answer
use Rattle.tier_chron.specs.declared.asked.Asked.{Asked}
use Rattle.tier_chron.specs.declared.asked.Asked.TheVariants.{Write, Read, Flush, Finish, Evict, Drain, Agent, Start}
use Rattle.tier_chron.specs.declared.entries.Act.{Act}
use Rattle.tier_chron.specs.declared.entries.Logged.{Logged}
use Rattle.tier_join.specs.Ends.{IsSettled}
use Rattle.tier_join.specs.Group.{AreLeft, BothTell, TwoMaps, store_now, tier_of}
use Rattle.tier_join.specs.Promises.{Promises, as_it_is}
use Rattle.tier_join.specs.Steps.{seen, with_doubt}
use Rattle.tier_join.proofs.Commits.{some_maps}
use Rattle.tier_join.proofs.MemorySteps.{landing_promises}
use Rattle.tier_join.proofs.Telling.{reads_are_plain, writes_are_plain}
use Rattle.tier_owners.proofs.Closing.{landed_closes}
use Rattle.tier_owners.proofs.Quiets.{landing_quiet}
use Rattle.tier_protocol.specs.Moves.{landed, MayLand}
use Rattle.tier_protocol.specs.Owners.{CallAct, Ledger}
use Rattle.tier_protocol.specs.Tiers.{BaseActed, Flight, Flights, Name, ReadFlight, Tier, IsIn}
use Rattle.tier_protocol.proofs.Cells.{get_here, get_there, same_or_not}
use Rattle.tier_protocol.proofs.Owners.{landing_fits, one_asked, quiet_keeps}
use Rattle.tier_protocol.proofs.Steps.{landing}
use Rattle.tier_types.specs.Flights.{HasOpid}
use Rattle.tier_types.specs.Serving.{lasting}
use Rattle.tier_view.specs.Answered.{HasFaultCause, IsLookedAt, IsOfLanded, LandedActsFit, LandedCallsKeep, LandingWritesKeeps, Lands, LookedCallsKeep, is_own, kept_answer, landed_write, lasting_answer, looked_answer}
use Rattle.obj_model.specs.declared.change.Pool.TheVariants.{Base, Cache}
use Rattle.tier_view.specs.Grows.{Stays}
use Rattle.tier_view.specs.Answers.{DropsWork, IsNotPending, KeepsQuietly, MayCloseBy, MayEndWith, NoMore, Quiet, ended_call, ended_calls, gone_some}
use Rattle.tier_view.specs.Calls.{Calls, Entry, Flown, call_in, entry_of}
use Rattle.tier_view.specs.Stores.{doubt_in}
use Rattle.tier_view.specs.Tables.{IsListed, IsOfKind, IsUnanswered, SoundFlights}
use Rattle.tier_view.specs.Views.{GroupView, act_in, asking_by, asking_of, calls_in, joined, ledger_in, memory_of}
use Rattle.tier_view.specs.Whole.{HasCause, IsFirstEpoch, IsWhole, faults_told}
use Rattle.tier_view.specs.Worlds.{Began, IsOwned}
use Rattle.tier_view.proofs.Answering.{Still, quiet_of_still, still_both}
use Rattle.tier_view.proofs.AnsweringClosing.{none_pending, readers_may_close_now}
use Rattle.tier_view.proofs.AnsweringEnds.{ended_began, ended_owes, ended_still, ending_calls_keeps}
use Rattle.tier_view.proofs.AnsweringFaults.{call_found, counted_with, fault_cause, write_nothing}
use Rattle.tier_view.proofs.AnsweringKeeps.{OwesQuietly, quiet_whole, still_whole}
use Rattle.tier_view.proofs.AnsweringWork.{come_still, flown_goes, listed_still, table_left}
use Rattle.tier_view.proofs.Beginning.{none_of_kind, owned_surely, surely_owned}
use Rattle.tier_view.proofs.Resting.{all_of, extends_same, stays_itself}

-- ---- a proxied write lands

none_there : {X : Type 0} (o : Option X) (x : X) → o ≡ None → o ≡ Some x → ⊥
none_there o x none some = absurd (cc)

write_kind : (driver : Option ℕ) (owner op : ℕ) (r : Req) (k : Kind) (j : ℕ) → IsOfKind (Some (Flight.Write driver owner op r)) k j → op ≡ j
write_kind driver owner op r kind.Promote j h = absurd h
write_kind driver owner op r kind.Write j h = h
write_kind driver owner op r kind.Read j h = absurd h
write_kind driver owner op r kind.Flush j h = absurd h

module _ (v : GroupView) (k : Name) (driver : Option ℕ) (owner op : ℕ) (r : Req) (a : BaseActed) (h : IsWhole v) (q : Lands v k driver owner op r a) where
  abbrev L : GroupView
  L = landed_write k op v

  no_doubt : (joined v).doubt ≡ None
  no_doubt = ap (option_map doubt_in) q.settled

  promises : Promises as_it_is (joined v) (joined L)
  promises = landing_promises (joined v) (joined L) k driver owner op r a no_doubt (record { flight = q.flight; reply = q.reply }) (record { cache = refl; base = refl; doubt = refl }) refl

  abbrev pub landed_owned : (start : Store) (z : TwoMaps) → IsOwned start (memory_of v.log v.traffic v.standing) (ledger_in v) z → IsOwned start (memory_of L.log L.traffic L.standing) (ledger_in L) z
  landed_owned start z w =
      let t : Tier = tier_of start (joined v).memory w.spells.recs w.spells.base in
      record {
        spells = record {
          recs = w.spells.recs;
          base = w.spells.base;
          cached = w.spells.cached;
          based = w.spells.based;
          sound = landing t k driver owner op r a w.spells.sound (record { flight = q.flight; reply = q.reply });
        };
        owners = quiet_keeps t (landed k t) (ledger_in v) w.owners (landing_quiet t k);
      }

  landed_flights : SoundFlights v.calls.entries L.calls.flown L.traffic.flights v.traffic.begun v.standing.cache_epoch (length v.log.answers)
  landed_flights = record {
    listed = λ n f is. elim (same_or_not n k) [
      | inl same ↦ absurd (none_there (fin.get L.traffic.flights n) f (ap (fin.get L.traffic.flights) same ∙ get_here v.traffic.flights k None) is)
      | inr other ↦
          let was : fin.get v.traffic.flights n ≡ Some f = sym (get_there v.traffic.flights k None n other) ∙ is in
          listed_still v.calls.entries v.calls.entries v.calls.flown L.calls.flown v.traffic.begun v.standing.cache_epoch n f (λ c waits going. going)
          (λ j p by has come. come_still (length v.log.answers) (Some op) v.calls.flown j n p by
          (λ e. other (h.memory.sound.apart n k p (subst (λ o. HasOpid o p) (sym was) has) (subst (λ o. HasOpid o p) (sym q.flight) (sym (number e))))) come)
          (h.flights.listed n f was)
    ];
    table = table_left v.calls.entries v.calls.entries v.traffic.flights L.traffic.flights (length v.log.answers) (length v.log.answers) (Some op) (omega arith) (λ n known. known)
        (λ n j p ne of. elim (same_or_not n k) [
          | inl same ↦ absurd (ne (ap Some (write_kind driver owner op r j p (subst (λ o. IsOfKind o j p) (ap (fin.get v.traffic.flights) same ∙ q.flight) of))))
          | inr other ↦ subst (λ o. IsOfKind o j p) (sym (get_there v.traffic.flights k None n other)) of
        ]) v.calls.flown h.flights.table;
  }
    where
      number : {x y : ℕ} → Some x ≡ Some y → x ≡ y
      number e = cc

  pub landed_still : Still v L
  landed_still = record {
    pools = subst (λ o. Promises (with_doubt o) (joined v) (joined L)) (sym no_doubt) promises;
    stores = refl;
    opening = refl;
    acts = refl;
    answer = None;
    is_answer = sym (append-nil v.log.answers);
    ends = tt;
    last = refl;
    entries = extends_same Stays NoMore stays_itself v.calls.entries refl;
    flown = flown_goes (length v.log.answers) (length v.log.answers) (Some op) v.calls.flown (omega arith);
    epoch = refl;
    opids = refl;
    share = refl;
    values = refl;
  }

  pub landed_began : (start : Store) → BothTell (joined v) → Began start v → Began start L
  landed_began start tell b = record {
    pools = promises.began start tell b.pools;
    owners = λ z i. owned_surely start L z q.settled (landed_owned start z (surely_owned start v z q.settled (b.owners z i)));
    history = b.history;
    next = b.next;
  }

  landed_owes : OwesQuietly v L []
  landed_owes = record {
    shaped = λ s. s;
    pending = h.pending;
    over = all_of (λ e. e.ended ≡ false → IsUnanswered e.number []) (λ e going. tt) v.calls.entries;
    flights = landed_flights;
    traffic = record { messages = h.traffic.messages; replies = h.traffic.replies; answers = h.traffic.answers; owned = h.traffic.owned; begun = h.traffic.begun; awaited = h.traffic.awaited };
    causes = tt;
    counted = h.counted;
    stops = h.stops;
    totals = h.totals;
  }

  pub landed_quiet : Quiet v L
  landed_quiet = quiet_of_still v L landed_still landed_began

  pub landed_whole : IsWhole L
  landed_whole = quiet_whole v L [] h landed_quiet (sym (append-nil v.log.answers)) landed_owes

pub landing_writes_keeps : LandingWritesKeeps
landing_writes_keeps v k driver owner op r a h q = (landed_whole v k driver owner op r a h q, landed_quiet v k driver owner op r a h q)

-- ---- what its owner is told

acts_by : (P : Act → Type 0) (acts : List Act) → ((x : Act) → IsIn (act_in x) (map act_in acts) → P x) → AllByRecursion P acts
acts_by P [] f = tt
acts_by P (x ∷ acts) f = (f x (inl refl), acts_by P acts (λ y on. f y (inr on)))

whole_take : {X : Type 0} (xs : List X) → take (length xs) xs ≡ xs
whole_take [] = refl
whole_take (x ∷ xs) = ap (λ ys. x ∷ ys) (whole_take xs)

own_tells : (s : NameState) (acts : List Act) (req : Req) (l : Logged) (x : Answer) → is_own x ≡ true → TellsWrite s acts req l x
own_tells s acts req l (answer.Done ver true) is = absurd (true≢false (sym is))
own_tells s acts req l (answer.Refused at why ver true) is = absurd (true≢false (sym is))
own_tells s acts req l (answer.Stale tid) is = absurd (true≢false (sym is))
own_tells s acts req l x is = tt

one_reply : (p q : Reply) → acted.Again p ≡ acted.Again q → q ≡ p
one_reply p q e = cc

kept_tells : (s : NameState) (acts : List Act) (req : Req) (l : Logged) (given : Reply) → act s req ≡ acted.Again given → AllByRecursion (λ x. x.call ≡ l.call → x.reply ≡ given) acts
    → TellsWrite s acts req l (kept_answer given)
kept_tells s acts req l (reply.Done ver) again same = record { again = again; same = same }
kept_tells s acts req l (reply.Refused at why ver) again same = record { again = again; same = same }

lasting_tells : (s : NameState) (acts : List Act) (req : Req) (l : Logged) (b : BaseActed) → act s req ≡ lasting b
    → ((x : Act) → IsIn (act_in x) (map act_in acts) → x.call ≡ l.call → lasting b ≡ acted.Again x.reply) → TellsWrite s acts req l (lasting_answer b)
lasting_tells s acts req l (BaseActed.Fresh given) at own = kept_tells s acts req l given at (acts_by (λ x. x.call ≡ l.call → x.reply ≡ given) acts (λ x on same. one_reply given x.reply (own x on same)))
lasting_tells s acts req l (BaseActed.Again given) at own = kept_tells s acts req l given at (acts_by (λ x. x.call ≡ l.call → x.reply ≡ given) acts (λ x on same. one_reply given x.reply (own x on same)))
lasting_tells s acts req l (BaseActed.Stale kept) at own = record {
  stale = at;
  none = acts_by (λ x. x.call ≢ l.call) acts (λ x on same. let no : acted.Stale kept ≡ acted.Again x.reply = own x on same in absurd (cc));
}
lasting_tells s acts req l (BaseActed.Worn limit) at own = tt

write_asked : (x : Asked) (o : Option ℕ) (line : ℕ) (r : Req) → asking_by x o ≡ Some (record { line = line; req = r }) → x ≡ Write r
write_asked (Write p) (Some n) line r e = ap Write (one_asked n line p r e)
write_asked (Write p) None line r e = absurd (cc)
write_asked (Read client name vector) o line r e = absurd (cc)
write_asked (Flush name blocking begin_only) o line r e = absurd (cc)
write_asked (Finish name) o line r e = absurd (cc)
write_asked (Evict name) o line r e = absurd (cc)
write_asked Drain o line r e = absurd (cc)
write_asked Agent o line r e = absurd (cc)
write_asked Start o line r e = absurd (cc)

-- a call that asked a write request
asked_write : (c : Option Call) (line : ℕ) (r : Req) → asking_of c ≡ Some (record { line = line; req = r }) → (d : Call) × (c ≡ Some d) × (d.asked ≡ Write r)
asked_write None line r e = absurd (cc)
asked_write (Some c) line r e = (c, refl, write_asked c.asked c.line line r e)

module _ (v : GroupView) (k : Name) (driver : Option ℕ) (op : ℕ) (r : Req) (a : BaseActed) (l : Logged) (h : IsWhole v) (q : Lands v k driver l.call op r a)
    (may : MayLog (calls_in v.calls.entries) v.log l) (of : IsOfLanded (length v.log.acts) a l) where
  landed_true : (start : Store) → BothTell (joined v) → Began start v → TellsCall start v.log.acts l (call_of (calls_in v.calls.entries) l.call)
  landed_true start tell b =
      let some = some_maps (joined v) tell in
      let w : IsOwned start (joined v).memory (ledger_in v) some.0 = surely_owned start v some.0 q.settled (b.owners some.0 some.1) in
      let t : Tier = tier_of start (joined v).memory w.spells.recs w.spells.base in
      let lands : MayLand t k driver l.call op r a = record { flight = q.flight; reply = q.reply } in
      let this = w.owners.writing k driver l.call op r q.flight in
      let c = asked_write (call_of (calls_in v.calls.entries) l.call) this.line r this.asked in
      let plain : act (state_of (store_now start (joined v)) k) r ≡ lasting a =
      writes_are_plain start (joined v) k driver l.call op r a (record { tell = tell; began = b.pools; settled = ap (option_map doubt_in) q.settled }) (record { flight = q.flight; reply = q.reply }) in
      let named : r.name ≡ k = (h.memory.sound.each k).named driver l.call op r q.flight in
      let tells : TellsWrite (state_at start v.log.acts l.place r.name) v.log.acts r l l.answer = elim of [
        | inl own ↦ own_tells (state_at start v.log.acts l.place r.name) v.log.acts r l l.answer own
        | inr (inl fault) ↦ fault_tells_write fault start
        | inr (inr now) ↦ subst (TellsWrite (state_at start v.log.acts l.place r.name) v.log.acts r l) (sym now.1)
            (lasting_tells (state_at start v.log.acts l.place r.name) v.log.acts r l a
            (subst (λ n. act (state_at start v.log.acts n r.name) r ≡ lasting a) (sym now.0)
            (subst (λ acts. act (state_of (behind start acts) r.name) r ≡ lasting a) (sym (whole_take v.log.acts)) (subst (λ n. act (state_of (store_now start (joined v)) n) r ≡ lasting a) (sym named) plain)))
            (λ x on same. ((landing_fits t (ledger_in v) k driver l.call op r a w.spells.sound w.owners lands).0 (act_in x) on same).1))
      ] in
      subst (TellsCall start v.log.acts l) (sym c.1) (subst (λ x. TellsTruth start v.log.acts x l) (sym c.2) tells)
    where
      fault_tells_write : is_fault l.answer ≡ true → (start : Store) → TellsWrite (state_at start v.log.acts l.place r.name) v.log.acts r l l.answer
      fault_tells_write fault start = write_nothing (state_at start v.log.acts l.place r.name) v.log.acts r l l.answer fault

-- ---- and its end

module _ (v : GroupView) (l : Logged) (calls : Calls) where
  abbrev Caused : Answer → Type 0
  Caused x = HasCause (length v.log.answers) calls v.agent.share v.standing.cache_epoch l x

  own_cause : (x : Answer) → is_own x ≡ true → Caused x
  own_cause (answer.Blocked k op) is = absurd (true≢false (sym is))
  own_cause (answer.Full micro) is = absurd (true≢false (sym is))
  own_cause (answer.Restarted was now) is = absurd (true≢false (sym is))
  own_cause x is = tt

  kept_cause : (given : Reply) → Caused (kept_answer given)
  kept_cause (reply.Done ver) = tt
  kept_cause (reply.Refused at why ver) = tt

  lasting_cause : (b : BaseActed) → Caused (lasting_answer b)
  lasting_cause (BaseActed.Fresh given) = kept_cause given
  lasting_cause (BaseActed.Again given) = kept_cause given
  lasting_cause (BaseActed.Stale kept) = tt
  lasting_cause (BaseActed.Worn limit) = tt

  looked_cause : (found : Looked) → Caused (looked_answer found)
  looked_cause (looked.Values ver outs) = tt
  looked_cause (looked.Refused at why ver) = tt

same_fault_cause : (v w : GroupView) (l : Logged) → w.stores ≡ v.stores → w.standing ≡ v.standing → w.log.answers ≡ v.log.answers → w.calls.entries ≡ v.calls.entries → (x : Answer) → HasFaultCause v l x → HasFaultCause w l x
same_fault_cause v w l stores standing log calls (answer.Restarted was now) c = (
  c.0,
  subst (λ s. now ≤ s.cache_epoch) (sym standing) c.1,
  subst (λ es. IsFirstEpoch es (entry_of es l.call) was) (sym calls) c.2,
)
same_fault_cause v w l stores standing log calls (answer.DiskFault Cache) c =
    subst (λ s. faults_told Cache w.log.answers < s.cache.faults) (sym stores) (subst (λ ls. faults_told Cache ls < v.stores.cache.faults) (sym log) c)
same_fault_cause v w l stores standing log calls (answer.DiskFault Base) c =
    subst (λ s. faults_told Base w.log.answers < s.base.faults) (sym stores) (subst (λ ls. faults_told Base ls < v.stores.base.faults) (sym log) c)
same_fault_cause v w l stores standing log calls x c = tt

pub landed_calls_keep : LandedCallsKeep
landed_calls_keep v k driver op r a l left dropped h q d may cause of =
    let m : GroupView = landed_write k op v in
    let w : GroupView = ended_call l.call (Some l) left dropped m in
    let hm : IsWhole m = landed_whole v k driver l.call op r a h q in
    let calls : Calls = ended_calls (length v.log.answers) l.call dropped m.calls in
    let caused : HasFaultCause m l l.answer = same_fault_cause v m l refl refl refl refl l.answer cause in
    let ending : MayEndWith m calls l.call l = record {
      own = refl;
      may = may;
      cause = elim of [
        | inl own ↦ own_cause m l calls l.answer own
        | inr (inl fault) ↦ fault_cause m l hm (length v.log.answers) dropped l.answer fault caused
        | inr (inr now) ↦ subst (HasCause (length m.log.answers) calls m.agent.share m.standing.cache_epoch l) (sym now.1) (lasting_cause m l calls a)
      ];
      counted = counted_with m l hm caused;
    } in
    let free : (is_fault l.answer ≡ true) ⊎ IsNotPending l.call m.stores.pending = inr (none_pending l.call m.stores.pending q.settled) in
    let still : Still v w = still_both v m w (landed_still v k driver l.call op r a h q) (ended_still m l.call left dropped hm d l ending free) (inl refl) in
    let quiet : Quiet v w = quiet_of_still v w still (λ start tell b.
    ended_began m l.call left dropped hm d l ending free start tell (landed_began v k driver l.call op r a h q start tell b)
    (landed_true v k driver op r a l h q may of start tell b)
    (inr (λ z i.
    let o : IsOwned start (joined v).memory (ledger_in v) z = surely_owned start v z q.settled (b.owners z i) in
    let t : Tier = tier_of start (joined v).memory o.spells.recs o.spells.base in
    subst (λ p. MayCloseBy start (memory_of m.log m.traffic m.standing) (ledger_in m) p z l.call) (sym q.settled) (record {
      owned = landed_owned v k driver l.call op r a h q start z o;
      may = landed_closes t (ledger_in v) k driver l.call op r a o.spells.sound o.owners (record { flight = q.flight; reply = q.reply });
    })))) in (
      still_whole m w (l ∷ []) hm (ended_still m l.call left dropped hm d l ending free)
          (λ tell. let s = h.began tell in (s.0, quiet.began s.0 tell s.1)) refl (ended_owes m l.call left dropped hm d l ending free),
      quiet,
    )

-- ---- a reader is told what was looked up

looked_tells : (s : NameState) (vector : List SubOp) (found : Looked) → found ≡ look s vector → TellsRead s vector (looked_answer found)
looked_tells s vector (looked.Values ver outs) e = sym e
looked_tells s vector (looked.Refused at why ver) e = sym e

no_fault_cause : (v : GroupView) (l : Logged) (found : Looked) → HasFaultCause v l (looked_answer found)
no_fault_cause v l (looked.Values ver outs) = tt
no_fault_cause v l (looked.Refused at why ver) = tt

pub looked_calls_keep : LookedCallsKeep
looked_calls_keep v k list r found client l left dropped h q d may now is =
    let c : call_of (calls_in v.calls.entries) l.call ≡ Some (call_in q.entry) = call_found v.calls.entries l.call q.entry q.is in
    let none : asking_of (call_of (calls_in v.calls.entries) l.call) ≡ None = ap asking_of c ∙ ap (λ x. asking_by x q.entry.line) q.asked in
    ending_calls_keeps v l.call (Some l) left dropped h d (
      record {
        own = refl;
        may = may;
        cause = subst (HasCause (length v.log.answers) (ended_calls (length v.log.answers) l.call dropped v.calls) v.agent.share v.standing.cache_epoch l) (sym is)
            (looked_cause v l (ended_calls (length v.log.answers) l.call dropped v.calls) found);
        counted = counted_with v l h (subst (HasFaultCause v l) (sym is) (no_fault_cause v l found));
      },
      record {
        tells = λ start tell b.
            let plain : found ≡ look (state_of (store_now start (joined v)) k) r.vector =
            reads_are_plain start (joined v) k list r found (record { tell = tell; began = b.pools; settled = ap (option_map doubt_in) q.settled }) q.flight q.on q.reply in
            let tells : TellsRead (state_at start v.log.acts l.place k) r.vector l.answer =
            subst (TellsRead (state_at start v.log.acts l.place k) r.vector) (sym is)
            (looked_tells (state_at start v.log.acts l.place k) r.vector found
            (subst (λ n. found ≡ look (state_at start v.log.acts n k) r.vector) (sym now)
            (subst (λ acts. found ≡ look (state_of (behind start acts) k) r.vector) (sym (whole_take v.log.acts)) plain))) in
            subst (TellsCall start v.log.acts l) (sym c) (subst (λ x. TellsTruth start v.log.acts x l) (sym q.asked) tells);
        good = inr (readers_may_close_now v l.call h none);
      },
    )

-- ---- the owner's act fits what the base told

act_there : (acts : List Act) (c : CallAct) → IsIn c (map act_in acts) → (x : Act) × IsIn x acts × (c ≡ act_in x)
act_there [] c on = absurd on
act_there (x ∷ acts) c (inl is) = (x, inl refl, is)
act_there (x ∷ acts) c (inr on) = let k = act_there acts c on in (k.0, inr k.1, k.2)

in_acts : (acts : List Act) (x : Act) → IsIn x acts → IsIn (act_in x) (map act_in acts)
in_acts [] x on = absurd on
in_acts (y ∷ acts) x (inl is) = inl (ap act_in is)
in_acts (y ∷ acts) x (inr on) = inr (in_acts acts x on)

pub landed_acts_fit : LandedActsFit
landed_acts_fit start v k driver owner op r a tell b q =
    let some = some_maps (joined v) tell in
    let w : IsOwned start (joined v).memory (ledger_in v) some.0 = surely_owned start v some.0 q.settled (b.owners some.0 some.1) in
    let t : Tier = tier_of start (joined v).memory w.spells.recs w.spells.base in
    let lands : MayLand t k driver owner op r a = record { flight = q.flight; reply = q.reply } in
    let fits = landing_fits t (ledger_in v) k driver owner op r a w.spells.sound w.owners lands in (
      λ x on same. fits.0 (act_in x) (in_acts v.log.acts x on) same,
      λ given fresh.
          let its = fits.1 given fresh in
          let x = act_there v.log.acts its.0 its.1 in
          let mine : x.0.call ≡ owner = ap (λ c. c.call) (sym x.2) ∙ its.2 in
          let told : acted.Again given ≡ acted.Again x.0.reply = sym (ap lasting fresh) ∙ (fits.0 (act_in x.0) (in_acts v.log.acts x.0 x.1) mine).1 in
          (x.0, x.1, mine, one_reply given x.0.reply told),
    )
