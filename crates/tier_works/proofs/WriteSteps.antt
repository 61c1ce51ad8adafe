-- A left write is taken over, and a Write is sent again; a write request begins and is sent.
use Rattle.std.proofs.Common.{◌≡◌, ◌≢◌, ◌<◌, inl, inr, ℕ, ◌==◌, cond, Bool, true, false, List, [], ◌∷◌, length, Option, Some, None, refl, sym, ap, subst, ◌∙◌}
use Rattle.std.specs.Prelude.{if◌then◌else◌}
use Rattle.std.specs.FinMap as fin
use Rattle.obj_model.specs.declared.req.Req.{Req}
use Rattle.obj_model.specs.declared.tier.Kind.{Kind}
use Rattle.obj_model.specs.declared.tier.Kind.TheVariants as kind
use Rattle.tier_chron.proofs.Lists.{all_imply}
use Rattle.tier_chron.specs.Calls.{call_of}
use Rattle.tier_join.specs.Promises.{Promises, as_it_is}
use Rattle.tier_join.specs.Steps.{with_doubt}
use Rattle.tier_join.proofs.MemorySteps.{losing_promises}
use Rattle.tier_protocol.specs.Tiers.{BaseMsg, Flight, Name}
use Rattle.tier_protocol.proofs.Cells.{get_here, get_there, names_by}
use Rattle.tier_types.specs.Flights.{IsLeftOf}
use Rattle.tier_view.specs.Answers.{KeepsQuietly, NoMore}
use Rattle.tier_view.specs.Calls.{IsGoing, IsInFlight, call_in, entry_of}
use Rattle.tier_view.specs.declared.parts.Entry.{Entry}
use Rattle.tier_view.specs.Changes.{adopted_in}
use Rattle.tier_view.specs.Grows.{Extends, Grows, Stays}
use Rattle.tier_view.specs.Steps.{begun_write, write_flight}
use Rattle.tier_view.specs.Tables.{IsListed, IsOfKind}
use Rattle.tier_view.specs.declared.parts.Awaited.{Awaited}
use Rattle.tier_view.specs.declared.parts.Owner.{Owner}
use Rattle.tier_view.specs.declared.parts.Sent.{Sent}
use Rattle.tier_view.specs.Views.{GroupView, asking_of, calls_in, joined, ledger_in}
use Rattle.tier_view.specs.Whole.{HasOwner, IsWhole}
use Rattle.tier_view.proofs.Answering.{found_stays, leaving_is_quiet, steps_join_quiet}
use Rattle.tier_view.proofs.AnsweringEnds.{by_dropped}
use Rattle.tier_view.proofs.Beginning.{beginning_writes_keeps, sending_writes_keeps}
use Rattle.tier_view.proofs.Growth.{entry_stays}
use Rattle.tier_view.proofs.Owning.{KnowsMore}
use Rattle.tier_view.proofs.Resting.{stays_itself}
use Rattle.tier_works.specs.Writes.{AdoptingKeeps, SendingWritesQuietly, TakesOver, TakingOverKeeps, WritesFlyKeeps, taken_over, write_sent}
use Rattle.tier_works.proofs.QuietSteps.{no_doubt, quiet_step, quietly_both, same_flown}
use Rattle.tier_works.proofs.WorkTables.{in_flight, work_changes}

-- ---- the table of calls, where one has taken over a write

abbrev took_if : Bool → Entry → Entry
took_if b e = if b then record e { adopted = true } else e

pub same_calls : (call : ℕ) (es : List Entry) → calls_in (adopted_in call es) ≡ calls_in es
same_calls call [] = refl
same_calls call (e ∷ es) =
    ap (λ cs. call_in (took_if (e.number == call) e) ∷ cs) (same_calls call es)
    ∙ ap (λ c. c ∷ calls_in es) (one (e.number == call))
  where
    one : (b : Bool) → call_in (took_if b e) ≡ call_in e
    one true = refl
    one false = refl

pub entries_take : (call : ℕ) (es : List Entry) → Extends Stays NoMore es (adopted_in call es)
entries_take call [] = refl
entries_take call (e ∷ es) = (one (e.number == call), entries_take call es)
  where
    one : (b : Bool) → Stays e (took_if b e)
    one true = record {
      number = refl;
      line = refl;
      asked = refl;
      epoch = refl;
      begin = refl;
      adopted = λ h. refl;
      ended = λ h. h;
    }
    one false = stays_itself e

-- who is in flight stays so
going_step : (call n : ℕ) (e : Entry) (es : List Entry) (took : Bool)
    → (IsInFlight es n → IsInFlight (adopted_in call es) n) → IsInFlight (e ∷ es) n
    → IsGoing (cond ((took_if took e).number == n) (Some (took_if took e))
    (entry_of (adopted_in call es) n))
going_step call n e es true rest h = by (e.number == n) h
  where
    by : (b : Bool) → IsGoing (cond b (Some e) (entry_of es n))
        → IsGoing (cond b (Some (record e { adopted = true })) (entry_of (adopted_in call es) n))
    by true k = k
    by false k = rest k
going_step call n e es false rest h = by (e.number == n) h
  where
    by : (b : Bool) → IsGoing (cond b (Some e) (entry_of es n))
        → IsGoing (cond b (Some e) (entry_of (adopted_in call es) n))
    by true k = k
    by false k = rest k

pub going_still : (call n : ℕ) (es : List Entry) → IsInFlight es n
    → IsInFlight (adopted_in call es) n
going_still call n [] h = h
going_still call n (e ∷ es) h =
    going_step call n e es (e.number == call) (going_still call n es) h

known_still : (call n : ℕ) (es : List Entry) → entry_of es n ≢ None
    → entry_of (adopted_in call es) n ≢ None
known_still call n es =
    found_stays (entry_of es n) (entry_of (adopted_in call es) n)
    (entry_stays NoMore es (adopted_in call es) (entries_take call es) n)

owner_same : (es fs : List Entry) → calls_in fs ≡ calls_in es → (m : BaseMsg) (o : Option Owner)
    → HasOwner es m o → HasOwner fs m o
owner_same es fs same (BaseMsg.Write e op r) None h = h
owner_same es fs same (BaseMsg.Write e op r) (Some o) h =
    subst (λ cs. asking_of (call_of cs o.call) ≡ Some (record { line = o.line; req = r }))
    (sym same) h
owner_same es fs same (BaseMsg.Fence e) o h = h
owner_same es fs same (BaseMsg.GetChunk e op k at) o h = h
owner_same es fs same (BaseMsg.Look e op k v) o h = h
owner_same es fs same (BaseMsg.Install e op k s) o h = h

-- ---- work that is left of work

pub left_same : (f : Option Flight) → IsLeftOf f f
left_same None = refl
left_same (Some (Flight.Promote call o gather ask)) = refl
left_same (Some (Flight.Write driver owner o r)) = (driver, refl)
left_same (Some (Flight.Reads list)) = (list, refl, λ r on. on)
left_same (Some (Flight.Flush call o seq blocking drain)) = (call, refl)

-- ---- it is taken over

write_kinds : (was driver : Option ℕ) (owner op : ℕ) (r : Req) (j : Kind) (o : ℕ)
    → IsOfKind (Some (Flight.Write was owner op r)) j o
    → IsOfKind (Some (Flight.Write driver owner op r)) j o
write_kinds was driver owner op r kind.Promote o h = absurd h
write_kinds was driver owner op r kind.Write o h = h
write_kinds was driver owner op r kind.Read o h = absurd h
write_kinds was driver owner op r kind.Flush o h = absurd h

module _ (v : GroupView) (call : ℕ) (k : Name) (owner op : ℕ) (r : Req) (h : IsWhole v)
    (q : TakesOver v call k owner op r) where
  abbrev W : GroupView
  W = taken_over call k owner op r v

  abbrev F : Flight
  F = Flight.Write (Some call) owner op r

  abbrev es : List Entry
  es = adopted_in call v.calls.entries

  are_left : (n : Name) → IsLeftOf (fin.get v.traffic.flights n) (fin.get W.traffic.flights n)
  are_left =
      names_by (λ n. IsLeftOf (fin.get v.traffic.flights n) (fin.get W.traffic.flights n)) k
      (subst (IsLeftOf (fin.get v.traffic.flights k))
      (sym (get_here v.traffic.flights k (Some F))) (None, q.left))
      (λ n other. subst (IsLeftOf (fin.get v.traffic.flights n))
      (sym (get_there v.traffic.flights k (Some F) n other))
      (left_same (fin.get v.traffic.flights n)))

  promises : Promises (with_doubt (joined v).doubt) (joined v) (joined W)
  promises =
      losing_promises (joined v) (joined W) W.traffic.flights (joined v).memory.net.wire
      (joined v).memory.net.replies are_left (λ m on. on) (λ p on. on)
      (record { cache = refl; base = refl; doubt = refl }) refl

  knows : KnowsMore (ledger_in v) (ledger_in W)
  knows = record {
    owned = refl;
    acts = refl;
    asks = λ c a e. ap (λ cs. asking_of (call_of cs c)) (same_calls call v.calls.entries) ∙ e;
    closed = λ c e. e;
  }

  going : IsInFlight v.calls.entries call
  going = in_flight v.calls.entries call q.entry q.found q.going

  mine : IsListed es v.calls.flown v.traffic.begun v.standing.cache_epoch k F
  mine = (
    going_still call call v.calls.entries going,
    (h.flights.listed k (Flight.Write None owner op r) q.left).1,
  )

  pub taken_quietly : KeepsQuietly v W
  taken_quietly =
      quiet_step v h es v.calls.flown W.traffic v.agent promises
      (λ start b z i o. by_dropped start (joined v).memory W.traffic.flights are_left (ledger_in v)
      (ledger_in W) z v.stores.pending knows o)
      (same_calls call v.calls.entries) (entries_take call v.calls.entries) (same_flown v) refl refl
      (work_changes v.calls.entries es v.traffic.flights v.traffic.begun v.traffic.begun
      v.standing.cache_epoch (length v.log.answers) k F
      (λ c. going_still call c v.calls.entries) (λ c. known_still call c v.calls.entries)
      (λ b on other. on)
      (λ j o of. write_kinds None (Some call) owner op r j o
      (subst (λ x. IsOfKind x j o) q.left of))
      v.calls.flown mine h.flights)
      (record {
        messages = h.traffic.messages;
        replies = h.traffic.replies;
        answers = h.traffic.answers;
        owned = all_imply {X = Sent} (λ s. HasOwner v.calls.entries s.message s.owner)
            (λ s. HasOwner es s.message s.owner)
            (λ s x. owner_same v.calls.entries es (same_calls call v.calls.entries) s.message
            s.owner x) v.traffic.messages h.traffic.owned;
        begun = h.traffic.begun;
        awaited = all_imply {X = Awaited}
            (λ a. IsInFlight v.calls.entries a.call × (a.message < v.traffic.next_message))
            (λ a. IsInFlight es a.call × (a.message < v.traffic.next_message))
            (λ a x. (going_still call a.call v.calls.entries x.0, x.1)) v.traffic.awaited
            h.traffic.awaited;
      })
      h.totals

pub taking_over_keeps : TakingOverKeeps
taking_over_keeps = taken_quietly

-- ---- a Write is sent again

pub sending_writes_quietly : SendingWritesQuietly
sending_writes_quietly v k driver owner line op r h none flies asked =
    let named : r.name ≡ k = (h.memory.sound.each k).named driver owner op r flies in
    let sent = sending_writes_keeps v driver owner line op r h none
    (ap (fin.get v.traffic.flights) named ∙ flies) asked in
    leaving_is_quiet v (write_sent owner line op r v) (
      sent.0,
      subst (λ o. Grows (with_doubt o) None v (write_sent owner line op r v))
          (sym (no_doubt v none)) sent.1,
    )
    (record { stores = refl; log = refl; calls = refl; epoch = refl; opids = refl })

pub adopting_keeps : AdoptingKeeps
adopting_keeps v call k owner line op r h none q asked =
    let u : GroupView = taken_over call k owner op r v in
    let taken = taking_over_keeps v call k owner op r h q in
    quietly_both v u (write_sent owner line op r u) taken
    (sending_writes_quietly u k (Some call) owner line op r taken.0 none
    (get_here v.traffic.flights k (Some (Flight.Write (Some call) owner op r)))
    (ap (λ cs. asking_of (call_of cs owner)) (same_calls call v.calls.entries) ∙ asked))
    refl

-- ---- a write request begins and is sent

pub writes_fly_keeps : WritesFlyKeeps
writes_fly_keeps v owner line r h none up has free asked going first =
    let u : GroupView = begun_write owner r v in
    let begun = beginning_writes_keeps v owner line r h none up has free asked going first in
    let sent = sending_writes_quietly u r.name (Some owner) owner line v.standing.next_opid r
    begun.0 none (get_here v.traffic.flights r.name (Some (write_flight owner r v))) asked in (
      sent.0,
      steps_join_quiet as_it_is None v u
          (write_sent owner line v.standing.next_opid r u) begun.1 sent.1 (inl refl) (inr refl),
    )
