-- A proxied write lands.
use Rattle.std.proofs.Common.{◌≡◌, ◌≤◌, ◌<◌, ◌⊎◌, inl, inr, ℕ, zero, suc, ◌+◌, ◌==◌, Bool, true, false, true≢false, List, [], ◌∷◌, map, length, slice_get, Option, Some, None, refl, sym, ap, subst, ◌∙◌, arith}
use Rattle.std.specs.FinMap as fin
use Rattle.std.proofs.lemmas.Option.{slice_get_within}
use Rattle.obj_model.specs.declared.reply.Reply.{Reply}
use Rattle.obj_model.specs.declared.reply.Reply.TheVariants as reply
use Rattle.obj_model.specs.declared.req.Req.{Req}
use Rattle.obj_model.specs.declared.tier.Path.TheVariants.{ProxyWrite}
use Rattle.tier_chron.specs.Laws.{MayLog}
use Rattle.tier_chron.specs.Places.{act_at}
use Rattle.tier_chron.specs.Shapes.{IsBegun, NumbersAgree, Stands, StandsBeside, is_fault, may_answer, may_go}
use Rattle.tier_chron.specs.declared.answer.Answer.{Answer}
use Rattle.tier_chron.specs.declared.answer.Answer.TheVariants as answer
use Rattle.tier_chron.specs.declared.asked.Asked.{Asked}
use Rattle.tier_chron.specs.declared.asked.Asked.TheVariants.{Write}
use Rattle.tier_chron.specs.declared.entries.Act.{Act}
use Rattle.tier_chron.specs.declared.entries.Logged.{Logged}
use Rattle.tier_flight.specs.Changes.{IsDroppedIn}
use Rattle.tier_flight.specs.Numbers.{HaveOneRead}
use Rattle.tier_protocol.specs.Tiers.{BaseActed, Flight, Flights}
use Rattle.tier_view.proofs.Answering.{leaving_is_quiet, quiets_join}
use Rattle.tier_view.proofs.AnsweringActs.{found_holds, own_acts_stand}
use Rattle.tier_view.proofs.AnsweringDrops.{one_work_is_dropped}
use Rattle.tier_view.proofs.AnsweringFaults.{entries_may_log}
use Rattle.tier_view.proofs.AnsweringReplies.{landed_calls_keep, landing_writes_keeps}
use Rattle.tier_view.proofs.StartingLosses.{ending_waits_keeps, losing_replies_keeps}
use Rattle.tier_view.specs.Answered.{HasFaultCause, IsAnswerOf, IsOfLanded, Lands, is_own, kept_answer, landed_write, lasting_answer, own_answer}
use Rattle.tier_view.specs.Answers.{DropsWork, KeepsQuietly, ended_call}
use Rattle.tier_view.specs.Calls.{IsGoing, IsInFlight, call_in, entry_of}
use Rattle.tier_view.specs.declared.parts.Entry.{Entry}
use Rattle.tier_view.specs.Starts.{forgot_awaited, forgot_reply}
use Rattle.tier_view.specs.Traffic.{replies_of}
use Rattle.tier_view.specs.Views.{GroupView, calls_in}
use Rattle.tier_view.specs.Whole.{IsWhole}
use Rattle.tier_core.specs.Ends.{GoesWith}
use Rattle.tier_core.specs.Lands.{IsOwn, IsOwnFor, IsTold, landed_answer, landed_here, owner_turn, told_answer, write_landed}
use Rattle.tier_core.specs.declared.lands.Own.{Own}
use Rattle.tier_core.specs.declared.lands.Told.{Told}
use Rattle.tier_core.specs.declared.turns.Turn.{Turn}
use Rattle.tier_core.proofs.Told.{IsWriter, reply_is_in, writer_is}

-- ---- what a write request is told

own_is_told : (r : Req) (x : Reply) → may_answer (Write r) (own_answer x) ≡ true
own_is_told r (reply.Done ver) = refl
own_is_told r (reply.Refused at why ver) = refl

own_goes : (r : Req) (x : Reply) → may_go (Write r) (own_answer x) (Some ProxyWrite) ≡ true
own_goes r (reply.Done ver) = refl
own_goes r (reply.Refused at why ver) = refl

own_agrees : (x : Reply) → NumbersAgree (own_answer x)
own_agrees (reply.Done ver) = tt
own_agrees (reply.Refused at why ver) = tt

own_no_fault : (v : GroupView) (l : Logged) (x : Reply) → HasFaultCause v l (own_answer x)
own_no_fault v l (reply.Done ver) = tt
own_no_fault v l (reply.Refused at why ver) = tt

own_is_own : (x : Reply) → is_own (own_answer x) ≡ true
own_is_own (reply.Done ver) = refl
own_is_own (reply.Refused at why ver) = refl

-- by cases on what the base told
module _ (P : Answer → Type 0) (done : (ver : ℕ) → P (answer.Done ver true)) (refused : (at : ℕ) (why : _) (ver : ℕ) → P (answer.Refused at why ver true)) (stale : (kept : ℕ) → P (answer.Stale kept))
    (worn : P (told_answer (BaseActed.Worn 0))) where
  kept_case : (x : Reply) → P (kept_answer x)
  kept_case (reply.Done ver) = done ver
  kept_case (reply.Refused at why ver) = refused at why ver

  told_case : (a : BaseActed) → P (told_answer a)
  told_case (BaseActed.Fresh given) = kept_case given
  told_case (BaseActed.Again given) = kept_case given
  told_case (BaseActed.Stale kept) = stale kept
  told_case (BaseActed.Worn limit) = worn

-- it is a fault, or what the base told
fault_or_told : (a : BaseActed) → (is_fault (told_answer a) ≡ true) ⊎ (told_answer a ≡ lasting_answer a)
fault_or_told (BaseActed.Fresh given) = inr refl
fault_or_told (BaseActed.Again given) = inr refl
fault_or_told (BaseActed.Stale kept) = inr refl
fault_or_told (BaseActed.Worn limit) = inl refl

-- an act is looked for only where the request acted just now
own_there : (call : ℕ) (acts : List Act) (a : BaseActed) (o : Own) → IsOwnFor call acts a (Some o) → IsOwn call acts (Some o)
own_there call acts (BaseActed.Fresh given) o h = h
own_there call acts (BaseActed.Again given) o h = absurd (cc)
own_there call acts (BaseActed.Stale kept) o h = absurd (cc)
own_there call acts (BaseActed.Worn limit) o h = absurd (cc)

at_within : (acts : List Act) (place : ℕ) (a : Act) → act_at acts place ≡ Some a → place ≤ length acts
at_within acts zero a e = omega arith
at_within acts (suc k) a e = omega (arith, slice_get_within acts k a e)

-- ---- the answer

module _ (v : GroupView) (number : ℕ) (told : Told) (h : IsWhole v) (none : v.stores.pending ≡ None) (is : IsTold v.traffic v.standing.cache_epoch number told) where
  abbrev C : ℕ
  C = length v.log.acts

  pub lands : Lands v told.name (Some told.driver) told.owner told.wrote.opid is.req told.wrote.acted
  lands = record {
    settled = none;
    flight = is.flight;
    reply = reply_is_in v.standing.cache_epoch v.traffic.replies number told.wrote is.wrote;
  }

  pub driving : IsInFlight v.calls.entries told.driver
  driving = (h.flights.listed told.name (Flight.Write (Some told.driver) told.owner told.wrote.opid is.req) is.flight).0

  module _ (turn : Turn) (w : IsWriter told.driver told.owner v.calls.entries turn) where
    found : entry_of v.calls.entries turn.call ≡ Some w.entry
    found = ap (entry_of v.calls.entries) w.call ∙ w.is

    going : w.entry.ended ≡ false
    going = subst IsGoing (ap (entry_of v.calls.entries) w.drives ∙ w.is) driving

    begun : IsBegun v.log.acts (call_in w.entry)
    begun = found_holds (IsBegun v.log.acts) v.calls.entries turn.call w.entry h.shaped.begun found

    asks : (P : Asked → Type 0) → P (Write w.req) → P w.entry.asked
    asks P p = subst P (sym w.asked) p

    answers : (own : Option Own) → IsOwnFor turn.call v.log.acts told.wrote.acted own → IsAnswerOf v w.entry (landed_here turn C told.wrote.acted own)
    answers (Some o) of =
        let a = own_there turn.call v.log.acts told.wrote.acted o of in
        let l : Logged = landed_here turn C told.wrote.acted (Some o) in
        let stands : (w.entry.begin ≤ l.place) × Stands v.log.acts w.entry.asked l = own_acts_stand v w.entry l a.0 h found a.1 a.2 w.line (ap own_answer (sym a.3)) in
        record {
          entry = found;
          going = going;
          line = w.line;
          begin = w.begin;
          seen = subst (λ n. n ≤ o.place) w.begin stands.0;
          done = at_within v.log.acts o.place a.0 a.1;
          now = refl;
          kind = asks (λ x. may_answer x (own_answer o.reply) ≡ true) (own_is_told w.req o.reply);
          numbers = own_agrees o.reply;
          way = asks (λ x. may_go x (own_answer o.reply) (Some ProxyWrite) ≡ true) (own_goes w.req o.reply);
          beside = stands.1;
        }
    answers None of =
        let l : Logged = landed_here turn C told.wrote.acted None in
        record {
          entry = found;
          going = going;
          line = w.line;
          begin = w.begin;
          seen = subst (λ n. n ≤ C) w.begin begun.begun;
          done = omega arith;
          now = refl;
          kind = asks (λ x. may_answer x l.answer ≡ true) (told_case (λ x. may_answer (Write w.req) x ≡ true) (λ ver. refl) (λ at why ver. refl) (λ kept. refl) refl told.wrote.acted);
          numbers = told_case NumbersAgree (λ ver. tt) (λ at why ver. tt) (λ kept. tt) refl told.wrote.acted;
          way = asks (λ x. may_go x l.answer (Some ProxyWrite) ≡ true)
              (told_case (λ x. may_go (Write w.req) x (Some ProxyWrite) ≡ true) (λ ver. refl) (λ at why ver. refl) (λ kept. refl) refl told.wrote.acted);
          beside = asks (λ x. Stands v.log.acts x l)
              (told_case (λ x. StandsBeside v.log.acts w.req l x) (λ ver. tt) (λ at why ver. tt) (λ kept. tt) tt told.wrote.acted);
        }

    no_fault : (own : Option Own) → HasFaultCause v (landed_here turn C told.wrote.acted own) (landed_answer told.wrote.acted own)
    no_fault (Some o) = own_no_fault v (landed_here turn C told.wrote.acted (Some o)) o.reply
    no_fault None = told_case (HasFaultCause v (landed_here turn C told.wrote.acted None)) (λ ver. tt) (λ at why ver. tt) (λ kept. tt) tt told.wrote.acted

    of_landed : (own : Option Own) → IsOfLanded C told.wrote.acted (landed_here turn C told.wrote.acted own)
    of_landed (Some o) = inl (own_is_own o.reply)
    of_landed None = elim (fault_or_told told.wrote.acted) [ inl fault ↦ inr (inl fault) | inr same ↦ inr (inr (refl, same)) ]

  -- ---- the steps

  -- the reply is forgotten behind a quiet step
  then_forgotten : (m : GroupView) → KeepsQuietly v m → KeepsQuietly v (forgot_reply number m)
  then_forgotten m quiet =
      let last : KeepsQuietly m (forgot_reply number m) = leaving_is_quiet m (forgot_reply number m) (losing_replies_keeps number m quiet.0) (record { stores = refl; log = refl; calls = refl; epoch = refl; opids = refl }) in
      (last.0, quiets_join v m (forgot_reply number m) quiet.1 last.1 (inr refl))

  abbrev L : GroupView
  L = landed_write told.name told.wrote.opid v

  landed : KeepsQuietly v L
  landed = landing_writes_keeps v told.name (Some told.driver) told.owner told.wrote.opid is.req told.wrote.acted h lands

  pub landed_quietly : KeepsQuietly v (write_landed told.name told.wrote.opid number v)
  landed_quietly = then_forgotten L landed

  -- the driver goes on
  pub freed_quietly : KeepsQuietly v (forgot_awaited told.driver (write_landed told.name told.wrote.opid number v))
  freed_quietly =
      let m : GroupView = write_landed told.name told.wrote.opid number v in
      let w : GroupView = forgot_awaited told.driver m in
      let last : KeepsQuietly m w = leaving_is_quiet m w (ending_waits_keeps told.driver m landed_quietly.0) (record { stores = refl; log = refl; calls = refl; epoch = refl; opids = refl }) in
      (last.0, quiets_join v m w landed_quietly.1 last.1 (inr refl))

  -- the owner is answered, and is over
  module _ (turn : Turn) (owns : owner_turn told.driver told.owner v.calls.entries ≡ Some turn) (own : Option Own) (of : IsOwnFor turn.call v.log.acts told.wrote.acted own)
      (flights : Flights) (dropped : Option ℕ) (reads : HaveOneRead L.traffic.flights) (goes : GoesWith turn.call L.traffic.flights dropped) (left : IsDroppedIn turn.call L.traffic.flights flights) where
    abbrev A : Logged
    A = landed_here turn C told.wrote.acted own

    pub told_quietly : KeepsQuietly v (ended_call turn.call (Some A) flights dropped (write_landed told.name told.wrote.opid number v))
    told_quietly =
        let w : IsWriter told.driver told.owner v.calls.entries turn = writer_is told.driver told.owner v.calls.entries turn owns in
        let its : Lands v told.name (Some told.driver) turn.call told.wrote.opid is.req told.wrote.acted =
        subst (λ n. Lands v told.name (Some told.driver) n told.wrote.opid is.req told.wrote.acted) (sym w.call) lands in
        let drops : DropsWork turn.call L.traffic.flights flights dropped =
        subst (DropsWork turn.call L.traffic.flights flights) (sym goes.is) (one_work_is_dropped L turn.call goes.found flights landed.0 goes.named (reads turn.call) left) in
        then_forgotten (ended_call turn.call (Some A) flights dropped L)
        (landed_calls_keep v told.name (Some told.driver) told.wrote.opid is.req told.wrote.acted A flights dropped h its drops
        (entries_may_log v w.entry A h (answers turn w own of)) (no_fault turn w own) (of_landed turn w own))
