-- A write request begins and is sent; one that was left is taken over by a client's call on its
-- name, and is sent again.
use Rattle.std.specs.Prelude.{◌≡◌, ℕ, false, Option, Some, None}
use Rattle.std.specs.FinMap as fin
use Rattle.obj_model.specs.declared.req.Req.{Req}
use Rattle.tier_chron.specs.declared.asked.Asked.{Asked}
use Rattle.tier_chron.specs.declared.asked.Asked.TheVariants.{Read, Write}
use Rattle.tier_flight.specs.Numbers.{IsIdle}
use Rattle.tier_chron.specs.Shapes.{HasNoAct}
use Rattle.tier_join.specs.Promises.{as_it_is}
use Rattle.tier_join.specs.Steps.{HasRec}
use Rattle.tier_protocol.specs.Tiers.{BaseMsg, Flight, Name, Phase}
use Rattle.tier_view.specs.Answers.{KeepsQuietly}
use Rattle.tier_view.specs.Calls.{IsInFlight, entry_of}
use Rattle.tier_view.specs.declared.parts.Entry.{Entry}
use Rattle.tier_view.specs.Changes.{adopted_in}
use Rattle.tier_view.specs.Laws.{HasAsked, Keeps}
use Rattle.tier_view.specs.Steps.{begun_write, sent_now}
use Rattle.tier_view.specs.Views.{GroupView, joined}
use Rattle.tier_view.specs.Whole.{IsWhole}
use Rattle.tier_works.specs.Works.{with_work}

-- ---- a Write is sent

-- the Write of a request, which is its owner's whoever drives it
abbrev pub write_sent : (owner line op : ℕ) → Req → GroupView → GroupView
write_sent owner line op r v =
    sent_now (BaseMsg.Write v.standing.cache_epoch op r)
    (Some (record { call = owner; line = line })) v

-- the Write of a request that is under way is sent again
abbrev pub SendingWritesQuietly : Type 0
SendingWritesQuietly =
    (v : GroupView) (k : Name) (driver : Option ℕ) (owner line op : ℕ) (r : Req) → IsWhole v
    → v.stores.pending ≡ None
    → fin.get v.traffic.flights k ≡ Some (Flight.Write driver owner op r)
    → HasAsked v owner line r → KeepsQuietly v (write_sent owner line op r v)

-- ---- a write request begins and is sent at once

abbrev pub flown_write : (owner line : ℕ) → Req → GroupView → GroupView
flown_write owner line r v =
    write_sent owner line v.standing.next_opid r (begun_write owner r v)

abbrev pub WritesFlyKeeps : Type 0
WritesFlyKeeps =
    (v : GroupView) (owner line : ℕ) (r : Req) → IsWhole v → v.stores.pending ≡ None
    → v.standing.phase ≡ Phase.Up → HasRec (joined v) r.name None
    → fin.get v.traffic.flights r.name ≡ None → HasAsked v owner line r
    → IsInFlight v.calls.entries owner → HasNoAct owner v.log.acts
    → Keeps as_it_is None v (flown_write owner line r v)

-- ---- a left write is taken over

-- the call drives the write request from now on, and has taken one over
abbrev pub taken_over : (call : ℕ) → Name → (owner op : ℕ) → Req → GroupView → GroupView
taken_over call k owner op r v = record (with_work k (Flight.Write (Some call) owner op r) v) {
  calls = record v.calls { entries = adopted_in call v.calls.entries };
}

-- a client asks for this name
abbrev pub AsksOn : Name → Asked → Type 0
AsksOn k (Write r) = r.name ≡ k
AsksOn k (Read client n vector) = n ≡ k
AsksOn k other = ⊥

-- A write request of this name was left. A client's call in flight on the name, which waits for no
-- work and has taken over none, may take it over.
pub record TakesOver (v : GroupView) (call : ℕ) (k : Name) (owner op : ℕ) (r : Req) : Type 0 where
  pub left : fin.get v.traffic.flights k ≡ Some (Flight.Write None owner op r)
  pub entry : Entry
  pub found : entry_of v.calls.entries call ≡ Some entry
  pub going : entry.ended ≡ false
  pub fresh : entry.adopted ≡ false
  pub asks : AsksOn k entry.asked
  pub idle : IsIdle call v.traffic.flights

-- it is taken over, at any moment
abbrev pub TakingOverKeeps : Type 0
TakingOverKeeps =
    (v : GroupView) (call : ℕ) (k : Name) (owner op : ℕ) (r : Req) → IsWhole v
    → TakesOver v call k owner op r → KeepsQuietly v (taken_over call k owner op r v)

-- it is taken over, and is sent again
abbrev pub AdoptingKeeps : Type 0
AdoptingKeeps =
    (v : GroupView) (call : ℕ) (k : Name) (owner line op : ℕ) (r : Req) → IsWhole v
    → v.stores.pending ≡ None → TakesOver v call k owner op r → HasAsked v owner line r
    → KeepsQuietly v (write_sent owner line op r (taken_over call k owner op r v))
