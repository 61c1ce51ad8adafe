-- What all work of calls has: who may begin it, and what the tables have of it then.
use Rattle.std.specs.Prelude.{◌≡◌, ◌⊎◌, ◌+◌, ℕ, false, [], ◌∷◌, ◌++◌, length, Some, None}
use Rattle.std.specs.FinMap as fin
use Rattle.obj_model.specs.declared.tier.Kind.{Kind}
use Rattle.tier_chron.specs.declared.asked.Asked.{Asked}
use Rattle.tier_flight.specs.Numbers.{IsIdle, IsNewBy, IsSingle, has_call, has_opid}
use Rattle.tier_protocol.specs.Tiers.{Flight, Name, Phase, ReadFlight}
use Rattle.tier_view.specs.Calls.{entry_of}
use Rattle.tier_view.specs.declared.parts.Entry.{Entry}
use Rattle.tier_view.specs.declared.parts.Flown.{Flown}
use Rattle.tier_view.specs.Views.{GroupView}
use Rattle.tier_view.specs.Whole.{IsWhole}

-- ---- who may begin work

-- The cache is up, no commit is in doubt, and a call in flight that asked such a thing waits for no
-- other work.
pub record MayFly (v : GroupView) (call : ℕ) (wants : Asked → Type 0) : Type 0 where
  pub settled : v.stores.pending ≡ None
  pub up : v.standing.phase ≡ Phase.Up
  pub entry : Entry
  pub found : entry_of v.calls.entries call ≡ Some entry
  pub going : entry.ended ≡ false
  pub asks : wants entry.asked
  pub idle : IsIdle call v.traffic.flights

-- ---- what comes of it

-- the entry of work that a call begins now
abbrev pub flown_now : (call : ℕ) → Kind → Name → GroupView → Flown
flown_now call kind name v = record {
  call = call;
  kind = kind;
  name = name;
  opid = v.standing.next_opid;
  came = length v.log.answers;
  went = None;
}

-- this is the work on a name, under the next number, with its entry in the table
abbrev pub begun_work : (call : ℕ) → Kind → Name → Flight → GroupView → GroupView
begun_work call kind name work v = record v {
  calls = record v.calls { flown = v.calls.flown ++ flown_now call kind name v ∷ [] };
  traffic = record v.traffic { flights = fin.insert v.traffic.flights name work };
  standing = record v.standing { next_opid = v.standing.next_opid + 1 };
}

-- this is the work on a name in place of what it was
abbrev pub with_work : Name → Flight → GroupView → GroupView
with_work name work v =
    record v { traffic = record v.traffic { flights = fin.insert v.traffic.flights name work } }

-- ---- work that may be put on a name

-- one work of this call, or one that nobody waits for, under the next number
abbrev pub IsOfNow : GroupView → (call : ℕ) → Flight → Type 0
IsOfNow v call (Flight.Promote c op gather ask) = (c ≡ call) × (op ≡ v.standing.next_opid)
IsOfNow v call (Flight.Write driver owner op r) =
    (driver ≡ Some call) × (op ≡ v.standing.next_opid)
IsOfNow v call (Flight.Reads list) =
    (r : ReadFlight) × (list ≡ r ∷ []) × (r.call ≡ call) × (r.opid ≡ v.standing.next_opid)
IsOfNow v call (Flight.Flush waiter op seq blocking drain) =
    ((waiter ≡ Some call) ⊎ (waiter ≡ None)) × (op ≡ v.standing.next_opid)

-- Where the call waits for no work, no work that stands has its number or its call.
abbrev pub NewWorkIsNew : Type 0
NewWorkIsNew =
    (v : GroupView) (call : ℕ) (work : Flight) → IsWhole v → IsIdle call v.traffic.flights
    → IsOfNow v call work
    → IsSingle work × IsNewBy has_opid v.traffic.flights work
    × IsNewBy has_call v.traffic.flights work
