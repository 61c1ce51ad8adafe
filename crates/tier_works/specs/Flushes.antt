-- A flush begins, by a call that waits for it or alone, and its Install is sent; and a call comes
-- for one that was begun alone.
use Rattle.std.specs.Prelude.{◌≡◌, ◌≢◌, ◌⊎◌, ℕ, Bool, true, false, List, Option, Some, None}
use Rattle.std.specs.FinMap as fin
use Rattle.obj_model.specs.declared.tier.Kind.TheVariants as kind
use Rattle.obj_model.specs.declared.tier.Mode.TheVariants.{Proxy}
use Rattle.tier_chron.specs.declared.asked.Asked.{Asked}
use Rattle.tier_chron.specs.declared.asked.Asked.TheVariants.{Agent, Drain, Finish, Flush}
use Rattle.tier_flight.specs.Numbers.{IsIdle}
use Rattle.tier_join.specs.Promises.{as_it_is}
use Rattle.tier_join.specs.Steps.{HasRec}
use Rattle.tier_protocol.specs.Tiers.{BaseMsg, Flight, IsIn, Name, TierRec}
use Rattle.tier_view.specs.Answers.{KeepsQuietly}
use Rattle.tier_view.specs.Calls.{entry_of}
use Rattle.tier_view.specs.declared.parts.Entry.{Entry}
use Rattle.tier_view.specs.Laws.{Keeps}
use Rattle.tier_view.specs.Steps.{sent_now}
use Rattle.tier_view.specs.declared.parts.Begun.{Begun}
use Rattle.tier_view.specs.Views.{GroupView, joined}
use Rattle.tier_view.specs.Whole.{IsWhole}
use Rattle.tier_works.specs.Works.{MayFly, begun_work, with_work}

-- ---- what is sent

-- the Install of a flush, with the state that the record has now
abbrev pub install_sent : Name → (op : ℕ) → TierRec → GroupView → GroupView
install_sent k op r v = sent_now (BaseMsg.Install v.standing.cache_epoch op k r.state) None v

-- it is sent again; where the flush lets writers in, requests may have acted on the record since
abbrev pub SendingInstallsKeeps : Type 0
SendingInstallsKeeps =
    (v : GroupView) (k : Name) (call : Option ℕ) (op seq : ℕ) (blocking drain : Bool) (r : TierRec)
    → IsWhole v → v.stores.pending ≡ None
    → fin.get v.traffic.flights k ≡ Some (Flight.Flush call op seq blocking drain)
    → HasRec (joined v) k (Some r) → KeepsQuietly v (install_sent k op r v)

-- ---- a flush begins

-- the flush of a record as it is now, under the next number; this call waits for it, or nobody
abbrev pub flush_now : Option ℕ → TierRec → (blocking drain : Bool) → GroupView → Flight
flush_now waiter r blocking drain v =
    Flight.Flush waiter v.standing.next_opid r.state.seq blocking drain

-- it begins, and its Install is sent
abbrev pub sent_flush : (call : ℕ) → Option ℕ → Name → TierRec → (blocking drain : Bool)
    → GroupView → GroupView
sent_flush call waiter k r blocking drain v =
    install_sent k v.standing.next_opid r
    (begun_work call kind.Flush k (flush_now waiter r blocking drain v) v)

-- The record of a name on which nothing is under way, and which requests acted on since the base
-- had its state.
pub record IsFlushable (v : GroupView) (k : Name) (r : TierRec) : Type 0 where
  pub has : HasRec (joined v) k (Some r)
  pub dirty : r.dirty ≡ true
  pub free : fin.get v.traffic.flights k ≡ None

-- ---- a call waits for it

-- the flush is the call's, which waits for it
abbrev pub flown_flush : (call : ℕ) → Name → TierRec → (blocking drain : Bool) → GroupView
    → GroupView
flown_flush call k r blocking drain v = sent_flush call (Some call) k r blocking drain v

-- A call that waits for such a flush: it asked for it; or it is a drain, whose flushes keep writers
-- out and remove the record, or a turn of the agent, whose do neither.
abbrev pub AsksFlush : Name → (blocking drain : Bool) → Asked → Type 0
AsksFlush k blocking drain (Flush n keeps_out begin_only) =
    (n ≡ k) × (keeps_out ≡ blocking) × (begin_only ≡ false) × (drain ≡ false)
AsksFlush k blocking drain Drain = (blocking ≡ true) × (drain ≡ true)
AsksFlush k blocking drain Agent = (blocking ≡ false) × (drain ≡ false)
AsksFlush k blocking drain other = ⊥

-- a drain works in the mode proxy alone
pub record BeginsFlush (v : GroupView) (call : ℕ) (k : Name) (r : TierRec)
    (blocking drain : Bool) : Type 0 where
  pub may : MayFly v call (AsksFlush k blocking drain)
  pub on : IsFlushable v k r
  pub mode : drain ≡ true → v.agent.mode ≡ Proxy

abbrev pub FlushesFlyKeeps : Type 0
FlushesFlyKeeps =
    (v : GroupView) (call : ℕ) (k : Name) (r : TierRec) (blocking drain : Bool) → IsWhole v
    → BeginsFlush v call k r blocking drain
    → Keeps as_it_is None v (flown_flush call k r blocking drain v)

-- ---- nobody waits for it

-- the flushes that were begun alone are these
abbrev pub with_begun : List Begun → GroupView → GroupView
with_begun begun v = record v { traffic = record v.traffic { begun = begun } }

-- a flush that begins alone now, with the message that goes with it
abbrev pub begun_now : Name → GroupView → Begun
begun_now k v = record {
  name = k;
  epoch = v.standing.cache_epoch;
  message = v.traffic.next_message;
}

-- This one is begun alone, and those of other names as they were; one of its own name may be given
-- up for it.
pub record IsBegunWith (b : Begun) (old new : List Begun) : Type 0 where
  pub this : IsIn b new
  pub only : (x : Begun) → IsIn x new → (x ≡ b) ⊎ IsIn x old
  pub others : (x : Begun) → IsIn x old → (x.name ≡ b.name) ⊎ IsIn x new

-- the flush is nobody's, and waits to be finished
abbrev pub flown_alone : (call : ℕ) → Name → TierRec → (blocking : Bool) → List Begun → GroupView
    → GroupView
flown_alone call k r blocking begun v =
    with_begun begun (sent_flush call None k r blocking false v)

-- a call that asked to begin such a flush alone
abbrev pub AsksAlone : Name → (blocking : Bool) → Asked → Type 0
AsksAlone k blocking (Flush n keeps_out begin_only) =
    (n ≡ k) × (keeps_out ≡ blocking) × (begin_only ≡ true)
AsksAlone k blocking other = ⊥

pub record BeginsAlone (v : GroupView) (call : ℕ) (k : Name) (r : TierRec) (blocking : Bool)
    (begun : List Begun) : Type 0 where
  pub may : MayFly v call (AsksAlone k blocking)
  pub on : IsFlushable v k r
  pub enters : IsBegunWith (begun_now k v) v.traffic.begun begun

abbrev pub FlushesFlyAloneKeeps : Type 0
FlushesFlyAloneKeeps =
    (v : GroupView) (call : ℕ) (k : Name) (r : TierRec) (blocking : Bool) (begun : List Begun)
    → IsWhole v → BeginsAlone v call k r blocking begun
    → Keeps as_it_is None v (flown_alone call k r blocking begun v)

-- ---- a call comes for it

-- None of this name is begun alone any more, and those of other names are as they were.
pub record IsBegunWithout (k : Name) (old new : List Begun) : Type 0 where
  pub gone : (x : Begun) → IsIn x new → x.name ≢ k
  pub only : (x : Begun) → IsIn x new → IsIn x old
  pub others : (x : Begun) → IsIn x old → (x.name ≡ k) ⊎ IsIn x new

-- a flush for which nobody waits
abbrev pub is_alone : Option Flight → Bool
is_alone None = false
is_alone (Some (Flight.Promote call op gather ask)) = false
is_alone (Some (Flight.Write driver owner op r)) = false
is_alone (Some (Flight.Reads list)) = false
is_alone (Some (Flight.Flush None op seq blocking drain)) = true
is_alone (Some (Flight.Flush (Some call) op seq blocking drain)) = false

-- the flush that was begun alone is the call's from now on
abbrev pub taken_flush : (call : ℕ) → Name → (op seq : ℕ) → (blocking drain : Bool) → List Begun
    → GroupView → GroupView
taken_flush call k op seq blocking drain begun v =
    with_begun begun (with_work k (Flight.Flush (Some call) op seq blocking drain) v)

-- A flush of this name was begun alone, in this epoch. A call in flight that asked to finish it and
-- waits for no work takes it.
pub record TakesFlush (v : GroupView) (call : ℕ) (k : Name) (op seq : ℕ) (blocking drain : Bool)
    (begun : List Begun) : Type 0 where
  pub alone : fin.get v.traffic.flights k ≡ Some (Flight.Flush None op seq blocking drain)
  pub entry : Entry
  pub found : entry_of v.calls.entries call ≡ Some entry
  pub going : entry.ended ≡ false
  pub asked : entry.asked ≡ Finish k
  pub idle : IsIdle call v.traffic.flights
  pub leaves : IsBegunWithout k v.traffic.begun begun

abbrev pub TakingFlushesKeeps : Type 0
TakingFlushesKeeps =
    (v : GroupView) (call : ℕ) (k : Name) (op seq : ℕ) (blocking drain : Bool) (begun : List Begun)
    → IsWhole v → TakesFlush v call k op seq blocking drain begun
    → KeepsQuietly v (taken_flush call k op seq blocking drain begun v)

-- one of an epoch that is over is taken out, of which no work is left
abbrev pub TakingOldFlushesKeeps : Type 0
TakingOldFlushesKeeps =
    (v : GroupView) (k : Name) (begun : List Begun) → IsWhole v
    → is_alone (fin.get v.traffic.flights k) ≡ false → IsBegunWithout k v.traffic.begun begun
    → KeepsQuietly v (with_begun begun v)
