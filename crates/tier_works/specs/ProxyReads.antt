-- A proxied read begins, and its Look is sent.
use Rattle.std.specs.Prelude.{◌≡◌, ℕ, true, List, [], ◌∷◌, Option, Some, None}
use Rattle.std.specs.FinMap as fin
use Rattle.obj_model.specs.declared.sub_op.SubOp.{SubOp}
use Rattle.obj_model.specs.declared.tier.Kind.TheVariants as kind
use Rattle.tier_chron.specs.declared.asked.Asked.{Asked}
use Rattle.tier_chron.specs.declared.asked.Asked.TheVariants.{Read}
use Rattle.tier_flight.specs.Joins as flights
use Rattle.tier_join.specs.Promises.{as_it_is}
use Rattle.tier_join.specs.Steps.{HasRec}
use Rattle.tier_protocol.specs.Moves.{reads_with}
use Rattle.tier_protocol.specs.Tiers.{BaseMsg, Flight, IsIn, Name, ReadFlight}
use Rattle.tier_types.specs.Flights.{lets_read}
use Rattle.tier_view.specs.Answers.{KeepsQuietly}
use Rattle.tier_view.specs.Laws.{Keeps}
use Rattle.tier_view.specs.Steps.{sent_now}
use Rattle.tier_view.specs.Views.{GroupView, joined}
use Rattle.tier_view.specs.Whole.{IsWhole}
use Rattle.tier_works.specs.Works.{MayFly, begun_work}

-- ---- what is sent

-- the Look of a read that is under way
abbrev pub look_sent : Name → ReadFlight → GroupView → GroupView
look_sent k r v = sent_now (BaseMsg.Look v.standing.cache_epoch r.opid k r.vector) None v

-- it is sent again
abbrev pub SendingLooksKeeps : Type 0
SendingLooksKeeps =
    (v : GroupView) (k : Name) (list : List ReadFlight) (r : ReadFlight) → IsWhole v
    → v.stores.pending ≡ None → fin.get v.traffic.flights k ≡ Some (Flight.Reads list)
    → IsIn r list → KeepsQuietly v (look_sent k r v)

-- ---- a read begins

-- the read of a call, under the next number
abbrev pub read_now : (call : ℕ) → List SubOp → GroupView → ReadFlight
read_now call vector v = record { call = call; opid = v.standing.next_opid; vector = vector }

-- it joins the reads of its name, the last of them
abbrev pub reads_now : (call : ℕ) → Name → List SubOp → GroupView → Flight
reads_now call k vector v =
    Flight.Reads (reads_with (fin.get v.traffic.flights k) (read_now call vector v))

-- it begins, and its Look is sent
abbrev pub flown_read : (call : ℕ) → Name → List SubOp → GroupView → GroupView
flown_read call k vector v =
    look_sent k (read_now call vector v)
    (begun_work call kind.Read k (reads_now call k vector v) v)

-- the call asked this read of the name
abbrev pub AsksRead : Name → List SubOp → Asked → Type 0
AsksRead k vector (Read client n asked) = (n ≡ k) × (asked ≡ vector)
AsksRead k vector other = ⊥

-- A call that asked this read may begin it where the name has no record, and nothing but reads is
-- under way on it.
pub record BeginsRead (v : GroupView) (call : ℕ) (k : Name) (vector : List SubOp) : Type 0 where
  pub may : MayFly v call (AsksRead k vector)
  pub bare : HasRec (joined v) k None
  pub lets : lets_read (fin.get v.traffic.flights k) ≡ true

abbrev pub ReadsFlyKeeps : Type 0
ReadsFlyKeeps =
    (v : GroupView) (call : ℕ) (k : Name) (vector : List SubOp) → IsWhole v
    → BeginsRead v call k vector → Keeps as_it_is None v (flown_read call k vector v)

-- where reads may join, a read that is put on the name joins so
abbrev pub ReadsJoinLast : Type 0
ReadsJoinLast =
    (work : Option Flight) (r : ReadFlight) → lets_read work ≡ true
    → flights.MayJoin work (Flight.Reads (r ∷ []))
    × (flights.joined work (Flight.Reads (r ∷ [])) ≡ Flight.Reads (reads_with work r))
