-- Runs that exist: the moves fit one another, so that the laws over runs are not of nothing.
use Rattle.std.specs.Prelude.{◌≡◌, ◌≢◌, ◌<◌, ℕ, ◌+◌, true, false, List, [], ◌∷◌, ◌++◌, Some, None}
use Rattle.std.specs.FinMap as fin
use Rattle.obj_model.specs.States.{unknown}
use Rattle.obj_model.specs.declared.reply.Reply.{Reply}
use Rattle.obj_model.specs.declared.req.Req.{Req}
use Rattle.obj_model.specs.declared.state.NameState.{NameState}
use Rattle.obj_ops.specs.declared.request.Acted.TheVariants.{Fresh}
use Rattle.obj_ops.specs.Acts.{act, look}
use Rattle.obj_ops.specs.Stores.{state_of}
use Rattle.tier_types.specs.Flights.{name_asked}
use Rattle.tier_types.specs.Serving.{epoch_in, opid_in}
use Rattle.tier_protocol.specs.Tiers.{Name, Ask, BaseMsg, BaseReply, Flight, Phase, ReadFlight, TierRec, IsIn, cell_of}
use Rattle.tier_protocol.specs.Moves.{MayCount, MayRaise}
use Rattle.tier_protocol.specs.Owners.{IsOpen}
use Rattle.tier_owners.specs.Calls.{HasAsked}
use Rattle.tier_owners.specs.Moving.{IsHeld, IsRun, System}
use Rattle.tier_owners.specs.Runs.{attached}

-- some run leads to a moment of which this holds
pub record Reaches (s : System) (P : System → Type 0) : Type 0 where
  pub moments : List System
  pub run : IsRun s moments
  pub last : System
  pub on : IsIn last moments
  pub holds : P last

-- from a stop a run leads to a cache that is up, whatever is on the wire
abbrev pub StartsRun : Type 0
StartsRun =
    (s : System) → IsHeld s → s.tier.net.phase ≢ Phase.Up
    → Reaches s (λ u. u.tier.net.phase ≡ Phase.Up)

-- A call that asks a write request which the plain store lets act, of a name without a record that
-- nothing is under way on: a run leads to the moment where it was answered for good, and the act is
-- its own.
abbrev pub WritesRun : Type 0
WritesRun =
    (s : System) (call line : ℕ) (r : Req) (state : NameState) (answer : Reply) → IsHeld s
    → s.tier.net.phase ≡ Phase.Up → (cell_of s.tier r.name).rec ≡ None
    → (cell_of s.tier r.name).flight ≡ None → HasAsked s.ledger call line r → IsOpen s.ledger call
    → act (cell_of s.tier r.name).plain r ≡ Fresh state answer
    → Reaches s (λ u.
    (u.ledger.acts
    ≡ s.ledger.acts ++ record { call = call; line = line; req = r; reply = answer } ∷ [])
    × (u.ledger.closed call ≡ true))

-- A name without a record that nothing is under way on, while the cache is up: a run promotes it to
-- its end, where its record is clean and has the plain store's state.
abbrev pub PromotesRun : Type 0
PromotesRun =
    (s : System) (k : Name) (call moment : ℕ) (ask : Ask) → IsHeld s
    → s.tier.net.phase ≡ Phase.Up → (cell_of s.tier k).rec ≡ None
    → (cell_of s.tier k).flight ≡ None → name_asked ask ≡ k
    → Reaches s (λ u.
    ((cell_of u.tier k).rec
    ≡ Some (record { state = (cell_of s.tier k).plain; dirty = false; mtime = moment }))
    × ((cell_of u.tier k).flight ≡ None))

-- A read of such a name: a run leads to the moment where the base's reply to it is there, which is
-- what the plain store tells, and from there to one where it has ended.
abbrev pub ReadsRun : Type 0
ReadsRun =
    (s : System) (k : Name) (r : ReadFlight) → IsHeld s → s.tier.net.phase ≡ Phase.Up
    → (cell_of s.tier k).rec ≡ None → (cell_of s.tier k).flight ≡ None
    → r.opid ≡ s.tier.net.next_opid
    → Reaches s (λ u.
    ((cell_of u.tier k).flight ≡ Some (Flight.Reads (r ∷ [])))
    × IsIn
    (BaseReply.Looked u.tier.net.cache_epoch r.opid (look (cell_of s.tier k).plain r.vector))
    u.tier.net.replies
    × Reaches u (λ v. (cell_of v.tier k).flight ≡ None))

-- A request that acts on a record: a run leads to the moment where the act is there and the record
-- is dirty; from there to one where it was flushed and is clean; and from there to one where it
-- was evicted, and the base has the state.
abbrev pub RecordsRun : Type 0
RecordsRun =
    (s : System) (call line moment : ℕ) (rec : TierRec) (r : Req) (state : NameState)
    (answer : Reply) → IsHeld s
    → s.tier.net.phase ≡ Phase.Up → (cell_of s.tier r.name).rec ≡ Some rec
    → (cell_of s.tier r.name).flight ≡ None → HasAsked s.ledger call line r → IsOpen s.ledger call
    → act rec.state r ≡ Fresh state answer
    → Reaches s (λ u.
    (u.ledger.acts
    ≡ s.ledger.acts ++ record { call = call; line = line; req = r; reply = answer } ∷ [])
    × ((cell_of u.tier r.name).rec
    ≡ Some (record { state = state; dirty = true; mtime = moment }))
    × Reaches u (λ v.
    ((cell_of v.tier r.name).rec
    ≡ Some (record { state = state; dirty = false; mtime = moment }))
    × Reaches v (λ w.
    ((cell_of w.tier r.name).rec ≡ None) × (state_of w.tier.base r.name ≡ state))))

-- A raise whose commit was in doubt and that is found there: it may count, and a run leads from
-- there to a cache that is up, with both pools in the epoch that was found.
abbrev pub FoundRaisesRun : Type 0
FoundRaisesRun =
    (s : System) (e : ℕ) → IsHeld s → MayRaise s.tier e
    → Reaches s (λ u.
    (u.tier.net.cache_epoch ≡ e) × MayCount u.tier
    × Reaches u (λ v.
    (v.tier.net.phase ≡ Phase.Up) × (v.tier.net.cache_epoch ≡ e) × (v.tier.net.base_epoch ≡ e)))

-- A dirty record that nothing is under way on: a run drains it, so that the base alone has its
-- state.
abbrev pub DrainsRun : Type 0
DrainsRun =
    (s : System) (k : Name) (rec : TierRec) → IsHeld s → s.tier.net.phase ≡ Phase.Up
    → (cell_of s.tier k).rec ≡ Some rec → rec.dirty ≡ true → (cell_of s.tier k).flight ≡ None
    → Reaches s (λ u. ((cell_of u.tier k).rec ≡ None) × (state_of u.tier.base k ≡ rec.state))

-- The commit of a message that is on the wire may find no space.
abbrev pub FillsRun : Type 0
FillsRun =
    (s : System) (m : BaseMsg) (used need limit : ℕ) → IsIn m s.tier.net.wire → limit < used + need
    → Reaches s (λ u.
    IsIn (BaseReply.NoSpace (epoch_in m) (opid_in m) used need limit) u.tier.net.replies)

-- From two empty pools as they are attached, with no call yet, a run leads through the start of the
-- cache to the answer of a first call, which asks a write request that acts on a name that was
-- never written.
abbrev pub EmptyPairsRun : Type 0
EmptyPairsRun =
    (call line : ℕ) (r : Req) (state : NameState) (answer : Reply)
    → act unknown r ≡ Fresh state answer
    → Reaches (attached fin.empty fin.empty fin.empty 0 0) (λ u.
    (u.ledger.acts ≡ record { call = call; line = line; req = r; reply = answer } ∷ [])
    × (u.ledger.closed call ≡ true))
