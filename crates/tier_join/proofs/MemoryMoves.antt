-- What each move makes of memory, without any fact of what the stores have.
use Rattle.std.proofs.Common.{◌≡◌, ◌≢◌, ◌<◌, ℕ, ◌+◌, Option, None, Err, refl, subst}
use Rattle.obj_model.specs.declared.state.NameState.{NameState}
use Rattle.store_face.specs.declared.fault.StoreFault.{StoreFault}
use Rattle.store_face.specs.declared.fault.StoreFault.TheVariants.{Disk, BadImage, NoSpace, Worn, NoMemory}
use Rattle.tier_types.specs.Serving.{Served, epoch_in, opid_in, served}
use Rattle.tier_protocol.specs.Tiers.{Name, BaseMsg, BaseReply, Flight, IsIn, Phase, TierRec}
use Rattle.tier_protocol.specs.Memory.{IsGiven, IsSent}
use Rattle.tier_protocol.specs.MemoryLaws.{MayStart, MayTell}
use Rattle.tier_protocol.specs.Moves.{MayBegin, MaySend, begun, filled, sent, with_flight, with_served}
use Rattle.tier_protocol.proofs.Memory.{memory_free}
use Rattle.tier_protocol.proofs.MemoryMoves as protocol
use Rattle.tier_join.specs.Group.{IsSoundMemory, Memory}
use Rattle.tier_join.specs.Steps.{IsOver, Outcome, after, no_space, seen, unless_disk}

-- the work on a name is gone
pub free_memory : (m : Memory) (k : Name) → IsSoundMemory m → IsSoundMemory (after (with_flight k None) m)
free_memory m k h = memory_free m.flights m.net k h

pub unless_sound : (torn kept : Memory) (fault : StoreFault) → IsSoundMemory torn → IsSoundMemory kept → IsSoundMemory (unless_disk torn kept fault)
unless_sound torn kept Disk h k = h
unless_sound torn kept (BadImage at) h k = k
unless_sound torn kept (NoSpace used need limit) h k = k
unless_sound torn kept (Worn limit) h k = k
unless_sound torn kept NoMemory h k = k

-- ---- messages that the base is given

-- a message is delivered
pub served_memory : (m : Memory) (msg : BaseMsg) (s : NameState) (out : Served) → IsIn msg m.net.wire → served m.net.base_epoch s msg ≡ out → IsSoundMemory m → IsSoundMemory (after (with_served msg out) m)
served_memory m msg s out on is h =
    subst (λ o. IsSoundMemory (after (with_served msg o) m)) is (protocol.answering m.flights m.net msg m.net.base_epoch s h on)

-- its commit finds no space
filled_memory : (m : Memory) (msg : BaseMsg) (used need limit : ℕ) → IsIn msg m.net.wire → limit < used + need → IsSoundMemory m → IsSoundMemory (after (filled msg used need limit) m)
filled_memory m msg used need limit on over h =
    (protocol.replying m.flights m.net (BaseReply.NoSpace (epoch_in msg) (opid_in msg) used need limit) 0 h (over, given msg (h.wire.sent msg on))).0
  where
    given : (x : BaseMsg) → IsSent m.net x → opid_in x ≢ 0 → IsGiven m.net (epoch_in x) (opid_in x)
    given (BaseMsg.Fence e) s ne = absurd (ne refl)
    given (BaseMsg.GetChunk e op k at) s ne = s
    given (BaseMsg.Look e op k v) s ne = s
    given (BaseMsg.Write e op r) s ne = s
    given (BaseMsg.Install e op k t) s ne = s

pub no_space_memory : (m : Memory) (msg : BaseMsg) (result : Outcome) (fault : StoreFault) → IsIn msg m.net.wire → IsOver result → result ≡ Err fault → IsSoundMemory m → IsSoundMemory (no_space msg m fault)
no_space_memory m msg result Disk on over is h = h
no_space_memory m msg result (BadImage at) on over is h = h
no_space_memory m msg result (NoSpace used need limit) on over is h = filled_memory m msg used need limit on (over used need limit is) h
no_space_memory m msg result (Worn limit) on over is h = h
no_space_memory m msg result NoMemory on over is h = h

-- ---- work begins, and sends

-- what memory needs of what a step sees
may_start : (m : Memory) (k : Name) (rec : Option TierRec) (f : Flight) → MayBegin (seen m k rec) k f → MayStart m.flights m.net k f
may_start m k rec (Flight.Promote call o gather ask) may = (may.0, may.2, may.4)
may_start m k rec (Flight.Write driver owner o r) may = (may.0, may.2, may.3)
may_start m k rec (Flight.Reads list) may = (may.0, may.2)
may_start m k rec (Flight.Flush call o seq blocking drain) may = (may.0, may.1)

pub begun_memory : (m : Memory) (k : Name) (rec : Option TierRec) (f : Flight) → IsSoundMemory m → m.net.phase ≡ Phase.Up → MayBegin (seen m k rec) k f → IsSoundMemory (after (begun k f) m)
begun_memory m k rec f h up may = protocol.starts m.flights m.net k f h up (may_start m k rec f may)

may_tell : (m : Memory) (k : Name) (rec : Option TierRec) (msg : BaseMsg) → MaySend (seen m k rec) msg → MayTell m.flights m.net msg
may_tell m k rec (BaseMsg.Fence e) may = may.0
may_tell m k rec (BaseMsg.GetChunk e op n at) may = (may.0, (may.1.0, may.1.1, may.1.2, may.1.3))
may_tell m k rec (BaseMsg.Look e op n v) may = may
may_tell m k rec (BaseMsg.Write e op r) may = may
may_tell m k rec (BaseMsg.Install e op n s) may = (may.0, (may.1.0, may.1.1, may.1.2, may.1.3, may.1.5))

pub sent_memory : (m : Memory) (k : Name) (rec : Option TierRec) (msg : BaseMsg) → IsSoundMemory m → MaySend (seen m k rec) msg → IsSoundMemory (after (sent msg) m)
sent_memory m k rec msg h may = protocol.tells m.flights m.net msg h (may_tell m k rec msg may)
