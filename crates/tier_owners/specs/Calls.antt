-- What calls ask, send and are answered, and that each move keeps whose act each Write will be.
use Rattle.std.specs.Prelude.{◌≡◌, ◌≢◌, ◌≤◌, ℕ, Bool, true, false, [], ◌∷◌, Option, Some, None, if◌then◌else◌, ◌==◌}
use Rattle.obj_model.specs.declared.reply.Reply.{Reply}
use Rattle.obj_model.specs.declared.req.Req.{Req}
use Rattle.obj_model.specs.declared.state.NameState.{NameState}
use Rattle.obj_ops.specs.Stores.{Store}
use Rattle.tier_types.specs.Flights.{is_write}
use Rattle.tier_protocol.specs.Tiers.{Name, Flight, TierRec, BaseMsg, BaseActed, Phase, Recs, Tier, IsIn, cell_of}
use Rattle.tier_protocol.specs.Sound.{IsSound, IsSpent}
use Rattle.tier_protocol.specs.Laws.{found}
use Rattle.tier_protocol.specs.Moves.{acted_here, begun, counted_raised, delivered, landed, sent, MayActHere, MayBegin, MayCount, MayLand, MaySend}
use Rattle.tier_protocol.specs.Owners.{Asking, IsOpen, Ledger, Owned, SoundOwners, with_call_act}

-- ---- what is written down of calls

-- nothing yet
abbrev pub blank : Ledger
blank = record { owned = []; acts = []; asks = λ c. None; closed = λ c. false }

-- one more Write that was sent
abbrev pub with_owned : Owned → Ledger → Ledger
with_owned o l = record l { owned = o ∷ l.owned }

-- what this call asks
abbrev pub with_asked : ℕ → Asking → Ledger → Ledger
with_asked call a l = record l { asks = λ c. if c == call then Some a else l.asks c }

-- this call is answered for good
abbrev pub with_closed : ℕ → Ledger → Ledger
with_closed call l = record l { closed = λ c. if c == call then true else l.closed c }

-- the call asked this request, on this line
abbrev pub HasAsked : Ledger → (call line : ℕ) → Req → Type 0
HasAsked l call line r = l.asks call ≡ Some (record { line = line; req = r })

abbrev pub is_write_message : BaseMsg → Bool
is_write_message (BaseMsg.Fence e) = false
is_write_message (BaseMsg.GetChunk e op k at) = false
is_write_message (BaseMsg.Look e op k v) = false
is_write_message (BaseMsg.Write e op r) = true
is_write_message (BaseMsg.Install e op k s) = false

-- A call may be answered for good where no write request of it is under way, and each Write of it
-- that is on the wire, and that the base would take, is spent: then no act of it can come any more.
pub record MayClose (t : Tier) (l : Ledger) (call : ℕ) : Type 0 where
  pub idle : (n : Name) (driver : Option ℕ) (op : ℕ) (r : Req)
      → (cell_of t n).flight ≡ Some (Flight.Write driver call op r) → ⊥
  pub spent : (o : Owned) → IsIn o l.owned → o.call ≡ call
      → IsIn (BaseMsg.Write o.epoch o.opid o.req) t.net.wire → t.net.base_epoch ≤ o.epoch
      → IsSpent o.req.name (cell_of t o.req.name) t.net o.req

-- ---- moves that the owners' invariant lives through

-- where nothing is under way, nobody owns anything
abbrev pub FoundIsOwned : Type 0
FoundIsOwned =
    (recs : Recs) (base plain : Store) (cache_epoch base_epoch : ℕ)
    → SoundOwners (found recs base plain cache_epoch base_epoch) blank

-- a new call asks a write request
abbrev pub AskingKeepsOwners : Type 0
AskingKeepsOwners =
    (t : Tier) (l : Ledger) (call : ℕ) (a : Asking) → SoundOwners t l → l.asks call ≡ None
    → SoundOwners t (with_asked call a l)

-- the write request of a call begins: the call asked it, has no act, and was not answered for good
abbrev pub BeginningKeepsOwners : Type 0
BeginningKeepsOwners =
    (t : Tier) (l : Ledger) (k : Name) (driver : Option ℕ) (owner op line : ℕ) (r : Req)
    → IsSound t → SoundOwners t l → MayBegin t k (Flight.Write driver owner op r)
    → HasAsked l owner line r → IsOpen l owner
    → SoundOwners (begun k (Flight.Write driver owner op r) t) l

-- a Write is sent, at first, again, or where another call drives it: it is its owner's
abbrev pub WritingKeepsOwners : Type 0
WritingKeepsOwners =
    (t : Tier) (l : Ledger) (e op : ℕ) (r : Req) (driver : Option ℕ) (owner line : ℕ)
    → IsSound t → SoundOwners t l → e ≡ t.net.cache_epoch
    → (cell_of t r.name).flight ≡ Some (Flight.Write driver owner op r) → HasAsked l owner line r
    → SoundOwners (sent (BaseMsg.Write e op r) t)
    (with_owned (record { epoch = e; opid = op; req = r; call = owner; line = line }) l)

-- any other message is sent
abbrev pub SendingKeepsOwners : Type 0
SendingKeepsOwners =
    (t : Tier) (l : Ledger) (m : BaseMsg) → IsSound t → SoundOwners t l → MaySend t m
    → is_write_message m ≡ false → SoundOwners (sent m t) l

-- a request acts on a record: the act is that of the call that asked it, which had none
abbrev pub ActingKeepsOwners : Type 0
ActingKeepsOwners =
    (t : Tier) (l : Ledger) (rec : TierRec) (r : Req) (s : NameState) (answer : Reply)
    (moment call line : ℕ)
    → IsSound t → SoundOwners t l → MayActHere t rec r s answer → HasAsked l call line r
    → IsOpen l call
    → SoundOwners (acted_here r s moment t)
    (with_call_act (record { call = call; line = line; req = r; reply = answer }) l)

-- A message reaches the base, of which no act comes: a Fence, a chunk, a look, an installation, a
-- Write that is answered again, or is stale, or whose name is worn out; and any of an older epoch.
abbrev pub DeliveringKeepsOwners : Type 0
DeliveringKeepsOwners =
    (t : Tier) (l : Ledger) (m : BaseMsg) → IsSound t → SoundOwners t l → IsIn m t.net.wire
    → (delivered m t).acts ≡ t.acts → SoundOwners (delivered m t) l

-- an epoch that was found there counts as the raise
abbrev pub CountingKeepsOwners : Type 0
CountingKeepsOwners =
    (t : Tier) (l : Ledger) → IsSound t → SoundOwners t l → MayCount t
    → SoundOwners (counted_raised t) l

-- ---- answers for good

-- an answer for good is written down where it may be
abbrev pub ClosingKeepsOwners : Type 0
ClosingKeepsOwners =
    (t : Tier) (l : Ledger) (call : ℕ) → SoundOwners t l → MayClose t l call
    → SoundOwners t (with_closed call l)

-- the owner of a proxied write that landed may be answered
abbrev pub LandedMayClose : Type 0
LandedMayClose =
    (t : Tier) (l : Ledger) (k : Name) (driver : Option ℕ) (owner op : ℕ) (r : Req) (b : BaseActed)
    → IsSound t → SoundOwners t l → MayLand t k driver owner op r b → MayClose (landed k t) l owner

-- So may a call whose request's name has a record while the cache is up: whether the request acted
-- on the record, or was answered again, or refused as stale.
abbrev pub AnsweredHereMayClose : Type 0
AnsweredHereMayClose =
    (t : Tier) (l : Ledger) (call line : ℕ) (r : Req) (rec : TierRec) → IsSound t → SoundOwners t l
    → t.net.phase ≡ Phase.Up → HasAsked l call line r → (cell_of t r.name).rec ≡ Some rec
    → MayClose t l call

-- and a call that asked no write request
abbrev pub ReadersMayClose : Type 0
ReadersMayClose =
    (t : Tier) (l : Ledger) (call : ℕ) → SoundOwners t l → l.asks call ≡ None → MayClose t l call

-- and one that asked and began nothing
abbrev pub UnsentMayClose : Type 0
UnsentMayClose =
    (t : Tier) (l : Ledger) (call line : ℕ) (r : Req) → SoundOwners t l → HasAsked l call line r
    → is_write (cell_of t r.name).flight ≡ false
    → ((o : Owned) → IsIn o l.owned → o.call ≢ call) → IsSound t → MayClose t l call

-- The call owns no write request under way on this name, and no Write of it that the base would
-- take is on the wire.
pub record OwnsNothing (t : Tier) (l : Ledger) (call : ℕ) (n : Name) : Type 0 where
  pub idle : (driver : Option ℕ) (op : ℕ) (r : Req)
      → (cell_of t n).flight ≡ Some (Flight.Write driver call op r) → ⊥
  pub silent : (o : Owned) → IsIn o l.owned → o.call ≡ call
      → IsIn (BaseMsg.Write o.epoch o.opid o.req) t.net.wire → t.net.base_epoch ≤ o.epoch → ⊥

-- A call that owns nothing on its request's name may be answered for good, whatever work of others
-- stands there.
abbrev pub OwningNothingMayClose : Type 0
OwningNothingMayClose =
    (t : Tier) (l : Ledger) (call line : ℕ) (r : Req) → IsSound t → SoundOwners t l
    → HasAsked l call line r → OwnsNothing t l call r.name → MayClose t l call

-- So may a call that was turned away, since a write request of another call stands on its name.
abbrev pub BlockedMayClose : Type 0
BlockedMayClose =
    (t : Tier) (l : Ledger) (call line : ℕ) (r : Req) (driver : Option ℕ) (owner op : ℕ) (q : Req)
    → IsSound t → SoundOwners t l → HasAsked l call line r
    → (cell_of t r.name).flight ≡ Some (Flight.Write driver owner op q) → owner ≢ call
    → ((o : Owned) → IsIn o l.owned → o.call ≡ call
    → IsIn (BaseMsg.Write o.epoch o.opid o.req) t.net.wire → ⊥)
    → MayClose t l call

-- And so may a call that drove another call's write request, once this has landed.
abbrev pub AdoptersMayClose : Type 0
AdoptersMayClose =
    (t : Tier) (l : Ledger) (call line : ℕ) (r : Req) (owner op : ℕ) (q : Req) (b : BaseActed)
    → IsSound t → SoundOwners t l → HasAsked l call line r
    → MayLand t r.name (Some call) owner op q b → owner ≢ call
    → ((o : Owned) → IsIn o l.owned → o.call ≡ call
    → IsIn (BaseMsg.Write o.epoch o.opid o.req) t.net.wire → ⊥)
    → MayClose (landed r.name t) l call
