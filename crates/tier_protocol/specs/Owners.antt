-- Whose act it is. A Write may act when its call has ended long ago and no work stands, so the call
-- and its line are kept beside the message.
use Rattle.std.specs.Prelude.{◌≡◌, ◌≢◌, ◌≤◌, ◌⊎◌, ℕ, suc, ◌+◌, Bool, false, List, [], ◌∷◌, ◌++◌, map, length, Option, Some, None, if◌then◌else◌, ◌==◌}
use Rattle.std.specs.Option.{option_map}
use Rattle.obj_model.specs.declared.reply.Reply.{Reply}
use Rattle.obj_model.specs.declared.req.Req.{Req}
use Rattle.obj_model.specs.declared.state.NameState.{NameState}
use Rattle.obj_ops.specs.declared.request.Acted.TheVariants.{Fresh, Again}
use Rattle.obj_ops.specs.Acts.{act}
use Rattle.obj_ops.specs.Stores.{state_of}
use Rattle.tier_types.specs.Serving.{lasting}
use Rattle.tier_protocol.specs.Tiers.{Name, Flight, BaseMsg, BaseReply, BaseActed, Tier, IsIn, AreIn, cell_of}
use Rattle.tier_protocol.specs.Memory.{IsGiven}
use Rattle.tier_protocol.specs.Sound.{IsSound, IsSpent}
use Rattle.tier_protocol.specs.Moves.{delivered, stopped_base, stopped_cache, Loses, MayLand}

-- a Write that was sent, with the call whose request it is and the call's line
pub record Owned : Type 0 where
  pub epoch : ℕ
  pub opid : ℕ
  pub req : Req
  pub call : ℕ
  pub line : ℕ

-- an act of the history, with its call
pub record CallAct : Type 0 where
  pub call : ℕ
  pub line : ℕ
  pub req : Req
  pub reply : Reply

-- a write request that a call asked, and its line
pub record Asking : Type 0 where
  pub line : ℕ
  pub req : Req

-- What is kept of calls: the Writes that they sent; the acts; what each asked, if it asked a write
-- request; and which were answered for good. An answer that leaves it open whether the request will
-- act, as one that tells of a fault, is not for good.
pub record Ledger : Type 0 where
  pub owned : List Owned
  pub acts : List CallAct
  pub asks : ℕ → Option Asking
  pub closed : ℕ → Bool

-- the call has no act
abbrev pub HasNoAct : ℕ → List CallAct → Type 0
HasNoAct call acts = (a : CallAct) → IsIn a acts → a.call ≢ call

-- no call has two acts
abbrev pub AreOnce : List CallAct → Type 0
AreOnce [] = Unit {0}
AreOnce (a ∷ acts) = HasNoAct a.call acts × AreOnce acts

-- the number of a call's act, which is its place in the history; acts of other names do not move it
abbrev pub number_of : ℕ → List CallAct → Option ℕ
number_of call [] = None
number_of call (a ∷ acts) = if a.call == call then Some 1 else option_map suc (number_of call acts)

-- the act stands at this place of the history, counted from 1
pub record IsAtPlace (k : ℕ) (a : CallAct) (acts : List CallAct) : Type 0 where
  pub before : List CallAct
  pub behind : List CallAct
  pub whole : acts ≡ before ++ a ∷ behind
  pub place : k ≡ length before + 1

-- What the numbers of a history's calls are: places, of one act each.
pub record AreNumbered (acts : List CallAct) : Type 0 where
  -- at the number of a call an act of this call stands
  pub own : (call k : ℕ) → number_of call acts ≡ Some k
      → (a : CallAct) × (a.call ≡ call) × IsAtPlace k a acts
  -- each act stands at a place, and this is its call's number
  pub each : (a : CallAct) → IsIn a acts
      → (k : ℕ) × IsAtPlace k a acts × (number_of a.call acts ≡ Some k)
  pub placed : (k : ℕ) (a : CallAct) → IsAtPlace k a acts → number_of a.call acts ≡ Some k
  -- no two calls have one number
  pub apart : (call other k : ℕ) → number_of call acts ≡ Some k → number_of other acts ≡ Some k
      → call ≡ other
  -- a call without an act has none
  pub none : (call : ℕ) → HasNoAct call acts → number_of call acts ≡ None

-- the call has no act yet, and was not answered for good
abbrev pub IsOpen : Ledger → ℕ → Type 0
IsOpen l call = HasNoAct call l.acts × (l.closed call ≡ false)

-- a write request that is under way, of this owner
pub record SoundWriting (t : Tier) (l : Ledger) (n : Name) (owner op : ℕ) (r : Req) : Type 0 where
  pub line : ℕ
  pub asked : l.asks owner ≡ Some (record { line = line; req = r })
  pub pending : l.closed owner ≡ false
  -- where the owner has an act, the base answers the request again, with the act's reply
  pub acted : (a : CallAct) → IsIn a l.acts → a.call ≡ owner
      → (a.req ≡ r) × (act (cell_of t n).base r ≡ Again a.reply)
  -- what was sent under its number is of this owner
  pub own : (o : Owned) → IsIn o l.owned → o.epoch ≡ t.net.cache_epoch → o.opid ≡ op
      → o.call ≡ owner
  -- where the base told that the request acted just now, the owner has its act
  pub told : (answer : Reply)
      → IsIn (BaseReply.Wrote t.net.cache_epoch op (BaseActed.Fresh answer)) t.net.replies
      → (a : CallAct) × IsIn a l.acts × (a.call ≡ owner)

pub record SoundOwners (t : Tier) (l : Ledger) : Type 0 where
  pub same : t.acts ≡ map (λ a. a.req) l.acts
  -- each Write on the wire has an owner, who asked its request
  pub known : (e op : ℕ) (r : Req) → IsIn (BaseMsg.Write e op r) t.net.wire
      → (o : Owned) × IsIn o l.owned × (o.epoch ≡ e) × (o.opid ≡ op) × (o.req ≡ r)
  pub asked : (o : Owned) → IsIn o l.owned
      → l.asks o.call ≡ Some (record { line = o.line; req = o.req })
  pub given : (o : Owned) → IsIn o l.owned → IsGiven t.net o.epoch o.opid
  -- each was sent in an epoch that the base had been told of
  pub reached : (o : Owned) → IsIn o l.owned → o.epoch ≤ t.net.base_epoch
  -- each act is its call's request, and the call's one act
  pub acted : (a : CallAct) → IsIn a l.acts
      → l.asks a.call ≡ Some (record { line = a.line; req = a.req })
  pub once : AreOnce l.acts
  -- a Write on the wire that the base would take is spent, or its owner has no act and was not
  -- answered for good
  pub pending : (o : Owned) → IsIn o l.owned → IsIn (BaseMsg.Write o.epoch o.opid o.req) t.net.wire
      → t.net.base_epoch ≤ o.epoch
      → IsSpent o.req.name (cell_of t o.req.name) t.net o.req ⊎ IsOpen l o.call
  pub writing : (n : Name) (driver : Option ℕ) (owner op : ℕ) (r : Req)
      → (cell_of t n).flight ≡ Some (Flight.Write driver owner op r) → SoundWriting t l n owner op r

-- ---- laws

-- the ledger with one more act
abbrev pub with_call_act : CallAct → Ledger → Ledger
with_call_act a l = record l { acts = l.acts ++ a ∷ [] }

-- A Write that acts on the base: the act is its owner's, who had none and was not answered for
-- good.
abbrev pub ActsAreOwned : Type 0
ActsAreOwned =
    (t : Tier) (l : Ledger) (e op : ℕ) (r : Req) (s : NameState) (answer : Reply) → IsSound t
    → SoundOwners t l
    → IsIn (BaseMsg.Write e op r) t.net.wire → e ≡ t.net.base_epoch
    → act (state_of t.base r.name) r ≡ Fresh s answer
    → (o : Owned) × IsIn o l.owned × (o.epoch ≡ e) × (o.opid ≡ op) × (o.req ≡ r) × IsOpen l o.call
    × SoundOwners (delivered (BaseMsg.Write e op r) t)
    (with_call_act (record { call = o.call; line = o.line; req = r; reply = answer }) l)

-- A proxied write that lands: if its owner has an act, then of this request, and with the reply
-- that the base gave; it has one where the base told that it acted just now.
abbrev pub LandingFits : Type 0
LandingFits =
    (t : Tier) (l : Ledger) (k : Name) (driver : Option ℕ) (owner op : ℕ) (r : Req) (b : BaseActed)
    → IsSound t → SoundOwners t l
    → MayLand t k driver owner op r b
    → ((a : CallAct) → IsIn a l.acts → a.call ≡ owner → (a.req ≡ r) × (lasting b ≡ Again a.reply))
    × ((answer : Reply) → b ≡ BaseActed.Fresh answer → (a : CallAct) × IsIn a l.acts
    × (a.call ≡ owner))

-- the number of a call's act is its place, and is told as soon as it acts
abbrev pub NumbersArePlaces : Type 0
NumbersArePlaces =
    (acts : List CallAct) → AreOnce acts
    → AreNumbered acts
    × ((a : CallAct) → HasNoAct a.call acts
    → number_of a.call (acts ++ a ∷ []) ≡ Some (length acts + 1))

-- so it is in every moment
abbrev pub HistoriesAreNumbered : Type 0
HistoriesAreNumbered = (t : Tier) (l : Ledger) → SoundOwners t l → AreNumbered l.acts

-- the number of a call's act stays, however many acts come behind it
abbrev pub NumbersStay : Type 0
NumbersStay =
    (acts : List CallAct) (a : CallAct) (call k : ℕ) → number_of call acts ≡ Some k
    → number_of call (acts ++ a ∷ []) ≡ Some k

-- A move that leaves the base's states and the history, sends nothing and begins no write request:
-- work may end or change hands, messages and replies may be lost, either pool may stop or start.
pub record Quiet (t u : Tier) : Type 0 where
  pub base : t.base ≡ u.base
  pub opening : t.opening ≡ u.opening
  pub acts : t.acts ≡ u.acts
  pub later : t.net.base_epoch ≤ u.net.base_epoch
  pub wire : AreIn u.net.wire t.net.wire
  pub given : (e op : ℕ) → IsGiven t.net e op → IsGiven u.net e op
  pub writing : (n : Name) (driver : Option ℕ) (owner op : ℕ) (r : Req)
      → (cell_of u n).flight ≡ Some (Flight.Write driver owner op r)
      → (t.net.cache_epoch ≡ u.net.cache_epoch)
      × ((other : Option ℕ) × ((cell_of t n).flight ≡ Some (Flight.Write other owner op r)))
  pub told : (e op : ℕ) (answer : Reply)
      → IsIn (BaseReply.Wrote e op (BaseActed.Fresh answer)) u.net.replies
      → IsIn (BaseReply.Wrote e op (BaseActed.Fresh answer)) t.net.replies

abbrev pub QuietKeeps : Type 0
QuietKeeps = (t u : Tier) (l : Ledger) → SoundOwners t l → Quiet t u → SoundOwners u l

-- what may be lost at any time is quiet, and so are the stops of either pool
abbrev pub LossesAreQuiet : Type 0
LossesAreQuiet =
    (t : Tier) → IsSound t
    → ((u : Tier) → Loses t u → Quiet t u) × Quiet t (stopped_cache t) × Quiet t (stopped_base t)
