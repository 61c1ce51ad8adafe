-- What holds over every run of moves.
use Rattle.std.specs.Prelude.{◌≡◌, ◌≤◌, ◌<◌, ℕ, true, List, ◌∷◌, ◌++◌, map, Option, Some, None}
use Rattle.obj_model.specs.declared.reply.Reply.{Reply}
use Rattle.obj_model.specs.declared.req.Req.{Req}
use Rattle.obj_ops.specs.declared.request.Acted.TheVariants.{Again}
use Rattle.obj_ops.specs.declared.reading.Looked.{Looked}
use Rattle.obj_ops.specs.Acts.{act, look}
use Rattle.obj_ops.specs.Stores.{Store, replay, state_of}
use Rattle.tier_types.specs.Serving.{lasting}
use Rattle.tier_protocol.specs.Tiers.{Name, Flight, ReadFlight, BaseMsg, BaseReply, BaseActed, TierRec, Recs, Tier, IsIn, cell_of}
use Rattle.tier_protocol.specs.Sound.{AreFresh}
use Rattle.tier_protocol.specs.Laws.{StandsFor, found}
use Rattle.tier_protocol.specs.Moves.{MayLand, Loses, delivered, taken}
use Rattle.tier_protocol.specs.Owners.{CallAct}
use Rattle.tier_owners.specs.Calls.{blank}
use Rattle.tier_owners.specs.Moving.{AreAnswered, IsHeld, IsRun, Moves, System}

-- ---- one move, and each moment of a run

-- each move keeps what holds
abbrev pub MovesKeep : Type 0
MovesKeep = (s u : System) → IsHeld s → Moves s u → IsHeld u

-- so it holds in every moment of a run
abbrev pub RunsKeep : Type 0
RunsKeep =
    (s : System) (us : List System) → IsHeld s → IsRun s us → (u : System) → IsIn u us → IsHeld u

-- no move forgets or changes an act, nor the store that the history began with
pub record GoesOn (s u : System) : Type 0 where
  pub opening : u.tier.opening ≡ s.tier.opening
  pub more : List CallAct
  pub acts : u.ledger.acts ≡ s.ledger.acts ++ more

abbrev pub HistoryGrows : Type 0
HistoryGrows = (s : System) (us : List System) → IsRun s us → (u : System) → IsIn u us → GoesOn s u

-- a call that was answered for good has no act more
abbrev pub ClosedActNoMore : Type 0
ClosedActNoMore =
    (s : System) (us : List System) (call : ℕ) → IsHeld s → IsRun s us → s.ledger.closed call ≡ true
    → (u : System) → IsIn u us → (a : CallAct) → IsIn a u.ledger.acts → a.call ≡ call
    → IsIn a s.ledger.acts

-- ---- request ids

-- two requests of one id: client, name and tid
pub record HaveOneId (r q : Req) : Type 0 where
  pub client : r.client ≡ q.client
  pub name : r.name ≡ q.name
  pub tid : r.tid ≡ q.tid

-- a legal history has no two acts of one id
abbrev pub IdsActOnce : Store → List Req → Type 0
IdsActOnce plain acts =
    (before between behind : List Req) (r q : Req) → acts ≡ before ++ r ∷ (between ++ q ∷ behind)
    → HaveOneId r q → ⊥

abbrev pub LegalActOnce : Type 0
LegalActOnce = (plain : Store) (acts : List Req) → AreFresh plain acts → IdsActOnce plain acts

-- ---- a pair from its attachment on

-- The pair as it is found when it is attached, with no call yet.
abbrev pub attached : Recs → Store → Store → (cache_epoch base_epoch : ℕ) → System
attached recs base plain cache_epoch base_epoch = record {
  tier = found recs base plain cache_epoch base_epoch;
  ledger = blank;
}

-- the plain store in this moment: that of the beginning, and the acts since
abbrev pub now_of : Store → System → Store
now_of plain s = replay plain s.tier.acts

-- What a tier owes its clients in one moment, measured by the plain store of the beginning.
pub record IsFaithful (plain : Store) (s : System) : Type 0 where
  pub held : IsHeld s
  -- each act acts on the plain store that those before it left, and is its call's
  pub legal : AreFresh plain s.tier.acts
  pub calls : s.tier.acts ≡ map (λ a. a.req) s.ledger.acts
  -- and was answered as that store answers it
  pub answered : AreAnswered plain s.ledger.acts
  -- no request id acts twice
  pub once : IdsActOnce plain s.tier.acts
  -- a proxied read is told what the plain store tells
  pub reads : (k : Name) (list : List ReadFlight) (r : ReadFlight) (l : Looked)
      → (cell_of s.tier k).flight ≡ Some (Flight.Reads list) → IsIn r list
      → IsIn (BaseReply.Looked s.tier.net.cache_epoch r.opid l) s.tier.net.replies
      → l ≡ look (state_of (now_of plain s) k) r.vector
  -- a proxied write is told what the plain store answers it from now on
  pub writes : (k : Name) (driver : Option ℕ) (owner op : ℕ) (r : Req) (b : BaseActed)
      → MayLand s.tier k driver owner op r b → act (state_of (now_of plain s) k) r ≡ lasting b
  -- Where a proxied write lands and its owner has an act, this is of its request, and the answer is
  -- the act's; where the base told that the request acted just now, the owner has an act.
  pub landings : (k : Name) (driver : Option ℕ) (owner op : ℕ) (r : Req) (b : BaseActed)
      → MayLand s.tier k driver owner op r b
      → ((a : CallAct) → IsIn a s.ledger.acts → a.call ≡ owner
      → (a.req ≡ r) × (lasting b ≡ Again a.reply))
      × ((answer : Reply) → b ≡ BaseActed.Fresh answer
      → (a : CallAct) × IsIn a s.ledger.acts × (a.call ≡ owner))
  -- a record has the plain store's state, so what is read from it is the plain store's too
  pub shows : (k : Name) (rec : TierRec) → (cell_of s.tier k).rec ≡ Some rec
      → rec.state ≡ state_of (now_of plain s) k
  -- without records, as a drain leaves it, the base alone is the plain store
  pub alone : ((k : Name) → (cell_of s.tier k).rec ≡ None) → (k : Name)
      → state_of s.tier.base k ≡ state_of (now_of plain s) k

-- Whatever a pair stands for when it is attached: it is faithful in each moment of every run.
abbrev pub RunsAreFaithful : Type 0
RunsAreFaithful =
    (recs : Recs) (base plain : Store) (cache_epoch base_epoch : ℕ) (us : List System)
    → StandsFor recs base plain → (0 < cache_epoch → base_epoch ≤ cache_epoch)
    → IsRun (attached recs base plain cache_epoch base_epoch) us
    → (u : System) → IsIn u (attached recs base plain cache_epoch base_epoch ∷ us)
    → IsFaithful plain u

-- ---- doubt

-- A commit of the base in doubt is a run too: the message acts or comes to what it comes to, and
-- the reply is lost. So all that holds over runs holds whichever way the doubt is settled.
abbrev pub TakenIsLost : Type 0
TakenIsLost = (t : Tier) (m : BaseMsg) → Loses (delivered m t) (taken m t)
