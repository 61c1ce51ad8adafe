-- One relation of all moves: of the pair, with what is written down of its calls.
use Rattle.std.specs.Prelude.{◌≡◌, ℕ, Bool, false, List, [], ◌∷◌, Option, Some, None}
use Rattle.copy_chunk.specs.declared.chunk.Chunk.{Chunk}
use Rattle.obj_model.specs.declared.reply.Reply.{Reply}
use Rattle.obj_model.specs.declared.req.Req.{Req}
use Rattle.obj_model.specs.declared.state.NameState.{NameState}
use Rattle.obj_ops.specs.declared.request.Acted.TheVariants.{Fresh}
use Rattle.obj_ops.specs.Acts.{act}
use Rattle.obj_ops.specs.Stores.{Store, state_of, store_after}
use Rattle.tier_types.specs.Flights.{is_write}
use Rattle.tier_protocol.specs.Tiers.{Name, Ask, Flight, TierRec, BaseMsg, BaseActed, Phase, Tier, IsIn, cell_of}
use Rattle.tier_protocol.specs.Sound.{IsSound}
use Rattle.tier_protocol.specs.Moves.{acted_here, begun, cleaned, counted_raised, delivered, drained, epoch_found, evicted, filled, gathered, landed, promoted, raised_to, sent, stopped_base, stopped_cache, went_up, Loses, MayActHere, MayBegin, MayClean, MayCount, MayEvict, MayFill, MayGather, MayGoUp, MayLand, MayPromote, MayRaise, MaySend}
use Rattle.tier_protocol.specs.Owners.{Asking, CallAct, IsOpen, Ledger, Owned, SoundOwners, with_call_act}
use Rattle.tier_owners.specs.Calls.{HasAsked, MayClose, is_write_message, with_asked, with_closed, with_owned}

-- the pair, and what is written down of its calls
pub record System : Type 0 where
  pub tier : Tier
  pub ledger : Ledger

abbrev pub with_tier : System → Tier → System
with_tier s t = record s { tier = t }

-- A Write that acts on the base, of a call that sent it.
pub record MayActThere (s : System) (e op : ℕ) (r : Req) (state : NameState) (answer : Reply)
    (o : Owned) : Type 0 where
  pub on : IsIn (BaseMsg.Write e op r) s.tier.net.wire
  pub level : e ≡ s.tier.net.base_epoch
  pub acts : act (state_of s.tier.base r.name) r ≡ Fresh state answer
  pub owned : IsIn o s.ledger.owned
  pub epoch : o.epoch ≡ e
  pub opid : o.opid ≡ op
  pub req : o.req ≡ r

-- What one move makes of the pair. A step of a tier is one of these, or some one after another.
pub data Moves (s : System) : System → Type 0 where
  -- a message reaches the base, of which no act comes
  delivers : (m : BaseMsg) → IsIn m s.tier.net.wire → (delivered m s.tier).acts ≡ s.tier.acts
      → Moves s (with_tier s (delivered m s.tier))
  -- a Write reaches the base and acts
  acts_there : (e op : ℕ) (r : Req) (state : NameState) (answer : Reply) (o : Owned)
      → MayActThere s e op r state answer o
      → Moves s (record {
        tier = delivered (BaseMsg.Write e op r) s.tier;
        ledger = with_call_act (record {
          call = o.call;
          line = o.line;
          req = r;
          reply = answer;
        }) s.ledger;
      })
  -- the commit of a message finds no space
  fills : (m : BaseMsg) (used need limit : ℕ) → MayFill s.tier m used need limit
      → Moves s (with_tier s (filled m used need limit s.tier))
  -- a request acts on a record
  acts_here : (rec : TierRec) (r : Req) (state : NameState) (answer : Reply) (moment call line : ℕ)
      → MayActHere s.tier rec r state answer → HasAsked s.ledger call line r → IsOpen s.ledger call
      → Moves s (record {
        tier = acted_here r state moment s.tier;
        ledger = with_call_act (record {
          call = call;
          line = line;
          req = r;
          reply = answer;
        }) s.ledger;
      })
  -- a promotion takes a chunk, and ends
  gathers : (k : Name) (call op : ℕ) (gather : List Chunk) (ask : Ask) (x : Chunk)
      → MayGather s.tier k call op gather ask x
      → Moves s (with_tier s (gathered k call op gather ask x s.tier))
  promotes : (k : Name) (call op : ℕ) (gather : List Chunk) (ask : Ask) (state : NameState)
      (moment : ℕ)
      → MayPromote s.tier k call op gather ask state
      → Moves s (with_tier s (promoted k state moment s.tier))
  -- a flush ends, and leaves a clean record, or none
  cleans : (k : Name) (call : Option ℕ) (op seq m : ℕ) (blocking drain : Bool) (rec : TierRec)
      → MayClean s.tier k call op seq m blocking drain rec
      → Moves s (with_tier s (cleaned k rec s.tier))
  drains : (k : Name) (call : Option ℕ) (op seq m : ℕ) (blocking drain : Bool) (rec : TierRec)
      → MayClean s.tier k call op seq m blocking drain rec
      → Moves s (with_tier s (drained k s.tier))
  -- a clean record is evicted
  evicts : (k : Name) → MayEvict s.tier k → Moves s (with_tier s (evicted k s.tier))
  -- work begins: a write request of a call that asked it, or other work
  begins_write : (k : Name) (driver : Option ℕ) (owner op line : ℕ) (r : Req)
      → s.tier.net.phase ≡ Phase.Up → MayBegin s.tier k (Flight.Write driver owner op r)
      → HasAsked s.ledger owner line r → IsOpen s.ledger owner
      → Moves s (with_tier s (begun k (Flight.Write driver owner op r) s.tier))
  begins : (k : Name) (f : Flight) → s.tier.net.phase ≡ Phase.Up → MayBegin s.tier k f
      → is_write (Some f) ≡ false → Moves s (with_tier s (begun k f s.tier))
  -- work sends: a Write, of its owner, or another message
  sends_write : (op : ℕ) (r : Req) (driver : Option ℕ) (owner line : ℕ)
      → (cell_of s.tier r.name).flight ≡ Some (Flight.Write driver owner op r)
      → HasAsked s.ledger owner line r
      → Moves s (record {
        tier = sent (BaseMsg.Write s.tier.net.cache_epoch op r) s.tier;
        ledger = with_owned (record {
          epoch = s.tier.net.cache_epoch;
          opid = op;
          req = r;
          call = owner;
          line = line;
        }) s.ledger;
      })
  sends : (m : BaseMsg) → MaySend s.tier m → is_write_message m ≡ false
      → Moves s (with_tier s (sent m s.tier))
  -- a proxied write lands
  lands : (k : Name) (driver : Option ℕ) (owner op : ℕ) (r : Req) (a : BaseActed)
      → MayLand s.tier k driver owner op r a → Moves s (with_tier s (landed k s.tier))
  -- messages and replies are lost, calls end, and others take over
  loses : (t : Tier) → Loses s.tier t → Moves s (with_tier s t)
  -- stops and starts
  stops_cache : Moves s (with_tier s (stopped_cache s.tier))
  stops_base : Moves s (with_tier s (stopped_base s.tier))
  raises : (e : ℕ) → MayRaise s.tier e → Moves s (with_tier s (raised_to e s.tier))
  finds : (e : ℕ) → MayRaise s.tier e → Moves s (with_tier s (epoch_found e s.tier))
  counts : MayCount s.tier → Moves s (with_tier s (counted_raised s.tier))
  goes_up : MayGoUp s.tier.net → Moves s (with_tier s (went_up s.tier))
  -- a new call asks a write request; a call is answered for good
  asks : (call : ℕ) (a : Asking) → s.ledger.asks call ≡ None → s.ledger.closed call ≡ false
      → Moves s (record s { ledger = with_asked call a s.ledger })
  closes : (call : ℕ) → MayClose s.tier s.ledger call
      → Moves s (record s { ledger = with_closed call s.ledger })

-- each act was answered as the store that those before it leave answers it
abbrev pub AreAnswered : Store → List CallAct → Type 0
AreAnswered store [] = Unit {0}
AreAnswered store (a ∷ acts) =
    ((state : NameState) × (act (state_of store a.req.name) a.req ≡ Fresh state a.reply))
    × AreAnswered (store_after store a.req.name (act (state_of store a.req.name) a.req)) acts

-- what holds in every moment: the pair is sound, each Write has its owner, and each act its answer
pub record IsHeld (s : System) : Type 0 where
  pub sound : IsSound s.tier
  pub owners : SoundOwners s.tier s.ledger
  pub answered : AreAnswered s.tier.opening s.ledger.acts

-- a list of moves, by the moments that it passes through
abbrev pub IsRun : System → List System → Type 0
IsRun s [] = Unit {0}
IsRun s (u ∷ us) = Moves s u × IsRun u us
