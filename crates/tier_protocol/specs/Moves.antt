-- The moves of the pair, each with what it needs. A step of a tier is one of these, or some of them
-- one after another.
use Rattle.std.specs.Prelude.{◌≡◌, ◌≢◌, ◌<◌, ℕ, ◌+◌, max, Bool, true, false, List, [], ◌∷◌, ◌++◌, Option, Some, None}
use Rattle.std.specs.FinMap as map
use Rattle.copy_chunk.specs.Gathers.{joined, wanted}
use Rattle.copy_chunk.specs.declared.chunk.Chunk.{Chunk}
use Rattle.obj_model.specs.Names.{name_cmp}
use Rattle.obj_model.specs.States.{unknown}
use Rattle.obj_model.specs.declared.reply.Reply.{Reply}
use Rattle.obj_model.specs.declared.req.Req.{Req}
use Rattle.obj_model.specs.declared.state.NameState.{NameState}
use Rattle.obj_ops.specs.declared.request.Acted.TheVariants.{Fresh}
use Rattle.obj_ops.specs.Acts.{act}
use Rattle.obj_ops.specs.Stores.{Store, state_of}
use Rattle.tier_types.specs.Flights.{IsLeftOf, lets_read, lets_write, name_asked, reads_of}
use Rattle.tier_types.specs.Serving.{Served, epoch_in, name_in, opid_in, served}
use Rattle.tier_protocol.specs.Tiers.{Name, Ask, Flight, ReadFlight, TierRec, BaseMsg, BaseReply, BaseActed, Phase, Flights, Net, Tier, IsIn, AreIn, cell_of}
use Rattle.tier_protocol.specs.Sound.{is_dirty}

-- ---- parts of moves

-- a map that has this at a name, or nothing
abbrev pub set_at : {X : Type 0} → map.FinMap name_cmp X → Name → Option X → map.FinMap name_cmp X
set_at m k None = map.remove m k
set_at m k (Some v) = map.insert m k v

abbrev pub with_rec : Name → Option TierRec → Tier → Tier
with_rec k v t = record t { recs = set_at t.recs k v }

abbrev pub with_flight : Name → Option Flight → Tier → Tier
with_flight k f t = record t { flights = set_at t.flights k f }

abbrev pub with_base : Name → NameState → Tier → Tier
with_base k s t = record t { base = map.insert t.base k s }

abbrev pub with_act : Req → Tier → Tier
with_act r t = record t { acts = t.acts ++ r ∷ [] }

abbrev pub with_net : Net → Tier → Tier
with_net net t = record t { net = net }

abbrev pub with_reply : BaseReply → Tier → Tier
with_reply p t = with_net (record t.net { replies = p ∷ t.net.replies }) t

-- ---- a message reaches the base

-- the base's state of the message's name
abbrev pub state_for : Option Name → Store → NameState
state_for None base = unknown
state_for (Some n) base = state_of base n

abbrev pub put_at : Option Name → Option NameState → Store → Store
put_at None s base = base
put_at (Some n) None base = base
put_at (Some n) (Some s) base = map.insert base n s

-- a request that acted on the base enters the history; a state that was installed does not
abbrev pub acts_with : BaseMsg → Option NameState → List Req → List Req
acts_with (BaseMsg.Fence e) put acts = acts
acts_with (BaseMsg.GetChunk e op k at) put acts = acts
acts_with (BaseMsg.Look e op k v) put acts = acts
acts_with (BaseMsg.Write e op r) None acts = acts
acts_with (BaseMsg.Write e op r) (Some s) acts = acts ++ r ∷ []
acts_with (BaseMsg.Install e op k s) put acts = acts

-- the pair after the base made this of the message
abbrev pub with_served : BaseMsg → Served → Tier → Tier
with_served m s t = record t {
  base = put_at (name_in m) s.put t.base;
  acts = acts_with m s.put t.acts;
  net = record t.net { base_epoch = s.epoch; replies = s.reply ∷ t.net.replies };
}

-- A message is delivered. It stays on the wire, so that it may reach the base again, and late.
abbrev pub delivered : BaseMsg → Tier → Tier
delivered m t = with_served m (served t.net.base_epoch (state_for (name_in m) t.base) m) t

-- the commit that a message needs finds no space: nothing but the reply comes of it
pub record MayFill (t : Tier) (m : BaseMsg) (used need limit : ℕ) : Type 0 where
  pub on : IsIn m t.net.wire
  pub over : limit < used + need

abbrev pub filled : BaseMsg → (used need limit : ℕ) → Tier → Tier
filled m used need limit t =
    with_reply (BaseReply.NoSpace (epoch_in m) (opid_in m) used need limit) t

-- what a message does to the base alone: nobody was told, since the commit was in doubt
abbrev pub taken : BaseMsg → Tier → Tier
taken m t = record (delivered m t) {
  net = record (delivered m t).net { wire = t.net.wire; replies = t.net.replies };
}

-- ---- in the cache

-- a request acts on the record of its name, which is dirty from then on
abbrev pub acted_here : Req → NameState → ℕ → Tier → Tier
acted_here q s moment t =
    with_rec q.name (Some (record { state = s; dirty = true; mtime = moment })) (with_act q t)

pub record MayActHere (t : Tier) (r : TierRec) (q : Req) (s : NameState)
    (answer : Reply) : Type 0 where
  pub up : t.net.phase ≡ Phase.Up
  pub rec : (cell_of t q.name).rec ≡ Some r
  pub lets : lets_write (cell_of t q.name).flight ≡ true
  pub acts : act r.state q ≡ Fresh s answer

-- the work on a name ends, and this is its record
abbrev pub held : Name → Option TierRec → Tier → Tier
held k v t = with_rec k v (with_flight k None t)

-- the chunk that a promotion wants came
pub record MayGather (t : Tier) (k : Name) (call op : ℕ) (gather : List Chunk) (ask : Ask)
    (x : Chunk) : Type 0 where
  pub flight : (cell_of t k).flight ≡ Some (Flight.Promote call op gather ask)
  pub wanted : wanted gather ≡ Some x.at
  pub reply : IsIn (BaseReply.Chunk t.net.cache_epoch op (Some x)) t.net.replies

abbrev pub gathered : Name → (call op : ℕ) → List Chunk → Ask → Chunk → Tier → Tier
gathered k call op gather ask x t =
    with_flight k (Some (Flight.Promote call op (gather ++ x ∷ []) ask)) t

-- all chunks of a promotion are there: they are the record, which is clean
pub record MayPromote (t : Tier) (k : Name) (call op : ℕ) (gather : List Chunk) (ask : Ask)
    (s : NameState) : Type 0 where
  pub flight : (cell_of t k).flight ≡ Some (Flight.Promote call op gather ask)
  pub whole : joined gather ≡ Some s

abbrev pub promoted : Name → NameState → ℕ → Tier → Tier
promoted k s moment t = held k (Some (record { state = s; dirty = false; mtime = moment })) t

-- the base has the state that a flush set out with, and no request acted on the record since
pub record MayClean (t : Tier) (k : Name) (call : Option ℕ) (op seq m : ℕ) (blocking drain : Bool)
    (r : TierRec) : Type 0 where
  pub flight : (cell_of t k).flight ≡ Some (Flight.Flush call op seq blocking drain)
  pub reply : IsIn (BaseReply.Installed t.net.cache_epoch op m) t.net.replies
  pub rec : (cell_of t k).rec ≡ Some r
  pub same : r.state.seq ≡ seq

-- the record is clean; or, where the cache is drained, gone
abbrev pub cleaned : Name → TierRec → Tier → Tier
cleaned k r t = held k (Some (record r { dirty = false })) t

abbrev pub drained : Name → Tier → Tier
drained k t = held k None t

-- a clean record that nothing is under way on is evicted
pub record MayEvict (t : Tier) (k : Name) : Type 0 where
  pub clean : is_dirty (cell_of t k).rec ≡ false
  pub up : t.net.phase ≡ Phase.Up
  pub free : (cell_of t k).flight ≡ None

abbrev pub evicted : Name → Tier → Tier
evicted k t = with_rec k None t

-- ---- work begins, sends, and ends

-- work begins under the next number
abbrev pub begun : Name → Flight → Tier → Tier
begun k f t = with_flight k (Some f) (with_net (record t.net { next_opid = t.net.next_opid + 1 }) t)

-- One more read joins those of its name.
abbrev pub reads_with : Option Flight → ReadFlight → List ReadFlight
reads_with f r = reads_of f ++ r ∷ []

-- The work that may begin on a name: a promotion, a write request or one more read where there is
-- no record; a flush of a dirty record. All but a read want the name free.
abbrev pub MayBegin : Tier → Name → Flight → Type 0
MayBegin t k (Flight.Promote call o gather ask) =
    ((cell_of t k).flight ≡ None) × ((cell_of t k).rec ≡ None) × (o ≡ t.net.next_opid)
    × (gather ≡ []) × (name_asked ask ≡ k)
MayBegin t k (Flight.Write driver owner o r) =
    ((cell_of t k).flight ≡ None) × ((cell_of t k).rec ≡ None) × (o ≡ t.net.next_opid)
    × (r.name ≡ k)
MayBegin t k (Flight.Reads list) =
    (lets_read (cell_of t k).flight ≡ true) × ((cell_of t k).rec ≡ None)
    × ((r : ReadFlight) × (r.opid ≡ t.net.next_opid) × (list ≡ reads_with (cell_of t k).flight r))
MayBegin t k (Flight.Flush call o seq blocking drain) =
    ((cell_of t k).flight ≡ None) × (o ≡ t.net.next_opid)
    × ((r : TierRec) × ((cell_of t k).rec ≡ Some r) × (r.dirty ≡ true) × (r.state.seq ≡ seq))

-- The message that work sends, at first, again, or where another call takes it over: a promotion
-- asks for the chunk that it wants, and a flush sends the state that the record has now. A Fence is
-- sent while nothing is under way in its epoch, or again later.
abbrev pub MaySend : Tier → BaseMsg → Type 0
MaySend t (BaseMsg.Fence e) = (e ≡ t.net.cache_epoch) × (t.net.phase ≢ Phase.Down)
MaySend t (BaseMsg.GetChunk e op k at) =
    (e ≡ t.net.cache_epoch)
    × ((call : ℕ) × (gather : List Chunk) × (ask : Ask)
    × ((cell_of t k).flight ≡ Some (Flight.Promote call op gather ask)) × (wanted gather ≡ Some at))
MaySend t (BaseMsg.Look e op k v) =
    (e ≡ t.net.cache_epoch)
    × ((list : List ReadFlight) × (r : ReadFlight)
    × ((cell_of t k).flight ≡ Some (Flight.Reads list))
    × IsIn r list × (r.opid ≡ op) × (r.vector ≡ v))
MaySend t (BaseMsg.Write e op r) =
    (e ≡ t.net.cache_epoch)
    × ((driver : Option ℕ) × (owner : ℕ)
    × ((cell_of t r.name).flight ≡ Some (Flight.Write driver owner op r)))
MaySend t (BaseMsg.Install e op k s) =
    (e ≡ t.net.cache_epoch)
    × ((call : Option ℕ) × (seq : ℕ) × (blocking : Bool) × (drain : Bool) × (r : TierRec)
    × ((cell_of t k).flight ≡ Some (Flight.Flush call op seq blocking drain))
    × ((cell_of t k).rec ≡ Some r) × (r.state ≡ s))

abbrev pub sent : BaseMsg → Tier → Tier
sent m t = with_net (record t.net { wire = m ∷ t.net.wire }) t

-- the base told what became of a write request: the work on the name ends
pub record MayLand (t : Tier) (k : Name) (driver : Option ℕ) (owner op : ℕ) (r : Req)
    (a : BaseActed) : Type 0 where
  pub flight : (cell_of t k).flight ≡ Some (Flight.Write driver owner op r)
  pub reply : IsIn (BaseReply.Wrote t.net.cache_epoch op a) t.net.replies

abbrev pub landed : Name → Tier → Tier
landed k t = with_flight k None t

-- The pair with this work, these messages and these replies.
abbrev pub with_left : Flights → List BaseMsg → List BaseReply → Tier → Tier
with_left flights wire replies t =
    record t { flights = flights; net = record t.net { wire = wire; replies = replies } }

-- What may go or change hands at any time: messages and replies are lost, or lie in another order;
-- calls end, and drop what they waited for, or leave it to another call.
pub record Loses (t u : Tier) : Type 0 where
  pub same : u ≡ with_left u.flights u.net.wire u.net.replies t
  pub flights : (n : Name) → IsLeftOf (cell_of t n).flight (cell_of u n).flight
  pub wire : AreIn u.net.wire t.net.wire
  pub replies : AreIn u.net.replies t.net.replies

-- ---- stops and starts

-- the cache stops: its work is forgotten, and it is down
abbrev pub stopped_cache : Tier → Tier
stopped_cache t =
    with_net (record t.net { phase = Phase.Down; fenced = false })
    (record t { flights = map.empty })

-- the base stops: what it has stays, but it has to be told the epoch anew
abbrev pub stopped_base : Tier → Tier
stopped_base t = with_net (record t.net { fenced = false }) t

-- the cache's epoch is raised to this one, and operations are counted anew
abbrev pub raised_to : ℕ → Tier → Tier
raised_to e t = with_net (record t.net {
  cache_epoch = e;
  next_opid = 1;
  phase = Phase.Raised;
  fenced = false;
}) t

-- to the epoch above those of both pools
abbrev pub raised : Tier → Tier
raised t = raised_to (max t.net.cache_epoch t.net.base_epoch + 1) t

pub record MayRaise (t : Tier) (e : ℕ) : Type 0 where
  pub stopped : t.net.phase ≢ Phase.Up
  pub later : t.net.cache_epoch < e
  pub above : t.net.base_epoch < e

-- the commit of an epoch is in doubt: if it was made, the cache has it, and is down
abbrev pub epoch_found : ℕ → Tier → Tier
epoch_found e t = with_net (record t.net { cache_epoch = e; phase = Phase.Down; fenced = false }) t

-- an epoch that was found there counts as the raise that was needed
abbrev pub counted_raised : Tier → Tier
counted_raised t = with_net (record t.net { next_opid = 1; phase = Phase.Raised; fenced = false }) t

pub record MayCount (t : Tier) : Type 0 where
  pub down : t.net.phase ≡ Phase.Down
  pub above : t.net.base_epoch < t.net.cache_epoch

-- the base tells that it holds the cache's epoch: the cache is up
pub record MayGoUp (net : Net) : Type 0 where
  pub raised : net.phase ≢ Phase.Down
  pub reply : IsIn (BaseReply.Fenced net.cache_epoch) net.replies

abbrev pub went_up : Tier → Tier
went_up t = with_net (record t.net { phase = Phase.Up; fenced = true }) t
