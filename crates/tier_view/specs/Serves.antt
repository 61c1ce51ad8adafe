-- A message reaches the base: what each outcome makes of the group.
use Rattle.std.specs.Prelude.{◌≡◌, ◌⊎◌, ◌<◌, ℕ, ◌+◌, Bool, true, false, List, ◌∷◌, Option, Some, None, Ok}
use Rattle.obj_model.specs.Names.{name_fault}
use Rattle.obj_model.specs.declared.change.Change.{Change}
use Rattle.obj_model.specs.declared.change.Pool.TheVariants.{Base}
use Rattle.obj_model.specs.declared.reply.Reply.{Reply}
use Rattle.obj_model.specs.declared.req.Req.{Req}
use Rattle.obj_model.specs.declared.state.NameState.{NameState}
use Rattle.obj_ops.specs.Acts.{act}
use Rattle.obj_ops.specs.Stores.{Store}
use Rattle.obj_ops.specs.declared.request.Acted.TheVariants.{Fresh}
use Rattle.pool_keys.specs.Keys.{epoch_key, state_key}
use Rattle.pool_keys.specs.Values.{SpellsEpoch}
use Rattle.rec_codec.specs.Spelling.{SpellsState}
use Rattle.store_face.specs.Calls.{Fails, Made, MayBeMade, Stays}
use Rattle.store_face.specs.Views.{StoreView}
use Rattle.tier_chron.specs.Laws.{MayAct}
use Rattle.tier_chron.specs.declared.entries.First.{First}
use Rattle.tier_join.specs.Group.{BothTell}
use Rattle.tier_join.specs.Promises.{as_it_is}
use Rattle.tier_join.specs.Steps.{HasState, HasStateFor, act_of, sets}
use Rattle.tier_owners.specs.Calls.{is_write_message}
use Rattle.tier_protocol.specs.Tiers.{BaseActed, BaseMsg, BaseReply, IsIn, Name}
use Rattle.tier_types.specs.Serving.{Served, epoch_in, name_in, opid_in, served}
use Rattle.tier_view.specs.Delivers.{ActsThere, CommitsThere, acted_there, replied_now, with_base}
use Rattle.tier_view.specs.Laws.{Keeps}
use Rattle.tier_view.specs.Stores.{Pending}
use Rattle.tier_view.specs.Traffic.{Owner, Replied, Sent, Traffic}
use Rattle.tier_view.specs.Views.{GroupView, calls_in, joined}
use Rattle.tier_view.specs.Whole.{IsWhole}

-- ---- what the base makes of a message

-- the base has this state of the message's name, if it serves the message at all
abbrev pub ReadsThere : GroupView → BaseMsg → NameState → Type 0
ReadsThere v msg b = epoch_in msg ≡ v.standing.base_epoch → HasStateFor (joined v) (name_in msg) b

abbrev pub served_there : GroupView → NameState → BaseMsg → Served
served_there v b msg = served v.standing.base_epoch b msg

-- a message needs one change of the base's map: its name's state is put, or the epoch of a Fence
pub data NeedsChange (v : GroupView) (msg : BaseMsg) (b : NameState) (cs : List Change) : Type 0
  where
    puts : (k : Name) (t : NameState) (bytes : List ℕ) → name_in msg ≡ Some k
        → (served_there v b msg).put ≡ Some t → SpellsState bytes t → name_fault k ≡ None
        → cs ≡ sets (state_key k) (Some bytes) → NeedsChange v msg b cs
    rises : (e : ℕ) (bytes : List ℕ) → msg ≡ BaseMsg.Fence e → v.standing.base_epoch < e
        → SpellsEpoch bytes e → cs ≡ sets epoch_key (Some bytes) → NeedsChange v msg b cs

-- a message is answered by what was read, and changes nothing
pub record NeedsNone (v : GroupView) (msg : BaseMsg) (b : NameState) : Type 0 where
  pub put : (served_there v b msg).put ≡ None
  pub epoch : (served_there v b msg).epoch ≡ v.standing.base_epoch

-- ---- what comes of it

-- the base, at this epoch, replies to the message of this number, and nothing else comes of it
abbrev pub replied_there : (number : ℕ) → BaseReply → (epoch : ℕ) → StoreView → GroupView
    → GroupView
replied_there number reply epoch s v = record (with_base s None v) {
  traffic = replied_now number reply v.traffic;
  standing = record v.standing { base_epoch = epoch };
}

-- The base only answers: a reading, a request that acted before or is refused, an installation that
-- is behind, a Fence of the base's own epoch, a message of another epoch. The message stays on the
-- wire.
pub record OnlyAnswers (v : GroupView) (m : Sent) (b : NameState) (s : StoreView) : Type 0 where
  pub on : IsIn m v.traffic.messages
  pub reads : ReadsThere v m.message b
  pub none : NeedsNone v m.message b
  pub stays : Stays v.stores.base s

abbrev pub answered_there : Sent → NameState → StoreView → GroupView → GroupView
answered_there m b s v =
    replied_there m.number (served_there v b m.message).reply v.standing.base_epoch s v

-- the base commits a message that is no request: an installation, or a Fence of a greater epoch
pub record TakesThere (v : GroupView) (m : Sent) (b : NameState) (cs : List Change) (s : StoreView)
    : Type 0 where
  pub on : IsIn m v.traffic.messages
  pub reads : ReadsThere v m.message b
  pub no_request : is_write_message m.message ≡ false
  pub needs : NeedsChange v m.message b cs
  pub made : Made cs v.stores.base s

abbrev pub taken_there : Sent → NameState → StoreView → GroupView → GroupView
taken_there m b s v =
    replied_there m.number (served_there v b m.message).reply (served_there v b m.message).epoch s v

-- the commit that a message needs finds no room
pub record LacksRoomThere (v : GroupView) (m : Sent) (used need limit : ℕ) (s : StoreView) : Type 0
  where
    pub on : IsIn m v.traffic.messages
    pub over : limit < used + need
    pub stays : Stays v.stores.base s

abbrev pub refused_there : Sent → (used need limit : ℕ) → StoreView → GroupView → GroupView
refused_there m used need limit s v =
    replied_there m.number
    (BaseReply.NoSpace (epoch_in m.message) (opid_in m.message) used need limit)
    v.standing.base_epoch s v

-- A Write acts on the base, and the tables say that its owner may not act. Where both stores tell
-- this does not come (`OwnersMayAct`).
pub record StraysThere (v : GroupView) (m : Sent) (o : Owner) (op : ℕ) (r : Req) (b t : NameState)
    (answer : Reply) : Type 0 where
  pub on : IsIn m v.traffic.messages
  pub message : m.message ≡ BaseMsg.Write v.standing.base_epoch op r
  pub owner : m.owner ≡ Some o
  pub has : HasState (joined v) r.name b
  pub acts : act b r ≡ Fresh t answer
  pub stray : MayAct (calls_in v.calls.entries) v.log
      (record { call = o.call; line = o.line; req = r; reply = answer }) → ⊥

-- a message that reads
abbrev pub is_reading : BaseMsg → Bool
is_reading (BaseMsg.Fence e) = false
is_reading (BaseMsg.GetChunk e op k at) = true
is_reading (BaseMsg.Look e op k w) = true
is_reading (BaseMsg.Write e op r) = false
is_reading (BaseMsg.Install e op k t) = false

-- What is in doubt where the disk fails over a message. Of a Write it is the owner's act, by the
-- state that was read of its name before; of an installation its name, and of a Fence of a greater
-- epoch that. Nothing is where the message reads, or needs no commit by what was read.
pub data IsInDoubt (v : GroupView) (m : Sent) (b : NameState) (p : Option Pending) : Type 0 where
  act_doubt : (o : Owner) (op : ℕ) (r : Req) (t : NameState) (answer : Reply) (first : Option First)
      → ActsThere v m o op r b t answer first
      → p ≡ Some (Pending.Act Base first
      (record { call = o.call; line = o.line; req = r; reply = answer }) t.seq)
      → IsInDoubt v m b p
  put_doubt : (e op : ℕ) (k : Name) (t : NameState) → m.message ≡ BaseMsg.Install e op k t
      → p ≡ Some (Pending.Plain Base k) → IsInDoubt v m b p
  rise_doubt : (e : ℕ) → m.message ≡ BaseMsg.Fence e → v.standing.base_epoch < e
      → p ≡ Some (Pending.Epoch Base e) → IsInDoubt v m b p
  no_doubt : ReadsThere v m.message b → NeedsNone v m.message b → p ≡ None → IsInDoubt v m b p
  reading_doubt : is_reading m.message ≡ true → p ≡ None → IsInDoubt v m b p
  stray_doubt : (o : Owner) (op : ℕ) (r : Req) (t : NameState) (answer : Reply)
      → StraysThere v m o op r b t answer → p ≡ None → IsInDoubt v m b p

-- The disk failed in the commit that the message needs, which was made or not. A store that tells
-- nothing may have been read as another state there.
pub record Tears (v : GroupView) (m : Sent) (s : StoreView) : Type 0 where
  pub state : NameState
  pub reads : ReadsThere v m.message state
  pub changes : List Change
  pub needs : NeedsChange v m.message state changes
  pub made : MayBeMade changes v.stores.base s

-- The disk failed before the commit, or in it; who called is not told which. What would be in doubt
-- is taken to be.
pub record FailsThere (v : GroupView) (m : Sent) (b : NameState) (s : StoreView)
    (p : Option Pending) : Type 0 where
  pub on : IsIn m v.traffic.messages
  pub doubt : IsInDoubt v m b p
  pub fails : Fails v.stores.base s
  pub maps : (s.moments ≡ v.stores.base.moments) ⊎ Tears v m s

-- ---- the laws

-- Where both stores tell and nothing is in doubt, the owner of a Write that acts may act.
abbrev pub OwnersMayAct : Type 0
OwnersMayAct =
    (v : GroupView) (m : Sent) (o : Owner) (op : ℕ) (r : Req) (b t : NameState) (answer : Reply)
    → IsWhole v → v.stores.pending ≡ None → BothTell (joined v) → IsIn m v.traffic.messages
    → m.message ≡ BaseMsg.Write v.standing.base_epoch op r → m.owner ≡ Some o
    → HasState (joined v) r.name b → act b r ≡ Fresh t answer
    → MayAct (calls_in v.calls.entries) v.log
    (record { call = o.call; line = o.line; req = r; reply = answer })

abbrev pub AnsweringThereKeeps : Type 0
AnsweringThereKeeps =
    (v : GroupView) (m : Sent) (b : NameState) (s : StoreView) → IsWhole v
    → v.stores.pending ≡ None → OnlyAnswers v m b s
    → Keeps as_it_is None v (answered_there m b s v)

abbrev pub TakingThereKeeps : Type 0
TakingThereKeeps =
    (v : GroupView) (m : Sent) (b : NameState) (cs : List Change) (s : StoreView) → IsWhole v
    → v.stores.pending ≡ None → TakesThere v m b cs s
    → Keeps as_it_is None v (taken_there m b s v)

-- such a Write is no act of the history, over stores that do not both tell
abbrev pub StrayingThereKeeps : Type 0
StrayingThereKeeps =
    (v : GroupView) (m : Sent) (o : Owner) (op : ℕ) (r : Req) (b t : NameState) (answer : Reply)
    (bytes : List ℕ) (s : StoreView) → IsWhole v → v.stores.pending ≡ None
    → StraysThere v m o op r b t answer → CommitsThere v r t bytes s (Ok tt)
    → Keeps as_it_is None v
    (replied_there m.number (BaseReply.Wrote v.standing.base_epoch op (BaseActed.Fresh answer))
    v.standing.base_epoch s v)

abbrev pub LackingThereKeeps : Type 0
LackingThereKeeps =
    (v : GroupView) (m : Sent) (used need limit : ℕ) (s : StoreView) → IsWhole v
    → v.stores.pending ≡ None → LacksRoomThere v m used need limit s
    → Keeps as_it_is None v (refused_there m used need limit s v)

abbrev pub FailingThereKeeps : Type 0
FailingThereKeeps =
    (v : GroupView) (m : Sent) (b : NameState) (s : StoreView) (p : Option Pending) → IsWhole v
    → v.stores.pending ≡ None → FailsThere v m b s p
    → Keeps (act_of m.message) None v (with_base s p v)

-- no map changes and no doubt comes: the base was only read, or there was not the memory, or it is
-- worn out, or a value spells nothing; its disk may have failed in the reading
pub record LeavesBase (v : GroupView) (s : StoreView) : Type 0 where
  pub moments : s.moments ≡ v.stores.base.moments
  pub later : Stays v.stores.base s ⊎ Fails v.stores.base s

abbrev pub LeavingBaseKeeps : Type 0
LeavingBaseKeeps =
    (v : GroupView) (s : StoreView) → IsWhole v → v.stores.pending ≡ None → LeavesBase v s
    → Keeps as_it_is None v (with_base s None v)

-- a step without an act may be counted as one with any
abbrev pub ActlessKeeps : Type 0
ActlessKeeps =
    (other : Store → Store) (v w : GroupView) → Keeps as_it_is None v w → Keeps other None v w

-- ---- all outcomes of one message

-- what came of a message, and what the base replied, if it did
pub data Delivers (m : Sent) (told : Option BaseReply) (v w : GroupView) : Type 0 where
  only_answers : (b : NameState) (s : StoreView) → OnlyAnswers v m b s
      → told ≡ Some (served_there v b m.message).reply → w ≡ answered_there m b s v
      → Delivers m told v w
  takes : (b : NameState) (cs : List Change) (s : StoreView) → TakesThere v m b cs s
      → told ≡ Some (served_there v b m.message).reply → w ≡ taken_there m b s v
      → Delivers m told v w
  acts : (o : Owner) (op : ℕ) (r : Req) (b t : NameState) (answer : Reply) (first : Option First)
      (bytes : List ℕ) (s : StoreView) → ActsThere v m o op r b t answer first
      → CommitsThere v r t bytes s (Ok tt)
      → told ≡ Some (BaseReply.Wrote v.standing.base_epoch op (BaseActed.Fresh answer))
      → w ≡ acted_there m.number op first
      (record { call = o.call; line = o.line; req = r; reply = answer }) t.seq s (Ok tt) v
      → Delivers m told v w
  strays : (o : Owner) (op : ℕ) (r : Req) (b t : NameState) (answer : Reply) (bytes : List ℕ)
      (s : StoreView) → StraysThere v m o op r b t answer → CommitsThere v r t bytes s (Ok tt)
      → told ≡ Some (BaseReply.Wrote v.standing.base_epoch op (BaseActed.Fresh answer))
      → w ≡ replied_there m.number
      (BaseReply.Wrote v.standing.base_epoch op (BaseActed.Fresh answer)) v.standing.base_epoch s v
      → Delivers m told v w
  lacks_room : (used need limit : ℕ) (s : StoreView) → LacksRoomThere v m used need limit s
      → told ≡ Some (BaseReply.NoSpace (epoch_in m.message) (opid_in m.message) used need limit)
      → w ≡ refused_there m used need limit s v → Delivers m told v w
  fails : (b : NameState) (s : StoreView) (p : Option Pending) → FailsThere v m b s p
      → told ≡ None → w ≡ with_base s p v → Delivers m told v w
  leaves : (s : StoreView) → LeavesBase v s → told ≡ None → w ≡ with_base s None v
      → Delivers m told v w

abbrev pub DeliveringKeeps : Type 0
DeliveringKeeps =
    (v w : GroupView) (m : Sent) (told : Option BaseReply) → IsWhole v → v.stores.pending ≡ None
    → Delivers m told v w → Keeps (act_of m.message) None v w

-- ---- what stays

-- the replies, with one to this message more where one was told
abbrev pub replies_with : (number : ℕ) → Option BaseReply → Traffic → List Replied
replies_with number None t = t.replies
replies_with number (Some reply) t =
    record { number = t.next_reply; answers = number; reply = reply } ∷ t.replies

-- A message that reached the base is on the wire still, and one reply to it came, or none. No work
-- comes or goes, no call is entered or ends, nothing is answered, and the cache is as it was.
pub record LeavesRest (m : Sent) (told : Option BaseReply) (v w : GroupView) : Type 0 where
  pub messages : w.traffic.messages ≡ v.traffic.messages
  pub replies : w.traffic.replies ≡ replies_with m.number told v.traffic
  pub flights : w.traffic.flights ≡ v.traffic.flights
  pub calls : w.calls ≡ v.calls
  pub answers : w.log.answers ≡ v.log.answers
  pub cache : w.stores.cache ≡ v.stores.cache
  pub agent : w.agent ≡ v.agent

abbrev pub DeliveringLeavesRest : Type 0
DeliveringLeavesRest =
    (v w : GroupView) (m : Sent) (told : Option BaseReply) → Delivers m told v w
    → LeavesRest m told v w

-- a Write that acts is not answered alone
abbrev pub ActsAreNotAnswersAlone : Type 0
ActsAreNotAnswersAlone =
    (v : GroupView) (m : Sent) (b t : NameState) (op : ℕ) (r : Req) (answer : Reply)
    (s : StoreView) → OnlyAnswers v m b s
    → m.message ≡ BaseMsg.Write v.standing.base_epoch op r → act b r ≡ Fresh t answer → ⊥
