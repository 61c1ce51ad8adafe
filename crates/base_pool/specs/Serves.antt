-- What a base answers to a message, and what it makes of its map.
use Rattle.std.specs.Prelude.{◌≡◌, ◌≢◌, ◌⊎◌, ◌≤◌, ◌<◌, ℕ, ◌==◌, Bool, true, false, not, nat_lt, List, [], ◌∷◌, ◌++◌, Option, Some, None, is_some, Result, Ok, Err, if◌then◌else◌}
use Rattle.std.specs.List.{list_any}
use Rattle.std.specs.FinMap as fin
use Rattle.byteorder.specs.Endian.{big_bytes}
use Rattle.obj_model.specs.Limits.{number_limit, client_limit}
use Rattle.obj_model.specs.States.{IsState}
use Rattle.obj_model.specs.SubOps.{is_write}
use Rattle.obj_model.specs.declared.change.Change.{Change}
use Rattle.obj_model.specs.declared.change.Change.TheVariants.{Put}
use Rattle.obj_model.specs.declared.req.Req.{Req}
use Rattle.obj_model.specs.declared.state.NameState.{NameState}
use Rattle.rec_codec.specs.Spelling.{SpellsState, state_bytes}
use Rattle.store_face.specs.Calls.{Fails, Made, MayBeMade, Stays}
use Rattle.store_face.specs.Limits.{generation_limit}
use Rattle.store_face.specs.Rooms.{IsWornOut, Lack}
use Rattle.store_face.specs.Tables.{Table}
use Rattle.store_face.specs.Views.{Holds, Lacks, StoreView}
use Rattle.store_face.specs.declared.fault.StoreFault.{StoreFault}
use Rattle.store_face.specs.declared.fault.StoreFault.TheVariants as store
use Rattle.tier_types.specs.Serving.{epoch_in, name_in, opid_in, served}
use Rattle.tier_types.specs.declared.message.BaseMsg.{BaseMsg}
use Rattle.tier_types.specs.declared.message.BaseReply.{BaseReply}
use Rattle.pool_keys.specs.Keys.{epoch_key, state_key}
use Rattle.base_pool.specs.Views.{BaseView, Has}
use Rattle.base_pool.specs.declared.fault.BaseFault.{BaseFault}
use Rattle.base_pool.specs.declared.fault.BaseFault.TheVariants.{Store, BadRecord}

-- a request that writes, with a client and a tid within their limits
pub record IsWriteReq (r : Req) : Type 0 where
  pub writes : list_any is_write r.vector ≡ true
  pub client_low : 1 ≤ r.client
  pub client_high : r.client ≤ client_limit
  pub tid : r.tid ≤ number_limit

-- a message that can be served: its reading reads, its request writes, its state is within its
-- limits
abbrev pub IsMsg : BaseMsg → Type 0
IsMsg (BaseMsg.Fence e) = Unit {0}
IsMsg (BaseMsg.GetChunk e op name at) = Unit {0}
IsMsg (BaseMsg.Look e op name v) = list_any is_write v ≡ false
IsMsg (BaseMsg.Write e op r) = IsWriteReq r
IsMsg (BaseMsg.Install e op name s) = IsState s

-- the base serves a message of its own epoch, and a Fence of no lower one
abbrev pub is_taken : ℕ → BaseMsg → Bool
is_taken have (BaseMsg.Fence e) = not (nat_lt e have)
is_taken have (BaseMsg.GetChunk e op name at) = e == have
is_taken have (BaseMsg.Look e op name v) = e == have
is_taken have (BaseMsg.Write e op r) = e == have
is_taken have (BaseMsg.Install e op name s) = e == have

-- the map has this state of the message's name; a Fence is about none
abbrev pub HasFor : BaseMsg → NameState → Table → Type 0
HasFor msg s t = elim (name_in msg) [ None ↦ Unit {0} | Some name ↦ Has name s t ]

-- the epoch that is put, where it rises
abbrev pub epoch_put : (have epoch : ℕ) → List Change
epoch_put have epoch = if nat_lt have epoch then Put epoch_key (big_bytes 8 epoch) ∷ [] else []

-- the state that is put, where one is
abbrev pub state_put : Option (List ℕ) → Option NameState → List Change
state_put None put = []
state_put (Some name) None = []
state_put (Some name) (Some s) = Put (state_key name) (state_bytes s) ∷ []

-- what a message changes of a base at this epoch with this state of its name: at most one key, that
-- of the epoch or that of the name's state
abbrev pub changes_by : (have : ℕ) → NameState → BaseMsg → List Change
changes_by have s msg =
    epoch_put have (served have s msg).epoch ++ state_put (name_in msg) (served have s msg).put

-- nothing changed where there is no change, not even a moment came; else they were made by one
-- commit
abbrev pub Makes : List Change → StoreView → StoreView → Type 0
Makes [] old new = Stays old new
Makes (c ∷ cs) old new = Made (c ∷ cs) old new

-- nothing changed but the count of faults, which never falls
pub record StaysBase (old new : BaseView) : Type 0 where
  pub store : Stays old.store new.store
  pub epoch : new.epoch ≡ old.epoch
  pub opened : new.opened ≡ old.opened

-- a message is answered on this state: where it is taken, the map has it of the message's name
pub record IsOn (msg : BaseMsg) (old : BaseView) (s : NameState) : Type 0 where
  pub lawful : IsState s
  pub read : is_taken old.epoch msg ≡ true → Holds old.store (HasFor msg s)

-- a state that is put has a spelling, and it is that which is put
abbrev pub IsSpelled : Option NameState → Type 0
IsSpelled None = Unit {0}
IsSpelled (Some s) = SpellsState (state_bytes s) s

-- a message was answered: the reply, the epoch and the changes are what serving it makes
pub record Answers (msg : BaseMsg) (old new : BaseView) (reply : BaseReply) : Type 0 where
  pub state : NameState
  pub on : IsOn msg old state
  pub told : reply ≡ (served old.epoch state msg).reply
  pub epoch : new.epoch ≡ (served old.epoch state msg).epoch
  pub low : old.epoch ≤ number_limit → new.epoch ≤ number_limit
  pub spelled : IsSpelled (served old.epoch state msg).put
  pub makes : Makes (changes_by old.epoch state msg) old.store new.store
  pub opened : new.opened ≡ old.opened

-- a message that is taken needs a commit
pub record Commits (msg : BaseMsg) (old : BaseView) (s : NameState) : Type 0 where
  pub taken : is_taken old.epoch msg ≡ true
  pub on : IsOn msg old s
  pub low : (served old.epoch s msg).epoch ≤ number_limit
  pub spelled : IsSpelled (served old.epoch s msg).put
  pub some : changes_by old.epoch s msg ≢ []

-- the commit that a message needed found no room
pub record LacksRoom (msg : BaseMsg) (old new : BaseView) (e op : ℕ) (lack : Lack) : Type 0 where
  pub state : NameState
  pub commits : Commits msg old state
  pub lacks : Lacks old.store (changes_by old.epoch state msg) (Some lack)
  pub epoch_is : e ≡ epoch_in msg
  pub opid_is : op ≡ opid_in msg
  pub stays : StaysBase old new

-- what is replied: want of room exactly where the commit that the message needed lacked it
abbrev pub Replies : BaseMsg → BaseView → BaseView → BaseReply → Type 0
Replies msg old new (BaseReply.Fenced e) = Answers msg old new (BaseReply.Fenced e)
Replies msg old new (BaseReply.Chunk e op chunk) = Answers msg old new (BaseReply.Chunk e op chunk)
Replies msg old new (BaseReply.Looked e op looked) =
    Answers msg old new (BaseReply.Looked e op looked)
Replies msg old new (BaseReply.Wrote e op acted) = Answers msg old new (BaseReply.Wrote e op acted)
Replies msg old new (BaseReply.Installed e op seq) =
    Answers msg old new (BaseReply.Installed e op seq)
Replies msg old new (BaseReply.NoSpace e op used need limit) =
    LacksRoom msg old new e op (record { used = used; need = need; limit = limit })
Replies msg old new (BaseReply.OldEpoch have got) =
    Answers msg old new (BaseReply.OldEpoch have got)
Replies msg old new (BaseReply.NotFenced have got) =
    Answers msg old new (BaseReply.NotFenced have got)

-- ---- faults

-- the disk failed: the store is not live, and the base's memory is as it was
pub record FailsBase (old new : BaseView) : Type 0 where
  pub fails : Fails old.store new.store
  pub epoch : new.epoch ≡ old.epoch
  pub opened : new.opened ≡ old.opened

-- the disk failed when the state of the message's name was read
pub record FailsReading (msg : BaseMsg) (old new : BaseView) : Type 0 where
  pub taken : is_taken old.epoch msg ≡ true
  pub named : is_some (name_in msg) ≡ true
  pub same : new.store.moments ≡ old.store.moments
  pub fails : FailsBase old new

-- the disk failed in the commit that the message needed: it was made or not
pub record FailsCommit (msg : BaseMsg) (old new : BaseView) : Type 0 where
  pub state : NameState
  pub commits : Commits msg old state
  pub made : MayBeMade (changes_by old.epoch state msg) old.store new.store
  pub fails : FailsBase old new

-- the store is worn out, which the commit that the message needed told
pub record WearsStore (msg : BaseMsg) (old new : BaseView) (limit : ℕ) : Type 0 where
  pub state : NameState
  pub commits : Commits msg old state
  pub fits : Lacks old.store (changes_by old.epoch state msg) None
  pub worn : IsWornOut old.store.room old.store.used
  pub limit_is : limit ≡ generation_limit
  pub stays : StaysBase old new

-- a Fence has an epoch above the greatest one
pub record WearsEpoch (msg : BaseMsg) (old new : BaseView) (limit : ℕ) : Type 0 where
  pub taken : is_taken old.epoch msg ≡ true
  pub fence : msg ≡ BaseMsg.Fence (epoch_in msg)
  pub high : number_limit < epoch_in msg
  pub limit_is : limit ≡ number_limit
  pub stays : StaysBase old new

-- there was not the memory to serve the message; a refusal takes none
pub record LacksMemory (msg : BaseMsg) (old new : BaseView) : Type 0 where
  pub taken : is_taken old.epoch msg ≡ true
  pub stays : StaysBase old new

-- why a message was not answered
abbrev pub Faults : BaseMsg → BaseView → BaseView → StoreFault → Type 0
Faults msg old new store.Disk = FailsReading msg old new ⊎ FailsCommit msg old new
Faults msg old new (store.BadImage at) = ⊥
Faults msg old new (store.NoSpace used need limit) = ⊥
Faults msg old new (store.Worn limit) = WearsEpoch msg old new limit ⊎ WearsStore msg old new limit
Faults msg old new store.NoMemory = LacksMemory msg old new

-- the value that the map has for a name spells no state
pub record IsUnreadable (name : List ℕ) (t : Table) : Type 0 where
  pub bytes : List ℕ
  pub there : fin.get t (state_key name) ≡ Some bytes
  pub none : (s : NameState) → SpellsState bytes s → ⊥

-- the value of the message's name, which was read in this call, spells nothing
pub record IsDamaged (msg : BaseMsg) (old new : BaseView) (name : List ℕ) : Type 0 where
  pub taken : is_taken old.epoch msg ≡ true
  pub named : name_in msg ≡ Some name
  pub unreadable : Holds old.store (IsUnreadable name)
  pub stays : StaysBase old new

-- a message is answered, or not
abbrev pub Serves : BaseMsg → BaseView → BaseView → Result BaseReply BaseFault → Type 0
Serves msg old new (Ok reply) = Replies msg old new reply
Serves msg old new (Err (Store fault)) = Faults msg old new fault
Serves msg old new (Err (BadRecord name)) = IsDamaged msg old new name
