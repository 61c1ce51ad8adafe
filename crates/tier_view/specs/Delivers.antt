-- A Write reaches the base and acts: what each outcome of its commit makes of the group.
use Rattle.std.specs.Prelude.{◌≡◌, ℕ, ◌+◌, true, false, List, ◌∷◌, Option, Some, None, Ok, Err}
use Rattle.obj_model.specs.Names.{name_fault}
use Rattle.obj_model.specs.declared.change.Pool.TheVariants.{Base}
use Rattle.obj_model.specs.declared.reply.Reply.{Reply}
use Rattle.obj_model.specs.declared.req.Req.{Req}
use Rattle.obj_model.specs.declared.state.NameState.{NameState}
use Rattle.obj_ops.specs.Acts.{act}
use Rattle.obj_ops.specs.declared.request.Acted.TheVariants.{Fresh}
use Rattle.pool_keys.specs.Keys.{state_key}
use Rattle.rec_codec.specs.Spelling.{SpellsState}
use Rattle.store_face.specs.Calls.{Committed}
use Rattle.store_face.specs.Views.{StoreView}
use Rattle.store_face.specs.declared.fault.StoreFault.TheVariants.{Disk, BadImage, NoSpace, Worn, NoMemory}
use Rattle.tier_chron.specs.Laws.{MayAct}
use Rattle.tier_chron.specs.Logs.{acted_log, is_opened}
use Rattle.tier_chron.specs.declared.entries.Act.{Act}
use Rattle.tier_chron.specs.declared.entries.First.{First}
use Rattle.tier_join.specs.Steps.{HasState, IsOver, Outcome, sets}
use Rattle.tier_protocol.specs.Tiers.{BaseActed, BaseMsg, BaseReply, IsIn}
use Rattle.tier_view.specs.Stores.{Pending}
use Rattle.tier_view.specs.Traffic.{Owner, Sent, Traffic}
use Rattle.tier_view.specs.Views.{GroupView, calls_in, joined}

-- one more reply, to the message of this number
abbrev pub replied_now : (number : ℕ) → BaseReply → Traffic → Traffic
replied_now number reply t = record t {
  replies = record { number = t.next_reply; answers = number; reply = reply } ∷ t.replies;
  next_reply = t.next_reply + 1;
}

-- the group with this store of the base, and a doubt or none
abbrev pub with_base : StoreView → Option Pending → GroupView → GroupView
with_base s p v = record v { stores = record v.stores { base = s; pending = p } }

-- Made: the act enters the history, and the base replies. In doubt: the act is kept with it.
-- Without room: the base replies so. Else nothing.
abbrev pub acted_there : (number op : ℕ) → Option First → Act → (seq : ℕ) → StoreView → Outcome
    → GroupView → GroupView
acted_there number op first a seq s (Ok made) v = record (with_base s None v) {
  log = acted_log first a v.log;
  traffic = replied_now number
      (BaseReply.Wrote v.standing.base_epoch op (BaseActed.Fresh a.reply)) v.traffic;
}
acted_there number op first a seq s (Err Disk) v =
    with_base s (Some (Pending.Act Base first a seq)) v
acted_there number op first a seq s (Err (BadImage at)) v = with_base s None v
acted_there number op first a seq s (Err (NoSpace used need limit)) v =
    record (with_base s None v) {
      traffic = replied_now number
          (BaseReply.NoSpace v.standing.base_epoch op used need limit) v.traffic;
    }
acted_there number op first a seq s (Err (Worn limit)) v = with_base s None v
acted_there number op first a seq s (Err NoMemory) v = with_base s None v

-- the opening that goes with an act on a name whose state was read
abbrev pub IsFirstOf : List First → List ℕ → NameState → Option First → Type 0
IsFirstOf opening name s None = is_opened opening name ≡ true
IsFirstOf opening name s (Some f) =
    (is_opened opening name ≡ false) × (f.name ≡ name) × (f.state ≡ s)

-- the same of a name in the base, with a state that was read there
abbrev pub IsFirstThere : GroupView → List ℕ → Option First → Type 0
IsFirstThere v name None = is_opened v.log.opening name ≡ true
IsFirstThere v name (Some f) =
    (is_opened v.log.opening name ≡ false) × (f.name ≡ name) × HasState (joined v) name f.state

-- A Write of the base's epoch, which acts on the state that was read; its act is its owner's, who
-- may act. Where the store tells nothing, the opening may have been read as another state.
pub record ActsThere (v : GroupView) (m : Sent) (o : Owner) (op : ℕ) (r : Req) (s t : NameState)
    (answer : Reply) (first : Option First) : Type 0 where
  pub on : IsIn m v.traffic.messages
  pub message : m.message ≡ BaseMsg.Write v.standing.base_epoch op r
  pub owner : m.owner ≡ Some o
  pub has : HasState (joined v) r.name s
  pub acts : act s r ≡ Fresh t answer
  pub may : MayAct (calls_in v.calls.entries) v.log
      (record { call = o.call; line = o.line; req = r; reply = answer })
  pub opening : IsFirstThere v r.name first
  pub named : name_fault r.name ≡ None

-- the commit of that state
pub record CommitsThere (v : GroupView) (r : Req) (t : NameState) (bytes : List ℕ) (s : StoreView)
    (result : Outcome) : Type 0 where
  pub spelled : SpellsState bytes t
  pub over : IsOver result
  pub committed : Committed (sets (state_key r.name) (Some bytes)) v.stores.base s result
