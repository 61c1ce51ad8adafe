-- What the base does with one message: its epoch then, the state that it puts, and its reply.
use Rattle.std.specs.Prelude.{ℕ, List, Option, Some, None, if◌then◌else◌, nat_lt}
use Rattle.obj_model.specs.declared.state.NameState.{NameState}
use Rattle.obj_ops.specs.declared.request.Acted.{Acted}
use Rattle.obj_ops.specs.declared.request.Acted.TheVariants.{Fresh, Again, Stale, Worn}
use Rattle.obj_ops.specs.Acts.{act, look}
use Rattle.copy_chunk.specs.Chunks.{chunk_at, chunks_of}
pub use Rattle.tier_types.specs.declared.message.BaseMsg.{BaseMsg}
pub use Rattle.tier_types.specs.declared.message.BaseReply.{BaseReply}
pub use Rattle.tier_types.specs.declared.message.BaseActed.{BaseActed}

-- the name that a message is about; a Fence is about none
abbrev pub name_in : BaseMsg → Option (List ℕ)
name_in (BaseMsg.Fence e) = None
name_in (BaseMsg.GetChunk e op name at) = Some name
name_in (BaseMsg.Look e op name v) = Some name
name_in (BaseMsg.Write e op r) = Some r.name
name_in (BaseMsg.Install e op name s) = Some name

-- the epoch of a message
abbrev pub epoch_in : BaseMsg → ℕ
epoch_in (BaseMsg.Fence e) = e
epoch_in (BaseMsg.GetChunk e op name at) = e
epoch_in (BaseMsg.Look e op name v) = e
epoch_in (BaseMsg.Write e op r) = e
epoch_in (BaseMsg.Install e op name s) = e

-- the operation's number in a message; a Fence has 0
abbrev pub opid_in : BaseMsg → ℕ
opid_in (BaseMsg.Fence e) = 0
opid_in (BaseMsg.GetChunk e op name at) = op
opid_in (BaseMsg.Look e op name v) = op
opid_in (BaseMsg.Write e op r) = op
opid_in (BaseMsg.Install e op name s) = op

-- the state that a request leaves, where it acted
abbrev pub put_by : Acted → Option NameState
put_by (Fresh s reply) = Some s
put_by (Again reply) = None
put_by (Stale kept) = None
put_by (Worn limit) = None

-- what is told of a request
abbrev pub told_of : Acted → BaseActed
told_of (Fresh s reply) = BaseActed.Fresh reply
told_of (Again reply) = BaseActed.Again reply
told_of (Stale kept) = BaseActed.Stale kept
told_of (Worn limit) = BaseActed.Worn limit

-- What was told of a request as it stands from then on: one that acted would be answered again.
-- No such answer says that the request would act.
abbrev pub lasting : BaseActed → Acted
lasting (BaseActed.Fresh reply) = Again reply
lasting (BaseActed.Again reply) = Again reply
lasting (BaseActed.Stale kept) = Stale kept
lasting (BaseActed.Worn limit) = Worn limit

-- what the base makes of a message
pub record Served : Type 0 where
  pub epoch : ℕ
  pub put : Option NameState
  pub reply : BaseReply

-- it replies, and puts nothing
abbrev pub replies : ℕ → BaseReply → Served
replies have reply = record { epoch = have; put = None; reply = reply }

-- a message of the base's own epoch is served; one of a lower epoch, or of one that the base was
-- not
-- told of, is refused
abbrev pub in_epoch : (have got : ℕ) → Served → Served
in_epoch have got done =
    if nat_lt got have then replies have (BaseReply.OldEpoch have got)
    else if nat_lt have got then replies have (BaseReply.NotFenced have got)
    else done

-- What a base at this epoch, with this state of the message's name, makes of the message. A Fence
-- of
-- no lower epoch is taken; a state is installed over one that has had fewer requests.
abbrev pub served : (have : ℕ) → NameState → BaseMsg → Served
served have s (BaseMsg.Fence e) =
    if nat_lt e have then replies have (BaseReply.OldEpoch have e)
    else replies e (BaseReply.Fenced e)
served have s (BaseMsg.GetChunk e op name at) =
    in_epoch have e (replies have (BaseReply.Chunk e op (chunk_at (chunks_of s) at)))
served have s (BaseMsg.Look e op name v) =
    in_epoch have e (replies have (BaseReply.Looked e op (look s v)))
served have s (BaseMsg.Write e op r) =
    in_epoch have e (record {
      epoch = have;
      put = put_by (act s r);
      reply = BaseReply.Wrote e op (told_of (act s r));
    })
served have s (BaseMsg.Install e op name t) =
    in_epoch have e (record {
      epoch = have;
      put = if nat_lt s.seq t.seq then Some t else None;
      reply = BaseReply.Installed e op t.seq;
    })
