-- Messages of the base's own epoch, and those that read alone.
use Rattle.std.proofs.Common.{◌≡◌, ◌≢◌, ◌⊎◌, inl, inr, ◌≤◌, ℕ, Bool, true, false, cond, List, [], ◌∷◌, ◌++◌, Option, None, Some, Result, Ok, Err, refl, sym, ap, subst, ◌∙◌, arith}
use Rattle.std.specs.Prelude.{is_some, nat_lt, ◌==◌}
use Rattle.std.proofs.lemmas.Bool.{eq-eqb, le-ltb}
use Rattle.byteorder.specs.Endian.{big_bytes}
use Rattle.obj_model.specs.States.{IsState}
use Rattle.obj_model.specs.declared.change.Change.{Change}
use Rattle.obj_model.specs.declared.change.Change.TheVariants.{Put}
use Rattle.obj_model.specs.declared.state.NameState.{NameState}
use Rattle.obj_model.specs.declared.sub_op.SubOp.{SubOp}
use Rattle.obj_ops.specs.Acts.{look}
use Rattle.obj_ops.specs.declared.reading.Looked.{Looked}
use Rattle.copy_chunk.specs.Chunks.{chunk_at, chunks_of}
use Rattle.copy_chunk.specs.declared.chunk.Chunk.{Chunk}
use Rattle.copy_chunk.specs.declared.chunk.Cursor.{Cursor}
use Rattle.pool_keys.specs.Keys.{epoch_key, state_key}
use Rattle.rec_codec.specs.Spelling.{state_bytes}
use Rattle.store_face.specs.Calls.{Committed, MayBeMade, Stays}
use Rattle.store_face.specs.Rooms.{Lack}
use Rattle.store_face.specs.Views.{Holds, Lacks, StoreView}
use Rattle.store_face.specs.declared.fault.StoreFault.{StoreFault}
use Rattle.store_face.specs.declared.fault.StoreFault.TheVariants as store
use Rattle.tier_types.specs.Serving.{Served, epoch_in, in_epoch, name_in, opid_in, replies, served}
use Rattle.tier_types.specs.declared.message.BaseMsg.{BaseMsg}
use Rattle.tier_types.specs.declared.message.BaseReply.{BaseReply}
use Rattle.base_pool.specs.Serves.{Answers, Commits, HasFor, IsSpelled, IsUnreadable, Makes, Serves, changes_by, epoch_put, is_taken, state_put}
use Rattle.base_pool.specs.Steps.{IsKept, Recalls, base_of, refused_by}
use Rattle.base_pool.specs.Views.{Has}
use Rattle.base_pool.specs.declared.fault.BaseFault.{BaseFault}
use Rattle.base_pool.specs.declared.fault.BaseFault.TheVariants.{Store, BadRecord}
use Rattle.base_pool.specs.declared.kept.Kept.{Kept}
use Rattle.store_face.proofs.Later.{holds_on}

-- ---- the base's own epoch

pub not_below : (have : ℕ) → nat_lt have have ≡ false
not_below have = le-ltb have have (omega arith)

-- a message of the base's own epoch is served
pub own_epoch : (have : ℕ) (x : Served) → in_epoch have have x ≡ x
own_epoch have x = ap (λ b. cond b (replies have (BaseReply.OldEpoch have have)) (cond b (replies have (BaseReply.NotFenced have have)) x)) (not_below have)

pub own_taken : (have : ℕ) → (have == have) ≡ true
own_taken have = eq-eqb have have refl

pub no_raise : (have : ℕ) → epoch_put have have ≡ []
no_raise have = ap (λ b. cond b (Put epoch_key (big_bytes 8 have) ∷ []) []) (not_below have)

-- what a message of the base's own epoch changes
pub own_changes : (msg : BaseMsg) (have : ℕ) (s : NameState) (put : Option NameState) (reply : BaseReply)
    → served have s msg ≡ record { epoch = have; put = put; reply = reply } → changes_by have s msg ≡ state_put (name_in msg) put
own_changes msg have s put reply e =
    ap (λ (x : Served). epoch_put have x.epoch ++ state_put (name_in msg) x.put) e ∙ ap (λ cs. cs ++ state_put (name_in msg) put) (no_raise have)

-- such a message is answered
pub own_answers : (msg : BaseMsg) (have : ℕ) (o : Bool) (a b : StoreView) (s : NameState) (put : Option NameState) (reply : BaseReply)
    → served have s msg ≡ record { epoch = have; put = put; reply = reply } → IsState s → Holds a (HasFor msg s) → IsSpelled put → Makes (state_put (name_in msg) put) a b
    → Answers msg (base_of a have o) (base_of b have o) reply
own_answers msg have o a b s put reply e lawful has spelled makes = record {
  state = s;
  on = record { lawful = lawful; read = λ _. has };
  told = ap (λ (x : Served). x.reply) (sym e);
  epoch = ap (λ (x : Served). x.epoch) (sym e);
  low = λ low. low;
  spelled = subst (λ (x : Served). IsSpelled x.put) (sym e) spelled;
  makes = subst (λ cs. Makes cs a b) (sym (own_changes msg have s put reply e)) makes;
  opened = refl;
}

-- ---- what was read

-- the state of its name could not be read
pub own_failed : (msg : BaseMsg) (have : ℕ) (o : Bool) (a b : StoreView) (name : List ℕ) (fault : BaseFault) → is_taken have msg ≡ true → name_in msg ≡ Some name
    → Recalls name a b (Err fault) → Serves msg (base_of a have o) (base_of b have o) (Err fault)
own_failed msg have o a b name (Store store.Disk) taken named h =
    inl (record { taken = taken; named = ap is_some named; same = h.1; fails = record { fails = h.0; epoch = refl; opened = refl } })
own_failed msg have o a b name (Store (store.BadImage at)) taken named h = absurd h
own_failed msg have o a b name (Store (store.NoSpace used need limit)) taken named h = absurd h
own_failed msg have o a b name (Store (store.Worn limit)) taken named h = absurd h
own_failed msg have o a b name (Store store.NoMemory) taken named h =
    record { taken = taken; stays = record { store = h; epoch = refl; opened = refl } }
own_failed msg have o a b name (BadRecord other) taken named h = record {
  taken = taken;
  named = named ∙ ap Some (sym h.0);
  unreadable = subst (λ n. Holds a (IsUnreadable n)) (sym h.0) h.1;
  stays = record { store = h.2; epoch = refl; opened = refl };
}

-- a state that was read is the map's still
pub kept_on : (name : List ℕ) (a b : StoreView) (k : Kept) → Recalls name a b (Ok k) → IsKept b (Some k)
kept_on name a b k h = (h.1, holds_on a b (Has k.name k.state) h.3 (subst (λ n. Holds a (Has n k.state)) (sym h.0) h.2))

-- and so is one that gave a chunk
pub kept_given : (name : List ℕ) (a b : StoreView) (k : Kept) (s : NameState) → Recalls name a b (Ok k) → s ≡ k.state
    → IsKept b (Some (record { name = k.name; state = s }))
kept_given name a b k s h e = subst (λ (t : NameState). IsKept b (Some (record { name = k.name; state = t }))) (sym e) (kept_on name a b k h)

-- want of memory changes nothing
pub no_memory_then : (msg : BaseMsg) (have : ℕ) (o : Bool) (a b : StoreView) (name : List ℕ) (k : Kept) → is_taken have msg ≡ true → Recalls name a b (Ok k)
    → Serves msg (base_of a have o) (base_of b have o) (Err (Store store.NoMemory))
no_memory_then msg have o a b name k taken h = record { taken = taken; stays = record { store = h.3; epoch = refl; opened = refl } }

-- ---- chunks

pub chunk_given : (have op : ℕ) (name : List ℕ) (at : Cursor) (chunk : Option Chunk) (o : Bool) (a b : StoreView) (k : Kept) → Recalls name a b (Ok k)
    → chunk ≡ chunk_at (chunks_of k.state) at
    → Serves (BaseMsg.GetChunk have op name at) (base_of a have o) (base_of b have o) (Ok (BaseReply.Chunk have op chunk))
chunk_given have op name at chunk o a b k h e =
    own_answers (BaseMsg.GetChunk have op name at) have o a b k.state None (BaseReply.Chunk have op chunk)
    (own_epoch have (replies have (BaseReply.Chunk have op (chunk_at (chunks_of k.state) at))) ∙ ap (λ x. replies have (BaseReply.Chunk have op x)) (sym e))
    h.1 h.2 tt h.3

pub chunk_failed : (have op : ℕ) (name : List ℕ) (at : Cursor) (o : Bool) (a b : StoreView) (fault : BaseFault) → Recalls name a b (Err fault)
    → Serves (BaseMsg.GetChunk have op name at) (base_of a have o) (base_of b have o) (Err fault)
chunk_failed have op name at o a b fault h = own_failed (BaseMsg.GetChunk have op name at) have o a b name fault (own_taken have) refl h

-- ---- readings

pub look_given : (have op : ℕ) (name : List ℕ) (v : List SubOp) (looked : Looked) (o : Bool) (a b : StoreView) (k : Kept) → Recalls name a b (Ok k)
    → looked ≡ look k.state v → Serves (BaseMsg.Look have op name v) (base_of a have o) (base_of b have o) (Ok (BaseReply.Looked have op looked))
look_given have op name v looked o a b k h e =
    own_answers (BaseMsg.Look have op name v) have o a b k.state None (BaseReply.Looked have op looked)
    (own_epoch have (replies have (BaseReply.Looked have op (look k.state v))) ∙ ap (λ x. replies have (BaseReply.Looked have op x)) (sym e))
    h.1 h.2 tt h.3

pub look_failed : (have op : ℕ) (name : List ℕ) (v : List SubOp) (o : Bool) (a b : StoreView) (fault : BaseFault) → Recalls name a b (Err fault)
    → Serves (BaseMsg.Look have op name v) (base_of a have o) (base_of b have o) (Err fault)
look_failed have op name v o a b fault h = own_failed (BaseMsg.Look have op name v) have o a b name fault (own_taken have) refl h

-- what the answer to a chunk rests on
pub ruleset chunk_rules = (chunk_given, chunk_failed, no_memory_then, kept_on, kept_given)

-- what the answer to a reading rests on
pub ruleset look_rules = (look_given, look_failed, no_memory_then, kept_on)
