-- The base of the group behind a call, and behind a reading.
use Rattle.std.proofs.Common.{◌≡◌, inl, inr, ℕ, Bool, Option, Some, None, Result, Ok, Err, sym, ap, ◌∙◌}
use Rattle.base_pool.specs.Serves.{Answers, Replies, Serves}
use Rattle.base_pool.specs.Views.{BaseView, Has}
use Rattle.base_pool.specs.declared.fault.BaseFault.{BaseFault}
use Rattle.base_pool.specs.declared.fault.BaseFault.TheVariants.{Store, BadRecord}
use Rattle.obj_model.specs.declared.reply.Reply.{Reply}
use Rattle.store_face.specs.declared.fault.StoreFault.TheVariants as store
use Rattle.tier_join.proofs.Left.{read_is_left, rests_left}
use Rattle.tier_protocol.specs.Tiers.{Name}
use Rattle.tier_types.specs.Serving.{name_in}
use Rattle.tier_types.specs.declared.message.BaseActed.{BaseActed}
use Rattle.tier_types.specs.declared.message.BaseReply.{BaseReply}
use Rattle.tier_view.specs.Delivers.{with_base}
use Rattle.tier_view.specs.Serves.{replied_there}
use Rattle.tier_view.specs.Views.{GroupView}
use Rattle.tier_view.specs.declared.parts.Pending.{Pending}
use Rattle.tier_view.specs.declared.parts.Sent.{Sent}
use Rattle.tier_view.proofs.ServingWorlds.{name_epoch}
use Rattle.tier_serve.specs.Bridges.{BasesAgree, Became, BecameActed, ReadingLeaves, base_of, is_owned, strays_there}

module _ (v w : GroupView) (told : Option BaseReply) (m : Sent) (opened : Bool) (new : BaseView) (p : Option Pending) where
  abbrev Agrees : Type 0
  Agrees = base_of new.opened w ≡ new

  -- with the new store, at the old epoch, where that is the new one
  stayed : (q : Option Pending) → new.epoch ≡ v.standing.base_epoch → w ≡ with_base new.store q v → Agrees
  stayed q same is = ap (base_of new.opened) is ∙ ap {A = ℕ} {B = BaseView} (λ e. record { store = new.store; epoch = e; opened = new.opened }) (sym same)

  replied : (reply : BaseReply) → w ≡ replied_there m.number reply new.epoch new.store v → Agrees
  replied reply is = ap (base_of new.opened) is

  -- a Write leaves the epoch
  wrote : (reply : BaseReply) (a : Answers m.message (base_of opened v) new reply) (k : Name) → name_in m.message ≡ Some k → new.epoch ≡ v.standing.base_epoch
  wrote reply a k name = a.epoch ∙ name_epoch v.standing.base_epoch a.state m.message k name

  acted : (e op : ℕ) (answer : Reply) (reply : BaseReply) → Answers m.message (base_of opened v) new reply → BecameActed v m op answer new.store w → Agrees
  acted e op answer reply a (is_owned o r first seq at owner may opening is) =
      ap (base_of new.opened) is ∙ ap {A = ℕ} {B = BaseView} (λ n. record { store = new.store; epoch = n; opened = new.opened }) (sym (wrote reply a r.name (ap name_in at)))
  acted e op answer reply a (strays_there o r at owner stray is) =
      ap (base_of new.opened) is ∙ ap {A = ℕ} {B = BaseView} (λ n. record { store = new.store; epoch = n; opened = new.opened }) (sym (wrote reply a r.name (ap name_in at)))

  by_reply : (reply : BaseReply) → Replies m.message (base_of opened v) new reply → Became v m p new (Ok reply) told w → Agrees
  by_reply (BaseReply.Fenced e) a is = replied (BaseReply.Fenced e) is.1
  by_reply (BaseReply.Chunk e op chunk) a is = replied (BaseReply.Chunk e op chunk) is.1
  by_reply (BaseReply.Looked e op looked) a is = replied (BaseReply.Looked e op looked) is.1
  by_reply (BaseReply.Wrote e op (BaseActed.Fresh answer)) a is = acted e op answer (BaseReply.Wrote e op (BaseActed.Fresh answer)) a is.1
  by_reply (BaseReply.Wrote e op (BaseActed.Again answer)) a is = replied (BaseReply.Wrote e op (BaseActed.Again answer)) is.1
  by_reply (BaseReply.Wrote e op (BaseActed.Stale kept)) a is = replied (BaseReply.Wrote e op (BaseActed.Stale kept)) is.1
  by_reply (BaseReply.Wrote e op (BaseActed.Worn limit)) a is = replied (BaseReply.Wrote e op (BaseActed.Worn limit)) is.1
  by_reply (BaseReply.Installed e op seq) a is = replied (BaseReply.Installed e op seq) is.1
  by_reply (BaseReply.NoSpace e op used need limit) a (inl is) = replied (BaseReply.NoSpace e op used need limit) is.2
  by_reply (BaseReply.NoSpace e op used need limit) a (inr is) = stayed None a.stays.epoch is.1
  by_reply (BaseReply.OldEpoch have got) a is = replied (BaseReply.OldEpoch have got) is.1
  by_reply (BaseReply.NotFenced have got) a is = replied (BaseReply.NotFenced have got) is.1

  by_result : (result : Result BaseReply BaseFault) → Serves m.message (base_of opened v) new result → Became v m p new result told w → Agrees
  by_result (Ok reply) a is = by_reply reply a is
  by_result (Err (Store store.Disk)) (inl a) is = stayed p a.fails.epoch is.1
  by_result (Err (Store store.Disk)) (inr a) is = stayed p a.fails.epoch is.1
  by_result (Err (Store (store.BadImage at))) a is = absurd a
  by_result (Err (Store (store.NoSpace used need limit))) a is = absurd a
  by_result (Err (Store (store.Worn limit))) (inl a) is = stayed None a.stays.epoch is.1
  by_result (Err (Store (store.Worn limit))) (inr a) is = stayed None a.stays.epoch is.1
  by_result (Err (Store store.NoMemory)) a is = stayed None a.stays.epoch is.1
  by_result (Err (BadRecord name)) a is = stayed None a.stays.epoch is.1

pub bases_agree : BasesAgree
bases_agree v w m opened new p result told served became = by_result v w told m opened new p result served became

-- ---- a reading

-- the base is the same but for its store
same_base : (v : GroupView) (new : BaseView) → new.epoch ≡ v.standing.base_epoch → base_of new.opened (with_base new.store None v) ≡ new
same_base v new same = ap {A = ℕ} {B = BaseView} (λ e. record { store = new.store; epoch = e; opened = new.opened }) (sym same)

pub reading_leaves : ReadingLeaves
reading_leaves v opened new name (Ok s) live sound read = (
  record { moments = read.2.store.moments; later = inl read.2.store },
  λ t left. read_is_left v.stores.base (Has name s) sound.sound live.live read.1 t (rests_left v.stores.base new.store read.2.store.moments t left),
  same_base v new read.2.epoch,
)
reading_leaves v opened new name (Err (Store store.Disk)) live sound read = (
  record { moments = read.0.1; later = inr read.0.0 },
  tt,
  same_base v new read.1,
)
reading_leaves v opened new name (Err (Store (store.BadImage at))) live sound read = absurd read.0
reading_leaves v opened new name (Err (Store (store.NoSpace used need limit))) live sound read = absurd read.0
reading_leaves v opened new name (Err (Store (store.Worn limit))) live sound read = absurd read.0
reading_leaves v opened new name (Err (Store store.NoMemory)) live sound read = (
  record { moments = read.0.moments; later = inl read.0 },
  tt,
  same_base v new read.1,
)
reading_leaves v opened new name (Err (BadRecord other)) live sound read = (
  record { moments = read.2.store.moments; later = inl read.2.store },
  tt,
  same_base v new read.2.epoch,
)
