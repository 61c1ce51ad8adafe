-- Why a Fence failed, and how it was refused.
use Rattle.std.proofs.Common.{◌≡◌, ◌≤◌, ◌<◌, ◌⊎◌, inl, inr, ◌+◌, ◌==◌, ℕ, Bool, true, false, if◌then◌else◌, List, [], ◌∷◌, cond, map, length, Option, Some, None, Err, refl, sym, ap, subst, ◌∙◌}
use Rattle.base_pool.specs.Serves.{Serves}
use Rattle.base_pool.specs.Views.{BaseView}
use Rattle.base_pool.specs.declared.fault.BaseFault.{BaseFault}
use Rattle.base_pool.specs.declared.fault.BaseFault.TheVariants as base
use Rattle.store_face.specs.declared.fault.StoreFault.TheVariants as store
use Rattle.tier_chron.proofs.Lists.{either_way}
use Rattle.tier_core.specs.Deliveries.{Becomes, ComesOf, FailsFirst, IsDelivered, WasHanded}
use Rattle.tier_core.specs.Held.{entries_limit}
use Rattle.tier_core.specs.declared.delivering.Delivered.{Delivered}
use Rattle.tier_core.specs.declared.delivering.Delivered.TheVariants as delivered
use Rattle.tier_node.proofs.StartFaults.{base_failed}
use Rattle.tier_node.specs.Keeping.{IsForAll, IsOverIf, base_answer, is_own_sent, refusal_in, refusal_of}
use Rattle.tier_node.specs.Tells.{IsSoIf}
use Rattle.tier_node.specs.declared.keeping.Refusal.{Refusal}
use Rattle.tier_node.specs.declared.keeping.Refusal.TheVariants as refusal
use Rattle.tier_protocol.specs.Tiers.{IsIn}
use Rattle.tier_serve.specs.Bridges.{Became, base_of}
use Rattle.tier_traffic.specs.Messages.{replied_of, sent_of}
use Rattle.tier_types.specs.declared.message.BaseMsg.{BaseMsg}
use Rattle.tier_types.specs.declared.message.BaseReply.{BaseReply}
use Rattle.tier_view.specs.Traffic.{replies_of}
use Rattle.tier_view.specs.Views.{GroupView}
use Rattle.tier_view.specs.Whole.{IsWhole}
use Rattle.tier_view.specs.declared.parts.Pending.{Pending}
use Rattle.tier_view.specs.declared.parts.Replied.{Replied}
use Rattle.tier_view.specs.declared.parts.Sent.{Sent}

-- ---- a Fence that fails

abbrev Comings : (v w : GroupView) → Delivered → Option Sent → Type 0
Comings v w d o = elim o [ None ↦ (d ≡ delivered.Nothing) × (w ≡ v) | Some m ↦ ComesOf m v w d ]

record IsHanded (v w : GroupView) (f : BaseFault) : Type 0 where
  message : Sent
  handed : WasHanded v w message (Err f) None

failed_handed : (v w : GroupView) (f : BaseFault) (o : Option Sent)
    → Comings v w (delivered.Failed f) o → IsHanded v w f
failed_handed v w f None h = absurd (no h.0)
  where
    no : delivered.Failed f ≡ delivered.Nothing → ⊥
    no e = absurd (cc)
failed_handed v w f (Some m) h = record { message = m; handed = h }

became_log : (v w : GroupView) (m : Sent) (p : Option Pending) (new : BaseView) (f : BaseFault)
    → Became v m p new (Err f) None w → w.log ≡ v.log
became_log v w m p new (base.Store store.Disk) h = ap (λ (x : GroupView). x.log) h.1
became_log v w m p new (base.Store (store.BadImage at)) h = ap (λ (x : GroupView). x.log) h.1
became_log v w m p new (base.Store (store.NoSpace used need limit)) h =
    ap (λ (x : GroupView). x.log) h.1
became_log v w m p new (base.Store (store.Worn limit)) h = ap (λ (x : GroupView). x.log) h.1
became_log v w m p new (base.Store store.NoMemory) h = ap (λ (x : GroupView). x.log) h.1
became_log v w m p new (base.BadRecord name) h = ap (λ (x : GroupView). x.log) h.1

either_log : (v w : GroupView) (m : Sent) (f : BaseFault)
    → Becomes v w m (Err f) None ⊎ FailsFirst v w (Err f) None → w.log ≡ v.log
either_log v w m f (inl b) = became_log v w m b.doubt (base_of true w) f b.became
either_log v w m f (inr b) = ap (λ (x : GroupView). x.log) b.is

handed_log : (v w : GroupView) (m : Sent) (f : BaseFault) → WasHanded v w m (Err f) None
    → w.log ≡ v.log
handed_log v w m f h = either_log v w m f h.becomes

-- every call may be told why the base did not serve a message
for_all : (msg : BaseMsg) (old new : BaseView) (f : BaseFault) → Serves msg old new (Err f)
    → IsForAll (base_answer f)
for_all msg old new (base.Store store.Disk) h = refl
for_all msg old new (base.Store (store.BadImage at)) h = absurd h
for_all msg old new (base.Store (store.NoSpace used need limit)) h = absurd h
for_all msg old new (base.Store (store.Worn limit)) h = refl
for_all msg old new (base.Store store.NoMemory) h = tt
for_all msg old new (base.BadRecord name) h = refl

module _ (v w : GroupView) (whole : IsWhole v) (log : w.log ≡ v.log)
    (few : length w.log.answers ≤ entries_limit) where
  fault_so : (msg : BaseMsg) (f : BaseFault) → Serves msg (base_of true v) (base_of true w) (Err f)
      → IsSoIf w (base_answer f)
  fault_so msg (base.Store store.Disk) (inl h) = base_failed v w whole log few h.fails.fails.rose
  fault_so msg (base.Store store.Disk) (inr h) = base_failed v w whole log few h.fails.fails.rose
  fault_so msg (base.Store (store.BadImage at)) h = absurd h
  fault_so msg (base.Store (store.NoSpace used need limit)) h = absurd h
  fault_so msg (base.Store (store.Worn limit)) (inl h) = h.limit_is
  fault_so msg (base.Store (store.Worn limit)) (inr h) = h.limit_is
  fault_so msg (base.Store store.NoMemory) h = tt
  fault_so msg (base.BadRecord name) h = tt

module _ (number : ℕ) (v w : GroupView) (f : BaseFault)
    (h : IsDelivered number v w (delivered.Failed f)) where
  handed : IsHanded v w f
  handed = failed_handed v w f (sent_of v.traffic.messages number) h

  pub failed_for_all : IsForAll (base_answer f)
  failed_for_all =
      for_all handed.message.message (base_of true v) (base_of true w) f handed.handed.served

  pub failed_so : IsWhole v → length w.log.answers ≤ entries_limit → IsSoIf w (base_answer f)
  failed_so whole few =
      fault_so v w whole (handed_log v w handed.message f handed.handed) few
      handed.message.message f handed.handed.served

-- ---- a refusal

one_reply : (a b : Replied) → Some a ≡ Some b → b.reply ≡ a.reply
one_reply a b e = cc

replied_in : (rs : List Replied) (number : ℕ) (r : Replied) → replied_of rs number ≡ Some r
    → IsIn r.reply (map (λ (x : Replied). x.reply) rs)
replied_in [] number r is = absurd (cc)
replied_in (q ∷ rs) number r is =
    either_way (q.number == number)
    (λ same. inl (one_reply q r
    (sym (ap (λ (b : Bool). cond b (Some q) (replied_of rs number)) same) ∙ is)))
    (λ other. inr (replied_in rs number r
    (sym (ap (λ (b : Bool). cond b (Some q) (replied_of rs number)) other) ∙ is)))

one_refusal : (a b : Refusal) → Some a ≡ Some b → a ≡ b
one_refusal a b e = cc

module _ (epoch : ℕ) (sent : Option Sent) (r : Refusal) where
  -- a want of room has the numbers of the reply
  over_by : (reply : BaseReply)
      → ((e op used need limit : ℕ) → reply ≡ BaseReply.NoSpace e op used need limit
      → limit < used + need)
      → refusal_of epoch sent reply ≡ Some r → IsOverIf r
  over_by (BaseReply.OldEpoch have got) over is = by (is_own_sent epoch sent) is
    where
      by : (b : Bool) → (if b then Some refusal.Epoch else None) ≡ Some r → IsOverIf r
      by true e = subst IsOverIf (one_refusal refusal.Epoch r e) tt
      by false e = absurd (cc)
  over_by (BaseReply.NotFenced have got) over is = by (is_own_sent epoch sent) is
    where
      by : (b : Bool) → (if b then Some refusal.Epoch else None) ≡ Some r → IsOverIf r
      by true e = subst IsOverIf (one_refusal refusal.Epoch r e) tt
      by false e = absurd (cc)
  over_by (BaseReply.NoSpace e op used need limit) over is = by (e == epoch) is
    where
      by : (b : Bool) → (if b then Some (refusal.Room used need limit) else None) ≡ Some r
          → IsOverIf r
      by true k =
          subst IsOverIf (one_refusal (refusal.Room used need limit) r k)
          (over e op used need limit refl)
      by false k = absurd (cc)
  over_by (BaseReply.Fenced e) over is = absurd (cc)
  over_by (BaseReply.Chunk e op chunk) over is = absurd (cc)
  over_by (BaseReply.Looked e op looked) over is = absurd (cc)
  over_by (BaseReply.Wrote e op acted) over is = absurd (cc)
  over_by (BaseReply.Installed e op seq) over is = absurd (cc)

pub refused_over : (v : GroupView) (number : ℕ) (r : Refusal) → IsWhole v
    → Some r ≡ refusal_in v.standing.cache_epoch v.traffic number → IsOverIf r
refused_over v number r whole is = by (replied_of v.traffic.replies number) refl (sym is)
  where
    by : (o : Option Replied) → replied_of v.traffic.replies number ≡ o
        → elim o [
          | None ↦ None
          | Some x ↦ refusal_of v.standing.cache_epoch
              (sent_of v.traffic.messages x.answers) x.reply
        ] ≡ Some r → IsOverIf r
    by None at k = absurd (cc)
    by (Some x) at k =
        over_by v.standing.cache_epoch (sent_of v.traffic.messages x.answers) r x.reply
        (λ e op used need limit same.
        (whole.memory.sound.wire.replied (BaseReply.NoSpace e op used need limit)
        (subst (λ (p : BaseReply). IsIn p (replies_of v.traffic.replies)) same
        (replied_in v.traffic.replies number x at))).0) k
