-- What is in doubt over a message is known without its name's state.
use Rattle.std.proofs.Common.{◌≡◌, ◌≢◌, ◌≤◌, ◌<◌, ℕ, ◌==◌, nat_lt, Bool, true, false, Option, Some, None, if◌then◌else◌, refl, sym, ap, subst, ◌∙◌, arith}
use Rattle.std.proofs.lemmas.Bool.{eqb-false, ltb-true, ltb-false}
use Rattle.obj_model.specs.States.{unknown}
use Rattle.obj_model.specs.declared.change.Pool.TheVariants.{Base}
use Rattle.obj_model.specs.declared.state.NameState.{NameState}
use Rattle.tier_join.specs.Steps.{HasStateFor}
use Rattle.tier_owners.specs.Calls.{is_write_message}
use Rattle.tier_protocol.specs.Tiers.{IsIn, Name}
use Rattle.tier_types.specs.Serving.{Served, epoch_in, name_in, replies, served}
use Rattle.tier_types.specs.declared.message.BaseMsg.{BaseMsg}
use Rattle.tier_types.specs.declared.message.BaseReply.{BaseReply}
use Rattle.tier_view.specs.Serves.{IsInDoubt, NeedsNone, is_reading, no_doubt, reading_doubt, rise_doubt}
use Rattle.tier_view.specs.Serves as serves
use Rattle.tier_view.specs.declared.parts.Pending.{Pending}
use Rattle.tier_view.specs.declared.parts.Sent.{Sent}
use Rattle.tier_view.specs.Views.{GroupView, joined}
use Rattle.tier_view.proofs.ServingWorlds.{in_each}
use Rattle.tier_serve.specs.Unread.{IsHanded, IsServedWith, ServingFences, ServingReadings, ServingStrangers, ServingUnread, fence_doubt, put_doubt, unread_doubt}
use Rattle.tier_serve.proofs.Bridging.{serving_delivers}

-- a message with a doubt that is known is served so
pub by_doubt : (v : GroupView) (m : Sent) (b : NameState) (p : Option Pending) → IsHanded v m → IsInDoubt v m b p → IsServedWith v m p
by_doubt v m b p h doubt w opened new result told live sound served became =
    serving_delivers v w m opened new b p result told live sound (record { on = h.on; lawful = h.lawful; doubt = doubt }) served became

-- ---- what needs no commit

abbrev pub PutsNone : ℕ → Served → Type 0
PutsNone have x = (x.put ≡ None) × (x.epoch ≡ have)

-- a message about a name that puts nothing, if it is of the base's epoch at all
module _ (have : ℕ) (b : NameState) where
  refused : (msg : BaseMsg) (k : Name) → name_in msg ≡ Some k → epoch_in msg ≢ have → PutsNone have (served have b msg)
  refused (BaseMsg.Fence e) k name other = absurd (cc)
  refused (BaseMsg.GetChunk e op n at) k name other = in_each (PutsNone have) have e _ (refl, refl) (refl, refl) (λ same. absurd (other same))
  refused (BaseMsg.Look e op n w) k name other = in_each (PutsNone have) have e _ (refl, refl) (refl, refl) (λ same. absurd (other same))
  refused (BaseMsg.Write e op r) k name other = in_each (PutsNone have) have e _ (refl, refl) (refl, refl) (λ same. absurd (other same))
  refused (BaseMsg.Install e op n t) k name other = in_each (PutsNone have) have e _ (refl, refl) (refl, refl) (λ same. absurd (other same))

  low_fence : (e : ℕ) → e ≤ have → PutsNone have (served have b (BaseMsg.Fence e))
  low_fence e low = by (nat_lt e have) refl
    where
      by : (c : Bool) → nat_lt e have ≡ c → PutsNone have (if c then replies have (BaseReply.OldEpoch have e) else replies e (BaseReply.Fenced e))
      by true lt = (refl, refl)
      by false ge = (refl, omega (arith, low, ltb-false e have ge))

-- ---- what is in doubt

module _ (v : GroupView) (m : Sent) where
  abbrev E : ℕ
  E = v.standing.base_epoch

  pub needs_none : (b : NameState) (msg : BaseMsg) → m.message ≡ msg → PutsNone E (served E b msg) → NeedsNone v m.message b
  needs_none b msg at none = subst (λ x. NeedsNone v x b) (sym at) (record { put = none.0; epoch = none.1 })

  pub stranger : (b : NameState) (k : Name) → name_in m.message ≡ Some k → epoch_in m.message ≢ E → IsInDoubt v m b None
  stranger b k name other = no_doubt (λ same. absurd (other same)) (needs_none b m.message refl (refused E b m.message k name other)) refl

  fenced : (b : NameState) (e : ℕ) → m.message ≡ BaseMsg.Fence e → IsInDoubt v m b (fence_doubt E e)
  fenced b e at = by (nat_lt E e) refl
    where
      by : (c : Bool) → nat_lt E e ≡ c → IsInDoubt v m b (if c then Some (Pending.Epoch Base e) else None)
      by true lt = rise_doubt e at (ltb-true E e lt) refl
      by false ge =
          no_doubt (λ same. subst (λ x. HasStateFor (joined v) (name_in x) b) (sym at) tt)
          (needs_none b (BaseMsg.Fence e) at (low_fence E b e (omega (arith, ltb-false E e ge)))) refl

  installed : (b : NameState) (e op : ℕ) (k : Name) (t : NameState) → m.message ≡ BaseMsg.Install e op k t → IsInDoubt v m b (put_doubt E e k)
  installed b e op k t at = by (e == E) refl
    where
      by : (c : Bool) → (e == E) ≡ c → IsInDoubt v m b (if c then Some (Pending.Plain Base k) else None)
      by true same = serves.put_doubt e op k t at refl
      by false other = stranger b k (ap name_in at) (λ same. eqb-false e E other (sym (ap epoch_in at) ∙ same))

  pub unread : (b : NameState) (msg : BaseMsg) → m.message ≡ msg → (is_write_message m.message ≡ true → epoch_in m.message ≢ E) → IsInDoubt v m b (unread_doubt E msg)
  unread b (BaseMsg.Fence e) at other = fenced b e at
  unread b (BaseMsg.GetChunk e op k x) at other = reading_doubt (ap is_reading at) refl
  unread b (BaseMsg.Look e op k x) at other = reading_doubt (ap is_reading at) refl
  unread b (BaseMsg.Write e op r) at other = stranger b r.name (ap name_in at) (other (ap is_write_message at))
  unread b (BaseMsg.Install e op k t) at other = installed b e op k t at

-- ---- the laws

pub serving_readings : ServingReadings
serving_readings v m h reads = by_doubt v m unknown None h (reading_doubt reads refl)

pub serving_fences : ServingFences
serving_fences v m e on at =
    by_doubt v m unknown (fence_doubt v.standing.base_epoch e)
    (record { on = on; lawful = λ k name. let none : ◌≡◌ {A = Option Name} None (Some k) = sym (ap name_in at) ∙ name in absurd (cc) })
    (fenced v m unknown e at)

pub serving_strangers : ServingStrangers
serving_strangers v m k h name other = by_doubt v m unknown None h (stranger v m unknown k name other)

pub serving_unread : ServingUnread
serving_unread v m h other = by_doubt v m unknown (unread_doubt v.standing.base_epoch m.message) h (unread v m unknown m.message refl other)
