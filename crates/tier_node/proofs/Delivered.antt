-- A message that was delivered, as a run of one step or of none.
use Rattle.std.proofs.Common.{◌≡◌, ℕ, List, Option, Some, None, Result, refl, sym, subst}
use Rattle.base_pool.specs.declared.fault.BaseFault.{BaseFault}
use Rattle.tier_core.proofs.StakedThere.{holds_of, sent_is}
use Rattle.tier_core.specs.Deliveries.{ComesOf, IsDelivered, WasHanded}
use Rattle.tier_core.specs.declared.delivering.Delivered.{Delivered}
use Rattle.tier_core.specs.declared.delivering.Delivered.TheVariants as delivered
use Rattle.tier_join.specs.Steps.{act_of}
use Rattle.tier_node.proofs.Single.{plainly, single, unmoved}
use Rattle.tier_node.specs.Runs.{IsRun}
use Rattle.tier_protocol.specs.Tiers.{IsIn}
use Rattle.tier_runs.specs.Runs.{MayMake}
use Rattle.tier_traffic.specs.Messages.{sent_of}
use Rattle.tier_types.specs.declared.message.BaseMsg.{BaseMsg}
use Rattle.tier_types.specs.declared.message.BaseReply.{BaseReply}
use Rattle.tier_view.specs.Views.{GroupView}
use Rattle.tier_view.specs.Whole.{HasOwner}
use Rattle.tier_view.specs.declared.parts.Owner.{Owner}
use Rattle.tier_view.specs.declared.parts.Sent.{Sent}

-- a Write makes what its owner's request makes
made_by : (v w : GroupView) (message : BaseMsg) (owner : Option Owner)
    → HasOwner w.calls.entries message owner → MayMake v w (act_of message)
made_by v w (BaseMsg.Write e op r) None h = absurd h
made_by v w (BaseMsg.Write e op r) (Some o) h = MayMake.request o.call o.line r h refl
made_by v w (BaseMsg.Fence e) owner h = MayMake.nothing refl
made_by v w (BaseMsg.GetChunk e op k at) owner h = MayMake.nothing refl
made_by v w (BaseMsg.Look e op k vector) owner h = MayMake.nothing refl
made_by v w (BaseMsg.Install e op k s) owner h = MayMake.nothing refl

handed_run : (number : ℕ) (v w : GroupView) (m : Sent) (answer : Result BaseReply BaseFault)
    (told : Option BaseReply) → sent_of v.traffic.messages number ≡ Some m
    → WasHanded v w m answer told → IsRun v w
handed_run number v w m answer told at h =
    let there : IsIn m w.traffic.messages =
    subst (λ (ms : List Sent). IsIn m ms) (sym h.rest.messages)
    (sent_is number v.traffic.messages m at).0 in
    let owned : HasOwner w.calls.entries m.message m.owner =
    holds_of (λ (s : Sent). HasOwner w.calls.entries s.message s.owner) w.traffic.messages m
    h.step.0.traffic.owned there in
    single v w (record {
      other = act_of m.message;
      wanted = None;
      makes = made_by v w m.message m.owner owned;
      keeps = h.step;
    })

comes_run : (number : ℕ) (v w : GroupView) (m : Sent) (d : Delivered)
    → sent_of v.traffic.messages number ≡ Some m → ComesOf m v w d → IsRun v w
comes_run number v w m (delivered.Carried n) at h =
    handed_run number v w m _ _ at h.handed
comes_run number v w m delivered.Void at h = handed_run number v w m _ _ at h.handed
comes_run number v w m (delivered.Failed f) at h = handed_run number v w m _ _ at h
comes_run number v w m delivered.NoMemory at h = plainly v w h.step
comes_run number v w m delivered.Nothing at h = absurd h

-- what is said of a message that is there, or of none
abbrev Comings : (v w : GroupView) → Delivered → Option Sent → Type 0
Comings v w d o = elim o [ None ↦ (d ≡ delivered.Nothing) × (w ≡ v) | Some m ↦ ComesOf m v w d ]

found_run : (number : ℕ) (v w : GroupView) (d : Delivered) (o : Option Sent)
    → sent_of v.traffic.messages number ≡ o → Comings v w d o → IsRun v w
found_run number v w d None at h = unmoved v w h.1
found_run number v w d (Some m) at h = comes_run number v w m d at h

pub delivered_run : (number : ℕ) (v w : GroupView) (d : Delivered) → IsDelivered number v w d
    → IsRun v w
delivered_run number v w d h =
    found_run number v w d (sent_of v.traffic.messages number) refl h
