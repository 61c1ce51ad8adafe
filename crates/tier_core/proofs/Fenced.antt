-- The base is told the cache's epoch, and tells it.
use Rattle.std.proofs.Common.{◌≡◌, ◌≢◌, inl, inr, ℕ, ◌==◌, cond, Bool, true, false, List, [], ◌∷◌, Option, Some, None, refl, sym, ap, subst, ◌∙◌, true≢false, arith}
use Rattle.std.proofs.lemmas.Bool.{eqb-true}
use Rattle.base_pool.specs.Views.{BaseView}
use Rattle.tier_calls.specs.Tables.{TableView}
use Rattle.tier_chron.specs.Logs.{Log}
use Rattle.tier_join.specs.Promises.{as_it_is}
use Rattle.tier_join.specs.Steps.{with_doubt}
use Rattle.tier_protocol.specs.Tiers.{BaseMsg, BaseReply, Phase, IsIn}
use Rattle.tier_traffic.specs.Messages.{replied_of, sent_now}
use Rattle.tier_traffic.specs.Wires.{WiresView}
use Rattle.tier_view.proofs.Resting.{rests_promises}
use Rattle.tier_view.proofs.StartingFences.{hearing_fenced_keeps, sending_fences_keeps}
use Rattle.tier_view.proofs.StartingLosses.{answering_fences_keeps}
use Rattle.tier_view.proofs.StartingRests.{rests_keeps}
use Rattle.tier_view.specs.Calls.{Calls}
use Rattle.tier_view.specs.Laws.{Keeps}
use Rattle.tier_view.specs.Starts.{HearsFenced, fence_sent, forgot_kept, gone_up}
use Rattle.tier_view.specs.Stores.{Stores}
use Rattle.tier_view.specs.Traffic.{Traffic}
use Rattle.tier_view.specs.declared.parts.Replied.{Replied}
use Rattle.tier_view.specs.Views.{GroupView, joined}
use Rattle.tier_view.specs.Whole.{IsWhole}
use Rattle.tier_core.specs.Fences.{Hears, IsFenced, IsOther, heard_by, is_fenced, start_heard, tells_fenced}
use Rattle.tier_core.specs.Keeps.{IsKept}
use Rattle.tier_core.specs.Parts.{group_of}
use Rattle.tier_core.specs.Steps.{IsStep}
use Rattle.tier_core.specs.declared.fencing.Heard.{Heard}
use Rattle.tier_core.specs.declared.fencing.Heard.TheVariants.{Up, Uncounted, Other}
use Rattle.tier_core.specs.declared.parts.Agent.{Agent}
use Rattle.tier_core.specs.declared.parts.Start.{Start}

-- ---- a Fence is sent

module _ (stores : Stores) (log : Log) (calls : Calls) (start : Start) (agent : Agent) (line call : Option ℕ) where
  abbrev kept : Start
  kept = record start { kept = Some (record { line = line; call = call }) }

  -- what the parts make is the group where it is sent
  pub sent_is : (w x : WiresView) (t : Traffic) → t ≡ w.traffic → x.traffic ≡ sent_now (BaseMsg.Fence start.cache_epoch) None t
      → group_of stores log calls x.traffic kept agent ≡ fence_sent line call (group_of stores log calls w.traffic start agent)
  sent_is w x t same sent =
      ap (λ (y : Traffic). group_of stores log calls y kept agent) (sent ∙ ap (sent_now (BaseMsg.Fence start.cache_epoch) None) same)

pub sent_step : (v : GroupView) (line call : Option ℕ) → IsWhole v → v.stores.pending ≡ None → v.standing.phase ≢ Phase.Down → Keeps as_it_is None v (fence_sent line call v)
sent_step v line call whole none raised = sending_fences_keeps v line call whole none raised

pub sent_kept : (v : GroupView) (base : BaseView) (table : TableView) (line call : Option ℕ) → IsKept v base table → IsWhole (fence_sent line call v) → IsKept (fence_sent line call v) base table
sent_kept v base table line call h whole = record {
  whole = whole;
  cached = h.cached;
  based = h.based;
  level = h.level;
  counted = h.counted;
  messages = (tt, h.messages);
  asked = h.asked;
}

-- ---- which reply it is

found_on : (replies : List Replied) (number : ℕ) (r : Replied) → replied_of replies number ≡ Some r → IsIn r replies
found_on [] number r is = absurd (cc)
found_on (x ∷ xs) number r is = by (x.number == number) (found_on xs number r) is
  where
    by : (b : Bool) → (replied_of xs number ≡ Some r → IsIn r xs) → cond b (Some x) (replied_of xs number) ≡ Some r → IsIn r (x ∷ xs)
    by true more same = inl (cc)
    by false more same = inr (more same)

fenced_is : (epoch : ℕ) (reply : BaseReply) → is_fenced epoch reply ≡ true → reply ≡ BaseReply.Fenced epoch
fenced_is epoch (BaseReply.Fenced e) is = ap BaseReply.Fenced (eqb-true e epoch is)
fenced_is epoch (BaseReply.Chunk e op chunk) is = absurd (cc)
fenced_is epoch (BaseReply.Looked e op looked) is = absurd (cc)
fenced_is epoch (BaseReply.Wrote e op acted) is = absurd (cc)
fenced_is epoch (BaseReply.Installed e op seq) is = absurd (cc)
fenced_is epoch (BaseReply.NoSpace e op used need limit) is = absurd (cc)
fenced_is epoch (BaseReply.OldEpoch have got) is = absurd (cc)
fenced_is epoch (BaseReply.NotFenced have got) is = absurd (cc)

-- an epoch is itself
itself : (n : ℕ) → (n == n) ≡ true
itself n = grind arith

other_is : (epoch : ℕ) (reply : BaseReply) → is_fenced epoch reply ≡ false → reply ≢ BaseReply.Fenced epoch
other_is epoch reply is same = absurd (true≢false (sym (itself epoch) ∙ sym (ap (is_fenced epoch) same) ∙ is))

tells_is : (epoch : ℕ) (o : Option Replied) → tells_fenced epoch o ≡ true → (r : Replied) × (o ≡ Some r) × (r.reply ≡ BaseReply.Fenced epoch)
tells_is epoch None is = absurd (cc)
tells_is epoch (Some r) is = (r, refl, fenced_is epoch r.reply is)

tells_not : (epoch : ℕ) (o : Option Replied) → tells_fenced epoch o ≡ false → IsOther epoch o
tells_not epoch None is = tt
tells_not epoch (Some r) is = other_is epoch r.reply is

-- ---- what comes of it

-- the group then
abbrev pub hearing : Heard → GroupView → GroupView
hearing Up v = gone_up v
hearing Uncounted v = forgot_kept v
hearing Other v = v

pub heard_is : (stores : Stores) (log : Log) (calls : Calls) (traffic : Traffic) (start : Start) (agent : Agent) (x : Heard)
    → group_of stores log calls traffic (start_heard x start) agent ≡ hearing x (group_of stores log calls traffic start agent)
heard_is stores log calls traffic start agent Up = refl
heard_is stores log calls traffic start agent Uncounted = refl
heard_is stores log calls traffic start agent Other = refl

module _ (v : GroupView) (number : ℕ) where
  -- a reply Fenced of the cache's epoch
  there : tells_fenced v.standing.cache_epoch (replied_of v.traffic.replies number) ≡ true → (r : Replied) × IsFenced v number r
  there is =
      let t = tells_is v.standing.cache_epoch (replied_of v.traffic.replies number) is in
      (t.0, record { there = t.1; fenced = t.2 })

  counts : (f : (r : Replied) × IsFenced v number r) → v.standing.phase ≢ Phase.Down → v.stores.base_stopped ≡ false → (r : Replied) × IsFenced v number r × HearsFenced v r
  counts f raised runs =
      (f.0, f.1, record { on = found_on v.traffic.replies number f.0 f.1.there; reply = f.1.fenced; raised = raised; runs = runs })

  by_phase : (p : Phase) (stopped fenced : Bool) → v.standing.phase ≡ p → v.stores.base_stopped ≡ stopped → tells_fenced v.standing.cache_epoch (replied_of v.traffic.replies number) ≡ fenced
      → Hears number v (hearing (heard_by p stopped fenced) v) (heard_by p stopped fenced)
  by_phase Phase.Down stopped false phase runs is = (tells_not v.standing.cache_epoch (replied_of v.traffic.replies number) is, refl)
  by_phase Phase.Raised stopped false phase runs is = (tells_not v.standing.cache_epoch (replied_of v.traffic.replies number) is, refl)
  by_phase Phase.Up stopped false phase runs is = (tells_not v.standing.cache_epoch (replied_of v.traffic.replies number) is, refl)
  by_phase Phase.Down stopped true phase runs is = (there is, inl phase, refl)
  by_phase Phase.Raised true true phase runs is = (there is, inr runs, refl)
  by_phase Phase.Raised false true phase runs is = (counts (there is) (λ down. absurd (cc)) runs, refl)
  by_phase Phase.Up true true phase runs is = (there is, inr runs, refl)
  by_phase Phase.Up false true phase runs is = (counts (there is) (λ down. absurd (cc)) runs, refl)

  pub heard_hears : (fenced : Bool) (x : Heard) → fenced ≡ tells_fenced v.standing.cache_epoch (replied_of v.traffic.replies number) → x ≡ heard_by v.standing.phase v.stores.base_stopped fenced
      → Hears number v (hearing x v) x
  heard_hears fenced x is heard =
      subst (λ (y : Heard). Hears number v (hearing y v) y) (sym heard) (by_phase v.standing.phase v.stores.base_stopped fenced refl refl (sym is))

-- ---- the step

-- nothing comes of it
rests : (v : GroupView) → IsWhole v → IsStep None v v
rests v h =
    rests_keeps v h v.stores.base_stopped v.traffic v.standing (with_doubt (joined v).doubt) (rests_promises (joined v)) (λ start b z k. k) refl refl h.flights h.traffic
    (record { cache = h.stops.cache; base = h.stops.base })

pub heard_step : (v : GroupView) (number : ℕ) (x : Heard) → IsWhole v → Hears number v (hearing x v) x → IsStep None v (hearing x v)
heard_step v number Up h hears = hearing_fenced_keeps v hears.0.0 h hears.0.2
heard_step v number Uncounted h hears = answering_fences_keeps v h
heard_step v number Other h hears = rests v h

pub heard_kept : (v : GroupView) (base : BaseView) (table : TableView) (x : Heard) → IsKept v base table → IsWhole (hearing x v) → IsKept (hearing x v) base table
heard_kept v base table Up h whole = record { whole = whole; cached = h.cached; based = h.based; level = h.level; counted = h.counted; messages = h.messages; asked = h.asked }
heard_kept v base table Uncounted h whole = record { whole = whole; cached = h.cached; based = h.based; level = h.level; counted = h.counted; messages = h.messages; asked = h.asked }
heard_kept v base table Other h whole = h
