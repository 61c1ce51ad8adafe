-- A message is delivered to the base of a group.
use Rattle.std.proofs.Common.{◌≡◌, ◌⊎◌, ◌≤◌, ◌+◌, inl, inr, ℕ, not, Bool, true, false, Option, Some, None, Ok, Err, if◌then◌else◌, refl, sym, ap, subst, ◌∙◌, arith}
use Rattle.std.proofs.lemmas.Bool.{ltb-false}
use Rattle.std.specs.List.{AllByRecursion}
use Rattle.std.specs.Prelude.{nat_lt}
use Rattle.base_pool.specs.Opens.{ReadsState}
use Rattle.base_pool.specs.Serves.{IsMsg, Serves, StaysBase}
use Rattle.base_pool.specs.Views.{BaseView, IsLive, SoundBase}
use Rattle.base_pool.specs.declared.fault.BaseFault.{BaseFault}
use Rattle.obj_model.specs.declared.req.Req.{Req}
use Rattle.store_face.specs.Views.{StoreView}
use Rattle.tier_calls.specs.Tables.{TableView}
use Rattle.tier_protocol.specs.Tiers.{IsIn}
use Rattle.tier_serve.proofs.Agreeing.{reading_leaves}
use Rattle.tier_serve.proofs.Bridging.{serving_delivers}
use Rattle.tier_serve.specs.Bridges.{Became, base_of}
use Rattle.tier_traffic.specs.Messages.{sent_of}
use Rattle.tier_types.specs.declared.message.BaseMsg.{BaseMsg}
use Rattle.tier_types.specs.declared.message.BaseReply.{BaseReply}
use Rattle.tier_view.specs.Calls.{Calls}
use Rattle.tier_view.specs.Delivers.{with_base}
use Rattle.tier_view.specs.Serves as serves
use Rattle.tier_view.specs.Serves.{Delivers, LeavesBase, LeavesRest}
use Rattle.tier_view.specs.Views.{GroupView}
use Rattle.tier_view.specs.Whole.{IsWhole}
use Rattle.tier_view.specs.declared.parts.Pending.{Pending}
use Rattle.tier_view.specs.declared.parts.Sent.{Sent}
use Rattle.tier_view.proofs.Serving.{leaving_base_keeps}
use Rattle.tier_view.proofs.ServingAll.{delivering_keeps}
use Rattle.tier_view.proofs.ServingRest.{delivering_leaves_rest}
use Rattle.tier_core.specs.Deliveries.{ComesOf, IsDelivered, WasHanded, IsVoid}
use Rattle.tier_core.specs.Keeps.{IsKept}
use Rattle.tier_core.specs.Parts.{group_of, stores_of}
use Rattle.tier_core.specs.Served.{BaseAnswer, HandsOver, IsHalted, IsServed, Touched, delivered_as, doubt_behind, is_void, served_parts, told_by}
use Rattle.tier_core.specs.Stakes.{FindsStake, FindsUnread, IsNamed, ReadsStake, stake_doubt}
use Rattle.tier_core.specs.declared.delivering.Delivered.{Delivered}
use Rattle.tier_core.specs.declared.delivering.Delivered.TheVariants as delivered
use Rattle.tier_core.specs.declared.parts.Agent.{Agent}
use Rattle.tier_core.specs.declared.parts.Start.{Start}
use Rattle.tier_core.specs.declared.stakes.Stake.{Stake}
use Rattle.tier_core.proofs.Kept.{seen_opened}
use Rattle.tier_core.proofs.ReadThere.{base_is, live_base}
use Rattle.tier_core.proofs.ServedLater.{epoch_stays, serves_back, still_opened, unread_serves}
use Rattle.tier_core.proofs.ServedThere.{IsStaked, becomes, behind, stays_base, staked}
use Rattle.tier_core.proofs.StakedThere.{own_by, sent_is}

-- ---- what came of it, by the answer

void_by : (v w : GroupView) (m : Sent) (reply : BaseReply) → is_void reply ≡ true → WasHanded v w m (Ok reply) None → IsVoid v w m
void_by v w m (BaseReply.Fenced e) other h = absurd (cc)
void_by v w m (BaseReply.Chunk e op chunk) other h = absurd (cc)
void_by v w m (BaseReply.Looked e op looked) other h = absurd (cc)
void_by v w m (BaseReply.Wrote e op acted) other h = absurd (cc)
void_by v w m (BaseReply.Installed e op seq) other h = absurd (cc)
void_by v w m (BaseReply.NoSpace e op used need limit) is h =
    record { epoch = e; opid = op; used = used; need = need; limit = limit; room = room (nat_lt limit (used + need)) refl is; handed = h }
  where
    room : (c : Bool) → nat_lt limit (used + need) ≡ c → not c ≡ true → used + need ≤ limit
    room true over other = absurd (cc)
    room false under void = omega (arith, ltb-false limit (used + need) under)
void_by v w m (BaseReply.OldEpoch have got) other h = absurd (cc)
void_by v w m (BaseReply.NotFenced have got) other h = absurd (cc)

reply_by : (v w : GroupView) (m : Sent) (reply : BaseReply) (c : Bool) → is_void reply ≡ c → WasHanded v w m (Ok reply) (if c then None else Some reply)
    → ComesOf m v w (if c then delivered.Void else delivered.Carried v.traffic.next_reply)
reply_by v w m reply true void h = void_by v w m reply void h
reply_by v w m reply false other h = record { reply = reply; handed = h; number_is = refl }

comes_by : (v w : GroupView) (m : Sent) (answer : BaseAnswer) → WasHanded v w m answer (told_by answer) → ComesOf m v w (delivered_as v.traffic.next_reply answer)
comes_by v w m (Ok reply) h = reply_by v w m reply (is_void reply) refl h
comes_by v w m (Err fault) h = h

-- ---- a group with other parts

module _ (cache : StoreView) (cache_stopped base_stopped : Bool) (calls : Calls) (start : Start) (agent : Agent) (table : TableView) where
  abbrev pub Of : Touched → GroupView
  Of t = group_of (stores_of cache t.base cache_stopped base_stopped t.pending) t.log calls t.traffic (record start { base_epoch = t.epoch }) agent

  module _ (t : Touched) (h : IsKept (Of t) t.base table) (live : (Of t).stores.base.live ≡ true) (none : t.pending ≡ None) where
    abbrev V : GroupView
    V = Of t

    pub alive : IsLive t.base
    alive = live_base t.base live

    same : base_of true V ≡ t.base
    same = base_is V t.base alive.opened (h.level alive) refl

    old_live : IsLive (base_of true V)
    old_live = subst IsLive (sym same) alive

    old_sound : SoundBase (base_of true V)
    old_sound = subst SoundBase (sym same) h.based

    -- a base that was open is the group's
    agree : (new : BaseView) (w : GroupView) → new.opened ≡ true → w.stores.base ≡ new.store → w.standing.base_epoch ≡ new.epoch → base_of true w ≡ new
    agree new w opened is epoch =
        ap (λ (s : StoreView). record { store = s; epoch = w.standing.base_epoch; opened = true }) is
        ∙ ap (λ (n : ℕ). record { store = new.store; epoch = n; opened = true }) epoch
        ∙ ap (λ (o : Bool). record { store = new.store; epoch = new.epoch; opened = o }) (sym opened)

    module _ (m : Sent) (on : IsIn m V.traffic.messages) (new : BaseView) (sound : SoundBase new) where
      -- ---- the message was served

      module _ (stake : Stake) (between : BaseView) (answer : BaseAnswer) (named : IsNamed m.message) (found : FindsStake m t.log t.base between (Ok stake)) (served : Serves m.message between new answer) where
        abbrev W : GroupView
        W = behind m stake answer new V

        known : StaysBase (base_of true V) between × IsStaked V m stake
        known = staked V m on named h.whole old_live old_sound between stake (subst (λ (x : BaseView). FindsStake m V.log x between (Ok stake)) (sym same) found)

        serves_now : Serves m.message (base_of true V) new answer
        serves_now = serves_back m.message (base_of true V) between new answer known.0 served

        opened : new.opened ≡ true
        opened = still_opened m.message (base_of true V) new answer serves_now

        became : Became V m (stake_doubt stake) new answer (told_by answer) W
        became = becomes V m on named h.whole old_live old_sound stake known.1 new opened answer serves_now

        delivers : Delivers m (told_by answer) V W
        delivers = serving_delivers V W m true new known.1.state (stake_doubt stake) answer (told_by answer) old_live old_sound known.1.hands serves_now became

        agrees : base_of true W ≡ new
        agrees = agree new W opened refl refl

        rest : LeavesRest m (told_by answer) V W
        rest = delivering_leaves_rest V W m (told_by answer) delivers

        handed : WasHanded V W m answer (told_by answer)
        handed = record {
          served = subst (λ (x : BaseView). Serves m.message (base_of true V) x answer) (sym agrees) serves_now;
          becomes = inl (record {
            state = known.1.state;
            doubt = stake_doubt stake;
            hands = known.1.hands;
            became = subst (λ (x : BaseView). Became V m (stake_doubt stake) x answer (told_by answer) W) (sym agrees) became;
          });
          delivers = delivers;
          rest = rest;
          step = delivering_keeps V W m (told_by answer) h.whole none delivers;
        }

        kept : IsKept W new table
        kept = record {
          whole = handed.step.0;
          cached = h.cached;
          based = sound;
          level = λ now. refl;
          counted = h.counted;
          messages = subst (AllByRecursion (λ (s : Sent). IsMsg s.message)) (sym rest.messages) h.messages;
          asked = h.asked;
        }

        -- the parts make that group
        parts_are : Of (served_parts m.number stake answer new t) ≡ W
        parts_are =
            ap (λ (s : StoreView). record W { stores = record W.stores { base = s; pending = doubt_behind answer stake t.pending } }) (seen_opened new opened)
            ∙ ap (λ (p : Option Pending). record W { stores = record W.stores { pending = doubt_behind answer stake p } }) none

      pub served_comes : (u : Touched) (outcome : Delivered) → u.base ≡ new → IsServed m t u outcome → ComesOf m V (Of u) outcome × IsKept (Of u) u.base table
      served_comes u outcome at x =
          let served = subst (λ (b : BaseView). Serves m.message x.between b x.answer) at x.served in
          let is : u ≡ served_parts m.number x.stake x.answer new t = x.is ∙ ap (λ (b : BaseView). served_parts m.number x.stake x.answer b t) at in
          let eq : Of u ≡ W x.stake x.between x.answer x.named x.found served = ap Of is ∙ parts_are x.stake x.between x.answer x.named x.found served in (
            subst (λ (w : GroupView). ComesOf m V w outcome) (sym eq)
                (subst (λ (o : Delivered). ComesOf m V (W x.stake x.between x.answer x.named x.found served) o) (sym x.outcome_is)
                (comes_by V (W x.stake x.between x.answer x.named x.found served) m x.answer (handed x.stake x.between x.answer x.named x.found served))),
            subst (λ (b : BaseView). IsKept (Of u) b table) (sym at)
                (subst (λ (w : GroupView). IsKept w new table) (sym eq) (kept x.stake x.between x.answer x.named x.found served)),
          )

      -- ---- it was not served

      abbrev L : GroupView
      L = with_base new.store None V

      kept_left : new.epoch ≡ V.standing.base_epoch → IsWhole L → IsKept L new table
      kept_left epoch whole = record {
        whole = whole;
        cached = h.cached;
        based = sound;
        level = λ now. epoch;
        counted = h.counted;
        messages = h.messages;
        asked = h.asked;
      }

      abbrev Comes : Delivered → Type 0
      Comes outcome = ComesOf m V L outcome × IsKept L new table × (new.opened ≡ true)

      failed : (op : ℕ) (r : Req) (fault : BaseFault) → m.message ≡ BaseMsg.Write V.standing.base_epoch op r → ReadsState r.name (base_of true V) new (Err fault) → Comes (delivered.Failed fault)
      failed op r fault at read =
          let served = subst (λ (x : BaseMsg). Serves x (base_of true V) new (Err fault)) (sym at) (unread_serves op r (base_of true V) new fault read) in
          let opened = still_opened m.message (base_of true V) new (Err fault) served in
          let epoch = epoch_stays m.message (base_of true V) new fault served in
          let left = (reading_leaves V true new r.name (Err fault) old_live old_sound read).0 in
          let delivers : Delivers m None V L = serves.leaves new.store left refl refl in
          let step = delivering_keeps V L m None h.whole none delivers in (
            record {
              served = subst (λ (x : BaseView). Serves m.message (base_of true V) x (Err fault)) (sym (agree new L opened refl (sym epoch))) served;
              becomes = inr (record { fault = fault; answer_is = refl; told_is = refl; leaves = left; is = refl });
              delivers = delivers;
              rest = delivering_leaves_rest V L m None delivers;
              step = step;
            },
            kept_left epoch step.0,
            opened,
          )

      lacking : StaysBase (base_of true V) new → Comes delivered.NoMemory
      lacking stays =
          let step = leaving_base_keeps V new.store h.whole none (record { moments = stays.store.moments; later = inl stays.store }) in
          (record { stays = stays.store; is = refl; step = step }, kept_left stays.epoch step.0, stays.opened)

      read_comes : (op : ℕ) (r : Req) (outcome : Delivered) → m.message ≡ BaseMsg.Write V.standing.base_epoch op r → ReadsStake m.owner r V.log (base_of true V) new (Err outcome) → Comes outcome
      read_comes op r (delivered.Carried number) at x = absurd x
      read_comes op r delivered.Void at x = absurd x
      read_comes op r (delivered.Failed fault) at x = failed op r fault at x
      read_comes op r delivered.NoMemory at x = lacking x
      read_comes op r delivered.Nothing at x = absurd x

      unread_comes : (outcome : Delivered) → FindsUnread m.message (base_of true V) new (Err outcome) → Comes outcome
      unread_comes (delivered.Carried number) x = absurd x
      unread_comes delivered.Void x = absurd x
      unread_comes (delivered.Failed fault) x = absurd x
      unread_comes delivered.NoMemory x = lacking (subst (StaysBase (base_of true V)) (sym x) (stays_base (base_of true V)))
      unread_comes delivered.Nothing x = absurd x

      halted : (outcome : Delivered) → FindsStake m t.log t.base new (Err outcome) → Comes outcome
      halted outcome found =
          own_by V.standing.base_epoch (λ (x : Option Req). elim x [ Some r ↦ ReadsStake m.owner r V.log (base_of true V) new (Err outcome) | None ↦ FindsUnread m.message (base_of true V) new (Err outcome) ]) m.message
          (subst (λ (x : BaseView). FindsStake m V.log x new (Err outcome)) (sym same) found) (Comes outcome)
          (λ other x. unread_comes outcome x) (λ op r at x. read_comes op r outcome at x)

      parts_left : new.opened ≡ true → Of (record t { base = new }) ≡ L
      parts_left opened =
          ap (λ (s : StoreView). record V { stores = record V.stores { base = s } }) (seen_opened new opened)
          ∙ ap (λ (p : Option Pending). record V { stores = record V.stores { base = new.store; pending = p } }) none

      pub halted_comes : (u : Touched) (outcome : Delivered) → u.base ≡ new → IsHalted m t u outcome → ComesOf m V (Of u) outcome × IsKept (Of u) u.base table
      halted_comes u outcome at x =
          let comes = halted outcome (subst (λ (b : BaseView). FindsStake m t.log t.base b (Err outcome)) at x.found) in
          let eq : Of u ≡ L = ap Of (x.is ∙ ap (λ (b : BaseView). record t { base = b }) at) ∙ parts_left comes.2 in (
            subst (λ (w : GroupView). ComesOf m V w outcome) (sym eq) comes.0,
            subst (λ (b : BaseView). IsKept (Of u) b table) (sym at) (subst (λ (w : GroupView). IsKept w new table) (sym eq) comes.1),
          )

    -- ---- all outcomes

    -- what is to be shown of them, by the message
    abbrev Comings : (o : Option Sent) (u : Touched) → Delivered → Type 0
    Comings o u outcome = elim o [ None ↦ (outcome ≡ delivered.Nothing) × (Of u ≡ V) | Some m ↦ ComesOf m V (Of u) outcome ]

    abbrev Handings : (o : Option Sent) (u : Touched) → Delivered → Type 0
    Handings o u outcome = elim o [ None ↦ (outcome ≡ delivered.Nothing) × (u ≡ t) | Some m ↦ IsServed m t u outcome ⊎ IsHalted m t u outcome ]

    pub handed_over : (number : ℕ) (u : Touched) (outcome : Delivered) → SoundBase u.base → HandsOver number t u outcome → IsDelivered number V (Of u) outcome × IsKept (Of u) u.base table
    handed_over number u outcome sound x = by (sent_of t.traffic.messages number) refl x
      where
        by : (o : Option Sent) → sent_of t.traffic.messages number ≡ o → Handings o u outcome → Comings o u outcome × IsKept (Of u) u.base table
        by None is y = ((y.0, ap Of y.1), subst (λ (s : Touched). IsKept (Of s) s.base table) (sym y.1) h)
        by (Some m) is (inl y) = served_comes m (sent_is number t.traffic.messages m is).0 u.base sound u outcome refl y
        by (Some m) is (inr y) = halted_comes m (sent_is number t.traffic.messages m is).0 u.base sound u outcome refl y
