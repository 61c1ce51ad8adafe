-- What the base's answer makes of a group.
use Rattle.std.proofs.Common.{◌≡◌, ◌+◌, inl, inr, ℕ, not, Bool, true, false, Option, Some, None, Ok, Err, if◌then◌else◌, refl, sym, ap, subst, ◌∙◌}
use Rattle.std.proofs.lemmas.Bool.{ltb-true}
use Rattle.std.specs.Prelude.{nat_lt}
use Rattle.base_pool.specs.Serves.{Serves, StaysBase}
use Rattle.base_pool.specs.Views.{BaseView, Has, IsLive, SoundBase}
use Rattle.base_pool.specs.declared.fault.BaseFault.TheVariants.{Store, BadRecord}
use Rattle.obj_model.specs.declared.reply.Reply.{Reply}
use Rattle.obj_model.specs.declared.req.Req.{Req}
use Rattle.obj_model.specs.declared.state.NameState.{NameState}
use Rattle.obj_model.specs.States.{unknown}
use Rattle.store_face.proofs.Later.{stays_same}
use Rattle.store_face.specs.Views.{StoreView}
use Rattle.store_face.specs.declared.fault.StoreFault.TheVariants as store
use Rattle.tier_join.proofs.Left.{read_is_left}
use Rattle.tier_join.specs.Steps.{HasState}
use Rattle.tier_protocol.specs.Tiers.{IsIn}
use Rattle.tier_serve.proofs.UnreadSteps.{unread}
use Rattle.tier_serve.specs.Bridges.{Became, BecameActed, Hands, base_of, is_owned, strays_there}
use Rattle.tier_serve.specs.Unread.{unread_doubt}
use Rattle.tier_types.specs.declared.message.BaseActed.{BaseActed}
use Rattle.tier_types.specs.declared.message.BaseMsg.{BaseMsg}
use Rattle.tier_types.specs.declared.message.BaseReply.{BaseReply}
use Rattle.tier_types.specs.Serving.{epoch_in, name_in}
use Rattle.tier_owners.specs.Calls.{is_write_message}
use Rattle.tier_view.proofs.ServingWorlds.{name_epoch}
use Rattle.tier_view.specs.Delivers.{with_base}
use Rattle.tier_view.specs.Serves.{IsInDoubt}
use Rattle.tier_view.specs.Views.{GroupView, joined}
use Rattle.tier_view.specs.Whole.{HasOwner, IsWhole}
use Rattle.tier_view.specs.declared.parts.Owner.{Owner}
use Rattle.tier_view.specs.declared.parts.Pending.{Pending}
use Rattle.tier_view.specs.declared.parts.Sent.{Sent}
use Rattle.tier_core.specs.Served.{BaseAnswer, doubt_behind, log_behind, told_by, traffic_told}
use Rattle.tier_core.specs.Stakes.{FindsStake, FindsUnread, IsAtStake, IsNamed, ReadsStake, chance_of, stake_doubt}
use Rattle.tier_core.specs.declared.stakes.Stake.{Stake}
use Rattle.tier_core.specs.declared.stakes.Stake.TheVariants.{Plain}
use Rattle.tier_core.proofs.ServedLater.{epoch_stays}
use Rattle.tier_core.proofs.StakedThere.{IsOther, fresh_served, holds_of, may_act, apart, opening, own_by, own_doubt}

-- the group behind an answer of the base to a message, which is in no doubt before it
abbrev pub behind : Sent → Stake → BaseAnswer → BaseView → GroupView → GroupView
behind m stake answer new v = record v {
  stores = record v.stores { base = new.store; pending = doubt_behind answer stake None };
  log = log_behind answer stake v.log;
  traffic = traffic_told m.number (told_by answer) v.traffic;
  standing = record v.standing { base_epoch = new.epoch };
}

pub stays_base : (b : BaseView) → StaysBase b b
stays_base b = record { store = stays_same b.store; epoch = refl; opened = refl }

-- what is known of a message, and what is at stake with it
pub record IsStaked (v : GroupView) (m : Sent) (stake : Stake) : Type 0 where
  pub state : NameState
  pub hands : Hands v m state (stake_doubt stake)
  pub acts : (s : StoreView) (n e op : ℕ) (answer : Reply) → n ≡ v.standing.base_epoch → e ≡ v.standing.base_epoch
      → (r : Req) → m.message ≡ BaseMsg.Write v.standing.base_epoch op r
      → BecameActed v m op answer s
      (behind m stake (Ok (BaseReply.Wrote e op (BaseActed.Fresh answer))) (record { store = s; epoch = n; opened = true }) v)

module _ (v : GroupView) (m : Sent) (on : IsIn m v.traffic.messages) (named : IsNamed m.message) (whole : IsWhole v) (live : IsLive (base_of true v)) (sound : SoundBase (base_of true v)) where
  abbrev E : ℕ
  E = v.standing.base_epoch

  -- a reply of this epoch, with the epoch of the base unchanged
  same_now : (w : ℕ → ℕ → GroupView) (n e : ℕ) (P : GroupView → Type 0) → n ≡ E → e ≡ E → P (w E E) → P (w n e)
  same_now w n e P is at p = subst (λ (x : ℕ). P (w x e)) (sym is) (subst (λ (x : ℕ). P (w E x)) (sym at) p)

  other_staked : (stake : Stake) → IsOther E m.message → stake ≡ Plain (unread_doubt E m.message) → IsStaked v m stake
  other_staked stake other is = record {
    state = unknown;
    hands = record { on = on; lawful = named; doubt = subst (λ (x : Stake). IsInDoubt v m unknown (stake_doubt x)) (sym is) (unread v m unknown m.message refl other) };
    acts = λ s n e op answer now at r wrote. absurd (other (ap is_write_message wrote) (ap epoch_in wrote));
  }

  module _ (o : Owner) (op : ℕ) (r : Req) (b : NameState) (at : m.message ≡ BaseMsg.Write E op r) (owner : m.owner ≡ Some o) (has : HasState (joined v) r.name b) where
    acted_so : (stake : Stake) → IsAtStake v.log (Some o) r b stake → (s : StoreView) (answer : Reply)
        → BecameActed v m op answer s
        (behind m stake (Ok (BaseReply.Wrote E op (BaseActed.Fresh answer))) (record { store = s; epoch = E; opened = true }) v)
    acted_so stake (inl may) s answer =
        subst (λ (x : Stake). BecameActed v m op answer s (behind m x (Ok (BaseReply.Wrote E op (BaseActed.Fresh answer))) (record { store = s; epoch = E; opened = true }) v)) (sym may.1)
        (is_owned o r (chance_of v.log o r b).first 0 at owner (may_act v m o op r b at owner on named whole has answer may.0)
        (opening v m o op r b at owner on named whole has) refl)
    acted_so stake (inr never) s answer =
        subst (λ (x : Stake). BecameActed v m op answer s (behind m x (Ok (BaseReply.Wrote E op (BaseActed.Fresh answer))) (record { store = s; epoch = E; opened = true }) v)) (sym never.1)
        (strays_there o r at owner (apart v m o op r b at owner on named whole has answer never.0) refl)

    own_staked : (stake : Stake) → IsAtStake v.log (Some o) r b stake → IsStaked v m stake
    own_staked stake is = record {
      state = b;
      hands = record { on = on; lawful = named; doubt = own_doubt v m o op r b at owner on named whole has stake is };
      acts = λ s n e told answer now epoch q wrote.
          let same : BaseMsg.Write E op r ≡ BaseMsg.Write E told q = sym at ∙ wrote in
          let ops : op ≡ told = cc in
          same_now (λ x y. behind m stake (Ok (BaseReply.Wrote y told (BaseActed.Fresh answer))) (record { store = s; epoch = x; opened = true }) v) n e (BecameActed v m told answer s) now epoch
          (subst (λ (i : ℕ). BecameActed v m i answer s (behind m stake (Ok (BaseReply.Wrote E i (BaseActed.Fresh answer))) (record { store = s; epoch = E; opened = true }) v)) ops (acted_so stake is s answer));
    }

  has_owner : (op : ℕ) (r : Req) → m.message ≡ BaseMsg.Write E op r → HasOwner v.calls.entries (BaseMsg.Write E op r) m.owner
  has_owner op r at = subst (λ (x : BaseMsg). HasOwner v.calls.entries x m.owner) at (holds_of (λ (x : Sent). HasOwner v.calls.entries x.message x.owner) v.traffic.messages m whole.traffic.owned on)

  -- a Write has an owner
  read_staked : (op : ℕ) (r : Req) (b : NameState) (stake : Stake) → m.message ≡ BaseMsg.Write E op r → HasState (joined v) r.name b → IsAtStake v.log m.owner r b stake → IsStaked v m stake
  read_staked op r b stake at has is = by m.owner refl (has_owner op r at) is
    where
      by : (x : Option Owner) → m.owner ≡ x → HasOwner v.calls.entries (BaseMsg.Write E op r) x → IsAtStake v.log x r b stake → IsStaked v m stake
      by None owner nobody k = absurd nobody
      by (Some o) owner asked k = own_staked o op r b at owner has stake k

  -- what was found is what is at stake
  pub staked : (between : BaseView) (stake : Stake) → FindsStake m v.log (base_of true v) between (Ok stake) → StaysBase (base_of true v) between × IsStaked v m stake
  staked between stake found =
      own_by E (λ (x : Option Req). elim x [ Some r ↦ ReadsStake m.owner r v.log (base_of true v) between (Ok stake) | None ↦ FindsUnread m.message (base_of true v) between (Ok stake) ]) m.message found
      (StaysBase (base_of true v) between × IsStaked v m stake)
      (λ other k. (subst (StaysBase (base_of true v)) (sym k.0) (stays_base (base_of true v)), other_staked stake other k.1))
      (λ op r at k. (k.0, read_staked op r k.1.state stake at (read_is_left v.stores.base (Has r.name k.1.state) sound.sound live.live k.1.has) k.1.is))

  -- ---- each answer

  module _ (stake : Stake) (known : IsStaked v m stake) (new : BaseView) (opened : new.opened ≡ true) where
    abbrev W : BaseAnswer → GroupView
    W answer = behind m stake answer new v

    abbrev Becomes_ : BaseAnswer → Type 0
    Becomes_ answer = Serves m.message (base_of true v) new answer → Became v m (stake_doubt stake) new answer (told_by answer) (W answer)

    module _ (e op used need limit : ℕ) where
      abbrev Told : Bool → Option BaseReply
      Told c = if not c then None else Some (BaseReply.NoSpace e op used need limit)

      abbrev Then : Bool → GroupView
      Then c = record v {
        stores = record v.stores { base = new.store; pending = None };
        traffic = traffic_told m.number (Told c) v.traffic;
        standing = record v.standing { base_epoch = new.epoch };
      }

      by_room : (c : Bool) → nat_lt limit (used + need) ≡ c → new.epoch ≡ E → Became v m (stake_doubt stake) new (Ok (BaseReply.NoSpace e op used need limit)) (Told c) (Then c)
      by_room true over same = inl (ltb-true limit (used + need) over, refl, refl)
      by_room false room same = inr (refl, ap (λ (n : ℕ). record v { stores = record v.stores { base = new.store; pending = None }; standing = record v.standing { base_epoch = n } }) same)

    no_room : (e op used need limit : ℕ) → Becomes_ (Ok (BaseReply.NoSpace e op used need limit))
    no_room e op used need limit x = by_room e op used need limit (nat_lt limit (used + need)) refl x.stays.epoch

    at_epoch : (p : Option Pending) → new.epoch ≡ E
        → record v { stores = record v.stores { base = new.store; pending = p }; standing = record v.standing { base_epoch = new.epoch } } ≡ with_base new.store p v
    at_epoch p same = ap (λ (n : ℕ). record v { stores = record v.stores { base = new.store; pending = p }; standing = record v.standing { base_epoch = n } }) same

    acted : (e op : ℕ) (answer : Reply) → Becomes_ (Ok (BaseReply.Wrote e op (BaseActed.Fresh answer)))
    acted e op answer x =
        let is = fresh_served m.message (base_of true v) new e op answer x in
        let now : new.epoch ≡ E = x.epoch ∙ name_epoch E x.state m.message is.0.name (ap name_in is.1) in
        (refl, known.acts new.store new.epoch e op answer now is.2 is.0 is.1)

    pub becomes : (answer : BaseAnswer) → Becomes_ answer
    becomes (Ok (BaseReply.Fenced e)) x = (refl, refl)
    becomes (Ok (BaseReply.Chunk e op chunk)) x = (refl, refl)
    becomes (Ok (BaseReply.Looked e op looked)) x = (refl, refl)
    becomes (Ok (BaseReply.Wrote e op (BaseActed.Fresh answer))) x = acted e op answer x
    becomes (Ok (BaseReply.Wrote e op (BaseActed.Again answer))) x = (refl, refl)
    becomes (Ok (BaseReply.Wrote e op (BaseActed.Stale kept))) x = (refl, refl)
    becomes (Ok (BaseReply.Wrote e op (BaseActed.Worn limit))) x = (refl, refl)
    becomes (Ok (BaseReply.Installed e op seq)) x = (refl, refl)
    becomes (Ok (BaseReply.NoSpace e op used need limit)) x = no_room e op used need limit x
    becomes (Ok (BaseReply.OldEpoch have got)) x = (refl, refl)
    becomes (Ok (BaseReply.NotFenced have got)) x = (refl, refl)
    becomes (Err (Store store.Disk)) x = (refl, at_epoch (stake_doubt stake) (epoch_stays m.message (base_of true v) new (Store store.Disk) x))
    becomes (Err (Store (store.BadImage at))) x = absurd x
    becomes (Err (Store (store.NoSpace used need limit))) x = absurd x
    becomes (Err (Store (store.Worn limit))) x = (refl, at_epoch None (epoch_stays m.message (base_of true v) new (Store (store.Worn limit)) x))
    becomes (Err (Store store.NoMemory)) x = (refl, at_epoch None (epoch_stays m.message (base_of true v) new (Store store.NoMemory) x))
    becomes (Err (BadRecord name)) x = (refl, at_epoch None (epoch_stays m.message (base_of true v) new (BadRecord name) x))
