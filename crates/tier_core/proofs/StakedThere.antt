-- What is at stake with a message is what is in doubt where the disk fails over it.
use Rattle.std.proofs.Common.{◌≡◌, ◌≢◌, ◌⊎◌, inl, inr, ℕ, ◌==◌, Bool, true, false, List, [], ◌∷◌, Option, Some, None, Ok, if◌then◌else◌, refl, sym, ap, subst, ◌∙◌}
use Rattle.std.proofs.lemmas.Bool.{eqb-true, eqb-false}
use Rattle.std.specs.List.{AllByRecursion}
use Rattle.std.specs.Prelude.{cond, nat_lt}
use Rattle.base_pool.specs.Serves.{Serves}
use Rattle.base_pool.specs.Views.{BaseView}
use Rattle.obj_model.specs.declared.reply.Reply.{Reply}
use Rattle.obj_model.specs.declared.req.Req.{Req}
use Rattle.obj_model.specs.declared.state.NameState.{NameState}
use Rattle.obj_ops.specs.Acts.{act}
use Rattle.obj_ops.specs.declared.request.Acted.{Acted}
use Rattle.obj_ops.specs.declared.request.Acted.TheVariants as acted
use Rattle.tier_chron.specs.Calls.{call_of}
use Rattle.tier_chron.specs.Laws.{MayAct, MayStillAct}
use Rattle.tier_chron.specs.Logs.{is_opened}
use Rattle.tier_chron.specs.declared.entries.Act.{Act}
use Rattle.tier_chron.specs.declared.entries.First.{First}
use Rattle.tier_join.specs.Steps.{HasState, HasStateFor}
use Rattle.tier_owners.specs.Calls.{is_write_message}
use Rattle.tier_protocol.specs.Tiers.{IsIn}
use Rattle.tier_serve.proofs.UnreadSteps.{needs_none}
use Rattle.tier_traffic.specs.Messages.{sent_of}
use Rattle.tier_types.specs.Serving.{Served, epoch_in, name_in, put_by, replies, served, told_of}
use Rattle.tier_types.specs.declared.message.BaseActed.{BaseActed}
use Rattle.tier_types.specs.declared.message.BaseMsg.{BaseMsg}
use Rattle.tier_types.specs.declared.message.BaseReply.{BaseReply}
use Rattle.tier_view.proofs.Delivering.{own_epoch}
use Rattle.tier_view.proofs.ServingOwners.{asked_by}
use Rattle.tier_view.proofs.ServingWorlds.{in_each}
use Rattle.tier_view.specs.Delivers.{IsFirstThere}
use Rattle.tier_view.specs.Serves.{IsInDoubt, NeedsNone, ReadsThere, act_doubt, no_doubt, stray_doubt}
use Rattle.tier_view.specs.Views.{GroupView, calls_in, joined}
use Rattle.tier_view.specs.Whole.{HasOwner, IsWhole}
use Rattle.tier_view.specs.declared.parts.Owner.{Owner}
use Rattle.tier_view.specs.declared.parts.Sent.{Sent}
use Rattle.tier_core.specs.Acts.{first_for}
use Rattle.tier_core.specs.Stakes.{IsAtStake, IsNamed, chance_doubt, chance_of, fresh_of, own_write, stake_doubt}
use Rattle.tier_core.specs.declared.stakes.Stake.{Stake}

-- ---- the message of a number

found_by : (number : ℕ) (x : Sent) (ms : List Sent) (m : Sent) (c : Bool) → (x.number == number) ≡ c → cond c (Some x) (sent_of ms number) ≡ Some m → ((m ≡ x) × (m.number ≡ number)) ⊎ (sent_of ms number ≡ Some m)
found_by number x ms m true same is = let one : x ≡ m = cc in inl (sym one, ap (λ (s : Sent). s.number) (sym one) ∙ eqb-true x.number number same)
found_by number x ms m false other is = inr is

pub sent_is : (number : ℕ) (ms : List Sent) (m : Sent) → sent_of ms number ≡ Some m → IsIn m ms × (m.number ≡ number)
sent_is number [] m is = absurd (cc)
sent_is number (x ∷ ms) m is = elim (found_by number x ms m (x.number == number) refl is) [
  | inl here ↦ (inl here.0, here.1)
  | inr later ↦ let rest = sent_is number ms m later in (inr rest.0, rest.1)
]

-- what holds of each message holds of this one
pub holds_of : (P : Sent → Type 0) (ms : List Sent) (m : Sent) → AllByRecursion P ms → IsIn m ms → P m
holds_of P [] m h on = absurd on
holds_of P (x ∷ ms) m h (inl same) = subst P (sym same) h.0
holds_of P (x ∷ ms) m h (inr on) = holds_of P ms m h.1 on

-- ---- a Write of the base's epoch, or another message

-- it is no Write of the base's epoch
abbrev pub IsOther : (have : ℕ) → BaseMsg → Type 0
IsOther have msg = is_write_message msg ≡ true → epoch_in msg ≢ have

pub own_by : (have : ℕ) (P : Option Req → Type 0) (msg : BaseMsg) → P (own_write have msg) → (R : Type 0)
    → (IsOther have msg → P None → R) → ((op : ℕ) (r : Req) → msg ≡ BaseMsg.Write have op r → P (Some r) → R) → R
own_by have P (BaseMsg.Fence e) p R other own = other (λ no. absurd (cc)) p
own_by have P (BaseMsg.GetChunk e op k at) p R other own = other (λ no. absurd (cc)) p
own_by have P (BaseMsg.Look e op k v) p R other own = other (λ no. absurd (cc)) p
own_by have P (BaseMsg.Install e op k s) p R other own = other (λ no. absurd (cc)) p
own_by have P (BaseMsg.Write e op r) p R other own = by (e == have) refl p
  where
    by : (c : Bool) → (e == have) ≡ c → P (if c then Some r else None) → R
    by true same q = own op r (ap (λ (n : ℕ). BaseMsg.Write n op r) (eqb-true e have same)) q
    by false apart q = other (λ yes. eqb-false e have apart) q

-- ---- a base that tells that a request acted served a Write of its epoch

-- what is said of a message that is served so
abbrev TellsFresh : (have : ℕ) (msg : BaseMsg) (e op : ℕ) (answer : Reply) → Served → Type 0
TellsFresh have msg e op answer x =
    x.reply ≡ BaseReply.Wrote e op (BaseActed.Fresh answer) → (r : Req) × (msg ≡ BaseMsg.Write have op r) × (e ≡ have)

module _ (have e op : ℕ) (answer : Reply) (s : NameState) where
  fence_tells : (got : ℕ) → TellsFresh have (BaseMsg.Fence got) e op answer (served have s (BaseMsg.Fence got))
  fence_tells got = by (nat_lt got have)
    where
      by : (c : Bool) → TellsFresh have (BaseMsg.Fence got) e op answer (if c then replies have (BaseReply.OldEpoch have got) else replies got (BaseReply.Fenced got))
      by true = λ no. absurd (cc)
      by false = λ no. absurd (cc)

  write_tells : (got o : ℕ) (r : Req) → got ≡ have → BaseReply.Wrote got o (told_of (act s r)) ≡ BaseReply.Wrote e op (BaseActed.Fresh answer)
      → (q : Req) × (BaseMsg.Write got o r ≡ BaseMsg.Write have op q) × (e ≡ have)
  write_tells got o r now is =
      let epochs : got ≡ e = cc in
      let ops : o ≡ op = cc in
      (r, ap (λ (n : ℕ). BaseMsg.Write n o r) now ∙ ap (λ (n : ℕ). BaseMsg.Write have n r) ops, sym epochs ∙ now)

  served_tells : (msg : BaseMsg) → TellsFresh have msg e op answer (served have s msg)
  served_tells (BaseMsg.Fence got) = fence_tells got
  served_tells (BaseMsg.GetChunk got o k at) =
      in_each (TellsFresh have (BaseMsg.GetChunk got o k at) e op answer) have got _ (λ no. absurd (cc)) (λ no. absurd (cc)) (λ now no. absurd (cc))
  served_tells (BaseMsg.Look got o k v) =
      in_each (TellsFresh have (BaseMsg.Look got o k v) e op answer) have got _ (λ no. absurd (cc)) (λ no. absurd (cc)) (λ now no. absurd (cc))
  served_tells (BaseMsg.Write got o r) =
      in_each (TellsFresh have (BaseMsg.Write got o r) e op answer) have got _ (λ no. absurd (cc)) (λ no. absurd (cc)) (λ now is. write_tells got o r now is)
  served_tells (BaseMsg.Install got o k t) =
      in_each (TellsFresh have (BaseMsg.Install got o k t) e op answer) have got _ (λ no. absurd (cc)) (λ no. absurd (cc)) (λ now no. absurd (cc))

pub fresh_served : (msg : BaseMsg) (old new : BaseView) (e op : ℕ) (answer : Reply) → Serves msg old new (Ok (BaseReply.Wrote e op (BaseActed.Fresh answer)))
    → (r : Req) × (msg ≡ BaseMsg.Write old.epoch op r) × (e ≡ old.epoch)
fresh_served msg old new e op answer a = served_tells old.epoch e op answer a.state msg (sym a.told)

-- ---- a Write of the base's epoch

module _ (v : GroupView) (m : Sent) (o : Owner) (op : ℕ) (r : Req) (s : NameState) (at : m.message ≡ BaseMsg.Write v.standing.base_epoch op r) (owner : m.owner ≡ Some o)
    (on : IsIn m v.traffic.messages) (named : IsNamed m.message) (whole : IsWhole v) (has : HasState (joined v) r.name s) where
  abbrev E : ℕ
  E = v.standing.base_epoch

  abbrev First_ : Option First
  First_ = first_for v.log.opening r.name s

  abbrev Act_ : Reply → Act
  Act_ answer = record { call = o.call; line = o.line; req = r; reply = answer }

  pub may_act : (answer : Reply) → MayStillAct o.call v.log → MayAct (calls_in v.calls.entries) v.log (Act_ answer)
  may_act answer may =
      let has_owner : HasOwner v.calls.entries m.message m.owner = holds_of (λ (x : Sent). HasOwner v.calls.entries x.message x.owner) v.traffic.messages m whole.traffic.owned on in
      let asked = subst (λ (x : Option Owner). HasOwner v.calls.entries (BaseMsg.Write E op r) x) owner (subst (λ (x : BaseMsg). HasOwner v.calls.entries x m.owner) at has_owner) in
      record { asked = asked_by (call_of (calls_in v.calls.entries) o.call) (Act_ answer) asked; first = may.first; free = may.free }

  pub opening : IsFirstThere v r.name First_
  opening = by (is_opened v.log.opening r.name) refl
    where
      by : (c : Bool) → is_opened v.log.opening r.name ≡ c → IsFirstThere v r.name (if c then None else Some (record { name = r.name; state = s }))
      by true is = is
      by false is = (is, refl, has)

  reads : ReadsThere v m.message s
  reads = λ same. subst (λ (x : BaseMsg). HasStateFor (joined v) (name_in x) s) (sym at) has

  -- where the request does not act
  none : (a : Acted) → act s r ≡ a → put_by a ≡ None → NeedsNone v m.message s
  none a is puts =
      let gives : served E s (BaseMsg.Write E op r) ≡ record { epoch = E; put = put_by (act s r); reply = BaseReply.Wrote E op (told_of (act s r)) } =
      own_epoch E (record { epoch = E; put = put_by (act s r); reply = BaseReply.Wrote E op (told_of (act s r)) }) in
      needs_none v m s (BaseMsg.Write E op r) at (ap (λ (x : Served). x.put) gives ∙ ap put_by is ∙ puts, ap (λ (x : Served). x.epoch) gives)

  may_doubt : (a : Acted) → act s r ≡ a → MayStillAct o.call v.log → IsInDoubt v m s (chance_doubt (chance_of v.log o r s) (fresh_of a))
  may_doubt (acted.Fresh t answer) is may =
      act_doubt o op r t answer First_
      (record { on = on; message = at; owner = owner; has = has; acts = is; may = may_act answer may; opening = opening; named = named r.name (ap name_in at) }) refl
  may_doubt (acted.Again answer) is may = no_doubt reads (none (acted.Again answer) is refl) refl
  may_doubt (acted.Stale kept) is may = no_doubt reads (none (acted.Stale kept) is refl) refl
  may_doubt (acted.Worn limit) is may = no_doubt reads (none (acted.Worn limit) is refl) refl

  pub apart : (answer : Reply) → (MayStillAct o.call v.log → ⊥) → MayAct (calls_in v.calls.entries) v.log (Act_ answer) → ⊥
  apart answer never may = never (record { first = may.first; free = may.free })

  never_doubt : (a : Acted) → act s r ≡ a → (MayStillAct o.call v.log → ⊥) → IsInDoubt v m s None
  never_doubt (acted.Fresh t answer) is never = stray_doubt o op r t answer (record { on = on; message = at; owner = owner; has = has; acts = is; stray = apart answer never }) refl
  never_doubt (acted.Again answer) is never = no_doubt reads (none (acted.Again answer) is refl) refl
  never_doubt (acted.Stale kept) is never = no_doubt reads (none (acted.Stale kept) is refl) refl
  never_doubt (acted.Worn limit) is never = no_doubt reads (none (acted.Worn limit) is refl) refl

  pub own_doubt : (stake : Stake) → IsAtStake v.log (Some o) r s stake → IsInDoubt v m s (stake_doubt stake)
  own_doubt stake (inl may) = subst (λ (x : Stake). IsInDoubt v m s (stake_doubt x)) (sym may.1) (may_doubt (act s r) refl may.0)
  own_doubt stake (inr never) = subst (λ (x : Stake). IsInDoubt v m s (stake_doubt x)) (sym never.1) (never_doubt (act s r) refl never.0)
