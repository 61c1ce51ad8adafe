-- Calls that may be answered for good.
use Rattle.std.proofs.Common.{◌≡◌, ◌≢◌, ◌⊎◌, inl, inr, ℕ, false, List, [], ◌∷◌, ◌++◌, Option, Some, None, refl, sym, ap, subst, ◌∙◌}
use Rattle.std.specs.FinMap as fin
use Rattle.std.specs.List.{AllByRecursion}
use Rattle.std.specs.Option.{option_map}
use Rattle.obj_model.specs.declared.change.Pool.TheVariants.{Base, Cache}
use Rattle.obj_model.specs.declared.req.Req.{Req}
use Rattle.obj_ops.specs.Stores.{Store}
use Rattle.tier_chron.specs.Calls.{Call, call_of}
use Rattle.tier_chron.specs.Shapes.{IsAskedBy}
use Rattle.tier_chron.specs.declared.asked.Asked.{Asked}
use Rattle.tier_chron.specs.declared.asked.Asked.TheVariants.{Write}
use Rattle.tier_chron.specs.declared.entries.Act.{Act}
use Rattle.tier_join.specs.Group.{Memory, TwoMaps, tier_of, with_act, with_epoch}
use Rattle.tier_join.proofs.CacheSteps.{rec_is}
use Rattle.tier_owners.specs.Calls.{MayClose}
use Rattle.tier_owners.proofs.Closing.{answered_here_closes, readers_close, unsent_closes}
use Rattle.tier_protocol.specs.Owners.{Asking, Ledger, Owned, SoundOwners, with_call_act}
use Rattle.tier_protocol.specs.Sound.{IsSound}
use Rattle.tier_protocol.specs.Tiers.{BaseMsg, Recs, IsIn}
use Rattle.tier_types.specs.Flights.{is_write}
use Rattle.tier_view.specs.Answered.{IsNotOf, ReadersMayCloseNow, RecordsMayCloseNow, UnsentMayCloseNow}
use Rattle.tier_view.specs.Answers.{IsNotPending, MayCloseAt, MayCloseBy, MayCloseWith}
use Rattle.tier_view.specs.Calls.{Entry}
use Rattle.tier_view.specs.Stores.{Pending}
use Rattle.tier_view.specs.Traffic.{Owner, Sent, owned_by, owned_in}
use Rattle.tier_view.specs.Views.{GroupView, act_in, asking_by, asking_of, calls_in, joined, ledger_in, memory_of}
use Rattle.tier_view.specs.Worlds.{IsOwned, IsOwnedBy, IsOwnedWith, MayPend}
use Rattle.tier_view.proofs.Beginning.{surely_owned}

-- ---- in each world of a doubt

module _ (start : Store) (m : Memory) (l : Ledger) (z : TwoMaps) (call : ℕ)
    (close : (n : Memory) (k : Ledger) (recs : Recs) (base : Store) → n.flights ≡ m.flights → k.asks ≡ l.asks → k.owned ≡ l.owned → IsSound (tier_of start n recs base) → SoundOwners (tier_of start n recs base) k
    → MayClose (tier_of start n recs base) k call) where
  close_at : (n : Memory) (k : Ledger) → n.flights ≡ m.flights → k.asks ≡ l.asks → k.owned ≡ l.owned → IsOwned start n k z → MayCloseAt start n k z call
  close_at n k flights asks owned h = record { owned = h; may = close n k h.spells.recs h.spells.base flights asks owned h.spells.sound h.owners }

  close_with : (p : Pending) → IsOwnedWith start m l p z → MayCloseWith start m l p z call
  close_with (Pending.Plain pool name) h = h
  close_with (Pending.Act pool first a seq) h = (h.0, close_at (with_act a.req m) (with_call_act (act_in a) l) refl refl refl h.1)
  close_with (Pending.Epoch Cache e) h = close_at (with_epoch Cache e m) l refl refl refl h
  close_with (Pending.Epoch Base e) h = close_at (with_epoch Base e m) l refl refl refl h

  close_by : (p : Option Pending) → IsOwnedBy start m l p z → MayCloseBy start m l p z call
  close_by None h = close_at m l refl refl refl h
  close_by (Some p) (inl h) = inl (close_at m l refl refl refl h)
  close_by (Some p) (inr h) = inr (close_with p h)

-- ---- a call that asked no write request

no_asking : (x : Asking) → Some x ≡ None → ⊥
no_asking x e = absurd (cc)

asks_write : (a : Act) (c : Option Call) → IsAskedBy a c → asking_of c ≡ None → ⊥
asks_write a None h none = absurd h
asks_write a (Some c) h none =
    no_asking (record { line = a.line; req = a.req }) (sym (ap (λ x. asking_by (Write a.req) x) h.1) ∙ (sym (ap (λ x. asking_by x c.line) h.0) ∙ none))

not_pending : (es : List Entry) (v : GroupView) (call : ℕ) (p : Option Pending) → asking_of (call_of (calls_in es) call) ≡ None → MayPend es v.log p → IsNotPending call p
not_pending es v call None none h = tt
not_pending es v call (Some (Pending.Plain pool name)) none h = tt
not_pending es v call (Some (Pending.Act pool first a seq)) none h = λ same. asks_write a (call_of (calls_in es) a.call) h.0.asked (subst (λ c. asking_of (call_of (calls_in es) c) ≡ None) (sym same) none)
not_pending es v call (Some (Pending.Epoch pool e)) none h = tt

pub readers_may_close_now : ReadersMayCloseNow
readers_may_close_now v call h none = record {
  free = not_pending v.calls.entries v call v.stores.pending none h.pending;
  closes = λ start tell b z i. close_by start (memory_of v.log v.traffic v.standing) (ledger_in v) z call
      (λ n k recs base flights asks owned s w. readers_close (tier_of start n recs base) k call w (ap (λ f. f call) asks ∙ none))
      v.stores.pending (b.owners z i);
}

-- ---- a call of which nothing was sent

not_by : (call : ℕ) (m : BaseMsg) (w : Option Owner) (rest : List Owned) → IsNotOf call w → ((o : Owned) → IsIn o rest → o.call ≢ call) → (o : Owned) → IsIn o (owned_by m w rest) → o.call ≢ call
not_by call (BaseMsg.Write e op r) (Some w) rest h k o (inl is) = λ same. h (sym (ap (λ x. x.call) is) ∙ same)
not_by call (BaseMsg.Write e op r) (Some w) rest h k o (inr on) = k o on
not_by call (BaseMsg.Write e op r) None rest h k o on = k o on
not_by call (BaseMsg.Fence e) w rest h k o on = k o on
not_by call (BaseMsg.GetChunk e op n at) w rest h k o on = k o on
not_by call (BaseMsg.Look e op n x) w rest h k o on = k o on
not_by call (BaseMsg.Install e op n s) w rest h k o on = k o on

not_owned : (call : ℕ) (ss : List Sent) → AllByRecursion (λ s. IsNotOf call s.owner) ss → (o : Owned) → IsIn o (owned_in ss) → o.call ≢ call
not_owned call [] h o on = absurd on
not_owned call (s ∷ ss) h o on = not_by call s.message s.owner (owned_in ss) h.0 (not_owned call ss h.1) o on

pub unsent_may_close_now : UnsentMayCloseNow
unsent_may_close_now v call line r asked idle unsent free = record {
  free = free;
  closes = λ start tell b z i. close_by start (memory_of v.log v.traffic v.standing) (ledger_in v) z call
      (λ n k recs base flights asks owned s w.
      unsent_closes (tier_of start n recs base) k call line r w (ap (λ f. f call) asks ∙ asked) (subst (λ fs. is_write (fin.get fs r.name) ≡ false) (sym flights) idle)
      (λ o on. not_owned call v.traffic.messages unsent o (subst (IsIn o) owned on)) s)
      v.stores.pending (b.owners z i);
}

-- ---- a call whose name has a record

pub none_pending : (call : ℕ) (p : Option Pending) → p ≡ None → IsNotPending call p
none_pending call None e = tt
none_pending call (Some p) e = absurd (cc)

pub records_may_close_now : RecordsMayCloseNow
records_may_close_now v call line r rec none up asked has = record {
  free = none_pending call v.stores.pending none;
  closes = λ start tell b z i.
      let m : Memory = memory_of v.log v.traffic v.standing in
      let k : IsOwned start m (ledger_in v) z = surely_owned start v z none (b.owners z i) in
      subst (λ p. MayCloseBy start m (ledger_in v) p z call) (sym none) (record {
        owned = k;
        may = answered_here_closes (tier_of start m k.spells.recs k.spells.base) (ledger_in v) call line r rec k.spells.sound k.owners up asked (rec_is start (joined v) z r.name (Some rec) has i k.spells);
      });
}
