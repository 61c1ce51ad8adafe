-- What a message changes of the base, in the words of the group.
use Rattle.std.proofs.Common.{◌≡◌, ◌⊎◌, ◌≤◌, ◌<◌, inl, inr, ℕ, not, Bool, true, false, [], ◌∷◌, ◌++◌, Option, Some, None, refl, ap, subst, ◌∙◌, arith}
use Rattle.std.specs.Prelude.{nat_lt, if◌then◌else◌}
use Rattle.std.proofs.lemmas.Bool.{eq-eqb, le-ltb, ltb-true, ltb-false}
use Rattle.base_pool.specs.Serves.{HasFor, IsOn, IsSpelled, changes_by, epoch_put, is_taken, state_put}
use Rattle.base_pool.specs.Views.{IsLive, SoundBase}
use Rattle.base_pool.proofs.Readings.{own_changes}
use Rattle.byteorder.specs.Endian.{big_bytes}
use Rattle.obj_model.specs.Limits.{number_limit}
use Rattle.obj_model.specs.Names.{name_fault}
use Rattle.obj_model.specs.declared.change.Change.TheVariants.{Put}
use Rattle.obj_model.specs.declared.state.NameState.{NameState}
use Rattle.pool_keys.specs.Keys.{epoch_key}
use Rattle.rec_codec.specs.Spelling.{state_bytes}
use Rattle.tier_join.specs.Steps.{Has, HasStateFor}
use Rattle.tier_join.proofs.Left.{read_is_left}
use Rattle.tier_protocol.specs.Tiers.{Name}
use Rattle.tier_types.specs.Serving.{Served, epoch_in, name_in, replies}
use Rattle.tier_types.specs.declared.message.BaseMsg.{BaseMsg}
use Rattle.tier_types.specs.declared.message.BaseReply.{BaseReply}
use Rattle.tier_view.specs.Serves.{NeedsChange, NeedsNone, ReadsThere, puts, rises, served_there}
use Rattle.tier_view.specs.Views.{GroupView, joined}
use Rattle.tier_view.proofs.ServingWorlds.{fence_is, name_epoch}
use Rattle.tier_serve.specs.Bridges.{base_of}

-- ---- what was read

-- a message of the base's epoch is taken
taken_now : (have : ℕ) (msg : BaseMsg) → epoch_in msg ≡ have → is_taken have msg ≡ true
taken_now have (BaseMsg.Fence e) same = ap not (le-ltb e have (omega (arith, same)))
taken_now have (BaseMsg.GetChunk e op name at) same = eq-eqb e have same
taken_now have (BaseMsg.Look e op name v) same = eq-eqb e have same
taken_now have (BaseMsg.Write e op r) same = eq-eqb e have same
taken_now have (BaseMsg.Install e op name s) same = eq-eqb e have same

has_for : (v : GroupView) (msg : BaseMsg) (s : NameState) → Has v.stores.base (HasFor msg s) → HasStateFor (joined v) (name_in msg) s
has_for v (BaseMsg.Fence e) s h = tt
has_for v (BaseMsg.GetChunk e op name at) s h = h
has_for v (BaseMsg.Look e op name w) s h = h
has_for v (BaseMsg.Write e op r) s h = h
has_for v (BaseMsg.Install e op name t) s h = h

pub reads_there : (v : GroupView) (opened : Bool) (msg : BaseMsg) (s : NameState) → IsLive (base_of opened v) → SoundBase (base_of opened v) → IsOn msg (base_of opened v) s → ReadsThere v msg s
reads_there v opened msg s live sound on =
    λ same. has_for v msg s (read_is_left v.stores.base (HasFor msg s) sound.sound live.live (on.read (taken_now v.standing.base_epoch msg same)))

-- ---- what is changed

-- a message needs no change, or the one that is made
abbrev pub Shape : GroupView → BaseMsg → NameState → Type 0
Shape v msg b = (NeedsNone v msg b × (changes_by v.standing.base_epoch b msg ≡ [])) ⊎ NeedsChange v msg b (changes_by v.standing.base_epoch b msg)

module _ (v : GroupView) (b : NameState) where
  abbrev E : ℕ
  E = v.standing.base_epoch

  named_shape : (msg : BaseMsg) (k : Name) → name_in msg ≡ Some k → name_fault k ≡ None → IsSpelled (served_there v b msg).put → Shape v msg b
  named_shape msg k name lawful spelled = by (served_there v b msg).put refl
    where
      changes : changes_by E b msg ≡ state_put (name_in msg) (served_there v b msg).put
      changes = own_changes msg E b (served_there v b msg).put (served_there v b msg).reply
          (ap {A = ℕ} {B = Served} (λ e. record { epoch = e; put = (served_there v b msg).put; reply = (served_there v b msg).reply }) (name_epoch E b msg k name))

      put_is : (p : Option NameState) → (served_there v b msg).put ≡ p → changes_by E b msg ≡ state_put (Some k) p
      put_is p is = changes ∙ ap (λ n. state_put n (served_there v b msg).put) name ∙ ap (state_put (Some k)) is

      by : (p : Option NameState) → (served_there v b msg).put ≡ p → Shape v msg b
      by None is = inl (record { put = is; epoch = name_epoch E b msg k name }, put_is None is)
      by (Some t) is = inr (puts k t (state_bytes t) name is (subst IsSpelled is spelled) lawful (put_is (Some t) is))

  fence_shape : (e : ℕ) → (served_there v b (BaseMsg.Fence e)).epoch ≤ number_limit → Shape v (BaseMsg.Fence e) b
  fence_shape e low = by (nat_lt e E) (nat_lt E e) refl refl
    where
      older : nat_lt e E ≡ true → served_there v b (BaseMsg.Fence e) ≡ replies E (BaseReply.OldEpoch E e)
      older lt = ap (λ c. if c then replies E (BaseReply.OldEpoch E e) else replies e (BaseReply.Fenced e)) lt

      none_by : (reply : BaseReply) → served_there v b (BaseMsg.Fence e) ≡ replies E reply → Shape v (BaseMsg.Fence e) b
      none_by reply is = inl (record { put = ap (λ x. x.put) is; epoch = ap (λ x. x.epoch) is }, own_changes (BaseMsg.Fence e) E b None reply is)

      by : (c d : Bool) → nat_lt e E ≡ c → nat_lt E e ≡ d → Shape v (BaseMsg.Fence e) b
      by true d lt gt = none_by (BaseReply.OldEpoch E e) (older lt)
      by false true lt gt =
          let up : E < e = ltb-true E e gt in
          let is : served_there v b (BaseMsg.Fence e) ≡ replies e (BaseReply.Fenced e) = fence_is E e b up in
          inr (rises e (big_bytes 8 e) refl up
          (record { spelled = refl; least = omega (arith, up); most = omega (arith, low, ap (λ x. x.epoch) is) })
          (ap (λ (x : Served). epoch_put E x.epoch ++ state_put None x.put) is
          ∙ ap (λ c. (if c then Put epoch_key (big_bytes 8 e) ∷ [] else []) ++ []) gt))
      by false false lt gt =
          let same : e ≡ E = omega (arith, ltb-false e E lt, ltb-false E e gt) in
          none_by (BaseReply.Fenced e) (ap (λ c. if c then replies E (BaseReply.OldEpoch E e) else replies e (BaseReply.Fenced e)) lt ∙ ap (λ n. replies n (BaseReply.Fenced e)) same)

  pub shape_of : (msg : BaseMsg) → ((k : Name) → name_in msg ≡ Some k → name_fault k ≡ None) → IsSpelled (served_there v b msg).put → (served_there v b msg).epoch ≤ number_limit → Shape v msg b
  shape_of (BaseMsg.Fence e) lawful spelled low = fence_shape e low
  shape_of (BaseMsg.GetChunk e op k at) lawful spelled low = named_shape (BaseMsg.GetChunk e op k at) k refl (lawful k refl) spelled
  shape_of (BaseMsg.Look e op k w) lawful spelled low = named_shape (BaseMsg.Look e op k w) k refl (lawful k refl) spelled
  shape_of (BaseMsg.Write e op r) lawful spelled low = named_shape (BaseMsg.Write e op r) r.name refl (lawful r.name refl) spelled
  shape_of (BaseMsg.Install e op k t) lawful spelled low = named_shape (BaseMsg.Install e op k t) k refl (lawful k refl) spelled
