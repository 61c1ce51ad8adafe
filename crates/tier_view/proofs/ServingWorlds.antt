-- A message that is no act reaches the base: the worlds behind it.
use Rattle.std.proofs.Common.{◌≡◌, ◌<◌, ℕ, Bool, true, false, List, ◌∷◌, Option, Some, None, refl, sym, ap, subst, ◌∙◌, arith}
use Rattle.std.specs.Prelude.{nat_lt, if◌then◌else◌}
use Rattle.std.proofs.lemmas.Bool.{le-ltb, ltb-false}
use Rattle.obj_model.specs.declared.change.Change.{Change}
use Rattle.obj_model.specs.declared.req.Req.{Req}
use Rattle.obj_model.specs.declared.state.NameState.{NameState}
use Rattle.obj_ops.specs.Stores.{Store}
use Rattle.pool_keys.specs.Keys.{epoch_key, state_key}
use Rattle.pool_keys.specs.Maps.{SpellsBase}
use Rattle.store_face.specs.Tables.{Table, changed_by}
use Rattle.tier_join.specs.Group.{Memory, TwoMaps, AreLeft, tier_of}
use Rattle.tier_join.specs.Steps.{sets}
use Rattle.tier_join.proofs.BaseSteps.{is_delivered, served_sound, taken_sound}
use Rattle.tier_join.proofs.Keys.{base_at, base_with}
use Rattle.tier_owners.specs.Calls.{is_write_message}
use Rattle.tier_owners.proofs.Delivering.{delivering_owned}
use Rattle.tier_owners.proofs.Faithful.{taken_is_lost}
use Rattle.tier_protocol.specs.Moves.{acts_with, delivered, put_at, taken, with_served}
use Rattle.tier_protocol.specs.Owners.{Ledger, SoundOwners}
use Rattle.tier_protocol.specs.Sound.{IsSound}
use Rattle.tier_protocol.specs.Tiers.{BaseMsg, BaseReply, IsIn, Name, Tier}
use Rattle.tier_protocol.proofs.Delivers.{delivering}
use Rattle.tier_protocol.proofs.Owners.{losses_quiet, quiet_keeps}
use Rattle.tier_types.specs.Serving.{Served, epoch_in, in_epoch, name_in, replies, served}
use Rattle.tier_view.specs.Serves.{NeedsChange, ReadsThere, puts, rises, served_there}
use Rattle.tier_view.specs.Traffic.{Sent}
use Rattle.tier_view.specs.Views.{GroupView, joined, ledger_in}
use Rattle.tier_view.specs.Worlds.{IsOwned}
use Rattle.tier_view.proofs.Delivering.{on_wire}

-- ---- what the base makes of a message

-- a message is refused, or served in its own epoch
pub in_each : (P : Served → Type 0) (have e : ℕ) (done : Served) → P (replies have (BaseReply.OldEpoch have e)) → P (replies have (BaseReply.NotFenced have e)) → (e ≡ have → P done) → P (in_epoch have e done)
in_each P have e done old fresh now = by (nat_lt e have) (nat_lt have e) refl refl
  where
    by : (c d : Bool) → nat_lt e have ≡ c → nat_lt have e ≡ d
        → P (if c then replies have (BaseReply.OldEpoch have e) else if d then replies have (BaseReply.NotFenced have e) else done)
    by true d lt gt = old
    by false true lt gt = fresh
    by false false lt gt = now (omega (arith, ltb-false e have lt, ltb-false have e gt))

-- what is served of a message about a name: the epoch stays; a state that is put is put in the
-- message's epoch
record OfName (have : ℕ) (msg : BaseMsg) (x : Served) : Type 0 where
  epoch : x.epoch ≡ have
  now : (t : NameState) → x.put ≡ Some t → epoch_in msg ≡ have

none_now : (have : ℕ) (msg : BaseMsg) (p : Option NameState) → p ≡ None → (t : NameState) → p ≡ Some t → epoch_in msg ≡ have
none_now have msg p none t e = absurd (cc)

of_name : (have : ℕ) (b : NameState) (msg : BaseMsg) (k : Name) → name_in msg ≡ Some k → OfName have msg (served have b msg)
of_name have b (BaseMsg.Fence e) k name = absurd (cc)
of_name have b (BaseMsg.GetChunk e op n at) k name =
    in_each (OfName have (BaseMsg.GetChunk e op n at)) have e _ (record { epoch = refl; now = none_now have (BaseMsg.GetChunk e op n at) None refl }) (record { epoch = refl; now = none_now have (BaseMsg.GetChunk e op n at) None refl })
    (λ same. record { epoch = refl; now = λ t _. same })
of_name have b (BaseMsg.Look e op n v) k name =
    in_each (OfName have (BaseMsg.Look e op n v)) have e _ (record { epoch = refl; now = none_now have (BaseMsg.Look e op n v) None refl }) (record { epoch = refl; now = none_now have (BaseMsg.Look e op n v) None refl })
    (λ same. record { epoch = refl; now = λ t _. same })
of_name have b (BaseMsg.Write e op r) k name =
    in_each (OfName have (BaseMsg.Write e op r)) have e _ (record { epoch = refl; now = none_now have (BaseMsg.Write e op r) None refl }) (record { epoch = refl; now = none_now have (BaseMsg.Write e op r) None refl })
    (λ same. record { epoch = refl; now = λ t _. same })
of_name have b (BaseMsg.Install e op n t) k name =
    in_each (OfName have (BaseMsg.Install e op n t)) have e _ (record { epoch = refl; now = none_now have (BaseMsg.Install e op n t) None refl }) (record { epoch = refl; now = none_now have (BaseMsg.Install e op n t) None refl })
    (λ same. record { epoch = refl; now = λ t _. same })

pub name_epoch : (have : ℕ) (b : NameState) (msg : BaseMsg) (k : Name) → name_in msg ≡ Some k → (served have b msg).epoch ≡ have
name_epoch have b msg k name = (of_name have b msg k name).epoch

pub put_now : (have : ℕ) (b t : NameState) (msg : BaseMsg) (k : Name) → name_in msg ≡ Some k → (served have b msg).put ≡ Some t → epoch_in msg ≡ have
put_now have b t msg k name put = (of_name have b msg k name).now t put

-- a Fence of a greater epoch is taken
pub fence_is : (have e : ℕ) (b : NameState) → have < e → served have b (BaseMsg.Fence e) ≡ replies e (BaseReply.Fenced e)
fence_is have e b later = let low : nat_lt e have ≡ false = le-ltb e have (omega (arith, later)) in rw (low) refl

-- ---- the acts behind it

pub acts_none : (msg : BaseMsg) (p : Option NameState) → p ≡ None → (acts : List Req) → acts_with msg p acts ≡ acts
acts_none (BaseMsg.Fence e) p none acts = refl
acts_none (BaseMsg.GetChunk e op k at) p none acts = refl
acts_none (BaseMsg.Look e op k x) p none acts = refl
acts_none (BaseMsg.Write e op r) None none acts = refl
acts_none (BaseMsg.Write e op r) (Some t) none acts = absurd (cc)
acts_none (BaseMsg.Install e op k t) p none acts = refl

pub acts_still : (msg : BaseMsg) (p : Option NameState) → is_write_message msg ≡ false → (acts : List Req) → acts_with msg p acts ≡ acts
acts_still (BaseMsg.Fence e) p none acts = refl
acts_still (BaseMsg.GetChunk e op k at) p none acts = refl
acts_still (BaseMsg.Look e op k x) p none acts = refl
acts_still (BaseMsg.Write e op r) p none acts = absurd (cc)
acts_still (BaseMsg.Install e op k t) p none acts = refl

pub unput : (name : Option Name) (p : Option NameState) → p ≡ None → (base : Store) → put_at name p base ≡ base
unput None p e base = refl
unput (Some k) None e base = refl
unput (Some k) (Some t) e base = absurd (cc)

-- ---- the map behind it

pub needs_based : (v : GroupView) (msg : BaseMsg) (b : NameState) (cs : List Change) (y : Table) (base : Store) → NeedsChange v msg b cs → SpellsBase y base v.standing.base_epoch
    → SpellsBase (changed_by y cs) (put_at (name_in msg) (served_there v b msg).put base) (served_there v b msg).epoch
needs_based v msg b cs y base (puts k t bytes name put spelled named is) h =
    subst (λ c. SpellsBase (changed_by y c) (put_at (name_in msg) (served_there v b msg).put base) (served_there v b msg).epoch) (sym is)
    (subst (λ e. SpellsBase (changed_by y (sets (state_key k) (Some bytes))) (put_at (name_in msg) (served_there v b msg).put base) e) (sym (name_epoch v.standing.base_epoch b msg k name))
    (subst (λ n. SpellsBase (changed_by y (sets (state_key k) (Some bytes))) (put_at n (served_there v b msg).put base) v.standing.base_epoch) (sym name)
    (subst (λ p. SpellsBase (changed_by y (sets (state_key k) (Some bytes))) (put_at (Some k) p base) v.standing.base_epoch) (sym put)
    (base_with y base v.standing.base_epoch k bytes t spelled named h))))
needs_based v msg b cs y base (rises e bytes same later spelled is) h =
    subst (λ c. SpellsBase (changed_by y c) (put_at (name_in msg) (served_there v b msg).put base) (served_there v b msg).epoch) (sym is)
    (subst (λ x. SpellsBase (changed_by y (sets epoch_key (Some bytes))) (put_at (name_in x) (served_there v b x).put base) (served_there v b x).epoch) (sym same)
    (subst (λ o. SpellsBase (changed_by y (sets epoch_key (Some bytes))) base o.epoch) (sym (fence_is v.standing.base_epoch e b later))
    (base_at y base v.standing.base_epoch e bytes spelled h)))

-- ---- the worlds

module _ (v : GroupView) (m : Sent) (b : NameState) (out : Served) (on : IsIn m v.traffic.messages) (reads : ReadsThere v m.message b) (is : served_there v b m.message ≡ out)
    (quiet : acts_with m.message out.put (joined v).memory.acts ≡ (joined v).memory.acts) where
  abbrev Mem : Memory
  Mem = (joined v).memory

  abbrev L : Ledger
  L = ledger_in v

  -- made and told
  abbrev Told : Memory
  Told = record Mem { net = record Mem.net { base_epoch = out.epoch; replies = out.reply ∷ Mem.net.replies } }

  -- made, and nobody was told
  abbrev Torn : Memory
  Torn = record Mem { net = record Mem.net { base_epoch = out.epoch } }

  pub on_net : IsIn m.message Mem.net.wire
  on_net = on_wire v.traffic.messages m on

  module _ (start : Store) (z : TwoMaps) (i : AreLeft (joined v) z) (k : IsOwned start Mem L z) where
    abbrev T : Tier
    T = tier_of start Mem k.spells.recs k.spells.base

    abbrev Now : Store
    Now = put_at (name_in m.message) out.put k.spells.base

    same : delivered m.message T ≡ with_served m.message out T
    same = is_delivered start (joined v) z m.message b out on_net reads is i k.spells

    done : SoundOwners (delivered m.message T) L
    done = delivering_owned T L m.message k.spells.sound k.owners on_net (ap (λ t. t.acts) same ∙ quiet)

    pub told_owned : (t : Table) → SpellsBase t Now out.epoch → IsOwned start Told L (record z { base = t })
    told_owned t based = record {
      spells = record {
        recs = k.spells.recs;
        base = Now;
        cached = k.spells.cached;
        based = based;
        sound = subst (λ a. IsSound (tier_of start (record Told { acts = a }) k.spells.recs Now)) quiet (served_sound start (joined v) z m.message b out on_net reads is i k.spells);
      };
      owners = subst (λ a. SoundOwners (tier_of start (record Told { acts = a }) k.spells.recs Now) L) quiet (subst (λ d. SoundOwners d L) same done);
    }

    torn_is : taken m.message T ≡ tier_of start (record Torn { acts = acts_with m.message out.put Mem.acts }) k.spells.recs Now
    torn_is = ap {A = Tier} {B = Tier} (λ d. record d { net = record d.net { wire = Mem.net.wire; replies = Mem.net.replies } }) same

    quietly : SoundOwners (taken m.message T) L
    quietly = quiet_keeps (delivered m.message T) (taken m.message T) L done
        ((losses_quiet (delivered m.message T) (delivering T m.message k.spells.sound on_net)).0 (taken m.message T) (taken_is_lost T m.message))

    pub torn_owned : (t : Table) → SpellsBase t Now out.epoch → IsOwned start Torn L (record z { base = t })
    torn_owned t based = record {
      spells = record {
        recs = k.spells.recs;
        base = Now;
        cached = k.spells.cached;
        based = based;
        sound = subst (λ a. IsSound (tier_of start (record Torn { acts = a }) k.spells.recs Now)) quiet (taken_sound start (joined v) z m.message b out on_net reads is i k.spells);
      };
      owners = subst (λ a. SoundOwners (tier_of start (record Torn { acts = a }) k.spells.recs Now) L) quiet (subst (λ d. SoundOwners d L) torn_is quietly);
    }
