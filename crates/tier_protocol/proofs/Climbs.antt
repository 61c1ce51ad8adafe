-- No move takes an epoch back.
use Rattle.std.proofs.Common.{◌≡◌, ◌≤◌, ℕ, Bool, true, false, refl, sym, ap, arith}
use Rattle.std.specs.Prelude.{if◌then◌else◌, nat_lt}
use Rattle.std.proofs.lemmas.Bool.{ltb-false}
use Rattle.obj_model.specs.declared.state.NameState.{NameState}
use Rattle.tier_types.specs.Serving.{Served, in_epoch, replies, served}
use Rattle.tier_protocol.specs.Tiers.{BaseMsg, BaseReply, Net, Tier}
use Rattle.tier_protocol.specs.Moves.{delivered, state_for, Loses}
use Rattle.tier_types.specs.Serving.{name_in}
use Rattle.tier_protocol.specs.Rising.{EpochsOnlyRise, EpochsRise, RisesJoin}

-- a change that leaves both epochs
same_epochs : (a b : Net) → a.cache_epoch ≡ b.cache_epoch → a.base_epoch ≡ b.base_epoch
    → EpochsRise a b
same_epochs a b cache base =
    record { cache = omega (arith, cache); base = omega (arith, base) }

pub rises_join : RisesJoin
rises_join a b c first second = record {
  cache = omega (arith, first.cache, second.cache);
  base = omega (arith, first.base, second.base);
}

in_epoch_rises : (have e : ℕ) (done : Served) → done.epoch ≡ have
    → have ≤ (in_epoch have e done).epoch
in_epoch_rises have e done same = by (nat_lt e have) (nat_lt have e)
  where
    by : (b c : Bool)
        → have ≤ (if b then replies have (BaseReply.OldEpoch have e) else if c then replies have
        (BaseReply.NotFenced have e) else done).epoch
    by true c = omega arith
    by false true = omega arith
    by false false = omega (arith, same)

-- a base that served a message is at no lower epoch
pub served_rises : (have : ℕ) (s : NameState) (m : BaseMsg) → have ≤ (served have s m).epoch
served_rises have s (BaseMsg.Fence e) = by (nat_lt e have) refl
  where
    by : (b : Bool) → nat_lt e have ≡ b
        → have ≤ (if b then replies have (BaseReply.OldEpoch have e)
        else replies e (BaseReply.Fenced e)).epoch
    by true lt = omega arith
    by false lt = ltb-false e have lt
served_rises have s (BaseMsg.GetChunk e op name at) = in_epoch_rises have e _ refl
served_rises have s (BaseMsg.Look e op name v) = in_epoch_rises have e _ refl
served_rises have s (BaseMsg.Write e op r) = in_epoch_rises have e _ refl
served_rises have s (BaseMsg.Install e op name t) = in_epoch_rises have e _ refl

pub delivered_rises : (t : Tier) (m : BaseMsg) → EpochsRise t.net (delivered m t).net
delivered_rises t m = record {
  cache = omega arith;
  base = served_rises t.net.base_epoch (state_for (name_in m) t.base) m;
}

pub loses_rises : (t u : Tier) → Loses t u → EpochsRise t.net u.net
loses_rises t u h = same_epochs t.net u.net
    (sym (ap (λ x. x.net.cache_epoch) h.same)) (sym (ap (λ x. x.net.base_epoch) h.same))

pub epochs_only_rise : EpochsOnlyRise
epochs_only_rise = record {
  delivers = delivered_rises;
  takes = λ t m. record {
    cache = omega arith;
    base = served_rises t.net.base_epoch (state_for (name_in m) t.base) m;
  };
  fills = λ t m used need limit. same_epochs _ _ refl refl;
  acts_here = λ t q s moment. same_epochs _ _ refl refl;
  gathers = λ t k call op gather ask x. same_epochs _ _ refl refl;
  promotes = λ t k s moment. same_epochs _ _ refl refl;
  cleans = λ t k r. same_epochs _ _ refl refl;
  drains = λ t k. same_epochs _ _ refl refl;
  evicts = λ t k. same_epochs _ _ refl refl;
  begins = λ t k f. same_epochs _ _ refl refl;
  sends = λ t m. same_epochs _ _ refl refl;
  lands = λ t k. same_epochs _ _ refl refl;
  loses = loses_rises;
  stops_cache = λ t. same_epochs _ _ refl refl;
  stops_base = λ t. same_epochs _ _ refl refl;
  raises = λ t e may. record { cache = omega (arith, may.later); base = omega arith };
  finds = λ t e may. record { cache = omega (arith, may.later); base = omega arith };
  counts = λ t. same_epochs _ _ refl refl;
  goes_up = λ t. same_epochs _ _ refl refl;
}
