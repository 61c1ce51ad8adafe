-- No move takes an epoch back.
use Rattle.std.specs.Prelude.{◌≤◌, ℕ, List}
use Rattle.copy_chunk.specs.declared.chunk.Chunk.{Chunk}
use Rattle.obj_model.specs.declared.req.Req.{Req}
use Rattle.obj_model.specs.declared.state.NameState.{NameState}
use Rattle.tier_protocol.specs.Tiers.{Name, Ask, Flight, TierRec, BaseMsg, Net, Tier}
use Rattle.tier_protocol.specs.Moves.{acted_here, begun, cleaned, counted_raised, delivered, drained, epoch_found, evicted, filled, gathered, landed, promoted, raised_to, sent, stopped_base, stopped_cache, taken, went_up, Loses, MayRaise}

-- the epoch of neither pool is lower than it was
pub record EpochsRise (old new : Net) : Type 0 where
  pub cache : old.cache_epoch ≤ new.cache_epoch
  pub base : old.base_epoch ≤ new.base_epoch

-- Each move. Only a raise, or one that is found, wants its guard: the others take no epoch back
-- whatever the pair was.
pub record EpochsOnlyRise : Type 0 where
  pub delivers : (t : Tier) (m : BaseMsg) → EpochsRise t.net (delivered m t).net
  pub takes : (t : Tier) (m : BaseMsg) → EpochsRise t.net (taken m t).net
  pub fills : (t : Tier) (m : BaseMsg) (used need limit : ℕ)
      → EpochsRise t.net (filled m used need limit t).net
  pub acts_here : (t : Tier) (q : Req) (s : NameState) (moment : ℕ)
      → EpochsRise t.net (acted_here q s moment t).net
  pub gathers : (t : Tier) (k : Name) (call op : ℕ) (gather : List Chunk) (ask : Ask) (x : Chunk)
      → EpochsRise t.net (gathered k call op gather ask x t).net
  pub promotes : (t : Tier) (k : Name) (s : NameState) (moment : ℕ)
      → EpochsRise t.net (promoted k s moment t).net
  pub cleans : (t : Tier) (k : Name) (r : TierRec) → EpochsRise t.net (cleaned k r t).net
  pub drains : (t : Tier) (k : Name) → EpochsRise t.net (drained k t).net
  pub evicts : (t : Tier) (k : Name) → EpochsRise t.net (evicted k t).net
  pub begins : (t : Tier) (k : Name) (f : Flight) → EpochsRise t.net (begun k f t).net
  pub sends : (t : Tier) (m : BaseMsg) → EpochsRise t.net (sent m t).net
  pub lands : (t : Tier) (k : Name) → EpochsRise t.net (landed k t).net
  pub loses : (t u : Tier) → Loses t u → EpochsRise t.net u.net
  pub stops_cache : (t : Tier) → EpochsRise t.net (stopped_cache t).net
  pub stops_base : (t : Tier) → EpochsRise t.net (stopped_base t).net
  pub raises : (t : Tier) (e : ℕ) → MayRaise t e → EpochsRise t.net (raised_to e t).net
  pub finds : (t : Tier) (e : ℕ) → MayRaise t e → EpochsRise t.net (epoch_found e t).net
  pub counts : (t : Tier) → EpochsRise t.net (counted_raised t).net
  pub goes_up : (t : Tier) → EpochsRise t.net (went_up t).net

-- two moves one after the other
abbrev pub RisesJoin : Type 0
RisesJoin = (a b c : Net) → EpochsRise a b → EpochsRise b c → EpochsRise a c
