-- How a name is promoted: the promotion begins, asks for its chunks, and gathers them.
use Rattle.std.specs.Prelude.{◌≡◌, ◌<◌, ◌≤◌, ◌+◌, ℕ, List, Option, Some, None, Result, Ok, Err}
use Rattle.obj_model.specs.Limits.{number_limit}
use Rattle.tier_core.specs.Proxies.{awaits}
use Rattle.tier_core.specs.declared.promoting.PromoteFault.{PromoteFault}
use Rattle.tier_core.specs.declared.promoting.PromoteFault.TheVariants as fault
use Rattle.tier_join.specs.Promises.{as_it_is}
use Rattle.tier_promote.specs.Begins.{AsksFor}
use Rattle.tier_promote.specs.Gathers.{GathersIn}
use Rattle.tier_promote.specs.declared.gathering.Gathered.{Gathered}
use Rattle.tier_types.specs.declared.flight.Ask.{Ask}
use Rattle.tier_view.specs.Laws.{Keeps}
use Rattle.tier_view.specs.Traffic.{Traffic}
use Rattle.tier_view.specs.Views.{GroupView}
use Rattle.tier_works.specs.Promotions.{flown_promotion}

-- ---- a promotion begins

-- it begins under the next operation's number, without a chunk; the first is asked for, and its
-- call awaits the reply
abbrev pub promotion_begun : (call : ℕ) → Ask → GroupView → GroupView
promotion_begun call ask v = awaits call v.traffic.next_message (flown_promotion call ask v)

-- it has begun, with a message of this number
pub record HasBegun (call : ℕ) (ask : Ask) (old new : GroupView) (number : ℕ) : Type 0 where
  pub number_is : number ≡ old.traffic.next_message
  pub is : new ≡ promotion_begun call ask old
  pub step : Keeps as_it_is None old new

-- all numbers of operations were given, and nothing has changed
pub record IsWornOut (old new : GroupView) (limit : ℕ) : Type 0 where
  pub limit_is : limit ≡ number_limit
  pub high : number_limit ≤ old.standing.next_opid
  pub same : new ≡ old

-- what comes of it where it may begin: the numbers are at their end, or there was no memory, and
-- nothing has changed then
abbrev pub BeginsOr : (call : ℕ) → Ask → (old new : GroupView) → Result ℕ PromoteFault → Type 0
BeginsOr call ask old new (Ok number) = HasBegun call ask old new number
BeginsOr call ask old new (Err (fault.Worn limit)) = IsWornOut old new limit
BeginsOr call ask old new (Err fault.NoMemory) = new ≡ old

-- ---- chunks

-- the same group with this between the pools
abbrev pub with_traffic : Traffic → GroupView → GroupView
with_traffic t v = record v { traffic = t }

-- The chunk that the promotion on a name wants is asked for, or it wants none: nothing but the
-- traffic changes.
pub record AsksOn (name : List ℕ) (old new : GroupView) (asked : Option ℕ) : Type 0 where
  pub rest : new ≡ with_traffic new.traffic old
  pub asks : AsksFor old.standing.cache_epoch name old.traffic new.traffic asked

-- what comes of the reply of a number: nothing but the traffic changes
pub record Gathers (number : ℕ) (old new : GroupView) (made : Gathered) : Type 0 where
  pub rest : new ≡ with_traffic new.traffic old
  pub gathers : GathersIn old.standing.cache_epoch number old.traffic new.traffic made
