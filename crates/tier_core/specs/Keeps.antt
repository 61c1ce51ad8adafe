-- What always holds of a group that is carried out.
use Rattle.std.specs.Prelude.{◌≡◌, ◌+◌, false, length}
use Rattle.std.specs.List.{AllByRecursion, list_any}
use Rattle.base_pool.specs.Serves.{IsMsg, IsWriteReq}
use Rattle.base_pool.specs.Views.{BaseView, IsLive, SoundBase}
use Rattle.obj_model.specs.SubOps.{is_write}
use Rattle.store_face.specs.Views.{Sound}
use Rattle.tier_calls.specs.Tables.{TableView}
use Rattle.tier_chron.specs.declared.asked.Asked.{Asked}
use Rattle.tier_chron.specs.declared.asked.Asked.TheVariants.{Write, Read}
use Rattle.tier_view.specs.Views.{GroupView}
use Rattle.tier_view.specs.Whole.{IsWhole}

-- what is asked is within its limits: a request writes, and a reading does not
abbrev pub MayBeAsked : Asked → Type 0
MayBeAsked (Write r) = IsWriteReq r
MayBeAsked (Read client name vector) = list_any is_write vector ≡ false
MayBeAsked other = Unit {0}

-- A group, with its base and its table of calls as their crates see them: what always holds of its
-- plain data; both stores are sound; a live base is at the epoch that is kept of it; the work of the
-- present epoch is counted by the next operation's number; and every message on the wire, and all
-- that was asked, is within its limits.
pub record IsKept (v : GroupView) (base : BaseView) (table : TableView) : Type 0 where
  pub whole : IsWhole v
  pub cached : Sound v.stores.cache
  pub based : SoundBase base
  pub level : IsLive base → base.epoch ≡ v.standing.base_epoch
  pub counted : v.standing.next_opid + table.earlier ≡ length v.calls.flown + 1
  pub messages : AllByRecursion (λ s. IsMsg s.message) v.traffic.messages
  pub asked : AllByRecursion (λ e. MayBeAsked e.asked) v.calls.entries
