-- A group that is attached.
use Rattle.std.specs.Prelude.{◌≡◌, None, Ok, Err}
use Rattle.agent_state.specs.Modes.{idle_modes}
use Rattle.base_pool.specs.Opens.{ReadsEpoch}
use Rattle.base_pool.specs.Views.{BaseView, SoundBase}
use Rattle.obj_ops.specs.Stores.{Store}
use Rattle.pool_survey.specs.Surveys.{AreSumsOf, BothStay, InBoth, IsSurvey, Surveys}
use Rattle.pool_survey.specs.declared.told.Survey.{Survey}
use Rattle.store_face.specs.Views.{Holds, Sound, StoreView}
use Rattle.tier_core.specs.Parts.{seen_base}
use Rattle.tier_core.specs.declared.attaching.AttachFault.{AttachFault}
use Rattle.tier_core.specs.declared.attaching.AttachFault.TheVariants as fault
use Rattle.tier_core.specs.declared.attaching.Setup.{Setup}
use Rattle.tier_join.specs.Group.{BothTell}
use Rattle.tier_view.specs.Agents.{Agents}
use Rattle.tier_view.specs.Founding.{StandThere, found_group, found_stores}
use Rattle.tier_view.specs.Views.{GroupView, joined}
use Rattle.tier_view.specs.Whole.{AreSums, IsWhole}
use Rattle.tier_view.specs.Worlds.{Began}
use Rattle.agent_state.specs.declared.totals.Totals.{Totals}
use Rattle.pool_keys.specs.Values.{IsAtEpoch}

-- the agent of a group that is attached, with these sums over the cache's records
abbrev pub found_agent : Totals → Setup → Agents
found_agent totals setup = record {
  values = setup.values;
  share = setup.share;
  mode = setup.mode;
  modes = idle_modes;
  moment = setup.moment;
  cursor = None;
  totals = totals;
}

-- a group over a cache's store and a base, at the epochs that were read
abbrev pub found_over : StoreView → BaseView → Survey → Setup → GroupView
found_over cache base told setup =
    found_group cache (seen_base base) told.cache_epoch base.epoch (found_agent told.totals setup)

-- what has to be known of them
pub record MayBeFound (cache : StoreView) (base : BaseView) (told : Survey) (setup : Setup) : Type 0
  where
    pub cached : Sound cache
    pub based : SoundBase base
    pub stands : BothTell (joined (found_over cache base told setup))
        → (start : Store) × StandThere start cache (seen_base base) told.cache_epoch base.epoch
    pub sums : AreSums (found_stores cache (seen_base base)) (found_agent told.totals setup)

-- A group was attached over a cache and a base, which stay as they were: what it was told of them,
-- of both where both tell, and of the cache's sums and the base's epoch by themselves; and it is
-- the group that is found there. It has what always holds, and began at each plain store that its
-- pools stand for.
pub record Attaches (cache base : StoreView) (setup : Setup) (g : GroupView) : Type 0 where
  pub told : Survey
  pub stays : BothStay cache g.stores.cache base g.stores.base
  pub both : InBoth cache base (IsSurvey told)
  pub sums : Holds cache (AreSumsOf told.totals)
  pub epoch : Holds base (IsAtEpoch g.standing.base_epoch)
  pub is : g ≡ found_group g.stores.cache g.stores.base told.cache_epoch g.standing.base_epoch
      (found_agent told.totals setup)
  pub whole : IsWhole g
  pub stands : BothTell (joined g)
      → (start : Store) × StandThere start g.stores.cache g.stores.base g.standing.cache_epoch
      g.standing.base_epoch
  pub began : (start : Store)
      → StandThere start g.stores.cache g.stores.base g.standing.cache_epoch g.standing.base_epoch
      → Began start g

-- No group is attached: what the two stores hold is told, as far as it was read; or both stand for
-- a plain store, and the base's epoch could not be read again behind that.
abbrev pub Refuses : (cache caches base bases : StoreView) → AttachFault → Type 0
Refuses cache caches base bases (fault.Survey f) = Surveys cache caches base bases (Err f)
Refuses cache caches base bases (fault.Base f) =
    (told : Survey) × (between : StoreView) × Surveys cache caches base between (Ok told)
    × ReadsEpoch between bases (Err f)
