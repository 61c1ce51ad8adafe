-- A group is attached.
use Rattle.std.proofs.Common.{◌≡◌, ◌+◌, ℕ, Bool, true, false, if◌then◌else◌, Option, None, refl, sym, ap, subst, ◌∙◌}
use Rattle.std.specs.FinMap as fin
use Rattle.agent_state.specs.Modes.{idle_modes}
use Rattle.agent_state.specs.declared.modes.Modes.{Modes}
use Rattle.base_pool.specs.Opens.{Attaches as IsOpened}
use Rattle.base_pool.specs.Views.{BaseView, SoundBase}
use Rattle.obj_ops.specs.Stores.{Store}
use Rattle.pool_keys.proofs.Epochs.{epoch_one}
use Rattle.pool_keys.proofs.Leaving.{live_one}
use Rattle.pool_keys.specs.Keys.{epoch_key}
use Rattle.pool_keys.specs.Left.{Tells}
use Rattle.tier_calls.specs.Tables.{TableView}
use Rattle.pool_survey.specs.Surveys.{AreSumsOf, InBoth, IsSurvey}
use Rattle.pool_survey.specs.declared.told.Survey.{Survey}
use Rattle.store_face.proofs.Later.{holds_back, holds_on, stays_twice}
use Rattle.store_face.specs.Calls.{Stays}
use Rattle.store_face.specs.Tables.{Table}
use Rattle.store_face.specs.Views.{Holds, Sound, StoreView}
use Rattle.tier_chron.specs.Logs.{Log, empty_log}
use Rattle.tier_join.proofs.Left.{read_is_left, some_left}
use Rattle.tier_join.specs.Promises.{StandsAt}
use Rattle.tier_view.proofs.FoundingGroups.{founding_keeps}
use Rattle.tier_view.specs.Founding.{StandThere, found_stores, no_calls, nothing_between}
use Rattle.tier_protocol.specs.Tiers.{Phase}
use Rattle.tier_view.specs.Calls.{Calls}
use Rattle.tier_view.specs.Traffic.{Traffic}
use Rattle.tier_view.specs.Views.{GroupView}
use Rattle.tier_view.specs.Whole.{AreSums}
use Rattle.tier_core.specs.Founds.{Attaches, MayBeFound, found_agent, found_over}
use Rattle.tier_core.proofs.Kept.{seen_opened}
use Rattle.tier_core.specs.Keeps.{IsKept}
use Rattle.tier_core.specs.Parts.{group_of, seen_base, stores_of}
use Rattle.tier_core.specs.declared.parts.Agent.{Agent}
use Rattle.tier_core.specs.declared.parts.Start.{Start}
use Rattle.tier_core.specs.declared.attaching.Setup.{Setup}
use Rattle.pool_keys.specs.Values.{IsAtEpoch}

-- a live store that was read, which has one map
pub record IsRead (s : StoreView) : Type 0 where
  pub sound : Sound s
  pub live : s.live ≡ true

-- what was read of both is what they stand for
module _ (cache base caches bases : StoreView) (told : Survey) (epoch : ℕ) (read_cache : IsRead caches) (read_base : IsRead bases)
    (one : Stays cache caches) (other : Stays base bases) (both : InBoth cache base (IsSurvey told)) (at : Holds base (IsAtEpoch epoch)) where
  pub stand : (Tells caches × Tells bases) → (start : Store) × StandThere start caches bases told.cache_epoch epoch
  stand tells =
      let x = some_left caches tells.0 in
      let y = some_left bases tells.1 in
      let held : Holds base (IsSurvey told x.0) =
      read_is_left caches (λ (t : Table). Holds base (IsSurvey told t)) read_cache.sound read_cache.live
      (holds_on cache caches (λ (t : Table). Holds base (IsSurvey told t)) one both) x.0 x.1 in
      let s : IsSurvey told x.0 y.0 = read_is_left bases (IsSurvey told x.0) read_base.sound read_base.live (holds_on base bases (IsSurvey told x.0) other held) y.0 y.1 in
      let there : IsAtEpoch epoch y.0 = read_is_left bases (IsAtEpoch epoch) read_base.sound read_base.live (holds_on base bases (IsAtEpoch epoch) other at) y.0 y.1 in
      let same : told.base_epoch ≡ epoch = epoch_one (fin.get y.0 epoch_key) told.base_epoch epoch s.stands.based.is_epoch there in
      let stands : StandsAt told.cache_epoch epoch (record { cache = x.0; base = y.0 }) s.plain =
      subst (λ n. StandsAt told.cache_epoch n (record { cache = x.0; base = y.0 }) s.plain) same s.stands in (
        s.plain,
        λ z i j.
            subst (λ (t : Table). StandsAt told.cache_epoch epoch (record { cache = t; base = z.base }) s.plain) ((live_one caches read_cache.sound read_cache.live).only x.0 z.cache x.1 i)
            (subst (λ (u : Table). StandsAt told.cache_epoch epoch (record { cache = x.0; base = u }) s.plain) ((live_one bases read_base.sound read_base.live).only y.0 z.base y.1 j) stands),
      )

-- the sums are those over the records
pub sums_found : (cache caches base : StoreView) (told : Survey) (setup : Setup) → IsRead caches → Stays cache caches → Holds cache (AreSumsOf told.totals)
    → AreSums (found_stores caches base) (found_agent told.totals setup)
sums_found cache caches base told setup read stays holds =
    λ known x left recs epoch spelled. read_is_left caches (AreSumsOf told.totals) read.sound read.live (holds_on cache caches (AreSumsOf told.totals) stays holds) x left recs epoch spelled

-- ---- the group

module _ (cache : StoreView) (base : BaseView) (told : Survey) (setup : Setup) where
  pub found_kept : (table : TableView) → table.earlier ≡ 0 → MayBeFound cache base told setup → IsKept (found_over cache base told setup) base table
  found_kept table first h = record {
    whole = (founding_keeps cache (seen_base base) told.cache_epoch base.epoch (found_agent told.totals setup) h.stands h.sums).0;
    cached = h.cached;
    based = h.based;
    level = λ live. refl;
    counted = ap (λ n. 1 + n) first;
    messages = tt;
    asked = tt;
  }

-- what was read of both stores, and then of the base's again
module _ (cache base caches between : StoreView) (b : BaseView) (told : Survey) (setup : Setup) (one : Stays cache caches) (other : Stays base between)
    (opened : IsOpened between b) (based : SoundBase b) (cached : Sound caches) (cache_live : cache.live ≡ true) (base_live : base.live ≡ true)
    (both : InBoth cache base (IsSurvey told)) (sums : Holds cache (AreSumsOf told.totals)) where
  read_cache : IsRead caches
  read_cache = record { sound = cached; live = one.live ∙ cache_live }

  read_base : IsRead (seen_base b)
  read_base = subst IsRead (sym (seen_opened b opened.opened)) (record { sound = based.sound; live = opened.stays.live ∙ (other.live ∙ base_live) })

  base_stays : Stays base (seen_base b)
  base_stays = subst (Stays base) (sym (seen_opened b opened.opened)) (stays_twice base between b.store other opened.stays)

  at : Holds base (IsAtEpoch b.epoch)
  at = holds_back base between (IsAtEpoch b.epoch) other opened.epoch

  pub may_found : MayBeFound caches b told setup
  may_found = record {
    cached = cached;
    based = based;
    stands = stand cache base caches (seen_base b) told b.epoch read_cache read_base one base_stays both at;
    sums = sums_found cache caches (seen_base b) told setup read_cache one sums;
  }

  pub attached : Attaches cache base setup (found_over caches b told setup)
  attached =
      let keeps = founding_keeps caches (seen_base b) told.cache_epoch b.epoch (found_agent told.totals setup) may_found.stands may_found.sums in
      record {
        told = told;
        stays = record { cache_stays = one; base_stays = base_stays };
        both = both;
        sums = sums;
        epoch = at;
        is = refl;
        whole = keeps.0;
        stands = may_found.stands;
        began = keeps.1;
      }

-- ---- the parts, as they are found

abbrev pub begun_start : Survey → (base_epoch : ℕ) → Start
begun_start told epoch = record { cache_epoch = told.cache_epoch; base_epoch = epoch; next_opid = 1; phase = Phase.Down; fenced = false; kept = None }

abbrev pub begun_agent : Survey → Setup → Modes → Agent
begun_agent told setup modes = record { values = setup.values; share = setup.share; mode = setup.mode; modes = modes; moment = setup.moment; cursor = None; totals = told.totals }

-- the group that is made of them
abbrev pub made : StoreView → BaseView → Survey → Setup → Log → Calls → Traffic → Modes → (base_epoch : ℕ) → GroupView
made cache base told setup log calls traffic modes epoch =
    group_of (stores_of cache base false false None) log calls traffic (begun_start told epoch) (begun_agent told setup modes)

pub made_is : (cache : StoreView) (base : BaseView) (told : Survey) (setup : Setup) (log : Log) (calls : Calls) (traffic : Traffic) (modes : Modes) (epoch : ℕ)
    → log ≡ empty_log → calls ≡ no_calls → traffic ≡ nothing_between → modes ≡ idle_modes → epoch ≡ base.epoch
    → made cache base told setup log calls traffic modes epoch ≡ found_over cache base told setup
made_is cache base told setup log calls traffic modes epoch logged none nothing idle same =
    ap (λ (x : Log). made cache base told setup x calls traffic modes epoch) logged
    ∙ ap (λ (x : Calls). made cache base told setup empty_log x traffic modes epoch) none
    ∙ ap (λ (x : Traffic). made cache base told setup empty_log no_calls x modes epoch) nothing
    ∙ ap (λ (x : Modes). made cache base told setup empty_log no_calls nothing_between x epoch) idle
    ∙ ap (λ (x : ℕ). made cache base told setup empty_log no_calls nothing_between idle_modes x) same
