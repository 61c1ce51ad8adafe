-- What the laws say.
use Rattle.std.specs.Prelude.{◌≡◌, ◌||◌, ℕ, Bool, false, List, Option, Some, Result, Ok, codes, bytes_eq, option_and_then}
use Rattle.serde_json.specs.Data.{Members, no_members, member}
use Rattle.serde_json.specs.Find.{as_object}
use Rattle.obj_model.specs.declared.tier.PoolValues.{PoolValues}
use Rattle.settings_json.specs.Settings.{defaults, json_of, settings_of}

-- an object names this key
abbrev pub names : List ℕ → Members → Bool
names key no_members = false
names key (member k d ms) = bytes_eq k key || names key ms

-- the values of the keys that an object does not name are those of before
pub record KeepsUnnamed (ms : Members) (before after : PoolValues) : Type 0 where
  pub hit_set_type :
      names (codes "hit_set_type") ms ≡ false →
      after.hit_set_type ≡ before.hit_set_type
  pub hit_set_count :
      names (codes "hit_set_count") ms ≡ false →
      after.hit_set_count ≡ before.hit_set_count
  pub hit_set_period :
      names (codes "hit_set_period") ms ≡ false →
      after.hit_set_period ≡ before.hit_set_period
  pub hit_set_fpp :
      names (codes "hit_set_fpp") ms ≡ false →
      after.hit_set_fpp ≡ before.hit_set_fpp
  pub hit_set_grade_decay_rate :
      names (codes "hit_set_grade_decay_rate") ms ≡ false →
      after.hit_set_grade_decay_rate ≡ before.hit_set_grade_decay_rate
  pub hit_set_search_last_n :
      names (codes "hit_set_search_last_n") ms ≡ false →
      after.hit_set_search_last_n ≡ before.hit_set_search_last_n
  pub cache_mode :
      names (codes "cache_mode") ms ≡ false →
      after.cache_mode ≡ before.cache_mode
  pub target_max_bytes :
      names (codes "target_max_bytes") ms ≡ false →
      after.target_max_bytes ≡ before.target_max_bytes
  pub target_max_objects :
      names (codes "target_max_objects") ms ≡ false →
      after.target_max_objects ≡ before.target_max_objects
  pub cache_target_dirty_ratio :
      names (codes "cache_target_dirty_ratio") ms ≡ false →
      after.cache_target_dirty_ratio ≡ before.cache_target_dirty_ratio
  pub cache_target_dirty_high_ratio :
      names (codes "cache_target_dirty_high_ratio") ms ≡ false →
      after.cache_target_dirty_high_ratio ≡ before.cache_target_dirty_high_ratio
  pub cache_target_full_ratio :
      names (codes "cache_target_full_ratio") ms ≡ false →
      after.cache_target_full_ratio ≡ before.cache_target_full_ratio
  pub cache_min_flush_age :
      names (codes "cache_min_flush_age") ms ≡ false →
      after.cache_min_flush_age ≡ before.cache_min_flush_age
  pub cache_min_evict_age :
      names (codes "cache_min_evict_age") ms ≡ false →
      after.cache_min_evict_age ≡ before.cache_min_evict_age
  pub min_read_recency_for_promote :
      names (codes "min_read_recency_for_promote") ms ≡ false →
      after.min_read_recency_for_promote ≡ before.min_read_recency_for_promote
  pub min_write_recency_for_promote :
      names (codes "min_write_recency_for_promote") ms ≡ false →
      after.min_write_recency_for_promote ≡ before.min_write_recency_for_promote

-- settings leave each value that their object does not name at its default
abbrev pub UnnamedAreDefaults : Type 0
UnnamedAreDefaults =
    (bytes : List ℕ) (ms : Members) (v : PoolValues) →
    option_and_then as_object (json_of bytes) ≡ Some ms → settings_of bytes ≡ Ok v →
    KeepsUnnamed ms defaults v
