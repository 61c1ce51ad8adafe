-- What the bytes of the settings say: pool values, or what is wrong.
use Rattle.std.specs.Prelude.{◌≡◌, ◌&&◌, ◌||◌, ◌==◌, ℕ, List, [], ◌∷◌, Option, Some, None, Result, Ok, Err, codes, nat_le, nat_lt, length, if◌then◌else◌, option_and_then, bytes_eq}
use Rattle.std.specs.Str.{is_utf8}
use Rattle.serde_json.specs.Data.{Data, Members, no_members, member}
use Rattle.serde_json.specs.Read.{read}
use Rattle.serde_json.specs.Find.{as_object, as_number, as_str, as_u64}
use Rattle.obj_model.specs.Limits.{number_limit}
use Rattle.obj_model.specs.declared.tier.Mode.{Mode}
use Rattle.obj_model.specs.declared.tier.Mode.TheVariants.{Writeback, Readproxy, Proxy}
use Rattle.obj_model.specs.declared.tier.HitType.{HitType}
use Rattle.obj_model.specs.declared.tier.HitType.TheVariants.{Bloom, ExplicitHash, ExplicitObject}
use Rattle.obj_model.specs.declared.tier.PoolValues.{PoolValues}
use Rattle.settings_json.specs.declared.fault.SettingsFault.{SettingsFault}
use Rattle.settings_json.specs.declared.fault.SettingsFault.TheVariants as fault

-- the values of a pool of which nothing was set
abbrev pub defaults : PoolValues
defaults = record {
  cache_mode = Writeback;
  hit_set_type = Bloom;
  hit_set_count = 4;
  hit_set_period = 1200;
  hit_set_fpp = 50000;
  hit_set_grade_decay_rate = 20;
  hit_set_search_last_n = 1;
  target_max_bytes = 0;
  target_max_objects = 0;
  cache_target_dirty_ratio = 400000;
  cache_target_dirty_high_ratio = 600000;
  cache_target_full_ratio = 800000;
  cache_min_flush_age = 0;
  cache_min_evict_age = 0;
  min_read_recency_for_promote = 1;
  min_write_recency_for_promote = 1;
}

-- why the settings give no values: they are no JSON object, or a key is unknown, or its value does
-- not fit
pub data Wrong : Type 0 where
  NotJson : Wrong
  Unknown : List ℕ → Wrong
  BadValue : List ℕ → Wrong

-- a whole number from low to high, written without fraction, exponent or sign
abbrev pub number_in : ℕ → ℕ → Data → Option ℕ
number_in low high d = option_and_then (λ n. if nat_le low n && nat_le n high then Some n else None)
    (option_and_then as_u64 (as_number d))

-- a rate of false positives, in millionths: one of three
abbrev pub rate_in : Data → Option ℕ
rate_in d = option_and_then (λ n. if n == 50000 || n == 10000 || n == 1000 then Some n else None)
    (number_in 0 50000 d)

-- the mode of this name
abbrev pub mode_named : List ℕ → Option Mode
mode_named word =
    if bytes_eq word (codes "writeback") then Some Writeback
    else if bytes_eq word (codes "readproxy") then Some Readproxy
    else if bytes_eq word (codes "proxy") then Some Proxy
    else None

-- the mode that a text names
abbrev pub mode_in : Data → Option Mode
mode_in d = option_and_then mode_named (as_str d)

-- the kind of hit sets of this name
abbrev pub hit_type_named : List ℕ → Option HitType
hit_type_named word =
    if bytes_eq word (codes "bloom") then Some Bloom
    else if bytes_eq word (codes "explicit_hash") then Some ExplicitHash
    else if bytes_eq word (codes "explicit_object") then Some ExplicitObject
    else None

-- the kind of hit sets that a text names
abbrev pub hit_type_in : Data → Option HitType
hit_type_in d = option_and_then hit_type_named (as_str d)

-- the values after one member: what was read goes into its place, or the value does not fit
abbrev pub put_in : {A : Type 0} → List ℕ → (A → PoolValues) → Option A → Result PoolValues Wrong
put_in key puts None = Err (BadValue key)
put_in key puts (Some a) = Ok (puts a)

-- the rows of the keys on the cache, its agent and promotion: the key, what it takes, where it goes
abbrev pub with_cache_value : List ℕ → Data → PoolValues → Result PoolValues Wrong
with_cache_value key d v =
    if bytes_eq key (codes "cache_mode") then
    put_in key (λ m. record v { cache_mode = m }) (mode_in d)
    else if bytes_eq key (codes "target_max_bytes") then
    put_in key (λ n. record v { target_max_bytes = n }) (number_in 0 number_limit d)
    else if bytes_eq key (codes "target_max_objects") then
    put_in key (λ n. record v { target_max_objects = n }) (number_in 0 number_limit d)
    else if bytes_eq key (codes "cache_target_dirty_ratio") then
    put_in key (λ n. record v { cache_target_dirty_ratio = n }) (number_in 0 1000000 d)
    else if bytes_eq key (codes "cache_target_dirty_high_ratio") then
    put_in key (λ n. record v { cache_target_dirty_high_ratio = n }) (number_in 0 1000000 d)
    else if bytes_eq key (codes "cache_target_full_ratio") then
    put_in key (λ n. record v { cache_target_full_ratio = n }) (number_in 0 1000000 d)
    else if bytes_eq key (codes "cache_min_flush_age") then
    put_in key (λ n. record v { cache_min_flush_age = n }) (number_in 0 4294967295 d)
    else if bytes_eq key (codes "cache_min_evict_age") then
    put_in key (λ n. record v { cache_min_evict_age = n }) (number_in 0 4294967295 d)
    else if bytes_eq key (codes "min_read_recency_for_promote") then
    put_in key (λ n. record v { min_read_recency_for_promote = n }) (number_in 0 65 d)
    else if bytes_eq key (codes "min_write_recency_for_promote") then
    put_in key (λ n. record v { min_write_recency_for_promote = n }) (number_in 0 65 d)
    else Err (Unknown key)

-- the rows of the keys on hit sets, and below them all others
abbrev pub with_value : List ℕ → Data → PoolValues → Result PoolValues Wrong
with_value key d v =
    if bytes_eq key (codes "hit_set_type") then
    put_in key (λ t. record v { hit_set_type = t }) (hit_type_in d)
    else if bytes_eq key (codes "hit_set_count") then
    put_in key (λ n. record v { hit_set_count = n }) (number_in 0 64 d)
    else if bytes_eq key (codes "hit_set_period") then
    put_in key (λ n. record v { hit_set_period = n }) (number_in 1 4294967295 d)
    else if bytes_eq key (codes "hit_set_fpp") then
    put_in key (λ n. record v { hit_set_fpp = n }) (rate_in d)
    else if bytes_eq key (codes "hit_set_grade_decay_rate") then
    put_in key (λ n. record v { hit_set_grade_decay_rate = n }) (number_in 0 100 d)
    else if bytes_eq key (codes "hit_set_search_last_n") then
    put_in key (λ n. record v { hit_set_search_last_n = n }) (number_in 0 64 d)
    else with_cache_value key d v

-- the members of an object over some values, in the order of their keys' bytes; the first wrong one
-- decides
abbrev pub with_all : Members → PoolValues → Result PoolValues Wrong
with_all no_members v = Ok v
with_all (member key d ms) v = elim (with_value key d v)
    [ Ok w ↦ with_all ms w | Err wrong ↦ Err wrong ]

-- the members of an object over the defaults; all else is no settings
abbrev pub values_of : Option Members → Result PoolValues Wrong
values_of None = Err NotJson
values_of (Some ms) = with_all ms defaults

-- what bytes read as: a key that is given twice has its last value
abbrev pub json_of : List ℕ → Option Data
json_of bytes = if is_utf8 bytes then read bytes else None

-- what the bytes of the settings say; no bytes set nothing, and more than 65,536 are not read
abbrev pub settings_of : List ℕ → Result PoolValues Wrong
settings_of [] = Ok defaults
settings_of (b ∷ bytes) = if nat_lt 65536 (length (b ∷ bytes)) then Err NotJson else values_of
    (option_and_then as_object (json_of (b ∷ bytes)))

-- the fault is that of the reading, unless memory was wanting
abbrev pub IsFaultOf : SettingsFault → Result PoolValues Wrong → Type 0
IsFaultOf fault.NotJson r = r ≡ Err NotJson
IsFaultOf (fault.Unknown key) r = r ≡ Err (Unknown key)
IsFaultOf (fault.BadValue key) r = r ≡ Err (BadValue key)
IsFaultOf fault.NoMemory r = Unit {0}
