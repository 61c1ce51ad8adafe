-- A key that no member has keeps its value.
use Rattle.std.proofs.Common.{◌≡◌, ◌∙◌, sym, ap, refl, ℕ, Bool, true, false, cond, List, [], ◌∷◌, Option, Some, None, Result, Ok, Err, ◌||◌, true≢false, subst}
use Rattle.std.specs.Prelude.{codes, bytes_eq, option_and_then, nat_lt, length, if◌then◌else◌}
use Rattle.serde_json.specs.Data.{Data, Members, no_members, member}
use Rattle.serde_json.specs.Find.{as_object}
use Rattle.obj_model.specs.declared.tier.HitType.{HitType}
use Rattle.obj_model.specs.declared.tier.Mode.{Mode}
use Rattle.obj_model.specs.declared.tier.PoolValues.{PoolValues}
use Rattle.settings_json.specs.Laws.{KeepsUnnamed, UnnamedAreDefaults, names}
use Rattle.settings_json.specs.Settings.{Wrong, NotJson, defaults, json_of, put_in, settings_of, values_of, with_all, with_cache_value, with_value}

-- one row of the table: a part of the values that it does not set stays
row : {A X : Type 0} (g : PoolValues → X) (b : Bool) (key : List ℕ) (puts : A → PoolValues)
    (o : Option A) (rest : Result PoolValues Wrong) (v u : PoolValues)
    → (if b then put_in key puts o else rest) ≡ Ok u → (b ≡ true → (a : A) → g (puts a) ≡ g v) →
    (rest ≡ Ok u → g u ≡ g v) → g u ≡ g v
row g true key puts None rest v u e own behind = absurd (cc)
row g true key puts (Some a) rest v u e own behind = let same : puts a ≡ u = cc in ap g (sym same)
    ∙ own refl a
row g false key puts o rest v u e own behind = behind e

-- a part of the values stays where no row sets it
module _ {X : Type 0} (g : PoolValues → X) (k : List ℕ) (d : Data) (v u : PoolValues) where
  -- what a row that is met may do
  abbrev Stays : {A : Type 0} → List ℕ → (A → PoolValues) → Type 0
  Stays {A} key puts = bytes_eq k key ≡ true → (a : A) → g (puts a) ≡ g v

  cache_rows : with_cache_value k d v ≡ Ok u
      → Stays (codes "cache_mode") (λ (x : Mode). record v { cache_mode = x })
      → Stays (codes "target_max_bytes") (λ (x : ℕ). record v { target_max_bytes = x })
      → Stays (codes "target_max_objects") (λ (x : ℕ). record v { target_max_objects = x })
      → Stays (codes "cache_target_dirty_ratio")
      (λ (x : ℕ). record v { cache_target_dirty_ratio = x })
      → Stays (codes "cache_target_dirty_high_ratio")
      (λ (x : ℕ). record v { cache_target_dirty_high_ratio = x })
      → Stays (codes "cache_target_full_ratio")
      (λ (x : ℕ). record v { cache_target_full_ratio = x })
      → Stays (codes "cache_min_flush_age") (λ (x : ℕ). record v { cache_min_flush_age = x })
      → Stays (codes "cache_min_evict_age") (λ (x : ℕ). record v { cache_min_evict_age = x })
      → Stays (codes "min_read_recency_for_promote")
      (λ (x : ℕ). record v { min_read_recency_for_promote = x })
      → Stays (codes "min_write_recency_for_promote")
      (λ (x : ℕ). record v { min_write_recency_for_promote = x })
      → g u ≡ g v
  cache_rows e r0 r1 r2 r3 r4 r5 r6 r7 r8 r9 =
      row g (bytes_eq k (codes "cache_mode")) k (λ (x : Mode). record v { cache_mode = x }) _ _ v u
      e r0 (λ e1.
      row g (bytes_eq k (codes "target_max_bytes")) k (λ (x : ℕ). record v { target_max_bytes = x })
      _ _ v u e1 r1 (λ e2.
      row g (bytes_eq k (codes "target_max_objects")) k
      (λ (x : ℕ). record v { target_max_objects = x }) _ _ v u e2 r2 (λ e3.
      row g (bytes_eq k (codes "cache_target_dirty_ratio")) k
      (λ (x : ℕ). record v { cache_target_dirty_ratio = x }) _ _ v u e3 r3 (λ e4.
      row g (bytes_eq k (codes "cache_target_dirty_high_ratio")) k
      (λ (x : ℕ). record v { cache_target_dirty_high_ratio = x }) _ _ v u e4 r4 (λ e5.
      row g (bytes_eq k (codes "cache_target_full_ratio")) k
      (λ (x : ℕ). record v { cache_target_full_ratio = x }) _ _ v u e5 r5 (λ e6.
      row g (bytes_eq k (codes "cache_min_flush_age")) k
      (λ (x : ℕ). record v { cache_min_flush_age = x }) _ _ v u e6 r6 (λ e7.
      row g (bytes_eq k (codes "cache_min_evict_age")) k
      (λ (x : ℕ). record v { cache_min_evict_age = x }) _ _ v u e7 r7 (λ e8.
      row g (bytes_eq k (codes "min_read_recency_for_promote")) k
      (λ (x : ℕ). record v { min_read_recency_for_promote = x }) _ _ v u e8 r8 (λ e9.
      row g (bytes_eq k (codes "min_write_recency_for_promote")) k
      (λ (x : ℕ). record v { min_write_recency_for_promote = x }) _ _ v u e9 r9 (λ e10.
      absurd (cc)))))))))))

  all_rows : with_value k d v ≡ Ok u
      → Stays (codes "hit_set_type") (λ (x : HitType). record v { hit_set_type = x })
      → Stays (codes "hit_set_count") (λ (x : ℕ). record v { hit_set_count = x })
      → Stays (codes "hit_set_period") (λ (x : ℕ). record v { hit_set_period = x })
      → Stays (codes "hit_set_fpp") (λ (x : ℕ). record v { hit_set_fpp = x })
      → Stays (codes "hit_set_grade_decay_rate")
      (λ (x : ℕ). record v { hit_set_grade_decay_rate = x })
      → Stays (codes "hit_set_search_last_n") (λ (x : ℕ). record v { hit_set_search_last_n = x })
      → Stays (codes "cache_mode") (λ (x : Mode). record v { cache_mode = x })
      → Stays (codes "target_max_bytes") (λ (x : ℕ). record v { target_max_bytes = x })
      → Stays (codes "target_max_objects") (λ (x : ℕ). record v { target_max_objects = x })
      → Stays (codes "cache_target_dirty_ratio")
      (λ (x : ℕ). record v { cache_target_dirty_ratio = x })
      → Stays (codes "cache_target_dirty_high_ratio")
      (λ (x : ℕ). record v { cache_target_dirty_high_ratio = x })
      → Stays (codes "cache_target_full_ratio")
      (λ (x : ℕ). record v { cache_target_full_ratio = x })
      → Stays (codes "cache_min_flush_age") (λ (x : ℕ). record v { cache_min_flush_age = x })
      → Stays (codes "cache_min_evict_age") (λ (x : ℕ). record v { cache_min_evict_age = x })
      → Stays (codes "min_read_recency_for_promote")
      (λ (x : ℕ). record v { min_read_recency_for_promote = x })
      → Stays (codes "min_write_recency_for_promote")
      (λ (x : ℕ). record v { min_write_recency_for_promote = x })
      → g u ≡ g v
  all_rows e h0 h1 h2 h3 h4 h5 r0 r1 r2 r3 r4 r5 r6 r7 r8 r9 =
      row g (bytes_eq k (codes "hit_set_type")) k (λ (x : HitType). record v { hit_set_type = x }) _
      _ v u e h0 (λ e1.
      row g (bytes_eq k (codes "hit_set_count")) k (λ (x : ℕ). record v { hit_set_count = x }) _ _ v
      u e1 h1 (λ e2.
      row g (bytes_eq k (codes "hit_set_period")) k (λ (x : ℕ). record v { hit_set_period = x }) _ _
      v u e2 h2 (λ e3.
      row g (bytes_eq k (codes "hit_set_fpp")) k (λ (x : ℕ). record v { hit_set_fpp = x }) _ _ v u
      e3 h3 (λ e4.
      row g (bytes_eq k (codes "hit_set_grade_decay_rate")) k
      (λ (x : ℕ). record v { hit_set_grade_decay_rate = x }) _ _ v u e4 h4 (λ e5.
      row g (bytes_eq k (codes "hit_set_search_last_n")) k
      (λ (x : ℕ). record v { hit_set_search_last_n = x }) _ _ v u e5 h5 (λ e6.
      cache_rows e6 r0 r1 r2 r3 r4 r5 r6 r7 r8 r9))))))

neither : (a b : Bool) → (a || b) ≡ false → (a ≡ false) × (b ≡ false)
neither true b e = absurd (true≢false e)
neither false b e = (refl, e)

not_both : {P : Type 0} (b : Bool) → b ≡ false → b ≡ true → P
not_both b free is = absurd (true≢false (sym is ∙ free))

-- the row of a key that the member does not have is not met
own : {P : Type 0} (k key : List ℕ) → (bytes_eq k key || false) ≡ false → bytes_eq k key ≡ true → P
own k key free is = not_both (bytes_eq k key) (neither (bytes_eq k key) false free).0 is

-- one member keeps what it does not name
one : (k : List ℕ) (d : Data) (v u : PoolValues) → with_value k d v ≡ Ok u →
    KeepsUnnamed (member k d no_members) v u
one k d v u e = record {
  hit_set_type = λ free. all_rows (λ w. w.hit_set_type) k d v u e
      (own k (codes "hit_set_type") free) (λ _ _. refl) (λ _ _. refl) (λ _ _. refl) (λ _ _. refl)
      (λ _ _. refl) (λ _ _. refl) (λ _ _. refl) (λ _ _. refl) (λ _ _. refl) (λ _ _. refl)
      (λ _ _. refl) (λ _ _. refl) (λ _ _. refl) (λ _ _. refl) (λ _ _. refl);
  hit_set_count = λ free. all_rows (λ w. w.hit_set_count) k d v u e
      (λ _ _. refl) (own k (codes "hit_set_count") free) (λ _ _. refl) (λ _ _. refl) (λ _ _. refl)
      (λ _ _. refl) (λ _ _. refl) (λ _ _. refl) (λ _ _. refl) (λ _ _. refl) (λ _ _. refl)
      (λ _ _. refl) (λ _ _. refl) (λ _ _. refl) (λ _ _. refl) (λ _ _. refl);
  hit_set_period = λ free. all_rows (λ w. w.hit_set_period) k d v u e
      (λ _ _. refl) (λ _ _. refl) (own k (codes "hit_set_period") free) (λ _ _. refl) (λ _ _. refl)
      (λ _ _. refl) (λ _ _. refl) (λ _ _. refl) (λ _ _. refl) (λ _ _. refl) (λ _ _. refl)
      (λ _ _. refl) (λ _ _. refl) (λ _ _. refl) (λ _ _. refl) (λ _ _. refl);
  hit_set_fpp = λ free. all_rows (λ w. w.hit_set_fpp) k d v u e
      (λ _ _. refl) (λ _ _. refl) (λ _ _. refl) (own k (codes "hit_set_fpp") free) (λ _ _. refl)
      (λ _ _. refl) (λ _ _. refl) (λ _ _. refl) (λ _ _. refl) (λ _ _. refl) (λ _ _. refl)
      (λ _ _. refl) (λ _ _. refl) (λ _ _. refl) (λ _ _. refl) (λ _ _. refl);
  hit_set_grade_decay_rate = λ free. all_rows (λ w. w.hit_set_grade_decay_rate) k d v u e
      (λ _ _. refl) (λ _ _. refl) (λ _ _. refl) (λ _ _. refl)
      (own k (codes "hit_set_grade_decay_rate") free) (λ _ _. refl) (λ _ _. refl) (λ _ _. refl)
      (λ _ _. refl) (λ _ _. refl) (λ _ _. refl) (λ _ _. refl) (λ _ _. refl) (λ _ _. refl)
      (λ _ _. refl) (λ _ _. refl);
  hit_set_search_last_n = λ free. all_rows (λ w. w.hit_set_search_last_n) k d v u e
      (λ _ _. refl) (λ _ _. refl) (λ _ _. refl) (λ _ _. refl) (λ _ _. refl)
      (own k (codes "hit_set_search_last_n") free) (λ _ _. refl) (λ _ _. refl) (λ _ _. refl)
      (λ _ _. refl) (λ _ _. refl) (λ _ _. refl) (λ _ _. refl) (λ _ _. refl) (λ _ _. refl)
      (λ _ _. refl);
  cache_mode = λ free. all_rows (λ w. w.cache_mode) k d v u e
      (λ _ _. refl) (λ _ _. refl) (λ _ _. refl) (λ _ _. refl) (λ _ _. refl) (λ _ _. refl)
      (own k (codes "cache_mode") free) (λ _ _. refl) (λ _ _. refl) (λ _ _. refl) (λ _ _. refl)
      (λ _ _. refl) (λ _ _. refl) (λ _ _. refl) (λ _ _. refl) (λ _ _. refl);
  target_max_bytes = λ free. all_rows (λ w. w.target_max_bytes) k d v u e
      (λ _ _. refl) (λ _ _. refl) (λ _ _. refl) (λ _ _. refl) (λ _ _. refl) (λ _ _. refl)
      (λ _ _. refl) (own k (codes "target_max_bytes") free) (λ _ _. refl) (λ _ _. refl)
      (λ _ _. refl) (λ _ _. refl) (λ _ _. refl) (λ _ _. refl) (λ _ _. refl) (λ _ _. refl);
  target_max_objects = λ free. all_rows (λ w. w.target_max_objects) k d v u e
      (λ _ _. refl) (λ _ _. refl) (λ _ _. refl) (λ _ _. refl) (λ _ _. refl) (λ _ _. refl)
      (λ _ _. refl) (λ _ _. refl) (own k (codes "target_max_objects") free) (λ _ _. refl)
      (λ _ _. refl) (λ _ _. refl) (λ _ _. refl) (λ _ _. refl) (λ _ _. refl) (λ _ _. refl);
  cache_target_dirty_ratio = λ free. all_rows (λ w. w.cache_target_dirty_ratio) k d v u e
      (λ _ _. refl) (λ _ _. refl) (λ _ _. refl) (λ _ _. refl) (λ _ _. refl) (λ _ _. refl)
      (λ _ _. refl) (λ _ _. refl) (λ _ _. refl) (own k (codes "cache_target_dirty_ratio") free)
      (λ _ _. refl) (λ _ _. refl) (λ _ _. refl) (λ _ _. refl) (λ _ _. refl) (λ _ _. refl);
  cache_target_dirty_high_ratio = λ free. all_rows (λ w. w.cache_target_dirty_high_ratio) k d v u e
      (λ _ _. refl) (λ _ _. refl) (λ _ _. refl) (λ _ _. refl) (λ _ _. refl) (λ _ _. refl)
      (λ _ _. refl) (λ _ _. refl) (λ _ _. refl) (λ _ _. refl)
      (own k (codes "cache_target_dirty_high_ratio") free) (λ _ _. refl) (λ _ _. refl)
      (λ _ _. refl) (λ _ _. refl) (λ _ _. refl);
  cache_target_full_ratio = λ free. all_rows (λ w. w.cache_target_full_ratio) k d v u e
      (λ _ _. refl) (λ _ _. refl) (λ _ _. refl) (λ _ _. refl) (λ _ _. refl) (λ _ _. refl)
      (λ _ _. refl) (λ _ _. refl) (λ _ _. refl) (λ _ _. refl) (λ _ _. refl)
      (own k (codes "cache_target_full_ratio") free) (λ _ _. refl) (λ _ _. refl) (λ _ _. refl)
      (λ _ _. refl);
  cache_min_flush_age = λ free. all_rows (λ w. w.cache_min_flush_age) k d v u e
      (λ _ _. refl) (λ _ _. refl) (λ _ _. refl) (λ _ _. refl) (λ _ _. refl) (λ _ _. refl)
      (λ _ _. refl) (λ _ _. refl) (λ _ _. refl) (λ _ _. refl) (λ _ _. refl) (λ _ _. refl)
      (own k (codes "cache_min_flush_age") free) (λ _ _. refl) (λ _ _. refl) (λ _ _. refl);
  cache_min_evict_age = λ free. all_rows (λ w. w.cache_min_evict_age) k d v u e
      (λ _ _. refl) (λ _ _. refl) (λ _ _. refl) (λ _ _. refl) (λ _ _. refl) (λ _ _. refl)
      (λ _ _. refl) (λ _ _. refl) (λ _ _. refl) (λ _ _. refl) (λ _ _. refl) (λ _ _. refl)
      (λ _ _. refl) (own k (codes "cache_min_evict_age") free) (λ _ _. refl) (λ _ _. refl);
  min_read_recency_for_promote = λ free. all_rows (λ w. w.min_read_recency_for_promote) k d v u e
      (λ _ _. refl) (λ _ _. refl) (λ _ _. refl) (λ _ _. refl) (λ _ _. refl) (λ _ _. refl)
      (λ _ _. refl) (λ _ _. refl) (λ _ _. refl) (λ _ _. refl) (λ _ _. refl) (λ _ _. refl)
      (λ _ _. refl) (λ _ _. refl) (own k (codes "min_read_recency_for_promote") free)
      (λ _ _. refl);
  min_write_recency_for_promote = λ free. all_rows (λ w. w.min_write_recency_for_promote) k d v u e
      (λ _ _. refl) (λ _ _. refl) (λ _ _. refl) (λ _ _. refl) (λ _ _. refl) (λ _ _. refl)
      (λ _ _. refl) (λ _ _. refl) (λ _ _. refl) (λ _ _. refl) (λ _ _. refl) (λ _ _. refl)
      (λ _ _. refl) (λ _ _. refl) (λ _ _. refl)
      (own k (codes "min_write_recency_for_promote") free);
}

-- members, one behind the others
more : (k : List ℕ) (d : Data) (ms : Members) (v w u : PoolValues) →
    KeepsUnnamed (member k d no_members) v w → KeepsUnnamed ms w u →
    KeepsUnnamed (member k d ms) v u
more k d ms v w u first rest = record {
  hit_set_type = λ free.
      let at = neither (bytes_eq k (codes "hit_set_type")) (names (codes "hit_set_type") ms) free in
      rest.hit_set_type at.1 ∙ first.hit_set_type (ap (λ b. b || false) at.0);
  hit_set_count = λ free.
      let at = neither (bytes_eq k (codes "hit_set_count")) (names (codes "hit_set_count") ms) free
      in
      rest.hit_set_count at.1 ∙ first.hit_set_count (ap (λ b. b || false) at.0);
  hit_set_period = λ free.
      let at = neither (bytes_eq k (codes "hit_set_period")) (names (codes "hit_set_period") ms)
      free in
      rest.hit_set_period at.1 ∙ first.hit_set_period (ap (λ b. b || false) at.0);
  hit_set_fpp = λ free.
      let at = neither (bytes_eq k (codes "hit_set_fpp")) (names (codes "hit_set_fpp") ms) free in
      rest.hit_set_fpp at.1 ∙ first.hit_set_fpp (ap (λ b. b || false) at.0);
  hit_set_grade_decay_rate = λ free.
      let at = neither (bytes_eq k (codes "hit_set_grade_decay_rate"))
      (names (codes "hit_set_grade_decay_rate") ms) free in
      rest.hit_set_grade_decay_rate at.1 ∙ first.hit_set_grade_decay_rate
      (ap (λ b. b || false) at.0);
  hit_set_search_last_n = λ free.
      let at = neither (bytes_eq k (codes "hit_set_search_last_n"))
      (names (codes "hit_set_search_last_n") ms) free in
      rest.hit_set_search_last_n at.1 ∙ first.hit_set_search_last_n (ap (λ b. b || false) at.0);
  cache_mode = λ free.
      let at = neither (bytes_eq k (codes "cache_mode")) (names (codes "cache_mode") ms) free in
      rest.cache_mode at.1 ∙ first.cache_mode (ap (λ b. b || false) at.0);
  target_max_bytes = λ free.
      let at = neither (bytes_eq k (codes "target_max_bytes")) (names (codes "target_max_bytes") ms)
      free in
      rest.target_max_bytes at.1 ∙ first.target_max_bytes (ap (λ b. b || false) at.0);
  target_max_objects = λ free.
      let at = neither (bytes_eq k (codes "target_max_objects"))
      (names (codes "target_max_objects") ms) free in
      rest.target_max_objects at.1 ∙ first.target_max_objects (ap (λ b. b || false) at.0);
  cache_target_dirty_ratio = λ free.
      let at = neither (bytes_eq k (codes "cache_target_dirty_ratio"))
      (names (codes "cache_target_dirty_ratio") ms) free in
      rest.cache_target_dirty_ratio at.1 ∙ first.cache_target_dirty_ratio
      (ap (λ b. b || false) at.0);
  cache_target_dirty_high_ratio = λ free.
      let at = neither (bytes_eq k (codes "cache_target_dirty_high_ratio"))
      (names (codes "cache_target_dirty_high_ratio") ms) free in
      rest.cache_target_dirty_high_ratio at.1
      ∙ first.cache_target_dirty_high_ratio (ap (λ b. b || false) at.0);
  cache_target_full_ratio = λ free.
      let at = neither (bytes_eq k (codes "cache_target_full_ratio"))
      (names (codes "cache_target_full_ratio") ms) free in
      rest.cache_target_full_ratio at.1 ∙ first.cache_target_full_ratio (ap (λ b. b || false) at.0);
  cache_min_flush_age = λ free.
      let at = neither (bytes_eq k (codes "cache_min_flush_age"))
      (names (codes "cache_min_flush_age") ms) free in
      rest.cache_min_flush_age at.1 ∙ first.cache_min_flush_age (ap (λ b. b || false) at.0);
  cache_min_evict_age = λ free.
      let at = neither (bytes_eq k (codes "cache_min_evict_age"))
      (names (codes "cache_min_evict_age") ms) free in
      rest.cache_min_evict_age at.1 ∙ first.cache_min_evict_age (ap (λ b. b || false) at.0);
  min_read_recency_for_promote = λ free.
      let at = neither (bytes_eq k (codes "min_read_recency_for_promote"))
      (names (codes "min_read_recency_for_promote") ms) free in
      rest.min_read_recency_for_promote at.1
      ∙ first.min_read_recency_for_promote (ap (λ b. b || false) at.0);
  min_write_recency_for_promote = λ free.
      let at = neither (bytes_eq k (codes "min_write_recency_for_promote"))
      (names (codes "min_write_recency_for_promote") ms) free in
      rest.min_write_recency_for_promote at.1
      ∙ first.min_write_recency_for_promote (ap (λ b. b || false) at.0);
}

same : (v : PoolValues) (ms : Members) → KeepsUnnamed ms v v
same v ms = record {
  hit_set_type = λ _. refl;
  hit_set_count = λ _. refl;
  hit_set_period = λ _. refl;
  hit_set_fpp = λ _. refl;
  hit_set_grade_decay_rate = λ _. refl;
  hit_set_search_last_n = λ _. refl;
  cache_mode = λ _. refl;
  target_max_bytes = λ _. refl;
  target_max_objects = λ _. refl;
  cache_target_dirty_ratio = λ _. refl;
  cache_target_dirty_high_ratio = λ _. refl;
  cache_target_full_ratio = λ _. refl;
  cache_min_flush_age = λ _. refl;
  cache_min_evict_age = λ _. refl;
  min_read_recency_for_promote = λ _. refl;
  min_write_recency_for_promote = λ _. refl;
}

-- what is left of the members comes behind the first
behind : (r : Result PoolValues Wrong) (ms : Members) (u : PoolValues)
    → ◌≡◌ {A = Result PoolValues Wrong} (elim r [ Ok w ↦ with_all ms w | Err wrong ↦ Err wrong ])
    (Ok u)
    → (w : PoolValues) × (r ≡ Ok w) × (with_all ms w ≡ Ok u)
behind (Ok w) ms u e = (w, refl, e)
behind (Err wrong) ms u e = absurd (cc)

-- members keep what they do not name
all : (ms : Members) (v u : PoolValues) → with_all ms v ≡ Ok u → KeepsUnnamed ms v u
all no_members v u e = let one : v ≡ u = cc in
    subst (λ w. KeepsUnnamed no_members v w) one (same v no_members)
all (member k d ms) v u e =
    let step = behind (with_value k d v) ms u e in
    more k d ms v step.0 u (one k d v step.0 step.1) (all ms step.0 u step.2)

read_in : (long : Bool) (o : Option Members) (ms : Members) (v : PoolValues) → o ≡ Some ms →
    (if long then Err NotJson else values_of o) ≡ Ok v → KeepsUnnamed ms defaults v
read_in true o ms v is e = absurd (cc)
read_in false None ms v is e = absurd (cc)
read_in false (Some ns) ms v is e = let one : ns ≡ ms = cc in
    subst (λ n. KeepsUnnamed n defaults v) one (all ns defaults v e)

pub unnamed_are_defaults : UnnamedAreDefaults
unnamed_are_defaults [] ms v is e = let one : defaults ≡ v = cc in
    subst (λ w. KeepsUnnamed ms defaults w) one (same defaults ms)
unnamed_are_defaults (b ∷ bytes) ms v is e =
    read_in (nat_lt 65536 (length (b ∷ bytes))) (option_and_then as_object (json_of (b ∷ bytes))) ms
    v is e
