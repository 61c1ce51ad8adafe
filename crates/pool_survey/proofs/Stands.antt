-- Two maps whose records all fit stand for a plain store: the base's states, with those of the
-- records over them.
use Rattle.std.proofs.Common.{◌≡◌, ◌≤◌, ℕ, ◌^◌, Bool, true, false, cond, List, [], ◌∷◌, Option, Some, None, unwrap_or, refl, sym, ap, subst, ◌∙◌, arith}
use Rattle.std.specs.FinMap as fin
use Rattle.std.specs.Ordering.{eq_by_cmp}
use Rattle.std.specs.Cmp.Lexicographic.{nat_list_cmp_total}
use Rattle.obj_model.specs.Names.{name_cmp}
use Rattle.obj_model.specs.States.{unknown}
use Rattle.obj_model.specs.declared.state.NameState.{NameState}
use Rattle.obj_ops.specs.Stores.{Store, state_of}
use Rattle.pool_keys.specs.Keys.{record_key, state_key}
use Rattle.pool_keys.specs.Maps.{IsBaseMap, IsCacheMap, Recs, SpellsBase, SpellsCache}
use Rattle.pool_keys.specs.Values.{IsAtEpoch, IsRecOf, IsStateOf}
use Rattle.pool_keys.proofs.Bases as bases
use Rattle.pool_keys.proofs.Caches as caches
use Rattle.store_face.specs.Tables.{Table}
use Rattle.tier_protocol.specs.Laws.{StandsFor}
use Rattle.tier_protocol.specs.Sound.{IsBehind, Shows, is_dirty}
use Rattle.tier_types.specs.declared.record.TierRec.{TierRec}
use Rattle.pool_survey.specs.Causes.{AreLevel, Fits, FitsAt}
use Rattle.pool_survey.specs.Surveys.{AreSumsOf, IsSurvey}
use Rattle.pool_survey.specs.declared.told.Survey.{Survey}

abbrev Rec : Type 0
Rec = List ℕ × TierRec

-- ---- records over states

abbrev over : Option TierRec → Option NameState → Option NameState
over None s = s
over (Some r) s = Some r.state

laid : List Rec → Store → Store
laid [] base = base
laid (e ∷ es) base = fin.insert (laid es base) e.0 e.1.state

over_cond : (b : Bool) (r : TierRec) (o : Option TierRec) (s : Option NameState) → cond b (Some r.state) (over o s) ≡ over (cond b (Some r) o) s
over_cond true r o s = refl
over_cond false r o s = refl

laid_get : (n : List ℕ) (es : List Rec) (base : Store) → fin.get (laid es base) n ≡ over (fin.find name_cmp n es) (fin.get base n)
unfolding laid
laid_get n [] base = refl
laid_get n (e ∷ es) base =
    fin.get-insert nat_list_cmp_total (laid es base) e.0 e.1.state n
    ∙ ap (cond (eq_by_cmp name_cmp n e.0) (Some e.1.state)) (laid_get n es base)
    ∙ over_cond (eq_by_cmp name_cmp n e.0) e.1 (fin.find name_cmp n es) (fin.get base n)

-- ---- one name

record NameStands (o : Option TierRec) (b s : NameState) : Type 0 where
  behind : IsBehind b s
  clean : is_dirty o ≡ false → b ≡ s
  shows : Shows o s
  few : s.seq ≤ 2 ^ 62

level_with : (b s : NameState) → s ≡ b → IsBehind b s
level_with b s same = record { behind = omega (arith, ap (λ x. x.seq) same); level = λ e. sym same }

recorded : (d : Bool) (r : TierRec) (b : NameState) → r.dirty ≡ d → Fits d r.state b → r.state.seq ≤ 2 ^ 62 → NameStands (Some r) b r.state
recorded true r b is fit low = record { behind = fit; clean = λ no. absurd (cc); shows = refl; few = low }
recorded false r b is fit low = record { behind = level_with b r.state fit; clean = λ no. sym fit; shows = refl; few = low }

low_state : (o : Option (List ℕ)) (s : NameState) → IsStateOf o s → s.seq ≤ 2 ^ 62
low_state None s is = omega (arith, ap (λ x. x.seq) is)
low_state (Some bytes) s is = omega (arith, is.lawful.counted.acted)

low_record : (o : Option (List ℕ)) (r : TierRec) → IsRecOf o (Some r) → r.state.seq ≤ 2 ^ 62
low_record None r is = absurd is
low_record (Some bytes) r is = omega (arith, is.lawful.counted.acted)

each_name : (x y : Table) (n : List ℕ) (o : Option TierRec) (b : Option NameState) → IsRecOf (fin.get x (record_key n)) o
    → IsStateOf (fin.get y (state_key n)) (unwrap_or b unknown) → FitsAt n x y → NameStands o (unwrap_or b unknown) (unwrap_or (over o b) unknown)
each_name x y n None b cached based fits =
    record { behind = level_with (unwrap_or b unknown) (unwrap_or b unknown) refl; clean = λ is. refl; shows = tt; few = low_state (fin.get y (state_key n)) (unwrap_or b unknown) based }
each_name x y n (Some r) b cached based fits =
    recorded r.dirty r (unwrap_or b unknown) refl (fits r (unwrap_or b unknown) (record { cached = cached; based = based }))
    (low_record (fin.get x (record_key n)) r cached)

-- ---- all names

module _ (x y : Table) (recs : Recs) (base : Store) where
  plain : Store
  plain = laid (fin.entries recs) base

  plainly : (n : List ℕ) → over (fin.get recs n) (fin.get base n) ≡ fin.get (laid (fin.entries recs) base) n
  plainly n = ap (λ o. over o (fin.get base n)) (fin.get-entries recs n) ∙ sym (laid_get n (fin.entries recs) base)

  stands_at : (cache_epoch base_epoch : ℕ) → SpellsCache x recs cache_epoch → SpellsBase y base base_epoch → ((n : List ℕ) → FitsAt n x y) → (n : List ℕ)
      → NameStands (fin.get recs n) (state_of base n) (state_of (laid (fin.entries recs) base) n)
  stands_at cache_epoch base_epoch cached based fits n =
      subst (λ o. NameStands (fin.get recs n) (state_of base n) (unwrap_or o unknown)) (plainly n)
      (each_name x y n (fin.get recs n) (fin.get base n) (cached.each n) (based.each n) (fits n))

stand_for : (x y : Table) (recs : Recs) (base : Store) (cache_epoch base_epoch : ℕ) → SpellsCache x recs cache_epoch → SpellsBase y base base_epoch
    → ((n : List ℕ) → FitsAt n x y) → StandsFor recs base (laid (fin.entries recs) base)
stand_for x y recs base cache_epoch base_epoch cached based fits =
    let each = stands_at x y recs base cache_epoch base_epoch cached based fits in
    record { behind = λ n. (each n).behind; clean = λ n. (each n).clean; shows = λ n. (each n).shows; few = λ n. (each n).few }

-- two maps whose records all fit are a survey
pub surveyed : (s : Survey) (x y : Table) → IsCacheMap x → IsBaseMap y → IsAtEpoch s.cache_epoch x → IsAtEpoch s.base_epoch y
    → AreLevel s.cache_epoch s.base_epoch → ((n : List ℕ) → FitsAt n x y) → AreSumsOf s.totals x → IsSurvey s x y
surveyed s x y is_cache is_base cache_at base_at level fits sums =
    let c = caches.stands x is_cache in
    let b = bases.stands y is_base in
    let cached : SpellsCache x c.recs s.cache_epoch = record { each = c.spells.each; is_epoch = cache_at; keys = c.spells.keys } in
    let based : SpellsBase y b.base s.base_epoch = record { each = b.spells.each; is_epoch = base_at; keys = b.spells.keys } in
    record {
      plain = laid (fin.entries c.recs) b.base;
      stands = record {
        recs = c.recs;
        base = b.base;
        cached = cached;
        based = based;
        stands = stand_for x y c.recs b.base s.cache_epoch s.base_epoch cached based fits;
        behind = level;
      };
      totals = sums;
    }
