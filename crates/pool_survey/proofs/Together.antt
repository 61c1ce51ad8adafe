-- A record of the cache beside the base's state of its name.
use Rattle.std.proofs.Common.{◌≡◌, ◌⊎◌, inl, inr, ℕ, Bool, true, false, not, [], ◌∷◌, Option, None, Some, refl, sym, ap, subst, ◌∙◌, arith}
use Rattle.std.specs.FinMap as fin
use Rattle.std.specs.Ordering.{ordering_reverse}
use Rattle.std.specs.Cmp.Lexicographic.{nat_list_cmp_total}
use Rattle.std.specs.declared.cmp.Ordering.{Ordering}
use Rattle.std.specs.declared.cmp.Ordering.TheVariants.{Less, Equal, Greater}
use Rattle.obj_model.specs.Names.{name_cmp}
use Rattle.obj_model.specs.States.{unknown}
use Rattle.obj_model.specs.declared.state.NameState.{NameState}
use Rattle.pool_keys.specs.Keys.{record_key, state_key}
use Rattle.pool_keys.specs.Values.{IsRecOf, IsStateOf}
use Rattle.pool_keys.proofs.Caches.{record_one}
use Rattle.obj_model.specs.Tables.{is_above}
use Rattle.store_face.specs.Tables.{Table}
use Rattle.tier_types.specs.declared.record.TierRec.{TierRec}
use Rattle.pool_survey.specs.Causes.{ClashesAt, Clashes, Fits, FitsAt, HaveOf, IsBaseEntry, IsFirstUnsound}
use Rattle.pool_survey.specs.Places.{AreRight, IsLast, IsNext, is_within}
use Rattle.pool_survey.specs.Runs.{FitSoFar, IsCompared, IsUpTo}
use Rattle.pool_survey.specs.Steps.{IsFound, Shows, SpellsRec}
use Rattle.pool_survey.specs.declared.fitting.Found.{Found}
use Rattle.pool_survey.proofs.Orders.{Key, above_more, is_lower, lower, not_back, not_itself}
use Rattle.pool_survey.proofs.Places.{by_place, up_to_next}

-- ---- the places

equal_key : (a b : Key) → name_cmp a b ≡ Equal → a ≡ b
equal_key a b e = fin.slice_cmp-IsAntisymmetric fin.nat_cmp-IsAntisymmetric a b e

turned : (c : Bool) → not c ≡ true → c ≡ false
turned true e = absurd (cc)
turned false e = refl

-- a key within a bound is below what is above the bound
within_below : (bound key other : Key) → is_within (Some bound) key ≡ true → name_cmp bound other ≡ Less → is_above (Some key) other ≡ true
within_below bound key other within behind = by_order (name_cmp other key) refl
  where
    by_order : (o : Ordering) → name_cmp other key ≡ o → is_above (Some key) other ≡ true
    by_order Less is = absurd (let up = above_more (Some bound) other key (lower bound other behind) is in let down = turned (is_above (Some bound) key) within in cc)
    by_order Equal is = absurd (let same = equal_key other key is in
        let up = subst (λ k. is_above (Some bound) k ≡ true) same (lower bound other behind) in let down = turned (is_above (Some bound) key) within in cc)
    by_order Greater is = lower key other (nat_list_cmp_total.antisymm key other ∙ ap ordering_reverse is)

pub still_behind : (p q r : Option Key) (name : Key) → is_above p (record_key name) ≡ true → IsUpTo (Some (state_key name)) q r
    → ((m : Key) → is_above p (record_key m) ≡ true → is_above q (state_key m) ≡ true)
    → (m : Key) → is_above (Some (record_key name)) (record_key m) ≡ true → is_above r (state_key m) ≡ true
still_behind p q r name above (inl same) behind m up =
    subst (λ k. is_above k (state_key m) ≡ true) (sym same) (behind m (above_more p (record_key name) (record_key m) above (is_lower (record_key name) (record_key m) up)))
still_behind p q r name above (inr key) behind m up =
    subst (λ k. is_above k (state_key m) ≡ true) (sym key.1) (within_below (state_key name) key.0 (state_key m) key.2 (is_lower (record_key name) (record_key m) up))

-- ---- a record and a state

same_name : (a b : Key) → record_key a ≡ record_key b → a ≡ b
same_name a b e = cc

state_name : (a b : Key) → state_key a ≡ state_key b → a ≡ b
state_name a b e = cc

value_of : (o : Option Key) (r : TierRec) → IsRecOf o (Some r) → (v : Key) × (o ≡ Some v)
value_of None r h = absurd h
value_of (Some v) r h = (v, refl)

some_rec : (r q : TierRec) → ◌≡◌ {A = Option TierRec} (Some r) (Some q) → r ≡ q
some_rec r q e = cc

-- what is known of both maps where a record was read, and the base up to its name
pub record Beside (p : Option Key) (name bytes : Key) (r : TierRec) (found : Option Found) (x y : Table) : Type 0 where
  pub next : IsNext p (record_key name) x
  pub got : Some bytes ≡ fin.get x (record_key name)
  pub spells : SpellsRec bytes r
  pub shows : Shows (fin.get y (state_key name)) found

module _ (p : Option Key) (name bytes : Key) (r : TierRec) (found : Option Found) (x y : Table) where
  same_rec : Beside p name bytes r found x y → (q : TierRec) → IsRecOf (fin.get x (record_key name)) (Some q) → q ≡ r
  same_rec b q h = some_rec q r (record_one (Some bytes) (Some q) (Some r) (subst (λ o. IsRecOf o (Some q)) (sym b.got) h) b.spells)

  fits_here : Beside p name bytes r found x y → ((s : NameState) → IsFound found s → Fits r.dirty r.state s) → FitsAt name x y
  fits_here b fit q s have =
      let same : q ≡ r = same_rec b q have.cached in
      subst (λ (t : TierRec). Fits t.dirty t.state s) (sym same) (fit s (b.shows s have.based))

  -- of the names up to this one
  cases : Beside p name bytes r found x y → (m : Key) (q : TierRec) (s : NameState) → HaveOf m x y q s → is_above (Some (record_key name)) (record_key m) ≡ false
      → (is_above p (record_key m) ≡ false) ⊎ (m ≡ name)
  cases b m q s have low =
      let v = value_of (fin.get x (record_key m)) q have.cached in
      elim (up_to_next p (record_key name) (record_key m) v.0 x b.next v.1 low) [ inl below ↦ inl below | inr same ↦ inr (same_name m name same) ]

  pub fit_on : Beside p name bytes r found x y → ((s : NameState) → IsFound found s → Fits r.dirty r.state s)
      → ((m : Key) → is_above p (record_key m) ≡ false → FitsAt m x y) → (m : Key) → is_above (Some (record_key name)) (record_key m) ≡ false → FitsAt m x y
  fit_on b fit before m low q s have = elim (cases b m q s have low) [
    | inl below ↦ before m below q s have
    | inr same ↦ fits_here b fit q s (subst (λ k. HaveOf k x y q s) same have)
  ]

  -- all names below are fine
  pub fit_below : Beside p name bytes r found x y → ((m : Key) → is_above p (record_key m) ≡ false → FitsAt m x y) → (m : Key) → name_cmp m name ≡ Less → FitsAt m x y
  fit_below b before m low q s have =
      let down : is_above (Some (record_key name)) (record_key m) ≡ false = not_back (record_key m) (record_key name) low in
      elim (cases b m q s have down) [
        | inl below ↦ before m below q s have
        | inr same ↦ absurd (let up = lower m name low in let no = subst (λ k. is_above (Some m) k ≡ false) same (not_itself m) in cc)
      ]

  pub clashes_here : Beside p name bytes r found x y → ((s : NameState) → IsFound found s → Clashes r.dirty r.state s)
      → (s : NameState) → IsStateOf (fin.get y (state_key name)) s → ClashesAt name x y
  clashes_here b clash s based = record {
    rec = r;
    based = s;
    have = record { cached = subst (λ o. IsRecOf o (Some r)) b.got b.spells; based = based };
    clash = clash s (b.shows s based);
  }

-- ---- the base has a state of each name up to its place

letters : (a b : ℕ) (x y : Key) → a ∷ x ≡ b ∷ y → a ≡ b
letters a b x y e = cc

state_in : (key name value : Key) → key ≡ state_key name → IsBaseEntry key value → (s : NameState) × IsStateOf (Some value) s
state_in key name value same (inl epoch) = absurd (omega (arith, letters 0x45 0x4e [] name (sym epoch.there ∙ same)))
state_in key name value same (inr entry) = (entry.state, entry.spells)

within_itself : (key : Key) → is_within (Some key) key ≡ true
within_itself key = ap not (not_itself key)

state_by : (q : Option Key) (name : Key) (y : Table) (o : Option Key) → fin.get y (state_key name) ≡ o → AreRight IsBaseEntry q y
    → IsLast q (Some (state_key name)) y → (s : NameState) × IsStateOf o s
state_by q name y None is right last = (unknown, refl)
state_by q name y (Some v) is right last = by_place q (state_key name)
    (λ above. absurd (let out = last (state_key name) v is above in let up = within_itself (state_key name) in cc))
    (λ below. state_in (state_key name) name v refl (right (state_key name) v is below))

pub has_state : (q : Option Key) (name : Key) (y : Table) → AreRight IsBaseEntry q y → IsLast q (Some (state_key name)) y
    → (s : NameState) × IsStateOf (fin.get y (state_key name)) s
has_state q name y right last = state_by q name y (fin.get y (state_key name)) refl right last

-- ---- the first name that does not fit

pub fit_more : (was is : Option Key) (p q : Option Key) (name bytes : Key) (r : TierRec) (found : Option Found) (x y : Table) → IsCompared was is found name r
    → Beside p name bytes r found x y → AreRight IsBaseEntry q y → IsLast q (Some (state_key name)) y → FitSoFar was p x y → FitSoFar is (Some (record_key name)) x y
fit_more (Some first) is p q name bytes r found x y told b right last fit = subst (λ o. FitSoFar o (Some (record_key name)) x y) (sym told) fit
fit_more None None p q name bytes r found x y told b right last fit = fit_on p name bytes r found x y b told fit
fit_more None (Some other) p q name bytes r found x y told b right last fit =
    let s = has_state q name y right last in
    subst (λ n. IsFirstUnsound n x y) (sym told.0)
    (record { clashes = clashes_here p name bytes r found x y b told.1 s.0 s.1; first = fit_below p name bytes r found x y b fit })
