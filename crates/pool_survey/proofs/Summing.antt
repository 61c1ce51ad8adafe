-- The sums over the records up to a place.
use Rattle.std.proofs.Common.{◌≡◌, ◌⊎◌, inl, inr, ℕ, Bool, true, false, cond, List, [], ◌∷◌, ◌++◌, map, Option, Some, None, refl, sym, ap, ap₂, subst, ◌∙◌}
use Rattle.std.specs.FinMap as fin
use Rattle.std.specs.Ordering.{eq_by_cmp}
use Rattle.std.specs.Cmp.{Equal-is}
use Rattle.std.specs.declared.cmp.Ordering.TheVariants.{Less}
use Rattle.std.proofs.lemmas.List.{map-append}
use Rattle.std.proofs.lemmas.List.Sums.{fold-append}
use Rattle.agent_state.specs.declared.totals.Totals.{Totals}
use Rattle.obj_model.specs.Names.{name_cmp}
use Rattle.pool_keys.specs.Keys.{epoch_key, record_key}
use Rattle.pool_keys.specs.Maps.{Recs, SpellsCache}
use Rattle.pool_keys.specs.Values.{IsRecOf}
use Rattle.pool_keys.proofs.Caches.{record_one}
use Rattle.store_face.specs.Limits.{IsPoolMap}
use Rattle.obj_model.specs.Tables.{is_above}
use Rattle.store_face.specs.Tables.{Table}
use Rattle.tier_rec.specs.Records.{totals_after}
use Rattle.tier_types.specs.Flights.{IsIn}
use Rattle.tier_types.specs.declared.record.TierRec.{TierRec}
use Rattle.pool_survey.specs.Places.{IsLast, IsNext}
use Rattle.pool_survey.specs.Runs.{AreSoFar, no_sums, summed, up_to}
use Rattle.pool_survey.specs.Steps.{SpellsRec}
use Rattle.pool_survey.specs.Surveys.{AreSumsOf}
use Rattle.pool_survey.proofs.Orders.{Key, Over, Rise, above_more, has_value, in_keys, is_lower, lower, not_itself, not_back, over_in, rise_of}
use Rattle.pool_survey.proofs.Places.{by_place}
use Rattle.pool_survey.proofs.Weights.{few, summed_all}

abbrev Rec : Type 0
Rec = Key × TierRec

abbrev names : List Rec → List Key
names es = map (λ e. e.0) es

-- ---- lists of records up to a place

low_test : (P : List Rec → Type 0) (p : Option Key) (e : Rec) (es : List Rec) (b : Bool) → is_above p (record_key e.0) ≡ b
    → (is_above p (record_key e.0) ≡ false → P (e ∷ up_to p es)) → (is_above p (record_key e.0) ≡ true → P (up_to p es)) → P (up_to p (e ∷ es))
low_test P p e es true h low high = rw h (high h)
low_test P p e es false h low high = rw h (low h)

kept_low : (p : Option Key) (e : Rec) (es : List Rec) → is_above p (record_key e.0) ≡ false → up_to p (e ∷ es) ≡ e ∷ up_to p es
kept_low p e es h =
    low_test (λ l. l ≡ e ∷ up_to p es) p e es (is_above p (record_key e.0)) refl (λ low. refl) (λ high. absurd (cc))

kept_high : (p : Option Key) (e : Rec) (es : List Rec) → is_above p (record_key e.0) ≡ true → up_to p (e ∷ es) ≡ up_to p es
kept_high p e es h =
    low_test (λ l. l ≡ up_to p es) p e es (is_above p (record_key e.0)) refl (λ low. absurd (cc)) (λ high. refl)

none_high : (p : Option Key) (es : List Rec) → ((m : Key) → IsIn m (names es) → is_above p (record_key m) ≡ true) → up_to p es ≡ []
none_high p [] high = refl
none_high p (e ∷ es) high = kept_high p e es (high e.0 (inl refl)) ∙ none_high p es (λ m there. high m (inr there))

all_low : (p : Option Key) (es : List Rec) → ((m : Key) → IsIn m (names es) → is_above p (record_key m) ≡ false) → up_to p es ≡ es
all_low p [] low = refl
all_low p (e ∷ es) low = kept_low p e es (low e.0 (inl refl)) ∙ ap (λ l. e ∷ l) (all_low p es (λ m there. low m (inr there)))

-- what a name is to the next one
abbrev Stands : Option Key → Key → Key → Type 0
Stands p name m = (is_above p (record_key m) ≡ false) ⊎ ((m ≡ name) ⊎ (name_cmp name m ≡ Less))

-- a name that is below another is not above it
low_still : (p : Option Key) (name m : Key) → is_above p (record_key name) ≡ true → is_above p (record_key m) ≡ false
    → is_above (Some (record_key name)) (record_key m) ≡ false
low_still p name m above low = by_place (Some (record_key name)) (record_key m)
    (λ up. absurd (let more = above_more p (record_key name) (record_key m) above (is_lower (record_key name) (record_key m) up) in cc))
    (λ down. down)

not_same : (p : Option Key) (name m : Key) → is_above p (record_key name) ≡ true → is_above p (record_key m) ≡ false → name ≡ m → ⊥
not_same p name m above low same = let up : is_above p (record_key m) ≡ true = subst (λ x. is_above p (record_key x) ≡ true) same above in absurd (cc)

past : {V : Type 0} (b : Bool) (name : Key) (e : Key × V) (es : List (Key × V)) (v : V) → eq_by_cmp name_cmp name e.0 ≡ b → (name ≡ e.0 → ⊥)
    → cond b (Some e.1) (fin.find name_cmp name es) ≡ Some v → fin.find name_cmp name es ≡ Some v
past true name e es v tied other h =
    absurd (other (fin.slice_cmp-IsAntisymmetric fin.nat_cmp-IsAntisymmetric name e.0 ((Equal-is (name_cmp name e.0)).0 tied)))
past false name e es v tied other h = h

here : (b : Bool) (name : Key) (e : Rec) (es : List Rec) (r : TierRec) → eq_by_cmp name_cmp name e.0 ≡ b → name ≡ e.0 → Over e.0 (names es)
    → cond b (Some e.1) (fin.find name_cmp name es) ≡ Some r → e.1 ≡ r
here true name e es r tied same over h = cc
here false name e es r tied same over h =
    absurd (let low = over_in e.0 name (names es) over (in_keys name es r h) in
    let up = lower e.0 name low in let down = subst (λ x. is_above (Some e.0) x ≡ false) (sym same) (not_itself e.0) in cc)

-- the next name's record comes behind those up to the place
one_more : (p : Option Key) (name : Key) (r : TierRec) (es : List Rec) → Rise (names es) → fin.find name_cmp name es ≡ Some r
    → is_above p (record_key name) ≡ true → ((m : Key) → IsIn m (names es) → Stands p name m)
    → up_to (Some (record_key name)) es ≡ up_to p es ++ (name, r) ∷ []
one_more p name r [] rise found above stands = absurd (cc)
one_more p name r (e ∷ es) rise found above stands = elim (stands e.0 (inl refl)) [
  | inl low ↦
      let rest = one_more p name r es rise.1 (past (eq_by_cmp name_cmp name e.0) name e es r refl (not_same p name e.0 above low) found) above (λ m there. stands m (inr there)) in
      kept_low (Some (record_key name)) e es (low_still p name e.0 above low) ∙ ap (λ l. e ∷ l) rest
      ∙ ap (λ l. l ++ (name, r) ∷ []) (sym (kept_low p e es low))
  | inr (inl same) ↦
      let mine : e.1 ≡ r = here (eq_by_cmp name_cmp name e.0) name e es r refl (sym same) rise.0 found in
      let low : is_above (Some (record_key name)) (record_key e.0) ≡ false = subst (λ x. is_above (Some (record_key name)) (record_key x) ≡ false) (sym same) (not_itself (record_key name)) in
      let up : is_above p (record_key e.0) ≡ true = subst (λ x. is_above p (record_key x) ≡ true) (sym same) above in
      let behind : up_to (Some (record_key name)) es ≡ [] = none_high (Some (record_key name)) es
      (λ m there. lower (record_key name) (record_key m) (subst (λ x. name_cmp x m ≡ Less) same (over_in e.0 m (names es) rise.0 there))) in
      let before : up_to p es ≡ [] = none_high p es
      (λ m there. above_more p (record_key e.0) (record_key m) up (over_in e.0 m (names es) rise.0 there)) in
      kept_low (Some (record_key name)) e es low ∙ ap (λ l. e ∷ l) behind ∙ ap₂ (λ n q. (n, q) ∷ []) same mine
      ∙ ap (λ l. l ++ (name, r) ∷ []) (sym (kept_high p e es up ∙ before))
  | inr (inr behind) ↦ absurd (elim (in_keys name (e ∷ es) r found) [
    | inl same ↦ let up = lower name e.0 behind in let down = subst (λ x. is_above (Some name) x ≡ false) same (not_itself name) in cc
    | inr there ↦ let up = lower name e.0 behind in let down = not_back e.0 name (over_in e.0 name (names es) rise.0 there) in cc
  ])
]

-- ---- the sums

pub sums_start : (x : Table) (totals : Totals) → totals ≡ no_sums → AreSoFar None totals x
sums_start x totals none recs epoch h =
    none ∙ ap (λ es. summed (map (λ e. e.1) es)) (sym (none_high None (fin.entries recs) (λ m there. refl)))

-- the epoch is no record
pub sums_epoch : (p : Option Key) (x : Table) (totals : Totals) → IsNext p epoch_key x → AreSoFar p totals x → AreSoFar (Some epoch_key) totals x
sums_epoch p x totals next so_far recs epoch h =
    let before = none_high p (fin.entries recs) (λ m there. above_more p epoch_key (record_key m) next.above refl) in
    let behind = none_high (Some epoch_key) (fin.entries recs) (λ m there. refl) in
    so_far recs epoch h ∙ ap (λ es. summed (map (λ e. e.1) es)) (before ∙ sym behind)

-- a record has a value
value_of : (o : Option Key) (r : TierRec) → IsRecOf o (Some r) → (v : Key) × (o ≡ Some v)
value_of None r h = absurd h
value_of (Some v) r h = (v, refl)

recorded : (x : Table) (recs : Recs) (epoch : ℕ) → SpellsCache x recs epoch → (m : Key) → IsIn m (names (fin.entries recs))
    → (v : Key) × (fin.get x (record_key m) ≡ Some v)
recorded x recs epoch h m there =
    let w = has_value m (fin.entries recs) there in
    value_of (fin.get x (record_key m)) w.0 (subst (IsRecOf (fin.get x (record_key m))) (fin.get-entries recs m ∙ w.1) (h.each m))

same_name : (a b : Key) → record_key a ≡ record_key b → a ≡ b
same_name a b e = cc

pub sums_record : (p : Option Key) (name bytes : Key) (r : TierRec) (x : Table) (totals : Totals) → IsNext p (record_key name) x
    → Some bytes ≡ fin.get x (record_key name) → SpellsRec bytes r → AreSoFar p totals x
    → AreSoFar (Some (record_key name)) (totals_after totals None (Some r)) x
sums_record p name bytes r x totals next got spells so_far recs epoch h =
    let es = fin.entries recs in
    let mine : fin.get recs name ≡ Some r = record_one (Some bytes) (fin.get recs name) (Some r) (subst (λ o. IsRecOf o (fin.get recs name)) (sym got) (h.each name)) spells in
    let list = one_more p name r es (rise_of es (fin.entries_sorted recs)) (sym (fin.get-entries recs name) ∙ mine) next.above
    (λ m there.
    let v = recorded x recs epoch h m there in
    by_place p (record_key m)
    (λ above. elim (next.others (record_key m) v.0 v.1 above) [ inl same ↦ inr (inl (same_name m name same)) | inr behind ↦ inr (inr behind) ])
    (λ low. inl low)) in
    let one = map-append (λ e. e.1) (up_to p es) ((name, r) ∷ []) in
    ap (λ t. totals_after t None (Some r)) (so_far recs epoch h)
    ∙ sym (fold-append (λ t q. totals_after t None (Some q)) no_sums (map (λ e. e.1) (up_to p es)) (r ∷ []))
    ∙ ap summed (sym one) ∙ ap (λ l. summed (map (λ e. e.1) l)) (sym list)

-- at the end they are the sums over all records
pub sums_last : (p : Option Key) (x : Table) (totals : Totals) → IsLast p None x → IsPoolMap x → AreSoFar p totals x → AreSumsOf totals x
sums_last p x totals last lawful so_far recs epoch h =
    let es = fin.entries recs in
    let all = all_low p es (λ m there. by_place p (record_key m)
    (λ above. absurd (let v = recorded x recs epoch h m there in let out = last (record_key m) v.0 v.1 above in cc)) (λ low. low)) in
    so_far recs epoch h ∙ ap (λ l. summed (map (λ e. e.1) l)) all ∙ summed_all (map (λ e. e.1) es) (few x recs epoch h lawful)
