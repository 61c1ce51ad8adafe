-- What is read at the next place, and what holds up to it.
use Rattle.std.proofs.Common.{◌≡◌, ◌⊎◌, inl, inr, Bool, true, false, not, List, [], ◌∷◌, length, take, Option, Some, None, refl, sym, ap, subst, ◌∙◌}
use Rattle.std.specs.FinMap as fin
use Rattle.std.specs.declared.cmp.Ordering.TheVariants.{Less}
use Rattle.obj_model.specs.Names.{name_cmp}
use Rattle.obj_model.specs.Tables.{is_above}
use Rattle.store_face.specs.Tables.{Table, keys_above}
use Rattle.tier_types.specs.Flights.{IsIn}
use Rattle.pool_survey.specs.Causes.{IsFirstWrong}
use Rattle.pool_survey.specs.Places.{AreRight, IsLast, IsNext, IsPage, IsSaid, is_within}
use Rattle.pool_survey.specs.Runs.{IsWrong}
use Rattle.pool_survey.specs.Steps.{HasNext}
use Rattle.pool_survey.proofs.Orders.{Key, Rise, above_first, above_more, has_value, head_taken, in_kept, in_keys, is_lower, kept_in, kept_rise, lower, none_taken, not_back, not_itself, over_in, rise_of, take_as_many}

rise_keys : (t : Table) → Rise (fin.keys t)
rise_keys t = rise_of (fin.entries t) (fin.entries_sorted t)

there_in : (t : Table) (p : Option Key) (k v : Key) → fin.get t k ≡ Some v → is_above p k ≡ true → IsIn k (keys_above p t)
there_in t p k v there above = kept_in p k (fin.keys t) (in_keys k (fin.entries t) v (sym (fin.get-entries t k) ∙ there)) above

-- ---- pages

pub page_start : (p : Option Key) (page : List Key) (t : Table) → page ≡ [] → IsPage p page t
page_start p page t none = subst (λ l. IsPage p l t) (sym none) refl

pub page_read : (p : Option Key) (page : List Key) (t : Table) → page ≡ take 256 (keys_above p t)
    → IsPage p page t × (page ≡ [] → keys_above p t ≡ [])
page_read p page t is = (
  is ∙ take_as_many 256 (keys_above p t) ∙ ap (λ l. take (length l) (keys_above p t)) (sym is),
  λ none. none_taken 255 (keys_above p t) (sym is ∙ none),
)

next_of : (p : Option Key) (key : Key) (more : List Key) (t : Table) → keys_above p t ≡ key ∷ more → IsNext p key t
next_of p key more t is =
    let here : IsIn key (keys_above p t) = subst (IsIn key) (sym is) (inl refl) in
    let both = in_kept p key (fin.keys t) here in
    let found = has_value key (fin.entries t) both.0 in
    let rise : Rise (key ∷ more) = subst Rise is (kept_rise p (fin.keys t) (rise_keys t)) in
    record {
      value = found.0;
      there = fin.get-entries t key ∙ found.1;
      above = both.1;
      others = λ k v there above. elim (subst (IsIn k) is (there_in t p k v there above)) [
        | inl same ↦ inl same
        | inr behind ↦ inr (over_in key k more rise.0 behind)
      ];
    }

-- the first key of a page is the next, and the others are the page behind it
pub page_taken : (p : Option Key) (key : Key) (rest : List Key) (t : Table) → IsPage p (key ∷ rest) t
    → IsNext p key t × IsPage (Some key) rest t
page_taken p key rest t page =
    let cut = head_taken key rest (keys_above p t) page in
    (next_of p key cut.0 t cut.1, cut.2 ∙ ap (take (length rest)) (sym (above_first p (fin.keys t) key cut.0 (rise_keys t) cut.1)))

none_last : (p bound : Option Key) (t : Table) → keys_above p t ≡ [] → IsLast p bound t
none_last p bound t none k v there above = absurd (subst (IsIn k) none (there_in t p k v there above))

turned : (c : Bool) → not c ≡ false → c ≡ true
turned true e = refl
turned false e = absurd (cc)

out_more : (bound : Option Key) (a b : Key) → is_within bound a ≡ false → name_cmp a b ≡ Less → is_within bound b ≡ false
out_more None a b h lt = absurd (cc)
out_more (Some k) a b h lt =
    let up : is_above (Some k) a ≡ true = turned (is_above (Some k) a) h in
    ap not (above_more (Some k) a b up lt)

next_last : (p bound : Option Key) (key : Key) (t : Table) → IsNext p key t → is_within bound key ≡ false → IsLast p bound t
next_last p bound key t next out k v there above = elim (next.others k v there above) [
  | inl same ↦ subst (λ x. is_within bound x ≡ false) (sym same) out
  | inr behind ↦ out_more bound key k out behind
]

-- no key is left within the bound
pub page_last : (p bound : Option Key) (page : List Key) (t : Table) → IsPage p page t → (page ≡ [] → keys_above p t ≡ [])
    → HasNext bound page false → IsLast p bound t
page_last p bound [] t page none out = none_last p bound t (none refl)
page_last p bound (key ∷ rest) t page none out = next_last p bound key t (page_taken p key rest t page).0 (out key rest refl)

-- ---- what holds up to a place

pub by_place : {P : Type 0} (p : Option Key) (k : Key) → (is_above p k ≡ true → P) → (is_above p k ≡ false → P) → P
by_place {P} p k up down = tested (is_above p k) refl
  where
    tested : (b : Bool) → is_above p k ≡ b → P
    tested true h = up h
    tested false h = down h

-- what is not above the next key was not above the place, or is that key
pub up_to_next : (p : Option Key) (key k v : Key) (t : Table) → IsNext p key t → fin.get t k ≡ Some v → is_above (Some key) k ≡ false
    → (is_above p k ≡ false) ⊎ (k ≡ key)
up_to_next p key k v t next there low = by_place p k
    (λ above. elim (next.others k v there above) [
      | inl same ↦ inr same
      | inr behind ↦ absurd (let up = lower key k behind in cc)
    ])
    (λ below. inl below)

some_one : (v w : Key) → ◌≡◌ {A = Option Key} (Some v) (Some w) → v ≡ w
some_one v w e = cc

pub right_start : (R : Key → Key → Type 0) (t : Table) → AreRight R None t
right_start R t k v there low = absurd (cc)

pub right_next : (R : Key → Key → Type 0) (p : Option Key) (key value : Key) (t : Table) → AreRight R p t → IsNext p key t
    → Some value ≡ fin.get t key → R key value → AreRight R (Some key) t
right_next R p key value t right next got here k v there low = elim (up_to_next p key k v t next there low) [
  | inl below ↦ right k v there below
  | inr same ↦ subst (λ x. R x v) (sym same) (subst (R key) (some_one value v (got ∙ ap (fin.get t) (sym same) ∙ there)) here)
]

pub right_last : (R : Key → Key → Type 0) (p : Option Key) (t : Table) → AreRight R p t → IsLast p None t
    → (k v : Key) → fin.get t k ≡ Some v → R k v
right_last R p t right last k v there = by_place p k (λ above. absurd (let out = last k v there above in cc)) (λ below. right k v there below)

-- the next key is the first that is wrong
pub wrong_next : (R : Key → Key → Type 0) (p : Option Key) (key : Key) (value : Option Key) (t : Table) → AreRight R p t → IsNext p key t
    → value ≡ fin.get t key → IsWrong R key value → IsFirstWrong R key t
wrong_next R p key value t right next got wrong = record {
  value = next.value;
  there = next.there;
  wrong = wrong next.value (got ∙ next.there);
  first = λ low other lt there. by_place p low
      (λ above. elim (next.others low other there above) [
        | inl same ↦ absurd (let up = lower low key lt in let down = subst (λ x. is_above (Some x) key ≡ false) (sym same) (not_itself key) in cc)
        | inr behind ↦ absurd (let up = lower low key lt in let down = not_back key low behind in cc)
      ])
      (λ below. right low other there below);
}

-- ---- what is said of one key's value

pub said_start : (key : Key) (P : Option Key → Type 0) (t : Table) → P None → IsSaid key P None t
said_start key P t none = record { before = λ above. none; behind = λ below. absurd (cc) }

pub said_here : (p : Option Key) (key : Key) (P : Option Key → Type 0) (t : Table) → P (fin.get t key) → IsSaid key P (Some key) t
said_here p key P t here = record {
  before = λ above. absurd (let down = not_itself key in cc);
  behind = λ below. here;
}

nothing_there : (p : Option Key) (key target : Key) (t : Table) (o : Option Key) → fin.get t target ≡ o → IsNext p key t → (target ≡ key → ⊥)
    → is_above p target ≡ true → is_above (Some key) target ≡ false → o ≡ None
nothing_there p key target t None is next other above low = refl
nothing_there p key target t (Some v) is next other above low = elim (up_to_next p key target v t next is low) [
  | inl below ↦ absurd (cc)
  | inr same ↦ absurd (other same)
]

pub said_next : (p : Option Key) (key target : Key) (P : Option Key → Type 0) (t : Table) → IsSaid target P p t → IsNext p key t
    → (target ≡ key → ⊥) → IsSaid target P (Some key) t
said_next p key target P t said next other = record {
  before = λ above. by_place p target (λ up. said.before up)
      (λ down. absurd (let more = above_more p key target next.above (is_lower key target above) in cc));
  behind = λ low. by_place p target
      (λ above. subst P (sym (nothing_there p key target t (fin.get t target) refl next other above low)) (said.before above))
      (λ below. said.behind below);
}

not_there : (p bound : Option Key) (target : Key) (t : Table) (o : Option Key) → fin.get t target ≡ o → IsLast p bound t → is_within bound target ≡ true
    → is_above p target ≡ true → o ≡ None
not_there p bound target t None is last within above = refl
not_there p bound target t (Some v) is last within above = absurd (let out = last target v is above in cc)

pub said_last : (p bound : Option Key) (target : Key) (P : Option Key → Type 0) (t : Table) → IsSaid target P p t → IsLast p bound t
    → is_within bound target ≡ true → P (fin.get t target)
said_last p bound target P t said last within = by_place p target
    (λ above. subst P (sym (not_there p bound target t (fin.get t target) refl last within above)) (said.before above))
    (λ below. said.behind below)
