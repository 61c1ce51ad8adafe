-- Reading the base on.
use Rattle.std.proofs.Common.{◌≡◌, ◌⊎◌, inl, inr, ℕ, Bool, true, false, not, [], ◌∷◌, Option, None, Some, is_some, true≢false, Result, Ok, Err, refl, sym, ap, subst, ◌∙◌, arith}
use Rattle.std.specs.FinMap as fin
use Rattle.obj_model.specs.declared.change.Pool.TheVariants.{Cache, Base}
use Rattle.obj_model.specs.declared.state.NameState.{NameState}
use Rattle.pool_keys.specs.Keys.{IsKeyOf, epoch_key, state_key}
use Rattle.pool_keys.specs.Values.{IsEpochOf, SpellsEpoch}
use Rattle.rec_codec.specs.Spelling.{SpellsState}
use Rattle.rec_codec.proofs.Whole.{states_apart}
use Rattle.store_face.specs.Calls.{Stays}
use Rattle.obj_model.specs.Tables.{is_above}
use Rattle.store_face.specs.Tables.{Table}
use Rattle.store_face.specs.Views.{Holds, StoreView}
use Rattle.pool_survey.specs.Causes.{IsBaseEntry}
use Rattle.pool_survey.specs.Places.{IsLast, IsNext, IsPage, IsSaid, is_within}
use Rattle.pool_survey.specs.Runs.{BaseSoFar, CountsIn, IsBaseRead, IsEpochKept, IsFoundIn, IsFoundSoFar, IsRefused, IsRightSoFar, IsStateKept, IsUpTo, IsWrong, ReadsBase, ReadsUpTo}
use Rattle.pool_survey.specs.Steps.{IsPassed, IsThere, Moves, Shows, place}
use Rattle.pool_survey.specs.declared.base.BaseRun.{BaseRun}
use Rattle.pool_survey.specs.declared.fault.SurveyFault.{SurveyFault}
use Rattle.pool_survey.specs.declared.fault.SurveyFault.TheVariants as fault
use Rattle.pool_survey.proofs.Later.{also, always, read_fails_later, weaker}
use Rattle.store_face.proofs.Later.{holds_back, holds_on, stays_same, stays_twice}
use Rattle.pool_survey.proofs.Orders.{Key, not_itself}
use Rattle.pool_survey.proofs.Places.{page_start, right_next, right_start, said_here, said_last, said_next, said_start, wrong_next}

-- before the first entry
pub base_start : (run : BaseRun) (v : StoreView) → run.cursor.passed ≡ None → run.cursor.page.items ≡ [] → run.epoch ≡ 0 → run.wrong ≡ None
    → Holds v (BaseSoFar run)
base_start run v passed page epoch wrong = always v (BaseSoFar run) (λ y. record {
  page = page_start run.cursor.passed run.cursor.page.items y page;
  right = subst (λ w. IsRightSoFar w run.epoch run.cursor.passed y) (sym wrong)
      (subst (λ p. IsRightSoFar None run.epoch p y) (sym passed)
      (right_start IsBaseEntry y, said_start epoch_key (λ o. IsEpochOf o run.epoch) y epoch));
})

-- the page of a run
pub page_of : (run : BaseRun) (v : StoreView) → Holds v (BaseSoFar run) → Holds v (IsPage run.cursor.passed run.cursor.page.items)
page_of run v so_far = weaker v (BaseSoFar run) (IsPage run.cursor.passed run.cursor.page.items) (λ y h. h.page) so_far

-- ---- nothing is read

same_read : (bound : Option Key) (was is : BaseRun) (v : StoreView) → is.cursor.passed ≡ was.cursor.passed → is.wrong ≡ was.wrong → is.found ≡ was.found
    → Holds v (BaseSoFar is) → IsBaseRead bound was is v
same_read bound was is v passed wrong found base = record {
  base = base;
  wrong = λ none. sym wrong ∙ none;
  up_to = inl passed;
  found = λ from h. weaker v (IsFoundSoFar bound from was) (IsFoundSoFar bound from is)
      (λ y so_far none name at above. subst (λ p. IsSaid (state_key name) (λ o. Shows o is.found) p y) (sym passed)
      (subst (λ f. IsSaid (state_key name) (λ o. Shows o f) was.cursor.passed y) (sym found) (so_far (sym wrong ∙ none) name at above))) h;
}

pub base_stopped : (bound : Option Key) (was : BaseRun) (v : StoreView) → (was.wrong ≡ None → ⊥) → Holds v (BaseSoFar was) → ReadsBase bound was was v v (Ok false)
base_stopped bound was v some so_far = (stays_same v, same_read bound was was v refl refl refl so_far, λ none. absurd (some none))

end_at : (was is : BaseRun) (y : Table) → is.cursor.passed ≡ was.cursor.passed → is.epoch ≡ was.epoch → is.wrong ≡ was.wrong
    → IsPage is.cursor.passed is.cursor.page.items y → BaseSoFar was y → BaseSoFar is y
end_at was is y passed epoch wrong page h = record {
  page = page;
  right = subst (λ w. IsRightSoFar w is.epoch is.cursor.passed y) (sym wrong)
      (subst (λ n. IsRightSoFar was.wrong n is.cursor.passed y) (sym epoch)
      (subst (λ p. IsRightSoFar was.wrong was.epoch p y) (sym passed) h.right));
}

pub base_end : (bound : Option Key) (was is : BaseRun) (a b : StoreView) → Moves bound was.cursor is.cursor a b (Ok None) → is.epoch ≡ was.epoch
    → is.found ≡ was.found → is.wrong ≡ was.wrong → Holds a (BaseSoFar was) → ReadsBase bound was is a b (Ok false)
base_end bound was is a b moved epoch found wrong so_far =
    let there : IsThere bound was.cursor is.cursor a = moved.1 in (
      moved.0,
      same_read bound was is a there.passed wrong found
          (also a (IsPage is.cursor.passed is.cursor.page.items) (BaseSoFar was) (BaseSoFar is) (λ y page h. end_at was is y there.passed epoch wrong page h) there.page so_far),
      λ none. weaker a (IsLast was.cursor.passed bound) (IsLast is.cursor.passed bound) (λ y last. subst (λ p. IsLast p bound y) (sym there.passed) last) there.last,
    )

-- ---- an entry

-- what is known of a map where a key was passed
pub record At (was is : BaseRun) (key : Key) (value : Option Key) (y : Table) : Type 0 where
  next : IsNext was.cursor.passed key y
  got : value ≡ fin.get y key
  page : IsPage is.cursor.passed is.cursor.page.items y
  right : IsRightSoFar None was.epoch was.cursor.passed y

pub record AtNext (was : BaseRun) (key : Key) (value : Option Key) (y : Table) : Type 0 where
  next : IsNext was.cursor.passed key y
  got : value ≡ fin.get y key

at_next : (bound : Option Key) (was mid : BaseRun) (value : Option Key) (a : StoreView) → IsPassed bound was.cursor mid.cursor a value
    → Holds a (AtNext was (place mid.cursor) value)
at_next bound was mid value a p =
    also a (IsNext was.cursor.passed (place mid.cursor)) (λ y. value ≡ fin.get y (place mid.cursor)) (AtNext was (place mid.cursor) value)
    (λ y next got. record { next = next; got = got }) p.next p.got

at_all : (bound : Option Key) (was mid is : BaseRun) (value : Option Key) (a : StoreView) → IsPassed bound was.cursor mid.cursor a value → is.cursor ≡ mid.cursor
    → was.wrong ≡ None → Holds a (BaseSoFar was) → Holds a (At was is (place mid.cursor) value)
at_all bound was mid is value a p cursor none so_far =
    let Paged : Table → Type 0 = λ y. IsPage is.cursor.passed is.cursor.page.items y × BaseSoFar was y in
    let page : Holds a (IsPage is.cursor.passed is.cursor.page.items) = subst (λ c. Holds a (IsPage c.passed c.page.items)) (sym cursor) p.page in
    also a (AtNext was (place mid.cursor) value) Paged (At was is (place mid.cursor) value)
    (λ y one two. record { next = one.next; got = one.got; page = two.0; right = subst (λ w. IsRightSoFar w was.epoch was.cursor.passed y) none two.1.right })
    (at_next bound was mid value a p)
    (also a (IsPage is.cursor.passed is.cursor.page.items) (BaseSoFar was) Paged (λ y one two. (one, two)) page so_far)

letters : (a b : ℕ) (x y : Key) → a ∷ x ≡ b ∷ y → a ≡ b
letters a b x y e = cc

no_epoch : (name : Key) → epoch_key ≡ state_key name → ⊥
no_epoch name e = omega (arith, letters 0x45 0x4e [] name e)

epoch_at : (was is : BaseRun) (bytes : Key) (y : Table) → is.cursor.passed ≡ Some epoch_key → is.wrong ≡ None → SpellsEpoch bytes is.epoch
    → At was is epoch_key (Some bytes) y → BaseSoFar is y
epoch_at was is bytes y passed none spells at = record {
  page = at.page;
  right = subst (λ w. IsRightSoFar w is.epoch is.cursor.passed y) (sym none) (subst (λ p. IsRightSoFar None is.epoch p y) (sym passed) (
    right_next IsBaseEntry was.cursor.passed epoch_key bytes y at.right.0 at.next at.got (inl (record { there = refl; epoch = is.epoch; spells = spells })),
    said_here was.cursor.passed epoch_key (λ o. IsEpochOf o is.epoch) y (subst (λ o. IsEpochOf o is.epoch) at.got spells),
  ));
}

state_at : (was is : BaseRun) (name bytes : Key) (s : NameState) (y : Table) → is.cursor.passed ≡ Some (state_key name) → IsKeyOf state_key (state_key name) name
    → is.wrong ≡ None → SpellsState bytes s → is.epoch ≡ was.epoch → At was is (state_key name) (Some bytes) y → BaseSoFar is y
state_at was is name bytes s y passed key none spells epoch at = record {
  page = at.page;
  right = subst (λ w. IsRightSoFar w is.epoch is.cursor.passed y) (sym none) (subst (λ p. IsRightSoFar None is.epoch p y) (sym passed)
      (subst (λ n. IsRightSoFar None n (Some (state_key name)) y) (sym epoch) (
        right_next IsBaseEntry was.cursor.passed (state_key name) bytes y at.right.0 at.next at.got
            (inr (record { name = name; there = key; state = s; spells = spells })),
        said_next was.cursor.passed (state_key name) epoch_key (λ o. IsEpochOf o was.epoch) y at.right.1 at.next (no_epoch name),
      )));
}

wrong_at : (was is : BaseRun) (key : Key) (value : Option Key) (y : Table) → is.wrong ≡ Some key → IsWrong IsBaseEntry key value → At was is key value y → BaseSoFar is y
wrong_at was is key value y wrong none at = record {
  page = at.page;
  right = subst (λ w. IsRightSoFar w is.epoch is.cursor.passed y) (sym wrong) (wrong_next IsBaseEntry was.cursor.passed key value y at.right.0 at.next at.got none);
}

-- ---- what was found

same_key : (a b : Key) → ◌≡◌ {A = Option Key} (Some a) (Some b) → a ≡ b
same_key a b e = cc

shows_it : (bytes : Key) (s : NameState) (seq : ℕ) → SpellsState bytes s → seq ≡ s.seq → Shows (Some bytes) (Some (record { spelled = bytes; seq = seq }))
shows_it bytes s seq spells is t other =
    let same : s ≡ t = (states_apart s t bytes bytes [] [] spells other refl).0 in (other, is ∙ ap (λ q. q.seq) same)

-- nothing else was found at another key
found_past : (bound from : Option Key) (was is : BaseRun) (key : Key) (v : StoreView) → is.cursor.passed ≡ Some key → (is.wrong ≡ None → was.wrong ≡ None)
    → is.found ≡ was.found → ((name : Key) → bound ≡ Some (state_key name) → state_key name ≡ key → ⊥) → Holds v (IsNext was.cursor.passed key)
    → Holds v (IsFoundSoFar bound from was) → Holds v (IsFoundSoFar bound from is)
found_past bound from was is key v passed wrong found other next h =
    also v (IsNext was.cursor.passed key) (IsFoundSoFar bound from was) (IsFoundSoFar bound from is)
    (λ y n so_far none name at above. subst (λ p. IsSaid (state_key name) (λ o. Shows o is.found) p y) (sym passed)
    (subst (λ f. IsSaid (state_key name) (λ o. Shows o f) (Some key) y) (sym found)
    (said_next was.cursor.passed key (state_key name) (λ o. Shows o was.found) y (so_far (wrong none) name at above) n (other name at))))
    next h

-- the value of the key that is the bound was found
found_here : (bound from : Option Key) (was is : BaseRun) (key bytes : Key) (s : NameState) (v : StoreView) → is.cursor.passed ≡ Some key → bound ≡ Some key
    → is.found ≡ Some (record { spelled = bytes; seq = s.seq }) → SpellsState bytes s → Holds v (λ y. Some bytes ≡ fin.get y key)
    → Holds v (IsFoundSoFar bound from is)
found_here bound from was is key bytes s v passed here found spells got =
    weaker v (λ y. Some bytes ≡ fin.get y key) (IsFoundSoFar bound from is)
    (λ y e none name at above.
    let same : state_key name ≡ key = same_key (state_key name) key (sym at ∙ here) in
    subst (λ p. IsSaid (state_key name) (λ o. Shows o is.found) p y) (ap Some same ∙ sym passed)
    (subst (λ f. IsSaid (state_key name) (λ o. Shows o f) (Some (state_key name)) y) (sym found)
    (said_here was.cursor.passed (state_key name) (λ o. Shows o (Some (record { spelled = bytes; seq = s.seq }))) y
    (subst (λ o. Shows o (Some (record { spelled = bytes; seq = s.seq }))) (e ∙ ap (fin.get y) (sym same)) (shows_it bytes s s.seq spells refl)))))
    got

-- ---- an entry was read

entered_epoch : (bound : Option Key) (was mid is : BaseRun) (value : Option Key) (bytes : Key) (a : StoreView) → IsPassed bound was.cursor mid.cursor a value
    → mid.found ≡ was.found → mid.wrong ≡ was.wrong → was.wrong ≡ None → value ≡ Some bytes → is.cursor ≡ mid.cursor → is.wrong ≡ mid.wrong
    → IsEpochKept mid is bytes → Holds a (BaseSoFar was) → IsBaseRead bound was is a
entered_epoch bound was mid is value bytes a p found wrong none there cursor same kept so_far =
    let passed : is.cursor.passed ≡ Some epoch_key = ap (λ c. c.passed) cursor ∙ p.passed ∙ ap Some kept.key in
    let right : is.wrong ≡ None = same ∙ wrong ∙ none in
    record {
      base = weaker a (At was is (place mid.cursor) value) (BaseSoFar is)
          (λ y at. epoch_at was is bytes y passed right kept.spells (subst (λ v. At was is epoch_key v y) there (subst (λ k. At was is k value y) kept.key at)))
          (at_all bound was mid is value a p cursor none so_far);
      wrong = λ _. none;
      up_to = inr (epoch_key, passed, ap (is_within bound) (sym kept.key) ∙ p.within);
      found = λ from h. found_past bound from was is epoch_key a passed (λ _. none) (kept.found ∙ found) (λ name at e. no_epoch name (sym e))
          (subst (λ k. Holds a (IsNext was.cursor.passed k)) kept.key p.next) h;
    }

found_in : (bound from : Option Key) (was mid is : BaseRun) (value : Option Key) (bytes : Key) (s : NameState) (a : StoreView) → IsPassed bound was.cursor mid.cursor a value
    → mid.found ≡ was.found → was.wrong ≡ None → value ≡ Some bytes → is.cursor.passed ≡ Some (place mid.cursor)
    → SpellsState bytes s → IsFoundIn bound mid is bytes s.seq → Holds a (IsFoundSoFar bound from was) → Holds a (IsFoundSoFar bound from is)
found_in bound from was mid is value bytes s a p found none there passed spells (inl here) h =
    found_here bound from was is (place mid.cursor) bytes s a passed here.0 here.1 spells
    (weaker a (λ y. value ≡ fin.get y (place mid.cursor)) (λ y. Some bytes ≡ fin.get y (place mid.cursor)) (λ y e. sym there ∙ e) p.got)
found_in bound from was mid is value bytes s a p found none there passed spells (inr other) h =
    found_past bound from was is (place mid.cursor) a passed (λ _. none) (other.1 ∙ found) (λ name at e. other.0 (at ∙ ap Some e)) p.next h

entered_state : (bound : Option Key) (was mid is : BaseRun) (value : Option Key) (bytes : Key) (a : StoreView) → IsPassed bound was.cursor mid.cursor a value
    → mid.epoch ≡ was.epoch → mid.found ≡ was.found → mid.wrong ≡ was.wrong → was.wrong ≡ None → value ≡ Some bytes → is.cursor ≡ mid.cursor → is.wrong ≡ mid.wrong
    → IsStateKept bound mid is bytes → Holds a (BaseSoFar was) → IsBaseRead bound was is a
entered_state bound was mid is value bytes a p epoch found wrong none there cursor same kept so_far =
    let here : place mid.cursor ≡ state_key kept.name = kept.key.spelled in
    let at_place : is.cursor.passed ≡ Some (place mid.cursor) = ap (λ c. c.passed) cursor ∙ p.passed in
    let passed : is.cursor.passed ≡ Some (state_key kept.name) = at_place ∙ ap Some here in
    let right : is.wrong ≡ None = same ∙ wrong ∙ none in
    let key : IsKeyOf state_key (state_key kept.name) kept.name = record { spelled = refl; lawful = kept.key.lawful } in
    record {
      base = weaker a (At was is (place mid.cursor) value) (BaseSoFar is)
          (λ y at. state_at was is kept.name bytes kept.state y passed key right kept.spells (kept.epoch ∙ epoch)
          (subst (λ v. At was is (state_key kept.name) v y) there (subst (λ k. At was is k value y) here at)))
          (at_all bound was mid is value a p cursor none so_far);
      wrong = λ _. none;
      up_to = inr (place mid.cursor, at_place, p.within);
      found = λ from h. found_in bound from was mid is value bytes kept.state a p found none there at_place kept.spells kept.found h;
    }

no_wrong : (key : Key) (o : Option Key) → o ≡ Some key → o ≡ None → ⊥
no_wrong key o some none = absurd (cc)

entered_wrong : (bound : Option Key) (was mid is : BaseRun) (value : Option Key) (a : StoreView) → IsPassed bound was.cursor mid.cursor a value → was.wrong ≡ None
    → IsRefused mid is value → Holds a (BaseSoFar was) → IsBaseRead bound was is a
entered_wrong bound was mid is value a p none refused so_far =
    let cursor = refused.remembers.cursor in
    let key = refused.remembers.key in
    record {
      base = weaker a (At was is (place mid.cursor) value) (BaseSoFar is) (λ y at. wrong_at was is (place mid.cursor) value y key refused.wrong at)
          (at_all bound was mid is value a p cursor none so_far);
      wrong = λ _. none;
      up_to = inr (place mid.cursor, ap (λ c. c.passed) cursor ∙ p.passed, p.within);
      found = λ from h. weaker a (IsFoundSoFar bound from was) (IsFoundSoFar bound from is)
          (λ y so_far right. absurd (no_wrong (place mid.cursor) is.wrong key right)) h;
    }

counted_in : (bound : Option Key) (was mid is : BaseRun) (value : Option Key) (bytes : Key) (a : StoreView) → IsPassed bound was.cursor mid.cursor a value
    → mid.epoch ≡ was.epoch → mid.found ≡ was.found → mid.wrong ≡ was.wrong → was.wrong ≡ None → value ≡ Some bytes → is.cursor ≡ mid.cursor → is.wrong ≡ mid.wrong
    → IsEpochKept mid is bytes ⊎ IsStateKept bound mid is bytes → Holds a (BaseSoFar was) → IsBaseRead bound was is a
counted_in bound was mid is value bytes a p epoch found wrong none there cursor same (inl kept) so_far =
    entered_epoch bound was mid is value bytes a p found wrong none there cursor same kept so_far
counted_in bound was mid is value bytes a p epoch found wrong none there cursor same (inr kept) so_far =
    entered_state bound was mid is value bytes a p epoch found wrong none there cursor same kept so_far

entered : (bound : Option Key) (was mid is : BaseRun) (value : Option Key) (a : StoreView) → IsPassed bound was.cursor mid.cursor a value
    → mid.epoch ≡ was.epoch → mid.found ≡ was.found → mid.wrong ≡ was.wrong → was.wrong ≡ None → CountsIn bound mid is value (Ok tt)
    → Holds a (BaseSoFar was) → IsBaseRead bound was is a
entered bound was mid is value a p epoch found wrong none (inl c) so_far =
    counted_in bound was mid is value c.0 a p epoch found wrong none c.1 c.2.cursor c.2.wrong c.2.entry so_far
entered bound was mid is value a p epoch found wrong none (inr refused) so_far = entered_wrong bound was mid is value a p none refused so_far

pub base_entered : (bound : Option Key) (was mid is : BaseRun) (value : Option Key) (a b : StoreView) → Moves bound was.cursor mid.cursor a b (Ok (Some value))
    → mid.epoch ≡ was.epoch → mid.found ≡ was.found → mid.wrong ≡ was.wrong → was.wrong ≡ None → CountsIn bound mid is value (Ok tt)
    → Holds a (BaseSoFar was) → ReadsBase bound was is a b (Ok true)
base_entered bound was mid is value a b moved epoch found wrong none counts so_far =
    (moved.0, entered bound was mid is value a moved.1 epoch found wrong none counts so_far)

-- what is not there
pub not_there : {X : Type 0} (o : Option X) (b : Bool) → b ≡ is_some o → b ≡ false → o ≡ None
not_there None b e f = refl
not_there (Some x) b e f = absurd (true≢false (sym e ∙ f))

-- ---- up to a bound

-- what the loop keeps
pub record Reading (bound : Option Key) (start run : BaseRun) (a b : StoreView) : Type 0 where
  pub stays : Stays a b
  pub base : Holds a (BaseSoFar run)
  pub wrong : run.wrong ≡ None → start.wrong ≡ None
  pub up_to : IsUpTo bound start.cursor.passed run.cursor.passed
  pub found : Holds a (IsFoundSoFar bound start.cursor.passed run)

found_start : (bound : Option Key) (start run : BaseRun) (v : StoreView) → run.found ≡ None → run.cursor ≡ start.cursor → Holds v (IsFoundSoFar bound start.cursor.passed run)
found_start bound start run v found cursor = always v (IsFoundSoFar bound start.cursor.passed run)
    (λ y none name at above. subst (λ c. IsSaid (state_key name) (λ o. Shows o run.found) c.passed y) (sym cursor) (record {
      before = λ _. subst (Shows None) (sym found) (λ s is. is);
      behind = λ below. absurd (cc);
    }))

pub reading_start : (bound : Option Key) (start run : BaseRun) (v : StoreView) → run.cursor ≡ start.cursor → run.epoch ≡ start.epoch → run.wrong ≡ start.wrong
    → run.found ≡ None → Holds v (BaseSoFar start) → Reading bound start run v v
reading_start bound start run v cursor epoch wrong found so_far = record {
  stays = stays_same v;
  base = weaker v (BaseSoFar start) (BaseSoFar run)
      (λ y h. end_at start run y (ap (λ c. c.passed) cursor) epoch wrong (subst (λ c. IsPage c.passed c.page.items y) (sym cursor) h.page) h) so_far;
  wrong = λ none. sym wrong ∙ none;
  up_to = inl (ap (λ c. c.passed) cursor);
  found = found_start bound start run v found cursor;
}

up_further : (bound p q r : Option Key) → IsUpTo bound p q → IsUpTo bound q r → IsUpTo bound p r
up_further bound p q r h (inl same) = subst (IsUpTo bound p) (sym same) h
up_further bound p q r h (inr key) = inr key

pub reading_on : (bound : Option Key) (start was is : BaseRun) (a b c : StoreView) → Reading bound start was a b → Stays b c → IsBaseRead bound was is b
    → Reading bound start is a c
reading_on bound start was is a b c h stays read = record {
  stays = stays_twice a b c h.stays stays;
  base = holds_back a b (BaseSoFar is) h.stays read.base;
  wrong = λ none. h.wrong (read.wrong none);
  up_to = up_further bound start.cursor.passed was.cursor.passed is.cursor.passed h.up_to read.up_to;
  found = holds_back a b (IsFoundSoFar bound start.cursor.passed is) h.stays
      (read.found start.cursor.passed (holds_on a b (IsFoundSoFar bound start.cursor.passed was) h.stays h.found));
}

within_itself : (key : Key) → is_within (Some key) key ≡ true
within_itself key = ap not (not_itself key)

pub reading_done : (bound : Option Key) (start run : BaseRun) (a b : StoreView) → Reading bound start run a b
    → (run.wrong ≡ None → Holds a (IsLast run.cursor.passed bound)) → ReadsUpTo bound start run a b (Ok tt)
reading_done bound start run a b h last = (
  h.stays,
  record {
    base = h.base;
    wrong = h.wrong;
    up_to = h.up_to;
    last = last;
    found = λ none name at. also a (IsLast run.cursor.passed bound) (IsFoundSoFar bound start.cursor.passed run)
        (λ y. is_above start.cursor.passed (state_key name) ≡ true → Shows (fin.get y (state_key name)) run.found)
        (λ y l so_far above. said_last run.cursor.passed bound (state_key name) (λ o. Shows o run.found) y (so_far none name at above) l
        (subst (λ o. is_within o (state_key name) ≡ true) (sym at) (within_itself (state_key name)))) (last none) h.found;
  },
)

pub reading_more : (bound : Option Key) (start was is : BaseRun) (a b c : StoreView) → Reading bound start was a b → ReadsBase bound was is b c (Ok true)
    → Reading bound start is a c
reading_more bound start was is a b c h k = reading_on bound start was is a b c h k.0 k.1

pub reading_ended : (bound : Option Key) (start was is : BaseRun) (a b c : StoreView) → Reading bound start was a b → ReadsBase bound was is b c (Ok false)
    → ReadsUpTo bound start is a c (Ok tt)
reading_ended bound start was is a b c h k =
    reading_done bound start is a c (reading_on bound start was is a b c h k.0 k.1) (λ none. holds_back a b (IsLast is.cursor.passed bound) h.stays (k.2 none))

-- a reading that failed behind others
pub reading_failed : (bound : Option Key) (start run is : BaseRun) (e : SurveyFault) (a b c : StoreView) → Reading bound start run a b → ReadsBase bound run is b c (Err e)
    → ReadsUpTo bound start is a c (Err e)
reading_failed bound start run is (fault.Store Cache f) a b c h k = absurd k
reading_failed bound start run is (fault.Store Base f) a b c h k = read_fails_later a b c f h.stays k
reading_failed bound start run is (fault.BadRecord pool key) a b c h k = absurd k
reading_failed bound start run is (fault.Epochs held ahead) a b c h k = absurd k
reading_failed bound start run is (fault.Unsound name) a b c h k = absurd k
reading_failed bound start run is fault.NoMemory a b c h k = stays_twice a b c h.stays k

-- ---- what was found before is of no account

without_found : (was fresh : BaseRun) (v : StoreView) → fresh.cursor ≡ was.cursor → fresh.epoch ≡ was.epoch → fresh.wrong ≡ was.wrong → Holds v (BaseSoFar was)
    → Holds v (BaseSoFar fresh)
without_found was fresh v cursor epoch wrong so_far = weaker v (BaseSoFar was) (BaseSoFar fresh)
    (λ y h. end_at was fresh y (ap (λ c. c.passed) cursor) epoch wrong (subst (λ c. IsPage c.passed c.page.items y) (sym cursor) h.page) h) so_far

pub anew : (was : BaseRun) (v : StoreView) → Holds v (BaseSoFar was)
    → Holds v (BaseSoFar (record { cursor = was.cursor; epoch = was.epoch; found = None; wrong = was.wrong }))
anew was v so_far = without_found was (record { cursor = was.cursor; epoch = was.epoch; found = None; wrong = was.wrong }) v refl refl refl so_far

pub read_anew : (bound : Option Key) (was is : BaseRun) (result : Result (Unit {0}) SurveyFault) (a b : StoreView)
    → ReadsUpTo bound (record { cursor = was.cursor; epoch = was.epoch; found = None; wrong = was.wrong }) is a b result → ReadsUpTo bound was is a b result
read_anew bound was is (Ok _) a b h =
    (h.0, record { base = h.1.base; wrong = h.1.wrong; up_to = h.1.up_to; last = h.1.last; found = h.1.found })
read_anew bound was is (Err (fault.Store Cache f)) a b h = h
read_anew bound was is (Err (fault.Store Base f)) a b h = h
read_anew bound was is (Err (fault.BadRecord pool key)) a b h = h
read_anew bound was is (Err (fault.Epochs held ahead)) a b h = h
read_anew bound was is (Err (fault.Unsound name)) a b h = h
read_anew bound was is (Err fault.NoMemory) a b h = h

pub ruleset bound_rules = (anew, read_anew)

pub ruleset read_rules = (base_stopped, base_end, base_entered)

pub ruleset loop_rules = (reading_start, reading_more, reading_ended, reading_failed)
