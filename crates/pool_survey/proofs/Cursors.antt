-- Passing keys in their order, and reading their values.
use Rattle.std.proofs.Common.{◌≡◌, Bool, true, false, List, [], ◌∷◌, take, Option, None, Some, unwrap_or, Result, Ok, Err, refl, sym, ap, subst, ◌∙◌}
use Rattle.std.specs.FinMap as fin
use Rattle.store_face.specs.Calls.{Got, Listed}
use Rattle.store_face.specs.Tables.{Table, keys_above}
use Rattle.store_face.specs.Views.{Holds, StoreView}
use Rattle.store_face.specs.declared.fault.StoreFault.{StoreFault}
use Rattle.pool_survey.specs.Places.{IsLast, IsNext, IsPage, is_within}
use Rattle.pool_survey.specs.Steps.{Advances, IsPageRead, Moves, ReadsPage, Refills, Takes, place}
use Rattle.pool_survey.specs.declared.cursor.Cursor.{Cursor}
use Rattle.pool_survey.proofs.Later.{read_fails_later, weaker}
use Rattle.store_face.proofs.Later.{holds_back, stays_same, stays_twice}
use Rattle.pool_survey.proofs.Orders.{Key}
use Rattle.pool_survey.proofs.Places.{page_last, page_read, page_taken}

-- ---- a page

-- a page that has keys needs no other
pub page_left : (was : Cursor) (v : StoreView) → (was.page.items ≡ [] → ⊥) → Holds v (IsPage was.passed was.page.items) → Refills was was v v (Ok tt)
page_left was v some page = (
  stays_same v,
  refl,
  weaker v (IsPage was.passed was.page.items) (IsPageRead was.passed was.page.items) (λ t here. record { page_is = here; none = λ none. absurd (some none) }) page,
)

pub page_at : (passed : Option Key) (page : List Key) (t : Table) → page ≡ take 256 (keys_above passed t) → IsPageRead passed page t
page_at passed page t is = let both = page_read passed page t is in record { page_is = both.0; none = both.1 }

pub page_got : (bound : Option Key) (keys page : List Key) (a b : StoreView) → Listed bound 256 a b (Ok keys) → page ≡ keys → ReadsPage bound a b (Ok page)
page_got bound keys page a b listed same = (
  listed.0,
  weaker a (λ t. keys ≡ take 256 (keys_above bound t)) (IsPageRead bound page) (λ t e. page_at bound page t (same ∙ e)) listed.1,
)

pub refilled : (was is : Cursor) (bound : Option Key) (page : List Key) (a b : StoreView) → ReadsPage bound a b (Ok page) → bound ≡ was.passed
    → is.passed ≡ was.passed → is.page.items ≡ page → Refills was is a b (Ok tt)
refilled was is bound page a b read here same items = (
  read.0,
  same,
  weaker a (IsPageRead bound page) (IsPageRead is.passed is.page.items)
      (λ t e. subst (λ (l : List Key). IsPageRead is.passed l t) (sym items) (subst (λ p. IsPageRead p page t) (here ∙ sym same) e)) read.1,
)

-- ---- the next key

taken_at : (bound : Option Key) (mid is : Cursor) (key : Key) (t : Table) → mid.page.items ≡ key ∷ is.page.items → is.passed ≡ Some key
    → IsPage mid.passed mid.page.items t → IsNext mid.passed key t × IsPage is.passed is.page.items t
taken_at bound mid is key t next passed page =
    let both = page_taken mid.passed key is.page.items t (subst (λ l. IsPage mid.passed l t) next page) in
    (both.0, subst (λ p. IsPage p is.page.items t) (sym passed) both.1)

pub advanced : (bound : Option Key) (was mid is : Cursor) (a b : StoreView) (more : Bool) → Refills was mid a b (Ok tt) → Takes bound mid is more
    → Advances bound was is a b (Ok more)
advanced bound was mid is a b true refilled taken =
    let here : place is ≡ taken.key = ap (λ p. unwrap_or p []) taken.passed in
    let Ready : Table → Type 0 = IsPageRead mid.passed mid.page.items in (
      refilled.0,
      taken.passed ∙ ap Some (sym here),
      ap (is_within bound) here ∙ taken.within,
      weaker a Ready (IsNext was.passed (place is))
          (λ t page. subst (λ k. IsNext was.passed k t) (sym here) (subst (λ p. IsNext p taken.key t) refilled.1 (taken_at bound mid is taken.key t taken.next taken.passed page.page_is).0)) refilled.2,
      weaker a Ready (IsPage is.passed is.page.items) (λ t page. (taken_at bound mid is taken.key t taken.next taken.passed page.page_is).1) refilled.2,
    )
advanced bound was mid is a b false refilled left =
    let Ready : Table → Type 0 = IsPageRead mid.passed mid.page.items in (
      refilled.0,
      record {
        passed = left.passed ∙ refilled.1;
        last = weaker a Ready (IsLast was.passed bound)
            (λ t page. subst (λ p. IsLast p bound t) refilled.1 (page_last mid.passed bound mid.page.items t page.page_is page.none left.out)) refilled.2;
        page = weaker a Ready (IsPage is.passed is.page.items)
            (λ t page. subst (λ p. IsPage p is.page.items t) (sym left.passed) (subst (λ l. IsPage mid.passed l t) (sym left.page) page.page_is)) refilled.2;
      },
    )

-- ---- its value

pub moved_last : (bound : Option Key) (was is : Cursor) (a b : StoreView) → Advances bound was is a b (Ok false) → Moves bound was is a b (Ok None)
moved_last bound was is a b h = h

pub moved_next : (bound : Option Key) (was is : Cursor) (key : Key) (value : Option Key) (a b c : StoreView) → Advances bound was is a b (Ok true) → key ≡ place is
    → Got key b c (Ok value) → Moves bound was is a c (Ok (Some value))
moved_next bound was is key value a b c h same got = (
  stays_twice a b c h.0 got.0,
  record {
    passed = h.1;
    within = h.2;
    next = h.3;
    got = holds_back a b (λ t. value ≡ fin.get t (place is)) h.0
        (weaker b (λ t. value ≡ fin.get t key) (λ t. value ≡ fin.get t (place is)) (λ t e. e ∙ ap (fin.get t) same) got.1);
    page = h.4;
  },
)

pub move_failed : (bound : Option Key) (was is : Cursor) (key : Key) (fault : StoreFault) (a b c : StoreView) → Advances bound was is a b (Ok true)
    → Got key b c (Err fault) → Moves bound was is a c (Err fault)
move_failed bound was is key fault a b c h got = read_fails_later a b c fault h.0 got

pub page_told : (bound : Option Key) (a b : StoreView) (result : Result (List Key) StoreFault) → Listed bound 256 a b result → ReadsPage bound a b result
page_told bound a b (Ok keys) h = page_got bound keys keys a b h refl
page_told bound a b (Err fault) h = h

pub ruleset page_rules = (page_told)

pub ruleset refill_rules = (page_left, refilled)

pub ruleset move_rules = (moved_last, moved_next, move_failed)
