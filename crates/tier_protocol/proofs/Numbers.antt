-- The numbers of calls' acts are their places.
use Rattle.std.proofs.Common.{◌≡◌, ℕ, suc, ◌+◌, Bool, true, false, List, [], ◌∷◌, ◌++◌, length, Option, Some, None, refl, sym, ap, subst, ◌∙◌, arith, inl, inr}
use Rattle.std.specs.Prelude.{if◌then◌else◌, ◌==◌}
use Rattle.std.specs.Option.{option_map}
use Rattle.std.proofs.lemmas.Bool.{eq-eqb, eqb-true, ne_eqb}
use Rattle.tier_protocol.specs.Tiers.{IsIn}
use Rattle.tier_protocol.specs.Owners.{AreOnce, CallAct, HasNoAct, HistoriesAreNumbered, IsAtPlace, NumbersArePlaces, number_of}
use Rattle.tier_protocol.proofs.ActLists.{once_more}

-- one act more in front of them all
later_place : (b a : CallAct) (acts : List CallAct) (j : ℕ) → IsAtPlace j a acts
    → IsAtPlace (suc j) a (b ∷ acts)
later_place b a acts j h = record {
  before = b ∷ h.before;
  behind = h.behind;
  whole = ap (λ l. b ∷ l) h.whole;
  place = omega (arith, h.place);
}

first_place : (a : CallAct) (acts : List CallAct) → IsAtPlace 1 a (a ∷ acts)
first_place a acts = record { before = []; behind = acts; whole = refl; place = refl }

own_by : (a : CallAct) (acts : List CallAct) (call k : ℕ) (b : Bool) (o : Option ℕ)
    → (b ≡ true → a.call ≡ call)
    → ((j : ℕ) → o ≡ Some j → (x : CallAct) × (x.call ≡ call) × IsAtPlace j x acts)
    → (if b then Some 1 else option_map suc o) ≡ Some k
    → (x : CallAct) × (x.call ≡ call) × IsAtPlace k x (a ∷ acts)
own_by a acts call k true o same later e =
    let is : 1 ≡ k = cc in
    (a, same refl, record { before = []; behind = acts; whole = refl; place = sym is })
own_by a acts call k false None same later e = absurd (cc)
own_by a acts call k false (Some j) same later e =
    let is : suc j ≡ k = cc in
    let x = later j refl in
    let at = later_place a x.0 acts j x.2 in (
      x.0,
      x.1,
      record {
        before = at.before;
        behind = at.behind;
        whole = at.whole;
        place = sym is ∙ at.place;
      },
    )

own_place : (acts : List CallAct) (call k : ℕ) → number_of call acts ≡ Some k
    → (a : CallAct) × (a.call ≡ call) × IsAtPlace k a acts
own_place [] call k e = absurd (cc)
own_place (a ∷ acts) call k e =
    own_by a acts call k (a.call == call) (number_of call acts) (eqb-true a.call call)
    (own_place acts call) e

in_middle : (before behind : List CallAct) (a : CallAct) → IsIn a (before ++ a ∷ behind)
in_middle [] behind a = inl refl
in_middle (b ∷ before) behind a = inr (in_middle before behind a)

-- an act of a history without two acts of one call
numbered : (before behind : List CallAct) (a : CallAct) → AreOnce (before ++ a ∷ behind)
    → number_of a.call (before ++ a ∷ behind) ≡ Some (length before + 1)
numbered [] behind a once =
    ap (λ b. if b then Some 1 else option_map suc (number_of a.call behind))
    (eq-eqb a.call a.call refl)
numbered (b ∷ before) behind a once =
    ap (λ t. if t then Some 1 else option_map suc (number_of a.call (before ++ a ∷ behind)))
    (ne_eqb b.call a.call (λ same. once.0 a (in_middle before behind a) (sym same)))
    ∙ ap (option_map suc) (numbered before behind a once.1)
    ∙ ap Some (omega arith)

placed_by : (acts : List CallAct) → AreOnce acts → (k : ℕ) (a : CallAct) → IsAtPlace k a acts
    → number_of a.call acts ≡ Some k
placed_by acts once k a h =
    ap (number_of a.call) h.whole
    ∙ numbered h.before h.behind a (subst AreOnce h.whole once)
    ∙ ap Some (sym h.place)

in_place : (acts : List CallAct) (a : CallAct) → IsIn a acts → (k : ℕ) × IsAtPlace k a acts
in_place [] a on = absurd on
in_place (b ∷ acts) a (inl same) = (
  1,
  subst (λ x. IsAtPlace 1 a (x ∷ acts)) same
      (first_place a acts),
)
in_place (b ∷ acts) a (inr on) =
    let at = in_place acts a on in (suc at.0, later_place b a acts at.0 at.1)

-- one place has one act
one_place : (xs ys us vs : List CallAct) (a b : CallAct) → xs ++ a ∷ us ≡ ys ++ b ∷ vs
    → length xs ≡ length ys → a ≡ b
one_place [] [] us vs a b e same = cc
one_place [] (y ∷ ys) us vs a b e same = absurd (omega (arith, same))
one_place (x ∷ xs) [] us vs a b e same = absurd (omega (arith, same))
one_place (x ∷ xs) (y ∷ ys) us vs a b e same = one_place xs ys us vs a b (cc)
    (omega (arith, same))

apart_by : (acts : List CallAct) (call other k : ℕ) → number_of call acts ≡ Some k
    → number_of other acts ≡ Some k → call ≡ other
apart_by acts call other k e f =
    let x = own_place acts call k e in
    let y = own_place acts other k f in
    let one : x.0 ≡ y.0 =
    one_place x.2.before y.2.before x.2.behind y.2.behind x.0 y.0
    (sym x.2.whole ∙ y.2.whole) (omega (arith, x.2.place, y.2.place)) in
    sym x.1 ∙ ap (λ a. a.call) one ∙ y.1

no_number : (acts : List CallAct) (call : ℕ) → HasNoAct call acts → number_of call acts ≡ None
no_number [] call none = refl
no_number (a ∷ acts) call none =
    ap (λ b. if b then Some 1 else option_map suc (number_of call acts))
    (ne_eqb a.call call (none a (inl refl)))
    ∙ ap (option_map suc) (no_number acts call (λ x on. none x (inr on)))

pub numbers_are_places : NumbersArePlaces
numbers_are_places acts once = (
  record {
    own = own_place acts;
    each = λ a on.
        let at = in_place acts a on in (at.0, at.1, placed_by acts once at.0 a at.1);
    placed = placed_by acts once;
    apart = apart_by acts;
    none = no_number acts;
  },
  λ a none. numbered acts [] a (once_more acts a once none),
)

pub histories_are_numbered : HistoriesAreNumbered
histories_are_numbered t l w = (numbers_are_places l.acts w.once).0
