-- The work of an operation that stands.
use Rattle.std.proofs.Common.{◌≡◌, ◌⊎◌, inl, inr, ℕ, zero, suc, ◌+◌, ◌-◌, ◌<◌, ◌≤◌, Bool, true, false, true≢false, List, [], ◌∷◌, length, get_or, Option, Some, None, IsSome, refl, sym, ap, subst, ◌∙◌, arith}
use Rattle.tier_types.specs.Flights.{IsIn}
use Rattle.tier_view.specs.declared.parts.Flown.{Flown}
use Rattle.tier_calls.specs.Turns.{AreByEpoch, AreInTurn, HasGone, HasNoPlace, IsTheOne, StandsAs, standing, standing_by}

abbrev opid_of : Flown → ℕ
opid_of f = f.opid

-- ---- in turn

turn_above : (fs : List Flown) (n : ℕ) (g : Flown) → AreInTurn opid_of n fs → IsIn g fs → n ≤ g.opid
turn_above [] n g h on = absurd on
turn_above (f ∷ fs) n g h (inl e) = omega (arith, ap opid_of e, h.0)
turn_above (f ∷ fs) n g h (inr on) = omega (arith, turn_above fs (suc n) g h.1 on)

turn_below : (fs : List Flown) (n : ℕ) (g : Flown) → AreInTurn opid_of n fs → IsIn g fs → g.opid < n + length fs
turn_below [] n g h on = absurd on
turn_below (f ∷ fs) n g h (inl e) = omega (arith, ap opid_of e, h.0)
turn_below (f ∷ fs) n g h (inr on) = omega (arith, turn_below fs (suc n) g h.1 on)

turn_one : (fs : List Flown) (n i op : ℕ) (d g : Flown) → op ≡ n + i → i < length fs → AreInTurn opid_of n fs → IsIn g fs → g.opid ≡ op → g ≡ get_or fs i d
turn_one [] n i op d g is there h on mine = absurd on
turn_one (f ∷ fs) n zero op d g is there h (inl e) mine = e
turn_one (f ∷ fs) n zero op d g is there h (inr on) mine = absurd (omega (arith, is, mine, turn_above fs (suc n) g h.1 on))
turn_one (f ∷ fs) n (suc i) op d g is there h (inl e) mine = absurd (omega (arith, is, mine, ap opid_of e, h.0))
turn_one (f ∷ fs) n (suc i) op d g is there h (inr on) mine = turn_one fs (suc n) i op d g (omega (arith, is)) (omega (arith, there)) h.1 on mine

turn_number : (fs : List Flown) (n i : ℕ) (d : Flown) → i < length fs → AreInTurn opid_of n fs → (get_or fs i d).opid ≡ n + i
turn_number [] n i d there h = absurd (omega (arith, there))
turn_number (f ∷ fs) n zero d there h = omega (arith, h.0)
turn_number (f ∷ fs) n (suc i) d there h = omega (arith, turn_number fs (suc n) i d (omega (arith, there)) h.1)

-- ---- by epochs

gone_not_there : (w : Option ℕ) → IsSome w → w ≡ None → ⊥
gone_not_there None h e = absurd (true≢false (sym h))
gone_not_there (Some at) h e = absurd (cc)

not_gone : (f g : Flown) → HasGone f → g ≡ f → g.went ≡ None → ⊥
not_gone f g gone e there = gone_not_there f.went gone (sym (ap (λ (x : Flown). x.went) e) ∙ there)

one_at : (fs : List Flown) (k i op j : ℕ) (d g : Flown) → op ≡ 1 + i → j ≡ k + i → j < length fs → AreByEpoch k fs → IsIn g fs → StandsAs op g → g ≡ get_or fs j d
one_at fs zero i op j d g is place there h on s =
    subst (λ n. g ≡ get_or fs n d) (omega (arith, place)) (turn_one fs 1 i op d g is (omega (arith, place, there)) h on s.is)
one_at [] (suc k) i op j d g is place there h on s = absurd h
one_at (f ∷ fs) (suc k) i op zero d g is place there h on s = absurd (omega (arith, place))
one_at (f ∷ fs) (suc k) i op (suc j) d g is place there h (inl e) s = absurd (not_gone f g h.0 e s.there)
one_at (f ∷ fs) (suc k) i op (suc j) d g is place there h (inr on) s = one_at fs k i op j d g is (omega (arith, place)) (omega (arith, there)) h.1 on s

number_at : (fs : List Flown) (k i j : ℕ) (d : Flown) → j ≡ k + i → j < length fs → AreByEpoch k fs → (get_or fs j d).opid ≡ 1 + i
number_at fs zero i j d place there h = subst (λ n. (get_or fs n d).opid ≡ 1 + i) (omega (arith, place)) (turn_number fs 1 i d (omega (arith, place, there)) h)
number_at [] (suc k) i j d place there h = absurd h
number_at (f ∷ fs) (suc k) i zero d place there h = absurd (omega (arith, place))
number_at (f ∷ fs) (suc k) i (suc j) d place there h = number_at fs k i j d (omega (arith, place)) (omega (arith, there)) h.1

got_in : (fs : List Flown) (j : ℕ) (d : Flown) → j < length fs → IsIn (get_or fs j d) fs
got_in [] j d there = absurd (omega (arith, there))
got_in (f ∷ fs) zero d there = inl refl
got_in (f ∷ fs) (suc j) d there = inr (got_in fs j d (omega (arith, there)))

pub none_at : (fs : List Flown) (k op : ℕ) → HasNoPlace op (length fs - k) → AreByEpoch k fs → IsTheOne op fs None
none_at fs zero op (inl is) h g on s = omega (arith, is, s.is, turn_above fs 1 g h on)
none_at fs zero op (inr past) h g on s = omega (arith, past, s.is, turn_below fs 1 g h on)
none_at [] (suc k) op none h g on s = absurd on
none_at (f ∷ fs) (suc k) op none h g (inl e) s = absurd (not_gone f g h.0 e s.there)
none_at (f ∷ fs) (suc k) op (inl is) h g (inr on) s = none_at fs k op (inl is) h.1 g on s
none_at (f ∷ fs) (suc k) op (inr past) h g (inr on) s = none_at fs k op (inr (omega (arith, past))) h.1 g on s

-- the entry that was read at the operation's place is the one, if it has not gone
pub one_read : (fs : List Flown) (k i op : ℕ) (x : Flown) → op ≡ 1 + i → k + i < length fs → x ≡ get_or fs (k + i) x → AreByEpoch k fs → IsTheOne op fs (standing x)
one_read fs k i op x is there read h = by x.went refl
  where
    its : (g : Flown) → IsIn g fs → StandsAs op g → g ≡ x
    its g on s = one_at fs k i op (k + i) x g is refl there h on s ∙ sym read

    by : (w : Option ℕ) → x.went ≡ w → IsTheOne op fs (standing_by x w)
    by (Some at) gone = λ g on s. let no : None ≡ Some at = sym s.there ∙ (ap (λ (y : Flown). y.went) (its g on s) ∙ gone) in absurd (cc)
    by None there_ = (
      subst (λ y. IsIn y fs) (sym read) (got_in fs (k + i) x there),
      record { is = ap opid_of read ∙ number_at fs k i (k + i) x refl there h ∙ sym is; there = there_ },
      its,
    )
