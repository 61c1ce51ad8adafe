-- Where the calls and the work stand in their tables.
use Rattle.std.specs.Prelude.{◌≡◌, ◌<◌, ◌⊎◌, ℕ, zero, suc, List, [], ◌∷◌, Option, None, Some, IsSome}
use Rattle.tier_types.specs.Flights.{IsIn}
use Rattle.tier_view.specs.declared.parts.Flown.{Flown}

-- the elements have the numbers from this one on
abbrev pub AreInTurn : {X : Type 0} → (number : X → ℕ) → (next : ℕ) → List X → Type 0
AreInTurn number next [] = Unit {0}
AreInTurn number next (x ∷ xs) = (number x ≡ next) × AreInTurn number (suc next) xs

-- of so many elements with the numbers 1, 2, 3 .. none has this one
abbrev pub HasNoPlace : (number count : ℕ) → Type 0
HasNoPlace number count = (number ≡ 0) ⊎ (count < number)

-- the work has gone
abbrev pub HasGone : Flown → Type 0
HasGone f = IsSome f.went

-- so many entries are of earlier epochs, and have gone; behind them are the operations 1, 2, 3 ..
abbrev pub AreByEpoch : (earlier : ℕ) → List Flown → Type 0
AreByEpoch zero fs = AreInTurn (λ f. f.opid) 1 fs
AreByEpoch (suc earlier) [] = ⊥
AreByEpoch (suc earlier) (f ∷ fs) = HasGone f × AreByEpoch earlier fs

-- the work, if it has not gone
abbrev pub standing_by : Flown → (went : Option ℕ) → Option Flown
standing_by f (Some at) = None
standing_by f None = Some f

abbrev pub standing : Flown → Option Flown
standing f = standing_by f f.went

-- it is of this operation, and has not gone
pub record StandsAs (opid : ℕ) (f : Flown) : Type 0 where
  pub is : f.opid ≡ opid
  pub there : f.went ≡ None

-- the one entry of an operation that has not gone, if there is one
abbrev pub IsTheOne : (opid : ℕ) → List Flown → Option Flown → Type 0
IsTheOne opid fs None = (g : Flown) → IsIn g fs → StandsAs opid g → ⊥
IsTheOne opid fs (Some f) =
    IsIn f fs × StandsAs opid f × ((g : Flown) → IsIn g fs → StandsAs opid g → g ≡ f)
