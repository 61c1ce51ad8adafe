-- Numbers under which nothing was found.
use Rattle.std.proofs.Common.{◌≡◌, ◌∙◌, sym, ap, refl, subst, ℕ, Bool, true, false, List, Option, Some, None}
use Rattle.std.specs.FinMap as fin
use Rattle.tier_types.specs.declared.flight.Flight.{Flight}
use Rattle.tier_flight.specs.Ends.{FlightMap}
use Rattle.tier_flight.specs.Numbers.{IsNameBy, IsNewBy}
use Rattle.flight_tests.specs.Works.{IsOnly}

-- a number under which nothing was found is no work's
unfound : (has : Option Flight → ℕ → Bool) (m : FlightMap) (k : ℕ) → IsNameBy has m k None →
    (n : List ℕ) (b : Bool) → has (fin.get m n) k ≡ b → b ≡ false
unfound has m k right n true e = let is : None ≡ Some n = (right n).1 e in absurd (cc)
unfound has m k right n false e = refl

-- so work of this number alone is new
pub new_by : (has : Option Flight → ℕ → Bool) (m : FlightMap) (work : Flight) (number : ℕ) →
    IsNameBy has m number None → IsOnly has number work → IsNewBy has m work
new_by has m work number right one k is n =
    ap (λ i. has (fin.get m n) i) (one k is)
    ∙ unfound has m number right n (has (fin.get m n) number) refl
