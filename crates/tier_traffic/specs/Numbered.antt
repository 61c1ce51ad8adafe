-- Values under numbers that only rise, the newest first.
use Rattle.std.specs.Prelude.{◌≡◌, ◌<◌, ◌+◌, ◌^◌, ℕ, Bool, true, false, List, [], ◌∷◌, Option, Some, None, IsSome, refl}
use Rattle.std.specs.Coded.{Coded, code_by, coded×, coded_list, coded_ℕ, coded_bool}
use Rattle.std.specs.Ordering.{is_eq, nat_cmp}
use Rattle.std.specs.declared.cmp.Reverse.{Reverse}

-- the values with their numbers, the next number, and whether there is memory for a value under it
pub record NumberedView (V : Type 0) : Type 0 where
  pub held : List (ℕ × V)
  pub next : ℕ
  pub ready : Bool

-- how they are written down as a value of contracts
abbrev pub coded_numbered : {V : Type 0} → Coded V → Coded (NumberedView V)
coded_numbered {V} code =
    code_by (List (ℕ × V) × (ℕ × Bool))
    (coded× (coded_list (coded× coded_ℕ code)) (coded× coded_ℕ coded_bool))
    (λ n. (n.held, (n.next, n.ready)))
    (λ c. record { held = c.0; next = c.1.0; ready = c.1.1 }) (λ _. refl)

-- the places of a map, each of which has a value or is kept for one
abbrev pub Shelf : Type 0 → Type 0
Shelf V = List (Reverse ℕ × Option V)

-- whether a place has this number
abbrev pub is_under : ℕ → Reverse ℕ → Bool
is_under n k = is_eq (nat_cmp k.0 n)

-- a place without a value is not seen
abbrev pub with_value : {V : Type 0} → ℕ → Option V → List (ℕ × V) → List (ℕ × V)
with_value number None held = held
with_value number (Some v) held = (number, v) ∷ held

-- the values with their numbers
abbrev pub held_in : {V : Type 0} → Shelf V → List (ℕ × V)
held_in [] = []
held_in (e ∷ es) = with_value e.0.0 e.1 (held_in es)

-- each place has a value, and their numbers fall from below this one
abbrev pub IsFull : {V : Type 0} → (next : ℕ) → Shelf V → Type 0
IsFull next [] = Unit {0}
IsFull next (e ∷ es) = (e.0.0 < next) × IsSome e.1 × IsFull e.0.0 es

-- the same, but for a place under the next number where there is memory for its value
abbrev pub IsShelf : {V : Type 0} → (ready : Bool) → (next : ℕ) → Shelf V → Type 0
IsShelf false next es = IsFull next es
IsShelf true next [] = ⊥
IsShelf true next (e ∷ es) = (e.0.0 ≡ next) × (e.1 ≡ None) × IsFull next es

-- where there is memory for the next value, there is a number behind its own
abbrev pub AreLeft : (ready : Bool) → (next : ℕ) → Type 0
AreLeft false next = Unit {0}
AreLeft true next = next + 1 < 2 ^ 64
