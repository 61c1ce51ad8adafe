-- A clock of moments: those so far, the last of which is now, where they are told. What a moment is
-- differs: for a disk it is what a stop may leave of its bytes, for a store the maps it may leave.
use Rattle.std.specs.Prelude.{◌≡◌, ◌⊎◌, List, [], ◌∷◌, ◌++◌, Option, Some, None}

-- the moment now; before the first of all it is the one at the start
abbrev pub last : {M : Type 0} → M → List M → M
last start [] = start
last start (m ∷ ms) = last m ms

-- where moments are told, the one now has P
abbrev pub Now : {M : Type 0} → M → Option (List M) → (M → Type 0) → Type 0
Now start None P = Unit {0}
Now start (Some ms) P = P (last start ms)

-- where moments are told, the one of old and that of new stand so to each other
abbrev pub Then : {M : Type 0} → M → Option (List M) → Option (List M) → (M → M → Type 0) → Type 0
Then start old new P = Now start old (λ was. Now start new (λ is. P was is))

-- more moments came; where none are told, none are told after
abbrev pub grown : {M : Type 0} → Option (List M) → List M → Option (List M)
grown None more = None
grown (Some ms) more = Some (ms ++ more)

-- nothing changed, or there is one more moment, which follows by this step
abbrev pub Goes : {M : Type 0} → M → (M → M → Type 0) → Option (List M) → Option (List M) → Type 0
Goes {M} start step old new =
    (new ≡ old) ⊎ ((m : M) × (new ≡ grown old (m ∷ [])) × Now start old (λ was. step was m))

-- each of these moments has P
abbrev pub Each : {M : Type 0} → List M → (M → Type 0) → Type 0
Each [] P = Unit {0}
Each (m ∷ ms) P = P m × Each ms P

-- each moment since has P
pub record Since {M : Type 0} (old new : Option (List M)) (P : M → Type 0) : Type 0 where
  pub more : List M
  pub grew : new ≡ grown old more
  pub each : Each more P

-- where moments are told, each one since stands so to the one that was now
pub record Grows {M : Type 0} (start : M) (old new : Option (List M)) (P : M → M → Type 0) : Type 0
  where
    pub more : List M
    pub grew : new ≡ grown old more
    pub each : Now start old (λ was. Each more (P was))

-- something that is told where moments are
abbrev pub told : {M T : Type 0} → Option (List M) → T → Option T
told None x = None
told (Some ms) x = Some x
