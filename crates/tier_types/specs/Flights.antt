-- Unfinished work on a name, as an entry of a map: none where the name is free.
use Rattle.std.specs.Prelude.{◌≡◌, ◌⊎◌, ℕ, Bool, true, false, List, [], ◌∷◌, Option, Some, None, if◌then◌else◌}
pub use Rattle.tier_types.specs.declared.flight.Ask.{Ask}
pub use Rattle.tier_types.specs.declared.flight.Flight.{Flight}
pub use Rattle.tier_types.specs.declared.flight.ReadFlight.{ReadFlight}

-- it is one of these
abbrev pub IsIn : {X : Type 0} → X → List X → Type 0
IsIn x [] = ⊥
IsIn x (y ∷ ys) = (x ≡ y) ⊎ IsIn x ys

-- all of the one are in the other
abbrev pub AreIn : {X : Type 0} → List X → List X → Type 0
AreIn {X} xs ys = (x : X) → IsIn x xs → IsIn x ys

-- the name that a client asked about
abbrev pub name_asked : Ask → List ℕ
name_asked (Ask.Write r) = r.name
name_asked (Ask.Read client name v) = name

-- the number is one of this work's operation
abbrev pub HasOpid : Option Flight → ℕ → Type 0
HasOpid None op = ⊥
HasOpid (Some (Flight.Promote call o gather ask)) op = op ≡ o
HasOpid (Some (Flight.Write driver owner o r)) op = op ≡ o
HasOpid (Some (Flight.Reads list)) op = (r : ReadFlight) × IsIn r list × (op ≡ r.opid)
HasOpid (Some (Flight.Flush call o seq blocking drain)) op = op ≡ o

-- a write request is with the base
abbrev pub is_write : Option Flight → Bool
is_write None = false
is_write (Some (Flight.Promote call o gather ask)) = false
is_write (Some (Flight.Write driver owner o r)) = true
is_write (Some (Flight.Reads list)) = false
is_write (Some (Flight.Flush call o seq blocking drain)) = false

-- work on a name that the cache has no record of
abbrev pub is_bare : Option Flight → Bool
is_bare None = false
is_bare (Some (Flight.Promote call o gather ask)) = true
is_bare (Some (Flight.Write driver owner o r)) = true
is_bare (Some (Flight.Reads list)) = true
is_bare (Some (Flight.Flush call o seq blocking drain)) = false

-- a client may write in the cache meanwhile: there is no work, or a flush that lets it
abbrev pub lets_write : Option Flight → Bool
lets_write None = true
lets_write (Some (Flight.Promote call o gather ask)) = false
lets_write (Some (Flight.Write driver owner o r)) = false
lets_write (Some (Flight.Reads list)) = false
lets_write (Some (Flight.Flush call o seq blocking drain)) = if blocking then false else true

-- one more read may be sent to the base meanwhile: there is no work, or other reads
abbrev pub lets_read : Option Flight → Bool
lets_read None = true
lets_read (Some (Flight.Promote call o gather ask)) = false
lets_read (Some (Flight.Write driver owner o r)) = false
lets_read (Some (Flight.Reads list)) = true
lets_read (Some (Flight.Flush call o seq blocking drain)) = false

-- the reads that are under way
abbrev pub reads_of : Option Flight → List ReadFlight
reads_of None = []
reads_of (Some (Flight.Promote call o gather ask)) = []
reads_of (Some (Flight.Write driver owner o r)) = []
reads_of (Some (Flight.Reads list)) = list
reads_of (Some (Flight.Flush call o seq blocking drain)) = []

-- What is left of work, where calls end and others take over: all of it; nothing, of what is no
-- write
-- request; a write request or a flush with another call that waits for it, or none; some of the
-- reads.
abbrev pub IsLeftOf : (old left : Option Flight) → Type 0
IsLeftOf old None = is_write old ≡ false
IsLeftOf old (Some (Flight.Promote call o gather ask)) = old ≡ Some
    (Flight.Promote call o gather ask)
IsLeftOf old (Some (Flight.Write driver owner o r)) = (other : Option ℕ)
    × (old ≡ Some (Flight.Write other owner o r))
IsLeftOf old (Some (Flight.Reads list)) = (all : List ReadFlight) × (old ≡ Some (Flight.Reads all))
    × AreIn list all
IsLeftOf old (Some (Flight.Flush call o seq blocking drain)) =
    (other : Option ℕ) × (old ≡ Some (Flight.Flush other o seq blocking drain))
