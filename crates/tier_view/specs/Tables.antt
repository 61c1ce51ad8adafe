-- What holds of the table of calls, and of the work that came and went.
use Rattle.std.specs.Prelude.{◌≡◌, ◌≢◌, ◌≤◌, ◌<◌, ℕ, Bool, true, false, List, Option, Some, None}
use Rattle.std.specs.FinMap as fin
use Rattle.std.specs.List.{AllByRecursion}
use Rattle.obj_model.specs.declared.tier.Kind.{Kind}
use Rattle.obj_model.specs.declared.tier.Kind.TheVariants as kind
use Rattle.tier_chron.specs.declared.asked.Asked.{Asked}
use Rattle.tier_chron.specs.declared.asked.Asked.TheVariants.{Flush, Agent, Start}
use Rattle.tier_chron.specs.declared.entries.Logged.{Logged}
use Rattle.tier_protocol.specs.Tiers.{Flight, Flights, Name, ReadFlight, IsIn}
use Rattle.tier_view.specs.Calls.{Calls, Entry, Flown, IsInFlight, entry_of}
use Rattle.tier_view.specs.Traffic.{Begun}

-- ---- calls

-- the call was not answered
abbrev pub IsUnanswered : ℕ → List Logged → Type 0
IsUnanswered call answers = AllByRecursion (λ l. l.call ≢ call) answers

-- what is asked without a line: a flush, a turn of the agent, a start
abbrev pub goes_without : Asked → Bool
goes_without (Flush name blocking begin_only) = true
goes_without Agent = true
goes_without Start = true
goes_without asked = false

-- One entry: its number was given out, its epoch was reached, what it asked has a line where it has
-- to have one, and it was not answered while it is in flight.
pub record SoundEntry (last epoch : ℕ) (answers : List Logged) (e : Entry) : Type 0 where
  pub positive : 0 < e.number
  pub given : e.number ≤ last
  pub reached : e.epoch ≤ epoch
  pub lined : e.line ≡ None → goes_without e.asked ≡ true
  pub unanswered : e.ended ≡ false → IsUnanswered e.number answers

abbrev pub SoundCalls : Calls → (epoch : ℕ) → List Logged → Type 0
SoundCalls calls epoch answers =
    AllByRecursion (SoundEntry calls.last epoch answers) calls.entries

-- ---- work that stands, and the table of what came and went

-- this is an entry of such work that has not gone
pub record IsStanding (k : Kind) (n : Name) (op : ℕ) (f : Flown) : Type 0 where
  pub kind : f.kind ≡ k
  pub name : f.name ≡ n
  pub opid : f.opid ≡ op
  pub there : f.went ≡ None

-- such work, of this call, came and has not gone
pub record HasCome (flown : List Flown) (k : Kind) (n : Name) (op : ℕ)
    (by : Flown → Type 0) : Type 0 where
  pub entry : Flown
  pub on : IsIn entry flown
  pub standing : IsStanding k n op entry
  pub whose : by entry

abbrev pub AnyCall : Flown → Type 0
AnyCall f = Unit {0}

-- a call drives this work, or nobody does
abbrev pub IsDriven : List Entry → Option ℕ → Type 0
IsDriven entries None = Unit {0}
IsDriven entries (Some call) = IsInFlight entries call

-- a flush that nobody waits for was begun alone, in this epoch
abbrev pub IsBegunAlone : List Begun → (epoch : ℕ) → Name → Option ℕ → Type 0
IsBegunAlone begun epoch name None =
    (b : Begun) × IsIn b begun × (b.name ≡ name) × (b.epoch ≡ epoch)
IsBegunAlone begun epoch name (Some call) = Unit {0}

-- Work that stands is of calls in flight, and in the table of what came. A write request that is
-- left, and a flush that was begun alone, are no call's in flight; the table has who began them.
abbrev pub IsListed : List Entry → List Flown → List Begun → (epoch : ℕ) → Name → Flight → Type 0
IsListed entries flown begun epoch name (Flight.Promote call op gather ask) =
    IsInFlight entries call × HasCome flown kind.Promote name op (λ f. f.call ≡ call)
IsListed entries flown begun epoch name (Flight.Write driver owner op r) =
    IsDriven entries driver × HasCome flown kind.Write name op (λ f. f.call ≡ owner)
IsListed entries flown begun epoch name (Flight.Reads list) =
    (r : ReadFlight) → IsIn r list
    → IsInFlight entries r.call × HasCome flown kind.Read name r.opid (λ f. f.call ≡ r.call)
IsListed entries flown begun epoch name (Flight.Flush call op seq blocking drain) =
    IsDriven entries call × IsBegunAlone begun epoch name call
    × HasCome flown kind.Flush name op AnyCall

-- the work on a name is of this kind and has this number
abbrev pub IsOfKind : Option Flight → Kind → ℕ → Type 0
IsOfKind (Some (Flight.Promote call o gather ask)) kind.Promote op = o ≡ op
IsOfKind (Some (Flight.Write driver owner o r)) kind.Write op = o ≡ op
IsOfKind (Some (Flight.Reads list)) kind.Read op =
    (r : ReadFlight) × IsIn r list × (r.opid ≡ op)
IsOfKind (Some (Flight.Flush call o seq blocking drain)) kind.Flush op = o ≡ op
IsOfKind flight k op = ⊥

-- it came at some number of answers, and went at no lower one
abbrev pub IsTimed : (count came : ℕ) → (went : Option ℕ) → Type 0
IsTimed count came None = came ≤ count
IsTimed count came (Some went) = (came ≤ went) × (went ≤ count)

-- an entry of the table: its call is there, its times were reached, and it stands where it has not
-- gone
pub record SoundFlown (entries : List Entry) (flights : Flights) (count : ℕ) (f : Flown) : Type 0
  where
    pub known : entry_of entries f.call ≢ None
    pub timed : IsTimed count f.came f.went
    pub stands : f.went ≡ None → IsOfKind (fin.get flights f.name) f.kind f.opid

-- The work that stands is that of the table which came and has not gone.
pub record SoundFlights (entries : List Entry) (flown : List Flown) (flights : Flights)
    (begun : List Begun) (epoch count : ℕ) : Type 0 where
  pub listed : (name : Name) (f : Flight) → fin.get flights name ≡ Some f
      → IsListed entries flown begun epoch name f
  pub table : AllByRecursion (SoundFlown entries flights count) flown
