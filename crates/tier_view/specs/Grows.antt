-- What a step may do: how a group grows.
use Rattle.std.specs.Prelude.{◌≡◌, ◌≢◌, ◌≤◌, ◌⊎◌, ℕ, ◌+◌, true, false, List, [], ◌∷◌, ◌++◌, length, Option, Some, None}
use Rattle.std.specs.List.{AllByRecursion}
use Rattle.obj_model.specs.declared.change.Change.{Change}
use Rattle.obj_ops.specs.Stores.{Store}
use Rattle.store_face.specs.Calls.{Among, Between}
use Rattle.store_face.specs.Views.{StoreView}
use Rattle.tier_chron.specs.Logs.{Log}
use Rattle.tier_chron.specs.declared.asked.Asked.{Asked}
use Rattle.tier_chron.specs.declared.entries.First.{First}
use Rattle.tier_chron.specs.declared.entries.Act.{Act}
use Rattle.tier_chron.specs.declared.entries.Logged.{Logged}
use Rattle.tier_join.specs.Group.{BothTell}
use Rattle.tier_join.specs.Promises.{Promises}
use Rattle.tier_view.specs.Calls.{Calls, Entry, Flown, entry_of}
use Rattle.tier_view.specs.Standing.{Standing}
use Rattle.tier_view.specs.Stores.{Stores}
use Rattle.tier_view.specs.Tables.{goes_without}
use Rattle.tier_view.specs.Views.{GroupView, joined}
use Rattle.tier_view.specs.Worlds.{Began}

-- ---- the history

-- what came to a history
pub record LogGrows (old new : Log) : Type 0 where
  pub opening : List First
  pub acts : List Act
  pub answers : List Logged
  pub is_opening : new.opening ≡ old.opening ++ opening
  pub is_acts : new.acts ≡ old.acts ++ acts
  pub is_answers : new.answers ≡ old.answers ++ answers
  -- each answer was logged behind all acts of the step
  pub ends : AllByRecursion (λ l. l.end ≡ length new.acts) answers

-- a step answers at most one call
abbrev pub AtMostOne : {X : Type 0} → List X → Type 0
AtMostOne [] = Unit {0}
AtMostOne (x ∷ []) = Unit {0}
AtMostOne (x ∷ xs) = ⊥

-- ---- the table of calls

-- what a step may ask for a new call: its line, and what it asks
pub record Wanted : Type 0 where
  pub line : Option ℕ
  pub asked : Asked

-- an entry stays; but a call takes over a write request that was left, once, and ends, once
pub record Stays (old new : Entry) : Type 0 where
  pub number : new.number ≡ old.number
  pub line : new.line ≡ old.line
  pub asked : new.asked ≡ old.asked
  pub epoch : new.epoch ≡ old.epoch
  pub begin : new.begin ≡ old.begin
  pub adopted : old.adopted ≡ true → new.adopted ≡ true
  pub ended : old.ended ≡ true → new.ended ≡ true

-- A new entry is of the next number, of the present epoch and number of acts, and of the line and
-- the request that are wanted. A client's request has a line.
pub record IsNew (next now count : ℕ) (what : Option Wanted) (e : Entry) : Type 0 where
  pub number : e.number ≡ next
  pub epoch : e.epoch ≡ now
  pub begin : e.begin ≡ count
  pub wanted : what ≡ Some (record { line = e.line; asked = e.asked })
  pub lined : e.line ≡ None → goes_without e.asked ≡ true

-- one list is the other, changed entry by entry, with some more that are so
abbrev pub Extends : {X : Type 0} → (X → X → Type 0) → (List X → Type 0) → List X → List X
    → Type 0
Extends Same More [] new = More new
Extends Same More (x ∷ xs) [] = ⊥
Extends Same More (x ∷ xs) (y ∷ ys) = Same x y × Extends Same More xs ys

-- at most one call is entered
abbrev pub AreEntered : (next epoch begin : ℕ) → (last : ℕ) → Option Wanted → List Entry → Type 0
AreEntered next epoch begin last wanted [] = last + 1 ≡ next
AreEntered next epoch begin last wanted (e ∷ []) =
    (last ≡ next) × IsNew next epoch begin wanted e
AreEntered next epoch begin last wanted (e ∷ es) = ⊥

-- the table grows
abbrev pub CallsGrow : (epoch begin : ℕ) → Option Wanted → (old new : Calls) → Type 0
CallsGrow epoch begin wanted old new =
    Extends Stays (AreEntered (old.last + 1) epoch begin new.last wanted) old.entries new.entries

-- ---- work that comes and goes

-- an entry stays, and what stands may go
pub record Remains (before now : ℕ) (old new : Flown) : Type 0 where
  pub call : new.call ≡ old.call
  pub kind : new.kind ≡ old.kind
  pub name : new.name ≡ old.name
  pub opid : new.opid ≡ old.opid
  pub came : new.came ≡ old.came
  pub went : (new.went ≡ old.went)
      ⊎ ((old.went ≡ None) × ((at : ℕ) × (new.went ≡ Some at) × (before ≤ at) × (at ≤ now)))

-- a call that there is, is not over
abbrev pub IsNotOver : Option Entry → Type 0
IsNotOver None = Unit {0}
IsNotOver (Some e) = e.ended ≡ false

-- Work that comes is of a call of the table that was not over before the step, has the next
-- operation's number, came at the present number of answers, and stands.
pub record IsComing (before now : List Entry) (next count : ℕ) (f : Flown) : Type 0 where
  pub opid : f.opid ≡ next
  pub came : f.came ≡ count
  pub stands : f.went ≡ None
  pub known : entry_of now f.call ≢ None
  pub going : IsNotOver (entry_of before f.call)

-- at most one comes, and the next number rises by as many; none where the epoch changes
abbrev pub HaveCome : (before now : List Entry) → (count : ℕ) → (old new : Standing) → List Flown
    → Type 0
HaveCome before now count old new [] =
    ((new.cache_epoch ≡ old.cache_epoch) × (new.next_opid ≡ old.next_opid))
    ⊎ ((new.cache_epoch ≢ old.cache_epoch) × (new.next_opid ≡ 1))
HaveCome before now count old new (f ∷ []) =
    (new.cache_epoch ≡ old.cache_epoch) × (new.next_opid ≡ old.next_opid + 1)
    × IsComing before now old.next_opid count f
HaveCome before now count old new (f ∷ fs) = ⊥

-- the table of work grows
abbrev pub WorkGrows : (old new : GroupView) → Type 0
WorkGrows old new =
    let before = length old.log.answers in
    Extends (Remains before (length new.log.answers))
    (HaveCome old.calls.entries new.calls.entries before old.standing new.standing)
    old.calls.flown new.calls.flown

-- ---- commits

-- no map of the store comes
abbrev pub Rests : (old new : StoreView) → Type 0
Rests old new = new.moments ≡ old.moments

-- one commit: a stop leaves what it left before, or that with these changes; or the store was
-- opened anew
abbrev pub IsTouched : (old new : StoreView) → Type 0
IsTouched old new = ((changes : List Change) × Between changes old new) ⊎ Among old new

-- a step commits once at most, in one pool, and opens one store at most
pub data OneCommit (old new : Stores) : Type 0 where
  no_commit : Rests old.cache new.cache → Rests old.base new.base → OneCommit old new
  in_cache : IsTouched old.cache new.cache → Rests old.base new.base → OneCommit old new
  in_base : Rests old.cache new.cache → IsTouched old.base new.base → OneCommit old new

-- ---- all of it

-- One step, where `other` is what its act makes of the plain store, and `wanted` what it asks for a
-- new call.
pub record Grows (other : Store → Store) (wanted : Option Wanted) (old new : GroupView) : Type 0
  where
    -- what a stop leaves meanwhile, at most one act, and what holds of memory
    pub pools : Promises other (joined old) (joined new)
    pub began : (start : Store) → BothTell (joined old) → Began start old → Began start new
    pub log : LogGrows old.log new.log
    pub one_answer : AtMostOne log.answers
    pub calls : CallsGrow new.standing.cache_epoch (length old.log.acts) wanted old.calls new.calls
    pub flown : WorkGrows old new
    pub commit : OneCommit old.stores new.stores
    pub epoch : old.standing.cache_epoch ≤ new.standing.cache_epoch
    pub cache_faults : old.stores.cache.faults ≤ new.stores.cache.faults
    pub base_faults : old.stores.base.faults ≤ new.stores.base.faults
    pub share : new.agent.share ≡ old.agent.share
    pub values : new.agent.values ≡ old.agent.values
