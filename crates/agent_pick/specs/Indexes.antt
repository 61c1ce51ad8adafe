-- The names that an agent may take, kept from step to step, and the pick among them.
use Rattle.std.specs.Prelude.{◌≡◌, refl, ℕ, Bool, true, false, List, [], ◌∷◌, Option, Some, None, if◌then◌else◌}
use Rattle.std.specs.Coded.{Coded, code_by, coded×, coded_ℕ, coded_list}
use base.Stored.{coded_unit}
use Rattle.std.specs.Option.{option_or}
use Rattle.std.specs.Ordering.{is_lt}
use Rattle.std.specs.FinMap as fin
use Rattle.agent_state.specs.declared.modes.FlushMode.{FlushMode}
use Rattle.agent_state.specs.declared.modes.FlushMode.TheVariants as flush
use Rattle.agent_state.specs.declared.modes.EvictMode.{EvictMode}
use Rattle.agent_state.specs.declared.modes.EvictMode.TheVariants as evict
use Rattle.agent_state.specs.declared.modes.Modes.{Modes}
use Rattle.obj_model.specs.Names.{name_cmp}
use Rattle.obj_model.specs.Tables.{entries_above}

-- a set of names
abbrev pub NameSet : Type 0
NameSet = fin.FinMap name_cmp (Unit {0})

-- names of dirty records and of clean ones, of those that are not busy
pub record Ready : Type 0 where
  pub dirty : NameSet
  pub clean : NameSet

-- and their code
abbrev pub coded_ready : Coded Ready
coded_ready =
    code_by (NameSet × NameSet)
    (coded× (fin.code (coded_list coded_ℕ) coded_unit) (fin.code (coded_list coded_ℕ) coded_unit))
    (λ s. (s.dirty, s.clean))
    (λ p. record { dirty = p.0; clean = p.1 })
    (λ _. refl)

-- no names
abbrev pub no_names : Ready
no_names = record { dirty = fin.empty; clean = fin.empty }

-- the name is in the one set and not in the other
abbrev pub put_name : List ℕ → Bool → Ready → Ready
put_name n true s = record { dirty = fin.insert s.dirty n tt; clean = fin.remove s.clean n }
put_name n false s = record { dirty = fin.remove s.dirty n; clean = fin.insert s.clean n tt }

-- the name was moved into a set, out of another
abbrev pub IsMoved : List ℕ → (from from_now to to_now : NameSet) → Type 0
IsMoved n from from_now to to_now =
    (from_now ≡ fin.remove from n) × (to_now ≡ fin.insert to n tt)

-- the name is in neither
abbrev pub drop_name : List ℕ → Ready → Ready
drop_name n s = record { dirty = fin.remove s.dirty n; clean = fin.remove s.clean n }

-- no age and no temperature decides in these modes
abbrev pub is_plain : FlushMode → EvictMode → Bool
is_plain flush.Idle evict.Idle = true
is_plain flush.High evict.Idle = true
is_plain flush.Low evict.Idle = false
is_plain f evict.Some = false
is_plain f evict.Full = true

-- dirty records are flushed, where neither age nor temperature decides
abbrev pub is_flushing : FlushMode → Bool
is_flushing flush.Idle = false
is_flushing flush.Low = true
is_flushing flush.High = true

-- clean records are evicted, where neither age nor temperature decides
abbrev pub is_evicting : EvictMode → Bool
is_evicting evict.Idle = false
is_evicting evict.Some = false
is_evicting evict.Full = true

-- the first name
abbrev pub first_of : List (List ℕ × Unit {0}) → Option (List ℕ)
first_of [] = None
first_of (e ∷ es) = Some e.0

-- the first name of a set above this one
abbrev pub first_in : Option (List ℕ) → NameSet → Option (List ℕ)
first_in after s = first_of (entries_above after s)

-- the lesser name
abbrev pub lesser : Option (List ℕ) → Option (List ℕ) → Option (List ℕ)
lesser None b = b
lesser (Some a) None = Some a
lesser (Some a) (Some b) = if is_lt (name_cmp b a) then Some b else Some a

-- where it is wanted
abbrev pub where_wanted : Bool → Option (List ℕ) → Option (List ℕ)
where_wanted wanted n = if wanted then n else None

-- the first name of a set above this one, where it is wanted
abbrev pub first_if : Bool → Option (List ℕ) → NameSet → Option (List ℕ)
first_if wanted after s = where_wanted wanted (first_in after s)

-- the first name above this one of which the agent wants something
abbrev pub first_wanted : Ready → Modes → Option (List ℕ) → Option (List ℕ)
first_wanted s modes after =
    lesser
    (first_if (is_flushing modes.flush) after s.dirty)
    (first_if (is_evicting modes.evict) after s.clean)

-- the first one behind the cursor, else the first of all
abbrev pub next_of : Ready → Option (List ℕ) → Modes → Option (List ℕ)
next_of s cursor modes = option_or (first_wanted s modes cursor) (first_wanted s modes None)
