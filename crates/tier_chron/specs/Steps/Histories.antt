-- How a history is held.
use Rattle.std.specs.Prelude.{◌≡◌, ◌==◌, ◌&&◌, ◌||◌, ℕ, Bool, nat_eq, not, List, map, Option, Some, None, if◌then◌else◌}
use Rattle.std.specs.List.{list_any}
use Rattle.obj_model.specs.declared.state.NameState.{NameState}
use Rattle.tier_chron.specs.Logs.{Log, is_opened}
use Rattle.tier_chron.specs.Shapes.{is_fault}
use Rattle.tier_chron.specs.Weights.{first_weight}
use Rattle.tier_chron.specs.declared.entries.First.{First}
use Rattle.tier_chron.specs.declared.entries.Act.{Act}
use Rattle.tier_chron.specs.declared.entries.Logged.{Logged}

-- an entry of the index as an opening
abbrev pub first_of : List ℕ × NameState → First
first_of e = record { name = e.0; state = e.1 }

-- what is held, as a history
abbrev pub log_of : List (List ℕ × NameState) → List Act → List Logged → Log
log_of entries acts answers =
    record { opening = map first_of entries; acts = acts; answers = answers }

-- what an opening adds to the weight of the openings: nothing where its name has one
abbrev pub opened_weight : Option First → List First → ℕ
opened_weight None opening = 0
opened_weight (Some f) opening = if is_opened opening f.name then 0 else first_weight f

-- whether one of the acts is the call's
abbrev pub has_acted : ℕ → List Act → Bool
has_acted call acts = list_any (λ a. a.call == call) acts

-- whether the call was answered for good
abbrev pub is_done : ℕ → List Logged → Bool
is_done call answers = list_any (λ l. (l.call == call) && not (is_fault l.answer)) answers

-- these are the calls that have an act or were answered for good
abbrev pub AreClosed : List ℕ → List Act → List Logged → Type 0
AreClosed closed acts answers = (call : ℕ) → list_any (nat_eq call) closed
    ≡ (has_acted call acts || is_done call answers)
