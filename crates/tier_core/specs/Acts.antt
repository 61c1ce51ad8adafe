-- A request that acts on a record of the cache.
use Rattle.std.specs.Prelude.{ℕ, List, Option, Some, None, Ok, Err, if◌then◌else◌}
use Rattle.agent_state.specs.declared.totals.Totals.{Totals}
use Rattle.obj_model.specs.declared.change.Pool.TheVariants.{Cache}
use Rattle.obj_model.specs.declared.state.NameState.{NameState}
use Rattle.store_face.specs.declared.fault.StoreFault.TheVariants.{Disk, BadImage, NoSpace, Worn, NoMemory}
use Rattle.tier_chron.specs.Logs.{Log, acted_log, is_opened}
use Rattle.tier_chron.specs.declared.entries.Act.{Act}
use Rattle.tier_chron.specs.declared.entries.First.{First}
use Rattle.tier_join.specs.Steps.{Outcome}
use Rattle.tier_view.specs.declared.parts.Pending.{Pending}

-- the opening that goes with an act on a name in this state: none where the name has one
abbrev pub first_for : List First → List ℕ → NameState → Option First
first_for opening name s =
    if is_opened opening name then None else Some (record { name = name; state = s })

-- the history behind the commit of an act
abbrev pub log_after : Option First → Act → Outcome → Log → Log
log_after first a (Ok made) log = acted_log first a log
log_after first a (Err fault) log = log

-- the doubt behind it
abbrev pub pending_after : Option First → Act → (seq : ℕ) → Outcome → Option Pending
    → Option Pending
pending_after first a seq (Err Disk) old = Some (Pending.Act Cache first a seq)
pending_after first a seq other old = old

-- the sums behind it, where they are these if it was made
abbrev pub totals_behind : Totals → Outcome → Totals → Totals
totals_behind totals (Ok made) old = totals
totals_behind totals (Err fault) old = old
