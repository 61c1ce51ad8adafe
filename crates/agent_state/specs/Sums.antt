-- What a list of records holds.
use Rattle.std.specs.Prelude.{ℕ, Bool, List, length}
use Rattle.std.specs.List.{count_by, sum_by}
use Rattle.agent_state.specs.declared.totals.Totals.{Totals}

-- what the agent weighs of a record
pub record Weight : Type 0 where
  pub dirty : Bool
  pub bytes : ℕ

-- the sums over a list of records
abbrev pub totals_of : List Weight → Totals
totals_of records =
    record {
      records = length records;
      dirty = count_by (λ (w : Weight). w.dirty) records;
      bytes = sum_by (λ (w : Weight). w.bytes) records;
    }
