-- What follows for records and their totals, in plain words.
use Rattle.std.specs.Prelude.{◌≡◌, ℕ, List, ◌++◌, Bool, true, false, Option, Result, Ok, Err}
use Rattle.agent_state.specs.Modes.{AreTotals}
use Rattle.obj_model.specs.declared.state.NameState.{NameState}
use Rattle.tier_types.specs.declared.record.TierRec.{TierRec}
use Rattle.tier_rec.specs.Records.{acted_record, cleaned_record, listed, totals_after, totals_over}

-- from the totals of a list of records follow those of the list in which one record, or none, gave
-- place to another
abbrev pub TotalsGoOn : Option TierRec → Option TierRec → Type 0
TotalsGoOn old new =
    (before behind : List TierRec) → AreTotals (totals_over (before ++ listed new ++ behind)) →
    totals_after (totals_over (before ++ listed old ++ behind)) old new
    ≡ totals_over (before ++ listed new ++ behind)

-- a record that is cleaned is clean, has the seq that was flushed, and is the record of before else
abbrev pub CleanedAtItsSeq : TierRec → ℕ → Type 0
CleanedAtItsSeq r seq =
    (c : TierRec) → cleaned_record r seq ≡ Ok c →
    (c.dirty ≡ false) × (r.state.seq ≡ seq) × (c.state ≡ r.state) × (c.mtime ≡ r.mtime)

-- a record that is not cleaned is given back as it was, and something acted on it
abbrev pub RefusedAtAnother : TierRec → ℕ → Type 0
RefusedAtAnother r seq =
    (b : TierRec) → cleaned_record r seq ≡ Err b → (b ≡ r) × ((r.state.seq ≡ seq) → ⊥)
