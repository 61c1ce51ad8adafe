-- The calls of a group, as far as its history speaks of them.
use Rattle.std.specs.Prelude.{ℕ, ◌==◌, List, Option}
use Rattle.std.specs.List.{find}
use Rattle.tier_chron.specs.declared.asked.Asked.{Asked}

-- a call: its number, its line, the number of acts at its first step, and what it asked
pub record Call : Type 0 where
  pub number : ℕ
  pub line : Option ℕ
  pub begin : ℕ
  pub asked : Asked

-- the call of a number
abbrev pub call_of : List Call → ℕ → Option Call
call_of calls number = find (λ c. c.number == number) calls
