-- The table of calls as its callers see it.
use Rattle.std.specs.Coded.{Coded, code_by, coded×, coded_ℕ}
use Rattle.std.specs.Prelude.{ℕ, refl}
use Rattle.tier_view.specs.Calls.{Calls}
use Rattle.tier_view.specs.Codes.{coded_calls}

-- the calls and their work, for how many new entries of work there is memory, and how many entries
-- of work are of earlier epochs
pub record TableView : Type 0 where
  pub calls : Calls
  pub spare : ℕ
  pub earlier : ℕ

-- how a table is written down as a value of contracts
abbrev pub coded_table : Coded TableView
coded_table =
    code_by (Calls × (ℕ × ℕ)) (coded× coded_calls (coded× coded_ℕ coded_ℕ))
    (λ t. (t.calls, (t.spare, t.earlier)))
    (λ c. record { calls = c.0; spare = c.1.0; earlier = c.1.1 }) (λ _. refl)
