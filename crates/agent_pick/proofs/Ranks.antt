-- A rank rises with the temperature.
use Rattle.std.proofs.Common.{◌≡◌, ◌≤◌, ◌<◌, ℕ, ◌+◌, Bool, true, false, cond, List, nat_lt, arith}
use Rattle.std.specs.List.{count_by}
use Rattle.std.proofs.lemmas.List.Sums.{sum_by-le-sum_by}
use Rattle.agent_pick.specs.declared.row.Row.{Row}
use Rattle.agent_pick.specs.declared.temperatures.Between.{Between}
use Rattle.agent_pick.specs.Steps.{IsBetween, IsColdLimit}
use Rattle.agent_pick.specs.Rules.{is_cold, rank}

-- what is colder than a temperature is colder than a warmer one
colder_too : (t a b : ℕ) → a ≤ b → cond (nat_lt t a) 1 0 ≤ cond (nat_lt t b) 1 0
colder_too t a b l = grind (arith)

pub counts_rise : (rows : List Row) (a b : ℕ) → a ≤ b →
    count_by (λ (r : Row). nat_lt r.temperature a) rows ≤ count_by
    (λ (r : Row). nat_lt r.temperature b) rows
counts_rise rows a b l =
    sum_by-le-sum_by
    (λ (r : Row). cond (nat_lt r.temperature a) 1 0)
    (λ (r : Row). cond (nat_lt r.temperature b) 1 0)
    rows
    (λ r. colder_too r.temperature a b l)

pub ranks_rise : (rows : List Row) (a b : ℕ) → a ≤ b → rank rows a ≤ rank rows b
ranks_rise rows a b l = grind (arith, counts_rise rows a b l)

-- what is as cold as a cold temperature is cold
pub cold_below : (rows : List Row) (effort a b : ℕ) → a ≤ b → is_cold rows effort b ≡ true →
    is_cold rows effort a ≡ true
cold_below rows effort a b l h = grind (arith, ranks_rise rows a b l, h)

-- what is as warm as a warm temperature is warm
pub warm_above : (rows : List Row) (effort a b : ℕ) → a ≤ b → is_cold rows effort a ≡ false →
    is_cold rows effort b ≡ false
warm_above rows effort a b l h = grind (arith, ranks_rise rows a b l, h)

-- cases on a number below a sum
below_next : (t p : ℕ) → t < p + 1 → t ≤ p
below_next t p l = omega arith

-- a cold probe: all up to it is cold
pub colder_known : (rows : List Row) (effort probe : ℕ) (b : Between) → IsBetween rows effort b →
    b.low ≤ probe → probe < b.high → is_cold rows effort probe ≡ true →
    IsBetween rows effort (record { low = probe + 1; high = b.high })
colder_known rows effort probe b k l u h =
    record {
      ordered = omega arith;
      top = k.top;
      cold = λ t less. cold_below rows effort t probe (below_next t probe less) h;
      warm = k.warm;
    }

-- a warm probe: all from it on is warm
pub warmer_known : (rows : List Row) (effort probe : ℕ) (b : Between) → IsBetween rows effort b →
    b.low ≤ probe → probe < b.high → is_cold rows effort probe ≡ false →
    IsBetween rows effort (record { low = b.low; high = probe })
warmer_known rows effort probe b k l u h =
    record {
      ordered = l;
      top = grind (arith, k.top);
      cold = k.cold;
      warm = λ t more fits. warm_above rows effort probe t more h;
    }

-- a test that agrees with a limit on both sides of it
by_limit : (t limit : ℕ) (b : Bool) → (t < limit → b ≡ true) → (limit ≤ t → b ≡ false) →
    b ≡ nat_lt t limit
by_limit t limit b below above = grind (arith, below, above)

-- nothing is left between
pub limit_found : (rows : List Row) (effort : ℕ) (b : Between) → IsBetween rows effort b →
    b.high ≤ b.low →
    IsColdLimit rows effort b.low
limit_found rows effort b k h t fits =
    by_limit t b.low (is_cold rows effort t) (k.cold t) (λ l. k.warm t (grind (arith, l, h)) fits)
