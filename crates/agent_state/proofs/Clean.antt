-- A list of clean records.
use Rattle.std.proofs.Common.{◌≡◌, ◌≤◌, ℕ, ◌*◌, Bool, true, false, cond, List, length, arith, ap, ap₂, ◌∙◌, true≢false, zero-mul}
use Rattle.std.specs.List.{All, count_by}
use Rattle.std.proofs.lemmas.List.Sums.{sum_by-le}
use Rattle.obj_model.specs.declared.tier.PoolValues.{PoolValues}
use Rattle.agent_state.specs.declared.totals.Totals.{Totals}
use Rattle.agent_state.specs.declared.totals.Share.{Share}
use Rattle.agent_state.specs.declared.modes.Modes.{Modes}
use Rattle.agent_state.specs.declared.modes.FlushMode.{FlushMode}
use Rattle.agent_state.specs.declared.modes.FlushMode.TheVariants as flush
use Rattle.agent_state.specs.Modes.{average, micro_of, fill_of, flush_at, flush_of, rests_flush, slop_of, with_slop}
use Rattle.agent_state.specs.Sums.{Weight, totals_of}
use Rattle.agent_state.specs.Laws.{CleanIsNotFlushed}

-- what is not dirty counts nothing
not_counted : (b : Bool) → b ≡ false → cond b 1 0 ≤ 0
not_counted true e = absurd (true≢false e)
not_counted false e = omega arith

pub none_dirty : (ws : List Weight) → All (λ (w : Weight). w.dirty ≡ false) ws →
    count_by (λ (w : Weight). w.dirty) ws ≡ 0
none_dirty ws h = grind
    (arith, sum_by-le (λ (w : Weight). cond w.dirty 1 0) 0 ws (λ k d l. not_counted _ (h k d l)))

-- nothing is no part of a target
nothing_of : (target : ℕ) → micro_of 0 target ≡ 0
nothing_of target = grind (arith)

-- no record fills nothing
no_fill : (t : Totals) (s : Share) → fill_of 0 t s ≡ 0
no_fill t s = grind (arith, nothing_of s.bytes, nothing_of s.objects, zero-mul (average t))

-- nothing dirty is above no threshold
idle_at : (low high : ℕ) → flush_at low high 0 0 ≡ flush.Idle
idle_at low high = grind (arith)

-- a threshold after these modes
abbrev slopped : PoolValues → Modes → ℕ → ℕ
slopped v old target = with_slop (rests_flush old.flush) (slop_of v.cache_target_dirty_ratio) target

pub clean : (v : PoolValues) (s : Share) → CleanIsNotFlushed v s
clean v s ws old h =
    ap₂ (λ p d. flush_of v old.flush p d)
    (ap (λ d. fill_of d (totals_of ws) s) (none_dirty ws h) ∙ no_fill (totals_of ws) s)
    (none_dirty ws h)
    ∙ idle_at (slopped v old v.cache_target_dirty_ratio)
    (slopped v old v.cache_target_dirty_high_ratio)
