-- What the trait of disks asks of each call, from what the call leaves.
use Rattle.std.specs.Prelude.{◌≡◌, ◌≤◌, ℕ, ◌/◌, List, [], ◌∷◌, ◌++◌, length, min, max, Some, Result, Ok, Err, OnOk, OnErr, refl}
use Rattle.std.proofs.Common.{ap, sym, subst, inl, inr, arith}
use Rattle.std.proofs.lemmas.Bool.Decides.{nat_tests}
use Rattle.tier_outside.specs.Disk.{DiskMoment, Restarts, Syncs, settled}
use Rattle.tier_outside.specs.DiskMoments.{last, Goes, Then}
use Rattle.tier_outside.proofs.DiskMoments.{last_push}
use Rattle.mem_disk.specs.declared.plan.Turn.{Turn}
use Rattle.mem_disk.specs.Memory.{Memory, Changes, Settles, Wakes, IsSound, halfway, now, told, worked}
use Rattle.mem_disk.proofs.Settling.{picked_image}

-- one more moment is now
then_worked : (R : DiskMoment → DiskMoment → Type 0) (all : DiskMoment) (old new : Memory) → new.moments ≡ old.moments ++ all ∷ []
    → R (now old) all → Then (told old) (told new) R
then_worked R all old new is fact =
    subst (λ ds. R (now old) (last ds)) (sym is) (subst (R (now old)) (sym (last_push old.moments all)) fact)

-- a write or a cut, all and in part, is one step or none
pub changes_step : {E : Type 0} (step : DiskMoment → DiskMoment → Type 0) (does : Turn) (all part : DiskMoment) (old new : Memory)
    (result : Result (Unit {0}) E) → step (now old) all → step (now old) part → Changes does all part old new result
    → Goes step (told old) (told new)
changes_step step does all part old new (Ok done) whole some is = inr (all, ap told is.1, whole)
changes_step step does all part old new (Err fault) whole some (inl is) = inl (ap told is.1)
changes_step step does all part old new (Err fault) whole some (inr (inl is)) = inr (part, ap told is.1, some)
changes_step step does all part old new (Err fault) whole some (inr (inr is)) = inl (ap told is.1)

pub changes_done : {E : Type 0} (R : DiskMoment → DiskMoment → Type 0) (does : Turn) (all part : DiskMoment) (old new : Memory)
    (result : Result (Unit {0}) E) → R (now old) all → Changes does all part old new result
    → OnOk result (Then (told old) (told new) R)
changes_done R does all part old new (Ok done) fact is = then_worked R all old new (ap (λ m. m.moments) is.1) fact
changes_done R does all part old new (Err fault) fact is = tt

pub settles_step : {E : Type 0} (does : Turn) (old new : Memory) (result : Result (Unit {0}) E) → Settles does old new result
    → Goes Syncs (told old) (told new)
settles_step does old new (Ok done) is = inr (settled (now old).content, ap told is.1, refl)
settles_step does old new (Err fault) (inl is) = inl (ap told is.1)
settles_step does old new (Err fault) (inr is) = inl (ap told is.1)

pub settles_done : {E : Type 0} (does : Turn) (old new : Memory) (result : Result (Unit {0}) E) → Settles does old new result
    → OnOk result (Then (told old) (told new) Syncs)
settles_done does old new (Ok done) is = then_worked Syncs (settled (now old).content) old new (ap (λ m. m.moments) is.1) refl
settles_done does old new (Err fault) is = tt

pub settles_kept : {E : Type 0} (does : Turn) (old new : Memory) (result : Result (Unit {0}) E) → Settles does old new result
    → OnErr result (told new ≡ told old)
settles_kept does old new (Ok done) is = tt
settles_kept does old new (Err fault) (inl is) = ap told is.1
settles_kept does old new (Err fault) (inr is) = ap told is.1

pub wakes_step : {E : Type 0} (does : Turn) (old new : Memory) (result : Result (Unit {0}) E) → IsSound (now old) → Wakes does old new result
    → Goes Restarts (told old) (told new)
wakes_step does old new (Ok done) sound is =
    inr (settled is.1.0, ap told is.1.2, record { is = refl; image = picked_image old.pick (now old) is.1.0 sound is.1.1 })
wakes_step does old new (Err fault) sound (inl is) = inl (ap told is.1)
wakes_step does old new (Err fault) sound (inr is) = inl (ap told is.1)

pub wakes_done : {E : Type 0} (does : Turn) (old new : Memory) (result : Result (Unit {0}) E) → IsSound (now old) → Wakes does old new result
    → OnOk result (Then (told old) (told new) Restarts)
wakes_done does old new (Ok done) sound is =
    then_worked Restarts (settled is.1.0) old new (ap (λ m. m.moments) is.1.2)
    (record { is = refl; image = picked_image old.pick (now old) is.1.0 sound is.1.1 })
wakes_done does old new (Err fault) sound is = tt

pub wakes_kept : {E : Type 0} (does : Turn) (old new : Memory) (result : Result (Unit {0}) E) → Wakes does old new result
    → OnErr result (told new ≡ told old)
wakes_kept does old new (Ok done) is = tt
wakes_kept does old new (Err fault) (inl is) = ap told is.1
wakes_kept does old new (Err fault) (inr is) = ap told is.1
