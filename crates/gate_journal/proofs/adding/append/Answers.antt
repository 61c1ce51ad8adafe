use Rattle.std.proofs.Common.{subst, List, ℕ}
use Rattle.gate_journal.specs.Stands.{StandsAs, HoldsWithOrWithout}
use Rattle.tier_outside.specs.DiskMoments.{Leaves}
use Rattle.gate_journal.proofs.adding.append.Goals as goal

pub returns-in_err-add-in-Ok-clause-any_moment : goal.returns-in_err-add-in-Ok-clause-any_moment
returns-in_err-add-in-Ok-clause-any_moment g c =
    let journal = c.args.journal.now in
    subst (λ (payload : List ℕ). Leaves (g.D.Disk.moments c.args.disk.now)
    (g.D.Disk.moments c.add.new.disk)
    (λ d image. (payloads : List (List ℕ)) → StandsAs journal payloads d
    → HoldsWithOrWithout journal payloads payload image))
    c.in-Ok.ensures.payload c.in_err-add-in-Ok.ensures.any_moment

pub returns-in_ok-add-in-Ok-clause-any_moment : goal.returns-in_ok-add-in-Ok-clause-any_moment
returns-in_ok-add-in-Ok-clause-any_moment g c =
    let journal = c.args.journal.now in
    subst (λ (payload : List ℕ). Leaves (g.D.Disk.moments c.args.disk.now)
    (g.D.Disk.moments c.add.new.disk)
    (λ d image. (payloads : List (List ℕ)) → StandsAs journal payloads d
    → HoldsWithOrWithout journal payloads payload image))
    c.in-Ok.ensures.payload c.in_ok-add-in-Ok.ensures.any_moment
