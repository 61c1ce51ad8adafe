use Rattle.std.proofs.Common.{◌∙◌, ◌≡◌, refl, ap, map, true, List, [], ◌∷◌, ◌++◌}
use Rattle.tier_outside.specs.Moments.{told}
use Rattle.store_face.specs.Views.{CrashMaps, alone}
use Rattle.log_image.specs.Standing.{ends_at}
use Rattle.log_store.specs.Inner.{crash_of, held, last}
use Rattle.log_store.proofs.Commits.{sound}
use Rattle.log_store.proofs.Reopens.{whole_opened}
use Rattle.log_store.proofs.store.LogStore.attach.Goals as goal

pub invariant_of-result : goal.invariant_of-result
invariant_of-result g c =
    let d = held c.in-Ok-open.journal c.in-Ok-open.pool.table in
    let only : map crash_of c.settle.new.past.items ≡ alone d ∷ [] =
    c.settle.ensures ∙ ap (λ xs. map crash_of xs ++ alone d ∷ []) c.in-Ok.ensures.items in
    whole_opened c.args.role c.args.pair c.args.room c.in-Ok-open.journal c.in-Ok-open.pool (g.D.Disk.moments c.open.new.disk) (map crash_of c.settle.new.past.items)
    c.in-Ok-open.ensures.journal c.requires.room_most c.in-Ok-open.ensures.rested c.in-Ok-open.ensures.stands (ap last only)

pub returns-in-Ok-open-clause-opened : goal.returns-in-Ok-open-clause-opened
returns-in-Ok-open-clause-opened g c =
    let d = held c.in-Ok-open.journal c.in-Ok-open.pool.table in
    let only : map crash_of c.settle.new.past.items ≡ alone d ∷ [] =
    c.settle.ensures ∙ ap (λ xs. map crash_of xs ++ alone d ∷ []) c.in-Ok.ensures.items in
    record {
      live = refl;
      role_is = refl;
      pair_is = refl;
      room_is = refl;
      table = c.in-Ok-open.pool.table;
      told_is = ap (λ (ss : List CrashMaps). told (g.D.Disk.moments c.open.new.disk) ss) only;
      from = c.in-Ok-open.ensures.opened;
    }

pub returns-in-Ok-open-clause-sound : goal.returns-in-Ok-open-clause-sound
returns-in-Ok-open-clause-sound g c =
    sound c.args.role c.args.pair (ends_at c.args.room c.in-Ok-open.journal) c.in-Ok-open.pool true (g.D.Disk.moments c.open.new.disk) (map crash_of c.settle.new.past.items)
    (g.D.Disk.faults c.open.new.disk) c.args.room (invariant_of-result g c)
