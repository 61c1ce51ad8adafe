use Rattle.std.proofs.Common.{◌∙◌, ◌≡◌, ◌+◌, ap, map, true, [], ◌∷◌, ◌++◌}
use Rattle.tier_outside.proofs.Moments.{last_push}
use Rattle.pool_map.specs.Pools.{PoolView}
use Rattle.store_face.specs.Views.{alone, no_map}
use Rattle.log_store.specs.Inner.{crash_of, held, last}
use Rattle.log_store.specs.Views.{store_of}
use Rattle.log_store.proofs.Commits.{sound}
use Rattle.log_store.proofs.Reopens.{not_reopened, reopened, reopened_read, whole_opened, whole_stopped}
use Rattle.log_store.proofs.store.LogStoreStore.reopen.Goals as goal

pub invariant_of-self-in-Err : goal.invariant_of-self-in-Err
invariant_of-self-in-Err g c =
    let s = c.self.inside in
    whole_stopped s.role s.pair s.journal c.new.result (g.D.Disk.moments s.disk) (g.D.Disk.moments c.reread.new.disk) (map crash_of s.past.items) (map crash_of c.reserve.new.self.items)
    c.self.invariant.journal_is (ap (λ (p : PoolView). p.ready) c.new.ensures) c.self.invariant.holds c.in-Err.ensures.stops (ap (map crash_of) c.reserve.ensures.items)

pub returns-in-Err-clause-reopened : goal.returns-in-Err-clause-reopened
returns-in-Err-clause-reopened g c =
    let s = c.self.inside in
    not_reopened (store_of c.args.self.now) c.in-Err.fault s.role s.pair (g.D.Disk.moments s.disk) (g.D.Disk.moments c.reread.new.disk) (map crash_of s.past.items)
    (map crash_of c.reserve.new.self.items) s.live (g.D.Disk.faults s.disk) (g.D.Disk.faults c.reread.new.disk) s.journal.end (s.journal.next + 1) (ap store_of c.self.view_is) c.in-Err.ensures.stops
    (ap (map crash_of) c.reserve.ensures.items) c.self.invariant.holds c.in-Err.ensures.refused c.in-Err.ensures.later

pub invariant_of-self-in-Ok : goal.invariant_of-self-in-Ok
invariant_of-self-in-Ok g c =
    let s = c.self.inside in
    let past = map crash_of c.settle.new.past.items in
    let now : last past ≡ alone (held c.in-Ok.journal c.in-Ok.pool.table) =
    ap last c.settle.ensures ∙ last_push no_map (map crash_of c.reserve.new.self.items) (alone (held c.in-Ok.journal c.in-Ok.pool.table)) in
    whole_opened s.role s.pair s.journal.end c.in-Ok.journal c.in-Ok.pool (g.D.Disk.moments c.reread.new.disk) past
    c.in-Ok.ensures.journal c.self.invariant.journal_is.end_most c.in-Ok.ensures.rested c.in-Ok.ensures.stands now

pub returns-in-Ok-clause-reopened : goal.returns-in-Ok-clause-reopened
returns-in-Ok-clause-reopened g c =
    let s = c.self.inside in
    let d = held c.in-Ok.journal c.in-Ok.pool.table in
    let pushed : map crash_of c.settle.new.past.items ≡ map crash_of s.past.items ++ alone d ∷ [] =
    c.settle.ensures ∙ ap (λ xs. map crash_of xs ++ alone d ∷ []) c.reserve.ensures.items in
    reopened (store_of c.args.self.now) s.role s.pair (g.D.Disk.moments s.disk) (g.D.Disk.moments c.reread.new.disk) (map crash_of s.past.items)
    (map crash_of c.settle.new.past.items) d s.live (g.D.Disk.faults s.disk) (g.D.Disk.faults c.reread.new.disk) s.journal.end (s.journal.next + 1) (c.in-Ok.journal.next + 1) (ap store_of c.self.view_is)
    c.in-Ok.ensures.stops pushed c.self.invariant.holds c.in-Ok.ensures.read c.in-Ok.ensures.later

pub returns-in-Ok-clause-read : goal.returns-in-Ok-clause-read
returns-in-Ok-clause-read g c =
    let s = c.self.inside in
    let d = held c.in-Ok.journal c.in-Ok.pool.table in
    let pushed : map crash_of c.settle.new.past.items ≡ map crash_of s.past.items ++ alone d ∷ [] =
    c.settle.ensures ∙ ap (λ xs. map crash_of xs ++ alone d ∷ []) c.reserve.ensures.items in
    reopened_read c.args.self.now (g.D.Disk.moments s.disk) (g.D.Disk.moments c.reread.new.disk) (g.D.Disk.faults s.disk) s.live s.role s.pair s.journal.end
    (s.journal.next + 1) (map crash_of s.past.items) (map crash_of c.settle.new.past.items) d c.self.view_is pushed c.in-Ok.ensures.read

pub returns-in-Ok-clause-sound : goal.returns-in-Ok-clause-sound
returns-in-Ok-clause-sound g c =
    sound _ _ _ _ true (g.D.Disk.moments c.reread.new.disk) (map crash_of c.settle.new.past.items)
    (g.D.Disk.faults c.reread.new.disk) c.self.inside.journal.end (invariant_of-self-in-Ok g c)
