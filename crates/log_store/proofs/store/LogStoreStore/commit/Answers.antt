use Rattle.std.proofs.Common.{Err, drop}
use Rattle.std.proofs.Common.{◌∙◌, ◌≡◌, ◌+◌, ℕ, arith, refl, sym, ap, ap₂, subst, length, map, true, false, List, [], ◌∷◌, ◌++◌}
use Rattle.obj_model.specs.declared.change.Change.{Change}
use Rattle.tier_outside.proofs.Moments.{last_push}
use Rattle.std.proofs.Math.Path.{subst₂}
use Rattle.std.proofs.lemmas.List.{length-drop}
use Rattle.gate_journal.proofs.Steps.{leaves_same}
use Rattle.gate_journal.specs.Calls.{AddEnds}
use Rattle.gate_journal.specs.declared.journal.Journal.{Journal}
use Rattle.rec_codec.specs.Spelling.{SpellsTxn}
use Rattle.pool_map.specs.Pools.{PoolView, at_rest}
use Rattle.store_face.specs.Rooms.{record_size}
use Rattle.store_face.specs.Tables.{Table, changed_by}
use Rattle.store_face.specs.Views.{alone, no_map}
use Rattle.log_image.proofs.Lawful.{payload_size}
use Rattle.log_store.specs.Commits.{with_changes}
use Rattle.log_store.specs.Inner.{crash_of, held, last}
use Rattle.log_store.specs.Views.{LogView, store_of}
use Rattle.log_store.proofs.Commits.{Adds, any_moment, committed, not_committed, pushed_is, refused, sound, sound_as, sound_still, torn, txn_short, whole_after, whole_failed}
use Rattle.log_store.proofs.store.LogStoreStore.commit.Goals as goal

pub returns-in_err-buffer-clause-sound : goal.returns-in_err-buffer-clause-sound
returns-in_err-buffer-clause-sound g c =
    sound_as c.args.self.now _ _ _ _ _ _ _ _ c.self.view_is c.self.invariant

pub of_buffer-requires-clause-size : goal.of_buffer-requires-clause-size
of_buffer-requires-clause-size g c =
    let buffer = c.in_ok-buffer.buffer.items in
    omega (
      arith,
      length-drop 4 buffer,
      txn_short (drop 4 buffer) c.as_slice.result.now c.in_ok-buffer.ensures.spelled,
    )

pub returns-in-Err-clause-committed : goal.returns-in-Err-clause-committed
returns-in-Err-clause-committed g c =
    let s = c.self.inside in
    let cs = c.args.changes.items in
    let payload = drop 4 c.in_ok-buffer.buffer.items in
    let spells : SpellsTxn payload cs =
    subst (SpellsTxn payload) c.as_slice.ensures.value c.in_ok-buffer.ensures.spelled in
    let size : length c.in_ok-buffer.buffer.items + 1 ≡ length payload + 5 =
    omega (
      arith,
      c.in_ok-buffer.ensures.size,
      ap record_size c.as_slice.ensures.value,
      payload_size payload cs spells,
    ) in
    refused (List ℕ) c.args.self.now c.in-Err.fault (g.D.Disk.moments s.disk)
    (g.D.Disk.faults s.disk) s.live s.role s.pair s.journal.end (s.journal.next + 1)
    (map crash_of s.past.items)
    payload cs c.self.view_is spells
    (subst (λ n. AddEnds {T = List ℕ} (s.journal.next + 1) n s.journal.end (Unit {0}) ⊥
    (Err c.in-Err.fault)) size c.in-Err.ensures.answer)

pub returns-in-Err-clause-sound : goal.returns-in-Err-clause-sound
returns-in-Err-clause-sound g c = sound_as c.args.self.now _ _ _ _ _ _ _ _ c.self.view_is c.self.invariant

pub returns-in_err-reserve-in-Ok-clause-sound : goal.returns-in_err-reserve-in-Ok-clause-sound
returns-in_err-reserve-in-Ok-clause-sound g c =
    let s = c.self.inside in
    sound_still s.role s.pair s.journal s.pool s.live (g.D.Disk.moments s.disk) (map crash_of s.past.items) (map crash_of c.reserve.new.self.items)
    (g.D.Disk.faults s.disk) s.journal.end (ap (map crash_of) c.reserve.ensures.items) c.self.invariant

pub returns-in_err-reserve-in-Ok-clause-any_moment : goal.returns-in_err-reserve-in-Ok-clause-any_moment
returns-in_err-reserve-in-Ok-clause-any_moment g c = leaves_same _ _ _ (ap (λ (v : LogView). v.disk) c.self.view_is)

pub returns-in_err-prepare-in-Ok-clause-sound : goal.returns-in_err-prepare-in-Ok-clause-sound
returns-in_err-prepare-in-Ok-clause-sound g c =
    let s = c.self.inside in
    sound_still s.role s.pair s.journal s.pool s.live (g.D.Disk.moments s.disk) (map crash_of s.past.items) (map crash_of c.reserve.new.self.items)
    (g.D.Disk.faults s.disk) s.journal.end (ap (map crash_of) c.reserve.ensures.items) c.self.invariant

pub returns-in_err-prepare-in-Ok-clause-any_moment : goal.returns-in_err-prepare-in-Ok-clause-any_moment
returns-in_err-prepare-in-Ok-clause-any_moment g c = leaves_same _ _ _ (ap (λ (v : LogView). v.disk) c.self.view_is)

pub add-requires-clause-size : goal.add-requires-clause-size
add-requires-clause-size g c =
    txn_short c.in-Ok.more c.args.changes.items
    (subst₂ SpellsTxn (sym c.in-Ok.ensures.payload) c.as_slice.ensures.value
    c.in_ok-buffer.ensures.spelled)

pub invariant_of-self-in-Ok-add : goal.invariant_of-self-in-Ok-add
invariant_of-self-in-Ok-add g c =
    let s = c.self.inside in
    let t = s.pool.table in
    let cs = c.args.changes.items in
    let lives : s.live ≡ true = ap (λ (v : LogView). v.live) c.self.view_is ∙ c.requires.live in
    let spells : SpellsTxn c.in-Ok.more cs =
    subst₂ SpellsTxn (sym c.in-Ok.ensures.payload) c.as_slice.ensures.value
    c.in_ok-buffer.ensures.spelled in
    let size : c.len.result + 1 ≡ record_size cs =
    omega (
      arith,
      c.len.ensures,
      c.in_ok-buffer.ensures.size,
      ap record_size c.as_slice.ensures.value,
    ) in
    let ready : c.prepare.new.self.ready ≡ cs = c.in_ok-prepare-in-Ok.ensures.ready in
    let pushed : map crash_of c.change.new.past.items ≡ map crash_of s.past.items ++ torn cs (held s.journal t) ∷ [] =
    pushed_is (map crash_of s.past.items) (map crash_of c.reserve.new.self.items) (map crash_of c.change.new.past.items) t c.prepare.new.self.table cs c.prepare.new.self.ready _ _
    (ap (map crash_of) c.reserve.ensures.items) c.in_ok-prepare-in-Ok.ensures.same ready (omega (arith, size)) c.change.ensures.past in
    let changes : c.change.new.pool ≡ at_rest (changed_by t cs) =
    c.change.ensures.pool ∙ ap₂ (λ (x : Table) (y : List Change). at_rest (changed_by x y)) c.in_ok-prepare-in-Ok.ensures.same ready in
    let place : s.journal.next + 1 + c.len.result + 1 ≡ c.add.new.journal.next + 1 =
    omega (arith, size, payload_size c.in-Ok.more cs spells, ap (λ (j : Journal). j.next) c.in-Ok-add.ensures.moved) in
    let now : last (map crash_of c.settle.new.past.items) ≡ alone (held c.add.new.journal (changed_by t cs)) =
    ap last c.settle.ensures ∙ last_push no_map (map crash_of c.change.new.past.items) _
    ∙ ap₂ (λ (x : PoolView) (n : ℕ). alone (record { table = x.table; used = n })) changes place in
    whole_after s.role s.pair s.journal c.add.new.journal c.change.new.pool s.live (g.D.Disk.moments s.disk) (g.D.Disk.moments c.add.new.disk)
    (Adds s.journal c.in-Ok.more) (map crash_of c.settle.new.past.items) t c.in-Ok.more cs c.self.invariant.journal_is c.in-Ok-add.ensures.moved
    (omega (arith, c.in-Ok.ensures.answer, size, c.len.ensures, payload_size c.in-Ok.more cs spells)) changes (c.self.invariant.stands lives) spells c.in-Ok-add.ensures.any_moment c.in-Ok-add.ensures.stands now

pub returns-in-Ok-add-clause-committed : goal.returns-in-Ok-add-clause-committed
returns-in-Ok-add-clause-committed g c =
    let s = c.self.inside in
    let t = s.pool.table in
    let cs = c.args.changes.items in
    let lives : s.live ≡ true = ap (λ (v : LogView). v.live) c.self.view_is ∙ c.requires.live in
    let spells : SpellsTxn c.in-Ok.more cs =
    subst₂ SpellsTxn (sym c.in-Ok.ensures.payload) c.as_slice.ensures.value
    c.in_ok-buffer.ensures.spelled in
    let size : c.len.result + 1 ≡ record_size cs =
    omega (
      arith,
      c.len.ensures,
      c.in_ok-buffer.ensures.size,
      ap record_size c.as_slice.ensures.value,
    ) in
    let ready : c.prepare.new.self.ready ≡ cs = c.in_ok-prepare-in-Ok.ensures.ready in
    let pushed : map crash_of c.change.new.past.items ≡ map crash_of s.past.items ++ torn cs (held s.journal t) ∷ [] =
    pushed_is (map crash_of s.past.items) (map crash_of c.reserve.new.self.items) (map crash_of c.change.new.past.items) t c.prepare.new.self.table cs c.prepare.new.self.ready _ _
    (ap (map crash_of) c.reserve.ensures.items) c.in_ok-prepare-in-Ok.ensures.same ready (omega (arith, size)) c.change.ensures.past in
    let changes : c.change.new.pool ≡ at_rest (changed_by t cs) =
    c.change.ensures.pool ∙ ap₂ (λ (x : Table) (y : List Change). at_rest (changed_by x y)) c.in_ok-prepare-in-Ok.ensures.same ready in
    let again : map crash_of c.settle.new.past.items ≡ map crash_of c.change.new.past.items ++ alone (with_changes cs (held s.journal t)) ∷ [] =
    c.settle.ensures ∙ ap₂ (λ (x : PoolView) (n : ℕ). map crash_of c.change.new.past.items ++ alone (record { table = x.table; used = n }) ∷ []) changes (omega (arith, size)) in
    committed (store_of c.args.self.now) (g.D.Disk.moments s.disk) (g.D.Disk.moments c.add.new.disk) (Adds s.journal c.in-Ok.more) (map crash_of s.past.items)
    (map crash_of c.change.new.past.items) (map crash_of c.settle.new.past.items) (held s.journal t) cs s.live s.live (g.D.Disk.faults s.disk) (g.D.Disk.faults c.add.new.disk)
    s.journal.end c.add.new.journal.end (s.journal.next + 1) (c.add.new.journal.next + 1)
    (ap store_of c.self.view_is) c.in-Ok-add.ensures.any_moment (c.self.invariant.one lives) pushed again lives c.in-Ok-add.ensures.cause.later
    (omega (arith, payload_size c.in-Ok.more cs spells, c.in-Ok.ensures.answer, size, c.len.ensures)) (ap (λ (j : Journal). j.end) c.in-Ok-add.ensures.moved)
    (omega (arith, payload_size c.in-Ok.more cs spells, ap (λ (j : Journal). j.next) c.in-Ok-add.ensures.moved))

pub returns-in-Ok-add-clause-sound : goal.returns-in-Ok-add-clause-sound
returns-in-Ok-add-clause-sound g c =
    sound _ _ _ _ c.self.inside.live (g.D.Disk.moments c.add.new.disk) (map crash_of c.settle.new.past.items)
    (g.D.Disk.faults c.add.new.disk) c.add.new.journal.end (invariant_of-self-in-Ok-add g c)

pub returns-in-Ok-add-clause-any_moment : goal.returns-in-Ok-add-clause-any_moment
returns-in-Ok-add-clause-any_moment g c =
    let s = c.self.inside in
    let t = s.pool.table in
    let cs = c.args.changes.items in
    let lives : s.live ≡ true = ap (λ (v : LogView). v.live) c.self.view_is ∙ c.requires.live in
    let spells : SpellsTxn c.in-Ok.more cs =
    subst₂ SpellsTxn (sym c.in-Ok.ensures.payload) c.as_slice.ensures.value
    c.in_ok-buffer.ensures.spelled in
    any_moment c.args.self.now (g.D.Disk.moments s.disk) (g.D.Disk.moments c.add.new.disk) (g.D.Disk.faults s.disk) s.live s.role s.pair s.journal.end s.journal (map crash_of s.past.items) t
    c.in-Ok.more cs c.self.view_is (c.self.invariant.one lives) (c.self.invariant.stands lives) c.self.invariant.journal_is spells c.in-Ok-add.ensures.any_moment

pub invariant_of-self-in-Err-add : goal.invariant_of-self-in-Err-add
invariant_of-self-in-Err-add g c =
    let s = c.self.inside in
    let t = s.pool.table in
    let cs = c.args.changes.items in
    let lives : s.live ≡ true = ap (λ (v : LogView). v.live) c.self.view_is ∙ c.requires.live in
    let spells : SpellsTxn c.in-Ok.more cs =
    subst₂ SpellsTxn (sym c.in-Ok.ensures.payload) c.as_slice.ensures.value
    c.in_ok-buffer.ensures.spelled in
    let size : c.len.result + 1 ≡ record_size cs =
    omega (
      arith,
      c.len.ensures,
      c.in_ok-buffer.ensures.size,
      ap record_size c.as_slice.ensures.value,
    ) in
    let ready : c.prepare.new.self.ready ≡ cs = c.in_ok-prepare-in-Ok.ensures.ready in
    let pushed : map crash_of c.change-in-Err-add.new.past.items ≡ map crash_of s.past.items ++ torn cs (held s.journal t) ∷ [] =
    pushed_is (map crash_of s.past.items) (map crash_of c.reserve.new.self.items) (map crash_of c.change-in-Err-add.new.past.items) t c.prepare.new.self.table cs c.prepare.new.self.ready _ _
    (ap (map crash_of) c.reserve.ensures.items) c.in_ok-prepare-in-Ok.ensures.same ready (omega (arith, size)) c.change-in-Err-add.ensures.past in
    let changes : c.change-in-Err-add.new.pool ≡ at_rest (changed_by t cs) =
    c.change-in-Err-add.ensures.pool ∙ ap₂ (λ (x : Table) (y : List Change). at_rest (changed_by x y)) c.in_ok-prepare-in-Ok.ensures.same ready in
    whole_failed s.role s.pair s.journal c.add.new.journal c.change-in-Err-add.new.pool (g.D.Disk.moments s.disk) (g.D.Disk.moments c.add.new.disk)
    (map crash_of c.change-in-Err-add.new.past.items) t (changed_by t cs) c.in-Ok.more cs c.self.invariant.journal_is c.in-Err-add.ensures.kept
    changes (c.self.invariant.stands lives) spells c.in-Err-add.ensures.any_moment
    (ap last pushed ∙ last_push no_map (map crash_of s.past.items) (torn cs (held s.journal t)))

pub returns-in-Err-add-clause-committed : goal.returns-in-Err-add-clause-committed
returns-in-Err-add-clause-committed g c =
    let s = c.self.inside in
    let t = s.pool.table in
    let cs = c.args.changes.items in
    let lives : s.live ≡ true = ap (λ (v : LogView). v.live) c.self.view_is ∙ c.requires.live in
    let spells : SpellsTxn c.in-Ok.more cs =
    subst₂ SpellsTxn (sym c.in-Ok.ensures.payload) c.as_slice.ensures.value
    c.in_ok-buffer.ensures.spelled in
    let size : c.len.result + 1 ≡ record_size cs =
    omega (
      arith,
      c.len.ensures,
      c.in_ok-buffer.ensures.size,
      ap record_size c.as_slice.ensures.value,
    ) in
    let ready : c.prepare.new.self.ready ≡ cs = c.in_ok-prepare-in-Ok.ensures.ready in
    let pushed : map crash_of c.change-in-Err-add.new.past.items ≡ map crash_of s.past.items ++ torn cs (held s.journal t) ∷ [] =
    pushed_is (map crash_of s.past.items) (map crash_of c.reserve.new.self.items) (map crash_of c.change-in-Err-add.new.past.items) t c.prepare.new.self.table cs c.prepare.new.self.ready _ _
    (ap (map crash_of) c.reserve.ensures.items) c.in_ok-prepare-in-Ok.ensures.same ready (omega (arith, size)) c.change-in-Err-add.ensures.past in
    let changes : c.change-in-Err-add.new.pool ≡ at_rest (changed_by t cs) =
    c.change-in-Err-add.ensures.pool ∙ ap₂ (λ (x : Table) (y : List Change). at_rest (changed_by x y)) c.in_ok-prepare-in-Ok.ensures.same ready in
    not_committed (store_of c.args.self.now) (g.D.Disk.moments s.disk) (g.D.Disk.moments c.add.new.disk) (Adds s.journal c.in-Ok.more) (map crash_of s.past.items)
    (map crash_of c.change-in-Err-add.new.past.items) (held s.journal t) cs s.live false (g.D.Disk.faults s.disk) (g.D.Disk.faults c.add.new.disk)
    s.journal.end c.add.new.journal.end (s.journal.next + 1) (c.add.new.journal.next + 1)
    (ap store_of c.self.view_is) c.in-Err-add.ensures.any_moment (c.self.invariant.one lives) pushed refl c.in-Err-add.ensures.cause.failed c.in-Err-add.ensures.cause.later
    (omega (arith, payload_size c.in-Ok.more cs spells, c.in-Ok.ensures.answer, size, c.len.ensures)) (ap (λ (j : Journal). j.end) c.in-Err-add.ensures.kept)
    (omega (arith, ap (λ (j : Journal). j.next) c.in-Err-add.ensures.kept))

pub returns-in-Err-add-clause-any_moment : goal.returns-in-Err-add-clause-any_moment
returns-in-Err-add-clause-any_moment g c =
    let s = c.self.inside in
    let t = s.pool.table in
    let cs = c.args.changes.items in
    let lives : s.live ≡ true = ap (λ (v : LogView). v.live) c.self.view_is ∙ c.requires.live in
    let spells : SpellsTxn c.in-Ok.more cs =
    subst₂ SpellsTxn (sym c.in-Ok.ensures.payload) c.as_slice.ensures.value
    c.in_ok-buffer.ensures.spelled in
    any_moment c.args.self.now (g.D.Disk.moments s.disk) (g.D.Disk.moments c.add.new.disk) (g.D.Disk.faults s.disk) s.live s.role s.pair s.journal.end s.journal (map crash_of s.past.items) t
    c.in-Ok.more cs c.self.view_is (c.self.invariant.one lives) (c.self.invariant.stands lives) c.self.invariant.journal_is spells c.in-Err-add.ensures.any_moment
