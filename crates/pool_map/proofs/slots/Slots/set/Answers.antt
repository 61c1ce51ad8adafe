use Rattle.std.proofs.Common.{sym, ◌∙◌, ap, ◌≡◌, None, rules}
use Rattle.std.specs.FinMap as fin
use Rattle.pool_map.proofs.Rows.{put_rows, get_rows}
use Rattle.pool_map.proofs.slots.Slots.set.Goals as goal

pub returns-clause-put : goal.returns-clause-put
returns-clause-put c =
    let u = c.in_ok-insert.ensures.updates in
    put_rows (λ k. k.items) c.args.key.items c.args.slot c.self.inside.inner.entries c.insert.new.self.entries u.1 u.3 ∙ ap (λ m. fin.insert m c.args.key.items c.args.slot) c.self.view_is

pub returns-in_err-insert-clause-absent : goal.returns-in_err-insert-clause-absent
returns-in_err-insert-clause-absent c =
    let h : fin.get c.args.self.now c.args.key.items ≡ None =
    sym (ap (λ m. fin.get m c.args.key.items) c.self.view_is) ∙ sym (get_rows (λ k. k.items) c.args.key.items c.self.inside.inner.entries) ∙ c.in_err-insert.ensures.absent in
    search (rules, h)
