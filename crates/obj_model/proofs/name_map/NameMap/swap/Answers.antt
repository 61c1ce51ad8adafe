use Rattle.std.proofs.Common.{sym, ◌∙◌, ap, subst, Some, refl, rules}
use Rattle.std.specs.FinMap as map
use Rattle.obj_model.proofs.NameMaps.{get_key, one_put}
use Rattle.obj_model.proofs.name_map.NameMap.swap.Goals as goal

pub returns-in_default-clause-absent : goal.returns-in_default-clause-absent
returns-in_default-clause-absent g c = (
  refl,
  sym (c.in_default.ensures.value ∙ sym (get_key c.self.inside.inner.entries c.args.name.now)
      ∙ ap (λ m. map.get m c.args.name.now) c.self.view_is),
)

pub returns-clause-before : goal.returns-clause-before
returns-clause-before g c =
    sym (c.in-Some.ensures.value ∙ sym (get_key c.self.inside.inner.entries c.args.name.now)
    ∙ ap (λ m. map.get m c.args.name.now) c.self.view_is)
    ∙ ap Some (sym c.replace.ensures.value)

pub returns-clause-put : goal.returns-clause-put
returns-clause-put g c =
    one_put
    c.self.inside.inner.entries
    (c.get_mut.follows.lender c.replace.new.dest).entries
    c.args.name.now
    c.replace.new.dest
    ((c.get_mut.follows.holds c.replace.new.dest).3 (search rules)).0
    ∙ ap (λ m. map.insert m c.args.name.now c.replace.new.dest) c.self.view_is
    ∙ ap (λ v. map.insert c.args.self.now c.args.name.now v) c.replace.ensures.after
