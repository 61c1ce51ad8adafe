use Rattle.std.proofs.Common.{subst, sym}
use Rattle.tier_view.specs.Views.{GroupView}
use Rattle.tier_core.specs.Founds.{Attaches}
use Rattle.tier_core.proofs.Founded.{attached, may_found}
use Rattle.tier_core.proofs.group.Group.attach.Goals as goal

pub found-requires : goal.found-requires
found-requires g c =
    let h = c.in-Ok.ensures.told in
    may_found (g.P.Store.state c.args.cache) (g.P.Store.state c.args.base) (g.P.Store.state c.survey.new.cache) (g.P.Store.state c.survey.new.base) c.in-Ok-attach.base c.in-Ok.told c.args.setup
    h.0.cache_stays h.0.base_stays c.in-Ok-attach.ensures.attached c.in-Ok-attach.ensures.sound c.survey.ensures.cache_sound c.requires.cache_live c.requires.base_live h.1 h.2

pub returns-in-Ok-attach-clause-attached : goal.returns-in-Ok-attach-clause-attached
returns-in-Ok-attach-clause-attached g c =
    let h = c.in-Ok.ensures.told in
    subst (λ (v : GroupView). Attaches (g.P.Store.state c.args.cache) (g.P.Store.state c.args.base) c.args.setup v) (sym c.found.ensures)
    (attached (g.P.Store.state c.args.cache) (g.P.Store.state c.args.base) (g.P.Store.state c.survey.new.cache) (g.P.Store.state c.survey.new.base) c.in-Ok-attach.base c.in-Ok.told c.args.setup
    h.0.cache_stays h.0.base_stays c.in-Ok-attach.ensures.attached c.in-Ok-attach.ensures.sound c.survey.ensures.cache_sound c.requires.cache_live c.requires.base_live h.1 h.2)
