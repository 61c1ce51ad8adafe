use Rattle.std.proofs.Common.{Option, subst, sym}
use Rattle.tier_chron.specs.declared.entries.Logged.{Logged}
use Rattle.tier_core.specs.Lacks.{LacksParts}
use Rattle.tier_core.proofs.Lacked.{lacks_parts}
use Rattle.tier_core.proofs.lacks.lack.Goals as goal

pub returns-in-Some-clause-parts : goal.returns-in-Some-clause-parts
returns-in-Some-clause-parts c =
    let e = c.end_parts.ensures in
    subst (λ (o : Option Logged). LacksParts o c.args.number c.args.history.now.log c.end_parts.new.history.log c.args.calls.now c.end_parts.new.calls c.args.wires.now c.end_parts.new.wires)
    (sym c.in-Some.is)
    (lacks_parts c.in-Some.logged c.args.number c.args.history.now.log c.end_parts.new.history.log c.args.calls.now c.end_parts.new.calls c.args.wires.now c.forget_reply.new.self c.end_parts.new.wires
    c.end_parts.result c.forget_reply.ensures e.log e.goes e.reads e.left e.calls e.wires)
