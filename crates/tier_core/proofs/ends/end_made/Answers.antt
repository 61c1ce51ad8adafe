use Rattle.tier_core.specs.Ends.{EndsParts}
use Rattle.tier_core.proofs.EndedCalls.{on_ok}
use Rattle.tier_core.proofs.ends.end_made.Goals as goal

pub returns-in-Ok-clause-ended : goal.returns-in-Ok-clause-ended
returns-in-Ok-clause-ended c =
    let e = c.end_parts.ensures in
    let parts : EndsParts c.args.logged c.args.history.now.log c.end_parts.new.history.log c.args.calls.now c.end_parts.new.calls c.args.wires.now c.end_parts.new.wires = record {
      dropped = c.end_parts.result;
      logged = e.log;
      goes = e.goes;
      reads = e.reads;
      left = e.left;
      calls = e.calls;
      wires = e.wires;
    } in
    on_ok c.args.made (EndsParts c.args.logged c.args.history.now.log c.end_parts.new.history.log c.args.calls.now c.end_parts.new.calls c.args.wires.now c.end_parts.new.wires) parts
