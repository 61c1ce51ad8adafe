use Rattle.std.proofs.Common.{arith, refl}
use Rattle.gate_journal.proofs.Heads.{open_head, cut_head}
use Rattle.gate_journal.proofs.record.read_head.Goals as goal

pub returns-then-limit-gate-2-clause-read : goal.returns-then-limit-gate-2-clause-read
returns-then-limit-gate-2-clause-read g c =
    cut_head c.args.gate c.args.limit c.in_ok-count.count 4 c.read_u32-size.result _ _ _ refl
    (omega arith) c.requires.there c.in_ok-count.ensures.bytes
    c.if-head-ne-OPEN.false c.read_u32-size.ensures (omega arith) (omega arith)

pub returns-clause-read : goal.returns-clause-read
returns-clause-read g c =
    open_head c.args.gate c.args.limit c.in_ok-count.count 4 c.read_u32-size.result _ _ _ refl
    (omega arith) c.requires.there c.in_ok-count.ensures.bytes
    c.if-head-ne-OPEN.false c.read_u32-size.ensures (omega arith)
