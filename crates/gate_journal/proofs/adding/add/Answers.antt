use Rattle.std.proofs.Common.{arith, ap, length}
use Rattle.gate_journal.proofs.Records.{length_behind}
use Rattle.gate_journal.proofs.Calls.{append_moments, append_outside, append_written, append_stands}
use Rattle.gate_journal.proofs.Calls.{append_standing}
use Rattle.gate_journal.proofs.adding.add.Goals as goal

pub returns-in_err-add_record-clause-any_moment : goal.returns-in_err-add_record-clause-any_moment
returns-in_err-add_record-clause-any_moment g c =
    append_moments c.args.journal.now c.args.more c.bytes-body.result.now _ _ c.bytes-body.ensures
    c.requires.size (omega arith) c.in_err-add_record.ensures.any_moment

pub returns-in_err-add_record-clause-outside : goal.returns-in_err-add_record-clause-outside
returns-in_err-add_record-clause-outside g c =
    append_outside c.args.journal.now.next c.args.more c.bytes-body.result.now _ _
    c.bytes-body.ensures c.in_err-add_record.ensures.any_moment

pub returns-clause-any_moment : goal.returns-clause-any_moment
returns-clause-any_moment g c =
    append_moments c.args.journal.now c.args.more c.bytes-body.result.now _ _ c.bytes-body.ensures
    c.requires.size (omega arith) c.in_ok-add_record.ensures.any_moment

pub returns-clause-outside : goal.returns-clause-outside
returns-clause-outside g c =
    append_outside c.args.journal.now.next c.args.more c.bytes-body.result.now _ _
    c.bytes-body.ensures c.in_ok-add_record.ensures.any_moment

pub returns-clause-written : goal.returns-clause-written
returns-clause-written g c =
    append_written c.args.journal.now.next c.args.more c.bytes-body.result.now _ _
    c.bytes-body.ensures c.in_ok-add_record.ensures.done

pub returns-clause-stands : goal.returns-clause-stands
returns-clause-stands g c =
    append_stands c.args.journal.now _ c.args.more c.bytes-body.result.now _ _ c.bytes-body.ensures
    c.requires.size (omega (arith, ap length c.bytes-body.ensures, length_behind c.args.more))
    c.in_ok-add_record.ensures.done

pub returns-clause-standing : goal.returns-clause-standing
returns-clause-standing g c =
    append_standing c.args.journal.now _ c.args.more _ _ _ c.requires.standing
    c.in_ok-add_record.ensures.any_moment
    (append_stands c.args.journal.now _ c.args.more c.bytes-body.result.now _ _ c.bytes-body.ensures
    c.requires.size (omega (arith, ap length c.bytes-body.ensures, length_behind c.args.more))
    c.in_ok-add_record.ensures.done)
