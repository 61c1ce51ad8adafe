use Rattle.std.proofs.Common.{◌∙◌, ◌+◌, ◌-◌, length, [], ◌∷◌, arith}
use Rattle.gate_journal.proofs.Calls.{close_closed, close_open, close_outside, start_closed}
use Rattle.gate_journal.proofs.Calls.{start_open, start_outside, start_written, start_stands}
use Rattle.gate_journal.proofs.Calls.{some_stands}
use Rattle.gate_journal.proofs.adding.start.Goals as goal

pub returns-in_err-close_gate-clause-closed_before :
    goal.returns-in_err-close_gate-clause-closed_before
returns-in_err-close_gate-clause-closed_before g c =
    close_closed c.args.at c.args.end c.args.first.now _ _ c.in_err-close_gate.ensures.any_moment

pub returns-in_err-close_gate-clause-open_before : goal.returns-in_err-close_gate-clause-open_before
returns-in_err-close_gate-clause-open_before g c =
    close_open c.args.at c.args.end c.args.first.now _ _ c.in_err-close_gate.ensures.any_moment

pub returns-in_err-close_gate-clause-outside : goal.returns-in_err-close_gate-clause-outside
returns-in_err-close_gate-clause-outside g c =
    close_outside c.args.at c.args.first.now _ _ c.in_err-close_gate.ensures.any_moment

pub returns-in_err-add_record-clause-closed_before :
    goal.returns-in_err-add_record-clause-closed_before
returns-in_err-add_record-clause-closed_before g c =
    start_closed c.args.at c.args.end c.args.first.now c.as_slice.result.now _ _ _
    (c.as_slice.ensures.value ∙ c.in_ok-body.ensures) c.requires.size
    (omega arith) c.in_ok-close_gate.ensures.any_moment
    c.in_ok-close_gate.ensures.done c.in_err-add_record.ensures.any_moment

pub returns-in_err-add_record-clause-open_before : goal.returns-in_err-add_record-clause-open_before
returns-in_err-add_record-clause-open_before g c =
    start_open c.args.at c.args.end c.args.first.now c.as_slice.result.now _ _ _
    (c.as_slice.ensures.value ∙ c.in_ok-body.ensures) c.requires.size
    (omega arith) c.in_ok-close_gate.ensures.any_moment
    c.in_ok-close_gate.ensures.done c.in_err-add_record.ensures.any_moment

pub returns-in_err-add_record-clause-outside : goal.returns-in_err-add_record-clause-outside
returns-in_err-add_record-clause-outside g c =
    start_outside c.args.at c.args.first.now c.as_slice.result.now _ _ _
    (c.as_slice.ensures.value ∙ c.in_ok-body.ensures) c.in_ok-close_gate.ensures.any_moment
    c.in_ok-close_gate.ensures.done c.in_err-add_record.ensures.any_moment

pub returns-clause-closed_before :
    goal.returns-clause-closed_before
returns-clause-closed_before g c =
    start_closed c.args.at c.args.end c.args.first.now c.as_slice.result.now _ _ _
    (c.as_slice.ensures.value ∙ c.in_ok-body.ensures) c.requires.size
    (omega arith) c.in_ok-close_gate.ensures.any_moment
    c.in_ok-close_gate.ensures.done c.in_ok-add_record.ensures.any_moment

pub returns-clause-open_before : goal.returns-clause-open_before
returns-clause-open_before g c =
    start_open c.args.at c.args.end c.args.first.now c.as_slice.result.now _ _ _
    (c.as_slice.ensures.value ∙ c.in_ok-body.ensures) c.requires.size
    (omega arith) c.in_ok-close_gate.ensures.any_moment
    c.in_ok-close_gate.ensures.done c.in_ok-add_record.ensures.any_moment

pub returns-clause-outside : goal.returns-clause-outside
returns-clause-outside g c =
    start_outside c.args.at c.args.first.now c.as_slice.result.now _ _ _
    (c.as_slice.ensures.value ∙ c.in_ok-body.ensures) c.in_ok-close_gate.ensures.any_moment
    c.in_ok-close_gate.ensures.done c.in_ok-add_record.ensures.any_moment

pub returns-clause-written : goal.returns-clause-written
returns-clause-written g c =
    start_written c.args.at c.args.first.now c.as_slice.result.now _ _ _
    (c.as_slice.ensures.value ∙ c.in_ok-body.ensures) c.in_ok-close_gate.ensures.any_moment
    c.in_ok-close_gate.ensures.done
    c.in_ok-add_record.ensures.done

pub returns-clause-stands : goal.returns-clause-stands
returns-clause-stands g c =
    start_stands c.args.at _ c.args.end c.args.first.now c.as_slice.result.now _ _
    (c.as_slice.ensures.value ∙ c.in_ok-body.ensures) c.requires.size (omega arith)
    c.in_ok-add_record.ensures.any_moment c.in_ok-add_record.ensures.done

pub returns-clause-standing : goal.returns-clause-standing
returns-clause-standing g c =
    some_stands _ (c.args.first.now ∷ []) _
    (start_stands c.args.at (c.args.at + (length c.args.first.now + 6) - 1) c.args.end
    c.args.first.now c.as_slice.result.now _ _
    (c.as_slice.ensures.value ∙ c.in_ok-body.ensures) c.requires.size (omega arith)
    c.in_ok-add_record.ensures.any_moment c.in_ok-add_record.ensures.done)
