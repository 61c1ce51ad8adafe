use Rattle.gate_journal.proofs.Steps.{add_first, add_both, add_done}
use Rattle.gate_journal.proofs.step.add_record.Goals as goal

pub returns-in_err-put-clause-any_moment : goal.returns-in_err-put-clause-any_moment
returns-in_err-put-clause-any_moment g c = add_first _ _ _ _ c.in_err-put.ensures.any_moment

pub returns-in_err-put-2-clause-any_moment : goal.returns-in_err-put-2-clause-any_moment
returns-in_err-put-2-clause-any_moment g c =
    add_both _ _ _ _ _ c.in_ok-put.ensures.any_moment c.in_ok-put.ensures.done
    c.in_err-put-2.ensures.any_moment

pub returns-clause-any_moment : goal.returns-clause-any_moment
returns-clause-any_moment g c =
    add_both _ _ _ _ _ c.in_ok-put.ensures.any_moment c.in_ok-put.ensures.done
    c.in_ok-put-2.ensures.any_moment

pub returns-clause-done : goal.returns-clause-done
returns-clause-done g c =
    add_done _ _ _ _ _ c.in_ok-put.ensures.done c.in_ok-put.ensures.any_moment
    c.in_ok-put-2.ensures.done
