use Rattle.gate_journal.proofs.Steps.{put_leaves, put_done}
use Rattle.gate_journal.proofs.step.put.Goals as goal

pub returns-clause-any_moment : goal.returns-clause-any_moment
returns-clause-any_moment g c =
    put_leaves _ _ _ _ _ c.in_ok-write_at.ensures.step c.in_ok-write_at.ensures.image
    c.in_ok-sync.ensures.step

pub returns-clause-done : goal.returns-clause-done
returns-clause-done g c =
    put_done _ _ _ _ _ c.in_ok-write_at.ensures.step c.in_ok-write_at.ensures.done
    c.in_ok-write_at.ensures.image c.in_ok-sync.ensures.step c.in_ok-sync.ensures.done
