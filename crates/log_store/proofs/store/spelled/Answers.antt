use Rattle.log_store.proofs.Spelled.{spelled_behind}
use Rattle.log_store.proofs.store.spelled.Goals as goal

pub returns-clause-spelled : goal.returns-clause-spelled
returns-clause-spelled c =
    spelled_behind c.in_ok-buffer.buffer.items _ c.args.changes.now c.requires
    c.in_ok-buffer.ensures c.in_ok-put_txn.ensures
