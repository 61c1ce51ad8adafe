use Rattle.tier_tool.proofs.Bases.{put_lawful}
use Rattle.tier_tool.proofs.Pools.{put_failed, failed_uses}
use Rattle.tier_tool.proofs.base.put_state.Goals as goal

pub commit-requires-clause-lawful : goal.commit-requires-clause-lawful
commit-requires-clause-lawful g c =
    rw c.in_ok-one_change.ensures (put_lawful c.args.name.now c.in_ok-key.key
    c.from_vec-value.result c.in_ok-write_state.field-0.items c.args.state.now
    c.key_of.ensures.lawful c.in_ok-key.ensures.key c.from_vec-value.ensures
    c.in_ok-write_state.ensures.spelled)

pub returns-in-Err-clause-put : goal.returns-in-Err-clause-put
returns-in-Err-clause-put g c =
    rw c.line_fault.ensures (put_failed c.args.name.now c.in_ok-key.key c.from_vec-value.result
    c.in_ok-write_state.field-0.items _ c.args.state.now c.args.pool.now c.commit.new.self
    c.in-Err.fault c.in_ok-one_change.ensures c.in_ok-key.ensures.key c.from_vec-value.ensures
    c.in_ok-write_state.ensures.spelled c.requires.sound c.requires.live
    c.in-Err.ensures.committed)

pub returns-in-Err-clause-uses : goal.returns-in-Err-clause-uses
returns-in-Err-clause-uses g c =
    rw c.line_fault.ensures (failed_uses c.args.name.now c.in_ok-key.key c.from_vec-value.result
    c.in_ok-write_state.field-0.items _ c.args.state.now c.args.pool.now c.commit.new.self
    c.in-Err.fault c.in_ok-one_change.ensures c.in_ok-key.ensures.key c.from_vec-value.ensures
    c.in_ok-write_state.ensures.spelled c.in-Err.ensures.committed c.in-Err.ensures.refused)
