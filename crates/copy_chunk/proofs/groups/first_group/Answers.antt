use Rattle.std.proofs.Common.{◌-◌, arith}
use Rattle.std.specs.Option.{option_copied}
use Rattle.obj_model.specs.Tables.{entries_above}
use Rattle.copy_chunk.specs.Cuts.{first_group}
use Rattle.copy_chunk.proofs.Grouping.{goes_on, ends_at, ends}
use Rattle.copy_chunk.proofs.groups.first_group.Goals as goal

pub returns-then-bytes-room : goal.returns-then-bytes-room
returns-then-bytes-room c =
    ends_at c.loop-key.pairs.items c.from_vec.result c.loop-key.last.now c.in_ok-copy.field-0
    c.loop-key.room (c.in-Some-2.key.now, c.in-Some-2.value.now) c.loop-key.key-iterator
    c.next-in-loop-key.new.self (first_group
    (entries_above (option_copied c.args.after) c.args.table.now))
    c.loop-key.invariant c.in-Some-2.ensures.steps
    (omega (arith, c.if-bytes-room.true, c.weight-bytes.ensures)) c.from_vec.ensures
    c.in_ok-copy.ensures

pub loop-key-preserved : goal.loop-key-preserved
loop-key-preserved c =
    goes_on c.loop-key.pairs.items c.push_pair-in-loop-key.new.pairs.items c.loop-key.last.now
    c.loop-key.room (c.loop-key.room - c.weight-bytes.result)
    (c.in-Some-2.key.now, c.in-Some-2.value.now) c.loop-key.key-iterator c.next-in-loop-key.new.self
    (first_group (entries_above (option_copied c.args.after) c.args.table.now))
    c.loop-key.invariant c.in-Some-2.ensures.steps c.in_ok-push_pair-2.ensures
    (omega (arith, c.if-bytes-room.false, c.weight-bytes.ensures))
    (omega (arith, c.weight-bytes.ensures))

pub returns : goal.returns
returns c =
    ends c.loop-key.pairs.items c.from_vec-2.result c.loop-key.last.now c.loop-key.room
    c.loop-key.key-iterator (first_group
    (entries_above (option_copied c.args.after) c.args.table.now))
    c.loop-key.invariant c.in-None.ensures.steps.0 c.from_vec-2.ensures
