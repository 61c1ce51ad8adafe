use Rattle.std.proofs.Common.{◌≡◌, ◌++◌, take}
use Rattle.std.specs.List.{flat_map}
use Rattle.script_lang.specs.Printing.{next_op_text}
use Rattle.script_lang.proofs.print_ops.put_ops.Given as goal

-- the sub-operations so far stand behind the others
abbrev pub invariant-loop-op : goal.invariant-loop-op
invariant-loop-op l = l.text ≡ l.initial.text ++ flat_map next_op_text (take l.op-index l.others)
