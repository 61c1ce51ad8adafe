use Rattle.std.proofs.Common.{◌≡◌, ◌++◌, take}
use Rattle.std.specs.List.{flat_map}
use Rattle.report_text.specs.Lines.{next_told_text}
use Rattle.report_text.proofs.lines.put_all.Given as goal

-- the texts so far stand behind the others
abbrev pub invariant-loop-next : goal.invariant-loop-next
invariant-loop-next l =
    l.text ≡ l.initial.text ++ flat_map (next_told_text l.paths) (take l.next-index l.others)
