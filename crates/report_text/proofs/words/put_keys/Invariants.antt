use Rattle.std.proofs.Common.{◌≡◌, ◌++◌, take}
use Rattle.std.specs.List.{flat_map}
use Rattle.report_text.specs.Words.{key_text}
use Rattle.report_text.proofs.words.put_keys.Given as goal

-- the texts so far stand behind the others
abbrev pub invariant-loop-key : goal.invariant-loop-key
invariant-loop-key l = l.text ≡ l.fn.text ++ flat_map key_text (take l.key-index l.keys)
