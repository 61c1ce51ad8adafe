use Rattle.std.proofs.Common.{◌≡◌, drop}
use Rattle.script_lang.specs.Verbs.{line_verb_among}
use Rattle.script_lang.proofs.verbs.line_verb_among.Given as goal

-- the verb is among those that are left
abbrev pub invariant-loop-verb : goal.invariant-loop-verb
invariant-loop-verb l =
    line_verb_among (drop l.verb-index l.verbs) l.word ≡ line_verb_among l.fn.verbs l.word
