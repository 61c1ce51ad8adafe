-- At the end nothing is left.
use Rattle.std.proofs.Common.{◌≡◌, length, arith}
use Rattle.std.proofs.lemmas.Bool.Decides.{nat_tests}
use Rattle.script_lang.proofs.Steps.{gone_all}
use Rattle.script_lang.proofs.read.read_lines.Goals as goal

pub returns : goal.returns
returns c =
    let none : length c.loop-rest.rest.now ≡ 0 = grind (arith, nat_tests) in
    gone_all c.loop-rest.lines.items c.loop-rest.context c.loop-rest.number c.loop-rest.rest.now
    c.args.text.now c.loop-rest.invariant none
