-- What the lines say, within the limits, is a script or its fault.
use Rattle.std.proofs.Common.{◌≤◌, length, arith}
use Rattle.std.proofs.lemmas.Result.{MatchResult-weaker}
use Rattle.std.proofs.lemmas.Bool.Decides.{nat_tests}
use Rattle.script_lang.specs.Scripts.{lines_of}
use Rattle.script_lang.proofs.Steps.{script_from_outcome, explains_shown}
use Rattle.script_lang.proofs.read.read_script.Goals as goal

pub returns : goal.returns
returns c =
    let short : length c.args.bytes.now ≤ 268435456 = omega arith in
    let few : length (lines_of c.args.bytes.now) ≤ 1000000 = grind (arith, nat_tests) in
    MatchResult-weaker c.read_lines.result c.read_lines.ensures
    (λ lines h. script_from_outcome c.args.bytes.now lines.items short few h)
    (λ fault h. explains_shown c.args.bytes.now fault short few h)
