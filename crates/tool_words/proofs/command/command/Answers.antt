use Rattle.std.proofs.Common.{rules, ap₂, codes, ◌≡◌, ◌∙◌}
use Rattle.std.proofs.lemmas.Result.{IfOk-weaker}
use Rattle.clap.specs.Words.{app_of, with_rule}
use Rattle.tool_words.specs.Words.{named}
use Rattle.tool_words.proofs.command.command.Goals as goal

pub returns : goal.returns
returns c =
    let base : app_of c.no_binary_name.result ≡ named (codes "rados_tier") = search rules in
    let one = c.in_ok-arg.ensures.shape c.job.ensures.local ∙ ap₂ with_rule base c.job.ensures.rule in
    let two = c.in_ok-arg-2.ensures.shape c.flag.ensures.local ∙ ap₂ with_rule one c.flag.ensures.rule in
    let three = c.in_ok-arg-3.ensures.shape c.flag-2.ensures.local
    ∙ ap₂ with_rule two c.flag-2.ensures.rule in
    let four = c.in_ok-arg-4.ensures.shape c.flag-3.ensures.local
    ∙ ap₂ with_rule three c.flag-3.ensures.rule in
    let five = c.in_ok-arg-5.ensures.shape c.number.ensures.local
    ∙ ap₂ with_rule four c.number.ensures.rule in
    IfOk-weaker c.arg-6.result _ _
    (λ r h. h.shape c.number-2.ensures.local ∙ ap₂ with_rule five c.number-2.ensures.rule)
    c.arg-6.ensures
