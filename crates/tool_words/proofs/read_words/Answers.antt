use Rattle.std.proofs.Common.{◌∙◌, Some, None, ap, map, string_bytes, sym}
use Rattle.tool_words.specs.declared.Invocation.{Invocation}
use Rattle.tool_words.proofs.Reading.{assembled, invoked, job_read}
use Rattle.tool_words.proofs.read_words.Goals as goal

pub returns-in-Some-clause-taken : goal.returns-in-Some-clause-taken
returns-in-Some-clause-taken c =
    let words = map string_bytes c.args.words.now in
    let m = c.in-Ok.matches in
    let r = c.in-Ok.ensures.taken in
    invoked words r.taken (Some c.in-Some.job) (job_read words m r ∙ sym c.in-Some.ensures)
    ∙ ap (λ (i : Invocation). Some i) (assembled words m r c.in-Some.job c.flag.result c.flag-in-Some.result
    c.flag-in-Some-2.result c.count.result c.start.result (c.flag.ensures r.paths) (c.flag-in-Some.ensures r.history)
    (c.flag-in-Some-2.ensures r.summary) (c.count.ensures.value r.count) (c.start.ensures r.start))

pub returns-clause-refused : goal.returns-clause-refused
returns-clause-refused c told =
    let words = map string_bytes c.args.words.now in
    let r = c.in-Ok.ensures.taken in
    invoked words r.taken None (job_read words c.in-Ok.matches r ∙ sym c.in-None.ensures)
