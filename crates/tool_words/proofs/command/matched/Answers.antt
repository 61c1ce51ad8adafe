use Rattle.std.proofs.Common.{map, string_bytes}
use Rattle.tool_words.proofs.Reading.{as_free, reading}
use Rattle.tool_words.proofs.command.matched.Goals as goal

pub returns-in-Ok-try_get_matches_from-clause-taken :
    goal.returns-in-Ok-try_get_matches_from-clause-taken
returns-in-Ok-try_get_matches_from-clause-taken c =
    let call = c.in-Ok-try_get_matches_from in
    reading (map string_bytes c.args.words.now) c.in-Ok.command call.matches c.in-Ok.ensures
    (call.ensures.kinds (as_free c.in-Ok.command c.in-Ok.ensures)) call.ensures.matches call.ensures.parsed
