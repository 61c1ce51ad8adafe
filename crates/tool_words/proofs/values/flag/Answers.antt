use Rattle.clap.specs.Words.{one_text, found_of}
use Rattle.tool_words.proofs.Flags.{flag_is}
use Rattle.tool_words.proofs.values.flag.Goals as goal

pub returns : goal.returns
returns c passes =
    flag_is (one_text (found_of c.args.matches.now) c.args.name.now) c.get_flag.result
    c.get_flag.ensures.none c.get_flag.ensures.value c.get_flag.ensures.other passes
