-- The command of the program is one of those that the library is exact about.
use Rattle.std.proofs.Common.{refl, true, ◌≡◌}
use Rattle.clap.specs.Words.{is_simple, is_simple_and_free}
use Rattle.clap.proofs.OnLiterals.{clap_on_literals}
use Rattle.tool_words.specs.Words.{tool}

pub tool_is_free : is_simple_and_free tool ≡ true
unfolding clap_on_literals
tool_is_free = refl

pub tool_is_simple : is_simple tool ≡ true
unfolding clap_on_literals
tool_is_simple = refl
