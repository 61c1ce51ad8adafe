-- What a parse of taken words gives, for the private steps.
use Rattle.std.specs.Prelude.{◌≡◌, List, [], Some, false, codes}
use Rattle.clap.specs.Words.{Text, Accepts, fault_of, found_of, matches_of, one_text, rows_of}
use Rattle.clap.specs.declared.builder.value_parser.ValueParser.{ValueParser}
use Rattle.clap.specs.declared.builder.value_parser.ValueParser.TheVariants as parser
use Rattle.clap.specs.declared.parser.matches.ArgMatches.{ArgMatches}
use Rattle.clap.specs.declared.error.kind.ErrorKind.{ErrorKind}
use Rattle.clap.specs.declared.error.kind.ErrorKind.TheVariants.{OutOfMemory}
use Rattle.tool_words.specs.Words.{tool}
use Rattle.tool_words.specs.declared.BadWords.{BadWords}
use Rattle.tool_words.specs.declared.BadWords.TheVariants.{Refused, NoMemory}

-- what the caller is told of an error of a kind: only want of memory is no refusal
abbrev pub told_as : ErrorKind → BadWords
told_as OutOfMemory = NoMemory
told_as _ = Refused

-- the value of this name, where there is one, passed the parser
abbrev pub Passes : ValueParser → Text → ArgMatches → Type 0
Passes p name m = (t : Text) → one_text (found_of m) name ≡ Some t → Accepts false p t

-- the command takes the words, and these are its matches, of which each flag and number passed
pub record IsReading (words : List Text) (m : ArgMatches) : Type 0 where
  pub taken : fault_of tool words ≡ []
  pub rows : rows_of (found_of m) ≡ matches_of tool words
  pub paths : Passes parser.Bool (codes "paths") m
  pub history : Passes parser.Bool (codes "history") m
  pub summary : Passes parser.Bool (codes "summary") m
  pub count : Passes (parser.Unsigned 0 1000000) (codes "count") m
  pub start : Passes (parser.Unsigned 0 18446744073709551615) (codes "start") m
