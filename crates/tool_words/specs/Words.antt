-- The command of the program, and what words of the command line ask for.
use Rattle.std.specs.Prelude.{ℕ, Bool, true, false, List, Option, Some, None, codes}
use Rattle.std.specs.Prelude.{if◌then◌else◌, option_map, option_and_then}
use Rattle.std.specs.Option.{option_map_or}
use Rattle.std.specs.Str.{bytes_eq}
use Rattle.std.specs.Str.Parse.{digits_value, without_leading_plus}
use Rattle.clap.specs.Walk.{is_empty}
use Rattle.clap.specs.Words.{App, Rule, Text, new_app, new_rule, with_rule, fault_of, matches_of}
use Rattle.clap.specs.Words.{first_of, one_of}
use Rattle.tool_words.specs.declared.Job.{Job}
use Rattle.tool_words.specs.declared.Job.TheVariants.{Run, Check, Show, Gen}
use Rattle.tool_words.specs.declared.Invocation.{Invocation}
use Rattle.clap.specs.declared.builder.action.ArgAction.TheVariants.{SetTrue, Set}
use Rattle.clap.specs.declared.builder.value_parser.ValueParser.TheVariants as parser

-- JOB, which must be given
abbrev pub job_rule : Rule
job_rule = record (new_rule (codes "job")) { required = true; action = Some Set }

-- a flag `--name`
abbrev pub flag_rule : Text → Rule
flag_rule name = record (new_rule name) {
  long = Some name;
  action = Some SetTrue;
  parser = Some parser.Bool;
}

-- an option `--name N`, with N a whole number of at most `most`
abbrev pub number_rule : Text → ℕ → Rule
number_rule name most = record (new_rule name) {
  long = Some name;
  action = Some Set;
  parser = Some (parser.Unsigned 0 most);
}

-- a command of this name, whose words begin after the program's name
abbrev pub named : Text → App
named name = let a = new_app name in record a { top = record a.top { no_binary_name = true } }

-- `rados_tier JOB [--paths] [--history] [--summary] [--count N] [--start N]`
abbrev pub tool : App
tool =
    let flags = with_rule (with_rule (with_rule (with_rule (named (codes "rados_tier")) job_rule)
    (flag_rule (codes "paths"))) (flag_rule (codes "history"))) (flag_rule (codes "summary")) in
    with_rule (with_rule flags (number_rule (codes "count") 1000000))
    (number_rule (codes "start") 18446744073709551615)

-- the job of this name
abbrev pub job_named : Text → Option Job
job_named name = if bytes_eq name (codes "run") then Some Run
    else if bytes_eq name (codes "check") then Some Check
    else if bytes_eq name (codes "show") then Some Show
    else if bytes_eq name (codes "gen") then Some Gen
    else None

-- a flag's value, where it has one, is `true`
abbrev pub is_on : Option Text → Bool
is_on value = option_map_or (bytes_eq (codes "true")) value false

-- the number that the text spells in decimal digits, or the default where there is no text
abbrev pub number_or : ℕ → Option Text → ℕ
number_or default text =
    option_map_or (λ t. digits_value 10 (without_leading_plus t)) text default

-- the command takes the words
abbrev pub takes_words : List Text → Bool
takes_words words = is_empty (fault_of tool words)

-- what the words give the argument of this name
abbrev pub given : List Text → Text → Option Text
given words name = one_of name (matches_of tool words)

-- the job that the words name
abbrev pub job_in : List Text → Option Job
job_in words = option_and_then job_named (first_of (codes "job") (matches_of tool words))

-- what the words ask for with this job
abbrev pub with_job : List Text → Job → Invocation
with_job words job = record {
  job = job;
  paths = is_on (given words (codes "paths"));
  history = is_on (given words (codes "history"));
  summary = is_on (given words (codes "summary"));
  count = number_or 1000 (given words (codes "count"));
  start = number_or 1 (given words (codes "start"));
}

-- what the words ask for, if the command takes them and their job is one of the four
abbrev pub invocation_of : List Text → Option Invocation
invocation_of words =
    if takes_words words then option_map (with_job words) (job_in words) else None
