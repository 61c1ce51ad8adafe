-- What a parse by the program's command says of the words.
use Rattle.std.proofs.Common.{◌≡◌, ◌∙◌, ap, ap₂, ℕ, Bool, true, List, [], Option, None, refl, sym, arith, codes}
use Rattle.std.specs.Prelude.{if◌then◌else◌, option_map, option_and_then}
use Rattle.clap.specs.Built.{IsParsedFrom}
use Rattle.clap.specs.Faults.{fault_of, is_simple_and_free}
use Rattle.clap.specs.Kinds.{Kinds}
use Rattle.clap.specs.Matches.{first_value, found_of, one_text}
use Rattle.clap.specs.Simple.{App, HasMatchesOf, app_of, is_simple, matches_of}
use Rattle.clap.specs.Walk.{Text, first_of, is_empty, one_of}
use Rattle.clap.proofs.WalkLemmas.{first_value-rows, one_text-rows}
use Rattle.clap.specs.declared.builder.command.Command.{Command}
use Rattle.clap.specs.declared.builder.value_parser.ValueParser.TheVariants as parser
use Rattle.clap.specs.declared.parser.matches.ArgMatches.{ArgMatches}
use Rattle.tool_words.specs.Words.{flag_rule, given, invocation_of, is_on, job_in, job_named, number_or, number_rule, tool, with_job}
use Rattle.tool_words.specs.Steps.{IsReading}
use Rattle.tool_words.specs.declared.Invocation.{Invocation}
use Rattle.tool_words.specs.declared.Job.{Job}
use Rattle.tool_words.proofs.Passing.{passes_at}
use Rattle.tool_words.proofs.Tool.{tool_is_free, tool_is_simple}

-- what a call on the command as it is says of the command of the program
pub as_free : (c : Command) → app_of c ≡ tool → is_simple_and_free (app_of c) ≡ true
as_free c same = ap is_simple_and_free same ∙ tool_is_free

pub reading : (words : List Text) (c : Command) (m : ArgMatches) → app_of c ≡ tool
    → fault_of (app_of c) words ≡ [] → HasMatchesOf (app_of c) words m → IsParsedFrom c m
    → IsReading words m
reading words c m same taken matches parsed = record {
  taken = ap (λ (a : App). fault_of a words) (sym same) ∙ taken;
  rows = (matches (ap is_simple same ∙ tool_is_simple)).0 ∙ ap (λ (a : App). matches_of a words) same;
  paths = passes_at c m same parsed 1 (omega arith) (flag_rule (codes "paths")) (λ s. refl) parser.Bool refl refl refl refl;
  history = passes_at c m same parsed 2 (omega arith) (flag_rule (codes "history")) (λ s. refl) parser.Bool refl refl refl refl;
  summary = passes_at c m same parsed 3 (omega arith) (flag_rule (codes "summary")) (λ s. refl) parser.Bool refl refl refl refl;
  count = passes_at c m same parsed 4 (omega arith) (number_rule (codes "count") 1000000) (λ s. refl)
      (parser.Unsigned 0 1000000) refl refl refl refl;
  start = passes_at c m same parsed 5 (omega arith) (number_rule (codes "start") 18446744073709551615) (λ s. refl)
      (parser.Unsigned 0 18446744073709551615) refl refl refl refl;
}

-- what is asked for follows from the job
pub invoked : (words : List Text) → fault_of tool words ≡ [] → (o : Option Job) → job_in words ≡ o
    → invocation_of words ≡ option_map (with_job words) o
invoked words taken o job =
    ap₂ (λ (faults : Kinds) (x : Option Job). if is_empty faults then option_map (with_job words) x else None) taken job

-- the job in the words is that of the matches
pub job_read : (words : List Text) (m : ArgMatches) → IsReading words m
    → job_in words ≡ option_and_then job_named (first_value (found_of m) (codes "job"))
job_read words m r = ap (option_and_then job_named)
    (sym (first_value-rows (found_of m) (codes "job") ∙ ap (first_of (codes "job")) r.rows))

-- and so of every other part
value : (words : List Text) (m : ArgMatches) → IsReading words m → (name : Text)
    → one_text (found_of m) name ≡ given words name
value words m r name = one_text-rows (found_of m) name ∙ ap (one_of name) r.rows

pub assembled : (words : List Text) (m : ArgMatches) → IsReading words m → (job : Job)
    → (paths history summary : Bool) (count start : ℕ)
    → paths ≡ is_on (one_text (found_of m) (codes "paths"))
    → history ≡ is_on (one_text (found_of m) (codes "history"))
    → summary ≡ is_on (one_text (found_of m) (codes "summary"))
    → count ≡ number_or 1000 (one_text (found_of m) (codes "count"))
    → start ≡ number_or 1 (one_text (found_of m) (codes "start"))
    → ◌≡◌ {A = Invocation} (with_job words job) (record {
      job = job;
      paths = paths;
      history = history;
      summary = summary;
      count = count;
      start = start;
    })
assembled words m r job paths history summary count start p h s n b =
    let p' = sym (p ∙ ap is_on (value words m r (codes "paths"))) in
    let h' = sym (h ∙ ap is_on (value words m r (codes "history"))) in
    let s' = sym (s ∙ ap is_on (value words m r (codes "summary"))) in
    let n' = sym (n ∙ ap (number_or 1000) (value words m r (codes "count"))) in
    let b' = sym (b ∙ ap (number_or 1) (value words m r (codes "start"))) in
    λ i. record {
      job = job;
      paths = p' i;
      history = h' i;
      summary = s' i;
      count = n' i;
      start = b' i;
    }
