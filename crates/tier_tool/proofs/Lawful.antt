-- The lines of a script can be carried out.
use Rattle.std.proofs.Common.{ℕ, zero, suc, ◌+◌, Bool, true, false, List, [], ◌∷◌, map, length}
use Rattle.std.proofs.Common.{MatchBool, All}
use Rattle.std.proofs.lemmas.List.Elements.{All-nil, All-cons, All-head, All-same, All-tail}
use Rattle.script_lang.specs.Contexts.{Context, start}
use Rattle.script_lang.specs.Scripts.{Reads, SaysFirst, IsScript, is_passed, lines_of}
use Rattle.script_lang.specs.Spelling.{IsLine}
use Rattle.script_lang.specs.declared.line.Numbered as lang
use Rattle.tier_tool.specs.declared.task.Numbered.{Numbered}
use Rattle.tier_tool.specs.declared.task.Task.{Task}
use Rattle.tier_tool.specs.declared.task.Task.TheVariants as task
use Rattle.tier_tool.specs.Tasks.{IsTask, as_line, line_of}

abbrev AllLawful : List lang.Numbered → Type 0
AllLawful said = All (λ n. IsLine n.line) said

lawful_by : (b : Bool) (ctx : Context) (number : ℕ) (text : List ℕ) (texts : List (List ℕ)) (Rest : Context → List lang.Numbered → Type 0)
    (said : List lang.Numbered) → ((c : Context) (others : List lang.Numbered) → Rest c others → AllLawful others)
    → MatchBool b (Rest ctx said) (SaysFirst ctx number text texts Rest said) → AllLawful said
lawful_by true ctx number text texts Rest said rest h = rest ctx said h
lawful_by false ctx number text texts Rest [] rest h = absurd h
lawful_by false ctx number text texts Rest (n ∷ others) rest h = All-cons (λ n. IsLine n.line) n others h.1.lawful (rest _ others h.3)

lawful_reads : (ctx last : Context) (number count : ℕ) (texts : List (List ℕ)) (said : List lang.Numbered)
    → Reads ctx number count texts said last → AllLawful said
lawful_reads ctx last number zero texts said h = All-same (λ n. IsLine n.line) said [] h.0 (All-nil (λ n. IsLine n.line))
lawful_reads ctx last number (suc count) [] said h = absurd h
lawful_reads ctx last number (suc count) (text ∷ texts) said h =
    lawful_by (is_passed text) ctx number text texts (λ c others. Reads c (number + 1) count texts others last) said
    (λ c others r. lawful_reads c last (number + 1) count texts others r) h

-- each line of a script is lawful
pub lawful_lines : (bytes : List ℕ) (said : List lang.Numbered) → IsScript bytes said → All (λ n. IsLine n.line) said
lawful_lines bytes said h = lawful_reads start h.ctx 1 (length (lines_of bytes)) (lines_of bytes) said h.reads

lawful_task : (t : Task) → IsLine (line_of t) → IsTask t
lawful_task (task.Op req) h = h
lawful_task (task.Get client name vector) h = h

-- what lawful lines ask is lawful
pub lawful_tasks : (tasks : List Numbered) → All (λ n. IsLine n.line) (map as_line tasks) → All (λ n. IsTask n.line) tasks
lawful_tasks [] h = All-nil (λ n. IsTask n.line)
lawful_tasks (n ∷ tasks) h =
    All-cons (λ n. IsTask n.line) n tasks (lawful_task n.line (All-head (λ n. IsLine n.line) (as_line n) (map as_line tasks) h))
    (lawful_tasks tasks (All-tail (λ n. IsLine n.line) (as_line n) (map as_line tasks) h))
