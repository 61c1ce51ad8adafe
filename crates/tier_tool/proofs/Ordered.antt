-- The answers to lines in two parts, and the store that lines leave.
use Rattle.std.proofs.Common.{◌≡◌, List, [], ◌∷◌, ◌++◌, refl, ap, ◌∙◌}
use Rattle.obj_ops.specs.Stores.{replay}
use Rattle.tier_tool.specs.declared.task.Task.{Task}
use Rattle.tier_tool.specs.declared.task.Task.TheVariants.{Op, Get}
use Rattle.tier_tool.specs.declared.task.Numbered.{Numbered}
use Rattle.tier_tool.specs.Laws.{LaterLinesChangeNothing, RequestsMakeTheStore, behind, requests}
use Rattle.tier_tool.specs.Laws.{with_request}
use Rattle.tier_tool.specs.Plain.{Plain, after, answered, answers, begun}

answers-append : (before others : List Numbered) (p : Plain) → answers (before ++ others) p ≡ answers before p ++ answers others (behind before p)
answers-append [] others p = refl
answers-append (n ∷ before) others p = ap (λ rest. answered p n ∷ rest) (answers-append before others (after p n.line))

pub later_lines : (before others : List Numbered) → LaterLinesChangeNothing before others
later_lines before others store = answers-append before others (begun store)

replay_line : (line : Task) (lines : List Numbered) (p : Plain) → replay (after p line).store (requests lines) ≡ replay p.store (with_request line (requests lines))
replay_line (Op req) lines p = refl
replay_line (Get client name vector) lines p = refl

replays : (lines : List Numbered) (p : Plain) → (behind lines p).store ≡ replay p.store (requests lines)
replays [] p = refl
replays (n ∷ lines) p = replays lines (after p n.line) ∙ replay_line n.line lines p

pub requests_make : (lines : List Numbered) → RequestsMakeTheStore lines
requests_make lines store = replays lines (begun store)
