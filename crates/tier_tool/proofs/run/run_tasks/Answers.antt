use Rattle.std.proofs.Common.{All, map, inl, inr, refl, sym, ap, subst, ◌∙◌}
use Rattle.script_lang.specs.Spelling.{IsLine}
use Rattle.tier_tool.specs.Tasks.{IsTask, as_line}
use Rattle.tier_tool.proofs.Lawful.{lawful_tasks}
use Rattle.tier_tool.proofs.run.run_tasks.Goals as goal

pub run_lines-requires-clause-lawful : goal.run_lines-requires-clause-lawful
run_lines-requires-clause-lawful g c κs within =
    subst (All (λ n. IsTask n.line)) (sym c.as_slice.ensures.value)
    (lawful_tasks c.in-Ok.tasks.items
    (subst (All (λ n. IsLine n.line)) c.in-Ok.ensures c.requires.lawful))

pub returns-in-Ok-clause-ends : goal.returns-in-Ok-clause-ends
returns-in-Ok-clause-ends g c =
    inr (inr (record {
      tasks = c.as_slice.result.now;
      built = c.in-Ok.ensures ∙ ap (map as_line) (sym c.as_slice.ensures.value);
      ends = c.run_lines.ensures.ends;
    }))

pub returns-in-Err-Unbuilt-clause-ends : goal.returns-in-Err-Unbuilt-clause-ends
returns-in-Err-Unbuilt-clause-ends g c =
    inl (record {
      number = c.in-Err-Unbuilt.line;
      unbuilt = rw c.in-Err-Unbuilt.field-0-is at c.in-Err-Unbuilt.ensures;
      pairs_same = refl;
      told = c.tell_unbuilt.ensures.told;
    })
