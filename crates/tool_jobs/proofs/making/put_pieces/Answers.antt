use Rattle.std.proofs.Common.{◌≡◌, ◌++◌, inr, refl, ap, ap₂, ◌∙◌, append_assoc, arith}
use Rattle.std.proofs.lemmas.List.{take-append-drop}
use Rattle.tool_jobs.proofs.Told.{front_more, gains_more, rose_later}
use Rattle.tool_jobs.proofs.making.put_pieces.Goals as goal

pub returns-in-Err-clause-told : goal.returns-in-Err-clause-told
returns-in-Err-clause-told g c =
    let inv = c.loop-rest.invariant in
    let cut = c.split_at.ensures in
    let whole : c.split_at.result.0.now ++ c.split_at.result.1.now ≡ c.loop-rest.rest.now =
    ap₂ (λ a b. a ++ b) cut.front cut.back ∙ take-append-drop c.min.result c.loop-rest.rest.now in
    inr (record {
      ended = refl;
      cause = rose_later _ _ _ inv.later c.in-Err.ensures.cause.failed;
      front = front_more _ _ _ c.args.text.now inv.told.0 c.split_at.result.0.now
          c.split_at.result.1.now (ap (λ w. inv.told.0 ++ w) whole ∙ inv.told.2) inv.told.1
          c.in-Err.ensures.bytes;
    })

pub loop-rest-preserved : goal.loop-rest-preserved
loop-rest-preserved g c =
    let inv = c.loop-rest.invariant in
    let cut = c.split_at.ensures in
    let whole : c.split_at.result.0.now ++ c.split_at.result.1.now ≡ c.loop-rest.rest.now =
    ap₂ (λ a b. a ++ b) cut.front cut.back ∙ take-append-drop c.min.result c.loop-rest.rest.now in
    record {
      told = (
        inv.told.0 ++ c.split_at.result.0.now,
        gains_more _ _ _ inv.told.0 c.split_at.result.0.now inv.told.1 c.in-Ok.ensures.bytes,
        append_assoc inv.told.0 c.split_at.result.0.now c.split_at.result.1.now
            ∙ ap (λ w. inv.told.0 ++ w) whole ∙ inv.told.2,
      );
      later = omega (arith, inv.later, c.in-Ok.ensures.cause.later);
    }
