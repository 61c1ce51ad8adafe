use Rattle.std.proofs.Common.{◌≡◌, ◌+◌, ◌∷◌, [], ◌++◌, drop, ap, sym, ◌∙◌, arith}
use Rattle.std.proofs.lemmas.List.{drop_all, drop_more}
use Rattle.tier_tool.proofs.LinesTold.{ended_at, same_store, tells_whole, told_next, told_none}
use Rattle.tool_jobs.proofs.Told.{gains_more, gains_none, rose_later}
use Rattle.tier_tool.proofs.Views.{goes_further}
use Rattle.tier_tool.proofs.telling.tell_lines.Goals as goal

pub loop-numbered-init : goal.loop-numbered-init
loop-numbered-init g c = record {
  told = ([], gains_none _, told_none _ _ c.requires.sound c.requires.live);
  few = omega arith;
  sink_later = omega arith;
  disk_later = omega arith;
}

pub loop-numbered-preserved : goal.loop-numbered-preserved
loop-numbered-preserved g c =
    let i = c.loop-numbered.numbered-index in
    let lines = c.args.lines.now in
    let n = c.numbered-item.result in
    let inv = c.loop-numbered.invariant in
    let done = c.in-Ok.ensures in
    let here : drop i lines ≡ n ∷ drop (i + 1) lines = drop_more lines i n (omega arith) ∙ ap (λ m. m ∷ drop (i + 1) lines) (sym c.numbered-item.is) in
    record {
      told = (inv.told.0 ++ done.told.0, gains_more _ _ _ inv.told.0 done.told.0 inv.told.1 done.told.1, told_next _ _ _ n _ _ _ _ _ _ _ here done.sound done.same done.goes_on inv.told.2 done.told.2);
      few = omega (arith, inv.few, done.few);
      sink_later = omega (arith, inv.sink_later, done.sink_later);
      disk_later = omega (arith, inv.disk_later, done.disk_later);
    }

pub returns-in-Err-clause-told : goal.returns-in-Err-clause-told
returns-in-Err-clause-told g c =
    let i = c.loop-numbered.numbered-index in
    let lines = c.args.lines.now in
    let n = c.numbered-item.result in
    let inv = c.loop-numbered.invariant in
    let ended = c.in-Err.ensures in
    let here : drop i lines ≡ n ∷ drop (i + 1) lines = drop_more lines i n (omega arith) ∙ ap (λ m. m ∷ drop (i + 1) lines) (sym c.numbered-item.is) in (
      inv.told.0 ++ ended.told.0,
      gains_more _ _ _ inv.told.0 ended.told.0 inv.told.1 ended.told.1,
      ended_at _ _ _ n _ _ _ _ _ _ _ _ _ _ _ _ here ended.sound ended.same ended.goes_on (rose_later _ _ _ inv.disk_later) (rose_later _ _ _ inv.sink_later) inv.told.2 ended.told.2,
    )

pub returns-in-Err-clause-same : goal.returns-in-Err-clause-same
returns-in-Err-clause-same g c = same_store _ _ _ c.loop-numbered.invariant.told.2.same c.in-Err.ensures.same

pub returns-in-Err-clause-goes_on : goal.returns-in-Err-clause-goes_on
returns-in-Err-clause-goes_on g c = goes_further _ _ _ c.loop-numbered.invariant.told.2.goes_on c.in-Err.ensures.goes_on

pub returns-clause-told : goal.returns-clause-told
returns-clause-told g c =
    let told = c.loop-numbered.invariant.told in
    (told.0, told.1, tells_whole _ _ _ _ _ _ _ _ (drop_all c.loop-numbered.numbered-index c.args.lines.now (omega arith)) told.2)
