use Rattle.std.proofs.Common.{ap, arith, refl, rules, set, ◌∙◌, ◌≡◌, ◌+◌, ◌++◌, ◌<◌, drop, get_or, length, map, suc, take}
use Rattle.tier_view.specs.Stops.{gone_at}
use Rattle.tier_calls.proofs.Epochs.{goes_first, goes_on}
use Rattle.tier_calls.proofs.work.go_all.Goals as goal

pub loop-place-init : goal.loop-place-init
loop-place-init c =
    (goes_first c.args.now c.args.earlier c.args.flown.now.items c.requires, refl, refl)

pub loop-place-preserved : goal.loop-place-preserved
loop-place-preserved c =
    let all = c.args.flown.now.items in
    let i = c.loop-place.place in
    let now = c.args.now in
    let x = c.index_mut.result.now in
    let count : c.len-place-end.result ≡ length all = search (rules, c.len-place-end.ensures) in
    let there : i < length all = omega (arith, count, c.loop-place-test.true) in
    let next : suc i ≡ i + 1 = omega arith in
    let same = c.loop-place.invariant.0 in (
      ap (set c.loop-place.flown.items i) c.go.ensures
          ∙ ap (λ fs. set fs i (gone_at now x)) same
          ∙ goes_on now all i x there (c.index_mut.ensures.value ∙ ap (λ fs. get_or fs i x) same)
          ∙ ap (λ n. map (gone_at now) (take n all) ++ drop n all) next,
      c.loop-place.invariant.1,
      c.loop-place.invariant.2,
    )
