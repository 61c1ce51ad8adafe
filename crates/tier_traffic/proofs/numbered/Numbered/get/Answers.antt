use Rattle.std.proofs.Common.{ap, ◌∙◌, ◌==◌}
use Rattle.std.specs.Map.{lookup}
use Rattle.std.specs.Option.{option_flatten}
use Rattle.tier_traffic.specs.Numbered.{NumberedView}
use Rattle.tier_traffic.proofs.Shelves.{found_on}
use Rattle.tier_traffic.proofs.numbered.Numbered.get.Goals as goal

pub returns-in-Some : goal.returns-in-Some
returns-in-Some g c =
    let n = c.args.number in
    c.as_ref.ensures.value ∙ ap option_flatten c.in-Some.ensures.value
    ∙ found_on c.self.inside.ready c.self.inside.next n c.self.inside.inner.entries
    c.self.invariant.0
    ∙ ap (λ (v : NumberedView g.row.V.Denot). lookup (λ k. k == n) v.held) c.self.view_is

pub returns-in-None : goal.returns-in-None
returns-in-None g c =
    let n = c.args.number in
    ap option_flatten c.in-None.ensures.value
    ∙ found_on c.self.inside.ready c.self.inside.next n c.self.inside.inner.entries
    c.self.invariant.0
    ∙ ap (λ (v : NumberedView g.row.V.Denot). lookup (λ k. k == n) v.held) c.self.view_is
