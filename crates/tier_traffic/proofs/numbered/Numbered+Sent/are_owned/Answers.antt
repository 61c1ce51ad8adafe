use Rattle.std.proofs.Common.{ap, ◌∙◌}
use Rattle.std.specs.List.{list_any}
use Rattle.std.specs.Map.{values_of}
use Rattle.tier_view.specs.declared.parts.Sent.{Sent}
use Rattle.tier_traffic.specs.Messages.{is_owned}
use Rattle.tier_traffic.specs.Numbered.{NumberedView}
use Rattle.tier_traffic.proofs.Owned.{owned_places}
use Rattle.tier_traffic.proofs.numbered.Numbered+Sent.are_owned.Goals as goal

pub returns : goal.returns
returns c =
    c.are_owned_in.ensures
    ∙ owned_places c.args.call c.self.inside.inner.entries
    ∙ ap (λ (v : NumberedView Sent). list_any (is_owned c.args.call) (values_of v.held)) c.self.view_is
