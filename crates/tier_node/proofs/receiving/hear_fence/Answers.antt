use Rattle.tier_node.proofs.KeptFences.{refused_over}
use Rattle.tier_node.proofs.receiving.hear_fence.Goals as goal

pub refuse_kept-requires : goal.refuse_kept-requires
refuse_kept-requires g c =
    refused_over c.args.g.now c.args.reply c.in-Some.refusal c.rest.ensures.whole c.in-Some.ensures
