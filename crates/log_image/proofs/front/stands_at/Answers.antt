use Rattle.std.proofs.Common.{◌∙◌, ap, nat_eq}
use Rattle.std.specs.List.{starts_with}
use Rattle.log_image.proofs.Places.{stands_found}
use Rattle.log_image.proofs.front.stands_at.Goals as goal

pub returns : goal.returns
returns c =
    stands_found c.args.at c.min.result c.args.wanted.now c.args.bytes.now c.starts_with.result
    c.min.ensures
    (c.starts_with.ensures.value ∙ ap
    (λ l. starts_with nat_eq l c.args.wanted.now) c.split_at.ensures.back)
