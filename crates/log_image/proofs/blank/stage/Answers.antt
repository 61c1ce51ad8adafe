use Rattle.std.proofs.Common.{arith}
use Rattle.log_image.proofs.Blanks.{stage_leaves, stage_done}
use Rattle.log_image.proofs.blank.stage.Goals as goal

pub returns-in_err-put-clause-any_moment : goal.returns-in_err-put-clause-any_moment
returns-in_err-put-clause-any_moment g c =
    stage_leaves c.args.role c.args.pair c.rest_bytes.result _ _ c.rest_bytes.ensures c.requires
    c.in_err-put.ensures.any_moment

pub returns-clause-any_moment : goal.returns-clause-any_moment
returns-clause-any_moment g c =
    stage_leaves c.args.role c.args.pair c.rest_bytes.result _ _ c.rest_bytes.ensures c.requires
    c.in_ok-put.ensures.any_moment

pub returns-clause-staged : goal.returns-clause-staged
returns-clause-staged g c =
    stage_done c.args.role c.args.pair c.rest_bytes.result _ _ c.rest_bytes.ensures
    (omega (arith, c.ranges.pair.fits)) c.requires c.in_ok-put.ensures.any_moment
    c.in_ok-put.ensures.done
