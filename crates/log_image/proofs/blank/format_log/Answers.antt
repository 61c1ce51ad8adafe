use Rattle.log_image.specs.Standing.{BlankOrNew}
use Rattle.log_image.proofs.Blanks.{short_left, staged_left, leaves_on}
use Rattle.log_image.proofs.blank.format_log.Goals as goal

pub returns-in_err-close_first-clause-any_moment : goal.returns-in_err-close_first-clause-any_moment
returns-in_err-close_first-clause-any_moment g c =
    short_left c.args.role c.args.pair _ _ c.in_err-close_first.ensures.any_moment

pub returns-in_err-stage-clause-any_moment : goal.returns-in_err-stage-clause-any_moment
returns-in_err-stage-clause-any_moment g c =
    staged_left c.args.role c.args.pair _ _ _ c.in_ok-close_first.ensures.any_moment
    c.in_err-stage.ensures.any_moment

pub returns-clause-any_moment : goal.returns-clause-any_moment
returns-clause-any_moment g c =
    leaves_on _ _ _ (BlankOrNew c.args.role c.args.pair)
    (staged_left c.args.role c.args.pair _ _ _ c.in_ok-close_first.ensures.any_moment
    c.in_ok-stage.ensures.any_moment)
    c.open_first.ensures.any_moment
