use Rattle.log_image.proofs.Blanks.{close_leaves}
use Rattle.log_image.proofs.blank.close_first.Goals as goal

pub returns-in_err-put-clause-any_moment : goal.returns-in_err-put-clause-any_moment
returns-in_err-put-clause-any_moment g c =
    close_leaves c.args.zeroed _ _ c.if-not-zeroed.true c.requires.settled c.requires.blank
    c.in_err-put.ensures.any_moment

pub returns-in_ok-put-clause-any_moment : goal.returns-in_ok-put-clause-any_moment
returns-in_ok-put-clause-any_moment g c =
    close_leaves c.args.zeroed _ _ c.if-not-zeroed.true c.requires.settled c.requires.blank
    c.in_ok-put.ensures.any_moment
