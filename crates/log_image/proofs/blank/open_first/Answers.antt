use Rattle.log_image.proofs.Blanks.{open_leaves, open_done}
use Rattle.log_image.proofs.blank.open_first.Goals as goal

pub returns-in_err-put-clause-any_moment : goal.returns-in_err-put-clause-any_moment
returns-in_err-put-clause-any_moment g c =
    open_leaves c.args.role c.args.pair _ _ c.requires c.in_err-put.ensures.any_moment

pub returns-clause-any_moment : goal.returns-clause-any_moment
returns-clause-any_moment g c =
    open_leaves c.args.role c.args.pair _ _ c.requires c.in_ok-put.ensures.any_moment

pub returns-clause-stands : goal.returns-clause-stands
returns-clause-stands g c =
    open_done c.args.role c.args.pair _ _ c.requires c.in_ok-put.ensures.any_moment
    c.in_ok-put.ensures.done
