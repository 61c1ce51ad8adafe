use Rattle.std.proofs.Common.{◌≡◌, refl, ap, ◌∙◌}
use Rattle.obj_ops.specs.Acts.{keep}
use Rattle.obj_ops.specs.Steps.{settled}
use Rattle.obj_ops.proofs.Settling.{settled_keep, acts_done, acts_refused}
use Rattle.obj_ops.proofs.request.act_anew_on.Goals as goal
use Rattle.obj_ops.proofs.request.act_anew_on.Goals.{in-Ok, in-Err}

pub returns-clause-exact : goal.returns-clause-exact
returns-clause-exact c =
    let s = c.args.state.now in
    let r = c.args.req.now in
    let seen : c.settle.result ≡ keep
    (record { client = r.client; tid = r.tid; reply = c.match-branch-3.reply }) s.seen =
    c.settle.ensures
    ∙ ap (settled (record { client = r.client; tid = r.tid; reply = c.match-branch-3.reply }))
    (c.in_ok-seen.ensures ∙ ap (keep _) c.as_slice.ensures)
    ∙ settled_keep (record { client = r.client; tid = r.tid; reply = c.match-branch-3.reply }) _
    s.seen refl in
    elim c.match-branch-3.branch [
      | in-Ok w ↦ acts_done s c.match-branch-3.state r c.run_on.new.obj c.match-branch-3.reply
          c.settle.result
          c.if-state-eq-NUMBER_LIMIT.false
          (rw w.in-Ok.is at c.in_ok-run_on.ensures.exact) w.state-is w.reply-is seen
      | in-Err w ↦ acts_refused s c.match-branch-3.state r c.run_on.new.obj _ _
          c.match-branch-3.reply
          c.settle.result
          c.if-state-eq-NUMBER_LIMIT.false (rw w.in-Err.is at c.in_ok-run_on.ensures.exact).0
          (rw w.in-Err.is at c.in_ok-run_on.ensures.exact).1 w.state-is w.reply-is seen
    ]
