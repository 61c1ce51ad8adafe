use Rattle.std.proofs.Common.{◌≡◌, refl, subst, true, false}
use Rattle.obj_model.specs.declared.req.Req.{Req}
use Rattle.obj_model.specs.declared.state.NameState.{NameState}
use Rattle.obj_ops.specs.Acts.{ActsOn, act}
use Rattle.obj_ops.specs.declared.request.Acted.TheVariants.{Again, Stale, Worn}
use Rattle.obj_ops.specs.declared.request.Answered.{Answered}
use Rattle.tier_tool.specs.declared.task.Task.TheVariants.{Op}
use Rattle.log_store.specs.Views.{store_of}
use Rattle.tier_tool.specs.Steps.Serving.{LineEnds, LineUses}
use Rattle.tier_chron.specs.declared.answer.Answer.TheVariants as answer
use Rattle.tier_tool.proofs.Rooms.{acted_uses, not_put_uses, unchanged_uses}
use Rattle.tier_tool.proofs.Outcomes.{ends_unchanged, ends_acted, ends_not_put, given_back}
use Rattle.tier_tool.proofs.base.request.Goals as goal

-- what the state's call answered, in its case
case : (s : NameState) (req : Req) (a b : Answered) (t : NameState) → a ≡ b
    → ActsOn (act s req) s a t → ActsOn (act s req) s b t
case s req a b t is on = subst (λ x. ActsOn (act s req) s x t) is on

pub returns-in-Fresh-clause-ended : goal.returns-in-Fresh-clause-ended
returns-in-Fresh-clause-ended g c =
    let found = c.in_ok-state.ensures.found in
    ends_acted c.args.req.now c.in_ok-state.state c.act_on.new.state c.in-Fresh.reply
    c.replied.result (store_of c.args.pool.now) (store_of c.state_of.new.pool)
    (store_of c.put_state.new.pool)
    (case c.in_ok-state.state c.args.req.now _ _ c.act_on.new.state c.in-Fresh.is
    c.in_ok-reply.ensures.exact)
    c.replied.ensures found.1 found.2 c.in_ok-put_state-in-Fresh.ensures.put

pub returns-in_err-put_state-in-Fresh-clause-ended : goal.returns-in_err-put_state-in-Fresh-clause-ended
returns-in_err-put_state-in-Fresh-clause-ended g c =
    let found = c.in_ok-state.ensures.found in
    let failed = c.in_err-put_state-in-Fresh in
    given_back (LineEnds (Op c.args.req.now) (store_of c.args.pool.now)
    (store_of c.put_state.new.pool)) c.from_residual-in_err-put_state-in-Fresh.result
    failed.field-0.0 c.from_residual-in_err-put_state-in-Fresh.ensures
    (ends_not_put c.args.req.now c.in_ok-state.state c.act_on.new.state c.in-Fresh.reply
    (store_of c.args.pool.now) (store_of c.state_of.new.pool) (store_of c.put_state.new.pool)
    failed.field-0.0
    (case c.in_ok-state.state c.args.req.now _ _ c.act_on.new.state c.in-Fresh.is
    c.in_ok-reply.ensures.exact)
    found.1 found.2 failed.ensures.put)

pub returns-in-Again-clause-ended : goal.returns-in-Again-clause-ended
returns-in-Again-clause-ended g c =
    let found = c.in_ok-state.ensures.found in
    ends_unchanged c.args.req.now c.in_ok-state.state (Again c.in-Again.reply)
    c.replied-in-Again.result (store_of c.args.pool.now) (store_of c.state_of.new.pool)
    (case c.in_ok-state.state c.args.req.now _ _ c.act_on.new.state c.in-Again.is
    c.in_ok-reply.ensures.exact).0
    c.replied-in-Again.ensures (λ p. refl) found.1 found.2 c.requires.live

pub returns-in-Stale-clause-ended : goal.returns-in-Stale-clause-ended
returns-in-Stale-clause-ended g c =
    let found = c.in_ok-state.ensures.found in
    ends_unchanged c.args.req.now c.in_ok-state.state (Stale c.in-Stale.kept) _
    (store_of c.args.pool.now) (store_of c.state_of.new.pool)
    (case c.in_ok-state.state c.args.req.now _ _ c.act_on.new.state c.in-Stale.is
    c.in_ok-reply.ensures.exact).0
    refl (λ p. refl) found.1 found.2 c.requires.live

pub returns-clause-ended : goal.returns-clause-ended
returns-clause-ended g c =
    let found = c.in_ok-state.ensures.found in
    ends_unchanged c.args.req.now c.in_ok-state.state (Worn c.in-Worn.limit) _
    (store_of c.args.pool.now) (store_of c.state_of.new.pool)
    (case c.in_ok-state.state c.args.req.now _ _ c.act_on.new.state c.in-Worn.is
    c.in_ok-reply.ensures.exact).0
    refl (λ p. refl) found.1 found.2 c.requires.live

pub returns-in-Fresh-clause-uses : goal.returns-in-Fresh-clause-uses
returns-in-Fresh-clause-uses g c =
    acted_uses c.args.req.now c.in_ok-state.state c.act_on.new.state c.in-Fresh.reply
    c.args.pool.now c.state_of.new.pool c.put_state.new.pool (c.replied.result, true)
    (case c.in_ok-state.state c.args.req.now _ _ c.act_on.new.state c.in-Fresh.is
    c.in_ok-reply.ensures.exact)
    c.in_ok-state.ensures.found.1 c.in_ok-state.ensures.same
    c.in_ok-put_state-in-Fresh.ensures.uses

pub returns-in_err-put_state-in-Fresh-clause-uses : goal.returns-in_err-put_state-in-Fresh-clause-uses
returns-in_err-put_state-in-Fresh-clause-uses g c =
    let failed = c.in_err-put_state-in-Fresh in
    given_back (LineUses (Op c.args.req.now) c.args.pool.now c.put_state.new.pool)
    c.from_residual-in_err-put_state-in-Fresh.result failed.field-0.0
    c.from_residual-in_err-put_state-in-Fresh.ensures
    (not_put_uses c.args.req.now c.in_ok-state.state c.act_on.new.state c.in-Fresh.reply
    c.args.pool.now c.state_of.new.pool c.put_state.new.pool failed.field-0.0
    (case c.in_ok-state.state c.args.req.now _ _ c.act_on.new.state c.in-Fresh.is
    c.in_ok-reply.ensures.exact)
    c.in_ok-state.ensures.found.1 c.in_ok-state.ensures.same failed.ensures.uses)

pub returns-in-Again-clause-uses : goal.returns-in-Again-clause-uses
returns-in-Again-clause-uses g c =
    unchanged_uses c.args.req.now c.in_ok-state.state (Again c.in-Again.reply) c.args.pool.now
    c.state_of.new.pool (c.replied-in-Again.result, false)
    (case c.in_ok-state.state c.args.req.now _ _ c.act_on.new.state c.in-Again.is
    c.in_ok-reply.ensures.exact).0
    (λ acts. acts) refl c.in_ok-state.ensures.found.1 c.in_ok-state.ensures.same

pub returns-in-Stale-clause-uses : goal.returns-in-Stale-clause-uses
returns-in-Stale-clause-uses g c =
    unchanged_uses c.args.req.now c.in_ok-state.state (Stale c.in-Stale.kept) c.args.pool.now
    c.state_of.new.pool (answer.Stale c.in-Stale.kept, false)
    (case c.in_ok-state.state c.args.req.now _ _ c.act_on.new.state c.in-Stale.is
    c.in_ok-reply.ensures.exact).0
    (λ acts. acts) refl c.in_ok-state.ensures.found.1 c.in_ok-state.ensures.same

pub returns-clause-uses : goal.returns-clause-uses
returns-clause-uses g c =
    unchanged_uses c.args.req.now c.in_ok-state.state (Worn c.in-Worn.limit) c.args.pool.now
    c.state_of.new.pool (answer.Worn c.in-Worn.limit, false)
    (case c.in_ok-state.state c.args.req.now _ _ c.act_on.new.state c.in-Worn.is
    c.in_ok-reply.ensures.exact).0
    (λ acts. acts) refl c.in_ok-state.ensures.found.1 c.in_ok-state.ensures.same
