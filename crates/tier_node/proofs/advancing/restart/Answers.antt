use Rattle.std.proofs.Common.{ℕ, inr, sym, subst}
use Rattle.tier_chron.specs.declared.answer.Answer.TheVariants as answer
use Rattle.tier_node.proofs.Restarts.{may_be_left, restart_so}
use Rattle.tier_node.specs.Tells.{IsCause, MayBeTold, Tells}
use Rattle.tier_node.proofs.advancing.restart.Goals as goal

pub tell_so-requires-clause-may : goal.tell_so-requires-clause-may
tell_so-requires-clause-may g c =
    subst (λ (n : ℕ). MayBeTold c.args.g.now c.args.turn (answer.Restarted c.args.was n))
    (sym c.epoch-now.ensures)
    (may_be_left c.args.g.now c.args.turn c.args.was c.requires.turn c.requires.was)

pub tell_so-requires-clause-so : goal.tell_so-requires-clause-so
tell_so-requires-clause-so g c =
    subst (λ (n : ℕ). IsCause c.args.g.now c.args.turn (answer.Restarted c.args.was n))
    (sym c.epoch-now.ensures)
    (inr (restart_so c.args.g.now c.args.turn c.args.was c.requires.turn c.requires.was))

pub returns-clause-told : goal.returns-clause-told
returns-clause-told g c =
    subst (λ (n : ℕ). Tells c.args.turn (answer.Restarted c.args.was n) c.args.g.now
    c.tell_so.new.g c.tell_so.result) c.epoch-now.ensures c.tell_so.ensures.told
