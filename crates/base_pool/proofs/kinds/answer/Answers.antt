use Rattle.std.proofs.Common.{sym, ◌∙◌}
use Rattle.base_pool.proofs.Taking.{turned_away}
use Rattle.base_pool.proofs.kinds.answer.Goals as goal

pub returns-in-Some-clause-served : goal.returns-in-Some-clause-served
returns-in-Some-clause-served g c = λ o.
    turned_away c.args.message.now c.args.epoch.now o (g.P.Store.state c.args.store.now) c.in-Some.reply (sym c.refusal.ensures ∙ c.in-Some.is)
