use Rattle.std.proofs.lemmas.Result.{IfOk-weaker}
use Rattle.copy_chunk.proofs.Drafts.{omap_put}
use Rattle.copy_chunk.proofs.draft.Draft.put_omap.Goals as goal

pub returns-clause-put : goal.returns-clause-put
returns-clause-put c =
    rw c.if-not-self.false (IfOk-weaker c.put_table.result _ _
    (λ done h. omap_put _ _ _ _ _ _ _ _ done c.put_table.ensures.rising h) c.put_table.ensures.put)
