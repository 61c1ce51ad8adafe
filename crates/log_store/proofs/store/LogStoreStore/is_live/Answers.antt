use Rattle.log_store.proofs.Commits.{sound_as}
use Rattle.log_store.proofs.store.LogStoreStore.is_live.Goals as goal

pub returns-clause-sound : goal.returns-clause-sound
returns-clause-sound g c = sound_as c.args.self.now _ _ _ _ _ _ _ _ c.self.view_is c.self.invariant
