-- A store that goes on over one call: more moments came, or none.
use Rattle.std.proofs.Common.{◌≡◌, List, [], Result, Ok, Err, ap, ◌∙◌}
use Rattle.log_store.specs.Views.{LogView, store_of}
use Rattle.obj_model.specs.declared.change.Change.{Change}
use Rattle.store_face.specs.Views.{StoreView}
use Rattle.store_face.specs.Calls.{Committed}
use Rattle.store_face.specs.declared.fault.StoreFault.{StoreFault}
use Rattle.store_face.specs.declared.fault.StoreFault.TheVariants.{Disk, BadImage, NoSpace, Worn}
use Rattle.store_face.specs.declared.fault.StoreFault.TheVariants.{NoMemory}
use Rattle.tier_tool.specs.Steps.Serving.{GoesOn}
use Rattle.tier_outside.proofs.Moments.{grown_none}

-- no moment came
pub stood_still : (old new : StoreView) → new.moments ≡ old.moments → GoesOn old new
stood_still old new same = record { more = []; grew = same ∙ grown_none old.moments }

-- a log of which nothing changed
pub log_stood_still : (old new : LogView) → new ≡ old → GoesOn (store_of old) (store_of new)
log_stood_still old new same = stood_still (store_of old) (store_of new) (ap (λ (v : LogView). v.moments) same)

-- a commit
pub committed_goes_on : (changes : List Change) (old new : StoreView) (result : Result (Unit {0}) StoreFault) → Committed changes old new result → GoesOn old new
committed_goes_on changes old new (Ok done) made = record { more = made.between.more; grew = made.between.grew }
committed_goes_on changes old new (Err Disk) made = record { more = made.between.more; grew = made.between.grew }
committed_goes_on changes old new (Err (BadImage at)) made = absurd made
committed_goes_on changes old new (Err (NoSpace used need limit)) made = stood_still old new made.1.moments
committed_goes_on changes old new (Err (Worn limit)) made = stood_still old new made.3.moments
committed_goes_on changes old new (Err NoMemory) made = stood_still old new made.moments
