use Rattle.std.proofs.Common.{subst}
use Rattle.tier_outside.specs.DiskMoments.{Now}
use Rattle.log_image.specs.Fronts.{FrontIs, IsHeaded}
use Rattle.log_image.specs.declared.front.Front.{Front}
use Rattle.log_store.proofs.Opens.{left_of}
use Rattle.log_store.proofs.opening.peek.Goals as goal

pub returns-in-Headed-clause-found : goal.returns-in-Headed-clause-found
returns-in-Headed-clause-found g c =
    let b = g.D.Disk.moments c.look_anew.new.disk in
    let front = subst (λ (f : Front). Now b (λ d. FrontIs c.args.role d.content f)) c.in-Headed.is c.in_ok-look_anew.ensures.front in
    left_of (g.D.Disk.moments c.args.disk.now) b (IsHeaded c.args.role c.in-Headed.pair) c.in_ok-look_anew.ensures.stops c.in_ok-look_anew.ensures.restarted front
