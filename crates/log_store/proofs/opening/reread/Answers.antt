use Rattle.std.proofs.Common.{arith, subst}
use Rattle.tier_outside.specs.Causes.{Rose}
use Rattle.tier_outside.specs.DiskMoments.{Now}
use Rattle.log_image.specs.Fronts.{FrontIs}
use Rattle.log_image.specs.declared.front.Front.{Front}
use Rattle.log_store.proofs.Opens.{headed_now, none_bad, none_half, none_other, reread_holds, reread_refused, reread_stands}
use Rattle.log_store.proofs.opening.reread.Goals as goal

pub returns-then-other-pair-clause-refused : goal.returns-then-other-pair-clause-refused
returns-then-other-pair-clause-refused g c =
    let role = c.args.role in
    let pair = c.args.pair in
    let a = g.D.Disk.moments c.args.disk.now in
    let b = g.D.Disk.moments c.look_anew.new.disk in
    let front = subst (λ (f : Front). Now b (λ d. FrontIs role d.content f)) c.in-Headed.is c.in_ok-other.ensures.front in
    none_other role pair c.in-Headed.other a b c.ranges.pair.fits c.if-other-pair.true c.in_ok-other.ensures.stops c.in_ok-other.ensures.restarted front

pub returns-else-other-pair-clause-read : goal.returns-else-other-pair-clause-read
returns-else-other-pair-clause-read g c =
    let role = c.args.role in
    let pair = c.args.pair in
    let a = g.D.Disk.moments c.args.disk.now in
    let b = g.D.Disk.moments c.look_anew.new.disk in
    let front = subst (λ (f : Front). Now b (λ d. FrontIs role d.content f)) c.in-Headed.is c.in_ok-other.ensures.front in
    let headed = headed_now role c.in-Headed.other pair b c.if-other-pair.false front in
    reread_holds role pair c.read_log.result (Rose (g.D.Disk.faults c.look_anew.new.disk) (g.D.Disk.faults c.read_log.new.disk)) a b c.in_ok-other.ensures.stops c.in_ok-other.ensures.restarted headed c.read_log.ensures.read

pub returns-else-other-pair-clause-stands : goal.returns-else-other-pair-clause-stands
returns-else-other-pair-clause-stands g c =
    let role = c.args.role in
    let pair = c.args.pair in
    let a = g.D.Disk.moments c.args.disk.now in
    let b = g.D.Disk.moments c.look_anew.new.disk in
    let front = subst (λ (f : Front). Now b (λ d. FrontIs role d.content f)) c.in-Headed.is c.in_ok-other.ensures.front in
    let headed = headed_now role c.in-Headed.other pair b c.if-other-pair.false front in
    reread_stands role pair c.read_log.result (Rose (g.D.Disk.faults c.look_anew.new.disk) (g.D.Disk.faults c.read_log.new.disk)) b (g.D.Disk.moments c.read_log.new.disk) c.read_log.ensures.same c.in_ok-other.ensures.settled headed c.read_log.ensures.read

pub returns-else-other-pair-clause-refused : goal.returns-else-other-pair-clause-refused
returns-else-other-pair-clause-refused g c =
    let role = c.args.role in
    let pair = c.args.pair in
    let a = g.D.Disk.moments c.args.disk.now in
    let b = g.D.Disk.moments c.look_anew.new.disk in
    let front = subst (λ (f : Front). Now b (λ d. FrontIs role d.content f)) c.in-Headed.is c.in_ok-other.ensures.front in
    let headed = headed_now role c.in-Headed.other pair b c.if-other-pair.false front in
    reread_refused role pair c.read_log.result (Rose (g.D.Disk.faults c.look_anew.new.disk) (g.D.Disk.faults c.read_log.new.disk)) (Rose (g.D.Disk.faults c.args.disk.now) (g.D.Disk.faults c.read_log.new.disk)) a b c.ranges.pair.fits (λ rose. omega arith) c.in_ok-other.ensures.stops c.in_ok-other.ensures.restarted headed c.read_log.ensures.read

pub returns-in-HalfOpen-clause-refused : goal.returns-in-HalfOpen-clause-refused
returns-in-HalfOpen-clause-refused g c =
    let role = c.args.role in
    let pair = c.args.pair in
    let a = g.D.Disk.moments c.args.disk.now in
    let b = g.D.Disk.moments c.look_anew.new.disk in
    let front = subst (λ (f : Front). Now b (λ d. FrontIs role d.content f)) c.in-HalfOpen.is c.in_ok-other.ensures.front in
    none_half role pair c.in-HalfOpen.pair a b c.ranges.pair.fits c.in_ok-other.ensures.stops c.in_ok-other.ensures.restarted front

pub returns-in-Bad-clause-refused : goal.returns-in-Bad-clause-refused
returns-in-Bad-clause-refused g c =
    let role = c.args.role in
    let pair = c.args.pair in
    let a = g.D.Disk.moments c.args.disk.now in
    let b = g.D.Disk.moments c.look_anew.new.disk in
    let front = subst (λ (f : Front). Now b (λ d. FrontIs role d.content f)) c.in-Bad.is c.in_ok-other.ensures.front in
    none_bad role pair c.in-Bad.at a b c.ranges.pair.fits c.in_ok-other.ensures.stops c.in_ok-other.ensures.restarted front
