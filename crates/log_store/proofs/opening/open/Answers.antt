use Rattle.std.proofs.Common.{subst, refl}
use Rattle.tier_outside.specs.DiskMoments.{Now}
use Rattle.log_image.specs.Fronts.{FrontIs}
use Rattle.log_image.specs.declared.front.Front.{Front}
use Rattle.log_store.proofs.Opens.{half_blank, headed_now, of_other, opening_made, opening_read, read_bad, read_opens, read_stands, unwritten_blank}
use Rattle.log_store.proofs.opening.open.Goals as goal

pub returns-in_err-zeroed-clause-stops : goal.returns-in_err-zeroed-clause-stops
returns-in_err-zeroed-clause-stops g c =
    opening_read c.args.role c.args.pair (g.D.Disk.moments c.args.disk.now) (g.D.Disk.moments c.look_anew.new.disk) (g.D.Disk.moments c.look_anew.new.disk) c.in_err-zeroed.ensures.stops refl

pub returns-then-half-pair-clause-stops : goal.returns-then-half-pair-clause-stops
returns-then-half-pair-clause-stops g c =
    opening_read c.args.role c.args.pair (g.D.Disk.moments c.args.disk.now) (g.D.Disk.moments c.look_anew.new.disk) (g.D.Disk.moments c.look_anew.new.disk) c.in_ok-zeroed.ensures.stops refl

pub returns-then-found-pair-clause-stops : goal.returns-then-found-pair-clause-stops
returns-then-found-pair-clause-stops g c =
    opening_read c.args.role c.args.pair (g.D.Disk.moments c.args.disk.now) (g.D.Disk.moments c.look_anew.new.disk) (g.D.Disk.moments c.look_anew.new.disk) c.in_ok-zeroed.ensures.stops refl

pub returns-in-Bad-clause-stops : goal.returns-in-Bad-clause-stops
returns-in-Bad-clause-stops g c =
    opening_read c.args.role c.args.pair (g.D.Disk.moments c.args.disk.now) (g.D.Disk.moments c.look_anew.new.disk) (g.D.Disk.moments c.look_anew.new.disk) c.in_ok-zeroed.ensures.stops refl

pub returns-in-Ok-clause-stops : goal.returns-in-Ok-clause-stops
returns-in-Ok-clause-stops g c =
    opening_read c.args.role c.args.pair (g.D.Disk.moments c.args.disk.now) (g.D.Disk.moments c.look_anew.new.disk) (g.D.Disk.moments c.read_log.new.disk) c.in_ok-zeroed.ensures.stops c.in-Ok.ensures.same

pub returns-in-Err-Disk-clause-stops : goal.returns-in-Err-Disk-clause-stops
returns-in-Err-Disk-clause-stops g c =
    opening_read c.args.role c.args.pair (g.D.Disk.moments c.args.disk.now) (g.D.Disk.moments c.look_anew.new.disk) (g.D.Disk.moments c.read_log.new.disk) c.in_ok-zeroed.ensures.stops c.in-Err-Disk.ensures.same

pub returns-in-Err-BadImage-clause-stops : goal.returns-in-Err-BadImage-clause-stops
returns-in-Err-BadImage-clause-stops g c =
    opening_read c.args.role c.args.pair (g.D.Disk.moments c.args.disk.now) (g.D.Disk.moments c.look_anew.new.disk) (g.D.Disk.moments c.read_log.new.disk) c.in_ok-zeroed.ensures.stops c.in-Err-BadImage.ensures.same

pub returns-in-Err-clause-stops : goal.returns-in-Err-clause-stops
returns-in-Err-clause-stops g c =
    opening_read c.args.role c.args.pair (g.D.Disk.moments c.args.disk.now) (g.D.Disk.moments c.look_anew.new.disk) (g.D.Disk.moments c.read_log.new.disk) c.in_ok-zeroed.ensures.stops c.in-Err.ensures.same

pub returns-in_err-journal-in-Blank-clause-stops : goal.returns-in_err-journal-in-Blank-clause-stops
returns-in_err-journal-in-Blank-clause-stops g c =
    let role = c.args.role in
    let pair = c.args.pair in
    let a = g.D.Disk.moments c.args.disk.now in
    let b = g.D.Disk.moments c.look_anew.new.disk in
    let front = subst (λ (f : Front). Now b (λ d. FrontIs role d.content f)) c.in-Blank.is c.in_ok-zeroed.ensures.front in
    opening_made role pair a b (g.D.Disk.moments c.format_log.new.disk) c.in_ok-zeroed.ensures.stops c.in_ok-zeroed.ensures.restarted (unwritten_blank role pair c.in-Blank.zeroed b front) c.in_err-journal-in-Blank.ensures.any_moment

pub returns-in_ok-journal-in-Blank-clause-stops : goal.returns-in_ok-journal-in-Blank-clause-stops
returns-in_ok-journal-in-Blank-clause-stops g c =
    let role = c.args.role in
    let pair = c.args.pair in
    let a = g.D.Disk.moments c.args.disk.now in
    let b = g.D.Disk.moments c.look_anew.new.disk in
    let front = subst (λ (f : Front). Now b (λ d. FrontIs role d.content f)) c.in-Blank.is c.in_ok-zeroed.ensures.front in
    opening_made role pair a b (g.D.Disk.moments c.format_log.new.disk) c.in_ok-zeroed.ensures.stops c.in_ok-zeroed.ensures.restarted (unwritten_blank role pair c.in-Blank.zeroed b front) c.in_ok-journal-in-Blank.ensures.any_moment

pub returns-in_err-journal-in-HalfOpen-clause-stops : goal.returns-in_err-journal-in-HalfOpen-clause-stops
returns-in_err-journal-in-HalfOpen-clause-stops g c =
    let role = c.args.role in
    let pair = c.args.pair in
    let a = g.D.Disk.moments c.args.disk.now in
    let b = g.D.Disk.moments c.look_anew.new.disk in
    let front = subst (λ (f : Front). Now b (λ d. FrontIs role d.content f)) c.in-HalfOpen.is c.in_ok-zeroed.ensures.front in
    opening_made role pair a b (g.D.Disk.moments c.finish_format.new.disk) c.in_ok-zeroed.ensures.stops c.in_ok-zeroed.ensures.restarted (half_blank role c.in-HalfOpen.half pair b c.if-half-pair.false front) c.in_err-journal-in-HalfOpen.ensures.any_moment

pub returns-in_ok-journal-in-HalfOpen-clause-stops : goal.returns-in_ok-journal-in-HalfOpen-clause-stops
returns-in_ok-journal-in-HalfOpen-clause-stops g c =
    let role = c.args.role in
    let pair = c.args.pair in
    let a = g.D.Disk.moments c.args.disk.now in
    let b = g.D.Disk.moments c.look_anew.new.disk in
    let front = subst (λ (f : Front). Now b (λ d. FrontIs role d.content f)) c.in-HalfOpen.is c.in_ok-zeroed.ensures.front in
    opening_made role pair a b (g.D.Disk.moments c.finish_format.new.disk) c.in_ok-zeroed.ensures.stops c.in_ok-zeroed.ensures.restarted (half_blank role c.in-HalfOpen.half pair b c.if-half-pair.false front) c.in_ok-journal-in-HalfOpen.ensures.any_moment

pub returns-then-found-pair-clause-refused : goal.returns-then-found-pair-clause-refused
returns-then-found-pair-clause-refused g c =
    let role = c.args.role in
    let pair = c.args.pair in
    let a = g.D.Disk.moments c.args.disk.now in
    let b = g.D.Disk.moments c.look_anew.new.disk in
    let front = subst (λ (f : Front). Now b (λ d. FrontIs role d.content f)) c.in-Headed.is c.in_ok-zeroed.ensures.front in
    (refl, c.if-found-pair.true, of_other role c.in-Headed.found a b c.in_ok-zeroed.ensures.stops c.in_ok-zeroed.ensures.restarted front)

pub returns-in-Ok-clause-opened : goal.returns-in-Ok-clause-opened
returns-in-Ok-clause-opened g c =
    let role = c.args.role in
    let pair = c.args.pair in
    let a = g.D.Disk.moments c.args.disk.now in
    let b = g.D.Disk.moments c.look_anew.new.disk in
    let front = subst (λ (f : Front). Now b (λ d. FrontIs role d.content f)) c.in-Headed.is c.in_ok-zeroed.ensures.front in
    let headed = headed_now role c.in-Headed.found pair b c.if-found-pair.false front in
    read_opens role pair c.in-Ok.held.0 c.in-Ok.held.1 a b c.in_ok-zeroed.ensures.stops c.in_ok-zeroed.ensures.restarted headed c.in-Ok.ensures.read

pub returns-in-Ok-clause-stands : goal.returns-in-Ok-clause-stands
returns-in-Ok-clause-stands g c =
    let role = c.args.role in
    let pair = c.args.pair in
    let a = g.D.Disk.moments c.args.disk.now in
    let b = g.D.Disk.moments c.look_anew.new.disk in
    let front = subst (λ (f : Front). Now b (λ d. FrontIs role d.content f)) c.in-Headed.is c.in_ok-zeroed.ensures.front in
    let headed = headed_now role c.in-Headed.found pair b c.if-found-pair.false front in
    read_stands role pair c.in-Ok.held.0 c.in-Ok.held.1 b (g.D.Disk.moments c.read_log.new.disk) c.in-Ok.ensures.same c.in_ok-zeroed.ensures.settled headed c.in-Ok.ensures.read

pub returns-in-Err-BadImage-clause-refused : goal.returns-in-Err-BadImage-clause-refused
returns-in-Err-BadImage-clause-refused g c =
    let role = c.args.role in
    let pair = c.args.pair in
    let a = g.D.Disk.moments c.args.disk.now in
    let b = g.D.Disk.moments c.look_anew.new.disk in
    let front = subst (λ (f : Front). Now b (λ d. FrontIs role d.content f)) c.in-Headed.is c.in_ok-zeroed.ensures.front in
    let headed = headed_now role c.in-Headed.found pair b c.if-found-pair.false front in
    let none = rw c.in-Err-BadImage.field-0-is at c.in-Err-BadImage.ensures.read in
    read_bad role pair c.in-Err-BadImage.at a b c.in_ok-zeroed.ensures.stops c.in_ok-zeroed.ensures.restarted headed none
