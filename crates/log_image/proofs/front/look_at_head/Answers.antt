use Rattle.std.proofs.Common.{refl}
use Rattle.log_image.proofs.Looks.{looked}
use Rattle.log_image.proofs.front.look_at_head.Goals as goal

pub returns-clause-front : goal.returns-clause-front
returns-clause-front g c =
    looked c.args.role _ c.in_ok-count.count
    (g.D.Disk.moments c.args.disk.now) _ c.read_at.new.buf _ refl c.in_ok-count.ensures.bytes refl
    c.front_of.ensures
