use Rattle.std.specs.Prelude.{length, ◌++◌, ◌∷◌, [], take}
use Rattle.std.proofs.Common.{arith, ap, ◌∙◌, subst, sym}
use Rattle.std.proofs.lemmas.List.{length-take}
use Rattle.tier_outside.specs.Disk.{touch, written}
use Rattle.mem_disk.specs.Memory.{IsSound}
use Rattle.mem_disk.specs.Steps.Moments.{moment_of}
use Rattle.mem_disk.proofs.Pushed.{pushed, seen_now, sound_write, now_is, writes}
use Rattle.mem_disk.proofs.platter.Platter.write.Goals as goal

pub returns-clause-ok : goal.returns-clause-ok
returns-clause-ok c =
    pushed (λ d. touch c.args.off (length c.args.bytes.now) (written c.args.off (take c.args.done c.args.bytes.now) d.content) d)
    c.args.self.now c.self.inside.past.items c.push_reserved.new.self.items c.of-before.result c.self.inside.state c.write.new.state c.self.view_is
    (c.push_reserved.ensures.items ∙ ap (λ xs. xs ++ c.of-before.result ∷ []) c.in_ok-reserve.ensures.items) c.of-before.ensures c.in_ok-write.ensures.ok

pub returns-clause-sound : goal.returns-clause-sound
returns-clause-sound c =
    let was = subst IsSound (seen_now c.args.self.now c.self.inside.past.items c.self.inside.state c.self.view_is) c.requires.sound in
    subst IsSound (sym (now_is c.push_reserved.new.self.items c.write.new.state))
    (sound_write c.args.off (length c.args.bytes.now) (moment_of c.self.inside.state) (moment_of c.write.new.state) was
    (writes c.args.off (length c.args.bytes.now) (take c.args.done c.args.bytes.now) _ _ (omega (arith, length-take c.args.done c.args.bytes.now)) c.in_ok-write.ensures.ok))
