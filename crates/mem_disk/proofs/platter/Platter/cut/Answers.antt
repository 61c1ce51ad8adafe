use Rattle.std.specs.Prelude.{length, ◌++◌, ◌∷◌, []}
use Rattle.std.proofs.Common.{arith, ap, ◌∙◌, subst, sym}
use Rattle.tier_outside.specs.Disk.{resized, trim}
use Rattle.mem_disk.specs.Memory.{IsSound}
use Rattle.mem_disk.specs.Steps.Moments.{moment_of}
use Rattle.mem_disk.proofs.Pushed.{cuts, pushed, seen_now, sound_cut, now_is}
use Rattle.mem_disk.proofs.platter.Platter.cut.Goals as goal

pub returns-clause-ok : goal.returns-clause-ok
returns-clause-ok c =
    pushed (λ d. trim c.args.size (resized c.args.part d.content) d)
    c.args.self.now c.self.inside.past.items c.push_reserved.new.self.items c.of-before.result c.self.inside.state c.cut.new.state c.self.view_is
    (c.push_reserved.ensures.items ∙ ap (λ xs. xs ++ c.of-before.result ∷ []) c.in_ok-reserve.ensures.items) c.of-before.ensures c.in_ok-cut.ensures.ok

pub returns-clause-sound : goal.returns-clause-sound
returns-clause-sound c =
    let same = seen_now c.args.self.now c.self.inside.past.items c.self.inside.state c.self.view_is in
    let long = ap (λ d. length d.content) same in
    subst IsSound (sym (now_is c.push_reserved.new.self.items c.cut.new.state))
    (sound_cut c.args.size (moment_of c.self.inside.state) (moment_of c.cut.new.state) (subst IsSound same c.requires.sound)
    (cuts c.args.size c.args.part _ _ (omega (arith, long, c.requires.least)) (omega (arith, long, c.requires.most)) c.in_ok-cut.ensures.ok))
