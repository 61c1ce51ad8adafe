use Rattle.std.proofs.Common.{sym, ◌∙◌, ap, arith, ◌++◌, ◌∷◌, []}
use Rattle.std.proofs.lemmas.Grind.{common_steps}
use Rattle.pool_map.proofs.Filled.{held_more}
use Rattle.pool_map.proofs.slots.first_keys.Goals as goal

pub loop-key-preserved-in_ok-push : goal.loop-key-preserved-in_ok-push
loop-key-preserved-in_ok-push c = record {
  so_far = held_more (λ k. k.items) (c.in-Some.key.now, c.in-Some.slot.now) c.loop-key.key-iterator c.next.new.self c.loop-key.keys.items c.push.new.self.items _
      c.in-Some.ensures.steps (sym c.is_some.ensures ∙ c.if-is_some.true) (c.in_ok-push.ensures.items ∙ ap (λ k. c.loop-key.keys.items ++ k ∷ []) c.in_ok-copy_of.ensures) c.loop-key.invariant.so_far;
  few = grind (arith, common_steps);
}
