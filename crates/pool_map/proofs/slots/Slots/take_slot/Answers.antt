use Rattle.std.proofs.Common.{sym, ◌∙◌, ap, subst}
use Rattle.pool_map.specs.Slots.{SlotMap, filled, IsTidy}
use Rattle.pool_map.proofs.Filled.{filled_unroomed}
use Rattle.pool_map.proofs.Tidy.{tidy_taken, tidy_kept, is_a_room, is_no_room}
use Rattle.pool_map.proofs.slots.Slots.take_slot.Goals as goal

pub returns-then-is_room-clause-kept : goal.returns-then-is_room-clause-kept
returns-then-is_room-clause-kept c = ap filled c.take.ensures ∙ filled_unroomed c.args.self.now c.args.key.now (is_a_room _ (sym c.is_room.ensures ∙ c.if-is_room.true))

pub returns-then-is_room-clause-tidy : goal.returns-then-is_room-clause-tidy
returns-then-is_room-clause-tidy c = λ value changes tidy. subst (λ (s : SlotMap). IsTidy s changes) (sym c.take.ensures) (tidy_taken c.args.self.now c.args.key.now value changes tidy)

pub returns-else-is_room-clause-tidy : goal.returns-else-is_room-clause-tidy
returns-else-is_room-clause-tidy c = λ value changes tidy. tidy_kept c.args.self.now c.args.key.now value changes (is_no_room _ (sym c.is_room.ensures ∙ c.if-is_room.false)) tidy
