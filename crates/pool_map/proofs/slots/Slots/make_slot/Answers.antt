use Rattle.std.proofs.Common.{sym, ◌∙◌, ap, subst, ◌≡◌, None, IsSome}
use Rattle.std.specs.FinMap as fin
use Rattle.pool_map.specs.Slots.{SlotMap, filled, HasRoom, IsTidy}
use Rattle.pool_map.proofs.Filled.{not_there, filled_room, room_made, room_stays}
use Rattle.pool_map.proofs.Tidy.{tidy_room}
use Rattle.pool_map.proofs.slots.Slots.make_slot.Goals as goal

-- the slots with one more, which is empty
put : (c : goal.In_ok-set) → c.set.new.self ≡ fin.insert c.args.self.now c.args.key.now None
put c = c.in_ok-set.ensures.put ∙ ap (λ k. fin.insert c.args.self.now k None) (c.into_vec.ensures ∙ c.in_ok-clone.ensures.cases)

pub returns-clause-kept : goal.returns-clause-kept
returns-clause-kept c =
    ap filled (put c) ∙ filled_room c.args.self.now c.args.key.now
    (ap (fin.get c.args.self.now) (sym c.as_slice.ensures) ∙ sym c.slot.ensures ∙ not_there c.slot.result (sym c.is_some.ensures ∙ c.if-is_some.false))

pub returns-clause-made : goal.returns-clause-made
returns-clause-made c = subst (λ (n : SlotMap). IsSome (fin.get n c.args.key.now)) (sym (put c)) (room_made c.args.self.now c.args.key.now None)

pub returns-clause-stays : goal.returns-clause-stays
returns-clause-stays c = λ other h. subst (λ (n : SlotMap). HasRoom n other) (sym (put c)) (room_stays c.args.self.now c.args.key.now None other h)

pub returns-clause-tidy : goal.returns-clause-tidy
returns-clause-tidy c = λ changes among tidy. subst (λ (n : SlotMap). IsTidy n changes) (sym (put c)) (tidy_room c.args.self.now c.args.key.now changes among tidy)
