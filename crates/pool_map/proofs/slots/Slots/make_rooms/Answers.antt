use Rattle.std.proofs.Common.{◌∙◌, sym, subst, ◌≡◌, take, arith, refl, rules, ℕ, ◌<◌, List, length, slice_index_or}
use Rattle.obj_model.specs.declared.change.Change.{Change}
use Rattle.std.specs.List.{All}
use Rattle.std.proofs.lemmas.List.{take_all}
use Rattle.pool_map.specs.Slots.{HasRoom, IsCovered}
use Rattle.pool_map.proofs.Filled.{rooms_so_far}
use Rattle.pool_map.proofs.Tidy.{tidy_any, covered_at}
use Rattle.pool_map.proofs.slots.Slots.make_rooms.Goals as goal

pub loop-change-init : goal.loop-change-init
loop-change-init c = record { kept = refl; made = search rules; tidy = tidy_any c.args.self.now c.args.changes.now }

covered : (i : ℕ) (cs : List Change) (c : Change) → c ≡ slice_index_or cs i c → i < length cs → IsCovered cs c
covered i cs c is lt = subst (IsCovered cs) (sym is) (covered_at cs i c lt)

pub loop-change-preserved : goal.loop-change-preserved
loop-change-preserved c = record {
  kept = c.make_room.ensures.kept ∙ c.loop-change.invariant.kept;
  made = rooms_so_far c.loop-change.self c.make_room.new.self c.args.changes.now c.loop-change.change-index c.change-item.result c.change-item.is
      c.loop-change-test.true c.make_room.ensures.stays c.in_ok-make_room.ensures.made c.loop-change.invariant.made;
  tidy = λ h. c.make_room.ensures.tidy c.args.changes.now (covered _ _ c.change-item.result c.change-item.is c.loop-change-test.true) (c.loop-change.invariant.tidy h);
}

pub returns-in_err-make_room-clause-tidy : goal.returns-in_err-make_room-clause-tidy
returns-in_err-make_room-clause-tidy c = λ h. c.make_room.ensures.tidy c.args.changes.now (covered _ _ c.change-item.result c.change-item.is c.loop-change-test.true) (c.loop-change.invariant.tidy h)

pub returns-clause-made : goal.returns-clause-made
returns-clause-made c =
    let all : take c.loop-change.change-index c.args.changes.now ≡ c.args.changes.now = take_all c.loop-change.change-index c.args.changes.now (omega (arith, c.loop-change-test.false)) in
    subst (All (HasRoom c.loop-change.self)) all c.loop-change.invariant.made
