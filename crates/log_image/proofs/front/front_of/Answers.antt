use Rattle.std.proofs.Common.{◌∙◌, ◌≤◌, ◌≡◌, ◌⊎◌, arith, length, inl, inr, sym, slice_index, false}
use Rattle.std.proofs.Common.{None}
use Rattle.log_image.specs.Fronts.{head_fault}
use Rattle.log_image.specs.Steps.Looking.{has_rest}
use Rattle.log_image.proofs.Heads.{head_passes}
use Rattle.log_image.proofs.Looks.{half_open, headed, is_used, not_zero, rest_long}
use Rattle.log_image.proofs.front.front_of.Goals as goal
use Rattle.log_image.proofs.front.front_of.Goals.{else-bytes-ne-OPEN-via-then-bytes-ne-OPEN+else-has_rest}
use Rattle.log_image.proofs.front.front_of.Goals.{else-bytes-ne-OPEN-via-else-bytes-ne-OPEN}

pub pair_at-requires : goal.pair_at-requires
pair_at-requires c =
    omega (
      arith,
      rest_long c.args.role c.args.bytes.now
          (sym c.has_rest.ensures ∙ c.if-has_rest.true),
    )

pub returns-then-has_rest : goal.returns-then-has_rest
returns-then-has_rest c =
    let image = c.args.bytes.now in
    half_open c.args.role c.pair_at.result image (λ i. omega (arith, c.type_inv.bytes i))
    (not_zero image c.begins_with_zero-zeroed.result c.begins_with_zero-zeroed.ensures
    c.if-zeroed.false (omega arith)) c.if-bytes-ne-OPEN.true
    (sym c.has_rest.ensures ∙ c.if-has_rest.true) c.pair_at.ensures

pub pair_at-requires-in-None : goal.pair_at-requires-in-None
pair_at-requires-in-None c =
    let passes =
    head_passes c.args.role c.args.bytes.now (sym c.head_fault.ensures ∙ c.in-None.is) in
    passes.long

pub returns-in-None : goal.returns-in-None
returns-in-None c =
    let image = c.args.bytes.now in
    let how : (slice_index image 0 ≡ 1) ⊎ (has_rest c.args.role image ≡ false) =
    elim c.else-bytes-ne-OPEN.branch [
      | else-bytes-ne-OPEN-via-then-bytes-ne-OPEN+else-has_rest w ↦ inr
          (sym w.has_rest.ensures ∙ w.if-has_rest.false)
      | else-bytes-ne-OPEN-via-else-bytes-ne-OPEN w ↦ inl w.if-bytes-ne-OPEN.false
    ] in
    let none : head_fault c.args.role image ≡ None = sym c.head_fault.ensures ∙ c.in-None.is in
    let long : 22 ≤ length image = (head_passes c.args.role image none).long in
    headed c.args.role c.pair_at-in-None.result image (λ i. omega (arith, c.type_inv.bytes i))
    (is_used c.args.role image (omega arith)
    (not_zero image c.begins_with_zero-zeroed.result c.begins_with_zero-zeroed.ensures
    c.if-zeroed.false (omega arith)) how) none
    c.pair_at-in-None.ensures
