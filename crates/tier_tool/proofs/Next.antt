-- A run goes on from what the one before it left.
use Rattle.std.proofs.Common.{◌≡◌, ℕ, List, inl, inr, sym, ap, subst, arith}
use Rattle.obj_model.specs.declared.change.Pool.TheVariants.{Base}
use Rattle.log_image.specs.Images.{HoldsLog}
use Rattle.store_face.specs.Views.{Durable}
use Rattle.log_image.proofs.LogLaws.{a_log_is_headed, one_log}
use Rattle.log_store.specs.Opens.{OpensAs}
use Rattle.tier_tool.specs.Bases.{StandsFor}
use Rattle.tier_tool.specs.Laws.{TheNextRunGoesOn}

-- a disk that is a log is opened as that log
same_log : (image : List ℕ) (was log : Durable) → HoldsLog Base 257 image was → OpensAs Base 257 log image → log ≡ was
same_log image was log holds (inl blank) = absurd ((a_log_is_headed Base 257 image was holds (omega arith)).used (257, blank.0))
same_log image was log holds (inr also) = one_log Base 257 image log was also holds

pub next_run : TheNextRunGoesOn
next_run image was log store holds stands opens =
    let same = same_log image was log holds opens in
    (subst (λ (d : Durable). StandsFor d.table store) (sym same) stands, ap (λ (d : Durable). d.used) same)
