-- The two outcomes of cleaning.
use Rattle.std.proofs.Common.{◌≡◌, ℕ, Bool, true, false, Result, Ok, Err, nat_eq, refl, arith}
use Rattle.tier_types.specs.declared.record.TierRec.{TierRec}
use Rattle.tier_rec.specs.Records.{cleaned_record}
use Rattle.tier_rec.specs.Laws.{CleanedAtItsSeq, RefusedAtAnother}

pub cleaned_at_its_seq : (r : TierRec) (seq : ℕ) → CleanedAtItsSeq r seq
cleaned_at_its_seq r seq c h = grind (arith, h)

pub refused_at_another : (r : TierRec) (seq : ℕ) → RefusedAtAnother r seq
refused_at_another r seq b h = grind (arith, h)
