-- One value spells one epoch, and is read so.
use Rattle.std.proofs.Common.{◌≡◌, ◌≤◌, ◌<◌, ℕ, ◌^◌, List, Option, Some, None, sym, ap, ◌∙◌, arith}
use Rattle.byteorder.specs.Endian.{big_bytes}
use Rattle.rec_codec.specs.Reading.{number_at, whole}
use Rattle.rec_codec.proofs.BlockLaws.{u64_reads}
use Rattle.rec_codec.proofs.Readers.{IsBytes, some_is}
use Rattle.rec_codec.proofs.Whole.{whole_again, whole_takes}
use Rattle.pool_keys.specs.Laws.{EpochIsOne}
use Rattle.pool_keys.specs.Values.{SpellsEpoch}

-- an epoch's value is read as that epoch
again : (bytes : List ℕ) (epoch : ℕ) → SpellsEpoch bytes epoch → whole (number_at 8) bytes ≡ Some epoch
again bytes epoch h =
    ap (whole (number_at 8)) h.spelled
    ∙ whole_again (number_at 8) (big_bytes 8) (λ x. x < 256 ^ 8) u64_reads epoch (omega (arith, h.most))

pub epoch_found : (bytes : List ℕ) (epoch : ℕ) → IsBytes bytes → Some epoch ≡ whole (number_at 8) bytes → 1 ≤ epoch → epoch ≤ 2 ^ 62
    → SpellsEpoch bytes epoch
epoch_found bytes epoch fits read least most =
    let took = whole_takes (number_at 8) (big_bytes 8) (λ x. x < 256 ^ 8) u64_reads bytes epoch fits (sym read) in
    record { spelled = took.1; least = least; most = most }

-- what is no number of eight bytes is no epoch
pub epoch_none : (bytes : List ℕ) → None ≡ whole (number_at 8) bytes → (epoch : ℕ) → SpellsEpoch bytes epoch → ⊥
epoch_none bytes read epoch h = let e : ◌≡◌ {A = Option ℕ} None (Some epoch) = read ∙ again bytes epoch h in absurd (cc)

-- nor is a number outside the limits
pub epoch_out : (bytes : List ℕ) (number : ℕ) → Some number ≡ whole (number_at 8) bytes → (1 ≤ number → number ≤ 2 ^ 62 → ⊥)
    → (epoch : ℕ) → SpellsEpoch bytes epoch → ⊥
epoch_out bytes number read out epoch h =
    let same = some_is number epoch (read ∙ again bytes epoch h) in
    out (omega (arith, same, h.least)) (omega (arith, same, h.most))

pub epoch_one : EpochIsOne
epoch_one None a b h k = h ∙ sym k
epoch_one (Some bytes) a b h k = some_is a b (sym (again bytes a h) ∙ again bytes b k)

-- what the reading of an epoch rests on
pub ruleset epoch_rules = (epoch_found, epoch_none, epoch_out)
