-- Records of the cache: what is taken is spelled so, and what is spelled so is taken.
use Rattle.std.proofs.Common.{◌≡◌, ℕ, zero, suc, ◌^◌, ◌<◌, ◌≤◌, Bool, true, false, leb, eqb, List, [], ◌∷◌, ◌++◌, Option, Some, None, refl, sym, ap, ◌∙◌, arith}
use Rattle.std.specs.Prelude.{IfSome, IfNone}
use Rattle.std.proofs.lemmas.Bool.{leb-true}
use Rattle.byteorder.specs.Endian.{big_bytes}
use Rattle.rec_codec.specs.Spelling.{state_bytes, mark, tier_bytes, TierParts, SpellsParts, HaveOneSpelling}
use Rattle.rec_codec.specs.Reading.{then_at, if_at, number_at, state_at, mark_at, tier_at, whole}
use Rattle.rec_codec.proofs.Readers.{IsBytes, IsReader, then_reads, if_reads, as_reads}
use Rattle.rec_codec.proofs.BlockLaws.{byte_reads, u64_reads}
use Rattle.rec_codec.proofs.ReplyLaws.{no_value}
use Rattle.rec_codec.proofs.StateLaws.{IsSound, state_reads}
use Rattle.rec_codec.proofs.Whole.{whole_takes, whole_again, apart, state_lawful, state_sound}

mark_back : (n : ℕ) → n ≤ 1 → mark (eqb n 1) ≡ n
mark_back zero h = refl
mark_back (suc zero) h = refl
mark_back (suc (suc n)) h = absurd (omega arith)

mark_again : (b : Bool) → ((mark b < 256 ^ 1) × (leb (mark b) 1 ≡ true)) × (eqb (mark b) 1 ≡ b)
mark_again false = ((omega arith, refl), refl)
mark_again true = ((omega arith, refl), refl)

mark_reads : IsReader mark_at (λ b. big_bytes 1 (mark b)) (λ _. Unit {0})
unfolding mark_at
mark_reads = as_reads (if_at (number_at 1) (λ n. leb n 1)) (λ n. eqb n 1) mark (big_bytes 1) (λ n. (n < 256 ^ 1) × (leb n 1 ≡ true)) (λ _. Unit {0})
    (if_reads (number_at 1) (λ n. leb n 1) (big_bytes 1) (λ n. n < 256 ^ 1) byte_reads)
    (λ n h. (tt, mark_back n (leb-true _ _ h.1))) (λ b h. mark_again b)

-- a record within its limits
abbrev pub IsSoundTier : TierParts → Type 0
IsSoundTier r = IsSound r.0 × (Unit {0} × (r.2 < 256 ^ 8))

abbrev spelled_parts : TierParts → List ℕ
spelled_parts r = state_bytes r.0 ++ (big_bytes 1 (mark r.1) ++ big_bytes 8 r.2)

pub tier_reads : IsReader tier_at spelled_parts IsSoundTier
unfolding tier_at
tier_reads = as_reads (then_at state_at (λ _. then_at mark_at (λ _. number_at 8))) (λ r. (r.0, r.1.0, r.1.1)) (λ r. (r.0, (r.1, r.2)))
    (λ p. state_bytes p.0 ++ (big_bytes 1 (mark p.1.0) ++ big_bytes 8 p.1.1)) (λ p. IsSound p.0 × (Unit {0} × (p.1.1 < 256 ^ 8))) IsSoundTier
    (then_reads state_at (λ _. then_at mark_at (λ _. number_at 8)) state_bytes (λ p. big_bytes 1 (mark p.0) ++ big_bytes 8 p.1) IsSound (λ _ p. Unit {0} × (p.1 < 256 ^ 8)) state_reads
    (λ _ _. then_reads mark_at (λ _. number_at 8) (λ b. big_bytes 1 (mark b)) (big_bytes 8) (λ _. Unit {0}) (λ _ x. x < 256 ^ 8) mark_reads (λ _ _. u64_reads)))
    (λ p h. (h, refl)) (λ r h. (h, refl))

mark_byte : (b : Bool) → big_bytes 1 (mark b) ≡ mark b ∷ []
mark_byte false = refl
mark_byte true = refl

tier_spelled : (r : TierParts) → spelled_parts r ≡ tier_bytes r.0 r.1 r.2
tier_spelled r = ap (λ (l : List ℕ). state_bytes r.0 ++ (l ++ big_bytes 8 r.2)) (mark_byte r.1)

tier_sound : (bytes : List ℕ) (r : TierParts) → SpellsParts bytes r → IsSoundTier r
tier_sound bytes r h = let timed = h.timed in (state_sound r.0 h.lawful h.typed, (tt, omega arith))

pub only_tier : (bytes : List ℕ) (r : TierParts) → SpellsParts bytes r → whole tier_at bytes ≡ Some r
only_tier bytes r h =
    ap (λ (l : List ℕ). whole tier_at l) (h.spelled ∙ sym (tier_spelled r))
    ∙ whole_again tier_at spelled_parts IsSoundTier tier_reads r (tier_sound bytes r h)

pub tier_found : (bytes : List ℕ) (o : Option TierParts) → IsBytes bytes → o ≡ whole tier_at bytes → IfSome o (λ r. SpellsParts bytes r)
tier_found bytes None fits e = tt
tier_found bytes (Some r) fits e =
    let t = whole_takes tier_at spelled_parts IsSoundTier tier_reads bytes r fits (sym e) in
    let h = state_lawful r.0 t.0.0 in
    let late = t.0.1.1 in
    record { lawful = h.0; typed = h.1; timed = omega arith; spelled = t.1 ∙ tier_spelled r }

pub tier_none : (bytes : List ℕ) (o : Option TierParts) → o ≡ whole tier_at bytes → IfNone o ((r : TierParts) → SpellsParts bytes r → ⊥)
tier_none bytes None e = λ r h. no_value r (e ∙ only_tier bytes r h)
tier_none bytes (Some r) e = tt

pub tiers_apart : HaveOneSpelling SpellsParts
tiers_apart r s a b more others p q same =
    apart tier_at spelled_parts IsSoundTier tier_reads r s more others (tier_sound a r p) (tier_sound b s q)
    (ap (λ (l : List ℕ). l ++ more) (tier_spelled r ∙ sym p.spelled) ∙ same ∙ ap (λ (l : List ℕ). l ++ others) (q.spelled ∙ sym (tier_spelled s)))
