-- What a walk has found.
use Rattle.std.specs.Prelude.{◌≡◌, ◌≤◌, ◌<◌, ◌+◌, ℕ, List, [], ◌∷◌, ◌++◌, length, take}
use Rattle.std.specs.Prelude.{min, Option, Some, None, Result, Ok, Err, IsErrAnd, refl}
use Rattle.std.proofs.Common.{◌∙◌, sym, subst, ap, arith, inl, inr}
use Rattle.std.proofs.lemmas.Bool.{cases_lt}
use Rattle.std.proofs.lemmas.List.{take_all}
use Rattle.store_face.specs.declared.fault.StoreFault.{StoreFault}
use Rattle.store_face.specs.declared.fault.StoreFault.TheVariants.{Disk, BadImage, NoSpace, Worn}
use Rattle.store_face.specs.declared.fault.StoreFault.TheVariants.{NoMemory}
use Rattle.tier_outside.specs.Causes.{Rose}
use Rattle.tier_outside.specs.Disk.{DiskMoment, IsImage, RangeStands}
use Rattle.tier_outside.specs.DiskMoments.{last, Now}
use Rattle.gate_journal.specs.Calls.{Found, WalkEnds}
use Rattle.gate_journal.specs.Journals.{IsRecord, AreRecords, IsClosed, IsBroken, Means, Spelled}
use Rattle.gate_journal.specs.Journals.{Broken, Spells}
use Rattle.gate_journal.specs.Stands.{StandsAs}
use Rattle.gate_journal.specs.Steps.Reading.{RecordRead}
use Rattle.gate_journal.proofs.Records.{SameBytes, records_push, spells_frame}

pub walk_push : (limit at next : ℕ) (payloads : List (List ℕ)) (payload : List ℕ)
    (a : Option (List DiskMoment)) → Now a (λ d. AreRecords (take limit d.content) at payloads next)
    → Now a (λ d. IsRecord (take limit d.content) next payload)
    → Now a (λ d. AreRecords (take limit d.content) at (payloads ++ payload ∷ [])
    (next + 5 + length payload))
walk_push limit at next payloads payload None are is = tt
walk_push limit at next payloads payload (Some ds) are is =
    records_push (take limit (last ds).content) at payloads next payload are is

-- only bytes of the disk before the end count
take_limit : (size end limit : ℕ) (xs : List ℕ) → size ≡ length xs → limit ≡ min size end
    → take limit xs ≡ take end xs
take_limit size end limit xs all is =
    elim (cases_lt end size) [
      | inl below ↦ let same : limit ≡ end = omega arith in ap (λ n. take n xs) same
      | inr above ↦ take_all limit xs (omega arith) ∙ sym (take_all end xs (omega arith))
    ]

-- the closed gate was found
pub walk_found : (size end limit at next : ℕ) (payloads : List (List ℕ))
    (a : Option (List DiskMoment)) → Now a (λ d. size ≡ length d.content) → limit ≡ min size end
    → Now a (λ d. AreRecords (take limit d.content) at payloads next) → at ≤ next → next < limit
    → Now a (λ d. IsClosed (take limit d.content) next)
    → Found at end a (record { start = at; next = next; end = end }) payloads
walk_found size end limit at next payloads a all is are low high closed =
    record {
      start = refl;
      end_is = refl;
      order = low;
      within = omega arith;
      spelled = spelled a all are closed;
    }
  where
    spelled : (a : Option (List DiskMoment)) → Now a (λ d. size ≡ length d.content)
        → Now a (λ d. AreRecords (take limit d.content) at payloads next)
        → Now a (λ d. IsClosed (take limit d.content) next)
        → Now a (λ d. Means at end d.content (Spelled payloads next))
    spelled None all are closed = tt
    spelled (Some ds) all are closed =
        let same : take limit (last ds).content ≡ take end (last ds).content =
        take_limit size end limit (last ds).content all is in
        record {
          records = subst (λ xs. AreRecords xs at payloads next) same are;
          gate = subst (λ xs. IsClosed xs next) same closed;
        }

-- it broke
pub walk_broken : (size end limit at next : ℕ) (payloads : List (List ℕ))
    (a : Option (List DiskMoment)) → Now a (λ d. size ≡ length d.content) → limit ≡ min size end
    → Now a (λ d. AreRecords (take limit d.content) at payloads next)
    → Now a (λ d. IsBroken (take limit d.content) next)
    → Now a (λ d. Means at end d.content (Broken next))
walk_broken size end limit at next payloads None all is are broken = tt
walk_broken size end limit at next payloads (Some ds) all is are broken =
    let same : take limit (last ds).content ≡ take end (last ds).content =
    take_limit size end limit (last ds).content all is in
    record {
      payloads = payloads;
      records = subst (λ xs. AreRecords xs at payloads next) same are;
      broken = subst (λ xs. IsBroken xs next) same broken;
    }

-- what an image of a disk has where its bytes are settled
pub stands_same : (from to : ℕ) (d : DiskMoment) (image : List ℕ) → RangeStands from to d
    → IsImage d image → SameBytes from to d.stable image
stands_same from to d image stands is =
    record {
      same = λ i above below. is.kept i (omega (arith, stands.within))
          (stands.untouched i above below);
    }

pub stands_read : (at end next : ℕ) (payloads : List (List ℕ)) (d : DiskMoment)
    → IsImage d d.content → Spells at end d.content payloads next → RangeStands at (next + 1) d
    → StandsAs (record { start = at; next = next; end = end }) payloads d
stands_read at end next payloads d is spelled stands =
    let same = stands_same at (next + 1) d d.content stands is in
    record {
      settled = stands;
      spelled =
          spells_frame at end (next + 1) d.content d.stable payloads next spelled
          (record { same = λ i above below. sym (same.same i above below) })
          (omega (arith, stands.there)) (omega arith);
    }

-- a walk over settled bytes leaves a journal that stands
pub walk_stands : (end at next : ℕ) (payloads : List (List ℕ)) (a b : Option (List DiskMoment))
    → b ≡ a → Now a (λ d. IsImage d d.content)
    → Found at end a (record { start = at; next = next; end = end }) payloads
    → Now b (λ d. RangeStands at (next + 1) d
    → StandsAs (record { start = at; next = next; end = end }) payloads d)
walk_stands end at next payloads None b same image found =
    subst (λ ms. Now ms (λ d. RangeStands at (next + 1) d
    → StandsAs (record { start = at; next = next; end = end }) payloads d)) (sym same) tt
walk_stands end at next payloads (Some ds) b same image found =
    subst (λ ms. Now ms (λ d. RangeStands at (next + 1) d
    → StandsAs (record { start = at; next = next; end = end }) payloads d)) (sym same)
    (λ stands. stands_read at end next payloads (last ds) image found.spelled stands)

-- a count that rose later rose
pub rose_earlier : (before middle after : ℕ) → before ≤ middle → Rose middle after
    → Rose before after
rose_earlier before middle after low rose = omega arith

-- a record could not be read
pub walk_refused : (size end limit at next : ℕ) (payloads : List (List ℕ))
    (a : Option (List DiskMoment)) (failed1 failed2 : Type 0) (fault : StoreFault)
    → Now a (λ d. size ≡ length d.content)
    → limit ≡ min size end → Now a (λ d. AreRecords (take limit d.content) at payloads next)
    → (failed1 → failed2) → RecordRead next limit a failed1 (Err fault)
    → WalkEnds at end a failed2 (Err fault)
walk_refused size end limit at next payloads a failed1 failed2 Disk all is are later read =
    later read
walk_refused size end limit at next payloads a failed1 failed2
    (BadImage gate) all is are later read =
    subst (λ n. Now a (λ d. Means at end d.content (Broken n))) (sym read.0)
    (walk_broken size end limit at next payloads a all is are read.1)
walk_refused size end limit at next payloads a failed1 failed2
    (NoSpace u n l) all is are later read = read
walk_refused size end limit at next payloads a failed1 failed2 (Worn l) all is are later read = read
walk_refused size end limit at next payloads a failed1 failed2 NoMemory all is are later read = tt

-- what an error that is handed on is
pub err_is : {T : Type 0} (result : Result T StoreFault) (fault : StoreFault)
    → IsErrAnd result (λ e. e ≡ fault) → result ≡ Err fault
err_is (Ok value) fault is = absurd is
err_is (Err e) fault is = ap Err is
