-- The head of a log: the tests that it passes, and the first record.
use Rattle.std.specs.Prelude.{◌≡◌, ◌≤◌, ◌^◌, ℕ, Bool, true, false, not, nat_lt, ◌==◌, List, [], ◌∷◌}
use Rattle.std.specs.Prelude.{◌++◌, length, take, drop, slice_index, codes, bytes_eq, Option, Some}
use Rattle.std.specs.Prelude.{None, refl}
use Rattle.std.proofs.Common.{◌∙◌, sym, ap, arith, cond}
use Rattle.std.proofs.lemmas.Bool.Decides.{nat_tests}
use Rattle.std.proofs.lemmas.Slice.Eq.{bytes_eq-Decides}
use Rattle.byteorder.specs.Endian.{big_bytes, big_number}
use Rattle.byteorder.specs.Numbers.{big_from-take}
use Rattle.obj_model.specs.declared.change.Pool.{Pool}
use Rattle.gate_journal.specs.Journals.{Spells}
use Rattle.log_image.specs.Images.{head, role_byte}
use Rattle.log_image.specs.Fronts.{IsHeaded, head_fault}
use Rattle.log_image.proofs.Places.{join_parts, cut_part}

-- the head passes each test
pub record Passes (role : Pool) (image : List ℕ) : Type 0 where
  pub opened : slice_index image 0 ≡ 1
  pub size : take 4 (drop 1 image) ≡ big_bytes 4 17
  pub magic : take 8 (drop 5 image) ≡ codes "RTLOG001"
  pub pool : take 1 (drop 13 image) ≡ role_byte role ∷ []
  pub long : 22 ≤ length image

none_then : (b : Bool) (x : ℕ) (o : Option ℕ) → cond b (Some x) o ≡ None → (b ≡ false) × (o ≡ None)
none_then true x o e = absurd cc
none_then false x o e = (refl, e)

none_from : (b : Bool) (x : ℕ) (o : Option ℕ) → b ≡ false → o ≡ None → cond b (Some x) o ≡ None
none_from b x o p q = rw (p, q) refl

not_false : (b : Bool) → not b ≡ false → b ≡ true
not_false true e = refl
not_false false e = absurd cc

same_bytes : (xs ys : List ℕ) → not (bytes_eq xs ys) ≡ false → xs ≡ ys
same_bytes xs ys e = (bytes_eq-Decides xs ys).0 (not_false (bytes_eq xs ys) e)

bytes_same : (xs ys : List ℕ) → xs ≡ ys → not (bytes_eq xs ys) ≡ false
bytes_same xs ys e = ap not ((bytes_eq-Decides xs ys).1 e)

first_open : (n : ℕ) → not (n == 1) ≡ false → n ≡ 1
first_open n e = grind (arith, nat_tests)

open_first : (n : ℕ) → n ≡ 1 → not (n == 1) ≡ false
open_first n e = grind (arith, nat_tests)

long_enough : (n : ℕ) → nat_lt n 22 ≡ false → 22 ≤ n
long_enough n e = grind (arith, nat_tests)

enough_long : (n : ℕ) → 22 ≤ n → nat_lt n 22 ≡ false
enough_long n e = grind (arith, nat_tests)

-- the tests of a head from one on: the size of its record, the magic, the pool, the last one
abbrev last_tests : List ℕ → Option ℕ
last_tests image = cond (nat_lt (length image) 22) (Some 0) None

abbrev pool_tests : Pool → List ℕ → Option ℕ
pool_tests role image =
    cond (not (bytes_eq (take 1 (drop 13 image)) (role_byte role ∷ []))) (Some 13)
    (last_tests image)

abbrev magic_tests : Pool → List ℕ → Option ℕ
magic_tests role image =
    cond (not (bytes_eq (take 8 (drop 5 image)) (codes "RTLOG001"))) (Some 5)
    (pool_tests role image)

abbrev size_tests : Pool → List ℕ → Option ℕ
size_tests role image =
    cond (not (bytes_eq (take 4 (drop 1 image)) (big_bytes 4 17))) (Some 1) (magic_tests role image)

pub head_passes : (role : Pool) (image : List ℕ) → head_fault role image ≡ None → Passes role image
head_passes role image none =
    let a = none_then (not (slice_index image 0 == 1)) 0 (size_tests role image) none in
    let b =
    none_then (not (bytes_eq (take 4 (drop 1 image)) (big_bytes 4 17))) 1
    (magic_tests role image) a.1 in
    let c =
    none_then (not (bytes_eq (take 8 (drop 5 image)) (codes "RTLOG001"))) 5
    (pool_tests role image) b.1 in
    let d =
    none_then (not (bytes_eq (take 1 (drop 13 image)) (role_byte role ∷ []))) 13
    (last_tests image) c.1 in
    let e = none_then (nat_lt (length image) 22) 0 None d.1 in
    record {
      opened = first_open (slice_index image 0) a.0;
      size = same_bytes (take 4 (drop 1 image)) (big_bytes 4 17) b.0;
      magic = same_bytes (take 8 (drop 5 image)) (codes "RTLOG001") c.0;
      pool = same_bytes (take 1 (drop 13 image)) (role_byte role ∷ []) d.0;
      long = long_enough (length image) e.0;
    }

pub passes_head : (role : Pool) (image : List ℕ) → Passes role image → head_fault role image ≡ None
passes_head role image is =
    none_from (not (slice_index image 0 == 1)) 0 (size_tests role image)
    (open_first (slice_index image 0) is.opened)
    (none_from (not (bytes_eq (take 4 (drop 1 image)) (big_bytes 4 17))) 1 (magic_tests role image)
    (bytes_same (take 4 (drop 1 image)) (big_bytes 4 17) is.size)
    (none_from (not (bytes_eq (take 8 (drop 5 image)) (codes "RTLOG001"))) 5 (pool_tests role image)
    (bytes_same (take 8 (drop 5 image)) (codes "RTLOG001") is.magic)
    (none_from (not (bytes_eq (take 1 (drop 13 image)) (role_byte role ∷ []))) 13 (last_tests image)
    (bytes_same (take 1 (drop 13 image)) (role_byte role ∷ []) is.pool)
    (none_from (nat_lt (length image) 22) 0 None (enough_long (length image) is.long) refl))))

-- the payload of the first record, by its parts
pub head_joined : (role : Pool) (pair : ℕ) (image : List ℕ)
    → take 8 (drop 5 image) ≡ codes "RTLOG001" → take 1 (drop 13 image) ≡ role_byte role ∷ []
    → take 8 (drop 14 image) ≡ big_bytes 8 pair → take 17 (drop 5 image) ≡ head role pair
head_joined role pair image a b c =
    let ab = join_parts 5 8 1 image (codes "RTLOG001") (role_byte role ∷ []) a b in
    join_parts 5 9 8 image (codes "RTLOG001" ++ (role_byte role ∷ [])) (big_bytes 8 pair) ab c

-- the length of the first record, below an end
pub first_size : (end : ℕ) (image : List ℕ) → 5 ≤ end
    → big_number 4 (drop 1 (take end image)) ≡ big_number 4 (take 4 (drop 1 image))
first_size end image low =
    sym (big_from-take 0 4 4 (drop 1 (take end image)) (omega arith))
    ∙ ap (big_number 4) (cut_part 1 4 end image low)

-- the first record of a journal whose head passes is the head
pub headed_first : (role : Pool) (pair : ℕ) (image first : List ℕ) (payloads : List (List ℕ))
    (next : ℕ) → IsHeaded role pair image → Spells 0 (2 ^ 40) image (first ∷ payloads) next
    → first ≡ head role pair
headed_first role pair image first payloads next is spelled =
    let passes : Passes role image = head_passes role image is.tested in
    let record_is = spelled.records.0 in
    let size : big_number 4 (drop 1 (take (2 ^ 40) image)) ≡ 17 =
    first_size (2 ^ 40) image (omega arith) ∙ ap (big_number 4) passes.size in
    let long : length first ≡ 17 = sym record_is.size ∙ size in
    sym record_is.body ∙ ap (λ n. take n (drop 5 (take (2 ^ 40) image))) long
    ∙ cut_part 5 17 (2 ^ 40) image (omega arith)
    ∙ head_joined role pair image passes.magic passes.pool is.pair_bytes
