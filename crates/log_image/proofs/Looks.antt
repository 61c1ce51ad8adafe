-- What the first bytes of a disk tell.
use Rattle.std.specs.Prelude.{◌≡◌, ◌≢◌, ◌⊎◌, ◌≤◌, ◌<◌, ℕ, Bool, true, false, ◌&&◌, nat_lt, IsTrue}
use Rattle.std.specs.Prelude.{◌↔◌, List, [], ◌∷◌, ◌++◌, length, take, drop, slice_index, codes}
use Rattle.std.specs.Prelude.{Option, Some, None, refl}
use Rattle.std.proofs.Common.{◌∙◌, sym, subst, ap, arith, inl, inr, cond}
use Rattle.std.proofs.lemmas.Bool.{cases_lt, le-ltb}
use Rattle.std.proofs.lemmas.Bool.Decides.{nat_tests}
use Rattle.std.proofs.lemmas.List.{length-take, length-drop, take_all, take_at}
use Rattle.std.proofs.lemmas.Slice.Eq.{bytes_eq-Decides}
use Rattle.byteorder.specs.Endian.{big_bytes, big_number}
use Rattle.byteorder.specs.Numbers.{big_from-take, big_from-lt, length-bytes_high_first}
use Rattle.obj_model.specs.declared.change.Pool.{Pool}
use Rattle.tier_outside.specs.Disk.{DiskMoment, Reads}
use Rattle.tier_outside.specs.DiskMoments.{last, Now}
use Rattle.gate_journal.proofs.Records.{index_take}
use Rattle.rec_codec.proofs.BlockLaws.{u64_reads}
use Rattle.rec_codec.proofs.Readers.{IsBytes, IsBytes-drop}
use Rattle.log_image.specs.Images.{IsBlank, IsEmpty, IsHalfOpen, role_byte, rest}
use Rattle.log_image.specs.Fronts.{FrontIs, IsHeaded, IsUnwritten, head_fault, pair_at}
use Rattle.log_image.specs.Steps.Looking.{has_rest, stands}
use Rattle.log_image.specs.declared.front.Front.{Front}
use Rattle.log_image.specs.declared.front.Front.TheVariants.{Blank, HalfOpen, Bad, Headed}
use Rattle.log_image.proofs.Heads.{head_passes}
use Rattle.log_image.proofs.Places.{join_parts, cut_part, inner_part}

apart : false ≡ true → ⊥
apart e = cc

and_parts : (a b : Bool) → (a && b) ≡ true → (a ≡ true) × (b ≡ true)
and_parts true b e = (refl, e)
and_parts false b e = absurd cc

and_from : (a b : Bool) → a ≡ true → b ≡ true → (a && b) ≡ true
and_from a b p q = rw (p, q) refl

-- eight bytes are those of the number that they make
pub number_back : (bytes : List ℕ) → 8 ≤ length bytes → IsBytes bytes
    → take 8 bytes ≡ big_bytes 8 (big_number 8 bytes)
number_back bytes long fits =
    let x : ℕ = big_number 8 bytes in
    let took =
    u64_reads.takes bytes x (drop 8 bytes) fits
    (ap (λ (b : Bool). cond b None (Some (x, drop 8 bytes))) (le-ltb (length bytes) 8 long)) in
    ap (take 8) took.parts ∙ take_at (big_bytes 8 x) (drop 8 bytes) 8 (length-bytes_high_first 8 x)

-- bytes that stand at a place, and those that are there
pub there : (at : ℕ) (wanted image : List ℕ) → stands at wanted image ≡ true
    → take (length wanted) (drop at image) ≡ wanted
there at wanted image e = (bytes_eq-Decides (take (length wanted) (drop at image)) wanted).0 e

pub stand : (at : ℕ) (wanted image : List ℕ) → take (length wanted) (drop at image) ≡ wanted
    → stands at wanted image ≡ true
stand at wanted image e = (bytes_eq-Decides (take (length wanted) (drop at image)) wanted).1 e

-- the parts of what formatting writes behind the first byte, joined
pub rest_joined : (role : Pool) (pair : ℕ) (image : List ℕ) → take 4 (drop 1 image) ≡ big_bytes 4 17
    → take 8 (drop 5 image) ≡ codes "RTLOG001"
    → take 1 (drop 13 image) ≡ role_byte role ∷ [] → take 8 (drop 14 image) ≡ big_bytes 8 pair
    → take 1 (drop 22 image) ≡ 0 ∷ [] → take 22 (drop 1 image) ≡ rest role pair
rest_joined role pair image a b c d e =
    let ab = join_parts 1 4 8 image (big_bytes 4 17) (codes "RTLOG001") a b in
    let abc =
    join_parts 1 12 1 image (big_bytes 4 17 ++ codes "RTLOG001") (role_byte role ∷ []) ab c in
    let abcd =
    join_parts 1 13 8 image ((big_bytes 4 17 ++ codes "RTLOG001") ++ (role_byte role ∷ []))
    (big_bytes 8 pair) abc d in
    join_parts 1 21 1 image (((big_bytes 4 17 ++ codes "RTLOG001") ++ (role_byte role ∷ []))
    ++ big_bytes 8 pair) (0 ∷ []) abcd e

-- the last of it is the byte of a closed gate
pub rest_last : (role : Pool) (image : List ℕ) → has_rest role image ≡ true
    → take 1 (drop 22 image) ≡ 0 ∷ []
rest_last role image is =
    there 22 (0 ∷ []) image (and_parts
    (stands 1 (big_bytes 4 17) image && stands 5 (codes "RTLOG001") image
    && stands 13 (role_byte role ∷ []) image) (stands 22 (0 ∷ []) image) is).1

pub rest_long : (role : Pool) (image : List ℕ) → has_rest role image ≡ true → 23 ≤ length image
rest_long role image is =
    let last =
    rest_last role image is in
    omega (arith, ap length last, length-take 1 (drop 22 image), length-drop 22 image)

-- all of it stands there for the pair whose number stands there
pub rest_of : (role : Pool) (image : List ℕ) → IsBytes image → has_rest role image ≡ true
    → take 22 (drop 1 image) ≡ rest role (pair_at image)
rest_of role image fits is =
    let abc =
    and_parts (stands 1 (big_bytes 4 17) image && stands 5 (codes "RTLOG001") image
    && stands 13 (role_byte role ∷ []) image) (stands 22 (0 ∷ []) image) is in
    let ab =
    and_parts (stands 1 (big_bytes 4 17) image && stands 5 (codes "RTLOG001") image)
    (stands 13 (role_byte role ∷ []) image) abc.0 in
    let a = and_parts (stands 1 (big_bytes 4 17) image) (stands 5 (codes "RTLOG001") image) ab.0 in
    let long : 23 ≤ length image = rest_long role image is in
    rest_joined role (pair_at image) image (there 1 (big_bytes 4 17) image a.0)
    (there 5 (codes "RTLOG001") image a.1) (there 13 (role_byte role ∷ []) image ab.1)
    (number_back (drop 14 image) (omega (arith, length-drop 14 image)) (IsBytes-drop 14 image fits))
    (rest_last role image is)

-- and where it stands for a pair the tests tell so
pub has_rest_of : (role : Pool) (pair : ℕ) (image : List ℕ)
    → take 22 (drop 1 image) ≡ rest role pair → has_rest role image ≡ true
has_rest_of role pair image is =
    let a : stands 1 (big_bytes 4 17) image ≡ true =
    stand 1 (big_bytes 4 17) image
    (inner_part 1 22 0 4 image (rest role pair) is (omega arith)) in
    let b : stands 5 (codes "RTLOG001") image ≡ true =
    stand 5 (codes "RTLOG001") image
    (inner_part 1 22 4 8 image (rest role pair) is (omega arith)) in
    let c : stands 13 (role_byte role ∷ []) image ≡ true =
    stand 13 (role_byte role ∷ []) image
    (inner_part 1 22 12 1 image (rest role pair) is (omega arith)) in
    let d : stands 22 (0 ∷ []) image ≡ true =
    stand 22 (0 ∷ []) image (inner_part 1 22 21 1 image (rest role pair) is (omega arith)) in
    and_from (stands 1 (big_bytes 4 17) image && stands 5 (codes "RTLOG001") image
    && stands 13 (role_byte role ∷ []) image) (stands 22 (0 ∷ []) image)
    (and_from (stands 1 (big_bytes 4 17) image && stands 5 (codes "RTLOG001") image)
    (stands 13 (role_byte role ∷ []) image)
    (and_from (stands 1 (big_bytes 4 17) image) (stands 5 (codes "RTLOG001") image) a b) c) d

-- ---- what the tests tell

pub half_open : (role : Pool) (pair : ℕ) (image : List ℕ) → IsBytes image → slice_index image 0 ≢ 0
    → slice_index image 0 ≢ 1 → has_rest role image ≡ true → pair ≡ pair_at image
    → IsHalfOpen role pair image
half_open role pair image fits some closed staged is = record {
  fits = omega (arith, is, big_from-lt 0 8 (drop 14 image) (IsBytes-drop 14 image fits));
  not_zero = some;
  not_open = closed;
  behind = rest_of role image fits staged ∙ ap (rest role) (sym is);
}

-- a first byte that is not told to be zero
pub not_zero : (image : List ℕ) (zeroed : Bool)
    → IsTrue zeroed ↔ ((0 < length image) × (slice_index image 0 ≡ 0)) → zeroed ≡ false
    → 1 < length image → slice_index image 0 ≢ 0
not_zero image zeroed is none long = λ e. apart (sym none ∙ is.1 (omega arith, e))

-- the number of the pair, read of a part
pub pair_read : (image : List ℕ) (count pair : ℕ) → 8 ≤ count
    → pair ≡ big_number 8 (take count (drop 14 image)) → pair ≡ pair_at image
pair_read image count pair long is = is ∙ big_from-take 0 8 count (drop 14 image) (omega arith)

-- a disk is used where it has more than a byte, which is no zero, and where formatting did not stop
-- at its last write
pub is_used : (role : Pool) (image : List ℕ) → 1 < length image → slice_index image 0 ≢ 0
    → (slice_index image 0 ≡ 1) ⊎ (has_rest role image ≡ false) → ¬ IsEmpty role image
is_used role image long some how = λ empty. impossible empty.0 empty.1 how
  where
    impossible : (pair : ℕ) → IsBlank role pair image
        → (slice_index image 0 ≡ 1) ⊎ (has_rest role image ≡ false) → ⊥
    impossible pair (inl short) how = omega arith
    impossible pair (inr (inl zero)) how = some zero
    impossible pair (inr (inr half)) (inl one) = half.not_open one
    impossible pair (inr (inr half)) (inr none) =
        apart (sym none ∙ has_rest_of role pair image half.behind)

pub headed : (role : Pool) (pair : ℕ) (image : List ℕ) → IsBytes image → ¬ IsEmpty role image
    → head_fault role image ≡ None → pair ≡ pair_at image → IsHeaded role pair image
headed role pair image fits used none is =
    let long : 22 ≤ length image = (head_passes role image none).long in
    record {
      used = used;
      tested = none;
      pair_is = sym is;
      pair_bytes =
          number_back (drop 14 image) (omega (arith, length-drop 14 image))
          (IsBytes-drop 14 image fits) ∙ ap (big_bytes 8) (sym is);
    }

-- ---- what the first bytes tell, the disk tells

fault_seen : (role : Pool) (image : List ℕ)
    → head_fault role (take 23 image) ≡ head_fault role image
fault_seen role image =
    rw (
      index_take 23 image 0 (omega arith),
      cut_part 1 4 23 image (omega arith),
      cut_part 5 8 23 image (omega arith),
      cut_part 13 1 23 image (omega arith),
      long image,
    ) refl
  where
    long : (image : List ℕ) → nat_lt (length (take 23 image)) 22 ≡ nat_lt (length image) 22
    long image = grind (arith, nat_tests, length-take 23 image)

pair_seen : (image : List ℕ) → pair_at (take 23 image) ≡ pair_at image
pair_seen image =
    sym (big_from-take 0 8 8 (drop 14 (take 23 image)) (omega arith))
    ∙ ap (big_number 8) (cut_part 14 8 23 image (omega arith))
    ∙ big_from-take 0 8 8 (drop 14 image) (omega arith)

blank_seen : (role : Pool) (pair : ℕ) (image : List ℕ) → IsBlank role pair image
    → IsBlank role pair (take 23 image)
blank_seen role pair image (inl short) = inl (omega (arith, length-take 23 image))
blank_seen role pair image (inr (inl zero)) = inr (inl (index_take 23 image 0 (omega arith) ∙ zero))
blank_seen role pair image (inr (inr half)) = inr (inr (record {
  fits = half.fits;
  not_zero = λ e. half.not_zero (sym (index_take 23 image 0 (omega arith)) ∙ e);
  not_open = λ e. half.not_open (sym (index_take 23 image 0 (omega arith)) ∙ e);
  behind = cut_part 1 22 23 image (omega arith) ∙ half.behind;
}))

used_seen : (role : Pool) (image : List ℕ) → ¬ IsEmpty role (take 23 image) → ¬ IsEmpty role image
used_seen role image used = λ empty. used (empty.0, blank_seen role empty.0 image empty.1)

pub front_seen : (role : Pool) (front : Front) (image : List ℕ) → FrontIs role (take 23 image) front
    → FrontIs role image front
front_seen role (Blank zeroed) image is = unwritten is
  where
    first : slice_index (take 23 image) 0 ≡ slice_index image 0
    first = index_take 23 image 0 (omega arith)

    unwritten : IsUnwritten (take 23 image) zeroed → IsUnwritten image zeroed
    unwritten is = record {
      blank = elim is.blank [
        | inl short ↦ inl (omega (arith, length-take 23 image))
        | inr zero ↦ inr (sym first ∙ zero)
      ];
      zero_is = (
        λ yes. let h =
            is.zero_is.0 yes in
            let long = h.0 in (omega (arith, length-take 23 image), sym first ∙ h.1),
        λ h. let long = h.0 in is.zero_is.1 (omega (arith, length-take 23 image), first ∙ h.1),
      );
    }
front_seen role (HalfOpen pair) image is = record {
  fits = is.fits;
  not_zero = λ e. is.not_zero (index_take 23 image 0 (omega arith) ∙ e);
  not_open = λ e. is.not_open (index_take 23 image 0 (omega arith) ∙ e);
  behind = sym (cut_part 1 22 23 image (omega arith)) ∙ is.behind;
}
front_seen role (Bad at) image is =
    record { used = used_seen role image is.used; failed = sym (fault_seen role image) ∙ is.failed }
front_seen role (Headed pair) image is =
    record {
      used = used_seen role image is.used;
      tested = sym (fault_seen role image)
          ∙ is.tested;
      pair_is = sym (pair_seen image) ∙ is.pair_is;
      pair_bytes = sym (cut_part 14 8 23 image (omega arith)) ∙ is.pair_bytes;
    }

-- what was read of the front
front_read : (d : DiskMoment) (count : ℕ) (old new : List ℕ) → length old ≡ 23
    → Reads 0 d count old new → take count new ≡ take 23 d.content
front_read d count old new long is =
    elim (cases_lt (length d.content) 23) [
      | inl short ↦ is.bytes ∙ take_all count d.content (omega (arith, is.count_is))
          ∙ sym (take_all 23 d.content (omega arith))
      | inr enough ↦ let all : count ≡ 23 =
          omega (arith, is.count_is) in is.bytes ∙ ap (λ n. take n d.content) all
    ]

pub looked : (role : Pool) (front : Front) (count : ℕ) (a : Option (List DiskMoment))
    (old new bytes : List ℕ) → length old ≡ 23 → Now a (λ d. Reads 0 d count old new)
    → bytes ≡ take count new
    → FrontIs role bytes front → Now a (λ d. FrontIs role d.content front)
looked role front count None old new bytes long read is told = tt
looked role front count (Some ds) old new bytes long read is told =
    front_seen role front (last ds).content
    (subst (λ xs. FrontIs role xs front) (is ∙ front_read (last ds) count old new long read) told)
