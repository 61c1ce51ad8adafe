-- Requests: what is taken is spelled so, and what is spelled so is taken.
use Rattle.std.proofs.Common.{◌≡◌, ℕ, ◌^◌, ◌<◌, Bool, true, not, leb, ◌&&◌, List, ◌++◌, length, Option, Some, None, refl, sym, ap, subst, ◌∙◌, arith}
use Rattle.std.specs.Prelude.{IfSome, IfNone, is_some}
use Rattle.std.specs.List.{AllByRecursion, flat_map}
use Rattle.std.proofs.lemmas.Bool.{and_parts, and_from, leb-true, le-leb}
use Rattle.std.proofs.lemmas.List.Elements.{All-from_recursion, recursion_from_All}
use Rattle.byteorder.specs.Endian.{big_bytes}
use Rattle.obj_model.specs.Names.{name_fault}
use Rattle.obj_model.specs.Vectors.{vector_fault}
use Rattle.obj_model.specs.declared.req.Req.{Req}
use Rattle.obj_model.specs.declared.sub_op.SubOp.{SubOp}
use Rattle.obj_model.specs.declared.vector.BadVector.{BadVector}
use Rattle.rec_codec.specs.Spelling.{name, sub_op, ops_bytes, req_bytes, IsFit, SpellsReq}
use Rattle.rec_codec.specs.Reading.{then_at, if_at, number_at, name_at, whole}
use Rattle.rec_codec.proofs.Readers.{IsBytes, IsReader, then_reads, behind_reads, if_reads, as_reads, also_reads, Each, each_reads, each_plain, plain_each}
use Rattle.rec_codec.proofs.BlockLaws.{byte_reads, u16_reads, u64_reads, name_reads}
use Rattle.rec_codec.proofs.ReplyLaws.{no_value}
use Rattle.rec_codec.proofs.Whole.{whole_takes, whole_again, apart}
use Rattle.req_codec.specs.Reading.{op_at, ops_at, is_vector, vector_at, parts_at, req_at}
use Rattle.req_codec.proofs.OpLaws.{op_reads}
use Rattle.req_codec.proofs.Vectors.{vector_few}

-- ---- vectors

-- a vector whose parts are of their types
abbrev IsSoundVector : List SubOp → Type 0
IsSoundVector ops = (length ops < 256 ^ 1) × (AllByRecursion IsFit ops × (is_vector ops ≡ true))

counted_reads : (n : ℕ) → IsReader (if_at (ops_at n) is_vector) (flat_map sub_op) (λ ops. ((length ops ≡ n) × Each IsFit (λ _. tt {0}) (λ _ _. true) tt ops) × (is_vector ops ≡ true))
counted_reads n = if_reads (ops_at n) is_vector (flat_map sub_op) (λ ops. (length ops ≡ n) × Each IsFit (λ _. tt {0}) (λ _ _. true) tt ops)
    (each_reads op_at (λ _. tt {0}) (λ _ _. true) sub_op IsFit op_reads tt n)

vector_reads : IsReader vector_at ops_bytes IsSoundVector
unfolding vector_at
vector_reads = behind_reads (number_at 1) (λ n. if_at (ops_at n) is_vector) length (big_bytes 1) (flat_map sub_op) (λ n. n < 256 ^ 1) IsSoundVector byte_reads (λ ops h. h.0)
    (λ n h. also_reads (if_at (ops_at n) is_vector) (flat_map sub_op) (flat_map sub_op) (λ ops. ((length ops ≡ n) × Each IsFit (λ _. tt {0}) (λ _ _. true) tt ops) × (is_vector ops ≡ true)) (λ ops. (length ops ≡ n) × IsSoundVector ops) (counted_reads n) (λ ops. refl)
    (λ ops k. (k.0.0, (subst (λ (m : ℕ). m < 256 ^ 1) (sym k.0.0) h, (each_plain IsFit ops k.0.1, k.1))))
    (λ ops k. ((k.0, plain_each IsFit ops k.1.1.0), k.1.1.1)))

-- ---- requests

abbrev in_range : ℕ → Bool
in_range client = leb 1 client && leb client 256

abbrev is_near : ℕ → Bool
is_near n = leb n (2 ^ 62)

abbrev Parts : Type 0
Parts = ℕ × (ℕ × (List ℕ × List SubOp))

abbrev IsSoundParts : Parts → Type 0
IsSoundParts p = ((p.0 < 256 ^ 2) × (in_range p.0 ≡ true)) × (((p.1.0 < 256 ^ 8) × (is_near p.1.0 ≡ true)) × ((name_fault p.1.1.0 ≡ None) × IsSoundVector p.1.1.1))

abbrev parts_of : Req → Parts
parts_of r = (r.client, (r.tid, (r.name, r.vector)))

-- a request within its limits
abbrev IsSound : Req → Type 0
IsSound r = IsSoundParts (parts_of r)

parts_reads : IsReader parts_at (λ p. big_bytes 2 p.0 ++ (big_bytes 8 p.1.0 ++ (name p.1.1.0 ++ ops_bytes p.1.1.1))) IsSoundParts
parts_reads =
    then_reads (if_at (number_at 2) in_range) (λ _. then_at (if_at (number_at 8) is_near) (λ _. then_at name_at (λ _. vector_at))) (big_bytes 2) (λ p. big_bytes 8 p.0 ++ (name p.1.0 ++ ops_bytes p.1.1)) (λ x. (x < 256 ^ 2) × (in_range x ≡ true)) (λ _ p. ((p.0 < 256 ^ 8) × (is_near p.0 ≡ true)) × ((name_fault p.1.0 ≡ None) × IsSoundVector p.1.1))
    (if_reads (number_at 2) in_range (big_bytes 2) (λ x. x < 256 ^ 2) u16_reads)
    (λ _ _. then_reads (if_at (number_at 8) is_near) (λ _. then_at name_at (λ _. vector_at)) (big_bytes 8) (λ p. name p.0 ++ ops_bytes p.1) (λ x. (x < 256 ^ 8) × (is_near x ≡ true)) (λ _ p. (name_fault p.0 ≡ None) × IsSoundVector p.1)
    (if_reads (number_at 8) is_near (big_bytes 8) (λ x. x < 256 ^ 8) u64_reads)
    (λ _ _. then_reads name_at (λ _. vector_at) name ops_bytes (λ k. name_fault k ≡ None) (λ _. IsSoundVector) name_reads (λ _ _. vector_reads)))

req_reads : IsReader req_at req_bytes IsSound
unfolding req_at
req_reads = as_reads parts_at (λ r. record { client = r.0; tid = r.1.0; name = r.1.1.0; vector = r.1.1.1 }) parts_of
    (λ p. big_bytes 2 p.0 ++ (big_bytes 8 p.1.0 ++ (name p.1.1.0 ++ ops_bytes p.1.1.1))) IsSoundParts IsSound parts_reads (λ p h. (h, refl)) (λ r h. (h, refl))

-- ---- what is within its limits is lawful

no_fault : (o : Option BadVector) → not (is_some o) ≡ true → o ≡ None
no_fault None e = refl
no_fault (Some fault) e = absurd cc

req_sound : (bytes : List ℕ) (r : Req) → SpellsReq bytes r → IsSound r
req_sound bytes r h =
    let low = h.lawful.client_low in
    let high = h.lawful.client_high in
    let near = h.lawful.tid_high in (
      (omega arith, and_from (leb 1 r.client) (leb r.client 256) (le-leb _ _ low) (le-leb _ _ high)),
      (
        (omega arith, le-leb _ _ near),
        (h.named, (vector_few r.vector h.vector, (recursion_from_All IsFit r.vector h.fit, ap (λ (o : Option BadVector). not (is_some o)) h.vector))),
      ),
    )

req_lawful : (bytes : List ℕ) (r : Req) → IsSound r → bytes ≡ req_bytes r → SpellsReq bytes r
req_lawful bytes r h e =
    let c = and_parts (leb 1 r.client) (leb r.client 256) h.0.1 in
    record {
      lawful = record { client_low = leb-true _ _ c.0; client_high = leb-true _ _ c.1; tid_high = leb-true _ _ h.1.0.1 };
      named = h.1.1.0;
      vector = no_fault (vector_fault r.vector) h.1.1.1.1.1;
      fit = All-from_recursion IsFit r.vector h.1.1.1.1.0;
      spelled = e;
    }

pub only_req : (bytes : List ℕ) (r : Req) → SpellsReq bytes r → whole req_at bytes ≡ Some r
only_req bytes r h = ap (λ (l : List ℕ). whole req_at l) h.spelled ∙ whole_again req_at req_bytes IsSound req_reads r (req_sound bytes r h)

pub req_found : (bytes : List ℕ) (o : Option Req) → IsBytes bytes → o ≡ whole req_at bytes → IfSome o (λ r. SpellsReq bytes r)
req_found bytes None fits e = tt
req_found bytes (Some r) fits e = let t = whole_takes req_at req_bytes IsSound req_reads bytes r fits (sym e) in req_lawful bytes r t.0 t.1

pub req_none : (bytes : List ℕ) (o : Option Req) → o ≡ whole req_at bytes → IfNone o ((r : Req) → SpellsReq bytes r → ⊥)
req_none bytes None e = λ r h. no_value r (e ∙ only_req bytes r h)
req_none bytes (Some r) e = tt

pub reqs_apart : (p q : Req) (a b more others : List ℕ) → SpellsReq a p → SpellsReq b q → a ++ more ≡ b ++ others → (p ≡ q) × (more ≡ others)
reqs_apart p q a b more others s t e =
    apart req_at req_bytes IsSound req_reads p q more others (req_sound a p s) (req_sound b q t)
    (ap (λ (l : List ℕ). l ++ more) (sym s.spelled) ∙ e ∙ ap (λ (l : List ℕ). l ++ others) t.spelled)
