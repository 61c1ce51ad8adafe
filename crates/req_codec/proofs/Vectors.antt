-- What a vector has few and little of.
use Rattle.std.proofs.Common.{◌≡◌, ℕ, ◌+◌, ◌-◌, ◌^◌, ◌<◌, ◌≤◌, Bool, true, false, cond, ltb, eqb, List, [], ◌∷◌, map, length, All, Option, Some, None, refl, sym, ap, ◌∙◌, arith}
use Rattle.std.specs.Prelude.{min, sum}
use Rattle.std.specs.List.{AllByRecursion}
use Rattle.std.proofs.lemmas.Bool.{ltb-false}
use Rattle.std.proofs.lemmas.List.Elements.{All-from_recursion}
use Rattle.std.proofs.lemmas.List.Sums.{sum_by-cons, sum-map}
use Rattle.obj_model.specs.SubOps.{payload}
use Rattle.obj_model.specs.Vectors.{payload_of, far_place, mixed_place, fault_or, vector_fault}
use Rattle.obj_model.specs.declared.sub_op.SubOp.{SubOp}
use Rattle.obj_model.specs.declared.vector.BadVector.{BadVector}
use Rattle.obj_model.specs.declared.vector.BadVector.TheVariants.{Empty, TooMany, Far, Mixed, Heavy}
use Rattle.req_codec.specs.Steps.{IsLight}

none_else : {A : Type 0} (b : Bool) (x : A) (o : Option A) → cond b (Some x) o ≡ None → (b ≡ false) × (o ≡ None)
none_else true x o e = absurd cc
none_else false x o e = (refl, e)

none_next : (fault : ℕ → BadVector) (place : Option ℕ) (next : Option BadVector) → fault_or fault place next ≡ None → next ≡ None
none_next fault (Some at) next e = absurd cc
none_next fault None next e = e

-- the parts of a sum are no more than the sum
each_light : (limit : ℕ) (ops : List SubOp) → sum (map payload ops) ≤ limit → AllByRecursion (λ o. payload o ≤ limit) ops
each_light limit [] h = tt
each_light limit (o ∷ ops) h =
    let e : sum (map payload (o ∷ ops)) ≡ payload o + sum (map payload ops) = sum-map payload (o ∷ ops) ∙ sum_by-cons payload o ops ∙ ap (λ (n : ℕ). payload o + n) (sym (sum-map payload ops)) in
    (omega (arith, e), each_light limit ops (omega (arith, e)))

few_then : (ops : List SubOp) → vector_fault ops ≡ None → (length ops ≤ 16) × (min (sum (map payload ops)) (2 ^ 64 - 1) ≤ 16777216)
few_then ops e =
    let heavy = cond (ltb 16777216 (payload_of ops)) (Some (Heavy (payload_of ops))) None in
    let mixed = fault_or Mixed (mixed_place ops) (cond (ltb 16777216 (payload_of ops)) (Some (Heavy (payload_of ops))) None) in
    let a = none_else (eqb (length ops) 0) Empty _ e in
    let b = none_else (ltb 16 (length ops)) (TooMany (length ops)) _ a.1 in
    let c = none_next Far (far_place ops) mixed b.1 in
    let d = none_next Mixed (mixed_place ops) heavy c in
    let f = none_else (ltb 16777216 (payload_of ops)) (Heavy (payload_of ops)) None d in
    (ltb-false _ _ b.0, ltb-false _ _ f.0)

pub vector_few : (ops : List SubOp) → vector_fault ops ≡ None → length ops < 256
vector_few ops e = let few = (few_then ops e).0 in omega arith

pub vector_light : (ops : List SubOp) → vector_fault ops ≡ None → All IsLight ops
vector_light ops e = let light = (few_then ops e).1 in All-from_recursion IsLight ops (each_light 16777216 ops (omega arith))
