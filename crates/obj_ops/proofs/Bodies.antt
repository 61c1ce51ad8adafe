-- Bodies before and after a change.
use Rattle.std.proofs.Common.{◌≡◌, ◌≤◌, ℕ, ◌+◌, ◌-◌, min, List, [], ◌∷◌, ◌++◌, length, take, drop}
use Rattle.std.proofs.Common.{ap, ◌∙◌, arith}
use Rattle.std.specs.Prelude.{replicate}
use Rattle.std.proofs.lemmas.List.{length-append, length-take, length-drop, length-replicate}
use Rattle.obj_ops.specs.Effects.{resized, written, zeroed}

zeros : (n : ℕ) → length (replicate {A = ℕ} n 0) ≡ n
zeros n = length-replicate n 0

pub length-resized : (size : ℕ) (body : List ℕ) → length (resized size body) ≡ size
length-resized size body =
    let e = length-append (take size body) (replicate (size - length body) 0) in
    let t = length-take size body in
    let r = zeros (size - length body) in
    omega arith

length-three : (xs ys zs : List ℕ) → length (xs ++ ys ++ zs) ≡ length xs + length ys + length zs
length-three xs ys zs = length-append (xs ++ ys) zs ∙ ap (λ n. n + length zs) (length-append xs ys)

-- what is written keeps below a limit that its end and the body keep
pub written_short : (off : ℕ) (bytes body : List ℕ) (most : ℕ) → off + length bytes ≤ most
    → length body ≤ most → length (written off bytes body) ≤ most
written_short off [] body most end short = short
written_short off (b ∷ bytes) body most end short =
    let e = length-three (resized off body) (b ∷ bytes) (drop (off + length (b ∷ bytes)) body) in
    let r = length-resized off body in
    let d = length-drop (off + length (b ∷ bytes)) body in
    omega arith

pub length-zeroed : (off len : ℕ) (body : List ℕ) → length (zeroed off len body) ≡ length body
length-zeroed off len body =
    let e =
    length-three (take off body) (replicate (min len (length body - off)) 0)
    (drop (off + len) body) in
    let t = length-take off body in
    let r = zeros (min len (length body - off)) in
    let d = length-drop (off + len) body in
    omega (arith, e, t, r, d)
