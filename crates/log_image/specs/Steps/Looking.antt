-- How the first bytes of a disk are compared.
use Rattle.std.specs.Prelude.{ℕ, Bool, ◌&&◌, List, [], ◌∷◌, length, take, drop, bytes_eq, codes}
use Rattle.byteorder.specs.Endian.{big_bytes}
use Rattle.obj_model.specs.declared.change.Pool.{Pool}
use Rattle.log_image.specs.Images.{role_byte}

-- these bytes stand at this place
abbrev pub stands : ℕ → List ℕ → List ℕ → Bool
stands at wanted image = bytes_eq (take (length wanted) (drop at image)) wanted

-- all that formatting writes behind the first byte stands there, for whichever pair
abbrev pub has_rest : Pool → List ℕ → Bool
has_rest role image =
    stands 1 (big_bytes 4 17) image && stands 5 (codes "RTLOG001") image
    && stands 13 (role_byte role ∷ []) image && stands 22 (0 ∷ []) image
