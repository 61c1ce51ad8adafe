-- The FNV-1a hash of 64 bits, and the group that it places a name in.
use Rattle.std.specs.Prelude.{ℕ, ◌*◌, ◌%◌, ◌^◌, List, fold, bit_xor}

-- the hash of no bytes
abbrev pub offset_basis : ℕ
offset_basis = 0xcbf29ce484222325

-- what each round multiplies by
abbrev pub prime : ℕ
prime = 0x100000001b3

-- a hash with one more byte taken in: xor, then a product modulo 2 ^ 64
abbrev pub with_byte : ℕ → ℕ → ℕ
with_byte hash byte = (bit_xor hash byte * prime) % 2 ^ 64

-- the hash of some bytes: each is taken in, from the first on
abbrev pub hash_of : List ℕ → ℕ
hash_of bytes = fold with_byte offset_basis bytes

-- the group of a name among so many groups
abbrev pub group_number : List ℕ → ℕ → ℕ
group_number name groups = hash_of name % groups
