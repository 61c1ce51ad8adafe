-- The limits of objects and of the numbers that they meet, each named once.
use Rattle.std.specs.Prelude.{ℕ, ◌^◌}

-- the longest body, in bytes
abbrev pub body_limit : ℕ
body_limit = 1048576

-- the most attributes
abbrev pub attrs_limit : ℕ
attrs_limit = 64

-- the most entries of an omap
abbrev pub omap_limit : ℕ
omap_limit = 1024

-- the longest value of an attribute or an entry, in bytes
abbrev pub value_limit : ℕ
value_limit = 4096

-- the greatest offset, length, tid and count
abbrev pub number_limit : ℕ
number_limit = 2 ^ 62

-- the greatest number of a client
abbrev pub client_limit : ℕ
client_limit = 256

-- the most sub-operations of a vector
abbrev pub vector_limit : ℕ
vector_limit = 16

-- the most bytes that the sub-operations of a vector carry together
abbrev pub payload_limit : ℕ
payload_limit = 16777216

-- the longest key of a store, in bytes
abbrev pub store_key_limit : ℕ
store_key_limit = 256

-- the longest value of a store, in bytes
abbrev pub store_value_limit : ℕ
store_value_limit = 16777216

-- the most changes of a transaction
abbrev pub txn_limit : ℕ
txn_limit = 8
