-- Reading from left to right: a value and the bytes after it, or nothing.
use Rattle.std.specs.Prelude.{◌≡◌, ℕ, zero, suc, Bool, true, not, List, [], ◌∷◌, length, take, drop, Option, Some, None, Result, Ok, Err, nat_lt, nat_le, is_some, bytes_eq, ◌==◌, ◌&&◌, if◌then◌else◌}
use Rattle.std.specs.List.{list_any}
use Rattle.std.specs.Ordering.{is_lt}
use Rattle.std.specs.FinMap as fin
use Rattle.byteorder.specs.Endian.{big_number}
use Rattle.obj_model.specs.Limits.{attrs_limit, body_limit, number_limit, omap_limit, value_limit, client_limit, vector_limit, store_key_limit, store_value_limit, txn_limit}
use Rattle.obj_model.specs.Names.{name_cmp, name_fault}
use Rattle.obj_model.specs.declared.change.Change.{Change}
use Rattle.obj_model.specs.declared.change.Change.TheVariants.{Put, Remove}
use Rattle.obj_model.specs.declared.reply.Why.{Why}
use Rattle.obj_model.specs.declared.reply.Why.TheVariants.{Exists, NoEnt, NoData, Canceled, Range, Overflow, TooBig}
use Rattle.obj_model.specs.declared.reply.Reply.{Reply}
use Rattle.obj_model.specs.declared.reply.Reply.TheVariants.{Done, Refused}
use Rattle.obj_model.specs.declared.reply.Kept.{Kept}
use Rattle.obj_model.specs.declared.state.Obj.{Obj}
use Rattle.obj_model.specs.declared.state.NameState.{NameState}
use Rattle.rec_codec.specs.declared.fault.ReadError.{ReadError}
use Rattle.rec_codec.specs.declared.fault.ReadError.TheVariants.{Memory, Wrong}
use Rattle.obj_model.specs.Changes.{key_of}
use Rattle.rec_codec.specs.Spelling.{Entry}

-- what stands at the front of bytes, and the bytes after it
abbrev pub Reader : Type 0 → Type 0
Reader X = List ℕ → Option (X × List ℕ)

infixl 10 ◌>>=◌
abbrev pub ◌>>=◌ : {A B : Type 0} → Option A → (A → Option B) → Option B
(Some x) >>= f = f x
None >>= f = None

-- a function that may run out of memory returned what reading gives, seen by view
abbrev pub Fails : {Y : Type 0} → ReadError → Option Y → Type 0
Fails Memory read = Unit {0}
Fails Wrong read = read ≡ None

abbrev pub Gives : {X Y : Type 0} → (X → Y) → Result X ReadError → Option Y → Type 0
Gives view (Ok x) read = read ≡ Some (view x)
Gives view (Err e) read = Fails e read

-- ---- ways to put readers together

-- one value, and behind it another whose form the first may decide
abbrev pub then_at : {A B : Type 0} → Reader A → (A → Reader B) → Reader (A × B)
then_at first second bytes = first bytes >>= λ a. second a.0 a.1 >>= λ b. Some ((a.0, b.0), b.1)

-- what stands behind a value that decides its form, as behind a length or a tag
abbrev pub behind_at : {A B : Type 0} → Reader A → (A → Reader B) → Reader B
behind_at first second bytes = first bytes >>= λ a. second a.0 a.1

-- a value that passes a test
abbrev pub if_at : {A : Type 0} → Reader A → (A → Bool) → Reader A
if_at first test bytes = first bytes >>= λ a. if test a.0 then Some a else None

-- a value made of what was read
abbrev pub as_at : {A B : Type 0} → Reader A → (A → B) → Reader B
as_at first made bytes = first bytes >>= λ a. Some (made a.0, a.1)

-- so many values, the key of each above the one before
unfoldable pub each_at : {A K : Type 0} → Reader A → (A → K) → (K → K → Bool) → K → ℕ
    → Reader (List A)
each_at item key above last zero bytes = Some ([], bytes)
each_at item key above last (suc n) bytes = item bytes >>= (λ a.
    if above last (key a.0) then (each_at item key above (key a.0) n a.1 >>=
    (λ others. Some (a.0 ∷ others.0, others.1))) else None)

-- ---- the blocks

-- a number of so many bytes
abbrev pub number_at : ℕ → Reader ℕ
number_at n bytes = if nat_lt (length bytes) n then None else Some
    (big_number n bytes, drop n bytes)

-- so many bytes
abbrev pub taken_at : ℕ → Reader (List ℕ)
taken_at n bytes = if nat_lt (length bytes) n then None else Some (take n bytes, drop n bytes)

-- the bytes behind a length of one byte
unfoldable pub short_at : Reader (List ℕ)
short_at = behind_at (number_at 1) taken_at

-- at most so many bytes behind a length of four bytes
unfoldable pub string_at : ℕ → Reader (List ℕ)
string_at most = behind_at (if_at (number_at 4) (λ n. nat_le n most)) taken_at

-- a name
unfoldable pub name_at : Reader (List ℕ)
name_at = if_at short_at (λ bytes. not (is_some (name_fault bytes)))

-- the reason of a tag that stands alone
unfoldable pub plain_why : ℕ → Option Why
plain_why tag =
    if tag == 1 then Some Exists else if tag == 2 then Some NoEnt else if tag == 3 then Some NoData
    else if tag == 4 then Some Canceled else if tag == 5 then Some Range else if tag == 6 then Some
    Overflow else None

-- what stands behind the tag of a reason
abbrev pub why_behind : ℕ → Reader Why
why_behind tag bytes =
    if tag == 7 then as_at (then_at (number_at 8) (λ _. number_at 8)) (λ n. TooBig n.0 n.1) bytes
    else (plain_why tag >>= (λ reason. Some (reason, bytes)))

-- why a sub-operation was refused
unfoldable pub why_at : Reader Why
why_at = behind_at (number_at 1) why_behind

-- the place, the reason and the version of a refusal
abbrev pub refused_at : Reader Reply
refused_at = as_at (then_at (if_at (number_at 1) (λ at. nat_lt at vector_limit))
    (λ _. then_at why_at (λ _. number_at 8))) (λ r. Refused r.0 r.1.0 r.1.1)

-- what stands behind the tag of a reply
abbrev pub reply_behind : ℕ → Reader Reply
reply_behind tag bytes =
    if tag == 1 then as_at (number_at 8) Done bytes else if tag == 2 then refused_at bytes else None

-- a reply
unfoldable pub reply_at : Reader Reply
reply_at = behind_at (number_at 1) reply_behind

-- a kept request
unfoldable pub kept_at : Reader Kept
kept_at = as_at (then_at
    (if_at (number_at 2) (λ client. nat_le 1 client && nat_le client client_limit))
    (λ _. then_at (if_at (number_at 8) (λ tid. nat_le tid number_limit)) (λ _. reply_at)))
    (λ k. record {
      client = k.0;
      tid = k.1.0;
      reply = k.1.1;
    })

-- an entry of a table
unfoldable pub pair_at : Reader Entry
pair_at = then_at name_at (λ _. string_at value_limit)

-- so many entries, behind one with this key
abbrev pub pairs_at : List ℕ → ℕ → Reader (List Entry)
pairs_at = each_at pair_at (λ e. e.0) (λ last key. is_lt (name_cmp last key))

-- so many kept requests, behind one of this client
abbrev pub kepts_at : ℕ → ℕ → Reader (List Kept)
kepts_at = each_at kept_at (λ k. k.client) nat_lt

-- a table of at most so many entries
unfoldable pub table_at : ℕ → Reader (fin.FinMap name_cmp (List ℕ))
table_at most = behind_at (if_at (number_at 2) (λ n. nat_le n most))
    (λ n. as_at (pairs_at [] n) fin.from_entries)

-- the kept requests of a state
unfoldable pub kept_list_at : Reader (List Kept)
kept_list_at = behind_at (number_at 2) (kepts_at 0)

-- ---- states

-- an object
unfoldable pub object_at : Reader Obj
object_at = as_at
    (then_at (string_at body_limit) (λ _. then_at (table_at attrs_limit) (λ _. table_at omap_limit)))
    (λ o. record {
      body = o.0;
      attrs = o.1.0;
      omap = o.1.1;
    })

-- what stands behind the byte that says whether there is an object
abbrev pub object_behind : ℕ → Reader (Option Obj)
object_behind tag bytes = if tag == 0 then Some (None, bytes) else if tag == 1 then as_at object_at
    Some bytes else None

-- an object, or that there is none
unfoldable pub object_or_none_at : Reader (Option Obj)
object_or_none_at = behind_at (number_at 1) object_behind

-- a state
unfoldable pub state_at : Reader NameState
state_at = as_at (then_at (number_at 8)
    (λ ver. then_at (if_at (number_at 8) (λ seq. nat_le ver seq && nat_le seq number_limit))
    (λ _. then_at object_or_none_at (λ _. kept_list_at)))) (λ s. record {
      ver = s.0;
      seq = s.1.0;
      obj = s.1.1.0;
      seen = s.1.1.1;
    })

-- ---- records of the cache

-- the mark of a record
unfoldable pub mark_at : Reader Bool
mark_at = as_at (if_at (number_at 1) (λ n. nat_le n 1)) (λ n. n == 1)

-- a record
unfoldable pub tier_at : Reader (NameState × Bool × ℕ)
tier_at =
    as_at (then_at state_at (λ _. then_at mark_at (λ _. number_at 8))) (λ r. (r.0, r.1.0, r.1.1))

-- ---- transactions

-- the key of a store
unfoldable pub store_key_at : Reader (List ℕ)
store_key_at =
    behind_at (if_at (number_at 2) (λ n. nat_le 1 n && nat_le n store_key_limit)) taken_at

-- what stands behind the tag of a change
abbrev pub change_behind : ℕ → Reader Change
change_behind tag bytes =
    if tag == 1 then
    as_at (then_at store_key_at (λ _. string_at store_value_limit)) (λ p. Put p.0 p.1) bytes
    else if tag == 2 then as_at store_key_at Remove bytes else None

-- a change
unfoldable pub change_at : Reader Change
change_at = behind_at (number_at 1) change_behind

-- so many changes
abbrev pub changes_at : ℕ → Reader (List Change)
changes_at = each_at change_at (λ _. tt {0}) (λ _ _. true) tt

-- whether one of them speaks of this key
abbrev pub is_among : List Change → List ℕ → Bool
is_among cs key = list_any (λ c. bytes_eq (key_of c) key) cs

-- whether no two of them speak of one key
abbrev pub are_apart : List Change → Bool
are_apart [] = true
are_apart (c ∷ cs) = not (is_among cs (key_of c)) && are_apart cs

-- a transaction
unfoldable pub txn_at : Reader (List Change)
txn_at = behind_at (if_at (number_at 1) (λ n. nat_le 1 n && nat_le n txn_limit))
    (λ n. if_at (changes_at n) are_apart)

-- what all of the bytes are
abbrev pub whole : {A : Type 0} → Reader A → List ℕ → Option A
whole read bytes = read bytes >>= λ a. if length a.1 == 0 then Some a.0 else None
