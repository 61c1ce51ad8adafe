-- How records are spelled as bytes, and which values have a spelling. Numbers stand with their
-- highest byte first.
use Rattle.std.specs.Prelude.{◌≡◌, ◌<◌, ◌≤◌, ℕ, ◌^◌, Bool, true, false, List, [], ◌∷◌, ◌++◌, map, Option, Some, None, length, All}
use Rattle.std.specs.List.{flat_map, AllByRecursion}
use Rattle.std.specs.FinMap as fin
use Rattle.byteorder.specs.Endian.{big_bytes}
use Rattle.obj_model.specs.Names.{name_cmp, name_fault}
use Rattle.obj_model.specs.Limits.{number_limit, client_limit, payload_limit}
use Rattle.obj_model.specs.States.{IsState}
use Rattle.obj_model.specs.Fields.{Field, Number, Bytes, Key, After, fields}
use Rattle.obj_model.specs.Vectors.{vector_fault}
use Rattle.obj_model.specs.Changes.{IsTxn}
use Rattle.obj_model.specs.declared.change.Change.{Change}
use Rattle.obj_model.specs.declared.change.Change.TheVariants.{Put, Remove}
use Rattle.obj_model.specs.declared.reply.Why.{Why}
use Rattle.obj_model.specs.declared.reply.Why.TheVariants.{Exists, NoEnt, NoData, Canceled, Range, Overflow, TooBig}
use Rattle.obj_model.specs.declared.reply.Reply.{Reply}
use Rattle.obj_model.specs.declared.reply.Reply.TheVariants.{Done, Refused}
use Rattle.obj_model.specs.declared.reply.Kept.{Kept}
use Rattle.obj_model.specs.declared.req.Req.{Req}
use Rattle.obj_model.specs.declared.sub_op.SubOp.{SubOp}
use Rattle.obj_model.specs.declared.sub_op.SubOp.TheVariants as op
use Rattle.obj_model.specs.declared.state.Obj.{Obj}
use Rattle.obj_model.specs.declared.state.NameState.{NameState}

-- ---- the blocks

-- a key of a table with its value
abbrev pub Entry : Type 0
Entry = List ℕ × List ℕ

-- a name: a byte of length, and its bytes
abbrev pub name : List ℕ → List ℕ
name bytes = big_bytes 1 (length bytes) ++ bytes

-- bytes: four bytes of length, and the bytes
abbrev pub string : List ℕ → List ℕ
string bytes = big_bytes 4 (length bytes) ++ bytes

-- why a sub-operation was refused: a tag, and behind that of a limit the limit and what was asked
abbrev pub why : Why → List ℕ
why Exists = 1 ∷ []
why NoEnt = 2 ∷ []
why NoData = 3 ∷ []
why Canceled = 4 ∷ []
why Range = 5 ∷ []
why Overflow = 6 ∷ []
why (TooBig limit asked) = 7 ∷ (big_bytes 8 limit ++ big_bytes 8 asked)

-- a reply: a tag, the place and the reason of a refusal, and the version
abbrev pub reply : Reply → List ℕ
reply (Done ver) = 1 ∷ big_bytes 8 ver
reply (Refused at reason ver) = 2 ∷ (big_bytes 1 at ++ (why reason ++ big_bytes 8 ver))

-- a kept request
abbrev pub kept : Kept → List ℕ
kept k = big_bytes 2 k.client ++ (big_bytes 8 k.tid ++ reply k.reply)

-- an entry of a table
abbrev pub pair : Entry → List ℕ
pair e = name e.0 ++ string e.1

-- a table: the number of its entries, and these in the order of their keys
abbrev pub table : fin.FinMap name_cmp (List ℕ) → List ℕ
table t = big_bytes 2 (length (fin.entries t)) ++ flat_map pair (fin.entries t)

-- ---- states

-- an object: its body, its attributes and its omap
abbrev pub object : Obj → List ℕ
object o = string o.body ++ (table o.attrs ++ table o.omap)

-- whether there is an object, and the object
abbrev pub object_or_none : Option Obj → List ℕ
object_or_none None = 0 ∷ []
object_or_none (Some o) = 1 ∷ object o

-- the number of the kept requests, and these
abbrev pub kept_list : List Kept → List ℕ
kept_list ks = big_bytes 2 (length ks) ++ flat_map kept ks

-- the spelling of a state
abbrev pub state_bytes : NameState → List ℕ
state_bytes s = big_bytes 8 s.ver ++ (big_bytes 8 s.seq ++
    (object_or_none s.obj ++ kept_list s.seen))

-- ---- what has a spelling

-- numbers of 64 bits
abbrev pub IsFitWhy : Why → Type 0
IsFitWhy Exists = Unit {0}
IsFitWhy NoEnt = Unit {0}
IsFitWhy NoData = Unit {0}
IsFitWhy Canceled = Unit {0}
IsFitWhy Range = Unit {0}
IsFitWhy Overflow = Unit {0}
IsFitWhy (TooBig limit asked) = (limit < 2 ^ 64) × (asked < 2 ^ 64)

-- a reply whose numbers have 64 bits
abbrev pub IsFitReply : Reply → Type 0
IsFitReply (Done ver) = ver < 2 ^ 64
IsFitReply (Refused at reason ver) = IsFitWhy reason × (ver < 2 ^ 64)

-- a table whose keys are names
abbrev pub IsNamed : fin.FinMap name_cmp (List ℕ) → Type 0
IsNamed t = All (λ (k : List ℕ). name_fault k ≡ None) (map (λ e. e.0) (fin.entries t))

-- no object, or one whose tables have names for keys
abbrev pub IsNamedObj : Option Obj → Type 0
IsNamedObj None = Unit {0}
IsNamedObj (Some o) = IsNamed o.attrs × IsNamed o.omap

-- a state whose parts are of their types: keys are names, and the numbers of replies have 64 bits
pub record IsTyped (s : NameState) : Type 0 where
  pub named : IsNamedObj s.obj
  pub fit : All (λ k. IsFitReply k.reply) s.seen

-- the bytes, all of them, spell the state
pub record SpellsState (bytes : List ℕ) (s : NameState) : Type 0 where
  pub lawful : IsState s
  pub typed : IsTyped s
  pub spelled : bytes ≡ state_bytes s

-- ---- records of the cache

-- the mark of a record: 1 where it is dirty
abbrev pub mark : Bool → ℕ
mark false = 0
mark true = 1

-- the spelling of a record: the state, its mark, and the moment of its last change
abbrev pub tier_bytes : NameState → Bool → ℕ → List ℕ
tier_bytes s dirty mtime = state_bytes s ++ (mark dirty ∷ big_bytes 8 mtime)

-- the bytes, all of them, spell the record
pub record SpellsTier (bytes : List ℕ) (s : NameState) (dirty : Bool) (mtime : ℕ) : Type 0 where
  pub lawful : IsState s
  pub typed : IsTyped s
  pub timed : mtime < 2 ^ 64
  pub spelled : bytes ≡ tier_bytes s dirty mtime

-- a record's state, its mark and its moment
abbrev pub TierParts : Type 0
TierParts = NameState × Bool × ℕ

-- the bytes, all of them, spell the record of these parts
abbrev pub SpellsParts : List ℕ → TierParts → Type 0
SpellsParts bytes r = SpellsTier bytes r.0 r.1 r.2

-- ---- requests

-- the tag of a sub-operation
abbrev pub tag : SubOp → ℕ
tag op.Create = 1
tag (op.WriteFull bytes) = 2
tag (op.Write off bytes) = 3
tag (op.Append bytes) = 4
tag (op.Zero off len) = 5
tag (op.Truncate size) = 6
tag op.Remove = 7
tag (op.SetXattr key bytes) = 8
tag (op.RmXattr key) = 9
tag (op.OmapSet key bytes) = 10
tag (op.OmapRm key) = 11
tag op.OmapClear = 12
tag op.AssertExists = 13
tag (op.AssertVer ver) = 14
tag (op.CmpXattr key bytes) = 15
tag (op.Read off len) = 16
tag op.Stat = 17
tag (op.GetXattr key) = 18
tag op.ListXattrs = 19
tag (op.OmapGet key) = 20
tag (op.OmapList after max) = 21

-- a field: a number of eight bytes, bytes, a name, or 0 for no name and 1 before one
abbrev pub field : Field → List ℕ
field (Number n) = big_bytes 8 n
field (Bytes bytes) = string bytes
field (Key key) = name key
field (After None) = 0 ∷ []
field (After (Some key)) = 1 ∷ name key

-- fields, one behind the other
abbrev pub field_bytes : List Field → List ℕ
field_bytes [] = []
field_bytes (f ∷ []) = field f
field_bytes (f ∷ g ∷ more) = field f ++ field_bytes (g ∷ more)

-- a sub-operation: its tag and its fields
abbrev pub sub_op : SubOp → List ℕ
sub_op o = tag o ∷ field_bytes (fields o)

-- the number of sub-operations, and these
abbrev pub ops_bytes : List SubOp → List ℕ
ops_bytes ops = big_bytes 1 (length ops) ++ flat_map sub_op ops

-- the spelling of a request: who asks, the name, and its sub-operations
abbrev pub req_bytes : Req → List ℕ
req_bytes r =
    big_bytes 2 r.client ++ (big_bytes 8 r.tid ++ (name r.name ++ ops_bytes r.vector))

-- a client and a request number within their limits
pub record IsReq (r : Req) : Type 0 where
  pub client_low : 1 ≤ r.client
  pub client_high : r.client ≤ client_limit
  pub tid_high : r.tid ≤ number_limit

-- what a field carries is of its type: numbers have 64 bits, keys are names
abbrev pub IsField : Field → Type 0
IsField (Number n) = n < 2 ^ 64
IsField (Bytes bytes) = length bytes ≤ payload_limit
IsField (Key key) = name_fault key ≡ None
IsField (After None) = Unit {0}
IsField (After (Some key)) = name_fault key ≡ None

-- the fields of a sub-operation are of their types
abbrev pub IsFit : SubOp → Type 0
IsFit o = AllByRecursion IsField (fields o)

-- the bytes, all of them, spell the request, whose sub-operations are a vector
pub record SpellsReq (bytes : List ℕ) (r : Req) : Type 0 where
  pub lawful : IsReq r
  pub named : name_fault r.name ≡ None
  pub vector : vector_fault r.vector ≡ None
  pub fit : All IsFit r.vector
  pub spelled : bytes ≡ req_bytes r

-- ---- transactions

-- the key of a store: two bytes of length, and its bytes
abbrev pub store_key : List ℕ → List ℕ
store_key key = big_bytes 2 (length key) ++ key

-- a change: a tag, the key, and the value that is put
abbrev pub change : Change → List ℕ
change (Put key value) = 1 ∷ (store_key key ++ string value)
change (Remove key) = 2 ∷ store_key key

-- the spelling of a transaction: the number of its changes, and these
abbrev pub txn_bytes : List Change → List ℕ
txn_bytes cs = big_bytes 1 (length cs) ++ flat_map change cs

-- the bytes, all of them, spell the transaction
pub record SpellsTxn (bytes : List ℕ) (cs : List Change) : Type 0 where
  pub lawful : IsTxn cs
  pub spelled : bytes ≡ txn_bytes cs

-- ---- one spelling each

-- no two values have one spelling, and no spelling begins another
abbrev pub HaveOneSpelling : {A : Type 0} → (List ℕ → A → Type 0) → Type 0
HaveOneSpelling {A} Spells =
    (x y : A) (a b more others : List ℕ) → Spells a x → Spells b y → a ++ more ≡ b ++ others
    → (x ≡ y) × (more ≡ others)
