-- What gathered chunks make, which one is wanted behind them, and what a gather does with a chunk.
use Rattle.std.specs.Prelude.{◌≡◌, ◌≢◌, ◌+◌, ℕ, Bool, true, false, ◌&&◌, nat_lt, nat_le, List}
use Rattle.std.specs.Prelude.{[], ◌∷◌, ◌++◌, map, length, Option, Some, None, if◌then◌else◌}
use Rattle.std.specs.List.{AllByRecursion}
use Rattle.std.specs.Option.{option_map}
use Rattle.std.specs.Ordering.{is_lt}
use Rattle.std.specs.FinMap as fin
use Rattle.obj_model.specs.Limits.{body_limit, attrs_limit, omap_limit, value_limit, number_limit, vector_limit}
use Rattle.obj_model.specs.Names.{name_cmp}
use Rattle.obj_model.specs.States.{unknown}
use Rattle.obj_model.specs.declared.limits.TheConstants.{CLIENT_LIMIT}
use Rattle.obj_model.specs.declared.out.Pair.{Pair}
use Rattle.obj_model.specs.declared.reply.Kept.{Kept}
use Rattle.obj_model.specs.declared.reply.Reply.{Reply}
use Rattle.obj_model.specs.declared.reply.Reply.TheVariants.{Done, Refused}
use Rattle.obj_model.specs.declared.state.Obj.{Obj}
use Rattle.obj_model.specs.declared.state.NameState.{NameState}
use Rattle.copy_chunk.specs.declared.chunk.Chunk.{Chunk}
use Rattle.copy_chunk.specs.declared.chunk.Cursor.{Cursor}
use Rattle.copy_chunk.specs.declared.chunk.Cursor.TheVariants.{Head, Body, Attrs, Omap, Seen}
use Rattle.copy_chunk.specs.declared.chunk.Part.{Part}
use Rattle.copy_chunk.specs.declared.chunk.Part.TheVariants as part
use Rattle.copy_chunk.specs.declared.gather.Added.{Added}
use Rattle.copy_chunk.specs.declared.gather.Added.TheVariants.{Taken, Ignored, Unfit}
use Rattle.copy_chunk.specs.Chunks.{Entry, entry_of, last_key, chunks_of, chunk_at}

abbrev Table : Type 0
Table = fin.FinMap name_cmp (List ℕ)

-- ---- what chunks make

-- an object without a body and without pairs
abbrev pub bare_object : Obj
bare_object = record { body = []; attrs = fin.empty; omap = fin.empty }

-- the entries of a table, and behind them these pairs
abbrev pub entries_with : Table → List Pair → List Entry
entries_with t ps = fin.entries t ++ map entry_of ps

-- a state with another object, where it has one
abbrev pub with_object : NameState → (Obj → Obj) → NameState
with_object s f = record s { obj = option_map f s.obj }

-- a state with one more part; a part that is none of its place adds nothing
abbrev pub with_part : NameState → Cursor → Part → NameState
with_part s Head (part.Head ver seq present) =
    record { ver = ver; seq = seq; obj = if present then Some bare_object else None; seen = [] }
with_part s (Body off) (part.Body bytes) = with_object s (λ o. record o { body = o.body ++ bytes })
with_part s (Attrs key) (part.Pairs ps) =
    with_object s (λ o. record o { attrs = fin.from_entries (entries_with o.attrs ps) })
with_part s (Omap key) (part.Pairs ps) =
    with_object s (λ o. record o { omap = fin.from_entries (entries_with o.omap ps) })
with_part s Seen (part.Seen ks) = record s { seen = ks }
with_part s at other = s

-- a state with the parts of more chunks
abbrev pub made_from : NameState → List Chunk → NameState
made_from s [] = s
made_from s (c ∷ cs) = made_from (with_part s c.at c.part) cs

-- the state that chunks have made so far
unfoldable pub made : List Chunk → NameState
made cs = made_from unknown cs

-- ---- which chunk is wanted

-- the place that is wanted behind these chunks, where it was this one before them
abbrev pub wanted_from : Option Cursor → List Chunk → Option Cursor
wanted_from at [] = at
wanted_from at (c ∷ cs) = wanted_from c.next cs

-- the place that is wanted behind these chunks: the head behind none, nothing behind the last
unfoldable pub wanted : List Chunk → Option Cursor
wanted cs = wanted_from (Some Head) cs

-- the state that chunks join to; none where a chunk is still wanted
unfoldable pub joined : List Chunk → Option NameState
joined cs = elim (wanted cs) [ None ↦ Some (made cs) | Some at ↦ None ]

-- the first chunks of a list
pub record IsFront (cs all : List Chunk) : Type 0 where
  pub behind : List Chunk
  pub whole : all ≡ cs ++ behind

-- each chunk stands at the place that the one before names, and the first at the head
abbrev pub IsChainFrom : Option Cursor → List Chunk → Type 0
IsChainFrom at [] = Unit {0}
IsChainFrom at (c ∷ cs) = (at ≡ Some c.at) × IsChainFrom c.next cs

unfoldable pub IsChain : List Chunk → Type 0
IsChain cs = IsChainFrom (Some Head) cs

-- the first chunks of a state go on with its chunk at a place
pub record GoesOn (s : NameState) (cs : List Chunk) (at : Cursor) : Type 0 where
  pub chunk : Chunk
  pub there : chunk_at (chunks_of s) at ≡ Some chunk
  pub place : chunk.at ≡ at
  pub front : IsFront (cs ++ chunk ∷ []) (chunks_of s)

-- each is a chunk of the state
abbrev pub AreOf : NameState → List Chunk → Type 0
AreOf s cs = AllByRecursion (λ (c : Chunk). chunk_at (chunks_of s) c.at ≡ Some c) cs

-- ---- which chunks a gather takes

-- what may follow a place: nothing behind the kept requests, anything but the head behind the
-- others
abbrev pub leads : Cursor → Option Cursor → Bool
leads Seen None = true
leads Seen (Some next) = false
leads at None = false
leads at (Some Head) = false
leads at (Some next) = true

-- whether a key comes behind another, or is the first
abbrev pub goes_behind : Option (List ℕ) → List ℕ → Bool
goes_behind None key = true
goes_behind (Some last) key = is_lt (name_cmp last key)

-- pairs whose keys go on rising behind a key, with values within their limit
abbrev pub pairs_fit : Option (List ℕ) → List Pair → Bool
pairs_fit last [] = true
pairs_fit last (p ∷ ps) =
    goes_behind last p.key && nat_le (length p.value) value_limit && pairs_fit (Some p.key) ps

-- pairs, at least one, which a table of at most so many entries can take
abbrev pub table_fits : ℕ → List Entry → List Pair → Bool
table_fits most es ps =
    nat_lt 0 (length ps) && nat_le (length es + length ps) most && pairs_fit (last_key None es) ps

-- bytes, at least one, which a body can take
abbrev pub body_fits : List ℕ → List ℕ → Bool
body_fits body bytes = nat_lt 0 (length bytes) && nat_le (length body + length bytes) body_limit

-- a refusal names a sub-operation of a vector
abbrev pub reply_fits : Reply → Bool
reply_fits (Done ver) = true
reply_fits (Refused at why ver) = nat_lt at vector_limit

-- a kept request within its limits
abbrev pub kept_fits : Kept → Bool
kept_fits k = nat_le k.client CLIENT_LIMIT && nat_le k.tid number_limit && reply_fits k.reply

-- kept requests within their limits, whose clients rise from one on
abbrev pub kepts_fit : ℕ → List Kept → Bool
kepts_fit last [] = true
kepts_fit last (k ∷ ks) = nat_lt last k.client && kept_fits k && kepts_fit k.client ks

-- whether there is an object, of which this holds
abbrev pub object_fits : Option Obj → (Obj → Bool) → Bool
object_fits None test = false
object_fits (Some o) test = test o

-- whether a state stays within its limits with one more part; a part of another kind than its place
-- does not fit
abbrev pub part_fits : NameState → Cursor → Part → Bool
part_fits s Head (part.Head ver seq present) = nat_le ver seq && nat_le seq number_limit
part_fits s (Body off) (part.Body bytes) = object_fits s.obj (λ o. body_fits o.body bytes)
part_fits s (Attrs key) (part.Pairs ps) =
    object_fits s.obj (λ o. table_fits attrs_limit (fin.entries o.attrs) ps)
part_fits s (Omap key) (part.Pairs ps) =
    object_fits s.obj (λ o. table_fits omap_limit (fin.entries o.omap) ps)
part_fits s Seen (part.Seen ks) = kepts_fit 0 ks
part_fits s at other = false

-- whether a chunk fits behind a state that was made so far
abbrev pub chunk_fits : NameState → Chunk → Bool
chunk_fits s c = leads c.at c.next && part_fits s c.at c.part

-- whether a chunk fits behind these
unfoldable pub fits : List Chunk → Chunk → Bool
fits cs c = chunk_fits (made cs) c

-- what a gather of these chunks does with a chunk, and which chunks it has then
abbrev pub Adds : Chunk → List Chunk → Added → List Chunk → Type 0
Adds c old Taken new = (wanted old ≡ Some c.at) × (fits old c ≡ true) × (new ≡ old ++ c ∷ [])
Adds c old Unfit new = (wanted old ≡ Some c.at) × (fits old c ≡ false) × (new ≡ old)
Adds c old Ignored new = (wanted old ≢ Some c.at) × (new ≡ old)
