-- What single sub-operations do to an object, in small words.
use Rattle.std.specs.Prelude.{ℕ, ◌+◌, ◌-◌, min, Bool, List, [], ◌∷◌, ◌++◌, length, map, take, drop}
use Rattle.std.specs.Prelude.{replicate, Option, Some, None, is_none, Result, Ok, Err}
use Rattle.std.specs.Prelude.{if◌then◌else◌, nat_lt, nat_le, ◌==◌, ◌&&◌, bytes_eq}
use Rattle.std.specs.FinMap as fin
use Rattle.obj_model.specs.Limits.{body_limit, attrs_limit, omap_limit, value_limit}
use Rattle.obj_model.specs.Tables.{Table, entries_above}
use Rattle.obj_model.specs.declared.state.Obj.{Obj}
use Rattle.obj_model.specs.declared.reply.Why.{Why}
use Rattle.obj_model.specs.declared.reply.Why.TheVariants.{Exists, NoEnt, NoData, Canceled, Range}
use Rattle.obj_model.specs.declared.reply.Why.TheVariants.{Overflow, TooBig}
use Rattle.obj_model.specs.declared.out.Pair.{Pair}
use Rattle.obj_model.specs.declared.out.Out.{Out}
use Rattle.obj_model.specs.declared.out.Out.TheVariants.{Checked, Bytes}

-- the object that is left, if one is, or why not
abbrev pub Change : Type 0
Change = Result (Option Obj) Why

-- what is told, or why not
abbrev pub Telling : Type 0
Telling = Result Out Why

-- an object without bytes and pairs
abbrev pub empty_obj : Obj
empty_obj = record { body = []; attrs = fin.empty; omap = fin.empty }

-- the object, or an empty one where there is none
abbrev pub made : Option Obj → Obj
made None = empty_obj
made (Some x) = x

-- an object has to be there
abbrev pub where_there : {X : Type 0} → (Obj → Result X Why) → Option Obj → Result X Why
where_there f None = Err NoEnt
where_there f (Some x) = f x

-- without an object nothing is done
abbrev pub where_any : (Obj → Change) → Option Obj → Change
where_any f None = Ok None
where_any f (Some x) = f x

-- what is asked may not be above the limit
abbrev pub within : {X : Type 0} → ℕ → ℕ → Result X Why → Result X Why
within limit asked next = if nat_lt limit asked then Err (TooBig limit asked) else next

-- an empty object, where there was none
abbrev pub created : Option Obj → Change
created None = Ok (Some empty_obj)
created (Some x) = Err Exists

-- no object
abbrev pub removed : Obj → Change
removed x = Ok None

-- the bytes of a body from `off` to `off + len`, cut at its size; a `len` of 0 is to the end
abbrev pub part : ℕ → ℕ → List ℕ → List ℕ
part off len body = if len == 0 then drop off body else take len (drop off body)

-- a body cut to a size, or filled up with zeros
abbrev pub resized : ℕ → List ℕ → List ℕ
resized size body = take size body ++ replicate (size - length body) 0

-- a body with these bytes at `off`, a gap filled with zeros; no bytes change nothing
abbrev pub written : ℕ → List ℕ → List ℕ → List ℕ
written off [] body = body
written off (b ∷ bytes) body =
    resized off body ++ (b ∷ bytes) ++ drop (off + length (b ∷ bytes)) body

-- a body whose bytes from `off` to `off + len` are zero, as many as it has there
abbrev pub zeroed : ℕ → ℕ → List ℕ → List ℕ
zeroed off len body =
    take off body ++ replicate (min len (length body - off)) 0 ++ drop (off + len) body

-- the object with this body
abbrev pub put_body : List ℕ → Obj → Change
put_body bytes x = Ok (Some (record x { body = bytes }))

-- the object with this body, which may not be too long
abbrev pub with_body : List ℕ → Obj → Change
with_body bytes x = within body_limit (length bytes) (put_body bytes x)

-- the object with these bytes in its body; what is asked is where they end
abbrev pub with_bytes : ℕ → List ℕ → Obj → Change
with_bytes off bytes x =
    within body_limit (off + length bytes) (put_body (written off bytes x.body) x)

-- the object with these bytes behind its body
abbrev pub with_more : List ℕ → Obj → Change
with_more bytes x = with_body (x.body ++ bytes) x

-- the object with zeros in its body
abbrev pub with_zeros : ℕ → ℕ → Obj → Change
with_zeros off len x = put_body (zeroed off len x.body) x

-- the object with a body of this size
abbrev pub with_size : ℕ → Obj → Change
with_size size x = within body_limit size (put_body (resized size x.body) x)

-- the table would have more than so many entries: the key is new, and the table is full
abbrev pub is_full : ℕ → List ℕ → Table → Bool
is_full most key t = is_none (fin.get t key) && nat_le most (fin.len t)

-- the table with this value at a key; the value may not be too long, and a new key needs room
abbrev pub entered : ℕ → List ℕ → List ℕ → Table → Result Table Why
entered most key bytes t =
    within value_limit (length bytes)
    (if is_full most key t then Err (TooBig most (most + 1)) else Ok (fin.insert t key bytes))

-- the object with these attributes, if they are not refused
abbrev pub with_attrs : Obj → Result Table Why → Change
with_attrs x (Ok t) = Ok (Some (record x { attrs = t }))
with_attrs x (Err why) = Err why

-- the object with this omap, if it is not refused
abbrev pub with_omap : Obj → Result Table Why → Change
with_omap x (Ok t) = Ok (Some (record x { omap = t }))
with_omap x (Err why) = Err why

-- the object with this value of an attribute
abbrev pub with_attr : List ℕ → List ℕ → Obj → Change
with_attr key bytes x = with_attrs x (entered attrs_limit key bytes x.attrs)

-- the object without an attribute, which has to be there
abbrev pub without_attr : List ℕ → Obj → Change
without_attr key x =
    if is_none (fin.get x.attrs key) then Err NoData else with_attrs x (Ok (fin.remove x.attrs key))

-- the object with this entry of its omap
abbrev pub with_entry : List ℕ → List ℕ → Obj → Change
with_entry key bytes x = with_omap x (entered omap_limit key bytes x.omap)

-- the object without an entry of its omap
abbrev pub without_entry : List ℕ → Obj → Change
without_entry key x = with_omap x (Ok (fin.remove x.omap key))

-- the object without any entry of its omap
abbrev pub without_entries : Obj → Change
without_entries x = with_omap x (Ok fin.empty)

-- there is nothing to tell
abbrev pub checked : Obj → Telling
checked x = Ok Checked

-- the version that is asked has to be the name's
abbrev pub at_version : ℕ → ℕ → Telling
at_version asked ver =
    if nat_lt asked ver then Err Range else if nat_lt ver asked then Err Overflow else Ok Checked

-- there has to be a value, and it has to be this one
abbrev pub same_value : List ℕ → Option (List ℕ) → Telling
same_value bytes None = Err NoData
same_value bytes (Some value) = if bytes_eq value bytes then Ok Checked else Err Canceled

-- the value, which has to be there
abbrev pub the_value : Option (List ℕ) → Telling
the_value None = Err NoData
the_value (Some value) = Ok (Bytes value)

-- a key with its value
abbrev pub pair_of : List ℕ × List ℕ → Pair
pair_of e = record { key = e.0; value = e.1 }

-- the first entries above a key, in order
abbrev pub page : Option (List ℕ) → ℕ → Table → List Pair
page after max t = take max (map pair_of (entries_above after t))
