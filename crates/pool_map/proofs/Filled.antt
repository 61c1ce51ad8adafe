-- The map that slots hold, and its changes.
use Rattle.std.proofs.Common.{sym, ◌∙◌, ap, subst, append_assoc, Bor}
use Rattle.std.proofs.lemmas.List.{take_more}
use Rattle.std.proofs.lemmas.List.Elements.{All-push, All-weaker, All-tail, All-from_recursion, recursion_from_All}
use Rattle.std.specs.Prelude.{◌≡◌, ◌≢◌, ◌<◌, ◌+◌, ◌++◌, filter, length, take, slice_index_or, is_some, ℕ, Bool, true, false, List, [], ◌∷◌, Option, None, Some, cond, map, T, ◌&&◌, IsSome, refl}
use Rattle.std.specs.declared.cmp.Ordering.{Ordering}
use Rattle.std.specs.declared.cmp.Ordering.TheVariants.{Less, Equal, Greater}
use Rattle.std.specs.Ordering.{is_eq, is_lt, eq_by_cmp}
use Rattle.std.specs.Cmp.{tied_itself}
use Rattle.std.specs.Cmp.Lexicographic.{nat_list_cmp_total}
use Rattle.std.specs.FinMap as fin
use Rattle.std.specs.FinMap.{from_entries, find, entries, get-entries, get-from_entries, get-insert, get-remove, get-empty, same_map, slice_cmp-IsAntisymmetric, nat_cmp-IsAntisymmetric}
use Rattle.std.specs.List.{All, AllByRecursion}
use Rattle.std.specs.List.Sorted.{IsStrictlySortedBy}
use Rattle.std.specs.Option.{option_flatten, option_copied}
use Rattle.obj_model.specs.Names.{name_cmp}
use Rattle.obj_model.specs.declared.change.Change.{Change}
use Rattle.obj_model.specs.declared.change.Change.TheVariants.{Put, Remove}
use Rattle.obj_model.proofs.NameMaps.{kept_entries}
use Rattle.obj_model.proofs.Rising.{entries_rise}
use Rattle.obj_model.specs.Changes.{AreApart, key_of}
use Rattle.obj_model.specs.Tables.{is_above}
use Rattle.store_face.specs.Tables.{Table, changed, keys_above}
use Rattle.pool_map.specs.Slots.{SlotMap, filled, with_values, slots_after, HasRoom, rows}
use Rattle.pool_map.proofs.Rows.{rising_rows}

abbrev Key : Type 0
Key = List ℕ

abbrev Row : Type 0
Row = Key × Option Key

-- a key is below those of all these rows
abbrev Below : {X : Type 0} → Key → List (Key × X) → Type 0
Below k rs = AllByRecursion (λ y. name_cmp k y ≡ Less) (map (λ e. e.0) rs)

none_above : {X : Type 0} (q k : Key) (es : List (Key × X)) → name_cmp q k ≡ Equal → Below k es → find name_cmp q es ≡ None
none_above q k [] t low = refl
none_above q k (e ∷ es) t low = ap (λ r. cond (is_eq r) (Some e.1) (find name_cmp q es)) (nat_list_cmp_total.congr q k e.0 t ∙ low.0) ∙ none_above q k es t low.1

below_values : (k : Key) (rs : List Row) → Below k rs → Below k (with_values rs)
below_values k [] low = tt
below_values k (r ∷ rs) low = elim r.1 as (λ o. Below k (elim o [ None ↦ with_values rs | Some v ↦ (r.0, v) ∷ with_values rs ])) [
  | None ↦ below_values k rs low.1
  | Some v ↦ (low.0, below_values k rs low.1)
]

rising_values : (rs : List Row) → IsStrictlySortedBy name_cmp (map (λ e. e.0) rs) → IsStrictlySortedBy name_cmp (map (λ e. e.0) (with_values rs))
unfolding IsStrictlySortedBy
rising_values [] rise = tt
rising_values (r ∷ rs) rise = elim r.1 as (λ o. IsStrictlySortedBy name_cmp (map (λ (e : Key × Key). e.0) (elim o [ None ↦ with_values rs | Some v ↦ (r.0, v) ∷ with_values rs ]))) [
  | None ↦ rising_values rs rise.1
  | Some v ↦ (below_values r.0 rs rise.0, rising_values rs rise.1)
]

find_values : (q : Key) (rs : List Row) → IsStrictlySortedBy name_cmp (map (λ e. e.0) rs) → find name_cmp q (with_values rs) ≡ option_flatten (find name_cmp q rs)
unfolding IsStrictlySortedBy
find_values q [] rise = refl
find_values q (r ∷ rs) rise =
    let rest : find name_cmp q (with_values rs) ≡ option_flatten (find name_cmp q rs) = find_values q rs rise.1 in
    elim r.1 as (λ o. find name_cmp q (elim o [ None ↦ with_values rs | Some v ↦ (r.0, v) ∷ with_values rs ]) ≡ option_flatten (cond (eq_by_cmp name_cmp q r.0) (Some o) (find name_cmp q rs))) [
      | None ↦ elim (name_cmp q r.0) as (λ o. name_cmp q r.0 ≡ o → find name_cmp q (with_values rs) ≡ option_flatten (cond (is_eq o) (Some None) (find name_cmp q rs))) [
        | Less ↦ λ _. rest
        | Equal ↦ λ t. none_above q r.0 (with_values rs) t (below_values r.0 rs rise.0)
        | Greater ↦ λ _. rest
      ] refl
      | Some v ↦ elim (eq_by_cmp name_cmp q r.0) as (λ b. cond b (Some v) (find name_cmp q (with_values rs)) ≡ option_flatten (cond b (Some (Some v)) (find name_cmp q rs))) [
        | true ↦ refl
        | false ↦ rest
      ]
    ]

-- what the map has at a key: its slot's value
pub filled_get : (m : SlotMap) (q : Key) → fin.get (filled m) q ≡ option_flatten (fin.get m q)
unfolding filled
filled_get m q = get-from_entries nat_list_cmp_total (with_values (entries m)) q ∙ find_values q (entries m) (entries_rise m) ∙ ap option_flatten (sym (get-entries m q))

-- the map's keys are those of the slots with a value
pub filled_entries : (m : SlotMap) → fin.entries (filled m) ≡ with_values (entries m)
unfolding filled
filled_entries m = kept_entries (with_values (entries m)) (rising_values (entries m) (entries_rise m))

same : (s t : Table) → ((q : Key) → fin.get s q ≡ fin.get t q) → s ≡ t
same s t = same_map nat_list_cmp_total (slice_cmp-IsAntisymmetric nat_cmp-IsAntisymmetric) s t

-- no slot holds nothing
pub filled_empty : filled fin.empty ≡ fin.empty
filled_empty = same _ _ (λ q. filled_get fin.empty q ∙ ap option_flatten (get-empty name_cmp q) ∙ sym (get-empty name_cmp q))

pub tied : (k q : Key) → eq_by_cmp name_cmp q k ≡ true → q ≡ k
tied k q t = slice_cmp-IsAntisymmetric nat_cmp-IsAntisymmetric q k (elim (name_cmp q k) as (λ o. is_eq o ≡ true → o ≡ Equal) [
  | Less ↦ λ e. absurd (subst T (sym e) tt)
  | Equal ↦ λ _. refl
  | Greater ↦ λ e. absurd (subst T (sym e) tt)
] t)

-- a slot whose value is no value there is one that changes nothing
kept : (m n : SlotMap) (k : Key) (w : Option (Option Key)) → ((q : Key) → fin.get n q ≡ cond (eq_by_cmp name_cmp q k) w (fin.get m q)) → option_flatten w ≡ option_flatten (fin.get m k) → filled n ≡ filled m
kept m n k w h e = same _ _ (λ q. filled_get n q ∙ ap option_flatten (h q) ∙ elim (eq_by_cmp name_cmp q k) as (λ b. eq_by_cmp name_cmp q k ≡ b → option_flatten (cond b w (fin.get m q)) ≡ option_flatten (fin.get m q)) [
  | true ↦ λ t. subst (λ (x : Key). option_flatten w ≡ option_flatten (fin.get m x)) (sym (tied k q t)) e
  | false ↦ λ _. refl
] refl ∙ sym (filled_get m q))

-- an empty slot for a key that has none changes nothing
pub filled_room : (m : SlotMap) (k : Key) → fin.get m k ≡ None → filled (fin.insert m k None) ≡ filled m
filled_room m k none = kept m _ k (Some None) (get-insert nat_list_cmp_total m k None) (ap option_flatten (sym none))

-- nor does taking an empty slot out
pub filled_unroomed : (m : SlotMap) (k : Key) → fin.get m k ≡ Some None → filled (fin.remove m k) ≡ filled m
filled_unroomed m k none = kept m _ k None (get-remove nat_list_cmp_total m k) (ap option_flatten (sym none))

flat : (b : Bool) (w o : Option (Option Key)) → option_flatten (cond b w o) ≡ cond b (option_flatten w) (option_flatten o)
flat true w o = refl
flat false w o = refl

pub filled_put : (m : SlotMap) (k v : Key) → filled (fin.insert m k (Some v)) ≡ fin.insert (filled m) k v
filled_put m k v = same _ _ (λ q. filled_get _ q ∙ ap option_flatten (get-insert nat_list_cmp_total m k (Some v) q) ∙ flat (eq_by_cmp name_cmp q k) (Some (Some v)) (fin.get m q)
    ∙ ap (cond (eq_by_cmp name_cmp q k) (Some v)) (sym (filled_get m q)) ∙ sym (get-insert nat_list_cmp_total (filled m) k v q))

pub filled_remove : (m : SlotMap) (k : Key) → filled (fin.remove m k) ≡ fin.remove (filled m) k
filled_remove m k = same _ _ (λ q. filled_get _ q ∙ ap option_flatten (get-remove nat_list_cmp_total m k q) ∙ flat (eq_by_cmp name_cmp q k) None (fin.get m q)
    ∙ ap (cond (eq_by_cmp name_cmp q k) None) (sym (filled_get m q)) ∙ sym (get-remove nat_list_cmp_total (filled m) k q))

-- a change of the slots is that change of the map
pub filled_after : (m : SlotMap) (c : Change) → filled (slots_after m c) ≡ changed (filled m) c
filled_after m (Put key value) = filled_put m key value
filled_after m (Remove key) = filled_remove m key

is_some_put : (m : SlotMap) (k : Key) (x : Option Key) (q : Key) → IsSome (fin.get m q) → IsSome (fin.get (fin.insert m k x) q)
is_some_put m k x q h = subst (λ (o : Option (Option Key)). IsSome o) (sym (get-insert nat_list_cmp_total m k x q))
    (elim (eq_by_cmp name_cmp q k) as (λ b. IsSome (cond b (Some x) (fin.get m q))) [ true ↦ refl | false ↦ h ])

-- nothing was found
pub not_there : {X : Type 0} (o : Option (Bor X)) → is_some o ≡ false → option_copied o ≡ None
not_there None e = refl
not_there (Some x) e = absurd (subst T e tt)

-- a slot more leaves the room that there is
pub room_stays : (m : SlotMap) (k : Key) (x : Option Key) (c : Change) → HasRoom m c → HasRoom (fin.insert m k x) c
room_stays m k x (Put key value) h = is_some_put m k x key h
room_stays m k x (Remove key) h = tt

-- the key that got a slot has it
pub room_made : (m : SlotMap) (k : Key) (x : Option Key) → IsSome (fin.get (fin.insert m k x) k)
room_made m k x = subst (λ (o : Option (Option Key)). IsSome o) (sym (get-insert nat_list_cmp_total m k x k))
    (subst (λ b. IsSome (cond b (Some x) (fin.get m k))) (sym (ap is_eq (tied_itself nat_list_cmp_total k))) refl)

-- the changes before the next find room, and so does the next
pub rooms_so_far : (m n : SlotMap) (cs : List Change) (i : ℕ) (c : Change) → c ≡ slice_index_or cs i c → i < length cs → ((d : Change) → HasRoom m d → HasRoom n d)
    → HasRoom n c → All (HasRoom m) (take i cs) → All (HasRoom n) (take (i + 1) cs)
rooms_so_far m n cs i c is lt stays now so_far =
    let e : take (i + 1) cs ≡ take i cs ++ c ∷ [] = take_more cs i c lt ∙ ap (λ (d : Change). take i cs ++ d ∷ []) (sym is) in
    subst (All (HasRoom n)) (sym e) (All-push (HasRoom n) (take i cs) c (All-weaker (HasRoom m) (HasRoom n) stays (take i cs) so_far) now)

-- a key's slot is not one that another key's change touches
lasts : (m : SlotMap) (c d : Change) → key_of c ≢ key_of d → HasRoom m d → HasRoom (slots_after m c) d
lasts m (Put key value) d far h = room_stays m key (Some value) d h
lasts m (Remove key) (Put other value) far h = subst (λ (o : Option (Option Key)). IsSome o) (sym (get-remove nat_list_cmp_total m key other))
    (elim (eq_by_cmp name_cmp other key) as (λ b. eq_by_cmp name_cmp other key ≡ b → IsSome (cond b None (fin.get m other))) [
      | true ↦ λ t. absurd (far (sym (tied key other t)))
      | false ↦ λ _. h
    ] refl)
lasts m (Remove key) (Remove other) far h = tt

last_all : (m : SlotMap) (c : Change) (cs : List Change) → AllByRecursion (λ d. key_of c ≢ key_of d) cs → AllByRecursion (HasRoom m) cs → AllByRecursion (HasRoom (slots_after m c)) cs
last_all m c [] far h = tt
last_all m c (d ∷ cs) far h = (lasts m c d far.0 h.0, last_all m c cs far.1 h.1)

-- after a change those that are left find room
pub rooms_left : (m : SlotMap) (c : Change) (cs : List Change) → AreApart (c ∷ cs) → All (HasRoom m) (c ∷ cs) → All (HasRoom (slots_after m c)) cs
rooms_left m c cs apart h = All-from_recursion (HasRoom (slots_after m c)) cs (last_all m c cs apart.0 (recursion_from_All (HasRoom m) cs (All-tail (HasRoom m) c cs h)))

-- the keys of entries that have a value
abbrev pub keys_held : {K : Type 0} → (K → Key) → List (K × Option Key) → List Key
keys_held bytes es = map (λ (e : Key × Key). e.0) (with_values (rows bytes es))

held_next : {K : Type 0} (bytes : K → Key) (e : K × Option Key) (es : List (K × Option Key)) → is_some e.1 ≡ true → keys_held bytes (e ∷ es) ≡ bytes e.0 ∷ keys_held bytes es
held_next bytes e es h = elim e.1 as (λ (o : Option Key). is_some o ≡ true → keys_held bytes ((e.0, o) ∷ es) ≡ bytes e.0 ∷ keys_held bytes es) [
  | None ↦ λ t. absurd (subst T (sym t) tt)
  | Some v ↦ λ _. refl
] h

-- one more key, and those that are left
pub held_more : {K : Type 0} (bytes : K → Key) (e : K × Option Key) (it es : List (K × Option Key)) (ks ls all : List Key) → it ≡ e ∷ es → is_some e.1 ≡ true
    → ls ≡ ks ++ bytes e.0 ∷ [] → ks ++ keys_held bytes it ≡ all → ls ++ keys_held bytes es ≡ all
held_more bytes e it es ks ls all is some push so_far =
    ap (λ (l : List Key). l ++ keys_held bytes es) push ∙ append_assoc ks (bytes e.0 ∷ []) (keys_held bytes es)
    ∙ ap (λ (l : List Key). ks ++ l) (sym (held_next bytes e es some) ∙ ap (keys_held bytes) (sym is)) ∙ so_far

held_filter : {K : Type 0} (bytes : K → Key) (test : K → Bool) (bound : Option Key) → ((x : K) → test x ≡ is_above bound (bytes x)) → (es : List (K × Option Key))
    → keys_held bytes (filter (λ e. test e.0) es) ≡ filter (is_above bound) (keys_held bytes es)
held_filter bytes test bound h [] = refl
held_filter bytes test bound h (e ∷ es) =
    let rest : keys_held bytes (filter (λ e. test e.0) es) ≡ filter (is_above bound) (keys_held bytes es) = held_filter bytes test bound h es in
    ap (λ (b : Bool). keys_held bytes (cond b (e ∷ filter (λ e. test e.0) es) (filter (λ e. test e.0) es))) (h e.0)
    ∙ elim e.1 as (λ (o : Option Key). keys_held bytes (cond (is_above bound (bytes e.0)) ((e.0, o) ∷ filter (λ e. test e.0) es) (filter (λ e. test e.0) es)) ≡ filter (is_above bound) (keys_held bytes ((e.0, o) ∷ es))) [
      | None ↦ elim (is_above bound (bytes e.0)) as (λ b. keys_held bytes (cond b ((e.0, None) ∷ filter (λ e. test e.0) es) (filter (λ e. test e.0) es)) ≡ filter (is_above bound) (keys_held bytes es)) [ true ↦ rest | false ↦ rest ]
      | Some v ↦ elim (is_above bound (bytes e.0)) as (λ b. keys_held bytes (cond b ((e.0, Some v) ∷ filter (λ e. test e.0) es) (filter (λ e. test e.0) es)) ≡ cond b (bytes e.0 ∷ filter (is_above bound) (keys_held bytes es)) (filter (is_above bound) (keys_held bytes es))) [
        | true ↦ ap (λ (l : List Key). bytes e.0 ∷ l) rest
        | false ↦ rest
      ]
    ]

-- the entries above a bound have the keys above it
pub held_above : {K : Type 0} (bytes : K → Key) (test : K → Bool) (bound : Option Key) (es : List (K × Option Key)) → ((x : K) → test x ≡ is_above bound (bytes x))
    → IsStrictlySortedBy (λ x y. name_cmp (bytes x) (bytes y)) (map (λ e. e.0) es) → keys_held bytes (filter (λ e. test e.0) es) ≡ keys_above bound (filled (from_entries (rows bytes es)))
held_above bytes test bound es h rise =
    held_filter bytes test bound h es
    ∙ ap (λ (rs : List Row). filter (is_above bound) (map (λ (e : Key × Key). e.0) (with_values rs))) (sym (kept_entries (rows bytes es) (rising_rows bytes es rise)))
    ∙ ap (λ (rs : List (Key × Key)). filter (is_above bound) (map (λ (e : Key × Key). e.0) rs)) (sym (filled_entries (from_entries (rows bytes es))))

pub and_true : (b : Bool) → (b && true) ≡ b
and_true true = refl
and_true false = refl
