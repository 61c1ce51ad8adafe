-- Tables, objects and states: what is taken is spelled so, and what is spelled so is taken.
use Rattle.std.proofs.Common.{◌≡◌, ℕ, ◌^◌, ◌<◌, Bool, true, cond, ltb, leb, eqb, ◌&&◌, List, [], ◌∷◌, ◌++◌, map, length, Option, Some, None, refl, sym, ap, subst, ◌∙◌, arith, inl, inr}
use Rattle.std.specs.List.{AllByRecursion, flat_map}
use Rattle.std.specs.List.Sorted.{IsStrictlySortedBy}
use Rattle.std.specs.Ordering.{nat_cmp, is_lt}
use Rattle.std.specs.declared.cmp.Ordering.TheVariants.{Less, Equal, Greater}
use Rattle.std.specs.Cmp.{nat_cmp_total}
use Rattle.std.specs.Cmp.Lexicographic.{nat_list_cmp_total}
use Rattle.std.specs.FinMap as fin
use Rattle.std.proofs.lemmas.Bool.{and_parts, and_from, leb-true, le-leb, lt-ltb, eqb-true}
use Rattle.std.proofs.lemmas.List.{length-map}
use Rattle.std.proofs.lemmas.Bool.Decides.{nat_tests}
use Rattle.std.proofs.lemmas.List.Elements.{All-from_recursion}
use Rattle.std.proofs.lemmas.Map.Views.{length-le_from_below}
use Rattle.byteorder.specs.Endian.{big_bytes}
use Rattle.obj_model.specs.Names.{name_cmp, name_fault}
use Rattle.obj_model.specs.States.{IsKept}
use Rattle.obj_model.specs.declared.reply.Kept.{Kept}
use Rattle.obj_model.specs.declared.reply.Reply.{Reply}
use Rattle.obj_model.specs.declared.state.Obj.{Obj}
use Rattle.obj_model.specs.declared.state.NameState.{NameState}
use Rattle.obj_model.proofs.NameMaps.{kept_entries}
use Rattle.rec_codec.specs.Spelling.{Entry, name, string, reply, kept, pair, table, object, object_or_none, kept_list, state_bytes, IsFitReply}
use Rattle.rec_codec.specs.Reading.{then_at, if_at, as_at, number_at, string_at, name_at, reply_at, kept_at, pair_at, pairs_at, kepts_at, table_at, kept_list_at, object_at, object_behind, object_or_none_at, state_at}
use Rattle.rec_codec.proofs.Readers.{IsBytes, some_bind, some_is, bind_is, Took, IsReader, then_reads, behind_reads, if_reads, as_reads, also_reads, Each, each_reads}
use Rattle.rec_codec.proofs.BlockLaws.{byte_reads, u16_reads, u64_reads, string_reads, name_short, name_reads}
use Rattle.rec_codec.proofs.Tables.{rises_from_each, each_from_rises, lt_less, Table, entries_rise, made_of_entries}
use Rattle.rec_codec.proofs.ReplyLaws.{chosen, no_value, IsSoundReply, reply_reads}

-- ---- kept requests

-- a kept request within its limits
abbrev pub IsSoundKept : Kept → Type 0
IsSoundKept k = IsKept k × IsFitReply k.reply

abbrev in_range : ℕ → Bool
in_range client = leb 1 client && leb client 256

abbrev is_near : ℕ → Bool
is_near n = leb n (2 ^ 62)

kept_there : (client tid : ℕ) (r : Reply) → ((client < 256 ^ 2) × (in_range client ≡ true)) × (((tid < 256 ^ 8) × (is_near tid ≡ true)) × IsSoundReply r) → IsSoundKept (record { client = client; tid = tid; reply = r })
kept_there client tid r h =
    let c = and_parts (leb 1 client) (leb client 256) h.0.1 in
    (record { client_low = leb-true _ _ c.0; client_high = leb-true _ _ c.1; tid_high = leb-true _ _ h.1.0.1; reply_lawful = h.1.1.0 }, h.1.1.1)

kept_back : (k : Kept) → IsSoundKept k → ((k.client < 256 ^ 2) × (in_range k.client ≡ true)) × (((k.tid < 256 ^ 8) × (is_near k.tid ≡ true)) × IsSoundReply k.reply)
kept_back k h =
    let low = h.0.client_low in
    let high = h.0.client_high in
    let near = h.0.tid_high in
    ((omega arith, and_from (leb 1 k.client) (leb k.client 256) (le-leb _ _ low) (le-leb _ _ high)), ((omega arith, le-leb _ _ near), (h.0.reply_lawful, h.1)))

pub kept_reads : IsReader kept_at kept IsSoundKept
unfolding kept_at
kept_reads = as_reads (then_at (if_at (number_at 2) in_range) (λ _. then_at (if_at (number_at 8) is_near) (λ _. reply_at))) (λ k. record { client = k.0; tid = k.1.0; reply = k.1.1 }) (λ k. (k.client, (k.tid, k.reply)))
    (λ p. big_bytes 2 p.0 ++ (big_bytes 8 p.1.0 ++ reply p.1.1)) (λ p. ((p.0 < 256 ^ 2) × (in_range p.0 ≡ true)) × (((p.1.0 < 256 ^ 8) × (is_near p.1.0 ≡ true)) × IsSoundReply p.1.1)) IsSoundKept
    (then_reads (if_at (number_at 2) in_range) (λ _. then_at (if_at (number_at 8) is_near) (λ _. reply_at)) (big_bytes 2) (λ p. big_bytes 8 p.0 ++ reply p.1) (λ x. (x < 256 ^ 2) × (in_range x ≡ true)) (λ _ p. ((p.0 < 256 ^ 8) × (is_near p.0 ≡ true)) × IsSoundReply p.1)
    (if_reads (number_at 2) in_range (big_bytes 2) (λ x. x < 256 ^ 2) u16_reads)
    (λ _ _. then_reads (if_at (number_at 8) is_near) (λ _. reply_at) (big_bytes 8) reply (λ x. (x < 256 ^ 8) × (is_near x ≡ true)) (λ _. IsSoundReply)
    (if_reads (number_at 8) is_near (big_bytes 8) (λ x. x < 256 ^ 8) u64_reads) (λ _ _. reply_reads)))
    (λ p h. (kept_there p.0 p.1.0 p.1.1 h, refl)) (λ k h. (kept_back k h, refl))

-- kept requests within their limits, whose clients rise
abbrev pub IsSoundList : List Kept → Type 0
IsSoundList ks = AllByRecursion IsSoundKept ks × IsStrictlySortedBy nat_cmp (map (λ k. k.client) ks)

ltb_less : (a b : ℕ) → ltb a b ≡ true → nat_cmp a b ≡ Less
ltb_less a b h = ap (λ (t : Bool). cond t Less (cond (eqb a b) Equal Greater)) h

clients_low : (ks : List Kept) → AllByRecursion IsSoundKept ks → AllByRecursion (λ y. nat_cmp 0 y ≡ Less) (map (λ k. k.client) ks)
clients_low [] h = tt
clients_low (k ∷ ks) h = let low = h.0.0.client_low in (ltb_less 0 k.client (lt-ltb _ _ (omega arith)), clients_low ks h.1)

clients_high : (ks : List Kept) → AllByRecursion IsSoundKept ks → AllByRecursion (λ x. x < 257) (map (λ k. k.client) ks)
clients_high [] h = tt
clients_high (k ∷ ks) h = let high = h.0.0.client_high in (omega arith, clients_high ks h.1)

few_clients : (ks : List Kept) → IsSoundList ks → length ks < 256 ^ 2
few_clients ks h =
    let few = length-le_from_below 257 (map (λ k. k.client) ks) h.1 (All-from_recursion (λ x. x < 257) (map (λ k. k.client) ks) (clients_high ks h.0)) in
    omega (arith, few, length-map ks (λ (k : Kept). k.client))

less_ltb : (a b : ℕ) → nat_cmp a b ≡ Less → ltb a b ≡ true
less_ltb a b h = grind (arith, nat_tests)

kepts_reads : (n : ℕ) → IsReader (kepts_at 0 n) (flat_map kept) (λ ks. (length ks ≡ n) × IsSoundList ks)
kepts_reads n = also_reads (kepts_at 0 n) (flat_map kept) (flat_map kept) (λ ks. (length ks ≡ n) × Each IsSoundKept (λ k. k.client) ltb 0 ks) (λ ks. (length ks ≡ n) × IsSoundList ks)
    (each_reads kept_at (λ k. k.client) ltb kept IsSoundKept kept_reads 0 n) (λ ks. refl)
    (λ ks h. let r = rises_from_each IsSoundKept (λ k. k.client) ltb nat_cmp nat_cmp_total ltb_less 0 ks h.1 in (h.0, (r.each, r.rising)))
    (λ ks h. (h.0, each_from_rises IsSoundKept (λ k. k.client) ltb nat_cmp nat_cmp_total less_ltb 0 ks h.1.0 (clients_low ks h.1.0) h.1.1))

pub kept_list_reads : IsReader kept_list_at kept_list IsSoundList
unfolding kept_list_at
kept_list_reads = behind_reads (number_at 2) (kepts_at 0) length (big_bytes 2) (flat_map kept) (λ n. n < 256 ^ 2) IsSoundList u16_reads few_clients (λ n _. kepts_reads n)

-- ---- tables

-- an entry whose key is a name and whose value is short
abbrev pub IsSoundPair : Entry → Type 0
IsSoundPair e = (name_fault e.0 ≡ None) × ((length e.1 < 256 ^ 4) × (leb (length e.1) 4096 ≡ true))

pub pair_reads : IsReader pair_at pair IsSoundPair
unfolding pair_at
pair_reads = then_reads name_at (λ _. string_at 4096) name string (λ k. name_fault k ≡ None) (λ _ v. (length v < 256 ^ 4) × (leb (length v) 4096 ≡ true)) name_reads (λ _ _. string_reads 4096)

above_none : (k : List ℕ) → 0 < length k → name_cmp [] k ≡ Less
above_none [] lt = absurd (omega arith)
above_none (b ∷ bytes) lt = refl

keys_low : (es : List Entry) → AllByRecursion IsSoundPair es → AllByRecursion (λ y. name_cmp [] y ≡ Less) (map (λ e. e.0) es)
keys_low [] h = tt
keys_low (e ∷ es) h = (above_none e.0 (name_short e.0 h.0.0).0, keys_low es h.1)

-- a table of entries within their limits
abbrev pub IsSoundTable : ℕ → Table → Type 0
IsSoundTable most t = ((length (fin.entries t) < 256 ^ 2) × (leb (length (fin.entries t)) most ≡ true)) × AllByRecursion IsSoundPair (fin.entries t)

made_reads : (n : ℕ) → IsReader (as_at (pairs_at [] n) (fin.from_entries {R = name_cmp})) (λ t. flat_map pair (fin.entries t)) (λ t. (length (fin.entries t) ≡ n) × AllByRecursion IsSoundPair (fin.entries t))
made_reads n = as_reads (pairs_at [] n) (fin.from_entries {R = name_cmp}) fin.entries (flat_map pair) (λ es. (length es ≡ n) × Each IsSoundPair (λ e. e.0) (λ last key. is_lt (name_cmp last key)) [] es) (λ t. (length (fin.entries t) ≡ n) × AllByRecursion IsSoundPair (fin.entries t))
    (each_reads pair_at (λ e. e.0) (λ last key. is_lt (name_cmp last key)) pair IsSoundPair pair_reads [] n)
    (λ es h.
    let r = rises_from_each IsSoundPair (λ e. e.0) (λ last key. is_lt (name_cmp last key)) name_cmp nat_list_cmp_total (λ j k. lt_less (name_cmp j k)) [] es h.1 in
    let k = kept_entries es r.rising in
    (subst (λ (fs : List Entry). (length fs ≡ n) × AllByRecursion IsSoundPair fs) (sym k) (h.0, r.each), k))
    (λ t h. ((h.0, each_from_rises IsSoundPair (λ e. e.0) (λ last key. is_lt (name_cmp last key)) name_cmp nat_list_cmp_total (λ j k e. ap is_lt e) [] (fin.entries t) h.1 (keys_low (fin.entries t) h.1) (entries_rise t)), made_of_entries t))

pub table_reads : (most : ℕ) → IsReader (table_at most) table (IsSoundTable most)
unfolding table_at
table_reads most = behind_reads (if_at (number_at 2) (λ n. leb n most)) (λ n. as_at (pairs_at [] n) (fin.from_entries {R = name_cmp})) (λ t. length (fin.entries t)) (big_bytes 2) (λ t. flat_map pair (fin.entries t)) (λ n. (n < 256 ^ 2) × (leb n most ≡ true)) (IsSoundTable most)
    (if_reads (number_at 2) (λ n. leb n most) (big_bytes 2) (λ n. n < 256 ^ 2) u16_reads) (λ t h. h.0)
    (λ n h. also_reads (as_at (pairs_at [] n) (fin.from_entries {R = name_cmp})) (λ t. flat_map pair (fin.entries t)) (λ t. flat_map pair (fin.entries t)) (λ t. (length (fin.entries t) ≡ n) × AllByRecursion IsSoundPair (fin.entries t)) (λ t. (length (fin.entries t) ≡ n) × IsSoundTable most t)
    (made_reads n) (λ t. refl) (λ t k. (k.0, (subst (λ (m : ℕ). (m < 256 ^ 2) × (leb m most ≡ true)) (sym k.0) h, k.1))) (λ t k. (k.0, k.1.1)))

-- ---- objects and states

-- an object within its limits
abbrev pub IsSoundObj : Obj → Type 0
IsSoundObj o = ((length o.body < 256 ^ 4) × (leb (length o.body) 1048576 ≡ true)) × (IsSoundTable 64 o.attrs × IsSoundTable 1024 o.omap)

pub object_reads : IsReader object_at object IsSoundObj
unfolding object_at
object_reads = as_reads (then_at (string_at 1048576) (λ _. then_at (table_at 64) (λ _. table_at 1024))) (λ o. record { body = o.0; attrs = o.1.0; omap = o.1.1 }) (λ o. (o.body, (o.attrs, o.omap)))
    (λ p. string p.0 ++ (table p.1.0 ++ table p.1.1)) (λ p. ((length p.0 < 256 ^ 4) × (leb (length p.0) 1048576 ≡ true)) × (IsSoundTable 64 p.1.0 × IsSoundTable 1024 p.1.1)) IsSoundObj
    (then_reads (string_at 1048576) (λ _. then_at (table_at 64) (λ _. table_at 1024)) string (λ p. table p.0 ++ table p.1) (λ b. (length b < 256 ^ 4) × (leb (length b) 1048576 ≡ true)) (λ _ p. IsSoundTable 64 p.0 × IsSoundTable 1024 p.1) (string_reads 1048576)
    (λ _ _. then_reads (table_at 64) (λ _. table_at 1024) table table (IsSoundTable 64) (λ _. IsSoundTable 1024) (table_reads 64) (λ _ _. table_reads 1024)))
    (λ p h. (h, refl)) (λ o h. (h, refl))

-- no object, or one within its limits
abbrev pub IsSoundOption : Option Obj → Type 0
IsSoundOption None = Unit {0}
IsSoundOption (Some o) = IsSoundObj o

option_takes : (bytes : List ℕ) (x : Option Obj) (rest : List ℕ) → IsBytes bytes → object_or_none_at bytes ≡ Some (x, rest) → Took object_or_none IsSoundOption bytes x rest
unfolding object_or_none_at
option_takes bytes x rest fits e =
    let a = some_bind (number_at 1 bytes) (λ a. object_behind a.0 a.1) (x, rest) e in
    let t = byte_reads.takes bytes a.0.0 a.0.1 fits a.1 in
    elim (chosen (eqb a.0.0 0) (Some (None, a.0.1)) (cond (eqb a.0.0 1) (as_at object_at Some a.0.1) None) (Some (x, rest)) a.2) [
      | inl h ↦ subst (λ (y : Option Obj × List ℕ). Took object_or_none IsSoundOption bytes y.0 y.1) (some_is (None, a.0.1) (x, rest) h.1)
          (record { parts = t.parts ∙ ap (λ (n : ℕ). big_bytes 1 n ++ a.0.1) (eqb-true _ _ h.0); rest_fits = t.rest_fits; lawful = tt })
      | inr h ↦
          elim (chosen (eqb a.0.0 1) (as_at object_at Some a.0.1) None (Some (x, rest)) h.1) [
            | inl k ↦
                let b = some_bind (object_at a.0.1) (λ o. Some (Some o.0, o.1)) (x, rest) k.1 in
                let u = object_reads.takes a.0.1 b.0.0 b.0.1 t.rest_fits b.1 in
                subst (λ (y : Option Obj × List ℕ). Took object_or_none IsSoundOption bytes y.0 y.1) (some_is (Some b.0.0, b.0.1) (x, rest) b.2)
                (record { parts = t.parts ∙ ap (λ (n : ℕ). big_bytes 1 n ++ a.0.1) (eqb-true _ _ k.0) ∙ ap (λ (l : List ℕ). 1 ∷ l) u.parts; rest_fits = u.rest_fits; lawful = u.lawful })
            | inr k ↦ absurd (no_value (x, rest) k.1)
          ]
    ]

option_again : (x : Option Obj) (rest : List ℕ) → IsSoundOption x → object_or_none_at (object_or_none x ++ rest) ≡ Some (x, rest)
unfolding object_or_none_at
option_again None rest h = bind_is (number_at 1 (big_bytes 1 0 ++ rest)) (0, rest) (λ a. object_behind a.0 a.1) (byte_reads.again 0 rest (omega arith))
option_again (Some o) rest h =
    bind_is (number_at 1 (big_bytes 1 1 ++ (object o ++ rest))) (1, object o ++ rest) (λ a. object_behind a.0 a.1) (byte_reads.again 1 (object o ++ rest) (omega arith))
    ∙ bind_is (object_at (object o ++ rest)) (o, rest) (λ a. Some (Some a.0, a.1)) (object_reads.again o rest h)

pub option_reads : IsReader object_or_none_at object_or_none IsSoundOption
option_reads = record { takes = option_takes; again = option_again }

-- a state within its limits
abbrev pub IsSound : NameState → Type 0
IsSound s = (s.ver < 256 ^ 8) × (((s.seq < 256 ^ 8) × ((leb s.ver s.seq && leb s.seq (2 ^ 62)) ≡ true)) × (IsSoundOption s.obj × IsSoundList s.seen))

abbrev StateParts : Type 0
StateParts = ℕ × (ℕ × (Option Obj × List Kept))

abbrev IsSoundParts : StateParts → Type 0
IsSoundParts p = (p.0 < 256 ^ 8) × (((p.1.0 < 256 ^ 8) × ((leb p.0 p.1.0 && leb p.1.0 (2 ^ 62)) ≡ true)) × (IsSoundOption p.1.1.0 × IsSoundList p.1.1.1))

pub state_reads : IsReader state_at state_bytes IsSound
unfolding state_at
state_reads = as_reads (then_at (number_at 8) (λ ver. then_at (if_at (number_at 8) (λ seq. leb ver seq && leb seq (2 ^ 62))) (λ _. then_at object_or_none_at (λ _. kept_list_at)))) (λ s. record { ver = s.0; seq = s.1.0; obj = s.1.1.0; seen = s.1.1.1 }) (λ s. (s.ver, (s.seq, (s.obj, s.seen))))
    (λ p. big_bytes 8 p.0 ++ (big_bytes 8 p.1.0 ++ (object_or_none p.1.1.0 ++ kept_list p.1.1.1))) IsSoundParts IsSound
    (then_reads (number_at 8) (λ ver. then_at (if_at (number_at 8) (λ seq. leb ver seq && leb seq (2 ^ 62))) (λ _. then_at object_or_none_at (λ _. kept_list_at))) (big_bytes 8) (λ p. big_bytes 8 p.0 ++ (object_or_none p.1.0 ++ kept_list p.1.1)) (λ x. x < 256 ^ 8) (λ ver p. ((p.0 < 256 ^ 8) × ((leb ver p.0 && leb p.0 (2 ^ 62)) ≡ true)) × (IsSoundOption p.1.0 × IsSoundList p.1.1)) u64_reads
    (λ ver _. then_reads (if_at (number_at 8) (λ seq. leb ver seq && leb seq (2 ^ 62))) (λ _. then_at object_or_none_at (λ _. kept_list_at)) (big_bytes 8) (λ p. object_or_none p.0 ++ kept_list p.1) (λ seq. (seq < 256 ^ 8) × ((leb ver seq && leb seq (2 ^ 62)) ≡ true)) (λ _ p. IsSoundOption p.0 × IsSoundList p.1)
    (if_reads (number_at 8) (λ seq. leb ver seq && leb seq (2 ^ 62)) (big_bytes 8) (λ x. x < 256 ^ 8) u64_reads)
    (λ _ _. then_reads object_or_none_at (λ _. kept_list_at) object_or_none kept_list IsSoundOption (λ _. IsSoundList) option_reads (λ _ _. kept_list_reads))))
    (λ p h. (h, refl)) (λ s h. (h, refl))
