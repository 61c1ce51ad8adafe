-- What is read from all of the bytes is spelled so, and what all of the bytes spell is read.
use Rattle.std.proofs.Common.{◌≡◌, ℕ, ◌^◌, ◌≤◌, cond, leb, eqb, List, [], ◌∷◌, ◌++◌, map, length, Option, Some, None, sym, ap, subst, ◌∙◌, arith}
use Rattle.std.specs.Prelude.{IfSome, IfNone}
use Rattle.std.specs.List.{AllByRecursion}
use Rattle.std.specs.FinMap as fin
use Rattle.std.specs.FinMap.{len-entries}
use Rattle.std.proofs.lemmas.Bool.{and_parts, and_from, leb-true, le-leb, eqb-true}
use Rattle.std.proofs.lemmas.List.{append-nil, nil_from_length}
use Rattle.std.proofs.lemmas.List.Elements.{All-from_recursion, recursion_from_All}
use Rattle.obj_model.specs.Names.{name_fault}
use Rattle.obj_model.specs.States.{IsKept, IsTable, IsObjOrNone, IsState}
use Rattle.obj_model.specs.declared.reply.Kept.{Kept}
use Rattle.obj_model.specs.declared.state.Obj.{Obj}
use Rattle.obj_model.specs.declared.state.NameState.{NameState}
use Rattle.rec_codec.specs.Spelling.{Entry, state_bytes, IsFitReply, IsNamed, IsNamedObj, IsTyped, SpellsState}
use Rattle.rec_codec.specs.Reading.{Reader, state_at, whole}
use Rattle.rec_codec.proofs.Readers.{IsBytes, some_bind, some_is, if_some, bind_is, IsReader}
use Rattle.rec_codec.proofs.Tables.{Table}
use Rattle.rec_codec.proofs.StateLaws.{IsSoundKept, IsSoundPair, IsSoundTable, IsSoundOption, IsSound, state_reads}

-- ---- all of the bytes

pub whole_takes : {X : Type 0} (read : Reader X) (spell : X → List ℕ) (L : X → Type 0) → IsReader read spell L → (bytes : List ℕ) (x : X) → IsBytes bytes → whole read bytes ≡ Some x → L x × (bytes ≡ spell x)
whole_takes {X} read spell L reads bytes x fits e =
    let a = some_bind (read bytes) (λ a. cond (eqb (length a.1) 0) (Some a.0) None) x e in
    let g = if_some (eqb (length a.0.1) 0) (Some a.0.0) x a.2 in
    let t = reads.takes bytes a.0.0 a.0.1 fits a.1 in
    let nothing : a.0.1 ≡ [] = nil_from_length a.0.1 (eqb-true _ _ g.0) in
    subst (λ (y : X). L y × (bytes ≡ spell y)) (some_is a.0.0 x g.1) (t.lawful, t.parts ∙ ap (λ (l : List ℕ). spell a.0.0 ++ l) nothing ∙ append-nil (spell a.0.0))

pub whole_again : {X : Type 0} (read : Reader X) (spell : X → List ℕ) (L : X → Type 0) → IsReader read spell L → (x : X) → L x → whole read (spell x) ≡ Some x
whole_again {X} read spell L reads x lawful =
    bind_is (read (spell x)) (x, []) (λ a. cond (eqb (length a.1) 0) (Some a.0) None) (ap read (sym (append-nil (spell x))) ∙ reads.again x [] lawful)

-- no spelling begins another
pub apart : {X : Type 0} (read : Reader X) (spell : X → List ℕ) (L : X → Type 0) → IsReader read spell L → (x y : X) (more others : List ℕ) → L x → L y → spell x ++ more ≡ spell y ++ others → (x ≡ y) × (more ≡ others)
apart {X} read spell L reads x y more others p q e =
    let same : (x, more) ≡ (y, others) = some_is (x, more) (y, others) (sym (reads.again x more p) ∙ ap read e ∙ reads.again y others q) in
    (ap (λ (z : X × List ℕ). z.0) same, ap (λ (z : X × List ℕ). z.1) same)

-- ---- what is within its limits is lawful and typed

keys_named : (es : List Entry) → AllByRecursion IsSoundPair es → AllByRecursion (λ k. name_fault k ≡ None) (map (λ e. e.0) es)
keys_named [] h = tt
keys_named (e ∷ es) h = (h.0.0, keys_named es h.1)

values_short : (es : List Entry) → AllByRecursion IsSoundPair es → AllByRecursion (λ v. length v ≤ 4096) (map (λ e. e.1) es)
values_short [] h = tt
values_short (e ∷ es) h = (leb-true _ _ h.0.1.1, values_short es h.1)

pairs_sound : (es : List Entry) → AllByRecursion (λ k. name_fault k ≡ None) (map (λ e. e.0) es) → AllByRecursion (λ v. length v ≤ 4096) (map (λ e. e.1) es) → AllByRecursion IsSoundPair es
pairs_sound [] named short = tt
pairs_sound (e ∷ es) named short = let low = short.0 in ((named.0, (omega arith, le-leb _ _ short.0)), pairs_sound es named.1 short.1)

table_lawful : (most : ℕ) (t : Table) → IsSoundTable most t → IsTable most t × IsNamed t
table_lawful most t h =
    let few = leb-true _ _ h.0.1 in (
      record { few = omega (arith, few, len-entries t); short = All-from_recursion (λ v. length v ≤ 4096) (map (λ e. e.1) (fin.entries t)) (values_short (fin.entries t) h.1) },
      All-from_recursion (λ k. name_fault k ≡ None) (map (λ e. e.0) (fin.entries t)) (keys_named (fin.entries t) h.1),
    )

table_sound : (most : ℕ) (t : Table) → most ≤ 1024 → IsTable most t → IsNamed t → IsSoundTable most t
table_sound most t low h named =
    let few : length (fin.entries t) ≤ most = omega (arith, h.few, len-entries t) in
    ((omega arith, le-leb _ _ few), pairs_sound (fin.entries t) (recursion_from_All (λ k. name_fault k ≡ None) (map (λ e. e.0) (fin.entries t)) named) (recursion_from_All (λ v. length v ≤ 4096) (map (λ e. e.1) (fin.entries t)) h.short))

object_lawful : (o : Option Obj) → IsSoundOption o → IsObjOrNone o × IsNamedObj o
object_lawful None h = (tt, tt)
object_lawful (Some o) h =
    let a = table_lawful 64 o.attrs h.1.0 in
    let b = table_lawful 1024 o.omap h.1.1 in
    (record { body_short = leb-true _ _ h.0.1; attrs_lawful = a.0; omap_lawful = b.0 }, (a.1, b.1))

object_sound : (o : Option Obj) → IsObjOrNone o → IsNamedObj o → IsSoundOption o
object_sound None h named = tt
object_sound (Some o) h named =
    let short = h.body_short in
    ((omega arith, le-leb _ _ short), (table_sound 64 o.attrs (omega arith) h.attrs_lawful named.0, table_sound 1024 o.omap (omega arith) h.omap_lawful named.1))

each_kept : (ks : List Kept) → AllByRecursion IsSoundKept ks → AllByRecursion IsKept ks
each_kept [] h = tt
each_kept (k ∷ ks) h = (h.0.0, each_kept ks h.1)

each_fit : (ks : List Kept) → AllByRecursion IsSoundKept ks → AllByRecursion (λ k. IsFitReply k.reply) ks
each_fit [] h = tt
each_fit (k ∷ ks) h = (h.0.1, each_fit ks h.1)

each_sound : (ks : List Kept) → AllByRecursion IsKept ks → AllByRecursion (λ k. IsFitReply k.reply) ks → AllByRecursion IsSoundKept ks
each_sound [] p q = tt
each_sound (k ∷ ks) p q = ((p.0, q.0), each_sound ks p.1 q.1)

pub state_lawful : (s : NameState) → IsSound s → IsState s × IsTyped s
state_lawful s h =
    let counts = and_parts (leb s.ver s.seq) (leb s.seq (2 ^ 62)) h.1.0.1 in
    let o = object_lawful s.obj h.1.1.0 in (
      record {
        counted = record { accepted = leb-true _ _ counts.0; acted = leb-true _ _ counts.1 };
        object = o.0;
        each_kept = All-from_recursion IsKept s.seen (each_kept s.seen h.1.1.1.0);
        rising = h.1.1.1.1;
      },
      record { named = o.1; fit = All-from_recursion (λ k. IsFitReply k.reply) s.seen (each_fit s.seen h.1.1.1.0) },
    )

pub state_sound : (s : NameState) → IsState s → IsTyped s → IsSound s
state_sound s h typed =
    let accepted = h.counted.accepted in
    let acted = h.counted.acted in (
      omega arith,
      (
        (omega arith, and_from (leb s.ver s.seq) (leb s.seq (2 ^ 62)) (le-leb _ _ accepted) (le-leb _ _ acted)),
        (object_sound s.obj h.object typed.named, (each_sound s.seen (recursion_from_All IsKept s.seen h.each_kept) (recursion_from_All (λ k. IsFitReply k.reply) s.seen typed.fit), h.rising)),
      ),
    )

-- ---- states

pub only_state : (bytes : List ℕ) (s : NameState) → SpellsState bytes s → whole state_at bytes ≡ Some s
only_state bytes s h = ap (λ (l : List ℕ). whole state_at l) h.spelled ∙ whole_again state_at state_bytes IsSound state_reads s (state_sound s h.lawful h.typed)

pub state_found : (bytes : List ℕ) (o : Option NameState) → IsBytes bytes → o ≡ whole state_at bytes → IfSome o (λ s. SpellsState bytes s)
state_found bytes None fits e = tt
state_found bytes (Some s) fits e =
    let t = whole_takes state_at state_bytes IsSound state_reads bytes s fits (sym e) in
    let h = state_lawful s t.0 in
    record { lawful = h.0; typed = h.1; spelled = t.1 }

no_value : (s : NameState) → None ≡ Some s → ⊥
no_value s e = absurd cc

pub state_none : (bytes : List ℕ) (o : Option NameState) → o ≡ whole state_at bytes → IfNone o ((s : NameState) → SpellsState bytes s → ⊥)
state_none bytes None e = λ s h. no_value s (e ∙ only_state bytes s h)
state_none bytes (Some s) e = tt

pub states_apart : (s t : NameState) (a b more others : List ℕ) → SpellsState a s → SpellsState b t → a ++ more ≡ b ++ others → (s ≡ t) × (more ≡ others)
states_apart s t a b more others p q e =
    apart state_at state_bytes IsSound state_reads s t more others (state_sound s p.lawful p.typed) (state_sound t q.lawful q.typed)
    (ap (λ (l : List ℕ). l ++ more) (sym p.spelled) ∙ e ∙ ap (λ (l : List ℕ). l ++ others) q.spelled)
