-- The first chunks of a state: which one is wanted behind them, and to what they join.
use Rattle.std.proofs.Common.{◌≡◌, ℕ, Bool, true, false, cond, List, [], ◌∷◌, ◌++◌, Option, Some}
use Rattle.std.proofs.Common.{None, refl, sym, ap, subst, ◌∙◌, append_assoc, arith}
use Rattle.std.specs.List.{find}
use Rattle.std.proofs.lemmas.List.{append-nil}
use Rattle.std.specs.Cmp.Lexicographic.{nat_list_eq_equiv}
use Rattle.obj_model.specs.declared.state.NameState.{NameState}
use Rattle.copy_chunk.specs.declared.chunk.Chunk.{Chunk}
use Rattle.copy_chunk.specs.declared.chunk.Cursor.{Cursor}
use Rattle.copy_chunk.specs.declared.chunk.Cursor.TheVariants.{Head, Body, Attrs, Omap, Seen}
use Rattle.copy_chunk.specs.Chunks.{Piece, pieces_of, first_place, linked, chunks_of, is_key}
use Rattle.copy_chunk.specs.Chunks.{is_place, chunk_at}
use Rattle.copy_chunk.specs.Gathers.{made, wanted_from, wanted, joined, IsFront, IsChainFrom}
use Rattle.copy_chunk.specs.Gathers.{IsChain, AreOf, GoesOn}
use Rattle.copy_chunk.proofs.Places.{NoneAt, Apart, pieces_apart}
use Rattle.copy_chunk.proofs.Joins.{chunks_make}

-- the place of the first chunk, or of what stands behind them
abbrev pub first_at : Option Cursor → List Chunk → Option Cursor
first_at end [] = end
first_at end (c ∷ cs) = Some c.at

cons_head : {A : Type 0} (x y : A) (xs ys : List A) → x ∷ xs ≡ y ∷ ys → x ≡ y
cons_head x y xs ys e = cc

cons_tail : {A : Type 0} (x y : A) (xs ys : List A) → x ∷ xs ≡ y ∷ ys → xs ≡ ys
cons_tail x y xs ys e = cc

linked_first : (end : Option Cursor) (ps : List Piece)
    → first_place end ps ≡ first_at end (linked end ps)
linked_first end [] = refl
linked_first end (p ∷ ps) = refl

-- behind the first of linked pieces the next one is wanted
wanted_linked : (end at : Option Cursor) (ps : List Piece) (cs rest : List Chunk)
    → at ≡ first_place end ps → linked end ps ≡ cs ++ rest → wanted_from at cs ≡ first_at end rest
wanted_linked end at ps [] rest e whole = e ∙ linked_first end ps ∙ ap (first_at end) whole
wanted_linked end at [] (c ∷ cs) rest e whole = absurd cc
wanted_linked end at (p ∷ ps) (c ∷ cs) rest e whole =
    let head = cons_head _ c (linked end ps) (cs ++ rest) whole in
    wanted_linked end c.next ps cs rest (sym (ap (λ (d : Chunk). d.next) head))
    (cons_tail _ c (linked end ps) (cs ++ rest) whole)

-- behind the first chunks of a state the next one is wanted, and none behind the last
pub wanted_front : (s : NameState) (cs rest : List Chunk) → chunks_of s ≡ cs ++ rest
    → wanted cs ≡ first_at None rest
unfolding chunks_of wanted pieces_of
wanted_front s cs rest whole = wanted_linked None (Some Head) (pieces_of s) cs rest refl whole

nothing_behind : (rest : List Chunk) → first_at None rest ≡ None → rest ≡ []
nothing_behind [] e = refl
nothing_behind (c ∷ cs) e = absurd cc

-- first chunks of a state behind which none is wanted are all of them
pub whole_front : (s : NameState) (cs : List Chunk) → IsFront cs (chunks_of s) → wanted cs ≡ None
    → cs ≡ chunks_of s
whole_front s cs front e =
    let none = nothing_behind front.behind (sym (wanted_front s cs front.behind front.whole) ∙ e) in
    sym (append-nil cs) ∙ ap (λ (l : List Chunk). cs ++ l) (sym none) ∙ sym front.whole

-- behind all chunks of a state none is wanted
pub wanted_all : (s : NameState) → wanted (chunks_of s) ≡ None
wanted_all s = wanted_front s (chunks_of s) [] (sym (append-nil (chunks_of s)))

by_wanted : (at : Option Cursor) (s : NameState) → at ≡ None
    → (elim at [ None ↦ Some s | Some a ↦ None ]) ≡ Some s
by_wanted None s e = refl
by_wanted (Some a) s e = absurd cc

-- the chunks of a state join to it
pub chunks_join : (s : NameState) → joined (chunks_of s) ≡ Some s
unfolding joined
chunks_join s =
    by_wanted (wanted (chunks_of s)) (made (chunks_of s)) (wanted_all s) ∙ ap Some (chunks_make s)

nothing_wanted : (at : Option Cursor) (s t : NameState)
    → (elim at [ None ↦ Some s | Some a ↦ None ]) ≡ Some t → at ≡ None
nothing_wanted None s t e = refl
nothing_wanted (Some a) s t e = absurd cc

-- chunks that join to a state want none behind them
pub joined_wants : (cs : List Chunk) (s : NameState) → joined cs ≡ Some s → wanted cs ≡ None
unfolding joined
joined_wants cs s e = nothing_wanted (wanted cs) (made cs) s e

some_is : {A : Type 0} (x y : A) → Some x ≡ Some y → x ≡ y
some_is x y e = cc

-- the first chunks of a state, where they join to one, join to that one
pub joined_front : (cs : List Chunk) (b s : NameState) → IsFront cs (chunks_of b)
    → joined cs ≡ Some s → s ≡ b
joined_front cs b s front e =
    let all = whole_front b cs front (joined_wants cs s e) in
    some_is s b (sym e ∙ ap joined all ∙ chunks_join b)

-- no chunks are the first of any
pub front_nothing : (all : List Chunk) → IsFront [] all
front_nothing all = record { behind = all; whole = refl }

-- ---- the chunk at a place

key_itself : (k : Option (List ℕ)) → is_key k k ≡ true
key_itself None = refl
key_itself (Some k) = nat_list_eq_equiv.refl k

pub place_itself : (at : Cursor) → is_place at at ≡ true
place_itself Head = refl
place_itself (Body off) = grind arith
place_itself (Attrs k) = key_itself k
place_itself (Omap k) = key_itself k
place_itself Seen = refl

-- places that the test tells apart the one way are told apart the other way
pub key_symmetric : (j k : Option (List ℕ)) → is_key j k ≡ is_key k j
key_symmetric None None = refl
key_symmetric None (Some k) = refl
key_symmetric (Some j) None = refl
key_symmetric (Some j) (Some k) = nat_list_eq_equiv.symm j k

pub place_symmetric : (at other : Cursor) → is_place at other ≡ is_place other at
place_symmetric Head Head = refl
place_symmetric Head (Body j) = refl
place_symmetric Head (Attrs j) = refl
place_symmetric Head (Omap j) = refl
place_symmetric Head Seen = refl
place_symmetric (Body i) Head = refl
place_symmetric (Body i) (Body j) = grind arith
place_symmetric (Body i) (Attrs j) = refl
place_symmetric (Body i) (Omap j) = refl
place_symmetric (Body i) Seen = refl
place_symmetric (Attrs i) Head = refl
place_symmetric (Attrs i) (Body j) = refl
place_symmetric (Attrs i) (Attrs j) = key_symmetric i j
place_symmetric (Attrs i) (Omap j) = refl
place_symmetric (Attrs i) Seen = refl
place_symmetric (Omap i) Head = refl
place_symmetric (Omap i) (Body j) = refl
place_symmetric (Omap i) (Attrs j) = refl
place_symmetric (Omap i) (Omap j) = key_symmetric i j
place_symmetric (Omap i) Seen = refl
place_symmetric Seen Head = refl
place_symmetric Seen (Body j) = refl
place_symmetric Seen (Attrs j) = refl
place_symmetric Seen (Omap j) = refl
place_symmetric Seen Seen = refl

pub find_hit : (test : Chunk → Bool) (c : Chunk) (cs : List Chunk) → test c ≡ true
    → find test (c ∷ cs) ≡ Some c
find_hit test c cs e = ap (λ (b : Bool). cond b (Some c) (find test cs)) e

pub find_miss : (test : Chunk → Bool) (c : Chunk) (cs : List Chunk) → test c ≡ false
    → find test (c ∷ cs) ≡ find test cs
find_miss test c cs e = ap (λ (b : Bool). cond b (Some c) (find test cs)) e

-- a chunk of linked pieces that stand apart is found at its place
found_apart : (end : Option Cursor) (ps : List Piece) (cs rest : List Chunk) (c : Chunk) → Apart ps
    → linked end ps ≡ cs ++ c ∷ rest → find (λ d. is_place c.at d.at) (cs ++ c ∷ rest) ≡ Some c
found_apart end ps [] rest c apart whole =
    find_hit (λ d. is_place c.at d.at) c rest (place_itself c.at)
found_apart end [] (d ∷ cs) rest c apart whole = absurd cc
found_apart end (p ∷ ps) (d ∷ cs) rest c apart whole =
    let head = cons_head _ d (linked end ps) (cs ++ c ∷ rest) whole in
    let tail = cons_tail _ d (linked end ps) (cs ++ c ∷ rest) whole in
    let place : p.0 ≡ d.at = ap (λ (d : Chunk). d.at) head in
    find_miss (λ e. is_place c.at e.at) d (cs ++ c ∷ rest)
    (subst (λ a. is_place c.at a ≡ false) place (apart_here p.0 ps cs rest apart.0 tail))
    ∙ found_apart end ps cs rest c apart.1 tail
  where
    apart_here : (at : Cursor) (ps : List Piece) (cs rest : List Chunk) → NoneAt at ps
        → linked end ps ≡ cs ++ c ∷ rest → is_place c.at at ≡ false
    apart_here at [] [] rest none whole = absurd cc
    apart_here at [] (d ∷ cs) rest none whole = absurd cc
    apart_here at (p ∷ ps) [] rest none whole =
        let place : p.0 ≡ c.at =
        ap (λ (d : Chunk). d.at) (cons_head _ c (linked end ps) rest whole) in
        place_symmetric c.at at ∙ ap (is_place at) (sym place) ∙ none.0
    apart_here at (p ∷ ps) (d ∷ cs) rest none whole =
        apart_here at ps cs rest none.1 (cons_tail _ d (linked end ps) (cs ++ c ∷ rest) whole)

-- each chunk of a state is the one at its place
pub chunk_found : (s : NameState) (cs rest : List Chunk) (c : Chunk) → chunks_of s ≡ cs ++ c ∷ rest
    → chunk_at (chunks_of s) c.at ≡ Some c
unfolding chunks_of chunk_at
chunk_found s cs rest c whole =
    ap (find (λ d. is_place c.at d.at)) whole
    ∙ found_apart None (pieces_of s) cs rest c (pieces_apart s) whole

first_wanted : (rest : List Chunk) (at : Cursor) → first_at None rest ≡ Some at
    → (c : Chunk) × (others : List Chunk) × (rest ≡ c ∷ others) × (c.at ≡ at)
first_wanted [] at e = absurd cc
first_wanted (c ∷ cs) at e = (c, cs, refl, some_is c.at at e)

-- behind the first chunks of a state the wanted place is one of the state, and the chunk there goes
-- on
pub front_goes_on : (cs : List Chunk) (s : NameState) (at : Cursor) → IsFront cs (chunks_of s)
    → wanted cs ≡ Some at → GoesOn s cs at
front_goes_on cs s at front e =
    let f = first_wanted front.behind at (sym (wanted_front s cs front.behind front.whole) ∙ e) in
    let whole : chunks_of s ≡ cs ++ f.0 ∷ f.1 =
    front.whole ∙ ap (λ (l : List Chunk). cs ++ l) f.2 in
    record {
      chunk = f.0;
      there = ap (chunk_at (chunks_of s)) (sym f.3) ∙ chunk_found s cs f.1 f.0 whole;
      place = f.3;
      front = record { behind = f.1; whole = whole ∙ sym (append_assoc cs (f.0 ∷ []) f.1) };
    }

-- the first chunks of a state and the chunk at the place that is wanted behind them are the first
-- chunks
pub front_more : (cs : List Chunk) (s : NameState) (at : Cursor) (c : Chunk)
    → IsFront cs (chunks_of s) → wanted cs ≡ Some at → chunk_at (chunks_of s) at ≡ Some c
    → IsFront (cs ++ c ∷ []) (chunks_of s)
front_more cs s at c front e there =
    let g = front_goes_on cs s at front e in
    subst (λ (d : Chunk). IsFront (cs ++ d ∷ []) (chunks_of s))
    (some_is g.chunk c (sym g.there ∙ there)) g.front

wanted_push : (at : Option Cursor) (cs : List Chunk) (c : Chunk)
    → wanted_from at (cs ++ c ∷ []) ≡ c.next
wanted_push at [] c = refl
wanted_push at (d ∷ cs) c = wanted_push d.next cs c

-- behind a chunk the place that it names is wanted
pub wanted_more : (cs : List Chunk) (c : Chunk) → wanted (cs ++ c ∷ []) ≡ c.next
unfolding wanted
wanted_more cs c = wanted_push (Some Head) cs c

chain_push : (at : Option Cursor) (cs : List Chunk) (c : Chunk) → IsChainFrom at cs
    → wanted_from at cs ≡ Some c.at → IsChainFrom at (cs ++ c ∷ [])
chain_push at [] c h e = (e, tt)
chain_push at (d ∷ cs) c h e = (h.0, chain_push d.next cs c h.1 e)

-- a chain and the chunk that is wanted behind it are a chain
pub chain_more : (cs : List Chunk) (c : Chunk) → IsChain cs → wanted cs ≡ Some c.at
    → IsChain (cs ++ c ∷ [])
unfolding IsChain wanted
chain_more cs c h e = chain_push (Some Head) cs c h e

chain_goes_on : (s : NameState) (done cs : List Chunk) → IsFront done (chunks_of s)
    → IsChainFrom (wanted done) cs → AreOf s cs → IsFront (done ++ cs) (chunks_of s)
chain_goes_on s done [] front chain all =
    subst (λ (l : List Chunk). IsFront l (chunks_of s)) (sym (append-nil done)) front
chain_goes_on s done (c ∷ cs) front chain all =
    subst (λ (l : List Chunk). IsFront l (chunks_of s)) (append_assoc done (c ∷ []) cs)
    (chain_goes_on s (done ++ c ∷ []) cs (front_more done s c.at c front chain.0 all.0)
    (subst (λ (at : Option Cursor). IsChainFrom at cs) (sym (wanted_more done c)) chain.1) all.1)

-- the head is wanted first
pub wanted_first : wanted [] ≡ Some Head
unfolding wanted
wanted_first = refl

-- a chain of chunks of a state is its first chunks
pub chain_is_front : (s : NameState) (cs : List Chunk) → IsChain cs → AreOf s cs
    → IsFront cs (chunks_of s)
unfolding IsChain
chain_is_front s cs chain all =
    chain_goes_on s [] cs (front_nothing (chunks_of s))
    (subst (λ (at : Option Cursor). IsChainFrom at cs) (sym wanted_first) chain) all
