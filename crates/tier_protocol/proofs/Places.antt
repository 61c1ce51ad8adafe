-- The chunk that is found at a cursor names this cursor.
use Rattle.std.proofs.Common.{◌≡◌, ℕ, ◌∙◌, Bool, true, false, List, [], ◌∷◌, Option, Some, None, refl, sym, ap}
use Rattle.std.proofs.lemmas.Bool.{eqb-true}
use Rattle.std.proofs.lemmas.Slice.Eq.{bytes_eq-Decides}
use Rattle.std.specs.List.{find}
use Rattle.copy_chunk.specs.Chunks.{chunk_at, is_key, is_place}
use Rattle.copy_chunk.specs.declared.chunk.Chunk.{Chunk}
use Rattle.copy_chunk.specs.declared.chunk.Cursor.{Cursor}
use Rattle.copy_chunk.specs.declared.chunk.Cursor.TheVariants.{Head, Body, Attrs, Omap, Seen}
use Rattle.copy_chunk.proofs.Fronts.{find_hit, find_miss}

same_key : (j k : Option (List ℕ)) → is_key j k ≡ true → j ≡ k
same_key None None e = refl
same_key None (Some k) e = absurd (cc)
same_key (Some j) None e = absurd (cc)
same_key (Some j) (Some k) e = ap Some ((bytes_eq-Decides j k).0 e)

same_place : (at other : Cursor) → is_place at other ≡ true → at ≡ other
same_place Head Head e = refl
same_place Head (Body j) e = absurd (cc)
same_place Head (Attrs j) e = absurd (cc)
same_place Head (Omap j) e = absurd (cc)
same_place Head Seen e = absurd (cc)
same_place (Body i) Head e = absurd (cc)
same_place (Body i) (Body j) e = ap Body (eqb-true i j e)
same_place (Body i) (Attrs j) e = absurd (cc)
same_place (Body i) (Omap j) e = absurd (cc)
same_place (Body i) Seen e = absurd (cc)
same_place (Attrs i) Head e = absurd (cc)
same_place (Attrs i) (Body j) e = absurd (cc)
same_place (Attrs i) (Attrs j) e = ap Attrs (same_key i j e)
same_place (Attrs i) (Omap j) e = absurd (cc)
same_place (Attrs i) Seen e = absurd (cc)
same_place (Omap i) Head e = absurd (cc)
same_place (Omap i) (Body j) e = absurd (cc)
same_place (Omap i) (Attrs j) e = absurd (cc)
same_place (Omap i) (Omap j) e = ap Omap (same_key i j e)
same_place (Omap i) Seen e = absurd (cc)
same_place Seen Head e = absurd (cc)
same_place Seen (Body j) e = absurd (cc)
same_place Seen (Attrs j) e = absurd (cc)
same_place Seen (Omap j) e = absurd (cc)
same_place Seen Seen e = refl

pub told_place : (cs : List Chunk) (at : Cursor) (x : Chunk) → chunk_at cs at ≡ Some x → at ≡ x.at
unfolding chunk_at
told_place [] at x e = absurd (cc)
told_place (c ∷ cs) at x e = by (told_place cs at x) (is_place at c.at) refl
  where
    by : (find (λ (d : Chunk). is_place at d.at) cs ≡ Some x → at ≡ x.at) → (b : Bool)
        → is_place at c.at ≡ b → at ≡ x.at
    by later true is =
        let found : Some c ≡ Some x = sym (find_hit (λ d. is_place at d.at) c cs is) ∙ e in
        let same : c ≡ x = cc in
        same_place at c.at is ∙ ap (λ (d : Chunk). d.at) same
    by later false is = later (sym (find_miss (λ d. is_place at d.at) c cs is) ∙ e)
