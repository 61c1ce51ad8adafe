-- What a gather holds after each thing that it does with a chunk.
use Rattle.std.proofs.Common.{◌≡◌, Bool, true, false, ◌&&◌, List, [], ◌∷◌, ◌++◌, map, Option, Some}
use Rattle.std.proofs.Common.{None, refl, sym, ap, subst, ◌∙◌}
use Rattle.std.specs.declared.snapshot.Snapshot.{Snapshot}
use Rattle.std.proofs.lemmas.List.{map-append}
use Rattle.obj_model.specs.States.{unknown, IsState}
use Rattle.obj_model.specs.declared.state.NameState.{NameState}
use Rattle.copy_chunk.specs.declared.chunk.Chunk.{Chunk}
use Rattle.copy_chunk.specs.declared.chunk.Cursor.{Cursor}
use Rattle.copy_chunk.specs.declared.chunk.Cursor.TheVariants.{Head}
use Rattle.copy_chunk.specs.Gathers.{with_part, made_from, made, joined, IsChain, leads, part_fits}
use Rattle.copy_chunk.specs.Gathers.{fits}
use Rattle.copy_chunk.specs.Steps.{Puts, IsGathered}
use Rattle.copy_chunk.proofs.Fronts.{wanted_more, chain_more, wanted_first}
use Rattle.copy_chunk.proofs.Lawful.{first_lawful, part_lawful}

-- the chunks of snapshots
abbrev pub values : List (Snapshot Chunk) → List Chunk
values taken = map (λ (t : Snapshot Chunk). t.value) taken

pub values_same : (old room : List (Snapshot Chunk)) → room ≡ old → values room ≡ values old
values_same old room e = ap values e

pub values_more : (old room new : List (Snapshot Chunk)) (t : Snapshot Chunk) (c : Chunk)
    → room ≡ old → new ≡ room ++ t ∷ [] → t.value ≡ c → values new ≡ values old ++ c ∷ []
values_more old room new t c same more e =
    ap values more ∙ map-append (λ (t : Snapshot Chunk). t.value) room (t ∷ [])
    ∙ ap (λ (l : List (Snapshot Chunk)). values l ++ t.value ∷ []) same
    ∙ ap (λ (d : Chunk). values old ++ d ∷ []) e

made_push : (s : NameState) (cs : List Chunk) (c : Chunk)
    → made_from s (cs ++ c ∷ []) ≡ with_part (made_from s cs) c.at c.part
made_push s [] c = refl
made_push s (d ∷ cs) c = made_push (with_part s d.at d.part) cs c

-- what one more chunk makes
pub made_more : (cs : List Chunk) (c : Chunk)
    → made (cs ++ c ∷ []) ≡ with_part (made cs) c.at c.part
unfolding made
made_more cs c = made_push unknown cs c

nothing_made : made [] ≡ unknown
unfolding made
nothing_made = refl

nothing_chained : IsChain []
unfolding IsChain
nothing_chained = tt

-- no chunk was taken
pub gathered_nothing : (s : NameState) (cs : List Chunk) → s ≡ unknown → cs ≡ []
    → IsGathered s (Some Head) cs
gathered_nothing s cs e none =
    subst (λ (l : List Chunk). IsGathered s (Some Head) l) (sym none)
    (record {
      state = e ∙ sym nothing_made;
      place = sym wanted_first;
      chain = nothing_chained;
      lawful = subst IsState (sym nothing_made) first_lawful;
    })

-- nothing changed
pub gathered_still : (s t : NameState) (at : Option Cursor) (cs ds : List Chunk)
    → IsGathered s at cs → t ≡ s → ds ≡ cs → IsGathered t at ds
gathered_still s t at cs ds h e same =
    subst (λ (l : List Chunk). IsGathered t at l) (sym same)
    (record { state = e ∙ h.state; place = h.place; chain = h.chain; lawful = h.lawful })

-- a chunk that may not stand there, or of a part that does not, does not fit
pub unfit_place : (cs : List Chunk) (c : Chunk) → leads c.at c.next ≡ false → fits cs c ≡ false
unfolding fits
unfit_place cs c e = ap (λ (b : Bool). b && part_fits (made cs) c.at c.part) e

pub unfit_part : (s t : NameState) (at : Option Cursor) (cs : List Chunk) (c : Chunk)
    → IsGathered s at cs → Puts c.at c.part s false t → fits cs c ≡ false
unfolding fits
unfit_part s t at cs c h put =
    two (leads c.at c.next) (part_fits (made cs) c.at c.part)
    (ap (λ (x : NameState). part_fits x c.at c.part) (sym h.state) ∙ put.0)
  where
    two : (a b : Bool) → b ≡ false → (a && b) ≡ false
    two true b e = e
    two false b e = refl

pub fit_part : (s t : NameState) (at : Option Cursor) (cs : List Chunk) (c : Chunk)
    → IsGathered s at cs → leads c.at c.next ≡ true → Puts c.at c.part s true t → fits cs c ≡ true
unfolding fits
fit_part s t at cs c h lead put =
    ap (λ (b : Bool). b && part_fits (made cs) c.at c.part) lead
    ∙ ap (λ (x : NameState). part_fits x c.at c.part) (sym h.state) ∙ put.0

-- one more chunk was taken
pub gathered_more : (s t : NameState) (at : Option Cursor) (cs ds : List Chunk) (c : Chunk)
    → IsGathered s at cs → at ≡ Some c.at → Puts c.at c.part s true t → ds ≡ cs ++ c ∷ []
    → IsGathered t c.next ds
gathered_more s t at cs ds c h e put more =
    let now : t ≡ with_part (made cs) c.at c.part =
    put.1 ∙ ap (λ (x : NameState). with_part x c.at c.part) h.state in
    subst (λ (l : List Chunk). IsGathered t c.next l) (sym more) (record {
      state = now ∙ sym (made_more cs c);
      place = sym (wanted_more cs c);
      chain = chain_more cs c h.chain (sym h.place ∙ e);
      lawful =
          subst IsState (sym (made_more cs c))
          (part_lawful (made cs) c.at c.part h.lawful
          (ap (λ (x : NameState). part_fits x c.at c.part) (sym h.state) ∙ put.0));
    })

-- where no chunk is wanted the state is what the chunks join to, and elsewhere they join to none
pub gathered_whole : (s : NameState) (cs : List Chunk) → IsGathered s None cs → joined cs ≡ Some s
unfolding joined
gathered_whole s cs h =
    ap (λ (at : Option Cursor). elim at [ None ↦ Some (made cs) | Some a ↦ None ]) (sym h.place)
    ∙ ap Some (sym h.state)

pub gathered_part : (s : NameState) (a : Cursor) (cs : List Chunk) → IsGathered s (Some a) cs
    → joined cs ≡ None
unfolding joined
gathered_part s a cs h =
    ap (λ (at : Option Cursor). elim at [ None ↦ Some (made cs) | Some a ↦ None ]) (sym h.place)
