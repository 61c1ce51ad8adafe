-- The pairs of the first group, pair by pair.
use Rattle.std.proofs.Common.{◌≡◌, ◌≤◌, ◌<◌, ◌-◌, ℕ, Bool, true, false, cond, List, [], ◌∷◌, ◌++◌}
use Rattle.std.proofs.Common.{map, Option, Some, None, refl, sym, ap, ◌∙◌, arith, append_assoc}
use Rattle.std.specs.Prelude.{nat_le}
use Rattle.std.proofs.lemmas.List.{append-nil}
use Rattle.obj_model.specs.declared.out.Pair.{Pair}
use Rattle.copy_chunk.specs.declared.groups.Group.{Group}
use Rattle.copy_chunk.specs.Chunks.{Entry, pair_of, weight, before_first, groups, last_key}
use Rattle.copy_chunk.specs.Cuts.{group_of, first_group}

-- the first group, of which these pairs are there up to a key
abbrev pub group_on : List Pair → List ℕ → List (List Entry) → Group
group_on ps k [] = record { pairs = ps; last = None }
group_on ps k (g ∷ []) = record { pairs = ps ++ map pair_of g; last = None }
group_on ps k (g ∷ h ∷ gs) = record { pairs = ps ++ map pair_of g; last = last_key (Some k) g }

-- one pair more
pub on_more : (ps : List Pair) (k : List ℕ) (e : Entry) (gs : List (List Entry))
    → group_on (ps ++ pair_of e ∷ []) e.0 gs ≡ group_on ps k (before_first e gs)
on_more ps k e [] = refl
on_more ps k e (g ∷ []) =
    ap (λ (l : List Pair). record { pairs = l; last = None })
    (append_assoc ps (pair_of e ∷ []) (map pair_of g))
on_more ps k e (g ∷ h ∷ gs) =
    ap (λ (l : List Pair). record { pairs = l; last = last_key (Some e.0) g })
    (append_assoc ps (pair_of e ∷ []) (map pair_of g))

-- the first pair
pub on_first : (e : Entry) (gs : List (List Entry))
    → group_on (pair_of e ∷ []) e.0 gs ≡ group_of (before_first e gs)
on_first e [] = refl
on_first e (g ∷ []) = refl
on_first e (g ∷ h ∷ gs) = refl

by_test : (b : Bool) (x y : List (List Entry)) → b ≡ true → cond b x y ≡ x
by_test true x y e = refl
by_test false x y e = absurd cc

by_no_test : (b : Bool) (x y : List (List Entry)) → b ≡ false → cond b x y ≡ y
by_no_test true x y e = absurd cc
by_no_test false x y e = refl

fits_on : (ps : List Pair) (k : List ℕ) (room : ℕ) (e : Entry) (es : List Entry)
    → nat_le (weight e) room ≡ true
    → group_on (ps ++ pair_of e ∷ []) e.0 (groups (room - weight e) es)
    ≡ group_on ps k (groups room (e ∷ es))
unfolding groups
fits_on ps k room e es fit =
    on_more ps k e (groups (room - weight e) es)
    ∙ ap (group_on ps k) (sym (by_test (nat_le (weight e) room)
    (before_first e (groups (room - weight e) es))
    ([] ∷ before_first e (groups (65536 - weight e) es)) fit))

full_on : (ps : List Pair) (k : List ℕ) (e : Entry) (gs : List (List Entry))
    → group_on ps k ([] ∷ before_first e gs) ≡ record { pairs = ps; last = Some k }
full_on ps k e [] = ap (λ (l : List Pair). record { pairs = l; last = Some k }) (append-nil ps)
full_on ps k e (g ∷ gs) =
    ap (λ (l : List Pair). record { pairs = l; last = Some k }) (append-nil ps)

ends_full : (ps : List Pair) (k : List ℕ) (room : ℕ) (e : Entry) (es : List Entry)
    → nat_le (weight e) room ≡ false
    → group_on ps k (groups room (e ∷ es)) ≡ record { pairs = ps; last = Some k }
unfolding groups
ends_full ps k room e es full =
    ap (group_on ps k) (by_no_test (nat_le (weight e) room)
    (before_first e (groups (room - weight e) es))
    ([] ∷ before_first e (groups (65536 - weight e) es)) full)
    ∙ full_on ps k e (groups (65536 - weight e) es)

ends_all : (ps : List Pair) (k : List ℕ) (room : ℕ)
    → group_on ps k (groups room []) ≡ record { pairs = ps; last = None }
unfolding groups
ends_all ps k room = ap (λ (l : List Pair). record { pairs = l; last = None }) (append-nil ps)

-- the group so far, and what is left
abbrev pub Grouped : List Pair → List ℕ → ℕ → List Entry → Option Group → Type 0
Grouped ps k room left all = Some (group_on ps k (groups room left)) ≡ all

pub starts : (e : Entry) (es all : List Entry) (ps : List Pair) (room : ℕ) → all ≡ e ∷ es
    → ps ≡ pair_of e ∷ [] → room ≡ 65536 - weight e → Grouped ps e.0 room es (first_group all)
starts e es all ps room h p r =
    ap (λ (n : ℕ). Some (group_on ps e.0 (groups n es))) r
    ∙ ap (λ (l : List Pair). Some (group_on l e.0 (groups (65536 - weight e) es))) p
    ∙ ap Some (on_first e (groups (65536 - weight e) es)) ∙ sym (ap first_group h)

pub goes_on : (ps new : List Pair) (k : List ℕ) (room less : ℕ) (e : Entry) (left es : List Entry)
    (all : Option Group) → Grouped ps k room left all → left ≡ e ∷ es → new ≡ ps ++ pair_of e ∷ []
    → weight e ≤ room → less ≡ room - weight e → Grouped new e.0 less es all
goes_on ps new k room less e left es all h l n fit r =
    ap (λ (m : ℕ). Some (group_on new e.0 (groups m es))) r
    ∙ ap (λ (q : List Pair). Some (group_on q e.0 (groups (room - weight e) es))) n
    ∙ ap Some (fits_on ps k room e es (yes (weight e) room fit))
    ∙ ap (λ (q : List Entry). Some (group_on ps k (groups room q))) (sym l) ∙ h
  where
    yes : (w room : ℕ) → w ≤ room → nat_le w room ≡ true
    yes w room h = grind (arith, h)

pub ends_at : (ps qs : List Pair) (k j : List ℕ) (room : ℕ) (e : Entry) (left es : List Entry)
    (all : Option Group) → Grouped ps k room left all → left ≡ e ∷ es → room < weight e → qs ≡ ps
    → j ≡ k → Some (record { pairs = qs; last = Some j }) ≡ all
ends_at ps qs k j room e left es all h l full q i =
    ap (λ (r : List Pair). Some (record { pairs = r; last = Some j })) q
    ∙ ap (λ (i : List ℕ). Some (record { pairs = ps; last = Some i })) i
    ∙ ap Some (sym (ends_full ps k room e es (no (weight e) room full)))
    ∙ ap (λ (r : List Entry). Some (group_on ps k (groups room r))) (sym l) ∙ h
  where
    no : (w room : ℕ) → room < w → nat_le w room ≡ false
    no w room h = grind (arith, h)

pub ends : (ps qs : List Pair) (k : List ℕ) (room : ℕ) (left : List Entry) (all : Option Group)
    → Grouped ps k room left all → left ≡ [] → qs ≡ ps
    → Some (record { pairs = qs; last = None }) ≡ all
ends ps qs k room left all h l q =
    ap (λ (r : List Pair). Some (record { pairs = r; last = None })) q
    ∙ ap Some (sym (ends_all ps k room))
    ∙ ap (λ (r : List Entry). Some (group_on ps k (groups room r))) (sym l) ∙ h
