-- Empty slots, each of which is room for a change.
use Rattle.std.proofs.Common.{sym, ◌∙◌, ap, subst, arith}
use Rattle.std.specs.Prelude.{◌≡◌, ◌≢◌, ◌<◌, ℕ, zero, suc, Bool, true, false, ◌||◌, T, List, [], ◌∷◌, length, slice_index_or, Option, None, Some, is_some, cond, refl}
use Rattle.std.specs.Ordering.{is_eq, eq_by_cmp}
use Rattle.std.specs.Cmp.{tied_itself}
use Rattle.std.specs.Cmp.Lexicographic.{nat_list_cmp_total}
use Rattle.std.specs.FinMap as fin
use Rattle.std.specs.FinMap.{get-insert, get-remove, get-empty}
use Rattle.std.specs.List.{All}
use Rattle.std.proofs.lemmas.List.Elements.{All-nil, All-head}
use Rattle.std.specs.Option.{option_flatten}
use Rattle.obj_model.specs.Names.{name_cmp}
use Rattle.obj_model.specs.Changes.{AreApart}
use Rattle.obj_model.specs.declared.change.Change.{Change}
use Rattle.obj_model.specs.declared.change.Change.TheVariants.{Put, Remove}
use Rattle.store_face.specs.Tables.{Table, changed_by}
use Rattle.pool_map.specs.Slots.{SlotMap, filled, HasRoom, slots_after, puts, IsTidy, IsCovered, is_room}
use Rattle.pool_map.proofs.Filled.{tied, filled_after, rooms_left}

abbrev Key : Type 0
Key = List ℕ

not_empty : (v : Key) → Some (Some v) ≢ Some None
not_empty v e = subst T (ap (λ (o : Option (Option Key)). is_some (option_flatten o)) e) tt

not_a_slot : ◌≢◌ {A = Option (Option Key)} None (Some None)
not_a_slot e = subst T (sym (ap (λ (o : Option (Option Key)). is_some o) e)) tt

-- no slot is empty where there is none
pub tidy_empty : IsTidy fin.empty []
tidy_empty q e = absurd (not_a_slot (sym (get-empty name_cmp q) ∙ e))

-- where one key's slot became w, which is not empty, the others' empty slots stay
others : (m n : SlotMap) (k : Key) (w : Option (Option Key)) (cs : List Change) → ((q : Key) → fin.get n q ≡ cond (eq_by_cmp name_cmp q k) w (fin.get m q)) → w ≢ Some None
    → ((q : Key) → fin.get m q ≡ Some None → (eq_by_cmp name_cmp q k || puts q cs) ≡ true) → IsTidy n cs
others m n k w cs h full tidy q e =
    elim (eq_by_cmp name_cmp q k) as (λ b. cond b w (fin.get m q) ≡ Some None → (fin.get m q ≡ Some None → (b || puts q cs) ≡ true) → puts q cs ≡ true) [
      | true ↦ λ is _. absurd (full is)
      | false ↦ λ is so. so is
    ] (sym (h q) ∙ e) (tidy q)

-- an empty slot is taken out
pub tidy_taken : (m : SlotMap) (k v : Key) (cs : List Change) → IsTidy m (Put k v ∷ cs) → IsTidy (fin.remove m k) cs
tidy_taken m k v cs tidy = others m _ k None cs (get-remove nat_list_cmp_total m k) not_a_slot tidy

same_slot : (m : SlotMap) (k q : Key) → fin.get m q ≡ cond (eq_by_cmp name_cmp q k) (fin.get m k) (fin.get m q)
same_slot m k q = elim (eq_by_cmp name_cmp q k) as (λ b. eq_by_cmp name_cmp q k ≡ b → fin.get m q ≡ cond b (fin.get m k) (fin.get m q)) [
  | true ↦ λ t. ap (fin.get m) (tied k q t)
  | false ↦ λ _. refl
] refl

-- a slot that is not empty needs none taken out
pub tidy_kept : (m : SlotMap) (k v : Key) (cs : List Change) → fin.get m k ≢ Some None → IsTidy m (Put k v ∷ cs) → IsTidy m cs
tidy_kept m k v cs full tidy = others m m k (fin.get m k) cs (same_slot m k) full tidy

-- a change is made of slots each of whose empty ones is room for it or for those that are left
pub tidy_after : (m : SlotMap) (c : Change) (cs : List Change) → IsTidy m (c ∷ cs) → IsTidy (slots_after m c) cs
tidy_after m (Put k v) cs tidy q e = others m _ k (Some (Some v)) cs (get-insert nat_list_cmp_total m k (Some v)) (not_empty v) tidy q e
tidy_after m (Remove k) cs tidy q e = elim (eq_by_cmp name_cmp q k) as (λ b. cond b None (fin.get m q) ≡ Some None → puts q cs ≡ true) [
  | true ↦ λ is. absurd (not_a_slot is)
  | false ↦ λ is. tidy q is
] (sym (get-remove nat_list_cmp_total m k q) ∙ e)

-- an empty slot was made for one of the changes
pub tidy_room : (m : SlotMap) (k : Key) (cs : List Change) → puts k cs ≡ true → IsTidy m cs → IsTidy (fin.insert m k None) cs
tidy_room m k cs among tidy q e =
    elim (eq_by_cmp name_cmp q k) as (λ b. eq_by_cmp name_cmp q k ≡ b → cond b (Some None) (fin.get m q) ≡ Some None → puts q cs ≡ true) [
      | true ↦ λ t _. ap (λ (x : Key). puts x cs) (tied k q t) ∙ among
      | false ↦ λ _ is. tidy q is
    ] refl (sym (get-insert nat_list_cmp_total m k None q) ∙ e)

-- slots none of which is empty are tidy for any changes
pub tidy_any : (m : SlotMap) (cs : List Change) → IsTidy m [] → IsTidy m cs
tidy_any m cs tidy q e = absurd (subst T (sym (tidy q e)) tt)

or_true : (b : Bool) → (b || true) ≡ true
or_true true = refl
or_true false = refl

covered_later : (c d : Change) (cs : List Change) → IsCovered cs d → IsCovered (c ∷ cs) d
covered_later (Put k v) (Put other w) cs h = ap (λ b. is_eq (name_cmp other k) || b) h ∙ or_true (is_eq (name_cmp other k))
covered_later (Remove k) (Put other w) cs h = h
covered_later c (Remove other) cs h = tt

covered_first : (c : Change) (cs : List Change) → IsCovered (c ∷ cs) c
covered_first (Put k v) cs = ap (λ r. is_eq r || puts k cs) (tied_itself nat_list_cmp_total k)
covered_first (Remove k) cs = tt

-- each change is covered by those that it is one of
pub covered_at : (cs : List Change) (i : ℕ) (d : Change) → i < length cs → IsCovered cs (slice_index_or cs i d)
covered_at [] i d lt = absurd (omega arith)
covered_at (c ∷ cs) zero d lt = covered_first c cs
covered_at (c ∷ cs) (suc i) d lt = covered_later c (slice_index_or cs i d) cs (covered_at cs i d (omega arith))

pub is_a_room : (o : Option (Option Key)) → is_room o ≡ true → o ≡ Some None
is_a_room None e = absurd (subst T (sym e) tt)
is_a_room (Some None) e = refl
is_a_room (Some (Some v)) e = absurd (subst T (sym e) tt)

pub is_no_room : (o : Option (Option Key)) → is_room o ≡ false → o ≢ Some None
is_no_room o e is = subst T (sym (ap is_room is) ∙ e) tt

-- a map without slots and changes
pub at_first : (m : SlotMap) (cs : List Change) → m ≡ fin.empty → cs ≡ [] → AreApart cs × All (HasRoom m) cs × IsTidy m cs
at_first m cs none nothing =
    subst (λ (l : List Change). AreApart l × All (HasRoom m) l × IsTidy m l) (sym nothing) (tt, All-nil (HasRoom m), subst (λ (s : SlotMap). IsTidy s []) (sym none) tidy_empty)

-- what holds of slots of which changes are left to be made
pub record IsOnTheWay (m : SlotMap) (cs : List Change) (all : Table) : Type 0 where
  pub so_far : changed_by (filled m) cs ≡ all
  pub apart : AreApart cs
  pub room : All (HasRoom m) cs
  pub tidy : IsTidy m cs

-- it holds after the next change too
pub goes_on : (m n : SlotMap) (c : Change) (cs it : List Change) (all : Table) → it ≡ c ∷ cs → n ≡ slots_after m c → IsOnTheWay m it all → IsOnTheWay n cs all
goes_on m n c cs it all next made way =
    let here : IsOnTheWay m (c ∷ cs) all = subst (λ (l : List Change). IsOnTheWay m l all) next way in
    subst (λ (s : SlotMap). IsOnTheWay s cs all) (sym made) (record {
      so_far = ap (λ (t : Table). changed_by t cs) (filled_after m c) ∙ here.so_far;
      apart = here.apart.1;
      room = rooms_left m c cs here.apart here.room;
      tidy = tidy_after m c cs here.tidy;
    })

-- the next change finds room
pub finds_room : (m : SlotMap) (c : Change) (cs it : List Change) (all : Table) → it ≡ c ∷ cs → IsOnTheWay m it all → HasRoom m c
finds_room m c cs it all next way = All-head (HasRoom m) c cs (subst (All (HasRoom m)) next way.room)
