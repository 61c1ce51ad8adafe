-- Maps in which one key was written twice.
use Rattle.std.proofs.Common.{◌≡◌, ◌∙◌, sym, ap, refl, ℕ, Bool, true, false, cond, List, Option, Some, None, IsSome, subst}
use Rattle.std.specs.Cmp.Lexicographic.{nat_list_cmp_total}
use Rattle.std.specs.FinMap as fin
use Rattle.std.specs.FinMap.{get-insert, get-remove, same_map, slice_cmp-IsAntisymmetric, nat_cmp-IsAntisymmetric}
use Rattle.std.specs.Ordering.{eq_by_cmp}
use Rattle.std.specs.Cmp.{eq_by_cmp_equiv}
use Rattle.tier_types.specs.declared.flight.Flight.{Flight}
use Rattle.tier_flight.specs.Ends.{put_left}
use Rattle.obj_model.specs.Names.{name_cmp}

-- the outer choice settles the inner one
settled : {X : Type 0} (b : Bool) (x y z : X) → cond b x (cond b y z) ≡ cond b x z
settled true x y z = refl
settled false x y z = refl

module _ {X : Type 0} (m : fin.FinMap name_cmp X) (k : List ℕ) (v : X) where
  -- what was put first is gone when another is put
  pub put_twice : (w : X) → fin.insert (fin.insert m k v) k w ≡ fin.insert m k w
  put_twice w = same_map nat_list_cmp_total (slice_cmp-IsAntisymmetric nat_cmp-IsAntisymmetric) _ _
      (λ q.
      get-insert nat_list_cmp_total (fin.insert m k v) k w q
      ∙ ap (cond (eq_by_cmp name_cmp q k) (Some w)) (get-insert nat_list_cmp_total m k v q)
      ∙ settled (eq_by_cmp name_cmp q k) (Some w) (Some v) (fin.get m q)
      ∙ sym (get-insert nat_list_cmp_total m k w q))

  -- what was put is gone when the key is taken out
  pub put_and_taken : fin.remove (fin.insert m k v) k ≡ fin.remove m k
  put_and_taken = same_map nat_list_cmp_total (slice_cmp-IsAntisymmetric nat_cmp-IsAntisymmetric) _
      _ (λ q.
      get-remove nat_list_cmp_total (fin.insert m k v) k q
      ∙ ap (cond (eq_by_cmp name_cmp q k) None) (get-insert nat_list_cmp_total m k v q)
      ∙ settled (eq_by_cmp name_cmp q k) None (Some v) (fin.get m q)
      ∙ sym (get-remove nat_list_cmp_total m k q))

  -- there is a value where one was put
  pub has_put : IsSome (fin.get (fin.insert m k v) k)
  has_put = let P : Option X → Type 0 = λ o. IsSome o in
      subst P (sym
      (get-insert nat_list_cmp_total m k v k
      ∙ ap (λ b. cond b (Some v) (fin.get m k)) ((eq_by_cmp_equiv nat_list_cmp_total).refl k)))
      refl

-- what is left replaces what was put first
pub left_twice : (m : fin.FinMap name_cmp Flight) (k : List ℕ) (v : Flight) (left : Option Flight) →
    put_left (fin.insert m k v) k left ≡ put_left m k left
left_twice m k v None = put_and_taken m k v
left_twice m k v (Some w) = put_twice m k v w
