-- Maps in which work came to a name that had some.
use Rattle.std.proofs.Common.{◌≡◌, ◌∙◌, sym, ap, refl, ℕ, cond, List, Some, IsSome, subst}
use Rattle.std.specs.declared.cmp.Ordering.{Ordering}
use Rattle.std.specs.declared.cmp.Ordering.TheVariants.{Less, Equal, Greater}
use Rattle.std.specs.Ordering.{is_eq}
use Rattle.std.specs.Cmp.Lexicographic.{nat_list_cmp_total}
use Rattle.std.specs.FinMap as fin
use Rattle.std.specs.FinMap.{get-insert, same_map, slice_cmp-IsAntisymmetric, nat_cmp-IsAntisymmetric}
use Rattle.obj_model.specs.Names.{name_cmp}
use Rattle.tier_types.specs.declared.flight.Flight.{Flight}
use Rattle.tier_flight.specs.Ends.{FlightMap, put_left}
use Rattle.tier_flight.specs.Joins.{IsJoinedIn, joined}
use Rattle.tier_flight.proofs.Swaps.{has_put, left_twice}

module _ (m : FlightMap) (k : List ℕ) (v : Flight) (stood : fin.get m k ≡ Some v) where
  same_value : (q : List ℕ) (r : Ordering) → name_cmp q k ≡ r →
      cond (is_eq (name_cmp q k)) (Some v) (fin.get m q) ≡ fin.get m q
  same_value q Less e = ap (λ r. cond (is_eq r) (Some v) (fin.get m q)) e
  same_value q Equal e =
      ap (λ r. cond (is_eq r) (Some v) (fin.get m q)) e
      ∙ sym (ap (fin.get m) (slice_cmp-IsAntisymmetric nat_cmp-IsAntisymmetric q k e) ∙ stood)
  same_value q Greater e = ap (λ r. cond (is_eq r) (Some v) (fin.get m q)) e

  -- a value put in its own place changes nothing
  pub put_back : fin.insert m k v ≡ m
  put_back = same_map nat_list_cmp_total (slice_cmp-IsAntisymmetric nat_cmp-IsAntisymmetric) _ _
      (λ q.
      get-insert nat_list_cmp_total m k v q ∙ same_value q (name_cmp q k) refl)

-- the name to which something was put has work
pub has_work : (m between : FlightMap) (k : List ℕ) (v : Flight) → between ≡ fin.insert m k v →
    IsSome (fin.get between k)
has_work m between k v e =
    let P : FlightMap → Type 0 = λ n. IsSome (fin.get n k) in
    subst P (sym e) (has_put m k v)

module _ (m between after : FlightMap) (k : List ℕ) (v stood : Flight)
    (swapped : between ≡ fin.insert m k v) (before : fin.get m k ≡ Some stood) where
  -- what came joined what stood
  pub joined_in : (f : Flight) → after ≡ put_left between k (Some (joined (Some stood) f)) →
      IsJoinedIn k f m after
  joined_in f e =
      e ∙ ap (λ n. put_left n k (Some (joined (Some stood) f))) swapped
      ∙ left_twice m k v (Some (joined (Some stood) f))
      ∙ ap (λ w. fin.insert m k (joined w f)) (sym before)

  -- what stood was put back
  pub as_before : after ≡ put_left between k (Some stood) → after ≡ m
  as_before e =
      e ∙ ap (λ n. put_left n k (Some stood)) swapped
      ∙ left_twice m k v (Some stood)
      ∙ put_back m k stood before
