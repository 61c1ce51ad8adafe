-- What becomes of an index where one name's work changes.
use Rattle.std.proofs.Common.{◌≡◌, ◌≢◌, ◌⊎◌, ◌↔◌, ◌∙◌, sym, ap, refl, subst, ℕ, Bool, true, false, cond, List, Option, Some, None, not, ◌&&◌, ◌||◌, inl, inr, true≢false}
use Rattle.std.specs.Cmp.{eq_by_cmp_equiv, Equal-is}
use Rattle.std.specs.Ordering.{eq_by_cmp}
use Rattle.std.specs.Cmp.Lexicographic.{nat_list_cmp_total}
use Rattle.std.specs.FinMap as fin
use Rattle.obj_model.specs.Names.{name_cmp}
use Rattle.tier_types.specs.declared.flight.Flight.{Flight}
use Rattle.tier_flight.specs.declared.index.Index.{Index}
use Rattle.tier_flight.specs.Ends.{FlightMap, put_left}
use Rattle.tier_flight.specs.Indexes.{AreEntered, AreForgotten, IsIndexBy, IsSameIndex, name_in}

abbrev Name : Type 0
Name = List ℕ

-- ---- the work on one name, and on another

by_test : (n k : Name) (b : Bool) → eq_by_cmp name_cmp n k ≡ b → (n ≡ k) ⊎ (n ≢ k)
by_test n k true e = inl
    (fin.slice_cmp-IsAntisymmetric fin.nat_cmp-IsAntisymmetric n k ((Equal-is (name_cmp n k)).0 e))
by_test n k false e = inr
    (λ same. let h : true ≡ false = sym ((eq_by_cmp_equiv nat_list_cmp_total).refl k)
    ∙ subst (λ m. eq_by_cmp name_cmp m k ≡ false) same e in absurd (cc))

-- two names are one, or not
pub same_or_not : (n k : Name) → (n ≡ k) ⊎ (n ≢ k)
same_or_not n k = by_test n k (eq_by_cmp name_cmp n k) refl

here : (k : Name) → eq_by_cmp name_cmp k k ≡ true
here k = (eq_by_cmp_equiv nat_list_cmp_total).refl k

there_by : (n k : Name) → n ≢ k → (b : Bool) → eq_by_cmp name_cmp n k ≡ b → b ≡ false
there_by n k ne true e = absurd
    (ne (fin.slice_cmp-IsAntisymmetric fin.nat_cmp-IsAntisymmetric n k
    ((Equal-is (name_cmp n k)).0 e)))
there_by n k ne false e = refl

there : (n k : Name) → n ≢ k → eq_by_cmp name_cmp n k ≡ false
there n k ne = there_by n k ne (eq_by_cmp name_cmp n k) refl

pub get_here : (m : FlightMap) (k : Name) (v : Option Flight) → fin.get (put_left m k v) k ≡ v
get_here m k None = fin.get-remove nat_list_cmp_total m k k
    ∙ ap (λ b. cond b None (fin.get m k)) (here k)
get_here m k (Some x) = fin.get-insert nat_list_cmp_total m k x k
    ∙ ap (λ b. cond b (Some x) (fin.get m k)) (here k)

pub get_there : (m : FlightMap) (k : Name) (v : Option Flight) (n : Name) → n ≢ k →
    fin.get (put_left m k v) n ≡ fin.get m n
get_there m k None n ne = fin.get-remove nat_list_cmp_total m k n
    ∙ ap (λ b. cond b None (fin.get m n)) (there n k ne)
get_there m k (Some x) n ne = fin.get-insert nat_list_cmp_total m k x n
    ∙ ap (λ b. cond b (Some x) (fin.get m n)) (there n k ne)

-- ---- one number: what is found of it before and after, and whether work has it

-- the number is of this name's work exactly where it is found there
abbrev Finds : Option Name → Name → Bool → Type 0
Finds found n b = (found ≡ Some n) ↔ (b ≡ true)

lost_here : (a b : Bool) (x y : Option Name) (n : Name) → y ≡ cond (a && not b) None x →
    Finds x n a → (b ≡ true → a ≡ true) → Finds y n b
lost_here true true x y n e h sub = ((λ _. refl), (λ _. e ∙ h.1 refl))
lost_here true false x y n e h sub = ((λ is. absurd (cc)), (λ no. absurd (true≢false (sym no))))
lost_here false true x y n e h sub = absurd (true≢false (sym (sub refl)))
lost_here false false x y n e h sub =
    ((λ is. h.0 (sym e ∙ is)), (λ no. absurd (true≢false (sym no))))

lost_there : (a b c : Bool) (x y : Option Name) (n q : Name) → q ≢ n →
    y ≡ cond (a && not b) None x → Finds x n a → Finds x q c → Finds y q c
lost_there true true c x y n q ne e h k = ((λ is. k.0 (sym e ∙ is)), (λ has. e ∙ k.1 has))
lost_there true false c x y n q ne e h k = (
  (λ is. absurd (cc)),
  (λ has. let at : Some q ≡ Some n = sym (k.1 has) ∙ h.1 refl in absurd (ne (cc))),
)
lost_there false b c x y n q ne e h k = ((λ is. k.0 (sym e ∙ is)), (λ has. e ∙ k.1 has))

won_here : (a t b : Bool) (x y : Option Name) (n : Name) → y ≡ cond t (Some n) x → b ≡ (a || t) →
    Finds x n a → Finds y n b
won_here true true b x y n e or h = ((λ _. or), (λ _. e))
won_here false true b x y n e or h = ((λ _. or), (λ _. e))
won_here true false b x y n e or h = ((λ _. or), (λ _. e ∙ h.1 refl))
won_here false false b x y n e or h =
    ((λ is. or ∙ h.0 (sym e ∙ is)), (λ has. e ∙ h.1 (sym or ∙ has)))

won_there : (t c : Bool) (x y : Option Name) (n q : Name) → q ≢ n → y ≡ cond t (Some n) x →
    (t ≡ true → c ≡ false) → Finds x q c → Finds y q c
won_there true c x y n q ne e new k = (
  (λ is. let at : Some n ≡ Some q = sym e ∙ is in absurd (ne (cc))),
  (λ has. absurd (true≢false (sym has ∙ new refl))),
)
won_there false c x y n q ne e new k = ((λ is. k.0 (sym e ∙ is)), (λ has. e ∙ k.1 has))

-- ---- all numbers

module _ (has : Option Flight → ℕ → Bool) (before after : Index) (m new : FlightMap) (n : Name)
    (left : Option Flight) (changed : new ≡ put_left m n left) (right : IsIndexBy has before m)
  where
    here_is : fin.get new n ≡ left
    here_is = ap (λ u. fin.get u n) changed ∙ get_here m n left

    there_is : (q : Name) → q ≢ n → fin.get new q ≡ fin.get m q
    there_is q ne = ap (λ u. fin.get u q) changed ∙ get_there m n left q ne

    -- one number of one name, by what holds of this name and of each other
    by_name : (k : ℕ) → Finds (name_in after k) n (has left k) →
        ((q : Name) → q ≢ n → Finds (name_in after k) q (has (fin.get m q) k)) → (q : Name) →
        Finds (name_in after k) q (has (fin.get new q) k)
    by_name k this others q = elim (same_or_not q n) [
      | inl same ↦ subst (λ (p : Name). Finds (name_in after k) p (has (fin.get new p) k)) (sym same)
          (subst (λ (w : Option Flight). Finds (name_in after k) n (has w k)) (sym here_is) this)
      | inr other ↦ subst (λ (w : Option Flight). Finds (name_in after k) q (has w k))
          (sym (there_is q other)) (others q other)
    ]

    -- the name's work lost some of its numbers, and these were taken out
    pub lost : AreForgotten (λ k. has (fin.get m n) k && not (has left k)) before after →
        ((k : ℕ) → has left k ≡ true → has (fin.get m n) k ≡ true) → IsIndexBy has after new
    lost out sub k = by_name k
        (lost_here (has (fin.get m n) k) (has left k) (name_in before k) (name_in after k) n (out k)
        (right k n) (sub k))
        (λ q ne. lost_there (has (fin.get m n) k) (has left k) (has (fin.get m q) k)
        (name_in before k) (name_in after k) n q ne (out k) (right k n) (right k q))

    -- the name's work has some new numbers, and these were entered
    pub won : (test : ℕ → Bool) → AreEntered test n before after →
        ((k : ℕ) → has left k ≡ (has (fin.get m n) k || test k)) →
        ((k : ℕ) → test k ≡ true → (q : Name) → has (fin.get m q) k ≡ false) → IsIndexBy has after new
    won test entered or fresh k = by_name k
        (won_here (has (fin.get m n) k) (test k) (has left k) (name_in before k) (name_in after k) n
        (entered k) (or k) (right k n))
        (λ q ne. won_there (test k) (has (fin.get m q) k) (name_in before k) (name_in after k) n q ne
        (entered k) (λ t. fresh k t q) (right k q))

-- numbers that no work has were entered, and then taken out
pub undone : (has : Option Flight → ℕ → Bool) (before between after : Index) (m : FlightMap)
    (test : ℕ → Bool) (n : Name) → AreEntered test n before between →
    AreForgotten test between after → IsIndexBy has before m →
    ((k : ℕ) → test k ≡ true → (q : Name) → has (fin.get m q) k ≡ false) → IsIndexBy has after m
undone has before between after m test n entered out right fresh k = by (test k) refl
  where
    by : (b : Bool) → test k ≡ b → (q : Name) → Finds (name_in after k) q (has (fin.get m q) k)
    by true t q = (
      (λ is. let gone : None ≡ Some q =
          sym (out k ∙ ap (λ x. cond x None (name_in between k)) t) ∙ is in absurd (cc)),
      (λ found. absurd (true≢false (sym found ∙ fresh k t q))),
    )
    by false t q = subst (λ (x : Option Name). Finds x q (has (fin.get m q) k))
        (sym (out k ∙ ap (λ x. cond x None (name_in between k)) t ∙ entered k
        ∙ ap (λ x. cond x (Some n) (name_in before k)) t)) (right k q)

-- the name's work has the numbers that it had
pub kept : (has : Option Flight → ℕ → Bool) (index : Index) (m new : FlightMap) (n : Name)
    (left : Option Flight) → new ≡ put_left m n left → IsIndexBy has index m →
    ((k : ℕ) → has left k ≡ has (fin.get m n) k) → IsIndexBy has index new
kept has index m new n left changed right same k q = elim (same_or_not q n) [
  | inl one ↦ subst (λ (p : Name). Finds (name_in index k) p (has (fin.get new p) k)) (sym one)
      (subst (λ (b : Bool). Finds (name_in index k) n b)
      (sym (ap (λ u. has (fin.get u n) k) changed ∙ ap (λ w. has w k) (get_here m n left)
      ∙ same k)) (right k n))
  | inr other ↦ subst (λ (w : Option Flight). Finds (name_in index k) q (has w k))
      (sym (ap (λ u. fin.get u q) changed ∙ get_there m n left q other)) (right k q)
]

-- an index in which each number has the name that it had
pub moved : (has : Option Flight → ℕ → Bool) (before after : Index) (m : FlightMap) →
    IsSameIndex before after → IsIndexBy has before m → IsIndexBy has after m
moved has before after m same right k q =
    subst (λ (x : Option Name). Finds x q (has (fin.get m q) k)) (sym (same k)) (right k q)

-- an index without numbers, where no work has one
pub no_numbers : (has : Option Flight → ℕ → Bool) (index : Index) → ((k : ℕ) → has None k ≡ false) →
    ((k : ℕ) → name_in index k ≡ None) → IsIndexBy has index
    (fin.empty {K = Name} {X = Flight} {R = name_cmp})
no_numbers has index free out k q =
    let e : has (fin.get (fin.empty {K = Name} {X = Flight} {R = name_cmp}) q) k ≡ false =
    ap (λ w. has w k) (fin.get-empty name_cmp q) ∙ free k in (
      (λ is. let gone : None ≡ Some q = sym (out k) ∙ is in absurd (cc)),
      (λ found. absurd (true≢false (sym found ∙ e))),
    )

-- a number that no work has is not in the index
pub unnamed : (has : Option Flight → ℕ → Bool) (index : Index) (m : FlightMap) →
    IsIndexBy has index m → (k : ℕ) → ((n : Name) → has (fin.get m n) k ≡ false) →
    name_in index k ≡ None
unnamed has index m right k free = by (name_in index k) refl
  where
    by : (x : Option Name) → name_in index k ≡ x → name_in index k ≡ None
    by None e = e
    by (Some n) e = absurd (true≢false (sym ((right k n).0 e) ∙ free n))
