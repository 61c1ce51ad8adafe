-- Reading values one after the other, as a loop does.
use Rattle.std.proofs.Common.{◌≡◌, ℕ, suc, ◌-◌, ◌+◌, ◌≤◌, ◌<◌, Bool, true, false, cond, List, [], ◌∷◌, ◌++◌, Option, Some, None, refl, sym, ap, ◌∙◌, append_assoc, arith}
use Rattle.std.proofs.lemmas.List.{append-nil}
use Rattle.rec_codec.specs.declared.fault.ReadError.{ReadError}
use Rattle.rec_codec.specs.declared.fault.ReadError.TheVariants.{Memory, Wrong}
use Rattle.rec_codec.specs.Reading.{Reader, ◌>>=◌, Fails, each_at}

-- what was read before, and what is still read
abbrev pub with_front : {A : Type 0} → List A → Option (List A × List ℕ) → Option (List A × List ℕ)
with_front front read = read >>= λ x. Some (front ++ x.0, x.1)

-- nothing was read before
pub starts : {A : Type 0} (front : List A) (read : Option (List A × List ℕ)) → front ≡ [] → with_front front read ≡ read
starts {A} front (Some x) e = ap (λ (l : List A). Some (l ++ x.0, x.1)) e
starts front None e = refl

regroup : {A : Type 0} (front : List A) (a : A) (read : Option (List A × List ℕ)) → with_front front (read >>= λ x. Some (a ∷ x.0, x.1)) ≡ with_front (front ++ a ∷ []) read
regroup {A} front a (Some x) = ap (λ (l : List A). Some (l, x.1)) (sym (append_assoc front (a ∷ []) x.0))
regroup front a None = refl

module _ {A K : Type 0} (item : Reader A) (key : A → K) (above : K → K → Bool) where
  one_item : (last : K) (n : ℕ) (bytes : List ℕ) (a : A) (after : List ℕ) (b : Bool) → item bytes ≡ Some (a, after) → above last (key a) ≡ b
      → each_at item key above last (suc n) bytes ≡ cond b (each_at item key above (key a) n after >>= (λ others. Some (a ∷ others.0, others.1))) None
  unfolding each_at
  one_item last n bytes a after b h t =
      ap (λ (o : Option (A × List ℕ)). o >>= (λ x. cond (above last (key x.0)) (each_at item key above (key x.0) n x.1 >>= (λ others. Some (x.0 ∷ others.0, others.1))) None)) h
      ∙ ap (λ (c : Bool). cond c (each_at item key above (key a) n after >>= (λ others. Some (a ∷ others.0, others.1))) None) t

  no_item : (last : K) (n : ℕ) (bytes : List ℕ) → item bytes ≡ None → each_at item key above last (suc n) bytes ≡ None
  unfolding each_at
  no_item last n bytes h = ap (λ (o : Option (A × List ℕ)). o >>= (λ x. cond (above last (key x.0)) (each_at item key above (key x.0) n x.1 >>= (λ others. Some (x.0 ∷ others.0, others.1))) None)) h

  pub goes_on : (front : List A) (last : K) (count i : ℕ) (bytes : List ℕ) (a : A) (after : List ℕ) (total : Option (List A × List ℕ)) → i < count → item bytes ≡ Some (a, after) → above last (key a) ≡ true
      → with_front front (each_at item key above last (count - i) bytes) ≡ total → with_front (front ++ a ∷ []) (each_at item key above (key a) (count - (i + 1)) after) ≡ total
  goes_on front last count i bytes a after total lt h t so_far =
      let k : count - i ≡ suc (count - (i + 1)) = omega arith in
      sym (regroup front a (each_at item key above (key a) (count - (i + 1)) after))
      ∙ sym (ap (λ (o : Option (List A × List ℕ)). with_front front o) (ap (λ (n : ℕ). each_at item key above last n bytes) k ∙ one_item last (count - (i + 1)) bytes a after true h t))
      ∙ so_far

  pub stops : (front : List A) (last : K) (count i : ℕ) (bytes : List ℕ) (a : A) (after : List ℕ) (total : Option (List A × List ℕ)) → i < count → item bytes ≡ Some (a, after) → above last (key a) ≡ false
      → with_front front (each_at item key above last (count - i) bytes) ≡ total → total ≡ None
  stops front last count i bytes a after total lt h t so_far =
      let k : count - i ≡ suc (count - (i + 1)) = omega arith in
      sym so_far ∙ ap (λ (o : Option (List A × List ℕ)). with_front front o) (ap (λ (n : ℕ). each_at item key above last n bytes) k ∙ one_item last (count - (i + 1)) bytes a after false h t)

  pub ends : (e : ReadError) (front : List A) (last : K) (count i : ℕ) (bytes : List ℕ) (total : Option (List A × List ℕ)) → i < count → Fails e (item bytes)
      → with_front front (each_at item key above last (count - i) bytes) ≡ total → Fails e total
  ends Memory front last count i bytes total lt h so_far = tt
  ends Wrong front last count i bytes total lt h so_far =
      let k : count - i ≡ suc (count - (i + 1)) = omega arith in
      sym so_far ∙ ap (λ (o : Option (List A × List ℕ)). with_front front o) (ap (λ (n : ℕ). each_at item key above last n bytes) k ∙ no_item last (count - (i + 1)) bytes h)

  pub is_done : (front : List A) (last : K) (count i : ℕ) (bytes : List ℕ) (total : Option (List A × List ℕ)) → count ≤ i → with_front front (each_at item key above last (count - i) bytes) ≡ total → total ≡ Some (front, bytes)
  unfolding each_at
  is_done front last count i bytes total le so_far =
      let k : count - i ≡ 0 = omega arith in
      sym so_far ∙ ap (λ (n : ℕ). with_front front (each_at item key above last n bytes)) k ∙ ap (λ (l : List A). Some (l, bytes)) (append-nil front)
