-- What a reader takes is spelled so, and what is spelled so is taken: for each way to put readers together.
use Rattle.std.proofs.Common.{◌≡◌, ℕ, zero, suc, ◌+◌, ◌<◌, Bool, true, false, cond, List, [], ◌∷◌, ◌++◌, length, get_or, drop, take, Option, Some, None, refl, sym, ap, subst, ◌∙◌, append_assoc, arith, inl, inr}
use Rattle.std.specs.List.{AllByRecursion, flat_map}
use Rattle.std.proofs.lemmas.Bool.{cases_lt}
use Rattle.std.proofs.lemmas.List.{get_or-drop, get_or-take, get_or_past, length-take}
use Rattle.std.proofs.lemmas.List.Concat.{flat_map-cons}
use Rattle.rec_codec.specs.Reading.{Reader, ◌>>=◌, then_at, behind_at, if_at, as_at, each_at}

-- each is a byte
abbrev pub IsBytes : List ℕ → Type 0
IsBytes bytes = (i : ℕ) → get_or bytes i 0 < 256

pub IsBytes-drop : (n : ℕ) (bytes : List ℕ) → IsBytes bytes → IsBytes (drop n bytes)
IsBytes-drop n bytes h i = rw get_or-drop (h (n + i))

pub IsBytes-take : (n : ℕ) (bytes : List ℕ) → IsBytes bytes → IsBytes (take n bytes)
IsBytes-take n bytes h i =
    elim (cases_lt i n) [
      | inl lt ↦ rw (get_or-take n bytes i 0 lt) (h i)
      | inr le ↦ rw (get_or_past (take n bytes) i 0 (omega (arith, length-take n bytes))) (omega arith)
    ]

-- the value of a step that gave something
pub some_bind : {A B : Type 0} (o : Option A) (f : A → Option B) (y : B) → (o >>= f) ≡ Some y → (a : A) × (o ≡ Some a) × (f a ≡ Some y)
some_bind (Some a) f y e = (a, refl, e)
some_bind None f y e = absurd cc

pub bind_is : {A B : Type 0} (o : Option A) (a : A) (f : A → Option B) → o ≡ Some a → (o >>= f) ≡ f a
bind_is o a f e = ap (λ x. x >>= f) e

pub some_is : {A : Type 0} (x y : A) → Some x ≡ Some y → x ≡ y
some_is x y e = cc

pub if_some : {A : Type 0} (b : Bool) (o : Option A) (y : A) → cond b o None ≡ Some y → (b ≡ true) × (o ≡ Some y)
if_some true o y e = (refl, e)
if_some false o y e = absurd cc

pub unless_some : {A : Type 0} (b : Bool) (o : Option A) (y : A) → cond b None o ≡ Some y → (b ≡ false) × (o ≡ Some y)
unless_some true o y e = absurd cc
unless_some false o y e = (refl, e)

-- what a reader took from the front
pub record Took {X : Type 0} (spell : X → List ℕ) (Lawful : X → Type 0) (bytes : List ℕ) (x : X) (rest : List ℕ) : Type 0 where
  pub parts : bytes ≡ spell x ++ rest
  pub rest_fits : IsBytes rest
  pub lawful : Lawful x

-- a reader of what is spelled so
pub record IsReader {X : Type 0} (read : Reader X) (spell : X → List ℕ) (Lawful : X → Type 0) : Type 0 where
  pub takes : (bytes : List ℕ) (x : X) (rest : List ℕ) → IsBytes bytes → read bytes ≡ Some (x, rest) → Took spell Lawful bytes x rest
  pub again : (x : X) (rest : List ℕ) → Lawful x → read (spell x ++ rest) ≡ Some (x, rest)

pub then_reads : {A B : Type 0} (r : Reader A) (s : A → Reader B) (sp : A → List ℕ) (sq : B → List ℕ) (L : A → Type 0) (M : A → B → Type 0) → IsReader r sp L → ((a : A) → L a → IsReader (s a) sq (M a))
    → IsReader (then_at r s) (λ p. sp p.0 ++ sq p.1) (λ p. L p.0 × M p.0 p.1)
then_reads {A} {B} r s sp sq L M first second = record {
  takes = λ bytes x rest fits e.
      let a = some_bind (r bytes) (λ a. s a.0 a.1 >>= λ b. Some ((a.0, b.0), b.1)) (x, rest) e in
      let b = some_bind (s a.0.0 a.0.1) (λ b. Some ((a.0.0, b.0), b.1)) (x, rest) a.2 in
      let t = first.takes bytes a.0.0 a.0.1 fits a.1 in
      let u = (second a.0.0 t.lawful).takes a.0.1 b.0.0 b.0.1 t.rest_fits b.1 in
      subst (λ (y : (A × B) × List ℕ). Took (λ p. sp p.0 ++ sq p.1) (λ p. L p.0 × M p.0 p.1) bytes y.0 y.1) (some_is ((a.0.0, b.0.0), b.0.1) (x, rest) b.2)
      (record { parts = t.parts ∙ ap (λ (l : List ℕ). sp a.0.0 ++ l) u.parts ∙ sym (append_assoc (sp a.0.0) (sq b.0.0) b.0.1); rest_fits = u.rest_fits; lawful = (t.lawful, u.lawful) });
  again = λ x rest lawful.
      ap (then_at r s) (append_assoc (sp x.0) (sq x.1) rest)
      ∙ bind_is (r (sp x.0 ++ (sq x.1 ++ rest))) (x.0, sq x.1 ++ rest) (λ a. s a.0 a.1 >>= λ b. Some ((a.0, b.0), b.1)) (first.again x.0 (sq x.1 ++ rest) lawful.0)
      ∙ bind_is (s x.0 (sq x.1 ++ rest)) (x.1, rest) (λ b. Some ((x.0, b.0), b.1)) ((second x.0 lawful.0).again x.1 rest lawful.1);
}

pub behind_reads : {A B : Type 0} (r : Reader A) (s : A → Reader B) (of : B → A) (sp : A → List ℕ) (sq : B → List ℕ) (L : A → Type 0) (N : B → Type 0) → IsReader r sp L → ((x : B) → N x → L (of x)) → ((a : A) → L a → IsReader (s a) sq (λ x. (of x ≡ a) × N x))
    → IsReader (behind_at r s) (λ x. sp (of x) ++ sq x) N
behind_reads {A} {B} r s of sp sq L N first all second = record {
  takes = λ bytes x rest fits e.
      let a = some_bind (r bytes) (λ a. s a.0 a.1) (x, rest) e in
      let t = first.takes bytes a.0.0 a.0.1 fits a.1 in
      let u = (second a.0.0 t.lawful).takes a.0.1 x rest t.rest_fits a.2 in
      record { parts = t.parts ∙ ap (λ (l : List ℕ). sp a.0.0 ++ l) u.parts ∙ sym (append_assoc (sp a.0.0) (sq x) rest) ∙ ap (λ (y : A). (sp y ++ sq x) ++ rest) (sym u.lawful.0); rest_fits = u.rest_fits; lawful = u.lawful.1 };
  again = λ x rest lawful.
      ap (behind_at r s) (append_assoc (sp (of x)) (sq x) rest)
      ∙ bind_is (r (sp (of x) ++ (sq x ++ rest))) (of x, sq x ++ rest) (λ a. s a.0 a.1) (first.again (of x) (sq x ++ rest) (all x lawful))
      ∙ (second (of x) (all x lawful)).again x rest (refl, lawful);
}

pub if_reads : {A : Type 0} (r : Reader A) (test : A → Bool) (sp : A → List ℕ) (L : A → Type 0) → IsReader r sp L → IsReader (if_at r test) sp (λ a. L a × (test a ≡ true))
if_reads {A} r test sp L first = record {
  takes = λ bytes x rest fits e.
      let a = some_bind (r bytes) (λ a. cond (test a.0) (Some a) None) (x, rest) e in
      let g = if_some (test a.0.0) (Some a.0) (x, rest) a.2 in
      let t = first.takes bytes a.0.0 a.0.1 fits a.1 in
      subst (λ (y : A × List ℕ). Took sp (λ a. L a × (test a ≡ true)) bytes y.0 y.1) (some_is a.0 (x, rest) g.1)
      (record { parts = t.parts; rest_fits = t.rest_fits; lawful = (t.lawful, g.0) });
  again = λ x rest lawful.
      bind_is (r (sp x ++ rest)) (x, rest) (λ a. cond (test a.0) (Some a) None) (first.again x rest lawful.0)
      ∙ ap (λ (b : Bool). cond b (Some (x, rest)) None) lawful.1;
}

pub as_reads : {A X : Type 0} (r : Reader A) (f : A → X) (g : X → A) (sp : A → List ℕ) (L : A → Type 0) (N : X → Type 0) → IsReader r sp L → ((a : A) → L a → N (f a) × (g (f a) ≡ a)) → ((x : X) → N x → L (g x) × (f (g x) ≡ x))
    → IsReader (as_at r f) (λ x. sp (g x)) N
as_reads {A} {X} r f g sp L N first there back = record {
  takes = λ bytes x rest fits e.
      let a = some_bind (r bytes) (λ a. Some (f a.0, a.1)) (x, rest) e in
      let t = first.takes bytes a.0.0 a.0.1 fits a.1 in
      let h = there a.0.0 t.lawful in
      subst (λ (y : X × List ℕ). Took (λ x. sp (g x)) N bytes y.0 y.1) (some_is (f a.0.0, a.0.1) (x, rest) a.2)
      (record { parts = t.parts ∙ ap (λ (b : A). sp b ++ a.0.1) (sym h.1); rest_fits = t.rest_fits; lawful = h.0 });
  again = λ x rest lawful.
      let h = back x lawful in
      bind_is (r (sp (g x) ++ rest)) (g x, rest) (λ a. Some (f a.0, a.1)) (first.again (g x) rest h.0)
      ∙ ap (λ (y : X). Some (y, rest)) h.1;
}

-- the same reader, of what is spelled and lawful in other words
pub also_reads : {X : Type 0} (r : Reader X) (sp sq : X → List ℕ) (L M : X → Type 0) → IsReader r sp L → ((x : X) → sp x ≡ sq x) → ((x : X) → L x → M x) → ((x : X) → M x → L x) → IsReader r sq M
also_reads r sp sq L M first same there back = record {
  takes = λ bytes x rest fits e.
      let t = first.takes bytes x rest fits e in
      record { parts = t.parts ∙ ap (λ (l : List ℕ). l ++ rest) (same x); rest_fits = t.rest_fits; lawful = there x t.lawful };
  again = λ x rest lawful. ap (λ (l : List ℕ). r (l ++ rest)) (sym (same x)) ∙ first.again x rest (back x lawful);
}

-- each is lawful, and its key above the one before
abbrev pub Each : {A K : Type 0} → (A → Type 0) → (A → K) → (K → K → Bool) → K → List A → Type 0
Each L key above last [] = Unit {0}
Each L key above last (x ∷ xs) = L x × (above last (key x) ≡ true) × Each L key above (key x) xs

each_takes : {A K : Type 0} (item : Reader A) (key : A → K) (above : K → K → Bool) (sp : A → List ℕ) (L : A → Type 0) → IsReader item sp L → (n : ℕ) (last : K) (bytes : List ℕ) (xs : List A) (rest : List ℕ) → IsBytes bytes → each_at item key above last n bytes ≡ Some (xs, rest)
    → Took (flat_map sp) (λ xs. (length xs ≡ n) × Each L key above last xs) bytes xs rest
unfolding each_at
each_takes {A} {K} item key above sp L reads zero last bytes xs rest fits e =
    subst (λ (y : List A × List ℕ). Took (flat_map sp) (λ xs. (length xs ≡ 0) × Each L key above last xs) bytes y.0 y.1) (some_is ([], bytes) (xs, rest) e)
    (record { parts = refl; rest_fits = fits; lawful = (refl, tt) })
each_takes {A} {K} item key above sp L reads (suc n) last bytes xs rest fits e =
    let a = some_bind (item bytes) (λ a. cond (above last (key a.0)) (each_at item key above (key a.0) n a.1 >>= (λ others. Some (a.0 ∷ others.0, others.1))) None) (xs, rest) e in
    let g = if_some (above last (key a.0.0)) (each_at item key above (key a.0.0) n a.0.1 >>= (λ others. Some (a.0.0 ∷ others.0, others.1))) (xs, rest) a.2 in
    let b = some_bind (each_at item key above (key a.0.0) n a.0.1) (λ others. Some (a.0.0 ∷ others.0, others.1)) (xs, rest) g.1 in
    let t = reads.takes bytes a.0.0 a.0.1 fits a.1 in
    let u = each_takes item key above sp L reads n (key a.0.0) a.0.1 b.0.0 b.0.1 t.rest_fits b.1 in
    subst (λ (y : List A × List ℕ). Took (flat_map sp) (λ xs. (length xs ≡ suc n) × Each L key above last xs) bytes y.0 y.1) (some_is (a.0.0 ∷ b.0.0, b.0.1) (xs, rest) b.2)
    (record {
      parts = t.parts ∙ ap (λ (l : List ℕ). sp a.0.0 ++ l) u.parts ∙ sym (append_assoc (sp a.0.0) (flat_map sp b.0.0) b.0.1) ∙ ap (λ (l : List ℕ). l ++ b.0.1) (sym (flat_map-cons sp a.0.0 b.0.0));
      rest_fits = u.rest_fits;
      lawful = (ap suc u.lawful.0, (t.lawful, g.0, u.lawful.1));
    })

each_again : {A K : Type 0} (item : Reader A) (key : A → K) (above : K → K → Bool) (sp : A → List ℕ) (L : A → Type 0) → IsReader item sp L → (last : K) (xs : List A) (rest : List ℕ) → Each L key above last xs
    → each_at item key above last (length xs) (flat_map sp xs ++ rest) ≡ Some (xs, rest)
unfolding each_at
each_again item key above sp L reads last [] rest lawful = refl
each_again item key above sp L reads last (x ∷ xs) rest lawful =
    ap (each_at item key above last (suc (length xs))) (ap (λ (l : List ℕ). l ++ rest) (flat_map-cons sp x xs) ∙ append_assoc (sp x) (flat_map sp xs) rest)
    ∙ bind_is (item (sp x ++ (flat_map sp xs ++ rest))) (x, flat_map sp xs ++ rest) (λ a. cond (above last (key a.0)) (each_at item key above (key a.0) (length xs) a.1 >>= (λ others. Some (a.0 ∷ others.0, others.1))) None) (reads.again x (flat_map sp xs ++ rest) lawful.0)
    ∙ ap (λ (b : Bool). cond b (each_at item key above (key x) (length xs) (flat_map sp xs ++ rest) >>= (λ others. Some (x ∷ others.0, others.1))) None) lawful.1
    ∙ bind_is (each_at item key above (key x) (length xs) (flat_map sp xs ++ rest)) (xs, rest) (λ others. Some (x ∷ others.0, others.1)) (each_again item key above sp L reads (key x) xs rest lawful.2)

pub each_reads : {A K : Type 0} (item : Reader A) (key : A → K) (above : K → K → Bool) (sp : A → List ℕ) (L : A → Type 0) → IsReader item sp L → (last : K) (n : ℕ) → IsReader (each_at item key above last n) (flat_map sp) (λ xs. (length xs ≡ n) × Each L key above last xs)
each_reads item key above sp L reads last n = record {
  takes = λ bytes xs rest fits e. each_takes item key above sp L reads n last bytes xs rest fits e;
  again = λ xs rest lawful. ap (λ (k : ℕ). each_at item key above last k (flat_map sp xs ++ rest)) (sym lawful.0) ∙ each_again item key above sp L reads last xs rest lawful.1;
}

-- where the keys say nothing, each is lawful and no more
pub each_plain : {A : Type 0} (L : A → Type 0) (xs : List A) → Each L (λ _. tt {0}) (λ _ _. true) tt xs → AllByRecursion L xs
each_plain L [] h = tt
each_plain L (x ∷ xs) h = (h.0, each_plain L xs h.2)

pub plain_each : {A : Type 0} (L : A → Type 0) (xs : List A) → AllByRecursion L xs → Each L (λ _. tt {0}) (λ _ _. true) tt xs
plain_each L [] h = tt
plain_each L (x ∷ xs) h = (h.0, refl, plain_each L xs h.1)
