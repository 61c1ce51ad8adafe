-- Lists of acts, and what calls asked.
use Rattle.std.proofs.Common.{◌≡◌, ◌≢◌, ◌⊎◌, ℕ, suc, Bool, true, false, eqb, List, [], ◌∷◌, ◌++◌, map, Option, Some, None, refl, sym, ap, ◌∙◌, inl, inr}
use Rattle.std.proofs.lemmas.Bool.{eqb-true, eqb-false}
use Rattle.std.specs.Option.{option_map}
use Rattle.std.specs.Prelude.{if◌then◌else◌, ◌==◌}
use Rattle.obj_model.specs.declared.reply.Reply.{Reply}
use Rattle.obj_model.specs.declared.req.Req.{Req}
use Rattle.obj_model.specs.declared.state.NameState.{NameState}
use Rattle.obj_ops.specs.declared.request.Acted.TheVariants.{Fresh, Again}
use Rattle.tier_protocol.specs.Tiers.{Flight, BaseReply, BaseActed, IsIn}
use Rattle.tier_protocol.specs.Owners.{AreOnce, Asking, CallAct, HasNoAct, NumbersStay, number_of}

-- ---- lists of acts

pub in_more : {X : Type 0} (xs : List X) (x y : X) → IsIn y (xs ++ x ∷ []) → IsIn y xs ⊎ (y ≡ x)
in_more [] x y (inl same) = inr same
in_more [] x y (inr none) = absurd none
in_more (z ∷ zs) x y (inl same) = inl (inl same)
in_more (z ∷ zs) x y (inr on) = elim (in_more zs x y on) [
  | inl old ↦ inl
      (inr old)
  | inr same ↦ inr same
]

pub in_old : {X : Type 0} (xs : List X) (x y : X) → IsIn y xs → IsIn y (xs ++ x ∷ [])
in_old [] x y on = absurd on
in_old (z ∷ zs) x y (inl same) = inl same
in_old (z ∷ zs) x y (inr on) = inr (in_old zs x y on)

pub in_last : {X : Type 0} (xs : List X) (x : X) → IsIn x (xs ++ x ∷ [])
in_last [] x = inl refl
in_last (z ∷ zs) x = inr (in_last zs x)

pub map_more : (acts : List CallAct) (a : CallAct) → map (λ (x : CallAct). x.req)
    (acts ++ a ∷ []) ≡ map (λ (x : CallAct). x.req) acts ++ a.req ∷ []
map_more [] a = refl
map_more (b ∷ acts) a = ap (λ l. b.req ∷ l) (map_more acts a)

pub once_more : (acts : List CallAct) (a : CallAct) → AreOnce acts → HasNoAct a.call acts
    → AreOnce (acts ++ a ∷ [])
once_more [] a once none = (λ x on. absurd on, tt)
once_more (b ∷ acts) a once none = (
  λ x on same. elim (in_more acts a x on) [
    | inl old ↦ once.0 x old same
    | inr is ↦ none b (inl refl)
        (sym same ∙ ap (λ y. y.call) is)
  ],
  once_more acts a once.1 (λ x on. none x (inr on)),
)

-- the number of an act stays
number_by : (b : Bool) (o p : Option ℕ) (k : ℕ) → ((j : ℕ) → o ≡ Some j → p ≡ Some j)
    → (if b then Some 1 else option_map suc o) ≡ Some k →
    (if b then Some 1 else option_map suc p) ≡ Some k
number_by true o p k later e = e
number_by false None p k later e = absurd (cc)
number_by false (Some j) p k later e = ap (option_map suc) (later j refl) ∙ e

pub numbers_stay : NumbersStay
numbers_stay [] a call k e = absurd (cc)
numbers_stay (b ∷ acts) a call k e = number_by (b.call == call) (number_of call acts)
    (number_of call (acts ++ a ∷ [])) k (λ j. numbers_stay acts a call j) e

pub same_call : (a b : ℕ) → (a ≡ b) ⊎ (a ≢ b)
same_call a b = by (eqb a b) refl
  where
    by : (t : Bool) → eqb a b ≡ t → (a ≡ b) ⊎ (a ≢ b)
    by true e = inl (eqb-true a b e)
    by false e = inr (eqb-false a b e)

-- what a call asked
abbrev asking : ℕ → Req → Option Asking
asking line req = Some (record { line = line; req = req })

some_asked : (a b : Asking) → Some a ≡ Some b → a ≡ b
some_asked a b e = cc

pub one_asked : (i j : ℕ) (x y : Req) → asking i x ≡ asking j y → x ≡ y
one_asked i j x y e = ap (λ (a : Asking). a.req) (some_asked (record { line = i; req = x })
    (record { line = j; req = y }) e)

pub one_req : (d e : Option ℕ) (w v o p : ℕ) (x y : Req) → Some (Flight.Write d w o x) ≡ Some
    (Flight.Write e v p y) → x ≡ y
one_req d e w v o p x y is = cc

pub one_reply : (e i op j : ℕ) (a b : Reply) → BaseReply.Wrote e op
    (BaseActed.Fresh a) ≡ BaseReply.Wrote i j (BaseActed.Fresh b) → (e ≡ i) × (op ≡ j)
one_reply e i op j a b is = (cc, cc)

pub fresh_not_again : (s : NameState) (a b : Reply) → Fresh s a ≡ Again b → ⊥
fresh_not_again s a b e = absurd (cc)

pub free_not_write : (f : Option Flight) (d : Option ℕ) (w o : ℕ) (r : Req) → f ≡ None
    → f ≡ Some (Flight.Write d w o r) → ⊥
free_not_write f d w o r free e = absurd (cc)
