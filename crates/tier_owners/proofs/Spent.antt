-- A spent Write stays spent; whether a call has an act.
use Rattle.std.proofs.Common.{◌≡◌, ◌≢◌, ◌⊎◌, ℕ, List, [], ◌∷◌, ◌++◌, None, refl, sym, subst, inl, inr}
use Rattle.obj_model.specs.declared.req.Req.{Req}
use Rattle.obj_model.specs.declared.state.NameState.{NameState}
use Rattle.tier_protocol.specs.Tiers.{Name, BaseMsg, Phase, Net, Tier, Cell, IsIn, cell_of}
use Rattle.tier_protocol.specs.Sound.{Covers, IsHarmless, IsSound, IsSpent, IsWriting}
use Rattle.tier_protocol.specs.Owners.{CallAct, HasNoAct}
use Rattle.tier_protocol.proofs.Owners.{same_call}

-- a message more, if it is an Install, then of the plain store's state
pub spent_sent : (n : Name) (c : Cell) (net : Net) (m : BaseMsg) (r : Req)
    → ((e op : ℕ) (t : NameState) → BaseMsg.Install e op n t ≡ m → t ≡ c.plain)
    → IsSpent n c net r → IsSpent n c (record net { wire = m ∷ net.wire }) r
spent_sent n c net m r new (inl worn) = inl worn
spent_sent n c net m r new (inr h) = inr (
  h.0,
  h.1,
  λ e op t on above. elim on [
    | inl same ↦ subst (λ x. Covers x r) (sym (new e op t same)) h.1
    | inr old ↦ h.2 e op t old above
  ],
)

-- a Write that the base would take is spent where its name has a record and the cache is up
pub spent_over_record : (t : Tier) (r : Req) → IsSound t → t.net.phase ≡ Phase.Up
    → ((cell_of t r.name).rec ≡ None → ⊥) → (IsWriting (cell_of t r.name).flight r → ⊥)
    → IsHarmless r.name (cell_of t r.name) t.net r → IsSpent r.name (cell_of t r.name) t.net r
spent_over_record t r h up some idle (inl living) = absurd (idle living)
spent_over_record t r h up some idle (inr (inl stopped)) = absurd (stopped.0 up)
spent_over_record t r h up some idle (inr (inr spent)) = spent

-- a call has an act, or has none
pub has_act_or_not : (acts : List CallAct) (call : ℕ)
    → HasNoAct call acts ⊎ ((a : CallAct) × IsIn a acts × (a.call ≡ call))
has_act_or_not [] call = inl (λ a on. absurd on)
has_act_or_not (b ∷ acts) call = elim (same_call b.call call) [
  | inl is ↦ inr (b, inl refl, is)
  | inr not ↦ elim (has_act_or_not acts call) [
    | inl none ↦ inl (λ a on. elim on [
      | inl same ↦ subst (λ x. x.call ≢ call)
          (sym same) not
      | inr old ↦ none a old
    ])
    | inr some ↦ inr (some.0, inr some.1, some.2)
  ]
]

-- a list is not one longer than it is
pub not_longer : {X : Type 0} (xs : List X) (x : X) → xs ++ x ∷ [] ≡ xs → ⊥
not_longer [] x e = absurd (cc)
not_longer (y ∷ ys) x e = let g : ys ++ x ∷ [] ≡ ys = cc in not_longer ys x g
