-- What is in doubt over an installation is known by how many requests the base's state has had.
use Rattle.std.proofs.Common.{◌≡◌, ℕ, ◌==◌, ◌&&◌, nat_lt, Bool, true, false, Option, Some, None, if◌then◌else◌, refl, sym, ap, subst, ◌∙◌}
use Rattle.std.proofs.lemmas.Bool.{eqb-true, eqb-false}
use Rattle.obj_model.specs.States.{unknown}
use Rattle.obj_model.specs.declared.change.Pool.TheVariants.{Base}
use Rattle.obj_model.specs.declared.state.NameState.{NameState}
use Rattle.tier_join.specs.Steps.{HasState, HasStateFor}
use Rattle.tier_protocol.specs.Tiers.{Name}
use Rattle.tier_types.specs.Serving.{epoch_in, name_in, served}
use Rattle.tier_types.specs.declared.message.BaseMsg.{BaseMsg}
use Rattle.tier_view.specs.Serves.{IsInDoubt, no_doubt, put_doubt}
use Rattle.tier_view.specs.declared.parts.Pending.{Pending}
use Rattle.tier_view.specs.declared.parts.Sent.{Sent}
use Rattle.tier_view.specs.Views.{GroupView, joined}
use Rattle.tier_view.proofs.ServingWorlds.{in_each}
use Rattle.tier_serve.specs.Installs.{ServingInstalls, newer_doubt}
use Rattle.tier_serve.proofs.UnreadSteps.{PutsNone, by_doubt, needs_none, stranger}

-- a state that has had no more requests than the base's is not put
behind : (have : ℕ) (b : NameState) (e op : ℕ) (k : Name) (t : NameState) → nat_lt b.seq t.seq ≡ false → PutsNone have (served have b (BaseMsg.Install e op k t))
behind have b e op k t old = in_each (PutsNone have) have e _ (refl, refl) (refl, refl) (λ same. (ap (λ c. if c then Some t else None) old, refl))

module _ (v : GroupView) (m : Sent) (e op : ℕ) (k : Name) (t : NameState) (known : ℕ) (at : m.message ≡ BaseMsg.Install e op k t)
    (has : e ≡ v.standing.base_epoch → (s : NameState) × HasState (joined v) k s × (s.seq ≡ known)) where
  abbrev E : ℕ
  E = v.standing.base_epoch

  older : (s : NameState) → HasState (joined v) k s → s.seq ≡ known → nat_lt known t.seq ≡ false → IsInDoubt v m s None
  older s there seq old =
      no_doubt (λ same. subst (λ x. HasStateFor (joined v) (name_in x) s) (sym at) there)
      (needs_none v m s (BaseMsg.Install e op k t) at (behind E s e op k t (ap (λ n. nat_lt n t.seq) seq ∙ old))) refl

  newer : (b : NameState) × IsInDoubt v m b (newer_doubt E e k known t.seq)
  newer = by (e == E) refl (nat_lt known t.seq) refl
    where
      by : (c : Bool) → (e == E) ≡ c → (d : Bool) → nat_lt known t.seq ≡ d → (b : NameState) × IsInDoubt v m b (if c && d then Some (Pending.Plain Base k) else None)
      by true same true new = (unknown, put_doubt e op k t at refl)
      by true same false old = let s = has (eqb-true e E same) in (s.0, older s.0 s.1 s.2 old)
      by false other d new = (unknown, stranger v m unknown k (ap name_in at) (λ same. eqb-false e E other (sym (ap epoch_in at) ∙ same)))

pub serving_installs : ServingInstalls
serving_installs v m e op k t known h at has =
    let d = newer v m e op k t known at has in
    by_doubt v m d.0 (newer_doubt v.standing.base_epoch e k known t.seq) h d.1
