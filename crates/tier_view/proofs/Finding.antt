-- What the tables say of calls in flight.
use Rattle.std.proofs.Common.{◌≡◌, ◌≢◌, inl, inr, ℕ, ◌==◌, ◌&&◌, ◌||◌, cond, not, false, List, [], ◌∷◌, map, Option, Some, None, refl, sym, ap, subst, ◌∙◌}
use Rattle.std.proofs.lemmas.Bool.{eqb-true}
use Rattle.std.specs.List.{AllByRecursion, list_any}
use Rattle.obj_ops.proofs.Keeping.{ne-eqb}
use Rattle.tier_chron.specs.Shapes as chron
use Rattle.tier_chron.specs.Shapes.{is_fault}
use Rattle.tier_chron.specs.declared.entries.Act.{Act}
use Rattle.tier_chron.specs.declared.entries.Logged.{Logged}
use Rattle.tier_chron.proofs.Lists.{either_way}
use Rattle.tier_protocol.specs.Owners.{HasNoAct}
use Rattle.tier_view.specs.Calls.{Entry, IsGoing, IsInFlight, entry_of}
use Rattle.tier_view.specs.Grows.{IsNotOver}
use Rattle.tier_view.specs.Tables.{IsUnanswered, SoundEntry}
use Rattle.tier_view.specs.Views.{act_in, closes}

-- a call in flight was not answered
pub going_unanswered : (last epoch : ℕ) (answers : List Logged) (es : List Entry) (n : ℕ) → AllByRecursion (SoundEntry last epoch answers) es → IsInFlight es n → IsUnanswered n answers
going_unanswered last epoch answers [] n h going = absurd going
going_unanswered last epoch answers (e ∷ es) n h going =
    either_way (e.number == n)
    (λ same. subst (λ k. IsUnanswered k answers) (eqb-true e.number n same) (h.0.unanswered (subst (λ b. IsGoing (cond b (Some e) (entry_of es n))) same going)))
    (λ other. going_unanswered last epoch answers es n h.1 (subst (λ b. IsGoing (cond b (Some e) (entry_of es n))) other going))

pub not_closed : (n : ℕ) (answers : List Logged) → IsUnanswered n answers → list_any (closes n) answers ≡ false
not_closed n [] h = refl
not_closed n (l ∷ ls) h = ap (λ b. (b && not (is_fault l.answer)) || list_any (closes n) ls) (ne-eqb l.call n h.0) ∙ not_closed n ls h.1

pub no_acts : (n : ℕ) (acts : List Act) → chron.HasNoAct n acts → HasNoAct n (map act_in acts)
no_acts n [] h a on same = absurd on
no_acts n (b ∷ acts) h a (inl is) same = h.0 (sym (ap (λ x. x.call) is) ∙ same)
no_acts n (b ∷ acts) h a (inr on) same = no_acts n acts h.1 a on same

pub is_known : (es : List Entry) (n : ℕ) → IsInFlight es n → entry_of es n ≢ None
is_known es n going none = subst IsGoing none going

pub not_over : (o : Option Entry) → IsGoing o → IsNotOver o
not_over None h = tt
not_over (Some e) h = h
