-- The own act of a call, under its number.
use Rattle.std.proofs.Common.{◌≡◌, ◌≢◌, ◌≤◌, ◌<◌, ◌⊎◌, inl, inr, ℕ, zero, suc, ◌==◌, cond, Bool, true, false, List, [], ◌∷◌, take, map, slice_get, length, Option, Some, None, refl, sym, ap, subst, ◌∙◌, arith}
use Rattle.std.specs.Prelude.{if◌then◌else◌}
use Rattle.std.specs.List.{AllByRecursion}
use Rattle.std.specs.Option.{option_map}
use Rattle.std.proofs.lemmas.Bool.{cases_lt, eqb-true}
use Rattle.obj_model.specs.declared.reply.Reply.{Reply}
use Rattle.obj_model.specs.declared.reply.Reply.TheVariants as reply
use Rattle.obj_model.specs.declared.req.Req.{Req}
use Rattle.tier_chron.proofs.Lists.{either_way}
use Rattle.tier_chron.specs.Calls.{Call, call_of}
use Rattle.tier_chron.specs.Places.{act_at}
use Rattle.tier_chron.specs.Shapes.{HasNoAct, IsAskedBy, IsBegun, Stands, StandsBeside, own_act}
use Rattle.tier_chron.specs.declared.asked.Asked.{Asked}
use Rattle.tier_chron.specs.declared.asked.Asked.TheVariants.{Write}
use Rattle.tier_chron.specs.declared.entries.Act.{Act}
use Rattle.tier_chron.specs.declared.entries.Logged.{Logged}
use Rattle.tier_protocol.specs.Owners.{number_of}
use Rattle.tier_view.specs.Answered.{NumbersFindActs, OwnActsStand, own_answer}
use Rattle.tier_view.specs.Calls.{Entry, call_in, entry_of}
use Rattle.tier_view.specs.Views.{GroupView, act_in, calls_in}
use Rattle.tier_view.specs.Whole.{IsWhole}
use Rattle.tier_view.proofs.AnsweringFaults.{call_found, one_entry}

one_act : (a b : Act) → Some a ≡ Some b → a ≡ b
one_act a b e = cc

one_line : (a b : ℕ) → Some a ≡ Some b → a ≡ b
one_line a b e = cc

got_holds : (P : Act → Type 0) (acts : List Act) (k : ℕ) (a : Act) → AllByRecursion P acts → slice_get acts k ≡ Some a → P a
got_holds P [] k a h e = absurd (cc)
got_holds P (b ∷ acts) zero a h e = subst P (one_act b a e) h.0
got_holds P (b ∷ acts) (suc k) a h e = got_holds P acts k a h.1 e

at_holds : (P : Act → Type 0) (acts : List Act) (place : ℕ) (a : Act) → AllByRecursion P acts → act_at acts place ≡ Some a → P a
at_holds P acts zero a h e = absurd (cc)
at_holds P acts (suc k) a h e = got_holds P acts k a h e

none_before : (acts : List Act) (n k call : ℕ) (a : Act) → HasNoAct call (take n acts) → slice_get acts k ≡ Some a → a.call ≡ call → k < n → ⊥
none_before [] n k call a h e is less = absurd (cc)
none_before (b ∷ acts) zero k call a h e is less = absurd (omega (arith, less))
none_before (b ∷ acts) (suc n) zero call a h e is less = h.0 (ap (λ x. x.call) (one_act b a e) ∙ is)
none_before (b ∷ acts) (suc n) (suc k) call a h e is less = none_before acts n k call a h.1 e is (omega (arith, less))

found_number : (es : List Entry) (n : ℕ) (e : Entry) → entry_of es n ≡ Some e → e.number ≡ n
found_number [] n e is = absurd (cc)
found_number (d ∷ es) n e is =
    either_way (d.number == n)
    (λ same. ap (λ x. x.number) (sym (one_entry d e (sym (ap (λ b. cond b (Some d) (entry_of es n)) same) ∙ is))) ∙ eqb-true d.number n same)
    (λ other. found_number es n e (sym (ap (λ b. cond b (Some d) (entry_of es n)) other) ∙ is))

pub found_holds : (P : Call → Type 0) (es : List Entry) (n : ℕ) (e : Entry) → AllByRecursion P (calls_in es) → entry_of es n ≡ Some e → P (call_in e)
found_holds P [] n e h is = absurd (cc)
found_holds P (d ∷ es) n e h is =
    either_way (d.number == n)
    (λ same. subst (λ x. P (call_in x)) (one_entry d e (sym (ap (λ b. cond b (Some d) (entry_of es n)) same) ∙ is)) h.0)
    (λ other. found_holds P es n e h.1 (sym (ap (λ b. cond b (Some d) (entry_of es n)) other) ∙ is))

own_beside : (acts : List Act) (req : Req) (l : Logged) (given : Reply) → act_at acts l.place ≡ Some (own_act l req given) → StandsBeside acts req l (own_answer given)
own_beside acts req l (reply.Done ver) h = h
own_beside acts req l (reply.Refused at why ver) h = h

own_is : (l : Logged) (a : Act) → a.call ≡ l.call → a.line ≡ l.line → a ≡ own_act l a.req a.reply
own_is l a call line =
    subst (λ c. a ≡ record { call = c; line = l.line; req = a.req; reply = a.reply }) call
    (subst (λ n. a ≡ record { call = a.call; line = n; req = a.req; reply = a.reply }) line refl)

begun_before : (acts : List Act) (begin place call : ℕ) (a : Act) → HasNoAct call (take begin acts) → act_at acts place ≡ Some a → a.call ≡ call → begin ≤ place
begun_before acts begin zero call a h e is = absurd (cc)
begun_before acts begin (suc k) call a h e is = elim (cases_lt k begin) [
  | inl less ↦ absurd (none_before acts begin k call a h e is less)
  | inr least ↦ omega (arith, least)
]

pub own_acts_stand : OwnActsStand
own_acts_stand v e l a h is at mine line answer =
    let k : IsAskedBy a (call_of (calls_in v.calls.entries) a.call) = at_holds (λ x. IsAskedBy x (call_of (calls_in v.calls.entries) x.call)) v.log.acts l.place a h.shaped.asked at in
    let c : call_of (calls_in v.calls.entries) a.call ≡ Some (call_in e) = ap (call_of (calls_in v.calls.entries)) mine ∙ call_found v.calls.entries l.call e is in
    let asked : IsAskedBy a (Some (call_in e)) = subst (IsAskedBy a) c k in
    let begun : IsBegun v.log.acts (call_in e) = found_holds (IsBegun v.log.acts) v.calls.entries l.call e h.shaped.begun is in (
      begun_before v.log.acts e.begin l.place e.number a begun.later at (mine ∙ sym (found_number v.calls.entries l.call e is)),
      subst (λ x. Stands v.log.acts x l) (sym asked.0)
          (subst (StandsBeside v.log.acts a.req l) (sym answer)
          (own_beside v.log.acts a.req l a.reply (at ∙ ap Some (own_is l a mine (one_line a.line l.line (sym asked.1 ∙ line)))))),
    )

-- ---- acts by their numbers

next_number : (b : Bool) (o : Option ℕ) (number : ℕ) → (if b then Some 1 else option_map suc o) ≡ Some number → ((b ≡ true) × (number ≡ 1)) ⊎ ((b ≡ false) × ((n : ℕ) × (o ≡ Some n) × (number ≡ suc n)))
next_number true o number e = inl (refl, one_line number 1 (sym e))
next_number false None number e = absurd (cc)
next_number false (Some n) number e = inr (refl, (n, refl, one_line number (suc n) (sym e)))

act_behind : (b : Act) (acts : List Act) (n : ℕ) (a : Act) → act_at acts n ≡ Some a → act_at (b ∷ acts) (suc n) ≡ Some a
act_behind b acts zero a e = absurd (cc)
act_behind b acts (suc n) a e = e

pub numbers_find_acts : NumbersFindActs
numbers_find_acts [] call number e = absurd (cc)
numbers_find_acts (b ∷ acts) call number e = elim (next_number (b.call == call) (number_of call (map act_in acts)) number e) [
  | inl here ↦ (b, subst (λ n. act_at (b ∷ acts) n ≡ Some b) (sym here.1) refl, eqb-true b.call call here.0)
  | inr there ↦
      let found = numbers_find_acts acts call there.1.0 there.1.1 in
      (found.0, subst (λ n. act_at (b ∷ acts) n ≡ Some found.0) (sym there.1.2) (act_behind b acts there.1.0 found.0 found.1), found.2)
]
