-- How steps add up.
use Rattle.std.proofs.Common.{◌≡◌, ◌≤◌, ◌⊎◌, ℕ, List, [], ◌∷◌, ◌++◌, length, Option, Some, None, refl, sym, ap, subst, ◌∙◌, inl, inr, arith}
use Rattle.tier_chron.specs.Logs.{Log}
use Rattle.tier_chron.specs.declared.entries.Logged.{Logged}
use Rattle.tier_view.specs.declared.parts.Entry.{Entry}
use Rattle.tier_view.specs.declared.parts.Flown.{Flown}
use Rattle.tier_view.specs.Grows.{Extends, LogGrows, Remains, Stays}
use Rattle.tier_view.specs.Views.{GroupView}
use Rattle.tier_runs.specs.Runs.{AnyMore, GrowsOver, IsOneStep, LogGoesOn, RunsJoin, RunsKeep, last_of}

-- what comes behind a list need not be said
any_more : {X : Type 0} (Same : X → X → Type 0) (More : List X → Type 0) (xs ys : List X)
    → Extends Same More xs ys → Extends Same AnyMore xs ys
any_more Same More [] ys h = tt
any_more Same More (x ∷ xs) [] h = absurd h
any_more Same More (x ∷ xs) (y ∷ ys) h = (h.0, any_more Same More xs ys h.1)

-- a list that stays as it is
as_it_was : {X : Type 0} (Same : X → X → Type 0) → ((x : X) → Same x x) → (xs : List X)
    → Extends Same AnyMore xs xs
as_it_was Same same [] = tt
as_it_was Same same (x ∷ xs) = (same x, as_it_was Same same xs)

-- one change behind another
then_more : {X : Type 0} (First Second Both : X → X → Type 0)
    → ((x y z : X) → First x y → Second y z → Both x z) → (xs ys zs : List X)
    → Extends First AnyMore xs ys → Extends Second AnyMore ys zs → Extends Both AnyMore xs zs
then_more First Second Both f [] ys zs h k = tt
then_more First Second Both f (x ∷ xs) [] zs h k = absurd h
then_more First Second Both f (x ∷ xs) (y ∷ ys) [] h k = absurd k
then_more First Second Both f (x ∷ xs) (y ∷ ys) (z ∷ zs) h k =
    (f x y z h.0 k.0, then_more First Second Both f xs ys zs h.1 k.1)

-- ---- the tables

stays : (e : Entry) → Stays e e
stays e = record {
  number = refl;
  line = refl;
  asked = refl;
  epoch = refl;
  begin = refl;
  adopted = λ h. h;
  ended = λ h. h;
}

stays_then : (d e f : Entry) → Stays d e → Stays e f → Stays d f
stays_then d e f h k = record {
  number = k.number ∙ h.number;
  line = k.line ∙ h.line;
  asked = k.asked ∙ h.asked;
  epoch = k.epoch ∙ h.epoch;
  begin = k.begin ∙ h.begin;
  adopted = λ is. k.adopted (h.adopted is);
  ended = λ is. k.ended (h.ended is);
}

remains : (n : ℕ) (f : Flown) → Remains n n f f
remains n f = record {
  call = refl;
  kind = refl;
  name = refl;
  opid = refl;
  came = refl;
  went = inl refl;
}

abbrev Went : (before now : ℕ) → (old new : Option ℕ) → Type 0
Went before now old new =
    (new ≡ old) ⊎ ((old ≡ None) × ((at : ℕ) × (new ≡ Some at) × (before ≤ at) × (at ≤ now)))

went_then : (a b c : ℕ) (x y z : Option ℕ) → a ≤ b → b ≤ c → Went a b x y → Went b c y z
    → Went a c x z
went_then a b c x y z low high (inl h) (inl k) = inl (k ∙ h)
went_then a b c x y z low high (inl h) (inr k) =
    let from = k.1.2 in
    inr (sym h ∙ k.0, (k.1.0, k.1.1, omega (arith, low, from), k.1.3))
went_then a b c x y z low high (inr h) (inl k) =
    let by = h.1.3 in
    inr (h.0, (h.1.0, k ∙ h.1.1, h.1.2, omega (arith, high, by)))
went_then a b c x y z low high (inr h) (inr k) =
    let no : ◌≡◌ {A = Option ℕ} None (Some h.1.0) = sym k.0 ∙ h.1.1 in absurd (cc)

remains_then : (a b c : ℕ) → a ≤ b → b ≤ c → (f g k : Flown) → Remains a b f g → Remains b c g k
    → Remains a c f k
remains_then a b c low high f g k h j = record {
  call = j.call ∙ h.call;
  kind = j.kind ∙ h.kind;
  name = j.name ∙ h.name;
  opid = j.opid ∙ h.opid;
  came = j.came ∙ h.came;
  went = went_then a b c f.went g.went k.went low high h.went j.went;
}

-- ---- the history

behind_nothing : {X : Type 0} (xs : List X) → xs ≡ xs ++ []
behind_nothing [] = refl
behind_nothing (x ∷ xs) = ap (λ ys. x ∷ ys) (behind_nothing xs)

in_turn : {X : Type 0} (xs ys zs : List X) → (xs ++ ys) ++ zs ≡ xs ++ (ys ++ zs)
in_turn [] ys zs = refl
in_turn (x ∷ xs) ys zs = ap (λ us. x ∷ us) (in_turn xs ys zs)

two_more : {X : Type 0} (xs ys zs more rest : List X) → ys ≡ xs ++ more → zs ≡ ys ++ rest
    → zs ≡ xs ++ (more ++ rest)
two_more xs ys zs more rest h k = k ∙ ap (λ us. us ++ rest) h ∙ in_turn xs more rest

log_stays : (l : Log) → LogGoesOn l l
log_stays l = record {
  opening = [];
  acts = [];
  answers = [];
  is_opening = behind_nothing l.opening;
  is_acts = behind_nothing l.acts;
  is_answers = behind_nothing l.answers;
}

log_then : (l m n : Log) → LogGoesOn l m → LogGoesOn m n → LogGoesOn l n
log_then l m n h k = record {
  opening = h.opening ++ k.opening;
  acts = h.acts ++ k.acts;
  answers = h.answers ++ k.answers;
  is_opening = two_more l.opening m.opening n.opening h.opening k.opening h.is_opening k.is_opening;
  is_acts = two_more l.acts m.acts n.acts h.acts k.acts h.is_acts k.is_acts;
  is_answers = two_more l.answers m.answers n.answers h.answers k.answers h.is_answers k.is_answers;
}

longer : (xs ys : List Logged) → length xs ≤ length (xs ++ ys)
longer [] ys = omega arith
longer (x ∷ xs) ys = let rest = longer xs ys in omega (arith, rest)

answers_later : (l m : Log) → LogGoesOn l m → length l.answers ≤ length m.answers
answers_later l m h =
    subst (λ xs. length l.answers ≤ length xs) (sym h.is_answers) (longer l.answers h.answers)

-- ---- the group

grows_not : (v : GroupView) → GrowsOver v v
grows_not v = record {
  tell = λ h. h;
  told = λ h. h;
  began = λ start tell h. h;
  log = log_stays v.log;
  calls = as_it_was Stays stays v.calls.entries;
  flown = as_it_was (Remains (length v.log.answers) (length v.log.answers))
      (remains (length v.log.answers)) v.calls.flown;
  epoch = omega arith;
  cache_faults = omega arith;
  base_faults = omega arith;
  share = refl;
  values = refl;
}

grows_then : (v w u : GroupView) → GrowsOver v w → GrowsOver w u → GrowsOver v u
grows_then v w u h k = record {
  tell = λ both. k.tell (h.tell both);
  told = λ both. h.told (k.told both);
  began = λ start both b. k.began start (h.tell both) (h.began start both b);
  log = log_then v.log w.log u.log h.log k.log;
  calls = then_more Stays Stays Stays stays_then v.calls.entries w.calls.entries u.calls.entries
      h.calls k.calls;
  flown =
      let a = length v.log.answers in let b = length w.log.answers in
      let c = length u.log.answers in
      then_more (Remains a b) (Remains b c) (Remains a c)
      (remains_then a b c (answers_later v.log w.log h.log) (answers_later w.log u.log k.log))
      v.calls.flown w.calls.flown u.calls.flown h.flown k.flown;
  epoch = let one = h.epoch in let two = k.epoch in omega (arith, one, two);
  cache_faults = let one = h.cache_faults in let two = k.cache_faults in omega (arith, one, two);
  base_faults = let one = h.base_faults in let two = k.base_faults in omega (arith, one, two);
  share = k.share ∙ h.share;
  values = k.values ∙ h.values;
}

log_on : (l m : Log) → LogGrows l m → LogGoesOn l m
log_on l m h = record {
  opening = h.opening;
  acts = h.acts;
  answers = h.answers;
  is_opening = h.is_opening;
  is_acts = h.is_acts;
  is_answers = h.is_answers;
}

pub step_grows : (v w : GroupView) → IsOneStep v w → GrowsOver v w
step_grows v w s = let g = s.keeps.1 in record {
  tell = g.pools.tell;
  told = g.pools.told;
  began = g.began;
  log = log_on v.log w.log g.log;
  calls = any_more Stays _ v.calls.entries w.calls.entries g.calls;
  flown = any_more (Remains (length v.log.answers) (length w.log.answers)) _ v.calls.flown
      w.calls.flown g.flown;
  epoch = g.epoch;
  cache_faults = g.cache_faults;
  base_faults = g.base_faults;
  share = g.share;
  values = g.values;
}

pub runs_keep : RunsKeep
runs_keep v [] whole steps = (whole, grows_not v)
runs_keep v (w ∷ ws) whole steps =
    let rest = runs_keep w ws steps.0.keeps.0 steps.1 in
    (rest.0, grows_then v w (last_of w ws) (step_grows v w steps.0) rest.1)

pub runs_join : RunsJoin
runs_join v [] us steps more = (more, refl)
runs_join v (w ∷ ws) us steps more =
    let rest = runs_join w ws us steps.1 more in ((steps.0, rest.0), rest.1)
