-- Comparing a record with the base's state.
use Rattle.std.proofs.Common.{◌≡◌, ◌<◌, inl, inr, ℕ, Bool, true, false, List, [], ◌∷◌, ◌++◌, length, take, drop, nat_eq, refl, sym, ap, subst, ◌∙◌, arith}
use Rattle.std.specs.Prelude.{◌↔◌, IsTrue}
use Rattle.std.specs.List.{starts_with}
use Rattle.std.specs.Cmp.Lexicographic.{bytes_decides, pointwise}
use Rattle.std.proofs.lemmas.List.{take-append-drop}
use Rattle.byteorder.specs.Endian.{big_bytes}
use Rattle.obj_model.specs.States.{unknown}
use Rattle.obj_model.specs.declared.state.NameState.{NameState}
use Rattle.rec_codec.specs.Spelling.{SpellsState, mark, state_bytes}
use Rattle.rec_codec.proofs.Whole.{states_apart}
use Rattle.tier_types.specs.declared.record.TierRec.{TierRec}
use Rattle.pool_survey.specs.Steps.{Judges, SameAs, SpellsRec}

-- the rest of a record's spelling, behind its state
abbrev tail_of : TierRec → List ℕ
tail_of r = mark r.dirty ∷ big_bytes 8 r.mtime

front : (bytes : List ℕ) (r : TierRec) → SpellsRec bytes r → SpellsState (state_bytes r.state) r.state
front bytes r h = record { lawful = h.lawful; typed = h.typed; spelled = refl }

front_taken : (a b : List ℕ) → take (length a) (a ++ b) ≡ a
front_taken [] b = refl
front_taken (x ∷ a) b = ap (λ l. x ∷ l) (front_taken a b)

-- a record's spelling begins with that of its own state alone
same_by : (b : Bool) (value spelled : List ℕ) (r : TierRec) (s : NameState) → pointwise nat_eq spelled (take (length spelled) value) ≡ b
    → SpellsRec value r → SpellsState spelled s → SameAs r.state s b
same_by true value spelled r s is h k =
    let begins : spelled ≡ take (length spelled) value = (bytes_decides spelled (take (length spelled) value)).0 is in
    let whole : state_bytes r.state ++ tail_of r ≡ spelled ++ drop (length spelled) value =
    sym h.spelled ∙ sym (take-append-drop (length spelled) value) ∙ ap (λ l. l ++ drop (length spelled) value) (sym begins) in
    (states_apart r.state s (state_bytes r.state) spelled (tail_of r) (drop (length spelled) value) (front value r h) k whole).0
same_by false value spelled r s is h k = λ same.
    let whole : value ≡ spelled ++ tail_of r = h.spelled ∙ ap (λ (q : NameState). state_bytes q ++ tail_of r) same ∙ ap (λ l. l ++ tail_of r) (sym k.spelled) in
    let begins : spelled ≡ take (length spelled) value = sym (ap (take (length spelled)) whole ∙ front_taken spelled (tail_of r)) in
    let up = (bytes_decides spelled (take (length spelled) value)).1 begins in absurd (cc)

pub same_spelling : (b : Bool) (value spelled : List ℕ) (r : TierRec) (s : NameState) → b ≡ starts_with nat_eq value spelled
    → SpellsRec value r → SpellsState spelled s → SameAs r.state s b
same_spelling b value spelled r s is h k =
    subst (SameAs r.state s) (sym is) (same_by (starts_with nat_eq value spelled) value spelled r s refl h k)

pub same_none : (b : Bool) (r s : NameState) → (IsTrue b ↔ (r ≡ unknown)) → s ≡ unknown → SameAs r s b
same_none true r s both none = both.0 refl ∙ sym none
same_none false r s both none = λ same. let up : ◌≡◌ {A = Bool} false true = both.1 (same ∙ none) in absurd (cc)

-- ---- what the comparison says

pub judged_clean : (d b : Bool) (r s : NameState) → d ≡ false → SameAs r s b → Judges d r s b
judged_clean d true r s is same = subst (λ m. Judges m r s true) (sym is) same
judged_clean d false r s is same = subst (λ m. Judges m r s false) (sym is) same

pub judged_newer : (d : Bool) (r s : NameState) → d ≡ true → s.seq < r.seq → Judges d r s true
judged_newer d r s is newer = subst (λ m. Judges m r s true) (sym is) (record { behind = omega arith; level = λ same. absurd (omega (arith, same)) })

pub judged_older : (d : Bool) (r s : NameState) → d ≡ true → r.seq < s.seq → Judges d r s false
judged_older d r s is older = subst (λ m. Judges m r s false) (sym is) (inl older)

pub judged_level : (d b : Bool) (r s : NameState) → d ≡ true → s.seq ≡ r.seq → SameAs r s b → Judges d r s b
judged_level d true r s is level same =
    subst (λ m. Judges m r s true) (sym is) (record { behind = omega (arith, level); level = λ seqs. sym same })
judged_level d false r s is level other = subst (λ m. Judges m r s false) (sym is) (inr (sym level, other))

pub ruleset same_rules = (same_none, same_spelling)

pub ruleset judged_rules = (judged_clean, judged_newer, judged_older, judged_level)
