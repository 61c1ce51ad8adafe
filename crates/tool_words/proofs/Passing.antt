-- Each flag and number of a parse by the program's command passed its parser.
use Rattle.std.proofs.Common.{zero, suc, ◌≡◌, ◌∙◌, ap, ℕ, Bool, true, false, List, [], ◌∷◌, ◌<◌, length, Option, Some, None, refl, sym, subst, inl, inr, arith, codes}
use Rattle.std.specs.Prelude.{option_map, slice_get, unwrap_or}
use Rattle.std.specs.List.{All, position, slice_index_or, list_all}
use Rattle.std.specs.Str.{bytes_eq}
use Rattle.std.specs.Borrow.{Bor}
use Rattle.std.proofs.lemmas.List.{get_or-map, length-map}
use Rattle.std.proofs.lemmas.List.Elements.{All-get_or}
use Rattle.std.proofs.lemmas.Slice.Eq.{bytes_eq-Decides}
use Rattle.clap.specs.Facts.{Entry, EntryPasses, HasReading, PassesArg, args_of, groups_of, parser_of, parser_of_value}
use Rattle.clap.specs.Built.{IsAuto, IsParsedFrom}
use Rattle.clap.specs.Matches.{found_of, matched_of, one_text}
use Rattle.clap.specs.Simple.{app_of, is_ready, is_ready_leaf}
use Rattle.clap.specs.Values.{Accepts, read_as, reading_of}
use Rattle.clap.specs.Walk.{Rule, Text, rule_of}
use Rattle.clap.proofs.CallerLemmas.{entry_by_id, same_rules_by_id}
use Rattle.clap.proofs.SimpleLemmas.{all_simple, ready_simple, simple_groups}
use Rattle.clap.specs.declared.builder.arg.Arg.{Arg}
use Rattle.clap.specs.declared.builder.command.Command.{Command}
use Rattle.clap.specs.declared.builder.value_parser.Reading.{Reading}
use Rattle.clap.specs.declared.builder.value_parser.Reading.TheVariants.{AsWritten}
use Rattle.clap.specs.declared.builder.value_parser.ValueParser.{ValueParser}
use Rattle.clap.specs.declared.parser.matches.ArgMatches.{ArgMatches}
use Rattle.clap.specs.declared.parser.matches.MatchedArg.{MatchedArg}
use Rattle.tool_words.specs.Words.{tool}
use Rattle.tool_words.specs.Steps.{Passes}

-- where the rule of a name stands
abbrev place : Text → Option ℕ
place name = position (λ r. bytes_eq r.id name) tool.top.rules

at_its_place : (j : ℕ) (r : Rule) → j < 6 → place (slice_index_or tool.top.rules j r).id ≡ Some j
at_its_place zero r lt = refl
at_its_place (suc zero) r lt = refl
at_its_place (suc (suc zero)) r lt = refl
at_its_place (suc (suc (suc zero))) r lt = refl
at_its_place (suc (suc (suc (suc zero)))) r lt = refl
at_its_place (suc (suc (suc (suc (suc zero))))) r lt = refl
at_its_place (suc (suc (suc (suc (suc (suc j)))))) r lt = absurd (omega arith)

-- the command has these six arguments
six : (c : Command) → app_of c ≡ tool → length (args_of c) ≡ 6
six c same = sym (length-map (args_of c) rule_of) ∙ ap (λ a. length a.top.rules) same

rule_at : (c : Command) → app_of c ≡ tool → (j : ℕ) (d : Arg) → j < length (args_of c)
    → rule_of (slice_index_or (args_of c) j d) ≡ slice_index_or tool.top.rules j (rule_of d)
rule_at c same j d lt =
    sym (get_or-map rule_of (args_of c) j d (rule_of d) lt)
    ∙ ap (λ a. slice_index_or a.top.rules j (rule_of d)) same

place_at : (c : Command) → app_of c ≡ tool → (j : ℕ) (d : Arg) → j < length (args_of c)
    → place (slice_index_or (args_of c) j d).id.now ≡ Some j
place_at c same j d lt =
    let low : j < 6 = rw (six c same) at lt in
    ap (λ (r : Rule). place r.id) (rule_at c same j d lt) ∙ at_its_place j (rule_of d) low

-- no two of them have one name, and none has a name that the library takes
only_one : (c : Command) → app_of c ≡ tool → (k : ℕ) (d : Arg) → k < length (args_of c)
    → (j : ℕ) (e : Arg) → j < length (args_of c)
    → bytes_eq (slice_index_or (args_of c) j e).id.now (slice_index_or (args_of c) k d).id.now ≡ true
    → j ≡ k
only_one c same k d lt j e low names =
    let one = (bytes_eq-Decides (slice_index_or (args_of c) j e).id.now (slice_index_or (args_of c) k d).id.now).0 names in
    let places : Some j ≡ Some k =
    sym (place_at c same j e low) ∙ (ap place one ∙ place_at c same k d lt) in
    ap (λ (o : Option ℕ). unwrap_or o j) places

not_taken : (c : Command) → app_of c ≡ tool → (k : ℕ) (d : Arg) → k < length (args_of c)
    → IsAuto (slice_index_or (args_of c) k d) → ⊥
not_taken c same k d lt (inl h) =
    let none : place (codes "help") ≡ None = refl in
    let bad : Some k ≡ None = sym (place_at c same k d lt) ∙ (ap place h ∙ none) in
    cc
not_taken c same k d lt (inr h) =
    let none : place (codes "version") ≡ None = refl in
    let bad : Some k ≡ None = sym (place_at c same k d lt) ∙ (ap place h ∙ none) in
    cc

-- the built argument of a name has the parser that the command gave it
record HasParser (q : ValueParser) (x : Arg) : Type 0 where
  parser : parser_of x ≡ q
  letters : x.ignore_case ≡ false

built_parser : (c : Command) (m : ArgMatches) → app_of c ≡ tool → (p : IsParsedFrom c m)
    → (k : ℕ) → k < 6 → (r : Rule) → ((s : Rule) → slice_index_or tool.top.rules k s ≡ r)
    → (q : ValueParser) → r.parser ≡ Some q → r.ignore_case ≡ false
    → (j : ℕ) (x : Arg) → j < length (args_of p.built) → slice_index_or (args_of p.built) j x ≡ x
    → bytes_eq x.id.now r.id ≡ true → HasParser q x
built_parser c m same p k lt r at q parser letters j x high is name =
    let low : k < length (args_of c) = rw (six c same) lt in
    let rule : rule_of (slice_index_or (args_of c) k x) ≡ r =
    rule_at c same k x low ∙ at (rule_of x) in
    let named : bytes_eq x.id.now (slice_index_or (args_of c) k x).id.now ≡ true =
    subst (λ (t : Text). bytes_eq x.id.now t ≡ true) (sym (ap (λ (s : Rule). s.id) rule)) name in
    let s = same_rules_by_id c m p k x low (only_one c same k x low) (not_taken c same k x low)
    j x high is named in
    record {
      parser = ap parser_of_value (s.parser q (ap (λ (s : Rule). s.parser) rule ∙ parser));
      letters = s.ignore_case ∙ (ap (λ (s : Rule). s.ignore_case) rule ∙ letters);
    }

first_accepted : (P : Text → Type 0) (how : Reading) (t : Text) (vs : List (Bor Text)) → how ≡ AsWritten
    → All (λ v. P v.now) vs → option_map (λ s. read_as how s.now) (slice_get vs 0) ≡ Some t → P t
first_accepted P how t [] is all h = cc
first_accepted P how t (v ∷ vs) is all h =
    let same : Some v.now ≡ Some t = rw is at h in
    let one : v.now ≡ t = ap (λ (o : Option Text). unwrap_or o v.now) same in
    subst P one (All-get_or (λ v. P v.now) (v ∷ vs) 0 v (omega arith) all)

of_entry : (b : Command) (id : Text) (P : Text → Type 0) (x : MatchedArg) (e : Entry) (t : Text)
    → groups_of b ≡ [] → (id ≡ [] → ⊥)
    → ((w : Reading) → HasReading b id w → w ≡ AsWritten)
    → ((v : Bor Text) → PassesArg b id v.now → P v.now)
    → e.1 ≡ x → e.0.now ≡ id → EntryPasses b e
    → option_map (λ s. read_as x.reading s.now) (slice_get x.vals.items 0) ≡ Some t → P t
of_entry b id P x e t no_groups named reads accepts same key pass h =
    let no_group : e.1.is_group ≡ true → ⊥ = λ g. elim (pass.3 g) [
      | inl empty ↦ named (sym key ∙ empty)
      | inr lots ↦
          let bad : 0 < 0 = rw no_groups at lots in
          absurd (omega arith)
    ] in
    let all : All (λ v. PassesArg b id v.now) x.vals.items = elim pass.0 [
      | inl g ↦ absurd (no_group g)
      | inr vals ↦ subst (λ (w : Text). All (λ v. PassesArg b w v.now) x.vals.items) key (rw same at vals)
    ] in
    let is : e.1.reading ≡ AsWritten = elim pass.4 [
      | inl g ↦ absurd (no_group g)
      | inr has ↦ reads e.1.reading (subst (λ (w : Text). HasReading b w e.1.reading) key has)
    ] in
    first_accepted P x.reading t x.vals.items (ap (λ (y : MatchedArg). y.reading) (sym same) ∙ is)
    (λ j d lt. accepts (slice_index_or x.vals.items j d) (all j d lt)) h

-- the value of the argument at a place passed the parser of its rule
pub passes_at : (c : Command) (m : ArgMatches) → app_of c ≡ tool → IsParsedFrom c m
    → (k : ℕ) → k < 6 → (r : Rule) → ((s : Rule) → slice_index_or tool.top.rules k s ≡ r)
    → (q : ValueParser) → r.parser ≡ Some q → r.ignore_case ≡ false → reading_of q ≡ AsWritten
    → place r.id ≡ Some k → Passes q r.id m
passes_at c m same p k lt r at q parser letters written stands t found =
    go (matched_of (found_of m) r.id) refl found
  where
    parser_in : (j : ℕ) (x : Arg) → j < length (args_of p.built) → slice_index_or (args_of p.built) j x ≡ x
        → bytes_eq x.id.now r.id ≡ true → HasParser q x
    parser_in = built_parser c m same p k lt r at q parser letters

    reads : (w : Reading) → HasReading p.built r.id w → w ≡ AsWritten
    reads w any =
        let has = parser_in any.0 any.1 any.2 any.3 any.4.0 in
        sym any.4.1 ∙ (ap reading_of has.parser ∙ written)

    accepts : (v : Bor Text) → PassesArg p.built r.id v.now → Accepts false q v.now
    accepts v any =
        let has = parser_in any.0 any.1 any.2 any.3 any.4.0 in
        let as_q : Accepts any.1.ignore_case q v.now =
        subst (λ (w : ValueParser). Accepts any.1.ignore_case w v.now) has.parser any.4.1 in
        subst (λ (b : Bool). Accepts b q v.now) has.letters as_q

    named : r.id ≡ [] → ⊥
    named empty =
        let none : place [] ≡ None = refl in
        let bad : Some k ≡ None = sym stands ∙ (ap place empty ∙ none) in
        cc

    go : (o : Option MatchedArg) → matched_of (found_of m) r.id ≡ o
        → one_text (found_of m) r.id ≡ Some t → Accepts false q t
    go None e h =
        let bad : None ≡ Some t = rw e at h in
        cc
    go (Some x) e h =
        let simple = ready_simple c (ap (λ a. is_ready a.top) same) (ap (λ a. list_all is_ready_leaf a.subs) same) in
        let parsed = p.parsed (p.from.globals ∙ simple.globals) in
        let groups : groups_of p.built ≡ [] =
        (p.from.same_groups (simple_groups c (ap (λ a. all_simple a.top.rules) same))).1 ∙ simple.groups in
        let got = entry_by_id (EntryPasses p.built) (found_of m).entries.items r.id x parsed.values e in
        of_entry p.built r.id (Accepts false q) x got.0 t groups named reads accepts got.1
        ((bytes_eq-Decides got.0.0.now r.id).0 got.2) got.3 (rw e at h)
