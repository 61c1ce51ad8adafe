-- A word reads as a name exactly where it is one.
use Rattle.std.proofs.Common.{◌≡◌, ℕ, ◌≤◌, ◌==◌, bytes_eq, is_some, Bool, true, false, List, length, nat_lt, if◌then◌else◌, Option, Some, None, refl, sym, ap, ◌∙◌, arith}
use Rattle.std.specs.List.{position}
use Rattle.std.proofs.lemmas.List.Elements.{All-weaker}
use Rattle.std.proofs.lemmas.Bool.Decides.{nat_tests}
use Rattle.obj_model.specs.Names.{name_fault, byte_fault, is_wrong_byte}
use Rattle.obj_model.specs.declared.name.BadName.TheVariants.{Empty, Long}
use Rattle.script_lang.specs.Reading.{name_of}
use Rattle.script_lang.proofs.Options.{faultless_some}
use Rattle.script_lang.proofs.Breaks.{free_from_position}
use Rattle.script_lang.proofs.Joined.{IsWord, is_word_byte}
use Rattle.std.specs.Cmp.Lexicographic.{bytes_decides}

pub name_of-sound : (word name : List ℕ) → name_of word ≡ Some name
    → (word ≡ name) × (name_fault name ≡ None)
unfolding name_of
name_of-sound word name h =
    let some = faultless_some (name_fault word) word name h in
    (some.1, ap name_fault (sym some.1) ∙ some.0)

pub name_of-name : (name : List ℕ) → name_fault name ≡ None → name_of name ≡ Some name
unfolding name_of
name_of-name name h = rw h refl

-- no fault is found only where no place is
no_place : (bytes : List ℕ) (n : ℕ) (empty long : Bool) (place : Option ℕ)
    → (if empty then Some Empty else if long then Some (Long n) else byte_fault bytes place) ≡ None
    → place ≡ None
no_place bytes n true long place h = cc h
no_place bytes n false true place h = cc h
no_place bytes n false false (Some at) h = cc h
no_place bytes n false false None h = refl

-- a name has no wrong byte
no_wrong_byte : (name : List ℕ) → name_fault name ≡ None → position is_wrong_byte name ≡ None
no_wrong_byte name h =
    no_place name (length name) (length name == 0) (nat_lt 255 (length name))
    (position is_wrong_byte name) h

-- a name has a byte
some_byte : (n : ℕ) (empty long : Bool) (place : Option ℕ) (bytes : List ℕ) → (n == 0) ≡ empty
    → (if empty then Some Empty else if long then Some (Long n) else byte_fault bytes place) ≡ None
    → 1 ≤ n
some_byte n true long place bytes is h = cc h
some_byte n false long place bytes is h = grind (arith, nat_tests)

pub name_is_word : (name : List ℕ) → name_fault name ≡ None → IsWord name
name_is_word name h = (
  some_byte (length name) _ (nat_lt 255 (length name)) (position is_wrong_byte name) name refl h,
  All-weaker (λ (b : ℕ). is_wrong_byte b ≡ false) (λ (b : ℕ). is_word_byte b
      ≡ true) (λ b e. grind (arith, nat_tests)) name
      (free_from_position is_wrong_byte name (no_wrong_byte name h)),
)

-- a name is no literal that is no name
pub name_is_not : (name literal : List ℕ) (test : Bool) → is_some (name_fault literal) ≡ true
    → name_fault name ≡ None
    → bytes_eq name literal ≡ test → test ≡ false
name_is_not name literal false bad h is = refl
name_is_not name literal true bad h is =
    let e : name ≡ literal = (bytes_decides name literal).0 is in
    let none : name_fault literal ≡ None = ap name_fault (sym e) ∙ h in
    let no : is_some (name_fault literal) ≡ false = ap is_some none in
    cc (bad, no)
