-- A text that is not UTF-8 reads as nothing.
use Rattle.std.proofs.Common.{◌≡◌, ℕ, List, Bool, true, false, Option, Some, None, refl, ap, ◌∙◌}
use Rattle.std.specs.Prelude.{if◌then◌else◌}
use Rattle.std.specs.Str.{is_utf8, IsUtf8}
use Rattle.std.proofs.lemmas.Str.{IsUtf8-from_is_utf8, is_utf8-from_IsUtf8}
use Rattle.serde_json.specs.Data.{Data}
use Rattle.serde_json.specs.Read.{read}
use Rattle.settings_json.specs.Settings.{json_of}

-- what a text reads as
pub text_is_read : (bytes : List ℕ) (d : Data) → IsUtf8 bytes → read bytes ≡ Some d →
    json_of bytes ≡ Some d
text_is_read bytes d utf8 is = ap (λ (b : Bool). if b then read bytes else None)
    (is_utf8-from_IsUtf8 bytes utf8) ∙ is

none_if_none : (b : Bool) (d : Option Data) → (b ≡ true → d ≡ None) → (if b then d else None) ≡ None
none_if_none true d none = none refl
none_if_none false d none = refl

-- what reads as nothing where it is a text reads as nothing
pub none_is_read : (bytes : List ℕ) → (IsUtf8 bytes → read bytes ≡ None) → json_of bytes ≡ None
none_is_read bytes none = none_if_none (is_utf8 bytes) (read bytes)
    (λ is. none (IsUtf8-from_is_utf8 bytes is))
