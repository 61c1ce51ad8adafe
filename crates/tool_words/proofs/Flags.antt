-- What the library's getter reads of a flag whose value passed its parser.
use Rattle.std.proofs.Common.{◌≡◌, ◌∙◌, ap, Bool, true, false, ◌||◌, Option, Some, None, refl, sym, codes}
use Rattle.std.specs.Str.{bytes_eq}
use Rattle.std.proofs.lemmas.Slice.Eq.{bytes_eq-Decides}
use Rattle.clap.specs.Values.{Accepts}
use Rattle.clap.specs.Walk.{Text}
use Rattle.clap.specs.declared.builder.value_parser.ValueParser.TheVariants as parser
use Rattle.tool_words.specs.Words.{is_on}

-- a flag's value is one of two texts
pub flag_is : (o : Option Text) (b : Bool) → (o ≡ None → b ≡ false) → (o ≡ Some (codes "true") → b ≡ true)
    → (o ≡ Some (codes "false") → b ≡ false) → ((t : Text) → o ≡ Some t → Accepts false parser.Bool t) → b ≡ is_on o
flag_is None b none on off passes = none refl
flag_is (Some t) b none on off passes = go (bytes_eq t (codes "true")) refl (bytes_eq t (codes "false")) refl (passes t refl)
  where
    go : (x : Bool) → bytes_eq t (codes "true") ≡ x → (y : Bool) → bytes_eq t (codes "false") ≡ y
        → (bytes_eq t (codes "true") || bytes_eq t (codes "false")) ≡ true → b ≡ is_on (Some t)
    go true is y miss h =
        let t_is = (bytes_eq-Decides t (codes "true")).0 is in
        let o : Some t ≡ Some (codes "true") = ap (λ (u : Text). Some u) t_is in
        on o ∙ sym (ap (bytes_eq (codes "true")) t_is)
    go false miss true is h =
        let t_is = (bytes_eq-Decides t (codes "false")).0 is in
        let o : Some t ≡ Some (codes "false") = ap (λ (u : Text). Some u) t_is in
        off o ∙ sym (ap (bytes_eq (codes "true")) t_is)
    go false miss false off_too h =
        let bad : false ≡ true = rw (miss, off_too) at h in
        cc
