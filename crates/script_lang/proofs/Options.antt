-- What a value shows of the steps that it came from.
use Rattle.std.proofs.Common.{◌≡◌, ℕ, List, Bool, true, false, Option, Some, None, Result, Ok, Err, refl}
use Rattle.script_lang.specs.declared.cause.Cause.{Cause}
use Rattle.script_lang.specs.Reading.{◌>>=◌, only_if, or_cause, where_true, faultless, fit, by_word}

pub bind_ok : {A B : Type 0} (r : Result A Cause) (f : A → Result B Cause) (y : B)
    → (r >>= f) ≡ Ok y
    → (x : A) × (r ≡ Ok x) × (f x ≡ Ok y)
bind_ok (Ok x) f y h = (x, refl, h)
bind_ok (Err why) f y h = cc h

pub only_if_ok : {A : Type 0} (b : Bool) (why : Cause) (x y : A) → only_if b why x ≡ Ok y
    → (b ≡ true) × (x ≡ y)
only_if_ok true why x y h = (refl, cc h)
only_if_ok false why x y h = cc h

pub or_cause_ok : {A : Type 0} (why : Cause) (o : Option A) (y : A) → or_cause why o ≡ Ok y
    → o ≡ Some y
or_cause_ok why (Some x) y h = cc h
or_cause_ok why None y h = cc h

pub where_true_some : {A : Type 0} (b : Bool) (x y : A) → where_true b x ≡ Some y
    → (b ≡ true) × (x ≡ y)
where_true_some true x y h = (refl, cc h)
where_true_some false x y h = cc h

pub faultless_some : {A F : Type 0} (o : Option F) (x y : A) → faultless o x ≡ Some y
    → (o ≡ None) × (x ≡ y)
faultless_some None x y h = (refl, cc h)
faultless_some (Some f) x y h = cc h

pub fit_ok : {A : Type 0} (why : Cause) (read : List ℕ → Option A) (o : Option (List ℕ)) (y : A)
    → fit why read o ≡ Ok y
    → (word : List ℕ) × (o ≡ Some word) × (read word ≡ Some y)
fit_ok why read (Some word) y h = (word, refl, or_cause_ok why (read word) y h)
fit_ok why read None y h = cc h

pub by_word_ok : {A : Type 0} (read : List ℕ → Result A Cause) (o : Option (List ℕ)) (y : A)
    → by_word read o ≡ Ok y
    → (word : List ℕ) × (o ≡ Some word) × (read word ≡ Ok y)
by_word_ok read (Some word) y h = (word, refl, h)
by_word_ok read None y h = cc h
