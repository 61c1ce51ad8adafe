-- Steps that leave the stores, the history, or the tables as they are.
use Rattle.std.proofs.Common.{inl, ℕ, List, [], ◌∷◌, ◌++◌, refl, sym}
use Rattle.std.proofs.lemmas.List.{append-nil}
use Rattle.std.specs.List.{AllByRecursion}
use Rattle.tier_chron.specs.Logs.{Log}
use Rattle.tier_join.specs.Group.{View}
use Rattle.tier_join.specs.Promises.{Promises}
use Rattle.tier_join.specs.Steps.{with_doubt}
use Rattle.tier_join.proofs.Rests.{worlds_promise}
use Rattle.tier_view.specs.Calls.{Entry, Flown}
use Rattle.tier_view.specs.Grows.{Extends, LogGrows, Remains, Stays}

-- ---- lists

pub all_of : {X : Type 0} (P : X → Type 0) → ((x : X) → P x) → (xs : List X) → AllByRecursion P xs
all_of P f [] = tt
all_of P f (x ∷ xs) = (f x, all_of P f xs)

pub extends_push : {X : Type 0} (Same : X → X → Type 0) (More : List X → Type 0) → ((x : X) → Same x x) → (xs ys : List X) → More ys → Extends Same More xs (xs ++ ys)
extends_push Same More same [] ys h = h
extends_push Same More same (x ∷ xs) ys h = (same x, extends_push Same More same xs ys h)

pub extends_same : {X : Type 0} (Same : X → X → Type 0) (More : List X → Type 0) → ((x : X) → Same x x) → (xs : List X) → More [] → Extends Same More xs xs
extends_same Same More same [] h = h
extends_same Same More same (x ∷ xs) h = (same x, extends_same Same More same xs h)

pub stays_itself : (e : Entry) → Stays e e
stays_itself e = record { number = refl; line = refl; asked = refl; epoch = refl; begin = refl; adopted = λ h. h; ended = λ h. h }

pub remains_itself : (before now : ℕ) (f : Flown) → Remains before now f f
remains_itself before now f = record { call = refl; kind = refl; name = refl; opid = refl; came = refl; went = inl refl }

-- ---- the pools, and the history

-- where nothing changes of the pools
pub rests_promises : (u : View) → Promises (with_doubt u.doubt) u u
rests_promises u =
    worlds_promise u u
    (record { acts = refl; cache = refl; base = refl; down = λ d. d; moves = λ start recs base there c b world h. h; memory = λ h. h })
    (record { cache = refl; base = refl; doubt = refl })

abbrev pub log_rests : (log : Log) → LogGrows log log
log_rests log = record {
  opening = [];
  acts = [];
  answers = [];
  is_opening = sym (append-nil log.opening);
  is_acts = sym (append-nil log.acts);
  is_answers = sym (append-nil log.answers);
  ends = tt;
}
