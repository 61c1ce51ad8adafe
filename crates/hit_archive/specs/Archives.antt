-- A hit set with the archives before it: touching, recency and temperature.
use Rattle.std.specs.Prelude.{ℕ, zero, suc, ◌+◌, ◌-◌, ◌*◌, ◌/◌, ◌==◌, ◌&&◌, ◌||◌, Bool, false, List, [], ◌∷◌, length, take, nat_le, if◌then◌else◌}
use Rattle.std.specs.List.{list_all, enumerate_from, sum_by}
use Rattle.hit_sets.specs.declared.kind.HitKind.{HitKind}
use Rattle.hit_sets.specs.Sets.{Hits, empty, contains, inserted, is_full}
use Rattle.hit_archive.specs.declared.archive.Touch.{Touch}

-- the current hit set and the sets before it, newest first; how many of these are kept, and how
-- long each set counts
pub record Archive : Type 0 where
  pub kind : HitKind
  pub count : ℕ
  pub period : ℕ
  pub current : Hits
  pub archives : List Hits

-- the archive that begins at this moment
abbrev pub started : HitKind → ℕ → ℕ → ℕ → Archive
started kind count period now = record {
  kind = kind;
  count = count;
  period = period;
  current = empty kind now;
  archives = [];
}

-- the current set is to be sealed: its period is over, or it is full
abbrev pub is_due : Archive → ℕ → Bool
is_due a now = nat_le (a.current.start + a.period) now || is_full a.current

-- the current set becomes the newest archive, what is beyond the count is dropped, and an empty set
-- starts
abbrev pub sealed : Archive → ℕ → Archive
sealed a now = record a {
  current = empty a.kind now;
  archives = take a.count (a.current ∷ a.archives);
}

-- the archive into which a name is inserted at this moment
abbrev pub ready : Archive → ℕ → Archive
ready a now = if is_due a now then sealed a now else a

-- a name is in the current set
abbrev pub with_name : Archive → List ℕ → Archive
with_name a n = record a { current = inserted a.current n }

-- the archive after a name was touched; where no sets are kept, nothing happens
abbrev pub touched : Archive → List ℕ → ℕ → Archive
touched a n now = if a.count == 0 then a else with_name (ready a now) n

-- what a touch tells: whether the set into which the name went contained it, and whether a set was
-- sealed
abbrev pub touch_of : Archive → List ℕ → ℕ → Touch
touch_of a n now =
    if a.count == 0 then record { was_in = false; sealed = false }
    else record { was_in = contains (ready a now).current n; sealed = is_due a now }

-- recency r is met: for 0 always, else where the name was in the current set and is in each of the
-- r - 1 newest archives, which all exist
abbrev pub recency_met : Archive → List ℕ → Bool → ℕ → Bool
recency_met a n was_in r = (r == 0) ||
    (was_in && (nat_le (r - 1) (length a.archives) && list_all (λ s. contains s n)
    (take (r - 1) a.archives)))

-- a grade after one more decay, rounded down; a decay is in hundredths
abbrev pub faded : ℕ → ℕ → ℕ
faded decay grade = grade * (100 - decay) / 100

-- the grade of the archive at this place, newest first
abbrev pub grade : ℕ → ℕ → ℕ
grade decay zero = faded decay 1000000
grade decay (suc i) = faded decay (grade decay i)

-- what one archive adds to a name's temperature
abbrev pub share : List ℕ → ℕ → ℕ → Hits → ℕ
share n decay i s = if contains s n then grade decay i else 0

-- what archives add to a name's temperature, the first at this place
abbrev pub warmth : List ℕ → ℕ → ℕ → List Hits → ℕ
warmth n decay from sets = sum_by (λ e. share n decay e.0 e.1) (enumerate_from from sets)

-- the temperature of a name: 1,000,000 for the current set, and the grades of those of the last_n
-- newest archives that contain it
abbrev pub temperature : Archive → List ℕ → ℕ → ℕ → ℕ
temperature a n last_n decay = (if contains a.current n then 1000000 else 0) + warmth n decay 0
    (take last_n a.archives)
