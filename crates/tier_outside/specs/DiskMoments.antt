-- The clock of a disk, and what its calls leave from moment to moment.
use Rattle.std.specs.Prelude.{ℕ, List, [], Option, refl}
use Rattle.std.specs.Coded.{Coded, code_by, coded×, coded_ℕ, coded_list}
use Rattle.tier_outside.specs.Disk.{DiskMoment, EachImage, IsImage, settled}
use Rattle.tier_outside.specs.Moments as moments

-- the moment now
abbrev pub last : List DiskMoment → DiskMoment
last = moments.last (settled [])

-- where the disk tells, the moment now has P
abbrev pub Now : Option (List DiskMoment) → (DiskMoment → Type 0) → Type 0
Now = moments.Now (settled [])

-- where the disk tells, the moment of old and that of new stand so to each other
abbrev pub Then : Option (List DiskMoment) → Option (List DiskMoment)
    → (DiskMoment → DiskMoment → Type 0) → Type 0
Then = moments.Then (settled [])

-- more moments came; a disk that does not tell still does not
abbrev pub grown : Option (List DiskMoment) → List DiskMoment → Option (List DiskMoment)
grown = moments.grown

-- nothing changed, or there is one more moment, which follows by this step
abbrev pub Goes : (DiskMoment → DiskMoment → Type 0) → Option (List DiskMoment)
    → Option (List DiskMoment) → Type 0
Goes = moments.Goes (settled [])

-- each image of each of these moments has P
abbrev pub EachMoment : List DiskMoment → (List ℕ → Type 0) → Type 0
EachMoment ds P = moments.Each ds (λ d. EachImage d P)

-- each image of each moment since has P
abbrev pub Since : Option (List DiskMoment) → Option (List DiskMoment) → (List ℕ → Type 0) → Type 0
Since old new P = moments.Since old new (λ d. EachImage d P)

-- at each moment since, a stop leaves only what stands so to the moment before
abbrev pub Leaves : Option (List DiskMoment) → Option (List DiskMoment)
    → (DiskMoment → List ℕ → Type 0) → Type 0
Leaves old new Q = Since old new (λ image. Now old (λ d. Q d image))

-- some image of the moment now has P
abbrev pub SomeImage : Option (List DiskMoment) → (List ℕ → Type 0) → Type 0
SomeImage now P = Now now (λ d. (image : List ℕ) × IsImage d image × P image)

-- how a moment is written down as a value of contracts
abbrev pub coded_moment : Coded DiskMoment
coded_moment =
    code_by ((List ℕ × List ℕ) × (List (ℕ × ℕ) × (ℕ × ℕ)))
    (coded× (coded× (coded_list coded_ℕ) (coded_list coded_ℕ))
    (coded× (coded_list (coded× coded_ℕ coded_ℕ)) (coded× coded_ℕ coded_ℕ)))
    (λ d. ((d.content, d.stable), (d.touched, (d.low, d.high))))
    (λ c. record {
      content = c.0.0;
      stable = c.0.1;
      touched = c.1.0;
      low = c.1.1.0;
      high = c.1.1.1;
    })
    (λ _. refl)
