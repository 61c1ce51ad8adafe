-- Laws of a disk's clock: how promises on each image of each moment go on from call to call.
use Rattle.std.specs.Prelude.{◌≡◌, ℕ, List, ◌∷◌, ◌++◌, [], Option}
use Rattle.tier_outside.specs.Disk.{DiskMoment, EachImage, settled}
use Rattle.tier_outside.proofs.Moments as moments
use Rattle.tier_outside.specs.DiskMoments.{last, Now, Then, Goes, Since}

-- the newest moment is now
pub last_push : (ds : List DiskMoment) (d : DiskMoment) → last (ds ++ d ∷ []) ≡ d
last_push ds d = moments.last_push (settled []) ds d

-- nothing happened yet
pub since_start : (a : Option (List DiskMoment)) (P : List ℕ → Type 0) → Since a a P
since_start a P = moments.since_start a (λ d. EachImage d P)

-- a weaker promise holds too
pub since_weaker : (a b : Option (List DiskMoment)) (P Q : List ℕ → Type 0) → ((image : List ℕ) → P image → Q image)
    → Since a b P → Since a b Q
since_weaker a b P Q weaker since =
    moments.since_weaker a b (λ d. EachImage d P) (λ d. EachImage d Q) (λ d each image is. weaker image (each image is)) since

-- a promise goes on over what comes after
pub since_trans : (a b c : Option (List DiskMoment)) (P : List ℕ → Type 0) → Since a b P → Since b c P → Since a c P
since_trans a b c P one two = moments.since_trans a b c (λ d. EachImage d P) one two

-- a call that changes nothing
pub since_same : (a b c : Option (List DiskMoment)) (P : List ℕ → Type 0) → Since a b P → c ≡ b → Since a c P
since_same a b c P since same = moments.since_same a b c (λ d. EachImage d P) since same

-- one call: each moment that may follow has the promise
pub since_call : (step : DiskMoment → DiskMoment → Type 0) (a b : Option (List DiskMoment)) (P : List ℕ → Type 0)
    → Goes step a b → Now a (λ d. (e : DiskMoment) → step d e → EachImage e P) → Since a b P
since_call step a b P goes follows = moments.since_call (settled []) step a b (λ d. EachImage d P) goes follows

-- what each image had and has since, each image has now
pub now_since : (a b : Option (List DiskMoment)) (P : List ℕ → Type 0) → Now a (λ d. EachImage d P) → Since a b P → Now b (λ d. EachImage d P)
now_since a b P was since = moments.now_since (settled []) a b (λ d. EachImage d P) was since

-- what follows of the moment now
pub now_weaker : (a : Option (List DiskMoment)) (P Q : DiskMoment → Type 0) → ((d : DiskMoment) → P d → Q d) → Now a P → Now a Q
now_weaker a P Q weaker now = moments.now_weaker (settled []) a P Q weaker now

pub now_both : (a : Option (List DiskMoment)) (P Q : DiskMoment → Type 0) → Now a P → Now a Q → Now a (λ d. P d × Q d)
now_both a P Q one two = moments.now_two (settled []) a P Q (λ d. P d × Q d) (λ d p q. (p, q)) one two

-- the moment after a call, by what the call says of both
pub now_done : (step R : DiskMoment → DiskMoment → Type 0) (a b : Option (List DiskMoment)) (P Q : DiskMoment → Type 0)
    → Goes step a b → Then a b R → Now a P → ((d e : DiskMoment) → P d → R d e → Q e) → Now b Q
now_done step R a b P Q goes done was follows = moments.now_done (settled []) step R a b P Q goes done was follows
