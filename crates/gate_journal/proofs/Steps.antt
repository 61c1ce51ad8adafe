-- What stands, and what a stop leaves, after the steps of a call.
use Rattle.std.specs.Prelude.{◌≡◌, ◌+◌, ℕ, List, [], ◌∷◌, ◌++◌, length, Option, Some, None}
use Rattle.std.proofs.Common.{◌∙◌, sym, subst, ap, inl, inr}
use Rattle.tier_outside.specs.Disk.{DiskMoment, IsImage, Writes, Syncs, settled, written, StopsIn}
use Rattle.tier_outside.specs.DiskMoments.{last, Now, Then, Goes, grown, Leaves}
use Rattle.tier_outside.proofs.DiskImages.{settled_only}
use Rattle.tier_outside.proofs.DiskMoments.{last_push, since_start, since_same, since_call}
use Rattle.tier_outside.proofs.DiskMoments.{since_weaker, since_trans, now_done, now_both}
use Rattle.tier_outside.proofs.DiskMoments.{now_weaker}
use Rattle.gate_journal.specs.Journals.{IsClosed}
use Rattle.gate_journal.specs.Steps.Writing.{AddStops, GateStops, staged, opened}
use Rattle.gate_journal.proofs.Images.{stops_before, stops_written}

-- what the disk reads as after a write is what a stop in it might leave
content_stops : (off count : ℕ) (ds : List DiskMoment) (b : Option (List DiskMoment))
    → Goes (Writes off count) (Some ds) b → Now b (λ d. IsImage d d.content)
    → Now b (λ e. StopsIn off count (last ds) e.content)
content_stops off count ds b (inl same) image =
    let P : DiskMoment → Type 0 = λ e. StopsIn off count (last ds) e.content in
    let here : IsImage (last ds) (last ds).content =
    subst (λ ms. Now ms (λ d. IsImage d d.content)) same image in
    subst (λ ms. Now ms P) (sym same) (stops_before off count (last ds) (last ds).content here)
content_stops off count ds b (inr went) image =
    let P : DiskMoment → Type 0 = λ e. StopsIn off count (last ds) e.content in
    let e = went.0 in
    let there : IsImage (last (ds ++ e ∷ [])) (last (ds ++ e ∷ [])).content =
    subst (λ ms. Now ms (λ d. IsImage d d.content)) went.1 image in
    let here : IsImage e e.content = subst (λ d. IsImage d d.content) (last_push ds e) there in
    subst (λ ms. Now ms P) (sym went.1)
    (subst P (sym (last_push ds e)) (stops_written off count (last ds) e e.content went.2 here))

-- nothing happened yet
pub leaves_start : (a : Option (List DiskMoment)) (Q : DiskMoment → List ℕ → Type 0) → Leaves a a Q
leaves_start a Q = since_start a (λ image. Now a (λ d. Q d image))

pub leaves_same : (a b : Option (List DiskMoment)) (Q : DiskMoment → List ℕ → Type 0) → b ≡ a
    → Leaves a b Q
leaves_same a b Q same = since_same a a b (λ image. Now a (λ d. Q d image)) (leaves_start a Q) same

-- what is left is less
pub leaves_weaker : (a b : Option (List DiskMoment)) (Q R : DiskMoment → List ℕ → Type 0)
    → ((d : DiskMoment) (image : List ℕ) → Q d image → R d image) → Leaves a b Q → Leaves a b R
leaves_weaker a b Q R weaker left =
    since_weaker a b (λ image. Now a (λ d. Q d image)) (λ image. Now a (λ d. R d image))
    (λ image. now_weaker a (λ d. Q d image) (λ d. R d image) (λ d. weaker d image)) left

-- Two calls after one another; S says what stands between them.
pub leaves_both : (a b c : Option (List DiskMoment)) (Q R : DiskMoment → List ℕ → Type 0)
    (S : DiskMoment → DiskMoment → Type 0) → Leaves a b Q → Then a b S → Leaves b c R
    → ((d e : DiskMoment) (image : List ℕ) → S d e → R e image → Q d image) → Leaves a c Q
leaves_both None b c Q R S first done second joined =
    since_trans None b c (λ image. Unit {0}) first
    (since_weaker b c (λ image. Now b (λ e. R e image)) (λ image. Unit {0})
    (λ image left. tt) second)
leaves_both (Some ds) None c Q R S first done second joined = absurd (impossible first.grew)
  where
    impossible : None ≡ grown (Some ds) first.more → ⊥
    impossible same = cc
leaves_both (Some ds) (Some es) c Q R S first done second joined =
    since_trans (Some ds) (Some es) c (Q (last ds)) first
    (since_weaker (Some es) c (R (last es)) (Q (last ds))
    (λ image left. joined (last ds) (last es) image done left) second)

-- a write
pub write_leaves : (off count : ℕ) (a b : Option (List DiskMoment)) → Goes (Writes off count) a b
    → Leaves a b (StopsIn off count)
write_leaves off count None b write =
    since_call (Writes off count) None b (λ image. Unit {0}) write tt
write_leaves off count (Some ds) b write =
    since_call (Writes off count) (Some ds) b (StopsIn off count (last ds)) write
    (λ e wrote image is. stops_written off count (last ds) e image wrote is)

-- a sync leaves what the disk reads as
sync_leaves : (b c : Option (List DiskMoment)) → Goes Syncs b c
    → Leaves b c (λ e image. image ≡ e.content)
sync_leaves None c sync = since_call Syncs None c (λ image. Unit {0}) sync tt
sync_leaves (Some es) c sync =
    since_call Syncs (Some es) c (λ image. image ≡ (last es).content) sync
    (λ f synced image is. settled_only (last es).content image
    (subst (λ x. IsImage x image) synced is))

read_stops : (off count : ℕ) (a b : Option (List DiskMoment)) → Goes (Writes off count) a b
    → Now b (λ d. IsImage d d.content) → Then a b (λ d e. StopsIn off count d e.content)
read_stops off count None b write image = tt
read_stops off count (Some ds) b write image = content_stops off count ds b write image

-- a write and then a sync
pub put_leaves : (off count : ℕ) (a b c : Option (List DiskMoment)) → Goes (Writes off count) a b
    → Now b (λ d. IsImage d d.content) → Goes Syncs b c → Leaves a c (StopsIn off count)
put_leaves off count a b c write image sync =
    leaves_both a b c (StopsIn off count) (λ e image. image ≡ e.content)
    (λ d e. StopsIn off count d e.content) (write_leaves off count a b write)
    (read_stops off count a b write image)
    (sync_leaves b c sync) (λ d e image stops is. subst (StopsIn off count d) (sym is) stops)

pub put_done : (off : ℕ) (bytes : List ℕ) (a b c : Option (List DiskMoment))
    → Goes (Writes off (length bytes)) a b
    → Then a b (λ d e. e.content ≡ written off bytes d.content)
    → Now b (λ d. IsImage d d.content) → Goes Syncs b c → Then b c Syncs
    → Then a c (λ d e. (e ≡ settled (written off bytes d.content))
    × StopsIn off (length bytes) d (written off bytes d.content))
put_done off bytes None b c write wrote image sync synced = tt
put_done off bytes (Some ds) b c write wrote image sync synced =
    let d = last ds in
    let P : DiskMoment → Type 0 = λ e. e.content ≡ written off bytes d.content in
    let Q : DiskMoment → Type 0 = λ e. StopsIn off (length bytes) d e.content in
    now_done Syncs Syncs b c (λ e. P e × Q e)
    (λ e. (e ≡ settled (written off bytes d.content))
    × StopsIn off (length bytes) d (written off bytes d.content)) sync synced
    (now_both b P Q wrote (content_stops off (length bytes) ds b write image))
    (λ e f was is. (is ∙ ap settled was.0, subst (StopsIn off (length bytes) d) was.0 was.1))

-- what a put leaves behind
abbrev pub Put : ℕ → List ℕ → DiskMoment → DiskMoment → Type 0
Put off bytes d e =
    (e ≡ settled (written off bytes d.content))
    × StopsIn off (length bytes) d (written off bytes d.content)

-- the body behind the gate was put, or not
pub add_first : (gate : ℕ) (body : List ℕ) (a b : Option (List DiskMoment))
    → Leaves a b (StopsIn (gate + 1) (length body)) → Leaves a b (AddStops gate body)
add_first gate body a b first =
    leaves_weaker a b (StopsIn (gate + 1) (length body)) (AddStops gate body)
    (λ d image stops. inl stops) first

-- and then the gate
pub add_both : (gate : ℕ) (body : List ℕ) (a b c : Option (List DiskMoment))
    → Leaves a b (StopsIn (gate + 1) (length body)) → Then a b (Put (gate + 1) body)
    → Leaves b c (StopsIn gate 1) → Leaves a c (AddStops gate body)
add_both gate body a b c first done second =
    leaves_both a b c (AddStops gate body) (StopsIn gate 1) (Put (gate + 1) body)
    (add_first gate body a b first) done second
    (λ d e image put stops. inr (put.1, subst (λ x. StopsIn gate 1 x image) put.0 stops))

pub add_done : (gate : ℕ) (body : List ℕ) (a b c : Option (List DiskMoment))
    → Then a b (Put (gate + 1) body) → Leaves a b (StopsIn (gate + 1) (length body))
    → Then b c (Put gate (1 ∷ []))
    → Then a c (λ d e. (e ≡ settled (opened gate body d.content))
    × StopsIn (gate + 1) (length body) d (staged gate body d.content))
add_done gate body None b c done first second = tt
add_done gate body (Some ds) None c done first second = absurd (impossible first.grew)
  where
    impossible : None ≡ grown (Some ds) first.more → ⊥
    impossible same = cc
add_done gate body (Some ds) (Some es) None done first second = tt
add_done gate body (Some ds) (Some es) (Some fs) done first second =
    (second.0 ∙ ap (λ e. settled (written gate (1 ∷ []) e.content)) done.0, done.1)

-- a gate that was not closed was written, or nothing was done
pub close_leaves : (at : ℕ) (a b : Option (List DiskMoment)) → Leaves a b (StopsIn at 1)
    → Now a (λ d. ¬ IsClosed d.content at) → Now a (λ d. IsImage d d.content)
    → Leaves a b (GateStops at)
close_leaves at None b left opening image = left
close_leaves at (Some ds) b left opening image =
    since_weaker (Some ds) b (StopsIn at 1 (last ds)) (GateStops at (last ds))
    (λ x stops. record { stops = stops; opening = opening; read = image }) left

-- what holds of both moments
pub then_weaker : (a b : Option (List DiskMoment)) (P Q : DiskMoment → DiskMoment → Type 0)
    → ((d e : DiskMoment) → P d e → Q d e) → Then a b P → Then a b Q
then_weaker None b P Q weaker done = tt
then_weaker (Some ds) None P Q weaker done = tt
then_weaker (Some ds) (Some es) P Q weaker done = weaker (last ds) (last es) done
