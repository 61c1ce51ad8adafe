-- What a commit leaves of the store, from what the adding of its record leaves of its disk.
use Rattle.std.specs.Prelude.{◌≡◌, ◌⊎◌, ◌≤◌, ◌<◌, ◌+◌, ◌*◌, ◌^◌, ℕ, Bool, true, false, List, [], ◌∷◌, ◌++◌, length, Option, Some, None, Ok, Err, refl}
use Rattle.std.specs.List.{AllByRecursion, flat_map}
use Rattle.std.proofs.Common.{◌∙◌, sym, subst, ap, arith, inl, inr}
use Rattle.std.proofs.lemmas.List.{append_assoc, length-append}
use Rattle.std.proofs.lemmas.List.Elements.{recursion_from_All}
use Rattle.byteorder.specs.Endian.{big_bytes}
use Rattle.byteorder.specs.Numbers.{length-bytes_high_first}
use Rattle.obj_model.specs.Changes.{IsChange}
use Rattle.obj_model.specs.declared.change.Change.{Change}
use Rattle.obj_model.specs.declared.change.Change.TheVariants.{Put, Remove}
use Rattle.obj_model.specs.declared.change.Pool.{Pool}
use Rattle.tier_outside.specs.Causes.{Rose}
use Rattle.tier_outside.specs.Disk.{DiskMoment, EachImage}
use Rattle.tier_outside.specs.DiskMoments.{last, Now, Then, Leaves}
use Rattle.tier_outside.specs.Moments as moments
use Rattle.tier_outside.specs.Moments.{told}
use Rattle.tier_outside.proofs.Moments.{last_push}
use Rattle.tier_outside.proofs.DiskMoments.{now_since, now_weaker, since_weaker}
use Rattle.gate_journal.specs.declared.journal.Journal.{Journal}
use Rattle.gate_journal.specs.Calls.{AddEnds}
use Rattle.gate_journal.specs.Stands.{Standing, StandsAs, HoldsWithOrWithout, longer}
use Rattle.pool_map.specs.Pools.{PoolView, at_rest}
use Rattle.store_face.specs.declared.fault.StoreFault.{StoreFault}
use Rattle.store_face.specs.declared.fault.StoreFault.TheVariants as fault
use Rattle.store_face.specs.Calls.{Between, Both, Committed}
use Rattle.store_face.specs.Rooms.{Lack, LogRoom, record_size}
use Rattle.store_face.specs.Tables.{Table, changed_by}
use Rattle.store_face.specs.Views.{CrashMaps, Durable, IsBehind, IsOne, Sound, StoreView, alone, no_map}
use Rattle.store_face.specs.Views as store
use Rattle.rec_codec.specs.Spelling.{SpellsTxn, change, store_key, string, txn_bytes}
use Rattle.log_image.specs.Images.{HoldsLog, head}
use Rattle.log_image.specs.Standing.{IsLogJournal, LogStands}
use Rattle.log_image.proofs.Lawful.{payload_size, stands_lawful}
use Rattle.log_image.proofs.Stands.{append_stands, longer_holds, longer_journal, stands_holds}
use Rattle.log_store.specs.Commits.{WithOrWithout, with_changes}
use Rattle.log_store.specs.Inner as inner
use Rattle.log_store.specs.Inner.{IsWhole, held}
use Rattle.log_store.specs.Views.{EachHolds, HoldsEither, LogView, store_of}

-- ---- how long the spelling of a transaction is

change_short : (c : Change) → IsChange c → length (change c) ≤ 16777479
change_short (Put key value) is =
    let key_long = is.0.1 in
    let value_long = is.1 in
    omega (
      arith,
      length-append (store_key key) (string value),
      length-append (big_bytes 2 (length key)) key,
      length-append (big_bytes 4 (length value)) value,
      length-bytes_high_first 2 (length key),
      length-bytes_high_first 4 (length value),
    )
change_short (Remove key) is =
    let key_long = is.1 in
    omega (arith, length-append (big_bytes 2 (length key)) key, length-bytes_high_first 2 (length key))

changes_short : (cs : List Change) → AllByRecursion IsChange cs → length (flat_map change cs) ≤ length cs * 16777479
changes_short [] each = omega arith
changes_short (c ∷ cs) each =
    let here = change_short c each.0 in
    let rest = changes_short cs each.1 in
    omega (arith, length-append (change c) (flat_map change cs))

pub txn_short : (payload : List ℕ) (cs : List Change) → SpellsTxn payload cs → length payload < 2 ^ 32
txn_short payload cs is =
    let each = changes_short cs (recursion_from_All IsChange cs is.lawful.each) in
    let few = is.lawful.few in
    let all : length payload ≡ length (txn_bytes cs) = ap length is.spelled in
    omega (arith, length-append (big_bytes 1 (length cs)) (flat_map change cs), length-bytes_high_first 1 (length cs))

-- ---- what stands

pub standing : (role : Pool) (pair : ℕ) (journal : Journal) (t : Table) (a : Option (List DiskMoment)) → Now a (LogStands role pair journal t) → Now a (Standing journal)
standing role pair journal t a stands = now_weaker a (LogStands role pair journal t) (Standing journal) (λ d is. (head role pair ∷ is.payloads, is.stands)) stands

pub stands_after : (role : Pool) (pair : ℕ) (journal next : Journal) (t : Table) (payload : List ℕ) (cs : List Change) (a b : Option (List DiskMoment)) (Q : DiskMoment → List ℕ → Type 0)
    → Now a (LogStands role pair journal t) → SpellsTxn payload cs → next ≡ longer journal payload → Leaves a b Q
    → Then a b (λ d e. (payloads : List (List ℕ)) → StandsAs journal payloads d → StandsAs next (payloads ++ payload ∷ []) e) → Now b (LogStands role pair next (changed_by t cs))
stands_after role pair journal next t payload cs None b Q was spells moved left done = subst (λ ms. Now ms (LogStands role pair next (changed_by t cs))) (sym left.grew) tt
stands_after role pair journal next t payload cs (Some ds) b Q was spells moved left done = append_stands role pair journal next t payload cs (Some ds) b was spells moved done

-- where a log stands, each image holds what it holds
pub stands_alone : (role : Pool) (pair : ℕ) (journal : Journal) (t : Table) (a : Option (List DiskMoment)) (s : CrashMaps) → s ≡ alone (held journal t) → IsLogJournal journal
    → Now a (LogStands role pair journal t) → EachHolds role pair a s
stands_alone role pair journal t None s one is stands = tt
stands_alone role pair journal t (Some ds) s one is stands =
    subst (λ x. EachImage (last ds) (HoldsEither role pair x)) (sym one) (λ image reads. inl (stands_holds role pair journal t (last ds) image stands is reads))

-- what a stop leaves while a record is added
abbrev pub Adds : Journal → List ℕ → DiskMoment → List ℕ → Type 0
Adds journal payload d image = (payloads : List (List ℕ)) → StandsAs journal payloads d → HoldsWithOrWithout journal payloads payload image

-- an image holds the log of before, or the one with the changes
pub either_log : (role : Pool) (pair : ℕ) (journal : Journal) (t : Table) (payload : List ℕ) (cs : List Change) (d : DiskMoment) (image : List ℕ) → LogStands role pair journal t d
    → IsLogJournal journal → SpellsTxn payload cs → Adds journal payload d image → WithOrWithout role pair cs (held journal t) image
either_log role pair journal t payload cs d image stands is spells stops =
    let place : journal.next + 6 + length payload ≡ journal.next + 1 + record_size cs = omega (arith, payload_size payload cs spells) in
    subst (λ n. HoldsLog role pair image (held journal t) ⊎ HoldsLog role pair image (record { table = changed_by t cs; used = n })) place
    (longer_holds role pair journal t d payload cs image stands is spells (stops (head role pair ∷ stands.payloads) stands.stands))

-- what a crash may leave of a change: what was held before, or that with the changes
abbrev pub torn : List Change → Durable → CrashMaps
torn cs d = record { before = d; after = with_changes cs d }

-- after the disk failed each image holds the one or the other
pub failed_holds : (role : Pool) (pair : ℕ) (journal : Journal) (t : Table) (payload : List ℕ) (cs : List Change) (a b : Option (List DiskMoment)) (s : CrashMaps)
    → s ≡ torn cs (held journal t) → Now a (LogStands role pair journal t) → IsLogJournal journal → SpellsTxn payload cs → Leaves a b (Adds journal payload)
    → EachHolds role pair b s
failed_holds role pair journal t payload cs None b s two stands is spells left = subst (λ ms. EachHolds role pair ms s) (sym left.grew) tt
failed_holds role pair journal t payload cs (Some ds) b s two stands is spells left =
    let P : List ℕ → Type 0 = HoldsEither role pair (torn cs (held journal t)) in
    subst (λ x. EachHolds role pair b x) (sym two)
    (now_since (Some ds) b P (λ image reads. inl (stands_holds role pair journal t (last ds) image stands is reads))
    (since_weaker (Some ds) b (Adds journal payload (last ds)) P (λ image stops. either_log role pair journal t payload cs (last ds) image stands is spells stops) left))

-- ---- the clauses

-- a store over a log, by its parts
abbrev pub view : Option (List DiskMoment) → ℕ → Bool → Pool → ℕ → ℕ → ℕ → List CrashMaps → LogView
view disk faults live role pair room used past =
    record { disk = disk; faults = faults; live = live; role = role; pair = pair; room = room; used = used; moments = told disk past }

any_moment_told : (a b : Option (List DiskMoment)) (role : Pool) (pair : ℕ) (journal : Journal) (past : List CrashMaps) (t : Table) (payload : List ℕ) (cs : List Change)
    → inner.last past ≡ alone (held journal t) → Now a (LogStands role pair journal t) → IsLogJournal journal → SpellsTxn payload cs → Leaves a b (Adds journal payload)
    → Leaves a b (λ d image. moments.Now no_map (told a past) (λ s. WithOrWithout role pair cs s.before image))
any_moment_told None b role pair journal past t payload cs one stands is spells left = left
any_moment_told (Some ds) b role pair journal past t payload cs one stands is spells left =
    since_weaker (Some ds) b (Adds journal payload (last ds)) (WithOrWithout role pair cs (inner.last past).before)
    (λ image stops. subst (λ x. WithOrWithout role pair cs x.before image) (sym one) (either_log role pair journal t payload cs (last ds) image stands is spells stops)) left

-- what a crash leaves at any moment of the call
pub any_moment : (v : LogView) (a b : Option (List DiskMoment)) (faults : ℕ) (live : Bool) (role : Pool) (pair room : ℕ) (journal : Journal) (past : List CrashMaps) (t : Table) (payload : List ℕ) (cs : List Change)
    → view a faults live role pair room (journal.next + 1) past ≡ v → inner.last past ≡ alone (held journal t) → Now a (LogStands role pair journal t) → IsLogJournal journal → SpellsTxn payload cs
    → Leaves a b (Adds journal payload) → Leaves v.disk b (λ d image. store.Now (store_of v) (λ s. WithOrWithout v.role v.pair cs s.before image))
any_moment v a b faults live role pair room journal past t payload cs view_is one stands is spells left =
    subst (λ (w : LogView). Leaves w.disk b (λ d image. store.Now (store_of w) (λ s. WithOrWithout w.role w.pair cs s.before image))) view_is
    (any_moment_told a b role pair journal past t payload cs one stands is spells left)

-- the moments go on as the disk does
pub told_grown : (a b : Option (List DiskMoment)) (Q : DiskMoment → List ℕ → Type 0) (past past2 more : List CrashMaps) → Leaves a b Q → past2 ≡ past ++ more
    → told b past2 ≡ moments.grown (told a past) more
told_grown None b Q past past2 more left pushed = ap (λ ms. told ms past2) left.grew
told_grown (Some ds) b Q past past2 more left pushed = ap (λ ms. told ms past2) left.grew ∙ ap Some pushed

-- a store over a log as every store is seen, by its parts
abbrev pub face : Option (List CrashMaps) → Bool → (faults room used : ℕ) → StoreView
face ms live faults room used = record { moments = ms; live = live; faults = faults; room = LogRoom room; used = used }

-- each of the two is what was held before, or that with the changes
abbrev pub IsTorn : ℕ → List Change → CrashMaps → CrashMaps → Type 0
IsTorn room cs was = Both (λ d. (d ≡ was.before) ⊎ IsBehind (LogRoom room) cs was.before d)

is_behind : (room : ℕ) (cs : List Change) (d : Durable) → IsBehind (LogRoom room) cs d (with_changes cs d)
is_behind room cs d = record { table = refl; used = refl }

pub between_one : (a b : Option (List DiskMoment)) (Q : DiskMoment → List ℕ → Type 0) (past past2 : List CrashMaps) (d : Durable) (cs : List Change) (live live2 : Bool) (f f2 r r2 u u2 : ℕ) → Leaves a b Q
    → inner.last past ≡ alone d → past2 ≡ past ++ torn cs d ∷ [] → Between cs (face (told a past) live f r u) (face (told b past2) live2 f2 r2 u2)
between_one a b Q past past2 d cs live live2 f f2 r r2 u u2 left one pushed =
    record { more = torn cs d ∷ []; grew = told_grown a b Q past past2 (torn cs d ∷ []) left pushed; each = each a }
  where
    each : (a : Option (List DiskMoment)) → moments.Now no_map (told a past) (λ was. moments.Each (torn cs d ∷ []) (IsTorn r cs was))
    each None = tt
    each (Some ds) =
        subst (λ was. moments.Each (torn cs d ∷ []) (IsTorn r cs was)) (sym one) (record { before = inl refl; after = inr (is_behind r cs d) }, tt)

-- the moments of a commit
abbrev both : List Change → Durable → List CrashMaps
both cs d = torn cs d ∷ alone (with_changes cs d) ∷ []

pub between_two : (a b : Option (List DiskMoment)) (Q : DiskMoment → List ℕ → Type 0) (past past2 past3 : List CrashMaps) (d : Durable) (cs : List Change) (live live2 : Bool) (f f2 r r2 u u2 : ℕ) → Leaves a b Q
    → inner.last past ≡ alone d → past2 ≡ past ++ torn cs d ∷ [] → past3 ≡ past2 ++ alone (with_changes cs d) ∷ []
    → Between cs (face (told a past) live f r u) (face (told b past3) live2 f2 r2 u2)
between_two a b Q past past2 past3 d cs live live2 f f2 r r2 u u2 left one pushed again =
    record { more = both cs d; grew = told_grown a b Q past past3 (both cs d) left all; each = each a }
  where
    all : past3 ≡ past ++ both cs d
    all = again ∙ ap (λ x. x ++ alone (with_changes cs d) ∷ []) pushed ∙ append_assoc past (torn cs d ∷ []) (alone (with_changes cs d) ∷ [])

    each : (a : Option (List DiskMoment)) → moments.Now no_map (told a past) (λ was. moments.Each (both cs d) (IsTorn r cs was))
    each None = tt
    each (Some ds) =
        let made = is_behind r cs d in
        subst (λ was. moments.Each (both cs d) (IsTorn r cs was)) (sym one)
        (record { before = inl refl; after = inr made }, (record { before = inr made; after = inr made }, tt))

-- what a commit made
pub made_now : (a b : Option (List DiskMoment)) (past past3 : List CrashMaps) (d : Durable) (cs : List Change) (r : ℕ) → inner.last past ≡ alone d → inner.last past3 ≡ alone (with_changes cs d)
    → moments.Now no_map (told a past) (λ was. moments.Now no_map (told b past3) (Both (IsBehind (LogRoom r) cs was.before)))
made_now None b past past3 d cs r one now = tt
made_now (Some ds) None past past3 d cs r one now = tt
made_now (Some ds) (Some es) past past3 d cs r one now =
    let made = is_behind r cs d in
    subst (λ was. Both (IsBehind (LogRoom r) cs was.before) (inner.last past3)) (sym one)
    (subst (Both (IsBehind (LogRoom r) cs d)) (sym now) (record { before = made; after = made }))

pub committed : (old : StoreView) (a b : Option (List DiskMoment)) (Q : DiskMoment → List ℕ → Type 0) (past past2 past3 : List CrashMaps) (d : Durable) (cs : List Change) (live live2 : Bool) (f f2 r r2 u u2 : ℕ)
    → face (told a past) live f r u ≡ old → Leaves a b Q → inner.last past ≡ alone d → past2 ≡ past ++ torn cs d ∷ [] → past3 ≡ past2 ++ alone (with_changes cs d) ∷ []
    → live2 ≡ true → f ≤ f2 → u + record_size cs ≤ r → r2 ≡ r → u2 ≡ u + record_size cs → Committed cs old (face (told b past3) live2 f2 r2 u2) (Ok tt)
committed old a b Q past past2 past3 d cs live live2 f f2 r r2 u u2 is left one pushed again lives later fits same_room counted =
    subst (λ (v : StoreView). Committed cs v (face (told b past3) live2 f2 r2 u2) (Ok tt)) is record {
      fits = fits;
      between = between_two a b Q past past2 past3 d cs live live2 f f2 r r2 u u2 left one pushed again;
      now = made_now a b past past3 d cs r one (ap inner.last again ∙ last_push no_map past2 (alone (with_changes cs d)));
      live = lives;
      room = ap LogRoom same_room;
      used = counted;
      later = later;
    }

pub not_committed : (old : StoreView) (a b : Option (List DiskMoment)) (Q : DiskMoment → List ℕ → Type 0) (past past2 : List CrashMaps) (d : Durable) (cs : List Change) (live live2 : Bool) (f f2 r r2 u u2 : ℕ)
    → face (told a past) live f r u ≡ old → Leaves a b Q → inner.last past ≡ alone d → past2 ≡ past ++ torn cs d ∷ [] → live2 ≡ false → Rose f f2 → f ≤ f2 → u + record_size cs ≤ r
    → r2 ≡ r → u2 ≡ u → Committed cs old (face (told b past2) live2 f2 r2 u2) (Err fault.Disk)
not_committed old a b Q past past2 d cs live live2 f f2 r r2 u u2 is left one pushed dead rose later fits same_room counted =
    subst (λ (v : StoreView). Committed cs v (face (told b past2) live2 f2 r2 u2) (Err fault.Disk)) is record {
      fits = fits;
      between = between_one a b Q past past2 d cs live live2 f f2 r r2 u u2 left one pushed;
      fails = record { closes = record { live = dead; room = ap LogRoom same_room; used = counted; later = later }; rose = rose };
    }

abbrev lack : (used need limit : ℕ) → Lack
lack used need limit = record { used = used; need = need; limit = limit }

-- a record that was not made
pub refused : (T : Type 0) (v : LogView) (why : StoreFault) (a : Option (List DiskMoment)) (f : ℕ) (live : Bool) (role : Pool) (pair room used : ℕ) (past : List CrashMaps) (payload : List ℕ) (cs : List Change)
    → view a f live role pair room used past ≡ v → SpellsTxn payload cs → AddEnds {T = T} used (length payload + 5) room (Unit {0}) ⊥ (Err why) → Committed cs (store_of v) (store_of v) (Err why)
refused T v why a f live role pair room used past payload cs is spells ends =
    subst (λ (w : LogView). Committed cs (store_of w) (store_of w) (Err why)) is (cases why ends)
  where
    same_lack : (u n l : ℕ) → u ≡ used → n ≡ record_size cs → l ≡ room
        → ◌≡◌ {A = Lack} (record { used = u; need = n; limit = l }) (record { used = used; need = record_size cs; limit = room })
    same_lack u n l e f g = ap (λ x. lack x n l) e ∙ ap (λ x. lack used x l) f ∙ ap (λ x. lack used (record_size cs) x) g

    cases : (why : StoreFault) → AddEnds {T = T} used (length payload + 5) room (Unit {0}) ⊥ (Err why)
        → Committed cs (face (told a past) live f room used) (face (told a past) live f room used) (Err why)
    cases fault.Disk ends = absurd ends.1
    cases (fault.BadImage at) ends = absurd ends
    cases (fault.NoSpace u n l) ends = (
      (omega (arith, payload_size payload cs spells, ends.0), same_lack u n l ends.1 (omega (arith, payload_size payload cs spells, ends.2)) ends.3),
      record { moments = refl; live = refl; room = refl; used = refl; later = omega arith },
    )
    cases (fault.Worn limit) ends = absurd ends
    cases fault.NoMemory ends = record { moments = refl; live = refl; room = refl; used = refl; later = omega arith }

-- ---- what the store is then

-- what is held in a live store is one map within the limits
pub sound : (role : Pool) (pair : ℕ) (journal : Journal) (map : PoolView) (live : Bool) (a : Option (List DiskMoment)) (past : List CrashMaps) (f r : ℕ) → IsWhole role pair journal map live a past
    → Sound (face (told a past) live f r (journal.next + 1))
sound role pair journal map live None past f r whole lives = tt
sound role pair journal map live (Some ds) past f r whole lives =
    subst (IsOne (journal.next + 1)) (sym (whole.one lives)) record {
      same = refl;
      counted = refl;
      lawful = stands_lawful role pair journal map.table (last ds) (whole.stands lives) whole.journal_is;
    }

-- the same of a store that is seen whole
pub sound_as : (v : LogView) (role : Pool) (pair : ℕ) (journal : Journal) (map : PoolView) (live : Bool) (a : Option (List DiskMoment)) (past : List CrashMaps) (f : ℕ)
    → view a f live role pair journal.end (journal.next + 1) past ≡ v → IsWhole role pair journal map live a past → Sound (store_of v)
sound_as v role pair journal map live a past f is whole =
    subst (λ (w : LogView). Sound (store_of w)) is (sound role pair journal map live a past f journal.end whole)

-- the same where room for moments was taken
pub sound_still : (role : Pool) (pair : ℕ) (journal : Journal) (map : PoolView) (live : Bool) (a : Option (List DiskMoment)) (past past2 : List CrashMaps) (f r : ℕ) → past2 ≡ past
    → IsWhole role pair journal map live a past → Sound (face (told a past2) live f r (journal.next + 1))
sound_still role pair journal map live a past past2 f r same whole =
    subst (λ (ss : List CrashMaps). Sound (face (told a ss) live f r (journal.next + 1))) (sym same) (sound role pair journal map live a past f r whole)

-- the moment that the code adds for changes
abbrev pub pushed : Table → List Change → (used behind : ℕ) → CrashMaps
pushed t cs used behind = record { before = record { table = t; used = used }; after = record { table = changed_by t cs; used = behind } }

pub pushed_is : (old old2 new : List CrashMaps) (t t2 : Table) (cs cs2 : List Change) (used behind : ℕ) → old2 ≡ old → t2 ≡ t → cs2 ≡ cs → behind ≡ used + record_size cs
    → new ≡ old2 ++ (record { before = record { table = t2; used = used }; after = record { table = changed_by t2 cs2; used = behind } }) ∷ []
    → new ≡ old ++ torn cs (record { table = t; used = used }) ∷ []
pushed_is old old2 new t t2 cs cs2 used behind same same_table same_changes size is =
    is ∙ ap (λ xs. xs ++ pushed t2 cs2 used behind ∷ []) same ∙ ap (λ x. old ++ pushed x cs2 used behind ∷ []) same_table
    ∙ ap (λ xs. old ++ pushed t xs used behind ∷ []) same_changes ∙ ap (λ n. old ++ pushed t cs used n ∷ []) size

pub whole_after : (role : Pool) (pair : ℕ) (journal next : Journal) (pool : PoolView) (live : Bool) (a b : Option (List DiskMoment)) (Q : DiskMoment → List ℕ → Type 0) (past : List CrashMaps) (t : Table)
    (payload : List ℕ) (cs : List Change) → IsLogJournal journal → next ≡ longer journal payload → journal.next + 1 + (length payload + 5) ≤ journal.end
    → pool ≡ at_rest (changed_by t cs) → Now a (LogStands role pair journal t) → SpellsTxn payload cs → Leaves a b Q
    → Then a b (λ d e. (payloads : List (List ℕ)) → StandsAs journal payloads d → StandsAs next (payloads ++ payload ∷ []) e) → inner.last past ≡ alone (held next (changed_by t cs))
    → IsWhole role pair next pool live b past
whole_after role pair journal next pool live a b Q past t payload cs is moved fits changes stands spells left done now =
    let there : Now b (LogStands role pair next (changed_by t cs)) = stands_after role pair journal next t payload cs a b Q stands spells moved left done in
    let next_is : IsLogJournal next = subst IsLogJournal (sym moved) (longer_journal journal payload is fits) in
    record {
      journal_is = next_is;
      rested = ap (λ (p : PoolView). p.ready) changes;
      holds = stands_alone role pair next (changed_by t cs) b (inner.last past) now next_is there;
      stands = λ lives. subst (λ (p : PoolView). Now b (LogStands role pair next p.table)) (sym changes) there;
      one = λ lives. now ∙ ap (λ (p : PoolView). alone (held next p.table)) (sym changes);
    }

pub whole_failed : (role : Pool) (pair : ℕ) (journal next : Journal) (pool : PoolView) (a b : Option (List DiskMoment)) (past : List CrashMaps) (t u : Table) (payload : List ℕ) (cs : List Change)
    → IsLogJournal journal → next ≡ journal → pool ≡ at_rest u → Now a (LogStands role pair journal t) → SpellsTxn payload cs → Leaves a b (Adds journal payload)
    → inner.last past ≡ torn cs (held journal t) → IsWhole role pair next pool false b past
whole_failed role pair journal next pool a b past t u payload cs is kept changes stands spells left now = record {
  journal_is = subst IsLogJournal (sym kept) is;
  rested = ap (λ (p : PoolView). p.ready) changes;
  holds = failed_holds role pair journal t payload cs a b (inner.last past) now stands is spells left;
  stands = λ lives. absurd (dead lives);
  one = λ lives. absurd (dead lives);
}
  where
    dead : false ≡ true → ⊥
    dead lives = cc
