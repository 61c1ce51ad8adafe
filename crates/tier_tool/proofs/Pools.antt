-- How the calls on a pool's store end, from what its clauses say of its moments.
use Rattle.std.proofs.Common.{◌≡◌, ◌⊎◌, inl, inr, ℕ, true, List, [], ◌∷◌, Ok, Err, refl, sym, ap}
use Rattle.std.proofs.Common.{ap₂, subst, ◌∙◌, arith}
use Rattle.obj_model.specs.declared.change.Change.{Change}
use Rattle.obj_model.specs.declared.change.Change.TheVariants.{Put}
use Rattle.obj_model.specs.declared.state.NameState.{NameState}
use Rattle.rec_codec.specs.Spelling.{SpellsState}
use Rattle.tier_outside.proofs.Moments.{grows_now}
use Rattle.log_store.specs.Commits.{KeepsAll}
use Rattle.log_store.specs.Views.{LogView, store_of}
use Rattle.store_face.specs.Rooms.{Lack, record_size}
use Rattle.store_face.specs.Rooms.Room.{LogRoom}
use Rattle.store_face.specs.Tables.{Table, changed_by}
use Rattle.store_face.specs.Views.{Durable, Holds, IsBehind, IsOne, Now, Sound, StoreView, no_map}
use Rattle.store_face.specs.Calls.{Between, Both, Committed}
use Rattle.store_face.specs.declared.fault.StoreFault.{StoreFault}
use Rattle.store_face.specs.declared.fault.StoreFault.TheVariants as store
pub use Rattle.tier_tool.proofs.Views.{At, now_same, now_two, now_weaker}
use Rattle.tier_tool.specs.Costs.{change_of, state_key}
use Rattle.tier_tool.specs.Steps.Pools.{PutUses, line_fault, IsWith, IsTorn, WasPut, WithOrWithout}

-- ---- a state is put

-- the changes of one put of a state
abbrev puts : List ℕ → List ℕ → List Change
puts key value = Put key value ∷ []

with_state : (name bytes : List ℕ) (s : NameState) (t u : Table) → SpellsState bytes s
    → u ≡ changed_by t (puts (state_key name) bytes) → IsWith name s t u
with_state name bytes s t u h e = record { bytes = bytes; spells = h; is = e }

with_or : (limit : ℕ) (name bytes : List ℕ) (s : NameState) (d e : Durable) → SpellsState bytes s
    → (e ≡ d) ⊎ IsBehind (LogRoom limit) (puts (state_key name) bytes) d e → WithOrWithout name s d.table d.used e
with_or limit name bytes s d e h (inl same) = inl (ap (λ (w : Durable). w.table) same, ap (λ (w : Durable). w.used) same)
with_or limit name bytes s d e h (inr behind) =
    let spelled : record_size (puts (state_key name) bytes) ≡ record_size (change_of name s) = ap (λ b. record_size (puts (state_key name) b)) h.spelled in
    inr (with_state name bytes s d.table e.table h behind.table, omega (arith, behind.used, spelled))

torn : (name bytes : List ℕ) (s : NameState) (old new : LogView) → SpellsState bytes s → Sound (store_of old) → old.live ≡ true
    → Between (puts (state_key name) bytes) (store_of old) (store_of new) → Holds (store_of old) (λ t. Now (store_of new) (IsTorn name s t old.used))
torn name bytes s old new h sound live grew =
    now_two old.moments (IsOne old.used) (λ was. At new.moments (IsTorn name s was.before.table was.before.used))
    (λ was. At new.moments (IsTorn name s was.before.table old.used))
    (λ was one there. subst (λ used. At new.moments (IsTorn name s was.before.table used)) one.counted there) (sound live)
    (grows_now no_map old.moments new.moments
    (λ was. Both (λ d. (d ≡ was.before) ⊎ IsBehind (LogRoom old.room) (puts (state_key name) bytes) was.before d))
    (λ was. IsTorn name s was.before.table was.before.used) grew
    (now_weaker old.moments (IsOne old.used) (λ was. IsTorn name s was.before.table was.before.used was)
    (λ was one. let same = sym one.same in record {
      before = inl (refl, refl);
      after = inl (ap (λ (d : Durable). d.table) same, ap (λ (d : Durable). d.used) same);
    }) (sound live))
    (λ was n both. record {
      before = with_or old.room name bytes s was.before n.before h both.before;
      after = with_or old.room name bytes s was.before n.after h both.after;
    }))

-- a put that was done
pub put_done : (name key value bytes : List ℕ) (s : NameState) (old new : StoreView) → key ≡ state_key name → value ≡ bytes → SpellsState bytes s
    → Committed (puts key value) old new (Ok tt) → WasPut name s old new (Ok tt)
put_done name key value bytes s old new e f h done =
    let changes = puts (state_key name) bytes in
    let d = subst (λ (cs : List Change). Committed cs old new (Ok tt)) (ap₂ puts e f) done in (
      now_weaker old.moments (λ was. Now new (Both (IsBehind old.room changes was.before)))
          (λ was. Now new (λ n. IsWith name s was.before.table n.before.table))
          (λ was there. now_weaker new.moments (Both (IsBehind old.room changes was.before)) (λ n. IsWith name s was.before.table n.before.table)
          (λ n both. with_state name bytes s was.before.table n.before.table h both.before.table) there)
          d.now,
      d.live,
      d.later,
    )

failed : (name bytes : List ℕ) (s : NameState) (old new : LogView) (fault : StoreFault) → SpellsState bytes s → Sound (store_of old) → old.live ≡ true
    → Committed (puts (state_key name) bytes) (store_of old) (store_of new) (Err fault) → WasPut name s (store_of old) (store_of new) (Err (line_fault fault))
failed name bytes s old new store.Disk h sound live done = (torn name bytes s old new h sound live done.between, done.fails)
failed name bytes s old new (store.BadImage at) h sound live done = absurd done
failed name bytes s old new (store.NoSpace used need limit) h sound live done =
    let numbers = done.0.1 in
    let used_is : used ≡ old.used = ap (λ (l : Lack). l.used) numbers in
    let need_is : need ≡ record_size (puts (state_key name) bytes) = ap (λ (l : Lack). l.need) numbers in
    let limit_is : limit ≡ old.room = ap (λ (l : Lack). l.limit) numbers in
    (omega (arith, done.0.0, used_is, need_is, limit_is), done.1)
failed name bytes s old new (store.Worn limit) h sound live done = absurd done.1
failed name bytes s old new store.NoMemory h sound live done = done

-- a put that failed
pub put_failed : (name key value bytes : List ℕ) (changes : List Change) (s : NameState)
    (old new : LogView) (fault : StoreFault) → changes ≡ puts key value → key ≡ state_key name
    → value ≡ bytes → SpellsState bytes s → Sound (store_of old) → old.live ≡ true
    → Committed changes (store_of old) (store_of new) (Err fault)
    → WasPut name s (store_of old) (store_of new) (Err (line_fault fault))
put_failed name key value bytes changes s old new fault is e f h sound live done =
    failed name bytes s old new fault h sound live
    (subst (λ (cs : List Change). Committed cs (store_of old) (store_of new) (Err fault))
    (is ∙ ap₂ puts e f) done)

-- ---- what a put took of the room

-- a put that was done
pub done_uses : (name key value bytes : List ℕ) (s : NameState) (old new : LogView) → key ≡ state_key name → value ≡ bytes → SpellsState bytes s
    → Committed (puts key value) (store_of old) (store_of new) (Ok tt) → PutUses name s old new (Ok tt)
done_uses name key value bytes s old new e f h done =
    let same : record_size (puts key value) ≡ record_size (change_of name s) = ap record_size (ap₂ puts e (f ∙ h.spelled)) in
    (omega (arith, done.fits, same), omega (arith, done.used, same))

-- one that failed
pub failed_uses : (name key value bytes : List ℕ) (changes : List Change) (s : NameState)
    (old new : LogView) (fault : StoreFault) → changes ≡ puts key value → key ≡ state_key name
    → value ≡ bytes → SpellsState bytes s
    → Committed changes (store_of old) (store_of new) (Err fault)
    → KeepsAll old new (Err fault) → PutUses name s old new (Err (line_fault fault))
failed_uses name key value bytes changes s old new store.Disk is e f h done kept = tt
failed_uses name key value bytes changes s old new (store.BadImage at) is e f h done kept = absurd done
failed_uses name key value bytes changes s old new (store.NoSpace used more limit) is e f h done kept =
    let same : record_size changes ≡ record_size (change_of name s) =
    ap record_size (is ∙ ap₂ puts e (f ∙ h.spelled)) in
    let numbers = done.0.1 in
    let more_is : more ≡ record_size changes = ap (λ (l : Lack). l.need) numbers in (
      ap (λ (l : Lack). l.used) numbers,
      ap (λ (l : Lack). l.limit) numbers,
      omega (arith, done.0.0, more_is),
      done.1.used,
      more_is ∙ same,
    )
failed_uses name key value bytes changes s old new (store.Worn limit) is e f h done kept = absurd done.1
failed_uses name key value bytes changes s old new store.NoMemory is e f h done kept = kept
