-- The lists that are made of maps by call and by name.
use Rattle.std.proofs.Common.{◌≡◌, ℕ, List, map, Result, Ok, Err, OnOk, OnErr, refl, sym, bytes_eq, ◌==◌, nat_cmp}
use Rattle.std.specs.BTreeMap.{insert_entry, is_at}
use Rattle.std.specs.Cmp.{nat_cmp_total}
use Rattle.std.specs.Cmp.Lexicographic.{nat_list_cmp_total}
use Rattle.std.specs.FinMap.{nat_cmp-IsAntisymmetric, slice_cmp-IsAntisymmetric}
use Rattle.std.specs.List.{AllByRecursion}
use Rattle.std.specs.List.Sorted.{IsStrictlySortedBy}
use Rattle.std.specs.Map.{keys_of, lookup, remove_entry, values_of}
use Rattle.std.proofs.lemmas.Map.Text.{is_eq-slice_cmp}
use Rattle.obj_model.specs.Names.{name_cmp}
use Rattle.tier_view.specs.Changes.{unawaited, unnoted}
use Rattle.tier_view.specs.declared.parts.Awaited.{Awaited}
use Rattle.tier_view.specs.declared.parts.Begun.{Begun}
use Rattle.tier_view.specs.declared.parts.Noted.{Noted}
use Rattle.tier_traffic.specs.Waits.{awaited_of, awaiting, beginning, begun_of, noted_of, noting, without_begun}
use Rattle.tier_traffic.specs.declared.begun.BegunAt.{BegunAt}
use Rattle.tier_traffic.proofs.Entries.{all_keyed, found, found_whole, keyed_put, keyed_taken, nat_test, put_in, taken_out, tied_numbers}

-- ---- what calls await

abbrev pub awaited_in : ℕ × ℕ → Awaited
awaited_in e = record { call = e.0; message = e.1 }

pub awaited_found : (call : ℕ) (es : List (ℕ × ℕ)) → lookup (is_at (nat_cmp call)) es ≡ awaited_of (map awaited_in es) call
awaited_found call es =
    sym (found awaited_in (λ a. a.call) (λ k. k == call) (is_at (nat_cmp call)) (nat_test call) (λ a. a.message) (λ e. refl) es (all_keyed awaited_in (λ a. a.call) (λ e. refl) es))

pub awaited_taken : (call : ℕ) (es : List (ℕ × ℕ)) → IsStrictlySortedBy nat_cmp (keys_of es) → map awaited_in (remove_entry (is_at (nat_cmp call)) es) ≡ unawaited call (map awaited_in es)
awaited_taken call es sorted =
    taken_out awaited_in (λ a. a.call) nat_cmp_total call (λ k. k == call) (nat_test call) es sorted (all_keyed awaited_in (λ a. a.call) (λ e. refl) es)

pub awaited_put : (call message : ℕ) (es : List (ℕ × ℕ)) → map awaited_in (insert_entry nat_cmp es call message) ≡ awaiting call message (map awaited_in es)
awaited_put call message es =
    put_in awaited_in (λ a. a.call) nat_cmp tied_numbers call message refl es (all_keyed awaited_in (λ a. a.call) (λ e. refl) es)

-- ---- how far drains have come

abbrev pub AreOfCalls : List (ℕ × Noted) → Type 0
AreOfCalls es = AllByRecursion (λ e. e.1.call ≡ e.0) es

pub noted_found : (call : ℕ) (es : List (ℕ × Noted)) → AreOfCalls es → lookup (is_at (nat_cmp call)) es ≡ noted_of (values_of es) call
noted_found call es h = sym (found_whole (λ n. n.call) (λ k. k == call) (is_at (nat_cmp call)) (nat_test call) es h)

pub noted_taken : (call : ℕ) (es : List (ℕ × Noted)) → IsStrictlySortedBy nat_cmp (keys_of es) → AreOfCalls es → values_of (remove_entry (is_at (nat_cmp call)) es) ≡ unnoted call (values_of es)
noted_taken call es sorted h = taken_out (λ (e : ℕ × Noted). e.1) (λ n. n.call) nat_cmp_total call (λ k. k == call) (nat_test call) es sorted h

pub noted_put : (n : Noted) (es : List (ℕ × Noted)) → AreOfCalls es → values_of (insert_entry nat_cmp es n.call n) ≡ noting n (values_of es)
noted_put n es h = put_in (λ (e : ℕ × Noted). e.1) (λ m. m.call) nat_cmp tied_numbers n.call n refl es h

pub of_calls_taken : (call : ℕ) (es : List (ℕ × Noted)) → AreOfCalls es → AreOfCalls (remove_entry (is_at (nat_cmp call)) es)
of_calls_taken call es h = keyed_taken (λ (e : ℕ × Noted). e.1) (λ m. m.call) (is_at (nat_cmp call)) es h

pub of_calls_put : (n : Noted) (es : List (ℕ × Noted)) → AreOfCalls es → AreOfCalls (insert_entry nat_cmp es n.call n)
of_calls_put n es h = keyed_put (λ (e : ℕ × Noted). e.1) (λ m. m.call) nat_cmp tied_numbers n.call n refl es h

-- ---- flushes that were begun alone

abbrev pub begun_in : List ℕ × BegunAt → Begun
begun_in e = record { name = e.0; epoch = e.1.epoch; message = e.1.message }

pub begun_found : (name : List ℕ) (es : List (List ℕ × BegunAt)) → lookup (is_at (name_cmp name)) es ≡ begun_of (map begun_in es) name
begun_found name es =
    sym (found begun_in (λ b. b.name) (bytes_eq name) (is_at (name_cmp name)) (is_eq-slice_cmp name) (λ b. record { epoch = b.epoch; message = b.message }) (λ e. refl) es (all_keyed begun_in (λ b. b.name) (λ e. refl) es))

pub begun_taken : (name : List ℕ) (es : List (List ℕ × BegunAt)) → IsStrictlySortedBy name_cmp (keys_of es) → map begun_in (remove_entry (is_at (name_cmp name)) es) ≡ without_begun name (map begun_in es)
begun_taken name es sorted =
    taken_out begun_in (λ b. b.name) nat_list_cmp_total name (bytes_eq name) (is_eq-slice_cmp name) es sorted (all_keyed begun_in (λ b. b.name) (λ e. refl) es)

pub begun_put : (b : Begun) (es : List (List ℕ × BegunAt)) → map begun_in (insert_entry name_cmp es b.name (record { epoch = b.epoch; message = b.message })) ≡ beginning b (map begun_in es)
begun_put b es =
    put_in begun_in (λ c. c.name) name_cmp (slice_cmp-IsAntisymmetric nat_cmp-IsAntisymmetric) b.name (record { epoch = b.epoch; message = b.message }) refl es (all_keyed begun_in (λ c. c.name) (λ e. refl) es)

-- ---- outcomes

pub on_ok : {X Y P Q : Type 0} (r : Result X Y) → (P → Q) → OnOk r P → OnOk r Q
on_ok (Ok x) f p = f p
on_ok (Err e) f p = tt

pub either_outcome : {X Y P Q R : Type 0} (r : Result X Y) → (P → R) → (Q → R) → OnOk r P → OnErr r Q → R
either_outcome (Ok x) f g p q = f p
either_outcome (Err e) f g p q = g q
