-- A map is made of transactions one after another.
use Rattle.std.specs.Prelude.{◌≡◌, ℕ, ◌+◌, List, [], ◌∷◌, ◌++◌, length, Ok, Err, refl}
use Rattle.std.specs.FinMap as fin
use Rattle.std.proofs.Common.{◌∙◌, sym, subst, ap, arith, inr}
use Rattle.std.proofs.lemmas.List.{append-nil, append_assoc}
use Rattle.obj_model.specs.declared.change.Change.{Change}
use Rattle.store_face.specs.Tables.{Table, changed_by}
use Rattle.store_face.specs.declared.fault.StoreFault.{StoreFault}
use Rattle.store_face.specs.declared.fault.StoreFault.TheVariants.{Disk, BadImage, NoSpace, Worn}
use Rattle.store_face.specs.declared.fault.StoreFault.TheVariants.{NoMemory}
use Rattle.rec_codec.specs.Spelling.{SpellsTxn}
use Rattle.pool_map.specs.Pools.{PoolView, at_rest}
use Rattle.gate_journal.specs.Journals.{AreRecords}
use Rattle.log_image.specs.Images.{AreTxns, made_by}
use Rattle.log_image.specs.Steps.Rebuilding.{ReplayEnds, RebuildEnds, Replayed, Rebuilt, Stumbled}
use Rattle.log_image.specs.Steps.Rebuilding.{gate_behind, told}

-- one more transaction behind others
pub txns_push : (payloads : List (List ℕ)) (txns : List (List Change)) (payload : List ℕ)
    (txn : List Change) → AreTxns payloads txns → SpellsTxn payload txn
    → AreTxns (payloads ++ payload ∷ []) (txns ++ txn ∷ [])
txns_push [] [] payload txn each is = (is, tt)
txns_push [] (t ∷ txns) payload txn each is = absurd each
txns_push (p ∷ payloads) [] payload txn each is = absurd each
txns_push (p ∷ payloads) (t ∷ txns) payload txn each is =
    (each.0, txns_push payloads txns payload txn each.1 is)

-- what it makes of the map
pub made_push : (t : Table) (txns : List (List Change)) (txn : List Change)
    → made_by t (txns ++ txn ∷ []) ≡ changed_by (made_by t txns) txn
made_push t [] txn = refl
made_push t (x ∷ txns) txn = made_push (changed_by t x) txns txn

-- where the gate behind stands
pub behind_push : (gate : ℕ) (payloads : List (List ℕ)) (payload : List ℕ)
    → gate_behind gate (payloads ++ payload ∷ []) ≡ gate_behind gate payloads + 5 + length payload
behind_push gate [] payload = refl
behind_push gate (p ∷ payloads) payload = behind_push (gate + 5 + length p) payloads payload

-- records stand up to the gate behind them
pub records_behind : (bytes : List ℕ) (gate : ℕ) (payloads : List (List ℕ)) (next : ℕ)
    → AreRecords bytes gate payloads next → gate_behind gate payloads ≡ next
records_behind bytes gate [] next are = are
records_behind bytes gate (p ∷ payloads) next are =
    records_behind bytes (gate + 5 + length p) payloads next are.1

-- the first of some records, and those behind
pub records_split : (bytes : List ℕ) (gate : ℕ) (before behind : List (List ℕ)) (next : ℕ)
    → AreRecords bytes gate (before ++ behind) next
    → AreRecords bytes gate before (gate_behind gate before)
    × AreRecords bytes (gate_behind gate before) behind next
records_split bytes gate [] behind next are = (refl, are)
records_split bytes gate (p ∷ before) behind next are =
    let split = records_split bytes (gate + 5 + length p) before behind next are.1 in
    ((are.0, split.0), split.1)

-- some payloads behind the first are replayed, and the rest is left
pub record Going (payloads rest : List (List ℕ)) (map : PoolView) (gate : ℕ) : Type 0 where
  pub first : List ℕ
  pub before : List (List ℕ)
  pub split : payloads ≡ first ∷ (before ++ rest)
  pub replayed : Replayed before map
  pub gate_is : gate ≡ told (gate_behind 0 (first ∷ before))

pub going_start : (payloads : List (List ℕ)) (first : List ℕ) (rest : List (List ℕ))
    (map : PoolView) (gate : ℕ) → payloads ≡ first ∷ rest → map ≡ at_rest fin.empty
    → gate ≡ told (0 + 5 + length first) → Going payloads rest map gate
going_start payloads first rest map gate split map_is gate_is = record {
  first = first;
  before = [];
  split = split;
  replayed = record { txns = []; each = tt; made = map_is };
  gate_is = gate_is;
}

pub going_on : (payloads rest : List (List ℕ)) (payload : List ℕ) (txn : List Change)
    (map map2 : PoolView) (gate gate2 : ℕ) → Going payloads (payload ∷ rest) map gate
    → SpellsTxn payload txn → map2 ≡ at_rest (changed_by map.table txn)
    → gate2 ≡ told (gate + 5 + length payload) → Going payloads rest map2 gate2
going_on payloads rest payload txn map map2 gate gate2 going is map_is gate_is = record {
  first = going.first;
  before = going.before ++ payload ∷ [];
  split =
      going.split ∙ ap (λ xs. going.first ∷ xs)
      (sym (append_assoc going.before (payload ∷ []) rest));
  replayed = record {
    txns = going.replayed.txns ++ txn ∷ [];
    each = txns_push going.before going.replayed.txns payload txn going.replayed.each is;
    made = map_is ∙ ap (λ (m : PoolView). at_rest (changed_by m.table txn)) going.replayed.made
        ∙ ap at_rest (sym (made_push fin.empty going.replayed.txns txn));
  };
  gate_is = gate_is ∙ ap (λ n. told (n + 5 + length payload)) going.gate_is
      ∙ same (gate_behind 0 (going.first ∷ going.before)) (length payload)
      ∙ ap told (sym (behind_push 0 (going.first ∷ going.before) payload));
}
  where
    same : (n m : ℕ) → told (told n + 5 + m) ≡ told (n + 5 + m)
    same n m = omega arith

pub going_none : (payloads rest : List (List ℕ)) (payload : List ℕ) (map : PoolView) (gate at : ℕ)
    → Going payloads (payload ∷ rest) map gate
    → ((txn : List Change) → ¬ SpellsTxn payload txn) → at ≡ told (gate + 5) → Stumbled payloads at
going_none payloads rest payload map gate at going none at_is = record {
  first = going.first;
  before = going.before;
  payload = payload;
  behind = rest;
  txns = going.replayed.txns;
  split = going.split;
  each = going.replayed.each;
  at_is =
      at_is ∙ ap (λ n. told (n + 5)) going.gate_is
      ∙ same (gate_behind 0 (going.first ∷ going.before));
  none = none;
}
  where
    same : (n : ℕ) → told (told n + 5) ≡ told (n + 5)
    same n = omega arith

pub going_end : (payloads : List (List ℕ)) (map : PoolView) (gate : ℕ) → Going payloads [] map gate
    → Rebuilt payloads map
going_end payloads map gate going = record {
  first = going.first;
  others = going.before;
  split = going.split ∙ ap (λ xs. going.first ∷ xs) (append-nil going.before);
  replayed = going.replayed;
}

-- a payload was not carried out
pub replay_refused : (payloads items rest : List (List ℕ)) (payload seen : List ℕ)
    (map map2 : PoolView) (gate at : ℕ) (fault : StoreFault) → Going payloads items map gate
    → items ≡ payload ∷ rest → seen ≡ payload → at ≡ told (gate + 5)
    → ReplayEnds seen at map map2 (Err fault) → RebuildEnds payloads (Err fault)
replay_refused payloads items rest payload seen map map2 gate at
    (BadImage place) going items_are seen_is at_is ends =
    inr (going_none payloads rest payload map gate place
    (subst (λ xs. Going payloads xs map gate) items_are going)
    (subst (λ (xs : List ℕ). (txn : List Change) → ¬ SpellsTxn xs txn) seen_is ends.1)
    (ends.0 ∙ at_is))
replay_refused payloads items rest payload seen map map2 gate at NoMemory going items_are seen_is
    at_is ends = tt
replay_refused payloads items rest payload seen map map2 gate at Disk going items_are seen_is at_is
    ends = ends
replay_refused payloads items rest payload seen map map2 gate at
    (NoSpace used need limit) going items_are seen_is at_is ends = ends
replay_refused payloads items rest payload seen map map2 gate at
    (Worn limit) going items_are seen_is at_is ends = ends

-- it was
pub replay_done : (payloads items rest : List (List ℕ)) (payload seen seen2 : List ℕ)
    (map map2 : PoolView) (gate at gate2 : ℕ) → Going payloads items map gate
    → items ≡ payload ∷ rest
    → seen ≡ payload → seen2 ≡ payload → ReplayEnds seen at map map2 (Ok tt)
    → gate2 ≡ told (gate + 5 + length seen2) → Going payloads rest map2 gate2
replay_done payloads items rest payload seen seen2 map map2 gate at gate2 going items_are seen_is
    seen2_is ends gate_is =
    going_on payloads rest payload ends.0 map map2 gate gate2
    (subst (λ xs. Going payloads xs map gate) items_are going)
    (subst (λ xs. SpellsTxn xs ends.0) seen_is ends.1) ends.2
    (gate_is ∙ ap (λ xs. told (gate + 5 + length xs)) seen2_is)

-- nothing is left
pub none_left : {A : Type 0} (xs : List A) → length xs ≡ 0 → xs ≡ []
none_left [] none = refl
none_left (x ∷ xs) none = absurd (omega (arith, none))

pub rebuild_done : (payloads items : List (List ℕ)) (map : PoolView) (gate : ℕ)
    → Going payloads items map gate → length items ≡ 0 → Rebuilt payloads map
rebuild_done payloads items map gate going none =
    going_end payloads map gate (subst (λ xs. Going payloads xs map gate)
    (none_left items none) going)
