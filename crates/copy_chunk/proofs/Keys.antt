-- Rising entries that grow at their end.
use Rattle.std.proofs.Common.{◌≡◌, ◌≤◌, ◌-◌, ◌+◌, ℕ, suc, Bool, true, false, ◌&&◌, List, [], ◌∷◌}
use Rattle.std.proofs.Common.{◌++◌, map, length, take, Option, Some, None, refl, sym, ap, subst}
use Rattle.std.proofs.Common.{◌∙◌, append_assoc, arith, length-append}
use Rattle.std.specs.Prelude.{slice_get, nat_lt, nat_le}
use Rattle.std.specs.List.Sorted.{IsStrictlySortedBy}
use Rattle.std.specs.Ordering.{is_lt, ordering_reverse, match_ordering}
use Rattle.std.specs.declared.cmp.Ordering.{Ordering}
use Rattle.std.specs.declared.cmp.Ordering.TheVariants.{Less, Equal, Greater}
use Rattle.std.specs.Cmp.Lexicographic.{nat_list_cmp_total}
use Rattle.std.specs.BTreeMap.{insert_entry}
use Rattle.std.proofs.lemmas.List.{append-nil, take-append-le, take_all}
use Rattle.obj_model.specs.Names.{name_cmp}
use Rattle.obj_model.specs.declared.out.Pair.{Pair}
use Rattle.copy_chunk.specs.Chunks.{Entry, entry_of, last_key}
use Rattle.copy_chunk.specs.Gathers.{goes_behind, pairs_fit, table_fits}
use Rattle.copy_chunk.specs.Steps.{IsRising}
use Rattle.copy_chunk.proofs.Places.{Above, above_tail}

-- the key of the last entry
pub last_at : (key : Option (List ℕ)) (es : List Entry) (e : Entry)
    → slice_get es (length es - 1) ≡ Some e → last_key key es ≡ Some e.0
last_at key [] e h = absurd cc
last_at key (x ∷ []) e h = let same : x ≡ e = cc in ap (λ (y : Entry). Some y.0) same
last_at key (x ∷ y ∷ es) e h =
    last_at (Some x.0) (y ∷ es) e (sym (ap (slice_get (x ∷ y ∷ es)) (places (length es))) ∙ h)
  where
    places : (n : ℕ) → suc (suc n) - 1 ≡ suc (suc n - 1)
    places n = omega arith

-- ---- entries that are put behind others

above_one : (j : List ℕ) (es : List Entry) (e : Entry) (rest : List Entry)
    → Above j (es ++ e ∷ rest) → name_cmp j e.0 ≡ Less
above_one j [] e rest h = h.0
above_one j (x ∷ es) e rest h = above_one j es e rest h.1

insert_behind : (es : List Entry) (k v : List ℕ) (rest : List Entry)
    → IsRising (es ++ (k, v) ∷ rest) → insert_entry name_cmp es k v ≡ es ++ (k, v) ∷ []
insert_behind [] k v rest rise = refl
insert_behind (e ∷ es) k v rest rise =
    let tail = above_tail e (es ++ (k, v) ∷ rest) rise in
    let greater : name_cmp k e.0 ≡ Greater =
    nat_list_cmp_total.antisymm k e.0
    ∙ ap ordering_reverse (above_one e.0 es (k, v) rest tail.0) in
    ap (λ r. match_ordering r ((k, v) ∷ e ∷ es) ((e.0, v) ∷ es) (e ∷ insert_entry name_cmp es k v))
    greater ∙ ap (λ (l : List Entry). e ∷ l) (insert_behind es k v rest tail.1)

-- some of the pairs are behind the entries, and the others are left
pub record Putting (before table : List Entry) (left : List Pair) (all : List Entry) : Type 0 where
  pub done : List Entry
  pub here : table ≡ before ++ done
  pub whole : table ++ map entry_of left ≡ all
  pub rises : IsRising all

pub starts : (table : List Entry) (ps left : List Pair) → left ≡ ps
    → IsRising (table ++ map entry_of ps) → Putting table table left (table ++ map entry_of ps)
starts table ps left e rise =
    record {
      done = [];
      here = sym (append-nil table);
      whole = ap (λ (l : List Pair). table ++ map entry_of l) e;
      rises = rise;
    }

pub goes_on : (before table new : List Entry) (p : Pair) (left more : List Pair) (all : List Entry)
    → Putting before table left all → left ≡ p ∷ more
    → new ≡ insert_entry name_cmp table p.key p.value → Putting before new more all
goes_on before table new p left more all h e put =
    let whole : table ++ (p.key, p.value) ∷ map entry_of more ≡ all =
    ap (λ (l : List Pair). table ++ map entry_of l) (sym e) ∙ h.whole in
    let grown : new ≡ table ++ (p.key, p.value) ∷ [] =
    put ∙ insert_behind table p.key p.value (map entry_of more)
    (subst IsRising (sym whole) h.rises) in
    record {
      done = h.done ++ (p.key, p.value) ∷ [];
      here = grown ∙ ap (λ (l : List Entry). l ++ (p.key, p.value) ∷ []) h.here
          ∙ append_assoc before h.done ((p.key, p.value) ∷ []);
      whole =
          ap (λ (l : List Entry). l ++ map entry_of more) grown
          ∙ append_assoc table ((p.key, p.value) ∷ []) (map entry_of more) ∙ whole;
      rises = h.rises;
    }

pub enough : (before table : List Entry) (left : List Pair) (all : List Entry)
    → Putting before table left all → length before ≤ length table
enough before table left all h = rw h.here (omega (arith, length-append before h.done))

pub undone : (before table : List Entry) (left : List Pair) (all : List Entry)
    → Putting before table left all → take (length before) table ≡ before
undone before table left all h =
    ap (take (length before)) h.here ∙ take-append-le (length before) before h.done (omega arith)
    ∙ take_all (length before) before (omega arith)

pub ends : (before table : List Entry) (left : List Pair) (all : List Entry)
    → Putting before table left all → left ≡ [] → table ≡ all
ends before table left all h e =
    sym (append-nil table) ∙ ap (λ (l : List Pair). table ++ map entry_of l) (sym e) ∙ h.whole

-- ---- pairs that fit

pub and_both : (a b : Bool) → (a && b) ≡ true → (a ≡ true) × (b ≡ true)
and_both true b e = (refl, e)
and_both false b e = absurd cc

less : (o : Ordering) → is_lt o ≡ true → o ≡ Less
less Less e = refl
less Equal e = absurd cc
less Greater e = absurd cc

pub raise : (j k : List ℕ) (es : List Entry) → name_cmp j k ≡ Less → Above k es → Above j es
raise j k [] h all = tt
raise j k (e ∷ es) h all = (nat_list_cmp_total.trans j k e.0 h all.0, raise j k es h all.1)

pub above_append : (k : List ℕ) (es fs : List Entry) → Above k es → Above k fs → Above k (es ++ fs)
above_append k [] fs h g = g
above_append k (e ∷ es) fs h g = (h.0, above_append k es fs h.1 g)

pairs_above : (k : List ℕ) (ps : List Pair) → pairs_fit (Some k) ps ≡ true
    → Above k (map entry_of ps) × IsRising (map entry_of ps)
unfolding IsStrictlySortedBy
pairs_above k [] e = (tt, tt)
pairs_above k (p ∷ ps) e =
    let a =
    and_both (goes_behind (Some k) p.key && nat_le (length p.value) 4096)
    (pairs_fit (Some p.key) ps) e in
    let b = and_both (goes_behind (Some k) p.key) (nat_le (length p.value) 4096) a.0 in
    let low = less (name_cmp k p.key) b.0 in
    let r = pairs_above p.key ps a.1 in
    ((low, raise k p.key (map entry_of ps) low r.0), (r.0, r.1))

above_all : (k : List ℕ) (es : List Entry) (ps : List Pair) → Above k es → IsRising es
    → pairs_fit (last_key (Some k) es) ps ≡ true → Above k (map entry_of ps)
above_all k [] ps above rise e = (pairs_above k ps e).0
above_all k (x ∷ es) ps above rise e =
    let tail = above_tail x es rise in
    raise k x.0 (map entry_of ps) above.0 (above_all x.0 es ps tail.0 tail.1 e)

rises_from : (k : List ℕ) (es : List Entry) (ps : List Pair) → IsRising es
    → pairs_fit (last_key (Some k) es) ps ≡ true → IsRising (es ++ map entry_of ps)
unfolding IsStrictlySortedBy
rises_from k [] ps rise e = (pairs_above k ps e).1
rises_from k (x ∷ es) ps rise e =
    let tail = above_tail x es rise in (
      above_append x.0 es (map entry_of ps) tail.0 (above_all x.0 es ps tail.0 tail.1 e),
      rises_from x.0 es ps tail.1 e,
    )

first_rises : (ps : List Pair) → pairs_fit None ps ≡ true → IsRising (map entry_of ps)
unfolding IsStrictlySortedBy
first_rises [] e = tt
first_rises (p ∷ ps) e =
    let a =
    and_both (goes_behind None p.key && nat_le (length p.value) 4096)
    (pairs_fit (Some p.key) ps) e in pairs_above p.key ps a.1

-- pairs that go on rising behind rising entries rise with them
pub fitting_rise : (es : List Entry) (ps : List Pair) → IsRising es
    → pairs_fit (last_key None es) ps ≡ true → IsRising (es ++ map entry_of ps)
unfolding IsStrictlySortedBy
fitting_rise [] ps rise e = first_rises ps e
fitting_rise (x ∷ es) ps rise e =
    let tail = above_tail x es rise in (
      above_append x.0 es (map entry_of ps) tail.0 (above_all x.0 es ps tail.0 tail.1 e),
      rises_from x.0 es ps tail.1 e,
    )

-- so do those that a table can take
pub taken_rise : (most : ℕ) (es : List Entry) (ps : List Pair) → IsRising es
    → table_fits most es ps ≡ true → IsRising (es ++ map entry_of ps)
taken_rise most es ps rise e =
    fitting_rise es ps rise (and_both (nat_lt 0 (length ps) && nat_le (length es + length ps) most)
    (pairs_fit (last_key None es) ps) e).1
