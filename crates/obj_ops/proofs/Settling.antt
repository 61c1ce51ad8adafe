-- The memory of a kept request is taken before its reply is known, and the reply put in later.
use Rattle.std.proofs.Common.{◌≡◌, ℕ, ◌+◌, ◌<◌, ◌≢◌, suc, Bool, true, false, cond, ltb}
use Rattle.std.proofs.Common.{List, [], ◌∷◌, ◌++◌, drop}
use Rattle.std.proofs.Common.{length, Option, Some, Result, Ok, Err, refl, sym, ap, ◌∙◌, ◌^◌}
use Rattle.std.proofs.Common.{arith, get_or}
use Rattle.std.specs.Prelude.{slice_set, ◌==◌}
use Rattle.std.specs.List.{filter, AllByRecursion}
use Rattle.std.proofs.lemmas.Bool.{eq-eqb, ltb-true}
use Rattle.std.proofs.lemmas.List.{at_drop_more}
use Rattle.obj_model.specs.declared.reply.Kept.{Kept}
use Rattle.obj_model.specs.declared.reply.Why.{Why}
use Rattle.obj_model.specs.declared.reply.Reply.{Reply}
use Rattle.obj_model.specs.declared.reply.Reply.TheVariants.{Done, Refused}
use Rattle.obj_model.specs.declared.req.Req.{Req}
use Rattle.obj_model.specs.declared.state.Obj.{Obj}
use Rattle.obj_model.specs.declared.state.NameState.{NameState}
use Rattle.obj_ops.specs.declared.run.Ran.TheVariants as ran
use Rattle.obj_ops.specs.declared.request.Acted.TheVariants.{Fresh, Worn}
use Rattle.obj_ops.specs.Ops.{Run, Refusal, run}
use Rattle.obj_ops.specs.Acts.{act_anew, acted, after, keep, ran_of}
use Rattle.obj_ops.specs.Steps.{place_from, put_at, settled}
use Rattle.obj_ops.proofs.Keeping.{ne-eqb}

by_test : (t : Bool) (found : Bool) (i : ℕ) (later : Option ℕ) → t ≡ found
    → cond t (Some i) later ≡ cond found (Some i) later
by_test t found i later e = ap (λ b. cond b (Some i) later) e

-- the place is further on
pub place_step : (client i : ℕ) (seen : List Kept) (x : Kept) → i < length seen
    → x ≡ get_or seen i x → (x.client == client) ≡ false
    → place_from client i (drop i seen) ≡ place_from client (i + 1) (drop (i + 1) seen)
place_step client i seen x lt is e =
    at_drop_more (λ l. place_from client i l) seen i x lt
    ∙ by_test ((get_or seen i x).client == client) false i
    (place_from client (i + 1) (drop (i + 1) seen))
    (ap (λ (k : Kept). k.client == client) (sym is) ∙ e)

-- it is here
pub place_here : (client i : ℕ) (seen : List Kept) (x : Kept) → i < length seen
    → x ≡ get_or seen i x → (x.client == client) ≡ true
    → place_from client i (drop i seen) ≡ Some i
place_here client i seen x lt is e =
    at_drop_more (λ l. place_from client i l) seen i x lt
    ∙ by_test ((get_or seen i x).client == client) true i
    (place_from client (i + 1) (drop (i + 1) seen))
    (ap (λ (k : Kept). k.client == client) (sym is) ∙ e)

-- ---- the one that is put

abbrev Others : ℕ → List Kept → Type 0
Others client seen = AllByRecursion (λ (x : Kept). (x.client == client) ≡ false) seen

found_behind : (k j : Kept) (i : ℕ) (xs ys : List Kept) → Others k.client xs
    → (j.client == k.client) ≡ true
    → place_from k.client i (xs ++ j ∷ ys) ≡ Some (i + length xs)
found_behind k j i [] ys none e =
    by_test (j.client == k.client) true i (place_from k.client (i + 1) ys) e ∙ ap Some (plus i)
  where
    plus : (i : ℕ) → i ≡ i + 0
    plus i = omega arith
found_behind k j i (x ∷ xs) ys none e =
    by_test (x.client == k.client) false i (place_from k.client (i + 1) (xs ++ j ∷ ys)) none.0
    ∙ found_behind k j (i + 1) xs ys none.1 e ∙ ap Some (plus i (length xs))
  where
    plus : (i n : ℕ) → i + 1 + n ≡ i + suc n
    plus i n = omega arith

set_behind : (k j : Kept) (xs ys : List Kept)
    → slice_set (xs ++ j ∷ ys) (length xs) k ≡ xs ++ k ∷ ys
set_behind k j [] ys = refl
set_behind k j (x ∷ xs) ys = ap (λ (l : List Kept). x ∷ l) (set_behind k j xs ys)

others_step : (client : ℕ) (x : Kept) (xs : List Kept) (b : Bool) → ltb x.client client ≡ b
    → Others client (filter (λ y. ltb y.client client) xs)
    → Others client (filter (λ y. ltb y.client client) (x ∷ xs))
others_step client x xs true e rest =
    rw e (ne-eqb x.client client (λ same. let lt = ltb-true x.client client e in omega arith), rest)
others_step client x xs false e rest = rw e rest

others_below : (client : ℕ) (seen : List Kept)
    → Others client (filter (λ y. ltb y.client client) seen)
others_below client [] = tt
others_below client (x ∷ xs) =
    others_step client x xs (ltb x.client client) refl (others_below client xs)

-- a reply that is put into a kept request is the one that is kept
pub settled_keep : (k j : Kept) (seen : List Kept) → j.client ≡ k.client
    → settled k (keep j seen) ≡ keep k seen
settled_keep k j seen same =
    let lower = filter (λ x. ltb x.client k.client) seen in
    let higher = filter (λ x. ltb k.client x.client) seen in
    let kept : keep j seen ≡ lower ++ j ∷ higher =
    ap (λ c. filter (λ (x : Kept). ltb x.client c) seen
    ++ j ∷ filter (λ (x : Kept). ltb c x.client) seen) same in
    ap (settled k) kept
    ∙ ap (put_at k (lower ++ j ∷ higher))
    (found_behind k j 0 lower higher (others_below k.client seen) (eq-eqb j.client k.client same))
    ∙ ap (λ i. put_at k (lower ++ j ∷ higher) (Some i)) (none (length lower))
    ∙ set_behind k j lower higher
  where
    none : (n : ℕ) → 0 + n ≡ n
    none n = omega arith

-- ---- a request that acts on a state where it lies

done_run : (s : NameState) (r : Req) (x : Result Run Refusal) (o : Option Obj)
    → ran_of x ≡ ran.Accepted o
    → acted s r x ≡ Fresh (after s r (s.ver + 1) o (Done (s.ver + 1))) (Done (s.ver + 1))
done_run s r (Ok x) o e =
    let same : x.obj ≡ o =
    cc in ap (λ p. Fresh (after s r (s.ver + 1) p (Done (s.ver + 1))) (Done (s.ver + 1))) same
done_run s r (Err x) o e = absurd cc

refused_run : (s : NameState) (r : Req) (x : Result Run Refusal) (at : ℕ) (why : Why)
    → ran_of x ≡ ran.Refused at why
    → acted s r x ≡ Fresh (after s r s.ver s.obj (Refused at why s.ver)) (Refused at why s.ver)
refused_run s r (Ok x) at why e = absurd cc
refused_run s r (Err x) at why e =
    let one : x.at ≡ at = cc in
    let two : x.why ≡ why = cc in
    ap (λ i. Fresh (after s r s.ver s.obj (Refused i x.why s.ver)) (Refused i x.why s.ver)) one
    ∙ ap (λ w. Fresh (after s r s.ver s.obj (Refused at w s.ver)) (Refused at w s.ver)) two

not_worn : (s : NameState) (r : Req) → s.seq ≢ 2 ^ 62
    → act_anew s r ≡ acted s r (run s.ver r.vector s.obj)
not_worn s r e =
    ap (λ b. cond b (Worn (2 ^ 62)) (acted s r (run s.ver r.vector s.obj)))
    (ne-eqb s.seq (2 ^ 62) e)

-- the vector was accepted
pub acts_done : (s m : NameState) (r : Req) (o : Option Obj) (reply : Reply) (seen : List Kept)
    → s.seq ≢ 2 ^ 62
    → ran_of (run s.ver r.vector s.obj) ≡ ran.Accepted o → m ≡ record s { ver = s.ver + 1; obj = o }
    → reply ≡ Done (s.ver + 1)
    → seen ≡ keep (record { client = r.client; tid = r.tid; reply = reply }) s.seen
    → act_anew s r ≡ Fresh (record { ver = m.ver; seq = m.seq + 1; obj = m.obj; seen = seen }) reply
acts_done s m r o reply seen room accepted left told kept =
    not_worn s r room ∙ done_run s r (run s.ver r.vector s.obj) o accepted
    ∙ ap (λ w. Fresh (after s r (s.ver + 1) o w) w) (sym told)
    ∙ ap (λ l. Fresh (record { ver = s.ver + 1; seq = s.seq + 1; obj = o; seen = l }) reply)
    (sym kept)
    ∙ ap (λ (p : NameState). Fresh
    (record { ver = p.ver; seq = p.seq + 1; obj = p.obj; seen = seen }) reply) (sym left)

-- it was refused
pub acts_refused : (s m : NameState) (r : Req) (o : Option Obj) (at : ℕ) (why : Why) (reply : Reply)
    (seen : List Kept) → s.seq ≢ 2 ^ 62
    → ran_of (run s.ver r.vector s.obj) ≡ ran.Refused at why → o ≡ s.obj → m ≡ record s { obj = o }
    → reply ≡ Refused at why s.ver
    → seen ≡ keep (record { client = r.client; tid = r.tid; reply = reply }) s.seen
    → act_anew s r ≡ Fresh (record { ver = m.ver; seq = m.seq + 1; obj = m.obj; seen = seen }) reply
acts_refused s m r o at why reply seen room refused same left told kept =
    not_worn s r room ∙ refused_run s r (run s.ver r.vector s.obj) at why refused
    ∙ ap (λ w. Fresh (after s r s.ver s.obj w) w) (sym told)
    ∙ ap (λ l. Fresh (record { ver = s.ver; seq = s.seq + 1; obj = s.obj; seen = l }) reply)
    (sym kept)
    ∙ ap (λ (p : NameState). Fresh
    (record { ver = p.ver; seq = p.seq + 1; obj = p.obj; seen = seen }) reply)
    (sym (left ∙ ap (λ p. record s { obj = p }) same))
