-- Sub-operations that change nothing, and guards beside each other.
use Rattle.std.proofs.Common.{◌≡◌, ◌≤◌, ℕ, ◌+◌, ◌-◌, Bool, true, false, cond, List, [], ◌∷◌, ◌++◌, length, take, drop, Option, Some, None, Result, Ok, Err, nat_lt, zero, suc, refl, sym, ap, subst, ◌∙◌, arith, append_assoc}
use Rattle.std.specs.Prelude.{replicate, bytes_eq}
use Rattle.std.specs.FinMap as fin
use Rattle.std.specs.List.{AllByRecursion}
use Rattle.std.proofs.lemmas.Bool.{le-ltb}
use Rattle.std.proofs.lemmas.List.{append-nil, take-append-drop, take_all}
use Rattle.std.proofs.Math.Seq.{drop-nil}
use Rattle.obj_model.specs.Limits.{body_limit}
use Rattle.obj_model.specs.SubOps.{kind}
use Rattle.obj_model.specs.declared.sub_op.OpKind.TheVariants.{Guard}
use Rattle.obj_model.specs.declared.sub_op.SubOp.{SubOp}
use Rattle.obj_model.specs.declared.sub_op.SubOp.TheVariants.{Create, WriteFull, Write, Append, Zero, Truncate, Remove, SetXattr, RmXattr, OmapSet, OmapRm, OmapClear, AssertExists, AssertVer, CmpXattr, Read, Stat, GetXattr, ListXattrs, OmapGet, OmapList}
use Rattle.obj_model.specs.declared.reply.Reply.TheVariants.{Done}
use Rattle.obj_model.specs.declared.reply.Why.{Why}
use Rattle.obj_model.specs.declared.reply.Why.TheVariants.{Canceled, Overflow, Range, TooBig}
use Rattle.obj_model.specs.declared.req.Req.{Req}
use Rattle.obj_model.specs.declared.state.NameState.{NameState}
use Rattle.obj_model.specs.declared.state.Obj.{Obj}
use Rattle.obj_model.specs.declared.out.Out.{Out}
use Rattle.obj_model.specs.declared.out.Out.TheVariants.{Checked}
use Rattle.obj_ops.specs.declared.request.Acted.{Acted}
use Rattle.obj_ops.specs.declared.request.Acted.TheVariants.{Fresh, Again, Stale, Worn}
use Rattle.obj_ops.specs.Effects.{put_body, resized, same_value, within, written}
use Rattle.obj_ops.specs.Ops.{Step, Run, Refusal, leaves, tells, sub, telling, go_on, run_from, run}
use Rattle.obj_ops.specs.Acts.{act, acted}
use Rattle.obj_ops.proofs.Cases.{act_cases}
use Rattle.obj_laws.specs.Idle.{GuardsExchange, IsIdle, OnlyVersionRises, PresentIsIdle}

-- an object that is given its own body, within the limit
same_body : (asked : ℕ) (bytes : List ℕ) (x : Obj) → asked ≤ body_limit → bytes ≡ x.body
    → leaves (within body_limit asked (put_body bytes x)) ≡ Ok (record { obj = Some x; out = Checked })
same_body asked bytes x few same =
    ap (λ b. leaves (cond b (Err (TooBig body_limit asked)) (put_body bytes x))) (le-ltb body_limit asked few)
    ∙ ap (λ b. leaves (put_body b x)) same

no_zeros : (n : ℕ) → n ≡ 0 → replicate {A = ℕ} n 0 ≡ []
no_zeros n e = ap (λ k. replicate {A = ℕ} k 0) e

resized_same : (size : ℕ) (body : List ℕ) → size ≡ length body → resized size body ≡ body
resized_same size body e =
    let full : size - length body ≡ 0 = omega (arith, e) in
    ap (λ l. take size body ++ l) (no_zeros (size - length body) full) ∙ append-nil (take size body) ∙ take_all size body (omega (arith, e))

resized_short : (off : ℕ) (body : List ℕ) → off ≤ length body → resized off body ≡ take off body
resized_short off body le =
    let full : off - length body ≡ 0 = omega (arith, le) in
    ap (λ l. take off body ++ l) (no_zeros (off - length body) full) ∙ append-nil (take off body)

drop_more : (i n : ℕ) (l : List ℕ) → drop (i + n) l ≡ drop n (drop i l)
drop_more zero n l = let e : zero + n ≡ n = omega arith in ap (λ k. drop k l) e
drop_more (suc i) n [] = drop-nil (suc i + n) ∙ sym (drop-nil n)
drop_more (suc i) n (b ∷ l) = let e : suc i + n ≡ suc (i + n) = omega arith in ap (λ k. drop k (b ∷ l)) e ∙ drop_more i n l

written_same : (off : ℕ) (bytes body : List ℕ) → off + length bytes ≤ length body → bytes ≡ take (length bytes) (drop off body) → written off bytes body ≡ body
written_same off [] body le same = refl
written_same off (b ∷ bytes) body le same =
    let n = length (b ∷ bytes) in
    let rest : drop (off + n) body ≡ drop n (drop off body) = drop_more off n body in
    let middle : (b ∷ bytes) ++ drop (off + n) body ≡ drop off body =
    ap (λ l. l ++ drop (off + n) body) same ∙ ap (λ l. take n (drop off body) ++ l) rest ∙ take-append-drop n (drop off body) in
    ap (λ l. l ++ (b ∷ bytes) ++ drop (off + n) body) (resized_short off body (omega (arith, le)))
    ∙ append_assoc (take off body) (b ∷ bytes) (drop (off + n) body)
    ∙ ap (λ l. take off body ++ l) middle ∙ take-append-drop off body

-- what asks for the present body changes nothing
pub present_idle : (op : SubOp) → PresentIsIdle op
present_idle (WriteFull bytes) x few asks ver = same_body (length bytes) bytes x (let e = ap (λ l. length l) asks in omega (arith, e, few)) asks
present_idle (Write off bytes) x few asks ver = same_body (off + length bytes) (written off bytes x.body) x (omega (arith, asks.0, few)) (written_same off bytes x.body asks.0 asks.1)
present_idle (Append bytes) x few asks ver =
    let same : x.body ++ bytes ≡ x.body = ap (λ l. x.body ++ l) asks ∙ append-nil x.body in
    same_body (length (x.body ++ bytes)) (x.body ++ bytes) x (let e = ap (λ l. length l) same in omega (arith, e, few)) same
present_idle (Truncate size) x few asks ver = same_body size (resized size x.body) x (omega (arith, asks, few)) (resized_same size x.body asks)
present_idle Create x few asks ver = absurd asks
present_idle (Zero off len) x few asks ver = absurd asks
present_idle Remove x few asks ver = absurd asks
present_idle (SetXattr key bytes) x few asks ver = absurd asks
present_idle (RmXattr key) x few asks ver = absurd asks
present_idle (OmapSet key bytes) x few asks ver = absurd asks
present_idle (OmapRm key) x few asks ver = absurd asks
present_idle OmapClear x few asks ver = absurd asks
present_idle AssertExists x few asks ver = absurd asks
present_idle (AssertVer asked) x few asks ver = absurd asks
present_idle (CmpXattr key bytes) x few asks ver = absurd asks
present_idle (Read off len) x few asks ver = absurd asks
present_idle Stat x few asks ver = absurd asks
present_idle (GetXattr key) x few asks ver = absurd asks
present_idle ListXattrs x few asks ver = absurd asks
present_idle (OmapGet key) x few asks ver = absurd asks
present_idle (OmapList after max) x few asks ver = absurd asks

-- a run that is accepted and leaves this object
abbrev Left : Option Obj → Result Run Refusal → Type 0
Left o (Ok r) = r.obj ≡ o
Left o (Err e) = ⊥

left_telling : (o : Option Obj) (out : Out) (x : Result Run Refusal) → Left o x → Left o (telling out x)
left_telling o out (Ok r) h = h
left_telling o out (Err e) h = h

idle_run : (at ver : ℕ) (ops : List SubOp) (x : Obj) → AllByRecursion (λ op. IsIdle op x) ops → Left (Some x) (run_from at ver ops (Some x))
idle_run at ver [] x idle = refl
idle_run at ver (op ∷ ops) x idle =
    subst (λ s. Left (Some x) (go_on at (run_from (at + 1) ver ops) s)) (sym (idle.0 ver))
    (left_telling (Some x) Checked (run_from (at + 1) ver ops (Some x)) (idle_run (at + 1) ver ops x idle.1))

-- what an act leaves where its vector was accepted and left this object
abbrev Rises : NameState → Acted → Type 0
Rises s (Fresh t reply) = (t.obj ≡ s.obj) × (t.ver ≡ s.ver + 1) × (reply ≡ Done (s.ver + 1))
Rises s (Again reply) = Unit {0}
Rises s (Stale tid) = Unit {0}
Rises s (Worn limit) = Unit {0}

acted_rises : (s : NameState) (r : Req) (run : Result Run Refusal) → Left s.obj run → Rises s (acted s r run)
acted_rises s r (Ok x) left = (left, refl, refl)
acted_rises s r (Err e) left = absurd left

-- the version alone rises
pub version_rises : (s : NameState) (r : Req) → OnlyVersionRises s r
version_rises s r x t reply there idle acts =
    let left : Left s.obj (run s.ver r.vector s.obj) = subst (λ o. Left o (run s.ver r.vector o)) (sym there) (idle_run 0 s.ver r.vector x idle) in
    let rises : Rises s (act s r) = act_cases (Rises s) s r (λ k e lt. tt) (λ k e same. tt) (λ e newer. tt) (λ room newer. acted_rises s r (run s.ver r.vector s.obj) left) in
    subst (Rises s) acts rises

-- a step that refuses, or tells nothing and leaves the object
abbrev Passes : Option Obj → Result Step Why → Type 0
Passes o (Ok s) = s ≡ record { obj = o; out = Checked }
Passes o (Err why) = Unit {0}

by_version : (low high : Bool) (o : Option Obj) → Passes o (tells (cond low (Err Range) (cond high (Err Overflow) (Ok Checked))) o)
by_version true high o = tt
by_version false true o = tt
by_version false false o = refl

by_value : (same : Bool) (o : Option Obj) → Passes o (tells (cond same (Ok Checked) (Err Canceled)) o)
by_value true o = refl
by_value false o = tt

by_attr : (bytes : List ℕ) (value : Option (List ℕ)) (o : Option Obj) → Passes o (tells (same_value bytes value) o)
by_attr bytes None o = tt
by_attr bytes (Some value) o = by_value (bytes_eq value bytes) o

-- a guard is such a step
guard_passes : (g : SubOp) (ver : ℕ) (o : Option Obj) → kind g ≡ Guard → Passes o (sub g ver o)
guard_passes AssertExists ver None e = tt
guard_passes AssertExists ver (Some x) e = refl
guard_passes (AssertVer asked) ver o e = by_version (nat_lt asked ver) (nat_lt ver asked) o
guard_passes (CmpXattr key bytes) ver None e = tt
guard_passes (CmpXattr key bytes) ver (Some x) e = by_attr bytes (fin.get x.attrs key) (Some x)
guard_passes Create ver o e = absurd (cc)
guard_passes (WriteFull bytes) ver o e = absurd (cc)
guard_passes (Write off bytes) ver o e = absurd (cc)
guard_passes (Append bytes) ver o e = absurd (cc)
guard_passes (Zero off len) ver o e = absurd (cc)
guard_passes (Truncate size) ver o e = absurd (cc)
guard_passes Remove ver o e = absurd (cc)
guard_passes (SetXattr key bytes) ver o e = absurd (cc)
guard_passes (RmXattr key) ver o e = absurd (cc)
guard_passes (OmapSet key bytes) ver o e = absurd (cc)
guard_passes (OmapRm key) ver o e = absurd (cc)
guard_passes OmapClear ver o e = absurd (cc)
guard_passes (Read off len) ver o e = absurd (cc)
guard_passes Stat ver o e = absurd (cc)
guard_passes (GetXattr key) ver o e = absurd (cc)
guard_passes ListXattrs ver o e = absurd (cc)
guard_passes (OmapGet key) ver o e = absurd (cc)
guard_passes (OmapList after max) ver o e = absurd (cc)

-- guards that both hold give the same in either order
exchange : (at ver : ℕ) (g h : SubOp) (behind : List SubOp) (o : Option Obj) (r : Run) (x y : Result Step Why) → sub g ver o ≡ x → sub h ver o ≡ y → Passes o x → Passes o y
    → run_from at ver (g ∷ h ∷ behind) o ≡ Ok r → run_from at ver (h ∷ g ∷ behind) o ≡ Ok r
exchange at ver g h behind o r (Err why) y e f p q runs = absurd (let stop : Err (record { at = at; why = why }) ≡ Ok r = sym (ap (go_on at (run_from (at + 1) ver (h ∷ behind))) e) ∙ runs in cc)
exchange at ver g h behind o r (Ok s) (Err why) e f p q runs =
    let here : sub g ver o ≡ Ok (record { obj = o; out = Checked }) = e ∙ ap (λ z. Ok z) p in
    absurd (let stop : telling Checked (Err (record { at = at + 1; why = why })) ≡ Ok r =
    sym (ap (go_on at (run_from (at + 1) ver (h ∷ behind))) here ∙ ap (λ z. telling Checked (go_on (at + 1) (run_from (at + 1 + 1) ver behind) z)) f) ∙ runs in cc)
exchange at ver g h behind o r (Ok s) (Ok u) e f p q runs =
    let one : sub g ver o ≡ Ok (record { obj = o; out = Checked }) = e ∙ ap (λ z. Ok z) p in
    let two : sub h ver o ≡ Ok (record { obj = o; out = Checked }) = f ∙ ap (λ z. Ok z) q in
    ap (go_on at (run_from (at + 1) ver (g ∷ behind))) two ∙ ap (λ z. telling Checked (go_on (at + 1) (run_from (at + 1 + 1) ver behind) z)) one
    ∙ sym (ap (go_on at (run_from (at + 1) ver (h ∷ behind))) one ∙ ap (λ z. telling Checked (go_on (at + 1) (run_from (at + 1 + 1) ver behind) z)) two) ∙ runs

-- where each accepted run is also given by another, so it is behind one step more
told_same : (out : Out) (a b : Result Run Refusal) (r : Run) → ((x : Run) → a ≡ Ok x → b ≡ Ok x) → telling out a ≡ Ok r → telling out b ≡ Ok r
told_same out (Ok x) b r same h = ap (telling out) (same x refl) ∙ h
told_same out (Err e) b r same h = absurd (cc)

step_same : (at : ℕ) (a b : Option Obj → Result Run Refusal) (s : Result Step Why) (r : Run) → ((o : Option Obj) (x : Run) → a o ≡ Ok x → b o ≡ Ok x) → go_on at a s ≡ Ok r → go_on at b s ≡ Ok r
step_same at a b (Ok s) r same h = told_same s.out (a s.obj) (b s.obj) r (same s.obj) h
step_same at a b (Err why) r same h = absurd (cc)

exchange_behind : (front : List SubOp) (at ver : ℕ) (g h : SubOp) (behind : List SubOp) (o : Option Obj) (r : Run) → kind g ≡ Guard → kind h ≡ Guard
    → run_from at ver (front ++ g ∷ h ∷ behind) o ≡ Ok r → run_from at ver (front ++ h ∷ g ∷ behind) o ≡ Ok r
exchange_behind [] at ver g h behind o r is_g is_h runs =
    exchange at ver g h behind o r (sub g ver o) (sub h ver o) refl refl (guard_passes g ver o is_g) (guard_passes h ver o is_h) runs
exchange_behind (op ∷ ops) at ver g h behind o r is_g is_h runs =
    step_same at (run_from (at + 1) ver (ops ++ g ∷ h ∷ behind)) (run_from (at + 1) ver (ops ++ h ∷ g ∷ behind)) (sub op ver o) r
    (λ p x e. exchange_behind ops (at + 1) ver g h behind p x is_g is_h e) runs

-- two guards may change places
pub guards_exchange : (g h : SubOp) → GuardsExchange g h
guards_exchange g h ver front behind o r is_g is_h runs = exchange_behind front 0 ver g h behind o r is_g is_h runs
