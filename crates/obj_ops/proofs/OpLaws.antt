-- The laws of sub-operations.
use Rattle.std.proofs.Common.{◌≡◌, ◌<◌, ℕ, ◌+◌, Bool, true, false, cond, List, [], ◌∷◌, ◌++◌}
use Rattle.std.proofs.Common.{length, take, drop, Option, Some, Result, Ok, Err, nat_lt, eqb, refl}
use Rattle.std.proofs.Common.{sym, ap, subst, ◌∙◌, arith, append_assoc}
use Rattle.std.proofs.Math.Seq.{take-append_seam, drop-append_seam}
use Rattle.obj_model.specs.Limits.{body_limit}
use Rattle.obj_model.specs.declared.sub_op.SubOp.{SubOp}
use Rattle.obj_model.specs.declared.sub_op.SubOp.TheVariants.{Create, WriteFull, Write, Append}
use Rattle.obj_model.specs.declared.sub_op.SubOp.TheVariants.{Zero, Truncate, Remove, SetXattr}
use Rattle.obj_model.specs.declared.sub_op.SubOp.TheVariants.{RmXattr, OmapSet, OmapRm, OmapClear}
use Rattle.obj_model.specs.declared.sub_op.SubOp.TheVariants.{AssertExists, AssertVer, CmpXattr}
use Rattle.obj_model.specs.declared.sub_op.SubOp.TheVariants.{Read, Stat, GetXattr, ListXattrs}
use Rattle.obj_model.specs.declared.sub_op.SubOp.TheVariants.{OmapGet, OmapList}
use Rattle.obj_model.specs.declared.state.Obj.{Obj}
use Rattle.obj_model.specs.declared.reply.Why.{Why}
use Rattle.obj_model.specs.declared.reply.Why.TheVariants.{TooBig}
use Rattle.obj_model.specs.declared.out.Out.{Out}
use Rattle.obj_model.specs.declared.out.Out.TheVariants.{Checked, Bytes}
use Rattle.obj_ops.specs.Effects.{Change, Telling, made, within, put_body, part, written, resized}
use Rattle.obj_ops.specs.Effects.{with_more}
use Rattle.obj_ops.specs.Ops.{Step, Run, Refusal, left_by, leaves, tells, sub, telling, go_on}
use Rattle.obj_ops.specs.Ops.{run_from}
use Rattle.obj_ops.specs.OpLaws.{AppendsJoin, LookersChangeNothing, SameTables, TablesSurvive}
use Rattle.obj_ops.specs.OpLaws.{FirstRefusalRefuses, WrittenIsRead}
use Rattle.obj_ops.proofs.Bodies.{length-resized}
use Rattle.obj_ops.proofs.Keeping.{ne-eqb}

tells_keeps : (t : Telling) (o : Option Obj) (s : Step) → tells t o ≡ Ok s → s.obj ≡ o
tells_keeps (Ok out) o s e =
    let h : record { obj = o; out = out } ≡ s = cc in sym (ap (λ s. s.obj) h)
tells_keeps (Err why) o s e = absurd (cc)

-- a guard and a reading leave the object
pub lookers : (op : SubOp) → LookersChangeNothing op
lookers Create ver o s h e = absurd (cc)
lookers (WriteFull bytes) ver o s h e = absurd (cc)
lookers (Write off bytes) ver o s h e = absurd (cc)
lookers (Append bytes) ver o s h e = absurd (cc)
lookers (Zero off len) ver o s h e = absurd (cc)
lookers (Truncate size) ver o s h e = absurd (cc)
lookers Remove ver o s h e = absurd (cc)
lookers (SetXattr key bytes) ver o s h e = absurd (cc)
lookers (RmXattr key) ver o s h e = absurd (cc)
lookers (OmapSet key bytes) ver o s h e = absurd (cc)
lookers (OmapRm key) ver o s h e = absurd (cc)
lookers OmapClear ver o s h e = absurd (cc)
lookers AssertExists ver o s h e = tells_keeps _ o s e
lookers (AssertVer asked) ver o s h e = tells_keeps _ o s e
lookers (CmpXattr key bytes) ver o s h e = tells_keeps _ o s e
lookers (Read off len) ver o s h e = tells_keeps _ o s e
lookers Stat ver o s h e = tells_keeps _ o s e
lookers (GetXattr key) ver o s h e = tells_keeps _ o s e
lookers ListXattrs ver o s h e = tells_keeps _ o s e
lookers (OmapGet key) ver o s h e = tells_keeps _ o s e
lookers (OmapList after max) ver o s h e = tells_keeps _ o s e

-- a body that was put leaves the tables
put_keeps : (bytes : List ℕ) (x : Obj) (s : Step) → leaves (put_body bytes x) ≡ Ok s
    → SameTables x s.obj
put_keeps bytes x s e =
    let h : record { obj = Some (record x { body = bytes }); out = Checked } ≡ s = cc in
    subst (λ (s : Step). SameTables x s.obj) h (refl, refl)

within_limit : (limit asked : ℕ) (c : Change) (s : Step) (far : Bool) → nat_lt limit asked ≡ far
    → leaves (within limit asked c) ≡ Ok s → leaves c ≡ Ok s
within_limit limit asked c s true f e =
    absurd (let g : leaves (Err (TooBig limit asked))
    ≡ Ok s = sym (ap (λ b. leaves (cond b (Err (TooBig limit asked)) c)) f) ∙ e in cc)
within_limit limit asked c s false f e =
    sym (ap (λ b. leaves (cond b (Err (TooBig limit asked)) c)) f) ∙ e

within_keeps : (limit asked : ℕ) (bytes : List ℕ) (x : Obj) (s : Step) (far : Bool)
    → nat_lt limit asked ≡ far → leaves (within limit asked (put_body bytes x)) ≡ Ok s
    → SameTables x s.obj
within_keeps limit asked bytes x s far f e =
    put_keeps bytes x s (within_limit limit asked (put_body bytes x) s far f e)

-- attributes and omap survive what is done to the body
pub tables_survive : (op : SubOp) → TablesSurvive op
tables_survive (WriteFull bytes) ver x s h e =
    within_keeps body_limit (length bytes) bytes x s (nat_lt body_limit (length bytes)) refl e
tables_survive (Write off bytes) ver x s h e =
    within_keeps body_limit (off + length bytes) (written off bytes x.body) x s
    (nat_lt body_limit (off + length bytes)) refl e
tables_survive (Append bytes) ver x s h e =
    within_keeps body_limit (length (x.body ++ bytes)) (x.body ++ bytes) x s
    (nat_lt body_limit (length (x.body ++ bytes))) refl e
tables_survive (Zero off len) ver x s h e = put_keeps _ x s e
tables_survive (Truncate size) ver x s h e =
    within_keeps body_limit size (resized size x.body) x s (nat_lt body_limit size) refl e
tables_survive Create ver x s h e = absurd (cc)
tables_survive Remove ver x s h e = absurd (cc)
tables_survive (SetXattr key bytes) ver x s h e = absurd (cc)
tables_survive (RmXattr key) ver x s h e = absurd (cc)
tables_survive (OmapSet key bytes) ver x s h e = absurd (cc)
tables_survive (OmapRm key) ver x s h e = absurd (cc)
tables_survive OmapClear ver x s h e = absurd (cc)
tables_survive AssertExists ver x s h e = absurd (cc)
tables_survive (AssertVer asked) ver x s h e = absurd (cc)
tables_survive (CmpXattr key bytes) ver x s h e = absurd (cc)
tables_survive (Read off len) ver x s h e = absurd (cc)
tables_survive Stat ver x s h e = absurd (cc)
tables_survive (GetXattr key) ver x s h e = absurd (cc)
tables_survive ListXattrs ver x s h e = absurd (cc)
tables_survive (OmapGet key) ver x s h e = absurd (cc)
tables_survive (OmapList after max) ver x s h e = absurd (cc)

refused_here : (at ver : ℕ) (op : SubOp) (behind : List SubOp) (why : Why) (s : Result Step Why)
    → s ≡ Err why → go_on at (run_from (at + 1) ver behind) s ≡ Err (record { at = at; why = why })
refused_here at ver op behind why s e = ap (go_on at (run_from (at + 1) ver behind)) e

told_on : (out : Out) (t : Result Run Refusal) (r : Run) (P : Option Obj → Type 0)
    (goal : Result Run Refusal) (e : Refusal) → telling out t ≡ Ok r → P r.obj
    → ((u : Run) → t ≡ Ok u → P u.obj → goal ≡ Err e) → telling out goal ≡ Err e
told_on out (Ok u) r P goal e h p next =
    ap (telling out) (next u refl
    (let same : u.obj ≡ r.obj = ap
    (λ (x : Result Run Refusal). elim x [ Ok r ↦ r.obj | Err e ↦ u.obj ]) h in
    subst P (sym same) p))
told_on out (Err x) r P goal e h p next = absurd (cc)

by_first : (at ver : ℕ) (front : List SubOp) (op : SubOp) (behind : List SubOp) (r : Run)
    (why : Why) (place : ℕ) (s : Result Step Why)
    → go_on at (run_from (at + 1) ver front) s ≡ Ok r → sub op ver r.obj ≡ Err why
    → ((o : Option Obj) (u : Run) → run_from (at + 1) ver front o ≡ Ok u
    → sub op ver u.obj ≡ Err why
    → run_from (at + 1) ver (front ++ op ∷ behind) o ≡ Err (record { at = place; why = why }))
    → go_on at (run_from (at + 1) ver (front ++ op ∷ behind)) s
    ≡ Err (record { at = place; why = why })
by_first at ver front op behind r why place (Ok s) e refused rest =
    told_on s.out (run_from (at + 1) ver front s.obj) r (λ o. sub op ver o ≡ Err why)
    (run_from (at + 1) ver (front ++ op ∷ behind) s.obj)
    (record { at = place; why = why }) e refused (rest s.obj)
by_first at ver front op behind r why place (Err w) e refused rest = absurd (cc)

refusal_from : (at ver : ℕ) (front : List SubOp) (op : SubOp) (behind : List SubOp) (o : Option Obj)
    (r : Run) (why : Why) (place : ℕ) → at + length front ≡ place → run_from at ver front o ≡ Ok r
    → sub op ver r.obj ≡ Err why → run_from at ver (front ++ op ∷ behind) o
    ≡ Err (record { at = place; why = why })
refusal_from at ver [] op behind o r why place is e refused =
    let same : o ≡ r.obj = ap (λ (x : Result Run Refusal). elim x [ Ok r ↦ r.obj | Err e ↦ o ]) e in
    refused_here at ver op behind why (sub op ver o)
    (subst (λ p. sub op ver p ≡ Err why) (sym same) refused)
    ∙ ap (λ n. Err (record { at = n; why = why })) (let h : at ≡ place = omega (arith, is) in h)
refusal_from at ver (x ∷ front) op behind o r why place is e refused =
    by_first at ver front op behind r why place (sub x ver o) e refused
    (λ p u run no. refusal_from (at + 1) ver front op behind p u why place
    (omega (arith, is)) run no)

-- a refused step refuses the whole
pub first_refusal : (front : List SubOp) (op : SubOp) (behind : List SubOp)
    → FirstRefusalRefuses front op behind
first_refusal front op behind =
    λ ver o r why e refused. refusal_from 0 ver front op behind o r why (length front)
    (omega arith) e refused

part_by : (off n : ℕ) (body : List ℕ) → 0 < n → part off n body ≡ take n (drop off body)
part_by off n body some =
    let e : eqb n 0 ≡ false =
    ne-eqb n 0 (λ h. absurd (omega (arith, h))) in
    ap (λ b. cond b (drop off body) (take n (drop off body))) e

-- the part of a body where bytes were written is these bytes
part_written : (off : ℕ) (bytes body : List ℕ) → 0 < length bytes
    → part off (length bytes) (written off bytes body) ≡ bytes
part_written off [] body some = absurd (omega arith)
part_written off (b ∷ bytes) body some =
    let ahead = resized off body in
    let all = b ∷ bytes in
    let behind = drop (off + length all) body in
    part_by off (length all) (ahead ++ all ++ behind) some
    ∙ ap (λ l. take (length all) (drop off l)) (append_assoc ahead all behind)
    ∙ ap (λ n. take (length all) (drop n (ahead ++ (all ++ behind))))
    (sym (length-resized off body))
    ∙ ap (take (length all)) (drop-append_seam ahead (all ++ behind))
    ∙ take-append_seam all behind

-- what was written is read back
pub written_read : (off : ℕ) (bytes : List ℕ) → WrittenIsRead off bytes
written_read off bytes = λ ver o s some e.
    let x = made o in
    let put : leaves (put_body (written off bytes x.body) x) ≡ Ok s =
    within_limit body_limit (off + length bytes) (put_body (written off bytes x.body) x) s
    (nat_lt body_limit (off + length bytes)) refl e in
    let is : record { obj = Some (record x { body = written off bytes x.body }); out = Checked }
    ≡ s = cc in
    subst (λ (s : Step). sub (Read off (length bytes)) ver s.obj
    ≡ Ok (record { obj = s.obj; out = Bytes bytes })) is
    (ap (λ b. Ok (record {
      obj = Some (record x { body = written off bytes x.body });
      out = Bytes b;
    })) (part_written off bytes x.body some))

appended_by : (bytes : List ℕ) (x : Obj) (p : Option Obj) (far : Bool)
    → nat_lt body_limit (length (x.body ++ bytes)) ≡ far
    → left_by (leaves (with_more bytes x)) ≡ Ok p → p ≡ Some (record x { body = x.body ++ bytes })
appended_by bytes x p true f e =
    absurd (let g : left_by (leaves (Err (TooBig body_limit (length (x.body ++ bytes)))))
    ≡ Ok p =
    sym (ap (λ b. left_by (leaves
    (cond b (Err (TooBig body_limit (length (x.body ++ bytes))))
    (put_body (x.body ++ bytes) x)))) f) ∙ e in cc)
appended_by bytes x p false f e =
    let g : left_by (leaves (put_body (x.body ++ bytes) x)) ≡ Ok p =
    sym (ap (λ b. left_by (leaves
    (cond b (Err (TooBig body_limit (length (x.body ++ bytes))))
    (put_body (x.body ++ bytes) x)))) f) ∙ e in cc

-- what an accepted append leaves
appended : (bytes : List ℕ) (x : Obj) (p : Option Obj) → left_by (leaves (with_more bytes x)) ≡ Ok p
    → p ≡ Some (record x { body = x.body ++ bytes })
appended bytes x p e = appended_by bytes x p (nat_lt body_limit (length (x.body ++ bytes))) refl e

-- two appends are one
pub appends_join : (first second : List ℕ) → AppendsJoin first second
appends_join first second = λ ver o p q r e f g.
    let x = made o in
    let one : p ≡ Some (record x { body = x.body ++ first }) = appended first x p e in
    let two : q ≡ Some (record x { body = x.body ++ first ++ second }) =
    appended second (record x { body = x.body ++ first }) q
    (subst (λ p. left_by (leaves (with_more second (made p))) ≡ Ok q) one f) in
    let both : r ≡ Some (record x { body = x.body ++ (first ++ second) }) =
    appended (first ++ second) x r g in
    two ∙ ap (λ b. Some (record x { body = b })) (append_assoc x.body first second) ∙ sym both
