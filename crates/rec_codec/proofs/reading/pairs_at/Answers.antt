use Rattle.std.proofs.Common.{◌≡◌, ◌-◌, ◌+◌, ℕ, List, [], ◌∷◌, ◌++◌, not, sym, ap, ap₂, subst, ◌∙◌, arith}
use Rattle.std.proofs.lemmas.Result.{err_from_is_err_and}
use Rattle.std.specs.FinMap as fin
use Rattle.std.specs.Ordering.{is_lt}
use Rattle.obj_model.specs.Names.{name_cmp}
use Rattle.rec_codec.specs.Spelling.{Entry}
use Rattle.rec_codec.specs.Reading.{pair_at, pairs_at}
use Rattle.rec_codec.proofs.Loops.{with_front, starts, goes_on, stops, ends, is_done}
use Rattle.rec_codec.proofs.Tables.{IsUnder, nothing_under, nothing_entered, insert_last, under_more}
use Rattle.rec_codec.proofs.reading.pairs_at.Goals as goal

pub loop-init : goal.loop-init
loop-init c =
    let k : c.args.count - 0 ≡ c.args.count = omega arith in
    record {
      so_far = ap (λ (n : ℕ). with_front (fin.entries c.new-table.result) (pairs_at [] n c.args.bytes.now)) k ∙ starts (fin.entries c.new-table.result) (pairs_at [] c.args.count c.args.bytes.now) (nothing_entered c.new-table.result c.new-table.ensures);
      under = nothing_under [] c.new-table.result c.new-table.ensures;
    }

pub returns-in_err-key : goal.returns-in_err-key
returns-in_err-key c =
    let p = err_from_is_err_and c.from_residual.result c.from_residual.ensures.1 in
    rw (p.1, p.2) (ends pair_at (λ e. e.0) (λ last key. is_lt (name_cmp last key)) c.in_err-key.field-0.0 (fin.entries c.loop.table) c.loop.last.now c.args.count c.loop.counter c.loop.rest.now (pairs_at [] c.args.count c.args.bytes.now) c.loop-test.true c.in_err-key.ensures.given c.loop.invariant.so_far)

pub returns-then-is_out_of_order : goal.returns-then-is_out_of_order
returns-then-is_out_of_order c =
    stops pair_at (λ e. e.0) (λ last key. is_lt (name_cmp last key)) (fin.entries c.loop.table) c.loop.last.now c.args.count c.loop.counter c.loop.rest.now (c.in_ok-key.key, c.in_ok-key.value) c.in_ok-key.after.now (pairs_at [] c.args.count c.args.bytes.now) c.loop-test.true c.in_ok-key.ensures.given
    (ap (λ (k : List ℕ). is_lt (name_cmp c.loop.last.now k)) (sym c.in_ok-key.ensures.text) ∙ c.is_out_of_order.ensures ∙ ap not c.if-is_out_of_order.true) c.loop.invariant.so_far

pub loop-preserved : goal.loop-preserved
loop-preserved c =
    let test : is_lt (name_cmp c.loop.last.now c.in_ok-key.key) ≡ not c.is_out_of_order.result = ap (λ (k : List ℕ). is_lt (name_cmp c.loop.last.now k)) (sym c.in_ok-key.ensures.text) ∙ c.is_out_of_order.ensures in
    let above = test ∙ ap not c.if-is_out_of_order.false in
    let entered : fin.entries c.insert.new.self ≡ fin.entries c.loop.table ++ (c.in_ok-key.key, c.in_ok-key.value) ∷ [] = ap fin.entries c.in_ok-insert.ensures.put ∙ insert_last c.loop.last.now c.in_ok-key.key c.in_ok-key.value c.loop.table c.loop.invariant.under above in
    record {
      so_far = ap₂ (λ (es : List Entry) (k : List ℕ). with_front es (pairs_at k (c.args.count - (c.loop.counter + 1)) c.in_ok-key.after.now)) entered c.in_ok-key.ensures.text
          ∙ goes_on pair_at (λ e. e.0) (λ last key. is_lt (name_cmp last key)) (fin.entries c.loop.table) c.loop.last.now c.args.count c.loop.counter c.loop.rest.now (c.in_ok-key.key, c.in_ok-key.value) c.in_ok-key.after.now (pairs_at [] c.args.count c.args.bytes.now) c.loop-test.true c.in_ok-key.ensures.given above c.loop.invariant.so_far;
      under = subst (λ (k : List ℕ). IsUnder k (fin.entries c.insert.new.self)) (sym c.in_ok-key.ensures.text) (subst (λ (es : List Entry). IsUnder c.in_ok-key.key es) (sym entered) (under_more c.loop.last.now c.in_ok-key.key c.in_ok-key.value (fin.entries c.loop.table) c.loop.invariant.under above));
    }

pub returns : goal.returns
returns c = is_done pair_at (λ e. e.0) (λ last key. is_lt (name_cmp last key)) (fin.entries c.loop.table) c.loop.last.now c.args.count c.loop.counter c.loop.rest.now (pairs_at [] c.args.count c.args.bytes.now) c.loop-test.false c.loop.invariant.so_far
