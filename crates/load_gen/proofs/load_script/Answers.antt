use Rattle.std.proofs.Common.{◌≡◌, ◌∙◌, ap, ◌++◌, sym, List, ℕ, ◌+◌, add-one, arith}
use Rattle.load_gen.specs.Script.{following, state_at, line_of, script_of}
use Rattle.load_gen.proofs.Lines.{script_more}
use Rattle.load_gen.proofs.load_script.Goals as goal

pub loop-place-preserved : goal.loop-place-preserved
loop-place-preserved c =
    let place = c.loop-place.place in
    let start = c.args.start in
    let state : c.next_state-state.result ≡ state_at start (place + 1) = rw add-one (c.next_state-state.ensures ∙ ap following c.loop-place.invariant.state) in
    record {
      script = c.in_ok-push_line.ensures
          ∙ ap (λ (text : List ℕ). text ++ line_of (place + 1) c.next_state-state.result) c.loop-place.invariant.script
          ∙ ap (λ (x : ℕ). script_of place start ++ line_of (place + 1) x) state
          ∙ sym (script_more place start);
      state = state;
    }

pub returns : goal.returns
returns c =
    let all : c.loop-place.place ≡ c.args.count = omega arith in
    ap (λ v. v.items) c.into_bytes.ensures.value ∙ c.loop-place.invariant.script ∙ ap (λ (k : ℕ). script_of k c.args.start) all
