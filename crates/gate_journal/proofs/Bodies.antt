-- How a record is made in the buffer of its payload.
use Rattle.std.specs.Prelude.{◌≡◌, ◌-◌, ℕ, List, [], ◌∷◌, ◌++◌, length, drop}
use Rattle.std.proofs.Common.{◌∙◌, sym, ap}
use Rattle.std.proofs.lemmas.List.{length-drop}
use Rattle.byteorder.specs.Endian.{big_bytes}
use Rattle.gate_journal.specs.Journals.{behind_gate}
use Rattle.std.proofs.Math.Seq.{drop-append_seam}

-- what is behind the place of a length is the payload
pub payload_behind : (place payload : List ℕ) → length place ≡ 4
    → behind_gate (drop 4 (place ++ payload)) ≡ behind_gate payload
payload_behind place payload four =
    ap behind_gate (ap (λ n. drop n (place ++ payload)) (sym four)
    ∙ drop-append_seam place payload)

-- a length in its place, and a gate behind all, are what is written behind a gate
pub sealed_is : (buffer : List ℕ) (size : ℕ) → size ≡ length buffer - 4
    → big_bytes 4 size ++ drop 4 buffer ++ 0 ∷ [] ≡ behind_gate (drop 4 buffer)
sealed_is buffer size is =
    ap (λ n. big_bytes 4 n ++ drop 4 buffer ++ 0 ∷ []) (is ∙ sym (length-drop 4 buffer))
