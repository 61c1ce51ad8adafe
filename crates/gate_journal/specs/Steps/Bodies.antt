-- What a record has behind its gate.
use Rattle.std.specs.Prelude.{◌≡◌, ℕ, ◌-◌, List, length, take, drop}
use Rattle.gate_journal.specs.Journals.{behind_gate}

-- the payload of what is written behind a gate
abbrev pub payload_of : List ℕ → List ℕ
payload_of body = take (length body - 5) (drop 4 body)

-- the bytes are all that is written behind the gate of a payload
pub record IsBody (body : List ℕ) : Type 0 where
  pub is : body ≡ behind_gate (payload_of body)
