-- Streams of bytes: what a source has left, what a sink holds, and which calls of the memory forms
-- fail.
use Rattle.std.specs.Prelude.{◌≡◌, ◌↔◌, ℕ, ◌<◌, ◌≤◌, true, false, List, [], ◌++◌, length, take, Option, Some, None, option_map, Result, IfOk, IfSome, MatchResult}
use Rattle.std.specs.Io.KnownBytes.{Appends}
use Rattle.tier_outside.specs.Causes.{one_more, is_listed}

-- Where a source tells, the piece was the front of what was left. It tells before exactly where it
-- tells after.
abbrev pub Loses : Option (List ℕ) → Option (List ℕ) → List ℕ → Type 0
Loses old new piece = old ≡ option_map (λ rest. piece ++ rest) new

-- A fill gave the front of what was left, as the front of the buffer; a failed one lost nothing.
abbrev pub Gives : {E : Type 0} → Option (List ℕ) → Option (List ℕ) → List ℕ → Result ℕ E → Type 0
Gives old new buf result = MatchResult result (λ count. Loses old new (take count buf))
    (λ _. new ≡ old)

-- Where a source tells, a buffer with room got nothing exactly where nothing was left.
abbrev pub EndsAtEnd : {E : Type 0} → Option (List ℕ) → List ℕ → Result ℕ E → Type 0
EndsAtEnd old buf result = IfOk result
    (λ count. IfSome old (λ bytes. 0 < length buf → ((count ≡ 0) ↔ (bytes ≡ []))))

-- Where a sink tells, the piece came behind what it held. It tells before exactly where it tells
-- after.
abbrev pub Gains : Option (List ℕ) → Option (List ℕ) → List ℕ → Type 0
Gains old new piece = new ≡ option_map (λ bytes. bytes ++ piece) old

-- Where a sink tells, a front of these bytes came behind what it held: none of them, all, or any
-- between.
pub record GainsFront (old new : Option (List ℕ)) (bytes : List ℕ) : Type 0 where
  pub count : ℕ
  pub within : count ≤ length bytes
  pub gained : Gains old new (take count bytes)

-- A put took the whole piece; a failed one took a front of it.
abbrev pub Puts : {E : Type 0} → Option (List ℕ) → Option (List ℕ) → List ℕ → Result (Unit {0}) E
    → Type 0
Puts old new piece result = MatchResult result (λ _. Gains old new piece)
    (λ _. GainsFront old new piece)

-- a call fails exactly where its number is listed; the calls so far were this many
abbrev pub FailsWhereListed : {T E : Type 0} → List ℕ → ℕ → Result T E → Type 0
FailsWhereListed fails calls result = MatchResult result
    (λ _. is_listed (one_more calls) fails ≡ false) (λ _. is_listed (one_more calls) fails ≡ true)

-- a source in memory: the bytes left, the numbers of the calls that fail, the calls and the faults
-- so far
pub record SourceState : Type 0 where
  pub left : List ℕ
  pub fails : List ℕ
  pub calls : ℕ
  pub faults : ℕ

-- a sink in memory: the bytes it holds, the numbers of the calls that fail, the calls and the
-- faults so far
pub record SinkState : Type 0 where
  pub held : List ℕ
  pub fails : List ℕ
  pub calls : ℕ
  pub faults : ℕ

-- what is told now, where it was told at the start
abbrev pub told_since : Option (List ℕ) → Option (List ℕ) → Option (List ℕ)
told_since None now = None
told_since (Some start) now = now

-- A writer's known bytes grew by the whole piece, or by some front of it where this failed.
abbrev pub Writes : {E : Type 0} → Option (List ℕ) → Option (List ℕ) → List ℕ → Result (Unit {0}) E
    → Type 0
Writes old new piece result = MatchResult result (λ _. Appends old new piece)
    (λ _. (count : ℕ) × (count ≤ length piece) × Appends old new (take count piece))

-- an adapter over a reader or a writer: the bytes left or held, where they are told, and the faults
-- so far
pub record StreamState : Type 0 where
  pub bytes : Option (List ℕ)
  pub faults : ℕ
