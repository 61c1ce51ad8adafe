-- How a text is put into the sink, and the status that comes of it.
use Rattle.std.specs.Prelude.{◌≡◌, ◌⊎◌, ℕ, List, Option}
use Rattle.tier_outside.specs.Causes.{Rose}
use Rattle.tier_outside.specs.Streams.{Gains, GainsFront, StreamState}

-- the text was put, and the status is the one that is due then
pub record PutAll (text : List ℕ) (due : ℕ) (old new : StreamState) (status : ℕ) : Type 0 where
  pub ended : status ≡ due
  pub all : Gains old.bytes new.bytes text

-- the sink failed, and has a beginning of the text: status 8
pub record SinkFailed (text : List ℕ) (old new : StreamState) (status : ℕ) : Type 0 where
  pub ended : status ≡ 8
  pub cause : Rose old.faults new.faults
  pub front : GainsFront old.bytes new.bytes text

-- there was no memory for the text, and nothing was put: status 9
pub record LacksText (old new : StreamState) (status : ℕ) : Type 0 where
  pub ended : status ≡ 9
  pub silent : new ≡ old

-- a text that is at hand was put, unless the sink failed
abbrev pub Puts : List ℕ → (due : ℕ) → StreamState → StreamState → (status : ℕ) → Type 0
Puts text due old new status = PutAll text due old new status ⊎ SinkFailed text old new status

-- a text was made and put, unless the sink failed or memory lacked
abbrev pub MakesAndPuts : List ℕ → (due : ℕ) → StreamState → StreamState → (status : ℕ) → Type 0
MakesAndPuts text due old new status = Puts text due old new status ⊎ LacksText old new status

-- the sink took bytes of which this holds
abbrev pub Took : Option (List ℕ) → Option (List ℕ) → (List ℕ → Type 0) → Type 0
Took held_old held_new P = (put : List ℕ) × Gains held_old held_new put × P put
