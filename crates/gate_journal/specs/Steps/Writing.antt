-- How a record is added and a gate closed, and what a stop leaves meanwhile.
use Rattle.std.specs.Prelude.{◌≡◌, ◌⊎◌, ℕ, ◌+◌, List, [], ◌∷◌, length}
use Rattle.tier_outside.specs.Disk.{DiskMoment, IsImage, settled, written, StopsIn}
use Rattle.gate_journal.specs.Journals.{IsClosed}

-- these bytes are written behind a gate
abbrev pub staged : ℕ → List ℕ → List ℕ → List ℕ
staged gate body old = written (gate + 1) body old

-- these bytes are written behind a gate, and then the gate is opened
abbrev pub opened : ℕ → List ℕ → List ℕ → List ℕ
opened gate body old = written gate (1 ∷ []) (staged gate body old)

-- What a stop leaves while a record is added: before all is settled behind the gate nothing else is
-- touched, and then nothing but the gate.
abbrev pub AddStops : ℕ → List ℕ → DiskMoment → List ℕ → Type 0
AddStops gate body d image =
    StopsIn (gate + 1) (length body) d image
    ⊎ (StopsIn (gate + 1) (length body) d (staged gate body d.content)
    × StopsIn gate 1 (settled (staged gate body d.content)) image)

-- what a stop leaves while a gate is closed, which is written only where it did not read as closed
pub record GateStops (at : ℕ) (d : DiskMoment) (image : List ℕ) : Type 0 where
  pub stops : StopsIn at 1 d image
  pub opening : ¬ IsClosed d.content at
  pub read : IsImage d d.content

-- a gate was closed: it was so already, or it was written and settled
pub record GateCloses (at : ℕ) (d e : DiskMoment) : Type 0 where
  pub closed : IsClosed e.content at
  pub either : (e ≡ d) ⊎ ((e ≡ settled (written at (0 ∷ []) d.content))
      × StopsIn at 1 d (written at (0 ∷ []) d.content))
