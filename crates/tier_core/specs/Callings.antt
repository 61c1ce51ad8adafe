-- A call is entered, or refused.
use Rattle.std.specs.Prelude.{◌≡◌, ◌+◌, ℕ, Option, Some, IsSome}
use Rattle.obj_model.specs.Limits.{number_limit}
use Rattle.tier_chron.specs.declared.asked.Asked.{Asked}
use Rattle.tier_core.specs.Held.{IsFullFor, IsFullWith, IsWorn}
use Rattle.tier_core.specs.Steps.{IsStep}
use Rattle.tier_core.specs.declared.calling.Opened.{Opened}
use Rattle.tier_core.specs.declared.calling.Opened.TheVariants.{Call, Full, Worn, NoMemory}
use Rattle.tier_view.specs.Steps.{opened_call}
use Rattle.tier_view.specs.Views.{GroupView}

-- a call on this line is not refused
pub record MayOpen (line : Option ℕ) (v : GroupView) : Type 0 where
  pub room : IsFullFor line v → ⊥
  pub fresh : IsWorn v → ⊥

-- it was entered
pub record IsOpened (line : Option ℕ) (asked : Asked) (old new : GroupView) (number : ℕ) : Type 0
  where
    pub may : MayOpen line old
    pub number_is : number ≡ old.calls.last + 1
    pub is : new ≡ opened_call line asked old
    pub step : IsStep (Some (record { line = line; asked = asked })) old new

-- Why a call on this line is refused: the history is full, which is tried first, and only for a
-- line; or numbers have come to their end.
abbrev pub Refuses : (line : Option ℕ) → GroupView → Opened → Type 0
Refuses line v (Full entries bytes) =
    IsSome line × IsFullWith v (record { entries = entries; bytes = bytes })
Refuses line v (Worn limit) = (IsFullFor line v → ⊥) × IsWorn v × (limit ≡ number_limit)
Refuses line v (Call number) = ⊥
Refuses line v NoMemory = ⊥

-- a call is entered exactly where nothing refuses it, but for memory; else nothing changes
abbrev pub Opens : (line : Option ℕ) → Asked → (old new : GroupView) → Opened → Type 0
Opens line asked old new (Call number) = IsOpened line asked old new number
Opens line asked old new (Full entries bytes) = Refuses line old (Full entries bytes) × (new ≡ old)
Opens line asked old new (Worn limit) = Refuses line old (Worn limit) × (new ≡ old)
Opens line asked old new NoMemory = MayOpen line old × (new ≡ old)
