-- What is over stays over, in every later moment of every run.
use Rattle.std.specs.Prelude.{◌≡◌, ◌≤◌, ◌<◌, ℕ, List, ◌∷◌}
use Rattle.tier_types.specs.Serving.{epoch_in}
use Rattle.tier_protocol.specs.Tiers.{BaseMsg, BaseReply, IsIn}
use Rattle.tier_protocol.specs.Moves.{delivered, with_reply}
use Rattle.tier_protocol.specs.Rising.{EpochsRise}
use Rattle.tier_owners.specs.Moving.{IsHeld, IsRun, Moves, System}

-- no move takes an epoch back
abbrev pub MovesRise : Type 0
MovesRise = (s u : System) → Moves s u → EpochsRise s.tier.net u.tier.net

-- nor does a run of them, in any moment
abbrev pub EpochsRiseOnRuns : Type 0
EpochsRiseOnRuns =
    (s : System) (us : List System) → IsRun s us → (u : System) → IsIn u (s ∷ us)
    → EpochsRise s.tier.net u.tier.net

-- A base that holds an epoch now refuses each message of a lower one in this moment and in any
-- later one of any run: nothing comes of it but the reply that its epoch is over.
abbrev pub OldStayRefused : Type 0
OldStayRefused =
    (s : System) (us : List System) → IsRun s us → (u : System) → IsIn u (s ∷ us)
    → (m : BaseMsg) → epoch_in m < s.tier.net.base_epoch
    → delivered m u.tier ≡ with_reply (BaseReply.OldEpoch u.tier.net.base_epoch (epoch_in m)) u.tier

-- A base that told an epoch holds it, or a later one. So once it told one, each message of a lower
-- one changes nothing, now and in any later moment of any run.
abbrev pub ToldStayRefused : Type 0
ToldStayRefused =
    (s : System) (us : List System) (e : ℕ) → IsHeld s
    → IsIn (BaseReply.Fenced e) s.tier.net.replies → IsRun s us → (u : System) → IsIn u (s ∷ us)
    → (e ≤ u.tier.net.base_epoch)
    × ((m : BaseMsg) → epoch_in m < e
    → delivered m u.tier
    ≡ with_reply (BaseReply.OldEpoch u.tier.net.base_epoch (epoch_in m)) u.tier)
