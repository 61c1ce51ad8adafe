-- The epochs of the two pools: each part of a move keeps them sound.
use Rattle.std.proofs.Common.{◌≡◌, ◌<◌, ◌≤◌, ℕ, ◌∷◌, sym, subst, arith, inl, inr}
use Rattle.tier_protocol.specs.Tiers.{BaseMsg, BaseReply, Phase, Net, AreIn}
use Rattle.tier_protocol.specs.Sound.{IsKnown, IsTold, SoundEpochs}

known_as : (base new : ℕ) → base ≤ new → (m : BaseMsg) → IsKnown base m → IsKnown new m
known_as base new later (BaseMsg.Fence e) h = tt
known_as base new later (BaseMsg.GetChunk e op k at) h = omega (arith, later, h)
known_as base new later (BaseMsg.Look e op k v) h = omega (arith, later, h)
known_as base new later (BaseMsg.Write e op r) h = omega (arith, later, h)
known_as base new later (BaseMsg.Install e op k s) h = omega (arith, later, h)

told_as : (base new : ℕ) → base ≤ new → (p : BaseReply) → IsTold base p → IsTold new p
told_as base new later (BaseReply.Fenced e) h = omega (arith, later, h)
told_as base new later (BaseReply.Chunk e op x) h = omega (arith, later, h)
told_as base new later (BaseReply.Looked e op l) h = omega (arith, later, h)
told_as base new later (BaseReply.Wrote e op a) h = omega (arith, later, h)
told_as base new later (BaseReply.Installed e op m) h = omega (arith, later, h)
told_as base new later (BaseReply.NoSpace e op used need limit) h = λ ne. omega (arith, later, h ne)
told_as base new later (BaseReply.OldEpoch have got) h = omega (arith, later, h)
told_as base new later (BaseReply.NotFenced have got) h = h

pub epochs_as : (net new : Net) → (new.phase ≡ Phase.Up → new.base_epoch ≡ new.cache_epoch)
    → (0 < new.cache_epoch → new.base_epoch ≤ new.cache_epoch)
    → net.base_epoch ≤ new.base_epoch → AreIn new.wire net.wire → AreIn new.replies net.replies
    → SoundEpochs net → SoundEpochs new
epochs_as net new level behind later fewer less h = record {
  level = level;
  behind = behind;
  known = λ m on. known_as net.base_epoch new.base_epoch later m (h.known m (fewer m on));
  told = λ p on. told_as net.base_epoch new.base_epoch later p (h.told p (less p on));
}

pub epochs_replied : (net : Net) (p : BaseReply) → SoundEpochs net → IsTold net.base_epoch p
    → SoundEpochs (record net { replies = p ∷ net.replies })
epochs_replied net p h told = record {
  level = h.level;
  behind = h.behind;
  known = h.known;
  told = λ x on. elim on [
    | inl same ↦ subst (IsTold net.base_epoch)
        (sym same) told
    | inr old ↦ h.told x old
  ];
}

pub epochs_sent : (net : Net) (m : BaseMsg) → SoundEpochs net → IsKnown net.base_epoch m
    → SoundEpochs (record net { wire = m ∷ net.wire })
epochs_sent net m h known = record {
  level = h.level;
  behind = h.behind;
  known = λ x on. elim on [
    | inl same ↦ subst (IsKnown net.base_epoch)
        (sym same) known
    | inr old ↦ h.known x old
  ];
  told = h.told;
}
