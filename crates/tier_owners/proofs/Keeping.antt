-- Each move keeps what holds, and so does each run.
use Rattle.std.proofs.Common.{false, List, [], ◌∷◌, ◌++◌, Some, None, refl, sym, subst, inl, inr}
use Rattle.tier_protocol.specs.Tiers.{Flight, Tier, BaseMsg, IsIn}
use Rattle.tier_protocol.specs.Sound.{IsSound}
use Rattle.tier_protocol.specs.Moves.{filled}
use Rattle.tier_protocol.specs.Owners.{Quiet, SoundOwners}
use Rattle.tier_protocol.proofs.Delivers.{delivering, filling}
use Rattle.tier_protocol.proofs.Owners.{acts_for, losses_quiet, quiet_keeps}
use Rattle.tier_protocol.proofs.Steps.{acting, beginning, cleaning, counting, evicting, finding, gathering, going_up, landing, losing, promoting, raising, sending, stopping}
use Rattle.tier_owners.specs.Moving.{IsHeld, IsRun, Moves, System, with_tier, delivers, acts_there, fills, acts_here, gathers, promotes, cleans, drains, evicts, begins_write, begins, sends_write, sends, lands, loses, stops_cache, stops_base, raises, finds, counts, goes_up, asks, closes}
use Rattle.tier_owners.specs.Runs.{MovesKeep, RunsKeep}
use Rattle.tier_owners.proofs.Acting.{acting_owned}
use Rattle.tier_owners.proofs.Closing.{asking_owned, closing_owned}
use Rattle.tier_owners.proofs.Effects.{answered_still, effect}
use Rattle.tier_owners.proofs.Quiets.{counting_keeps, quiet_at, quiet_begun, quiet_found, quiet_held, quiet_raised, quiet_rec, quiet_replied, quiet_same, quiet_up}
use Rattle.tier_owners.proofs.Sending.{beginning_owned, sending_owned, writing_owned}
use Rattle.tier_owners.proofs.Delivering.{delivering_owned}

-- the pair is sound, and each Write has its owner
abbrev IsKept : System → Type 0
IsKept s = IsSound s.tier × SoundOwners s.tier s.ledger

-- a quiet move that keeps the pair sound keeps all
quietly : (s : System) (t : Tier) → IsHeld s → IsSound t → Quiet s.tier t → IsKept (with_tier s t)
quietly s t h sound quiet = (sound, quiet_keeps s.tier t s.ledger h.owners quiet)

two_keep : (s u : System) → IsHeld s → Moves s u → IsKept u
two_keep s u h (delivers m on none) = (
  delivering s.tier m h.sound on,
  delivering_owned s.tier s.ledger m h.sound h.owners on none,
)
two_keep s u h (acts_there e op r state answer o may) = (
  delivering s.tier (BaseMsg.Write e op r) h.sound may.on,
  (acts_for s.tier s.ledger e op r state answer o h.sound h.owners may.on may.level may.acts
      may.owned (may.epoch, may.opid, may.req)).1,
)
two_keep s u h (fills m used need limit may) =
    quietly s (filled m used need limit s.tier) h (filling s.tier m used need limit h.sound may)
    (quiet_replied s.tier _ (λ e op answer same. absurd (cc)))
two_keep s u h (acts_here rec r state answer moment call line may asked free) = (
  acting s.tier rec r state answer moment h.sound may,
  acting_owned s.tier s.ledger rec r state answer moment call line h.sound h.owners may asked free,
)
two_keep s u h (gathers k call op gather ask x may) =
    quietly s _ h (gathering s.tier k call op gather ask x h.sound may)
    (quiet_at s.tier k (Some (Flight.Promote call op (gather ++ x ∷ []) ask)) refl)
two_keep s u h (promotes k call op gather ask state moment may) =
    quietly s _ h (promoting s.tier k call op gather ask state moment h.sound may).0
    (quiet_held s.tier k (Some (record { state = state; dirty = false; mtime = moment })))
two_keep s u h (cleans k call op seq m blocking drain rec may) =
    quietly s _ h (cleaning s.tier k call op seq m blocking drain rec h.sound may).0
    (quiet_held s.tier k (Some (record rec { dirty = false })))
two_keep s u h (drains k call op seq m blocking drain rec may) =
    quietly s _ h (cleaning s.tier k call op seq m blocking drain rec h.sound may).1
    (quiet_held s.tier k None)
two_keep s u h (evicts k may) =
    quietly s _ h (evicting s.tier k h.sound may) (quiet_rec s.tier s.tier k None
    (quiet_same s.tier))
two_keep s u h (begins_write k driver owner op line r up may asked free) = (
  beginning s.tier k _ h.sound up may,
  beginning_owned s.tier s.ledger k driver owner op line r h.sound h.owners may asked free,
)
two_keep s u h (begins k f up may idle) =
    quietly s _ h (beginning s.tier k f h.sound up may) (quiet_begun s.tier k f idle)
two_keep s u h (sends_write op r driver owner line f asked) = (
  sending s.tier (BaseMsg.Write s.tier.net.cache_epoch op r) h.sound (
    refl,
    (driver, owner, f),
  ),
  writing_owned s.tier s.ledger s.tier.net.cache_epoch op r driver owner line h.sound h.owners refl
      f asked,
)
two_keep s u h (sends m may plain) = (
  sending s.tier m h.sound may,
  sending_owned s.tier s.ledger m h.sound h.owners may plain,
)
two_keep s u h (lands k driver owner op r a may) =
    quietly s _ h (landing s.tier k driver owner op r a h.sound may) (quiet_at s.tier k None refl)
two_keep s u h (loses t may) =
    quietly s t h (losing s.tier t h.sound may) ((losses_quiet s.tier h.sound).0 t may)
two_keep s u h stops_cache =
    quietly s _ h (stopping s.tier h.sound).0 (losses_quiet s.tier h.sound).1
two_keep s u h stops_base =
    quietly s _ h (stopping s.tier h.sound).1 (losses_quiet s.tier h.sound).2
two_keep s u h (raises e may) =
    quietly s _ h (raising s.tier e h.sound may) (quiet_raised s.tier e h.sound may)
two_keep s u h (finds e may) =
    quietly s _ h (finding s.tier e h.sound may).0 (quiet_found s.tier e h.sound may)
two_keep s u h (counts may) = (
  counting s.tier h.sound may,
  counting_keeps s.tier s.ledger h.sound h.owners may,
)
two_keep s u h (goes_up may) = quietly s _ h (going_up s.tier h.sound may).0 (quiet_up s.tier)
two_keep s u h (asks call a none fresh) = (
  h.sound,
  asking_owned s.tier s.ledger call a h.owners none,
)
two_keep s u h (closes call may) = (
  h.sound,
  closing_owned s.tier s.ledger call h.owners may,
)

pub moves_keep : MovesKeep
moves_keep s u h m =
    let kept = two_keep s u h m in
    record { sound = kept.0; owners = kept.1; answered = answered_still s u h (effect s u m) }

-- ---- runs

run_keeps : (us : List System) (s : System) → IsHeld s → IsRun s us → (u : System) → IsIn u us
    → IsHeld u
run_keeps [] s h run u on = absurd on
run_keeps (v ∷ us) s h run u (inl same) = subst IsHeld (sym same) (moves_keep s v h run.0)
run_keeps (v ∷ us) s h run u (inr on) = run_keeps us v (moves_keep s v h run.0) run.1 u on

pub runs_keep : RunsKeep
runs_keep s us h run u on = run_keeps us s h run u on
