-- Epochs over runs, and what is refused from then on.
use Rattle.std.proofs.Common.{[], ◌∷◌, sym, subst, arith, inl, inr}
use Rattle.tier_protocol.specs.Tiers.{BaseMsg, BaseReply, Flight}
use Rattle.tier_protocol.specs.Rising.{EpochsRise}
use Rattle.tier_protocol.proofs.Climbs.{epochs_only_rise, rises_join}
use Rattle.tier_protocol.proofs.Truth.{old_refused}
use Rattle.tier_owners.specs.Aging.{EpochsRiseOnRuns, MovesRise, OldStayRefused, ToldStayRefused}
use Rattle.tier_owners.specs.Moving.{System, delivers, acts_there, fills, acts_here, gathers, promotes, cleans, drains, evicts, begins_write, begins, sends_write, sends, lands, loses, stops_cache, stops_base, raises, finds, counts, goes_up, asks, closes}

stays : (s : System) → EpochsRise s.tier.net s.tier.net
stays s = record { cache = omega arith; base = omega arith }

pub moves_rise : MovesRise
moves_rise s u (delivers m on none) = epochs_only_rise.delivers s.tier m
moves_rise s u (acts_there e op r state answer o may) =
    epochs_only_rise.delivers s.tier (BaseMsg.Write e op r)
moves_rise s u (fills m used need limit may) = epochs_only_rise.fills s.tier m used need limit
moves_rise s u (acts_here rec r state answer moment call line may asked free) =
    epochs_only_rise.acts_here s.tier r state moment
moves_rise s u (gathers k call op gather ask x may) =
    epochs_only_rise.gathers s.tier k call op gather ask x
moves_rise s u (promotes k call op gather ask state moment may) =
    epochs_only_rise.promotes s.tier k state moment
moves_rise s u (cleans k call op seq m blocking drain rec may) =
    epochs_only_rise.cleans s.tier k rec
moves_rise s u (drains k call op seq m blocking drain rec may) = epochs_only_rise.drains s.tier k
moves_rise s u (evicts k may) = epochs_only_rise.evicts s.tier k
moves_rise s u (begins_write k driver owner op line r up may asked free) =
    epochs_only_rise.begins s.tier k (Flight.Write driver owner op r)
moves_rise s u (begins k f up may idle) = epochs_only_rise.begins s.tier k f
moves_rise s u (sends_write op r driver owner line f asked) =
    epochs_only_rise.sends s.tier (BaseMsg.Write s.tier.net.cache_epoch op r)
moves_rise s u (sends m may plain) = epochs_only_rise.sends s.tier m
moves_rise s u (lands k driver owner op r a may) = epochs_only_rise.lands s.tier k
moves_rise s u (loses t may) = epochs_only_rise.loses s.tier t may
moves_rise s u stops_cache = epochs_only_rise.stops_cache s.tier
moves_rise s u stops_base = epochs_only_rise.stops_base s.tier
moves_rise s u (raises e may) = epochs_only_rise.raises s.tier e may
moves_rise s u (finds e may) = epochs_only_rise.finds s.tier e may
moves_rise s u (counts may) = epochs_only_rise.counts s.tier
moves_rise s u (goes_up may) = epochs_only_rise.goes_up s.tier
moves_rise s u (asks call a none fresh) = stays s
moves_rise s u (closes call may) = stays s

pub epochs_rise_on_runs : EpochsRiseOnRuns
epochs_rise_on_runs s us run u (inl same) =
    subst (λ x. EpochsRise s.tier.net x.tier.net) (sym same) (stays s)
epochs_rise_on_runs s [] run u (inr on) = absurd on
epochs_rise_on_runs s (v ∷ us) run u (inr on) =
    rises_join s.tier.net v.tier.net u.tier.net (moves_rise s v run.0)
    (epochs_rise_on_runs v us run.1 u on)

pub old_stay_refused : OldStayRefused
old_stay_refused s us run u on m low =
    old_refused u.tier m (omega (arith, low, (epochs_rise_on_runs s us run u on).base))

pub told_stay_refused : ToldStayRefused
told_stay_refused s us e h told run u on =
    let held = h.sound.epochs.told (BaseReply.Fenced e) told in
    let later = (epochs_rise_on_runs s us run u on).base in (
      omega (arith, held, later),
      λ m low. old_refused u.tier m (omega (arith, low, held, later)),
    )
