-- A guard of a pair holds of what a step sees of it.
use Rattle.std.proofs.Common.{◌≡◌, sym, ap, subst, ◌∙◌}
use Rattle.std.specs.FinMap as fin
use Rattle.obj_ops.specs.Stores.{Store}
use Rattle.tier_protocol.specs.Tiers.{Name, BaseMsg, Flight, Recs, TierRec}
use Rattle.tier_protocol.specs.Moves.{MayBegin, MaySend, set_at}
use Rattle.tier_protocol.specs.Sound.{is_dirty}
use Rattle.tier_protocol.proofs.Cells.{get_here}
use Rattle.tier_join.specs.Group.{Memory, tier_of}
use Rattle.tier_join.specs.Seen.{GuardsAreSeen}
use Rattle.tier_join.specs.Steps.{seen, subject}

-- the record that is seen is the pair's
same : (recs : Recs) (k : Name) → fin.get (set_at {X = TierRec} fin.empty k (fin.get recs k)) k ≡ fin.get recs k
same recs k = get_here {X = TierRec} fin.empty k (fin.get recs k)

begins : (m : Memory) (k : Name) (f : Flight) (start : Store) (recs : Recs) (base : Store) → MayBegin (tier_of start m recs base) k f → MayBegin (seen m k (fin.get recs k)) k f
begins m k (Flight.Promote call o gather ask) start recs base may = (may.0, same recs k ∙ may.1, may.2, may.3, may.4)
begins m k (Flight.Write driver owner o r) start recs base may = (may.0, same recs k ∙ may.1, may.2, may.3)
begins m k (Flight.Reads list) start recs base may = (may.0, same recs k ∙ may.1, may.2)
begins m k (Flight.Flush call o seq blocking drain) start recs base may = (may.0, may.1, (may.2.0, same recs k ∙ may.2.1, may.2.2, may.2.3))

sends : (m : Memory) (msg : BaseMsg) (start : Store) (recs : Recs) (base : Store) → MaySend (tier_of start m recs base) msg → MaySend (seen m (subject msg) (fin.get recs (subject msg))) msg
sends m (BaseMsg.Fence e) start recs base may = may
sends m (BaseMsg.GetChunk e op k at) start recs base may = may
sends m (BaseMsg.Look e op k v) start recs base may = may
sends m (BaseMsg.Write e op r) start recs base may = may
sends m (BaseMsg.Install e op k s) start recs base may =
    (may.0, (may.1.0, may.1.1, may.1.2, may.1.3, may.1.4, may.1.5, same recs k ∙ may.1.6, may.1.7))

pub guards_are_seen : GuardsAreSeen
guards_are_seen m k = record {
  acts = λ r q s answer name start recs base may. record {
    up = may.up;
    rec = subst (λ n. fin.get (set_at {X = TierRec} fin.empty k (fin.get recs k)) n ≡ fin.get recs n) (sym name) (same recs k) ∙ may.rec;
    lets = may.lets;
    acts = may.acts;
  };
  cleans = λ call op seq n blocking drain r start recs base may. record { flight = may.flight; reply = may.reply; rec = same recs k ∙ may.rec; same = may.same };
  evicts = λ start recs base may. record { clean = ap is_dirty (same recs k) ∙ may.clean; up = may.up; free = may.free };
  begins = λ f start recs base may. begins m k f start recs base may;
  sends = λ msg name start recs base may. subst (λ n. MaySend (seen m n (fin.get recs n)) msg) name (sends m msg start recs base may);
  promotes = λ call op gather ask s start recs base may. record { flight = may.flight; whole = may.whole };
  gathers = λ call op gather ask x start recs base may. record { flight = may.flight; wanted = may.wanted; reply = may.reply };
  lands = λ driver owner op r a start recs base may. record { flight = may.flight; reply = may.reply };
}
