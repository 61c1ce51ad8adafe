-- A pair by its parts.
use Rattle.std.specs.Prelude.{ℕ, Bool, List}
use Rattle.obj_model.specs.declared.req.Req.{Req}
use Rattle.obj_ops.specs.Stores.{Store}
use Rattle.tier_protocol.specs.Tiers.{BaseMsg, BaseReply, Flights, Phase, Recs, Tier}

abbrev pub pair_at : Recs → Store → Flights → Store → List Req → List BaseMsg → List BaseReply
    → (cache base next : ℕ)
    → Phase → Bool → Tier
pair_at recs base flights opening acts wire replies cache_epoch base_epoch next phase fenced =
    record {
      recs = recs;
      base = base;
      flights = flights;
      opening = opening;
      acts = acts;
      net = record {
        wire = wire;
        replies = replies;
        cache_epoch = cache_epoch;
        base_epoch = base_epoch;
        next_opid = next;
        phase = phase;
        fenced = fenced;
      };
    }
