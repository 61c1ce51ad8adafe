-- The moves of stops and starts, and what a pair stands for.
use Rattle.std.proofs.Common.{◌≡◌, ◌≢◌, ◌≤◌, ◌⊎◌, ℕ, Bool, true, false, Option, Some, None, refl, sym, ap, subst, ◌∙◌, arith, inl, inr}
use Rattle.std.specs.FinMap as fin
use Rattle.obj_model.specs.Names.{name_cmp}
use Rattle.obj_model.specs.declared.req.Req.{Req}
use Rattle.obj_model.specs.declared.state.NameState.{NameState}
use Rattle.obj_ops.specs.Stores.{Store, state_of}
use Rattle.tier_types.specs.Flights.{HasOpid, is_bare}
use Rattle.tier_protocol.specs.Tiers.{Name, Flight, TierRec, BaseMsg, BaseReply, Phase, Recs, Net, Tier, Cell, IsIn, cell_of}
use Rattle.tier_protocol.specs.Memory.{IsGiven, IsReplied, IsSent, SoundFlight}
use Rattle.tier_protocol.specs.Sound.{IsBehind, IsHarmless, IsKnown, IsSound, IsTold, Shows, SoundAt, is_dirty}
use Rattle.tier_protocol.specs.Moves.{epoch_found, stopped_cache, with_net}
use Rattle.tier_protocol.specs.Laws.{BaseAlone, CountingKeeps, EachStands, FindingKeeps, FoundIsSound, GoingUpKeeps, HistoryIsLegal, IsRecordOf, IsStanding, RaisingKeeps, SoundStands, StoppingKeeps, found}
use Rattle.tier_protocol.proofs.Memory.{all_in, free_as, free_unless_up, memory_found, memory_raised, memory_stopped, memory_unfenced, memory_up}
use Rattle.tier_protocol.proofs.Epochs.{epochs_as}
use Rattle.tier_protocol.proofs.Names.{at_as, at_free, at_up}

-- ---- stops and starts

-- no name has work after a stop
stopped_cell : (t : Tier) (n : Name) → cell_of (stopped_cache t) n ≡ record
    (cell_of t n) { flight = None }
stopped_cell t n = ap {A = Option Flight} {B = Cell} (λ o. record (cell_of t n) { flight = o })
    (fin.get-empty {X = Flight} name_cmp n)

stops_cache : (t : Tier) → IsSound t → IsSound (stopped_cache t)
stops_cache t h = record {
  memory = memory_stopped t.flights t.net h.memory;
  legal = h.legal;
  epochs = epochs_as t.net new (λ up. absurd (cc)) h.epochs.behind (omega arith) (all_in t.net.wire)
      (all_in t.net.replies) h.epochs;
  names = λ n. subst (λ c. SoundAt n c new) (sym (stopped_cell t n)) (at_free n
      (cell_of t n) t.net new (h.names n) (still n) (omega arith) (all_in t.net.wire));
}
  where
    new : Net
    new = record t.net { phase = Phase.Down; fenced = false }

    still : (n : Name) (x : Req) → IsHarmless n (cell_of t n) t.net x
        → IsHarmless n (record (cell_of t n) { flight = None }) new x
    still n x (inl living) = inr (inl (λ e. absurd (cc), (h.names n).bare (ap is_bare living.3)))
    still n x (inr (inl stopped)) = inr (inl (λ e. absurd (cc), stopped.1))
    still n x (inr (inr spent)) = inr (inr spent)

stops_base : (t : Tier) → IsSound t → IsSound (with_net (record t.net { fenced = false }) t)
stops_base t h = record {
  memory = memory_unfenced t.flights t.net h.memory;
  legal = h.legal;
  epochs = epochs_as t.net new h.epochs.level h.epochs.behind (omega arith) (all_in t.net.wire)
      (all_in t.net.replies) h.epochs;
  names = λ n. at_as n (cell_of t n) t.net new refl (omega arith) (λ up. up) (all_in t.net.wire)
      (all_in t.net.replies) (h.names n);
}
  where
    new : Net
    new = record t.net { fenced = false }

pub stopping : StoppingKeeps
stopping t h = (stops_cache t h, stops_base t h)

-- one name, where the cache stays down or goes on to be raised
at_down : (t : Tier) (n : Name) (new : Net) → IsSound t → t.net.phase ≢ Phase.Up
    → new.phase ≢ Phase.Up → new.base_epoch ≡ t.net.base_epoch → new.wire ≡ t.net.wire
    → SoundAt n (cell_of t n) new
at_down t n new h down still_down same wire =
    subst (λ f. SoundAt n (record (cell_of t n) { flight = f }) new) (sym free)
    (at_free n (cell_of t n) t.net new (h.names n) still (omega (arith, same)) (λ m on. subst
    (IsIn m) wire on))
  where
    free : (cell_of t n).flight ≡ None
    free = free_unless_up n (cell_of t n).flight t.net (h.memory.each n) down

    still : (x : Req) → IsHarmless n (cell_of t n) t.net x → IsHarmless n (record
        (cell_of t n) { flight = None }) new x
    still x (inl living) = let g = living.3 in let none = free in absurd (cc)
    still x (inr (inl stopped)) = inr (inl (still_down, stopped.1))
    still x (inr (inr (inl worn))) = inr (inr (inl worn))
    still x (inr (inr (inr k))) = inr (inr (inr (
      k.0,
      k.1,
      λ e op s on above. k.2 e op s (subst
          (IsIn (BaseMsg.Install e op n s)) wire on) above,
    )))

pub raising : RaisingKeeps
raising t e h may = record {
  memory = memory_raised t.flights t.net e h.memory may.stopped may.later;
  legal = h.legal;
  epochs = epochs_as t.net new (λ up. absurd (cc)) (λ some. omega (arith, may.above)) (omega arith)
      (all_in t.net.wire) (all_in t.net.replies) h.epochs;
  names = λ n. at_down t n new h may.stopped (λ up. absurd (cc)) refl refl;
}
  where
    new : Net
    new = record t.net { cache_epoch = e; next_opid = 1; phase = Phase.Raised; fenced = false }

pub counting : CountingKeeps
counting t h may = record {
  memory = record {
    wire = record {
      begun = λ d. omega (arith, may.above);
      fenced = λ f. absurd (cc);
      from_one = omega arith;
      sent = λ m on. sent m (h.memory.wire.sent m on) (h.epochs.known m on);
      replied = λ p on. replied p on;
    };
    apart = h.memory.apart;
    each = λ n. free_work n;
  };
  legal = h.legal;
  epochs = epochs_as t.net new (λ up. absurd (cc)) h.epochs.behind (omega arith) (all_in t.net.wire)
      (all_in t.net.replies) h.epochs;
  names = λ n. at_down t n new h down (λ up. absurd (cc)) refl refl;
}
  where
    new : Net
    new = record t.net { next_opid = 1; phase = Phase.Raised; fenced = false }

    down : t.net.phase ≢ Phase.Up
    down = λ up. let d = may.down in absurd (cc)

    given : (e op : ℕ) → e ≤ t.net.base_epoch → IsGiven new e op
    given e op low = record {
      begun = omega (arith, low, may.above);
      silent = λ r. omega
          (arith, low, may.above);
      counted = λ same. absurd (omega (arith, low, may.above, same));
    }

    sent : (m : BaseMsg) → IsSent t.net m → IsKnown t.net.base_epoch m → IsSent new m
    sent (BaseMsg.Fence e) s k = s
    sent (BaseMsg.GetChunk e op n at) s k = given e op k
    sent (BaseMsg.Look e op n v) s k = given e op k
    sent (BaseMsg.Write e op r) s k = given e op k
    sent (BaseMsg.Install e op n x) s k = given e op k

    by : (p : BaseReply) → IsReplied t.net p → IsTold t.net.base_epoch p → IsReplied new p
    by (BaseReply.Fenced e) s k = s
    by (BaseReply.Chunk e op x) s k = given e op k
    by (BaseReply.Looked e op l) s k = given e op k
    by (BaseReply.Wrote e op a) s k = given e op k
    by (BaseReply.Installed e op m) s k = given e op k
    by (BaseReply.NoSpace e op used need limit) s k = (s.0, λ ne. given e op (k ne))
    by (BaseReply.OldEpoch have got) s k = s
    by (BaseReply.NotFenced have got) s k = s

    replied : (p : BaseReply) → IsIn p t.net.replies → IsReplied new p
    replied p on = by p (h.memory.wire.replied p on) (h.epochs.told p on)

    free_work : (n : Name) → SoundFlight n (cell_of t n).flight new
    free_work n = free_as n (cell_of t n).flight t.net new (free_unless_up n
        (cell_of t n).flight t.net (h.memory.each n) down)

pub finding : FindingKeeps
finding t e h may = (
  first,
  counting (epoch_found e t) first
      (record { down = refl; above = may.above }),
)
  where
    new : Net
    new = record t.net { cache_epoch = e; phase = Phase.Down; fenced = false }

    first : IsSound (epoch_found e t)
    first = record {
      memory = memory_found t.flights t.net e h.memory may.stopped may.later;
      legal = h.legal;
      epochs = epochs_as t.net new (λ up. absurd (cc)) (λ some. omega (arith, may.above))
          (omega arith) (all_in t.net.wire) (all_in t.net.replies) h.epochs;
      names = λ n. at_down t n new h may.stopped (λ up. absurd (cc)) refl refl;
    }

up_or_raised : (p : Phase) → p ≢ Phase.Down → (p ≡ Phase.Up) ⊎ (p ≡ Phase.Raised)
up_or_raised Phase.Down ne = absurd (ne refl)
up_or_raised Phase.Raised ne = inr refl
up_or_raised Phase.Up ne = inl refl

pub going_up : GoingUpKeeps
going_up t h may =
    let told : t.net.cache_epoch ≤ t.net.base_epoch = h.epochs.told
    (BaseReply.Fenced t.net.cache_epoch) may.reply in
    let low : t.net.base_epoch ≤ t.net.cache_epoch = h.epochs.behind
    (h.memory.wire.begun may.raised) in (
      record {
        memory = memory_up t.flights t.net h.memory may.raised;
        legal = h.legal;
        epochs = epochs_as t.net new (λ up. omega (arith, told, low)) h.epochs.behind (omega arith)
            (all_in t.net.wire) (all_in t.net.replies) h.epochs;
        names = λ n. elim (up_or_raised t.net.phase may.raised) [
          | inl up ↦ at_as n (cell_of t n) t.net new refl (omega arith) (λ is. up)
              (all_in t.net.wire) (all_in t.net.replies) (h.names n)
          | inr raised ↦ at_up n (cell_of t n) t.net (h.names n)
              (λ e op r on. let sent : IsGiven t.net e op = h.memory.wire.sent
              (BaseMsg.Write e op r) on in omega (arith, sent.silent raised, told))
        ];
      },
      omega (arith, told, low),
    )
  where
    new : Net
    new = record t.net { phase = Phase.Up; fenced = true }

-- ---- what a pair stands for

found_cell : (recs : Recs) (base plain : Store) (e f : ℕ) (n : Name)
    → cell_of (found recs base plain e f) n ≡ record {
      rec = fin.get recs n;
      base = state_of base n;
      plain = state_of plain n;
      flight = None;
    }
found_cell recs base plain e f n = ap {A = Option Flight} {B = Cell}
    (λ o. record {
      rec = fin.get recs n;
      base = state_of base n;
      plain = state_of plain n;
      flight =
          o;
    }) (fin.get-empty {X = Flight} name_cmp n)

pub found_sound : FoundIsSound
found_sound recs base plain e f h low = record {
  memory = record {
    wire = record {
      begun = λ down. absurd (down refl);
      fenced = λ f. absurd
          (cc);
      from_one = omega arith;
      sent = λ m on. absurd on;
      replied = λ p on. absurd on;
    };
    apart = λ n m op has have. absurd (subst (λ x. HasOpid x op)
        (fin.get-empty {X = Flight} name_cmp n) has);
    each = λ n. free_as n (fin.get fin.empty n) net net (fin.get-empty {X = Flight} name_cmp n);
  };
  legal = tt;
  epochs = record {
    level = λ up. absurd
        (cc);
    behind = low;
    known = λ m on. absurd on;
    told = λ p on. absurd on;
  };
  names = λ n. subst (λ c. SoundAt n c net) (sym (found_cell recs base plain e f n)) (record {
    base = h.behind n;
    clean = h.clean n;
    shows = h.shows n;
    few = h.few n;
    bare = λ b. absurd (cc);
    gathered = λ call op gather ask g. absurd (cc);
    flushed = λ call op seq b d g. absurd (cc);
    floor = λ call op seq b d s g. absurd (cc);
    told = λ p on. absurd on;
    writes = λ g op r on. absurd on;
    installs = λ g op t on. absurd on;
  });
}
  where
    net : Net
    net = (found recs base plain e f).net

pub sound_stands : SoundStands
sound_stands t h = record {
  behind = λ n. (h.names n).base;
  clean = λ n.
      (h.names n).clean;
  shows = λ n. (h.names n).shows;
  few = λ n. (h.names n).few;
}

standing : (rec : Option TierRec) (b s : NameState) → IsBehind b s → (is_dirty rec ≡ false → b ≡ s)
    → Shows rec s → IsStanding rec b s
standing None b s behind clean shows = sym (clean refl)
standing (Some r) b s behind clean shows = by r.dirty refl
  where
    by : (d : Bool) → r.dirty ≡ d → IsRecordOf d r.state b s
    by true e = (
      shows,
      omega (arith, behind.behind, ap (λ x. x.seq) shows),
      λ same. behind.level
          (same ∙ ap (λ x. x.seq) shows) ∙ sym shows,
    )
    by false e = (shows ∙ sym (clean e), clean e)

pub each_stands : EachStands
each_stands t n h = let at = h.names n in standing (cell_of t n).rec (cell_of t n).base
    (cell_of t n).plain at.base at.clean at.shows

pub base_alone : BaseAlone
base_alone t h none k = (h.names k).clean (ap is_dirty (none k))

pub history_legal : HistoryIsLegal
history_legal t h = h.legal
