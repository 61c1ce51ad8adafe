-- All of memory: each part of a move keeps it sound.
use Rattle.std.proofs.Common.{◌≡◌, ◌≢◌, ◌<◌, ◌⊎◌, ℕ, ◌+◌, true, false, List, ◌∷◌, Option, Some, None, refl, sym, subst, ◌∙◌, arith, inl, inr}
use Rattle.std.specs.FinMap as fin
use Rattle.obj_model.specs.Names.{name_cmp}
use Rattle.tier_types.specs.Flights.{HasOpid, IsLeftOf}
use Rattle.tier_protocol.specs.Tiers.{Name, Flight, BaseMsg, BaseReply, Phase, Flights, Net, AreIn}
use Rattle.tier_protocol.specs.Memory.{AreApart, IsOwn, IsReplied, IsSent, SoundFlight, SoundMemory}
use Rattle.tier_protocol.specs.Moves.{set_at}
use Rattle.tier_protocol.proofs.Cells.{get_here, get_there, names_by, same_or_not}
pub use Rattle.tier_protocol.proofs.Flying.{all_in, flight_as, flight_begun, flight_free, flight_gathered, flight_left, flight_read, flight_sent, free_as, free_unless_up, has_old, in_more, in_same, left_opids, old_or_new, old_reads, own_free, wire_as, wire_replied, wire_sent}

-- ---- all names

-- the work of one name changes
pub each_by : (flights : Flights) (net : Net) (k : Name) (f : Option Flight) → SoundFlight k f net
    → ((n : Name) → SoundFlight n (fin.get flights n) net)
    → (n : Name) → SoundFlight n (fin.get (set_at flights k f) n) net
each_by flights net k f this each =
    names_by (λ n. SoundFlight n (fin.get (set_at flights k f) n) net) k (subst
    (λ x. SoundFlight k x net) (sym (get_here flights k f)) this)
    (λ n ne. subst (λ x. SoundFlight n x net) (sym (get_there flights k f n ne)) (each n))

-- work with numbers that it had, or with a new one, is apart from all other
pub apart_by : (flights : Flights) (k : Name) (f : Option Flight) (new : ℕ) → ((op : ℕ)
    → HasOpid f op → HasOpid (fin.get flights k) op ⊎ (op ≡ new))
    → ((n : Name) (op : ℕ) → HasOpid (fin.get flights n) op → op < new) → AreApart flights
    → AreApart (set_at flights k f)
apart_by flights k f new has_by less h = λ n m op has have. by n m op (back n op has)
    (back m op have)
  where
    back : (n : Name) (op : ℕ) → HasOpid (fin.get (set_at flights k f) n) op
        → HasOpid (fin.get flights n) op ⊎ ((n ≡ k) × (op ≡ new))
    back n op has = elim (same_or_not n k) [
      | inl same ↦ elim (has_by op (subst (λ x. HasOpid x op) (get_here flights k f) (subst
          (λ x. HasOpid (fin.get (set_at flights k f) x) op) same has))) [
            | inl old ↦ inl (subst (λ x. HasOpid (fin.get flights x) op) (sym same) old)
            | inr is ↦ inr (same, is)
          ]
      | inr ne ↦ inl (subst (λ x. HasOpid x op) (get_there flights k f n ne) has)
    ]

    by : (n m : Name) (op : ℕ) → HasOpid (fin.get flights n) op ⊎ ((n ≡ k) × (op ≡ new))
        → HasOpid (fin.get flights m) op ⊎ ((m ≡ k) × (op ≡ new)) → n ≡ m
    by n m op (inl old) (inl older) = h n m op old older
    by n m op (inl old) (inr is) = absurd (omega (arith, less n op old, is.1))
    by n m op (inr is) (inl old) = absurd (omega (arith, less m op old, is.1))
    by n m op (inr is) (inr are) = is.0 ∙ sym are.0

-- work with numbers that it had is apart from all other
pub apart_fewer : (flights : Flights) (k : Name) (f : Option Flight) → ((op : ℕ) → HasOpid f op
    → HasOpid (fin.get flights k) op) → AreApart flights → AreApart (set_at flights k f)
apart_fewer flights k f fewer h = λ n m op has have. h n m op (back n op has) (back m op have)
  where
    back : (n : Name) (op : ℕ) → HasOpid (fin.get (set_at flights k f) n) op
        → HasOpid (fin.get flights n) op
    back n op has = elim (same_or_not n k) [
      | inl same ↦ subst (λ x. HasOpid (fin.get flights x) op) (sym same) (fewer op (subst
          (λ x. HasOpid x op) (get_here flights k f) (subst (λ x. HasOpid (fin.get
          (set_at flights k f) x) op) same has)))
      | inr ne ↦ subst (λ x. HasOpid x op) (get_there flights k f n ne) has
    ]

-- ---- the parts of moves, of all the memory

pub memory_replied : (flights : Flights) (net : Net) (p : BaseReply) → SoundMemory flights net
    → IsReplied net p → SoundMemory flights (record net { replies = p ∷ net.replies })
memory_replied flights net p h replied = record {
  wire = wire_replied net p h.wire replied;
  apart = h.apart;
  each = λ n. flight_as n (fin.get flights n) net (record net { replies = p ∷ net.replies })
      (λ up. up) (omega arith) refl (all_in net.wire) (h.each n);
}

pub memory_sent : (flights : Flights) (net : Net) (m : BaseMsg) → SoundMemory flights net
    → IsSent net m → ((n : Name) → IsOwn n (fin.get flights n) net.cache_epoch m)
    → SoundMemory flights (record net { wire = m ∷ net.wire })
memory_sent flights net m h sent own = record {
  wire = wire_sent net m h.wire sent;
  apart = h.apart;
  each = λ n. flight_sent n (fin.get flights n) net m (h.each n) (own n);
}

-- the base's epoch is another
pub memory_fenced : (flights : Flights) (net : Net) (e : ℕ) → SoundMemory flights net
    → SoundMemory flights (record net { base_epoch = e })
memory_fenced flights net e h = record {
  wire = wire_as net (record net { base_epoch = e }) h.wire.begun h.wire.fenced h.wire.from_one
      (omega arith) (λ f op g. record { begun = g.begun; silent = g.silent; counted = g.counted })
      (all_in net.wire) (all_in net.replies) h.wire;
  apart = h.apart;
  each = λ n. flight_as n (fin.get flights n) net (record net { base_epoch = e }) (λ up. up)
      (omega arith) refl (all_in net.wire) (h.each n);
}

-- the work of a name changes, with numbers that it had
pub memory_at : (flights : Flights) (net : Net) (k : Name) (f : Option Flight)
    → SoundMemory flights net → SoundFlight k f net → ((op : ℕ) → HasOpid f op
    → HasOpid (fin.get flights k) op)
    → SoundMemory (set_at flights k f) net
memory_at flights net k f h this fewer = record {
  wire = h.wire;
  apart = apart_fewer flights k f fewer h.apart;
  each = each_by flights net k f this h.each;
}

-- the name is free
pub memory_free : (flights : Flights) (net : Net) (k : Name) → SoundMemory flights net
    → SoundMemory (set_at flights k None) net
memory_free flights net k h = memory_at flights net k None h (flight_free k net)
    (λ op has. absurd has)

-- work begins
pub memory_begun : (flights : Flights) (net : Net) (k : Name) (f : Flight) → SoundMemory flights net
    → ((op : ℕ) → HasOpid (Some f) op → HasOpid (fin.get flights k) op ⊎ (op ≡ net.next_opid))
    → SoundFlight k (Some f) (record net { next_opid = net.next_opid + 1 })
    → SoundMemory (set_at flights k (Some f)) (record net { next_opid = net.next_opid + 1 })
memory_begun flights net k f h has_by this = record {
  wire = wire_as net next h.wire.begun h.wire.fenced (omega arith) (omega arith)
      (λ e op g. record {
        begun = g.begun;
        silent = g.silent;
        counted = λ now. omega
            (arith, g.counted now);
      }) (all_in net.wire) (all_in net.replies) h.wire;
  apart = apart_by flights k (Some f) net.next_opid has_by (λ n op has.
      ((h.each n).counted op has).1) h.apart;
  each = each_by flights next k (Some f) this (λ n. flight_as n (fin.get flights n) net next
      (λ up. up) (omega arith) refl (all_in net.wire) (h.each n));
}
  where
    next : Net
    next = record net { next_opid = net.next_opid + 1 }

-- messages and replies are lost, and calls end
pub memory_left : (flights left : Flights) (net : Net) (wire : List BaseMsg)
    (replies : List BaseReply) → SoundMemory flights net
    → ((n : Name) → IsLeftOf (fin.get flights n) (fin.get left n)) → AreIn wire net.wire
    → AreIn replies net.replies
    → SoundMemory left (record net { wire = wire; replies = replies })
memory_left flights left net wire replies h are fewer less = record {
  wire = wire_as net new h.wire.begun h.wire.fenced h.wire.from_one (omega arith)
      (λ e op g. record { begun = g.begun; silent = g.silent; counted = g.counted }) fewer less
      h.wire;
  apart = λ n k op has have. h.apart n k op (left_opids (fin.get flights n) (fin.get left n)
      (are n) op has) (left_opids (fin.get flights k) (fin.get left k) (are k) op have);
  each = λ n. flight_as n (fin.get left n) net new (λ up. up) (omega arith) refl fewer
      (flight_left n (fin.get flights n) (fin.get left n) net (h.each n) (are n));
}
  where
    new : Net
    new = record net { wire = wire; replies = replies }

-- the cache stops
pub memory_stopped : (flights : Flights) (net : Net) → SoundMemory flights net
    → SoundMemory fin.empty (record net { phase = Phase.Down; fenced = false })
memory_stopped flights net h = record {
  wire = wire_as net new (λ down. absurd (down refl)) (λ e. absurd (cc)) h.wire.from_one
      (omega arith) (λ e op g. record {
        begun = g.begun;
        silent = λ r. absurd
            (cc);
        counted = g.counted;
      }) (all_in net.wire) (all_in net.replies) h.wire;
  apart = λ n k op has have. absurd (subst (λ x. HasOpid x op)
      (fin.get-empty {X = Flight} name_cmp n) has);
  each = λ n. free_as n (fin.get fin.empty n) net new (fin.get-empty {X = Flight} name_cmp n);
}
  where
    new : Net
    new = record net { phase = Phase.Down; fenced = false }

-- the base stops
pub memory_unfenced : (flights : Flights) (net : Net) → SoundMemory flights net
    → SoundMemory flights (record net { fenced = false })
memory_unfenced flights net h = record {
  wire = wire_as net new h.wire.begun (λ e. absurd (cc)) h.wire.from_one (omega arith)
      (λ e op g. record { begun = g.begun; silent = g.silent; counted = g.counted })
      (all_in net.wire) (all_in net.replies) h.wire;
  apart = h.apart;
  each = λ n. flight_as n (fin.get flights n) net new (λ up. up) (omega arith) refl
      (all_in net.wire) (h.each n);
}
  where
    new : Net
    new = record net { fenced = false }

-- nothing has a number while the cache is not up
none_apart : (flights : Flights) (net : Net) → SoundMemory flights net → net.phase ≢ Phase.Up
    → AreApart flights
none_apart flights net h down = h.apart

-- the cache's epoch is raised
pub memory_raised : (flights : Flights) (net : Net) (e : ℕ) → SoundMemory flights net
    → net.phase ≢ Phase.Up → net.cache_epoch < e
    → SoundMemory flights
    (record net { cache_epoch = e; next_opid = 1; phase = Phase.Raised; fenced = false })
memory_raised flights net e h down later = record {
  wire = wire_as net new (λ d. omega (arith, later)) (λ f. absurd (cc)) (omega arith) (omega
      (arith, later))
      (λ f op g. record {
        begun = omega (arith, g.begun, later);
        silent = λ r. omega
            (arith, g.begun, later);
        counted = λ now. absurd (omega (arith, g.begun, later, now));
      })
      (all_in net.wire) (all_in net.replies) h.wire;
  apart = h.apart;
  each = λ n. free_as n (fin.get flights n) net new (free_unless_up n (fin.get flights n) net
      (h.each n) down);
}
  where
    new : Net
    new = record net { cache_epoch = e; next_opid = 1; phase = Phase.Raised; fenced = false }

-- the cache's epoch is found to be a later one
pub memory_found : (flights : Flights) (net : Net) (e : ℕ) → SoundMemory flights net
    → net.phase ≢ Phase.Up → net.cache_epoch < e
    → SoundMemory flights (record net { cache_epoch = e; phase = Phase.Down; fenced = false })
memory_found flights net e h down later = record {
  wire = wire_as net new (λ d. absurd (d refl)) (λ f. absurd (cc)) h.wire.from_one (omega
      (arith, later))
      (λ f op g. record {
        begun = omega (arith, g.begun, later);
        silent = λ r. absurd
            (cc);
        counted = λ now. absurd (omega (arith, g.begun, later, now));
      })
      (all_in net.wire) (all_in net.replies) h.wire;
  apart = h.apart;
  each = λ n. free_as n (fin.get flights n) net new (free_unless_up n (fin.get flights n) net
      (h.each n) down);
}
  where
    new : Net
    new = record net { cache_epoch = e; phase = Phase.Down; fenced = false }

-- the base told that it holds the epoch
pub memory_up : (flights : Flights) (net : Net) → SoundMemory flights net → net.phase ≢ Phase.Down
    → SoundMemory flights (record net { phase = Phase.Up; fenced = true })
memory_up flights net h raised = record {
  wire = wire_as net new (λ d. h.wire.begun raised) (λ f. refl) h.wire.from_one (omega arith)
      (λ e op g. record { begun = g.begun; silent = λ r. absurd (cc); counted = g.counted })
      (all_in net.wire) (all_in net.replies) h.wire;
  apart = h.apart;
  each = λ n. flight_as n (fin.get flights n) net new (λ up. refl) (omega arith) refl
      (all_in net.wire) (h.each n);
}
  where
    new : Net
    new = record net { phase = Phase.Up; fenced = true }
