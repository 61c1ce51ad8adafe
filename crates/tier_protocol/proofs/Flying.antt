-- Messages, replies, and the work on one name: each part of a move keeps them sound.
use Rattle.std.proofs.Common.{◌≡◌, ◌≢◌, ◌<◌, ◌≤◌, ◌⊎◌, ℕ, ◌+◌, true, List, [], ◌∷◌, ◌++◌, Option, Some, None, refl, sym, ap, subst, ◌∙◌, arith, inl, inr}
use Rattle.copy_chunk.specs.declared.chunk.Chunk.{Chunk}
use Rattle.obj_model.specs.declared.req.Req.{Req}
use Rattle.tier_types.specs.Flights.{HasOpid, IsLeftOf, lets_read, name_asked, reads_of}
use Rattle.tier_protocol.specs.Tiers.{Name, Ask, Flight, ReadFlight, BaseMsg, BaseReply, Phase, Net, IsIn, AreIn}
use Rattle.tier_protocol.specs.Memory.{IsFor, IsGiven, IsOwn, IsReplied, IsSent, SoundFlight, SoundWire}
use Rattle.tier_protocol.specs.Moves.{reads_with}

-- ---- messages and replies

pub all_in : {X : Type 0} (xs : List X) → AreIn xs xs
all_in xs x on = on

sent_as : (net new : Net) → net.cache_epoch ≤ new.cache_epoch → ((e op : ℕ) → IsGiven net e op
    → IsGiven new e op) → (m : BaseMsg) → IsSent net m → IsSent new m
sent_as net new later given (BaseMsg.Fence e) h = omega (arith, later, h)
sent_as net new later given (BaseMsg.GetChunk e op k at) h = given e op h
sent_as net new later given (BaseMsg.Look e op k v) h = given e op h
sent_as net new later given (BaseMsg.Write e op r) h = given e op h
sent_as net new later given (BaseMsg.Install e op k s) h = given e op h

replied_as : (net new : Net) → net.cache_epoch ≤ new.cache_epoch → ((e op : ℕ) → IsGiven net e op
    → IsGiven new e op) → (p : BaseReply) → IsReplied net p → IsReplied new p
replied_as net new later given (BaseReply.Fenced e) h = omega (arith, later, h)
replied_as net new later given (BaseReply.Chunk e op x) h = given e op h
replied_as net new later given (BaseReply.Looked e op l) h = given e op h
replied_as net new later given (BaseReply.Wrote e op a) h = given e op h
replied_as net new later given (BaseReply.Installed e op m) h = given e op h
replied_as net new later given (BaseReply.NoSpace e op used need limit) h = (
  h.0,
  λ ne. given e op
      (h.1 ne),
)
replied_as net new later given (BaseReply.OldEpoch have got) h = h
replied_as net new later given (BaseReply.NotFenced have got) h = h

pub wire_as : (net new : Net) → (new.phase ≢ Phase.Down → 0 < new.cache_epoch) → (new.fenced ≡ true
    → new.phase ≡ Phase.Up) → 0 < new.next_opid
    → net.cache_epoch ≤ new.cache_epoch → ((e op : ℕ) → IsGiven net e op → IsGiven new e op)
    → AreIn new.wire net.wire → AreIn new.replies net.replies → SoundWire net → SoundWire new
wire_as net new begun fenced one later given fewer less h = record {
  begun = begun;
  fenced = fenced;
  from_one = one;
  sent = λ m on. sent_as net new later given m (h.sent m (fewer m on));
  replied = λ p on. replied_as net new later given p (h.replied p (less p on));
}

pub wire_sent : (net : Net) (m : BaseMsg) → SoundWire net → IsSent net m
    → SoundWire (record net { wire = m ∷ net.wire })
wire_sent net m h sent = record {
  begun = h.begun;
  fenced = h.fenced;
  from_one = h.from_one;
  sent = λ x on. elim on [ inl same ↦ subst (IsSent net) (sym same) sent | inr old ↦ h.sent x old ];
  replied = h.replied;
}

pub wire_replied : (net : Net) (p : BaseReply) → SoundWire net → IsReplied net p
    → SoundWire (record net { replies = p ∷ net.replies })
wire_replied net p h replied = record {
  begun = h.begun;
  fenced = h.fenced;
  from_one = h.from_one;
  sent = h.sent;
  replied = λ x on. elim on [
    | inl same ↦ subst (IsReplied net)
        (sym same) replied
    | inr old ↦ h.replied x old
  ];
}

-- ---- the work on a name

own_with : (n : Name) (f g : Option Flight) (e : ℕ) (m : BaseMsg) → ((op : ℕ) → HasOpid g op
    → HasOpid f op) → (IsFor n f m → IsFor n g m) → IsOwn n f e m → IsOwn n g e m
own_with n f g e (BaseMsg.Fence i) fewer for own = tt
own_with n f g e (BaseMsg.GetChunk i op k at) fewer for own = λ now has. for (own now
    (fewer op has))
own_with n f g e (BaseMsg.Look i op k v) fewer for own = λ now has. for (own now (fewer op has))
own_with n f g e (BaseMsg.Write i op r) fewer for own = λ now has. for (own now (fewer op has))
own_with n f g e (BaseMsg.Install i op k s) fewer for own = λ now has. for (own now (fewer op has))

pub own_free : (n : Name) (e : ℕ) (m : BaseMsg) → IsOwn n None e m
own_free n e (BaseMsg.Fence i) = tt
own_free n e (BaseMsg.GetChunk i op k at) = λ now has. absurd has
own_free n e (BaseMsg.Look i op k v) = λ now has. absurd has
own_free n e (BaseMsg.Write i op r) = λ now has. absurd has
own_free n e (BaseMsg.Install i op k s) = λ now has. absurd has

-- a free name is sound in any memory
pub flight_free : (n : Name) (net : Net) → SoundFlight n None net
flight_free n net = record {
  up = λ ne. absurd (ne refl);
  counted = λ op has. absurd has;
  named = λ d w op r e. absurd (cc);
  asked = λ call op g ask e. absurd (cc);
  single = λ list r q e. absurd (cc);
  own = λ m on. own_free n net.cache_epoch m;
}

pub flight_as : (n : Name) (f : Option Flight) (net new : Net) → (net.phase ≡ Phase.Up
    → new.phase ≡ Phase.Up) → net.next_opid ≤ new.next_opid
    → net.cache_epoch ≡ new.cache_epoch → AreIn new.wire net.wire → SoundFlight n f net
    → SoundFlight n f new
flight_as n f net new up later same fewer h = record {
  up = λ busy. up (h.up busy);
  counted = λ op has. ((h.counted op has).0, omega (arith, (h.counted op has).1, later));
  named = h.named;
  asked = h.asked;
  single = h.single;
  own = λ m on. subst (λ e. IsOwn n f e m) same (h.own m (fewer m on));
}

pub flight_sent : (n : Name) (f : Option Flight) (net : Net) (m : BaseMsg) → SoundFlight n f net
    → IsOwn n f net.cache_epoch m → SoundFlight n f (record net { wire = m ∷ net.wire })
flight_sent n f net m h own = record {
  up = h.up;
  counted = h.counted;
  named = h.named;
  asked = h.asked;
  single = h.single;
  own = λ x on. elim on [
    | inl same ↦ subst (IsOwn n f net.cache_epoch)
        (sym same) own
    | inr old ↦ h.own x old
  ];
}

-- no work is under way while the cache is not up
pub free_unless_up : (n : Name) (f : Option Flight) (net : Net) → SoundFlight n f net
    → net.phase ≢ Phase.Up → f ≡ None
free_unless_up n None net h down = refl
free_unless_up n (Some f) net h down = absurd (down (h.up (λ e. absurd (cc))))

-- work of a name without any is that of another name
pub free_as : (n : Name) (f : Option Flight) (net new : Net) → f ≡ None → SoundFlight n f new
free_as n f net new free = subst (λ x. SoundFlight n x new) (sym free) (flight_free n new)

-- ---- what is left of work

pub left_opids : (f g : Option Flight) → IsLeftOf f g → (op : ℕ) → HasOpid g op → HasOpid f op
left_opids f None left op has = absurd has
left_opids f (Some (Flight.Promote call o gather ask)) left op has = subst (λ x. HasOpid x op)
    (sym left) has
left_opids f (Some (Flight.Write driver owner o r)) left op has = subst (λ x. HasOpid x op)
    (sym left.1) has
left_opids f (Some (Flight.Reads list)) left op has = subst (λ x. HasOpid x op) (sym left.1)
    (has.0, left.2 has.0 has.1, has.2)
left_opids f (Some (Flight.Flush call o seq blocking drain)) left op has = subst (λ x. HasOpid x op)
    (sym left.1) has

left_for : (n : Name) (f g : Option Flight) → IsLeftOf f g → (g ≡ None → ⊥) → (m : BaseMsg)
    → IsFor n f m → IsFor n g m
left_for n f None left busy m for = absurd (busy refl)
left_for n f (Some (Flight.Promote call o gather ask)) left busy m for = subst
    (λ x. IsFor n x m) left for
left_for n f (Some (Flight.Write driver owner o r)) left busy m for = write m (subst
    (λ x. IsFor n x m) left.1 for)
  where
    write : (m : BaseMsg) → IsFor n (Some (Flight.Write left.0 owner o r)) m
        → IsFor n (Some (Flight.Write driver owner o r)) m
    write (BaseMsg.Fence e) for = absurd for
    write (BaseMsg.GetChunk e op k at) for = absurd for
    write (BaseMsg.Look e op k v) for = absurd for
    write (BaseMsg.Write e op q) for = for
    write (BaseMsg.Install e op k s) for = absurd for
left_for n f (Some (Flight.Reads list)) left busy m for = read m (subst
    (λ x. IsFor n x m) left.1 for)
  where
    read : (m : BaseMsg) → IsFor n (Some (Flight.Reads left.0)) m
        → IsFor n (Some (Flight.Reads list)) m
    read (BaseMsg.Fence e) for = absurd for
    read (BaseMsg.GetChunk e op k at) for = absurd for
    read (BaseMsg.Look e op k v) for = (for.0, λ r on same. for.1 r (left.2 r on) same)
    read (BaseMsg.Write e op q) for = absurd for
    read (BaseMsg.Install e op k s) for = absurd for
left_for n f (Some (Flight.Flush call o seq blocking drain)) left busy m for = flush m (subst
    (λ x. IsFor n x m) left.1 for)
  where
    flush : (m : BaseMsg) → IsFor n (Some (Flight.Flush left.0 o seq blocking drain)) m
        → IsFor n (Some (Flight.Flush call o seq blocking drain)) m
    flush (BaseMsg.Fence e) for = absurd for
    flush (BaseMsg.GetChunk e op k at) for = absurd for
    flush (BaseMsg.Look e op k v) for = absurd for
    flush (BaseMsg.Write e op q) for = absurd for
    flush (BaseMsg.Install e op k s) for = for

-- there is some work
busy_left : (f : Option Flight) (g : Flight) → IsLeftOf f (Some g) → f ≢ None
busy_left f (Flight.Promote call o gather ask) left = λ free. absurd (cc)
busy_left f (Flight.Write driver owner o r) left = λ free. let e = left.1 in absurd (cc)
busy_left f (Flight.Reads list) left = λ free. let e = left.1 in absurd (cc)
busy_left f (Flight.Flush call o seq blocking drain) left = λ free. let e = left.1 in absurd (cc)

pub flight_left : (n : Name) (f g : Option Flight) (net : Net) → SoundFlight n f net → IsLeftOf f g
    → SoundFlight n g net
flight_left n f None net h left = flight_free n net
flight_left n f (Some g) net h left = record {
  up = λ busy. h.up (busy_left f g left);
  counted = λ op has. h.counted op (left_opids f (Some g) left op has);
  named = λ d w op r e. let old = subst (IsLeftOf f) e left in h.named old.0 w op r old.1;
  asked = λ call op gather ask e. h.asked call op gather ask (subst (IsLeftOf f) e left);
  single = λ list r q e on is same. let old = subst (IsLeftOf f) e left in h.single old.0 r q old.1
      (old.2 r on) (old.2 q is) same;
  own = λ m on. own_with n f (Some g) net.cache_epoch m (left_opids f (Some g) left) (left_for n f
      (Some g) left (λ e. absurd (cc)) m) (h.own m on);
}

-- ---- work that begins, and goes on

own_new : (n : Name) (f : Option Flight) (net : Net) (m : BaseMsg) → ((op : ℕ) → HasOpid f op
    → op ≡ net.next_opid) → IsSent net m → IsOwn n f net.cache_epoch m
own_new n f net (BaseMsg.Fence e) one sent = tt
own_new n f net (BaseMsg.GetChunk e op k at) one sent = λ now has. absurd (omega
    (arith, sent.counted now, one op has))
own_new n f net (BaseMsg.Look e op k v) one sent = λ now has. absurd (omega
    (arith, sent.counted now, one op has))
own_new n f net (BaseMsg.Write e op r) one sent = λ now has. absurd (omega
    (arith, sent.counted now, one op has))
own_new n f net (BaseMsg.Install e op k s) one sent = λ now has. absurd (omega
    (arith, sent.counted now, one op has))

-- work other than a read begins, under the next number
pub flight_begun : (n : Name) (f : Flight) (net : Net) → SoundWire net → net.phase ≡ Phase.Up
    → ((op : ℕ) → HasOpid (Some f) op → op ≡ net.next_opid)
    → ((driver : Option ℕ) (owner op : ℕ) (r : Req) → Some f ≡ Some (Flight.Write driver owner op r)
    → r.name ≡ n)
    → ((call op : ℕ) (gather : List Chunk) (ask : Ask) → Some f ≡ Some
    (Flight.Promote call op gather ask) → name_asked ask ≡ n)
    → ((list : List ReadFlight) → Some f ≢ Some (Flight.Reads list))
    → SoundFlight n (Some f) (record net { next_opid = net.next_opid + 1 })
flight_begun n f net wire up one named asked reads = record {
  up = λ busy. up;
  counted = λ op has. (omega (arith, one op has, wire.from_one), omega (arith, one op has));
  named = named;
  asked = asked;
  single = λ list r q e. absurd (reads list e);
  own = λ m on. own_new n (Some f) net m one (wire.sent m on);
}

pub in_more : (rs : List ReadFlight) (r q : ReadFlight) → IsIn r (rs ++ q ∷ [])
    → IsIn r rs ⊎ (r ≡ q)
in_more [] r q (inl same) = inr same
in_more [] r q (inr none) = absurd none
in_more (x ∷ xs) r q (inl same) = inl (inl same)
in_more (x ∷ xs) r q (inr on) = elim (in_more xs r q on) [
  | inl old ↦ inl
      (inr old)
  | inr same ↦ inr same
]

-- a read of the name's reads
pub old_reads : (f : Option Flight) (r : ReadFlight) → IsIn r (reads_of f)
    → f ≡ Some (Flight.Reads (reads_of f))
old_reads None r on = absurd on
old_reads (Some (Flight.Promote call o gather ask)) r on = absurd on
old_reads (Some (Flight.Write driver owner o q)) r on = absurd on
old_reads (Some (Flight.Reads list)) r on = refl
old_reads (Some (Flight.Flush call o seq blocking drain)) r on = absurd on

pub has_old : (f : Option Flight) (r : ReadFlight) → IsIn r (reads_of f) → HasOpid f r.opid
has_old f r on = subst (λ x. HasOpid x r.opid) (sym (old_reads f r on)) (r, on, refl)

-- the numbers of reads with one more
pub old_or_new : (f : Option Flight) (new : ReadFlight) (op : ℕ)
    → HasOpid (Some (Flight.Reads (reads_with f new))) op → HasOpid f op ⊎ (op ≡ new.opid)
old_or_new f new op has =
    elim (in_more (reads_of f) has.0 new has.1) [
      | inl old ↦ inl (subst (HasOpid f) (sym has.2)
          (has_old f has.0 old))
      | inr same ↦ inr (has.2 ∙ ap (λ r. r.opid) same)
    ]

-- a read of some reads is one of theirs
pub in_same : (xs ys : List ReadFlight) (r : ReadFlight) → Some (Flight.Reads xs) ≡ Some
    (Flight.Reads ys) → IsIn r ys → IsIn r xs
in_same xs ys r e on = let same : xs ≡ ys = cc in subst (IsIn r) (sym same) on

-- one more read begins
pub flight_read : (n : Name) (f : Option Flight) (net : Net) (new : ReadFlight)
    → SoundFlight n f net → SoundWire net → net.phase ≡ Phase.Up → lets_read f ≡ true
    → new.opid ≡ net.next_opid → SoundFlight n (Some (Flight.Reads (reads_with f new)))
    (record net { next_opid = net.next_opid + 1 })
flight_read n f net new h wire up lets is_next = record {
  up = λ busy. up;
  counted = λ op has. elim (old_or_new f new op has) [
    | inl old ↦ ((h.counted op old).0, omega (arith, (h.counted op old).1))
    | inr is ↦ (omega (arith, is, is_next, wire.from_one), omega (arith, is, is_next))
  ];
  named = λ d w op r e. absurd (cc);
  asked = λ call op gather ask e. absurd (cc);
  single = λ list r q e on is same.
      apart r q (in_more (reads_of f) r new (in_same (reads_with f new) list r e on)) (in_more
      (reads_of f) q new (in_same (reads_with f new) list q e is)) same;
  own = λ m on. own m (wire.sent m on) (h.own m on);
}
  where
    less : (r : ReadFlight) → IsIn r (reads_of f) → r.opid < net.next_opid
    less r on = (h.counted r.opid (has_old f r on)).1

    apart : (r q : ReadFlight) → IsIn r (reads_of f) ⊎ (r ≡ new) → IsIn q (reads_of f) ⊎ (q ≡ new)
        → r.opid ≡ q.opid → r ≡ q
    apart r q (inl on) (inl is) same = h.single (reads_of f) r q (old_reads f r on) on is same
    apart r q (inl on) (inr is) same = absurd (omega (
      arith,
      less r on,
      same,
      ap
          (λ x. x.opid) is,
      is_next,
    ))
    apart r q (inr on) (inl is) same = absurd (omega (
      arith,
      less q is,
      same,
      ap
          (λ x. x.opid) on,
      is_next,
    ))
    apart r q (inr on) (inr is) same = on ∙ sym is

    old_opid : (e op : ℕ) → (e ≡ net.cache_epoch → op < net.next_opid) → e ≡ net.cache_epoch
        → HasOpid (Some (Flight.Reads (reads_with f new))) op → HasOpid f op
    old_opid e op used now has = elim (old_or_new f new op has) [
      | inl old ↦ old
      | inr is ↦ absurd
          (omega (arith, used now, is, is_next))
    ]

    -- work that lets a read in is reads, where it has a number
    are_reads : (g : Option Flight) (op : ℕ) → lets_read g ≡ true → HasOpid g op
        → g ≡ Some (Flight.Reads (reads_of g))
    are_reads None op l has = absurd has
    are_reads (Some (Flight.Promote call o gather ask)) op l has = absurd (cc)
    are_reads (Some (Flight.Write driver owner o q)) op l has = absurd (cc)
    are_reads (Some (Flight.Reads list)) op l has = refl
    are_reads (Some (Flight.Flush call o seq blocking drain)) op l has = absurd (cc)

    as_reads : (m : BaseMsg) (op : ℕ) → HasOpid f op → IsFor n f m
        → IsFor n (Some (Flight.Reads (reads_of f))) m
    as_reads m op has for = subst (λ x. IsFor n x m) (are_reads f op lets has) for

    own : (m : BaseMsg) → IsSent net m → IsOwn n f net.cache_epoch m
        → IsOwn n (Some (Flight.Reads (reads_with f new))) net.cache_epoch m
    own (BaseMsg.Fence e) sent k = tt
    own (BaseMsg.GetChunk e op x at) sent k = λ now has. let old = old_opid e op sent.counted now
        has in as_reads (BaseMsg.GetChunk e op x at) op old (k now old)
    own (BaseMsg.Look e op x v) sent k = λ now has.
        let old = old_opid e op sent.counted now has in
        let for : IsFor n (Some (Flight.Reads (reads_of f))) (BaseMsg.Look e op x v) = as_reads
        (BaseMsg.Look e op x v) op old (k now old) in (
          for.0,
          λ r on same. elim (in_more
              (reads_of f) r new on) [
                | inl is ↦ for.1 r is same
                | inr is ↦ absurd (omega
                    (arith, sent.counted now, same, ap (λ y. y.opid) is, is_next))
              ],
        )
    own (BaseMsg.Write e op r) sent k = λ now has. let old = old_opid e op sent.counted now has in
        as_reads (BaseMsg.Write e op r) op old (k now old)
    own (BaseMsg.Install e op x s) sent k = λ now has. let old = old_opid e op sent.counted now has
        in as_reads (BaseMsg.Install e op x s) op old (k now old)

-- a promotion has gathered another chunk
pub flight_gathered : (n : Name) (net : Net) (call op : ℕ) (gather more : List Chunk) (ask : Ask)
    → SoundFlight n (Some (Flight.Promote call op gather ask)) net
    → SoundFlight n (Some (Flight.Promote call op more ask)) net
flight_gathered n net call op gather more ask h = record {
  up = λ busy. h.up (λ e. absurd (cc));
  counted = h.counted;
  named = λ d w o r e. absurd (cc);
  asked = λ c o g a e. let same : ask ≡ a = cc in subst (λ x. name_asked x ≡ n) same
      (h.asked call op gather ask refl);
  single = λ list r q e. absurd (cc);
  own = λ m on. own_with n (Some (Flight.Promote call op gather ask)) (Some
      (Flight.Promote call op more ask)) net.cache_epoch m (λ o has. has) (for m) (h.own m on);
}
  where
    for : (m : BaseMsg) → IsFor n (Some (Flight.Promote call op gather ask)) m
        → IsFor n (Some (Flight.Promote call op more ask)) m
    for (BaseMsg.Fence e) k = absurd k
    for (BaseMsg.GetChunk e o k at) is = is
    for (BaseMsg.Look e o k v) is = absurd is
    for (BaseMsg.Write e o r) is = absurd is
    for (BaseMsg.Install e o k s) is = absurd is
