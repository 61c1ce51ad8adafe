-- One name: what becomes of its work keeps it as it has to stand.
use Rattle.std.proofs.Common.{◌≡◌, ◌<◌, ◌≤◌, ◌⊎◌, ℕ, ◌+◌, ◌^◌, Bool, true, false, List, [], ◌∷◌, ◌++◌, Option, Some, None, refl, sym, ap, subst, ◌∙◌, arith, inl, inr}
use Rattle.copy_chunk.specs.Chunks.{chunk_at, chunks_of}
use Rattle.copy_chunk.specs.Gathers.{IsFront, wanted}
use Rattle.copy_chunk.specs.declared.chunk.Chunk.{Chunk}
use Rattle.copy_chunk.proofs.Fronts.{front_more, front_nothing}
use Rattle.obj_model.specs.declared.req.Req.{Req}
use Rattle.obj_ops.specs.declared.reading.Looked.{Looked}
use Rattle.obj_ops.specs.Acts.{look}
use Rattle.tier_types.specs.Flights.{HasOpid, IsLeftOf, is_bare, is_write, lets_read, reads_of}
use Rattle.tier_protocol.specs.Tiers.{Name, Ask, Flight, ReadFlight, BaseMsg, BaseReply, Phase, Net, Cell, IsIn, AreIn}
use Rattle.tier_protocol.specs.Memory.{IsReplied, SoundWire}
use Rattle.tier_protocol.specs.Sound.{Covers, IsHarmless, IsSpent, IsTrueOf, IsWriting, SoundAt, is_dirty}
use Rattle.tier_protocol.specs.Moves.{reads_with}
use Rattle.tier_protocol.proofs.Memory.{in_more, in_same, old_reads}
pub use Rattle.tier_protocol.proofs.NameStates.{IsCovering, at_acted_here, at_acted_there, at_as, at_installed, at_rec, at_replied, at_sent}

-- ---- the work on the name

true_free : (c : Cell) (epoch : ℕ) (p : BaseReply) → IsTrueOf (record c { flight = None }) epoch p
true_free c epoch (BaseReply.Fenced e) = tt
true_free c epoch (BaseReply.Chunk e op None) = tt
true_free c epoch (BaseReply.Chunk e op (Some x)) = λ now call gather ask f. absurd (cc)
true_free c epoch (BaseReply.Looked e op l) = λ now list r f on same. absurd (cc)
true_free c epoch (BaseReply.Wrote e op a) = λ now d w r f. absurd (cc)
true_free c epoch (BaseReply.Installed e op m) = λ now call seq b d f. absurd (cc)
true_free c epoch (BaseReply.NoSpace e op used need limit) = tt
true_free c epoch (BaseReply.OldEpoch have got) = tt
true_free c epoch (BaseReply.NotFenced have got) = tt

-- the name is free from now on, and this is what becomes of the Writes that are on the wire
pub at_free : (n : Name) (c : Cell) (net new : Net) → SoundAt n c net
    → ((r : Req) → IsHarmless n c net r → IsHarmless n (record c { flight = None }) new r)
    → net.base_epoch ≤ new.base_epoch → AreIn new.wire net.wire
    → SoundAt n (record c { flight = None }) new
at_free n c net new h still later fewer = record {
  base = h.base;
  clean = h.clean;
  shows = h.shows;
  few = h.few;
  bare = λ b. absurd (cc);
  gathered = λ call op gather ask e. absurd (cc);
  flushed = λ call op seq b d e. absurd (cc);
  floor = λ call op seq b d s e. absurd (cc);
  told = λ p on. true_free c new.cache_epoch p;
  writes = λ e op x on name above. still x (h.writes e op x (fewer (BaseMsg.Write e op x) on) name
      (omega (arith, later, above)));
  installs = λ e op t on. h.installs e op t (fewer (BaseMsg.Install e op n t) on);
}

-- a write request that the base kept, or that its name is worn out for, is spent once its work has
-- ended
pub spent_then : (n : Name) (c : Cell) (net : Net) (r : Req) → SoundAt n c net → c.rec ≡ None
    → (c.base.seq ≡ 2 ^ 62) ⊎ Covers c.base r → IsSpent n c net r
spent_then n c net r h rec (inl worn) = inl worn
spent_then n c net r h rec (inr covers) =
    let level : c.base ≡ c.plain = h.clean (ap is_dirty rec) in
    inr (
      covers,
      subst (λ s. Covers s r) level covers,
      λ f op t on above. absurd (omega (
        arith,
        (h.installs f op t on).behind,
        above,
        ap (λ s. s.seq) level,
      )),
    )

-- what is left of work where calls end: a write request is still under way
writing_left : (f g : Option Flight) (r : Req) → IsLeftOf f g → IsWriting f r → IsWriting g r
writing_left f None r left w = let is : is_write (Some (Flight.Write w.0 w.1 w.2 r)) ≡ false = subst
    (λ x. is_write x ≡ false) w.3 left in absurd (cc)
writing_left f (Some (Flight.Promote call o gather ask)) r left w = let e = w.3 in absurd (cc)
writing_left f (Some (Flight.Write driver owner o q)) r left w = (
  driver,
  owner,
  o,
  ap (λ x. Some
      (Flight.Write driver owner o x)) (same left.0 w.0 owner w.1 o w.2 q r (sym left.1 ∙ w.3)),
)
  where
    same : (d e : Option ℕ) (w v o p : ℕ) (x y : Req) → Some (Flight.Write d w o x) ≡ Some
        (Flight.Write e v p y) → x ≡ y
    same d e w v o p x y is = cc
writing_left f (Some (Flight.Reads list)) r left w = let e = w.3 in let g = left.1 in absurd (cc)
writing_left f (Some (Flight.Flush call o seq b d)) r left w = let e = w.3 in let g = left.1 in
    absurd (cc)

bare_left : (f g : Option Flight) → IsLeftOf f g → is_bare g ≡ true → is_bare f ≡ true
bare_left f None left b = absurd (cc)
bare_left f (Some (Flight.Promote call o gather ask)) left b = ap is_bare left
bare_left f (Some (Flight.Write driver owner o q)) left b = ap is_bare left.1
bare_left f (Some (Flight.Reads list)) left b = ap is_bare left.1
bare_left f (Some (Flight.Flush call o seq blocking d)) left b = absurd (cc)

pub at_left : (n : Name) (c : Cell) (net : Net) (g : Option Flight) → SoundAt n c net
    → IsLeftOf c.flight g → SoundAt n (record c { flight = g }) net
at_left n c net g h left = record {
  base = h.base;
  clean = h.clean;
  shows = h.shows;
  few = h.few;
  bare = λ b. h.bare (bare_left c.flight g left b);
  gathered = λ call op gather ask e. h.gathered call op gather ask (subst
      (IsLeftOf c.flight) e left);
  flushed = λ call op seq b d e. let old = subst
      (IsLeftOf c.flight) e left in h.flushed old.0 op seq b d old.1;
  floor = λ call op seq b d s e. let old = subst
      (IsLeftOf c.flight) e left in h.floor old.0 op seq b d s old.1;
  told = λ p on. still_true p (h.told p on);
  writes = λ e op x on name above. still x (h.writes e op x on name above);
  installs = h.installs;
}
  where
    still_true : (p : BaseReply) → IsTrueOf c net.cache_epoch p
        → IsTrueOf (record c { flight = g }) net.cache_epoch p
    still_true (BaseReply.Fenced e) k = tt
    still_true (BaseReply.Chunk e op None) k = tt
    still_true (BaseReply.Chunk e op (Some x)) k = λ now call gather ask f. k now call gather ask
        (subst (IsLeftOf c.flight) f left)
    still_true (BaseReply.Looked e op l) k = λ now list r f on same. let old = subst
        (IsLeftOf c.flight) f left in k now old.0 r old.1 (old.2 r on) same
    still_true (BaseReply.Wrote e op a) k = λ now d w r f. let old = subst
        (IsLeftOf c.flight) f left in k now old.0 w r old.1
    still_true (BaseReply.Installed e op m) k = λ now call seq b d f. let old = subst
        (IsLeftOf c.flight) f left in k now old.0 seq b d old.1
    still_true (BaseReply.NoSpace e op used need limit) k = tt
    still_true (BaseReply.OldEpoch have got) k = tt
    still_true (BaseReply.NotFenced have got) k = tt

    still : (x : Req) → IsHarmless n c net x → IsHarmless n (record c { flight = g }) net x
    still x (inl living) = inl (writing_left c.flight g x left living)
    still x (inr rest) = inr rest

-- ---- work begins, and goes on

true_new : (c : Cell) (net : Net) (f : Option Flight) (p : BaseReply) → ((op : ℕ) → HasOpid f op
    → op ≡ net.next_opid) → IsReplied net p → IsTrueOf (record c { flight = f }) net.cache_epoch p
true_new c net f (BaseReply.Fenced e) one told = tt
true_new c net f (BaseReply.Chunk e op None) one told = tt
true_new c net f (BaseReply.Chunk e op (Some x)) one told = λ now call gather ask is. absurd (omega
    (arith, told.counted now, one op (subst (λ y. HasOpid y op) (sym is) refl)))
true_new c net f (BaseReply.Looked e op l) one told = λ now list r is on same. absurd (omega
    (arith, told.counted now, one op (subst (λ x. HasOpid x op) (sym is) (r, on, sym same))))
true_new c net f (BaseReply.Wrote e op a) one told = λ now d w r is. absurd (omega
    (arith, told.counted now, one op (subst (λ x. HasOpid x op) (sym is) refl)))
true_new c net f (BaseReply.Installed e op m) one told = λ now call seq b d is. absurd (omega
    (arith, told.counted now, one op (subst (λ x. HasOpid x op) (sym is) refl)))
true_new c net f (BaseReply.NoSpace e op used need limit) one told = tt
true_new c net f (BaseReply.OldEpoch have got) one told = tt
true_new c net f (BaseReply.NotFenced have got) one told = tt

-- work other than a read begins on a free name
pub at_begun : (n : Name) (c : Cell) (net : Net) (f : Flight) → SoundAt n c net → SoundWire net
    → net.phase ≡ Phase.Up → c.flight ≡ None
    → ((op : ℕ) → HasOpid (Some f) op → op ≡ net.next_opid)
    → (is_bare (Some f) ≡ true → c.rec ≡ None)
    → ((call op : ℕ) (gather : List Chunk) (ask : Ask) → Some f ≡ Some
    (Flight.Promote call op gather ask) → gather ≡ [])
    → ((call : Option ℕ) (op seq : ℕ) (b d : Bool) → Some f ≡ Some (Flight.Flush call op seq b d)
    → (is_dirty c.rec ≡ true) × (seq ≡ c.plain.seq))
    → SoundAt n (record c { flight = Some f }) (record net { next_opid = net.next_opid + 1 })
at_begun n c net f h wire up free one bare first flushed = record {
  base = h.base;
  clean = h.clean;
  shows = h.shows;
  few = h.few;
  bare = bare;
  gathered = λ call op gather ask e. subst (λ ps. IsFront ps (chunks_of c.base)) (sym
      (first call op gather ask e)) (front_nothing (chunks_of c.base));
  flushed = λ call op seq b d e. let g = flushed call op seq b d e in (
    g.0,
    omega
        (arith, g.1),
    λ y. g.1,
  );
  floor = λ call op seq b d s e on. let sent = wire.sent
      (BaseMsg.Install net.cache_epoch op n s) on in absurd (omega (
        arith,
        sent.counted refl,
        one op
            (subst (λ x. HasOpid x op) (sym e) refl),
      ));
  told = λ p on. true_new c net (Some f) p one (wire.replied p on);
  writes = λ e op x on name above. still x (h.writes e op x on name above);
  installs = h.installs;
}
  where
    still : (x : Req) → IsHarmless n c net x → IsHarmless n (record c { flight = Some f })
        (record net { next_opid = net.next_opid + 1 }) x
    still x (inl living) = let g = living.3 in absurd (cc)
    still x (inr (inl stopped)) = absurd (stopped.0 up)
    still x (inr (inr spent)) = inr (inr spent)

-- one more read begins
pub at_read : (n : Name) (c : Cell) (net : Net) (new : ReadFlight) → SoundAt n c net → SoundWire net
    → net.phase ≡ Phase.Up → lets_read c.flight ≡ true → c.rec ≡ None → new.opid ≡ net.next_opid
    → SoundAt n (record c { flight = Some (Flight.Reads (reads_with c.flight new)) })
    (record net { next_opid = net.next_opid + 1 })
at_read n c net new h wire up lets rec is_next = record {
  base = h.base;
  clean = h.clean;
  shows = h.shows;
  few = h.few;
  bare = λ b. rec;
  gathered = λ call op gather ask e. absurd (cc);
  flushed = λ call op seq b d e. absurd (cc);
  floor = λ call op seq b d s e. absurd (cc);
  told = λ p on. still_true p (h.told p on) (wire.replied p on);
  writes = λ e op x on name above. still x (h.writes e op x on name above);
  installs = h.installs;
}
  where
    told_by : (e op : ℕ) (l : Looked) (r : ReadFlight) → (e ≡ net.cache_epoch → op < net.next_opid)
        → IsTrueOf c net.cache_epoch (BaseReply.Looked e op l) → e ≡ net.cache_epoch → r.opid ≡ op
        → IsIn r (reads_of c.flight) ⊎ (r ≡ new) → l ≡ look c.base r.vector
    told_by e op l r used k now same (inl on) = k now (reads_of c.flight) r
        (old_reads c.flight r on) on same
    told_by e op l r used k now same (inr is) = absurd (omega (
      arith,
      used now,
      same,
      ap
          (λ x. x.opid) is,
      is_next,
    ))

    still_true : (p : BaseReply) → IsTrueOf c net.cache_epoch p → IsReplied net p
        → IsTrueOf (record c {
          flight = Some (Flight.Reads
              (reads_with c.flight new));
        }) net.cache_epoch p
    still_true (BaseReply.Fenced e) k told = tt
    still_true (BaseReply.Chunk e op None) k told = tt
    still_true (BaseReply.Chunk e op (Some x)) k told = λ now call gather ask f. absurd (cc)
    still_true (BaseReply.Looked e op l) k told = λ now list r f is same.
        told_by e op l r told.counted k now same (in_more (reads_of c.flight) r new (in_same
        (reads_with c.flight new) list r f is))
    still_true (BaseReply.Wrote e op a) k told = λ now d w r f. absurd (cc)
    still_true (BaseReply.Installed e op m) k told = λ now call seq b d f. absurd (cc)
    still_true (BaseReply.NoSpace e op used need limit) k told = tt
    still_true (BaseReply.OldEpoch have got) k told = tt
    still_true (BaseReply.NotFenced have got) k told = tt

    still : (x : Req) → IsHarmless n c net x → IsHarmless n (record c {
      flight = Some (Flight.Reads
          (reads_with c.flight new));
    }) (record net { next_opid = net.next_opid + 1 }) x
    still x (inl living) = let shut : lets_read (Some
        (Flight.Write living.0 living.1 living.2 x)) ≡ true = subst
        (λ f. lets_read f ≡ true) living.3 lets in absurd (cc)
    still x (inr (inl stopped)) = absurd (stopped.0 up)
    still x (inr (inr spent)) = inr (inr spent)

-- the chunk that a promotion wants came
pub at_gathered : (n : Name) (c : Cell) (net : Net) (call op : ℕ) (gather : List Chunk) (ask : Ask)
    (x : Chunk) → SoundAt n c net → c.flight ≡ Some (Flight.Promote call op gather ask)
    → wanted gather ≡ Some x.at → chunk_at (chunks_of c.base) x.at ≡ Some x
    → SoundAt n (record c { flight = Some (Flight.Promote call op (gather ++ x ∷ []) ask) }) net
at_gathered n c net call op gather ask x h f want is = record {
  base = h.base;
  clean = h.clean;
  shows = h.shows;
  few = h.few;
  bare = λ b. h.bare (ap is_bare f);
  gathered = λ k o ps a e. let same : gather ++ x ∷ [] ≡ ps = cc in
      subst (λ l. IsFront l (chunks_of c.base)) same (front_more gather c.base x.at x
      (h.gathered call op gather ask f) want is);
  flushed = λ k o seq b d e. absurd (cc);
  floor = λ k o seq b d s e. absurd (cc);
  told = λ p on. still_true p (h.told p on);
  writes = λ e o y on name above. still y (h.writes e o y on name above);
  installs = h.installs;
}
  where
    same_op : (k o : ℕ) (ps : List Chunk) (a : Ask) → Some (Flight.Promote call op
        (gather ++ x ∷ []) ask) ≡ Some (Flight.Promote k o ps a) → op ≡ o
    same_op k o ps a e = cc

    still_true : (p : BaseReply) → IsTrueOf c net.cache_epoch p
        → IsTrueOf (record c {
          flight = Some (Flight.Promote call op
              (gather ++ x ∷ []) ask);
        }) net.cache_epoch p
    still_true (BaseReply.Fenced e) k = tt
    still_true (BaseReply.Chunk e o None) k = tt
    still_true (BaseReply.Chunk e o (Some y)) k = λ now cl ps a g. k now call gather ask (f
        ∙ ap (λ i. Some (Flight.Promote call i gather ask)) (same_op cl o ps a g))
    still_true (BaseReply.Looked e o l) k = λ now list r g is same. absurd (cc)
    still_true (BaseReply.Wrote e o a) k = λ now d w r g. absurd (cc)
    still_true (BaseReply.Installed e o m) k = λ now cl seq b d g. absurd (cc)
    still_true (BaseReply.NoSpace e o used need limit) k = tt
    still_true (BaseReply.OldEpoch have got) k = tt
    still_true (BaseReply.NotFenced have got) k = tt

    still : (r : Req) → IsHarmless n c net r → IsHarmless n (record c {
      flight = Some
          (Flight.Promote call op (gather ++ x ∷ []) ask);
    }) net r
    still r (inl living) = let g = living.3 in absurd (cc)
    still r (inr rest) = inr rest

-- the cache is up again: no Write that the base would take is left
pub at_up : (n : Name) (c : Cell) (net : Net) → SoundAt n c net → ((e op : ℕ) (r : Req)
    → IsIn (BaseMsg.Write e op r) net.wire → e < net.base_epoch)
    → SoundAt n c (record net { phase = Phase.Up; fenced = true })
at_up n c net h none = record {
  base = h.base;
  clean = h.clean;
  shows = h.shows;
  few = h.few;
  bare = h.bare;
  gathered = h.gathered;
  flushed = h.flushed;
  floor = h.floor;
  told = h.told;
  writes = λ e op x on name above. absurd (omega (arith, none e op x on, above));
  installs = h.installs;
}
