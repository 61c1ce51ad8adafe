-- Messages that reach the base.
use Rattle.std.proofs.Common.{◌≡◌, ◌≢◌, ◌<◌, ◌≤◌, ◌⊎◌, ℕ, Bool, true, false, List, ◌∷◌, Option, Some, None, refl, sym, ap, subst, ◌∙◌, arith, inl, inr}
use Rattle.std.specs.Prelude.{if◌then◌else◌, nat_lt}
use Rattle.std.proofs.lemmas.Bool.{ltb-true, ltb-false}
use Rattle.copy_chunk.specs.Chunks.{chunk_at, chunks_of}
use Rattle.copy_chunk.specs.declared.chunk.Chunk.{Chunk}
use Rattle.copy_chunk.specs.declared.chunk.Cursor.{Cursor}
use Rattle.obj_model.specs.declared.reply.Reply.{Reply}
use Rattle.obj_model.specs.declared.req.Req.{Req}
use Rattle.obj_model.specs.declared.state.NameState.{NameState}
use Rattle.obj_model.specs.declared.sub_op.SubOp.{SubOp}
use Rattle.obj_ops.specs.declared.request.Acted.{Acted}
use Rattle.obj_ops.specs.declared.request.Acted.TheVariants.{Fresh, Again, Stale, Worn}
use Rattle.obj_ops.specs.Acts.{act, look}
use Rattle.obj_ops.specs.Stores.{state_of}
use Rattle.tier_types.specs.Flights.{HasOpid, is_bare}
use Rattle.tier_types.specs.Serving.{Served, epoch_in, in_epoch, opid_in, put_by, replies, told_of}
use Rattle.tier_protocol.specs.Tiers.{Name, Flight, ReadFlight, BaseMsg, BaseReply, BaseActed, Net, Tier, Cell, IsIn, cell_of}
use Rattle.tier_protocol.specs.Memory.{IsFor, IsReplied}
use Rattle.tier_protocol.specs.Sound.{IsHarmless, IsSound, IsTold, IsTrueOf, IsWriting, SoundAt, is_dirty, is_fresh}
use Rattle.tier_protocol.specs.Moves.{with_act, with_base, with_reply, with_served}
use Rattle.tier_protocol.specs.Laws.{DeliveringKeeps, FillingKeeps}
use Rattle.tier_protocol.proofs.Requests.{covered_not_fresh, fresh_again, fresh_more, fresh_room}
use Rattle.tier_protocol.proofs.Cells.{act_here, act_there, base_here, base_there, names_by}
use Rattle.tier_protocol.proofs.Memory.{all_in, free_unless_up, memory_fenced, memory_replied}
use Rattle.tier_protocol.proofs.Epochs.{epochs_as, epochs_replied}
use Rattle.tier_protocol.proofs.Names.{at_acted_there, at_as, at_installed, at_replied}
use Rattle.tier_protocol.proofs.Places.{told_place}

-- a message of an epoch that the base knows is of an older one, or of its own
pub in_epoch_by : (P : Served → Type 0) (have e : ℕ) (done : Served) → e ≤ have → (e < have
    → P (replies have (BaseReply.OldEpoch have e))) → (e ≡ have → P done) → P (in_epoch have e done)
in_epoch_by P have e done low old now = by (nat_lt e have) (nat_lt have e) refl refl
  where
    by : (b c : Bool) → nat_lt e have ≡ b → nat_lt have e ≡ c
        → P (if b then replies have (BaseReply.OldEpoch have e) else if c then replies have
        (BaseReply.NotFenced have e) else done)
    by true c lt gt = old (ltb-true e have lt)
    by false true lt gt = absurd (omega (arith, low, ltb-true have e gt))
    by false false lt gt = now (omega (arith, low, ltb-false e have lt))

-- a reply that changes nothing else
pub replied : (t : Tier) (p : BaseReply) → IsSound t → IsReplied t.net p → IsTold t.net.base_epoch p
    → ((n : Name) → IsTrueOf (cell_of t n) t.net.cache_epoch p) → IsSound (with_reply p t)
replied t p h given told true_of = record {
  memory = memory_replied t.flights t.net p h.memory given;
  legal = h.legal;
  epochs = epochs_replied t.net p h.epochs told;
  names = λ n. at_replied n (cell_of t n) t.net p (h.names n) (true_of n);
}

refused : (t : Tier) (e : ℕ) → IsSound t → e < t.net.base_epoch
    → IsSound (with_reply (BaseReply.OldEpoch t.net.base_epoch e) t)
refused t e h old = replied t (BaseReply.OldEpoch t.net.base_epoch e) h old (omega arith) (λ n. tt)

-- a Fence
fence : (t : Tier) (e : ℕ) → IsSound t → IsIn (BaseMsg.Fence e) t.net.wire → (b : Bool)
    → nat_lt e t.net.base_epoch ≡ b
    → IsSound (with_served (BaseMsg.Fence e) (if b then replies t.net.base_epoch
    (BaseReply.OldEpoch t.net.base_epoch e) else replies e (BaseReply.Fenced e)) t)
fence t e h on true low = refused t e h (ltb-true e t.net.base_epoch low)
fence t e h on false high = record {
  memory = memory_replied t.flights new (BaseReply.Fenced e)
      (memory_fenced t.flights t.net e h.memory) sent;
  legal = h.legal;
  epochs = epochs_replied new (BaseReply.Fenced e)
      (epochs_as t.net new (λ up. omega (arith, h.epochs.level up, later, sent))
      (λ some. sent) later (all_in t.net.wire) (all_in t.net.replies) h.epochs) (omega arith);
  names = λ n. at_replied n (cell_of t n) new (BaseReply.Fenced e) (at_as n
      (cell_of t n) t.net new refl later (λ up. up) (all_in t.net.wire) (all_in t.net.replies)
      (h.names n)) tt;
}
  where
    new : Net
    new = record t.net { base_epoch = e }

    later : t.net.base_epoch ≤ e
    later = ltb-false e t.net.base_epoch high

    sent : e ≤ t.net.cache_epoch
    sent = h.memory.wire.sent (BaseMsg.Fence e) on

-- a chunk is asked for
copied : (t : Tier) (e op : ℕ) (k : Name) (at : Cursor) → IsSound t
    → IsIn (BaseMsg.GetChunk e op k at) t.net.wire → (o : Option Chunk)
    → chunk_at (chunks_of (state_of t.base k)) at ≡ o
    → IsSound (with_reply (BaseReply.Chunk e op o) t)
copied t e op k at h on o is = replied t (BaseReply.Chunk e op o) h (h.memory.wire.sent
    (BaseMsg.GetChunk e op k at) on) (h.epochs.known (BaseMsg.GetChunk e op k at) on)
    (λ n. true_of n o is)
  where
    true_of : (n : Name) (o : Option Chunk) → chunk_at (chunks_of (state_of t.base k)) at ≡ o
        → IsTrueOf (cell_of t n) t.net.cache_epoch (BaseReply.Chunk e op o)
    true_of n None is = tt
    true_of n (Some x) is = λ now call gather ask f.
        let own : k ≡ n = subst (λ y. IsFor n y (BaseMsg.GetChunk e op k at)) f
        ((h.memory.each n).own (BaseMsg.GetChunk e op k at) on now (subst (λ y. HasOpid y op)
        (sym f) refl)) in
        let place : at ≡ x.at = told_place (chunks_of (state_of t.base k)) at x is in
        ap (λ m. chunk_at (chunks_of (state_of t.base m)) x.at) (sym own)
        ∙ ap (chunk_at (chunks_of (state_of t.base k))) (sym place) ∙ is

-- a read
read : (t : Tier) (e op : ℕ) (k : Name) (v : List SubOp) → IsSound t
    → IsIn (BaseMsg.Look e op k v) t.net.wire → IsSound (with_reply (BaseReply.Looked e op (look
    (state_of t.base k) v)) t)
read t e op k v h on =
    replied t (BaseReply.Looked e op (look (state_of t.base k) v)) h (h.memory.wire.sent
    (BaseMsg.Look e op k v) on) (h.epochs.known (BaseMsg.Look e op k v) on)
    (λ n. λ now list r f is same.
    let own : (k ≡ n) × ((q : ReadFlight) → IsIn q list → q.opid ≡ op → q.vector ≡ v) =
    subst (λ y. IsFor n y (BaseMsg.Look e op k v)) f ((h.memory.each n).own
    (BaseMsg.Look e op k v) on now (subst (λ y. HasOpid y op) (sym f) (r, is, sym same))) in
    ap (λ m. look (state_of t.base m) v) own.0 ∙ ap (look (state_of t.base n)) (sym
    (own.1 r is same)))

-- A Write that acts meets no record, and either its own work or none.
pub flies : (t : Tier) (e op : ℕ) (r : Req) (s : NameState) (answer : Reply) → IsSound t
    → IsIn (BaseMsg.Write e op r) t.net.wire → e ≡ t.net.base_epoch
    → act (state_of t.base r.name) r ≡ Fresh s answer
    → ((cell_of t r.name).rec ≡ None) × (((cell_of t r.name).flight ≡ None)
    ⊎ IsWriting (cell_of t r.name).flight r)
flies t e op r s answer h on same acts = by ((h.names r.name).writes e op r on refl (omega
    (arith, same)))
  where
    by : IsHarmless r.name (cell_of t r.name) t.net r → ((cell_of t r.name).rec ≡ None)
        × (((cell_of t r.name).flight ≡ None) ⊎ IsWriting (cell_of t r.name).flight r)
    by (inl living) = ((h.names r.name).bare (ap is_bare living.3), inr living)
    by (inr (inl stopped)) = (
      stopped.1,
      inl (free_unless_up r.name (cell_of t r.name).flight t.net
          (h.memory.each r.name) stopped.0),
    )
    by (inr (inr (inl worn))) = absurd (fresh_room (state_of t.base r.name) r s answer acts worn)
    by (inr (inr (inr spent))) = absurd (covered_not_fresh
        (state_of t.base r.name) r s answer spent.0 acts)

-- and it acts on the plain store in the same way
pub acts_on_plain : (t : Tier) (e op : ℕ) (r : Req) (s : NameState) (answer : Reply) → IsSound t
    → IsIn (BaseMsg.Write e op r) t.net.wire → e ≡ t.net.base_epoch
    → act (state_of t.base r.name) r ≡ Fresh s answer
    → act (cell_of t r.name).plain r ≡ Fresh s answer
acts_on_plain t e op r s answer h on same acts =
    subst (λ x. act x r ≡ Fresh s answer) ((h.names r.name).clean (ap is_dirty
    (flies t e op r s answer h on same acts).0)) acts

same_req : (q r : Req) → q ≡ r → r ≡ q
same_req q r e = sym e

-- the request of a write's work is the one that was sent under its number
pub own_req : (t : Tier) (n : Name) (e op : ℕ) (r q : Req) (driver : Option ℕ) (owner : ℕ)
    → IsSound t → IsIn (BaseMsg.Write e op r) t.net.wire → e ≡ t.net.cache_epoch
    → (cell_of t n).flight ≡ Some (Flight.Write driver owner op q) → r ≡ q
own_req t n e op r q driver owner h on now f =
    subst (λ y. IsFor n y (BaseMsg.Write e op r)) f ((h.memory.each n).own
    (BaseMsg.Write e op r) on now (subst (λ y. HasOpid y op) (sym f) refl))

-- and so is its name
own_name : (t : Tier) (n : Name) (e op : ℕ) (r q : Req) (driver : Option ℕ) (owner : ℕ) → IsSound t
    → IsIn (BaseMsg.Write e op r) t.net.wire → e ≡ t.net.cache_epoch
    → (cell_of t n).flight ≡ Some (Flight.Write driver owner op q) → r.name ≡ n
own_name t n e op r q driver owner h on now f = ap (λ x. x.name)
    (own_req t n e op r q driver owner h on now f) ∙ (h.memory.each n).named driver owner op q f

-- a Write that does not act
write_told : (t : Tier) (e op : ℕ) (r : Req) (a : Acted) (b : BaseActed) → IsSound t
    → IsIn (BaseMsg.Write e op r) t.net.wire → act (state_of t.base r.name) r ≡ a
    → ((q : Req) (n : Name) → r ≡ q → r.name ≡ n → IsTrueOf (cell_of t n) t.net.cache_epoch
    (BaseReply.Wrote e op b))
    → IsSound (with_reply (BaseReply.Wrote e op b) t)
write_told t e op r a b h on acts true_of = replied t (BaseReply.Wrote e op b) h (h.memory.wire.sent
    (BaseMsg.Write e op r) on) (h.epochs.known (BaseMsg.Write e op r) on)
    (λ n. λ now d w q f. true_of q n (own_req t n e op r q d w h on now f)
    (own_name t n e op r q d w h on now f) now d w q f)

write_by : (t : Tier) (e op : ℕ) (r : Req) → IsSound t → IsIn (BaseMsg.Write e op r) t.net.wire
    → e ≡ t.net.base_epoch → (a : Acted) → act (state_of t.base r.name) r ≡ a
    → IsSound (with_served (BaseMsg.Write e op r)
    (record {
      epoch = t.net.base_epoch;
      put = put_by a;
      reply = BaseReply.Wrote e op
          (told_of a);
    }) t)
write_by t e op r h on same (Again answer) acts =
    write_told t e op r (Again answer) (BaseActed.Again answer) h on acts
    (λ q n is name. λ now d w x f. ap (λ m. act (state_of t.base m) x) (sym name)
    ∙ ap (act (state_of t.base r.name)) (sym (own_req t n e op r x d w h on now f)) ∙ acts)
write_by t e op r h on same (Stale kept) acts =
    write_told t e op r (Stale kept) (BaseActed.Stale kept) h on acts
    (λ q n is name. λ now d w x f. ap (λ m. act (state_of t.base m) x) (sym name)
    ∙ ap (act (state_of t.base r.name)) (sym (own_req t n e op r x d w h on now f)) ∙ acts)
write_by t e op r h on same (Worn limit) acts =
    write_told t e op r (Worn limit) (BaseActed.Worn limit) h on acts
    (λ q n is name. λ now d w x f. ap (λ m. act (state_of t.base m) x) (sym name)
    ∙ ap (act (state_of t.base r.name)) (sym (own_req t n e op r x d w h on now f)) ∙ acts)
write_by t e op r h on same (Fresh s answer) acts = record {
  memory = memory_replied t.flights t.net reply h.memory (h.memory.wire.sent
      (BaseMsg.Write e op r) on);
  legal = fresh_more t.acts t.opening r h.legal (ap is_fresh on_plain);
  epochs = epochs_replied t.net reply h.epochs (h.epochs.known (BaseMsg.Write e op r) on);
  names = names_by (λ n. SoundAt n (cell_of new n) next) r.name this other;
}
  where
    reply : BaseReply
    reply = BaseReply.Wrote e op (BaseActed.Fresh answer)

    next : Net
    next = record t.net { replies = reply ∷ t.net.replies }

    based : Tier
    based = with_base r.name s t

    new : Tier
    new = with_act r based

    on_plain : act (cell_of t r.name).plain r ≡ Fresh s answer
    on_plain = acts_on_plain t e op r s answer h on same acts

    cell_here : cell_of new r.name ≡ record (cell_of t r.name) { base = s; plain = s }
    cell_here = act_here based r s answer on_plain ∙ ap {A = Cell} {B = Cell}
        (λ c. record c { plain = s }) (base_here t r.name s)

    this : SoundAt r.name (cell_of new r.name) next
    this =
        let free = flies t e op r s answer h on same acts in
        subst (λ c. SoundAt r.name c next) (sym cell_here)
        (at_replied r.name (record (cell_of t r.name) { base = s; plain = s }) t.net reply
        (at_acted_there r.name (cell_of t r.name) t.net r s answer
        (h.names r.name) free.0 free.1 acts)
        (λ now d w q f. ap (act s) (sym (own_req t r.name e op r q d w h on now f))
        ∙ fresh_again (state_of t.base r.name) r s answer acts))

    other : (n : Name) → n ≢ r.name → SoundAt n (cell_of new n) next
    other n ne =
        subst (λ c. SoundAt n c next) (sym (act_there based r s answer n on_plain ne
        ∙ base_there t r.name s n ne))
        (at_replied n (cell_of t n) t.net reply (h.names n) (λ now d w q f. absurd (ne (sym
        (own_name t n e op r q d w h on now f)))))

-- a state is to be installed
install_by : (t : Tier) (e op : ℕ) (k : Name) (s : NameState) → IsSound t
    → IsIn (BaseMsg.Install e op k s) t.net.wire → (b : Bool)
    → nat_lt (state_of t.base k).seq s.seq ≡ b
    → IsSound (with_served (BaseMsg.Install e op k s)
    (record {
      epoch = t.net.base_epoch;
      put = if b then Some s else None;
      reply =
          BaseReply.Installed e op s.seq;
    }) t)
install_by t e op k s h on b is = by b is
  where
    reply : BaseReply
    reply = BaseReply.Installed e op s.seq

    next : Net
    next = record t.net { replies = reply ∷ t.net.replies }

    own : (n : Name) → e ≡ t.net.cache_epoch → (call : Option ℕ) (seq : ℕ) (bl d : Bool)
        → (cell_of t n).flight ≡ Some (Flight.Flush call op seq bl d) → (k ≡ n) × (seq ≤ s.seq)
    own n now call seq bl d f =
        let at : k ≡ n = subst (λ y. IsFor n y (BaseMsg.Install e op k s)) f ((h.memory.each n).own
        (BaseMsg.Install e op k s) on now (subst (λ y. HasOpid y op) (sym f) refl)) in (
          at,
          (h.names n).floor call op seq bl d s f (subst (λ i. IsIn
              (BaseMsg.Install i op n s) t.net.wire) now (subst (λ m. IsIn
              (BaseMsg.Install e op m s) t.net.wire) at on)),
        )

    this : (state_of t.base k).seq < s.seq → SoundAt k (cell_of (with_base k s t) k) next
    this above =
        subst (λ c. SoundAt k c next) (sym (base_here t k s))
        (at_replied k (record (cell_of t k) { base = s }) t.net reply (at_installed k
        (cell_of t k) t.net e op s (h.names k) on above)
        (λ now call seq bl d f. ((own k now call seq bl d f).1, omega arith)))

    other : (n : Name) → n ≢ k → SoundAt n (cell_of (with_base k s t) n) next
    other n ne =
        subst (λ c. SoundAt n c next) (sym (base_there t k s n ne))
        (at_replied n (cell_of t n) t.net reply (h.names n) (λ now call seq bl d f. absurd (ne (sym
        (own n now call seq bl d f).0))))

    by : (b : Bool) → nat_lt (state_of t.base k).seq s.seq ≡ b
        → IsSound (with_served (BaseMsg.Install e op k s)
        (record {
          epoch = t.net.base_epoch;
          put = if b then Some s else None;
          reply =
              BaseReply.Installed e op s.seq;
        }) t)
    by false low =
        replied t reply h (h.memory.wire.sent (BaseMsg.Install e op k s) on) (h.epochs.known
        (BaseMsg.Install e op k s) on)
        (λ n. λ now call seq bl d f. let g = own n now call seq bl d f in (
          g.1,
          subst (λ x. s.seq ≤
              (state_of t.base x).seq) g.0 (ltb-false (state_of t.base k).seq s.seq low),
        ))
    by true above = record {
      memory = memory_replied t.flights t.net reply h.memory (h.memory.wire.sent
          (BaseMsg.Install e op k s) on);
      legal = h.legal;
      epochs = epochs_replied t.net reply h.epochs (h.epochs.known (BaseMsg.Install e op k s) on);
      names = names_by (λ n. SoundAt n (cell_of (with_base k s t) n) next) k (this (ltb-true
          (state_of t.base k).seq s.seq above)) other;
    }

pub delivering : DeliveringKeeps
delivering t (BaseMsg.Fence e) h on = fence t e h on (nat_lt e t.net.base_epoch) refl
delivering t (BaseMsg.GetChunk e op k at) h on =
    in_epoch_by (λ s. IsSound (with_served (BaseMsg.GetChunk e op k at) s t)) t.net.base_epoch e _
    (h.epochs.known (BaseMsg.GetChunk e op k at) on) (refused t e h)
    (λ same. copied t e op k at h on (chunk_at (chunks_of (state_of t.base k)) at) refl)
delivering t (BaseMsg.Look e op k v) h on =
    in_epoch_by (λ s. IsSound (with_served (BaseMsg.Look e op k v) s t)) t.net.base_epoch e _
    (h.epochs.known (BaseMsg.Look e op k v) on) (refused t e h) (λ same. read t e op k v h on)
delivering t (BaseMsg.Write e op r) h on =
    in_epoch_by (λ s. IsSound (with_served (BaseMsg.Write e op r) s t)) t.net.base_epoch e _
    (h.epochs.known (BaseMsg.Write e op r) on) (refused t e h)
    (λ same. write_by t e op r h on same (act (state_of t.base r.name) r) refl)
delivering t (BaseMsg.Install e op k s) h on =
    in_epoch_by (λ x. IsSound (with_served (BaseMsg.Install e op k s) x t)) t.net.base_epoch e _
    (h.epochs.known (BaseMsg.Install e op k s) on) (refused t e h)
    (λ same. install_by t e op k s h on (nat_lt (state_of t.base k).seq s.seq) refl)

-- the commit of a message finds no space
pub filling : FillingKeeps
filling t m used need limit h may = replied t (BaseReply.NoSpace (epoch_in m)
    (opid_in m) used need limit) h (may.over, given m may.on) (known m may.on) (λ n. tt)
  where
    given : (m : BaseMsg) → IsIn m t.net.wire → opid_in m ≢ 0
        → IsReplied t.net (BaseReply.Installed (epoch_in m) (opid_in m) 0)
    given (BaseMsg.Fence e) on ne = absurd (ne refl)
    given (BaseMsg.GetChunk e op k at) on ne = h.memory.wire.sent (BaseMsg.GetChunk e op k at) on
    given (BaseMsg.Look e op k v) on ne = h.memory.wire.sent (BaseMsg.Look e op k v) on
    given (BaseMsg.Write e op r) on ne = h.memory.wire.sent (BaseMsg.Write e op r) on
    given (BaseMsg.Install e op k s) on ne = h.memory.wire.sent (BaseMsg.Install e op k s) on

    known : (m : BaseMsg) → IsIn m t.net.wire → opid_in m ≢ 0 → epoch_in m ≤ t.net.base_epoch
    known (BaseMsg.Fence e) on ne = absurd (ne refl)
    known (BaseMsg.GetChunk e op k at) on ne = h.epochs.known (BaseMsg.GetChunk e op k at) on
    known (BaseMsg.Look e op k v) on ne = h.epochs.known (BaseMsg.Look e op k v) on
    known (BaseMsg.Write e op r) on ne = h.epochs.known (BaseMsg.Write e op r) on
    known (BaseMsg.Install e op k s) on ne = h.epochs.known (BaseMsg.Install e op k s) on
