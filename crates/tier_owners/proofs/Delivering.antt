-- Messages are delivered of which no act comes.
use Rattle.std.proofs.Common.{◌≡◌, ◌≢◌, ◌<◌, ◌≤◌, ℕ, Bool, true, false, ◌∷◌, Option, Some, None, refl, sym, ap, subst, arith, inl, inr}
use Rattle.std.specs.Prelude.{if◌then◌else◌, nat_lt}
use Rattle.std.proofs.lemmas.Bool.{ltb-true, ltb-false}
use Rattle.obj_model.specs.declared.reply.Reply.{Reply}
use Rattle.obj_model.specs.declared.req.Req.{Req}
use Rattle.obj_model.specs.declared.state.NameState.{NameState}
use Rattle.obj_ops.specs.declared.request.Acted.{Acted}
use Rattle.obj_ops.specs.declared.request.Acted.TheVariants.{Fresh, Again, Stale, Worn}
use Rattle.obj_ops.specs.Acts.{act}
use Rattle.obj_ops.specs.Stores.{state_of}
use Rattle.tier_types.specs.Flights.{is_bare}
use Rattle.tier_types.specs.Serving.{Served, put_by, replies, told_of}
use Rattle.tier_protocol.specs.Tiers.{Name, Flight, BaseMsg, BaseReply, BaseActed, Net, Tier, IsIn, cell_of}
use Rattle.tier_protocol.specs.Sound.{IsSound, IsSpent, is_dirty}
use Rattle.tier_protocol.specs.Moves.{with_base, with_reply, with_served}
use Rattle.tier_protocol.specs.Owners.{Ledger, SoundOwners}
use Rattle.tier_protocol.proofs.Cells.{base_here, base_there, same_or_not}
use Rattle.tier_protocol.proofs.Delivers.{in_epoch_by}
use Rattle.tier_protocol.proofs.Owners.{quiet_keeps}
use Rattle.tier_owners.specs.Calls.{DeliveringKeepsOwners}
use Rattle.tier_owners.proofs.Quiets.{quiet_fenced, quiet_replied}
use Rattle.tier_owners.proofs.Spent.{not_longer}

-- ---- a message is delivered, of which no act comes

-- a state is installed
install_owned : (t : Tier) (l : Ledger) (e op : ℕ) (k : Name) (s : NameState) → IsSound t
    → SoundOwners t l → IsIn (BaseMsg.Install e op k s) t.net.wire → (state_of t.base k).seq < s.seq
    → SoundOwners (with_reply (BaseReply.Installed e op s.seq) (with_base k s t)) l
install_owned t l e op k s h w on above = record {
  same = w.same;
  known = w.known;
  asked = w.asked;
  given = w.given;
  reached = w.reached;
  acted = w.acted;
  once = w.once;
  pending = λ o is there low. elim (w.pending o is there low) [
    | inl spent ↦ inl (still o.req.name o.req spent)
    | inr free ↦ inr free
  ];
  writing = λ n d v j q f. let x = w.writing n d v j q f in record {
    line = x.line;
    asked = x.asked;
    pending = x.pending;
    acted = λ a is mine. let g = x.acted a is mine in (
      g.0,
      subst (λ c. act c.base q ≡ Again a.reply) (sym (base_there t k s n
          (other n d v j q f))) g.1,
    );
    own = x.own;
    told = λ answer there. elim there [ inl same ↦ absurd (cc) | inr old ↦ x.told answer old ];
  };
}
  where
    next : Net
    next = record t.net { replies = BaseReply.Installed e op s.seq ∷ t.net.replies }

    behind : s.seq ≤ (cell_of t k).plain.seq
    behind = ((h.names k).installs e op s on).behind

    -- where a write request is under way the base has the plain store's state, and takes no other
    other : (n : Name) (d : Option ℕ) (v j : ℕ) (q : Req)
        → (cell_of t n).flight ≡ Some (Flight.Write d v j q) → n ≢ k
    other n d v j q f is =
        let at = h.names n in
        let even : (cell_of t n).base ≡ (cell_of t n).plain = at.clean (ap is_dirty (at.bare
        (ap is_bare f))) in
        let here : (cell_of t k).base ≡ (cell_of t k).plain =
        subst (λ m. (cell_of t m).base ≡ (cell_of t m).plain) is even in
        omega (arith, above, behind, ap (λ x. x.seq) here)

    still_here : (q : Req) → IsSpent k (cell_of t k) t.net q
        → IsSpent k (record (cell_of t k) { base = s }) next q
    still_here q (inl worn) = absurd (omega (arith, above, behind, worn, (h.names k).few))
    still_here q (inr x) =
        inr (
          x.2 e op s on above,
          x.1,
          λ i j u there more. x.2 i j u there (omega
              (arith, above, more)),
        )

    still : (n : Name) (q : Req) → IsSpent n (cell_of t n) t.net q
        → IsSpent n (cell_of (with_base k s t) n) next q
    still n q spent = elim (same_or_not n k) [
      | inl is ↦
          subst (λ m. IsSpent m (cell_of (with_base k s t) m) next q) (sym is)
          (subst (λ c. IsSpent k c next q) (sym (base_here t k s))
          (still_here q (subst (λ m. IsSpent m (cell_of t m) t.net q) is spent)))
      | inr ne ↦ subst (λ c. IsSpent n c next q) (sym (base_there t k s n ne))
          (spent_same n q spent)
    ]
      where
        spent_same : (n : Name) (q : Req) → IsSpent n (cell_of t n) t.net q
            → IsSpent n (cell_of t n) next q
        spent_same n q (inl worn) = inl worn
        spent_same n q (inr x) = inr x

-- the owners are as they have to be after the base made this of the message
abbrev IsOwnedAfter : Tier → Ledger → BaseMsg → Served → Type 0
IsOwnedAfter t l m x = (with_served m x t).acts ≡ t.acts → SoundOwners (with_served m x t) l

told_owned : (t : Tier) (l : Ledger) (p : BaseReply) → SoundOwners t l
    → ((e op : ℕ) (answer : Reply) → BaseReply.Wrote e op (BaseActed.Fresh answer) ≡ p → ⊥)
    → SoundOwners (with_reply p t) l
told_owned t l p w none = quiet_keeps t (with_reply p t) l w (quiet_replied t p none)

old_owned : (t : Tier) (l : Ledger) (e : ℕ) → SoundOwners t l
    → SoundOwners (with_reply (BaseReply.OldEpoch t.net.base_epoch e) t) l
old_owned t l e w = told_owned t l (BaseReply.OldEpoch t.net.base_epoch e) w
    (λ i op answer same. absurd (cc))

fence_owned : (t : Tier) (l : Ledger) (e : ℕ) → SoundOwners t l → (b : Bool)
    → nat_lt e t.net.base_epoch ≡ b
    → SoundOwners (with_served (BaseMsg.Fence e)
    (if b then replies t.net.base_epoch (BaseReply.OldEpoch t.net.base_epoch e)
    else replies e (BaseReply.Fenced e)) t) l
fence_owned t l e w true low = old_owned t l e w
fence_owned t l e w false high =
    quiet_keeps t (with_served (BaseMsg.Fence e) (replies e (BaseReply.Fenced e)) t) l w
    (quiet_fenced t e (ltb-false e t.net.base_epoch high))

write_owned : (t : Tier) (l : Ledger) (e op : ℕ) (r : Req) → SoundOwners t l → (a : Acted)
    → IsOwnedAfter t l (BaseMsg.Write e op r)
    (record { epoch = t.net.base_epoch; put = put_by a; reply = BaseReply.Wrote e op (told_of a) })
write_owned t l e op r w (Fresh s answer) none = absurd (not_longer t.acts r none)
write_owned t l e op r w (Again answer) none =
    told_owned t l (BaseReply.Wrote e op (BaseActed.Again answer)) w (λ i j given same. absurd (cc))
write_owned t l e op r w (Stale kept) none =
    told_owned t l (BaseReply.Wrote e op (BaseActed.Stale kept)) w (λ i j given same. absurd (cc))
write_owned t l e op r w (Worn limit) none =
    told_owned t l (BaseReply.Wrote e op (BaseActed.Worn limit)) w (λ i j given same. absurd (cc))

put_owned : (t : Tier) (l : Ledger) (e op : ℕ) (k : Name) (s : NameState) → IsSound t
    → SoundOwners t l → IsIn (BaseMsg.Install e op k s) t.net.wire → (b : Bool)
    → nat_lt (state_of t.base k).seq s.seq ≡ b
    → SoundOwners (with_served (BaseMsg.Install e op k s) (record {
      epoch = t.net.base_epoch;
      put = if b then Some s else None;
      reply = BaseReply.Installed e op s.seq;
    }) t) l
put_owned t l e op k s h w on true above =
    install_owned t l e op k s h w on (ltb-true (state_of t.base k).seq s.seq above)
put_owned t l e op k s h w on false low =
    told_owned t l (BaseReply.Installed e op s.seq) w (λ i j answer same. absurd (cc))

pub delivering_owned : DeliveringKeepsOwners
delivering_owned t l (BaseMsg.Fence e) h w on none =
    fence_owned t l e w (nat_lt e t.net.base_epoch) refl
delivering_owned t l (BaseMsg.GetChunk e op k at) h w on none =
    in_epoch_by (IsOwnedAfter t l (BaseMsg.GetChunk e op k at)) t.net.base_epoch e _
    (h.epochs.known (BaseMsg.GetChunk e op k at) on) (λ lt none. old_owned t l e w)
    (λ now none. told_owned t l _ w (λ i j answer same. absurd (cc))) none
delivering_owned t l (BaseMsg.Look e op k v) h w on none =
    in_epoch_by (IsOwnedAfter t l (BaseMsg.Look e op k v)) t.net.base_epoch e _
    (h.epochs.known (BaseMsg.Look e op k v) on) (λ lt none. old_owned t l e w)
    (λ now none. told_owned t l _ w (λ i j answer same. absurd (cc))) none
delivering_owned t l (BaseMsg.Write e op r) h w on none =
    in_epoch_by (IsOwnedAfter t l (BaseMsg.Write e op r)) t.net.base_epoch e _
    (h.epochs.known (BaseMsg.Write e op r) on) (λ lt none. old_owned t l e w)
    (λ now none. write_owned t l e op r w (act (state_of t.base r.name) r) none) none
delivering_owned t l (BaseMsg.Install e op k s) h w on none =
    in_epoch_by (IsOwnedAfter t l (BaseMsg.Install e op k s)) t.net.base_epoch e _
    (h.epochs.known (BaseMsg.Install e op k s) on) (λ lt none. old_owned t l e w)
    (λ now none. put_owned t l e op k s h w on (nat_lt (state_of t.base k).seq s.seq) refl) none
