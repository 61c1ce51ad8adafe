-- One name: messages, replies, acts and states keep it as it has to stand.
use Rattle.std.proofs.Common.{◌≡◌, ◌≢◌, ◌<◌, ◌≤◌, ◌⊎◌, ℕ, ◌+◌, ◌^◌, Bool, true, false, ◌∷◌, Option, Some, None, refl, sym, ap, subst, ◌∙◌, arith, inl, inr}
use Rattle.obj_model.specs.declared.reply.Reply.{Reply}
use Rattle.obj_model.specs.declared.req.Req.{Req}
use Rattle.obj_model.specs.declared.state.NameState.{NameState}
use Rattle.obj_ops.specs.declared.request.Acted.TheVariants.{Fresh, Again, Stale, Worn}
use Rattle.obj_ops.specs.Acts.{act}
use Rattle.tier_types.specs.Flights.{is_bare, lets_write}
use Rattle.tier_types.specs.Serving.{lasting}
use Rattle.tier_protocol.specs.Tiers.{Name, Flight, TierRec, BaseMsg, BaseReply, BaseActed, Phase, Net, Cell, IsIn, AreIn}
use Rattle.tier_protocol.specs.Sound.{Covers, IsBehind, IsHarmless, IsSpent, IsTrueOf, IsWriting, Shows, SoundAt, is_dirty}
use Rattle.tier_protocol.proofs.Requests.{covers_stays, fresh_room, fresh_seq}

-- ---- the wire

spent_as : (n : Name) (c : Cell) (net new : Net) → AreIn new.wire net.wire → (r : Req)
    → IsSpent n c net r → IsSpent n c new r
spent_as n c net new fewer r (inl worn) = inl worn
spent_as n c net new fewer r (inr h) = inr (
  h.0,
  h.1,
  λ e op t on above. h.2 e op t (fewer
      (BaseMsg.Install e op n t) on) above,
)

-- messages and replies are lost, and what no name rests on changes
pub at_as : (n : Name) (c : Cell) (net new : Net) → net.cache_epoch ≡ new.cache_epoch
    → net.base_epoch ≤ new.base_epoch → (new.phase ≡ Phase.Up → net.phase ≡ Phase.Up)
    → AreIn new.wire net.wire → AreIn new.replies net.replies → SoundAt n c net → SoundAt n c new
at_as n c net new same later up fewer less h = record {
  base = h.base;
  clean = h.clean;
  shows = h.shows;
  few = h.few;
  bare = h.bare;
  gathered = h.gathered;
  flushed = h.flushed;
  floor = λ call op m b d s f on. h.floor call op m b d s f (fewer
      (BaseMsg.Install net.cache_epoch op n s) (subst (λ e. IsIn
      (BaseMsg.Install e op n s) new.wire) (sym same) on));
  told = λ p on. subst (λ e. IsTrueOf c e p) same (h.told p (less p on));
  writes = λ e op r on name above. still r (h.writes e op r (fewer (BaseMsg.Write e op r) on) name
      (omega (arith, later, above)));
  installs = λ e op t on. h.installs e op t (fewer (BaseMsg.Install e op n t) on);
}
  where
    still : (r : Req) → IsHarmless n c net r → IsHarmless n c new r
    still r (inl living) = inl living
    still r (inr (inl stopped)) = inr (inl (λ is. stopped.0 (up is), stopped.1))
    still r (inr (inr spent)) = inr (inr (spent_as n c net new fewer r spent))

-- what may still be installed covers all that the plain store covers
abbrev pub IsCovering : NameState → NameState → Type 0
IsCovering t s = (r : Req) → Covers s r → Covers t r

harmless_sent : (n : Name) (c : Cell) (net : Net) (m : BaseMsg) (r : Req)
    → ((e op : ℕ) (t : NameState) → BaseMsg.Install e op n t ≡ m → IsCovering t c.plain)
    → IsHarmless n c net r → IsHarmless n c (record net { wire = m ∷ net.wire }) r
harmless_sent n c net m r new (inl living) = inl living
harmless_sent n c net m r new (inr (inl stopped)) = inr (inl stopped)
harmless_sent n c net m r new (inr (inr (inl worn))) = inr (inr (inl worn))
harmless_sent n c net m r new (inr (inr (inr h))) =
    inr (inr (inr (
      h.0,
      h.1,
      λ e op t on above. elim on [
        | inl same ↦ new e op t same r h.1
        | inr old
            ↦ h.2 e op t old above
      ],
    )))

-- one more message
pub at_sent : (n : Name) (c : Cell) (net : Net) (m : BaseMsg) → SoundAt n c net
    → ((e op : ℕ) (r : Req) → BaseMsg.Write e op r ≡ m → r.name ≡ n → net.base_epoch ≤ e
    → IsHarmless n c net r)
    → ((e op : ℕ) (t : NameState) → BaseMsg.Install e op n t ≡ m → t ≡ c.plain)
    → SoundAt n c (record net { wire = m ∷ net.wire })
at_sent n c net m h write install = record {
  base = h.base;
  clean = h.clean;
  shows = h.shows;
  few = h.few;
  bare = h.bare;
  gathered = h.gathered;
  flushed = h.flushed;
  floor = λ call op seq b d s f on. elim on [
    | inl same ↦ omega (
      arith,
      (h.flushed call op seq b d f).1,
      ap (λ x. x.seq)
          (install net.cache_epoch op s same),
    )
    | inr old ↦ h.floor call op seq b d s f old
  ];
  told = h.told;
  writes = λ e op r on name above. harmless_sent n c net m r (λ i o t same q covers. subst
      (λ x. Covers x q) (sym (install i o t same)) covers)
      (elim on [
        | inl same ↦ write e op r same name above
        | inr old ↦ h.writes e op r old name above
      ]);
  installs = λ e op t on. elim on [
    | inl same ↦ let is = install e op t same in record {
      behind = omega (
        arith,
        ap
            (λ x. x.seq) is,
      );
      level = λ y. is;
    }
    | inr old ↦ h.installs e op t old
  ];
}

-- one more reply
pub at_replied : (n : Name) (c : Cell) (net : Net) (p : BaseReply) → SoundAt n c net
    → IsTrueOf c net.cache_epoch p → SoundAt n c (record net { replies = p ∷ net.replies })
at_replied n c net p h true_of = record {
  base = h.base;
  clean = h.clean;
  shows = h.shows;
  few = h.few;
  bare = h.bare;
  gathered = h.gathered;
  flushed = h.flushed;
  floor = h.floor;
  told = λ x on. elim on [
    | inl same ↦ subst (IsTrueOf c net.cache_epoch)
        (sym same) true_of
    | inr old ↦ h.told x old
  ];
  writes = h.writes;
  installs = h.installs;
}

-- ---- acts and states

-- a request acts on the record
pub at_acted_here : (n : Name) (c : Cell) (net : Net) (r v : TierRec) (q : Req) (answer : Reply)
    → SoundAt n c net → net.phase ≡ Phase.Up → c.rec ≡ Some r → lets_write c.flight ≡ true
    → v.dirty ≡ true → act c.plain q ≡ Fresh v.state answer → SoundAt n
    (record c { rec = Some v; plain = v.state }) net
at_acted_here n c net r v q answer h up rec lets dirty acts = record {
  base = record {
    behind = omega (arith, h.base.behind, more);
    level = λ e. absurd (omega
        (arith, h.base.behind, more, e));
  };
  clean = λ e. absurd (cc);
  shows = refl;
  few = omega (arith, more, h.few, room);
  bare = λ b. let none : c.rec ≡ None = h.bare b in absurd (cc);
  gathered = h.gathered;
  flushed = λ call op seq blocking drain e. (
    dirty,
    omega (
      arith,
      more,
      (h.flushed call op seq blocking drain e).1,
    ),
    λ b. absurd
        (blocked call op seq blocking drain e b),
  );
  floor = h.floor;
  told = h.told;
  writes = λ e op x on name above. still x (h.writes e op x on name above);
  installs = λ e op t on. let b = h.installs e op t on in record {
    behind = omega
        (arith, b.behind, more);
    level = λ same. absurd (omega (arith, b.behind, more, same));
  };
}
  where
    more : v.state.seq ≡ c.plain.seq + 1
    more = fresh_seq c.plain q v.state answer acts

    room : c.plain.seq ≢ 2 ^ 62
    room = fresh_room c.plain q v.state answer acts

    blocked : (call : Option ℕ) (op seq : ℕ) (blocking drain : Bool)
        → c.flight ≡ Some (Flight.Flush call op seq blocking drain) → blocking ≡ true → ⊥
    blocked call op seq blocking drain e b =
        let shut : lets_write (Some (Flight.Flush call op seq true drain)) ≡ true = subst
        (λ x. lets_write (Some (Flight.Flush call op seq x drain)) ≡ true) b (subst
        (λ f. lets_write f ≡ true) e lets) in absurd (cc)

    still : (x : Req) → IsHarmless n c net x → IsHarmless n
        (record c { rec = Some v; plain = v.state }) net x
    still x (inl living) = inl living
    still x (inr (inl stopped)) = absurd (stopped.0 up)
    still x (inr (inr (inl worn))) = inr (inr (inl worn))
    still x (inr (inr (inr k))) = inr (inr (inr
        (k.0, covers_stays c.plain x q v.state answer k.1 acts, k.2)))

-- a request acts on the base, of a name without a record: by its own work, or where there is no
-- work
pub at_acted_there : (n : Name) (c : Cell) (net : Net) (q : Req) (s : NameState) (answer : Reply)
    → SoundAt n c net → c.rec ≡ None → (c.flight ≡ None) ⊎ IsWriting c.flight q
    → act c.base q ≡ Fresh s answer → SoundAt n (record c { base = s; plain = s }) net
at_acted_there n c net q s answer h rec flies acts = record {
  base = record { behind = omega arith; level = λ e. refl };
  clean = λ e. refl;
  shows = subst (λ x. Shows x s) (sym rec) tt;
  few = omega (arith, more, h.few, room, ap (λ x. x.seq) even);
  bare = h.bare;
  gathered = λ call op gather ask e. absurd (elim flies [
    | inl free ↦ absurd
        (cc)
    | inr w ↦ let g = w.3 in absurd (cc)
  ]);
  flushed = λ call op seq b d e. absurd (elim flies [
    | inl free ↦ absurd
        (cc)
    | inr w ↦ let g = w.3 in absurd (cc)
  ]);
  floor = λ call op seq b d x e. absurd (elim flies [
    | inl free ↦ absurd
        (cc)
    | inr w ↦ let g = w.3 in absurd (cc)
  ]);
  told = λ p on. still_true p (h.told p on);
  writes = λ e op x on name above. still x (h.writes e op x on name above);
  installs = λ e op t on. let b = h.installs e op t on in
      record {
        behind = omega (arith, b.behind, more, ap (λ x. x.seq) even);
        level = λ same. absurd
            (omega (arith, b.behind, more, same, ap (λ x. x.seq) even));
      };
}
  where
    more : s.seq ≡ c.base.seq + 1
    more = fresh_seq c.base q s answer acts

    room : c.base.seq ≢ 2 ^ 62
    room = fresh_room c.base q s answer acts

    even : c.base ≡ c.plain
    even = h.clean (ap is_dirty rec)

    still : (x : Req) → IsHarmless n c net x → IsHarmless n (record c { base = s; plain = s }) net x
    still x (inl living) = inl living
    still x (inr (inl stopped)) = inr (inl stopped)
    still x (inr (inr (inl worn))) = absurd (room worn)
    still x (inr (inr (inr k))) =
        let covers = covers_stays c.base x q s answer k.0 acts in
        inr (inr (inr (
          covers,
          covers,
          λ e op t on above. k.2 e op t on (omega
              (arith, above, more)),
        )))

    same_req : (d e : Option ℕ) (w v o p : ℕ) (x y : Req) → Some (Flight.Write d w o x) ≡ Some
        (Flight.Write e v p y) → x ≡ y
    same_req d e w v o p x y is = cc

    never : (a : BaseActed) (r : Req) → q ≡ r → act c.base r ≡ lasting a → ⊥
    never (BaseActed.Fresh reply) r e is = let g : Fresh s answer ≡ Again reply = sym acts
        ∙ ap (act c.base) e ∙ is in absurd (cc)
    never (BaseActed.Again reply) r e is = let g : Fresh s answer ≡ Again reply = sym acts
        ∙ ap (act c.base) e ∙ is in absurd (cc)
    never (BaseActed.Stale kept) r e is = let g : Fresh s answer ≡ Stale kept = sym acts
        ∙ ap (act c.base) e ∙ is in absurd (cc)
    never (BaseActed.Worn limit) r e is = let g : Fresh s answer ≡ Worn limit = sym acts
        ∙ ap (act c.base) e ∙ is in absurd (cc)

    still_true : (p : BaseReply) → IsTrueOf c net.cache_epoch p
        → IsTrueOf (record c { base = s; plain = s }) net.cache_epoch p
    still_true (BaseReply.Fenced e) k = tt
    still_true (BaseReply.Chunk e op None) k = tt
    still_true (BaseReply.Chunk e op (Some x)) k = λ now call gather ask f. absurd
        (elim flies [ inl free ↦ absurd (cc) | inr w ↦ let g = w.3 in absurd (cc) ])
    still_true (BaseReply.Looked e op l) k = λ now list r f on same. absurd
        (elim flies [ inl free ↦ absurd (cc) | inr w ↦ let g = w.3 in absurd (cc) ])
    still_true (BaseReply.Wrote e op a) k = λ now d o r f. absurd (elim flies [
      | inl free ↦ absurd
          (cc)
      | inr w ↦ never a r (same_req w.0 d w.1 o w.2 op q r (sym w.3 ∙ f)) (k now d o r f)
    ])
    still_true (BaseReply.Installed e op m) k = λ now call seq b d f. absurd
        (elim flies [ inl free ↦ absurd (cc) | inr w ↦ let g = w.3 in absurd (cc) ])
    still_true (BaseReply.NoSpace e op used need limit) k = tt
    still_true (BaseReply.OldEpoch have got) k = tt
    still_true (BaseReply.NotFenced have got) k = tt

-- a state is installed over one that has had fewer requests
pub at_installed : (n : Name) (c : Cell) (net : Net) (e op : ℕ) (t : NameState) → SoundAt n c net
    → IsIn (BaseMsg.Install e op n t) net.wire → c.base.seq < t.seq
    → SoundAt n (record c { base = t }) net
at_installed n c net e op t h on above = record {
  base = there;
  clean = λ level. absurd (not_level level);
  shows = h.shows;
  few = h.few;
  bare = h.bare;
  gathered = λ call o gather ask f. absurd (not_bare (ap is_bare f));
  flushed = h.flushed;
  floor = h.floor;
  told = λ p is. still_true p (h.told p is);
  writes = λ f o x is name low. still x (h.writes f o x is name low);
  installs = h.installs;
}
  where
    there : IsBehind t c.plain
    there = h.installs e op t on

    not_level : is_dirty c.rec ≡ false → ⊥
    not_level level = omega (arith, there.behind, above, ap (λ x. x.seq) (h.clean level))

    not_bare : is_bare c.flight ≡ true → ⊥
    not_bare b = not_level (ap is_dirty (h.bare b))

    still : (x : Req) → IsHarmless n c net x → IsHarmless n (record c { base = t }) net x
    still x (inl living) = inl living
    still x (inr (inl stopped)) = inr (inl stopped)
    still x (inr (inr (inl worn))) = absurd (omega (arith, there.behind, above, worn, h.few))
    still x (inr (inr (inr k))) = inr (inr (inr
        (k.2 e op t on above, k.1, λ f o u is more. k.2 f o u is (omega (arith, above, more)))))

    still_true : (p : BaseReply) → IsTrueOf c net.cache_epoch p
        → IsTrueOf (record c { base = t }) net.cache_epoch p
    still_true (BaseReply.Fenced f) k = tt
    still_true (BaseReply.Chunk f o None) k = tt
    still_true (BaseReply.Chunk f o (Some x)) k = λ now call gather ask fl. absurd (not_bare
        (ap is_bare fl))
    still_true (BaseReply.Looked f o l) k = λ now list r fl is same. absurd (not_bare
        (ap is_bare fl))
    still_true (BaseReply.Wrote f o a) k = λ now d w r fl. absurd (not_bare (ap is_bare fl))
    still_true (BaseReply.Installed f o m) k = λ now call seq b d fl. let g = k now call seq b d fl
        in (g.0, omega (arith, g.1, above))
    still_true (BaseReply.NoSpace f o used need limit) k = tt
    still_true (BaseReply.OldEpoch have got) k = tt
    still_true (BaseReply.NotFenced have got) k = tt

-- a record is put, changed or taken out, where the base has the plain store's state and nothing is
-- under way
pub at_rec : (n : Name) (c : Cell) (net : Net) (v : Option TierRec) → SoundAt n c net
    → net.phase ≡ Phase.Up → c.flight ≡ None → c.base ≡ c.plain → Shows v c.plain
    → SoundAt n (record c { rec = v }) net
at_rec n c net v h up free level shows = record {
  base = h.base;
  clean = λ e. level;
  shows = shows;
  few = h.few;
  bare = λ b. let g : is_bare None ≡ true = subst (λ f. is_bare f ≡ true) free b in absurd (cc);
  gathered = h.gathered;
  flushed = λ call op seq b d e. absurd (cc);
  floor = h.floor;
  told = h.told;
  writes = λ e op x on name above. still x (h.writes e op x on name above);
  installs = h.installs;
}
  where
    still : (x : Req) → IsHarmless n c net x → IsHarmless n (record c { rec = v }) net x
    still x (inl living) = inl living
    still x (inr (inl stopped)) = absurd (stopped.0 up)
    still x (inr (inr spent)) = inr (inr spent)
