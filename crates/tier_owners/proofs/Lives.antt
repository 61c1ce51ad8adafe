-- Runs that exist: a drain, a want of space, and a first answer from two empty pools.
use Rattle.std.proofs.Common.{◌≡◌, ◌≤◌, ◌^◌, ℕ, ◌+◌, true, false, Some, None, unwrap_or, refl, sym, ap, subst, ◌∙◌, arith, inl}
use Rattle.std.specs.Prelude.{if◌then◌else◌}
use Rattle.std.specs.FinMap as fin
use Rattle.std.proofs.lemmas.Bool.{eq-eqb}
use Rattle.obj_model.specs.Names.{name_cmp}
use Rattle.obj_model.specs.States.{unknown}
use Rattle.obj_model.specs.declared.state.NameState.{NameState}
use Rattle.obj_ops.specs.declared.request.Acted.TheVariants.{Fresh}
use Rattle.obj_ops.specs.Acts.{act}
use Rattle.obj_ops.specs.Stores.{state_of}
use Rattle.tier_protocol.specs.Tiers.{Flight, BaseMsg, Name, Net, Phase, TierRec, cell_of}
use Rattle.tier_protocol.specs.Sound.{Shows, is_dirty}
use Rattle.tier_protocol.specs.Moves.{begun, delivered, drained, raised_to, sent, went_up, with_flight, with_net, MayClean}
use Rattle.tier_protocol.proofs.Cells.{flight_here, rec_here}
use Rattle.tier_protocol.proofs.Fits.{flushes_clean}
use Rattle.tier_protocol.proofs.Steps.{found_sound, shown}
use Rattle.tier_owners.specs.Calls.{HasAsked, with_asked}
use Rattle.tier_owners.specs.Moving.{IsHeld, Moves, System, with_tier, asks, begins, delivers, drains, fills, goes_up, raises, sends}
use Rattle.tier_owners.specs.Reaching.{DrainsRun, EmptyPairsRun, FillsRun}
use Rattle.tier_owners.specs.Runs.{attached}
use Rattle.tier_owners.proofs.Closing.{found_owned}
use Rattle.tier_owners.proofs.Courses.{after_more, after_one}
use Rattle.tier_owners.proofs.Guides.{writes_run}
use Rattle.tier_owners.proofs.Keeping.{moves_keep}

pub drains_run : DrainsRun
drains_run s k rec h up has dirty free =
    after_more s first _ begin (after_more first second _ send (after_more second third _ hear
    (after_one third fourth _ drain (
      gone,
      (held.sound.names k).clean (ap is_dirty gone) ∙ sym (shown s.tier k rec h.sound has),
    ))))
  where
    op : ℕ
    op = s.tier.net.next_opid

    work : Flight
    work = Flight.Flush None op rec.state.seq false true

    m : BaseMsg
    m = BaseMsg.Install s.tier.net.cache_epoch op k rec.state

    next : Net
    next = record s.tier.net { next_opid = op + 1 }

    first : System
    first = with_tier s (begun k work s.tier)

    second : System
    second = with_tier first (sent m first.tier)

    third : System
    third = with_tier second (delivered m second.tier)

    fourth : System
    fourth = with_tier third (drained k third.tier)

    flight : (cell_of first.tier k).flight ≡ Some work
    flight = ap (λ c. c.flight) (flight_here (with_net next s.tier) k (Some work))

    begin : Moves s first
    begin = begins k work up (free, refl, (rec, has, dirty, refl)) refl

    send : Moves first second
    send = sends m (refl, (None, rec.state.seq, false, true, rec, flight, has, refl)) refl

    hear : Moves second third
    hear = delivers m (inl refl) refl

    may_clean : MayClean third.tier k None op rec.state.seq rec.state.seq false true rec
    may_clean = (flushes_clean s.tier k None rec false true h.sound up has dirty free).1

    drain : Moves third fourth
    drain = drains k None op rec.state.seq rec.state.seq false true rec may_clean

    held : IsHeld fourth
    held = moves_keep third fourth (moves_keep second third (moves_keep first second
        (moves_keep s first h begin) send) hear) drain

    gone : (cell_of fourth.tier k).rec ≡ None
    gone = ap (λ c. c.rec) (rec_here (with_flight k None third.tier) k None)

pub fills_run : FillsRun
fills_run s m used need limit on over =
    after_one s _ _ (fills m used need limit (record { on = on; over = over })) (inl refl)

pub empty_pairs_run : EmptyPairsRun
empty_pairs_run call line r state answer acts =
    after_more s first _ raise (after_more first second _ send (after_more second third _ hear
    (after_more third fourth _ up (after_more fourth fifth _ ask
    (writes_run fifth call line r state answer held is_up bare free has_asked
    (λ a on. absurd on, refl)
    (subst (λ x. act x r ≡ Fresh state answer) (sym plain) acts))))))
  where
    s : System
    s = attached fin.empty fin.empty fin.empty 0 0

    m : BaseMsg
    m = BaseMsg.Fence 1

    first : System
    first = with_tier s (raised_to 1 s.tier)

    second : System
    second = with_tier first (sent m first.tier)

    third : System
    third = with_tier second (delivered m second.tier)

    fourth : System
    fourth = with_tier third (went_up third.tier)

    fifth : System
    fifth = record fourth {
      ledger = with_asked call (record { line = line; req = r }) fourth.ledger;
    }

    raise : Moves s first
    raise = raises 1 (record {
      stopped = λ same. absurd (cc);
      later = omega arith;
      above = omega arith;
    })

    send : Moves first second
    send = sends m (refl, λ same. absurd (cc)) refl

    hear : Moves second third
    hear = delivers m (inl refl) refl

    up : Moves third fourth
    up = goes_up (record { raised = λ same. absurd (cc); reply = inl refl })

    ask : Moves fourth fifth
    ask = asks call (record { line = line; req = r }) refl refl

    begun_held : IsHeld s
    begun_held = record {
      sound = found_sound fin.empty fin.empty fin.empty 0 0 (record {
        behind = λ n. record { behind = omega arith; level = λ e. refl };
        clean = λ n e. refl;
        shows = λ n. subst (λ o. Shows o (state_of fin.empty n))
            (sym (fin.get-empty {X = TierRec} name_cmp n)) tt;
        few = λ n. subst (λ x. x.seq ≤ 2 ^ 62) (sym (nothing n)) (omega arith);
      }) (λ some. omega arith);
      owners = found_owned fin.empty fin.empty fin.empty 0 0;
      answered = tt;
    }
      where
        nothing : (n : Name) → state_of fin.empty n ≡ unknown
        nothing n = ap (λ o. unwrap_or o unknown) (fin.get-empty {X = NameState} name_cmp n)

    held : IsHeld fifth
    held = moves_keep fourth fifth (moves_keep third fourth (moves_keep second third
        (moves_keep first second (moves_keep s first begun_held raise) send) hear) up) ask

    is_up : fifth.tier.net.phase ≡ Phase.Up
    is_up = refl

    bare : (cell_of fifth.tier r.name).rec ≡ None
    bare = fin.get-empty {X = TierRec} name_cmp r.name

    free : (cell_of fifth.tier r.name).flight ≡ None
    free = fin.get-empty {X = Flight} name_cmp r.name

    has_asked : HasAsked fifth.ledger call line r
    has_asked = ap (λ b. if b then Some (record { line = line; req = r }) else None)
        (eq-eqb call call refl)

    plain : (cell_of fifth.tier r.name).plain ≡ unknown
    plain = ap (λ o. unwrap_or o unknown) (fin.get-empty {X = NameState} name_cmp r.name)
