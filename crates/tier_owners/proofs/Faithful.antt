-- From the attachment of a pair on, in every moment of every run, it is faithful to the plain
-- store.
use Rattle.std.proofs.Common.{refl, sym, subst, inl, inr}
use Rattle.tier_protocol.specs.Tiers.{cell_of}
use Rattle.tier_protocol.proofs.Owners.{landing_fits}
use Rattle.tier_protocol.proofs.Steps.{base_alone, found_sound, shown}
use Rattle.tier_protocol.proofs.Truth.{reads_true, writes_true}
use Rattle.tier_protocol.proofs.Worlds.{left_whole}
use Rattle.tier_owners.specs.Moving.{IsHeld, System}
use Rattle.tier_owners.specs.Runs.{IsFaithful, RunsAreFaithful, TakenIsLost, attached}
use Rattle.tier_owners.proofs.Closing.{found_owned}
use Rattle.tier_owners.proofs.Histories.{history_grows, legal_act_once}
use Rattle.tier_owners.proofs.Keeping.{runs_keep}

-- what holds makes the pair faithful to the store that its history began with
faithful_to_own : (u : System) → IsHeld u → IsFaithful u.tier.opening u
faithful_to_own u h = record {
  held = h;
  legal = h.sound.legal;
  calls = h.owners.same;
  answered = h.answered;
  once = legal_act_once u.tier.opening u.tier.acts h.sound.legal;
  reads = λ k list r l f on told. reads_true u.tier k list r l h.sound f on told;
  writes = λ k driver owner op r b may. writes_true u.tier k driver owner op r b h.sound may;
  landings = λ k driver owner op r b may.
      landing_fits u.tier u.ledger k driver owner op r b h.sound h.owners may;
  shows = λ k rec e. shown u.tier k rec h.sound e;
  alone = λ none k. base_alone u.tier h.sound none k;
}

pub runs_faithful : RunsAreFaithful
runs_faithful recs base plain e f us stands low run u (inl same) =
    subst (IsFaithful plain) (sym same)
    (faithful_to_own (attached recs base plain e f)
    (record {
      sound = found_sound recs base plain e f stands low;
      owners = found_owned recs base
          plain e f;
      answered = tt;
    }))
runs_faithful recs base plain e f us stands low run u (inr on) =
    subst (λ p. IsFaithful p u) (history_grows (attached recs base plain e f) us run u on).opening
    (faithful_to_own u (runs_keep (attached recs base plain e f) us
    (record {
      sound = found_sound recs base plain e f stands low;
      owners = found_owned recs base
          plain e f;
      answered = tt;
    })
    run u on))

pub taken_is_lost : TakenIsLost
taken_is_lost t m = record {
  same = refl;
  flights = λ n. left_whole (cell_of t n).flight;
  wire = λ x is. is;
  replies = λ p is. inr is;
}
