-- Whether a reply to work tells of work that waits for it.
use Rattle.std.proofs.Common.{◌≡◌, ◌↔◌, IsTrue, ℕ, Bool, true, false, List, Option, Some, None, is_some, refl, sym, ap, subst, ◌∙◌}
use Rattle.tier_chron.specs.Logs.{Log}
use Rattle.tier_chron.specs.declared.entries.Logged.{Logged}
use Rattle.tier_core.proofs.Told.{one_wrote}
use Rattle.tier_core.specs.Lacks.{IsLackedOf, TellsDriven, TellsLacked}
use Rattle.tier_core.specs.Lands.{IsToldOf, wrote_in}
use Rattle.tier_core.specs.declared.lands.Wrote.{Wrote}
use Rattle.tier_protocol.specs.Tiers.{Flight}
use Rattle.tier_traffic.specs.Messages.{replied_of}
use Rattle.tier_view.specs.Traffic.{Traffic}
use Rattle.tier_view.specs.declared.parts.Entry.{Entry}

module _ (t : Traffic) (epoch number : ℕ) where
  module _ (w : Wrote) (at : wrote_in epoch (replied_of t.replies number) ≡ Some w) where
    driven_told : (d : Option (ℕ × ℕ)) → TellsDriven t.flights w.opid d
        → IsTrue (is_some d) ↔ IsToldOf t epoch number
    driven_told (Some d) h = (
      (λ yes. (
        record { wrote = w; name = h.0.name; driver = d.0; owner = d.1 },
        record { wrote = at; req = h.0.req; flight = h.0.flight },
      )),
      (λ told. refl),
    )
    driven_told None h = (
      (λ no. absurd (cc)),
      (λ told. absurd (h told.0.driver told.0.owner
          (record {
            name = told.0.name;
            req = told.1.req;
            flight = told.1.flight ∙ ap (λ (x : Wrote). Some (Flight.Write
                (Some told.0.driver) told.0.owner x.opid told.1.req))
                (one_wrote t epoch number told.0.wrote w (sym told.1.wrote ∙ at));
          }))),
    )

    pub tells_driven : (d : Option (ℕ × ℕ)) (result : Bool) → result ≡ is_some d
        → TellsDriven t.flights w.opid d
        → IsTrue result ↔ IsToldOf t epoch number
    tells_driven d result is h =
        subst (λ (b : Bool). IsTrue b ↔ IsToldOf t epoch number) (sym is) (driven_told d h)

module _ (log : Log) (entries : List Entry) (t : Traffic) (epoch number : ℕ) where
  lacked_told : (l : Option Logged) → TellsLacked log entries t epoch number l
      → IsTrue (is_some l) ↔ IsLackedOf log entries t epoch number
  lacked_told (Some l) h = ((λ yes. (l, h)), (λ told. refl))
  lacked_told None h = ((λ no. absurd (cc)), (λ told. absurd (h told.0 told.1)))

  pub tells_lacked : (l : Option Logged) (result : Bool) → result ≡ is_some l
      → TellsLacked log entries t epoch number l
      → IsTrue result ↔ IsLackedOf log entries t epoch number
  tells_lacked l result is h =
      subst (λ (b : Bool). IsTrue b ↔ IsLackedOf log entries t epoch number) (sym is)
      (lacked_told l h)
