-- Messages of a call among the places of messages.
use Rattle.std.proofs.Common.{◌≡◌, ℕ, ◌||◌, [], ◌∷◌, Some, None, refl, ap}
use Rattle.std.specs.List.{list_any}
use Rattle.std.specs.Map.{values_of}
use Rattle.tier_view.specs.declared.parts.Sent.{Sent}
use Rattle.tier_traffic.specs.Messages.{is_owned, is_owned_at}
use Rattle.tier_traffic.specs.Numbered.{Shelf, held_in}

-- a place without a message is no call's
pub owned_places : (call : ℕ) (es : Shelf Sent) → list_any (λ e. is_owned_at call e.1) es ≡ list_any (is_owned call) (values_of (held_in es))
owned_places call [] = refl
owned_places call ((n, None) ∷ es) = owned_places call es
owned_places call ((n, Some s) ∷ es) = ap (λ b. is_owned call s || b) (owned_places call es)
