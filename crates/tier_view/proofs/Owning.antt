-- Whose act each Write will be, where the ledger or the memory changes.
use Rattle.std.proofs.Common.{◌≡◌, inl, inr, ℕ, false, List, [], ◌∷◌, ◌++◌, Option, Some, None, sym, ap, subst}
use Rattle.obj_ops.specs.Stores.{Store}
use Rattle.tier_join.specs.Group.{Memory, TwoMaps}
use Rattle.tier_protocol.specs.Owners.{Asking, CallAct, IsOpen, Owned, Ledger, SoundOwners, with_call_act}
use Rattle.tier_protocol.specs.Tiers.{Tier}
use Rattle.tier_view.specs.Stores.{Pending}
use Rattle.tier_view.specs.Views.{act_in}
use Rattle.tier_view.specs.Worlds.{IsOwnedBy, IsOwnedWith}

-- one ledger knows all that the other does, and has the same Writes, acts and answers for good
pub record KnowsMore (l m : Ledger) : Type 0 where
  pub owned : m.owned ≡ l.owned
  pub acts : m.acts ≡ l.acts
  pub asks : (call : ℕ) (a : Asking) → l.asks call ≡ Some a → m.asks call ≡ Some a
  pub closed : (call : ℕ) → l.closed call ≡ false → m.closed call ≡ false

-- the same, where the Writes and acts are the same already
asked_more : (t : Tier) (l m : Ledger) → m.owned ≡ l.owned → m.acts ≡ l.acts → ((call : ℕ) (a : Asking) → l.asks call ≡ Some a → m.asks call ≡ Some a)
    → ((call : ℕ) → l.closed call ≡ false → m.closed call ≡ false) → SoundOwners t l → SoundOwners t m
asked_more t l m owned acts asks closed h = by (m.owned) (m.acts) (sym owned) (sym acts)
  where
    open_more : (call : ℕ) → IsOpen l call → IsOpen (record m { owned = l.owned; acts = l.acts }) call
    open_more call k = (k.0, closed call k.1)

    as_it_was : SoundOwners t (record m { owned = l.owned; acts = l.acts })
    as_it_was = record {
      same = h.same;
      known = h.known;
      asked = λ o on. asks o.call _ (h.asked o on);
      given = h.given;
      reached = h.reached;
      acted = λ a on. asks a.call _ (h.acted a on);
      once = h.once;
      pending = λ o on wire le. elim (h.pending o on wire le) [ inl spent ↦ inl spent | inr free ↦ inr (open_more o.call free) ];
      writing = λ n driver owner op r is. let k = h.writing n driver owner op r is in record {
        line = k.line;
        asked = asks owner _ k.asked;
        pending = closed owner k.pending;
        acted = k.acted;
        own = k.own;
        told = k.told;
      };
    }

    by : (os : List Owned) (cs : List CallAct) → l.owned ≡ os → l.acts ≡ cs → SoundOwners t (record m { owned = os; acts = cs })
    by os cs e f = subst (λ a. SoundOwners t (record m { owned = os; acts = a })) f (subst (λ o. SoundOwners t (record m { owned = o; acts = l.acts })) e as_it_was)

pub knows_more : (t : Tier) (l m : Ledger) → KnowsMore l m → SoundOwners t l → SoundOwners t m
knows_more t l m k h = asked_more t l m k.owned k.acts k.asks k.closed h

with_more : (l m : Ledger) (a : CallAct) → KnowsMore l m → KnowsMore (with_call_act a l) (with_call_act a m)
with_more l m a k = record { owned = k.owned; acts = ap (λ xs. xs ++ a ∷ []) k.acts; asks = k.asks; closed = k.closed }

pub owned_more : (start : Store) (mem : Memory) (l m : Ledger) (p : Option Pending) (z : TwoMaps) → KnowsMore l m → IsOwnedBy start mem l p z → IsOwnedBy start mem m p z
owned_more start mem l m None z k h = record { spells = h.spells; owners = knows_more _ l m k h.owners }
owned_more start mem l m (Some p) z k (inl h) = inl (record { spells = h.spells; owners = knows_more _ l m k h.owners })
owned_more start mem l m (Some p) z k (inr h) = inr (by p h)
  where
    by : (q : Pending) → IsOwnedWith start mem l q z → IsOwnedWith start mem m q z
    by (Pending.Plain pool name) h = h
    by (Pending.Act pool first a seq) h = (h.0, record { spells = h.1.spells; owners = knows_more _ _ _ (with_more l m (act_in a) k) h.1.owners })
    by (Pending.Epoch pool e) h = record { spells = h.spells; owners = knows_more _ l m k h.owners }
