-- The steps are the moves of the protocol.
use Rattle.std.proofs.Common.{◌≡◌, ℕ, Bool, true, false, [], ◌∷◌, ◌++◌, Option, Some, None, refl, sym, subst, ap, unwrap_or, ◌≤◌, ◌^◌, arith}
use Rattle.std.specs.Prelude.{if◌then◌else◌, nat_lt}
use Rattle.std.specs.FinMap as map
use Rattle.obj_model.specs.Names.{name_cmp}
use Rattle.obj_model.specs.States.{unknown}
use Rattle.obj_model.specs.declared.state.NameState.{NameState}
use Rattle.obj_ops.specs.Stores.{state_of}
use Rattle.tier_types.specs.Flights.{IsLeftOf, is_write}
use Rattle.tier_protocol.specs.Tiers.{BaseMsg, BaseReply, Flight, Name, Tier, TierRec, cell_of}
use Rattle.tier_types.specs.Serving.{Served}
use Rattle.tier_protocol.specs.Moves.{Loses, delivered, with_base, with_reply, with_served}
use Rattle.tier_protocol.proofs.Cells.{get_here, get_there, names_by}
use Rattle.tier_protocol.proofs.Delivers.{in_epoch_by}
use Rattle.tier_protocol.specs.Laws.{found}
use Rattle.tier_protocol.specs.Sound.{IsSound, Shows}
use Rattle.tier_protocol.proofs.Steps.{found_sound}
use Rattle.small_pair.specs.Steps.{installed}
use Rattle.small_pair.proofs.Lists.{in_behind}

-- work is what is left of it
pub all_left : (f : Option Flight) → IsLeftOf f f
all_left None = refl
all_left (Some (Flight.Promote call o gather ask)) = refl
all_left (Some (Flight.Write driver owner o r)) = (driver, refl)
all_left (Some (Flight.Reads list)) = (list, refl, λ r on. on)
all_left (Some (Flight.Flush call o seq blocking drain)) = (call, refl)

-- work that is no write request is dropped
pub dropped : (t : Tier) (k : Name) → is_write (cell_of t k).flight ≡ false
    → Loses t (record t { flights = map.remove t.flights k })
dropped t k none = record {
  same = refl;
  flights = names_by
      (λ n. IsLeftOf (map.get t.flights n) (map.get (map.remove t.flights k) n)) k
      (subst (IsLeftOf (map.get t.flights k)) (sym (get_here t.flights k None)) none)
      (λ n other. subst (IsLeftOf (map.get t.flights n)) (sym (get_there t.flights k None n other))
      (all_left (map.get t.flights n)));
  wire = λ m on. on;
  replies = λ p on. on;
}

-- the pair with one more reply behind the others
abbrev pub told : Tier → BaseReply → Tier
told t p = record t { net = record t.net { replies = t.net.replies ++ p ∷ [] } }

-- the order of replies does not matter
pub reply_behind : (t : Tier) (p : BaseReply) → Loses (with_reply p t) (told t p)
reply_behind t p = record {
  same = refl;
  flights = λ n. all_left (cell_of t n).flight;
  wire = λ m on. on;
  replies = in_behind t.net.replies p;
}

-- the pair with one more message behind the others
abbrev pub asked : Tier → BaseMsg → Tier
asked t m = record t { net = record t.net { wire = t.net.wire ++ m ∷ [] } }

abbrev pub asked_first : Tier → BaseMsg → Tier
asked_first t m = record t { net = record t.net { wire = m ∷ t.net.wire } }

pub message_behind : (t : Tier) (m : BaseMsg) → Loses (asked_first t m) (asked t m)
message_behind t m = record {
  same = refl;
  flights = λ n. all_left (cell_of t n).flight;
  wire = in_behind t.net.wire m;
  replies = λ p on. on;
}

-- what the base makes of an Install of its own epoch
abbrev pub taking : Tier → ℕ → ℕ → NameState → Bool → Served
taking t e op s b = record {
  epoch = t.net.base_epoch;
  put = if b then Some s else None;
  reply = BaseReply.Installed e op s.seq;
}

by_test : (t : Tier) (e op : ℕ) (k : Name) (s : NameState) (b : Bool)
    → Loses (with_served (BaseMsg.Install e op k s) (taking t e op s b) t)
    (told (record t { base = if b then map.insert t.base k s else t.base })
    (BaseReply.Installed e op s.seq))
by_test t e op k s true = reply_behind (with_base k s t) (BaseReply.Installed e op s.seq)
by_test t e op k s false = reply_behind t (BaseReply.Installed e op s.seq)

-- an Install of the base's epoch that is delivered
pub installs_as : (t : Tier) (e op : ℕ) (k : Name) (s : NameState) → e ≡ t.net.base_epoch
    → Loses (delivered (BaseMsg.Install e op k s) t)
    (told (record t { base = installed k s t.base }) (BaseReply.Installed e op s.seq))
installs_as t e op k s same =
    in_epoch_by
    (λ served. Loses (with_served (BaseMsg.Install e op k s) served t)
    (told (record t { base = installed k s t.base }) (BaseReply.Installed e op s.seq)))
    t.net.base_epoch e (taking t e op s (nat_lt (state_of t.base k).seq s.seq))
    (omega (arith, same))
    (λ lower. absurd (omega (arith, lower, same)))
    (λ now. by_test t e op k s (nat_lt (state_of t.base k).seq s.seq))

empty_state : (n : Name) → state_of map.empty n ≡ unknown
empty_state n = ap (λ o. unwrap_or o unknown) (map.get-empty {X = NameState} name_cmp n)

-- two empty pools are sound
pub empty_sound : IsSound (found map.empty map.empty map.empty 0 0)
empty_sound =
    found_sound map.empty map.empty map.empty 0 0
    (record {
      behind = λ n. record { behind = omega arith; level = λ e. refl };
      clean = λ n e. refl;
      shows = λ n. subst (λ r. Shows r (state_of map.empty n))
          (sym (map.get-empty {X = TierRec} name_cmp n)) tt;
      few = λ n. subst (λ s. s.seq ≤ 2 ^ 62) (sym (empty_state n)) (omega arith);
    }) (λ some. omega (arith, some))
