-- A promotion begins, asks for its chunks, and gathers them.
use Rattle.std.proofs.Common.{◌≡◌, ◌<◌, inl, inr, ℕ, ◌+◌, List, [], ◌∷◌, ◌++◌, length, Option, Some, None, refl, sym, ap, subst, ◌∙◌, arith}
use Rattle.std.specs.Prelude.{Result, Ok, Err, IfOk, OnErr, OnOk}
use Rattle.std.specs.FinMap as fin
use Rattle.std.proofs.lemmas.List.{length_push}
use Rattle.base_pool.specs.Views.{BaseView}
use Rattle.copy_chunk.specs.declared.chunk.Chunk.{Chunk}
use Rattle.tier_calls.specs.Tables.{TableView}
use Rattle.tier_chron.specs.Logs.{Log}
use Rattle.tier_flight.specs.Numbers.{IsNewBy, IsSingle, has_call, has_opid}
use Rattle.tier_join.specs.Promises.{as_it_is}
use Rattle.tier_protocol.specs.Tiers.{Ask, Flight, Name}
use Rattle.tier_promote.specs.Begins.{promotion_flies, promotion_flown}
use Rattle.tier_traffic.specs.Wires.{WiresView}
use Rattle.tier_view.proofs.Answering.{leaving_is_quiet, quiets_join, steps_join_quiet}
use Rattle.tier_view.specs.Answers.{KeepsQuietly}
use Rattle.tier_view.specs.Calls.{Calls, IsGoing, IsInFlight}
use Rattle.tier_view.specs.Changes.{with_flown}
use Rattle.tier_view.specs.Laws.{Keeps}
use Rattle.tier_view.specs.Stores.{Stores}
use Rattle.tier_view.specs.Traffic.{Traffic}
use Rattle.tier_view.specs.Views.{GroupView}
use Rattle.tier_view.specs.Whole.{IsWhole}
use Rattle.tier_works.proofs.NewWork.{new_work_is_new}
use Rattle.tier_works.proofs.PromotionSteps.{promotion_flies as flies}
use Rattle.tier_works.specs.Promotions.{BeginsPromotion, flown_promotion}
use Rattle.tier_core.specs.Keeps.{IsKept}
use Rattle.tier_core.specs.Parts.{group_of}
use Rattle.tier_core.specs.Promotes.{promotion_begun}
use Rattle.tier_core.specs.Proxies.{counted}
use Rattle.tier_core.specs.declared.parts.Agent.{Agent}
use Rattle.tier_core.specs.declared.parts.Start.{Start}
use Rattle.tier_core.proofs.Proxied.{awaiting_keeps}

-- ---- it begins

module _ (v : GroupView) (call : ℕ) (ask : Ask) (h : IsWhole v)
    (b : BeginsPromotion v call ask) where
  abbrev W : GroupView
  W = flown_promotion call ask v

  pub new_is_new : IsNewBy has_opid v.traffic.flights
      (Flight.Promote call v.standing.next_opid [] ask) × IsNewBy has_call v.traffic.flights
      (Flight.Promote call v.standing.next_opid [] ask)
  new_is_new =
      let is = new_work_is_new v call (Flight.Promote call v.standing.next_opid [] ask) h b.may.idle
      (refl, refl) in
      (is.1, is.2)

  -- it begins, asks for the first chunk, and its call awaits the reply, in one step
  pub begun_step : Keeps as_it_is None v (promotion_begun call ask v)
  begun_step =
      let first = flies v call ask h b in
      let going : IsInFlight v.calls.entries call = subst IsGoing (sym b.may.found) b.may.going in
      let waits = awaiting_keeps W call v.traffic.next_message first.0 going (omega arith) in
      let then : KeepsQuietly W (promotion_begun call ask v) =
      leaving_is_quiet W (promotion_begun call ask v) waits
      (record { stores = refl; log = refl; calls = refl; epoch = refl; opids = refl }) in (
        then.0,
        steps_join_quiet as_it_is None v W (promotion_begun call ask v) first.1 then.1
            (inl refl) (inr refl),
      )

  begun_kept : (base : BaseView) (old new : TableView) → IsKept v base old
      → new.earlier ≡ old.earlier → IsKept (promotion_begun call ask v) base new
  begun_kept base old new k earlier = record {
    whole = begun_step.0;
    cached = k.cached;
    based = k.based;
    level = k.level;
    counted = subst (λ n. v.standing.next_opid + 1 + n ≡ length
        (v.calls.flown ++ promotion_flown call v.standing.next_opid
        (length v.log.answers) ask ∷ []) + 1) (sym earlier)
        (omega (
          arith,
          k.counted,
          length_push v.calls.flown
              (promotion_flown call v.standing.next_opid (length v.log.answers) ask),
        ));
    messages = (tt, k.messages);
    asked = k.asked;
  }

module _ (stores : Stores) (log : Log) (t u : TableView) (w x : WiresView) (start after : Start)
    (agent : Agent) (base : BaseView) (call : ℕ) (ask : Ask) where
  abbrev Old : GroupView
  Old = group_of stores log t.calls w.traffic start agent

  abbrev New : GroupView
  New = group_of stores log u.calls x.traffic after agent

  abbrev Come : Calls
  Come = with_flown (promotion_flown call start.next_opid (length log.answers) ask) t.calls

  abbrev Flies : Traffic
  Flies = promotion_flies call start.cache_epoch start.next_opid ask w.traffic

  begun_is : u.calls ≡ Come → x.traffic ≡ Flies → after ≡ counted start
      → New ≡ promotion_begun call ask Old
  begun_is calls wires started =
      ap (λ (c : Calls). group_of stores log c x.traffic after agent) calls
      ∙ ap (λ (f : Traffic). group_of stores log Come f after agent) wires
      ∙ ap (λ (s : Start). group_of stores log Come Flies s agent) started

  same_is : u.calls ≡ t.calls → x.traffic ≡ w.traffic → after ≡ start → New ≡ Old
  same_is calls wires started =
      ap (λ (c : Calls). group_of stores log c x.traffic after agent) calls
      ∙ ap (λ (f : Traffic). group_of stores log t.calls f after agent) wires
      ∙ ap (λ (s : Start). group_of stores log t.calls w.traffic s agent) started

  -- what comes of it, where it may begin
  pub record Begun {X E : Type 0} (result : Result X E) : Type 0 where
    pub kept : IsKept New base u
    pub is : OnOk result (New ≡ promotion_begun call ask Old)
    pub step : OnOk result (Keeps as_it_is None Old New)
    pub same : OnErr result (New ≡ Old)

  pub begun_all : IsKept Old base t → BeginsPromotion Old call ask → u.earlier ≡ t.earlier
      → {X E : Type 0} (result : Result X E) → OnOk result (u.calls ≡ Come)
      → OnOk result (x.traffic ≡ Flies) → OnOk result (after ≡ counted start)
      → OnErr result (u.calls ≡ t.calls) → OnErr result (x.traffic ≡ w.traffic)
      → OnErr result (after ≡ start) → Begun result
  begun_all h may earlier (Ok y) calls wires started calls_stay wires_stay start_stays =
      let is : New ≡ promotion_begun call ask Old = begun_is calls wires started in
      record {
        kept = subst (λ (v : GroupView). IsKept v base u) (sym is)
            (begun_kept Old call ask h.whole may base t u h earlier);
        is = is;
        step = subst (Keeps as_it_is None Old) (sym is) (begun_step Old call ask h.whole may);
        same = tt;
      }
  begun_all h may earlier (Err y) calls wires started calls_stay wires_stay start_stays =
      let is : New ≡ Old = same_is calls_stay wires_stay start_stays in
      record {
        kept = subst (λ (v : GroupView). IsKept v base u) (sym is) (record {
          whole = h.whole;
          cached = h.cached;
          based = h.based;
          level = h.level;
          counted = subst (λ n. start.next_opid + n ≡ length t.calls.flown + 1)
              (sym earlier) h.counted;
          messages = h.messages;
          asked = h.asked;
        });
        is = tt;
        step = tt;
        same = is;
      }
