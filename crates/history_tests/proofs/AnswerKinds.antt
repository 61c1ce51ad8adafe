-- What no call is ever answered: kinds, numbers and ways that do not go with what was asked.
use Rattle.std.proofs.Common.{◌≡◌, ℕ, ◌^◌, true, false, List, [], ◌∷◌, Some, refl, arith}
use Rattle.obj_model.specs.declared.change.Pool.{Pool}
use Rattle.obj_model.specs.declared.out.Out.{Out}
use Rattle.obj_model.specs.declared.reply.Reply.TheVariants as reply
use Rattle.obj_model.specs.declared.reply.Why.{Why}
use Rattle.obj_model.specs.declared.req.Req.{Req}
use Rattle.obj_model.specs.declared.sub_op.SubOp.{SubOp}
use Rattle.obj_model.specs.declared.tier.Kind.TheVariants as kind
use Rattle.obj_model.specs.declared.tier.Mode.TheVariants as mode
use Rattle.obj_model.specs.declared.tier.Path.{Path}
use Rattle.obj_model.specs.declared.tier.Path.TheVariants as path
use Rattle.obj_ops.specs.Stores.{Store}
use Rattle.tier_chron.specs.Fits.{Fits}
use Rattle.tier_chron.specs.declared.answer.Answer.{Answer}
use Rattle.tier_chron.specs.declared.answer.Answer.TheVariants as answer
use Rattle.tier_chron.specs.declared.answer.AgentDid.TheVariants as did
use Rattle.tier_chron.specs.declared.asked.Asked.{Asked}
use Rattle.tier_chron.specs.declared.asked.Asked.TheVariants.{Write, Read, Flush, Finish, Evict, Drain, Agent, Start}
use Rattle.tier_chron.specs.declared.entries.Act.{Act}
use Rattle.tier_chron.specs.declared.entries.Logged.{Logged}
use Rattle.history_tests.specs.Fitting.{act_of, at, hit}

-- an answer on another way
abbrev pub on : Path → ℕ → Answer → Logged
on way place x =
    record { call = 7; line = 3; begin = 0; place = place; end = 3; path = Some way; answer = x }

-- ---- all other calls

module _ (start : Store) (name : List ℕ) (pool : Pool) (outs : List Out) where
  flushed_fits : Fits start [] (Flush name true false) (at 0 (answer.Flushed 2))
  flushed_fits =
      record {
        kind = refl;
        numbers = tt;
        way = refl;
        single = tt;
        own = tt;
        beside = tt;
        told = tt;
      }

  done_flush : Fits start [] (Flush name true false) (hit 0 (answer.Done 2 false)) → ⊥
  done_flush h = let no = h.kind in absurd (cc)

  values_of_a_flush : Fits start [] (Flush name false false) (hit 0 (answer.Values 2 outs)) → ⊥
  values_of_a_flush h = let no = h.kind in absurd (cc)

  stale_flush : Fits start [] (Flush name false true) (hit 0 (answer.Stale 2)) → ⊥
  stale_flush h = let no = h.kind in absurd (cc)

  begun_fits : Fits start [] (Flush name true true) (at 0 (answer.Begun 2))
  begun_fits =
      record {
        kind = refl;
        numbers = tt;
        way = refl;
        single = tt;
        own = tt;
        beside = tt;
        told = tt;
      }

  flushed_begin : Fits start [] (Flush name true true) (at 0 (answer.Flushed 2)) → ⊥
  flushed_begin h = let no = h.kind in absurd (cc)

  finish_fits : Fits start [] (Finish name) (at 0 answer.NoBegun)
  finish_fits =
      record {
        kind = refl;
        numbers = tt;
        way = refl;
        single = tt;
        own = tt;
        beside = tt;
        told = tt;
      }

  absent_finish : Fits start [] (Finish name) (at 0 answer.Absent) → ⊥
  absent_finish h = let no = h.kind in absurd (cc)

  evicted_fits : Fits start [] (Evict name) (at 0 (answer.Evicted 2))
  evicted_fits =
      record {
        kind = refl;
        numbers = tt;
        way = refl;
        single = tt;
        own = tt;
        beside = tt;
        told = tt;
      }

  flushed_evict : Fits start [] (Evict name) (at 0 (answer.Flushed 2)) → ⊥
  flushed_evict h = let no = h.kind in absurd (cc)

  drained_fits : Fits start [] Drain (at 0 answer.Drained)
  drained_fits =
      record {
        kind = refl;
        numbers = tt;
        way = refl;
        single = tt;
        own = tt;
        beside = tt;
        told = tt;
      }

  clean_drain : Fits start [] Drain (at 0 answer.Clean) → ⊥
  clean_drain h = let no = h.kind in absurd (cc)

  turn_fits : Fits start [] Agent (at 0 (answer.Agent did.Nothing))
  turn_fits =
      record {
        kind = refl;
        numbers = tt;
        way = refl;
        single = tt;
        own = tt;
        beside = tt;
        told = tt;
      }

  evicted_turn : Fits start [] Agent (at 0 (answer.Evicted 2)) → ⊥
  evicted_turn h = let no = h.kind in absurd (cc)

  faulting_start_fits : Fits start [] Start (at 0 (answer.DiskFault pool))
  faulting_start_fits =
      record {
        kind = refl;
        numbers = tt;
        way = refl;
        single = tt;
        own = tt;
        beside = tt;
        told = tt;
      }

  clean_start : Fits start [] Start (at 0 answer.Clean) → ⊥
  clean_start h = let no = h.kind in absurd (cc)

-- ---- numbers, ways and kinds

module _ (start : Store) (acts : List Act) (req : Req) (name : List ℕ) (ops : List SubOp)
    (pool : Pool) (why : Why) where
  worn_at_another_limit : Fits start acts (Write req) (at 0 (answer.Worn 5)) → ⊥
  worn_at_another_limit h = let no : 5 ≡ 2 ^ 62 = h.numbers in absurd (cc)

  full_below_the_target : Fits start acts (Write req) (at 0 (answer.Full 1000000)) → ⊥
  full_below_the_target h = absurd (omega (arith, h.numbers))

  restarted_in_one_epoch : Fits start acts (Write req) (at 0 (answer.Restarted 2 2)) → ⊥
  restarted_in_one_epoch h = absurd (omega (arith, h.numbers))

  no_space_with_room : Fits start acts (Write req) (at 0 (answer.NoSpace pool 40 24 64)) → ⊥
  no_space_with_room h = absurd (omega (arith, h.numbers))

  again_though_unchanged : Fits start acts (Finish name) (at 0 (answer.Again 3 3)) → ⊥
  again_though_unchanged h = h.numbers refl

  again_of_a_turn_though_unchanged :
      Fits start acts Agent (at 0 (answer.Agent (did.Again name 3 3))) → ⊥
  again_of_a_turn_though_unchanged h = h.numbers refl

  done_on_no_way : Fits start acts (Write req) (at 1 (answer.Done 1 false)) → ⊥
  done_on_no_way h = let no = h.way in absurd (cc)

  written_by_a_proxied_read :
      Fits start acts (Write req) (on path.ProxyRead 1 (answer.Done 1 false)) → ⊥
  written_by_a_proxied_read h = let no = h.way in absurd (cc)

  read_by_a_proxied_write :
      Fits start acts (Read 1 name ops) (on path.ProxyWrite 1 (answer.Refused 0 why 1 false)) → ⊥
  read_by_a_proxied_write h = let no = h.way in absurd (cc)

  full_on_a_way : Fits start acts (Write req) (on path.Promote 1 (answer.Full 1500000)) → ⊥
  full_on_a_way h = let no = h.way in absurd (cc)

  blocked_by_reads_on_a_hit :
      Fits start acts (Write req) (on path.Hit 1 (answer.Blocked kind.Read 1)) → ⊥
  blocked_by_reads_on_a_hit h = let no = h.way in absurd (cc)

  blocked_on_a_way :
      Fits start acts (Write req) (on path.Promote 1 (answer.Blocked kind.Promote 1)) → ⊥
  blocked_on_a_way h = let no = h.way in absurd (cc)

  flushed_on_a_way : Fits start acts (Flush name true false) (on path.Hit 1 (answer.Flushed 1)) → ⊥
  flushed_on_a_way h = let no = h.way in absurd (cc)

  kept_reading : Fits start acts (Read 1 name ops) (hit 0 (answer.Refused 0 why 3 true)) → ⊥
  kept_reading h = let no = h.kind in absurd (cc)

  done_reading : Fits start acts (Read 1 name ops) (hit 0 (answer.Done 3 false)) → ⊥
  done_reading h = let no = h.kind in absurd (cc)

  full_reading : Fits start acts (Read 1 name ops) (at 0 (answer.Full 2000000)) → ⊥
  full_reading h = let no = h.kind in absurd (cc)

  reading_blocked_by_a_flush :
      Fits start acts (Read 1 name ops) (at 0 (answer.Blocked kind.Flush 1)) → ⊥
  reading_blocked_by_a_flush h = let no = h.kind in absurd (cc)

  flush_blocked_by_reads :
      Fits start acts (Flush name true false) (at 0 (answer.Blocked kind.Read 1)) → ⊥
  flush_blocked_by_reads h = let no = h.kind in absurd (cc)

  evict_that_was_restarted : Fits start acts (Evict name) (at 0 (answer.Restarted 1 2)) → ⊥
  evict_that_was_restarted h = let no = h.kind in absurd (cc)

  begun_flush_without_room :
      Fits start acts (Flush name true true) (at 0 (answer.NoSpace pool 64 24 64)) → ⊥
  begun_flush_without_room h = let no = h.kind in absurd (cc)

  restarted_start : Fits start acts Start (at 0 (answer.Restarted 1 2)) → ⊥
  restarted_start h = let no = h.kind in absurd (cc)

  not_proxy_in_proxy : Fits start acts Drain (at 0 (answer.NotProxy mode.Proxy)) → ⊥
  not_proxy_in_proxy h = let no = h.kind in absurd (cc)

-- ---- the acts of the call

module _ (start : Store) (req : Req) where
  drain_with_an_act : Fits start (act_of 7 req (reply.Done 1) ∷ []) Drain (at 0 answer.Drained) → ⊥
  drain_with_an_act h = let no : Drain ≡ Write req = h.own.0 refl in absurd (cc)

-- no call is ever logged as turned away by a full history, or for want of memory
never_full :
    (start : Store) (acts : List Act) (asked : Asked) (l : Logged) (entries bytes : ℕ)
    → l.answer ≡ answer.HistoryFull entries bytes → Fits start acts asked l → ⊥
never_full start acts (Write req) l entries bytes e h = let no = h.kind in absurd (cc)
never_full start acts (Read client name ops) l entries bytes e h = let no = h.kind in absurd (cc)
never_full start acts (Flush name blocking true) l entries bytes e h =
    let no = h.kind in absurd (cc)
never_full start acts (Flush name blocking false) l entries bytes e h =
    let no = h.kind in absurd (cc)
never_full start acts (Finish name) l entries bytes e h = let no = h.kind in absurd (cc)
never_full start acts (Evict name) l entries bytes e h = let no = h.kind in absurd (cc)
never_full start acts Drain l entries bytes e h = let no = h.kind in absurd (cc)
never_full start acts Agent l entries bytes e h = let no = h.kind in absurd (cc)
never_full start acts Start l entries bytes e h = let no = h.kind in absurd (cc)

never_without_memory :
    (start : Store) (acts : List Act) (asked : Asked) (l : Logged) → l.answer ≡ answer.NoMemory
    → Fits start acts asked l → ⊥
never_without_memory start acts (Write req) l e h = let no = h.kind in absurd (cc)
never_without_memory start acts (Read client name ops) l e h = let no = h.kind in absurd (cc)
never_without_memory start acts (Flush name blocking true) l e h = let no = h.kind in absurd (cc)
never_without_memory start acts (Flush name blocking false) l e h = let no = h.kind in absurd (cc)
never_without_memory start acts (Finish name) l e h = let no = h.kind in absurd (cc)
never_without_memory start acts (Evict name) l e h = let no = h.kind in absurd (cc)
never_without_memory start acts Drain l e h = let no = h.kind in absurd (cc)
never_without_memory start acts Agent l e h = let no = h.kind in absurd (cc)
never_without_memory start acts Start l e h = let no = h.kind in absurd (cc)
