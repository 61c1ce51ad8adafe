-- What is between the pools is lost or forgotten.
use Rattle.std.proofs.Common.{◌==◌, not, ℕ}
use Rattle.base_pool.specs.Serves.{IsMsg}
use Rattle.base_pool.specs.Views.{BaseView}
use Rattle.tier_calls.specs.Tables.{TableView}
use Rattle.tier_view.proofs.StartingLosses.{all_filter, answering_fences_keeps, losing_messages_keeps, losing_replies_keeps}
use Rattle.tier_view.specs.Starts.{forgot_kept, forgot_message, forgot_reply}
use Rattle.tier_view.specs.declared.parts.Sent.{Sent}
use Rattle.tier_view.specs.Views.{GroupView}
use Rattle.tier_core.specs.Keeps.{IsKept}

pub message_kept : (v : GroupView) (base : BaseView) (table : TableView) (number : ℕ) → IsKept v base table → IsKept (forgot_message number v) base table
message_kept v base table number h = record {
  whole = (losing_messages_keeps number v h.whole).0;
  cached = h.cached;
  based = h.based;
  level = h.level;
  counted = h.counted;
  messages = all_filter {X = Sent} (λ s. IsMsg s.message) (λ s. not (s.number == number)) v.traffic.messages h.messages;
  asked = h.asked;
}

pub reply_kept : (v : GroupView) (base : BaseView) (table : TableView) (number : ℕ) → IsKept v base table → IsKept (forgot_reply number v) base table
reply_kept v base table number h = record {
  whole = (losing_replies_keeps number v h.whole).0;
  cached = h.cached;
  based = h.based;
  level = h.level;
  counted = h.counted;
  messages = h.messages;
  asked = h.asked;
}

pub fence_kept : (v : GroupView) (base : BaseView) (table : TableView) → IsKept v base table → IsKept (forgot_kept v) base table
fence_kept v base table h = record {
  whole = (answering_fences_keeps v h.whole).0;
  cached = h.cached;
  based = h.based;
  level = h.level;
  counted = h.counted;
  messages = h.messages;
  asked = h.asked;
}
