-- What a reply is about.
use Rattle.std.specs.Option.{option_map}
use Rattle.std.specs.Prelude.{ℕ, ◌==◌, Bool, true, false, if◌then◌else◌, Option, Some, None}
use Rattle.tier_node.specs.declared.receiving.Topic.{Topic}
use Rattle.tier_node.specs.declared.receiving.Topic.TheVariants.{Fence, Write, Room, Other}
use Rattle.tier_traffic.specs.Messages.{replied_of, sent_of}
use Rattle.tier_types.specs.declared.message.BaseMsg.{BaseMsg}
use Rattle.tier_types.specs.declared.message.BaseReply.{BaseReply}
use Rattle.tier_view.specs.Traffic.{Traffic}
use Rattle.tier_view.specs.declared.parts.KeptFence.{KeptFence}
use Rattle.tier_view.specs.declared.parts.Sent.{Sent}

abbrev pub asks_fence : BaseMsg → Bool
asks_fence (BaseMsg.Fence e) = true
asks_fence other = false

-- it is a Fence
abbrev pub is_fence : Option Sent → Bool
is_fence None = false
is_fence (Some s) = asks_fence s.message

-- What a reply is about, by the message that it answers, where that is not forgotten. A want of
-- room for a Fence has the operation's number 0; any other is about work. The two refusals of an
-- epoch do not say what they answer.
abbrev pub topic_of : Option Sent → BaseReply → Topic
topic_of sent (BaseReply.Fenced e) = Fence
topic_of sent (BaseReply.NoSpace e op used need limit) = if op == 0 then Fence else Room
topic_of sent (BaseReply.OldEpoch have got) = if is_fence sent then Fence else Other
topic_of sent (BaseReply.NotFenced have got) = if is_fence sent then Fence else Other
topic_of sent (BaseReply.Wrote e op acted) = Write
topic_of sent other = Other

-- what the reply of this number is about, if there is one
abbrev pub topic_in : Traffic → (number : ℕ) → Option Topic
topic_in t number =
    option_map (λ r. topic_of (sent_of t.messages r.answers) r.reply) (replied_of t.replies number)

-- the call that a Fence keeps
abbrev pub call_kept : Option KeptFence → Option ℕ
call_kept None = None
call_kept (Some kept) = kept.call
