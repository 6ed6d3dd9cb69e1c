-- A reply is got back from its bytes.
use mathlib.Core.Path.{◌≡◌}
use Rattle.std.proofs.Common.{rules}
use Rattle.record.specs.declared.Reply.{Reply}
use Rattle.record.specs.Replies.{reply_kind, reply_value, reply_mask}
use Rattle.record.specs.ReplyOf.{reply_of}

-- so a reply can be got back from its bytes
pub reply_back : (y : Reply) → reply_of (reply_kind y) (reply_value y) (reply_mask y) ≡ y
reply_back y = search rules
