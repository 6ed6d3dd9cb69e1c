-- Believed: The four bytes of a reply (document 01, 'Replies and stopping').
use Rattle.std.specs.Prelude.{ℕ, List, [], ◌∷◌}
use Rattle.record.specs.declared.Reply.{Reply}
use Rattle.record.specs.declared.Reply.TheVariants.{NotPlayed, Silent, Byte, Ack, NoAck, Starts, Ends, NoCycle}
use Rattle.record.specs.declared.Match.{Match}
use Rattle.record.specs.declared.Match.TheVariants.{Nothing, Agrees, Disagrees}

-- 0 not played, 1 silent, 2 byte, 3 ack, 4 no ack, 5 starts, 6 ends, 7 `end` with no cycle
abbrev pub reply_kind : Reply → ℕ
reply_kind NotPlayed = 0
reply_kind Silent = 1
reply_kind (Byte v m) = 2
reply_kind Ack = 3
reply_kind NoAck = 4
reply_kind Starts = 5
reply_kind Ends = 6
reply_kind NoCycle = 7

-- value and mask are 0 for other kinds than 2
abbrev pub reply_value : Reply → ℕ
reply_value NotPlayed = 0
reply_value Silent = 0
reply_value (Byte v m) = v
reply_value Ack = 0
reply_value NoAck = 0
reply_value Starts = 0
reply_value Ends = 0
reply_value NoCycle = 0

abbrev pub reply_mask : Reply → ℕ
reply_mask NotPlayed = 0
reply_mask Silent = 0
reply_mask (Byte v m) = m
reply_mask Ack = 0
reply_mask NoAck = 0
reply_mask Starts = 0
reply_mask Ends = 0
reply_mask NoCycle = 0

-- 0 nothing to compare, 1 agrees, 2 disagrees
abbrev pub match_number : Match → ℕ
match_number Nothing = 0
match_number Agrees = 1
match_number Disagrees = 2

abbrev pub reply_bytes : Reply → Match → List ℕ
reply_bytes r m = reply_kind r ∷ reply_value r ∷ reply_mask r ∷ match_number m ∷ []
