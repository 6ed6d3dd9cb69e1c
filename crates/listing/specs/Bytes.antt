-- Believed: What the lent bytes of a replay say (document 01, 'Replies and stopping'; document 02, request 2/12): four bytes for each record's reply, and sixteen for the result.
use Rattle.std.specs.Prelude.{ℕ, ◌+◌, ◌*◌, Bool, true, false, List, eqb, leb, get_or}
use Rattle.law.specs.Words.{pick}
use Rattle.record.specs.declared.Reply.{Reply}
use Rattle.record.specs.declared.Reply.TheVariants.{NotPlayed, Silent, Byte, Ack, NoAck, Starts, Ends, NoCycle}
use Rattle.record.specs.ReplyOf.{reply_of}
use Rattle.record.specs.declared.Match.{Match}
use Rattle.record.specs.declared.Match.TheVariants.{Nothing, Agrees, Disagrees}

-- the match of this number; above 2 there is nothing to compare
abbrev pub match_of : ℕ → Match
match_of n = pick (eqb n 1) Agrees (pick (eqb n 2) Disagrees Nothing)

abbrev pub was_played : Reply → Bool
was_played NotPlayed = false
was_played Silent = true
was_played (Byte v m) = true
was_played Ack = true
was_played NoAck = true
was_played Starts = true
was_played Ends = true
was_played NoCycle = true

-- the reply and the match of record k, counted from 0: its four bytes stand at 4 times k
unfoldable pub reply_at : List ℕ → ℕ → Reply
reply_at replies k = reply_of (get_or replies (4 * k) 0) (get_or replies (4 * k + 1) 0) (get_or replies (4 * k + 2) 0)

unfoldable pub match_at : List ℕ → ℕ → Match
match_at replies k = match_of (get_or replies (4 * k + 3) 0)

-- a number in four bytes, low byte first
unfoldable pub number_at : List ℕ → ℕ → ℕ
number_at bytes at = get_or bytes at 0 + 256 * (get_or bytes (at + 1) 0 + 256 * (get_or bytes (at + 2) 0 + 256 * get_or bytes (at + 3) 0))

-- the result holds answer, line or stamp, count, field
abbrev pub answer_in : List ℕ → ℕ
answer_in result = number_at result 0

abbrev pub place_in : List ℕ → ℕ
place_in result = number_at result 4

abbrev pub count_in : List ℕ → ℕ
count_in result = number_at result 8

abbrev pub field_in : List ℕ → ℕ
field_in result = number_at result 12

-- answers 1 to 5 are the refusals
unfoldable pub is_refusal : ℕ → Bool
is_refusal answer = pick (eqb answer 0) false (leb answer 5)
