-- Believed: A reply by its bytes.
use Rattle.std.specs.Prelude.{ℕ, eqb}
use Rattle.law.specs.Words.{pick}
use Rattle.record.specs.declared.Reply.{Reply}
use Rattle.record.specs.declared.Reply.TheVariants.{NotPlayed, Silent, Byte, Ack, NoAck, Starts, Ends, NoCycle}

-- the reply of which these are kind, value and mask; a kind above 7 is none, so not played
abbrev pub reply_of : ℕ → ℕ → ℕ → Reply
reply_of kind value mask =
    pick (eqb kind 1) Silent
    (pick (eqb kind 2) (Byte value mask)
    (pick (eqb kind 3) Ack
    (pick (eqb kind 4) NoAck
    (pick (eqb kind 5) Starts
    (pick (eqb kind 6) Ends
    (pick (eqb kind 7) NoCycle NotPlayed))))))
