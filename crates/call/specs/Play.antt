-- Believed: A record's reply in the buffer, and what its match counts.
use Rattle.std.specs.Prelude.{List, ℕ}
use Rattle.record.specs.declared.Record.{Record}
use Rattle.record.specs.declared.Reply.{Reply}
use Rattle.record.specs.declared.Match.{Match}
use Rattle.record.specs.declared.Match.TheVariants.{Nothing, Agrees, Disagrees}
use Rattle.record.specs.Replies.{reply_bytes}
use Rattle.machine.specs.Replies.{compared}

-- a match 2 counts one
abbrev pub twos : Match → ℕ
twos Nothing = 0
twos Agrees = 0
twos Disagrees = 1

-- the four bytes of a reply to a record
abbrev pub reply_line : Record → Reply → List ℕ
reply_line r y = reply_bytes y (compared r.event y)
