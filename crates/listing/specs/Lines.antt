-- Believed: The lines of a listing (document 01, 'One listing in full'; document 02, request 2/12): tabs between fields, LF at the end.
use Rattle.std.specs.Prelude.{ℕ, List, [], ◌++◌, eqb}
use Rattle.law.specs.Words.{pick}
use Rattle.record.specs.declared.Reply.{Reply}
use Rattle.record.specs.declared.Reply.TheVariants.{NotPlayed, Silent, Byte, Ack, NoAck, Starts, Ends, NoCycle}
use Rattle.record.specs.declared.Match.{Match}
use Rattle.record.specs.declared.Match.TheVariants.{Nothing, Agrees, Disagrees}
use Rattle.field.specs.Decimal.{decimal}
use Rattle.field.specs.Ends.{tab, lf}
use Rattle.field.specs.Hex.{hex_field}
use Rattle.listing.specs.Words.{word_line, word_stamp, word_reply, word_match, dash, slash, word_ack, word_no, word_starts, word_ends, word_idle, point, equals, bang, word_settled, word_stop, word_refused}

-- line, stamp, reply, match
unfoldable pub heading : List ℕ
heading = word_line ++ (tab ++ (word_stamp ++ (tab ++ (word_reply ++ (tab ++ (word_match ++ lf))))))

-- value/mask
unfoldable pub byte_text : ℕ → ℕ → List ℕ
byte_text v m = hex_field v ++ (slash ++ hex_field m)

-- `-`, value/mask, `ack`, `no`, `starts`, `ends`, `idle`; a record that was not played has no line
unfoldable pub reply_text : Reply → List ℕ
reply_text NotPlayed = []
reply_text Silent = dash
reply_text (Byte v m) = byte_text v m
reply_text Ack = word_ack
reply_text NoAck = word_no
reply_text Starts = word_starts
reply_text Ends = word_ends
reply_text NoCycle = word_idle

-- `.`, `=`, `!`
unfoldable pub match_text : Match → List ℕ
match_text Nothing = point
match_text Agrees = equals
match_text Disagrees = bang

-- line number, stamp, reply and match
unfoldable pub record_line : ℕ → ℕ → Reply → Match → List ℕ
record_line number stamp r m = decimal number ++ (tab ++ (decimal stamp ++ (tab ++ (reply_text r ++ (tab ++ (match_text m ++ lf))))))

-- `settled` and count
unfoldable pub settled_line : ℕ → List ℕ
settled_line count = word_settled ++ (tab ++ (decimal count ++ lf))

-- `stop`, number and stamp
unfoldable pub stop_line : ℕ → ℕ → List ℕ
stop_line number stamp = word_stop ++ (tab ++ (decimal number ++ (tab ++ (decimal stamp ++ lf))))

-- the last line of what was played: answer 0 is settled, any other is a stop
unfoldable pub last_line : ℕ → ℕ → ℕ → List ℕ
last_line answer stamp count = pick (eqb answer 0) (settled_line count) (stop_line answer stamp)

-- `refused`, number, line, and 'the listing's refused line shows it fourth', the field
unfoldable pub refused_line : ℕ → ℕ → ℕ → List ℕ
refused_line number line field = word_refused ++ (tab ++ (decimal number ++ (tab ++ (decimal line ++ (tab ++ (decimal field ++ lf))))))
