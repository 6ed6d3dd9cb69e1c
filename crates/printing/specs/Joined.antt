-- Believed: The exported call and the listings joined, and what the promises of `print_replay` and `print_pages` leave open, nothing: claims, of which the reasons stand in proofs/.
use Rattle.std.specs.Prelude.{ℕ, ◌≤◌, ◌<◌, ◌≡◌, true, false, List, length}
use Rattle.meaning.specs.Meaning as meaning
use Rattle.meaning.specs.Meaning.{Means}
use Rattle.record.specs.declared.Board.{Board}
use Rattle.record.specs.declared.Record.{Record}
use Rattle.record.specs.declared.Reply.{Reply}
use Rattle.record.specs.declared.Answer.{Answer}
use Rattle.record.specs.declared.Answer.TheVariants.{BadBuffers, TooLong}
use Rattle.record.specs.Answers.{answer_number}
use Rattle.record.specs.Lengths.{replies_length, result_length}
use Rattle.times.specs.Times.{times_length}
use Rattle.machine.specs.Machine.{Machine, machine_at_start, on_machine}
use Rattle.text.specs.Texts.{text_limit, Refused}
use Rattle.buffers.specs.Buffers.{Buffers, fit}
use Rattle.call.specs.Replay.{Ended, Replays}
use Rattle.demands.specs.Grounds.{Taken}
use Rattle.demands.specs.Lines.{records_of}
use Rattle.listing.specs.Lines.{refused_line}
use Rattle.listing.specs.Listing.{Listed, Lists, listing_room}
use Rattle.listing.specs.Pages.{ListsPages}
use Rattle.printing.specs.Printed.{Dumps, Kind, printed_of, pages_printed_of, PrintedAs, Written, PrintsAs}

-- Of a text and the buffers x as lent: what a listing writes out of the buffers that the call left, by what it prints of an answer, the buffer that it lists and that buffer's length.
pub record Joined (of : Kind) (listed : Buffers → List ℕ) (size : ℕ) (text : List ℕ) (x : Buffers) (old new : List ℕ) (n : ℕ) : Type 0 where
  -- refusals 1 to 5: their line alone
  pub unfit : fit x ≡ false → length (listed x) ≡ size → length x.result ≡ result_length → Written (refused_line (answer_number BadBuffers) 0 0) old new n
  pub long : fit x ≡ true → text_limit < length text → Written (refused_line (answer_number TooLong) 0 0) old new n
  pub bad : fit x ≡ true → length text ≤ text_limit → (a : Answer) (line f : ℕ) → Refused text a line f → Written (refused_line (answer_number a) line f) old new n
  -- a text that is taken: what is printed of the answer z that demand 3 admits
  pub shown : (b : Board) (rs : List Record) → Taken text x b rs → (z : meaning.Answer Machine Reply) → Means (on_machine b) rs (machine_at_start b x.images) z → Written (of b rs z) old new n

-- any outcome that the promise of the call admits, and any that the promise of `list` admits for the buffers as the call left them
abbrev pub AllJoined : Type 0
AllJoined = (text : List ℕ) (x : Buffers) (e : Ended) → Replays text x e →
    (old new : List ℕ) (n : ℕ) → Lists text e.buffers.replies e.buffers.result old new n → listing_room ≤ length old → Joined printed_of (λ (y : Buffers). y.replies) replies_length text x old new n

-- the same of `list_pages`
abbrev pub AllPagesJoined : Type 0
AllPagesJoined = (text : List ℕ) (x : Buffers) (e : Ended) → Replays text x e →
    (old new : List ℕ) (n : ℕ) → ListsPages e.buffers.times e.buffers.result old new n → listing_room ≤ length old → Joined pages_printed_of (λ (y : Buffers). y.times) times_length text x old new n

-- the records that are listed are exactly those played, all or those before the stop's stamp
abbrev pub OnlyPlayed : Type 0
OnlyPlayed = (text : List ℕ) (x : Buffers) (e : Ended) → Replays text x e →
    (b : Board) (rs : List Record) → Taken text x b rs → (z : meaning.Answer Machine Reply) → Means (on_machine b) rs (machine_at_start b x.images) z →
    (records : List Record) → Listed text e.buffers.replies records → records ≡ records_of b z rs

-- of each text and dumps exactly one thing is printed
abbrev pub OnePrinted : Type 0
OnePrinted = (of : Kind) (text : List ℕ) (d : Dumps) → (p : List ℕ) × PrintedAs of text d p × ((w : List ℕ) → PrintedAs of text d w → w ≡ p)

-- any two outcomes that the promise of `print_replay` admits are equal, and of `print_pages`
abbrev pub OneOutcome : Type 0
OneOutcome = (of : Kind) (text : List ℕ) (d : Dumps) (old new new' : List ℕ) (n n' : ℕ) → PrintsAs of text d old new n → PrintsAs of text d old new' n' → (n ≡ n') × (new ≡ new')
