-- Four texts: the listing of document 01 and cases 1, 11 and 12 of its bench sheet. Each is readable, and what the demand says of it is known.
use mathlib.Core.Path.{◌≡◌, refl}
use mathlib.Core.List.{List, [], ◌∷◌, ◌++◌}
use Prim.Native.Nat.{ℕ, ◌*◌, ◌≤◌, ◌<◌}
use native.Mathlib.Omega.{arith}
use lib.ListN.{length, length-append}
use Rattle.law.specs.Lists.{RisingFrom, from_rising}
use Rattle.law.specs.Words.{filter, keep, All}
use Rattle.meaning.specs.Meaning.{F, L, after}
use Rattle.meaning.proofs.Onward.{goes_on}
use Rattle.meaning.proofs.Steps.{means_end}
use Rattle.record.specs.declared.Board.{Board}
use Rattle.record.specs.declared.Record.{Record}
use Rattle.record.specs.declared.FlashEvent.TheVariants as flash
use Rattle.record.specs.declared.LineEvent.TheVariants.{SupplyOff}
use Rattle.image.specs.Images.{Images}
use Rattle.field.specs.Hex.{hex_digit, hex_field}
use Rattle.field.specs.Digit.{digit_field}
use Rattle.field.specs.Decimal.{digits_in, decimal}
use Rattle.line.specs.ChannelF.{spelled_flash}
use Rattle.line.specs.ChannelL.{spelled_line}
use Rattle.line.specs.Records.{spelled_event, spelled, RecordOk}
use Rattle.line.specs.Boards.{spelled_places, spelled_board, BoardOk}
use Rattle.line.proofs.OutputLaws.{spelled_length_max, board_length}
use Rattle.controls.specs.Play.{moved_of}
use Rattle.machine.specs.Effects.{flash_after, eeprom_after}
use Rattle.machine.specs.Machine.{Machine, machine_at_start, on_machine, play_on}
use Rattle.text.specs.Buses.{buses_after, Possible}
use Rattle.text.specs.Buses as buses
use Rattle.text.specs.Texts.{text_limit, spelled_all, spelled_trace, Readable}
use Rattle.call.specs.Replay.{shown, shown_as}
use Rattle.demands.proofs.OneStamp.{one_channel, stamp_passes}
use Rattle.record.specs.Records.{on_f, on_l}
use Rattle.demands.specs.Bench.{plain, wren, Answered}
use Rattle.demands.specs.ShutOut.{asked, listing, wren_off, program_off, sent, programmed}

-- ---- they are readable
-- the listing's text, byte by byte
pub listing_spelled : spelled_trace plain (listing 0x00) ≡
    98 ∷ 111 ∷ 97 ∷ 114 ∷ 100 ∷ 9 ∷ 48 ∷ 48 ∷ 9 ∷ 49 ∷ 9 ∷ 48 ∷ 10 ∷
    49 ∷ 48 ∷ 9 ∷ 70 ∷ 9 ∷ 115 ∷ 101 ∷ 108 ∷ 10 ∷
    49 ∷ 48 ∷ 9 ∷ 70 ∷ 9 ∷ 120 ∷ 9 ∷ 48 ∷ 53 ∷ 9 ∷ 102 ∷ 102 ∷ 10 ∷
    49 ∷ 48 ∷ 9 ∷ 70 ∷ 9 ∷ 120 ∷ 9 ∷ 48 ∷ 48 ∷ 9 ∷ 48 ∷ 48 ∷ 10 ∷
    49 ∷ 48 ∷ 9 ∷ 70 ∷ 9 ∷ 100 ∷ 101 ∷ 115 ∷ 10 ∷
    56 ∷ 48 ∷ 9 ∷ 76 ∷ 9 ∷ 111 ∷ 102 ∷ 102 ∷ 10 ∷ []
unfolding spelled_trace spelled_all spelled spelled_event spelled_flash spelled_line spelled_board spelled_places hex_field hex_digit digit_field decimal digits_in
listing_spelled = refl

-- the spelling of a board and records can be read, and is within the limit
pub record Written (b : Board) (rs : List Record) : Type 0 where
  pub reads : Readable (spelled_trace b rs) b rs
  pub short : length (spelled_trace b rs) ≤ text_limit

all_short : (rs : List Record) → All RecordOk rs → length (spelled_all rs) ≤ 21 * length rs
unfolding spelled_all All
all_short [] o = omega arith
all_short (r ∷ rs) o = omega (arith, spelled_length_max r o.0.0, all_short rs o.1, length-append (spelled r) (spelled_all rs))

-- so it is where board and records are in range, no stamp falls back, no record is impossible, and the records are few
pub is_written : (b : Board) (rs : List Record) → BoardOk b → All RecordOk rs → RisingFrom (λ (r : Record). r.stamp) 0 rs → Possible (buses_after rs) → length rs ≤ 100 → Written b rs
unfolding spelled_trace
is_written b rs h o n k m = record {
  reads = record { board = h; fits = o; acceptable = record { never_back = from_rising (λ (r : Record). r.stamp) 0 rs n; possible = k }; is = refl };
  short = omega (arith, all_short rs o, length-append (spelled_board b) (spelled_all rs), board_length b);
}

pub board_written : (b : Board) → BoardOk b → Written b []
unfolding All RisingFrom buses.after
board_written b k = is_written b [] k tt tt (_, refl) (omega arith)

pub plain_ok : BoardOk plain
plain_ok = ((omega arith, refl, refl), ((omega arith, omega arith, omega arith), (omega arith, omega arith, omega arith)))

pub listing_written : (so : ℕ) → so < 256 → Written plain (listing so)
unfolding All RisingFrom buses.after
listing_written so h = is_written plain (listing so) plain_ok (omega arith) (omega arith) (_, refl) (omega arith)

pub wren_off_written : Written plain wren_off
unfolding All RisingFrom buses.after
wren_off_written = is_written plain wren_off plain_ok (omega arith) (omega arith) (_, refl) (omega arith)

pub program_off_written : Written plain program_off
unfolding All RisingFrom buses.after
program_off_written = is_written plain program_off plain_ok (omega arith) (omega arith) (_, refl) (omega arith)

pub programmed_written : Written plain programmed
unfolding All RisingFrom buses.after
programmed_written = is_written plain programmed plain_ok (omega arith) (omega arith) (_, refl) (omega arith)

-- ---- the listing and case 1 settle: each of their stamps has records of one channel alone. Of cases 11 and 12 the bench sheet says what holds.
module _ (x : Images) where
  abbrev told : ℕ → Machine
  told so = after (on_machine plain) (asked so) (machine_at_start plain x)

  pub listing_settled : (so : ℕ) → Answered (listing so) x 0
  unfolding filter keep All after play_on moved_of flash_after eeprom_after shown shown_as goes_on
  listing_settled so =
      let last = stamp_passes (on_machine plain) (on_l 80 SupplyOff ∷ []) [] 80 (refl, tt) tt refl (told so) refl
      (one_channel (on_machine plain) L (on_l 80 SupplyOff ∷ []) (refl, tt) (told so)) refl _ (means_end (on_machine plain) _ refl) in (
        _,
        stamp_passes (on_machine plain) (asked so) (on_l 80 SupplyOff ∷ []) 10 (refl, (refl, (refl, (refl, tt)))) (omega arith, tt) refl (machine_at_start plain x) refl
            (one_channel (on_machine plain) F (asked so) (refl, (refl, (refl, (refl, tt)))) (machine_at_start plain x)) refl _ last,
        refl,
      )

  abbrev enabled : Machine
  enabled = after (on_machine plain) (wren 10) (machine_at_start plain x)

  abbrev busy : Machine
  busy = after (on_machine plain) sent enabled

  pub programmed_settled : Answered programmed x 0
  unfolding filter keep All after play_on moved_of flash_after eeprom_after shown shown_as goes_on
  programmed_settled =
      let last = stamp_passes (on_machine plain) (on_f 30 flash.End ∷ []) [] 30 (refl, tt) tt refl busy refl
      (one_channel (on_machine plain) F (on_f 30 flash.End ∷ []) (refl, tt) busy) refl _ (means_end (on_machine plain) _ refl) in
      let next = stamp_passes (on_machine plain) sent (on_f 30 flash.End ∷ []) 20 (refl, (refl, (refl, (refl, (refl, (refl, (refl, tt))))))) (omega arith, tt) refl enabled refl
      (one_channel (on_machine plain) F sent (refl, (refl, (refl, (refl, (refl, (refl, (refl, tt))))))) enabled) refl _ last in (
        _,
        stamp_passes (on_machine plain) (wren 10) (sent ++ (on_f 30 flash.End ∷ [])) 10 (refl, (refl, (refl, tt)))
            (omega arith, (omega arith, (omega arith, (omega arith, (omega arith, (omega arith, (omega arith, (omega arith, tt))))))))
            refl (machine_at_start plain x) refl
            (one_channel (on_machine plain) F (wren 10) (refl, (refl, (refl, tt))) (machine_at_start plain x)) refl _ next,
        refl,
      )
