-- The listing of document 01 is what is printed of its text.
use Prim.Native.Nat.{ℕ}
use native.Mathlib.Omega.{arith}
use mathlib.Core.Path.{◌≡◌, refl, sym, ap, subst, ◌∙◌}
use mathlib.Core.List.{List, ◌++◌}
use borrow.Author.Tests.{le-ltb}
use Rattle.meaning.specs.Meaning as meaning
use Rattle.meaning.specs.Meaning.{Means}
use Rattle.meaning.specs.Listing.{said}
use Rattle.record.specs.declared.Reply.{Reply}
use Rattle.image.specs.Images.{Images}
use Rattle.field.specs.Hex.{hex_digit, hex_field}
use Rattle.field.specs.Decimal.{digits_in, decimal}
use Rattle.controls.specs.Play.{moved_of}
use Rattle.machine.specs.Effects.{flash_after, eeprom_after}
use Rattle.machine.specs.Replies.{delivered, compared}
use Rattle.machine.specs.Machine.{Machine, machine_at_start, on_machine, play_on, says_on}
use Rattle.call.specs.Replay.{count_twos, shown, shown_as}
use Rattle.demands.specs.Bench.{plain}
use Rattle.demands.specs.ShutOut.{listing}
use Rattle.demands.proofs.Ways.{reason_number}
use Rattle.demands.proofs.Shown.{means_lines}
use Rattle.demands.proofs.Readable.{readable_back}
use Rattle.demands.proofs.FourTexts.{listing_spelled, listing_written, listing_settled}
use Rattle.listing.specs.Lines.{heading, byte_text, reply_text, match_text, record_line, settled_line}
use Rattle.printing.specs.Printed.{images_from, all_taken, lines_from, verdict_line, printed_of, Printed}
use Rattle.printing.specs.Example.{no_dumps, example_listing, ExamplePrinted}
use Rattle.printing.proofs.Some.{played_printed}

-- the lines of its five records, as the machine answers them, whatever the images hold
example_lines : (x : Images) → let ys = said (on_machine plain) (listing 0x00) (machine_at_start plain x) in heading ++ (lines_from 0 (listing 0x00) ys ++ settled_line (count_twos (listing 0x00) ys)) ≡ example_listing
unfolding heading lines_from settled_line count_twos record_line reply_text byte_text match_text hex_field hex_digit decimal digits_in said play_on says_on moved_of delivered compared flash_after eeprom_after
example_lines x = refl

module _ (x : Images) where
  abbrev start : Machine
  start = machine_at_start plain x

  example_of : (z : meaning.Answer Machine Reply) → Means (on_machine plain) (listing 0x00) start z → (shown plain (listing 0x00) z).answer ≡ 0 → example_listing ≡ printed_of plain (listing 0x00) z
  unfolding printed_of verdict_line shown shown_as
  example_of (meaning.settled v) m e =
      let k = (means_lines plain (listing 0x00) (readable_back (listing_written 0x00 (omega arith)).reads) start (meaning.settled v) m).1 in
      sym (ap (λ (ys : List Reply). heading ++ (lines_from 0 (listing 0x00) ys ++ settled_line (count_twos (listing 0x00) ys))) k ∙ example_lines x)
  example_of (meaning.stopped n t v) m e = absurd (omega (arith, reason_number n))

pub example_printed : ExamplePrinted
unfolding all_taken
example_printed =
    let w = listing_written 0x00 (omega arith) in
    let z = listing_settled (images_from no_dumps) 0x00 in
    subst (λ (text : List ℕ). Printed text no_dumps example_listing) listing_spelled
    (played_printed printed_of _ no_dumps refl (le-ltb _ _ w.short) plain (listing 0x00) w.reads example_listing (z.0, z.1, example_of (images_from no_dumps) z.0 z.1 z.2))
