-- Why the wrong programs are shut out: what any outcome for each of the texts is.
use mathlib.Core.Path.{◌≡◌, refl, ap, ◌∙◌}
use mathlib.Core.Bool.{true}
use mathlib.Core.List.{List, [], ◌∷◌, ◌++◌}
use Prim.Native.Nat.{ℕ, ◌<◌}
use native.Mathlib.Omega.{arith}
use lib.ListN.{take, drop}
use Rattle.meaning.specs.Meaning.{after}
use Rattle.meaning.proofs.Allowing.{itself}
use Rattle.meaning.specs.Listing.{said}
use Rattle.record.specs.declared.Record.{Record}
use Rattle.record.specs.declared.FlashEvent.TheVariants as flash
use Rattle.cell.specs.Rules.{erased_cell, stored_cell, doubtful_cell}
use Rattle.record.specs.declared.Chip.{Chip}
use Rattle.image.specs.Image.{cell_at}
use Rattle.image.specs.Images.{Images, kept_bytes}
use Rattle.image.proofs.AtPlace.{program_page_erased}
use Rattle.controls.specs.Play.{moved_of}
use Rattle.machine.specs.Effects.{flash_after, eeprom_after}
use Rattle.machine.proofs.EepromWritten.{cut_in_page}
use Rattle.machine.specs.Replies.{delivered, compared}
use Rattle.machine.specs.Machine.{machine_at_start, on_machine, play_on, says_on}
use Rattle.text.specs.Texts.{spelled_trace}
use Rattle.buffers.specs.Buffers.{Buffers, fit, result_bytes}
use Rattle.buffers.proofs.Fit.{fit_says}
use Rattle.call.specs.Replay.{Ended, count_twos, Replays}
use Rattle.record.specs.Records.{on_f}
use Rattle.demands.specs.Bench.{plain, wren, Answered}
use Rattle.demands.proofs.BenchCases.{case11, case12}
use Rattle.demands.proofs.Readable.{readable_back}
use Rattle.demands.proofs.Stops.{means_shown, settled_shows}
use Rattle.demands.proofs.Replies.{each_reply, settled_count}
use Rattle.demands.proofs.Entries.{entry_bytes_lem}
use Rattle.demands.proofs.Lent.{erased, erased_fits, erased_flash, erased_eeprom}
use Rattle.demands.specs.Worked.{page_cut}
use Rattle.demands.specs.ShutOut.{listing, wren_off, program_off, sent, programmed, ShutOut}
use Rattle.demands.proofs.FourTexts.{Written, listing_written, wren_off_written, program_off_written, programmed_written, listing_settled, programmed_settled}
use Rattle.demands.proofs.PageCut.{page_cut_written, page_cut_settled}
use Rattle.demands.proofs.TypedWrong.{typed_wrong_told, typed_wrong_first_told}

-- ---- any outcome for a short text on buffers that fit
module _ (x : Buffers) (h : fit x ≡ true) {e : Ended} where
  -- it has the answer that the demand admits
  answers : (rs : List Record) → Written plain rs → (n : ℕ) → Answered rs x.images n → Replays (spelled_trace plain rs) x e → e.answer ≡ n
  answers rs w n z p = ap (λ (y : Ended). y.answer) (means_shown p h w.short w.reads z.0 z.1) ∙ z.2

  -- the listing's text settles, whatever byte was recorded for the status, and its count is that of its lines
  listing_settles : (so : ℕ) → so < 256 → Replays (spelled_trace plain (listing so)) x e → e.answer ≡ 0
  listing_settles so k = answers (listing so) (listing_written so k) 0 (listing_settled x.images so)

  counted : (so : ℕ) → so < 256 → Replays (spelled_trace plain (listing so)) x e → e.buffers.result ≡ result_bytes 0 0 (count_twos (listing so) (said (on_machine plain) (listing so) (machine_at_start plain x.images))) 0
  counted so k p = settled_count p h (listing_written so k).short (listing_written so k).reads (listing_settles so k p)

  counts_none : Replays (spelled_trace plain (listing 0x00)) x e → e.buffers.result ≡ result_bytes 0 0 0 0
  unfolding count_twos said play_on says_on moved_of delivered compared flash_after eeprom_after
  counts_none = counted 0x00 (omega arith)

  counts_one : Replays (spelled_trace plain (listing 0x01)) x e → e.buffers.result ≡ result_bytes 0 0 1 0
  unfolding count_twos said play_on says_on moved_of delivered compared flash_after eeprom_after
  counts_one = counted 0x01 (omega arith)

  -- case 1 settles; a place that was ff/00 is a5/00 after it, its page has the time of `end`, and its last record has the reply bytes 6, 0, 0, 0: the cycle ends
  program_settles : Replays (spelled_trace plain programmed) x e → e.answer ≡ 0
  program_settles = answers programmed programmed_written 0 (programmed_settled x.images)

  image_changes : Replays (spelled_trace plain programmed) x e → cell_at x.images.flash 0 ≡ erased_cell → cell_at e.buffers.images.flash 0 ≡ stored_cell 0xa5
  unfolding after play_on moved_of flash_after eeprom_after
  image_changes p k =
      ap (λ (i : Images). cell_at i.flash 0)
      (settled_shows p h programmed_written.short programmed_written.reads (program_settles p) programmed (itself (on_machine plain) programmed (readable_back programmed_written.reads))).images
      ∙ program_page_erased x.images.flash (kept_bytes Chip.Flash) ((fit_says x h).kept Chip.Flash) 0 _ (omega arith) 0 (omega arith) k 0xa5 refl

  end_told : Replays (spelled_trace plain programmed) x e → take 5 e.buffers.times ≡ 1 ∷ 30 ∷ 0 ∷ 0 ∷ 0 ∷ []
  unfolding after play_on moved_of
  end_told p =
      ap (take 5)
      (settled_shows p h programmed_written.short programmed_written.reads (program_settles p) programmed (itself (on_machine plain) programmed (readable_back programmed_written.reads))).times
      ∙ entry_bytes_lem (after (on_machine plain) programmed (machine_at_start plain x.images)).times Chip.Flash 0 (omega arith)

  last_stamp_played : Replays (spelled_trace plain programmed) x e → take 4 (drop 40 e.buffers.replies) ≡ 6 ∷ 0 ∷ 0 ∷ 0 ∷ []
  unfolding after play_on says_on moved_of delivered compared flash_after eeprom_after
  last_stamp_played p =
      each_reply p h programmed_written.short programmed_written.reads (wren 10 ++ sent) (on_f 30 flash.End) [] refl (program_settles p)

  -- a page write that is cut settles, and its whole page is in doubt
  cut_settles : Replays (spelled_trace plain page_cut) x e → e.answer ≡ 0
  cut_settles = answers page_cut page_cut_written 0 (page_cut_settled x.images)

  page_doubtful : Replays (spelled_trace plain page_cut) x e → cell_at e.buffers.images.eeprom 0x0040 ≡ doubtful_cell
  unfolding after play_on moved_of flash_after eeprom_after
  page_doubtful p =
      ap (λ (i : Images). cell_at i.eeprom 0x0040)
      (settled_shows p h page_cut_written.short page_cut_written.reads (cut_settles p) page_cut (itself (on_machine plain) page_cut (readable_back page_cut_written.reads))).images
      ∙ cut_in_page 0x007f (0x11 ∷ []) x.images.eeprom 0x0040 (omega arith) ((fit_says x h).kept Chip.Eeprom) refl

pub shut_out : ShutOut
shut_out = record {
  refuses_everything = λ x e h. listing_settles x h 0x00 (omega arith);
  always_settled = λ x e h. answers x h program_off program_off_written 7 (case12 x.images);
  always_differs = λ x e h. answers x h wren_off wren_off_written 0 (case11 x.images);
  leaves_the_images = λ x e h. image_changes x h;
  plays_the_first_stamp = λ x e h. last_stamp_played x h;
  counts_none = λ x e h. counts_none x h;
  counts_one = λ x e h. counts_one x h;
  doubts_only_the_sent = λ x e h. page_doubtful x h;
  tells_another_time = λ x e h. end_told x h;
  tells_another_field = typed_wrong_told;
  tells_another_field_first = typed_wrong_first_told;
  some_fit = (erased, erased_fits, erased_flash, erased_eeprom);
}
