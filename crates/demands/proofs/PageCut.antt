-- The text of a page write that is cut: it is readable, and settles, since each of its two stamps has records of one channel alone.
use mathlib.Core.Path.{refl}
use mathlib.Core.List.{[], ◌∷◌}
use native.Mathlib.Omega.{arith}
use Rattle.law.specs.Lists.{RisingFrom}
use Rattle.law.specs.Words.{filter, keep, All}
use Rattle.meaning.specs.Meaning.{E, L, after}
use Rattle.meaning.proofs.Onward.{goes_on}
use Rattle.meaning.proofs.Steps.{means_end}
use Rattle.record.specs.declared.LineEvent.TheVariants.{SupplyOff}
use Rattle.record.specs.Records.{on_l}
use Rattle.image.specs.Images.{Images}
use Rattle.controls.specs.Play.{moved_of}
use Rattle.machine.specs.Effects.{flash_after, eeprom_after}
use Rattle.machine.specs.Machine.{Machine, machine_at_start, on_machine, play_on}
use Rattle.text.specs.Buses as buses
use Rattle.call.specs.Replay.{shown, shown_as}
use Rattle.demands.specs.Bench.{plain, Answered}
use Rattle.demands.specs.Worked.{page_started, page_cut}
use Rattle.demands.proofs.OneStamp.{one_channel, stamp_passes}
use Rattle.demands.proofs.FourTexts.{Written, is_written, plain_ok}

pub page_cut_written : Written plain page_cut
unfolding All RisingFrom buses.after
page_cut_written = is_written plain page_cut plain_ok (omega arith) (omega arith) (_, refl) (omega arith)

module _ (x : Images) where
  abbrev writing : Machine
  writing = after (on_machine plain) (page_started 0) (machine_at_start plain x)

  pub page_cut_settled : Answered page_cut x 0
  unfolding filter keep All after play_on moved_of flash_after eeprom_after shown shown_as goes_on
  page_cut_settled =
      let last = stamp_passes (on_machine plain) (on_l 10 SupplyOff ∷ []) [] 10 (refl, tt) tt refl writing refl
      (one_channel (on_machine plain) L (on_l 10 SupplyOff ∷ []) (refl, tt) writing) refl _ (means_end (on_machine plain) _ refl) in (
        _,
        stamp_passes (on_machine plain) (page_started 0) (on_l 10 SupplyOff ∷ []) 0 (refl, (refl, (refl, (refl, (refl, (refl, tt)))))) (omega arith, tt) refl (machine_at_start plain x) refl
            (one_channel (on_machine plain) E (page_started 0) (refl, (refl, (refl, (refl, (refl, (refl, tt)))))) (machine_at_start plain x)) refl _ last,
        refl,
      )
