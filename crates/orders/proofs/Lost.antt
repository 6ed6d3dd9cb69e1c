-- Only `off` can lose the flash's status.
use mathlib.Core.Path.{◌≡◌, refl, ◌∙◌}
use mathlib.Core.Bool.{false, not}
use mathlib.Core.List.{List, [], ◌∷◌}
use Rattle.std.proofs.Common.{rules}
use Rattle.law.specs.Choice.{of_both, true_not_false}
use Rattle.law.specs.Words.{All}
use Rattle.record.specs.declared.Board.{Board}
use Rattle.record.specs.declared.Record.{Record}
use Rattle.record.specs.declared.Event.{Event}
use Rattle.record.specs.declared.Event.TheVariants as event
use Rattle.record.specs.declared.LineEvent.TheVariants.{SupplyOn, SupplyOff, LockOn, LockOff}
use Rattle.flash.proofs.Lost.{step_keeps}
use Rattle.flash.specs.declared.Flash.{Flash}
use Rattle.flash.specs.Step as flash-rules
use Rattle.controls.specs.declared.Controls.{Controls}
use Rattle.controls.specs.Play.{event_moved, moved_of, lost_of}
use Rattle.meaning.specs.Meaning.{F, E, L}
use Rattle.tied.specs.Orders.{after_buses, after_lines}
use Rattle.orders.specs.declared.Held.{Held}
use Rattle.orders.specs.declared.tying.Tied.{Tied}
use Rattle.orders.specs.Stamp.{played, buses_from, lines_from}
use Rattle.orders.specs.LineStates.{of_line, OfBus}
use Rattle.orders.specs.Verdicts.{held_of}
use Rattle.orders.specs.Lost.{is_off, NotOff, StatusStays, TiedStays}

-- ---- one record
module _ (b : Board) where
  keeps_by : (s : Controls) (e : Event) → is_off e ≡ false → lost_of (event_moved b s e).controls ≡ lost_of s
  keeps_by s (event.Flash e) n = step_keeps s.flash e s.lines b.sector
  keeps_by s (event.Eeprom e) n = refl
  keeps_by s (event.Line SupplyOn) n = refl
  keeps_by s (event.Line SupplyOff) n = absurd (true_not_false n)
  keeps_by s (event.Line LockOn) n = of_both (λ (f : Flash). flash-rules.lost_of f ≡ lost_of s) (not s.lines.lock) _ _ refl refl
  keeps_by s (event.Line LockOff) n = refl

  pub keeps : (s : Controls) (r : Record) → NotOff r → lost_of (played b s r) ≡ lost_of s
  unfolding moved_of
  keeps s r n = keeps_by s r.event n

  bus_not_off : (e : Event) → of_line e ≡ false → is_off e ≡ false
  bus_not_off e o = search rules

  -- ---- all records
  buses_keep : (rs : List Record) → All OfBus rs → (s : Controls) → lost_of (after_buses (played b) rs s) ≡ lost_of s
  unfolding All after_buses
  buses_keep [] a s = refl
  buses_keep (r ∷ rs) a s = buses_keep rs a.1 (played b s r) ∙ keeps s r (bus_not_off r.event a.0)

  lines_keep : (rs : List Record) → All NotOff rs → (s : Controls) → lost_of (after_lines (played b) rs s) ≡ lost_of s
  unfolding All after_lines
  lines_keep [] a s = refl
  lines_keep (r ∷ rs) a s = lines_keep rs a.1 (played b s r) ∙ keeps s r a.0

-- of whatever is held, also where it is more than may share a stamp
pub all_stay : (b : Board) (h : Held) → All OfBus (held_of h F) → All OfBus (held_of h E) → All NotOff (held_of h L) → StatusStays b h
all_stay b h f e l s = lines_keep b _ l _ ∙ buses_keep b _ e _ ∙ buses_keep b _ f s

-- the same of what is tied
pub tied_stay : (t u : Tied) → All OfBus (buses_from t 0) → All OfBus (buses_from u 0) → All NotOff (lines_from t 0) → TiedStays t u
tied_stay t u f e l s = lines_keep t.board _ l _ ∙ buses_keep u.board _ e _ ∙ buses_keep t.board _ f s
