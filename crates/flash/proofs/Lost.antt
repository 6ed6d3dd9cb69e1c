-- A record of channel F leaves the status lost or known, as it was: only the supply's going off loses it.
use mathlib.Core.Path.{◌≡◌, refl, sym, ap, ◌∙◌}
use mathlib.Core.Bool.{Bool, true, false}
use Prim.Native.Nat.{ℕ}
use Rattle.std.specs.Prelude.{Option, Some, None}
use Rattle.std.proofs.Common.{rules}
use Rattle.law.specs.Choice.{of_both}
use Rattle.record.specs.declared.Lines.{Lines}
use Rattle.record.specs.declared.FlashEvent.{FlashEvent}
use Rattle.record.specs.declared.FlashEvent.TheVariants as flash-event
use Rattle.flash.specs.declared.Flash.{Flash}
use Rattle.flash.specs.declared.FlashStep.{FlashStep}
use Rattle.flash.specs.declared.FlashFrame.{FlashFrame}
use Rattle.flash.specs.declared.FlashCycle.{FlashCycle}
use Rattle.flash.specs.declared.LockFact.{LockFact}
use Rattle.flash.specs.declared.Sent.{Sent}
use Rattle.flash.specs.declared.Op.{Op}
use Rattle.flash.specs.Cycle.{running_of, end_status, starts_if, sets_if, known_effect}
use Rattle.flash.specs.Step as step

end_keeps : (y : Option FlashCycle) (s : Option ℕ) → step.is_lost (end_status y s) ≡ step.is_lost s
end_keeps y s = search rules

lost_closed : (f : Flash) (r : FlashFrame) → step.lost_of (step.closed_by f (step.effect_in r None)).chip ≡ step.lost_of f
lost_closed f r = search rules

module _ (f : Flash) (k : step.lost_of f ≡ false) where
  starts : (may : Bool) (y : FlashCycle) → step.lost_of (step.closed_by f (starts_if may y)).chip ≡ false
  starts true y = k
  starts false y = k

  sets : (may : Bool) (s : ℕ) → step.lost_of (step.closed_by f (sets_if may s)).chip ≡ false
  sets true s = refl
  sets false s = k

  known_does : (o : Op) (sent : Sent) (fact : LockFact) (s : ℕ) → step.lost_of (step.closed_by f (known_effect o sent fact s)).chip ≡ false
  known_does o sent fact s = search (sets, starts, k, rules)

  known_closed : (r : FlashFrame) (s : ℕ) → step.lost_of (step.closed_by f (step.effect_in r (Some s))).chip ≡ false
  known_closed r s = search (known_does, k, rules)

closed_keeps : (f : Flash) (s : Option ℕ) → f.status ≡ s → step.lost_of (step.closed_by f (step.effect_in f.frame s)).chip ≡ step.lost_of f
closed_keeps f None e = lost_closed f f.frame
closed_keeps f (Some s) e = known_closed f (ap step.is_lost e) f.frame s ∙ sym (ap step.is_lost e)

byte_keeps : (r : FlashFrame) (f : Flash) (si w : ℕ) → step.lost_of (step.byte_in r f si w).chip ≡ step.lost_of f
byte_keeps r f si w = search rules

powered_keeps : (f : Flash) (e : FlashEvent) (lock : Bool) (w : ℕ) → step.lost_of (step.powered_of f e lock w).chip ≡ step.lost_of f
powered_keeps f flash-event.Select lock w = refl
powered_keeps f (flash-event.Byte si so) lock w = byte_keeps f.frame f si w
powered_keeps f flash-event.Cut lock w = refl
powered_keeps f flash-event.Deselect lock w = closed_keeps f f.status refl
powered_keeps f flash-event.End lock w = of_both (λ (x : FlashStep). step.lost_of x.chip ≡ step.lost_of f) (running_of f.cycle) _ _ (end_keeps f.cycle f.status) refl

dark_keeps : (f : Flash) (e : FlashEvent) → step.lost_of (step.dark_of f e).chip ≡ step.lost_of f
dark_keeps f e = search rules

pub step_keeps : (f : Flash) (e : FlashEvent) (l : Lines) (w : ℕ) → step.lost_of (step.step_of f e l w).chip ≡ step.lost_of f
step_keeps f e l w = of_both (λ (x : FlashStep). step.lost_of x.chip ≡ step.lost_of f) l.supply _ _ (powered_keeps f e l.lock w) (dark_keeps f e)
