-- What `==` says of two chips: whether they are in one state.
use mathlib.Core.Path.{◌≡◌, ap}
use Rattle.std.specs.Prelude.{ℕ, List, nat_eq, Option}
use Rattle.std.proofs.Common.{rules}
use Rattle.std.specs.Cmp.Lexicographic.{pointwise}
use Rattle.std.specs.Option.{option_eq}
use Rattle.law.specs.Deciding.{Decides, decides_as, decides_both}
use Rattle.flash.specs.declared.Op.{Op}
use Rattle.flash.specs.declared.LockFact.{LockFact}
use Rattle.flash.specs.declared.Sent.{Sent}
use Rattle.flash.specs.declared.Flash.{Flash}
use Rattle.flash.specs.declared.FlashFrame.{FlashFrame}
use Rattle.flash.specs.declared.FlashFrame.TheVariants.{Idle, Void, Selected, Command}
use Rattle.flash.specs.declared.FlashCycle.{FlashCycle}
use Rattle.flash.specs.contracts.OpPartialEq.TheImpl as op-eq
use Rattle.flash.specs.contracts.LockFactPartialEq.TheImpl as fact-eq
use Rattle.flash.specs.contracts.SentPartialEq.TheImpl as sent-eq
use Rattle.flash.specs.contracts.FlashPartialEq.TheImpl as flash-eq
use Rattle.flash.specs.contracts.FlashFramePartialEq.TheImpl as frame-eq
use Rattle.flash.specs.contracts.FlashCyclePartialEq.TheImpl as cycle-eq

pub op_decides : (a b : Op) → Decides (op-eq.ghosts.eq a b) (a ≡ b)
op_decides a b = search rules

pub fact_decides : (a b : LockFact) → Decides (fact-eq.ghosts.eq a b) (a ≡ b)
fact_decides a b = search rules

pub sent_decides : (a b : Sent) → Decides (sent-eq.ghosts.eq a b) (a ≡ b)
sent_decides a b = search rules

pub frame_decides : (a b : FlashFrame) → Decides (frame-eq.ghosts.eq a b) (a ≡ b)
frame_decides Idle b = search rules
frame_decides Void b = search rules
frame_decides (Selected f) b = search (fact_decides, rules)
frame_decides (Command o s f) Idle = search rules
frame_decides (Command o s f) Void = search rules
frame_decides (Command o s f) (Selected g) = search rules
frame_decides (Command o s f) (Command p t g) =
    decides_as (decides_both (op_decides o p) (decides_both (sent_decides s t) (fact_decides f g))) (λ e i. Command (e.0 i) (e.1.0 i) (e.1.1 i)) (λ e. (cc, (cc, cc)))

pub cycle_decides : (a b : Option FlashCycle) → Decides (option_eq cycle-eq.ghosts.eq a b) (a ≡ b)
cycle_decides a b = search rules

pub status_decides : (a b : Option ℕ) → Decides (option_eq nat_eq a b) (a ≡ b)
status_decides a b = search rules

pub pages_decide : (a b : List ℕ) → Decides (pointwise nat_eq a b) (a ≡ b)
pages_decide a b = search rules

-- chips with the same parts are the same
pub flash_same : (a b : Flash) → a.frame ≡ b.frame → a.cycle ≡ b.cycle → a.status ≡ b.status → a.page ≡ b.page → a ≡ b
flash_same a b f c s p i = record { frame = f i; cycle = c i; status = s i; page = p i }

pub flash_decides : (a b : Flash) → Decides (flash-eq.ghosts.eq a b) (a ≡ b)
flash_decides a b =
    decides_as (decides_both (frame_decides a.frame b.frame) (decides_both (cycle_decides a.cycle b.cycle) (decides_both (status_decides a.status b.status) (pages_decide a.page b.page))))
    (λ p. flash_same a b p.0 p.1.0 p.1.1.0 p.1.1.1)
    (λ e. (ap (λ (f : Flash). f.frame) e, (ap (λ (f : Flash). f.cycle) e, (ap (λ (f : Flash). f.status) e, ap (λ (f : Flash). f.page) e))))
