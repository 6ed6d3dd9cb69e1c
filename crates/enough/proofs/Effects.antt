-- What the chips' cycles do to what is kept of each chip, its image and its pages' times, at one stamp, told by the cycle's data alone; it is what the rules say of the chip in that cycle.
use mathlib.Core.Path.{◌≡◌, refl, sym, ap, ◌∙◌}
use mathlib.Core.Bool.{Bool, true, false, not}
use mathlib.Core.List.{List, []}
use Prim.Native.Nat.{ℕ}
use lib.Dec.{eqb}
use Rattle.law.specs.Words.{pick}
use Rattle.tied.specs.Control.{Cycle, idle, runs, ends, Control}
use Rattle.tied.proofs.Parts.{Effects, image_bus, image_line, line_same}
use Rattle.record.specs.declared.Board.{Board}
use Rattle.record.specs.declared.Record.{Record}
use Rattle.record.specs.declared.Reply.{Reply}
use Rattle.record.specs.declared.Lines.{Lines}
use Rattle.record.specs.declared.LineEvent.{LineEvent}
use Rattle.record.specs.declared.Skeleton.{Skeleton}
use Rattle.record.specs.declared.Skeleton.TheVariants.{Silent, Given, Fetch, Ack, NoAck, Starts, Ends, NoCycle}
use Rattle.record.specs.LineRules.{goes_off, lock_comes_on}
use Rattle.record.specs.Told.{skeleton_kind}
use Rattle.flash.specs.declared.Flash.{Flash}
use Rattle.flash.specs.declared.FlashCycle.{FlashCycle}
use Rattle.flash.specs.declared.FlashCycle.TheVariants as flash-cycle
use Rattle.flash.specs.Code.{sector_locked}
use Rattle.flash.specs.Step as flash-rules
use Rattle.flash.specs.Told as flash-told
use Rattle.flash.proofs.Laws.{reach_kept}
use Rattle.eeprom.specs.declared.Eeprom.{Eeprom}
use Rattle.eeprom.specs.declared.Sent.{Sent}
use Rattle.std.specs.Prelude.{Option}
use Rattle.std.specs.declared.option.Option.TheVariants as option
use Rattle.eeprom.specs.Step as eeprom-rules
use Rattle.eeprom.specs.Told as eeprom-told
use Rattle.image.specs.Image.{Image}
use Rattle.times.specs.declared.Pages.{Pages}
use Rattle.times.specs.declared.Pages.TheVariants.{None, One, All}
use Rattle.times.specs.Times.{on_pages, timed_at}
use Rattle.machine.specs.declared.effects.Stroke.{Stroke}
use Rattle.machine.specs.declared.effects.Stroke.TheVariants.{Nothing, Whole, Cut}
use Rattle.machine.specs.Effects.{stroke_of, line_stroke, sector_of_page, in_sector, flash_pages, eeprom_pages, program_by, erase_by, sent_in, store_by, flash_after, eeprom_after}
use Rattle.machine.specs.Replies.{delivered}
use Rattle.machine.proofs.Memory.{Memory, flash_struck, eeprom_struck}
use Rattle.enough.proofs.Sides.{flash_over, eeprom_over}

-- what becomes of it on these pages, at the stamp t
abbrev pub memory_on : ℕ → (ℕ → Image → Image) → (Image → Image) → Pages → Memory → Memory
memory_on t one all p k = record { image = on_pages one all p k.image; times = timed_at t p k.times }

-- ---- by a running cycle's data
abbrev running_pages : ℕ → flash-told.Running → Pages
running_pages w (flash-told.programs n page) = pick (eqb (sector_of_page n) w) (One (in_sector n)) None
running_pages w (flash-told.erases n) = pick (eqb n w) All None
running_pages w (flash-told.erases_all bits) = pick (not (sector_locked bits w)) All None
running_pages w (flash-told.sets_status bits) = None

abbrev running_bytes : flash-told.Running → List ℕ
running_bytes (flash-told.programs n page) = page
running_bytes (flash-told.erases n) = []
running_bytes (flash-told.erases_all bits) = []
running_bytes (flash-told.sets_status bits) = []

abbrev pub flash_of : Stroke → ℕ → ℕ → flash-told.Running → Memory → Memory
flash_of s w t x k = memory_on t (program_by s (running_bytes x)) (erase_by s) (running_pages w x) k

abbrev pub flash_effects : Board → ℕ → Effects Record Skeleton Reply Memory flash-told.Running
flash_effects b t = record { whole = flash_of Whole b.sector t; cut = flash_of Cut b.sector t; deliver = λ k r s. delivered k.image s }

abbrev pub eeprom_of : Stroke → ℕ → eeprom-told.Writing → Memory → Memory
eeprom_of s t x k = memory_on t (store_by s x.sent x.bytes) (λ i. i) (One x.sent.page) k

abbrev pub eeprom_effects : ℕ → Effects Record Skeleton Reply Memory eeprom-told.Writing
eeprom_effects t = record { whole = eeprom_of Whole t; cut = eeprom_of Cut t; deliver = λ k r s. delivered k.image s }

-- what a cycle makes of it, where one runs
abbrev on_cycle : {Run : Type 0} → (Run → Memory → Memory) → Cycle Run → Memory → Memory
on_cycle f idle k = k
on_cycle f (runs x) k = f x k

-- ---- a chip in the cycle r, and what strokes make of its memory: nothing, or what the cycle's data say
module _ {C Run Told : Type 0} (X : Control C Record Record Skeleton Run Told) (Y : Effects Record Skeleton Reply Memory Run) (struck : Stroke → Memory → Memory) (r : Cycle Run)
    (nothing : (k : Memory) → struck Nothing k ≡ k) where
  ends_by : (q : Cycle Run) (k : Memory) → on_cycle Y.whole q k ≡ image_bus X Y ends q k
  unfolding image_bus
  ends_by idle k = refl
  ends_by (runs x) k = refl

  cuts_by : (q : Cycle Run) (k : Memory) → on_cycle Y.cut q k ≡ image_line X Y q idle k
  unfolding image_line
  cuts_by idle k = refl
  cuts_by (runs x) k = refl

  -- by a reply: one that says that a cycle ends
  struck_bus : ((k : Memory) → struck Whole k ≡ on_cycle Y.whole r k) → (s : Skeleton) (k : Memory) → struck (stroke_of s) k ≡ image_bus X Y (skeleton_kind s) r k
  unfolding image_bus
  struck_bus h Silent k = nothing k
  struck_bus h (Given x) k = nothing k
  struck_bus h (Fetch p) k = nothing k
  struck_bus h Ack k = nothing k
  struck_bus h NoAck k = nothing k
  struck_bus h Starts k = nothing k
  struck_bus h Ends k = h k ∙ ends_by r k
  struck_bus h NoCycle k = nothing k

  -- by the lines: the supply that goes off, after which no cycle runs
  struck_line : ((k : Memory) → struck Cut k ≡ on_cycle Y.cut r k) → (off : Bool) (q : Cycle Run) → q ≡ pick off idle r → (k : Memory) → struck (pick off Cut Nothing) k ≡ image_line X Y r q k
  struck_line h true q e k = h k ∙ cuts_by r k ∙ ap (λ (p : Cycle Run). image_line X Y r p k) (sym e)
  struck_line h false q e k = nothing k ∙ sym (line_same X Y r k) ∙ ap (λ (p : Cycle Run). image_line X Y r p k) (sym e)

module _ (b : Board) (t : ℕ) where
  -- ---- the flash: no byte comes to an erase
  erased : (s : Stroke) (page : List ℕ) (q : Bool) (k : Memory) → memory_on t (program_by s page) (erase_by s) (pick q All None) k ≡ memory_on t (program_by s []) (erase_by s) (pick q All None) k
  erased s page true k = refl
  erased s page false k = refl

  flash_is : (s : Stroke) (c : Option FlashCycle) (st : Option ℕ) (page : List ℕ) (k : Memory) →
      memory_on t (program_by s page) (erase_by s) (flash_pages b.sector c st) k ≡ on_cycle (flash_of s b.sector t) (flash-told.runs_in c st page) k
  flash_is s option.None st page k = refl
  flash_is s (option.Some (flash-cycle.Program n)) st page k = refl
  flash_is s (option.Some (flash-cycle.SectorErase n)) st page k = erased s page (eqb n b.sector) k
  flash_is s (option.Some flash-cycle.ChipErase) option.None page k = refl
  flash_is s (option.Some flash-cycle.ChipErase) (option.Some x) page k =
      erased s page (not (sector_locked x b.sector)) k
      ∙ ap (λ (q : Bool). memory_on t (program_by s []) (erase_by s) (pick (not q) All None) k) (sym (reach_kept x b.sector))
  flash_is s (option.Some (flash-cycle.WriteStatus bits)) st page k = refl

  flash_runs : (off on : Bool) (f : Flash) → flash-told.runs_of (pick off (flash-rules.supply_off_of f) (pick on (flash-rules.lock_on_of f) f)) ≡ pick off idle (flash-told.runs_of f)
  flash_runs true on f = refl
  flash_runs false true f = refl
  flash_runs false false f = refl

  pub flash_bus_lem : (s : Skeleton) (f : Flash) (k : Memory) → flash_struck t b.sector f (stroke_of s) k ≡ image_bus (flash_over b) (flash_effects b t) (skeleton_kind s) (flash-told.runs_of f) k
  unfolding flash_after
  flash_bus_lem s f k = struck_bus (flash_over b) (flash_effects b t) (flash_struck t b.sector f) (flash-told.runs_of f) (λ k. refl) (flash_is Whole f.cycle f.status f.page) s k

  pub flash_line : (e : LineEvent) (f : Flash) (l : Lines) (k : Memory) →
      flash_struck t b.sector f (line_stroke l e) k ≡ image_line (flash_over b) (flash_effects b t) (flash-told.runs_of f) (flash-told.runs_of (flash-rules.line_of f e l)) k
  unfolding flash_after
  flash_line e f l k =
      struck_line (flash_over b) (flash_effects b t) (flash_struck t b.sector f) (flash-told.runs_of f) (λ k. refl) (flash_is Cut f.cycle f.status f.page) (goes_off l e) _
      (flash_runs (goes_off l e) (lock_comes_on l e) f) k

  -- ---- the EEPROM
  eeprom_is : (s : Stroke) (c : Option Sent) (page : List ℕ) (k : Memory) → memory_on t (store_by s (sent_in c) page) (λ i. i) (eeprom_pages c) k ≡ on_cycle (eeprom_of s t) (eeprom-told.runs_in c page) k
  eeprom_is s option.None page k = refl
  eeprom_is s (option.Some x) page k = refl

  eeprom_runs : (off : Bool) (x : Eeprom) → eeprom-told.runs_of (pick off (eeprom-rules.off_of x) x) ≡ pick off idle (eeprom-told.runs_of x)
  eeprom_runs true x = refl
  eeprom_runs false x = refl

  pub eeprom_bus_lem : (s : Skeleton) (x : Eeprom) (k : Memory) → eeprom_struck t x (stroke_of s) k ≡ image_bus (eeprom_over b) (eeprom_effects t) (skeleton_kind s) (eeprom-told.runs_of x) k
  unfolding eeprom_after
  eeprom_bus_lem s x k = struck_bus (eeprom_over b) (eeprom_effects t) (eeprom_struck t x) (eeprom-told.runs_of x) (λ k. refl) (eeprom_is Whole x.cycle x.page) s k

  pub eeprom_line : (e : LineEvent) (x : Eeprom) (l : Lines) (k : Memory) →
      eeprom_struck t x (line_stroke l e) k ≡ image_line (eeprom_over b) (eeprom_effects t) (eeprom-told.runs_of x) (eeprom-told.runs_of (eeprom-rules.line_of x e l)) k
  unfolding eeprom_after
  eeprom_line e x l k =
      struck_line (eeprom_over b) (eeprom_effects t) (eeprom_struck t x) (eeprom-told.runs_of x) (λ k. refl) (eeprom_is Cut x.cycle x.page) (goes_off l e) _ (eeprom_runs (goes_off l e) x) k
