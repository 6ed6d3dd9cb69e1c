-- What the flash's control keeps within bounds: the page holds only bytes, what a record sent or ff; and a place that is fetched is one of a sector. By its rules, one record at a time.
use mathlib.Core.Bool.{Bool}
use mathlib.Core.List.{List, [], ◌∷◌}
use Prim.Native.Nat.{ℕ, zero, suc, ◌%◌, ◌<◌}
use native.Mathlib.Nat.{mod-lt}
use native.Mathlib.Omega.{arith}
use lib.Dec.{ltb, eqb}
use lib.ListN.{get_or, set, replicate}
use Rattle.std.specs.Prelude.{Option, Some, None}
use Rattle.std.proofs.Common.{rules}
use Rattle.law.specs.Words.{All, pick}
use Rattle.law.specs.Choice.{of_both}
use Rattle.law.specs.Lists.{all_at}
use Rattle.page.specs.Geometry.{flash_page, flash_sector}
use Rattle.record.specs.declared.FlashEvent.{FlashEvent}
use Rattle.record.specs.declared.FlashEvent.TheVariants.{Select, Byte, Cut, Deselect, End}
use Rattle.record.specs.declared.LineEvent.{LineEvent}
use Rattle.record.specs.declared.Lines.{Lines}
use Rattle.record.specs.declared.Skeleton.{Skeleton}
use Rattle.record.specs.declared.Skeleton.TheVariants.{Silent, Given, Fetch, Ack, NoAck, Starts, Ends, NoCycle}
use Rattle.record.specs.LineRules.{goes_off, lock_comes_on}
use Rattle.flash.specs.declared.Op.{Op}
use Rattle.flash.specs.declared.Sent.{Sent}
use Rattle.flash.specs.declared.FlashFrame.{FlashFrame}
use Rattle.flash.specs.declared.FlashCycle.{FlashCycle}
use Rattle.flash.specs.declared.Flash.{Flash}
use Rattle.flash.specs.declared.FlashStep.{FlashStep}
use Rattle.flash.specs.declared.Effect.{Effect}
use Rattle.flash.specs.declared.Effect.TheVariants.{Nothing, Status, Start}
use Rattle.flash.specs.Code.{sector_of}
use Rattle.flash.specs.Cycle.{blank, page_in}
use Rattle.flash.specs.Frame.{fetch_of, identity_of, status_reply, reply_to, page_after}
use Rattle.flash.specs.Step.{byte_in, closed_by, powered_of, dark_of, step_of, supply_off_of, lock_on_of, line_of}

-- what is sent is a byte
abbrev pub Sends : FlashEvent → Type 0
Sends Select = Unit {0}
Sends (Byte si so) = si < 256
Sends Cut = Unit {0}
Sends Deselect = Unit {0}
Sends End = Unit {0}

-- every byte of a page is one
abbrev pub BytePage : List ℕ → Type 0
BytePage page = All (λ (d : ℕ). d < 256) page

pub byte_at : (page : List ℕ) → BytePage page → (q : ℕ) → get_or page q 0 < 256
byte_at page h q = all_at (λ (d : ℕ). d < 256) page q 0 (omega arith) h

bytes_set : (page : List ℕ) (q d : ℕ) → d < 256 → BytePage page → BytePage (set page q d)
unfolding All
bytes_set [] q d l h = h
bytes_set (x ∷ page) zero d l h = (l, h.1)
bytes_set (x ∷ page) (suc q) d l h = (h.0, bytes_set page q d l h.1)

bytes_all : (n d : ℕ) → d < 256 → BytePage (replicate n d)
unfolding All
bytes_all zero d l = tt
bytes_all (suc n) d l = (l, bytes_all n d l)

pub bytes_blank : BytePage blank
bytes_blank = bytes_all flash_page 0xff (omega arith)

bytes_in : (c : Option FlashCycle) (page : List ℕ) → BytePage page → BytePage (page_in c page)
bytes_in c page h = search (bytes_blank, rules)

bytes_after : (o : Op) (s : Sent) (si : ℕ) (page : List ℕ) → si < 256 → BytePage page → BytePage (page_after o s si page)
bytes_after o s si page l h = search (bytes_set, of_both, rules)

bytes_byte : (fr : FlashFrame) (f : Flash) (si w : ℕ) → si < 256 → BytePage f.page → BytePage (byte_in fr f si w).chip.page
bytes_byte fr f si w l h = search (bytes_in, bytes_after, rules)

-- `des`: whatever it does, the page stays or is blank
bytes_closed : (f : Flash) (e : Effect) → BytePage f.page → BytePage (closed_by f e).chip.page
bytes_closed f Nothing h = bytes_in f.cycle f.page h
bytes_closed f (Status s) h = bytes_in f.cycle f.page h
bytes_closed f (Start c) h = bytes_in (Some c) f.page h

bytes_powered : (f : Flash) (e : FlashEvent) (lock : Bool) (w : ℕ) → Sends e → BytePage f.page → BytePage (powered_of f e lock w).chip.page
bytes_powered f e lock w k h = search (bytes_in, bytes_byte, bytes_closed, bytes_blank, of_both, rules)

bytes_dark : (f : Flash) (e : FlashEvent) → BytePage f.page → BytePage (dark_of f e).chip.page
bytes_dark f e h = search (bytes_in, rules)

pub bytes_step : (f : Flash) (e : FlashEvent) (l : Lines) (w : ℕ) → Sends e → BytePage f.page → BytePage (step_of f e l w).chip.page
bytes_step f e l w k h =
    of_both (λ (x : FlashStep). BytePage x.chip.page) l.supply (powered_of f e l.lock w) (dark_of f e) (bytes_powered f e l.lock w k h) (bytes_dark f e h)

pub bytes_line : (f : Flash) (e : LineEvent) (l : Lines) → BytePage f.page → BytePage (line_of f e l).page
bytes_line f e l h =
    of_both (λ (x : Flash). BytePage x.page) (goes_off l e) (supply_off_of f) (pick (lock_comes_on l e) (lock_on_of f) f) bytes_blank
    (of_both (λ (x : Flash). BytePage x.page) (lock_comes_on l e) (lock_on_of f) f h h)

-- ---- a place that is fetched is below n
abbrev pub Fetches : ℕ → Skeleton → Type 0
Fetches n Silent = Unit {0}
Fetches n (Given b) = Unit {0}
Fetches n (Fetch p) = p < n
Fetches n Ack = Unit {0}
Fetches n NoAck = Unit {0}
Fetches n Starts = Unit {0}
Fetches n Ends = Unit {0}
Fetches n NoCycle = Unit {0}

fetches_read : (s : Sent) (w : ℕ) → Fetches flash_sector (fetch_of s w)
fetches_read s w =
    of_both (Fetches flash_sector) (ltb s.count 4) Silent (pick (eqb (sector_of s.place) w) (Fetch (s.place % flash_sector)) Silent) tt
    (of_both (Fetches flash_sector) (eqb (sector_of s.place) w) (Fetch (s.place % flash_sector)) Silent (mod-lt s.place (omega arith)) tt)

fetches_status : (busy : Bool) (s : Option ℕ) → Fetches flash_sector (status_reply busy s)
fetches_status busy None = tt
fetches_status busy (Some s) = tt

fetches_identity : (n : ℕ) → Fetches flash_sector (identity_of n)
fetches_identity n =
    of_both (Fetches flash_sector) (eqb n 1) (Given 0x1f) (pick (eqb n 2) (Given 0x60) Silent) tt (of_both (Fetches flash_sector) (eqb n 2) (Given 0x60) Silent tt tt)

fetches_reply : (o : Op) (s : Sent) (busy : Bool) (status : Option ℕ) (w : ℕ) → Fetches flash_sector (reply_to o s busy status w)
fetches_reply o s busy status w = search (fetches_status, fetches_read, fetches_identity, rules)

fetches_byte : (fr : FlashFrame) (f : Flash) (si w : ℕ) → Fetches flash_sector (byte_in fr f si w).reply
fetches_byte fr f si w = search (fetches_reply, rules)

fetches_closed : (f : Flash) (e : Effect) → Fetches flash_sector (closed_by f e).reply
fetches_closed f e = search rules

fetches_powered : (f : Flash) (e : FlashEvent) (lock : Bool) (w : ℕ) → Fetches flash_sector (powered_of f e lock w).reply
fetches_powered f e lock w = search (fetches_byte, fetches_closed, of_both, rules)

fetches_dark : (f : Flash) (e : FlashEvent) → Fetches flash_sector (dark_of f e).reply
fetches_dark f e = search rules

pub fetches_step : (f : Flash) (e : FlashEvent) (l : Lines) (w : ℕ) → Fetches flash_sector (step_of f e l w).reply
fetches_step f e l w =
    of_both (λ (x : FlashStep). Fetches flash_sector x.reply) l.supply (powered_of f e l.lock w) (dark_of f e) (fetches_powered f e l.lock w) (fetches_dark f e)
