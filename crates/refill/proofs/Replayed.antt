-- Claim 25: records of a list of entries that all start, replayed with any sector watched, start and end as many cycles, and leave that sector's bytes as the list does. Assumes nothing.
use Prim.Native.Nat.{ℕ, suc, ◌+◌, ◌*◌, ◌<◌}
use mathlib.Core.Path.{◌≡◌, refl, sym, ap, ap₂, subst, ◌∙◌}
use mathlib.Core.Bool.{Bool, true}
use mathlib.Core.List.{List, [], ◌∷◌}
use native.Mathlib.Omega.{arith}
use lib.ListN.{length, get_or}
use Rattle.law.specs.Words.{All, keep}
use Rattle.meaning.specs.Meaning.{F, same, after, replies}
use Rattle.page.specs.Geometry.{flash_sector, flash_sectors}
use Rattle.record.specs.declared.Board.{Board}
use Rattle.record.specs.declared.Record.{Record}
use Rattle.record.specs.declared.Event.{Event}
use Rattle.record.specs.declared.Event.TheVariants as event
use Rattle.record.specs.declared.FlashEvent.{FlashEvent}
use Rattle.record.specs.declared.FlashEvent.TheVariants.{Select, Byte, Cut, Deselect, End}
use Rattle.record.specs.declared.Lines.{Lines}
use Rattle.record.specs.declared.Reply.{Reply}
use Rattle.record.specs.Status.{StatusOk}
use Rattle.flash.specs.declared.Flash.{Flash}
use Rattle.flash.specs.declared.FlashStep.{FlashStep}
use Rattle.flash.specs.Code.{kept_bits, with_enable}
use Rattle.flash.specs.Step.{start_of, step_of}
use Rattle.image.specs.Image.{Image, spans, cell_at}
use Rattle.controls.specs.Play.{moved_of}
use Rattle.machine.specs.Effects.{stroke_of, flash_after}
use Rattle.machine.specs.Machine.{Machine, play_on, says_on, on_machine}
use Rattle.fewest.specs.Entries.{Entry, sector_erase, chip_erase, program, starts, byte_after, byte_after_all, Yields, sure}
use Rattle.fewest.specs.Call.{Left}
use Rattle.refill.specs.Records.{events_of, events_of_all, sent_of, SameSent, Bear, Shows}
use Rattle.refill.specs.Refill.{Sized, of_kind, count, Replayed}
use Rattle.refill.proofs.Halves.{Half, half, moved, played, tally, powered, idle, whole_of}
use Rattle.refill.proofs.Playing.{played_append}
use Rattle.refill.proofs.Images.{Holds, cycle_of, page_of_cycle, by_sector, by_chip_lem, by_program}
use Rattle.refill.proofs.Counting.{Counts, starts_count, ends_count, as_reply, any_image, tally_append}
use Rattle.refill.proofs.Whole.{entry_played, entry_counts}

-- ---- the list, entry by entry

pub held : (w s : ℕ) → w < flash_sectors → (i : Image) (content : ℕ → ℕ) → Holds w i content → (o : Entry) → Sized o → starts s o ≡ true
    → Holds w (whole_of (suc w) (cycle_of o) (page_of_cycle o) (with_enable s) i) (λ k. byte_after s o k (content k))
held w s l i content h (sector_erase t) ok st = by_sector w s l i content h t st
held w s l i content h chip_erase ok st = by_chip_lem w s l i content h st
held w s l i content h (program n bytes) ok st = by_program w s l i content h n bytes ok.0 st

-- the control ends as it began, and an image holds this content
pub record Leaves (w : ℕ) (content : ℕ → ℕ) (s : ℕ) (h : Half) : Type 0 where
  pub image : Image
  pub holds : Holds w image content
  pub ends : h ≡ half (idle s) image

module _ (lock : Bool) (w s : ℕ) (l : w < flash_sectors) (kept : kept_bits s ≡ s) (f : Reply → ℕ) (c : Counts f) where
  one_ended : (o : Entry) (i : Image) → Sized o → starts s o ≡ true
      → played (powered lock) (suc w) (events_of o) (half (idle s) i) ≡ half (idle s) (whole_of (suc w) (cycle_of o) (page_of_cycle o) (with_enable s) i)
  one_ended o i ok st =
      entry_played lock (suc w) f c o s i ok st ∙ ap (λ (x : ℕ). half (idle x) (whole_of (suc w) (cycle_of o) (page_of_cycle o) (with_enable s) i)) kept

  pub all_played : (os : List Entry) (i : Image) (content : ℕ → ℕ) → Holds w i content → All Sized os → All (λ o. starts s o ≡ true) os
      → Leaves w (λ k. byte_after_all s os k (content k)) s (played (powered lock) (suc w) (events_of_all os) (half (idle s) i))
  unfolding All byte_after_all events_of_all played
  all_played [] i content h ok st = record { image = i; holds = h; ends = refl }
  all_played (o ∷ os) i content h ok st =
      let j = whole_of (suc w) (cycle_of o) (page_of_cycle o) (with_enable s) i in
      let q = all_played os j (λ k. byte_after s o k (content k)) (held w s l i content h o ok.0 st.0) ok.1 st.1 in
      record {
        image = q.image;
        holds = q.holds;
        ends = played_append lock (suc w) (events_of o) (events_of_all os) (half (idle s) i)
            ∙ ap (λ (x : Half). played (powered lock) (suc w) (events_of_all os) x) (one_ended o i ok.0 st.0)
            ∙ q.ends;
      }

  -- each entry counts once
  pub all_count : (os : List Entry) (i : Image) → All Sized os → All (λ o. starts s o ≡ true) os
      → tally (powered lock) (suc w) (as_reply f) (events_of_all os) (half (idle s) i) ≡ length os
  unfolding All events_of_all tally
  all_count [] i ok st = refl
  all_count (o ∷ os) i ok st =
      let j = whole_of (suc w) (cycle_of o) (page_of_cycle o) (with_enable s) i in
      let here : tally (powered lock) (suc w) (as_reply f) (events_of o) (half (idle s) i) ≡ 1 = entry_counts lock (suc w) f c o s i ok.0 st.0 in
      let rest : tally (powered lock) (suc w) (as_reply f) (events_of_all os) (played (powered lock) (suc w) (events_of o) (half (idle s) i)) ≡ length os =
      ap (λ (x : Half). tally (powered lock) (suc w) (as_reply f) (events_of_all os) x) (one_ended o i ok.0 st.0) ∙ all_count os j ok.1 st.1 in
      tally_append f c lock (suc w) (events_of o) (events_of_all os) (half (idle s) i) ∙ ap₂ (λ (x y : ℕ). x + y) here rest ∙ omega arith

-- ---- on the machine

-- what was recorded as sent back is not looked at
step_sent : (x : FlashEvent) (f : Flash) (l : Lines) (watched : ℕ) → step_of f x l watched ≡ step_of f (sent_of x) l watched
step_sent Select f l watched = refl
step_sent (Byte si so) f l watched = refl
step_sent Cut f l watched = refl
step_sent Deselect f l watched = refl
step_sent End f l watched = refl

same_step : (x e : FlashEvent) → sent_of x ≡ sent_of e → (f : Flash) (l : Lines) (watched : ℕ) → step_of f x l watched ≡ step_of f e l watched
same_step x e p f l watched = step_sent x f l watched ∙ ap (λ (y : FlashEvent). step_of f y l watched) p ∙ sym (step_sent e f l watched)

abbrev pub half_of : Machine → Half
half_of m = half m.controls.flash m.images.flash

module _ (b : Board) where
  half_moved : (v : Event) (e : FlashEvent) → SameSent v e → (stamp : ℕ) (m : Machine)
      → half_of (play_on b m (record { stamp = stamp; event = v })) ≡ moved m.controls.lines b.sector (half_of m) e
  unfolding play_on moved_of
  half_moved (event.Flash x) e p stamp m =
      ap (λ (k : FlashStep). half k.chip (flash_after (stroke_of k.reply) b.sector m.controls.flash m.images.flash))
      (same_step x e p m.controls.flash m.controls.lines b.sector)
  half_moved (event.Eeprom x) e p stamp m = absurd p
  half_moved (event.Line x) e p stamp m = absurd p

  lines_kept : (v : Event) (e : FlashEvent) → SameSent v e → (stamp : ℕ) (m : Machine)
      → (play_on b m (record { stamp = stamp; event = v })).controls.lines ≡ m.controls.lines
  unfolding play_on moved_of
  lines_kept (event.Flash x) e p stamp m = refl
  lines_kept (event.Eeprom x) e p stamp m = absurd p
  lines_kept (event.Line x) e p stamp m = absurd p

  pub half_played : (rs : List Record) (es : List FlashEvent) → Bear rs es → (m : Machine)
      → half_of (after (on_machine b) rs m) ≡ played m.controls.lines b.sector es (half_of m)
  unfolding after played Bear
  half_played [] [] t m = refl
  half_played [] (e ∷ es) t m = absurd t
  half_played (r ∷ rs) [] t m = absurd t
  half_played (r ∷ rs) (e ∷ es) t m =
      half_played rs es t.1 (play_on b m r)
      ∙ ap₂ (λ (l : Lines) (h : Half). played l b.sector es h) (lines_kept r.event e t.0 r.stamp m) (half_moved r.event e t.0 r.stamp m)

  module _ (f : Reply → ℕ) (c : Counts f) where
    counted : (v : Event) (e : FlashEvent) → SameSent v e → (stamp : ℕ) (m : Machine) (rest : List Reply)
        → count f (keep (same F ((on_machine b).channel (record { stamp = stamp; event = v }))) (says_on b m (record { stamp = stamp; event = v })) rest)
        ≡ as_reply f (step_of m.controls.flash e m.controls.lines b.sector).reply + count f rest
    unfolding keep count says_on moved_of
    counted (event.Flash x) e p stamp m rest =
        ap (λ (n : ℕ). n + count f rest)
        (any_image f c m.images.flash (step_of m.controls.flash x m.controls.lines b.sector).reply
        ∙ ap (λ (k : FlashStep). as_reply f k.reply) (same_step x e p m.controls.flash m.controls.lines b.sector))
    counted (event.Eeprom x) e p stamp m rest = absurd p
    counted (event.Line x) e p stamp m rest = absurd p

    pub replies_count : (rs : List Record) (es : List FlashEvent) → Bear rs es → (m : Machine)
        → count f (replies (on_machine b) F rs m) ≡ tally m.controls.lines b.sector (as_reply f) es (half_of m)
    unfolding replies tally Bear count
    replies_count [] [] t m = refl
    replies_count [] (e ∷ es) t m = absurd t
    replies_count (r ∷ rs) [] t m = absurd t
    replies_count (r ∷ rs) (e ∷ es) t m =
        counted r.event e t.0 r.stamp m (replies (on_machine b) F rs (play_on b m r))
        ∙ ap (λ (n : ℕ). as_reply f (step_of m.controls.flash e m.controls.lines b.sector).reply + n)
        (replies_count rs es t.1 (play_on b m r)
        ∙ ap₂ (λ (l : Lines) (h : Half). tally l b.sector (as_reply f) es h) (lines_kept r.event e t.0 r.stamp m) (half_moved r.event e t.0 r.stamp m))

-- ---- the claim

-- a status that fits is all kept
pub status_kept : (s : ℕ) → StatusOk s → kept_bits s ≡ s
status_kept s ok = omega (arith, ok.0, ok.1, ok.2)

module _ (status : ℕ) (present wanted list result : List ℕ) (left : Left) (ok : StatusOk status)
    (os : List Entry) (sized : All Sized os) (all_start : All (λ o. starts status o ≡ true) os) (yields : Yields status present wanted os) where
  module _ (b : Board) (w : ℕ) (l : w < flash_sectors) (sector : b.sector ≡ suc w)
      (m : Machine) (begin : m.controls.flash ≡ start_of status) (on : m.controls.lines.supply ≡ true) (shows : Shows w m.images.flash present)
      (rs : List Record) (bear : Bear rs (events_of_all os)) where
    abbrev lock : Bool
    lock = m.controls.lines.lock

    lines : m.controls.lines ≡ powered lock
    lines = λ j. record { supply = on j; lock = lock }

    kept : kept_bits status ≡ status
    kept = status_kept status ok

    first : half_of m ≡ half (idle status) m.images.flash
    first = ap (λ (x : Flash). half x m.images.flash) (begin ∙ ap idle kept)

    leaves : Leaves w (λ k. byte_after_all status os k (get_or present k 0)) status (played (powered lock) (suc w) (events_of_all os) (half (idle status) m.images.flash))
    leaves = all_played lock w status l kept (of_kind 5) starts_count os m.images.flash (λ k. get_or present k 0) (record { fit = shows.fit; cells = shows.cells }) sized all_start

    ran : half_of (after (on_machine b) rs m) ≡ half (idle status) leaves.image
    ran =
        half_played b rs (events_of_all os) bear m
        ∙ ap₂ (λ (x : Lines) (n : ℕ). played x n (events_of_all os) (half_of m)) lines sector
        ∙ ap (λ (h : Half). played (powered lock) (suc w) (events_of_all os) h) first
        ∙ leaves.ends

    shown : Shows w (after (on_machine b) rs m).images.flash wanted
    unfolding Yields
    shown =
        let image : (after (on_machine b) rs m).images.flash ≡ leaves.image = ap (λ (h : Half). h.image) ran in
        record {
          fit = ap (spans flash_sector) image ∙ leaves.holds.fit;
          cells = λ q small.
              ap (λ (i : Image). cell_at i q) image ∙ leaves.holds.cells q small
              ∙ ap sure (yields (flash_sector * w + q) (omega arith));
        }

    counts : (f : Reply → ℕ) → Counts f → count f (replies (on_machine b) F rs m) ≡ length os
    counts f c =
        replies_count b f c rs (events_of_all os) bear m
        ∙ ap₂ (λ (x : Lines) (n : ℕ). tally x n (as_reply f) (events_of_all os) (half_of m)) lines sector
        ∙ ap (λ (h : Half). tally (powered lock) (suc w) (as_reply f) (events_of_all os) h) first
        ∙ all_count lock w status l kept f c os m.images.flash sized all_start

    pub plan_replays : Replayed status present wanted list result left os b m rs
    plan_replays = record {
      start = counts (of_kind 5) starts_count;
      end = counts (of_kind 6) ends_count;
      idle = ap (λ (h : Half). h.chip) ran ∙ ap idle (sym kept);
      shows = λ v h. subst (λ (x : ℕ). Shows x (after (on_machine b) rs m).images.flash wanted) (same v h) shown;
    }
      where
        same : (v : ℕ) → b.sector ≡ suc v → w ≡ v
        same v h = omega arith
