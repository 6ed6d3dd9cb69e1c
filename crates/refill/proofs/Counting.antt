-- How many replies of an entry's records are `starts`, and how many `ends`: of its frames' none before the last `des`. Assumes nothing.
use Prim.Native.Nat.{ℕ, ◌+◌}
use mathlib.Core.Path.{◌≡◌, refl, ap₂}
use mathlib.Core.Bool.{Bool, true, false}
use mathlib.Core.List.{List, [], ◌∷◌, ◌++◌}
use native.Mathlib.Omega.{arith}
use Rattle.record.specs.declared.FlashEvent.{FlashEvent}
use Rattle.record.specs.declared.FlashEvent.TheVariants.{Deselect, End}
use Rattle.record.specs.declared.Reply.{Reply}
use Rattle.record.specs.declared.Reply.TheVariants as reply
use Rattle.record.specs.declared.Skeleton.{Skeleton}
use Rattle.record.specs.declared.Skeleton.TheVariants as skeleton
use Rattle.flash.specs.declared.Op.TheVariants as op
use Rattle.flash.specs.declared.LockFact.{LockFact}
use Rattle.flash.specs.declared.Sent.{Sent}
use Rattle.std.specs.Prelude.{Some}
use Rattle.flash.specs.Code.{sector_of, sector_locked, enabled}
use Rattle.flash.specs.Frame.{fact_by, next_sent, op_code_sent, page_after}
use Rattle.flash.specs.Cycle.{blank}
use Rattle.image.specs.Image.{Image, image_of}
use Rattle.machine.specs.Effects.{flash_after}
use Rattle.machine.specs.Replies.{delivered}
use Rattle.fewest.specs.Entries.{Entry, sector_erase, chip_erase, program}
use Rattle.fewest.specs.Fewest.{address, first_place}
use Rattle.refill.specs.Records.{bytes_sent, opened, wren, instruction_of}
use Rattle.refill.specs.Refill.{of_kind}
use Rattle.refill.proofs.Halves.{Half, half, moved, played, tally, powered, idle, in_command}

-- what is asked of a way to count: silence counts nothing, a cycle that starts and ends counts one, and a byte that is read counts alike whatever it is
pub record Counts (f : Reply → ℕ) : Type 0 where
  pub silent : f reply.Silent ≡ 0
  pub cycle : f reply.Starts + (f reply.Ends + 0) ≡ 1
  pub bytes : (a b c d : ℕ) → f (reply.Byte a b) ≡ f (reply.Byte c d)

pub starts_count : Counts (of_kind 5)
starts_count = record { silent = refl; cycle = refl; bytes = λ a b c d. refl }

pub ends_count : Counts (of_kind 6)
ends_count = record { silent = refl; cycle = refl; bytes = λ a b c d. refl }

-- so the image from which a reply is delivered does not matter
abbrev pub as_reply : (Reply → ℕ) → Skeleton → ℕ
as_reply f k = f (delivered (image_of [] []) k)

module _ (f : Reply → ℕ) (count : Counts f) where
  pub any_image : (i : Image) (k : Skeleton) → f (delivered i k) ≡ as_reply f k
  unfolding delivered
  any_image i skeleton.Silent = refl
  any_image i (skeleton.Given b) = refl
  any_image i (skeleton.Fetch p) = count.bytes _ _ _ _
  any_image i skeleton.Ack = refl
  any_image i skeleton.NoAck = refl
  any_image i skeleton.Starts = refl
  any_image i skeleton.Ends = refl
  any_image i skeleton.NoCycle = refl

  module _ (lock : Bool) (watched : ℕ) where
    pub tally_append : (xs ys : List FlashEvent) (h : Half)
        → tally (powered lock) watched (as_reply f) (xs ++ ys) h ≡ tally (powered lock) watched (as_reply f) xs h + tally (powered lock) watched (as_reply f) ys (played (powered lock) watched xs h)
    unfolding tally played
    tally_append [] ys h = omega arith
    tally_append (e ∷ xs) ys h = omega (arith, tally_append xs ys (moved (powered lock) watched h e))

    pub wren_quiet : (s : ℕ) (i : Image) → tally (powered lock) watched (as_reply f) wren (half (idle s) i) ≡ 0
    unfolding tally flash_after delivered
    wren_quiet s i = rw count.silent refl

    -- PROGRAM replies nothing to its bytes
    bytes_quiet : (sent : Sent) (fact : LockFact) (s : ℕ) (page : List ℕ) (i : Image) (ds : List ℕ)
        → tally (powered lock) watched (as_reply f) (bytes_sent ds) (half (in_command op.Program sent.count sent.place fact s page) i) ≡ 0
    unfolding tally flash_after delivered
    bytes_quiet sent fact s page i [] = refl
    bytes_quiet sent fact s page i (d ∷ ds) = ap₂ (λ (x y : ℕ). x + y) count.silent (bytes_quiet (next_sent op.Program sent d) fact s (page_after op.Program sent d page) i ds)

    -- an entry's frame up to its `des`
    pub opened_quiet : (o : Entry) (s : ℕ) (i : Image) → tally (powered lock) watched (as_reply f) (opened (instruction_of o)) (half (idle s) i) ≡ 0
    unfolding tally flash_after delivered
    opened_quiet (sector_erase t) s i = rw count.silent refl
    opened_quiet chip_erase s i = rw count.silent refl
    opened_quiet (program n bytes) s i =
        ap₂ (λ (x y : ℕ). x + (x + y)) count.silent (bytes_quiet op_code_sent (fact_by (Some s) lock) s blank i (address (first_place (program n bytes)) ++ bytes))

    -- `des` and `end`
    pub erase_counts : (s p : ℕ) (fact : LockFact) (i : Image) → sector_locked s (sector_of p) ≡ false → enabled s ≡ true
        → tally (powered lock) watched (as_reply f) (Deselect ∷ End ∷ []) (half (in_command op.SectorErase 4 p fact s blank) i) ≡ 1
    unfolding tally delivered
    erase_counts s p fact i u e = rw (u, e) count.cycle

    pub chip_counts : (s p : ℕ) (fact : LockFact) (i : Image) → sector_locked s 1 ≡ false → enabled s ≡ true
        → tally (powered lock) watched (as_reply f) (Deselect ∷ End ∷ []) (half (in_command op.ChipErase 1 p fact s blank) i) ≡ 1
    unfolding tally delivered
    chip_counts s p fact i u e = rw (u, e) count.cycle

    pub program_counts : (s p : ℕ) (fact : LockFact) (page : List ℕ) (i : Image) → sector_locked s (sector_of p) ≡ false → enabled s ≡ true
        → tally (powered lock) watched (as_reply f) (Deselect ∷ End ∷ []) (half (in_command op.Program 5 p fact s page) i) ≡ 1
    unfolding tally delivered
    program_counts s p fact page i u e = rw (u, e) count.cycle
