-- What is known of buffers that fit, and that nothing else is asked. Assumes nothing.
use mathlib.Core.Path.{◌≡◌}
use mathlib.Core.Bool.{Bool, true, false}
use mathlib.Core.List.{List}
use Prim.Native.Nat.{ℕ}
use borrow.Author.Tests.{eq-eqb, eqb-true}
use lib.Dec.{eqb}
use lib.ListN.{length}
use Rattle.law.specs.Choice.{both}
use Rattle.law.specs.Words.{pick}
use Rattle.record.specs.declared.Chip.{Chip}
use Rattle.image.specs.Image.{spans}
use Rattle.image.specs.Images.{Images, image_at, every_chip, kept_bytes, Kept, AllClean}
use Rattle.image.proofs.Each.{chip_by_chip, all_chips}
use Rattle.record.specs.Lengths.{replies_length, result_length}
use Rattle.times.specs.Times.{times_length}
use Rattle.buffers.specs.Buffers.{Buffers, is_clear, fit_images, fit}
use Rattle.buffers.proofs.Clear.{clear_clean, clean_clear}

-- every length is right, and in each image no bit is set in both value and mask
pub record FitImages (x : Images) (result : List ℕ) : Type 0 where
  pub kept : Kept x
  pub result_long : length result ≡ result_length
  pub clean : AllClean x

module _ (x : Images) (result : List ℕ) where
  abbrev long : Chip → Bool
  long chip = spans (kept_bytes chip) (image_at chip x)

  abbrev clean_one : Chip → Bool
  clean_one chip = is_clear (image_at chip x)

  pub fit_images_says : fit_images x result ≡ true → FitImages x result
  unfolding fit_images
  fit_images_says e =
      let a = both (every_chip long) (pick (eqb (length result) result_length) (every_chip clean_one) false) e in
      let d = both (eqb (length result) result_length) (every_chip clean_one) a.1 in
      record {
        kept = chip_by_chip long a.0;
        result_long = eqb-true _ _ d.0;
        clean = λ chip. clear_clean (image_at chip x) (chip_by_chip clean_one d.1 chip);
      }

  -- refusal 1 has no other ground
  pub fit_images_only : FitImages x result → fit_images x result ≡ true
  unfolding fit_images
  fit_images_only f = rw (all_chips long f.kept, eq-eqb _ _ f.result_long) (all_chips clean_one (λ chip. clean_clear (image_at chip x) (f.clean chip)))

-- the same of all that a replay is lent
pub record Fit (x : Buffers) : Type 0 where
  pub kept : Kept x.images
  pub times_long : length x.times ≡ times_length
  pub replies_long : length x.replies ≡ replies_length
  pub result_long : length x.result ≡ result_length
  pub clean : AllClean x.images

module _ (x : Buffers) where
  pub fit_says : fit x ≡ true → Fit x
  unfolding fit
  fit_says e =
      let by_replies = pick (eqb (length x.replies) replies_length) (fit_images x.images x.result) false in
      let b = both (eqb (length x.times) times_length) by_replies e in
      let c = both (eqb (length x.replies) replies_length) (fit_images x.images x.result) b.1 in
      let d = fit_images_says x.images x.result c.1 in
      record {
        kept = d.kept;
        times_long = eqb-true _ _ b.0;
        replies_long = eqb-true _ _ c.0;
        result_long = d.result_long;
        clean = d.clean;
      }

  pub fit_only : Fit x → fit x ≡ true
  unfolding fit
  fit_only f =
      rw (eq-eqb _ _ f.times_long, eq-eqb _ _ f.replies_long)
      (fit_images_only x.images x.result (record { kept = f.kept; result_long = f.result_long; clean = f.clean }))
