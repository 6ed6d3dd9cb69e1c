-- What is lent for the dumps is what `LentFor` asks: their images where all are taken, and else what does not fit.
use Prim.Native.Nat.{ℕ, ◌<◌}
use native.Mathlib.Omega.{arith}
use borrow.Author.Rules.{rules}
use mathlib.Core.Path.{◌≡◌, refl, sym, ap, subst, ◌∙◌}
use mathlib.Core.Bool.{Bool, true}
use Rattle.std.specs.Prelude.{Some, None}
use mathlib.Core.List.{List, []}
use lib.Bits.{bit_and, and_zero_l, and_zero_r}
use lib.Dec.{eqb}
use lib.ListN.{length, get_or, replicate, length-replicate}
use borrow.Author.Tests.{eqb-true}
use Rattle.law.specs.Words.{pick}
use Rattle.law.specs.Choice.{split, true_not_false}
use Rattle.cell.specs.Rules.{Disjoint}
use Rattle.record.specs.declared.Chip.{Chip}
use Rattle.record.specs.declared.Chip.TheVariants.{Flash, Eeprom}
use Rattle.record.specs.Lengths.{replies_length, result_length}
use Rattle.times.specs.Times.{times_length}
use Rattle.image.specs.Image.{Image, image_of, spans, Clean}
use Rattle.image.specs.Images.{images_of, kept_bytes, image_at}
use Rattle.image.proofs.Each.{chip_by_chip, all_chips}
use Rattle.image.proofs.Fitting.{lengths_span, spans_values}
use Rattle.buffers.specs.Buffers.{Buffers, buffers_of, fit}
use Rattle.buffers.proofs.Fit.{fit_says, fit_only}
use Rattle.call.specs.Replay.{Ended, Replays}
use Rattle.printing.specs.Printed.{Dump, Dumps, dump_at, unknown, image_from, images_from, taken, all_taken}
use Rattle.printing.specs.Lending.{lent_for, LentFor, LeftFor}
use Rattle.demands.proofs.Disjoint.{zeros_at}

-- ---- one chip, of which n bytes are kept
module _ (n : ℕ) where
  abbrev blank : Image
  blank = image_of (replicate n 0) (replicate n 255)

  abbrev from_dump : Dump → Image
  from_dump (Some bytes) = image_of bytes (replicate n 0)
  from_dump None = blank

  abbrev right : Dump → Bool
  right (Some bytes) = eqb (length bytes) n
  right None = true

blank_clean : (n : ℕ) → Clean (image_of (replicate n 0) (replicate n 255))
unfolding Clean Disjoint
blank_clean n k = ap (λ (v : ℕ). bit_and v (get_or (replicate n 255) k 0)) (zeros_at n k) ∙ and_zero_l (get_or (replicate n 255) k 0)

sure_clean : (n : ℕ) (dump : List ℕ) → Clean (image_of dump (replicate n 0))
unfolding Clean Disjoint
sure_clean n dump k = ap (bit_and (get_or dump k 0)) (zeros_at n k) ∙ and_zero_r (get_or dump k 0)

from_clean : (n : ℕ) (dump : Dump) → Clean (from_dump n dump)
from_clean n dump = search (sure_clean, blank_clean, rules)

from_spans : (n : ℕ) (dump : Dump) → right n dump ≡ true → spans n (from_dump n dump) ≡ true
from_spans n (Some bytes) e = lengths_span (image_of bytes (replicate n 0)) n (eqb-true _ _ e) (length-replicate n 0)
from_spans n None e = lengths_span (blank n) n (length-replicate n 0) (length-replicate n 255)

-- a dump is lent by whether it has the chip's length
lent_by : (n : ℕ) (bytes : List ℕ) {t : Bool} → eqb (length bytes) n ≡ t → lent_for (Some bytes) (blank n) ≡ pick t (image_of bytes (replicate n 0)) (image_of [] (replicate n 255))
unfolding lent_for
lent_by n bytes e = simp (length-replicate {A = ℕ}, e)

-- one that is taken is lent as its image
lent_image : (n : ℕ) (dump : Dump) → right n dump ≡ true → lent_for dump (blank n) ≡ from_dump n dump
unfolding lent_for
lent_image n (Some bytes) e = lent_by n bytes e
lent_image n None e = refl

-- and only one that is taken has the chip's length
lent_right : (n : ℕ) → 0 < n → (dump : Dump) → spans n (lent_for dump (blank n)) ≡ true → right n dump ≡ true
lent_right n h (Some bytes) e =
    split (eqb (length bytes) n) (λ t. t)
    (λ t. let s : spans n (image_of [] (replicate n 255)) ≡ true = subst (λ (i : Image). spans n i ≡ true) (lent_by n bytes t) e in absurd (omega (arith, spans_values (image_of [] (replicate n 255)) n s)))
lent_right n h None e = refl

some_kept : (chip : Chip) → 0 < kept_bytes chip
some_kept chip = search rules

-- ---- both
module _ (d : Dumps) (x : Buffers) (lent : (chip : Chip) → image_at chip x.images ≡ lent_for (dump_at chip d) (unknown chip))
    (times : length x.times ≡ times_length) (replies : length x.replies ≡ replies_length) (result : length x.result ≡ result_length) where
  taken_one : fit x ≡ true → (chip : Chip) → taken chip (dump_at chip d) ≡ true
  taken_one f chip =
      lent_right (kept_bytes chip) (some_kept chip) (dump_at chip d) (subst (λ (i : Image). spans (kept_bytes chip) i ≡ true) (lent chip) ((fit_says x f).kept chip))

  module _ (all : all_taken d ≡ true) where
    each : (chip : Chip) → taken chip (dump_at chip d) ≡ true
    unfolding all_taken
    each = chip_by_chip (λ chip. taken chip (dump_at chip d)) all

    image_is : (chip : Chip) → image_at chip x.images ≡ image_from chip (dump_at chip d)
    image_is chip = lent chip ∙ lent_image (kept_bytes chip) (dump_at chip d) (each chip)

    fits : fit x ≡ true
    fits =
        fit_only x (record {
          kept = λ chip. subst (λ (i : Image). spans (kept_bytes chip) i ≡ true) (sym (image_is chip)) (from_spans (kept_bytes chip) (dump_at chip d) (each chip));
          times_long = times;
          replies_long = replies;
          result_long = result;
          clean = λ chip. subst Clean (sym (image_is chip)) (from_clean (kept_bytes chip) (dump_at chip d));
        })

    images_are : x.images ≡ images_from d
    images_are i = record { flash = image_is Flash i; eeprom = image_is Eeprom i }

  pub lent_for_lem : LentFor d x
  unfolding all_taken
  lent_for_lem = record {
    taken = λ t. (fits t, images_are t);
    not_taken = λ t. split (fit x) (λ f. absurd (true_not_false (sym (all_chips (λ chip. taken chip (dump_at chip d)) (taken_one f)) ∙ t))) (λ f. f);
    times = times;
    replies = replies;
    result = result;
  }

-- the same by the parts that are lent, chip by chip
module _ (d : Dumps) (fv fm ev em times replies result : List ℕ) (flash : image_of fv fm ≡ lent_for d.flash (unknown Flash)) (eeprom : image_of ev em ≡ lent_for d.eeprom (unknown Eeprom)) where
  by_chip_lem : (chip : Chip) → image_at chip (images_of fv fm ev em) ≡ lent_for (dump_at chip d) (unknown chip)
  by_chip_lem Flash = flash
  by_chip_lem Eeprom = eeprom

  pub lent_parts : length times ≡ times_length → length replies ≡ replies_length → length result ≡ result_length → LentFor d (buffers_of fv fm ev em times replies result)
  lent_parts t r l = lent_for_lem d (buffers_of fv fm ev em times replies result) by_chip_lem t r l

-- and what the call leaves of them
pub left_for : {text : List ℕ} {d : Dumps} {x : Buffers} {e : Ended} → LentFor d x → Replays text x e → LeftFor text d e.buffers.times e.buffers.replies e.buffers.result
left_for {x = x} {e = e} l p = record { lent = x; ended = e; is_lent = l; is_ended = p; times_are = refl; replies_are = refl; result_is = refl }
