use Rattle.std.proofs.Common.{◌≡◌, ℕ, ◌+◌, ◌-◌, ◌≤◌, refl, sym, ap, ◌∙◌, List, length, take, drop, arith, Bor}
use Rattle.record.specs.declared.Chip.{Chip}
use Rattle.record.specs.declared.Chip.TheVariants.{Flash, Eeprom}
use Rattle.image.specs.Images.{per_chip, kept_bytes}
use Rattle.image.specs.View.{view_place, view_length, Shows}
use Rattle.image.proofs.Shown.{kept_most, view_within, asked_within, view_is}
use Rattle.image.proofs.view.view.Goals as goal

module _ (flash eeprom : Bor (List ℕ)) where
  -- the images' lengths, by image
  long-is : per_chip (length flash.now) (length eeprom.now) ≡ (λ c. length (per_chip flash eeprom c).now)
  long-is = λ i c. each c i where
    each : (c : Chip) → per_chip (length flash.now) (length eeprom.now) c ≡ length (per_chip flash eeprom c).now
    each Flash = refl
    each Eeprom = refl

  module _ (chip : Chip) (number : ℕ) where
    abbrev place : ℕ
    place = view_place (per_chip (length flash.now) (length eeprom.now)) chip number

    abbrev long : ℕ
    long = view_length (per_chip (length flash.now) (length eeprom.now)) chip number

    within : place + long ≤ length (per_chip flash eeprom chip).now
    within = rw long-is (asked_within (λ c. (per_chip flash eeprom c).now) chip number)

    -- the part of the image w from p on, n long
    shows : {w : Chip} → chip ≡ w → {p n : ℕ} → p ≡ place → n ≡ long → {r : Bor (List ℕ)} → r.ref_ptr ≡ ((per_chip flash eeprom w).ref_ptr.0, p + (per_chip flash eeprom w).ref_ptr.1)
        → r.now ≡ take (p + n - p) (drop p (per_chip flash eeprom w).now) → Shows (per_chip flash eeprom) chip number r
    shows is {p} {n} at many lies bytes = record {
      lies = lies ∙ (λ i. ((per_chip flash eeprom (sym is i)).ref_ptr.0, there i + (per_chip flash eeprom (sym is i)).ref_ptr.1));
      bytes = bytes ∙ (λ i. take (much i) (drop (there i) (per_chip flash eeprom (sym is i)).now)) ∙ sym (view_is (λ c. (per_chip flash eeprom c).now) chip number);
    }
      where
        there : p ≡ view_place (λ c. length (per_chip flash eeprom c).now) chip number
        there = at ∙ ap (λ (l : Chip → ℕ). view_place l chip number) long-is

        much : p + n - p ≡ view_length (λ c. length (per_chip flash eeprom c).now) chip number
        much = let m : p + n - p ≡ n = omega arith in m ∙ many ∙ ap (λ (l : Chip → ℕ). view_length l chip number) long-is

pub overflow_add-to : goal.overflow_add-to
overflow_add-to c =
    let s = c.args in
    omega (arith, view_within (per_chip (length s.flash.now) (length s.eeprom.now)) s.chip s.number (kept_bytes s.chip) (λ t. refl), kept_most s.chip, c.view_place-from.ensures, c.view_length.ensures)

pub slice_bounds-result-end : goal.slice_bounds-result-end
slice_bounds-result-end c =
    let s = c.args in
    let e : (per_chip s.flash s.eeprom s.chip).now ≡ s.flash.now = ap (λ (w : Chip). (per_chip s.flash s.eeprom w).now) c.in-Flash.is in
    omega (arith, within s.flash s.eeprom s.chip s.number, ap length e, c.view_place-from.ensures, c.view_length.ensures)

pub slice_bounds-result-end-in-Eeprom : goal.slice_bounds-result-end-in-Eeprom
slice_bounds-result-end-in-Eeprom c =
    let s = c.args in
    let e : (per_chip s.flash s.eeprom s.chip).now ≡ s.eeprom.now = ap (λ (w : Chip). (per_chip s.flash s.eeprom w).now) c.in-Eeprom.is in
    omega (arith, within s.flash s.eeprom s.chip s.number, ap length e, c.view_place-from.ensures, c.view_length.ensures)

pub returns-in-Flash : goal.returns-in-Flash
returns-in-Flash c = shows c.args.flash c.args.eeprom c.args.chip c.args.number c.in-Flash.is c.view_place-from.ensures c.view_length.ensures refl refl

pub returns-in-Eeprom : goal.returns-in-Eeprom
returns-in-Eeprom c = shows c.args.flash c.args.eeprom c.args.chip c.args.number c.in-Eeprom.is c.view_place-from.ensures c.view_length.ensures refl refl
