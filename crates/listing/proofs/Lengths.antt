-- No line of a listing is longer than a spelling has room for, so a line that was put together holds just its bytes.
use Prim.Native.Nat.{ℕ, ◌≤◌}
use native.Mathlib.Omega.{arith}
use borrow.Author.Rules.{rules}
use mathlib.Core.Path.{◌≡◌, refl, ap}
use mathlib.Core.Bool.{true}
use mathlib.Core.List.{List}
use lib.Dec.{eqb}
use lib.ListN.{length, length-append}
use borrow.Author.Tests.{eqb-true, leb-true}
use Rattle.law.specs.Choice.{of_both, split}
use Rattle.record.specs.declared.Chip.{Chip}
use Rattle.record.specs.declared.Reply.{Reply}
use Rattle.record.specs.declared.Match.{Match}
use Rattle.field.specs.Decimal.{largest}
use Rattle.field.specs.Hex.{hex_field}
use Rattle.field.specs.Room.{room}
use Rattle.field.proofs.DecimalLaws.{decimal_digit}
use Rattle.field.proofs.SpellingLaws.{digits_count}
use Rattle.listing.specs.Bytes.{is_refusal}
use Rattle.listing.specs.Lines.{heading, byte_text, reply_text, match_text, record_line, settled_line, stop_line, last_line, refused_line}
use Rattle.listing.specs.Pages.{pages_heading, chip_text, page_line}

-- the heading has 23 bytes
pub heading_length : length heading ≡ 23
unfolding heading
heading_length = refl

reply_length : (r : Reply) → length (reply_text r) ≤ 6
unfolding reply_text byte_text hex_field
reply_length r = search rules

match_length : (m : Match) → length (match_text m) ≤ 1
unfolding match_text
match_length m = search rules

module _ (a b : ℕ) (small : a ≤ largest) (little : b ≤ largest) where
  pub record_length : (r : Reply) (m : Match) → length (record_line a b r m) ≤ room
  unfolding record_line
  record_length r m = simp length-append (omega (arith, digits_count a small, digits_count b little, reply_length r, match_length m))

  stop_length : length (stop_line a b) ≤ room
  unfolding stop_line
  stop_length = simp length-append (omega (arith, digits_count a small, digits_count b little))

-- a refusal's number is one digit, so a line and a field of ten digits each just leave it room
refusal_small : (a : ℕ) → is_refusal a ≡ true → a ≤ 5
unfolding is_refusal
refusal_small a t = split (eqb a 0) (λ e. let z = eqb-true a 0 e in omega arith) (λ e. leb-true a 5 (simp e at t))

pub refused_length : (a b c : ℕ) → is_refusal a ≡ true → b ≤ largest → c ≤ largest → length (refused_line a b c) ≤ room
unfolding refused_line
refused_length a b c t little few =
    let s = refusal_small a t in
    simp length-append (omega (arith, ap length (decimal_digit a (omega arith)), digits_count b little, digits_count c few))

settled_length : (a : ℕ) → a ≤ largest → length (settled_line a) ≤ room
unfolding settled_line
settled_length a small = simp length-append (omega (arith, digits_count a small))

pub last_length : (answer stamp count : ℕ) → answer ≤ largest → stamp ≤ largest → count ≤ largest → length (last_line answer stamp count) ≤ room
unfolding last_line
last_length a b c small little few = of_both (λ (w : List ℕ). length w ≤ room) (eqb a 0) (settled_line c) (stop_line a b) (settled_length c few) (stop_length a b small little)

-- ---- the pages' listing
pub pages_heading_length : length pages_heading ≡ 16
unfolding pages_heading
pages_heading_length = refl

chip_length : (chip : Chip) → length (chip_text chip) ≤ 6
chip_length chip = search rules

pub page_length : (chip : Chip) (n stamp : ℕ) → n ≤ largest → stamp ≤ largest → length (page_line chip n stamp) ≤ room
unfolding page_line
page_length chip n stamp small little = simp length-append (omega (arith, chip_length chip, digits_count n small, digits_count stamp little))
