-- How large the number of a first bad field can be: one past the last place of the longest line.
use Prim.Native.Nat.{ℕ, ◌≤◌}
use native.Mathlib.Omega.{arith}
use mathlib.Core.List.{List, []}
use lib.ListN.{length, drop}
use Rattle.law.specs.Choice.{of_both}
use Rattle.law.specs.Words.{pick}
use Rattle.field.specs.Fields.{fields_of, first_of, Places, same}
use Rattle.field.proofs.FieldLaws.{number_within}
use Rattle.line.specs.Places.{pair_places, data_places, flash_places, eeprom_places, line_places, after_channel, record_places, board_places, first_bad_field, first_bad_of_board}
use Rattle.line.specs.Words.{channel_f, channel_e, channel_l, word_x, word_b}

-- an event and its own fields are three at most
flash_three : (fs : List (List ℕ)) → length (flash_places fs) ≤ 3
flash_three fs = let z = of_both (λ (ps : Places). length ps ≤ 2) (same (first_of fs) word_x) pair_places [] (omega arith) (omega arith) in omega (arith, z)

eeprom_three : (fs : List (List ℕ)) → length (eeprom_places fs) ≤ 3
eeprom_three fs = let z = of_both (λ (ps : Places). length ps ≤ 2) (same (first_of fs) word_b) data_places [] (omega arith) (omega arith) in omega (arith, z)

after_three : (c : List ℕ) (fs : List (List ℕ)) → length (after_channel c fs) ≤ 3
after_three c fs =
    of_both (λ (ps : Places). length ps ≤ 3) (same c channel_f) (flash_places fs) (pick (same c channel_e) (eeprom_places fs) (pick (same c channel_l) line_places [])) (flash_three fs)
    (of_both (λ (ps : Places). length ps ≤ 3) (same c channel_e) (eeprom_places fs) (pick (same c channel_l) line_places []) (eeprom_three fs)
    (of_both (λ (ps : Places). length ps ≤ 3) (same c channel_l) line_places [] (omega arith) (omega arith)))

pub record_field : (l : List ℕ) → (1 ≤ first_bad_field l) × (first_bad_field l ≤ 6)
unfolding first_bad_field
record_field l =
    let fs = fields_of l in
    let z = number_within (record_places fs) 1 fs in
    let a = after_three (first_of (drop 1 fs)) (drop 1 (drop 1 fs)) in
    (z.0, omega (arith, z.1, a))

pub board_field : (l : List ℕ) → (1 ≤ first_bad_of_board l) × (first_bad_of_board l ≤ 5)
unfolding first_bad_of_board
board_field l = number_within board_places 1 (fields_of l)
