-- How many records both texts can give: at most four of each level line behind the first, one of each record of the trace.
use Prim.Native.Nat.{ℕ, ◌+◌, ◌*◌, ◌≤◌}
use native.Mathlib.Omega.{arith}
use mathlib.Core.Path.{ap}
use mathlib.Core.Bool.{Bool, true, false}
use mathlib.Core.List.{List, [], ◌∷◌}
use lib.ListN.{length, length-append, length-map}
use Rattle.law.specs.Words.{filter, keep}
use Rattle.law.specs.Ordering.{total_one}
use Rattle.record.specs.declared.Board.{Board}
use Rattle.record.specs.declared.Record.{Record}
use Rattle.text.specs.Texts.{text_limit, Readable}
use Rattle.text.proofs.Theorems.{few_records}
use Rattle.level.specs.declared.Level.{Level}
use Rattle.level.specs.Spelled.{spelled_level}
use Rattle.level.proofs.Theorems.{level_length}
use Rattle.decode.specs.declared.Out.{Out}
use Rattle.decode.specs.declared.Out.TheVariants.{Nothing, One, Two}
use Rattle.decode.specs.declared.bits.Bits.{Bits}
use Rattle.decode.specs.Bits.{events_of}
use Rattle.decode.specs.Decoded.{turn_of, record_at, records_at, decoded_from, flash_start, wires_start}
use Rattle.capture.specs.Taken.{taken, taken_of}
use Rattle.capture.specs.Captures.{spelled_levels, Captures}
use Rattle.capture.specs.Most.{most}
use Rattle.capture.specs.Merge.{Merged}
use Rattle.capture.proofs.Parts.{merged_total}

two : (o : Out) → length (events_of o) ≤ 2
unfolding events_of
two Nothing = omega arith
two (One e) = omega arith
two (Two d e) = omega arith

decoded_few : (s : Bits) (a : Level) (ls : List Level) → length (decoded_from s a ls) ≤ 2 * length ls
unfolding decoded_from
decoded_few s a [] = omega arith
decoded_few s a (b ∷ ls) =
    let es = events_of (turn_of s a b).out in
    let rest = decoded_from (turn_of s a b).bits b ls in
    omega (arith, length-append (records_at b.stamp es) rest, length-map es (record_at b.stamp), two (turn_of s a b).out, decoded_few (turn_of s a b).bits b ls)

keep_few : {A : Type 0} (t : Bool) (a : A) (l : List A) → length (keep t a l) ≤ 1 + length l
unfolding keep
keep_few true a l = omega arith
keep_few false a l = omega arith

taken_few : (rs : List Record) → length (taken_of rs) ≤ length rs
unfolding filter
taken_few [] = omega arith
taken_few (r ∷ rs) = omega (arith, keep_few (taken r.event) r (taken_of rs), taken_few rs)

lines_bytes : (ls : List Level) → 16 * length ls ≤ length (spelled_levels ls)
unfolding spelled_levels
lines_bytes [] = omega arith
lines_bytes (l ∷ ls) = omega (arith, level_length l, lines_bytes ls, length-append (spelled_level l) (spelled_levels ls))

pub few : {trace levels : List ℕ} {b : Board} {rs ts : List Record} (a : Level) (ls : List Level) (m : List Record) → Readable trace b rs → length trace ≤ text_limit → Captures ts levels (a ∷ ls) → length levels ≤ text_limit →
    Merged (a ∷ ls) rs m → length m ≤ most
few {rs = rs} a ls m q h c k p =
    omega (
      arith,
      merged_total (λ (r : Record). 1) a ls rs m p,
      total_one m,
      total_one (decoded_from flash_start a ls),
      total_one (decoded_from wires_start a ls),
      total_one (taken_of rs),
      decoded_few flash_start a ls,
      decoded_few wires_start a ls,
      taken_few rs,
      few_records q h,
      lines_bytes (a ∷ ls),
      ap length c.is,
    )
