-- The count is the number of matches 2: what stands in the result is counted on the reply bytes that stand in the buffer, over all 40,000 (behind the last reply there are zeros).
use mathlib.Core.Path.{◌≡◌, refl, sym, ap, subst, ◌∙◌}
use mathlib.Core.Bool.{Bool, true, false}
use mathlib.Core.List.{List, [], ◌∷◌, ◌++◌}
use Prim.Native.Nat.{ℕ, zero, suc, ◌+◌, ◌-◌, ◌≤◌}
use native.Mathlib.Nat.{zero-add}
use native.Mathlib.Omega.{arith}
use lib.Dec.{eqb, ltb}
use lib.ListN.{length, replicate}
use borrow.Author.Tests.{ltb-false}
use Rattle.law.specs.Words.{pick, keep, filter}
use Rattle.meaning.specs.Listing.{said}
use Rattle.meaning.specs.Meaning as meaning
use Rattle.record.specs.declared.Board.{Board}
use Rattle.record.specs.declared.Record.{Record}
use Rattle.record.specs.declared.Reply.{Reply}
use Rattle.record.specs.declared.Match.{Match}
use Rattle.record.specs.declared.Match.TheVariants.{Nothing, Agrees, Disagrees}
use Rattle.record.specs.Replies.{match_number}
use Rattle.machine.specs.Replies.{compared}
use Rattle.machine.specs.Machine.{Machine, machine_at_start, on_machine}
use Rattle.text.specs.Texts.{text_limit, Readable}
use Rattle.text.proofs.Theorems.{few_records}
use Rattle.record.specs.Lengths.{replies_length}
use Rattle.buffers.specs.Buffers.{Buffers, fit, result_bytes}
use Rattle.call.specs.Play.{twos}
use Rattle.call.specs.Replay.{Ended, reply_lines, count_twos, padded, Replays}
use Rattle.call.proofs.Playing.{two_most}
use Rattle.demands.specs.Replies.{matches_two}
use Rattle.demands.specs.Lines.{number_of, stamp_of, records_of, left_by}
use Rattle.demands.proofs.Shown.{call_left}

-- ---- counted on the replies as on their bytes
match_two : (m : Match) → pick (eqb (match_number m) 2) 1 0 ≡ twos m
match_two Nothing = refl
match_two Agrees = refl
match_two Disagrees = refl

zeros_two : (n : ℕ) → matches_two (replicate n 0) ≡ 0
unfolding matches_two
zeros_two zero = refl
zeros_two (suc zero) = refl
zeros_two (suc (suc zero)) = refl
zeros_two (suc (suc (suc zero))) = refl
zeros_two (suc (suc (suc (suc n)))) = zero-add (matches_two (replicate n 0)) ∙ zeros_two n

lines_two : (ps : List Record) (ys : List Reply) (n : ℕ) → matches_two (reply_lines ps ys ++ replicate n 0) ≡ count_twos ps ys
unfolding matches_two reply_lines count_twos
lines_two [] ys n = zeros_two n
lines_two (r ∷ ps) [] n = zeros_two n
lines_two (r ∷ ps) (y ∷ ys) n = rw (match_two (compared r.event y)) (ap (λ (k : ℕ). twos (compared r.event y) + k) (lines_two ps ys n))

padded_two : (ps : List Record) (ys : List Reply) → count_twos ps ys ≡ matches_two (padded (reply_lines ps ys))
unfolding padded
padded_two ps ys = sym (lines_two ps ys (replies_length - length (reply_lines ps ys)))

-- ---- a count has room in its four bytes
pub count_most : (ps : List Record) (ys : List Reply) → count_twos ps ys ≤ length ps
unfolding count_twos
count_most [] ys = omega arith
count_most (r ∷ ps) [] = omega arith
count_most (r ∷ ps) (y ∷ ys) = omega (arith, two_most (compared r.event y), count_most ps ys)

keep_most : (t : Bool) (r : Record) (l : List Record) (n : ℕ) → length l ≤ n → length (keep t r l) ≤ suc n
unfolding keep
keep_most true r l n h = omega arith
keep_most false r l n h = omega arith

filter_most : (q : Record → Bool) (l : List Record) → length (filter q l) ≤ length l
unfolding filter
filter_most q [] = omega arith
filter_most q (r ∷ l) = keep_most (q r) r (filter q l) (length l) (filter_most q l)

records_most : (b : Board) (z : meaning.Answer Machine Reply) (rs : List Record) → length (records_of b z rs) ≤ length rs
records_most b (meaning.settled v) rs = omega arith
records_most b (meaning.stopped n t v) rs = filter_most _ rs

-- ---- the call
left_count : (b : Board) (n t : ℕ) (ps : List Record) (m : Machine) → (left_by b n t ps m).buffers.result ≡ result_bytes (left_by b n t ps m).answer t (matches_two (left_by b n t ps m).buffers.replies) 0
unfolding left_by
left_count b n t ps m = ap (λ (c : ℕ). result_bytes n t c 0) (padded_two ps (said (on_machine b) ps m))

left_small : (b : Board) (n t : ℕ) (ps : List Record) (m : Machine) → matches_two (left_by b n t ps m).buffers.replies ≤ length ps
unfolding left_by
left_small b n t ps m = rw (← padded_two ps (said (on_machine b) ps m)) (count_most ps (said (on_machine b) ps m))

module _ {text : List ℕ} {x : Buffers} {e : Ended} {b : Board} {rs : List Record} (p : Replays text x e) (f : fit x ≡ true) (l : ltb text_limit (length text) ≡ false) (q : Readable text b rs) where
  -- the result holds the answer, a stamp, the number of matches 2 in the replies, and no field
  pub count_is : (t : ℕ) × (e.buffers.result ≡ result_bytes e.answer t (matches_two e.buffers.replies) 0)
  count_is =
      let z = call_left p f l q in (
        stamp_of z.0,
        subst (λ (w : Ended). w.buffers.result ≡ result_bytes w.answer (stamp_of z.0) (matches_two w.buffers.replies) 0) (sym z.2)
            (left_count b (number_of z.0) (stamp_of z.0) (records_of b z.0 rs) (machine_at_start b x.images)),
      )

  -- which its four bytes hold
  pub count_fits : matches_two e.buffers.replies ≤ 9360
  count_fits =
      let z = call_left p f l q in
      rw z.2 (omega (arith, left_small b (number_of z.0) (stamp_of z.0) (records_of b z.0 rs) (machine_at_start b x.images), records_most b z.0 rs, few_records q (ltb-false _ _ l)))
