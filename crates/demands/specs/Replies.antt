-- Believed: Demands 7 and 8, of a text that is taken: each record's reply, and the count.
use Rattle.std.specs.Prelude.{◌≡◌, List, [], ◌∷◌, ◌++◌, ℕ, ◌+◌, ◌*◌, ◌≤◌, eqb, length, take, drop, get_or}
use Rattle.law.specs.Words.{pick}
use Rattle.meaning.specs.Meaning.{after}
use Rattle.record.specs.declared.Board.{Board}
use Rattle.record.specs.declared.Record.{Record}
use Rattle.field.specs.Decimal.{largest}
use Rattle.machine.specs.Machine.{machine_at_start, on_machine, says_on}
use Rattle.buffers.specs.Buffers.{Buffers, result_bytes}
use Rattle.call.specs.Play.{reply_line}
use Rattle.call.specs.Replay.{Ended}

-- of reply bytes, four for each record: how many records have the match 2, their fourth byte
unfoldable pub matches_two : List ℕ → ℕ
matches_two [] = 0
matches_two (k ∷ []) = 0
matches_two (k ∷ (v ∷ [])) = 0
matches_two (k ∷ (v ∷ (m ∷ []))) = 0
matches_two (k ∷ (v ∷ (m ∷ (d ∷ w)))) = pick (eqb d 2) 1 0 + matches_two w

pub record Replies (x : Buffers) (e : Ended) (b : Board) (rs : List Record) : Type 0 where
  -- 7. settled: after the records o before it, at 4 times their number, stands what the machine then says to a record; and its kind is not 0
  pub each_reply : e.answer ≡ 0 → (o : List Record) (r : Record) (more : List Record) → rs ≡ o ++ (r ∷ more) →
      take 4 (drop (4 * length o) e.buffers.replies) ≡ reply_line r (says_on b (after (on_machine b) o (machine_at_start b x.images)) r)
  pub each_played : e.answer ≡ 0 → (o : List Record) (r : Record) (more : List Record) → rs ≡ o ++ (r ∷ more) → 1 ≤ get_or e.buffers.replies (4 * length o) 0
  -- 8. the result holds the answer, a stamp, the number of matches 2 in the replies, counted on their bytes, and no field; four bytes hold the number
  pub count_is : (t : ℕ) × (e.buffers.result ≡ result_bytes e.answer t (matches_two e.buffers.replies) 0)
  pub count_fits : matches_two e.buffers.replies ≤ largest
