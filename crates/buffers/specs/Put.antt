-- What putting one reply leaves.
use Rattle.std.specs.Prelude.{ℕ, ◌*◌, List, eqb, ltb, length}
use Rattle.std.proofs.lemmas.List.Edits.{sets}
use Rattle.law.specs.Words.{pick}
use Rattle.record.specs.Lengths.{replies_length, reply_places}

-- the four bytes of record `number`, counted from 0, put at their place; one that has no place, and replies of another length, change nothing
unfoldable pub replies_with : ℕ → List ℕ → List ℕ → List ℕ
replies_with number four old =
    pick (ltb number reply_places) (pick (eqb (length old) replies_length) (sets old (4 * number) four) old) old
