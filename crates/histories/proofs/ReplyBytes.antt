-- A record's kind, value and mask stand at 4 times its place: of records as written, and behind them zeros.
use mathlib.Core.Path.{◌≡◌, refl, ap, ◌∙◌}
use mathlib.Core.List.{List, [], ◌∷◌, ◌++◌}
use Prim.Native.Nat.{ℕ, zero, suc, ◌+◌, ◌-◌, ◌*◌, ◌<◌}
use native.Mathlib.Omega.{arith}
use lib.ListN.{length, get_or, replicate}
use Rattle.meaning.specs.Listing.{said}
use Rattle.record.specs.declared.Board.{Board}
use Rattle.record.specs.declared.Record.{Record}
use Rattle.record.specs.declared.Reply.{Reply}
use Rattle.record.specs.declared.Reply.TheVariants.{NotPlayed}
use Rattle.record.specs.Replies.{reply_kind, reply_value, reply_mask}
use Rattle.record.specs.Lengths.{replies_length}
use Rattle.machine.specs.Machine.{Machine, on_machine, play_on, says_on}
use Rattle.call.specs.Play.{reply_line}
use Rattle.call.specs.Replay.{reply_lines, padded}
use Rattle.demands.proofs.Disjoint.{zeros_at}

-- the first three of a reply's bytes
abbrev told : Reply → List ℕ
told y = reply_kind y ∷ reply_value y ∷ reply_mask y ∷ []

first_three : (r : Record) (y : Reply) (w : List ℕ) (i : ℕ) → i < 3 → get_or (reply_line r y ++ w) i 0 ≡ get_or (told y) i 0
first_three r y w zero l = refl
first_three r y w (suc zero) l = refl
first_three r y w (suc (suc zero)) l = refl
first_three r y w (suc (suc (suc i))) l = absurd (omega arith)

not_played : (i : ℕ) → i < 3 → 0 ≡ get_or (told NotPlayed) i 0
not_played zero l = refl
not_played (suc zero) l = refl
not_played (suc (suc zero)) l = refl
not_played (suc (suc (suc i))) l = absurd (omega arith)

module _ (b : Board) where
  three_at : (ps : List Record) (m : Machine) (z n i : ℕ) → i < 3 →
      get_or (reply_lines ps (said (on_machine b) ps m) ++ replicate z 0) (4 * n + i) 0 ≡ get_or (told (get_or (said (on_machine b) ps m) n NotPlayed)) i 0
  unfolding reply_lines said
  three_at [] m z n i l = zeros_at z (4 * n + i) ∙ not_played i l
  three_at (r ∷ ps) m z zero i l =
      let here : 4 * 0 + i ≡ i = omega arith in
      ap (λ (k : ℕ). get_or (reply_lines (r ∷ ps) (said (on_machine b) (r ∷ ps) m) ++ replicate z 0) k 0) here
      ∙ first_three r (says_on b m r) (reply_lines ps (said (on_machine b) ps (play_on b m r)) ++ replicate z 0) i l
  three_at (r ∷ ps) m z (suc n) i l =
      let four : 4 * suc n + i ≡ suc (suc (suc (suc (4 * n + i)))) = omega arith in
      rw four (three_at ps (play_on b m r) z n i l)

  module _ (ps : List Record) (m : Machine) (n : ℕ) where
    abbrev bytes : List ℕ
    bytes = padded (reply_lines ps (said (on_machine b) ps m))

    abbrev reply : Reply
    reply = get_or (said (on_machine b) ps m) n NotPlayed

    part_at : (i : ℕ) → i < 3 → get_or bytes (4 * n + i) 0 ≡ get_or (told reply) i 0
    unfolding padded
    part_at i l = three_at ps m (replies_length - length (reply_lines ps (said (on_machine b) ps m))) n i l

    pub kind_at : get_or bytes (4 * n) 0 ≡ reply_kind reply
    kind_at = let z : 4 * n ≡ 4 * n + 0 = omega arith in ap (λ (k : ℕ). get_or bytes k 0) z ∙ part_at 0 (omega arith)

    pub value_at : get_or bytes (4 * n + 1) 0 ≡ reply_value reply
    value_at = part_at 1 (omega arith)

    pub mask_at : get_or bytes (4 * n + 2) 0 ≡ reply_mask reply
    mask_at = part_at 2 (omega arith)
