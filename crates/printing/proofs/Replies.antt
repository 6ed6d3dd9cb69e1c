-- The replies that the call leaves, read back: each record that is shown was played, with its reply and its match, and the one behind the last was not.
use Prim.Native.Nat.{ℕ, suc, ◌+◌, ◌*◌, ◌-◌, ◌≤◌}
use native.Mathlib.Omega.{arith}
use borrow.Author.Rules.{rules}
use native.Mathlib.Nat.{add-zero}
use mathlib.Core.Path.{◌≡◌, refl, sym, ap, ap₂, ◌∙◌}
use mathlib.Core.Bool.{Bool, true, false}
use mathlib.Core.List.{List, [], ◌∷◌, ◌++◌, append_assoc}
use lib.ListN.{length, get_or, replicate, length-append}
use lib.Seq.{get_or-append-add}
use Rattle.law.specs.Words.{pick}
use Rattle.meaning.specs.Listing.{said}
use Rattle.record.specs.declared.Board.{Board}
use Rattle.record.specs.declared.Record.{Record}
use Rattle.record.specs.declared.Reply.{Reply}
use Rattle.record.specs.declared.Match.{Match}
use Rattle.record.specs.Replies.{reply_kind}
use Rattle.record.specs.ReplyOf.{reply_of}
use Rattle.record.specs.Lengths.{replies_length}
use Rattle.machine.specs.Replies.{compared}
use Rattle.machine.specs.Machine.{Machine, on_machine, says_on}
use Rattle.call.specs.Play.{reply_line}
use Rattle.call.specs.Replay.{reply_lines, padded}
use Rattle.demands.proofs.Replies.{kind_says}
use Rattle.listing.specs.Bytes.{was_played, reply_at, match_at}
use Rattle.listing.specs.Lines.{record_line}
use Rattle.listing.specs.Writing.{played}
use Rattle.listing.specs.Listing.{record_lines}
use Rattle.listing.proofs.Theorems.{reply_there, match_there}
use Rattle.printing.specs.Printed.{lines_from}

-- ---- one reply
kind_played : (y : Reply) → 1 ≤ reply_kind y → was_played y ≡ true
kind_played y h = search rules

zero_first : (n : ℕ) → ◌≡◌ {A = ℕ} (get_or (replicate n 0) 0 0) 0
zero_first n = search rules

-- behind the last reply there are zeros
behind : (w : List ℕ) (n k : ℕ) → length w ≡ 4 * k → was_played (reply_at (w ++ replicate n 0) k) ≡ false
unfolding reply_at
behind w n k here =
    let l = w ++ replicate n 0 in
    let e : get_or l (4 * k) 0 ≡ 0 = ap (λ (j : ℕ). get_or l j 0) (sym (add-zero (4 * k)) ∙ ap (λ (j : ℕ). j + 0) (sym here)) ∙ get_or-append-add w (replicate n 0) 0 0 ∙ zero_first n in
    ap (λ (kind : ℕ). was_played (reply_of kind (get_or l (4 * k + 1) 0) (get_or l (4 * k + 2) 0))) e

none_played : (w : List ℕ) (n k : ℕ) → length w ≡ 4 * k → (rest : List Record) → played (w ++ replicate n 0) k rest ≡ []
unfolding played
none_played w n k here [] = refl
none_played w n k here (r ∷ rest) = ap (λ (t : Bool). pick t (r ∷ played (w ++ replicate n 0) (suc k) rest) []) (behind w n k here)

-- ---- the replies to the records ps, which are played on s; w stands before them, zeros behind
module _ (b : Board) (n : ℕ) where
  abbrev left : List ℕ → List Record → Machine → List ℕ
  left w ps s = w ++ (reply_lines ps (said (on_machine b) ps s) ++ replicate n 0)

  -- the first of them has its four bytes there, the others behind it
  module _ (w : List ℕ) (k : ℕ) (here : length w ≡ 4 * k) (r : Record) (ps : List Record) (s : Machine) where
    abbrev says : Reply
    says = says_on b s r

    abbrev next : Machine
    next = (on_machine b).play s r

    abbrev more : List ℕ
    more = reply_lines ps (said (on_machine b) ps next) ++ replicate n 0

    first : left w (r ∷ ps) s ≡ w ++ (reply_line r says ++ more)
    unfolding reply_lines said
    first = ap (λ (l : List ℕ). w ++ l) (append_assoc (reply_line r says) (reply_lines ps (said (on_machine b) ps next)) (replicate n 0))

    onward : left w (r ∷ ps) s ≡ left (w ++ reply_line r says) ps next
    onward = first ∙ sym (append_assoc w (reply_line r says) more)

    there : length (w ++ reply_line r says) ≡ 4 * suc k
    there = length-append w (reply_line r says) ∙ omega arith

    reply_is : reply_at (left w (r ∷ ps) s) k ≡ says
    reply_is = ap (λ (l : List ℕ). reply_at l k) first ∙ reply_there w more k says (compared r.event says) here

    match_is : match_at (left w (r ∷ ps) s) k ≡ compared r.event says
    match_is = ap (λ (l : List ℕ). match_at l k) first ∙ match_there w more k says (compared r.event says) here

    was : was_played (reply_at (left w (r ∷ ps) s) k) ≡ true
    was = ap was_played reply_is ∙ kind_played says (kind_says b s r).0

  -- of these records and any that follow exactly these were played
  played_from : (w : List ℕ) (k : ℕ) → length w ≡ 4 * k → (ps rest : List Record) (s : Machine) → played (left w ps s) k (ps ++ rest) ≡ ps
  unfolding played reply_lines said
  played_from w k here [] rest s = none_played w n k here rest
  played_from w k here (r ∷ ps) rest s =
      ap (λ (t : Bool). pick t (r ∷ played (left w (r ∷ ps) s) (suc k) (ps ++ rest)) []) (was w k here r ps s)
      ∙ ap (λ (l : List Record). r ∷ l)
      (ap (λ (l : List ℕ). played l (suc k) (ps ++ rest)) (onward w k here r ps s) ∙ played_from (w ++ reply_line r (says_on b s r)) (suc k) (there w k here r ps s) ps rest ((on_machine b).play s r))

  -- and their lines are those of what was said to them
  lines_from_lem : (w : List ℕ) (k : ℕ) → length w ≡ 4 * k → (ps : List Record) (s : Machine) → record_lines (left w ps s) k ps ≡ lines_from k ps (said (on_machine b) ps s)
  unfolding record_lines lines_from said
  lines_from_lem w k here [] s = refl
  lines_from_lem w k here (r ∷ ps) s =
      ap₂ (λ (y : Reply) (m : Match). record_line (k + 2) r.stamp y m ++ record_lines (left w (r ∷ ps) s) (suc k) ps) (reply_is w k here r ps s) (match_is w k here r ps s)
      ∙ ap (λ (l : List ℕ). record_line (k + 2) r.stamp (says_on b s r) (compared r.event (says_on b s r)) ++ l)
      (ap (λ (l : List ℕ). record_lines l (suc k) ps) (onward w k here r ps s) ∙ lines_from_lem (w ++ reply_line r (says_on b s r)) (suc k) (there w k here r ps s) ps ((on_machine b).play s r))

module _ (b : Board) (ps : List Record) (s : Machine) where
  abbrev zeros : ℕ
  zeros = replies_length - length (reply_lines ps (said (on_machine b) ps s))

  pub played_left : (rest : List Record) → played (padded (reply_lines ps (said (on_machine b) ps s))) 0 (ps ++ rest) ≡ ps
  unfolding padded
  played_left rest = played_from b zeros [] 0 refl ps rest s

  pub lines_left : record_lines (padded (reply_lines ps (said (on_machine b) ps s))) 0 ps ≡ lines_from 0 ps (said (on_machine b) ps s)
  unfolding padded
  lines_left = lines_from_lem b zeros [] 0 refl ps s
