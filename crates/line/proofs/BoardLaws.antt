-- The board's line.
use Prim.Native.Nat.{ℕ, ◌/◌, ◌%◌, ◌<◌}
use native.Mathlib.Omega.{arith}
use mathlib.Core.Path.{◌≡◌, refl, sym, ap, subst, ◌∙◌}
use mathlib.Core.Bool.{true, false}
use mathlib.Core.List.{List, [], ◌∷◌, ◌++◌}
use lib.Dec.{eqb}
use lib.ListN.{drop}
use borrow.Author.Tests.{eq-eqb, eqb-true}
use Rattle.law.specs.Choice.{split, both}
use Rattle.law.specs.Words.{pick}
use Rattle.record.specs.declared.Board.{Board}
use Rattle.record.specs.Status.{StatusOk}
use Rattle.field.specs.Decimal.{decimal}
use Rattle.field.specs.Ends.{tab, lf}
use Rattle.field.specs.Fields.{one_of, same}
use Rattle.field.specs.Read.{Read, got, bad_field}
use Rattle.field.specs.Readers.{content_at, ends_here, end_number}
use Rattle.field.specs.Hex.{hex_field}
use Rattle.field.specs.Digit.{digit_field, DigitOk}
use Rattle.field.specs.Reads.{Reads}
use Rattle.field.specs.Spelling.{no_bytes, put_all}
use Rattle.field.proofs.Reading.{Got, none, one}
use Rattle.field.proofs.Answers.{both_same, No, GotWord, NoWord}
use Rattle.field.proofs.DecimalLaws.{decimal_digit}
use Rattle.field.proofs.DigitLaws.{tests_digit}
use Rattle.field.proofs.FieldLaws.{plain_of, Tests}
use Rattle.field.proofs.HexLaws.{tests_byte}
use Rattle.field.proofs.Sequence.{Begins, reads_as, bad_content, tab_refused, tab_then, none_allowed, kind_begins, one_value, not_word, word_begins, one_of_lem, none_of}
use Rattle.line.specs.Boards.{spelled_places, spelled_board, BoardOk, ReadsBoard}
use Rattle.line.specs.Places.{is_board, is_status, after_status, bad_from, first_bad_of_board}
use Rattle.line.specs.Readers.{ReadsStatus, board_with, ReadsPlaces}
use Rattle.line.specs.Words.{word_board}
use Rattle.line.proofs.Put.{put_on}
use Rattle.line.proofs.Two.{two_1, two_2, two_3, two_4, two_all}

-- ---- the status
-- the test of the content allows just the statuses in range
pub tests_status : Tests is_status hex_field StatusOk
unfolding is_status
tests_status = tests_byte (λ n. pick (eqb (n % 4) 0) (eqb (n / 16 % 8) 0) false) StatusOk
    (λ x o. (o.0, simp (eq-eqb (x % 4) 0 o.1, eq-eqb (x / 16 % 8) 0 o.2)))
    (λ x o e. let z = both (eqb (x % 4) 0) (eqb (x / 16 % 8) 0) e in (o, eqb-true (x % 4) 0 z.0, eqb-true (x / 16 % 8) 0 z.1))

module _ {text : List ℕ} {at : ℕ} where
  pub status_1 : No hex_field (λ n. n < 256) text at → ReadsStatus text at (bad_field 2)
  status_1 n = none (λ x o s. n x o.0 s)

  pub status_2 : {x p : ℕ} → Got hex_field (λ n. n < 256) text at x p → (StatusOk x → ⊥) → ReadsStatus text at (bad_field 2)
  status_2 g n = none (λ y o s. n (subst StatusOk (sym (g.only y o.0 s)) o))

  pub status_3 : {x p : ℕ} → Got hex_field (λ n. n < 256) text at x p → StatusOk x → ReadsStatus text at (got x p)
  status_3 {x} {p} g a = one x p a g.stands g.next (λ y o s. g.only y o.0 s)

-- ---- sector and address
places_parts : (y : ℕ × ℕ) → spelled_places y ≡ digit_field y.0 ++ (tab ++ (digit_field y.1 ++ lf))
unfolding spelled_places
places_parts y = refl

module _ (status : ℕ) {text : List ℕ} {at : ℕ} where
  pub places_1 : No digit_field (DigitOk 1 4) text at → ReadsPlaces status text at (bad_field 3)
  places_1 = two_1 bad_field (tests_digit 1 4) (tests_digit 0 7) 3 (λ y. y.0) (λ y. y.1) places_parts (λ y o. o.0) (λ y o. o.1)

  module _ {x p : ℕ} (a : Got digit_field (DigitOk 1 4) text at x p) where
    pub places_2 : NoWord tab text p → ReadsPlaces status text at (bad_field (end_number 3 text p))
    places_2 = two_2 bad_field (tests_digit 1 4) (tests_digit 0 7) 3 (λ y. y.0) (λ y. y.1) places_parts (λ y o. o.0) (λ y o. o.1) a

    module _ {q : ℕ} (h : GotWord tab text p q) where
      pub places_3 : No digit_field (DigitOk 0 7) text q → ReadsPlaces status text at (bad_field 4)
      places_3 = two_3 bad_field (tests_digit 1 4) (tests_digit 0 7) 3 (λ y. y.0) (λ y. y.1) places_parts (λ y o. o.0) (λ y o. o.1) a h

      module _ {z s : ℕ} (b : Got digit_field (DigitOk 0 7) text q z s) where
        pub places_4 : NoWord lf text s → ReadsPlaces status text at (bad_field (end_number 4 text s))
        places_4 = two_4 bad_field (tests_digit 1 4) (tests_digit 0 7) 3 (λ y. y.0) (λ y. y.1) places_parts (λ y o. o.0) (λ y o. o.1) a h b

        pub places_all : {v : ℕ} → GotWord lf text s v → ReadsPlaces status text at (got (record { status = status; sector = x; address = z }) v)
        places_all m = two_all bad_field (tests_digit 1 4) (tests_digit 0 7) 3 (λ y. y.0) (λ y. y.1) places_parts (λ y o. o.0) (λ y o. o.1) a h b m (x, z) (a.ok, b.ok) refl refl (λ y o e f. both_same e f)

-- ---- the line
abbrev places : Board → ℕ × ℕ
places b = (b.sector, b.address)

abbrev from_status : Board → List ℕ
from_status b = hex_field b.status ++ (tab ++ spelled_places (places b))

board_parts : (b : Board) → spelled_board b ≡ word_board ++ (tab ++ from_status b)
unfolding spelled_board
board_parts b = refl

board_allowed : is_board word_board ≡ true
unfolding is_board one_of same
board_allowed = refl

board_longer : (b : ℕ) (u : List ℕ) → is_board (word_board ++ (b ∷ u)) ≡ false
unfolding is_board one_of same
board_longer b u = refl

module _ {text : List ℕ} {at : ℕ} where
  pub board_1 : NoWord word_board text at → ReadsBoard text at (bad_field 1)
  unfolding first_bad_of_board is_board
  board_1 m =
      bad_content bad_field is_board (λ _ _. is_status ∷ after_status) 1 (λ _. word_board) (λ b. tab ++ from_status b) board_parts (λ y o. plain_of word_board refl) (λ y o. board_allowed) (λ y l. refl)
      (split (is_board (content_at text at)) (λ e. absurd (one_of_lem word_board _ _ e (not_word m) (none_of _))) (λ e. e))

  module _ {p : ℕ} (g : GotWord word_board text at p) where
    begins : Begins is_board word_board text at p
    begins = word_begins (plain_of word_board refl) board_allowed board_longer g

    pub board_2 : NoWord tab text p → ReadsBoard text at (bad_field (end_number 1 text p))
    unfolding first_bad_of_board
    board_2 m = tab_refused bad_field is_board (λ _ _. is_status ∷ after_status) 1 (λ _. word_board) (λ b. tab ++ from_status b) board_parts (λ y o. plain_of word_board refl) (λ y o. board_allowed) (λ y l. refl) begins from_status (λ y o. refl) m

    module _ {q : ℕ} (h : GotWord tab text p q) where
      on : {r : Read Board} → Reads from_status (λ b. BoardOk b × (word_board ≡ word_board)) got (bad_field (bad_from (λ _. is_status ∷ after_status) 2 (drop q text))) text q r → ReadsBoard text at r
      unfolding first_bad_of_board
      on d = tab_then bad_field is_board (λ _ _. is_status ∷ after_status) 1 (λ _. word_board) (λ b. tab ++ from_status b) board_parts (λ y o. plain_of word_board refl) (λ y o. board_allowed) (λ y l. refl) begins from_status (λ y o. refl) h d

      pub board_3 : No hex_field StatusOk text q → ReadsBoard text at (bad_field 2)
      board_3 m =
          on (bad_content bad_field is_status (λ _ _. after_status) 2 (λ b. hex_field b.status) (λ b. tab ++ spelled_places (places b)) (λ y. refl) (λ y o. tests_status.plain y.status o.0.0) (λ y o. tests_status.yes y.status o.0.0) (λ y l. refl)
          (none_allowed tests_status m))

      module _ {x s : ℕ} (a : Got hex_field StatusOk text q x s) where
        pub board_4 : NoWord tab text s → ReadsBoard text at (bad_field (end_number 2 text s))
        board_4 m =
            on (tab_refused bad_field is_status (λ _ _. after_status) 2 (λ b. hex_field b.status) (λ b. tab ++ spelled_places (places b)) (λ y. refl) (λ y o. tests_status.plain y.status o.0.0) (λ y o. tests_status.yes y.status o.0.0) (λ y l. refl)
            (kind_begins tests_status a) (λ b. spelled_places (places b)) (λ y o. refl) m)

        pub board_all : {v : ℕ} {r : Read Board} → GotWord tab text s v → ReadsPlaces x text v r → ReadsBoard text at r
        board_all h d =
            on (tab_then bad_field is_status (λ _ _. after_status) 2 (λ b. hex_field b.status) (λ b. tab ++ spelled_places (places b)) (λ y. refl) (λ y o. tests_status.plain y.status o.0.0) (λ y o. tests_status.yes y.status o.0.0) (λ y l. refl)
            (kind_begins tests_status a) (λ b. spelled_places (places b)) (λ y o. refl) h
            (reads_as (board_with x) (λ b o. (places b, o.0.0.1, λ i. record { status = sym (one_value tests_status a ((kind_begins tests_status a).closes (ap ends_here h.stands.is)) b.status o.0.0.0 o.1) i; sector = b.sector; address = b.address }))
            (λ y o. (((a.ok, o), refl), refl)) (λ y. refl) d))

-- ---- a board's line is put
pub put_from_nothing : (b : Board) {s s1 s2 s3 s4 s5 s6 r : List ℕ} → BoardOk b → s ≡ no_bytes → s1 ≡ put_all s (98 ∷ 111 ∷ 97 ∷ 114 ∷ 100 ∷ 9 ∷ []) → s2 ≡ put_all s1 (hex_field b.status) → s3 ≡ put_all s2 (9 ∷ [])
    → s4 ≡ put_all s3 (decimal b.sector) → s5 ≡ put_all s4 (9 ∷ []) → s6 ≡ put_all s5 (decimal b.address) → r ≡ put_all s6 (10 ∷ []) → r ≡ put_all no_bytes (spelled_board b)
unfolding spelled_board spelled_places digit_field
put_from_nothing b {s} {s1} {s2} {s3} {s4} {s5} {s6} o e e1 e2 e3 e4 e5 e6 e7 =
    put_on s (98 ∷ 111 ∷ 97 ∷ 114 ∷ 100 ∷ 9 ∷ []) (hex_field b.status ++ (9 ∷ spelled_places (places b))) e1
    (put_on s1 (hex_field b.status) (9 ∷ spelled_places (places b)) e2
    (put_on s2 (9 ∷ []) (spelled_places (places b)) e3
    (put_on s3 (digit_field b.sector) (9 ∷ (digit_field b.address ++ (10 ∷ []))) (e4 ∙ ap (λ (w : List ℕ). put_all s3 w) (decimal_digit b.sector (omega arith)))
    (put_on s4 (9 ∷ []) (digit_field b.address ++ (10 ∷ [])) e5
    (put_on s5 (digit_field b.address) (10 ∷ []) (e6 ∙ ap (λ (w : List ℕ). put_all s5 w) (decimal_digit b.address (omega arith))) e7)))))
    ∙ ap (λ (k : List ℕ). put_all k (spelled_board b)) e
