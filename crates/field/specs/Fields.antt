-- Believed: The fields of a line, and the first bad one (document 02, request 2/12; docs/DECISIONS.md, D67).
use Rattle.std.specs.Prelude.{ℕ, suc, Bool, true, false, List, [], ◌∷◌, eqb, get_or}
use Rattle.law.specs.Words.{pick}
use Rattle.field.specs.Ends.{tab_byte, lf_byte}

-- one byte more in front of the first field
abbrev pub on_first : ℕ → List (List ℕ) → List (List ℕ)
on_first b [] = (b ∷ []) ∷ []
on_first b (w ∷ ws) = (b ∷ w) ∷ ws

-- what tabs part, up to the LF or the text's end: there is always a first field, which may be empty
unfoldable pub fields_of : List ℕ → List (List ℕ)
fields_of [] = [] ∷ []
fields_of (b ∷ l) = pick (eqb b lf_byte) ([] ∷ []) (pick (eqb b tab_byte) ([] ∷ fields_of l) (on_first b (fields_of l)))

abbrev pub first_of : List (List ℕ) → List ℕ
first_of fs = get_or fs 0 []

-- for each place of a line, whether a content is allowed there
abbrev pub Places : Type 0
Places = List (List ℕ → Bool)

-- The number of the first field whose content its place does not allow, where n is the first one's number; a field that has no place is not
-- allowed. Where all that are there are allowed it is one past the last: a field is missing, or the LF.
unfoldable pub first_bad : Places → ℕ → List (List ℕ) → ℕ
first_bad [] n fs = n
first_bad (allowed ∷ places) n [] = n
first_bad (allowed ∷ places) n (w ∷ ws) = pick (allowed w) (first_bad places (suc n) ws) n

-- ---- what a place may allow
unfoldable pub same : List ℕ → List ℕ → Bool
same [] [] = true
same [] (b ∷ v) = false
same (a ∷ u) [] = false
same (a ∷ u) (b ∷ v) = pick (eqb a b) (same u v) false

-- one of some words
unfoldable pub one_of : List (List ℕ) → List ℕ → Bool
one_of [] w = false
one_of (v ∷ vs) w = pick (same w v) true (one_of vs w)

-- the spelling of a number in range: of the number that its digits give
abbrev pub spells : (ℕ → Bool) → (List ℕ → ℕ) → (ℕ → List ℕ) → List ℕ → Bool
spells in_range number spell w = pick (in_range (number w)) (same w (spell (number w))) false
