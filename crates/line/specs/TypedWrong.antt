-- Believed: Lines that are typed wrong, each from its start to the text's end, with the number of its first bad field (document 02, request 2/12).
use Rattle.std.specs.Prelude.{ℕ, List, [], ◌∷◌}

-- Lines of a record: the examples that the request was decided by (docs/DECISIONS.md, D67), and some more. Blanks stand for tabs, and an LF ends the line where nothing else is said.
abbrev pub typed_wrong : List (List ℕ × ℕ)
typed_wrong =
    -- an empty line
    (10 ∷ [], 1)
    -- 10
    ∷ (49 ∷ 48 ∷ 10 ∷ [], 2)
    -- 10 F x 05
    ∷ (49 ∷ 48 ∷ 9 ∷ 70 ∷ 9 ∷ 120 ∷ 9 ∷ 48 ∷ 53 ∷ 10 ∷ [], 5)
    -- 10 F sel 7
    ∷ (49 ∷ 48 ∷ 9 ∷ 70 ∷ 9 ∷ 115 ∷ 101 ∷ 108 ∷ 9 ∷ 55 ∷ 10 ∷ [], 4)
    -- 10 F sel without LF
    ∷ (49 ∷ 48 ∷ 9 ∷ 70 ∷ 9 ∷ 115 ∷ 101 ∷ 108 ∷ [], 4)
    -- 10 F se without LF
    ∷ (49 ∷ 48 ∷ 9 ∷ 70 ∷ 9 ∷ 115 ∷ 101 ∷ [], 3)
    -- 010 F sel
    ∷ (48 ∷ 49 ∷ 48 ∷ 9 ∷ 70 ∷ 9 ∷ 115 ∷ 101 ∷ 108 ∷ 10 ∷ [], 1)
    -- 10 F x 0 without LF
    ∷ (49 ∷ 48 ∷ 9 ∷ 70 ∷ 9 ∷ 120 ∷ 9 ∷ 48 ∷ [], 4)
    -- 4294967296 F sel
    ∷ (52 ∷ 50 ∷ 57 ∷ 52 ∷ 57 ∷ 54 ∷ 55 ∷ 50 ∷ 57 ∷ 54 ∷ 9 ∷ 70 ∷ 9 ∷ 115 ∷ 101 ∷ 108 ∷ 10 ∷ [], 1)
    -- 10, a blank for the tab, F sel
    ∷ (49 ∷ 48 ∷ 32 ∷ 70 ∷ 9 ∷ 115 ∷ 101 ∷ 108 ∷ 10 ∷ [], 1)
    -- 10, two tabs, F sel
    ∷ (49 ∷ 48 ∷ 9 ∷ 9 ∷ 70 ∷ 9 ∷ 115 ∷ 101 ∷ 108 ∷ 10 ∷ [], 2)
    -- 10 F x 05 0A
    ∷ (49 ∷ 48 ∷ 9 ∷ 70 ∷ 9 ∷ 120 ∷ 9 ∷ 48 ∷ 53 ∷ 9 ∷ 48 ∷ 65 ∷ 10 ∷ [], 5)
    -- 10 F x 05 06, CR before the LF
    ∷ (49 ∷ 48 ∷ 9 ∷ 70 ∷ 9 ∷ 120 ∷ 9 ∷ 48 ∷ 53 ∷ 9 ∷ 48 ∷ 54 ∷ 13 ∷ 10 ∷ [], 5)
    -- 10 F x 05 06 without LF
    ∷ (49 ∷ 48 ∷ 9 ∷ 70 ∷ 9 ∷ 120 ∷ 9 ∷ 48 ∷ 53 ∷ 9 ∷ 48 ∷ 54 ∷ [], 6)
    -- 10 E b 05 2
    ∷ (49 ∷ 48 ∷ 9 ∷ 69 ∷ 9 ∷ 98 ∷ 9 ∷ 48 ∷ 53 ∷ 9 ∷ 50 ∷ 10 ∷ [], 5)
    -- 10 L sel
    ∷ (49 ∷ 48 ∷ 9 ∷ 76 ∷ 9 ∷ 115 ∷ 101 ∷ 108 ∷ 10 ∷ [], 3)
    -- 10 F x 05 06 07
    ∷ (49 ∷ 48 ∷ 9 ∷ 70 ∷ 9 ∷ 120 ∷ 9 ∷ 48 ∷ 53 ∷ 9 ∷ 48 ∷ 54 ∷ 9 ∷ 48 ∷ 55 ∷ 10 ∷ [], 6)
    -- 10 F x 05 06, a tab before the LF
    ∷ (49 ∷ 48 ∷ 9 ∷ 70 ∷ 9 ∷ 120 ∷ 9 ∷ 48 ∷ 53 ∷ 9 ∷ 48 ∷ 54 ∷ 9 ∷ 10 ∷ [], 6)
    -- 10 F sel 7 8
    ∷ (49 ∷ 48 ∷ 9 ∷ 70 ∷ 9 ∷ 115 ∷ 101 ∷ 108 ∷ 9 ∷ 55 ∷ 9 ∷ 56 ∷ 10 ∷ [], 4)
    -- 10 G sel
    ∷ (49 ∷ 48 ∷ 9 ∷ 71 ∷ 9 ∷ 115 ∷ 101 ∷ 108 ∷ 10 ∷ [], 2)
    -- 10 E b a0
    ∷ (49 ∷ 48 ∷ 9 ∷ 69 ∷ 9 ∷ 98 ∷ 9 ∷ 97 ∷ 48 ∷ 10 ∷ [], 5)
    -- 10 E sto 7
    ∷ (49 ∷ 48 ∷ 9 ∷ 69 ∷ 9 ∷ 115 ∷ 116 ∷ 111 ∷ 9 ∷ 55 ∷ 10 ∷ [], 4)
    -- 10 L on 0
    ∷ (49 ∷ 48 ∷ 9 ∷ 76 ∷ 9 ∷ 111 ∷ 110 ∷ 9 ∷ 48 ∷ 10 ∷ [], 4)
    ∷ []

-- whole texts whose first line, the board's, is wrong
abbrev pub typed_wrong_first : List (List ℕ × ℕ)
typed_wrong_first =
    -- no text
    ([], 1)
    -- boar
    ∷ (98 ∷ 111 ∷ 97 ∷ 114 ∷ 10 ∷ [], 1)
    -- board
    ∷ (98 ∷ 111 ∷ 97 ∷ 114 ∷ 100 ∷ 10 ∷ [], 2)
    -- board 01: a bit that may not be set, and no more fields
    ∷ (98 ∷ 111 ∷ 97 ∷ 114 ∷ 100 ∷ 9 ∷ 48 ∷ 49 ∷ 10 ∷ [], 2)
    -- board 00 5 0
    ∷ (98 ∷ 111 ∷ 97 ∷ 114 ∷ 100 ∷ 9 ∷ 48 ∷ 48 ∷ 9 ∷ 53 ∷ 9 ∷ 48 ∷ 10 ∷ [], 3)
    -- board 00 1 8
    ∷ (98 ∷ 111 ∷ 97 ∷ 114 ∷ 100 ∷ 9 ∷ 48 ∷ 48 ∷ 9 ∷ 49 ∷ 9 ∷ 56 ∷ 10 ∷ [], 4)
    -- board 00 1 0 without LF
    ∷ (98 ∷ 111 ∷ 97 ∷ 114 ∷ 100 ∷ 9 ∷ 48 ∷ 48 ∷ 9 ∷ 49 ∷ 9 ∷ 48 ∷ [], 5)
    -- board 00 1 0 1
    ∷ (98 ∷ 111 ∷ 97 ∷ 114 ∷ 100 ∷ 9 ∷ 48 ∷ 48 ∷ 9 ∷ 49 ∷ 9 ∷ 48 ∷ 9 ∷ 49 ∷ 10 ∷ [], 5)
    ∷ []
