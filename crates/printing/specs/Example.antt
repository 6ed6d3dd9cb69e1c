-- Believed: 'One listing in full', byte for byte: the text of document 01 and what it prints, no dumps. Each row is a line.
use Rattle.std.specs.Prelude.{ℕ, None, List, [], ◌∷◌}
use Rattle.printing.specs.Printed.{Dumps, Printed, PagesPrinted}

abbrev pub no_dumps : Dumps
no_dumps = record { flash = None; eeprom = None }

abbrev pub example_text : List ℕ
example_text =
    98 ∷ 111 ∷ 97 ∷ 114 ∷ 100 ∷ 9 ∷ 48 ∷ 48 ∷ 9 ∷ 49 ∷ 9 ∷ 48 ∷ 10 ∷
    49 ∷ 48 ∷ 9 ∷ 70 ∷ 9 ∷ 115 ∷ 101 ∷ 108 ∷ 10 ∷
    49 ∷ 48 ∷ 9 ∷ 70 ∷ 9 ∷ 120 ∷ 9 ∷ 48 ∷ 53 ∷ 9 ∷ 102 ∷ 102 ∷ 10 ∷
    49 ∷ 48 ∷ 9 ∷ 70 ∷ 9 ∷ 120 ∷ 9 ∷ 48 ∷ 48 ∷ 9 ∷ 48 ∷ 48 ∷ 10 ∷
    49 ∷ 48 ∷ 9 ∷ 70 ∷ 9 ∷ 100 ∷ 101 ∷ 115 ∷ 10 ∷
    56 ∷ 48 ∷ 9 ∷ 76 ∷ 9 ∷ 111 ∷ 102 ∷ 102 ∷ 10 ∷ []

abbrev pub example_listing : List ℕ
example_listing =
    108 ∷ 105 ∷ 110 ∷ 101 ∷ 9 ∷ 115 ∷ 116 ∷ 97 ∷ 109 ∷ 112 ∷ 9 ∷ 114 ∷ 101 ∷ 112 ∷ 108 ∷ 121 ∷ 9 ∷ 109 ∷ 97 ∷ 116 ∷ 99 ∷ 104 ∷ 10 ∷
    50 ∷ 9 ∷ 49 ∷ 48 ∷ 9 ∷ 45 ∷ 9 ∷ 46 ∷ 10 ∷
    51 ∷ 9 ∷ 49 ∷ 48 ∷ 9 ∷ 45 ∷ 9 ∷ 46 ∷ 10 ∷
    52 ∷ 9 ∷ 49 ∷ 48 ∷ 9 ∷ 48 ∷ 48 ∷ 47 ∷ 48 ∷ 48 ∷ 9 ∷ 61 ∷ 10 ∷
    53 ∷ 9 ∷ 49 ∷ 48 ∷ 9 ∷ 45 ∷ 9 ∷ 46 ∷ 10 ∷
    54 ∷ 9 ∷ 56 ∷ 48 ∷ 9 ∷ 45 ∷ 9 ∷ 46 ∷ 10 ∷
    115 ∷ 101 ∷ 116 ∷ 116 ∷ 108 ∷ 101 ∷ 100 ∷ 9 ∷ 48 ∷ 10 ∷ []

abbrev pub ExamplePrinted : Type 0
ExamplePrinted = Printed example_text no_dumps example_listing

-- A stop: three line records at one stamp. The records before it are listed, the last of them too; its own are left out.
abbrev pub stop_text : List ℕ
stop_text =
    98 ∷ 111 ∷ 97 ∷ 114 ∷ 100 ∷ 9 ∷ 48 ∷ 48 ∷ 9 ∷ 49 ∷ 9 ∷ 48 ∷ 10 ∷
    49 ∷ 48 ∷ 9 ∷ 70 ∷ 9 ∷ 115 ∷ 101 ∷ 108 ∷ 10 ∷
    49 ∷ 53 ∷ 9 ∷ 70 ∷ 9 ∷ 100 ∷ 101 ∷ 115 ∷ 10 ∷
    50 ∷ 48 ∷ 9 ∷ 76 ∷ 9 ∷ 108 ∷ 111 ∷ 99 ∷ 107 ∷ 10 ∷
    50 ∷ 48 ∷ 9 ∷ 76 ∷ 9 ∷ 102 ∷ 114 ∷ 101 ∷ 101 ∷ 10 ∷
    50 ∷ 48 ∷ 9 ∷ 76 ∷ 9 ∷ 108 ∷ 111 ∷ 99 ∷ 107 ∷ 10 ∷ []

abbrev pub stop_listing : List ℕ
stop_listing =
    108 ∷ 105 ∷ 110 ∷ 101 ∷ 9 ∷ 115 ∷ 116 ∷ 97 ∷ 109 ∷ 112 ∷ 9 ∷ 114 ∷ 101 ∷ 112 ∷ 108 ∷ 121 ∷ 9 ∷ 109 ∷ 97 ∷ 116 ∷ 99 ∷ 104 ∷ 10 ∷
    50 ∷ 9 ∷ 49 ∷ 48 ∷ 9 ∷ 45 ∷ 9 ∷ 46 ∷ 10 ∷
    51 ∷ 9 ∷ 49 ∷ 53 ∷ 9 ∷ 45 ∷ 9 ∷ 46 ∷ 10 ∷
    115 ∷ 116 ∷ 111 ∷ 112 ∷ 9 ∷ 54 ∷ 9 ∷ 50 ∷ 48 ∷ 10 ∷ []

abbrev pub StopPrinted : Type 0
StopPrinted = Printed stop_text no_dumps stop_listing

-- A refusal (document 02, request 2/12): line 2 lacks its fifth field. Its line alone is printed, with the field fourth.
abbrev pub refused_text : List ℕ
refused_text =
    98 ∷ 111 ∷ 97 ∷ 114 ∷ 100 ∷ 9 ∷ 48 ∷ 48 ∷ 9 ∷ 49 ∷ 9 ∷ 48 ∷ 10 ∷
    49 ∷ 48 ∷ 9 ∷ 70 ∷ 9 ∷ 120 ∷ 9 ∷ 48 ∷ 53 ∷ 10 ∷ []

abbrev pub refused_listing : List ℕ
refused_listing = 114 ∷ 101 ∷ 102 ∷ 117 ∷ 115 ∷ 101 ∷ 100 ∷ 9 ∷ 51 ∷ 9 ∷ 50 ∷ 9 ∷ 53 ∷ 10 ∷ []

abbrev pub RefusedPrinted : Type 0
RefusedPrinted = Printed refused_text no_dumps refused_listing

-- Pages written (document 02, request 1/12): a PROGRAM of page 3 of the watched sector, started at 11, and a write to page 1 of the EEPROM, started at 20; the write ends
-- at 30, the PROGRAM at 40, and the replay stops at 50. By `print_pages`: the flash's page first, each with the stamp of its `end`, and the stop.
abbrev pub written_text : List ℕ
written_text =
    98 ∷ 111 ∷ 97 ∷ 114 ∷ 100 ∷ 9 ∷ 48 ∷ 48 ∷ 9 ∷ 49 ∷ 9 ∷ 48 ∷ 10 ∷
    49 ∷ 48 ∷ 9 ∷ 70 ∷ 9 ∷ 115 ∷ 101 ∷ 108 ∷ 10 ∷
    49 ∷ 48 ∷ 9 ∷ 70 ∷ 9 ∷ 120 ∷ 9 ∷ 48 ∷ 54 ∷ 9 ∷ 102 ∷ 102 ∷ 10 ∷
    49 ∷ 48 ∷ 9 ∷ 70 ∷ 9 ∷ 100 ∷ 101 ∷ 115 ∷ 10 ∷
    49 ∷ 49 ∷ 9 ∷ 70 ∷ 9 ∷ 115 ∷ 101 ∷ 108 ∷ 10 ∷
    49 ∷ 49 ∷ 9 ∷ 70 ∷ 9 ∷ 120 ∷ 9 ∷ 48 ∷ 50 ∷ 9 ∷ 102 ∷ 102 ∷ 10 ∷
    49 ∷ 49 ∷ 9 ∷ 70 ∷ 9 ∷ 120 ∷ 9 ∷ 48 ∷ 48 ∷ 9 ∷ 102 ∷ 102 ∷ 10 ∷
    49 ∷ 49 ∷ 9 ∷ 70 ∷ 9 ∷ 120 ∷ 9 ∷ 48 ∷ 51 ∷ 9 ∷ 102 ∷ 102 ∷ 10 ∷
    49 ∷ 49 ∷ 9 ∷ 70 ∷ 9 ∷ 120 ∷ 9 ∷ 48 ∷ 48 ∷ 9 ∷ 102 ∷ 102 ∷ 10 ∷
    49 ∷ 49 ∷ 9 ∷ 70 ∷ 9 ∷ 120 ∷ 9 ∷ 97 ∷ 97 ∷ 9 ∷ 102 ∷ 102 ∷ 10 ∷
    49 ∷ 49 ∷ 9 ∷ 70 ∷ 9 ∷ 100 ∷ 101 ∷ 115 ∷ 10 ∷
    50 ∷ 48 ∷ 9 ∷ 69 ∷ 9 ∷ 115 ∷ 116 ∷ 97 ∷ 10 ∷
    50 ∷ 48 ∷ 9 ∷ 69 ∷ 9 ∷ 98 ∷ 9 ∷ 97 ∷ 48 ∷ 9 ∷ 48 ∷ 10 ∷
    50 ∷ 48 ∷ 9 ∷ 69 ∷ 9 ∷ 98 ∷ 9 ∷ 48 ∷ 48 ∷ 9 ∷ 48 ∷ 10 ∷
    50 ∷ 48 ∷ 9 ∷ 69 ∷ 9 ∷ 98 ∷ 9 ∷ 52 ∷ 48 ∷ 9 ∷ 48 ∷ 10 ∷
    50 ∷ 48 ∷ 9 ∷ 69 ∷ 9 ∷ 98 ∷ 9 ∷ 53 ∷ 53 ∷ 9 ∷ 48 ∷ 10 ∷
    50 ∷ 48 ∷ 9 ∷ 69 ∷ 9 ∷ 115 ∷ 116 ∷ 111 ∷ 10 ∷
    51 ∷ 48 ∷ 9 ∷ 69 ∷ 9 ∷ 101 ∷ 110 ∷ 100 ∷ 10 ∷
    52 ∷ 48 ∷ 9 ∷ 70 ∷ 9 ∷ 101 ∷ 110 ∷ 100 ∷ 10 ∷
    53 ∷ 48 ∷ 9 ∷ 76 ∷ 9 ∷ 108 ∷ 111 ∷ 99 ∷ 107 ∷ 10 ∷
    53 ∷ 48 ∷ 9 ∷ 76 ∷ 9 ∷ 102 ∷ 114 ∷ 101 ∷ 101 ∷ 10 ∷
    53 ∷ 48 ∷ 9 ∷ 76 ∷ 9 ∷ 108 ∷ 111 ∷ 99 ∷ 107 ∷ 10 ∷ []

abbrev pub written_listing : List ℕ
written_listing =
    99 ∷ 104 ∷ 105 ∷ 112 ∷ 9 ∷ 112 ∷ 97 ∷ 103 ∷ 101 ∷ 9 ∷ 115 ∷ 116 ∷ 97 ∷ 109 ∷ 112 ∷ 10 ∷
    102 ∷ 108 ∷ 97 ∷ 115 ∷ 104 ∷ 9 ∷ 51 ∷ 9 ∷ 52 ∷ 48 ∷ 10 ∷
    101 ∷ 101 ∷ 112 ∷ 114 ∷ 111 ∷ 109 ∷ 9 ∷ 49 ∷ 9 ∷ 51 ∷ 48 ∷ 10 ∷
    115 ∷ 116 ∷ 111 ∷ 112 ∷ 9 ∷ 54 ∷ 9 ∷ 53 ∷ 48 ∷ 10 ∷ []

abbrev pub WrittenPrinted : Type 0
WrittenPrinted = PagesPrinted written_text no_dumps written_listing
