-- The orders of two lists of records, and what one order gives.
use Rattle.std.specs.Prelude.{◌≡◌, List, [], ◌∷◌}

-- an order of a list of bus records and a list of line records, each list in its own order:
-- at each place either the next bus record or the next line record comes first
pub data Order (B L : Type 0) : List B → List L → Type 0 where
  done : Order B L [] []
  bus_first : {b : B} {bs : List B} {ls : List L} → Order B L bs ls → Order B L (b ∷ bs) ls
  line_first : {l : L} {bs : List B} {ls : List L} → Order B L bs ls → Order B L bs (l ∷ ls)

-- the reference order: all bus records, then all line records
unfoldable pub buses_first : {B L : Type 0} (bs : List B) (ls : List L) → Order B L bs ls
buses_first [] [] = done
buses_first [] (l ∷ ls) = line_first (buses_first [] ls)
buses_first (b ∷ bs) ls = bus_first (buses_first bs ls)

-- all line records, and all bus records with their replies
unfoldable pub after_lines : {S L : Type 0} (line : S → L → S) → List L → S → S
after_lines line [] s = s
after_lines line (l ∷ ls) s = after_lines line ls (line s l)

unfoldable pub after_buses : {S B : Type 0} (bus : S → B → S) → List B → S → S
after_buses bus [] s = s
after_buses bus (b ∷ bs) s = after_buses bus bs (bus s b)

unfoldable pub said_buses : {S B R : Type 0} (bus : S → B → S) (reply : S → B → R) → List B → S → List R
said_buses bus reply [] s = []
said_buses bus reply (b ∷ bs) s = reply s b ∷ said_buses bus reply bs (bus s b)

module _ {S B L R : Type 0} (bus : S → B → S) (reply : S → B → R) (line : S → L → S) where
  -- the state after an order
  unfoldable pub after : {bs : List B} {ls : List L} → Order B L bs ls → S → S
  after done s = s
  after (bus_first {b = b} o) s = after o (bus s b)
  after (line_first {l = l} o) s = after o (line s l)

  -- the bus records' replies in an order, in the bus records' order
  unfoldable pub replies : {bs : List B} {ls : List L} → Order B L bs ls → S → List R
  replies done s = []
  replies (bus_first {b = b} o) s = reply s b ∷ replies o (bus s b)
  replies (line_first {l = l} o) s = replies o (line s l)

  -- every order from s ends in f with the replies w
  abbrev pub Agree : List B → List L → S → S → List R → Type 0
  Agree bs ls s f w = (o : Order B L bs ls) → (after o s ≡ f) × (replies o s ≡ w)

  -- every order that begins with the bus record b does
  abbrev pub AgreeBus : B → List B → List L → S → S → List R → Type 0
  AgreeBus b bs ls s f w = (o : Order B L bs ls) → (after o (bus s b) ≡ f) × (reply s b ∷ replies o (bus s b) ≡ w)

  -- any two orders agree
  abbrev pub AnyTwo : List B → List L → S → Type 0
  AnyTwo bs ls s = (o p : Order B L bs ls) → (after o s ≡ after p s) × (replies o s ≡ replies p s)
