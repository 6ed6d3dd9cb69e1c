-- The laws of the orders: the reference order, and what the first record may be.
use mathlib.Core.Path.{◌≡◌, refl, sym, ap, ap₂, ◌∙◌}
use mathlib.Core.List.{List, [], ◌∷◌, map, head-eq_of_cons-eq, tail-eq_of_cons-eq}
use Rattle.tied.specs.Orders.{Order, done, bus_first, line_first, buses_first, after_lines, after_buses, said_buses, after, replies, Agree, AgreeBus, AnyTwo}

module _ {S B L R : Type 0} (bus : S → B → S) (reply : S → B → R) (line : S → L → S) where
  -- to compare each with the reference is to compare any two
  pub reference_two : (bs : List B) (ls : List L) (s : S) → Agree bus reply line bs ls s (after bus reply line (buses_first bs ls) s) (replies bus reply line (buses_first bs ls) s) → AnyTwo bus reply line bs ls s
  reference_two bs ls s h o p = ((h o).0 ∙ sym (h p).0, (h o).1 ∙ sym (h p).1)

  pub two_reference : (bs : List B) (ls : List L) (s : S) → AnyTwo bus reply line bs ls s → Agree bus reply line bs ls s (after bus reply line (buses_first bs ls) s) (replies bus reply line (buses_first bs ls) s)
  two_reference bs ls s h o = h o (buses_first bs ls)

  -- the reference order as two loops
  pub after_reference : (bs : List B) (ls : List L) (s : S) → after bus reply line (buses_first bs ls) s ≡ after_lines line ls (after_buses bus bs s)
  unfolding after buses_first after_lines after_buses
  after_reference [] [] s = refl
  after_reference [] (l ∷ ls) s = after_reference [] ls (line s l)
  after_reference (b ∷ bs) ls s = after_reference bs ls (bus s b)

  pub replies_reference : (bs : List B) (ls : List L) (s : S) → replies bus reply line (buses_first bs ls) s ≡ said_buses bus reply bs s
  unfolding replies buses_first said_buses
  replies_reference [] [] s = refl
  replies_reference [] (l ∷ ls) s = replies_reference [] ls (line s l)
  replies_reference (b ∷ bs) ls s = ap (λ (rs : List R). reply s b ∷ rs) (replies_reference bs ls (bus s b))

  -- what the first record may be
  module _ (s f : S) (w : List R) where
    pub agree_none : s ≡ f → [] ≡ w → Agree bus reply line [] [] s f w
    unfolding after replies
    agree_none e v done = (e, v)

    pub none_agree : Agree bus reply line [] [] s f w → s ≡ f
    unfolding after
    none_agree h = (h done).0

    pub agree_both : {b : B} {bs : List B} {l : L} {ls : List L} → AgreeBus bus reply line b bs (l ∷ ls) s f w → Agree bus reply line (b ∷ bs) ls (line s l) f w → Agree bus reply line (b ∷ bs) (l ∷ ls) s f w
    unfolding after replies
    agree_both p q (bus_first o) = p o
    agree_both p q (line_first o) = q o

    pub agree_buses : {b : B} {bs : List B} → AgreeBus bus reply line b bs [] s f w → Agree bus reply line (b ∷ bs) [] s f w
    unfolding after replies
    agree_buses p (bus_first o) = p o

    pub agree_lines : {l : L} {ls : List L} → Agree bus reply line [] ls (line s l) f w → Agree bus reply line [] (l ∷ ls) s f w
    unfolding after replies
    agree_lines q (line_first o) = q o

    pub bus_agree : {b : B} {bs : List B} {ls : List L} → Agree bus reply line (b ∷ bs) ls s f w → AgreeBus bus reply line b bs ls s f w
    unfolding after replies
    bus_agree h o = h (bus_first o)

    pub line_agree : {bs : List B} {l : L} {ls : List L} → Agree bus reply line bs (l ∷ ls) s f w → Agree bus reply line bs ls (line s l) f w
    unfolding after replies
    line_agree h o = h (line_first o)

  -- the first reply, and the rest
  module _ (s f : S) (b : B) (r : R) (w : List R) where
    pub reply_agree : (bs : List B) (ls : List L) → AgreeBus bus reply line b bs ls s f (r ∷ w) → reply s b ≡ r
    reply_agree bs ls h = head-eq_of_cons-eq (h (buses_first bs ls)).1

    pub rest_agree : (bs : List B) (ls : List L) → AgreeBus bus reply line b bs ls s f (r ∷ w) → Agree bus reply line bs ls (bus s b) f w
    rest_agree bs ls h o = ((h o).0, tail-eq_of_cons-eq (h o).1)

    pub agree_rest : (bs : List B) (ls : List L) → reply s b ≡ r → Agree bus reply line bs ls (bus s b) f w → AgreeBus bus reply line b bs ls s f (r ∷ w)
    agree_rest bs ls e h o = ((h o).0, ap₂ ◌∷◌ e (h o).1)

-- replies seen through a function
module _ {S B L R Q : Type 0} (bus : S → B → S) (reply : S → B → R) (line : S → L → S) (see : R → Q) where
  replies_seen : {bs : List B} {ls : List L} (o : Order B L bs ls) (s : S) → replies bus (λ t b. see (reply t b)) line o s ≡ map see (replies bus reply line o s)
  unfolding replies
  replies_seen done s = refl
  replies_seen (bus_first {b = b} o) s = ap (λ (l : List Q). see (reply s b) ∷ l) (replies_seen o (bus s b))
  replies_seen (line_first {l = l} o) s = replies_seen o (line s l)

  after_seen : {bs : List B} {ls : List L} (o : Order B L bs ls) (s : S) → after bus (λ t b. see (reply t b)) line o s ≡ after bus reply line o s
  unfolding after
  after_seen done s = refl
  after_seen (bus_first {b = b} o) s = after_seen o (bus s b)
  after_seen (line_first {l = l} o) s = after_seen o (line s l)

  pub any_two_seen : (bs : List B) (ls : List L) (s : S) → AnyTwo bus reply line bs ls s → AnyTwo bus (λ t b. see (reply t b)) line bs ls s
  any_two_seen bs ls s h o p = (
    after_seen o s ∙ (h o p).0 ∙ sym (after_seen p s),
    replies_seen o s ∙ ap (map see) (h o p).1 ∙ sym (replies_seen p s),
  )
