-- Of each text and dumps one thing only is printed, and any two outcomes that the promise admits are equal.
use Prim.Native.Nat.{ℕ, ◌≤◌}
use native.Mathlib.Omega.{arith}
use mathlib.Core.Path.{◌≡◌, sym, ap, ◌∙◌}
use mathlib.Core.Bool.{true, false}
use mathlib.Core.Logic.{⊎_elim}
use mathlib.Core.List.{List, ◌++◌}
use lib.Dec.{ltb}
use lib.ListN.{length, drop, length-append}
use Rattle.law.specs.Choice.{split, lt_or_le}
use Rattle.meaning.proofs.OneAnswer.{means_one}
use Rattle.machine.specs.Machine.{on_machine}
use Rattle.text.specs.Texts.{text_limit}
use Rattle.demands.proofs.Readable.{readable_back}
use Rattle.listing.specs.Listing.{listing_room}
use Rattle.printing.specs.Joined.{OneOutcome}
use Rattle.text.proofs.SomeReading.{some_reading}
use Rattle.printing.specs.Printed.{Dumps, all_taken, Kind, PrintedAs, PrintsAs}

module _ {of : Kind} {text : List ℕ} {d : Dumps} {p w : List ℕ} (h : PrintedAs of text d p) (k : PrintedAs of text d w) where
  once_read : all_taken d ≡ true → ltb text_limit (length text) ≡ false → p ≡ w
  once_read t l =
      ⊎_elim
      (λ r.
      let y = h.played t l r.0 r.1 r.2 in
      let z = k.played t l r.0 r.1 r.2 in
      y.2 ∙ ap (of r.0 r.1) (means_one (on_machine r.0) r.1 _ (readable_back r.2) y.0 z.0 y.1 z.1) ∙ sym z.2)
      (λ r. h.bad t l r.0 r.1 r.2 r.3 ∙ sym (k.bad t l r.0 r.1 r.2 r.3)) (some_reading text)

  pub printed_one : p ≡ w
  printed_one =
      split (all_taken d)
      (λ t. split (ltb text_limit (length text)) (λ l. h.long t l ∙ sym (k.long t l)) (λ l. once_read t l))
      (λ t. h.unfit t ∙ sym (k.unfit t))

module _ {of : Kind} {text : List ℕ} {d : Dumps} {old new : List ℕ} {n : ℕ} (h : PrintsAs of text d old new n) where
  -- n never reaches beyond the output
  pub within : n ≤ length new
  within =
      ⊎_elim (λ l. omega (arith, (h.short l).0))
      (λ l. let w = h.written l in omega (arith, w.number, ap length w.content, length-append h.printed (drop (length h.printed) old)))
      (lt_or_le (length old) listing_room)

  one_outcome_of : {new' : List ℕ} {n' : ℕ} → PrintsAs of text d old new' n' → (n ≡ n') × (new ≡ new')
  one_outcome_of {new'} {n'} k =
      let e = printed_one h.is k.is in
      ⊎_elim
      (λ l. ((h.short l).0 ∙ sym (k.short l).0, (h.short l).1 ∙ sym (k.short l).1))
      (λ l. ((h.written l).number ∙ ap length e ∙ sym (k.written l).number, (h.written l).content ∙ ap (λ (u : List ℕ). u ++ drop (length u) old) e ∙ sym (k.written l).content))
      (lt_or_le (length old) listing_room)

pub one_outcome : OneOutcome
one_outcome of text d old new new' n n' h k = one_outcome_of h k
