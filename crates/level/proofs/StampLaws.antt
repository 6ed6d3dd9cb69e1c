-- The stamp and its tab.
use Prim.Native.Nat.{ℕ, ◌+◌, ◌≤◌}
use native.Mathlib.Nat.{add_assoc}
use mathlib.Core.Path.{◌≡◌, refl, sym, ap, subst, ◌∙◌}
use mathlib.Core.List.{List, ◌++◌}
use lib.ListN.{length, length-append}
use Rattle.field.specs.Ends.{tab}
use Rattle.field.specs.Decimal.{largest, decimal}
use Rattle.field.specs.Reads.{Stands}
use Rattle.field.specs.Readers.{content_at}
use Rattle.field.proofs.Reading.{Got, stands_left, stands_right, stands_join}
use Rattle.field.proofs.Answers.{No, GotField, GotWord, NoWord}
use Rattle.field.proofs.DecimalLaws.{plain_decimal}
use Rattle.field.proofs.Sequence.{content_of}

abbrev pub Small : ℕ → Type 0
Small n = n ≤ largest

unfoldable pub spelled_stamp : ℕ → List ℕ
spelled_stamp n = decimal n ++ tab

abbrev pub GotStamp : List ℕ → ℕ → ℕ → ℕ → Type 0
GotStamp text at n p = Got spelled_stamp Small text at n p

-- where it stands its digits are the field's content
pub stamp_content : (text : List ℕ) (at n : ℕ) → Stands text at (spelled_stamp n) → content_at text at ≡ decimal n
unfolding spelled_stamp
stamp_content text at n s = content_of decimal (λ _. tab) (λ y. refl) (λ y l. refl) n (plain_decimal n) s

module _ {text : List ℕ} {at : ℕ} where
  pub stamp_none : No decimal (λ n. Small n × (content_at text at ≡ decimal n)) text at → No spelled_stamp Small text at
  unfolding spelled_stamp
  stamp_none m n o s = m n (o, stamp_content text at n s) (stands_left text (decimal n) tab at s)

  module _ {n p : ℕ} (g : GotField decimal Small text at n p) where
    only : (y : ℕ) → Small y → Stands text at (spelled_stamp y) → n ≡ y
    unfolding spelled_stamp
    only y o s = g.only y (o, stamp_content text at y s) (stands_left text (decimal y) tab at s)

    pub stamp_no_tab : NoWord tab text p → No spelled_stamp Small text at
    unfolding spelled_stamp
    stamp_no_tab m y o s =
        m tt tt (subst (λ (k : ℕ). Stands text k tab) (ap (λ (k : ℕ). at + length (decimal k)) (sym (only y o s)) ∙ sym g.next) (stands_right text (decimal y) tab at s))

    pub stamp_got : {q : ℕ} → GotWord tab text p q → GotStamp text at n q
    unfolding spelled_stamp
    stamp_got h = record {
      ok = g.ok.0;
      stands = stands_join text (decimal n) tab at g.stands (subst (λ (k : ℕ). Stands text k tab) g.next h.stands);
      next = h.next ∙ ap (λ (k : ℕ). k + 1) g.next ∙ add_assoc at (length (decimal n)) 1 ∙ ap (λ (k : ℕ). at + k) (sym (length-append (decimal n) tab));
      only = only;
    }
