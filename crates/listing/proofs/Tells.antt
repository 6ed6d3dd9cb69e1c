-- What is told by a result: of its length or not.
use Prim.Native.Nat.{ℕ}
use mathlib.Core.Path.{◌≡◌, sym, ap, ◌∙◌}
use mathlib.Core.List.{List}
use lib.ListN.{length}
use borrow.Author.Tests.{eq-eqb, ne_eqb}
use Rattle.record.specs.Lengths.{result_length}
use Rattle.field.specs.Spelling.{no_bytes, put_all}
use Rattle.listing.specs.Bytes.{answer_in, place_in, count_in, field_in}
use Rattle.listing.specs.Lines.{refused_line}
use Rattle.listing.specs.Writing.{refusal_of, count_of}

module _ (result : List ℕ) (whole : length result ≡ result_length) where
  pub refusal_told : refusal_of result ≡ refused_line (answer_in result) (place_in result) (field_in result)
  unfolding refusal_of
  refusal_told = simp (eq-eqb _ _ whole)

  pub count_told : count_of result ≡ count_in result
  unfolding count_of
  count_told = simp (eq-eqb _ _ whole)

  -- of the numbers that were read
  pub refusal_read : {a n f : ℕ} {s : List ℕ} → a ≡ answer_in result → n ≡ place_in result → f ≡ field_in result → s ≡ put_all no_bytes (refused_line a n f) → s ≡ put_all no_bytes (refusal_of result)
  refusal_read p q r e = e ∙ ap (put_all no_bytes) ((λ i. refused_line (p i) (q i) (r i)) ∙ sym refusal_told)

module _ (result : List ℕ) (other : length result ≡ result_length → ⊥) where
  pub refusal_untold : {s : List ℕ} → s ≡ no_bytes → s ≡ put_all no_bytes (refusal_of result)
  unfolding refusal_of put_all
  refusal_untold e = e ∙ simp (ne_eqb _ _ other)

  pub count_untold : 0 ≡ count_of result
  unfolding count_of
  count_untold = simp (ne_eqb _ _ other)
