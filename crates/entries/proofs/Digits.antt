-- Bytes in hex, stored one after the other. Assumes nothing.
use Prim.Native.Nat.{ℕ, ◌+◌, ◌*◌, ◌≤◌, ◌<◌}
use native.Mathlib.Omega.{arith}
use native.Mathlib.Numerals.{add-one}
use mathlib.Core.Path.{◌≡◌, refl, sym, ap, ap₂, ◌∙◌}
use mathlib.Core.List.{List, [], ◌∷◌, ◌++◌, append-nil, append_assoc}
use lib.ListN.{length, get_or, take, drop, set, length-append, length-drop}
use lib.Seq.{sets, take-suc, get_or-take, get_or-drop, length-take-le}
use Rattle.page.specs.Geometry.{flash_page}
use Rattle.field.specs.Ends.{lf}
use Rattle.field.specs.Hex.{hex_field}
use Rattle.listing.proofs.Stores.{joined}
use Rattle.entries.specs.Printed.{hex_bytes}
use Rattle.entries.specs.Lines.{page_at}

pub hex_none : hex_bytes [] ≡ []
unfolding hex_bytes
hex_none = refl

hex_append : (xs ys : List ℕ) → hex_bytes (xs ++ ys) ≡ hex_bytes xs ++ hex_bytes ys
unfolding hex_bytes
hex_append [] ys = refl
hex_append (b ∷ xs) ys = ap (λ (l : List ℕ). hex_field b ++ l) (hex_append xs ys) ∙ sym (append_assoc (hex_field b) (hex_bytes xs) (hex_bytes ys))

hex_one : (b : ℕ) → hex_bytes (b ∷ []) ≡ hex_field b
unfolding hex_bytes
hex_one b = append-nil (hex_field b)

pub byte_length : (b : ℕ) → length (hex_field b) ≡ 2
unfolding hex_field
byte_length b = refl

-- two digits for each byte
pub hex_length : (xs : List ℕ) → length (hex_bytes xs) ≡ 2 * length xs
unfolding hex_bytes
hex_length [] = refl
hex_length (b ∷ xs) = omega (arith, length-append (hex_field b) (hex_bytes xs), byte_length b, hex_length xs)

-- one byte more
hex_more : (l : List ℕ) (k : ℕ) → k < length l → hex_bytes (take (k + 1) l) ≡ hex_bytes (take k l) ++ hex_field (get_or l k 0)
hex_more l k h =
    ap (λ (j : ℕ). hex_bytes (take j l)) (add-one k)
    ∙ ap hex_bytes (take-suc l k 0 h)
    ∙ hex_append (take k l) (get_or l k 0 ∷ [])
    ∙ ap (λ (w : List ℕ). hex_bytes (take k l) ++ w) (hex_one (get_or l k 0))

-- byte k of a page that stands at a place
pub page_byte : (list : List ℕ) (from k m : ℕ) → k < flash_page → m ≡ flash_page → get_or (take m (drop from list)) k 0 ≡ get_or list (from + k) 0
page_byte list from k m h e = get_or-take m (drop from list) k 0 (omega arith) ∙ get_or-drop from list k 0

-- a turn of the loop over a page, and its end
module _ (list old : List ℕ) (from first : ℕ) (inside : from + flash_page ≤ length list) where
  so_far : (k : ℕ) → k ≤ flash_page → length (hex_bytes (take k (drop from list))) ≡ 2 * k
  so_far k h = hex_length (take k (drop from list)) ∙ ap (λ (n : ℕ). 2 * n) (length-take-le k (drop from list) (omega (arith, length-drop from list)))

  pub page_more : (out new : List ℕ) (at k : ℕ) → k < flash_page → at ≡ first + 2 * k → out ≡ sets old first (hex_bytes (take k (drop from list)))
      → new ≡ sets out at (hex_field (get_or list (from + k) 0)) → new ≡ sets old first (hex_bytes (take (k + 1) (drop from list)))
  page_more out new at k h p e f =
      let done = hex_bytes (take k (drop from list)) in
      f
      ∙ ap (λ (b : ℕ). sets out at (hex_field b)) (sym (get_or-drop from list k 0))
      ∙ ap₂ (λ (o : List ℕ) (j : ℕ). sets o j (hex_field (get_or (drop from list) k 0))) e (p ∙ ap (λ (n : ℕ). first + n) (sym (so_far k (omega arith))))
      ∙ joined done (hex_field (get_or (drop from list) k 0)) old first
      ∙ ap (sets old first) (sym (hex_more (drop from list) k (omega (arith, length-drop from list))))

  pub page_ended : (out : List ℕ) (at k : ℕ) → k ≡ flash_page → at ≡ first + 2 * k → out ≡ sets old first (hex_bytes (take k (drop from list)))
      → set out at 10 ≡ sets old first (hex_bytes (page_at list from) ++ lf)
  page_ended out at k h p e =
      let done = hex_bytes (take flash_page (drop from list)) in
      ap₂ (λ (o : List ℕ) (j : ℕ). sets o j lf) (e ∙ ap (λ (j : ℕ). sets old first (hex_bytes (take j (drop from list)))) h)
      (p ∙ ap (λ (n : ℕ). first + 2 * n) h ∙ ap (λ (n : ℕ). first + n) (sym (so_far flash_page (omega arith))))
      ∙ joined done lf old first
