-- Laws of putting bytes at the end of a spelling.
use Prim.Native.Nat.{ℕ, suc, zero, ◌+◌, ◌-◌, ◌/◌, ◌%◌, ◌^◌, ◌≤◌, ◌<◌, min}
use native.Mathlib.Omega.{arith}
use native.Mathlib.Nat.{div-add-mod', mod-eq_of_lt, pow-suc}
use mathlib.Core.Path.{◌≡◌, refl, sym, ap, ◌∙◌}
use mathlib.Core.Logic.{⊎_elim}
use mathlib.Core.List.{List, [], ◌∷◌, ◌++◌, append-nil, append_assoc}
use lib.ListN.{length, take, length-append}
use lib.Seq.{take_all, length-take-le}
use borrow.Rule.Slice.PartMut.{put_mid}
use Rattle.std.proofs.lemmas.Slice.{take-put_mid}
use borrow.Author.Tests.{lt-leb, le-leb}
use Rattle.law.specs.Choice.{lt_or_le}
use Rattle.field.specs.Decimal.{decimal, largest}
use Rattle.field.specs.Hex.{hex_digit, hex_field}
use Rattle.field.specs.Spelling.{no_bytes, put_byte, put_all}
use Rattle.field.specs.Room.{room}
use Rattle.field.proofs.DecimalLaws.{decimal_digit, decimal_more}

-- ---- one after another
pub put_one : (s : List ℕ) (b : ℕ) → put_all s (b ∷ []) ≡ put_byte s b
unfolding put_all
put_one s b = refl

pub put_then : (s u v : List ℕ) → put_all (put_all s u) v ≡ put_all s (u ++ v)
unfolding put_all
put_then s [] v = refl
put_then s (b ∷ u) v = put_then (put_byte s b) u v

-- ---- what is held: all that there is room for
take_none : (w : List ℕ) → take 0 w ≡ []
take_none [] = refl
take_none (b ∷ w) = refl

take_nil : (k : ℕ) → take {A = ℕ} k [] ≡ []
take_nil zero = refl
take_nil (suc k) = refl

-- what fits after one byte more
room_on : (s : List ℕ) (b : ℕ) (w : List ℕ) → length s < room → (s ++ (b ∷ [])) ++ take (room - length (s ++ (b ∷ []))) w ≡ s ++ take (room - length s) (b ∷ w)
room_on s b w l =
    let n : room - length s ≡ suc (room - length (s ++ (b ∷ []))) = omega (arith, length-append s (b ∷ [])) in
    append_assoc s (b ∷ []) (take (room - length (s ++ (b ∷ []))) w) ∙ ap (λ (k : ℕ). s ++ take k (b ∷ w)) (sym n)

pub put_room : (s w : List ℕ) → length s ≤ room → put_all s w ≡ s ++ take (room - length s) w
unfolding put_all
put_room s [] h = sym (ap (λ (l : List ℕ). s ++ l) (take_nil (room - length s)) ∙ append-nil s)
put_room s (b ∷ w) h =
    ⊎_elim (λ (l : length s < room).
    let more : put_byte s b ≡ s ++ (b ∷ []) = simp (lt-leb room (length s) l) in
    ap (λ (r : List ℕ). put_all r w) more ∙ put_room (s ++ (b ∷ [])) w (omega (arith, length-append s (b ∷ []))) ∙ room_on s b w l)
    (λ (l : room ≤ length s).
    let z : room - length s ≡ 0 = omega arith in
    let full : put_byte s b ≡ s = simp (le-leb room (length s) l) in
    ap (λ (r : List ℕ). put_all r w) full ∙ put_room s w h ∙ ap (λ (k : ℕ). s ++ take k w) z ∙ ap (λ (l : List ℕ). s ++ l) (take_none w) ∙ ap (λ (k : ℕ). s ++ take k (b ∷ w)) (sym z))
    (lt_or_le (length s) room)

-- as much of the word as fits
fitting : (w : List ℕ) (k n : ℕ) → n ≡ min (length w) k → take n w ≡ take k w
fitting w k n e =
    ⊎_elim (λ (l : length w < k). take_all n w (omega arith) ∙ sym (take_all k w (omega arith)))
    (λ (l : k ≤ length w). ap (λ (m : ℕ). take m w) (omega arith))
    (lt_or_le (length w) k)

-- it is copied behind the bytes that are held
put_part : (bytes part w : List ℕ) (len k n : ℕ) → len ≤ room → length bytes ≡ room → n ≡ min (length w) (room - len) → part ≡ take n w → take (len + n) (put_mid len k bytes part) ≡ put_all (take len bytes) w
put_part bytes part w len k n h b e p =
    let s : length (take len bytes) ≡ len = length-take-le len bytes (omega arith) in
    let m : length part ≡ n = ap length p ∙ length-take-le n w (omega arith) in
    take-put_mid len k bytes part (len + n) (omega arith) (omega arith)
    ∙ ap (λ (l : List ℕ). take len bytes ++ l) (p ∙ fitting w (room - len) n e ∙ ap (λ (j : ℕ). take (room - j) w) (sym s))
    ∙ sym (put_room (take len bytes) w (omega arith))

-- the same where the count may say more than there is room for
pub put_within : (bytes part w : List ℕ) (len from k n : ℕ) → from ≡ min len room → length bytes ≡ room → n ≡ min (length w) (room - from) → part ≡ take n w → take (from + n) (put_mid from k bytes part) ≡ put_all (take len bytes) w
put_within bytes part w len from k n f b e p =
    put_part bytes part w from k n (omega arith) b e p
    ∙ ap (λ (l : List ℕ). put_all l w) (fitting bytes len from (omega arith))

-- a line that is short enough is held whole
pub holds : (w : List ℕ) {s : List ℕ} → s ≡ put_all no_bytes w → length w ≤ room → s ≡ w
holds w e h = e ∙ put_room [] w (omega arith) ∙ take_all room w h

-- ---- decimals
pub decimal_split : (n : ℕ) → 10 ≤ n → decimal (n / 10) ++ ((48 + n % 10) ∷ []) ≡ decimal n
decimal_split n h = sym (decimal_more (n / 10) (n % 10) (omega arith) (omega arith)) ∙ ap decimal (div-add-mod' n 10)

pub decimal_last : (n : ℕ) → n < 10 → (48 + n % 10) ∷ [] ≡ decimal n
decimal_last n h = rw (mod-eq_of_lt h) (sym (decimal_digit n h))

decimal_length : (k n : ℕ) → n < 10 ^ suc k → (1 ≤ length (decimal n)) × (length (decimal n) ≤ suc k)
decimal_length zero n h = omega (arith, ap length (decimal_last n h))
decimal_length (suc k) n h =
    ⊎_elim (λ (l : n < 10). omega (arith, ap length (decimal_last n l)))
    (λ (l : 10 ≤ n). omega (arith, ap length (decimal_split n l), length-append (decimal (n / 10)) ((48 + n % 10) ∷ []), decimal_length k (n / 10) (omega (arith, pow-suc 10 (suc k)))))
    (lt_or_le n 10)

-- a number in range has one to ten digits
pub digits_count : (n : ℕ) → n ≤ largest → (1 ≤ length (decimal n)) × (length (decimal n) ≤ 10)
digits_count n h = decimal_length 9 n (omega arith)

-- ---- a byte in hex
pub put_hex : (s : List ℕ) (x : ℕ) {h l : ℕ} {r q : List ℕ} → x < 256 → h ≡ hex_digit (x / 16 % 16) → r ≡ put_byte s h → l ≡ hex_digit (x % 16) → q ≡ put_byte r l → q ≡ put_all s (hex_field x)
unfolding hex_field put_all
put_hex s x b e f g k =
    let z : x / 16 % 16 ≡ x / 16 = omega arith in
    k ∙ (λ i. put_byte ((f ∙ ap (λ (d : ℕ). put_byte s d) (e ∙ ap hex_digit z)) i) (g i))

-- ---- a decimal, its last digit last
pub put_last : (s : List ℕ) (n : ℕ) {r : List ℕ} → n < 10 → r ≡ put_byte s (48 + n % 10) → r ≡ put_all s (decimal n)
put_last s n h e = e ∙ sym (put_one s (48 + n % 10)) ∙ ap (λ (w : List ℕ). put_all s w) (decimal_last n h)

pub put_digits : (s : List ℕ) (n : ℕ) {q r : List ℕ} → 10 ≤ n → q ≡ put_all s (decimal (n / 10)) → r ≡ put_byte q (48 + n % 10) → r ≡ put_all s (decimal n)
put_digits s n h e f =
    f ∙ ap (λ (q : List ℕ). put_byte q (48 + n % 10)) e
    ∙ sym (put_one (put_all s (decimal (n / 10))) (48 + n % 10))
    ∙ put_then s (decimal (n / 10)) ((48 + n % 10) ∷ [])
    ∙ ap (λ (w : List ℕ). put_all s w) (decimal_split n h)
