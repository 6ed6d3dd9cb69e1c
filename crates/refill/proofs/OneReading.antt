-- A list's bytes are read in one way: as many entries, spelled one after the other from the same start, are the same entries. Assumes nothing.
use Prim.Native.Nat.{ℕ, ◌-◌, ◌*◌, ◌/◌, ◌%◌, ◌≤◌, ◌<◌}
use mathlib.Core.Path.{◌≡◌, refl, sym, ap, ap₂, ◌∙◌}
use mathlib.Core.List.{List, [], ◌∷◌, ◌++◌, append_assoc}
use native.Mathlib.Omega.{arith}
use lib.ListN.{length, get_or, take, drop, take-append-drop}
use lib.Seq.{take_at, drop_at}
use Rattle.law.specs.Words.{All}
use Rattle.page.specs.Geometry.{flash_page, flash_sector, flash_sectors}
use Rattle.record.specs.Word.{word}
use Rattle.field.specs.Decimal.{largest}
use Rattle.fewest.specs.Entries.{Entry, sector_erase, chip_erase, program}
use Rattle.fewest.specs.Fewest.{spelled_list}
use Rattle.fewest.specs.Call.{Left}
use Rattle.refill.specs.Refill.{Sized, Read}

-- byte k
at : (k : ℕ) {x y : List ℕ} → x ≡ y → get_or x k 0 ≡ get_or y k 0
at k e = ap (λ (l : List ℕ). get_or l k 0) e

-- ---- numbers by their bytes

low_byte : (a b : ℕ) → a % 256 ≡ b % 256 → a / 256 ≡ b / 256 → a ≡ b
low_byte a b p q = omega arith

-- an address below 2 ^ 24
address_one : (a b : ℕ) → a < 16777216 → b < 16777216 → a / 65536 % 256 ≡ b / 65536 % 256 → a / 256 % 256 ≡ b / 256 % 256 → a % 256 ≡ b % 256 → a ≡ b
address_one a b la lb x y z =
    let high : a / 65536 ≡ b / 65536 = omega arith in
    let middle : a / 256 / 256 ≡ b / 256 / 256 = omega arith in
    low_byte a b z (low_byte (a / 256) (b / 256) y middle)

-- four bytes
word_one : (a b : ℕ) → a ≤ largest → b ≤ largest → word a ≡ word b → a ≡ b
word_one a b la lb e =
    low_byte a b (at 0 e) (address_one (a / 256) (b / 256) (omega arith) (omega arith) (fourth a b (at 3 e)) (third a b (at 2 e)) (at 1 e))
  where
    fourth : (a b : ℕ) → a / 16777216 % 256 ≡ b / 16777216 % 256 → a / 256 / 65536 % 256 ≡ b / 256 / 65536 % 256
    fourth a b h = omega arith

    third : (a b : ℕ) → a / 65536 % 256 ≡ b / 65536 % 256 → a / 256 / 256 % 256 ≡ b / 256 / 256 % 256
    third a b h = omega arith

-- ---- entries

sector_one : (s t : ℕ) → (1 ≤ s) × (s ≤ flash_sectors) → (1 ≤ t) × (t ≤ flash_sectors) → flash_sector * (s - 1) ≡ flash_sector * (t - 1) → s ≡ t
sector_one s t a b e = omega (arith, a.0, a.1, b.0, b.1)

page_one : (n k : ℕ) → flash_page * n ≡ flash_page * k → n ≡ k
page_one n k e = omega arith

-- kinds are told apart by their numbers
other_kind : {A : Type 0} (a b : ℕ) → a < b → a ≡ b → A
other_kind a b l e = absurd (omega arith)

-- whatever stands behind
pub same_entries : (os ps : List Entry) → All Sized os → All Sized ps → length os ≡ length ps → (x y : List ℕ) → spelled_list os ++ x ≡ spelled_list ps ++ y → os ≡ ps
unfolding All spelled_list
same_entries [] [] f g n x y e = refl
same_entries [] (p ∷ ps) f g n x y e = absurd (omega arith)
same_entries (o ∷ os) [] f g n x y e = absurd (omega arith)
same_entries (sector_erase s ∷ os) (sector_erase t ∷ ps) f g n x y e =
    let a = f.0 in
    let b = g.0 in
    let same = address_one (flash_sector * (s - 1)) (flash_sector * (t - 1)) (omega (arith, a.1)) (omega (arith, b.1)) (at 1 e) (at 2 e) (at 3 e) in
    ap₂ (λ (z : ℕ) (zs : List Entry). sector_erase z ∷ zs) (sector_one s t a b same) (same_entries os ps f.1 g.1 (omega arith) x y (ap (drop 4) e))
same_entries (sector_erase s ∷ os) (chip_erase ∷ ps) f g n x y e = other_kind 1 2 (omega arith) (at 0 e)
same_entries (sector_erase s ∷ os) (program k cs ∷ ps) f g n x y e = other_kind 1 3 (omega arith) (at 0 e)
same_entries (chip_erase ∷ os) (sector_erase t ∷ ps) f g n x y e = other_kind 1 2 (omega arith) (sym (at 0 e))
same_entries (chip_erase ∷ os) (chip_erase ∷ ps) f g n x y e =
    ap (λ (zs : List Entry). chip_erase ∷ zs) (same_entries os ps f.1 g.1 (omega arith) x y (ap (drop 4) e))
same_entries (chip_erase ∷ os) (program k cs ∷ ps) f g n x y e = other_kind 2 3 (omega arith) (at 0 e)
same_entries (program j bs ∷ os) (sector_erase t ∷ ps) f g n x y e = other_kind 1 3 (omega arith) (sym (at 0 e))
same_entries (program j bs ∷ os) (chip_erase ∷ ps) f g n x y e = other_kind 2 3 (omega arith) (sym (at 0 e))
same_entries (program j bs ∷ os) (program k cs ∷ ps) f g n x y e =
    let a = f.0 in
    let b = g.0 in
    let same = address_one (flash_page * j) (flash_page * k) (omega (arith, a.0)) (omega (arith, b.0)) (at 1 e) (at 2 e) (at 3 e) in
    let rest : bs ++ (spelled_list os ++ x) ≡ cs ++ (spelled_list ps ++ y) = sym (append_assoc bs (spelled_list os) x) ∙ ap (drop 4) e ∙ append_assoc cs (spelled_list ps) y in
    let same-data : bs ≡ cs = sym (take_at bs (spelled_list os ++ x) flash_page a.1) ∙ ap (take flash_page) rest ∙ take_at cs (spelled_list ps ++ y) flash_page b.1 in
    let behind : spelled_list os ++ x ≡ spelled_list ps ++ y = sym (drop_at bs (spelled_list os ++ x) flash_page a.1) ∙ ap (drop flash_page) rest ∙ drop_at cs (spelled_list ps ++ y) flash_page b.1 in
    ap₂ (λ (z : Entry) (zs : List Entry). z ∷ zs) (ap₂ (λ (z : ℕ) (zs : List ℕ). program z zs) (page_one j k same) same-data)
    (same_entries os ps f.1 g.1 (omega arith) x y behind)

-- from the start of one list
pub one_reading : (os ps : List Entry) (l : List ℕ) → All Sized os → All Sized ps → length os ≡ length ps
    → take (length (spelled_list os)) l ≡ spelled_list os → take (length (spelled_list ps)) l ≡ spelled_list ps → os ≡ ps
one_reading os ps l f g n a b = same_entries os ps f g n (drop (length (spelled_list os)) l) (drop (length (spelled_list ps)) l) (sym (whole os a) ∙ whole ps b)
  where
    whole : (zs : List Entry) → take (length (spelled_list zs)) l ≡ spelled_list zs → l ≡ spelled_list zs ++ drop (length (spelled_list zs)) l
    whole zs h =
        sym (take-append-drop (length (spelled_list zs)) l)
        ∙ ap (λ (z : List ℕ). z ++ drop (length (spelled_list zs)) l) h

-- so a caller reads one list of entries off what a call leaves
pub read_one : (left : Left) (os ps : List Entry) → Read left os → Read left ps → os ≡ ps
read_one left os ps a b =
    let same : word (length os) ≡ word (length ps) = ap (drop 4) (sym a.number ∙ b.number) in
    one_reading os ps left.list a.sized b.sized (word_one (length os) (length ps) a.number_fits b.number_fits same) a.spelled b.spelled
