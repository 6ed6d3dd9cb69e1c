-- A level line's parts, one after another.
use Prim.Native.Nat.{ℕ}
use mathlib.Core.Bool.{Bool}
use mathlib.Core.Path.{◌≡◌, refl, sym, ap}
use mathlib.Core.List.{List, [], ◌++◌, append-nil, append_assoc}
use Rattle.std.specs.Prelude.{Option, Some, None}
use Rattle.field.specs.declared.Cursor.{Cursor}
use Rattle.field.specs.Ends.{tab_byte, lf_byte, tab}
use Rattle.field.specs.Decimal.{decimal}
use Rattle.field.proofs.Reading.{Tells, Got, seq_end}
use Rattle.field.proofs.Answers.{at_same, No}
use Rattle.level.specs.declared.Spi.{Spi}
use Rattle.level.specs.declared.Wires.{Wires}
use Rattle.level.specs.declared.Level.{Level}
use Rattle.level.specs.Spelled.{spelled_spi, spelled_wires, spelled_level, ReadsLevel}
use Rattle.level.specs.Readers.{spelled_flag, ReadsSpi, ReadsWires}
use Rattle.level.proofs.Parts.{seq_none, seq_then}
use Rattle.level.proofs.StampLaws.{Small, spelled_stamp, GotStamp}

-- each reader's answer is an option of a value and the next place
pub tells_some : {A : Type 0} → Tells {A = A} {R = Option (A × Cursor)} (λ x p. Some (x, record { at = p })) None
tells_some {A} = record {
  apart = λ x p e. cc;
  same = λ x y p q e.
      let pairs : ◌≡◌ {A = A × Cursor} (x, record { at = p }) (y, record { at = q }) = cc in
      (ap (λ (z : A × Cursor). z.0) pairs, at_same (ap (λ (z : A × Cursor). z.1) pairs));
}

pub tells_level : Tells {A = Level} {R = Option (Level × Cursor)} (λ x p. Some (x, record { at = p })) None
tells_level = tells_some

abbrev pub Any : {A : Type 0} → A → Type 0
Any _ = Unit {0}

abbrev pub GotFlag : ℕ → List ℕ → ℕ → Bool → ℕ → Type 0
GotFlag end text at a p = Got (spelled_flag end) Any text at a p

abbrev pub NoFlag : ℕ → List ℕ → ℕ → Type 0
NoFlag end text at = No (spelled_flag end) Any text at

-- ---- the flash's lines: what follows each digit
abbrev flag : Bool → List ℕ
flag = spelled_flag tab_byte

abbrev after4 : Spi → List ℕ
after4 x = flag x.hold

abbrev after3 : Spi → List ℕ
after3 x = flag x.so ++ after4 x

abbrev after2 : Spi → List ℕ
after2 x = flag x.si ++ after3 x

abbrev after1 : Spi → List ℕ
after1 x = flag x.sck ++ after2 x

spi_parts : (x : Spi) → spelled_spi x ≡ flag x.cs ++ after1 x
unfolding spelled_spi spelled_flag
spi_parts x = refl

module _ {text : List ℕ} {at : ℕ} where
  pub spi_1 : NoFlag tab_byte text at → ReadsSpi text at None
  spi_1 n = seq_none (λ (x : Spi). x.cs) after1 spi_parts (λ x o. tt) n

  module _ {cs : Bool} {p1 : ℕ} (g1 : GotFlag tab_byte text at cs p1) where
    pub spi_2 : NoFlag tab_byte text p1 → ReadsSpi text at None
    spi_2 n = seq_then (λ (x : Spi). x.cs) after1 spi_parts (λ x o. tt) g1 (seq_none (λ (x : Spi). x.sck) after2 (λ x. refl) (λ x o. tt) n)

    module _ {sck : Bool} {p2 : ℕ} (g2 : GotFlag tab_byte text p1 sck p2) where
      pub spi_3 : NoFlag tab_byte text p2 → ReadsSpi text at None
      spi_3 n =
          seq_then (λ (x : Spi). x.cs) after1 spi_parts (λ x o. tt) g1
          (seq_then (λ (x : Spi). x.sck) after2 (λ x. refl) (λ x o. tt) g2
          (seq_none (λ (x : Spi). x.si) after3 (λ x. refl) (λ x o. tt) n))

      module _ {si : Bool} {p3 : ℕ} (g3 : GotFlag tab_byte text p2 si p3) where
        pub spi_4 : NoFlag tab_byte text p3 → ReadsSpi text at None
        spi_4 n =
            seq_then (λ (x : Spi). x.cs) after1 spi_parts (λ x o. tt) g1
            (seq_then (λ (x : Spi). x.sck) after2 (λ x. refl) (λ x o. tt) g2
            (seq_then (λ (x : Spi). x.si) after3 (λ x. refl) (λ x o. tt) g3
            (seq_none (λ (x : Spi). x.so) after4 (λ x. refl) (λ x o. tt) n)))

        module _ {so : Bool} {p4 : ℕ} (g4 : GotFlag tab_byte text p3 so p4) where
          pub spi_5 : NoFlag tab_byte text p4 → ReadsSpi text at None
          spi_5 n =
              seq_then (λ (x : Spi). x.cs) after1 spi_parts (λ x o. tt) g1
              (seq_then (λ (x : Spi). x.sck) after2 (λ x. refl) (λ x o. tt) g2
              (seq_then (λ (x : Spi). x.si) after3 (λ x. refl) (λ x o. tt) g3
              (seq_then (λ (x : Spi). x.so) after4 (λ x. refl) (λ x o. tt) g4
              (seq_none (λ (x : Spi). x.hold) (λ x. []) (λ x. sym (append-nil (flag x.hold))) (λ x o. tt) n))))

          pub spi_all : {hold : Bool} {p5 : ℕ} → GotFlag tab_byte text p4 hold p5 →
              ReadsSpi text at (Some (record { cs = cs; sck = sck; si = si; so = so; hold = hold }, record { at = p5 }))
          spi_all {hold} g5 =
              seq_then (λ (x : Spi). x.cs) after1 spi_parts (λ x o. tt) g1
              (seq_then (λ (x : Spi). x.sck) after2 (λ x. refl) (λ x o. tt) g2
              (seq_then (λ (x : Spi). x.si) after3 (λ x. refl) (λ x o. tt) g3
              (seq_then (λ (x : Spi). x.so) after4 (λ x. refl) (λ x o. tt) g4
              (seq_then (λ (x : Spi). x.hold) (λ x. []) (λ x. sym (append-nil (flag x.hold))) (λ x o. tt) g5
              (seq_end (record { cs = cs; sck = sck; si = si; so = so; hold = hold }) (((((tt, refl), refl), refl), refl), refl)
              (λ y o. λ i. record { cs = o.0.0.0.0.1 i; sck = o.0.0.0.1 i; si = o.0.0.1 i; so = o.0.1 i; hold = o.1 i }))))))

-- ---- the two wires
abbrev last : Wires → List ℕ
last x = spelled_flag lf_byte x.sda

wires_parts : (x : Wires) → spelled_wires x ≡ flag x.scl ++ last x
unfolding spelled_wires spelled_flag
wires_parts x = refl

module _ {text : List ℕ} {at : ℕ} where
  pub wires_1 : NoFlag tab_byte text at → ReadsWires text at None
  wires_1 n = seq_none (λ (x : Wires). x.scl) last wires_parts (λ x o. tt) n

  module _ {scl : Bool} {p1 : ℕ} (g1 : GotFlag tab_byte text at scl p1) where
    pub wires_2 : NoFlag lf_byte text p1 → ReadsWires text at None
    wires_2 n =
        seq_then (λ (x : Wires). x.scl) last wires_parts (λ x o. tt) g1
        (seq_none (λ (x : Wires). x.sda) (λ x. []) (λ x. sym (append-nil (last x))) (λ x o. tt) n)

    pub wires_all : {sda : Bool} {p2 : ℕ} → GotFlag lf_byte text p1 sda p2 → ReadsWires text at (Some (record { scl = scl; sda = sda }, record { at = p2 }))
    wires_all {sda} g2 =
        seq_then (λ (x : Wires). x.scl) last wires_parts (λ x o. tt) g1
        (seq_then (λ (x : Wires). x.sda) (λ x. []) (λ x. sym (append-nil (last x))) (λ x o. tt) g2
        (seq_end (record { scl = scl; sda = sda }) ((tt, refl), refl) (λ y o. λ i. record { scl = o.0.1 i; sda = o.1 i })))

-- ---- the whole line
abbrev pub pins : Level → List ℕ
pins x = spelled_spi x.spi ++ spelled_wires x.wires

pub level_parts : (x : Level) → spelled_level x ≡ spelled_stamp x.stamp ++ pins x
unfolding spelled_level spelled_stamp
level_parts x = sym (append_assoc (decimal x.stamp) tab (pins x))

module _ {text : List ℕ} {at : ℕ} where
  pub level_1 : No spelled_stamp Small text at → ReadsLevel text at None
  level_1 n = seq_none (λ (x : Level). x.stamp) pins level_parts (λ x o. o) n

  module _ {stamp p1 : ℕ} (g1 : GotStamp text at stamp p1) where
    pub level_2 : No spelled_spi Any text p1 → ReadsLevel text at None
    level_2 n =
        seq_then (λ (x : Level). x.stamp) pins level_parts (λ x o. o) g1
        (seq_none (λ (x : Level). x.spi) (λ x. spelled_wires x.wires) (λ x. refl) (λ x o. tt) n)

    module _ {spi : Spi} {p2 : ℕ} (g2 : Got spelled_spi Any text p1 spi p2) where
      pub level_3 : No spelled_wires Any text p2 → ReadsLevel text at None
      level_3 n =
          seq_then (λ (x : Level). x.stamp) pins level_parts (λ x o. o) g1
          (seq_then (λ (x : Level). x.spi) (λ x. spelled_wires x.wires) (λ x. refl) (λ x o. tt) g2
          (seq_none (λ (x : Level). x.wires) (λ x. []) (λ x. sym (append-nil (spelled_wires x.wires))) (λ x o. tt) n))

      pub level_all : {wires : Wires} {p3 : ℕ} → Got spelled_wires Any text p2 wires p3 →
          ReadsLevel text at (Some (record { stamp = stamp; spi = spi; wires = wires }, record { at = p3 }))
      level_all {wires} g3 =
          seq_then (λ (x : Level). x.stamp) pins level_parts (λ x o. o) g1
          (seq_then (λ (x : Level). x.spi) (λ x. spelled_wires x.wires) (λ x. refl) (λ x o. tt) g2
          (seq_then (λ (x : Level). x.wires) (λ x. []) (λ x. sym (append-nil (spelled_wires x.wires))) (λ x o. tt) g3
          (seq_end (record { stamp = stamp; spi = spi; wires = wires }) (((g1.ok, refl), refl), refl)
          (λ y o. λ i. record { stamp = o.0.0.1 i; spi = o.0.1 i; wires = o.1 i }))))
