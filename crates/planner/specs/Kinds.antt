-- The kind byte of an entry, as `spelled_entry` has it.
use Rattle.std.specs.Prelude.{ℕ, ◌≡◌, Result, MatchResult}
use Rattle.planner.specs.declared.Kind.{Kind}
use Rattle.planner.specs.declared.Kind.TheVariants.{SectorErase, ChipErase, Program}
use Rattle.planner.specs.declared.UnknownKind.{UnknownKind}

abbrev pub kind_byte : Kind → ℕ
kind_byte SectorErase = 1
kind_byte ChipErase = 2
kind_byte Program = 3

-- what a byte tells: the kind of that byte, or that it is the byte of none
abbrev pub Tells : ℕ → Result Kind UnknownKind → Type 0
Tells n r = MatchResult r (λ kind. kind_byte kind ≡ n) (λ e. (e ≡ record { 0 = n }) × ((kind : Kind) → kind_byte kind ≡ n → ⊥))
