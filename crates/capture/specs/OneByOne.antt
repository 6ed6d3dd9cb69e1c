-- The lines of a text from a place on, one after another: said once for a trace's records and a capture's level lines. Each x : A is spelled by `spell`, and `all` spells a list of them.
use Rattle.std.specs.Prelude.{ℕ, ◌≡◌, refl, List, [], ◌∷◌, ◌++◌, drop}
use Rattle.law.specs.Words.{All}
use Rattle.record.specs.declared.Record.{Record}
use Rattle.line.specs.Records.{spelled, RecordOk}
use Rattle.text.specs.Texts.{spelled_all}
use Rattle.level.specs.declared.Level.{Level}
use Rattle.level.specs.Spelled.{spelled_level, LevelOk}
use Rattle.capture.specs.Captures.{spelled_levels}

-- how lines of a kind are spelled
pub record Lines (A : Type 0) : Type 1 where
  pub spell : A → List ℕ
  pub all : List A → List ℕ
  pub Ok : A → Type 0
  pub nil : all [] ≡ []
  pub cons : (x : A) (xs : List A) → all (x ∷ xs) ≡ spell x ++ all xs

-- from the place on the text is the lines xs
pub record From {A : Type 0} (k : Lines A) (text : List ℕ) (at : ℕ) (xs : List A) : Type 0 where
  pub fits : All k.Ok xs
  pub is : drop at text ≡ k.all xs

-- the two kinds
unfoldable pub records : Lines Record
unfolding spelled_all
records = record { spell = spelled; all = spelled_all; Ok = RecordOk; nil = refl; cons = λ r rs. refl }

unfoldable pub levels : Lines Level
unfolding spelled_levels
levels = record { spell = spelled_level; all = spelled_levels; Ok = LevelOk; nil = refl; cons = λ l ls. refl }
