-- How many records both texts give at most (proofs/Few.antt).
use Rattle.std.specs.Prelude.{ℕ}

abbrev pub most : ℕ
most = 25740
