-- A cell whose value and mask are bytes.
use Rattle.std.specs.Prelude.{◌<◌}
use Rattle.cell.specs.declared.Cell.{Cell}

-- value and mask are bytes
unfoldable pub ByteCell : Cell → Type 0
ByteCell c = (c.value < 256) × (c.mask < 256)
