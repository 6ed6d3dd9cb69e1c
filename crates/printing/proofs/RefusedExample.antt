-- The listing of a refusal is what is printed of its text.
use mathlib.Core.Path.{refl}
use Rattle.law.specs.Words.{All}
use Rattle.record.specs.declared.Answer.TheVariants.{BadLine}
use Rattle.field.specs.Hex.{hex_digit, hex_field}
use Rattle.field.specs.Digit.{digit_field}
use Rattle.field.specs.Decimal.{digits_in, decimal}
use Rattle.line.specs.Boards.{spelled_places, spelled_board}
use Rattle.line.proofs.Examples.{typed_wrong_lem}
use Rattle.demands.proofs.TypedWrong.{refused_second}
use Rattle.listing.specs.Lines.{refused_line}
use Rattle.printing.specs.Printed.{all_taken, printed_of}
use Rattle.printing.specs.Example.{no_dumps, refused_text, RefusedPrinted}
use Rattle.printing.proofs.Some.{bad_printed}

-- its second line is the third of those typed wrong
pub refused_printed : RefusedPrinted
unfolding All all_taken spelled_board spelled_places hex_field hex_digit digit_field decimal digits_in refused_line
refused_printed = bad_printed printed_of refused_text no_dumps refl refl BadLine 2 5 (refused_second _ 5 typed_wrong_lem.1.1.0)
