-- The twelve sentences of the bench sheet hold.
use Rattle.record.specs.declared.Chip.{Chip}
use Rattle.demands.specs.Bench.{AllHold}
use Rattle.demands.specs.Demands.{BenchSheet}
use Rattle.demands.proofs.BenchCases.{case1, case2, case3, case4, case5, case6, case7, case8, case9, case10, case11, case12}

-- the twelve sentences hold of all images of the chips' lengths
pub bench_sheet : BenchSheet
unfolding AllHold
bench_sheet x h = (
  case1 x (h Chip.Flash),
  (
    case2 x (h Chip.Flash),
    (
      case3 x (h Chip.Flash),
      (
        case4 x (h Chip.Flash),
        (
          case5 x (h Chip.Flash),
          (
            case6 x (h Chip.Flash),
            (
              case7 x (h Chip.Flash),
              (
                case8 x (h Chip.Flash),
                (
                  case9 x (h Chip.Eeprom),
                  (
                    case10 x (h Chip.Eeprom),
                    (
                      case11 x,
                      (case12 x, tt),
                    ),
                  ),
                ),
              ),
            ),
          ),
        ),
      ),
    ),
  ),
)
