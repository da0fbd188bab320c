-- The bench sheet holds: the checker computes what opening and taking a round answer to the bytes of each case.
use mathlib.Core.Path.{◌≡◌, refl}
use mathlib.Core.Bool.{true}
use Rattle.paper.specs.Setup.{acceptable, tolerated, passes_bound}
use Rattle.paper.specs.Heard.{AHO}
use Rattle.paper.specs.Rules.{sends, after, fired}
use Rattle.run.specs.Block.{record_of, numbers_in}
use Rattle.run.specs.Filled.{tabulate}
use Rattle.run.specs.First.{first}
use Rattle.run.specs.Number.{number, digits}
use Rattle.run.specs.Record.{record_at, record_from}
use Rattle.sheet.specs.Sheet.{sheet, test}

pub sheet_holds : test sheet ≡ true
unfolding test sheet acceptable tolerated passes_bound AHO sends after fired record_of numbers_in tabulate
    first number digits record_at record_from
sheet_holds = refl
