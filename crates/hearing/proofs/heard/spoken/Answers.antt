-- `hearing::heard::spoken` meets its contract: its array holds each cell's code, and its mask who sent a value.
use Rattle.std.proofs.Common.{rules, ℕ, List, ◌∙◌}
use mathlib.Core.Path.{ap₂}
use Rattle.hearing.specs.Surveying.{row_of}
use Rattle.hearing.specs.Counting.{among, any, code_of, spoken_in}
use Rattle.hearing.proofs.Downward.{from_first}
use Rattle.hearing.proofs.heard.spoken.Goals as goal

pub returns : goal.returns
unfolding spoken_in
returns c =
    let row = row_of c.args.cells in
    ap₂ (λ (a : List ℕ) (b : ℕ). record { codes = a; senders = b })
    (rw c.places.ensures at c.filled-codes.ensures (λ q. code_of (row q)) (λ q x l p. search rules))
    (c.mask-senders.ensures (among any row) (λ q b l p. search rules) ∙ from_first _ (among any row))
