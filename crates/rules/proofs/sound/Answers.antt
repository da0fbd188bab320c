-- `rules::sound` meets its contract: every place fits exactly if the search finds none that does not.
use Rattle.std.proofs.Common.{rules, ℕ, Bool, not}
use Rattle.run.specs.Run.{stations, place_fits_in, sound}
use Rattle.run.proofs.Places.{none_fails}
use Rattle.rules.proofs.sound.Goals as goal

pub returns-then-head_fits : goal.returns-then-head_fits
unfolding sound
returns-then-head_fits c =
    let misfits : ℕ → Bool = λ i. not (place_fits_in c.args.run i) in
    rw (← c.head_fits.ensures, c.if-head_fits.true)
    (none_fails stations (place_fits_in c.args.run) _
    (rw (c.first.ensures.first misfits (λ i x l p. search rules)) at c.is_none.ensures))

pub returns-else-head_fits : goal.returns-else-head_fits
unfolding sound
returns-else-head_fits c = rw (← c.head_fits.ensures, c.if-head_fits.false)
