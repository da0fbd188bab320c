-- `image::run_in` meets its contract: the records are read array by array.
use Rattle.image.proofs.Images.{run_in_is}
use Rattle.image.proofs.run_in.Goals as goal

pub returns : goal.returns
returns c =
    rw (
      run_in_is,
      c.numbers_in-4.ensures,
      c.numbers_in-3.ensures,
      c.flags_in-2.ensures,
      c.numbers_in-2.ensures,
      c.flags_in.ensures,
      c.numbers_in.ensures,
      c.record_at.ensures,
      c.default_in.ensures,
      c.rounds_from-rounds.ensures,
      c.decisions_from-decisions.ensures,
      c.votes_from-votes.ensures,
      c.setup_in-setup.ensures,
    )
