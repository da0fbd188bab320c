-- `image::put_image` meets its contract: the head, the clock and the four blocks are put one after the other.
use Rattle.std.proofs.Common.{rules}
use Rattle.run.specs.Block.{record_of}
use Rattle.image.specs.Image.{station_record, estimates_block, votes_block, decisions_block, rounds_block}
use Rattle.image.specs.Putting.{put_image, put_blocks}
use Rattle.image.proofs.put_image.Goals as goal

pub returns : goal.returns
unfolding put_image put_blocks record_of
returns c =
    let run = c.args.run in
    rw (
      c.put_each-4.ensures (station_record rounds_block run) (λ i r l p. search rules),
      c.put_each-3.ensures (station_record decisions_block run) (λ i r l p. search rules),
      c.put_each-2.ensures (station_record votes_block run) (λ i r l p. search rules),
      c.put_each.ensures (station_record estimates_block run) (λ i r l p. search rules),
      c.put_record.ensures,
      c.put_head.ensures,
      c.plain.ensures,
      c.rounds_from.ensures,
      c.decisions_from.ensures,
      c.votes_from.ensures,
    )
