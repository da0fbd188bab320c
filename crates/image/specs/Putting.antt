-- An image put into bytes part by part, as far as the bytes have the parts: how the code writes. That bytes of an
-- image's length are then the image is proved in proofs/Images.antt.
use Rattle.std.specs.Prelude.{ℕ, ◌+◌, List, [], ◌∷◌}
use Rattle.run.specs.declared.Run.{Run}
use Rattle.run.specs.Record.{put_at}
use Rattle.run.specs.Putting.{put_block, put_head}
use Rattle.image.specs.Image.{Block, clock_at, estimates_from, clock_record, blocks, station_record}

-- blocks one behind the other, from a record on
unfoldable pub put_blocks : List Block → Run → ℕ → List ℕ → List ℕ
put_blocks [] run start bs = bs
put_blocks (b ∷ rest) run start bs =
    put_blocks rest run (start + run.setup.n) (put_block bs start run.setup.n (station_record b run))

unfoldable pub put_image : List ℕ → Run → List ℕ
put_image bs run =
    put_blocks blocks run estimates_from
    (put_at (put_head bs run.setup run.default) clock_at (clock_record run.clock))
