-- `image::save` meets its contract: a run that is not sound and a buffer of another length are refused with nothing
-- written; else the buffer is filled.
use Rattle.run.proofs.Asked.{fails, passes}
use Rattle.image.proofs.Images.{save_unsound, save_misfit, save_fit}
use Rattle.image.proofs.save.Goals as goal

pub returns-then-not-sound-clause-bytes : goal.returns-then-not-sound-clause-bytes
returns-then-not-sound-clause-bytes c = (save_unsound _ _ (fails c.sound.ensures c.if-not-sound.true)).1

pub returns-then-out-image_length-clause-bytes : goal.returns-then-out-image_length-clause-bytes
returns-then-out-image_length-clause-bytes c =
    (save_misfit _ _ (passes c.sound.ensures c.if-not-sound.false)
    (rw c.image_length.ensures at c.if-out-image_length.true)).1

pub returns-clause-bytes : goal.returns-clause-bytes
returns-clause-bytes c =
    rw c.put_image.ensures
    (save_fit _ _ (passes c.sound.ensures c.if-not-sound.false)
    (rw c.image_length.ensures at c.if-out-image_length.false)).1
