-- `switch::open_into` meets its contract: where nothing refuses, the buffer is as long as the image that is put into it.
use Rattle.std.proofs.Common.{◌≡◌, ap, sym, ◌∙◌}
use Rattle.run.specs.declared.Opened.{Opened}
use Rattle.run.specs.Reply.{Accepted}
use Rattle.run.specs.Opening.{check_opening}
use Rattle.run.proofs.Openings.{opened_reply}
use Rattle.switch.proofs.Calls.{open_fit}
use Rattle.switch.proofs.open_into.Goals as goal

pub returns-clause-bytes : goal.returns-clause-bytes
returns-clause-bytes c =
    let good : check_opening c.args.opening.now ≡ Accepted =
    sym (ap (λ (o : Opened). o.reply) c.open-opened.ensures ∙ opened_reply _) ∙ c.in_ok-opened.was in
    rw (c.put_image.ensures, c.open-opened.ensures)
    (open_fit _ _ good (rw (c.image_length.ensures, c.open-opened.ensures) at c.if-image-image_length.false)).1
