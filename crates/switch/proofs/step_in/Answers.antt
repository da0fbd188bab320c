-- `switch::step_in` meets its contract: where nothing refuses, the next run's image is as long as the one under it.
use Rattle.std.proofs.Common.{◌≡◌, ap, sym, ◌∙◌}
use Rattle.run.specs.declared.Opened.{Opened}
use Rattle.run.specs.Reply.{Accepted}
use Rattle.image.specs.Image.{check_image}
use Rattle.image.proofs.Images.{loaded_reply}
use Rattle.judge.specs.declared.Stepped.{Stepped}
use Rattle.judge.specs.Step.{check_step, step_of}
use Rattle.judge.proofs.Steps.{reply_is}
use Rattle.switch.specs.Switch.{loaded_run}
use Rattle.switch.proofs.Calls.{round_taken}
use Rattle.switch.proofs.step_in.Goals as goal

pub returns-clause-bytes : goal.returns-clause-bytes
returns-clause-bytes c =
    let good : check_image c.args.image.now ≡ Accepted =
    sym (ap (λ (o : Opened). o.reply) c.load-loaded.ensures ∙ loaded_reply _) ∙ c.in_ok-loaded.was in
    let stepped : c.step-stepped.result ≡ step_of (loaded_run c.args.image.now) c.args.round.now =
    rw c.load-loaded.ensures at c.step-stepped.ensures in
    let judged : check_step (loaded_run c.args.image.now) c.args.round.now ≡ Accepted =
    sym (ap (λ (s : Stepped). s.reply) stepped ∙ reply_is _ _) ∙ c.in_ok-stepped.was in
    rw (c.put_image.ensures, stepped) (round_taken _ _ good judged).1
