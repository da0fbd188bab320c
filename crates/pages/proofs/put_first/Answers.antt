-- `pages::put_first` meets its contract: the opening's reply tells which line is put.
use Rattle.std.proofs.Common.{sym, ◌∙◌}
use Rattle.pages.proofs.Paged.{refusal_put, setup_put}
use Rattle.pages.proofs.put_first.Goals as goal

pub returns-then-is_err : goal.returns-then-is_err
returns-then-is_err c =
    rw (← c.open-opened.ensures)
    (refusal_put c.put_refusal-end.ensures.upper_bound c.open-opened.result (sym c.is_err.ensures.value ∙ c.if-is_err.true)
    c.put_refusal-end.ensures.put_if)

pub returns : goal.returns
returns c =
    rw (← c.open-opened.ensures)
    (setup_put c.put_setup-end.ensures.upper_bound c.open-opened.result (sym c.is_err.ensures.value ∙ c.if-is_err.false)
    c.put_setup-end.ensures.put_if)
