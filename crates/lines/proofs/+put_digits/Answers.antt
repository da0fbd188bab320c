-- `lines::put_digits` meets its contract: the last digit goes behind the others, which the call puts.
use Rattle.std.proofs.Common.{◌<◌, length, arith}
use Rattle.lines.specs.Text.{spelled}
use Rattle.lines.proofs.Putting.{put_nothing, put_one, put_digit, put_last_digit}
use Rattle.lines.proofs.+put_digits.Goals as goal

pub returns-then-most-eq0-clause-put : goal.returns-then-most-eq0-clause-put
unfolding spelled
returns-then-most-eq0-clause-put t c = rw c.if-most-eq0.true (put_nothing _ _)

pub returns-then-x-lt-TEN-clause-put : goal.returns-then-x-lt-TEN-clause-put
returns-then-x-lt-TEN-clause-put t c =
    let room : 0 < length c.args.out.now = omega arith in
    put_digit _ _ (put_one _ 0 _ room) c.digit.ensures c.if-most-eq0.false c.if-x-lt-TEN.true

pub returns-clause-put : goal.returns-clause-put
returns-clause-put t c =
    let room : c.put_digits-end.result < length c.put_digits-end.new.out = omega arith in
    put_last_digit _ _ c.put_digits-end.ensures.put (put_one _ _ _ room) c.digit-2.ensures c.if-most-eq0.false
    c.if-x-lt-TEN.false
