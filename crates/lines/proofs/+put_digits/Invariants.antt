-- The measure of `lines::put_digits` is the digits that may be put.
use Rattle.lines.proofs.+put_digits.Given as goal

abbrev pub decreases-put_digits : goal.decreases-put_digits
decreases-put_digits l = l.most
