-- The count of a row: the value that came most often, the smallest of several, with its senders (rule 8.2), and the
-- smallest value that came often enough, by a test of how often it came (rule 9.6).
use Rattle.std.specs.Prelude.{ℕ, Bool, true, false}
use Rattle.std.specs.Prelude.{Option, None, Some}
use Rattle.paper.specs.Heard.{Row, R}
use Rattle.paper.specs.Rules.{times, smallest, most_often}
use Rattle.hearing.specs.declared.Tally.{Tally}
use Rattle.hearing.specs.Masks.{mask}

abbrev pub is_there : Option ℕ → Bool
is_there None = false
is_there (Some v) = true

abbrev pub value_or_0 : Option ℕ → ℕ
value_or_0 None = 0
value_or_0 (Some v) = v

abbrev pub senders_of : ℕ → Row → Option ℕ → ℕ
senders_of n row None = 0
senders_of n row (Some v) = mask n (R row v)

-- the most frequent value, its senders, and the smallest value that came often enough
unfoldable pub tally : ℕ → Row → (ℕ → Bool) → Tally
unfolding mask
tally n row enough =
    record {
      value = value_or_0 (smallest n row (most_often n row));
      senders = senders_of n row (smallest n row (most_often n row));
      least = smallest n row (λ v. enough (times n row v));
    }
