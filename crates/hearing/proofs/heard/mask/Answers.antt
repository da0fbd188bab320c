-- `hearing::heard::mask` meets its contract: each turn puts the next station's bit below the mask; shifted to their
-- places, the bits are those of the stations from the first on.
use Rattle.std.proofs.Common.{◌≡◌, ◌<◌, min, ◌-◌, sym, arith}
use Rattle.run.specs.Run.{stations}
use Rattle.hearing.proofs.Downward.{one_more, fits, room, from_none, from_more, from_shifted}
use Rattle.hearing.proofs.heard.mask.Goals as goal

pub loop-q-init : goal.loop-q-init
loop-q-init g c =
    let all : c.places-q.result ≡ min c.args.n stations = c.places-q.ensures in
    (omega arith, room (min c.args.n stations - c.places-q.result), λ X h. rw all (sym (from_none (min c.args.n stations) X)))

pub loop-q-preserved : goal.loop-q-preserved
loop-q-preserved g c = (
  omega arith,
  rw c.grown-set.ensures (one_more _ c.loop-q.q c.loop-q.set c.test.result (omega arith) (omega arith)
      c.loop-q.invariant.1),
  λ X h.
      let last : c.loop-q.q - 1 < min c.args.n stations = omega arith in
      rw (c.grown-set.ensures, c.loop-q.invariant.2 X h, h (c.loop-q.q - 1) c.test.result last c.test.ensures)
      (from_more _ X c.loop-q.q (omega arith) (omega arith)),
)

pub grown-set-requires : goal.grown-set-requires
grown-set-requires g c =
    fits (min c.args.n stations) c.loop-q.q c.loop-q.set (omega arith) (omega arith) (omega arith) c.loop-q.invariant.1

pub overflow_shl-result : goal.overflow_shl-result
overflow_shl-result g c = c.requires.least.1

pub returns : goal.returns
returns g c = λ X h.
    let done : c.loop-q.q ≡ c.args.first = omega arith in
    rw (rw done at (c.loop-q.invariant.2 X h)) (from_shifted _ _ X c.requires.least.0 (omega arith))
