-- `lines::put_line` meets its contract: where the line fits it is put, and else nothing is written. The pen's buffer is
-- still the one that was handed in, so what it left there stands in it.
use Rattle.std.proofs.Common.{◌≡◌, ℕ, List, sym, leb-true, refl, rules}
use Rattle.std.specs.Fn.{FnOnceReturnsAtMut}
use Rattle.run.proofs.Asked.{passes}
use Rattle.lines.specs.declared.Pen.{Pen}
use Rattle.lines.specs.Text.{RoomFor, Put, Within, Writes, IsShort, IsLine, longest}
use Rattle.lines.proofs.put_line.Goals as goal

module _ {post : Pen → Pen → Type 0} {p q : Pen} where
  short : IsShort post → post p q → RoomFor p longest → Within p longest q
  short says ran room = says p q room ran

  line : {text : List ℕ} → IsLine post text → post p q → RoomFor p longest → Writes p text q
  line says ran room = says p q room ran

module _ {before : List ℕ} {at : ℕ} {text : List ℕ} {end : ℕ} {after now : List ℕ} where
  stands : Put before at text end after → now ≡ after → Put before at text end now
  stands put same = rw same put

pub returns-clause-put_if : goal.returns-clause-put_if
returns-clause-put_if g c = λ text says.
    let ran : FnOnceReturnsAtMut g.F.FnOnce c.args.line _ tt c.line.new.arg2 =
    record { shown = _; shows = refl; left = _; met = c.line.ensures; leaves = refl } in
    let fits = passes c.has_room.ensures c.if-not-has_room.false in
    let room = leb-true _ _ fits in
    let same = sym (short c.requires.short ran room).same_reference in
    rw fits (stands (line says ran room) (search rules))

pub returns-clause-upper_bound : goal.returns-clause-upper_bound
returns-clause-upper_bound g c =
    let ran : FnOnceReturnsAtMut g.F.FnOnce c.args.line _ tt c.line.new.arg2 =
    record { shown = _; shows = refl; left = _; met = c.line.ensures; leaves = refl } in
    let room = leb-true _ _ (passes c.has_room.ensures c.if-not-has_room.false) in
    (short c.requires.short ran room).upper_bound
