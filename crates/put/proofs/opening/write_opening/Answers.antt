-- `put::opening::write_opening` meets its contract: where the checks accept, the head and the starts are put into a
-- buffer that they fill.
use Rattle.std.proofs.Common.{rules, ◌≤◌, [], sym}
use Rattle.run.specs.Run.{stations}
use Rattle.run.specs.Block.{record_of, block_record}
use Rattle.run.specs.Opening.{starts_shape}
use Rattle.run.proofs.Asked.{stops}
use Rattle.run.proofs.Openings.{wrote_opening, wrote_nothing, writing_accepted}
use Rattle.run.proofs.Heads.{check_setup_accepted, in_range_iff}
use Rattle.put.proofs.opening.write_opening.Goals as goal

pub returns-in_err-check_write-clause-bytes : goal.returns-in_err-check_write-clause-bytes
returns-in_err-check_write-clause-bytes c = wrote_nothing _ _ _ _ (stops c.in_err-check_write.ensures)

pub put_each-requires : goal.put_each-requires
put_each-requires c =
    let set_up = ((writing_accepted _ _ _ _).0 (sym c.in_ok-check_write.ensures)).set_up in
    let few : c.args.setup.n ≤ stations = ((in_range_iff c.args.setup).0 ((check_setup_accepted c.args.setup).0 set_up).0).3 in
    λ i l. search rules

pub returns-clause-bytes : goal.returns-clause-bytes
unfolding record_of
returns-clause-bytes c =
    rw (c.put_each.ensures (block_record starts_shape [] c.args.starts) (λ i r l p. search rules), c.put_head.ensures)
    (wrote_opening _ _ _ [] _ (sym c.in_ok-check_write.ensures))
