-- The runs that the code reads from bytes, and the idle run, fit their machine types: four bytes are a number of 32
-- bits.
use mathlib.Core.Path.{◌≡◌, refl}
use mathlib.Core.Bool.{Bool, true, false, cond}
use mathlib.Core.List.{List}
use Prim.Native.Nat.{ℕ, ◌+◌, ◌^◌, ◌<◌}
use native.Mathlib.Nat.{not-suc-le-zero}
use native.Mathlib.Omega.{arith}
use borrow.Author.Tests.{ltb-true, ltb-false}
use lib.Dec.{ltb}
use lib.ListN.{get_or}
use Rattle.run.specs.Bytes.{IsBytes}
use Rattle.run.specs.Reply.{is_accepted}
use Rattle.run.specs.Run.{stations, nothing, at_start, idle}
use Rattle.run.specs.Machine.{Words, Machine}
use Rattle.run.specs.Block.{numbers_in}
use Rattle.run.specs.Opening.{
  default_at,
  starts_from,
  setup_in,
  default_in,
  starts_in,
  check_opening,
  run_from,
  unopened,
  read_opening,
}
use Rattle.run.proofs.Records.{record_at_fits}
use Rattle.run.proofs.Blocks.{numbers_in_below, numbers_in_ends}
use Rattle.run.proofs.Built.{words, built_machine}
use Rattle.run.proofs.Openings.{read_opening_is}

pub numbers_in_words : (bs : List ℕ) (start n : ℕ) → IsBytes bs → Words (numbers_in bs start n)
numbers_in_words bs start n bytes = words (numbers_in bs start n) (numbers_in_ends bs start n).long
    (λ i l. go i l (ltb i n) refl)
  where
    go : (i : ℕ) → i < stations → (b : Bool) → ltb i n ≡ b → get_or (numbers_in bs start n) i 0 < 2 ^ 32
    go i l true q = rw (numbers_in_below bs start n i l (ltb-true _ _ q)) (record_at_fits (start + i) bytes).number
    go i l false q = rw ((numbers_in_ends bs start n).above i l (ltb-false _ _ q)) (omega arith)

pub idle_machine : Machine idle
unfolding idle
idle_machine = built_machine _ 0 0 0 (λ i. nothing) (omega arith) (λ i l. absurd (not-suc-le-zero l))

start_machine : (bs : List ℕ) → IsBytes bs → Machine (run_from (setup_in bs) (default_in bs) (starts_in bs))
unfolding run_from
start_machine bs bytes =
    built_machine (setup_in bs) (default_in bs) 0 (setup_in bs).n (λ i. at_start (get_or (starts_in bs) i 0))
    (record_at_fits default_at bytes).number
    (λ i l.
    record {
      estimate = (numbers_in_words bs starts_from (setup_in bs).n bytes).below i;
      vote = omega arith;
      decision = omega arith;
      round = omega arith;
    })

pub opened_machine : (bs : List ℕ) → IsBytes bs → Machine (read_opening bs).run
unfolding unopened
opened_machine bs bytes = rw read_opening_is (go (is_accepted (check_opening bs)))
  where
    go : (b : Bool)
        → Machine (cond b (record {
          reply = check_opening bs;
          run = run_from (setup_in bs) (default_in bs)
              (starts_in bs);
        }) (unopened (check_opening bs))).run
    go true = start_machine bs bytes
    go false = idle_machine
