-- The run after a round fits its machine types again: what a station then holds is 0, the default, what a station held
-- before, a value of the round, which stands in four bytes, or the round's number.
use mathlib.Core.Path.{◌≡◌, refl, subst}
use mathlib.Core.Bool.{Bool, true, false, ◌&&◌, cond}
use mathlib.Core.List.{List}
use Rattle.std.specs.Prelude.{Option, None, Some}
use Prim.Native.Nat.{ℕ, ◌+◌, ◌*◌, ◌^◌, ◌<◌}
use native.Mathlib.Omega.{arith}
use lib.Dec.{eqb, ltb}
use lib.ListN.{get_or}
use Rattle.paper.specs.Stations.{size}
use Rattle.paper.specs.Heard as heard
use Rattle.paper.specs.Setup as setup
use Rattle.paper.specs.Rules as rules
use Rattle.paper.proofs.After.{after_estimate, after_vote, after_decision}
use Rattle.paper.proofs.Smallest.{smallest_some}
use Rattle.run.specs.declared.Run.{Run}
use Rattle.run.specs.declared.record.Record.{Record}
use Rattle.run.specs.Bytes.{IsBytes}
use Rattle.run.specs.Kinds as kind
use Rattle.run.specs.Record.{record_bytes, record_at}
use Rattle.limits.specs.Setup.{setup_of}
use Rattle.run.specs.Run.{most_rounds}
use Rattle.run.specs.Machine.{Machine}
use Rattle.run.proofs.Built.{FitsWords, built_machine}
use Rattle.run.proofs.Bytes.{bytes_take, bytes_drop}
use Rattle.run.proofs.Records.{record_at_fits}
use Rattle.round.specs.declared.Cell.TheVariants as cell
use Rattle.round.specs.Bridge.{paper_cell, heard_in, station, value_in, decision_in, round_in, paper_setup}
use Rattle.round.specs.Cells.{cell_in}
use Rattle.round.specs.Reading.{row_part}
use Rattle.judge.specs.Step.{station_after, entries_after, run_after}

-- 32 bits hold the value, where there is one
abbrev Small : Option ℕ → Type 0
Small None = Unit {0}
Small (Some v) = v < 2 ^ 32

abbrev SmallCell : heard.Cell → Type 0
SmallCell heard.lost = Unit {0}
SmallCell (heard.heard heard.query) = Unit {0}
SmallCell (heard.heard (heard.val v)) = v < 2 ^ 32

abbrev SmallRow : heard.Row → Type 0
SmallRow row = (q : ℕ) → SmallCell (row q)

-- ---- the cells of a round
cell_small : (r : Record) → r.number < 2 ^ 32 → SmallCell (paper_cell (cell_in r))
unfolding cell_in
cell_small r h = go (eqb r.kind kind.HEARD) (eqb r.kind kind.HEARD_QUERY)
  where
    go : (value query : Bool)
        → SmallCell (paper_cell (cond value (cell.Value r.number) (cond query cell.Query cell.Lost)))
    go true query = h
    go false true = tt
    go false false = tt

heard_small : (n : ℕ) (bs : List ℕ) (p : ℕ) → IsBytes bs → SmallRow (heard_in n bs p)
unfolding heard_in row_part
heard_small n bs p bytes q = go (ltb p n && ltb q n)
  where
    go : (b : Bool) → SmallCell (paper_cell (cond b (cell_in (record_at (row_part n bs p) q)) cell.Lost))
    go true = cell_small (record_at (row_part n bs p) q)
        (record_at_fits q (bytes_take (record_bytes * n) (bytes_drop (record_bytes * n * p) bytes))).number
    go false = tt

-- ---- what the rules make of a station
module _ (row : heard.Row) (small : SmallRow row) where
  smallest_small : (n : ℕ) (test : ℕ → Bool) → Small (rules.smallest n row test)
  smallest_small n test = go (rules.smallest n row test) refl
    where
      go : (o : Option ℕ) → rules.smallest n row test ≡ o → Small o
      go None e = tt
      go (Some v) e = let l = smallest_some n row test v e in subst SmallCell l.heard_there (small l.from)

  or_else_small : (o : Option ℕ) (x : ℕ) → Small o → x < 2 ^ 32 → rules.or_else o x < 2 ^ 32
  unfolding rules.or_else
  or_else_small None x s h = h
  or_else_small (Some v) x s h = s

  estimate_small : (S : setup.Setup) (default : ℕ) (k : rules.Kind) (s : rules.Station) → default < 2 ^ 32
      → s.estimate < 2 ^ 32
      → rules.next_estimate S default k s row < 2 ^ 32
  unfolding rules.next_estimate
  estimate_small S default rules.update s d h = go (setup.passes_t S (size S.n (heard.HO row)))
    where
      found : Option ℕ
      found = rules.smallest S.n row (rules.most_often S.n row)

      go : (b : Bool) → cond b (rules.or_else found s.estimate) s.estimate < 2 ^ 32
      go true = or_else_small found s.estimate (smallest_small S.n (rules.most_often S.n row)) h
      go false = h
  estimate_small S default rules.value s d h = h
  estimate_small S default rules.vote s d h =
      let test : ℕ → Bool = λ v. setup.vouched S (rules.times S.n row v) in
      or_else_small (rules.smallest S.n row test) default (smallest_small S.n test) d

  vote_or_else_small : (o : Option ℕ) (m : heard.Message) → Small o → value_in m < 2 ^ 32
      → value_in (rules.vote_or_else o m) < 2 ^ 32
  unfolding rules.vote_or_else
  vote_or_else_small None m s h = h
  vote_or_else_small (Some v) m s h = s

  vote_small : (S : setup.Setup) (k : rules.Kind) (s : rules.Station) → value_in s.vote < 2 ^ 32
      → value_in (rules.next_vote S k s row) < 2 ^ 32
  unfolding rules.next_vote
  vote_small S rules.update s h = h
  vote_small S rules.value s h =
      let test : ℕ → Bool = λ v. setup.passes_t S (rules.times S.n row v) in
      vote_or_else_small (rules.smallest S.n row test) s.vote (smallest_small S.n test) h
  vote_small S rules.vote s h = omega arith

  fired_small : (S : setup.Setup) (k : rules.Kind) → Small (rules.fired S k row)
  unfolding rules.fired
  fired_small S k = go (rules.deciding k)
    where
      test : ℕ → Bool
      test v = setup.passes_e S (rules.times S.n row v)

      go : (b : Bool) → Small (cond b (rules.smallest S.n row test) None)
      go true = smallest_small S.n test
      go false = tt

keep_small : (d : rules.Decision) (r : ℕ) (f : Option ℕ) → decision_in d < 2 ^ 32 → Small f
    → decision_in (rules.keep d r f) < 2 ^ 32
unfolding rules.keep
keep_small rules.undecided r None h s = h
keep_small rules.undecided r (Some v) h s = s
keep_small (rules.decided v r₀) r f h s = h

keep_round : (d : rules.Decision) (r : ℕ) (f : Option ℕ) → round_in d < 2 ^ 32 → r < 2 ^ 32
    → round_in (rules.keep d r f) < 2 ^ 32
unfolding rules.keep
keep_round rules.undecided r None h s = h
keep_round rules.undecided r (Some v) h s = s
keep_round (rules.decided v r₀) r f h s = h

-- ---- the run after a round
module _ (run : Run) (bs : List ℕ) (machine : Machine run) (room : run.clock < most_rounds) (bytes : IsBytes bs) where
  estimate_before : (p : ℕ) → (station run p).estimate < 2 ^ 32
  unfolding station
  estimate_before p = machine.estimates.below p

  vote_before : (p : ℕ) → value_in (station run p).vote < 2 ^ 32
  unfolding station
  vote_before p = go (get_or run.voted p false)
    where
      go : (b : Bool) → value_in (cond b (heard.val (get_or run.votes p 0)) heard.query) < 2 ^ 32
      go true = machine.votes.below p
      go false = omega arith

  decision_before : (p : ℕ) → (decision_in (station run p).decision < 2 ^ 32)
      × (round_in (station run p).decision < 2 ^ 32)
  unfolding station
  decision_before p = go (get_or run.decided p false)
    where
      d : Bool → rules.Decision
      d b = cond b (rules.decided (get_or run.decisions p 0) (get_or run.rounds p 0)) rules.undecided

      go : (b : Bool) → (decision_in (d b) < 2 ^ 32) × (round_in (d b) < 2 ^ 32)
      go true = (machine.decisions.below p, machine.rounds.below p)
      go false = (omega arith, omega arith)

  -- what a station then holds
  small_after : (p : ℕ) → FitsWords (entries_after run bs p)
  unfolding station_after setup_of
  small_after p =
      let n : ℕ = run.setup.n in
      let S : setup.Setup = paper_setup run in
      let r : ℕ = run.clock + 1 in
      let k : rules.Kind = rules.kind_of S.algorithm r in
      let row : heard.Row = heard_in n bs p in
      let small : SmallRow row = heard_small n bs p bytes in
      let s : rules.Station = station run p in
      rw (
        after_estimate S run.default r s row,
        after_vote S run.default r s row,
        after_decision S
            run.default r s row,
      )
      (record {
        estimate = estimate_small row small S run.default k s machine.default (estimate_before p);
        vote = vote_small row small S k s (vote_before p);
        decision = keep_small s.decision r (rules.fired S k row) (decision_before p).0 (fired_small row small S k);
        round = keep_round s.decision r (rules.fired S k row) (decision_before p).1 (omega arith);
      })

  pub machine_after : Machine (run_after run bs)
  unfolding run_after
  machine_after =
      built_machine run.setup run.default (run.clock + 1) run.setup.n (entries_after run bs)
      machine.default
      (λ p below. small_after p)
