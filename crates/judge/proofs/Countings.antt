-- The rows of a round, counted: a loop stores the sets and the count of the next row at its place. Each row spells the
-- cells of its receiver, so that these are the sets and the count of the paper's row.
use mathlib.Core.Path.{◌≡◌}
use mathlib.Core.Bool.{Bool}
use mathlib.Core.List.{List}
use Prim.Native.Nat.{ℕ, ◌+◌, min, ◌≤◌, ◌<◌}
use native.Mathlib.Omega.{arith}
use lib.ListN.{get_or, set, replicate}
use Rattle.paper.specs.Setup as setup
use Rattle.limits.specs.Setup.{setup_of}
use Rattle.std.specs.Prelude.{Ok, Err}
use Rattle.run.specs.declared.reply.Refusal.{Refusal}
use Rattle.run.specs.Reply.{Reply, Accepted}
use Rattle.run.specs.declared.Run.{Run}
use Rattle.run.specs.Run.{stations}
use Rattle.run.proofs.Filled.{filled_none, filled_more, filled_below}
use Rattle.run.specs.Filled.{filled}
use Rattle.round.proofs.Rows.{given, stopped}
use Rattle.round.specs.declared.Cell.{Cell}
use Rattle.round.specs.declared.Cell.TheVariants.{Lost}
use Rattle.hearing.specs.declared.Sent.{Sent}
use Rattle.hearing.specs.declared.Sets.{Sets}
use Rattle.hearing.specs.declared.Tally.{Tally}
use Rattle.round.specs.ByRow.{cell_read}
use Rattle.round.specs.Reading.{votes_next, row_part, check_cells}
use Rattle.round.specs.Bridge.{heard_in}
use Rattle.hearing.specs.Survey.{ho_sets, sho_sets}
use Rattle.hearing.specs.Surveying.{prescribed, messages_of, row_of, row_in, sets_of, row_sets}
use Rattle.hearing.specs.Tally.{tally}
use Rattle.hearing.proofs.Surveyed.{row_heard, surveyed_ho, surveyed_sho}
use Rattle.judge.specs.declared.Counted.{Counted}
use Rattle.judge.specs.Rows.{no_value, row_tally, counted_to, all_counted, rows_counted}

-- ---- the loop
module _ (n : ℕ) (enough : ℕ → Bool) (sent : Sent) (bs : List ℕ) where
  abbrev part : (Sets → ℕ) → ℕ → ℕ
  part field p = field (row_sets n sent bs p)

  pub counted_none : ◌≡◌ {A = Counted}
      (record {
        ho = replicate stations 0;
        sho = replicate stations 0;
        tallies = replicate
            stations no_value;
      })
      (counted_to n enough sent bs 0)
  unfolding counted_to
  counted_none =
      rw (
        filled_none stations (part (λ s. s.ho)) 0,
        filled_none stations (part (λ s. s.sho)) 0,
        filled_none stations (row_tally n enough bs) no_value,
      )

  -- the next row's sets and count, stored at its place
  pub counted_more : {c : Counted} {m : ℕ} {cells : List Cell} {s : Sets} {t : Tally} → c ≡ counted_to n enough sent bs m
      → m < stations → cells ≡ filled stations n (cell_read (row_part n bs m)) Lost
      → s ≡ sets_of (min n stations) (row_of cells) (messages_of sent)
      → t ≡ tally (min n stations) (row_of cells) enough
      → ◌≡◌ {A = Counted} (record { ho = set c.ho m s.ho; sho = set c.sho m s.sho; tallies = set c.tallies m t })
      (counted_to n enough sent bs (m + 1))
  unfolding counted_to row_sets row_tally row_in
  counted_more {m = m} {s = s} {t = t} e l read sets count =
      let found : s ≡ row_sets n sent bs m = rw read at sets in
      let told : t ≡ row_tally n enough bs m = rw read at count in
      rw (
        e,
        found,
        told,
        filled_more stations m (part (λ s. s.ho)) 0 l,
        filled_more stations m (part (λ s. s.sho)) 0 l,
        filled_more stations m (row_tally n enough bs) no_value l,
      )

module _ (voting : Bool) (run : Run) (bs : List ℕ) where
  abbrev n : ℕ
  n = run.setup.n

  abbrev enough_votes : ℕ → Bool
  enough_votes = setup.vouched (setup_of run.setup)

  abbrev cells : Reply
  cells = check_cells voting n bs

  pub counted_refused : {r : Refusal} → Err r ≡ cells → Err r ≡ rows_counted voting run bs
  unfolding rows_counted
  counted_refused e = rw (← e)

  pub counted_done : {c : Counted} {m : ℕ} {sent : Sent} → c ≡ counted_to n enough_votes sent bs m
      → sent ≡ prescribed voting run → m ≡ n → cells ≡ Accepted → Ok c ≡ rows_counted voting run bs
  unfolding rows_counted all_counted
  counted_done e s h good = rw (e, s, h, good)

  -- and what each outcome tells of an answer that is the definition's
  pub counted_stops : {r : Refusal} → Err r ≡ rows_counted voting run bs → Err r ≡ cells
  unfolding rows_counted
  counted_stops e = stopped _ cells _ e

  pub counted_given : {c : Counted} → Ok c ≡ rows_counted voting run bs
      → (cells ≡ Accepted) × (c ≡ all_counted voting run bs)
  unfolding rows_counted
  counted_given e = given _ cells _ e

-- ---- the rows are those of the round
module _ (run : Run) (bs : List ℕ) (small : run.setup.n ≤ stations) where
  abbrev counted : Counted
  counted = all_counted (votes_next run) run bs

  pub counted_ho : counted.ho ≡ ho_sets run.setup.n bs
  unfolding all_counted counted_to
  counted_ho = surveyed_ho run bs small

  pub counted_sho : counted.sho ≡ sho_sets run run.setup.n bs
  unfolding all_counted counted_to
  counted_sho = surveyed_sho run bs small

  -- the count of each row is that of the paper's row
  pub counted_tally : (p : ℕ) → p < run.setup.n
      → get_or counted.tallies p no_value
      ≡ tally run.setup.n (heard_in run.setup.n bs p) (setup.vouched (setup_of run.setup))
  unfolding all_counted counted_to row_tally
  counted_tally p below =
      let all : min run.setup.n stations ≡ run.setup.n = omega arith in
      rw (
        filled_below stations run.setup.n (row_tally run.setup.n (setup.vouched (setup_of run.setup)) bs) no_value p
            no_value (omega arith) below,
        all,
        row_heard run.setup.n bs p small below,
      )
