-- What becomes of a station depends on its own state and its own row, and set sizes and counts of rounds cannot be
-- invented: each follows from what the step, the survey and the play are.
use mathlib.Core.Path.{◌≡◌, ap, sym, ◌∙◌}
use mathlib.Core.Bool.{true}
use mathlib.Core.List.{List, [], ◌∷◌}
use Prim.Native.Nat.{ℕ, ◌≤◌, ◌<◌}
use native.Mathlib.Omega.{arith}
use lib.Count.{ones}
use lib.ListN.{length, get_or, length-append}
use Rattle.paper.specs.Stations.{Stations, size}
use Rattle.paper.specs.Heard as heard
use Rattle.run.specs.declared.Run.{Run}
use Rattle.run.specs.Reply.{Accepted}
use Rattle.run.specs.Reply.{is_accepted}
use Rattle.run.specs.Run.{stations}
use Rattle.run.specs.Filled.{filled}
use Rattle.run.proofs.Filled.{filled_below}
use Rattle.hearing.specs.declared.Survey.{Survey}
use Rattle.hearing.specs.Masks.{mask}
use Rattle.round.specs.Reading.{check_reading}
use Rattle.round.specs.Bridge.{heard_in, station, sent_next}
use Rattle.hearing.specs.Survey.{ho_sets, sho_sets, survey_of}
use Rattle.hearing.proofs.Masks.{ones_mask}
use Rattle.play.specs.declared.Played.{Played}
use Rattle.play.specs.Play.{play_of}
use Rattle.consensus.specs.Judge.{Judge}
use Rattle.consensus.specs.Round.{round_by_paper}
use Rattle.consensus.specs.Demand2.{Demand2}
use Rattle.consensus.specs.Offered.{to_play, rounds_in, taken, accepted}
use Rattle.consensus.proofs.Taken.{parts, play_rounds, taken_count}

-- rules 9.12 and 15.8, of any judge that meets the demand: stations with equal state and equal row, in accepted rounds
-- of two runs with one setup, default and clock, are left equal
pub own_row : (J : Judge) → Demand2 J → (x y : Run) (bs cs : List ℕ) (p q : ℕ)
    → x.setup ≡ y.setup → x.default ≡ y.default → x.clock ≡ y.clock → p < x.setup.n → q < y.setup.n
    → is_accepted (J.step x bs).reply ≡ true → is_accepted (J.step y cs).reply ≡ true
    → station x p ≡ station y q → heard_in x.setup.n bs p ≡ heard_in y.setup.n cs q
    → station (J.step x bs).run p ≡ station (J.step y cs).run q
unfolding round_by_paper
own_row J d x y bs cs p q setup default clock hp hq ex ey state row =
    (d.follows x bs ex).each_station p hp
    ∙ (rw (row, state, default, clock, setup))
    ∙ sym ((d.follows y cs ey).each_station q hq)

-- a survey that meets its promise has the sizes of the paper's sets, and no other (rule 7.8)
module _ (run : Run) (bs : List ℕ) (ok : check_reading run bs ≡ Accepted) (small : run.setup.n ≤ stations) where
  -- place p of an array of masks
  ones_at : (X : ℕ → Stations) (p : ℕ) → p < run.setup.n
      → ones (get_or (filled stations run.setup.n (λ q. mask run.setup.n (X q)) 0) p 0)
      ≡ size run.setup.n (X p)
  ones_at X p h =
      ap ones (filled_below stations run.setup.n (λ q. mask run.setup.n (X q)) 0 p 0 (omega arith) h)
      ∙ ones_mask run.setup.n (X p)

  pub heard_size : (p : ℕ) → p < run.setup.n → (s : Survey) → s ≡ survey_of run bs
      → ones (get_or s.ho p 0) ≡ size run.setup.n (heard.HO (heard_in run.setup.n bs p))
  unfolding survey_of ho_sets
  heard_size p h s e =
      ap (λ (x : Survey). ones (get_or x.ho p 0)) e
      ∙ rw ok (ones_at (λ q. heard.HO (heard_in run.setup.n bs q)) p h)

  pub safe_size : (p : ℕ) → p < run.setup.n → (s : Survey) → s ≡ survey_of run bs
      → ones (get_or s.sho p 0) ≡ size run.setup.n (heard.SHO (heard_in run.setup.n bs p) (sent_next run))
  unfolding survey_of sho_sets
  safe_size p h s e =
      ap (λ (x : Survey). ones (get_or x.sho p 0)) e
      ∙ rw ok (ones_at (λ q. heard.SHO (heard_in run.setup.n bs q) (sent_next run)) p h)

-- and a play that meets its promise has the count of the rounds that are accepted of its part, and no other (rule 13.7)
pub one_count : (run : Run) (bs : List ℕ) (a : Played) → a ≡ play_of run bs
    → a.rounds ≡ length (accepted run (to_play bs ∷ []))
unfolding accepted rounds_in
one_count run bs a e =
    ap (λ (x : Played). x.rounds) e ∙ play_rounds run bs ∙ taken_count (parts run bs) run
    ∙ omega (arith, length-append (taken run (parts run bs)) [])
