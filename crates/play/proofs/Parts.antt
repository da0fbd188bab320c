-- A long tape, a few rounds at a time: the answer for the whole is the count so far and the answer for the rest from
-- the present run. The rest may be cut after any number of whole rounds, and a part that is shorter is the last.
use mathlib.Core.Path.{◌≡◌, refl, ap, ap₂, sym, ◌∙◌}
use mathlib.Core.Bool.{true, false}
use mathlib.Core.List.{List}
use Prim.Native.Nat.{ℕ, ◌+◌, ◌*◌, min, ◌≤◌}
use native.Mathlib.Nat.{add-zero, zero-add, add_assoc}
use native.Mathlib.Omega.{arith}
use lib.ListN.{length, take, drop}
use Rattle.std.specs.Prelude.{is_err}
use Rattle.run.specs.Reply.{Reply, Accepted, is_accepted}
use Rattle.limits.specs.declared.Setup.{Setup}
use Rattle.run.specs.declared.Run.{Run}
use Rattle.run.specs.Keeps.{Keeps}
use Rattle.run.specs.Run.{most_rounds}
use Rattle.run.proofs.Asked.{refuses, accepts}
use Rattle.round.specs.Reading.{round_length}
use Rattle.play.specs.declared.Played.{Played}
use Rattle.play.specs.Play.{ended, more, take_rounds, rounds_of, take_tape}
use Rattle.play.proofs.Folds.{onward, Kept, kept}
use Rattle.play.proofs.Tapes.{size_of, first_part, after_first, nothing, own_rounds, tape_part}

-- the answer a for the bytes before `left`, all of whose rounds were accepted
pub record At (run : Run) (bs left : List ℕ) (a : Played) : Type 0 where
  pub reply : a.reply ≡ Accepted
  pub kept : Kept run a
  pub rest : take_tape run bs ≡ more a.rounds (take_tape a.run left)

pub begins : (run : Run) (bs : List ℕ) → Keeps run → At run bs bs (ended run Accepted)
begins run bs keeps =
    let a : Played = take_tape run bs in
    record {
      reply = refl;
      kept = record { keeps = keeps; setup = refl; default = refl; clock = sym (zero-add run.clock) };
      rest = ap (λ (k : ℕ). record { run = a.run; reply = a.reply; rounds = k }) (sym (add-zero a.rounds));
    }

pub ends : (run : Run) (bs left : List ℕ) (a : Played) → At run bs left a → length left ≡ 0 → a ≡ take_tape run bs
ends run bs left a here none =
    let last : take_tape a.run left ≡ ended a.run Accepted = nothing a.run left none in
    sym
    (here.rest ∙ ap (more a.rounds) last
    ∙ ap₂ (λ (r : Reply) (k : ℕ). record { run = a.run; reply = r; rounds = k }) (sym here.reply)
    (zero-add a.rounds))

-- the answer b for a part of what is left, which is k rounds or all of it, and what is left behind it
pub record Part (run : Run) (bs : List ℕ) (k : ℕ) (left : List ℕ) (a : Played) (behind : List ℕ) (b : Played) : Type 0 where
  pub here : At run bs left a
  pub cut : behind ≡ drop (min (k * size_of run) (length left)) left
  pub played : b ≡ take_tape a.run (take (min (k * size_of run) (length left)) left)

module _ {run : Run} {bs : List ℕ} {k : ℕ} {left : List ℕ} {a : Played} {behind : List ℕ} {b : Played}
    (p : Part run bs k left a behind b) where
  same_size : size_of run ≡ size_of a.run
  same_size = ap (λ (s : Setup). round_length s.n) (sym p.here.kept.setup)

  part_is : take (min (k * size_of run) (length left)) left ≡ take (k * size_of a.run) left
  part_is = first_part (k * size_of run) left ∙ ap (λ (i : ℕ). take (k * i) left) same_size

  rest_is : drop (k * size_of a.run) left ≡ behind
  rest_is = sym (p.cut ∙ after_first (k * size_of run) left ∙ ap (λ (i : ℕ). drop (k * i) left) same_size)

  joined : take_tape a.run left ≡ onward b (rounds_of a.run behind)
  joined =
      tape_part a.run k left p.here.kept.keeps
      ∙ ap₂ (λ (x : Played) (l : List ℕ). onward x (rounds_of a.run l))
      (ap (take_tape a.run) (sym part_is) ∙ sym p.played) rest_is

  part_kept : Kept a.run b
  part_kept =
      rw p.played (kept (rounds_of a.run (take (min (k * size_of run) (length left)) left)) a.run p.here.kept.keeps)

  -- the clock counts all rounds, so their number is small
  pub fits : b.rounds + a.rounds ≤ most_rounds
  fits = omega (arith, part_kept.clock, part_kept.keeps.clock, p.here.kept.clock)

  -- where it is refused
  pub stops : is_err b.reply ≡ true → more a.rounds b ≡ take_tape run bs
  stops told =
      let all : onward b (rounds_of a.run behind) ≡ b = rw (refuses b.reply told) in
      sym (p.here.rest ∙ ap (more a.rounds) (joined ∙ all))

  -- and where it is not
  pub goes_on : is_err b.reply ≡ false → At run bs behind (more a.rounds b)
  goes_on told =
      let e = accepts b.reply told in
      let t : is_accepted b.reply ≡ true = ap is_accepted e in
      let rest = rounds_of a.run behind in
      let on : onward b rest ≡ more b.rounds (take_rounds b.run rest) = rw t in
      let c : Played = take_tape b.run behind in
      record {
        reply = e;
        kept =
            record {
              keeps = part_kept.keeps;
              setup = part_kept.setup ∙ p.here.kept.setup;
              default = part_kept.default ∙ p.here.kept.default;
              clock = omega (arith, part_kept.clock, p.here.kept.clock);
            };
        rest =
            p.here.rest
            ∙ ap (more a.rounds) (joined ∙ on
            ∙ ap (more b.rounds) (own_rounds a.run b behind part_kept))
            ∙ ap (λ (i : ℕ). record { run = c.run; reply = c.reply; rounds = i })
            (add_assoc c.rounds b.rounds a.rounds);
      }
