-- Tapes, by their rounds: none, whole rounds and then others, the first round and then the rest. The first is the
-- tape's first 8n² bytes, or all of it where it has fewer; where it is accepted it has them all, and the run is one
-- round further on and waits for the kind of round that follows.
use mathlib.Core.Path.{◌≡◌, refl, ap, ap₂, sym, ◌∙◌}
use mathlib.Core.Bool.{Bool, true, false}
use mathlib.Core.List.{List, [], ◌∷◌, ◌++◌}
use Prim.Native.Nat.{ℕ, ◌+◌, ◌*◌, min, ◌≤◌, ◌<◌}
use native.Mathlib.Nat.{mul-le-mul}
use native.Mathlib.Omega.{arith}
use lib.Dec.{eqb, leb, ltb}
use lib.ListN.{length, take, drop, length-drop, drop_of_length-le}
use lib.Seq.{take_all, take-length, drop-length}
use borrow.Author.Tests.{leb-true, leb-false, eqb-true}
use Rattle.paper.specs.Rules.{Kind}
use Rattle.paper.proofs.OneRound.{follows}
use Rattle.run.specs.Record.{record_bytes}
use Rattle.run.specs.Reply.{Accepted, Length, Full, Rules}
use Rattle.limits.specs.declared.Setup.{Setup}
use Rattle.run.specs.declared.Run.{Run}
use Rattle.run.specs.Keeps.{Keeps}
use Rattle.run.specs.Reply.{is_accepted, or_refuse}
use Rattle.run.specs.Run.{stations, most_rounds, sound}
use Rattle.std.specs.Prelude.{Err}
use Rattle.run.specs.declared.reply.Refusal.{Refusal}
use Rattle.run.proofs.Asked.{stops}
use Rattle.run.proofs.Replies.{then_accepted, or_refuse_accepted}
use Rattle.round.specs.Reading.{round_length}
use Rattle.judge.specs.declared.Stepped.{Stepped}
use Rattle.judge.specs.Step.{step_of, check_step}
use Rattle.judge.proofs.Steps.{step_checked, room_on, length_on, cells_on}
use Rattle.play.specs.declared.Played.{Played}
use Rattle.play.specs.Play.{cut, ended, more, take_rounds, rounds_of, take_tape, Awaits}
use Rattle.play.proofs.Cuts.{cut_none, cut_first, cut_on, cut_join, cut_part}
use Rattle.play.proofs.Folds.{
  rounds_none,
  rounds_on,
  rounds_stop,
  onward,
  rounds_join,
  first_all,
  first_accepted,
  Kept,
  kept,
}
use Rattle.play.proofs.Awaited.{kind_on}

-- the bytes of this run's rounds
abbrev pub size_of : Run → ℕ
size_of run = round_length run.setup.n

-- they are some, and a few thousand at most
pub length_some : (n : ℕ) → 1 ≤ n → 0 < round_length n
length_some n h = let one : 1 ≤ record_bytes * n = omega arith in mul-le-mul one h

pub length_most : (n : ℕ) → n ≤ stations → round_length n ≤ round_length stations
length_most n h = let some : record_bytes * n ≤ record_bytes * stations = omega arith in mul-le-mul some h

-- what is the same from n up
at_least : (f : ℕ → List ℕ) (k n : ℕ) → (n ≤ k → f n ≡ f k) → f (min k n) ≡ f k
at_least f k n same = go (leb k n) refl
  where
    go : (b : Bool) → leb k n ≡ b → f (min k n) ≡ f k
    go true e =
        let below = leb-true k n e in
        let m : min k n ≡ k = omega arith in
        rw m
    go false e =
        let above = leb-false k n e in
        let m : min k n ≡ n = omega arith in
        rw m (same (omega arith))

-- a part that would go past the tape's end goes to its end
pub first_part : (k : ℕ) (bs : List ℕ) → take (min k (length bs)) bs ≡ take k bs
first_part k bs = at_least (λ i. take i bs) k (length bs) (λ l. take-length bs ∙ sym (take_all k bs l))

pub after_first : (k : ℕ) (bs : List ℕ) → drop (min k (length bs)) bs ≡ drop k bs
after_first k bs = at_least (λ i. drop i bs) k (length bs) (λ l. drop-length bs ∙ sym (drop_of_length-le bs l))

-- nothing is left
pub no_rounds : (run : Run) (bs : List ℕ) → length bs ≡ 0 → rounds_of run bs ≡ []
no_rounds run bs e =
    let none : bs ≡ [] = drop_of_length-le bs {i = 0} (omega arith) in
    rw (none, cut_none (size_of run))

pub nothing : (run : Run) (bs : List ℕ) → length bs ≡ 0 → take_tape run bs ≡ ended run Accepted
nothing run bs e = ap (take_rounds run) (no_rounds run bs e) ∙ rounds_none run

pub nothing_first : (run : Run) (bs : List ℕ) → length bs ≡ 0
    → take_rounds run (take 1 (rounds_of run bs)) ≡ ended run Accepted
nothing_first run bs e =
    ap (λ (rs : List (List ℕ)). take_rounds run (take 1 rs)) (no_rounds run bs e) ∙ rounds_none run

-- rounds are cut alike as long as the setup stays
pub own_rounds : (run : Run) (a : Played) (bs : List ℕ) → Kept run a
    → take_rounds a.run (rounds_of run bs) ≡ take_tape a.run bs
own_rounds run a bs on = ap (λ (s : Setup). take_rounds a.run (cut (round_length s.n) bs)) (sym on.setup)

-- whole rounds, and then others
pub tape_join : (run : Run) (k : ℕ) (xs ys : List ℕ) → Keeps run → length xs ≡ k * size_of run
    → take_tape run (xs ++ ys) ≡ onward (take_tape run xs) (rounds_of run ys)
tape_join run k xs ys keeps e =
    ap (take_rounds run) (cut_join (size_of run) (length_some run.setup.n keeps.setup.n_from) k xs ys e)
    ∙ rounds_join run (rounds_of run xs) (rounds_of run ys)

-- the first k rounds, or all where there are fewer, and then the rest
pub tape_part : (run : Run) (k : ℕ) (bs : List ℕ) → Keeps run
    → take_tape run bs ≡ onward (take_tape run (take (k * size_of run) bs)) (rounds_of run (drop (k * size_of run) bs))
tape_part run k bs keeps =
    ap (take_rounds run) (cut_part (size_of run) (length_some run.setup.n keeps.setup.n_from) k bs)
    ∙ rounds_join run (rounds_of run (take (k * size_of run) bs)) (rounds_of run (drop (k * size_of run) bs))

-- an accepted round has all its bytes
length_accepted : (run : Run) (bs : List ℕ) → is_accepted (step_of run bs).reply ≡ true → length bs ≡ size_of run
unfolding check_step
length_accepted run bs e =
    let fits : Bool = eqb (length bs) (size_of run) in
    let (_, sound_on) = then_accepted (or_refuse (sound run) (Rules 0)) (room_on run bs) (step_checked run bs e) in
    let (_, room) = then_accepted (or_refuse (ltb run.clock most_rounds) Full) (length_on run bs) sound_on in
    let (long, _) = then_accepted (or_refuse fits Length) (cells_on run bs) room in
    eqb-true (length bs) (size_of run) (or_refuse_accepted fits Length refl long)

-- ---- the first round stepped: it is the tape's first k bytes
pub record Stepping (run : Run) (bs : List ℕ) (k : ℕ) (s : Stepped) : Type 0 where
  pub some : length bs ≡ 0 → ⊥
  pub size : k ≡ min (size_of run) (length bs)
  pub stepped : s ≡ step_of run (take k bs)

module _ {run : Run} {bs : List ℕ} {k : ℕ} {s : Stepped} (at : Stepping run bs k s) where
  alone : take 1 (rounds_of run bs) ≡ take k bs ∷ []
  alone = rw (at.size, first_part (size_of run) bs) (cut_first (size_of run) bs at.some)

  -- where it is refused
  pub refused_alone : {e : Refusal} → s.reply ≡ Err e → ended run (Err e) ≡ take_rounds run (take 1 (rounds_of run bs))
  refused_alone {e = e} told =
      let no = stops {s = s.reply} (sym told) in
      rw (alone, ← told, at.stepped) (sym (rounds_stop run (take k bs) [] (rw at.stepped at no)))

  -- and where it is not
  pub accepted_alone : s.reply ≡ Accepted
      → record { run = s.run; reply = Accepted; rounds = 1 } ≡ take_rounds run (take 1 (rounds_of run bs))
  accepted_alone told =
      let was : is_accepted (step_of run (take k bs)).reply ≡ true = rw at.stepped at (ap is_accepted told) in
      ap (λ (x : Stepped). record { run = x.run; reply = Accepted; rounds = 1 }) at.stepped
      ∙ sym (ap (more 1) (rounds_none (step_of run (take k bs)).run))
      ∙ sym (rounds_on run (take k bs) [] was) ∙ ap (take_rounds run) (sym alone)

-- ---- the first round taken, of this kind, and then the rest
pub record First (kind : Kind) (run : Run) (bs : List ℕ) (a : Played) : Type 0 where
  pub awaits : Awaits kind run
  pub taken : a ≡ take_rounds run (take 1 (rounds_of run bs))

pub first_is : (kind : Kind) (run : Run) (bs : List ℕ) {a : Played}
    → Awaits kind run → a ≡ take_rounds run (take 1 (rounds_of run bs)) → First kind run bs a
first_is kind run bs at told = record { awaits = at; taken = told }

-- an accepted round counts
pub counts : ◌≡◌ {A = ℕ} 1 0 → ⊥
counts z = omega arith

module _ {kind : Kind} {run : Run} {bs : List ℕ} {a : Played} (at : First kind run bs a) where
  -- where it does not count, there are no others
  pub none_follow : a.rounds ≡ 0 → a ≡ take_tape run bs
  none_follow z = at.taken ∙ first_all run (rounds_of run bs) (ap (λ (x : Played). x.rounds) (sym at.taken) ∙ z)

  -- where it counts
  module _ (counted_in : a.rounds ≡ 0 → ⊥) where
    abbrev first : List ℕ
    first = take (size_of run) bs

    abbrev next : Run
    next = (step_of run first).run

    long : 0 < size_of run
    long = length_some run.setup.n at.awaits.keeps.setup.n_from

    some : length bs ≡ 0 → ⊥
    some z = counted_in (ap (λ (x : Played). x.rounds) (at.taken ∙ nothing_first run bs z))

    one : a ≡ take_rounds run (first ∷ [])
    one = at.taken ∙ ap (take_rounds run) (cut_first (size_of run) bs some)

    was : is_accepted (step_of run first).reply ≡ true
    was = first_accepted run first (λ z. counted_in (ap (λ (x : Played). x.rounds) one ∙ z))

    answered : a ≡ more 1 (ended next Accepted)
    answered = one ∙ rounds_on run first [] was ∙ ap (more 1) (rounds_none next)

    left : Kept run a
    left = rw one (kept (first ∷ []) run at.awaits.keeps)

    same_size : size_of a.run ≡ size_of run
    same_size = ap (λ (s : Setup). round_length s.n) left.setup

    counted : a.rounds ≡ 1
    counted = ap (λ (x : Played). x.rounds) answered

    pub awaits_next : Awaits (follows kind) a.run
    awaits_next =
        record {
          keeps = left.keeps;
          next =
              kind_on run a.run left.setup (omega (arith, left.clock, counted))
              ∙ ap follows at.awaits.next;
        }

    -- the rest begins after its bytes, and is shorter
    module _ {rest : List ℕ} (behind : rest ≡ drop (size_of run) bs) where
      pub shorter : length rest < length bs
      shorter = omega (arith, ap length behind, length-drop (size_of run) bs, long, some)

      pub goes_on : (b : Played) → b ≡ take_tape a.run rest → more 1 b ≡ take_tape run bs
      goes_on b q =
          let others = rounds_of run (drop (size_of run) bs) in
          let same_run : a.run ≡ next = ap (λ (x : Played). x.run) answered in
          let on : take_tape a.run rest ≡ take_rounds next others =
          ap (take_tape a.run) behind
          ∙ ap₂ (λ (x : Run) (i : ℕ). take_rounds x (cut i (drop (size_of run) bs))) same_run same_size in
          ap (more 1) (q ∙ on) ∙ sym (rounds_on run first others was)
          ∙ ap (take_rounds run) (sym (cut_on (size_of run) long bs (omega (arith, some))))

      -- the rounds of the rest leave room for this one
      pub room : (b : Played) → b ≡ take_tape a.run rest → b.rounds + 1 ≤ most_rounds
      room b q =
          let on : Kept a.run b = rw q (kept (rounds_of a.run rest) a.run left.keeps) in
          omega (arith, on.clock, on.keeps.clock, left.clock, counted)
