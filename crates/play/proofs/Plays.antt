-- Playing, as a whole: a bad run, an empty part, and two parts joined, which follows from rounds joined (Folds) and
-- tapes cut after a whole number of rounds (Cuts).
use mathlib.Core.Path.{◌≡◌, refl, ap, sym, ◌∙◌}
use mathlib.Core.Bool.{Bool, true, false, cond}
use mathlib.Core.List.{List, [], ◌++◌}
use Prim.Native.Nat.{ℕ, ◌*◌}
use lib.ListN.{length}
use Rattle.run.specs.Reply.{Accepted, Rules}
use Rattle.run.specs.declared.Run.{Run}
use Rattle.run.specs.Reply.{is_accepted}
use Rattle.run.specs.Run.{sound}
use Rattle.run.proofs.Sound.{sound_iff}
use Rattle.play.specs.declared.Played.{Played}
use Rattle.play.specs.Play.{ended, more, take_rounds, rounds_of, take_tape, play_of}
use Rattle.play.proofs.Folds.{Kept, kept}
use Rattle.play.proofs.Tapes.{size_of, nothing, own_rounds, tape_join}

-- a bad run is refused with 10 at 0, whatever the part (rule 13.8)
pub play_bad : (run : Run) (bs : List ℕ) → sound run ≡ false → play_of run bs ≡ ended run (Rules 0)
unfolding play_of
play_bad run bs e = rw e

pub play_good : (run : Run) (bs : List ℕ) → sound run ≡ true → play_of run bs ≡ take_tape run bs
unfolding play_of
play_good run bs e = rw e

-- an empty part has no round for a good run (rule 13.8)
pub play_none : (run : Run) → sound run ≡ true → play_of run [] ≡ ended run Accepted
play_none run e = play_good run [] e ∙ nothing run [] refl

-- after the answer a, the part ys
abbrev pub then_play : Played → List ℕ → Played
then_play a ys = cond (is_accepted a.reply) (more a.rounds (play_of a.run ys)) a

-- a first part of k whole rounds, and then the rest (rule 13.11)
pub play_join : (run : Run) (k : ℕ) (xs ys : List ℕ) → length xs ≡ k * size_of run
    → play_of run (xs ++ ys) ≡ then_play (play_of run xs) ys
play_join run k xs ys e = go (sound run) refl
  where
    a : Played
    a = take_tape run xs

    go : (b : Bool) → sound run ≡ b → play_of run (xs ++ ys) ≡ then_play (play_of run xs) ys
    go true s =
        let keeps = (sound_iff run).0 s in
        let after : Kept run a = kept (rounds_of run xs) run keeps in
        let next : take_rounds a.run (rounds_of run ys) ≡ play_of a.run ys =
        own_rounds run a ys after ∙ sym (play_good a.run ys ((sound_iff a.run).1 after.keeps)) in
        play_good run (xs ++ ys) s ∙ tape_join run k xs ys keeps e
        ∙ ap (λ (z : Played). cond (is_accepted a.reply) (more a.rounds z) a) next
        ∙ ap (λ (z : Played). then_play z ys) (sym (play_good run xs s))
    go false s = play_bad run (xs ++ ys) s ∙ sym (ap (λ (z : Played). then_play z ys) (play_bad run xs s))

-- the promise leaves one answer
pub play_unique : (run : Run) (bs : List ℕ) (a b : Played) → a ≡ play_of run bs → b ≡ play_of run bs → a ≡ b
play_unique run bs a b p q = p ∙ sym q
