-- Demands 1 and 2 leave one answer: the relation of replies fixes the reply; a run that keeps the rules can be told from the paper's stations,
-- since what stands beside "?" and undecided is 0; a firing is the paper's or none; and a number is told by its bits.
use mathlib.Core.Path.{◌≡◌, refl, ap, sym, ◌∙◌}
use mathlib.Core.Bool.{Bool, true, false}
use mathlib.Core.List.{List}
use mathlib.Core.Logic.{◌↔◌}
use Prim.Native.Nat.{ℕ, zero, suc, ◌+◌, ◌/◌, ◌%◌, ◌^◌, ◌≤◌, ◌<◌}
use native.Mathlib.Nat.{div-one}
use native.Mathlib.Omega.{arith}
use lib.Dec.{ltb}
use lib.ListN.{get_or}
use lib.Pow.{shr-shr}
use borrow.Author.Tests.{ltb-true, ltb-false}
use Rattle.paper.specs.Run as paper
use Rattle.limits.specs.declared.Setup.{Setup}
use Rattle.run.specs.declared.Run.{Run}
use Rattle.run.specs.declared.Station.{Station}
use Rattle.run.specs.Keeps.{Keeps, StationKeeps}
use Rattle.run.specs.Reply.{is_accepted}
use Rattle.run.specs.Run.{stations, station_at}
use Rattle.round.specs.Bridge.{paper_setup, paper_station, entries, station}
use Rattle.judge.specs.declared.Stepped.{Stepped}
use Rattle.consensus.specs.Judge.{Judge}
use Rattle.consensus.specs.Round.{round_by_paper}
use Rattle.std.specs.Prelude.{Option, None, Some}
use Rattle.consensus.specs.Demand1.{Leaves, Demand1}
use Rattle.consensus.specs.Demand2.{Follows, Demand2}
use Rattle.judge.specs.Step.{check_step}
use Rattle.consensus.specs.OneReply.{Only}
use Rattle.consensus.specs.RoundReplies.{StepReply}
use Rattle.consensus.specs.SameAnswer.{SameAnswer}
use Rattle.consensus.proofs.RoundReplies.{step_replies}

-- a number is told by its bits: the lowest is the remainder, and the others are those of the half
same_bits : (k a b : ℕ) → a ≤ k → b ≤ k → ((q : ℕ) → a / 2 ^ q % 2 ≡ b / 2 ^ q % 2) → a ≡ b
same_bits zero a b ha hb same = omega arith
same_bits (suc k) a b ha hb same =
    let low : a % 2 ≡ b % 2 = sym (ap (λ (m : ℕ). m % 2) (div-one a)) ∙ same 0 ∙ ap (λ (m : ℕ). m % 2) (div-one b) in
    let high : a / 2 ≡ b / 2 =
    same_bits k (a / 2) (b / 2) (omega arith) (omega arith)
    (λ q. ap (λ (m : ℕ). m % 2) (shr-shr a 1 q) ∙ ap (λ (j : ℕ). a / 2 ^ j % 2) (omega arith) ∙ same (suc q)
    ∙ ap (λ (j : ℕ). b / 2 ^ j % 2) (omega arith) ∙ ap (λ (m : ℕ). m % 2) (sym (shr-shr b 1 q))) in
    omega arith

pub bits_tell : (a b : ℕ) → ((q : ℕ) → a / 2 ^ q % 2 ≡ b / 2 ^ q % 2) → a ≡ b
bits_tell a b = same_bits (a + b) a b (omega arith) (omega arith)

-- what stands in the arrays, from the paper's station
entries_told : (s : Setup) (clock : ℕ) (x : Station) → StationKeeps s clock x → x ≡ entries (paper_station x)
entries_told s clock x keeps = go x.voted x.decided refl refl
  where
    go : (b c : Bool) → x.voted ≡ b → x.decided ≡ c → x ≡ entries (paper_station x)
    go true true e g = rw (e, g)
    go true false e g = rw (e, g, keeps.beside_undecided g, keeps.undecided g)
    go false true e g = rw (e, g, keeps.beside_no_vote e)
    go false false e g = rw (e, g, keeps.beside_no_vote e, keeps.beside_undecided g, keeps.undecided g)

-- two runs that keep the rules, of one setup, with the same stations of the paper below n
same_entries : (x y : Run) → Keeps x → Keeps y → x.setup.n ≡ y.setup.n
    → ((p : ℕ) → p < x.setup.n → station x p ≡ station y p) → (p : ℕ) → p < stations → station_at x p ≡ station_at y p
unfolding station
same_entries x y kx ky n same p l = go (ltb p x.setup.n) refl
  where
    go : (b : Bool) → ltb p x.setup.n ≡ b → station_at x p ≡ station_at y p
    go true e =
        let h = ltb-true p x.setup.n e in
        entries_told x.setup x.clock (station_at x p) (kx.below p h) ∙ ap entries (same p h)
        ∙ sym (entries_told y.setup y.clock (station_at y p) (ky.below p (omega arith)))
    go false e =
        let h = ltb-false p x.setup.n e in
        kx.above p h l ∙ sym (ky.above p (omega arith) l)

-- two firings that are told by the same rule
same_firing : (Rule : ℕ → Type 0) (f g : Option ℕ) → ((u : ℕ) → (f ≡ Some u) ↔ Rule u)
    → ((u : ℕ) → (g ≡ Some u) ↔ Rule u) → f ≡ g
same_firing Rule None None rf rg = refl
same_firing Rule (Some v) g rf rg = sym ((rg v).1 ((rf v).0 refl))
same_firing Rule None (Some w) rf rg = (rf w).1 ((rg w).0 refl)

both_follow : (run : Run) (bs : List ℕ) (a b : Stepped) → a.reply ≡ b.reply → Follows run bs a → Follows run bs b
    → SameAnswer a b
both_follow run bs a b reply fa fb =
    record {
      reply = reply;
      setup = fa.setup ∙ sym fb.setup;
      default = fa.default ∙ sym fb.default;
      clock = fa.clock ∙ sym fb.clock;
      each_station =
          same_entries a.run b.run
          fa.keeps_still fb.keeps_still
          (ap (λ (s : Setup). s.n) (fa.setup ∙ sym fb.setup))
          (λ p h.
          let below : p < run.setup.n = omega (arith, h, ap (λ (s : Setup). s.n) fa.setup) in
          fa.each_station p below ∙ sym (fb.each_station p below));
      fired =
          λ p.
          same_firing (paper.FiresAt (paper_setup run) (round_by_paper run bs) p) _ _ (fa.fires p) (fb.fires p);
      ho = λ p. bits_tell _ _ (λ q. fa.sets.heard_of p q ∙ sym (fb.sets.heard_of p q));
      sho = λ p. bits_tell _ _ (λ q. fa.sets.safely p q ∙ sym (fb.sets.safely p q));
    }

both_leave : (run : Run) (a b : Stepped) → a.reply ≡ b.reply → Leaves run a → Leaves run b → SameAnswer a b
both_leave run a b reply la lb =
    let same = la.same_run ∙ sym lb.same_run in
    record {
      reply = reply;
      setup = ap (λ (r : Run). r.setup) same;
      default = ap (λ (r : Run). r.default) same;
      clock = ap (λ (r : Run). r.clock) same;
      each_station = λ p l. ap (λ (r : Run). station_at r p) same;
      fired = λ p. ap (λ (l : List (Option ℕ)). get_or l p None) (la.fired ∙ sym lb.fired);
      ho = λ p. ap (λ (l : List ℕ). get_or l p 0) (la.ho ∙ sym lb.ho);
      sho = λ p. ap (λ (l : List ℕ). get_or l p 0) (la.sho ∙ sym lb.sho);
    }

-- two judges that meet both demands answer alike, to every run and all bytes
pub one_judge : (I J : Judge) → Demand1 I → Demand1 J → Demand2 I → Demand2 J → (run : Run) (bs : List ℕ)
    → SameAnswer (I.step run bs) (J.step run bs)
one_judge I J i1 j1 i2 j2 run bs = go (is_accepted (I.step run bs).reply) refl
  where
    only : Only (StepReply run bs) (check_step run bs)
    only = step_replies run bs

    reply : (I.step run bs).reply ≡ (J.step run bs).reply
    reply = only.alone _ (i1.step_says run bs) ∙ sym (only.alone _ (j1.step_says run bs))

    same : is_accepted (J.step run bs).reply ≡ is_accepted (I.step run bs).reply
    same = sym (ap is_accepted reply)

    go : (b : Bool) → is_accepted (I.step run bs).reply ≡ b → SameAnswer (I.step run bs) (J.step run bs)
    go true e =
        both_follow run bs (I.step run bs) (J.step run bs) reply (i2.follows run bs e)
        (j2.follows run bs (same ∙ e))
    go false e =
        both_leave run (I.step run bs) (J.step run bs) reply (i1.step_leaves run bs e)
        (j1.step_leaves run bs (same ∙ e))
