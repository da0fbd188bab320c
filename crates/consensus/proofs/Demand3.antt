-- Demand 3: an opened run stands at its starts and keeps the rules, so its accepted rounds are a lawful run of the
-- paper (Lawful), of which the paper's safety is proved, and what is in hand is what the last of them left (Latest).
use mathlib.Core.Path.{◌≡◌, refl, ap, sym, ◌∙◌, subst}
use mathlib.Core.List.{List, [], ◌∷◌}
use Prim.Native.Nat.{ℕ, ◌<◌}
use native.Mathlib.Omega.{arith}
use lib.ListN.{get_or}
use Rattle.paper.specs.Stations.{All}
use Rattle.paper.specs.Heard as heard
use Rattle.paper.specs.Setup as setup
use Rattle.paper.specs.Rules as rules
use Rattle.paper.specs.Run as paper
use Rattle.paper.specs.Safety as safety
use Rattle.paper.proofs.Safety.{agreement, lock, integrity}
use Rattle.paper.proofs.Decisions.{kept, decides}
use Rattle.limits.specs.declared.Setup.{Setup}
use Rattle.run.specs.declared.Run.{Run}
use Rattle.run.specs.declared.Station.{Station}
use Rattle.run.specs.declared.Opened.{Opened}
use Rattle.run.specs.Reply.{Accepted}
use Rattle.run.specs.Keeps.{Keeps}
use Rattle.limits.specs.Setup.{setup_of}
use Rattle.run.specs.Run.{stations, at_start}
use Rattle.run.specs.Opening.{setup_in, default_in, starts_in, check_opening, run_from, read_opening}
use Rattle.run.proofs.Sound.{sound_iff}
use Rattle.run.proofs.Built.{built_below}
use Rattle.run.proofs.Openings.{opened, opened_sound}
use Rattle.round.specs.Bridge.{paper_setup, paper_station, station}
use Rattle.consensus.specs.Offered.{Offer, accepted, run_after_all}
use Rattle.consensus.specs.Demand3.{InHand, Demand3, Demand3Holds}
use Rattle.consensus.proofs.Taken.{all_on, all_left}
use Rattle.consensus.proofs.Latest.{lock_left, decided_left, kept_left}
use Rattle.consensus.proofs.Lawful.{follows}
use Rattle.consensus.proofs.OpeningReplies.{opening_replies}

-- rounds that follow from some states follow from the same states told otherwise
rounds_from : (S : setup.Setup) (d k : ℕ) (s s' : paper.States) (ts : List paper.Turn) → All S.n (λ p. s p ≡ s' p)
    → paper.Rounds S d k s ts → paper.Rounds S d k s' ts
unfolding paper.Rounds
rounds_from S d k s s' [] same rounds = tt
rounds_from S d k s s' (t ∷ ts) same rounds = (
  record {
    counted = rounds.0.counted;
    from = λ p h. rounds.0.from p h
        ∙ same p h;
    by_rule = rounds.0.by_rule;
  },
  rounds.1,
)

-- the starts of a run that was opened
abbrev starts : Run → ℕ → ℕ
starts run p = get_or run.estimates p 0

-- an opened run stands at its starts
stands : (s : Setup) (d : ℕ) (estimates : List ℕ) (p : ℕ) → p < stations → p < s.n
    → station (run_from s d estimates) p ≡ paper.opened (starts (run_from s d estimates)) p
unfolding station run_from paper.opened
stands s d estimates p l h =
    subst (λ (x : Station). paper_station x
    ≡ record { estimate = x.estimate; vote = heard.query; decision = rules.undecided })
    (sym (built_below s d 0 s.n (λ i. at_start (get_or estimates i 0)) p l h)) refl

module _ (s : Setup) (d : ℕ) (estimates : List ℕ) (keeps : Keeps (run_from s d estimates)) (offers : List Offer) where
  abbrev run : Run
  run = run_from s d estimates

  abbrev ts : List paper.Turn
  ts = accepted run offers

  lawful : safety.Lawful (paper_setup run) run.default (starts run) ts
  unfolding run_from paper.Run setup_of
  lawful =
      let on = follows offers run keeps in
      record {
        setup = keeps.setup.inequalities;
        rounds =
            rounds_from (paper_setup run) d 0 (station run) (paper.opened (starts run)) ts
            (λ p h. stands s d estimates p (omega (arith, keeps.setup.n_to)) h) on.0;
        safe = on.1;
      }

  -- the decision of a station is that of a firing
  held : (p v r : ℕ) → p < run.setup.n → (station (run_after_all run offers) p).decision ≡ rules.decided v r
      → (t : paper.Turn) × safety.FirstFiring (paper_setup run) ts p v t × (t.number ≡ r)
  unfolding run_from paper.Run paper.opened setup_of
  held p v r h e =
      kept_left (paper_setup run) d 0 (paper.opened (starts run)) (station run) ts lawful.rounds
      (kept (paper_setup run) d (starts run) ts lawful.setup lawful.rounds) p v r h
      (ap (λ (x : rules.Station). x.decision) (stands s d estimates p (omega (arith, keeps.setup.n_to)) h))
      (ap (λ (x : paper.States). (x p).decision) (sym (all_left offers run)) ∙ e)

  one_start : (v : ℕ) → All run.setup.n (λ p. starts run p ≡ v) → (p w r : ℕ) → p < run.setup.n
      → (station (run_after_all run offers) p).decision ≡ rules.decided w r → w ≡ v
  unfolding safety.Integrity setup_of run_from
  one_start v all p w r h e =
      let (t, first, _) = held p w r h e in
      integrity (paper_setup run) run.default (starts run) ts lawful v all t p w first.in_run h first.fires

  -- what holds after the last accepted round holds of the run in hand
  in_hand : InHand run offers
  unfolding run_from paper.Run paper.opened setup_of
  in_hand =
      let on = all_on offers run keeps in
      let left = sym (all_left offers run) in
      let S = paper_setup run in
      let rounds = lawful.rounds in
      let from = paper.opened (starts run) in
      record {
        keeps_still = on.keeps;
        setup = on.setup;
        default = on.default;
        clock = omega (arith, on.clock);
        last = all_left offers run;
        locked =
            λ t p v i h f.
            subst (λ (x : paper.States). safety.Locked S x v) left
            (lock_left S d 0 from (station run) ts rounds (lock S d (starts run) ts lawful) t p v i h f);
        kept = held;
        decides =
            λ t p v i h f.
            let found = decided_left S d 0 from (station run) ts rounds
            (decides S d (starts run) ts lawful.setup rounds) t p v i h f in
            (found.0, found.1, found.2, sym (ap (λ (x : paper.States). (x p).decision) left) ∙ found.3);
        integrity = one_start;
      }

  pub demand_3_of : Demand3 run offers
  demand_3_of =
      record {
        one_value = agreement (paper_setup run) run.default (starts run) ts lawful;
        locked = lock (paper_setup run) run.default (starts run) ts lawful;
        integrity = integrity (paper_setup run) run.default (starts run) ts lawful;
        kept = kept (paper_setup run) run.default (starts run) ts lawful.setup lawful.rounds;
        decides = decides (paper_setup run) run.default (starts run) ts lawful.setup lawful.rounds;
        in_hand = in_hand;
      }

-- demand 3: nothing is asked but that these bytes are accepted as an opening
pub demand_3_checked : (bs : List ℕ) → check_opening bs ≡ Accepted → (offers : List Offer)
    → Demand3 (read_opening bs).run offers
demand_3_checked bs ok offers =
    let at : (read_opening bs).run ≡ run_from (setup_in bs) (default_in bs) (starts_in bs) = ap (λ (o : Opened). o.run)
    (opened bs ok) in
    let keeps : Keeps (read_opening bs).run = (sound_iff (read_opening bs).run).0 (opened_sound bs ok) in
    subst (λ (run : Run). Demand3 run offers) (sym at)
    (demand_3_of (setup_in bs) (default_in bs) (starts_in bs) (subst Keeps at keeps) offers)

pub demand_3 : Demand3Holds
demand_3 bs accepted offers = demand_3_checked bs (sym ((opening_replies bs).alone Accepted accepted)) offers
