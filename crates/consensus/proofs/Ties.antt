-- The numbers are the definitions' own, and a record that spells a cell is read as that cell.
use mathlib.Core.Path.{◌≡◌, refl, ap, ◌∙◌}
use mathlib.Core.Bool.{Bool, false}
use mathlib.Core.List.{List}
use Prim.Native.Nat.{ℕ, ◌+◌, ◌*◌, ◌<◌, ◌≤◌}
use native.Mathlib.Nat.{add_assoc}
use lib.ListN.{length, length-replicate}
use native.Mathlib.Decide.{dec_le}
use native.Mathlib.Omega.{arith}
use Rattle.paper.specs.Heard as heard
use Rattle.run.specs.declared.Run.{Run}
use Rattle.run.specs.declared.record.Record.{Record}
use Rattle.run.specs.Record.{record_at, record_from}
use Rattle.run.specs.Reply.{is_accepted}
use Rattle.run.specs.Run.{stations, idle, run_to, station_at}
use Rattle.run.proofs.Machines.{idle_machine}
use Rattle.run.proofs.Number.{number_four}
use Rattle.run.proofs.Records.{record_at_in}
use Rattle.run.proofs.Replies.{accepted_is}
use Rattle.run.proofs.Sound.{sound_iff}
use Rattle.image.specs.Image.{image}
use Rattle.image.proofs.Images.{length_image, saving_accepted, saved_image}
use Rattle.round.specs.declared.Cell.{Cell}
use Rattle.round.specs.declared.Cell.TheVariants as cell
use Rattle.round.specs.Cells.{cell_record, cell_in}
use Rattle.round.specs.Bridge.{paper_cell, heard_in}
use Rattle.round.proofs.Matrices.{cell_inside}
use Rattle.round.proofs.Spelling.{cell_record_in}
use Rattle.consensus.specs.Round.{round_by_paper, cell_at}
use Rattle.consensus.specs.Ties.{Numbers, AcceptsAlone, RecordAt, ImageSpelled, Nothing, Heard}
use Rattle.consensus.proofs.Outside.{filled_everywhere, replicate_everywhere, no_receiver, no_sender}
use Rattle.consensus.proofs.Spelled.{image_saved}

pub numbers : Numbers
numbers =
    record {
      most_stations = refl;
      most_accepted = refl;
      record_long = refl;
      algorithms = (refl, refl);
      opening_kinds = (refl, refl, refl);
      round_kinds = (refl, refl, refl);
      image_kinds = (refl, refl, refl, refl, refl, refl, refl);
      accepted = (refl, refl);
      length = (refl, refl);
      malformed = λ k. (refl, refl);
      range = (refl, refl);
      inequality = (refl, refl);
      query = λ k. (refl, refl);
      altered = λ p. (refl, refl);
      unsafe = λ p. (refl, refl);
      full = (refl, refl);
      buffer = (refl, refl);
      rules = λ k. (refl, refl);
      answer = λ r. refl;
    }

module _ (run : Run) (bs : List ℕ) where
  abbrev n : ℕ
  n = run.setup.n

  spelled : (p q : ℕ) (c : Cell) → p < n → q < n → cell_at run bs p q ≡ cell_record p q c
      → (round_by_paper run bs).heard p q ≡ paper_cell c
  unfolding round_by_paper
  spelled p q c lp lq e =
      ap paper_cell (cell_inside n bs p q lp lq ∙ ap cell_in e ∙ cell_record_in p q c)

  outside : (p q : ℕ) → ¬ ((p < n) × (q < n)) → (round_by_paper run bs).heard p q ≡ heard.lost
  unfolding round_by_paper
  outside p q out = go (dec_le n p) (dec_le n q)
    where
      go : Dec (n ≤ p) → Dec (n ≤ q) → heard_in n bs p q ≡ heard.lost
      go (yes h) d = no_receiver n bs p h q
      go (no h) (yes g) = no_sender n bs p q g
      go (no h) (no g) = absurd (out (omega (arith, h), omega (arith, g)))

  pub heard_as : Heard run bs
  heard_as =
      record {
        value = λ p q v lp lq e. spelled p q (cell.Value v) lp lq e;
        query = λ p q lp lq e. spelled p q cell.Query lp lq e;
        lost = λ p q lp lq e. spelled p q cell.Lost lp lq e;
        outside = outside;
      }

-- ---- what a refusal gives
idle_station : (i : ℕ) → station_at idle i
    ≡ record { estimate = 0; voted = false; vote = 0; decided = false; decision = 0; round = 0 }
unfolding idle run_to
idle_station i =
    rw (
      filled_everywhere {A = ℕ} 0 (λ j. 0) 0 (omega arith) (λ j h. refl) i,
      filled_everywhere {A = Bool} 0 (λ j. false) false (omega arith) (λ j h. refl) i,
    )

pub nothing_there : Nothing
unfolding idle run_to
nothing_there =
    record {
      setup = refl;
      default = refl;
      clock = refl;
      station = idle_station;
      machine = idle_machine;
      lost = λ p q. replicate_everywhere (stations * stations) cell.Lost (stations * p + q);
      cells = length-replicate (stations * stations) cell.Lost;
    }

pub accepts_alone : AcceptsAlone
accepts_alone r = (accepted_is r, λ e. ap is_accepted e)

-- where the bytes have such a record
pub record_told : (bs : List ℕ) (k : ℕ) → 8 * k + 8 ≤ length bs → RecordAt bs k
unfolding record_from
record_told bs k long =
    let is : record_at bs k ≡ record_from bs (8 * k) = record_at_in bs k (omega (arith, long)) in
    record {
      kind_byte = ap (λ (r : Record). r.kind) is;
      byte_1 = ap (λ (r : Record). r.first) is;
      byte_2 = ap (λ (r : Record). r.second) is;
      byte_3 = ap (λ (r : Record). r.third) is;
      number =
          ap (λ (r : Record). r.number) is ∙ number_four bs (8 * k + 4)
          ∙ rw (add_assoc (8 * k) 4 1, add_assoc (8 * k) 4 2, add_assoc (8 * k) 4 3) (omega arith);
    }

pub images_spelled : ImageSpelled
images_spelled run keeps machine =
    let good = (sound_iff run).1 keeps in
    let room = length_image run in
    let written = image_saved run (image run) machine ((saving_accepted run (length (image run))).1 (good, room)) in
    rw (saved_image run (image run) good room) at written
