-- Each event of the controller in the asynchronous part, the first of the part also, lowers the events that may still come in the microframe, unless it ends it (EHCI 1.0, 4.8 and 4.8.3).
use Rattle.std.proofs.Common.{◌≡◌, ◌≢◌, ℕ, zero, suc, ◌<◌, ◌≤◌, true, List, length, None, refl, sym, subst, ap, ◌∙◌, arith}
use Rattle.async_walk.specs.declared.state.WalkStep.{WalkStep}
use Rattle.async_walk.specs.declared.state.WalkStep.TheVariants as walk_steps
use Rattle.async_walk.specs.Rows.{started, event_row}
use Rattle.async_walk.proofs.Causes.{each_row_has_its_cause}
use Rattle.hc_core.specs.declared.controller.ControllerRow.{ControllerRow}
use Rattle.hc_core.specs.declared.controller.ControllerRow.TheVariants as rows
use Rattle.hc_core.specs.declared.controller.HcStep.TheVariants as steps
use Rattle.hc_core.specs.declared.controller.MicroframePart.{MicroframePart}
use Rattle.hc_core.specs.declared.controller.MicroframePart.TheVariants.{Asynchronous}
use Rattle.hc_core.specs.Controller.{Control, Content, entered, hc_step, kind_of, part_after, walk_place, walk_step, HasRow, Walks}
use Rattle.bus_wire.specs.Bus.{Fixed}
use Rattle.bus_world.specs.World.{World, controller_parts, controller_row, controller_next, kind_next, turned_by}
use Rattle.law_world.specs.steps.Streaming.{begins_by, transacts_by, wired}
use Rattle.law_world.proofs.lemmas.steps.StreamTurning.{world_has_row}
use Rattle.law_world.specs.memory.Mixed.{IsMixedWorld}
use Rattle.law_microframes.proofs.lemmas.visits.ReasonParts.{InPart, row_in}
use Rattle.claims_world.specs.Visits.{visits_after}
use Rattle.law_microframes.specs.time.Rounds.{round_by, round_after}
use Rattle.claims_world.specs.Microframes.{most_blocks}
use Rattle.law_microframes.specs.time.HeadReads.{reads_head, heads_by, heads_after}
use Rattle.law_microframes.specs.time.Taken.{Takes}
use Rattle.law_microframes.proofs.lemmas.time.CountTaken.{events_take_time}
use Rattle.law_microframes.proofs.lemmas.time.VisitStepRing.{ring_events_fall, ring_fetches_begin}
use Rattle.law_microframes.specs.time.Ahead.{ring_ahead, chain_ahead, events_in, events_ahead, IsCounted, RowLowers}
use Rattle.law_microframes.proofs.lemmas.time.RingEvents.{HeadHasBit, head_has_bit, row_lowers}

-- ---- an event of the walk of the ring, as one of the controller

goes : (step : WalkStep) → hc_step step ≢ steps.End → part_after Asynchronous step ≡ Asynchronous
goes walk_steps.Ended on = absurd (on refl)
goes walk_steps.Fault on = absurd (on refl)
goes _ on = refl

none_yet : (n : ℕ) → (1 ≤ n → ⊥) → n ≡ 0
none_yet zero some = refl
none_yet (suc n) some = absurd (some (omega arith))

before : (a b c : ℕ) → a < b → b ≤ c → a < c
before a b c less most = omega (arith, less, most)

bit_in : (w : World) → IsMixedWorld w → HeadHasBit w.memory
bit_in w k = head_has_bit w.memory w.driver k.mixed.now.framed.place.fixed

-- `c`: the contents at which the walk goes on
module _ (fixed : Fixed) (w : World) (c : Content) (rs : List ℕ) (n : ℕ) where
  abbrev new : World
  new = controller_next fixed w

  record IsWalked : Type 0 where
    goes_on : hc_step (walk_step c) ≢ steps.End
    walked : Walks transacts_by c (wired fixed w) (controller_parts new) (wired fixed new)
    takes : Takes (walk_step c) new.control.walk.left c.control.walk.left
    round : length (round_by (event_row (walk_place c)) rs) ≤ most_blocks
    first : reads_head (event_row (walk_place c)) ≡ true → n ≡ 0
    has_bit : HeadHasBit c.memory

  walk_lowers : IsWalked → ring_ahead new.control.walk.left new.control.walk.held (round_by (event_row (walk_place c)) rs) (heads_by (event_row (walk_place c)) n)
      < ring_ahead c.control.walk.left c.control.walk.held rs n
  walk_lowers k =
      row_lowers (started (walk_place c)) new.control.walk rs n (event_row (walk_place c)) (each_row_has_its_cause (started (walk_place c)))
      (record {
        goes_on = k.goes_on;
        takes = k.takes;
        falls = λ h held. ring_events_fall transacts_by (walk_place c) (walk_place (controller_parts new)) (wired fixed w) (wired fixed new) h held k.walked.walked;
        begins = λ none. ring_fetches_begin transacts_by (walk_place c) (walk_place (controller_parts new)) (wired fixed w) (wired fixed new) none k.walked.walked;
        round = k.round;
        first = k.first;
        has_bit = k.has_bit;
      })

  -- .. and the part goes on
  part_lowers : (vs : List ℕ) → IsWalked
      → events_ahead new.control vs (round_by (event_row (walk_place c)) rs) (heads_by (event_row (walk_place c)) n) < ring_ahead c.control.walk.left c.control.walk.held rs n
  part_lowers vs k =
      subst
      (λ (x : MicroframePart). events_in x new.control vs (round_by (event_row (walk_place c)) rs) (heads_by (event_row (walk_place c)) n)
      < ring_ahead c.control.walk.left c.control.walk.held rs n)
      (sym (k.walked.part ∙ goes (walk_step c) k.goes_on)) (walk_lowers k)

-- ---- each row

module _ (fixed : Fixed) (w : World) (vs rs : List ℕ) (n : ℕ) (k : IsCounted fixed w vs rs n) where
  abbrev parts : Content
  parts = controller_parts w

  abbrev later : World
  later = controller_next fixed w

  row_at : (row : ControllerRow) → controller_row w ≡ row → HasRow begins_by transacts_by row parts (wired fixed w) (controller_parts later) (wired fixed later)
  row_at row is = subst (λ (x : ControllerRow). HasRow begins_by transacts_by x parts (wired fixed w) (controller_parts later) (wired fixed later)) is (world_has_row fixed w)

  control_at : (row : ControllerRow) → controller_row w ≡ row → later.control ≡ (turned_by fixed row parts w.bus).content.control
  control_at row is = ap (λ (x : ControllerRow). (turned_by fixed x parts w.bus).content.control) is

  part_at : (row : ControllerRow) → controller_row w ≡ row → InPart row w.control.part
  part_at row is = subst (λ (x : ControllerRow). InPart x w.control.part) is (row_in w)

  round_at : (row : ControllerRow) → controller_row w ≡ row → length (round_after row parts rs) ≤ most_blocks
  round_at row is = subst (λ (x : ControllerRow). length (round_after x parts rs) ≤ most_blocks) is k.round

  kind_at : (row : ControllerRow) → controller_row w ≡ row → kind_next w ≢ steps.End → kind_of row parts ≢ steps.End
  kind_at row is goes_on ends = goes_on (ap (λ (x : ControllerRow). kind_of x parts) is ∙ ends)

  go_walked : controller_row w ≡ rows.Go → kind_next w ≢ steps.End → IsWalked fixed w parts rs n
  go_walked is goes_on = record {
    goes_on = kind_at rows.Go is goes_on;
    walked = row_at rows.Go is;
    takes = subst (λ (x : Control). Takes (walk_step parts) x.walk.left w.control.walk.left) (sym (control_at rows.Go is)) (events_take_time fixed (walk_place parts) w.bus);
    round = round_at rows.Go is;
    first = λ reads. none_yet n (λ some. goes_on (k.heads.ends is some reads).is_end);
    has_bit = bit_in w k.mixed;
  }

  go_then : controller_row w ≡ rows.Go → kind_next w ≢ steps.End
      → events_ahead later.control (visits_after rows.Go parts vs) (round_after rows.Go parts rs) (heads_after rows.Go parts n) < events_ahead w.control vs rs n
  go_then is goes_on =
      subst
      (λ (x : MicroframePart). events_ahead later.control (visits_after rows.Go parts vs) (round_after rows.Go parts rs) (heads_after rows.Go parts n) < events_in x w.control vs rs n)
      (sym (part_at rows.Go is)) (part_lowers fixed w parts rs n (visits_after rows.Go parts vs) (go_walked is goes_on))

  enter_walked : controller_row w ≡ rows.Enter → kind_next w ≢ steps.End → IsWalked fixed w (entered parts) rs 0
  enter_walked is goes_on = record {
    goes_on = kind_at rows.Enter is goes_on;
    walked = row_at rows.Enter is;
    takes = subst (λ (x : Control). Takes (walk_step (entered parts)) x.walk.left w.control.frame.left) (sym (control_at rows.Enter is))
        (events_take_time fixed (walk_place (entered parts)) w.bus);
    round = round_at rows.Enter is;
    first = λ reads. refl;
    has_bit = bit_in w k.mixed;
  }

  -- what was counted before the part began
  enter_most : ring_ahead w.control.frame.left None rs 0 ≤ chain_ahead w.control.frame vs
  enter_most = omega arith

  enter_then : controller_row w ≡ rows.Enter → kind_next w ≢ steps.End
      → events_ahead later.control (visits_after rows.Enter parts vs) (round_after rows.Enter parts rs) (heads_after rows.Enter parts n) < events_ahead w.control vs rs n
  enter_then is goes_on =
      subst
      (λ (x : MicroframePart). events_ahead later.control (visits_after rows.Enter parts vs) (round_after rows.Enter parts rs) (heads_after rows.Enter parts n) < events_in x w.control vs rs n)
      (sym (part_at rows.Enter is)) (before _ _ _ (part_lowers fixed w (entered parts) rs 0 (visits_after rows.Enter parts vs) (enter_walked is goes_on)) enter_most)

pub go_lowers : RowLowers rows.Go
go_lowers fixed w vs rs n k is goes_on = go_then fixed w vs rs n k is goes_on

pub enter_lowers : RowLowers rows.Enter
enter_lowers fixed w vs rs n k is goes_on = enter_then fixed w vs rs n k is goes_on
