-- No transaction of the periodic part is skipped for want of time, but in a held microframe or where more than 4 microseconds went for
-- complete-splits that were made again; and none is where all periodic endpoints of a script are of high speed (USB 2.0, 5.9 and 5.11.3;
-- EHCI 1.0, 4.4, 4.6, 4.10.3, 4.12.2.4 and 4.12.3).
--     is_late p            the next event of the visit skips a transaction, which its price is too high for
--     IsInTime fixed n w   in the periodic part of a microframe that isn't held a fifth of it is left, but for what was made again; and
--                          while that is no more than 4 microseconds the walk's next event skips no transaction for want of time
--     ArriveInTime s       so it is at each moment of the run of a script; and where its periodic endpoints are of high speed, nothing is
--                          made again
use Rattle.std.specs.Prelude.{◌≡◌, ℕ, ◌+◌, ◌≤◌, Bool, ◌&&◌, false, nat_lt, Option, Some, None}
use Rattle.script_types.specs.declared.scripts.Script.{Script}
use Rattle.toggle_error.specs.declared.host.Outcome.{Outcome}
use Rattle.itd_sitd.specs.declared.sitd.Sitd.{Sitd}
use Rattle.qh_qtd.specs.declared.queue_head.Qh.{Qh}
use Rattle.hc_interrupt.specs.declared.turns.Turn.{Turn}
use Rattle.hc_interrupt.specs.declared.turns.Turn.TheVariants as turns
use Rattle.hc_interrupt.specs.Turns.{microframe_of, turn_of, planned}
use Rattle.hc_iso.specs.declared.held.HeldItd.{HeldItd}
use Rattle.hc_iso.specs.declared.held.IsoEnd.{IsoEnd}
use Rattle.hc_iso.specs.declared.held.SplitOutcome.{SplitOutcome}
use Rattle.hc_iso.specs.declared.held.SitdTurn.{SitdTurn}
use Rattle.hc_iso.specs.declared.held.SitdTurn.TheVariants as sitd_turns
use Rattle.hc_iso.specs.Itd.{itd_transaction}
use Rattle.hc_iso.specs.Sitd.{sitd_turn, sitd_transaction}
use Rattle.periodic_walk.specs.declared.state.Hand.{Hand}
use Rattle.periodic_walk.specs.declared.state.Hand.TheVariants as hands
use Rattle.periodic_walk.specs.Place.{FramePlace}
use Rattle.hc_core.specs.declared.controller.ControllerRow.TheVariants as rows
use Rattle.hc_core.specs.declared.controller.MicroframePart.TheVariants.{Periodic}
use Rattle.hc_core.specs.Controller.{frame_place}
use Rattle.bus_wire.specs.Bus.{Fixed, fixed_of}
use Rattle.bus_world.specs.Budgets.{moment}
use Rattle.bus_world.specs.World.{World, controller_parts, controller_row}
use Rattle.claims_world.specs.Scripts.{HighPeriodicsOnly}
use Rattle.claims_world.specs.Visits.{is_held_now}
use Rattle.claims_world.specs.WithinLoad.{repeats}

abbrev pub is_late_turn : ℕ → Qh → Turn → Bool
is_late_turn left q turns.Work = nat_lt left (planned q).price.0
is_late_turn left q turns.Rest = false
is_late_turn left q turns.Miss = false
is_late_turn left q (turns.Take link) = false

-- nothing is skipped once its transaction was made
abbrev pub is_late_queue : ℕ → ℕ → Qh → Option Outcome → Bool
is_late_queue left f q None = is_late_turn left q (turn_of f q)
is_late_queue left f q (Some outcome) = false

abbrev pub is_late_itd : ℕ → HeldItd → Option IsoEnd → Bool
is_late_itd left h None = h.slot.active && nat_lt left (itd_transaction h).price.0
is_late_itd left h (Some ended) = false

abbrev pub is_late_split : ℕ → Sitd → SitdTurn → Bool
is_late_split left v sitd_turns.Work = nat_lt left (sitd_transaction v).price.0
is_late_split left v sitd_turns.Rest = false
is_late_split left v sitd_turns.Miss = false

abbrev pub is_late_sitd : ℕ → ℕ → Sitd → Option SplitOutcome → Bool
is_late_sitd left u v None = is_late_split left v (sitd_turn u v)
is_late_sitd left u v (Some outcome) = false

abbrev pub is_late_at : FramePlace → Option Hand → Bool
is_late_at p None = false
is_late_at p (Some (hands.Queue h)) = is_late_queue p.walk.left p.walk.index h.copy.queue_head h.copy.settled
is_late_at p (Some (hands.Itd h)) = is_late_itd p.walk.left h h.ended
is_late_at p (Some (hands.Sitd h)) = is_late_sitd p.walk.left (microframe_of p.walk.index) h.sitd h.settled

abbrev pub is_late : FramePlace → Bool
is_late p = is_late_at p p.walk.hand

-- 25,000,000 of the 125,000,000 ps; a transaction costs at most 21,000,000
pub record IsInTime (fixed : Fixed) (n : ℕ) (w : World) : Type 0 where
  pub fifth : w.control.part ≡ Periodic → is_held_now fixed w ≡ false → 25000000 ≤ w.control.frame.left + n
  pub in_time : controller_row w ≡ rows.Frame → is_held_now fixed w ≡ false → n ≤ 4000000
      → is_late (frame_place (controller_parts w)) ≡ false

pub record ArriveInTime (s : Script) : Type 0 where
  pub each : (k : ℕ) → IsInTime (fixed_of s) (repeats s k) (moment s k).world
  pub once : HighPeriodicsOnly s → (k : ℕ) → repeats s k ≡ 0
