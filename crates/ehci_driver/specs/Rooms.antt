-- The room that a driver made when it was built: each list has room for what is still owed to it, so that nothing grows later.
--     unreported ts       how many transfers have no line of the report yet
--     owed_bytes ts       the most bytes that their lines tell
--     owed_cancels xs     how many cancelled endpoints aren't given back yet
--     linked xs           how many endpoints are in the ring
--     chained xs          how many have a place in the frame list
--     AreBefore n ps      each placement is that of an endpoint below number n
use Rattle.std.specs.Prelude.{ℕ, ◌+◌, ◌*◌, ◌≤◌, ◌<◌, not, ◌&&◌, List, length, sum_by, if◌then◌else◌}
use Rattle.std.specs.List.{AllByRecursion}
use Rattle.bandwidth.specs.declared.placements.Placed.{Placed}
use Rattle.drv_frames_content.specs.Part.{Held}
use Rattle.drv_table.specs.declared.content.Endpoint.{Endpoint}
use Rattle.drv_table.specs.declared.content.Transfer.{Transfer}
use Rattle.drv_table.specs.declared.content.Reserve.{Reserve}

abbrev pub unreported : List Transfer → ℕ
unreported ts = sum_by (λ t. if t.reported then 0 else 1) ts

abbrev pub owed_bytes : List Transfer → ℕ
owed_bytes ts = sum_by (λ t. if t.reported then 0 else t.most) ts

abbrev pub owed_cancels : List Endpoint → ℕ
owed_cancels xs = sum_by (λ x. if x.cancelled && not x.gone then 1 else 0) xs

abbrev pub linked : List Endpoint → ℕ
linked xs = sum_by (λ x. if x.linked then 1 else 0) xs

pub record HasRooms (xs : List Endpoint) (ts : List Transfer) (room : Reserve) (endpoints transfers : ℕ)
    (reports report_room bytes byte_room harvested harvest_room mends mend_room waiting waiting_room rung rung_room cleared cleared_room : ℕ) : Type 0 where
  pub for_endpoints : length xs + room.endpoints ≤ endpoints
  pub for_transfers : length ts + room.transfers ≤ transfers
  pub few_transfers : length ts + room.transfers < 4294967296
  pub for_reports : reports + (unreported ts + owed_cancels xs + room.reports) ≤ report_room
  pub for_bytes : bytes + (owed_bytes ts + room.report_bytes) ≤ byte_room
  pub bytes_fit : bytes + (owed_bytes ts + room.report_bytes) < 4294967296
  pub for_harvested : harvested + (unreported ts + room.transfers) ≤ harvest_room
  pub for_mends : mends + 3 * (unreported ts + room.transfers) ≤ mend_room
  pub for_waiting : waiting + (linked xs + room.endpoints) ≤ waiting_room
  pub for_rung : waiting + rung + (linked xs + room.endpoints) ≤ rung_room
  pub for_cleared : waiting + rung + cleared + (linked xs + room.endpoints) ≤ cleared_room

abbrev pub chained : List Endpoint → ℕ
chained xs = sum_by (λ x. if x.chained then 1 else 0) xs

abbrev pub AreBefore : ℕ → List Placed → Type 0
AreBefore n ps = AllByRecursion (λ p. p.want.id < n) ps

-- the same of the endpoints that have a place in the frame list
pub record HasFrameRooms (xs : List Endpoint) (ts : List Transfer) (room : Reserve) (held : Held) : Type 0 where
  pub few_endpoints : length xs + room.endpoints < 4294967296
  pub for_queued : length ts + room.transfers + 1 ≤ held.queued_room
  pub for_plan : length held.periodic.plan.placed + room.endpoints ≤ held.periodic.plan.room
  pub placed_before : AreBefore (length xs) held.periodic.plan.placed
  pub for_unlinks : length held.periodic.unlinks + (unreported ts + room.transfers) ≤ held.unlink_room
  pub for_removals :
      length held.periodic.removals + length held.periodic.unlinks + (unreported ts + room.transfers) + (chained xs + room.endpoints)
      ≤ held.removal_room
