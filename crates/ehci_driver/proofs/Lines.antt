-- There is room for a line of the report, and still room for what is owed once it was made.
use Rattle.std.proofs.Common.{◌≡◌, ℕ, ◌+◌, ◌<◌, ◌≤◌, false, true, List, set, slice_get, Some, arith}
use Rattle.std.proofs.lemmas.List.{length-set}
use Rattle.drv_table.specs.declared.content.Endpoint.{Endpoint}
use Rattle.drv_table.specs.declared.content.Transfer.{Transfer}
use Rattle.drv_table.specs.declared.content.Reserve.{Reserve}
use Rattle.ehci_driver.specs.Rooms.{HasRooms}
use Rattle.ehci_driver.proofs.Counts.{told_once, told_bytes, kept_lines, kept_bytes, kept_linked, kept_cancels}

pub record CanTell (x : Transfer) (reports report_room bytes byte_room harvested harvest_room mends mend_room : ℕ) : Type 0 where
  pub line : reports < report_room
  pub holds : bytes + x.most ≤ byte_room
  pub fits : bytes + x.most < 4294967296
  pub harvest : harvested < harvest_room
  pub stores : mends + 3 ≤ mend_room

pub can_tell : {xs : List Endpoint} {ts : List Transfer} {room : Reserve} {endpoints transfers reports report_room bytes byte_room harvested harvest_room mends mend_room waiting waiting_room rung rung_room cleared cleared_room : ℕ} (t : ℕ) (x : Transfer) → HasRooms xs ts room endpoints transfers reports report_room bytes byte_room harvested harvest_room mends mend_room waiting waiting_room rung rung_room cleared cleared_room → slice_get ts t ≡ Some x → x.reported ≡ false → CanTell x reports report_room bytes byte_room harvested harvest_room mends mend_room
can_tell {xs = xs} {ts = ts} t x rooms there fresh =
    let once = told_once ts t x there fresh in
    let most = told_bytes ts t x there fresh in
    record {
      line = omega (arith, once, rooms.for_reports);
      holds = omega (arith, most, rooms.for_bytes);
      fits = omega (arith, most, rooms.bytes_fit);
      harvest = omega (arith, once, rooms.for_harvested);
      stores = omega (arith, once, rooms.for_mends);
    }

-- the endpoint changes to y, whose place in the ring and whose cancel stay
pub told_rooms : {xs : List Endpoint} {ts : List Transfer} {room : Reserve} {endpoints transfers reports report_room bytes byte_room harvested harvest_room mends mend_room waiting waiting_room rung rung_room cleared cleared_room : ℕ} (t : ℕ) (x : Transfer) (e : ℕ) (old y : Endpoint) (more_bytes more_harvested more_mends : ℕ) → HasRooms xs ts room endpoints transfers reports report_room bytes byte_room harvested harvest_room mends mend_room waiting waiting_room rung rung_room cleared cleared_room → slice_get ts t ≡ Some x → x.reported ≡ false → slice_get xs e ≡ Some old → y.linked ≡ old.linked → y.cancelled ≡ old.cancelled → y.gone ≡ old.gone → more_bytes ≤ bytes + x.most → more_harvested ≤ harvested + 1 → more_mends ≤ mends + 3 → HasRooms (set xs e y) (set ts t (record x { reported = true })) room endpoints transfers (reports + 1) report_room more_bytes byte_room more_harvested harvest_room more_mends mend_room waiting waiting_room rung rung_room cleared cleared_room
told_rooms {xs = xs} {ts = ts} t x e old y more_bytes more_harvested more_mends rooms there fresh here ring cancel gone few one three =
    let once = told_once ts t x there fresh in
    let most = told_bytes ts t x there fresh in
    let same = kept_linked xs e old y here ring in
    let also = kept_cancels xs e old y here cancel gone in
    let long = length-set ts t (record x { reported = true }) in
    let many = length-set xs e y in
    record {
      for_endpoints = omega (arith, many, rooms.for_endpoints);
      for_transfers = omega (arith, long, rooms.for_transfers);
      few_transfers = omega (arith, long, rooms.few_transfers);
      for_reports = omega (arith, once, also, rooms.for_reports);
      for_bytes = omega (arith, most, rooms.for_bytes);
      bytes_fit = omega (arith, most, rooms.bytes_fit);
      for_harvested = omega (arith, once, rooms.for_harvested);
      for_mends = omega (arith, once, rooms.for_mends);
      for_waiting = omega (arith, same, rooms.for_waiting);
      for_rung = omega (arith, same, rooms.for_rung);
      for_cleared = omega (arith, same, rooms.for_cleared);
    }

-- the same where the lengths and capacities after it are told by equations
pub told_after : {xs : List Endpoint} {ts : List Transfer} {room : Reserve} {endpoints transfers reports report_room bytes byte_room harvested harvest_room mends mend_room waiting waiting_room rung rung_room cleared cleared_room : ℕ} (t : ℕ) (x : Transfer) (e : ℕ) (old y : Endpoint) (lines line_room more more_room gives give_room stores store_room : ℕ) → HasRooms xs ts room endpoints transfers reports report_room bytes byte_room harvested harvest_room mends mend_room waiting waiting_room rung rung_room cleared cleared_room → slice_get ts t ≡ Some x → x.reported ≡ false → slice_get xs e ≡ Some old → y.linked ≡ old.linked → y.cancelled ≡ old.cancelled → y.gone ≡ old.gone → lines ≡ reports + 1 → line_room ≡ report_room → more ≤ bytes + x.most → more_room ≡ byte_room → gives ≤ harvested + 1 → give_room ≡ harvest_room → stores ≤ mends + 3 → store_room ≡ mend_room → HasRooms (set xs e y) (set ts t (record x { reported = true })) room endpoints transfers lines line_room more more_room gives give_room stores store_room waiting waiting_room rung rung_room cleared cleared_room
told_after {xs = xs} {ts = ts} t x e old y lines line_room more more_room gives give_room stores store_room rooms there fresh here ring cancel gone l lr m mr g gr s sr =
    let once = told_once ts t x there fresh in
    let most = told_bytes ts t x there fresh in
    let same = kept_linked xs e old y here ring in
    let also = kept_cancels xs e old y here cancel gone in
    let long = length-set ts t (record x { reported = true }) in
    let many = length-set xs e y in
    record {
      for_endpoints = omega (arith, many, rooms.for_endpoints);
      for_transfers = omega (arith, long, rooms.for_transfers);
      few_transfers = omega (arith, long, rooms.few_transfers);
      for_reports = omega (arith, once, also, rooms.for_reports);
      for_bytes = omega (arith, most, rooms.for_bytes);
      bytes_fit = omega (arith, most, rooms.bytes_fit);
      for_harvested = omega (arith, once, rooms.for_harvested);
      for_mends = omega (arith, once, rooms.for_mends);
      for_waiting = omega (arith, same, rooms.for_waiting);
      for_rung = omega (arith, same, rooms.for_rung);
      for_cleared = omega (arith, same, rooms.for_cleared);
    }

-- one transfer changes, in which its line and its bytes stay
pub moved_rooms : {xs : List Endpoint} {ts : List Transfer} {room : Reserve} {endpoints transfers reports report_room bytes byte_room harvested harvest_room mends mend_room waiting waiting_room rung rung_room cleared cleared_room : ℕ} (t : ℕ) (x y : Transfer) → HasRooms xs ts room endpoints transfers reports report_room bytes byte_room harvested harvest_room mends mend_room waiting waiting_room rung rung_room cleared cleared_room → slice_get ts t ≡ Some x → y.reported ≡ x.reported → y.most ≡ x.most → HasRooms xs (set ts t y) room endpoints transfers reports report_room bytes byte_room harvested harvest_room mends mend_room waiting waiting_room rung rung_room cleared cleared_room
moved_rooms {ts = ts} t x y rooms there same most =
    let once = kept_lines ts t x y there same in
    let bytes = kept_bytes ts t x y there same most in
    let long = length-set ts t y in
    record {
      for_endpoints = rooms.for_endpoints;
      for_transfers = omega (arith, long, rooms.for_transfers);
      few_transfers = omega (arith, long, rooms.few_transfers);
      for_reports = omega (arith, once, rooms.for_reports);
      for_bytes = omega (arith, bytes, rooms.for_bytes);
      bytes_fit = omega (arith, bytes, rooms.bytes_fit);
      for_harvested = omega (arith, once, rooms.for_harvested);
      for_mends = omega (arith, once, rooms.for_mends);
      for_waiting = rooms.for_waiting;
      for_rung = rooms.for_rung;
      for_cleared = rooms.for_cleared;
    }
