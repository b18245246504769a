-- There is still room for what is owed once a transfer was given back, once a request without a line has ended, and once a line was made
-- for which there was room.
use Rattle.std.proofs.Common.{◌≡◌, ℕ, suc, ◌+◌, ◌-◌, ◌<◌, ◌≤◌, true, false, cond, List, set, slice_get, Some, arith, ap, sym, ◌∙◌, refl}
use Rattle.std.proofs.lemmas.List.{length-set}
use Rattle.drv_table.specs.declared.content.Endpoint.{Endpoint}
use Rattle.drv_table.specs.declared.content.Transfer.{Transfer}
use Rattle.drv_table.specs.declared.content.Reserve.{Reserve}
use Rattle.drv_table.specs.Parts.{Parts}
use Rattle.drv_table.specs.Releases.{free_qtds}
use Rattle.mem_runs.specs.Book.{holding}
use Rattle.drv_frames_content.specs.Part.{Held}
use Rattle.drv_jobs.specs.Clearing.{still_has, released_with, released_one, released_from}
use Rattle.ehci_driver.specs.Rooms.{HasRooms, HasFrameRooms, unreported, owed_bytes}
use Rattle.ehci_driver.proofs.Counts.{counted}
use Rattle.ehci_driver.proofs.Placed.{frames_kept}

-- ---- a transfer that is given back

abbrev back : Transfer → Transfer
back x = record x { reported = true; released = true }

back_lines : (ts : List Transfer) (t : ℕ) (x : Transfer) → slice_get ts t ≡ Some x → unreported (set ts t (back x)) ≤ unreported ts
back_lines ts t x there = omega (arith, counted (λ (u : Transfer). cond u.reported 0 1) ts t x (back x) there)

back_bytes : (ts : List Transfer) (t : ℕ) (x : Transfer) → slice_get ts t ≡ Some x → owed_bytes (set ts t (back x)) ≤ owed_bytes ts
back_bytes ts t x there = omega (arith, counted (λ (u : Transfer). cond u.reported 0 u.most) ts t x (back x) there)

pub back_rooms : {xs : List Endpoint} {ts : List Transfer} {room : Reserve} {endpoints transfers reports report_room bytes byte_room
    harvested harvest_room mends mend_room waiting waiting_room rung rung_room cleared cleared_room : ℕ} (t : ℕ) (x : Transfer)
    → HasRooms xs ts room endpoints transfers reports report_room bytes byte_room harvested harvest_room mends mend_room waiting
    waiting_room rung rung_room cleared cleared_room
    → slice_get ts t ≡ Some x
    → HasRooms xs (set ts t (record x { reported = true; released = true })) room endpoints transfers reports report_room bytes
    byte_room harvested harvest_room mends mend_room waiting waiting_room rung rung_room cleared cleared_room
back_rooms {ts = ts} t x rooms there =
    let lines = back_lines ts t x there in
    let bytes = back_bytes ts t x there in
    let long = length-set ts t (back x) in
    record {
      for_endpoints = rooms.for_endpoints;
      for_transfers = omega (arith, long, rooms.for_transfers);
      few_transfers = omega (arith, long, rooms.few_transfers);
      for_reports = omega (arith, lines, rooms.for_reports);
      for_bytes = omega (arith, bytes, rooms.for_bytes);
      bytes_fit = omega (arith, bytes, rooms.bytes_fit);
      for_harvested = omega (arith, lines, rooms.for_harvested);
      for_mends = omega (arith, lines, rooms.for_mends);
      for_waiting = rooms.for_waiting;
      for_rung = rooms.for_rung;
      for_cleared = rooms.for_cleared;
    }

pub back_frames : {xs : List Endpoint} {ts : List Transfer} {room : Reserve} {held : Held} (t : ℕ) (x : Transfer)
    → HasFrameRooms xs ts room held → slice_get ts t ≡ Some x
    → HasFrameRooms xs (set ts t (record x { reported = true; released = true })) room held
back_frames {xs = xs} {ts = ts} t x rooms there = frames_kept xs (set ts t (back x)) rooms refl (omega arith) (length-set ts t (back
    x)) (back_lines ts t x there)

pub released_when : (p : Parts) (e t : ℕ) (x : Transfer) → slice_get p.driver.transfers t ≡ Some x
    → still_has p.driver e t x ≡ true
    → released_one p e t (slice_get p.driver.transfers t) ≡ released_with p t x (free_qtds p.driver.notes (holding p.driver.book
    p.memory) x.first x.qtds)
released_when p e t x there has =
    ap (λ o. released_one p e t o) there
    ∙ ap (λ b. cond b (released_with p t x (free_qtds p.driver.notes (holding p.driver.book p.memory) x.first x.qtds)) p) has

pub released_not : (p : Parts) (e t : ℕ) (x : Transfer) → slice_get p.driver.transfers t ≡ Some x
    → still_has p.driver e t x ≡ false → released_one p e t (slice_get p.driver.transfers t) ≡ p
released_not p e t x there has =
    ap (λ o. released_one p e t o) there
    ∙ ap (λ b. cond b (released_with p t x (free_qtds p.driver.notes (holding p.driver.book p.memory) x.first x.qtds)) p) has

-- ---- all that are given back

pub released_more : (p : Parts) (e t n : ℕ) → t < n
    → released_from (released_one p e t (slice_get p.driver.transfers t)) e (t + 1) (n - (t + 1)) ≡ released_from p e t (n - t)
unfolding released_from
released_more p e t n below =
    let one : t + 1 ≡ suc t = omega arith in
    let long : n - t ≡ suc (n - (t + 1)) = omega arith in
    ap (λ j. released_from (released_one p e t (slice_get p.driver.transfers t)) e j (n - (t + 1))) one ∙ ap (λ m. released_from p e
    t m) (sym long)

pub released_all : (p : Parts) (e t n : ℕ) → n ≤ t → released_from p e t (n - t) ≡ p
unfolding released_from
released_all p e t n past = let none : n - t ≡ 0 = omega arith in ap (λ m. released_from p e t m) none

-- ---- a line

-- one line less than there is room for
pub silent_rooms : {xs : List Endpoint} {ts : List Transfer} {room : Reserve} {endpoints transfers reports report_room bytes
    byte_room harvested harvest_room mends mend_room waiting waiting_room rung rung_room cleared cleared_room : ℕ}
    → HasRooms xs ts room endpoints transfers (reports + 1) report_room bytes byte_room harvested harvest_room mends mend_room
    waiting waiting_room rung rung_room cleared cleared_room
    → HasRooms xs ts room endpoints transfers reports report_room bytes byte_room harvested harvest_room mends mend_room waiting
    waiting_room rung rung_room cleared cleared_room
silent_rooms rooms = record {
  for_endpoints = rooms.for_endpoints;
  for_transfers = rooms.for_transfers;
  few_transfers = rooms.few_transfers;
  for_reports = omega (arith, rooms.for_reports);
  for_bytes = rooms.for_bytes;
  bytes_fit = rooms.bytes_fit;
  for_harvested = rooms.for_harvested;
  for_mends = rooms.for_mends;
  for_waiting = rooms.for_waiting;
  for_rung = rooms.for_rung;
  for_cleared = rooms.for_cleared;
}
