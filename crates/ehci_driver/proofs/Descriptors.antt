-- There is still room for what is owed once descriptors were accepted.
use Rattle.std.proofs.Common.{◌≡◌, ℕ, zero, suc, ◌+◌, ◌-◌, ◌*◌, ◌≤◌, ◌%◌, cond, List, [], ◌∷◌, ◌++◌, length, drop, set, slice_get, Some, arith, ap}
use Rattle.std.proofs.Math.Nat.{suc-mul}
use Rattle.std.proofs.lemmas.List.{length-set, length_push}
use Rattle.std.proofs.lemmas.List.Sums.{sum_by_push}
use Rattle.usb_base.specs.declared.endpoints.EpDesc.{EpDesc}
use Rattle.mem_runs.specs.Book.{Book}
use Rattle.drv_frames_content.specs.Part.{Held}
use Rattle.drv_table.specs.declared.content.Endpoint.{Endpoint}
use Rattle.drv_table.specs.declared.content.Transfer.{Transfer}
use Rattle.drv_table.specs.declared.content.Reserve.{Reserve}
use Rattle.drv_table.specs.declared.content.Slots.{Slots}
use Rattle.drv_table.specs.IsoOffers.{Descriptors, all_descriptors, one_descriptor, descriptor_transfer, slot_runs, total_of, with_descriptors}
use Rattle.ehci_driver.specs.Rooms.{HasRooms, HasFrameRooms, unreported, owed_bytes}
use Rattle.ehci_driver.proofs.Counts.{kept_linked, kept_cancels}
use Rattle.ehci_driver.proofs.Placed.{kept_chained, before_same, frames_written}

-- what n descriptors add
pub record Adds (n most : ℕ) (ts us : List Transfer) : Type 0 where
  pub many : length us ≡ length ts + n
  pub lines : unreported us ≡ unreported ts + n
  pub bytes : owed_bytes us ≡ owed_bytes ts + n * most

adds_one : (n e : ℕ) (s : Slots) (b : ℕ) (ts us : List Transfer) → Adds n (total_of s) (ts ++ descriptor_transfer e s b ∷ []) us → Adds (suc n) (total_of s) ts us
adds_one n e s b ts us rest =
    let t = descriptor_transfer e s b in
    let l = length_push ts t in
    let u = sum_by_push (λ (x : Transfer). cond x.reported 0 1) ts t in
    let o = sum_by_push (λ (x : Transfer). cond x.reported 0 x.most) ts t in
    let more : suc n * total_of s ≡ n * total_of s + total_of s = suc-mul n (total_of s) in
    record {
      many = omega (arith, rest.many, l);
      lines = omega (arith, rest.lines, u);
      bytes = omega (arith, rest.bytes, o, more);
    }

pub adds_all : (k : Book) (e : ℕ) (x : EpDesc) (s : Slots) (n seed : ℕ) (runs : List ℕ) (a : Descriptors) → Adds n (total_of s) a.transfers (all_descriptors k e x s n seed runs a).transfers
unfolding all_descriptors
adds_all k e x s zero seed runs a = record { many = omega arith; lines = omega arith; bytes = omega arith }
adds_all k e x s (suc n) seed runs a =
    let more = one_descriptor k e x s seed runs a in
    adds_one n e s _ a.transfers _ (adds_all k e x s n ((seed + total_of s) % 256) (drop (suc (slot_runs s)) runs) more)

pub descriptors_rooms : {xs : List Endpoint} {ts : List Transfer} {room : Reserve} {endpoints transfers reports report_room bytes byte_room harvested harvest_room mends mend_room waiting waiting_room rung rung_room cleared cleared_room : ℕ} (us : List Transfer) (left : Reserve) (n most cap e : ℕ) (old y : Endpoint) → HasRooms xs ts room endpoints transfers reports report_room bytes byte_room harvested harvest_room mends mend_room waiting waiting_room rung rung_room cleared cleared_room → n ≤ room.transfers → n ≤ room.reports → n * most ≤ room.report_bytes → Adds n most ts us → cap ≡ transfers → slice_get xs e ≡ Some old → y.linked ≡ old.linked → y.cancelled ≡ old.cancelled → y.gone ≡ old.gone → left ≡ with_descriptors room n most → HasRooms (set xs e y) us left endpoints cap reports report_room bytes byte_room harvested harvest_room mends mend_room waiting waiting_room rung rung_room cleared cleared_room
descriptors_rooms {xs = xs} {ts = ts} {room = room} us left n most cap e old y rooms some line fits adds same here ring cancel gone rest =
    let many = length-set xs e y in
    let r0 : left.endpoints ≡ room.endpoints = ap (λ (r : Reserve). r.endpoints) rest in
    let r1 : left.transfers ≡ room.transfers - n = ap (λ (r : Reserve). r.transfers) rest in
    let r2 : left.reports ≡ room.reports - n = ap (λ (r : Reserve). r.reports) rest in
    let r3 : left.report_bytes ≡ room.report_bytes - n * most = ap (λ (r : Reserve). r.report_bytes) rest in
    let links = kept_linked xs e old y here ring in
    let cancels = kept_cancels xs e old y here cancel gone in
    record {
      for_endpoints = omega (arith, many, r0, rooms.for_endpoints);
      for_transfers = omega (arith, adds.many, r1, some, same, rooms.for_transfers);
      few_transfers = omega (arith, adds.many, r1, some, rooms.few_transfers);
      for_reports = omega (arith, cancels, adds.lines, r2, line, rooms.for_reports);
      for_bytes = omega (arith, adds.bytes, r3, fits, rooms.for_bytes);
      bytes_fit = omega (arith, adds.bytes, r3, fits, rooms.bytes_fit);
      for_harvested = omega (arith, adds.lines, r1, some, rooms.for_harvested);
      for_mends = omega (arith, adds.lines, r1, some, rooms.for_mends);
      for_waiting = omega (arith, links, r0, rooms.for_waiting);
      for_rung = omega (arith, links, r0, rooms.for_rung);
      for_cleared = omega (arith, links, r0, rooms.for_cleared);
    }

pub descriptors_frames : {xs : List Endpoint} {ts : List Transfer} {room : Reserve} {h : Held} (ys : List Endpoint) (us : List Transfer) (left : Reserve) (n most e : ℕ) (old y : Endpoint) → HasFrameRooms xs ts room h → n ≤ room.transfers → Adds n most ts us → ys ≡ set xs e y → slice_get xs e ≡ Some old → y.chained ≡ old.chained → left ≡ with_descriptors room n most → HasFrameRooms ys us left h
descriptors_frames {xs = xs} {ts = ts} {room = room} ys us left n most e old y rooms some adds is here chain rest =
    let many = length-set xs e y in
    let r0 : left.endpoints ≡ room.endpoints = ap (λ (r : Reserve). r.endpoints) rest in
    let r1 : left.transfers ≡ room.transfers - n = ap (λ (r : Reserve). r.transfers) rest in
    let chains = kept_chained xs e old y here chain in
    frames_written (set xs e y) ys is (record {
      few_endpoints = omega (arith, many, r0, rooms.few_endpoints);
      for_queued = omega (arith, adds.many, r1, some, rooms.for_queued);
      for_plan = omega (arith, r0, rooms.for_plan);
      placed_before = before_same _ _ _ many rooms.placed_before;
      for_unlinks = omega (arith, adds.lines, r1, some, rooms.for_unlinks);
      for_removals = omega (arith, adds.lines, r0, r1, some, chains, rooms.for_removals);
    })
