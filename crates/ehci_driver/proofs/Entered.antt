-- There is still room for what is owed once a command was accepted.
use Rattle.std.proofs.Common.{◌≡◌, ℕ, ◌+◌, ◌-◌, ◌≤◌, Bool, true, false, not, ◌&&◌, cond, List, [], ◌∷◌, ◌++◌, length, set, slice_get, Some, arith, ap, ◌∙◌}
use Rattle.std.proofs.lemmas.List.{length-set, length_push}
use Rattle.std.proofs.lemmas.List.Sums.{sum_by_push}
use Rattle.drv_table.specs.declared.content.Endpoint.{Endpoint}
use Rattle.drv_table.specs.declared.content.Transfer.{Transfer}
use Rattle.drv_table.specs.declared.content.Reserve.{Reserve}
use Rattle.drv_table.specs.Offers.{with_transfer}
use Rattle.ehci_driver.specs.Rooms.{HasRooms, unreported, owed_bytes, owed_cancels, linked}
use Rattle.ehci_driver.proofs.Counts.{counted, kept_linked, kept_cancels}

-- a new endpoint
one_linked : (xs : List Endpoint) (y : Endpoint) → y.linked ≡ true → linked (xs ++ y ∷ []) ≡ linked xs + 1
one_linked xs y on =
    let one : ◌≡◌ {A = ℕ} (cond y.linked 1 0) 1 = ap (λ b. cond b 1 0) on in
    omega (arith, sum_by_push (λ (u : Endpoint). cond u.linked 1 0) xs y, one)

no_cancel : (xs : List Endpoint) (y : Endpoint) → y.cancelled ≡ false → owed_cancels (xs ++ y ∷ []) ≡ owed_cancels xs
no_cancel xs y off =
    let none : ◌≡◌ {A = ℕ} (cond (y.cancelled && not y.gone) 1 0) 0 = ap (λ b. cond (b && not y.gone) 1 0) off in
    omega (arith, sum_by_push (λ (u : Endpoint). cond (u.cancelled && not u.gone) 1 0) xs y, none)

pub opened_rooms : {xs : List Endpoint} {ts : List Transfer} {room : Reserve} {endpoints transfers reports report_room bytes byte_room harvested harvest_room mends mend_room waiting waiting_room rung rung_room cleared cleared_room : ℕ} (ys : List Endpoint) (y : Endpoint) (cap : ℕ) → HasRooms xs ts room endpoints transfers reports report_room bytes byte_room harvested harvest_room mends mend_room waiting waiting_room rung rung_room cleared cleared_room → 1 ≤ room.endpoints → ys ≡ xs ++ y ∷ [] → y.cancelled ≡ false → y.linked ≡ true → cap ≡ endpoints → HasRooms ys ts (record room { endpoints = room.endpoints - 1 }) cap transfers reports report_room bytes byte_room harvested harvest_room mends mend_room waiting waiting_room rung rung_room cleared cleared_room
opened_rooms {xs = xs} {ts = ts} ys y cap rooms some these off on same =
    let long : length ys ≡ length xs + 1 = ap (length {A = Endpoint}) these ∙ length_push xs y in
    let ring : linked ys ≡ linked xs + 1 = ap linked these ∙ one_linked xs y on in
    let owed : owed_cancels ys ≡ owed_cancels xs = ap owed_cancels these ∙ no_cancel xs y off in
    record {
      for_endpoints = omega (arith, rooms.for_endpoints);
      for_transfers = rooms.for_transfers;
      few_transfers = rooms.few_transfers;
      for_reports = omega (arith, rooms.for_reports);
      for_bytes = rooms.for_bytes;
      bytes_fit = rooms.bytes_fit;
      for_harvested = rooms.for_harvested;
      for_mends = rooms.for_mends;
      for_waiting = omega (arith, rooms.for_waiting);
      for_rung = omega (arith, rooms.for_rung);
      for_cleared = omega (arith, rooms.for_cleared);
    }

-- a new transfer
one_line : (ts : List Transfer) (t : Transfer) → t.reported ≡ false → unreported (ts ++ t ∷ []) ≡ unreported ts + 1
one_line ts t fresh =
    let one : ◌≡◌ {A = ℕ} (cond t.reported 0 1) 1 = ap (λ b. cond b 0 1) fresh in
    omega (arith, sum_by_push (λ (u : Transfer). cond u.reported 0 1) ts t, one)

more_bytes : (ts : List Transfer) (t : Transfer) → t.reported ≡ false → owed_bytes (ts ++ t ∷ []) ≡ owed_bytes ts + t.most
more_bytes ts t fresh =
    let most : cond t.reported 0 t.most ≡ t.most = ap (λ b. cond b 0 t.most) fresh in
    omega (arith, sum_by_push (λ (u : Transfer). cond u.reported 0 u.most) ts t, most)

pub entered_rooms : {xs : List Endpoint} {ts : List Transfer} {room : Reserve} {endpoints transfers reports report_room bytes byte_room harvested harvest_room mends mend_room waiting waiting_room rung rung_room cleared cleared_room : ℕ} (us : List Transfer) (t : Transfer) (left : Reserve) (cap e : ℕ) (old y : Endpoint) → HasRooms xs ts room endpoints transfers reports report_room bytes byte_room harvested harvest_room mends mend_room waiting waiting_room rung rung_room cleared cleared_room → 1 ≤ room.transfers → 1 ≤ room.reports → t.most ≤ room.report_bytes → t.reported ≡ false → us ≡ ts ++ t ∷ [] → cap ≡ transfers → slice_get xs e ≡ Some old → y.linked ≡ old.linked → y.cancelled ≡ old.cancelled → y.gone ≡ old.gone → left ≡ with_transfer room t.most → HasRooms (set xs e y) us left endpoints cap reports report_room bytes byte_room harvested harvest_room mends mend_room waiting waiting_room rung rung_room cleared cleared_room
entered_rooms {xs = xs} {ts = ts} {room = room} us t left cap e old y rooms some line fits fresh these same here ring cancel gone rest =
    let many = length-set xs e y in
    let long : length us ≡ length ts + 1 = ap (length {A = Transfer}) these ∙ length_push ts t in
    let r0 : left.endpoints ≡ room.endpoints = ap (λ (r : Reserve). r.endpoints) rest in
    let r1 : left.transfers ≡ room.transfers - 1 = ap (λ (r : Reserve). r.transfers) rest in
    let r2 : left.reports ≡ room.reports - 1 = ap (λ (r : Reserve). r.reports) rest in
    let r3 : left.report_bytes ≡ room.report_bytes - t.most = ap (λ (r : Reserve). r.report_bytes) rest in
    let lines : unreported us ≡ unreported ts + 1 = ap unreported these ∙ one_line ts t fresh in
    let owed : owed_bytes us ≡ owed_bytes ts + t.most = ap owed_bytes these ∙ more_bytes ts t fresh in
    let links = kept_linked xs e old y here ring in
    let cancels = kept_cancels xs e old y here cancel gone in
    record {
      for_endpoints = omega (arith, many, rooms.for_endpoints);
      for_transfers = omega (arith, rooms.for_transfers);
      few_transfers = omega (arith, rooms.few_transfers);
      for_reports = omega (arith, cancels, rooms.for_reports);
      for_bytes = omega (arith, rooms.for_bytes);
      bytes_fit = omega (arith, rooms.bytes_fit);
      for_harvested = omega (arith, rooms.for_harvested);
      for_mends = omega (arith, rooms.for_mends);
      for_waiting = omega (arith, links, rooms.for_waiting);
      for_rung = omega (arith, links, rooms.for_rung);
      for_cleared = omega (arith, links, rooms.for_cleared);
    }

-- a cancel
one_at_most : (b : Bool) → cond b 1 0 ≤ 1
one_at_most true = omega arith
one_at_most false = omega arith

pub cancelled_rooms : {xs : List Endpoint} {ts : List Transfer} {room : Reserve} {endpoints transfers reports report_room bytes byte_room harvested harvest_room mends mend_room waiting waiting_room rung rung_room cleared cleared_room : ℕ} (e : ℕ) (old y : Endpoint) → HasRooms xs ts room endpoints transfers reports report_room bytes byte_room harvested harvest_room mends mend_room waiting waiting_room rung rung_room cleared cleared_room → 1 ≤ room.reports → slice_get xs e ≡ Some old → y.linked ≡ old.linked → HasRooms (set xs e y) ts (record room { reports = room.reports - 1 }) endpoints transfers reports report_room bytes byte_room harvested harvest_room mends mend_room waiting waiting_room rung rung_room cleared cleared_room
cancelled_rooms {xs = xs} {ts = ts} e old y rooms line here ring =
    let many = length-set xs e y in
    let links = kept_linked xs e old y here ring in
    let owed : owed_cancels (set xs e y) ≤ owed_cancels xs + 1 =
    omega (arith, counted (λ (u : Endpoint). cond (u.cancelled && not u.gone) 1 0) xs e old y here, one_at_most (y.cancelled && not y.gone)) in
    record {
      for_endpoints = omega (arith, many, rooms.for_endpoints);
      for_transfers = rooms.for_transfers;
      few_transfers = rooms.few_transfers;
      for_reports = omega (arith, rooms.for_reports);
      for_bytes = rooms.for_bytes;
      bytes_fit = rooms.bytes_fit;
      for_harvested = rooms.for_harvested;
      for_mends = rooms.for_mends;
      for_waiting = omega (arith, links, rooms.for_waiting);
      for_rung = omega (arith, links, rooms.for_rung);
      for_cleared = omega (arith, links, rooms.for_cleared);
    }

-- a new endpoint that isn't in the ring
not_linked : (xs : List Endpoint) (y : Endpoint) → y.linked ≡ false → linked (xs ++ y ∷ []) ≡ linked xs
not_linked xs y off =
    let none : ◌≡◌ {A = ℕ} (cond y.linked 1 0) 0 = ap (λ b. cond b 1 0) off in
    omega (arith, sum_by_push (λ (u : Endpoint). cond u.linked 1 0) xs y, none)

pub placed_rooms : {xs : List Endpoint} {ts : List Transfer} {room : Reserve} {endpoints transfers reports report_room bytes byte_room harvested harvest_room mends mend_room waiting waiting_room rung rung_room cleared cleared_room : ℕ} (ys : List Endpoint) (y : Endpoint) (cap : ℕ) → HasRooms xs ts room endpoints transfers reports report_room bytes byte_room harvested harvest_room mends mend_room waiting waiting_room rung rung_room cleared cleared_room → 1 ≤ room.endpoints → ys ≡ xs ++ y ∷ [] → y.cancelled ≡ false → y.linked ≡ false → cap ≡ endpoints → HasRooms ys ts (record room { endpoints = room.endpoints - 1 }) cap transfers reports report_room bytes byte_room harvested harvest_room mends mend_room waiting waiting_room rung rung_room cleared cleared_room
placed_rooms {xs = xs} {ts = ts} ys y cap rooms some these off out same =
    let long : length ys ≡ length xs + 1 = ap (length {A = Endpoint}) these ∙ length_push xs y in
    let ring : linked ys ≡ linked xs = ap linked these ∙ not_linked xs y out in
    let owed : owed_cancels ys ≡ owed_cancels xs = ap owed_cancels these ∙ no_cancel xs y off in
    record {
      for_endpoints = omega (arith, rooms.for_endpoints);
      for_transfers = rooms.for_transfers;
      few_transfers = rooms.few_transfers;
      for_reports = omega (arith, rooms.for_reports);
      for_bytes = rooms.for_bytes;
      bytes_fit = rooms.bytes_fit;
      for_harvested = rooms.for_harvested;
      for_mends = rooms.for_mends;
      for_waiting = omega (arith, rooms.for_waiting);
      for_rung = omega (arith, rooms.for_rung);
      for_cleared = omega (arith, rooms.for_cleared);
    }
