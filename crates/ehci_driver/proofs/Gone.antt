-- What is owed once an endpoint was given back: no more than before.
use Rattle.std.proofs.Common.{◌≡◌, ℕ, ◌+◌, ◌<◌, ◌≤◌, ◌==◌, Bool, true, false, not, ◌&&◌, ◌||◌, cond, List, [], ◌∷◌, length, map, set, slice_get, Some, arith, suc, refl, ap, ◌∙◌}
use Rattle.std.proofs.lemmas.List.{length-set}
use Rattle.std.proofs.lemmas.List.Sums.{sum_by-cons}
use Rattle.drv_table.specs.declared.content.Endpoint.{Endpoint}
use Rattle.drv_table.specs.declared.content.Transfer.{Transfer}
use Rattle.drv_table.specs.declared.content.Reserve.{Reserve}
use Rattle.drv_table.specs.DriverContent.{waits_for}
use Rattle.drv_table.specs.Releases.{let_go, is_told, ended_by_cancel}
use Rattle.drv_harvests.specs.Owed.{owed_of}
use Rattle.ehci_driver.specs.Rooms.{HasRooms, unreported, owed_bytes}
use Rattle.ehci_driver.proofs.Counts.{kept_linked, less_cancels, gone_cancel}

one_less : (n : ℕ) (r told : Bool) → cond (r || told) 0 n ≤ cond r 0 n
one_less n true told = omega arith
one_less n false true = omega arith
one_less n false false = omega arith

lines_of_one : (b told : Bool) (t : Transfer) → cond (cond b (record t { reported = t.reported || told; released = true }) t).reported 0 1 ≤ cond t.reported 0 1
lines_of_one true told t = one_less 1 t.reported told
lines_of_one false told t = omega arith

bytes_of_one : (b told : Bool) (t : Transfer) → cond (cond b (record t { reported = t.reported || told; released = true }) t).reported 0 (cond b (record t { reported = t.reported || told; released = true }) t).most ≤ cond t.reported 0 t.most
bytes_of_one true told t = one_less t.most t.reported told
bytes_of_one false told t = omega arith

told_one : (r : Bool) (n : ℕ) → cond (r || true) 0 n + cond (not r) n 0 ≡ cond r 0 n
told_one true n = refl
told_one false n = omega arith

left_of_one : (b : Bool) (t : Transfer) → cond (cond b (record t { reported = t.reported || true; released = true }) t).reported 0 (cond b (record t { reported = t.reported || true; released = true }) t).most + cond (b && not t.reported) t.most 0 ≡ cond t.reported 0 t.most
left_of_one true t = told_one t.reported t.most
left_of_one false t = omega arith

pub fewer_lines : (e : ℕ) (told : Bool) (ts : List Transfer) → unreported (map (let_go e told) ts) ≤ unreported ts
fewer_lines e told [] = omega arith
fewer_lines e told (t ∷ ts) =
    omega (arith, sum_by-cons (λ (u : Transfer). cond u.reported 0 1) (let_go e told t) (map (let_go e told) ts), sum_by-cons (λ (u : Transfer). cond u.reported 0 1) t ts, lines_of_one (t.endpoint == e) told t, fewer_lines e told ts)

pub fewer_bytes : (e : ℕ) (told : Bool) (ts : List Transfer) → owed_bytes (map (let_go e told) ts) ≤ owed_bytes ts
fewer_bytes e told [] = omega arith
fewer_bytes e told (t ∷ ts) =
    omega (arith, sum_by-cons (λ (u : Transfer). cond u.reported 0 u.most) (let_go e told t) (map (let_go e told) ts), sum_by-cons (λ (u : Transfer). cond u.reported 0 u.most) t ts, bytes_of_one (t.endpoint == e) told t, fewer_bytes e told ts)

-- the bytes of the endpoint's line are owed no more
pub owed_left : (e : ℕ) (ts : List Transfer) → owed_bytes (map (let_go e true) ts) + owed_of e ts ≡ owed_bytes ts
owed_left e [] = refl
owed_left e (t ∷ ts) =
    omega (arith, sum_by-cons (λ (u : Transfer). cond u.reported 0 u.most) (let_go e true t) (map (let_go e true) ts), sum_by-cons (λ (u : Transfer). cond u.reported 0 u.most) t ts, sum_by-cons (λ (u : Transfer). cond (waits_for e u) u.most 0) t ts, left_of_one (t.endpoint == e) t, owed_left e ts)

pub same_long : (e : ℕ) (told : Bool) (ts : List Transfer) → length (map (let_go e told) ts) ≡ length ts
same_long e told [] = refl
same_long e told (t ∷ ts) = ap suc (same_long e told ts)

-- an endpoint whose blocks were given back without a line
pub gone_rooms : {xs : List Endpoint} {ts : List Transfer} {room : Reserve} {endpoints transfers reports report_room bytes byte_room harvested harvest_room mends mend_room waiting waiting_room rung rung_room cleared cleared_room : ℕ} (e : ℕ) (told : Bool) (x : Endpoint) (now : List Transfer) (now_room rest rest_room : ℕ) → HasRooms xs ts room endpoints transfers reports report_room bytes byte_room harvested harvest_room mends mend_room waiting waiting_room rung rung_room cleared cleared_room → slice_get xs e ≡ Some x → now ≡ map (let_go e told) ts → now_room ≡ transfers → rest ≤ cleared → rest_room ≡ cleared_room → HasRooms (set xs e (record x { gone = true })) now room endpoints now_room reports report_room bytes byte_room harvested harvest_room mends mend_room waiting waiting_room rung rung_room rest rest_room
gone_rooms {xs = xs} {ts = ts} e told x now now_room rest rest_room rooms here is size few same_room =
    let lines : unreported now ≤ unreported ts = omega (arith, ap unreported is, fewer_lines e told ts) in
    let less : owed_bytes now ≤ owed_bytes ts = omega (arith, ap owed_bytes is, fewer_bytes e told ts) in
    let same = kept_linked xs e x (record x { gone = true }) here refl in
    let also = less_cancels xs e x here in
    let long : length now ≡ length ts = ap length is ∙ same_long e told ts in
    let many = length-set xs e (record x { gone = true }) in
    record {
      for_endpoints = omega (arith, many, rooms.for_endpoints);
      for_transfers = omega (arith, long, rooms.for_transfers);
      few_transfers = omega (arith, long, rooms.few_transfers);
      for_reports = omega (arith, lines, also, rooms.for_reports);
      for_bytes = omega (arith, less, rooms.for_bytes);
      bytes_fit = omega (arith, less, rooms.bytes_fit);
      for_harvested = omega (arith, lines, rooms.for_harvested);
      for_mends = omega (arith, lines, rooms.for_mends);
      for_waiting = omega (arith, same, rooms.for_waiting);
      for_rung = omega (arith, same, rooms.for_rung);
      for_cleared = omega (arith, same, rooms.for_cleared);
    }

-- the same with a line
pub line_rooms : {xs : List Endpoint} {ts : List Transfer} {room : Reserve} {endpoints transfers reports report_room bytes byte_room harvested harvest_room mends mend_room waiting waiting_room rung rung_room cleared cleared_room : ℕ} (e : ℕ) (x : Endpoint) (now : List Transfer) (now_room lines line_room more more_room rest rest_room : ℕ) → HasRooms xs ts room endpoints transfers reports report_room bytes byte_room harvested harvest_room mends mend_room waiting waiting_room rung rung_room cleared cleared_room → slice_get xs e ≡ Some x → x.cancelled ≡ true → x.gone ≡ false → now ≡ map (let_go e true) ts → now_room ≡ transfers → lines ≡ reports + 1 → line_room ≡ report_room → more ≤ bytes + owed_of e ts → more_room ≡ byte_room → rest ≤ cleared → rest_room ≡ cleared_room → HasRooms (set xs e (record x { gone = true })) now room endpoints now_room lines line_room more more_room harvested harvest_room mends mend_room waiting waiting_room rung rung_room rest rest_room
line_rooms {xs = xs} {ts = ts} e x now now_room lines line_room more more_room rest rest_room rooms here on fresh is size l lr m mr few same_room =
    let fewer : unreported now ≤ unreported ts = omega (arith, ap unreported is, fewer_lines e true ts) in
    let less : owed_bytes now + owed_of e ts ≡ owed_bytes ts = omega (arith, ap owed_bytes is, owed_left e ts) in
    let same = kept_linked xs e x (record x { gone = true }) here refl in
    let once = gone_cancel xs e x here on fresh in
    let long : length now ≡ length ts = ap length is ∙ same_long e true ts in
    let many = length-set xs e (record x { gone = true }) in
    record {
      for_endpoints = omega (arith, many, rooms.for_endpoints);
      for_transfers = omega (arith, long, rooms.for_transfers);
      few_transfers = omega (arith, long, rooms.few_transfers);
      for_reports = omega (arith, fewer, once, rooms.for_reports);
      for_bytes = omega (arith, less, rooms.for_bytes);
      bytes_fit = omega (arith, less, rooms.bytes_fit);
      for_harvested = omega (arith, fewer, rooms.for_harvested);
      for_mends = omega (arith, fewer, rooms.for_mends);
      for_waiting = omega (arith, same, rooms.for_waiting);
      for_rung = omega (arith, same, rooms.for_rung);
      for_cleared = omega (arith, same, rooms.for_cleared);
    }

-- there is room for the line of an endpoint that is to be told
pub record CanTellGone (e : ℕ) (ts : List Transfer) (reports report_room bytes byte_room : ℕ) : Type 0 where
  pub line : reports < report_room
  pub holds : bytes + owed_of e ts ≤ byte_room
  pub fits : bytes + owed_of e ts < 4294967296

pub can_tell_gone : {xs : List Endpoint} {ts : List Transfer} {room : Reserve} {endpoints transfers reports report_room bytes byte_room harvested harvest_room mends mend_room waiting waiting_room rung rung_room cleared cleared_room : ℕ} (e : ℕ) (x : Endpoint) → HasRooms xs ts room endpoints transfers reports report_room bytes byte_room harvested harvest_room mends mend_room waiting waiting_room rung rung_room cleared cleared_room → slice_get xs e ≡ Some x → x.cancelled ≡ true → x.gone ≡ false → CanTellGone e ts reports report_room bytes byte_room
can_tell_gone {xs = xs} {ts = ts} e x rooms here on fresh =
    let once = gone_cancel xs e x here on fresh in
    let less = owed_left e ts in
    record {
      line = omega (arith, once, rooms.for_reports);
      holds = omega (arith, less, rooms.for_bytes);
      fits = omega (arith, less, rooms.bytes_fit);
    }

-- an endpoint whose release is told was cancelled, and its blocks weren't given back
told_when : (a b c : Bool) → (a && b && not c) ≡ true → (b ≡ true) × (c ≡ false)
told_when true true false e = (refl, refl)
told_when true true true e = absurd cc
told_when true false c e = absurd cc
told_when false b c e = absurd cc

pub told_is : (x : Endpoint) → is_told x ≡ true → (x.cancelled ≡ true) × (x.gone ≡ false)
told_is x told = told_when (ended_by_cancel x.ended) x.cancelled x.gone told
