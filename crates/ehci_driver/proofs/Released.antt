-- What a periodic endpoint lets go is owed as that of one in the ring.
use Rattle.std.proofs.Common.{◌≡◌, ℕ, suc, ◌==◌, Bool, true, false, not, ◌&&◌, ◌||◌, cond, List, [], ◌∷◌, length, map, arith, ap, sym, ◌∙◌, refl}
use Rattle.std.proofs.lemmas.List.Sums.{sum_by-cons}
use Rattle.drv_table.specs.declared.content.Endpoint.{Endpoint}
use Rattle.drv_table.specs.declared.content.Transfer.{Transfer}
use Rattle.drv_table.specs.declared.content.Reserve.{Reserve}
use Rattle.drv_table.specs.DriverContent.{waits_for}
use Rattle.drv_table.specs.Releases.{let_go}
use Rattle.drv_table.specs.Removals.{let_go_waiting, let_go_placed}
use Rattle.drv_frames_content.specs.Part.{Held}
use Rattle.ehci_driver.specs.Rooms.{HasRooms, HasFrameRooms, unreported, owed_bytes}
use Rattle.ehci_driver.proofs.Placed.{frames_kept}

-- a count of what isn't reported
abbrev owed : Bool → ℕ → ℕ
owed b n = cond b 0 n

-- by whether it is the endpoint's, and whether it was reported
same_one : (n : ℕ) (own was told : Bool) → owed (cond (own && not was) (was || told) was) n ≡ owed (cond own (was || told) was) n
same_one n true true told = refl
same_one n true false told = refl
same_one n false was told = refl

reported_waiting : (e : ℕ) (told : Bool) (t : Transfer) (b : Bool) → (cond b (record t { reported = t.reported || told; released = true }) t).reported ≡ cond b (t.reported || told) t.reported
reported_waiting e told t true = refl
reported_waiting e told t false = refl

most_waiting : (told : Bool) (t : Transfer) (b : Bool) → (cond b (record t { reported = t.reported || told; released = true }) t).most ≡ t.most
most_waiting told t true = refl
most_waiting told t false = refl

same_line : (e : ℕ) (told : Bool) (t : Transfer) → owed (let_go_waiting e told t).reported 1 ≡ owed (let_go e told t).reported 1
same_line e told t =
    ap (λ (b : Bool). owed b 1) (reported_waiting e told t (waits_for e t))
    ∙ same_one 1 (t.endpoint == e) t.reported told
    ∙ sym (ap (λ (b : Bool). owed b 1) (reported_waiting e told t (t.endpoint == e)))

same_most : (e : ℕ) (told : Bool) (t : Transfer) → owed (let_go_waiting e told t).reported (let_go_waiting e told t).most ≡ owed (let_go e told t).reported (let_go e told t).most
same_most e told t =
    ap (λ (n : ℕ). owed (let_go_waiting e told t).reported n) (most_waiting told t (waits_for e t))
    ∙ ap (λ (b : Bool). owed b t.most) (reported_waiting e told t (waits_for e t))
    ∙ same_one t.most (t.endpoint == e) t.reported told
    ∙ sym (ap (λ (b : Bool). owed b t.most) (reported_waiting e told t (t.endpoint == e)))
    ∙ sym (ap (λ (n : ℕ). owed (let_go e told t).reported n) (most_waiting told t (t.endpoint == e)))

lines_waiting : (e : ℕ) (told : Bool) (ts : List Transfer) → unreported (map (let_go_waiting e told) ts) ≡ unreported (map (let_go e told) ts)
lines_waiting e told [] = refl
lines_waiting e told (t ∷ ts) =
    let a = sum_by-cons (λ (u : Transfer). cond u.reported 0 1) (let_go_waiting e told t) (map (let_go_waiting e told) ts) in
    let b = sum_by-cons (λ (u : Transfer). cond u.reported 0 1) (let_go e told t) (map (let_go e told) ts) in
    omega (arith, a, b, same_line e told t, lines_waiting e told ts)

bytes_waiting : (e : ℕ) (told : Bool) (ts : List Transfer) → owed_bytes (map (let_go_waiting e told) ts) ≡ owed_bytes (map (let_go e told) ts)
bytes_waiting e told [] = refl
bytes_waiting e told (t ∷ ts) =
    let a = sum_by-cons (λ (u : Transfer). cond u.reported 0 u.most) (let_go_waiting e told t) (map (let_go_waiting e told) ts) in
    let b = sum_by-cons (λ (u : Transfer). cond u.reported 0 u.most) (let_go e told t) (map (let_go e told) ts) in
    omega (arith, a, b, same_most e told t, bytes_waiting e told ts)

long_map : (f : Transfer → Transfer) (ts : List Transfer) → length (map f ts) ≡ length ts
long_map f [] = refl
long_map f (t ∷ ts) = ap suc (long_map f ts)

-- what is owed is the same
pub record IsOwedAs (us vs : List Transfer) : Type 0 where
  pub many : length us ≡ length vs
  pub lines : unreported us ≡ unreported vs
  pub bytes : owed_bytes us ≡ owed_bytes vs

pub placed_as : (iso : Bool) (e : ℕ) (told : Bool) (ts : List Transfer) → IsOwedAs (map (let_go_placed iso e told) ts) (map (let_go e told) ts)
placed_as true e told ts = record {
  many = long_map (let_go_waiting e told) ts ∙ sym (long_map (let_go e told) ts);
  lines = lines_waiting e told ts;
  bytes = bytes_waiting e told ts;
}
placed_as false e told ts = record { many = refl; lines = refl; bytes = refl }

pub owed_by : (ws us vs : List Transfer) → ws ≡ us → IsOwedAs us vs → IsOwedAs ws vs
owed_by ws us vs same alike = record {
  many = ap (length {A = Transfer}) same ∙ alike.many;
  lines = ap unreported same ∙ alike.lines;
  bytes = ap owed_bytes same ∙ alike.bytes;
}

pub owed_as : {xs : List Endpoint} {room : Reserve} {endpoints transfers reports report_room bytes byte_room harvested harvest_room mends mend_room waiting waiting_room rung rung_room cleared cleared_room : ℕ} (us vs : List Transfer) → IsOwedAs us vs → HasRooms xs vs room endpoints transfers reports report_room bytes byte_room harvested harvest_room mends mend_room waiting waiting_room rung rung_room cleared cleared_room → HasRooms xs us room endpoints transfers reports report_room bytes byte_room harvested harvest_room mends mend_room waiting waiting_room rung rung_room cleared cleared_room
owed_as us vs alike rooms = record {
  for_endpoints = rooms.for_endpoints;
  for_transfers = omega (arith, alike.many, rooms.for_transfers);
  few_transfers = omega (arith, alike.many, rooms.few_transfers);
  for_reports = omega (arith, alike.lines, rooms.for_reports);
  for_bytes = omega (arith, alike.bytes, rooms.for_bytes);
  bytes_fit = omega (arith, alike.bytes, rooms.bytes_fit);
  for_harvested = omega (arith, alike.lines, rooms.for_harvested);
  for_mends = omega (arith, alike.lines, rooms.for_mends);
  for_waiting = rooms.for_waiting;
  for_rung = rooms.for_rung;
  for_cleared = rooms.for_cleared;
}

pub frames_owed : {xs : List Endpoint} {room : Reserve} {h : Held} (us vs : List Transfer) → IsOwedAs us vs → HasFrameRooms xs vs room h → HasFrameRooms xs us room h
frames_owed {xs = xs} us vs alike rooms = frames_kept xs us rooms refl (omega arith) alike.many (omega (arith, alike.lines))
