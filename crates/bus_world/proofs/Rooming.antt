-- A command uses at most the room that it needs, accepted or refused.
use Rattle.std.proofs.Common.{◌≡◌, ℕ, suc, ◌+◌, ◌≤◌, ◌<◌, Bool, true, false, List, [], ◌∷◌, length, Option, Some, None, Result, Ok, Err, refl, ap, sym, subst, ◌∙◌, arith, get_or, drop, lit≤}
use Rattle.std.specs.Prelude.{if◌then◌else◌, nat_lt, nat_le, unwrap_or, count_by, ◌-◌, ◌*◌, ◌&&◌, ◌||◌, not}
use Rattle.std.proofs.Math.Nat.{mul-le-mul_left}
use Rattle.std.proofs.Math.Seq.{drop-cons}
use Rattle.std.proofs.lemmas.Bool.{and_parts, leb-true, not-false}
use Rattle.std.proofs.lemmas.List.Sums.{count_by-le-length}
use Rattle.std.proofs.lemmas.Nat.{mul-le}
use Rattle.usb_base.specs.declared.commands.Cmd.{Cmd}
use Rattle.usb_base.specs.declared.commands.Cmd.TheVariants as commands
use Rattle.usb_base.specs.declared.endpoints.EpName.{EpName}
use Rattle.usb_base.specs.declared.endpoints.EpDesc.{EpDesc}
use Rattle.usb_base.specs.declared.endpoints.EndCause.{EndCause}
use Rattle.usb_base.specs.declared.endpoints.EndCause.TheVariants as causes
use Rattle.usb_base.specs.declared.packets.EpKind.{EpKind}
use Rattle.usb_base.specs.declared.packets.EpKind.TheVariants as kinds
use Rattle.usb_base.specs.declared.reports.OfferError.{OfferError}
use Rattle.usb_base.specs.declared.reports.OfferError.TheVariants as errors
use Rattle.usb_base.specs.declared.rules.Rules.{Rules}
use Rattle.usb_base.specs.Rules.{first_rules}
use Rattle.script_types.specs.declared.scripts.Line.{Line}
use Rattle.script_types.specs.declared.scripts.Script.{Script}
use Rattle.script_types.specs.declared.scripts.Line.TheVariants as lines
use Rattle.word_mem.specs.Memory.{Mem}
use Rattle.mem_runs.specs.Book.{Holding, holding}
use Rattle.drv_table.specs.declared.content.Reserve.{Reserve}
use Rattle.bandwidth.specs.declared.placements.Placement.{Placement}
use Rattle.bandwidth.specs.declared.placements.Refused.{Refused}
use Rattle.bandwidth.specs.Placements.{has, below}
use Rattle.bandwidth.specs.Admission.{answer}
use Rattle.drv_periodic_table.specs.Periodic.{is_periodic, want_of}
use Rattle.drv_periodic_table.specs.Descriptors.{slot_limit, slots_before, slots_in}
use Rattle.drv_table.specs.declared.content.Endpoint.{Endpoint}
use Rattle.drv_table.specs.declared.content.Slots.{Slots}
use Rattle.drv_table.specs.DriverContent.{DriverContent, busy, endpoint_of, endpoint_named, waits_for}
use Rattle.drv_table.specs.Kinds.{is_iso}
use Rattle.drv_table.specs.Words.{request_length}
use Rattle.drv_table.specs.Accepting.{Offered, take_runs}
use Rattle.drv_table.specs.Offers.{offered, offered_next, offered_open, taken_open, taken_chain, placed_open, planned_open, new_open, offered_transfer, found_transfer, open_transfer, taken_transfer, takes_get, takes_put, takes_control, Asked, IsOffered, HasRoom}
use Rattle.drv_table.specs.IsoOffers.{total_of, offered_iso, open_iso, taken_iso, iso_needs, slots_of, spans_too_long, has_slots}
use Rattle.drv_table.specs.CancelOffers.{offered_cancel, cancelled_by}
use Rattle.script_fits.specs.Fits.{IsFitCommand}
use Rattle.script_fits.proofs.Opened.{can_be_opened}
use Rattle.bus_world.specs.Rooms.{needs, needs_line, no_room, transfer_room, iso_room, with_room, HasRoomFor, reserve_of, room_of_script}
use Rattle.bus_world.specs.World.{World, commanded, commanded_by}
use Rattle.bus_world.proofs.Offering.{get_asked, put_asked, request_asked, is_cancelled}

-- an accepted command leaves this room
abbrev pub Leaves : Reserve → Result Offered OfferError → Type 0
Leaves r (Ok o) = HasRoomFor o.driver.room r
Leaves r (Err why) = Unit {0}

leaves_if : (r : Reserve) (b : Bool) (x y : Result Offered OfferError) → (b ≡ true → Leaves r x) → (b ≡ false → Leaves r y) → Leaves r (if b then x else y)
leaves_if r true x y h k = h refl
leaves_if r false x y h k = k refl

refused_leaves : (r : Reserve) (why : OfferError) → Leaves r (Err why)
refused_leaves r why = tt

-- ---- open

ended_leaves : (r : Reserve) (cause : Option EndCause) → Leaves r (elim cause [ Some c ↦ Err (errors.Closed c) | None ↦ Err errors.AlreadyOpen ])
ended_leaves r (Some c) = tt
ended_leaves r None = tt

taken_open_leaves : (d : DriverContent) (x : EpDesc) (r : Reserve) (h : Result Holding OfferError) → HasRoomFor d.room (with_room (record no_room { endpoints = 1; reports = 1 }) r)
    → Leaves r (taken_open d x h)
taken_open_leaves d x r (Err why) room = tt
taken_open_leaves d x r (Ok h) room = record {
  endpoints = omega (arith, room.endpoints);
  transfers = omega (arith, room.transfers);
  reports = omega (arith, room.reports);
  report_bytes = omega (arith, room.report_bytes);
}

taken_chain_leaves : (d : DriverContent) (x : EpDesc) (p : Placement) (r : Reserve) (h : Result Holding OfferError)
    → HasRoomFor d.room (with_room (record no_room { endpoints = 1; reports = 1 }) r) → Leaves r (taken_chain d x p h)
taken_chain_leaves d x p r (Err why) room = tt
taken_chain_leaves d x p r (Ok h) room = record {
  endpoints = omega (arith, room.endpoints);
  transfers = omega (arith, room.transfers);
  reports = omega (arith, room.reports);
  report_bytes = omega (arith, room.report_bytes);
}

placed_open_leaves : (d : DriverContent) (m : Mem) (x : EpDesc) (p : Placement) (kind : EpKind) (r : Reserve)
    → HasRoomFor d.room (with_room (record no_room { endpoints = 1; reports = 1 }) r) → Leaves r (placed_open d m x p kind)
placed_open_leaves d m x p kinds.Iso r room = record {
  endpoints = omega (arith, room.endpoints);
  transfers = omega (arith, room.transfers);
  reports = omega (arith, room.reports);
  report_bytes = omega (arith, room.report_bytes);
}
placed_open_leaves d m x p kinds.Interrupt r room = taken_chain_leaves d x p r (take_runs (holding d.book m) (2 ∷ 1 ∷ [])) room
placed_open_leaves d m x p _ r room = taken_chain_leaves d x p r (take_runs (holding d.book m) (2 ∷ 1 ∷ [])) room

planned_open_leaves : (d : DriverContent) (m : Mem) (x : EpDesc) (p : Result Placement Refused) (r : Reserve)
    → HasRoomFor d.room (with_room (record no_room { endpoints = 1; reports = 1 }) r) → Leaves r (planned_open d m x p)
planned_open_leaves d m x (Err why) r room = tt
planned_open_leaves d m x (Ok p) r room = placed_open_leaves d m x p x.kind r room

new_open_leaves : (d : DriverContent) (m : Mem) (x : EpDesc) (r : Reserve) → HasRoomFor d.room (with_room (record no_room { endpoints = 1; reports = 1 }) r) → Leaves r (new_open d m x)
new_open_leaves d m x r room =
    leaves_if r (is_periodic x.kind) (planned_open d m x (answer d.periodic.plan (want_of (length d.endpoints) x))) (taken_open d x (take_runs (holding d.book m) (2 ∷ 1 ∷ [])))
    (λ _. planned_open_leaves d m x (answer d.periodic.plan (want_of (length d.endpoints) x)) r room)
    (λ _. taken_open_leaves d x r (take_runs (holding d.book m) (2 ∷ 1 ∷ [])) room)

open_leaves : (d : DriverContent) (m : Mem) (x : EpDesc) (r : Reserve) (old : Option Endpoint) → HasRoomFor d.room (with_room (record no_room { endpoints = 1; reports = 1 }) r)
    → Leaves r (offered_open d m x old)
open_leaves d m x r (Some old) room = ended_leaves r old.ended
open_leaves d m x r None room = new_open_leaves d m x r room

-- ---- transfers

told : (n : ℕ) → n ≤ 20480 → (if nat_le n 20480 then n else 0) ≡ n
told n h = grind arith

short : (n : ℕ) → nat_lt 20480 n ≡ false → n ≤ 20480
short n h = grind arith

taken_transfer_leaves : (d : DriverContent) (e : ℕ) (x : Endpoint) (a : Asked) (r : Reserve) (h : Result Holding OfferError) → a.most ≤ 20480
    → HasRoomFor d.room (with_room (transfer_room a.most) r) → Leaves r (taken_transfer d e x a h)
taken_transfer_leaves d e x a r (Err why) le room = tt
taken_transfer_leaves d e x a r (Ok h) le room = record {
  endpoints = omega (arith, room.endpoints);
  transfers = omega (arith, room.transfers);
  reports = omega (arith, room.reports);
  report_bytes = omega (arith, room.report_bytes, told a.most le);
}

open_transfer_leaves : (d : DriverContent) (m : Mem) (e : ℕ) (x : Endpoint) (a : Asked) (r : Reserve) (cause : Option EndCause) → HasRoomFor d.room (with_room (transfer_room a.most) r)
    → Leaves r (open_transfer d m e x a cause)
open_transfer_leaves d m e x a r (Some cause) room = tt
open_transfer_leaves d m e x a r None room =
    leaves_if r (nat_lt 20480 a.most) (Err errors.TooLong) (taken_transfer d e x a (take_runs (holding d.book m) _))
    (λ _. tt)
    (λ h. taken_transfer_leaves d e x a r _ (short a.most h) room)

found_leaves : (d : DriverContent) (m : Mem) (takes : Endpoint → Bool) (a : Asked) (e : ℕ) (r : Reserve) (x : Option Endpoint) → HasRoomFor d.room (with_room (transfer_room a.most) r)
    → Leaves r (found_transfer d m takes a e x)
found_leaves d m takes a e r None room = tt
found_leaves d m takes a e r (Some x) room =
    leaves_if r (takes x) (open_transfer d m e x a x.ended) (Err errors.NoEndpoint) (λ _. open_transfer_leaves d m e x a r x.ended room) (λ _. tt)

transfer_leaves : (d : DriverContent) (m : Mem) (name : EpName) (takes : Endpoint → Bool) (a : Asked) (r : Reserve) → HasRoomFor d.room (with_room (transfer_room a.most) r)
    → Leaves r (offered_transfer d m name takes a)
transfer_leaves d m name takes a r room = found_leaves d m takes a (unwrap_or (endpoint_of d name) 0) r (endpoint_named d name) room

-- ---- iso

few_slots : (smask : ℕ) → slots_in smask ≤ 8
unfolding slots_before
few_slots smask = count_by-le-length (has smask) (below 8)

either_few : (split : Bool) (a b n : ℕ) → a ≤ n → b ≤ n → (if split then a else b) ≤ n
either_few true a b n h k = h
either_few false a b n h k = k

few_bytes : (s : Slots) → s.slot ≤ 3072 → total_of s ≤ 24576
few_bytes s h = either_few s.split s.slot (slots_in s.smask * s.slot) 24576 (omega (arith, h)) (mul-le (slots_in s.smask) s.slot 8 3072 (few_slots s.smask) h)

taken_iso_leaves : (d : DriverContent) (e : ℕ) (x : Endpoint) (s : Slots) (n seed : ℕ) (r : Reserve) (h : Result Holding OfferError) → s.slot ≤ 3072
    → HasRoomFor d.room (with_room (iso_room n) r) → Leaves r (taken_iso d e x s n seed h)
taken_iso_leaves d e x s n seed r (Err why) le room = tt
taken_iso_leaves d e x s n seed r (Ok h) le room = record {
  endpoints = omega (arith, room.endpoints);
  transfers = omega (arith, room.transfers);
  reports = omega (arith, room.reports);
  report_bytes = omega (arith, room.report_bytes, mul-le-mul_left n (few_bytes s le));
}

limit_most : (split : Bool) → slot_limit split ≤ 3072
limit_most true = lit≤ tt
limit_most false = lit≤ tt

slot_of : (x : Endpoint) (s : Slots) (long : Bool) → (long || not (has_slots x s)) ≡ false → s.slot ≤ 3072
slot_of x s true e = cc
slot_of x s false e =
    let a = and_parts (nat_le s.slot (slot_limit s.split) && nat_le x.desc.max 1024 && nat_le 1 x.desc.multi && nat_le x.desc.multi 3) (nat_le x.desc.port 127) (not-false (has_slots x s) e) in
    let b = and_parts (nat_le s.slot (slot_limit s.split) && nat_le x.desc.max 1024 && nat_le 1 x.desc.multi) (nat_le x.desc.multi 3) a.0 in
    let c = and_parts (nat_le s.slot (slot_limit s.split) && nat_le x.desc.max 1024) (nat_le 1 x.desc.multi) b.0 in
    let d = and_parts (nat_le s.slot (slot_limit s.split)) (nat_le x.desc.max 1024) c.0 in
    omega (arith, leb-true s.slot (slot_limit s.split) d.0, limit_most s.split)

open_iso_leaves : (d : DriverContent) (m : Mem) (e : ℕ) (x : Endpoint) (s : Slots) (n seed : ℕ) (r : Reserve) (cause : Option EndCause)
    → HasRoomFor d.room (with_room (iso_room n) r) → Leaves r (open_iso d m e x s n seed cause)
open_iso_leaves d m e x s n seed r (Some cause) room = tt
open_iso_leaves d m e x s n seed r None room =
    leaves_if r (spans_too_long x (n + count_by (waits_for e) d.transfers) || not (has_slots x s)) (Err errors.TooLong) (taken_iso d e x s n seed (take_runs (holding d.book m) (iso_needs s n)))
    (λ _. tt)
    (λ h. taken_iso_leaves d e x s n seed r (take_runs (holding d.book m) (iso_needs s n)) (slot_of x s (spans_too_long x (n + count_by (waits_for e) d.transfers)) h) room)

iso_leaves : (d : DriverContent) (m : Mem) (e n len seed : ℕ) (r : Reserve) (x : Option Endpoint) → HasRoomFor d.room (with_room (iso_room n) r) → Leaves r (offered_iso d m e n len seed x)
iso_leaves d m e n len seed r None room = tt
iso_leaves d m e n len seed r (Some x) room =
    leaves_if r (is_iso x.desc.kind) (open_iso d m e x (slots_of x len) n seed x.ended) (Err errors.NoEndpoint)
    (λ _. open_iso_leaves d m e x (slots_of x len) n seed r x.ended room) (λ _. tt)

-- ---- cancel

room_less : (old new r : Reserve) → new ≡ record old { reports = old.reports - 1 } → HasRoomFor old (with_room (record no_room { reports = 1 }) r) → HasRoomFor new r
room_less old new r e room =
    subst (λ (x : Reserve). HasRoomFor x r) (sym e) (record {
      endpoints = omega (arith, room.endpoints);
      transfers = omega (arith, room.transfers);
      reports = omega (arith, room.reports);
      report_bytes = omega (arith, room.report_bytes);
    })

cancel_leaves : (d : DriverContent) (m : Mem) (e : ℕ) (x : Option Endpoint) (r : Reserve) → HasRoomFor d.room (with_room (record no_room { reports = 1 }) r) → Leaves r (offered_cancel d m e x)
cancel_leaves d m e None r room = tt
cancel_leaves d m e (Some x) r room =
    leaves_if r x.cancelled (Err (errors.Closed causes.Cancel)) (Ok (record { driver = cancelled_by d e x x.placement; memory = m })) (λ _. tt)
    (λ _. room_less d.room (cancelled_by d e x x.placement).room r (is_cancelled d e x x.placement).room room)

-- ---- any command

pub next_leaves : (d : DriverContent) (m : Mem) (cmd : Cmd) (r : Reserve) → HasRoomFor d.room (with_room (needs cmd) r) → Leaves r (offered_next d m cmd)
next_leaves d m (commands.OpenEp x) r room = open_leaves d m x r (endpoint_named d x.name) room
next_leaves d m (commands.Get name len by) r room = transfer_leaves d m name takes_get (get_asked len by) r room
next_leaves d m (commands.Put name bytes by) r room = transfer_leaves d m name takes_put (put_asked bytes by) r room
next_leaves d m (commands.Control name setup bytes) r room = transfer_leaves d m name takes_control (request_asked setup bytes) r room
next_leaves d m (commands.Iso name count len seed) r room = iso_leaves d m (unwrap_or (endpoint_of d name) 0) count len seed r (endpoint_named d name) room
next_leaves d m (commands.Cancel name) r room = cancel_leaves d m (unwrap_or (endpoint_of d name) 0) (endpoint_named d name) r room
next_leaves d m _ r room = tt

offer_leaves : (d : DriverContent) (m : Mem) (cmd : Cmd) (r : Reserve) → HasRoomFor d.room (with_room (needs cmd) r) → Leaves r (offered d m cmd)
offer_leaves d m cmd r room = leaves_if r (busy d) (Err errors.Busy) (offered_next d m cmd) (λ _. tt) (λ _. next_leaves d m cmd r room)

-- each command needs one line of the report
pub one_line : (cmd : Cmd) → IsFitCommand cmd → 1 ≤ (needs cmd).reports
one_line (commands.Iso name count len seed) fit = fit
one_line _ fit = omega arith

pub has_line : (room : Reserve) (cmd : Cmd) → IsFitCommand cmd → HasRoomFor room (needs cmd) → 1 ≤ room.reports
has_line room cmd fit has = omega (arith, one_line cmd fit, has.reports)

commanded_by_leaves : (w : World) (n : ℕ) (name : EpName) (cmd : Cmd) (r : Reserve) (x : Result Offered OfferError) → 1 ≤ (needs cmd).reports → HasRoomFor w.driver.room (with_room (needs cmd) r)
    → Leaves r x → HasRoomFor (commanded_by w n name x).driver.room r
commanded_by_leaves w n name cmd r (Ok o) one room h = h
commanded_by_leaves w n name cmd r (Err why) one room h = record {
  endpoints = omega (arith, room.endpoints);
  transfers = omega (arith, room.transfers);
  reports = omega (arith, room.reports, one);
  report_bytes = omega (arith, room.report_bytes);
}

pub command_leaves : (w : World) (n : ℕ) (cmd : Cmd) (r : Reserve) → IsFitCommand cmd → HasRoomFor w.driver.room (with_room (needs cmd) r) → HasRoomFor (commanded w n cmd).driver.room r
command_leaves w n cmd r fit room = commanded_by_leaves w n _ cmd r (offered w.driver w.memory cmd) (one_line cmd fit) room (offer_leaves w.driver w.memory cmd r room)

-- ---- what an offer asks

has_room : (room : Reserve) (n : ℕ) → HasRoomFor room (transfer_room n) → HasRoom room n
has_room room n has = (has.transfers, has.reports, λ le. omega (arith, has.report_bytes, told n le))

pub can_offer : (room : Reserve) (cmd : Cmd) → IsFitCommand cmd → HasRoomFor room (needs cmd) → IsOffered room cmd
can_offer room (commands.OpenEp x) fit has = (has.endpoints, fit.0, fit.1, can_be_opened x fit.2)
can_offer room (commands.Get name len by) fit has = (fit.0, fit.1, has_room room len has)
can_offer room (commands.Put name bytes by) fit has = (fit.0, fit.1, has_room room (length bytes) has)
can_offer room (commands.Control name setup bytes) fit has = has_room room (request_length setup) has
can_offer room (commands.Iso name count len seed) fit has = (has.transfers, has.reports, has.report_bytes)
can_offer room (commands.Clear name) fit has = omega (arith, has.reports)
can_offer room _ fit has = has.reports

-- the room for more has room for less
pub less_room : (room a r : Reserve) → HasRoomFor room (with_room a r) → HasRoomFor room a
less_room room a r has = record {
  endpoints = omega (arith, has.endpoints);
  transfers = omega (arith, has.transfers);
  reports = omega (arith, has.reports);
  report_bytes = omega (arith, has.report_bytes);
}

pub rest_room : (room r : Reserve) → HasRoomFor room (with_room no_room r) → HasRoomFor room r
rest_room room r has = record {
  endpoints = omega (arith, has.endpoints);
  transfers = omega (arith, has.transfers);
  reports = omega (arith, has.reports);
  report_bytes = omega (arith, has.report_bytes);
}

-- ---- the room for all lines

with_assoc : (a n r : Reserve) → with_room (with_room a n) r ≡ with_room a (with_room n r)
with_assoc a n r =
    let e : a.endpoints + n.endpoints + r.endpoints ≡ a.endpoints + (n.endpoints + r.endpoints) = omega arith in
    let t : a.transfers + n.transfers + r.transfers ≡ a.transfers + (n.transfers + r.transfers) = omega arith in
    let p : a.reports + n.reports + r.reports ≡ a.reports + (n.reports + r.reports) = omega arith in
    let b : a.report_bytes + n.report_bytes + r.report_bytes ≡ a.report_bytes + (n.report_bytes + r.report_bytes) = omega arith in
    rw (e, t, p, b) refl

-- what a line needs says nothing of rules
needs_rules : (cmd : Cmd) → (needs cmd).rules ≡ first_rules
needs_rules (commands.Iso name count len seed) = refl
needs_rules _ = refl

line_rules : (l : Line) → (needs_line l).rules ≡ first_rules
line_rules (lines.Command cmd) = needs_rules cmd
line_rules _ = refl

lines_rules : (xs : List (ℕ × Line)) → (reserve_of xs).rules ≡ first_rules
lines_rules [] = refl
lines_rules (x ∷ xs) = line_rules x.1

abbrev ruled : Reserve → Rules → Reserve
ruled r x = record r { rules = x }

with_none : (r : Reserve) → r.rules ≡ first_rules → with_room no_room r ≡ r
with_none r is =
    let e : 0 + r.endpoints ≡ r.endpoints = omega arith in
    let t : 0 + r.transfers ≡ r.transfers = omega arith in
    let p : 0 + r.reports ≡ r.reports = omega arith in
    let b : 0 + r.report_bytes ≡ r.report_bytes = omega arith in
    rw (e, t, p, b) (ap (ruled r) (sym is))

none_with : (r : Reserve) → with_room r no_room ≡ r
none_with r =
    let e : r.endpoints + 0 ≡ r.endpoints = omega arith in
    let t : r.transfers + 0 ≡ r.transfers = omega arith in
    let p : r.reports + 0 ≡ r.reports = omega arith in
    let b : r.report_bytes + 0 ≡ r.report_bytes = omega arith in
    rw (e, t, p, b) refl

-- the next of a list, and those after it
pub drop_next : {X : Type 0} (xs : List X) (i : ℕ) (x : X) → i < length xs → drop i xs ≡ get_or xs i x ∷ drop (i + 1) xs
drop_next xs i x h =
    let e : suc i ≡ i + 1 = omega arith in
    drop-cons xs i x h ∙ ap (λ n. get_or xs i x ∷ drop n xs) e

-- the room so far, and that of the lines that are left
pub rooms_begin : (xs left : List (ℕ × Line)) → left ≡ xs → with_room no_room (reserve_of left) ≡ reserve_of xs
rooms_begin xs left e = with_none (reserve_of left) (lines_rules left) ∙ ap reserve_of e

pub rooms_more : (all next : Reserve) (xs : List (ℕ × Line)) (i : ℕ) (x : ℕ × Line) → i < length xs → x ≡ get_or xs i x → next ≡ with_room all (needs_line x.1)
    → with_room all (reserve_of (drop i xs)) ≡ reserve_of xs → with_room next (reserve_of (drop (i + 1) xs)) ≡ reserve_of xs
rooms_more all next xs i x h e is so_far =
    ap (λ r. with_room r (reserve_of (drop (i + 1) xs))) is
    ∙ with_assoc all (needs_line x.1) (reserve_of (drop (i + 1) xs))
    ∙ ap (λ (y : ℕ × Line). with_room all (with_room (needs_line y.1) (reserve_of (drop (i + 1) xs)))) e
    ∙ ap (λ ys. with_room all (reserve_of ys)) (sym (drop_next xs i x h))
    ∙ so_far

pub rooms_end : (all : Reserve) (xs left : List (ℕ × Line)) → left ≡ [] → with_room all (reserve_of left) ≡ reserve_of xs → all ≡ reserve_of xs
rooms_end all xs left z so_far = sym (none_with all) ∙ sym (ap (λ ys. with_room all (reserve_of ys)) z) ∙ so_far

pub room_of_all : (s : Script) → HasRoomFor (room_of_script s) (reserve_of s.lines)
room_of_all s = record { endpoints = omega arith; transfers = omega arith; reports = omega arith; report_bytes = omega arith }
