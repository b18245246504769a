-- The lines that close a report tell what is pending.
use Rattle.std.proofs.Common.{◌≡◌, ℕ, zero, suc, ◌+◌, ◌≤◌, Bool, true, false, cond, nat_lt, nat_eq, ◌&&◌, List, [], ◌∷◌, length, slice_get, Option, Some, None, ap, sym, ◌∙◌, refl, arith}
use Rattle.std.specs.List.{AllByRecursion, list_any, flat_map}
use Rattle.std.specs.Prelude.{find, is_some, is_none, ◌==◌, count_by}
use Rattle.std.proofs.lemmas.Bool.{eq-eqb, and_from, lt-ltb}
use Rattle.std.proofs.lemmas.Bool.Decides.{nat_tests}
use Rattle.std.proofs.lemmas.Option.{same_Some}
use Rattle.law_driver.proofs.Common.{any_left, any_right}
use Rattle.law_common.proofs.Booleans.{left_or}
use Rattle.law_common.proofs.Lists.{all_both}
use Rattle.usb_base.specs.declared.endpoints.EndCause.{EndCause}
use Rattle.usb_base.specs.declared.endpoints.EpName.{EpName}
use Rattle.usb_base.specs.declared.packets.EpKind.{EpKind}
use Rattle.usb_base.specs.declared.packets.EpKind.TheVariants as Kinds
use Rattle.usb_base.specs.declared.packets.Way.{Way}
use Rattle.usb_base.specs.declared.packets.Way.TheVariants as Ways
use Rattle.endpoint_script.specs.Device.{Device}
use Rattle.hub_class.specs.HubContent.{HubContent}
use Rattle.drv_table.specs.DriverContent.{DriverContent, waits_for, endpoint_of, pending_of, opened, ended}
use Rattle.bus_wire.specs.declared.seats.Seat.{Seat}
use Rattle.bus_wire.specs.Fates.{is_same_name}
use Rattle.bus_world.specs.Closing.{waiting, hub_of}
use Rattle.bus_world.specs.World.{World}
use Rattle.claims_report.specs.Reports.{Pending}
use Rattle.claims_world.specs.Streams.{waiting_closing, device_closing, told_closing, opened_closings, seat_closings}
use Rattle.claims_world.specs.Pending.{IsFewer, one_each, cancelled, IsPendingNow, TellsPending, is_told_pending}
use Rattle.law_footprints.specs.Worked.{a_get, working}
use Rattle.law_queues.proofs.lemmas.told_endpoints.Names.{name_is_same}
use Rattle.law_resting.specs.Worked.{with_one}
use Rattle.law_reports.proofs.lemmas.requests.lemmas.told_requests.Waiting.{set_same, other_waits}
use Rattle.law_reports.specs.answers.Counting.{ClosingsTellPending, a_line, OneLineForOneGet, TwoLinesForOneGet, AGetAddsUp, ALineIsMissing}

-- ---- each line tells what is pending

module _ (d : DriverContent) where
  device_tells : (way : Way) (kind : EpKind) (name : EpName) (o : Device) → AllByRecursion (TellsPending d) (device_closing way kind name o)
  device_tells Ways.Out Kinds.Bulk name o = (tt, tt)
  device_tells Ways.Out Kinds.Interrupt name o = (tt, tt)
  device_tells Ways.Out Kinds.Control name o = tt
  device_tells Ways.Out Kinds.Iso name o = tt
  device_tells Ways.Ctl kind name o = (tt, tt)
  device_tells Ways.In kind name o = tt

  told_tells : (s : Seat) (o : Option Device) (h : Option HubContent) → AllByRecursion (TellsPending d) (told_closing s o h)
  told_tells s None None = tt
  told_tells s None (Some h) = (tt, tt)
  told_tells s (Some o) h = device_tells s.name.way s.kind s.name o

  pending_is : (name : EpName) (o : Option ℕ) (c : Option EndCause) → endpoint_of d name ≡ o → ended d name ≡ c
      → nat_lt 0 (cond (is_none c) (pending_of d o) 0) ≡ true → IsPendingNow d name (cond (is_none c) (pending_of d o) 0)
  pending_is name o (Some cause) of is more = let no : 1 ≤ 0 = grind (arith, nat_tests) in absurd (omega (arith, no))
  pending_is name None None of is more = let no : 1 ≤ 0 = grind (arith, nat_tests) in absurd (omega (arith, no))
  pending_is name (Some e) None of is more = record { number = e; named = of; going = is; many = refl; some = grind (arith, nat_tests) }

  pending_tells : (name : EpName) → AllByRecursion (TellsPending d) (waiting_closing name (waiting d name))
  pending_tells name = at (nat_lt 0 (waiting d name)) refl
    where
      is_it : nat_lt 0 (waiting d name) ≡ true → IsPendingNow d name (waiting d name)
      is_it more = pending_is name (endpoint_of d name) (ended d name) refl refl more

      at : (b : Bool) → nat_lt 0 (waiting d name) ≡ b → AllByRecursion (TellsPending d) (cond b (Pending name (waiting d name) ∷ []) [])
      at true more = (is_it more, tt)
      at false none = tt

seat_tells : (w : World) (s : Seat) → AllByRecursion (TellsPending w.driver) (seat_closings w s)
seat_tells w s = at (opened w.driver s.name)
  where
    at : (b : Bool) → AllByRecursion (TellsPending w.driver) (cond b (opened_closings w s) [])
    at true =
        all_both (TellsPending w.driver) (waiting_closing s.name (waiting w.driver s.name))
        (told_closing s (find (λ d. d.address == s.name.addr) w.bus.devices) (hub_of w.bus s.name)) (pending_tells w.driver s.name)
        (told_tells w.driver s (find (λ d. d.address == s.name.addr) w.bus.devices) (hub_of w.bus s.name))
    at false = tt

seats_tell : (w : World) (seats : List Seat) → AllByRecursion (TellsPending w.driver) (flat_map (seat_closings w) seats)
seats_tell w [] = tt
seats_tell w (s ∷ rest) = all_both (TellsPending w.driver) (seat_closings w s) (flat_map (seat_closings w) rest) (seat_tells w s)
    (seats_tell w rest)

-- ---- all that is pending is told

module _ (w : World) (name : EpName) (n : ℕ) (now : IsPendingNow w.driver name n) where
  waits_so : waiting w.driver name ≡ n
  waits_so =
      ap (λ (c : Option EndCause). cond (is_none c) (pending_of w.driver (endpoint_of w.driver name)) 0) now.going
      ∙ ap (pending_of w.driver) now.named ∙ sym now.many

  is_open : opened w.driver name ≡ true
  is_open = ap is_some now.named

  more : nat_lt 0 (waiting w.driver name) ≡ true
  more = ap (nat_lt 0) waits_so ∙ lt-ltb 0 n now.some

  waiting_told : list_any (is_told_pending name n) (waiting_closing name (waiting w.driver name)) ≡ true
  waiting_told =
      ap (λ (b : Bool). list_any (is_told_pending name n) (cond b (Pending name (waiting w.driver name) ∷ []) [])) more
      ∙ left_or (is_same_name name name && nat_eq (waiting w.driver name) n) false
      (and_from (is_same_name name name) (nat_eq (waiting w.driver name) n) (name_is_same name) (eq-eqb (waiting w.driver name) n waits_so))

  seat_told : (s : Seat) → s.name ≡ name → list_any (is_told_pending name n) (seat_closings w s) ≡ true
  seat_told s same =
      ap (λ (b : Bool). list_any (is_told_pending name n) (cond b (opened_closings w s) [])) (ap (opened w.driver) same ∙ is_open)
      ∙ any_left (is_told_pending name n) (waiting_closing s.name (waiting w.driver s.name))
      (told_closing s (find (λ d. d.address == s.name.addr) w.bus.devices) (hub_of w.bus s.name))
      (ap (λ (e : EpName). list_any (is_told_pending name n) (waiting_closing e (waiting w.driver e))) same ∙ waiting_told)

  seats_told : (seats : List Seat) (i : ℕ) (s : Seat) → slice_get seats i ≡ Some s → s.name ≡ name
      → list_any (is_told_pending name n) (flat_map (seat_closings w) seats) ≡ true
  seats_told [] zero s here same = absurd (cc)
  seats_told [] (suc i) s here same = absurd (cc)
  seats_told (z ∷ zs) zero s here same =
      any_left (is_told_pending name n) (seat_closings w z) (flat_map (seat_closings w) zs)
      (seat_told z (ap (λ (y : Seat). y.name) (same_Some z s here) ∙ same))
  seats_told (z ∷ zs) (suc i) s here same =
      any_right (is_told_pending name n) (seat_closings w z) (flat_map (seat_closings w) zs) (seats_told zs i s here same)

pub closings_tell_pending : ClosingsTellPending
closings_tell_pending fixed w = record {
  each = seats_tell w fixed.seats;
  all = λ i n seat here now. seats_told w seat.name n now fixed.seats i seat here refl;
}

-- ---- worked rows

pub one_line_for_one_get : OneLineForOneGet
one_line_for_one_get room = record {
  number = 0;
  lines = a_line ∷ [];
  are = refl;
  of = (record { endpoint = working; here = refl; name = refl }, tt);
  fewer = one_each refl (refl, tt);
  others = λ k differs.
      set_same k (a_get ∷ []) 0 a_get (record a_get { reported = true }) refl
      (other_waits 0 k 0 true refl differs ∙ sym (other_waits 0 k 0 false refl differs));
}

at_most_one : (k : ℕ) → count_by (waits_for k) (a_get ∷ []) ≤ 1
at_most_one k = at (waits_for k a_get) refl
  where
    at : (b : Bool) → waits_for k a_get ≡ b → count_by (waits_for k) (a_get ∷ []) ≤ 1
    at true is = let n : count_by (waits_for k) (a_get ∷ []) ≡ 0 + 1 = ap (λ (b : Bool). 0 + cond b 1 0) is in omega (arith, n)
    at false is = let n : count_by (waits_for k) (a_get ∷ []) ≡ 0 + 0 = ap (λ (b : Bool). 0 + cond b 1 0) is in omega (arith, n)

pub two_lines_for_one_get : TwoLinesForOneGet
two_lines_for_one_get room down = at down.fewer
  where
    two : length down.lines ≡ 2
    two = ap length (sym down.are)

    at : IsFewer (with_one room working a_get)
        (record (with_one room working (record a_get { reported = true })) { reports = a_line ∷ a_line ∷ [] }) down.number down.lines → ⊥
    at (one_each less whats) = let few = at_most_one down.number in omega (arith, less, two, few)
    at (cancelled line one what none gone) = let alone : length down.lines ≡ 1 = ap length one in omega (arith, two, alone)

pub a_get_adds_up : AGetAddsUp
a_get_adds_up room zero x here none = refl
a_get_adds_up room (suc e) x here none = absurd (cc)

pub a_line_is_missing : ALineIsMissing
a_line_is_missing room adds = let none : 0 ≡ 1 = adds 0 working refl refl in omega (arith, none)
