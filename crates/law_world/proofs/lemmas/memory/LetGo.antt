-- The run so far, event by event: whatever is given back stands first in a list that tells of it.
use Rattle.std.proofs.Common.{◌≡◌, ◌≢◌, ℕ, zero, suc, ◌<◌, Bool, true, false, not, nat_eq, List, [], ◌∷◌, slice_get, Option, Some, None}
use Rattle.std.proofs.Common.{Result, Ok, Err, cond, ap, refl, sym, subst, ◌∙◌, arith}
use Rattle.std.specs.List.{AllByRecursion}
use Rattle.std.specs.Prelude.{IfSome}
use Rattle.law_common.proofs.Lists.{all_more}
use Rattle.usb_base.specs.declared.commands.Cmd.{Cmd}
use Rattle.usb_base.specs.declared.commands.Cmd.TheVariants as commands
use Rattle.usb_base.specs.declared.reports.OfferError.{OfferError}
use Rattle.script_types.specs.declared.scripts.Event.TheVariants as events
use Rattle.script_types.specs.declared.scripts.Script.{Script}
use Rattle.drv_chains.specs.Boundary.{frame_number, after_reading, is_seen}
use Rattle.drv_chains.specs.declared.boundary.Boundary.{Boundary}
use Rattle.drv_chains.specs.declared.boundary.Boundary.TheVariants.{Unread, Since, Seen}
use Rattle.drv_periodic_table.specs.declared.content.Removal.{Removal}
use Rattle.drv_periodic_table.specs.declared.content.Removed.{Removed}
use Rattle.drv_periodic_table.specs.declared.content.Removed.TheVariants as removed
use Rattle.drv_table.specs.declared.content.Bell.TheVariants as bells
use Rattle.drv_table.specs.declared.content.Endpoint.{Endpoint}
use Rattle.drv_table.specs.declared.rows.DriverRow.{DriverRow}
use Rattle.drv_table.specs.declared.rows.DriverRow.TheVariants as rows
use Rattle.drv_table.specs.Accepting.{Offered}
use Rattle.drv_table.specs.DriverContent.{DriverContent}
use Rattle.drv_table.specs.Offers.{offered}
use Rattle.drv_table.specs.Parts.{Parts}
use Rattle.drv_table.specs.Rows.{driver_row, after_driver_row}
use Rattle.drv_chains.proofs.Linking.{same_number}
use Rattle.bus_wire.specs.Bus.{Fixed, fixed_of}
use Rattle.bus_world.specs.World.{World, driver_parts, driver_next, controller_next, commanded, commanded_by, name_in}
use Rattle.bus_world.specs.Opening.{opening_world}
use Rattle.bus_world.specs.Orders.{Left, Events, Microframes, Answer, Command, Plugs, OrderedWorld, at_place, orders_of, tick, tick_at}
use Rattle.bus_world.specs.Orders.{tick_by, ticks}
use Rattle.bus_world.specs.Budgets.{moment}
use Rattle.law_driver.specs.run_owners.Due.{IsDue, IsEndpointDue, IsRemovalDue}
use Rattle.law_driver.proofs.lemmas.run_owners.Reasons.{each_event_is_due}
use Rattle.claims_world.specs.Releases.{is_drivers, Does, Reads, LeavesRing, LeavesFrames, HeardAdvance, SawTwoFrames, IsUnlinkedAt}
use Rattle.claims_world.specs.Releases.{frindex_read, IsLetGo}
use Rattle.law_world.specs.memory.Releases.{HasLeft, HasRung, HasRead, HasReadTwo, HasBoundary, HasGone, IsHistory, ScriptsGiveBackLast}
use Rattle.law_descriptors.specs.Returned.{IsGivenBack}
use Rattle.law_descriptors.proofs.GivenRow.{row_gives_back_passed}
use Rattle.law_world.proofs.lemmas.memory.ReleaseCommands.{waiting_same, rung_same, cleared_same, bell_same, removals_offered}
use Rattle.law_world.proofs.lemmas.memory.ReleaseRows.{waiting_then, rung_then, cleared_then, heard_then, removals_then}

differs : (a b : ℕ) → nat_eq a b ≡ false → a ≢ b
differs a b not_same same = cc (not_same, subst (λ (x : ℕ). nat_eq a x ≡ true) same (same_number a))

-- ---- from one moment to the next

ticks_then : (fixed : Fixed) (p : OrderedWorld) (k : ℕ) → ticks fixed p (suc k) ≡ tick fixed (ticks fixed p k)
unfolding ticks
ticks_then fixed p zero = refl
ticks_then fixed p (suc k) = ticks_then fixed (tick fixed p) k

module _ (s : Script) where
  pub moment_then : (k : ℕ) → moment s (suc k) ≡ tick (fixed_of s) (moment s k)
  moment_then k = ticks_then (fixed_of s) (at_place (opening_world s) (orders_of s.lines)) k

  -- ---- what was so is so later

  later_left : (k e : ℕ) → HasLeft s k e → HasLeft s (suc k) e
  later_left k e h = record { unlinking = h.unlinking; left = h.left; one = let one = h.one in omega (arith, one) }

  later_rung : (k e : ℕ) → HasRung s k e → HasRung s (suc k) e
  later_rung k e h = record { ringing = h.ringing; left = h.left; rang = h.rang; two = let two = h.two in omega (arith, two) }

  later_heard : (k e : ℕ) → HeardAdvance s e k → HeardAdvance s e (suc k)
  later_heard k e h = record {
    unlinking = h.unlinking;
    ringing = h.ringing;
    reading = h.reading;
    left = h.left;
    rang = h.rang;
    heard = h.heard;
    one = h.one;
    two = h.two;
    three = let three = h.three in omega (arith, three);
  }

  later_read : (at k frame : ℕ) → HasRead s at k frame → HasRead s at (suc k) frame
  later_read at k frame h = record { first = h.first; n = h.n; read = h.read; number = h.number; one = h.one; two = let two = h.two in omega (arith, two) }

  later_two : (at k : ℕ) → HasReadTwo s at k → HasReadTwo s at (suc k)
  later_two at k h = record { second = h.second; m = h.m; frame = h.frame; read = h.read; again = h.again; differ = h.differ; three = let three = h.three in omega (arith, three) }

  later_boundary : (at k : ℕ) (b : Boundary) → HasBoundary s at k b → HasBoundary s at (suc k) b
  later_boundary at k Unread h = tt
  later_boundary at k (Since frame) h = later_read at k frame h
  later_boundary at k Seen h = later_two at k h

  later_gone : (k : ℕ) (r : Removal) → HasGone s k r → HasGone s (suc k) r
  later_gone k r h = record { unlinking = h.unlinking; left = h.left; boundary = later_boundary h.unlinking k r.boundary h.boundary; one = let one = h.one in omega (arith, one) }

  -- ---- one reading more

  module _ (k n : ℕ) (reads : Reads s k n) where
    first_read : (at frame : ℕ) → HasRead s at k frame → (same : Bool) → nat_eq (frame_number n) frame ≡ same
        → HasBoundary s at (suc k) (cond same (Since frame) Seen)
    first_read at frame h true is = later_read at k frame h
    first_read at frame h false is = record {
      second = k;
      m = n;
      frame = frame;
      read = h;
      again = reads;
      differ = λ same. differs (frame_number n) frame is (sym same);
      three = omega arith;
    }

    read_boundary : (at : ℕ) (b : Boundary) → at < k → HasBoundary s at k b → HasBoundary s at (suc k) (after_reading n b)
    read_boundary at Unread one h = record { first = k; n = n; read = reads; number = refl; one = one; two = omega arith }
    read_boundary at (Since frame) one h = first_read at frame h (nat_eq (frame_number n) frame) refl
    read_boundary at Seen one h = later_two at k h

    read_gone : (r : Removal) → HasGone s k r → HasGone s (suc k) (record r { boundary = after_reading n r.boundary })
    read_gone r h = record {
      unlinking = h.unlinking;
      left = h.left;
      boundary = read_boundary h.unlinking r.boundary h.one h.boundary;
      one = let one = h.one in omega (arith, one);
    }

  -- ---- the driver's content stays

  stays : (k : ℕ) (d : DriverContent) → IsHistory s k d → IsHistory s (suc k) d
  stays k d h = record {
    waiting = all_more (HasLeft s k) (HasLeft s (suc k)) d.waiting (later_left k) h.waiting;
    rung = all_more (HasRung s k) (HasRung s (suc k)) d.rung (later_rung k) h.rung;
    heard = λ is. all_more (λ e. HeardAdvance s e k) (λ e. HeardAdvance s e (suc k)) d.rung (later_heard k) (h.heard is);
    cleared = all_more (λ e. HeardAdvance s e k) (λ e. HeardAdvance s e (suc k)) d.cleared (later_heard k) h.cleared;
    removals = all_more (HasGone s k) (HasGone s (suc k)) d.periodic.removals (later_gone k) h.removals;
  }

  -- ---- an event of the driver

  module _ (k : ℕ) (turn : is_drivers (moment s k).orders ≡ true) (next : (moment s (suc k)).world ≡ driver_next (moment s k).world)
      (h : IsHistory s k (moment s k).world.driver) where
    abbrev p : Parts
    p = driver_parts (moment s k).world

    does : (row : DriverRow) → driver_row p ≡ row → Does s k row
    does row is = record { turn = turn; row_is = is }

    after_is : (after_driver_row (driver_row p) p).driver ≡ (moment s (suc k)).world.driver
    after_is = ap (λ (w : World). w.driver) (sym next)

    ends_now : (P : List Endpoint → Type 0) → P (after_driver_row (driver_row p) p).driver.endpoints
        → P (moment s (suc k)).world.driver.endpoints
    ends_now P = subst (λ (d : DriverContent). P d.endpoints) after_is

    left_now : (e : ℕ) → LeavesRing p.driver.endpoints (after_driver_row (driver_row p) p).driver.endpoints e → HasLeft s (suc k) e
    left_now e l = record { unlinking = k; left = ends_now (λ xs. LeavesRing p.driver.endpoints xs e) l; one = omega arith }

    rung_now : driver_row p ≡ rows.RingBell → (e : ℕ) → HasLeft s k e → HasRung s (suc k) e
    rung_now is e l = record { ringing = k; left = l; rang = does rows.RingBell is; two = omega arith }

    heard_now : driver_row p ≡ rows.ReadStatus true → (e : ℕ) → HasRung s k e → HeardAdvance s e (suc k)
    heard_now is e r = record {
      unlinking = r.left.unlinking;
      ringing = r.ringing;
      reading = k;
      left = r.left.left;
      rang = r.rang;
      heard = does (rows.ReadStatus true) is;
      one = r.left.one;
      two = r.two;
      three = omega arith;
    }

    gone_now : (e : ℕ) → LeavesFrames p.driver.endpoints (after_driver_row (driver_row p) p).driver.endpoints e
        → HasGone s (suc k) (record { what = removed.Endpoint e; boundary = Unread })
    gone_now e l = record {
      unlinking = k;
      left = ends_now (λ xs. LeavesFrames p.driver.endpoints xs e) l;
      boundary = tt;
      one = omega arith;
    }

    unlinked_now : (t : ℕ) → driver_row p ≡ rows.Unlink t → HasGone s (suc k) (record { what = removed.Descriptor t; boundary = Unread })
    unlinked_now t is = record { unlinking = k; left = does (rows.Unlink t) is; boundary = tt; one = omega arith }

    heard_before : driver_row p ≡ rows.ClearAdvance → p.driver.bell ≡ bells.Heard
    heard_before is = (subst (IsDue p) is (each_event_is_due p)).1

    driven : IsHistory s (suc k) (after_driver_row (driver_row p) p).driver
    driven = record {
      waiting = waiting_then (HasLeft s (suc k)) (driver_row p) p p.driver.command refl left_now
          (all_more (HasLeft s k) (HasLeft s (suc k)) p.driver.waiting (later_left k) h.waiting);
      rung = rung_then (HasRung s (suc k)) (driver_row p) p
          (λ is. all_more (HasLeft s k) (HasRung s (suc k)) p.driver.waiting (rung_now is) h.waiting)
          (all_more (HasRung s k) (HasRung s (suc k)) p.driver.rung (later_rung k) h.rung);
      heard = heard_then (driver_row p) p (λ e. HeardAdvance s e k) (λ e. HeardAdvance s e (suc k)) (later_heard k) h.heard
          (λ is. all_more (HasRung s k) (λ e. HeardAdvance s e (suc k)) p.driver.rung (heard_now is) h.rung);
      cleared = cleared_then (λ e. HeardAdvance s e (suc k)) (driver_row p) p
          (λ is. all_more (λ e. HeardAdvance s e k) (λ e. HeardAdvance s e (suc k)) p.driver.rung (later_heard k)
          (h.heard (heard_before is)))
          (all_more (λ e. HeardAdvance s e k) (λ e. HeardAdvance s e (suc k)) p.driver.cleared (later_heard k) h.cleared);
      removals = removals_then (HasGone s k) (HasGone s (suc k)) (later_gone k) (driver_row p) p p.driver.command refl gone_now unlinked_now
          (λ n is. read_gone k n (record { turn = turn; reads = is })) h.removals;
    }

  -- ---- a command

  module _ (k n : ℕ) (cmd : Cmd) (next : (moment s (suc k)).world ≡ commanded (moment s k).world n cmd)
      (h : IsHistory s k (moment s k).world.driver) where
    abbrev w : World
    w = (moment s k).world

    gone_by : (r : Result Offered OfferError) → commanded_by w n (name_in cmd) r ≡ (moment s (suc k)).world → (o : Offered) → r ≡ Ok o
        → (e : ℕ) → LeavesFrames w.driver.endpoints o.driver.endpoints e
        → HasGone s (suc k) (record { what = removed.Endpoint e; boundary = Unread })
    gone_by r same o is e l = record {
      unlinking = k;
      left = subst (λ (v : World). LeavesFrames w.driver.endpoints v.driver.endpoints e)
          (sym (ap (commanded_by w n (name_in cmd)) is) ∙ same) l;
      boundary = tt;
      one = omega arith;
    }

    offered_history : (o : Offered) → offered w.driver w.memory cmd ≡ Ok o → IsHistory s k w.driver → IsHistory s (suc k) o.driver
    offered_history o is h =
        let later : IsHistory s (suc k) w.driver = stays k w.driver h in
        record {
          waiting = subst (AllByRecursion (HasLeft s (suc k))) (sym (waiting_same w.driver w.memory cmd o is)) later.waiting;
          rung = subst (AllByRecursion (HasRung s (suc k))) (sym (rung_same w.driver w.memory cmd o is)) later.rung;
          heard = λ bell. subst (AllByRecursion (λ e. HeardAdvance s e (suc k))) (sym (rung_same w.driver w.memory cmd o is))
              (later.heard (sym (bell_same w.driver w.memory cmd o is) ∙ bell));
          cleared = subst (AllByRecursion (λ e. HeardAdvance s e (suc k))) (sym (cleared_same w.driver w.memory cmd o is)) later.cleared;
          removals = removals_offered (HasGone s (suc k)) w.driver w.memory cmd o is
              (gone_by (offered w.driver w.memory cmd) (sym next) o is) later.removals;
        }

    answered : (r : Result Offered OfferError) → offered w.driver w.memory cmd ≡ r
        → IsHistory s (suc k) (commanded_by w n (name_in cmd) r).driver
    answered (Ok o) is = offered_history o is h
    answered (Err why) is =
        let later : IsHistory s (suc k) w.driver = stays k w.driver h in
        record { waiting = later.waiting; rung = later.rung; heard = later.heard; cleared = later.cleared; removals = later.removals }

  -- ---- each event

  stepped : (k : ℕ) (orders : List Left) → (moment s k).orders ≡ orders
      → moment s (suc k) ≡ tick_at (fixed_of s) (moment s k).world orders → IsHistory s k (moment s k).world.driver
      → IsHistory s (suc k) (tick_at (fixed_of s) (moment s k).world orders).world.driver
  stepped k (Events events.D (suc n) ∷ rest) are next h = driven k (ap is_drivers are) (ap (λ (q : OrderedWorld). q.world) next) h
  stepped k (Events events.C (suc n) ∷ rest) are next h = stays k (moment s k).world.driver h
  stepped k (Microframes (suc n) ∷ rest) are next h = stays k (moment s k).world.driver h
  stepped k (Answer ended n ∷ rest) are next h = driven k (ap is_drivers are) (ap (λ (q : OrderedWorld). q.world) next) h
  stepped k (Command n cmd ∷ rest) are next h = answered k n cmd (ap (λ (q : OrderedWorld). q.world) next) h
      (offered (moment s k).world.driver (moment s k).world.memory cmd) refl
  stepped k _ are next h = stays k (moment s k).world.driver h

  pub history : (k : ℕ) → IsHistory s k (moment s k).world.driver
  unfolding ticks
  history zero = record { waiting = tt; rung = tt; heard = λ is. tt; cleared = tt; removals = tt }
  history (suc k) =
      let next : moment s (suc k) ≡ tick (fixed_of s) (moment s k) = moment_then k in
      subst (λ (q : OrderedWorld). IsHistory s (suc k) q.world.driver) (sym next) (stepped k (moment s k).orders refl next (history k))

  -- ---- what is given back

  first_all : {X : Type 0} (P : X → Type 0) (xs : List X) (x : X) → AllByRecursion P xs → slice_get xs 0 ≡ Some x → P x
  first_all P [] x all is = absurd (cc)
  first_all P (y ∷ ys) x all is = subst (λ o. IfSome o P) is all.0

  ring_let_go : (k e : ℕ) → Does s k (rows.ReleaseEndpoint e) → HeardAdvance s e k
  ring_let_go k e does =
      let p : Parts = driver_parts (moment s k).world in
      let due : IsEndpointDue p e = subst (IsDue p) does.row_is (each_event_is_due p) in
      first_all (λ f. HeardAdvance s f k) p.driver.cleared e (history k).cleared due.first

  saw : (k : ℕ) (what : Removed) (b : Boundary) → is_seen b ≡ true → (at : ℕ) → IsUnlinkedAt s at what → HasBoundary s at k b
      → SawTwoFrames s what k
  saw k what Unread seen at left h = absurd (cc)
  saw k what (Since frame) seen at left h = absurd (cc)
  saw k what Seen seen at left h = record {
    unlinking = at;
    first = h.read.first;
    second = h.second;
    n = h.read.n;
    m = h.m;
    left = left;
    read = h.read.read;
    again = h.again;
    differ = λ same. h.differ (sym h.read.number ∙ same);
    one = h.read.one;
    two = h.read.two;
    three = h.three;
  }

  frames_let_go : (k : ℕ) (what : Removed) → Does s k (rows.ReleaseRemoved what) → SawTwoFrames s what k
  frames_let_go k what does =
      let p : Parts = driver_parts (moment s k).world in
      let given : IsGivenBack p what = row_gives_back_passed p what does.row_is in
      let gone : HasGone s k given.due.removal = first_all (HasGone s k) p.driver.periodic.removals given.due.removal
      (history k).removals given.due.first in
      saw k what given.due.removal.boundary given.seen gone.unlinking
      (subst (IsUnlinkedAt s gone.unlinking) given.due.is gone.left) gone.boundary

pub scripts_give_back_last : ScriptsGiveBackLast
scripts_give_back_last = λ s k. record { ring = ring_let_go s k; frames = frames_let_go s k }
