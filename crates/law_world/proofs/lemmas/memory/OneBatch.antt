-- While the doorbell is rung, what is rung left the ring before, and what waits left since.
use Rattle.std.proofs.Common.{◌≡◌, ◌≢◌, ℕ, zero, suc, ◌≤◌, Bool, true, false, cond, nat_lt, List, [], ◌∷◌, ◌++◌, length, slice_get}
use Rattle.std.proofs.Common.{Option, Some, None, Result, Ok, Err, unwrap_or, option_map, ap, refl, sym, subst, ◌∙◌, ⊎_elim, arith}
use Rattle.std.specs.List.{AllByRecursion}
use Rattle.std.specs.Prelude.{option_and_then}
use Rattle.std.proofs.lemmas.Bool.{true≢false}
use Rattle.std.proofs.lemmas.Option.{same_Some}
use Rattle.law_common.proofs.Lists.{all_more}
use Rattle.usb_base.specs.declared.commands.Cmd.{Cmd}
use Rattle.usb_base.specs.declared.reports.OfferError.{OfferError}
use Rattle.script_types.specs.declared.scripts.Event.TheVariants as events
use Rattle.script_types.specs.declared.scripts.Script.{Script}
use Rattle.word_mem.specs.Memory.{Mem}
use Rattle.op_registers.specs.RegisterFile.{RegisterFile}
use Rattle.drv_chains.specs.Boundary.{is_seen}
use Rattle.drv_periodic_table.specs.declared.content.Removal.{Removal}
use Rattle.drv_table.specs.declared.content.Bell.{Bell}
use Rattle.drv_table.specs.declared.content.Bell.TheVariants as bells
use Rattle.drv_table.specs.declared.content.Endpoint.{Endpoint}
use Rattle.drv_table.specs.declared.content.Transfer.{Transfer}
use Rattle.drv_table.specs.declared.content.Turn.{Turn}
use Rattle.drv_table.specs.declared.content.Turn.TheVariants as turns
use Rattle.drv_table.specs.declared.rows.DriverRow.{DriverRow}
use Rattle.drv_table.specs.declared.rows.DriverRow.TheVariants as rows
use Rattle.drv_table.specs.Accepting.{Offered}
use Rattle.drv_table.specs.DriverContent.{DriverContent, waits_for}
use Rattle.drv_table.specs.Harvesting.{found_of, next_worker, reading_row, transfer_row, worker_row, harvest_row}
use Rattle.drv_table.specs.Leaving.{tells_advance, removes, reading_for, bell_row, removal_row, first_row, leaving_row}
use Rattle.drv_table.specs.Offers.{offered}
use Rattle.drv_table.specs.Parts.{Parts}
use Rattle.drv_table.specs.Rows.{turn_row, row_for, driver_row, after_driver_row}
use Rattle.bus_wire.specs.Bus.{fixed_of}
use Rattle.bus_world.specs.World.{World, driver_parts, driver_next, commanded_by, name_in}
use Rattle.bus_world.specs.Orders.{Left, Events, Microframes, Answer, Command, OrderedWorld, tick, tick_at, ticks}
use Rattle.bus_world.specs.Budgets.{moment}
use Rattle.claims_driver.specs.Walk.{IsBellIn}
use Rattle.claims_world.specs.Links.{LeftWithin, IsOneBatch, IsPending}
use Rattle.claims_world.specs.Releases.{is_drivers, LeavesRing}
use Rattle.law_driver.specs.run_owners.Due.{IsDue}
use Rattle.law_driver.proofs.lemmas.run_owners.Reasons.{each_event_is_due}
use Rattle.law_footprints.proofs.Fields.{rung_stays, bell_stays}
use Rattle.law_world.specs.memory.Releases.{HasLeft}
use Rattle.law_world.proofs.lemmas.memory.LetGo.{moment_then, history}
use Rattle.law_world.proofs.lemmas.memory.ReleaseCommands.{waiting_same, rung_same, bell_same}
use Rattle.law_world.proofs.lemmas.memory.ReleaseRows.{waiting_then, rung_then}

-- ---- the doorbell is rung only where something waits

abbrev SaysWaits : List ℕ → DriverRow → Type 0
SaysWaits es rows.RingBell = es ≢ []
SaysWaits es _ = Unit {0}

abbrev SayWait : List ℕ → Option DriverRow → Type 0
SayWait es o = (row : DriverRow) → o ≡ Some row → SaysWaits es row

module _ (es : List ℕ) where
  none_says : SayWait es None
  none_says row is = absurd (cc)

  one_says : (row : DriverRow) → SaysWaits es row → SayWait es (Some row)
  one_says row says other is = subst (SaysWaits es) (same_Some row other is) says

  first_says : (a b : Option DriverRow) → SayWait es a → SayWait es b → SayWait es (first_row a b)
  first_says (Some row) b one other = one
  first_says None b one other = other

  mapped_says : {X : Type 0} (f : X → DriverRow) (o : Option X) → ((x : X) → SaysWaits es (f x)) → SayWait es (option_map f o)
  mapped_says f None each = none_says
  mapped_says f (Some x) each = one_says (f x) (each x)

  removal_says : (o : Option Removal) → SayWait es (removal_row o)
  removal_says None = none_says
  removal_says (Some r) = by (is_seen r.boundary)
    where
      by : (b : Bool) → SayWait es (cond b (Some (rows.ReleaseRemoved r.what)) None)
      by true = one_says (rows.ReleaseRemoved r.what) tt
      by false = none_says

  reading_says : (d : DriverContent) (r : RegisterFile) (a b : Bool) → SayWait es (reading_for d r a b)
  reading_says d r false false = none_says
  reading_says d r true false = one_says (rows.ReadStatus (tells_advance r)) tt
  reading_says d r false true = one_says (rows.ReadFrame r.frame_index) tt
  reading_says d r true true = by d.periodic.status_next
    where
      by : (b : Bool) → SayWait es (Some (cond b (rows.ReadStatus (tells_advance r)) (rows.ReadFrame r.frame_index)))
      by true = one_says (rows.ReadStatus (tells_advance r)) tt
      by false = one_says (rows.ReadFrame r.frame_index) tt

  read_says : (d : DriverContent) (m : Mem) (e t : ℕ) (o : Option Transfer) → SayWait es (reading_row d m e t o)
  read_says d m e t None = none_says
  read_says d m e t (Some y) = by (waits_for e y)
    where
      by : (b : Bool) → SayWait es (cond b (Some (rows.Harvest e t (found_of d m y y.sort))) None)
      by true = one_says (rows.Harvest e t (found_of d m y y.sort)) tt
      by false = none_says

  transfer_says : (d : DriverContent) (m : Mem) (e : ℕ) (o : Option ℕ) → SayWait es (transfer_row d m e o)
  transfer_says d m e None = none_says
  transfer_says d m e (Some t) = read_says d m e t (slice_get d.transfers t)

  harvest_says : (d : DriverContent) (m : Mem) (o : Option ℕ) → SayWait es (worker_row d m o)
  harvest_says d m None = none_says
  harvest_says d m (Some e) = transfer_says d m e (option_and_then (λ (x : Endpoint). x.next) (slice_get d.endpoints e))

  two_say : (a b : Option DriverRow) → SayWait es a → SayWait es b → SaysWaits es (unwrap_or (first_row a b) rows.Rest)
  two_say None None one other = tt
  two_say None (Some row) one other = other row refl
  two_say (Some row) b one other = one row refl

some_wait : (es : List ℕ) → nat_lt 0 (length es) ≡ true → es ≢ []
some_wait [] some is = true≢false (sym some)
some_wait (e ∷ es) some is = cc is

bell_says : (d : DriverContent) (r : RegisterFile) (b : Bell) → SayWait d.waiting (bell_row d r b)
bell_says d r bells.Heard = one_says d.waiting rows.ClearAdvance tt
bell_says d r bells.Rung = reading_says d.waiting d r true (removes d)
bell_says d r bells.Quiet = by (nat_lt 0 (length d.waiting)) refl
  where
    by : (b : Bool) → nat_lt 0 (length d.waiting) ≡ b → SayWait d.waiting (cond b (Some rows.RingBell) (reading_for d r false (removes d)))
    by true some = one_says d.waiting rows.RingBell (some_wait d.waiting some)
    by false some = reading_says d.waiting d r false (removes d)

leaving_says : (d : DriverContent) (r : RegisterFile) → SayWait d.waiting (leaving_row d r)
leaving_says d r =
    let es : List ℕ = d.waiting in
    first_says es _ _ (mapped_says es rows.Mend (slice_get d.mends 0) (λ w. tt))
    (first_says es _ _ (mapped_says es rows.ReleaseTransfer (slice_get d.harvested 0) (λ t. tt))
    (first_says es _ _ (mapped_says es rows.Unlink (slice_get d.periodic.unlinks 0) (λ t. tt))
    (first_says es _ _ (mapped_says es rows.ReleaseEndpoint (slice_get d.cleared 0) (λ e. tt))
    (first_says es _ _ (removal_says es (slice_get d.periodic.removals 0)) (bell_says d r d.bell)))))

turn_says : (p : Parts) (turn : Turn)
    → SaysWaits p.driver.waiting (turn_row turn (leaving_row p.driver p.registers) (harvest_row p.driver p.memory))
turn_says p turns.Leaving =
    two_say p.driver.waiting (leaving_row p.driver p.registers) (harvest_row p.driver p.memory) (leaving_says p.driver p.registers)
    (harvest_says p.driver.waiting p.driver p.memory (next_worker p.driver))
turn_says p turns.Harvest =
    two_say p.driver.waiting (harvest_row p.driver p.memory) (leaving_row p.driver p.registers)
    (harvest_says p.driver.waiting p.driver p.memory (next_worker p.driver)) (leaving_says p.driver p.registers)

rings_for_some : (p : Parts) → driver_row p ≡ rows.RingBell → p.driver.waiting ≢ []
rings_for_some p is =
    let due : IsDue p rows.RingBell = subst (IsDue p) is (each_event_is_due p) in
    subst (SaysWaits p.driver.waiting) (sym (ap (row_for p) due.0) ∙ is) (turn_says p p.driver.turn)

-- ---- the run

none_of : {X : Type 0} (P : X → Type 0) (xs : List X) → xs ≡ [] → AllByRecursion P xs
none_of P xs none = subst (AllByRecursion P) (sym none) tt

joined_some : (es fs : List ℕ) → fs ≢ [] → es ++ fs ≢ []
joined_some [] fs some = some
joined_some (e ∷ es) fs some = λ is. cc is

module _ (s : Script) where
  abbrev Batch : ℕ → DriverContent → Type 0
  Batch k d = d.bell ≢ bells.Quiet → IsOneBatch s k d

  within_later : (from n e : ℕ) → LeftWithin s from n e → LeftWithin s from (suc n) e
  within_later from n e l = record {
    unlinking = l.unlinking;
    left = l.left;
    since = l.since;
    before = let before = l.before in omega (arith, before);
  }

  left_within : (n e : ℕ) → HasLeft s n e → LeftWithin s 0 n e
  left_within n e l = record { unlinking = l.unlinking; left = l.left; since = omega arith; before = l.one }

  -- where the driver has what it had
  stays : (k : ℕ) (d : DriverContent) → Batch k d → Batch (suc k) d
  stays k d batch loud =
      let b : IsOneBatch s k d = batch loud in
      record {
        ringing = b.ringing;
        rang = b.rang;
        past = let past = b.past in omega (arith, past);
        some = b.some;
        rung = b.rung;
        waiting = all_more (LeftWithin s b.ringing k) (LeftWithin s b.ringing (suc k)) d.waiting (within_later b.ringing k) b.waiting;
      }

  same_lists : (k : ℕ) (d new : DriverContent) → new.bell ≡ d.bell → new.rung ≡ d.rung → new.waiting ≡ d.waiting → Batch k d → Batch k new
  same_lists k d new bell rung waiting batch loud =
      let b : IsOneBatch s k d = batch (λ quiet. loud (bell ∙ quiet)) in
      record {
        ringing = b.ringing;
        rang = b.rang;
        past = b.past;
        some = λ none. b.some (sym rung ∙ none);
        rung = subst (AllByRecursion (LeftWithin s 0 b.ringing)) (sym rung) b.rung;
        waiting = subst (AllByRecursion (LeftWithin s b.ringing k)) (sym waiting) b.waiting;
      }

  -- ---- an event of the driver

  module _ (k : ℕ) (turn : is_drivers (moment s k).orders ≡ true) (next : (moment s (suc k)).world ≡ driver_next (moment s k).world)
      (bell : IsBellIn (moment s k).world.driver (moment s k).world.registers) (batch : Batch k (moment s k).world.driver) where
    abbrev p : Parts
    p = driver_parts (moment s k).world

    left_now : (from e : ℕ) → from ≤ k → LeavesRing p.driver.endpoints (after_driver_row (driver_row p) p).driver.endpoints e
        → LeftWithin s from (suc k) e
    left_now from e since l = record {
      unlinking = k;
      left = subst (λ (d : DriverContent). LeavesRing p.driver.endpoints d.endpoints e) (ap (λ (w : World). w.driver) (sym next)) l;
      since = since;
      before = omega arith;
    }

    -- the doorbell is rung
    rings : driver_row p ≡ rows.RingBell → IsOneBatch s (suc k) (after_driver_row rows.RingBell p).driver
    rings is =
        let due : IsDue p rows.RingBell = subst (IsDue p) is (each_event_is_due p) in
        record {
          ringing = k;
          rang = record { turn = turn; row_is = is };
          past = omega arith;
          some = joined_some p.driver.rung p.driver.waiting (rings_for_some p is);
          rung = rung_then (LeftWithin s 0 k) rows.RingBell p
              (λ _. all_more (HasLeft s k) (LeftWithin s 0 k) p.driver.waiting (left_within k) (history s k).waiting)
              (none_of (LeftWithin s 0 k) p.driver.rung (bell.quiet due.1).0);
          waiting = tt;
        }

    -- it was rung before
    goes_on : (row : DriverRow) → driver_row p ≡ row → p.driver.bell ≢ bells.Quiet
        → (after_driver_row row p).driver.rung ≡ p.driver.rung → IsOneBatch s (suc k) (after_driver_row row p).driver
    goes_on row is loud same =
        let b : IsOneBatch s k p.driver = batch loud in
        record {
          ringing = b.ringing;
          rang = b.rang;
          past = let past = b.past in omega (arith, past);
          some = λ none. b.some (sym same ∙ none);
          rung = subst (AllByRecursion (LeftWithin s 0 b.ringing)) (sym same) b.rung;
          waiting = waiting_then (LeftWithin s b.ringing (suc k)) row p p.driver.command refl
              (λ e l. left_now b.ringing e (let past = b.past in omega (arith, past))
              (subst (λ (r : DriverRow). LeavesRing p.driver.endpoints (after_driver_row r p).driver.endpoints e) (sym is) l))
              (all_more (LeftWithin s b.ringing k) (LeftWithin s b.ringing (suc k)) p.driver.waiting (within_later b.ringing k) b.waiting);
        }

    rung_loud : bells.Rung ≢ bells.Quiet
    rung_loud is = cc is

    driven : (row : DriverRow) → driver_row p ≡ row → Batch (suc k) (after_driver_row row p).driver
    driven rows.RingBell is loud = rings is
    driven rows.ClearAdvance is loud = absurd (loud refl)
    driven (rows.ReadStatus heard) is loud =
        let due : IsDue p (rows.ReadStatus heard) = subst (IsDue p) is (each_event_is_due p) in
        goes_on (rows.ReadStatus heard) is (λ quiet. rung_loud (sym due.1 ∙ quiet)) refl
    driven row is loud =
        goes_on row is (λ quiet. loud (bell_stays row p p.driver.command refl refl ∙ quiet))
        (rung_stays row p p.driver.command refl refl)

  -- ---- each event

  module _ (k : ℕ) (batch : Batch k (moment s k).world.driver) where
    answered : (n : ℕ) (cmd : Cmd) (r : Result Offered OfferError) → offered (moment s k).world.driver (moment s k).world.memory cmd ≡ r
        → Batch (suc k) (commanded_by (moment s k).world n (name_in cmd) r).driver
    answered n cmd (Ok o) is =
        let d : DriverContent = (moment s k).world.driver in
        let m : Mem = (moment s k).world.memory in
        same_lists (suc k) d o.driver (bell_same d m cmd o is) (rung_same d m cmd o is) (waiting_same d m cmd o is) (stays k d batch)
    answered n cmd (Err why) is =
        let d : DriverContent = (moment s k).world.driver in
        same_lists (suc k) d (commanded_by (moment s k).world n (name_in cmd) (Err why)).driver refl refl refl (stays k d batch)

    stepped : IsBellIn (moment s k).world.driver (moment s k).world.registers → (orders : List Left) → (moment s k).orders ≡ orders
        → moment s (suc k) ≡ tick_at (fixed_of s) (moment s k).world orders
        → Batch (suc k) (tick_at (fixed_of s) (moment s k).world orders).world.driver
    stepped bell (Events events.D (suc n) ∷ rest) are next =
        driven k (ap is_drivers are) (ap (λ (q : OrderedWorld). q.world) next) bell batch
        (driver_row (driver_parts (moment s k).world)) refl
    stepped bell (Events events.C (suc n) ∷ rest) are next = stays k (moment s k).world.driver batch
    stepped bell (Microframes (suc n) ∷ rest) are next = stays k (moment s k).world.driver batch
    stepped bell (Answer ended n ∷ rest) are next =
        driven k (ap is_drivers are) (ap (λ (q : OrderedWorld). q.world) next) bell batch
        (driver_row (driver_parts (moment s k).world)) refl
    stepped bell (Command n cmd ∷ rest) are next = answered n cmd (offered (moment s k).world.driver (moment s k).world.memory cmd) refl
    stepped bell _ are next = stays k (moment s k).world.driver batch

  module _ (bell : (k : ℕ) → IsBellIn (moment s k).world.driver (moment s k).world.registers) where
    batches : (k : ℕ) → Batch k (moment s k).world.driver
    unfolding ticks
    batches zero = λ loud. absurd (loud refl)
    batches (suc k) =
        let next : moment s (suc k) ≡ tick (fixed_of s) (moment s k) = moment_then s k in
        subst (λ (q : OrderedWorld). Batch (suc k) q.world.driver) (sym next) (stepped k (batches k) (bell k) (moment s k).orders refl next)

    not_quiet : (k : ℕ) → IsPending (moment s k).world → (moment s k).world.driver.bell ≢ bells.Quiet
    not_quiet k pending quiet =
        let none = (bell k).quiet quiet in
        ⊎_elim (λ (rings : (moment s k).world.registers.doorbell ≡ true). true≢false (sym rings ∙ none.2))
        (λ (tells : (moment s k).world.registers.async_advance ≡ true). true≢false (sym tells ∙ none.1)) pending

    pub one_batch : (k : ℕ) → IsPending (moment s k).world → IsOneBatch s k (moment s k).world.driver
    one_batch k pending = batches k (not_quiet k pending)
