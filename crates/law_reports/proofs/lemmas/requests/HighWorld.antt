-- Each event of the driver and each command leave the requests of a world with endpoints of every kind as they must stand.
use Rattle.std.proofs.Common.{◌≡◌, ◌≢◌, ℕ, ◌*◌, List, length, set, slice_get, Option, Some, None}
use Rattle.std.proofs.Common.{option_map, Result, Ok, Err, ap, refl, sym, subst, ◌∙◌, ⊎_elim}
use Rattle.std.proofs.lemmas.Option.{same_Some, slice_get-map}
use Rattle.std.proofs.lemmas.Bool.{cases_eq, true≢false}
use Rattle.law_common.proofs.Lists.{push_which, set_here, set_there}
use Rattle.law_descriptors.proofs.Returning.{none_some}
use Rattle.usb_base.specs.declared.commands.Cmd.{Cmd}
use Rattle.usb_base.specs.declared.endpoints.EpDesc.{EpDesc}
use Rattle.usb_base.specs.declared.reports.OfferError.{OfferError}
use Rattle.bus_wire.specs.Bus.{Fixed, Wired}
use Rattle.claims_report.specs.Requests.{Request}
use Rattle.claims_world.specs.Requests.{Windows, wired, asks_then}
use Rattle.drv_table.specs.Accepting.{Offered}
use Rattle.drv_table.specs.declared.content.Endpoint.{Endpoint}
use Rattle.drv_table.specs.DriverContent.{DriverContent}
use Rattle.drv_table.specs.Offers.{offered}
use Rattle.drv_table.specs.Words.{head_block}
use Rattle.law_driver.specs.queued_drivers.Queued.{queued}
use Rattle.law_driver.proofs.lemmas.queued_drivers.CommandReasons.{reason_of}
use Rattle.bus_world.specs.World.{World, driver_parts, driver_next, name_in, commanded_by, commanded}
use Rattle.law_scripts.specs.byte_answers.Bytes.{IsByteCommand}
use Rattle.drv_table.specs.Offers.{IsOffered}
use Rattle.law_world.specs.memory.Mixed.{Standing, IsMixedAt}
use Rattle.law_world.specs.memory.Opens.{OpensMixed}
use Rattle.law_reports.specs.pipes.PipedLaws.{OpensDeclared}
use Rattle.law_world.specs.memory.Steps.{IsMixedNext, QueueStep}
use Rattle.law_world.specs.memory.Steps.{stays, harvests, returns, lends, stores, mends, begins, opens, unlinks, narrows, goes}
use Rattle.law_world.specs.memory.pipe_steps.Laws.{IsNoOpening}
use Rattle.law_world.proofs.lemmas.memory.Driving.{driver_tells_step}
use Rattle.law_world.proofs.lemmas.streams.lemmas.put_laws.Stays.{desc_at, event_stays}
use Rattle.law_reports.specs.lines.TellingLaws.{IsTellingNext}
use Rattle.law_reports.specs.pipes.Declared.{Sides as Pipes}
use Rattle.law_reports.specs.requests.Asking.{Sides, HasAsks, AsksIn}
use Rattle.law_reports.specs.requests.Footing.{IsFooting}
use Rattle.law_reports.specs.requests.HighAsking.{told_world, told_standing, told_streams, IsSuited, AreSuited, SuitsOpened, SuitsCommand}
use Rattle.law_reports.specs.requests.HighAsking.{HasHighAsks}
use Rattle.law_reports.specs.requests.HighLaws.{DriverKeepsHighAsks, CommandKeepsHighAsks}
use Rattle.law_reports.proofs.lemmas.lines.Driven.{driver_keeps_telling}
use Rattle.law_reports.proofs.lemmas.pipes.Accepted.{EndsThen, one_more, one_anew, ends_then}
use Rattle.law_reports.proofs.lemmas.pipes.Commanded.{commanded_piped}
use Rattle.law_reports.proofs.lemmas.pipes.Driven.{heads_left, driven}
use Rattle.law_reports.proofs.lemmas.pipes.Opened.{opened_piped, off, end_beside}
use Rattle.law_reports.proofs.lemmas.requests.HighCommands.{by_offer}
use Rattle.law_reports.proofs.lemmas.requests.HighDriving.{driven_asks}
use Rattle.law_reports.proofs.lemmas.requests.HighFooting.{high_footing}
use Rattle.law_reports.proofs.lemmas.requests.HighSilent.{command_silent, step_silent}

-- ---- endpoints

end_by : (o : Option Endpoint) (x : Endpoint) → option_map desc_at (Some x) ≡ option_map desc_at o
    → (y : Endpoint) × ((o ≡ Some y) × (y.desc ≡ x.desc))
end_by None x same = absurd (none_some x.desc (sym same))
end_by (Some y) x same = (y, (refl, sym (same_Some x.desc y.desc same)))

suited_event : (g : Sides) (w : World) → AreSuited g w.driver → AreSuited g (driver_next w).driver
suited_event g w suited e x here =
    let was = end_by (slice_get w.driver.endpoints e) x
    (ap (option_map desc_at) (sym here) ∙ sym (slice_get-map desc_at (driver_next w).driver.endpoints e)
    ∙ ap (λ (ds : List EpDesc). slice_get ds e) (event_stays (driver_parts w)).descs ∙ slice_get-map desc_at w.driver.endpoints e) in
    subst (IsSuited g) was.1.1 (suited e was.0 was.1.0)

module _ (g : Sides) (d f : DriverContent) (suited : AreSuited g d) where
  suited_then : (cmd : Cmd) → SuitsOpened g cmd → EndsThen d f cmd → AreSuited g f
  suited_then cmd opened (one_more y is ends kept newest tells) e x here =
      ⊎_elim {C = IsSuited g x.desc} (λ (at : slice_get d.endpoints e ≡ Some x). suited e x at)
      (λ (own : (e ≡ length d.endpoints) × (x ≡ y)).
      subst (λ (z : Endpoint). IsSuited g z.desc) (sym own.1) (subst (SuitsOpened g) is opened))
      (push_which d.endpoints y e x (ap (λ (xs : List Endpoint). slice_get xs e) (sym ends) ∙ here))
  suited_then cmd opened (one_anew i y z at ends comes gone none tells) e x here =
      ⊎_elim {C = IsSuited g x.desc}
      (λ (same : e ≡ i).
      let own : z ≡ x = same_Some z x (sym (set_here d.endpoints i y z at) ∙ ap (slice_get (set d.endpoints i z)) (sym same)
      ∙ ap (λ (xs : List Endpoint). slice_get xs e) (sym ends) ∙ here) in
      subst (IsSuited g) (sym comes.desc ∙ ap (λ (u : Endpoint). u.desc) own) (suited i y at))
      (λ (differs : e ≢ i).
      suited e x (sym (set_there d.endpoints i e z differs) ∙ ap (λ (xs : List Endpoint). slice_get xs e) (sym ends) ∙ here))
      (cases_eq e i)

-- ---- an event of the driver

module _ (g : Sides) (fixed : Fixed) (x : Pipes) (v : Windows) (asks : ℕ → Request) (w : World) (z : HasHighAsks g fixed x v asks w) where
  foot : IsFooting z.standing.near (told_streams z.standing) (told_standing z.standing z.lines) (told_world w)
  foot = high_footing g fixed x z.standing z.lines z.heads w z.piped z.head z.suited

  asks_next : (t : Standing) (step : QueueStep z.standing w (driver_next w) t) → IsMixedAt t (driver_next w)
      → IsTellingNext z.standing z.lines w (driver_next w) t step
      → HasAsks g t.near t.parts t.hand v asks (queued (driver_next w).driver) (driver_next w).memory (wired fixed w)
  asks_next t step mixed next =
      driven_asks g fixed x z.standing z.lines z.heads w z.piped foot z.suited z.silent z.asking v asks z.world t step mixed next

  -- with the standing of the step
  pub record IsHighAt (t : Standing) : Type 0 where
    pub high : HasHighAsks g fixed x v asks (driver_next w)
    pub at : high.standing ≡ t

  by_other : (t : Standing) (step : QueueStep z.standing w (driver_next w) t) → IsNoOpening step → IsMixedAt t (driver_next w)
      → IsTellingNext z.standing z.lines w (driver_next w) t step → IsHighAt t
  by_other t step other mixed next =
      let q = asks_next t step mixed next in
      record {
        high = record {
          standing = t;
          lines = next.lines;
          heads = heads_left fixed x z.standing z.lines z.heads w z.piped t;
          piped = driven fixed x z.standing z.lines z.heads w z.piped t step other mixed next;
          head = z.head;
          suited = suited_event g w z.suited;
          silent = step_silent z.standing w z.piped.mixed z.silent t step;
          asking = q.asking;
          world = q.world;
        };
        at = refl;
      }

  by_step : (t : Standing) (step : QueueStep z.standing w (driver_next w) t) → IsMixedAt t (driver_next w)
      → IsTellingNext z.standing z.lines w (driver_next w) t step → IsHighAt t
  by_step t (opens at _ alike opened) mixed next =
      let q = asks_next t (opens at t alike opened) mixed next in
      record {
        high = record {
          standing = t;
          lines = next.lines;
          heads = _;
          piped = opened_piped fixed x z.standing z.lines z.heads w z.piped at t alike opened mixed next;
          -- its queue head is none that the walk meets
          head = end_beside fixed x z.standing z.lines z.heads w z.piped at t alike opened mixed next (32 * head_block)
              (λ same.
              true≢false (sym z.piped.mixed.queues.queues.met.head ∙ ap z.standing.near same
              ∙ off fixed x z.standing z.lines z.heads w z.piped at t alike opened mixed next)) ∙ z.head;
          suited = suited_event g w z.suited;
          silent = step_silent z.standing w z.piped.mixed z.silent t (opens at t alike opened);
          asking = q.asking;
          world = q.world;
        };
        at = refl;
      }
  by_step t (stays _ none still) mixed next = by_other t (stays t none still) tt mixed next
  by_step t (harvests e u found due later row out) mixed next = by_other t (harvests e u found due later row out) tt mixed next
  by_step t (returns u y own row r) mixed next = by_other t (returns u y own row r) tt mixed next
  by_step t (lends b words get order out row behind) mixed next = by_other t (lends b words get order out row behind) tt mixed next
  by_step t (stores b words p is) mixed next = by_other t (stores b words p is) tt mixed next
  by_step t (mends at row) mixed next = by_other t (mends at row) tt mixed next
  by_step t (begins at row alike) mixed next = by_other t (begins at row alike) tt mixed next
  by_step t (unlinks at row) mixed next = by_other t (unlinks at row) tt mixed next
  by_step t (narrows member near row are fewer) mixed next = by_other t (narrows member near row are fewer) tt mixed next
  by_step t (goes e y d _ back is) mixed next = by_other t (goes e y d t back is) tt mixed next

  -- the step, and the world after it
  pub record HasHighStep : Type 0 where
    pub next : IsMixedNext z.standing w (driver_next w)
    pub after : IsHighAt next.standing

  pub driver_steps_high : HasHighStep
  driver_steps_high =
      let n : IsMixedNext z.standing w (driver_next w) = driver_tells_step z.standing w z.piped.mixed in
      record {
        next = n;
        after = by_step n.standing n.step n.mixed
            (driver_keeps_telling z.standing z.lines w n.standing n.step z.piped.mixed n.mixed z.piped.telling z.piped.going);
      }

pub driver_keeps_high_asks : DriverKeepsHighAsks
driver_keeps_high_asks g fixed x v asks w z = (driver_steps_high g fixed x v asks w z).after.high

-- ---- a command

-- the same standing
pub record IsHighStill (g : Sides) (fixed : Fixed) (x : Pipes) (v : Windows) (asks : ℕ
    → Request) (new : World) (s : Standing) : Type 0 where
  pub high : HasHighAsks g fixed x v asks new
  pub at : high.standing ≡ s

pub command_stays_high : (g : Sides) (fixed : Fixed) (x : Pipes) (v : Windows) (asks : ℕ → Request) (w : World) (line : ℕ) (cmd : Cmd)
    → OpensMixed cmd → OpensDeclared x cmd → SuitsCommand g cmd → IsByteCommand cmd → IsOffered w.driver.room cmd
    → (z : HasHighAsks g fixed x v asks w)
    → IsHighStill g fixed x v (asks_then w.driver cmd asks) (commanded w line cmd) z.standing
command_stays_high g fixed x v asks w line cmd fits declares suits bytes room z =
    let r = offered w.driver w.memory cmd in
    let q = by_offer g fixed z.standing z.lines w z.piped.mixed (foot g fixed x v asks w z) z.asking v asks z.world line cmd r fits suits
    bytes room refl in
    record {
      high = record {
        standing = z.standing;
        lines = z.lines;
        heads = z.heads;
        piped = commanded_piped fixed x z.standing z.lines z.heads w z.piped line cmd fits declares room;
        head = z.head;
        suited = suited_by r refl;
        silent = command_silent z.standing w z.piped.mixed z.silent line cmd r refl;
        asking = q.asking;
        world = subst (λ (wire : Wired). AsksIn g z.standing.near z.standing.parts z.standing.hand q.asking v (asks_then w.driver cmd asks)
            (queued (commanded w line cmd).driver) (commanded w line cmd).memory wire) (sym (same_wire r)) q.world;
      };
      at = refl;
    }
  where
    same_wire : (r : Result Offered OfferError) → wired fixed (commanded_by w line (name_in cmd) r) ≡ wired fixed w
    same_wire (Ok o) = refl
    same_wire (Err why) = refl

    suited_by : (r : Result Offered OfferError) → offered w.driver w.memory cmd ≡ r
        → AreSuited g (commanded_by w line (name_in cmd) r).driver
    suited_by (Ok o) is =
        suited_then g w.driver o.driver z.suited cmd suits.opened (ends_then w.driver w.memory o cmd (reason_of w.driver w.memory cmd o is))
    suited_by (Err why) is = z.suited

pub command_keeps_high_asks : CommandKeepsHighAsks
command_keeps_high_asks g fixed x v asks w line cmd fits declares suits bytes room z =
    (command_stays_high g fixed x v asks w line cmd fits declares suits bytes room z).high
