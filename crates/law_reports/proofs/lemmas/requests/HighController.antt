-- Each event of the controller leaves the requests of control endpoints at high speed as they must stand, in a world with endpoints of
-- every kind.
use Rattle.std.proofs.Common.{◌≡◌, ℕ, ◌*◌, refl, subst}
use Rattle.bus_wire.specs.Bus.{Fixed}
use Rattle.drv_table.specs.Words.{head_block, opening_head}
use Rattle.law_driver.specs.queued_drivers.Queued.{queued}
use Rattle.law_ring.specs.Told.{endpoint_of}
use Rattle.law_controller.specs.frame_control.Both.{BothEffect, of_ring, of_frame}
use Rattle.law_descriptors.specs.Both.{both}
use Rattle.law_devices.specs.scripted_requests.Controls.{transacts_by, begins_by}
use Rattle.claims_report.specs.Requests.{Request}
use Rattle.claims_world.specs.Requests.{wired, Windows, after_event}
use Rattle.bus_world.specs.World.{World, controller_next}
use Rattle.law_world.specs.memory.Mixed.{Standing}
use Rattle.law_world.specs.memory.Steps.{standing_then}
use Rattle.law_reports.specs.lines.Lined.{Lines}
use Rattle.law_reports.specs.pipes.Declared.{Sides as Pipes}
use Rattle.law_reports.specs.pipes.Piped.{Heads, IsPiped}
use Rattle.law_reports.proofs.lemmas.pipes.Controlled.{c, controlled, lines_then}
use Rattle.law_reports.specs.requests.Asking.{Sides, Asking, AsksIn, HasAsks}
use Rattle.law_reports.specs.requests.Footing.{IsFooting}
use Rattle.law_reports.specs.requests.QueueEvents.{courses_after}
use Rattle.law_reports.specs.requests.HighAsking.{told_world, told_standing, told_streams, AreSuited, AsksHigh, AsksAt, HasHighAsks}
use Rattle.law_reports.specs.requests.HighLaws.{ControllerKeepsHighAsks}
use Rattle.law_reports.proofs.lemmas.requests.Assembled.{RequestsGoOn, assembled}
use Rattle.law_reports.proofs.lemmas.requests.HighFooting.{high_footing}
use Rattle.law_reports.proofs.lemmas.requests.HighFrames.{frame_goes_on}
use Rattle.law_reports.proofs.lemmas.requests.HighRing.{now, later, ring_goes_on}
use Rattle.law_reports.proofs.lemmas.requests.HighWindows.{windows_told}

module _ (g : Sides) (fixed : Fixed) (x : Pipes) (s : Standing) (m : Lines) (h : Heads) (w : World) (k : IsPiped fixed x s m h w)
    (f : IsFooting s.near (told_streams s) (told_standing s m) (told_world w)) (head : h.ends (32 * head_block) ≡ endpoint_of opening_head)
    (suited : AreSuited g w.driver) (fast : AsksHigh g) (a : Asking) (v : Windows) (asks : ℕ → Request)
    (q : AsksAt g fixed s a v asks w) where
  goes_on : BothEffect begins_by transacts_by (both s.descs s.parts) w.control s.hand s.frame (wired fixed w)
      (wired fixed (controller_next fixed w)) (c fixed x s m h w k).event.now (c fixed x s m h w k).event.later
      (c fixed x s m h w k).event.frame_later
      → RequestsGoOn g fixed s.near s.parts s.hand a v asks (told_world w) (now g fixed x s m h w k f head suited a v asks q)
      (later g fixed x s m h w k f head suited a v asks q)
  goes_on (of_ring e nothing) = ring_goes_on g fixed x s m h w k f head suited a v asks q fast e
  goes_on (of_frame e) = frame_goes_on g fixed x s m h w k f head suited a v asks q e

  abbrev Then : Type 0
  Then = HasAsks g s.near (now g fixed x s m h w k f head suited a v asks q) (later g fixed x s m h w k f head suited a v asks q)
      (after_event fixed w v) asks (queued w.driver) (controller_next fixed w).memory (wired fixed (controller_next fixed w))

  asks_by : RequestsGoOn g fixed s.near s.parts s.hand a v asks (told_world w) (now g fixed x s m h w k f head suited a v asks q)
      (later g fixed x s m h w k f head suited a v asks q) → Then
  asks_by r =
      let later_asking : Asking = record { courses = courses_after r.step a.courses; numbers = a.numbers } in
      record {
        asking = later_asking;
        world = subst (λ (u : Windows). AsksIn g s.near (now g fixed x s m h w k f head suited a v asks q)
            (later g fixed x s m h w k f head suited a v asks q) later_asking u asks (queued w.driver) (controller_next fixed w).memory
            (wired fixed (controller_next fixed w))) (windows_told fixed w v)
            (assembled g fixed s.near (told_streams s) (told_standing s m) a v asks (told_world w) f q
            (now g fixed x s m h w k f head suited a v asks q) (later g fixed x s m h w k f head suited a v asks q) r);
      }

  pub controlled_asks : Then
  controlled_asks = asks_by (goes_on (c fixed x s m h w k).event.effect)

-- with the standing after the event
pub record IsControlledHigh (g : Sides) (fixed : Fixed) (x : Pipes) (v : Windows) (asks : ℕ → Request) (w : World)
    (z : HasHighAsks g fixed x v asks w) : Type 0 where
  pub high : HasHighAsks g fixed x (after_event fixed w v) asks (controller_next fixed w)
  pub at : high.standing ≡ standing_then z.standing w (c fixed x z.standing z.lines z.heads w z.piped).event

pub controller_goes_on_high : (g : Sides) (fixed : Fixed) (x : Pipes) (v : Windows) (asks : ℕ → Request) (w : World) → AsksHigh g
    → (z : HasHighAsks g fixed x v asks w) → IsControlledHigh g fixed x v asks w z
controller_goes_on_high g fixed x v asks w fast z =
    let f : IsFooting z.standing.near (told_streams z.standing) (told_standing z.standing z.lines) (told_world w) =
    high_footing g fixed x z.standing z.lines z.heads w z.piped z.head z.suited in
    let q = controlled_asks g fixed x z.standing z.lines z.heads w z.piped f z.head z.suited fast z.asking v asks z.world in
    record {
      high = record {
        standing = standing_then z.standing w (c fixed x z.standing z.lines z.heads w z.piped).event;
        lines = lines_then fixed x z.standing z.lines z.heads w z.piped;
        heads = z.heads;
        piped = controlled fixed x z.standing z.lines z.heads w z.piped;
        head = z.head;
        suited = z.suited;
        silent = z.silent;
        asking = q.asking;
        world = q.world;
      };
      at = refl;
    }

pub controller_keeps_high_asks : ControllerKeepsHighAsks
controller_keeps_high_asks g fixed x v asks w fast z = (controller_goes_on_high g fixed x v asks w fast z).high
