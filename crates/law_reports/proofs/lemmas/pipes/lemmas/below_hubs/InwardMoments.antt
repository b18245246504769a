-- A bulk or interrupt IN endpoint below a hub stands as it must at each event, and at each moment of each script before which its hub was
-- spared.
use Rattle.std.proofs.Common.{ℕ, ◌*◌, Bool, List}
use Rattle.std.specs.List.{concat}
use Rattle.bus_wire.specs.Bus.{Fixed}
use Rattle.law_world.specs.memory.Steps.{IsMixedNext}
use Rattle.law_world.proofs.lemmas.memory.Driving.{driver_tells_step}
use Rattle.law_reports.specs.lines.Lined.{in_hand, Lines}
use Rattle.law_world.specs.steps.Streaming.{wired}
use Rattle.law_reports.specs.lines.TellingLaws.{IsTellingNext}
use Rattle.law_reports.proofs.lemmas.lines.Driven.{driver_keeps_telling}
use Rattle.law_reports.specs.pipes.Declared.{Sides}
use Rattle.law_reports.specs.pipes.Piped.{Heads, asked_as, IsPiped}
use Rattle.law_reports.specs.pipes.puts.Paid.{Pays}
use Rattle.law_reports.specs.pipes.below_hubs.Behind.{Spots, IsBehind}
use Rattle.law_reports.specs.pipes.below_hubs.Inward.{Inlet, renewed, IsInward, HasInward}
use Rattle.law_reports.specs.pipes.below_hubs.InwardLaws.{ControllerKeepsInward, DriverKeepsInward, CommandKeepsInward}
use Rattle.law_reports.proofs.lemmas.pipes.Commanded.{commanded_piped}
use Rattle.law_reports.proofs.lemmas.pipes.Controlled.{c, z, z_row, controlled}
use Rattle.law_reports.proofs.lemmas.pipes.Driven.{heads_left, driven}
use Rattle.law_reports.proofs.lemmas.pipes.Opened.{heads_opened, opened_piped}
use Rattle.law_reports.proofs.lemmas.pipes.lemmas.below_hubs.BehindCommanded.{commanded_behind}
use Rattle.law_reports.proofs.lemmas.pipes.lemmas.below_hubs.BehindControlled.{controlled_behind}
use Rattle.law_reports.proofs.lemmas.pipes.lemmas.below_hubs.BehindDriven.{driver_leaves_behind}
use Rattle.law_reports.proofs.lemmas.pipes.lemmas.below_hubs.InTime.{renew, late_by}
use Rattle.law_reports.proofs.lemmas.pipes.lemmas.below_hubs.InwardCommanded.{commanded_inward}
use Rattle.law_reports.proofs.lemmas.pipes.lemmas.below_hubs.InwardControlled.{controlled_inward}
use Rattle.law_reports.proofs.lemmas.pipes.lemmas.below_hubs.InwardDriven.{driver_leaves_inward}
use Rattle.law_reports.proofs.lemmas.pipes.lemmas.puts.Commanded.{commanded_pays}
use Rattle.law_reports.proofs.lemmas.pipes.lemmas.puts.DrivenPays.{driven_pays}
use Rattle.law_reports.proofs.lemmas.pipes.lemmas.puts.Event.{controlled_pays}
use Rattle.bus_world.specs.World.{World, driver_next}
use Rattle.law_world.specs.memory.Mixed.{Standing, IsMixedAt}
use Rattle.law_world.specs.memory.Steps.{QueueStep, stays, harvests, returns, lends, stores, mends, begins, opens, unlinks, narrows, goes}
use Rattle.law_world.specs.memory.pipe_steps.Laws.{IsNoOpening}

-- ---- who is in time

pub renew_inward : (fixed : Fixed) (x : Sides) (o : Spots) (v : Inlet) (timely : ℕ → Bool) (puts : ℕ → List ℕ) (w : World)
    → (k : HasInward fixed x o v timely puts w) → HasInward fixed x o v (renewed k.standing timely) puts w
renew_inward fixed x o v timely puts w k = record {
  standing = k.standing;
  lines = k.lines;
  heads = k.heads;
  piped = k.piped;
  pays = k.pays;
  behind = k.behind;
  inward = record {
    claims = k.inward.claims;
    inlets = k.inward.inlets;
    hub = k.inward.hub;
    met = λ e y here way on is_met.
        renew v.desc.kind v.packets (wired fixed w) v.hub v.place (timely (32 * y.queue)) (concat (k.lines.acc (32 * y.queue)))
        k.standing.parts (in_hand k.standing) (32 * y.queue) (asked_as y.desc) (k.inward.met e y here way on is_met);
    fresh = k.inward.fresh;
    left = k.inward.left;
  };
}

-- ---- each event and each command

pub controller_keeps_inward : ControllerKeepsInward
controller_keeps_inward fixed x o v timely puts w spared finds asks k = record {
  later = _;
  inward = record {
    standing = _;
    lines = _;
    heads = k.heads;
    piped = controlled fixed x k.standing k.lines k.heads w k.piped;
    pays = controlled_pays fixed x k.standing k.lines k.heads puts w k.piped k.pays;
    behind = controlled_behind fixed x o k.standing k.lines k.heads puts w k.piped k.pays k.behind finds;
    inward = controlled_inward fixed x o v timely k.standing k.lines k.heads puts w k.piped k.pays k.behind k.inward spared finds asks;
  };
  told = λ n off.
      late_by fixed x k.standing k.lines k.heads w k.piped n (c fixed x k.standing k.lines k.heads w k.piped).event timely
      (z fixed x k.standing k.lines k.heads w k.piped) (z_row fixed x k.standing k.lines k.heads w k.piped) off;
}

module _ (fixed : Fixed) (x : Sides) (o : Spots) (v : Inlet) (timely : ℕ → Bool) (s : Standing) (m : Lines) (h : Heads)
    (puts : ℕ → List ℕ) (w : World) (k : IsPiped fixed x s m h w) (pays : Pays fixed x s m puts w) (b : IsBehind fixed o s m puts w)
    (i : IsInward fixed v timely s m w) where
  by_other : (t : Standing) (step : QueueStep s w (driver_next w) t) → IsNoOpening step → IsMixedAt t (driver_next w)
      → IsTellingNext s m w (driver_next w) t step → HasInward fixed x o v timely puts (driver_next w)
  by_other t step other mixed next = record {
    standing = t;
    lines = next.lines;
    heads = heads_left fixed x s m h w k t;
    piped = driven fixed x s m h w k t step other mixed next;
    pays = driven_pays fixed x s m h puts w k pays t step mixed next;
    behind = driver_leaves_behind fixed x o s m h puts w k pays b t step mixed next;
    inward = driver_leaves_inward fixed x o v timely s m h puts w k pays b i t step mixed next;
  }

  by_step : (t : Standing) (step : QueueStep s w (driver_next w) t) → IsMixedAt t (driver_next w)
      → IsTellingNext s m w (driver_next w) t step → HasInward fixed x o v timely puts (driver_next w)
  by_step t (opens at _ alike opened) mixed next = record {
    standing = t;
    lines = next.lines;
    heads = heads_opened fixed x s m h w k at t alike opened mixed next;
    piped = opened_piped fixed x s m h w k at t alike opened mixed next;
    pays = driven_pays fixed x s m h puts w k pays t (opens at t alike opened) mixed next;
    behind = driver_leaves_behind fixed x o s m h puts w k pays b t (opens at t alike opened) mixed next;
    inward = driver_leaves_inward fixed x o v timely s m h puts w k pays b i t (opens at t alike opened) mixed next;
  }
  by_step t (stays _ none still) mixed next = by_other t (stays t none still) tt mixed next
  by_step t (harvests e u found due later row out) mixed next = by_other t (harvests e u found due later row out) tt mixed next
  by_step t (returns u y z row r) mixed next = by_other t (returns u y z row r) tt mixed next
  by_step t (lends q words get order out row after) mixed next = by_other t (lends q words get order out row after) tt mixed next
  by_step t (stores q words g is) mixed next = by_other t (stores q words g is) tt mixed next
  by_step t (mends at row) mixed next = by_other t (mends at row) tt mixed next
  by_step t (begins at row alike) mixed next = by_other t (begins at row alike) tt mixed next
  by_step t (unlinks at row) mixed next = by_other t (unlinks at row) tt mixed next
  by_step t (narrows member near row are fewer) mixed next = by_other t (narrows member near row are fewer) tt mixed next
  by_step t (goes e y d _ back is) mixed next = by_other t (goes e y d t back is) tt mixed next

pub driver_keeps_inward : DriverKeepsInward
driver_keeps_inward fixed x o v timely puts w k =
    let n : IsMixedNext k.standing w (driver_next w) = driver_tells_step k.standing w k.piped.mixed in
    by_step fixed x o v timely k.standing k.lines k.heads puts w k.piped k.pays k.behind k.inward n.standing n.step n.mixed
    (driver_keeps_telling k.standing k.lines w n.standing n.step k.piped.mixed n.mixed k.piped.telling k.piped.going)

pub command_keeps_inward : CommandKeepsInward
command_keeps_inward fixed x o v timely puts w line cmd fits declares spotted one bytes room k = record {
  standing = k.standing;
  lines = k.lines;
  heads = k.heads;
  piped = commanded_piped fixed x k.standing k.lines k.heads w k.piped line cmd fits declares room;
  pays = commanded_pays fixed x k.standing k.lines k.heads puts w k.piped k.pays line cmd fits declares bytes room;
  behind = commanded_behind fixed x o k.standing k.lines k.heads puts w k.piped k.pays k.behind line cmd fits declares spotted room;
  inward = commanded_inward fixed x o v timely k.standing k.lines k.heads puts w k.piped k.pays k.behind k.inward line cmd fits declares
      one room;
}
