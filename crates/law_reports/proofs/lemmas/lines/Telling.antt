-- Each moment of each script is told: a new world has nothing to tell, and each event and each command leaves it told.
use Rattle.std.proofs.Common.{◌≡◌, ℕ, true, List, [], ◌∷◌, ◌++◌, ap, refl, ◌∙◌}
use Rattle.std.specs.List.{concat}
use Rattle.std.proofs.lemmas.List.{append-nil}
use Rattle.std.proofs.lemmas.List.Folds.{concat-append}
use Rattle.law_common.proofs.Lists.{nothing_at}
use Rattle.law_world.proofs.Common.{lines_can}
use Rattle.usb_base.specs.declared.commands.Cmd.{Cmd}
use Rattle.script_types.specs.declared.scripts.Script.{Script}
use Rattle.script_fits.proofs.Texts.{spelled_fits}
use Rattle.bus_wire.specs.Bus.{Fixed, fixed_of}
use Rattle.drv_table.specs.DriverContent.{DriverContent}
use Rattle.drv_table.specs.Offers.{offered, IsOffered}
use Rattle.drv_table.specs.Opening.{opening}
use Rattle.bus_world.specs.Opening.{opening_world}
use Rattle.bus_world.specs.Rooms.{room_of_script}
use Rattle.claims_base.specs.Controller.{opening_base}
use Rattle.bus_world.specs.World.{World, controller_parts, driver_next, controller_next, name_in, commanded}
use Rattle.law_descriptors.specs.Meeting.{met}
use Rattle.law_descriptors.specs.PartLaws.{IsDescribing}
use Rattle.law_descriptors.specs.queue_events.Streams.{bytes_of_both}
use Rattle.law_descriptors.proofs.lemmas.queue_events.Streams.{both_streams}
use Rattle.law_driver.specs.queued_drivers.Queued.{queued}
use Rattle.law_queues.proofs.lemmas.harvest_laws.Standing.{new_is_told, alike_is_told}
use Rattle.law_scripts.proofs.lemmas.script_bytes.Texts.{a_text_spells_bytes}
use Rattle.law_world.specs.steps.Streaming.{begins_by, transacts_by, wired}
use Rattle.law_world.specs.steps.receiving_runs.Runs.{IsKeptBy}
use Rattle.law_world.proofs.lemmas.steps.lemmas.receiving_runs.Runs.{holds_throughout}
use Rattle.law_world.specs.streams.Feeding.{there_of}
use Rattle.law_world.proofs.lemmas.streams.Told.{HasBulkThere, bulk_there}
use Rattle.law_world.specs.memory.Mixed.{Standing, IsMixedAt}
use Rattle.law_world.specs.memory.Opens.{OpensMixed}
use Rattle.law_world.specs.memory.Steps.{IsEventOf, standing_then, IsMixedControlled, IsMixedNext}
use Rattle.law_world.proofs.lemmas.memory.CommandKeeping.{command_keeps_standing}
use Rattle.law_world.proofs.lemmas.memory.Controller.{controller_tells_event}
use Rattle.law_world.proofs.lemmas.memory.Driving.{driver_tells_step}
use Rattle.law_world.proofs.lemmas.memory.FittingTexts.{texts_open_fitting}
use Rattle.law_world.proofs.lemmas.memory.Opening.{new_world_is_mixed}
use Rattle.law_world.proofs.lemmas.memory.Texts.{texts_fit}
use Rattle.law_world.proofs.lemmas.memory.Together.{lines_fit}
use Rattle.law_reports.specs.lines.Lined.{in_hand, Lines, IsTelling}
use Rattle.law_reports.specs.lines.TellingLaws.{EventOfQueues, IsTellingNext, IsToldWorld, NewWorldIsTold, ScriptsAreTold, TextsAreTold}
use Rattle.law_reports.proofs.lemmas.lines.Commanding.{command_keeps_telling}
use Rattle.law_reports.proofs.lemmas.lines.CommandedGoing.{command_goes}
use Rattle.law_reports.proofs.lemmas.lines.Driven.{driver_keeps_telling, rows_keep_iso_going}
use Rattle.law_reports.proofs.lemmas.lines.ToldEvents.{controller_keeps_telling}

-- ---- before the first line

abbrev no_lines : Lines
no_lines = record { acc = λ n. []; reported = λ n. [] }

new_telling : (s : Script) (t : Standing) → IsTelling t no_lines (opening_world s)
new_telling s t =
    let d : DriverContent = (opening s.words (room_of_script s)).driver in
    let none : (n : ℕ) → there_of (queued (opening_world s).driver) n ≡ true → ⊥ =
    λ n on. let b : HasBulkThere (queued (opening_world s).driver) n = bulk_there (queued (opening_world s).driver) n on in
    nothing_at b.has.number b.has.endpoint b.has.here in
    record {
      told = alike_is_told d (queued (opening_world s).driver) (in_hand t) t.parts (λ n. [])
          (record { reports = refl; store = refl; endpoints = refl; transfers = refl; notes = refl })
          (λ x there. record { linked = there.linked; kept = there.kept }) (λ x is. is)
          (new_is_told s.words (room_of_script s) (in_hand t) t.parts (λ n. []));
      moved = λ n on. absurd (none n on);
      sound = λ n on. absurd (none n on);
    }

pub new_world_is_told : NewWorldIsTold
new_world_is_told s fit bytes =
    let k = new_world_is_mixed s fit bytes in
    record {
      standing = k.standing;
      lines = no_lines;
      mixed = k.mixed;
      telling = new_telling s k.standing;
      going = λ e x here iso kept. absurd (nothing_at e x here);
    }

-- ---- each event

event_of : (fixed : Fixed) (s : Standing) (w : World) → IsMixedAt s w → (a : IsEventOf fixed s w) → EventOfQueues fixed s w a
event_of fixed s w k a =
    let f = k.now.framed in
    let describing : IsDescribing w.driver s.descs s.parts =
    record { owners = f.place.sound.owners; driven = f.driven; described = f.described } in
    both_streams begins_by transacts_by opening_base s.member (met w.driver s.recent) w.driver s.descs s.parts s.hand s.frame
    (controller_parts w)
    (wired fixed w) (wired fixed (controller_next fixed w)) a.now a.later a.frame_later describing f.runs a.effect

driver_told : (w : World) → IsToldWorld w → IsToldWorld (driver_next w)
driver_told w k =
    let n : IsMixedNext k.standing w (driver_next w) = driver_tells_step k.standing w k.mixed in
    let t : IsTellingNext k.standing k.lines w (driver_next w) n.standing n.step =
    driver_keeps_telling k.standing k.lines w n.standing n.step k.mixed n.mixed k.telling k.going in
    record {
      standing = n.standing;
      lines = t.lines;
      mixed = n.mixed;
      telling = t.telling;
      going = rows_keep_iso_going k.standing k.lines w k.mixed k.telling k.going;
    }

controller_told : (fixed : Fixed) (w : World) → IsToldWorld w → IsToldWorld (controller_next fixed w)
controller_told fixed w k =
    let c : IsMixedControlled fixed k.standing w = controller_tells_event fixed k.standing w k.mixed in
    let z : EventOfQueues fixed k.standing w c.event = event_of fixed k.standing w k.mixed c.event in
    let acc : ℕ → List (List ℕ) = λ n. k.lines.acc n ++ bytes_of_both n z ∷ [] in
    record {
      standing = standing_then k.standing w c.event;
      lines = record { acc = acc; reported = k.lines.reported };
      mixed = c.mixed;
      telling = controller_keeps_telling fixed k.standing k.lines w k.mixed c z acc
          (λ n. concat-append (k.lines.acc n) (bytes_of_both n z ∷ [])
          ∙ ap (λ (bs : List ℕ). concat (k.lines.acc n) ++ bs) (append-nil (bytes_of_both n z))) k.telling;
      going = k.going;
    }

command_told : (w : World) (line : ℕ) (cmd : Cmd) → OpensMixed cmd → IsOffered w.driver.room cmd → IsToldWorld w
    → IsToldWorld (commanded w line cmd)
command_told w line cmd fits room k = record {
  standing = k.standing;
  lines = k.lines;
  mixed = command_keeps_standing k.standing w line cmd fits room k.mixed;
  telling = command_keeps_telling k.standing k.lines w line cmd fits room k.mixed k.telling;
  going = command_goes w.driver (in_hand k.standing) k.standing.parts k.lines.reported k.going k.telling.told w line (name_in cmd) cmd
      (offered w.driver w.memory cmd) refl refl;
}

-- ---- each moment

is_kept : (s : Script) → IsKeptBy (fixed_of s) OpensMixed IsToldWorld
is_kept s = record {
  driver = λ w k. driver_told w k;
  controller = λ w k. controller_told (fixed_of s) w k;
  command = λ w line cmd can room k. command_told w line cmd can room k;
}

pub scripts_are_told : ScriptsAreTold
scripts_are_told s fit bytes opens k =
    holds_throughout OpensMixed IsToldWorld s fit (lines_can s.lines opens) (new_world_is_told s fit bytes) (is_kept s) k

pub texts_are_told : TextsAreTold
texts_are_told text s spelled =
    scripts_are_told s (spelled_fits text s spelled) (a_text_spells_bytes text s spelled)
    (lines_fit s.lines (texts_fit text s spelled) (texts_open_fitting text s spelled))
