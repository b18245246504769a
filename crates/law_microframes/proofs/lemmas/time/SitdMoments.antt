-- The siTDs stand at each moment of each script.
use Rattle.std.proofs.Common.{◌≡◌, ℕ, ◌*◌, ◌≤◌, true, List, [], ◌∷◌, slice_get, Some, Option, Result, Ok, Err, refl, ap, sym, subst, ◌∙◌, arith}
use Rattle.std.specs.List.{AllByRecursion}
use Rattle.law_driver.proofs.Common.{iso_frames}
use Rattle.usb_base.specs.declared.commands.Cmd.{Cmd}
use Rattle.usb_base.specs.declared.commands.Cmd.TheVariants as commands
use Rattle.usb_base.specs.declared.endpoints.EpDesc.{EpDesc}
use Rattle.usb_base.specs.declared.endpoints.EpName.{EpName}
use Rattle.usb_base.specs.declared.packets.Speed.{Speed}
use Rattle.usb_base.specs.declared.packets.Speed.TheVariants as speeds
use Rattle.usb_base.specs.declared.reports.OfferError.{OfferError}
use Rattle.script_types.specs.declared.scripts.Line.{Line}
use Rattle.script_types.specs.declared.scripts.Line.TheVariants as lines
use Rattle.script_types.specs.declared.scripts.Script.{Script}
use Rattle.bandwidth.specs.declared.placements.Placement.{Placement}
use Rattle.bandwidth.specs.Placements.{is_classic, most_multi}
use Rattle.drv_periodic_table.specs.Periodic.{is_periodic}
use Rattle.drv_table.specs.declared.content.Endpoint.{Endpoint}
use Rattle.drv_table.specs.declared.content.Transfer.{Transfer}
use Rattle.drv_table.specs.DriverContent.{DriverContent}
use Rattle.drv_table.specs.Accepting.{Offered}
use Rattle.drv_table.specs.Offers.{offered, IsOffered}
use Rattle.drv_table.specs.Rows.{driver_row}
use Rattle.law_world.specs.steps.receiving_runs.Runs.{KindOfLine, IsKeptBy}
use Rattle.law_world.proofs.lemmas.steps.lemmas.receiving_runs.Runs.{holds_throughout}
use Rattle.law_world.specs.memory.Mixed.{IsMixedWorld}
use Rattle.law_world.specs.memory.Laws.{OpensMixed}
use Rattle.law_world.specs.memory.PlacedLaws.{MixedLine}
use Rattle.law_world.proofs.lemmas.memory.Opening.{new_world_is_mixed}
use Rattle.law_world.proofs.lemmas.memory.Controller.{controller_keeps_mixed}
use Rattle.law_world.proofs.lemmas.memory.Driving.{driver_keeps_mixed}
use Rattle.law_world.proofs.lemmas.memory.CommandKeeping.{command_keeps_mixed}
use Rattle.law_world.proofs.lemmas.memory.lemmas.framed_memory.EndpointFacts.{after_row, IsOfOpened, after_command}
use Rattle.bus_wire.specs.Bus.{fixed_of}
use Rattle.bus_world.specs.World.{World, driver_parts, name_in, commanded, commanded_by}
use Rattle.law_microframes.specs.time.SitdFields.{SitdsStand, FitsSlotsOf, FitsSlots, OpensFitSlots, ScriptsKeepSitds}
use Rattle.law_microframes.proofs.lemmas.time.SitdWorlds.{controller_keeps_sitds}
use Rattle.law_microframes.proofs.lemmas.time.SitdDriven.{driver_keeps_sitds}
use Rattle.law_microframes.proofs.lemmas.time.SitdCommands.{CanHaveSlots, other_keeps_sitds, iso_keeps_sitds}

-- ---- the endpoints

record IsSlotted (s : Script) (x : EpDesc) : Type 0 where
  some : is_periodic x.kind ≡ true → 1 ≤ x.multi
  most : is_periodic x.kind ≡ true → x.multi ≤ most_multi x.speed
  fits : FitsSlots s x

abbrev IsSlottedAt : Script → EpDesc → Option Placement → Type 0
IsSlottedAt s x o = IsSlotted s x

abbrev AreSlotted : Script → DriverContent → Type 0
AreSlotted s d = (e : ℕ) (x : Endpoint) → slice_get d.endpoints e ≡ Some x → IsSlotted s x.desc

one_transaction : (v : Speed) → is_classic v ≡ true → most_multi v ≡ 1
one_transaction speeds.High is = absurd (cc)
one_transaction _ is = refl

-- ---- the commands

-- a line of the script
record Can (s : Script) (cmd : Cmd) : Type 0 where
  mixed : OpensMixed cmd
  opens : OpensFitSlots s (lines.Command cmd)
  asks : (x : EpDesc) → FitsSlots s x → FitsSlotsOf x (lines.Command cmd)

module _ (s : Script) where
  line_can : (l : Line) → MixedLine l → OpensFitSlots s l → ((x : EpDesc) → FitsSlots s x → FitsSlotsOf x l) → KindOfLine (Can s) l
  line_can (lines.Command cmd) fits opens asks = record { mixed = fits; opens = opens; asks = asks }
  line_can _ fits opens asks = tt

  lines_can : (xs : List (ℕ × Line)) → AllByRecursion (λ x. MixedLine x.1) xs → AllByRecursion (λ x. OpensFitSlots s x.1) xs
      → ((x : EpDesc) → FitsSlots s x → AllByRecursion (λ l. FitsSlotsOf x l.1) xs) → AllByRecursion (λ x. KindOfLine (Can s) x.1) xs
  lines_can [] fits opens asks = tt
  lines_can (x ∷ xs) fits opens asks = (
    line_can x.1 fits.0 opens.0 (λ y k. (asks y k).0),
    lines_can xs fits.1 opens.1
        (λ y k. (asks y k).1),
  )

  opened : (w : World) (cmd : Cmd) → Can s cmd → IsOffered w.driver.room cmd → IsOfOpened (IsSlottedAt s) cmd
  opened w (commands.OpenEp x) can room = λ o. record {
    some = λ on. (room.3 on).some_multi;
    most = λ on. (room.3 on).multi;
    fits =
        can.opens;
  }
  opened w _ can room = tt

  command_slotted : (w : World) (n : ℕ) (cmd : Cmd) → Can s cmd → IsOffered w.driver.room cmd → AreSlotted s w.driver
      → AreSlotted s (commanded w n cmd).driver
  command_slotted w n cmd can room k = by (offered w.driver w.memory cmd) refl
    where
      by : (r : Result Offered OfferError) → offered w.driver w.memory cmd ≡ r → AreSlotted s (commanded_by w n (name_in cmd) r).driver
      by (Err why) is = k
      by (Ok o) is = after_command (IsSlottedAt s) w.driver w.memory cmd o (opened w cmd can room) k is

  can_have : (w : World) (cmd : Cmd) (name : EpName) (count len seed : ℕ) → cmd ≡ commands.Iso name count len seed → Can s cmd
      → AreSlotted s w.driver → CanHaveSlots w.driver name len
  can_have w cmd name count len seed is can k e v here iso classic named =
      let x = k e v here in
      let periodic = iso_frames v.desc.kind iso in
      let one = one_transaction v.desc.speed classic in
      let some = x.some periodic in
      let most = x.most periodic in
      let asks : FitsSlotsOf v.desc (lines.Command (commands.Iso name count len seed)) =
      subst (λ (c : Cmd). FitsSlotsOf v.desc (lines.Command c)) is (can.asks v.desc x.fits) in
      (omega (arith, some, most, one), asks iso named)

  abbrev Stands : World → Type 0
  Stands w = SitdsStand w.driver w.memory w.control

  command_stands : (w : World) (n : ℕ) (cmd : Cmd) → Can s cmd → IsMixedWorld w → AreSlotted s w.driver → Stands w
      → Stands (commanded w n cmd)
  command_stands w n (commands.Iso name count len seed) can mixed k old =
      iso_keeps_sitds w n name count len seed mixed (can_have w (commands.Iso name count len seed) name count len seed refl can k) old
  command_stands w n (commands.OpenEp x) can mixed k old = other_keeps_sitds w n (commands.OpenEp x) tt mixed old
  command_stands w n (commands.Get name len by) can mixed k old = other_keeps_sitds w n (commands.Get name len by) tt mixed old
  command_stands w n (commands.Put name bytes by) can mixed k old = other_keeps_sitds w n (commands.Put name bytes by) tt mixed old
  command_stands w n (commands.Control name setup bytes) can mixed k old =
      other_keeps_sitds w n (commands.Control name setup bytes) tt mixed old
  command_stands w n (commands.Cancel name) can mixed k old = other_keeps_sitds w n (commands.Cancel name) tt mixed old
  command_stands w n (commands.Clear name) can mixed k old = other_keeps_sitds w n (commands.Clear name) tt mixed old
  command_stands w n (commands.Reset port) can mixed k old = other_keeps_sitds w n (commands.Reset port) tt mixed old
  command_stands w n (commands.Give port) can mixed k old = other_keeps_sitds w n (commands.Give port) tt mixed old
  command_stands w n (commands.DiskRead addr lba count) can mixed k old =
      other_keeps_sitds w n (commands.DiskRead addr lba count) tt mixed old
  command_stands w n (commands.DiskWrite addr lba bytes) can mixed k old =
      other_keeps_sitds w n (commands.DiskWrite addr lba bytes) tt mixed old
  command_stands w n (commands.Revive addr) can mixed k old = other_keeps_sitds w n (commands.Revive addr) tt mixed old

  -- ---- along a run

  record IsMixedWithSitds (w : World) : Type 0 where
    mixed : IsMixedWorld w
    slotted : AreSlotted s w.driver
    sitds : SitdsStand w.driver w.memory w.control

  is_kept : IsKeptBy (fixed_of s) (Can s) IsMixedWithSitds
  is_kept = record {
    driver = λ w k. record {
      mixed = driver_keeps_mixed w k.mixed;
      slotted = after_row (IsSlottedAt s) (driver_row (driver_parts w)) (driver_parts w) k.slotted;
      sitds = driver_keeps_sitds w k.mixed k.sitds;
    };
    controller = λ w k. record {
      mixed = controller_keeps_mixed (fixed_of s) w k.mixed;
      slotted = k.slotted;
      sitds =
          controller_keeps_sitds (fixed_of s) w k.mixed k.sitds;
    };
    command = λ w line cmd can room k. record {
      mixed = command_keeps_mixed w line cmd can.mixed room k.mixed;
      slotted = command_slotted w line cmd can room k.slotted;
      sitds = command_stands w line cmd can k.mixed k.slotted k.sitds;
    };
  }

pub scripts_keep_sitds : ScriptsKeepSitds
scripts_keep_sitds s fit bytes opens slots k =
    (holds_throughout (Can s) (IsMixedWithSitds s) s fit (lines_can s s.lines opens slots (λ x k. k))
    (record {
      mixed = new_world_is_mixed s fit bytes;
      slotted = λ e x there. absurd (cc);
      sitds = record { fields = λ i. absurd (none_there i.number i.transfer i.there); hand = λ i h on is at. absurd (none_there i.number i.transfer i.there) };
    })
    (is_kept s) k).sitds
  where
    none_there : (i : ℕ) (y : Transfer) → ◌≡◌ {A = Option Transfer} (slice_get [] i) (Some y) → ⊥
    none_there i y is = cc
