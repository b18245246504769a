-- At each moment of each script the lines of a cancelled control endpoint tell so, but for the one of its cancel.
use Rattle.std.proofs.Common.{ℕ}
use Rattle.script_types.specs.declared.scripts.Script.{Script}
use Rattle.script_fits.proofs.Texts.{spelled_fits}
use Rattle.bus_wire.specs.Bus.{fixed_of}
use Rattle.bus_world.specs.Opening.{opening_world}
use Rattle.bus_world.specs.World.{World}
use Rattle.claims_report.specs.Requests.{Request}
use Rattle.claims_world.specs.Requests.{Windows, no_windows, no_asks}
use Rattle.law_scripts.specs.byte_answers.Bytes.{IsByteScript}
use Rattle.law_scripts.proofs.lemmas.script_bytes.Texts.{a_text_spells_bytes}
use Rattle.law_reports.specs.pipes.Declared.{sides_of as pipes_of}
use Rattle.law_reports.specs.requests.Asking.{Sides}
use Rattle.law_reports.specs.requests.CancelledTold.{CancelledAreTold, TextsTellOfCancelled}
use Rattle.law_reports.specs.requests.HighAsking.{HasHighAsks}
use Rattle.law_reports.specs.requests.HighGiven.{high_sides_of}
use Rattle.law_reports.proofs.lemmas.requests.lemmas.world_requests.Along.{holds_with_windows}
use Rattle.law_reports.proofs.lemmas.requests.CancelledCommands.{command_keeps_cancelled}
use Rattle.law_reports.proofs.lemmas.requests.CancelledTold.{driver_keeps_cancelled, controller_keeps_cancelled}
use Rattle.law_reports.proofs.lemmas.requests.HighController.{controller_keeps_high_asks}
use Rattle.law_reports.proofs.lemmas.requests.HighMoments.{CanHigh, high_lines}
use Rattle.law_reports.proofs.lemmas.requests.HighOpening.{new_world_high_asks}
use Rattle.law_reports.proofs.lemmas.requests.HighWorld.{driver_keeps_high_asks, command_keeps_high_asks}

record StandTold (s : Script) (w : World) (v : Windows) (asks : ℕ → Request) : Type 0 where
  high : HasHighAsks (high_sides_of s) (fixed_of s) (pipes_of s) v asks w
  told : CancelledAreTold (high_sides_of s) w v asks

-- before the first line there is no endpoint
none_cancelled : (s : Script) → CancelledAreTold (high_sides_of s) (opening_world s) no_windows no_asks
none_cancelled s = record { each = λ e x here. absurd cc }

pub texts_tell_of_cancelled : TextsTellOfCancelled
texts_tell_of_cancelled text s spelled n =
    let g : Sides = high_sides_of s in
    let bytes : IsByteScript s = a_text_spells_bytes text s spelled in
    (holds_with_windows (CanHigh s) (StandTold s) s (spelled_fits text s spelled) (high_lines text s spelled)
    (record {
      high = new_world_high_asks s g (spelled_fits text s spelled) bytes (λ addr num c first. first);
      told = none_cancelled s;
    })
    (record {
      driver = λ w v asks h. record {
        high = driver_keeps_high_asks g (fixed_of s) (pipes_of s) v asks w h.high;
        told = driver_keeps_cancelled g (fixed_of s) (pipes_of s) v asks w h.high h.told;
      };
      controller = λ w v asks h.
          let new = controller_keeps_high_asks g (fixed_of s) (pipes_of s) v asks w (λ speed on. on) h.high in
          record { high = new; told = controller_keeps_cancelled g (fixed_of s) (pipes_of s) v asks w h.high new h.told };
      command = λ w line cmd v asks can room h.
          let new = command_keeps_high_asks g (fixed_of s) (pipes_of s) v asks w line cmd can.fits can.declares can.suits can.bytes room
          h.high in
          record { high = new; told = command_keeps_cancelled g (fixed_of s) (pipes_of s) v asks w line cmd h.high new h.told };
    }) n).told
