-- The script with a microphone meets the premises of the laws, and its open is accepted.
use Rattle.std.proofs.Common.{◌≡◌, ℕ, suc, List, ◌∷◌, Result, Ok, ap, refl, arith}
use Rattle.usb_base.specs.declared.commands.Cmd.{Cmd}
use Rattle.usb_base.specs.declared.commands.Cmd.TheVariants as commands
use Rattle.usb_base.specs.declared.reports.OfferError.{OfferError}
use Rattle.script_fits.specs.Fits.{IsFit}
use Rattle.law_scripts.specs.byte_answers.Bytes.{IsByteScript}
use Rattle.drv_table.specs.Accepting.{Offered}
use Rattle.drv_table.specs.Offers.{offered, accepted_iso}
use Rattle.law_admission.specs.Worked.{each_microframe}
use Rattle.bus_wire.specs.Bus.{Fixed, fixed_of}
use Rattle.bus_world.specs.Rooms.{room_of_script}
use Rattle.bus_world.specs.World.{World, name_in, commanded_by}
use Rattle.bus_world.specs.Opening.{opening_world}
use Rattle.bus_world.specs.Orders.{Left, Command, OrderedWorld, at_place, orders_of, ticks}
use Rattle.bus_world.specs.Budgets.{moment}
use Rattle.claims_world.specs.Memory.{KeepsMemory}
use Rattle.law_world.specs.memory.PlacedLaws.{FitsMixed}
use Rattle.law_world.specs.memory.MicrophoneSamples.{microphone, one_microphone, after_the_open, heard_at}
use Rattle.law_world.proofs.lemmas.memory.Controller.{controller_keeps_mixed}
use Rattle.law_world.proofs.lemmas.memory.AtWork.{keeps_while_mixed}
use Rattle.law_world.proofs.lemmas.memory.Together.{scripts_stay_mixed}
use Rattle.law_world.proofs.lemmas.memory.MicrophonePlaced.{is_accepted}

-- ---- the premises

pub microphone_fits : IsFit one_microphone
microphone_fits = record {
  least = omega arith;
  most = omega arith;
  whole_pages = refl;
  devices = refl;
  hubs = refl;
  rooms = ((omega arith, tt), tt);
  lines = ((omega arith, omega arith, record { size = refl; pace = refl; below = refl; translator = omega arith }), (omega arith, (tt, (tt, tt))));
}

pub microphone_bytes : IsByteScript one_microphone
microphone_bytes = record { devices = ((tt, tt), tt); lines = (tt, (tt, (tt, (tt, tt)))) }

pub fits_mixed : FitsMixed one_microphone
fits_mixed = (record { numbers = record { addr = omega arith; num = omega arith; hub = omega arith }; kind = tt }, (tt, (tt, (tt, tt))))

pub its_memory_is_kept : KeepsMemory one_microphone
its_memory_is_kept = keeps_while_mixed controller_keeps_mixed one_microphone (scripts_stay_mixed one_microphone microphone_fits microphone_bytes fits_mixed)

-- ---- its open

answered : (fixed : Fixed) (w : World) (n : ℕ) (cmd : Cmd) (rest : List Left) (r : Result Offered OfferError) (k : ℕ) → offered w.driver w.memory cmd ≡ r
    → ticks fixed (at_place w (Command n cmd ∷ rest)) (suc k) ≡ ticks fixed (at_place (commanded_by w n (name_in cmd) r) rest) k
unfolding ticks
answered fixed w n cmd rest r k is = ap (λ (x : Result Offered OfferError). ticks fixed (at_place (commanded_by w n (name_in cmd) x) rest) k) is

accepted : offered (opening_world one_microphone).driver (opening_world one_microphone).memory (commands.OpenEp microphone)
    ≡ Ok (record { driver = accepted_iso (opening_world one_microphone).driver microphone each_microframe; memory = (opening_world one_microphone).memory })
accepted = is_accepted 2048 (room_of_script one_microphone) (opening_world one_microphone).memory (omega arith)

pub its_moments : (k : ℕ) → (moment one_microphone (suc k)).world ≡ heard_at k
its_moments k =
    ap (λ (p : OrderedWorld). p.world)
    (answered (fixed_of one_microphone) (opening_world one_microphone) 5 (commands.OpenEp microphone) (orders_of after_the_open) _ k accepted)
