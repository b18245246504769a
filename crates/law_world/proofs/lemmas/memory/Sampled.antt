-- The script with a keyboard and a disk meets the premises of the laws, and its open is accepted.
use Rattle.std.proofs.Common.{◌≡◌, ℕ, suc, List, ◌∷◌, Result, Ok, ap, refl, arith}
use Rattle.usb_base.specs.declared.commands.Cmd.{Cmd}
use Rattle.usb_base.specs.declared.commands.Cmd.TheVariants as commands
use Rattle.usb_base.specs.declared.reports.OfferError.{OfferError}
use Rattle.script_fits.specs.Fits.{IsFit}
use Rattle.law_scripts.specs.byte_answers.Bytes.{IsByteScript}
use Rattle.bandwidth.specs.declared.placements.Placement.{Placement}
use Rattle.bandwidth.specs.declared.placements.Refused.{Refused}
use Rattle.drv_table.specs.Accepting.{Offered}
use Rattle.drv_table.specs.Offers.{offered, planned_open}
use Rattle.bus_wire.specs.Bus.{Fixed, fixed_of}
use Rattle.bus_world.specs.World.{World, name_in, commanded_by}
use Rattle.bus_world.specs.Opening.{opening_world}
use Rattle.bus_world.specs.Orders.{Left, Command, OrderedWorld, at_place, orders_of, ticks}
use Rattle.bus_world.specs.Budgets.{moment}
use Rattle.law_world.specs.memory.PlacedLaws.{FitsMixed}
use Rattle.law_world.specs.memory.Samples.{keyboard, keyboard_place, keyboard_and_disk, after_the_open, typed_at, IsMixedScript}
use Rattle.law_world.proofs.lemmas.memory.SampledPlace.{plans_first}

-- ---- the premises

two_fit : IsFit keyboard_and_disk
two_fit = record {
  least = omega arith;
  most = omega arith;
  whole_pages = refl;
  devices = refl;
  hubs = refl;
  rooms = ((omega arith, tt), ((omega arith, tt), tt));
  lines = (
    (omega arith, omega arith, record { size = refl; pace = refl; below = refl; translator = omega arith }),
    (
      tt,
      (
        (omega arith, omega arith, record { size = refl; pace = refl; below = refl; translator = omega arith }),
        (tt, ((omega arith, omega arith), (tt, (tt, tt)))),
      ),
    ),
  );
}

two_bytes : IsByteScript keyboard_and_disk
two_bytes = record {
  devices = ((((omega arith, (omega arith, (omega arith, (omega arith, (omega arith, (omega arith, (omega arith, (omega arith, tt)))))))), tt), tt), ((tt, tt), tt));
  lines = (tt, (tt, (tt, (tt, (tt, (tt, (tt, tt)))))));
}

two_open : FitsMixed keyboard_and_disk
two_open = (
  record { numbers = record { addr = omega arith; num = omega arith; hub = omega arith }; kind = tt },
  (tt, (record { numbers = record { addr = omega arith; num = omega arith; hub = omega arith }; kind = tt }, (tt, (tt, (tt, (tt, tt)))))),
)

pub two_are_mixed : IsMixedScript keyboard_and_disk
two_are_mixed = record { fits = two_fit; bytes = two_bytes; opens = two_open }

-- ---- its open

answered : (fixed : Fixed) (w : World) (n : ℕ) (cmd : Cmd) (rest : List Left) (r : Result Offered OfferError) (k : ℕ) → offered w.driver w.memory cmd ≡ r
    → ticks fixed (at_place w (Command n cmd ∷ rest)) (suc k) ≡ ticks fixed (at_place (commanded_by w n (name_in cmd) r) rest) k
unfolding ticks
answered fixed w n cmd rest r k is = ap (λ (x : Result Offered OfferError). ticks fixed (at_place (commanded_by w n (name_in cmd) x) rest) k) is

accepted : offered (opening_world keyboard_and_disk).driver (opening_world keyboard_and_disk).memory (commands.OpenEp keyboard)
    ≡ planned_open (opening_world keyboard_and_disk).driver (opening_world keyboard_and_disk).memory keyboard (Ok keyboard_place)
accepted =
    ap (λ (a : Result Placement Refused). planned_open (opening_world keyboard_and_disk).driver (opening_world keyboard_and_disk).memory keyboard a) plans_first

pub typed_moment : (k : ℕ) → (moment keyboard_and_disk (suc k)).world ≡ typed_at k
typed_moment k =
    ap (λ (p : OrderedWorld). p.world)
    (answered (fixed_of keyboard_and_disk) (opening_world keyboard_and_disk) 6 (commands.OpenEp keyboard) (orders_of after_the_open) _ k accepted)
