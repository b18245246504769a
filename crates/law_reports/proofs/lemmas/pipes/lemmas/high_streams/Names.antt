-- Each script that a text spells has its names, and so has the one with a keyboard behind a hub beside a device at high speed.
use Rattle.std.proofs.Common.{◌≡◌, ℕ, zero, suc, slice_get, Option, Some, None, ap, refl, sym, ◌∙◌, arith}
use Rattle.std.specs.List.{AllByRecursion}
use Rattle.std.proofs.lemmas.Bool.{false≢true, eq-eqb}
use Rattle.law_common.proofs.Lists.{nth_all}
use Rattle.usb_base.specs.declared.packets.EpKind.TheVariants as kinds
use Rattle.script_types.specs.declared.devices.DeviceText.{DeviceText}
use Rattle.script_fits.specs.Fits.{IsFit}
use Rattle.script_fits.proofs.Texts.{spelled_fits}
use Rattle.bus_wire.specs.Bus.{fixed_of, opening_bus}
use Rattle.bus_wire.specs.declared.seats.Owner.TheVariants as owners
use Rattle.law_scripts.specs.byte_answers.Bytes.{IsByteScript}
use Rattle.law_devices.specs.opening_senders.Own.{HasOwnDevices}
use Rattle.law_devices.proofs.Owning.{devices_have_addresses_of_their_own}
use Rattle.law_opened.specs.Samples.{key_name, sink_name, board_name, beside_split}
use Rattle.law_opened.proofs.Opened.{texts_open_once, texts_open_fit}
use Rattle.law_opened.proofs.Sampling.{opens_once, opens_fit}
use Rattle.law_world.specs.streams.taken_reports.Seats.{IsSeatedBus}
use Rattle.law_world.proofs.lemmas.streams.lemmas.taken_reports.Seating.{text_is_seated, opening_apart}
use Rattle.law_world.specs.memory.PlacedLaws.{FitsMixed}
use Rattle.law_world.specs.memory.Samples.{IsMixedScript}
use Rattle.law_reports.specs.pipes.high_streams.Names.{HasItsNames, TextsHaveNames}

pub texts_have_names : TextsHaveNames
texts_have_names text s spelled = record {
  fit = spelled_fits text s spelled;
  own = devices_have_addresses_of_their_own text s spelled;
  once = texts_open_once text s spelled;
  ways = texts_open_fit text s spelled;
  seated = text_is_seated text s spelled;
}

-- ---- a script

beside_fit : IsFit beside_split
beside_fit = record {
  least = omega arith;
  most = omega arith;
  whole_pages = refl;
  devices = refl;
  hubs = refl;
  rooms = ((omega arith, (omega arith, tt)), ((omega arith, tt), tt));
  lines = (
    (omega arith, omega arith, record { size = refl; pace = refl; below = refl; translator = omega arith }),
    (
      (omega arith, omega arith, record { size = refl; pace = refl; below = refl; translator = omega arith }),
      (
        (omega arith, omega arith, record { size = refl; pace = refl; below = refl; translator = omega arith }),
        ((omega arith, omega arith), ((omega arith, omega arith), ((omega arith, omega arith), (tt, tt)))),
      ),
    ),
  );
}

beside_bytes : IsByteScript beside_split
beside_bytes = record {
  devices = (
    (((omega arith, (omega arith, tt)), tt), (tt, tt)),
    ((((omega arith, (omega arith, tt)), tt), tt), tt),
  );
  lines = (tt, (tt, (tt, (tt, ((omega arith, tt), (tt, (tt, tt)))))));
}

beside_opens : FitsMixed beside_split
beside_opens = (
  record { numbers = record { addr = omega arith; num = omega arith; hub = omega arith }; kind = tt },
  (
    record { numbers = record { addr = omega arith; num = omega arith; hub = omega arith }; kind = tt },
    (
      record { numbers = record { addr = omega arith; num = omega arith; hub = omega arith }; kind = tt },
      (tt, (tt, (tt, (tt, tt)))),
    ),
  ),
)

pub beside_mixed : IsMixedScript beside_split
beside_mixed = record { fits = beside_fit; bytes = beside_bytes; opens = beside_opens }

-- ---- its devices

abbrev address_in : Option DeviceText → ℕ
address_in None = 0
address_in (Some d) = d.addr

no_more : (i : ℕ) (d : DeviceText) → slice_get beside_split.devices (suc (suc i)) ≡ Some d → ⊥
no_more i d here = cc

each_apart : (i j : ℕ) (d e : DeviceText) → slice_get beside_split.devices i ≡ Some d → slice_get beside_split.devices j ≡ Some e
    → d.addr ≡ e.addr → i ≡ j
each_apart zero zero d e one two same = refl
each_apart zero (suc zero) d e one two same = absurd (false≢true (eq-eqb 2 3 (ap address_in one ∙ same ∙ sym (ap address_in two))))
each_apart zero (suc (suc j)) d e one two same = absurd (no_more j e two)
each_apart (suc zero) zero d e one two same = absurd (false≢true (eq-eqb 3 2 (ap address_in one ∙ same ∙ sym (ap address_in two))))
each_apart (suc zero) (suc zero) d e one two same = refl
each_apart (suc zero) (suc (suc j)) d e one two same = absurd (no_more j e two)
each_apart (suc (suc i)) j d e one two same = absurd (no_more i d one)

beside_own : HasOwnDevices beside_split
beside_own = record {
  own = λ place d here.
      nth_all (λ z. AllByRecursion (λ text. text.desc.name.addr ≡ z.addr) z.eps) beside_split.devices place d
      ((refl, (refl, tt)), ((refl, tt), tt)) here;
  apart = each_apart;
}

beside_seated : IsSeatedBus beside_split (fixed_of beside_split) (opening_bus beside_split)
beside_seated = record {
  seats = (
    (λ moves. record {
      place = 1;
      seat = record { name = key_name; kind = kinds.Interrupt; owner = owners.High 0 };
      here = refl;
      name = refl;
      kind = refl;
    }),
    (
      (λ moves. record {
        place = 2;
        seat = record { name = sink_name; kind = kinds.Bulk; owner = owners.High 0 };
        here = refl;
        name = refl;
        kind = refl;
      }),
      (
        (λ moves. record {
          place = 3;
          seat = record { name = board_name; kind = kinds.Interrupt; owner = owners.Below 1 9 1 0 };
          here = refl;
          name = refl;
          kind = refl;
        }),
        (tt, (tt, (tt, (tt, tt)))),
      ),
    ),
  );
  apart = opening_apart beside_split beside_own;
}

pub beside_names : HasItsNames beside_split
beside_names = record { fit = beside_fit; own = beside_own; once = opens_once; ways = opens_fit; seated = beside_seated }
