-- A loss below a hub leaves the high-speed bus whole, a loss above doesn't, nor does a NYET of an interrupt endpoint; and a keyboard below
-- a hub may use up its errors.
use Rattle.std.proofs.Common.{◌≡◌, ℕ, zero, suc, false, [], slice_get, Some, ap, refl, sym, ◌∙◌}
use Rattle.std.proofs.lemmas.Bool.{false≢true, true≢false}
use Rattle.std.proofs.lemmas.Option.{same_Some}
use Rattle.usb_base.specs.declared.endpoints.EndCause.TheVariants as causes
use Rattle.usb_base.specs.declared.reports.Report.{Report}
use Rattle.usb_base.specs.declared.reports.What.TheVariants as lines
use Rattle.drv_table.specs.declared.content.Endpoint.{Endpoint}
use Rattle.drv_table.specs.Offers.{new_endpoint}
use Rattle.drv_table.specs.Words.{is_high}
use Rattle.claims_world.specs.Misses.{IsLineOf}
use Rattle.claims_world.specs.Quiet.{IsHeardAbove, ErrorsAreBelow}
use Rattle.law_world.specs.memory.Samples.{keyboard, disk}
use Rattle.law_reports.specs.quiet.HeardSamples.{lost_below, lost_above, answers_nyet, told_of}

pub below_is_whole : IsHeardAbove lost_below
below_is_whole = record {
  packets = ((λ above. absurd (true≢false above)), tt);
  handshakes = (((λ kind high. refl), ((λ kind high. refl), tt)), (((λ kind high. refl), tt), tt));
}

pub above_is_lost : IsHeardAbove lost_above → ⊥
above_is_lost k = false≢true (k.packets.0 refl)

pub nyet_is_none : IsHeardAbove answers_nyet → ⊥
nyet_is_none k = true≢false (k.handshakes.0.0 refl refl)

pub a_keyboard_fails : ErrorsAreBelow (told_of keyboard)
a_keyboard_fails zero line here is = record {
  number = 0;
  endpoint = new_endpoint keyboard 130 132;
  here = refl;
  name = ap (λ (v : Report). v.name) (sym (same_Some (record {
    name = keyboard.name;
    what = lines.Halt causes.Error;
    from = 0;
    len = 0;
  }) line here));
  so = refl;
}
a_keyboard_fails (suc i) line here is = absurd (none i here)
  where
    none : (j : ℕ) → slice_get [] j ≡ Some line → ⊥
    none zero e = cc
    none (suc j) e = cc

pub no_disk_fails : ErrorsAreBelow (told_of disk) → ⊥
no_disk_fails k = by (k 0 (record { name = disk.name; what = lines.Halt causes.Error; from = 0; len = 0 }) refl refl)
  where
    by : IsLineOf (told_of disk) (record { name = disk.name; what = lines.Halt causes.Error; from = 0; len = 0 })
        (λ x. is_high x.speed ≡ false) → ⊥
    by o = at o.number o.here
      where
        none : (j : ℕ) → slice_get [] j ≡ Some o.endpoint → ⊥
        none zero e = cc
        none (suc j) e = cc

        at : (n : ℕ) → slice_get (told_of disk).endpoints n ≡ Some o.endpoint → ⊥
        at zero there = true≢false (ap (λ (z : Endpoint). is_high z.desc.speed) (same_Some (new_endpoint disk 130 132) o.endpoint there)
            ∙ o.so)
        at (suc n) there = none n there
