-- A keyboard may miss a microframe, and a disk at high speed may not.
use Rattle.std.proofs.Common.{◌≡◌, ℕ, zero, suc, false, [], slice_get, Some, ap, refl, sym, ◌∙◌}
use Rattle.std.proofs.lemmas.Bool.{true≢false}
use Rattle.std.proofs.lemmas.Option.{same_Some}
use Rattle.usb_base.specs.declared.reports.Report.{Report}
use Rattle.drv_table.specs.declared.content.Endpoint.{Endpoint}
use Rattle.drv_table.specs.Offers.{new_endpoint}
use Rattle.drv_table.specs.Words.{is_high}
use Rattle.law_world.specs.memory.Samples.{keyboard, disk}
use Rattle.claims_world.specs.Misses.{IsLineOf, MissesAreBelow}
use Rattle.law_reports.specs.quiet.Samples.{line_of, missed_of}

pub a_keyboard_misses : MissesAreBelow (missed_of keyboard)
a_keyboard_misses zero line here is = record {
  number = 0;
  endpoint = new_endpoint keyboard 130 132;
  here = refl;
  name = ap (λ (v : Report). v.name) (sym (same_Some (line_of keyboard) line here));
  so = refl;
}
a_keyboard_misses (suc i) line here is = absurd (none i here)
  where
    none : (j : ℕ) → slice_get [] j ≡ Some line → ⊥
    none zero e = cc
    none (suc j) e = cc

pub no_disk_misses : MissesAreBelow (missed_of disk) → ⊥
no_disk_misses k = by (k 0 (line_of disk) refl refl)
  where
    by : IsLineOf (missed_of disk) (line_of disk) (λ x. is_high x.speed ≡ false) → ⊥
    by o = at o.number o.here
      where
        none : (j : ℕ) → slice_get [] j ≡ Some o.endpoint → ⊥
        none zero e = cc
        none (suc j) e = cc

        at : (n : ℕ) → slice_get (missed_of disk).endpoints n ≡ Some o.endpoint → ⊥
        at zero there = true≢false (ap (λ (z : Endpoint). is_high z.desc.speed) (same_Some (new_endpoint disk 130 132) o.endpoint there)
            ∙ o.so)
        at (suc n) there = none n there
