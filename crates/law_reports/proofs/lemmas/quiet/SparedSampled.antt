-- A script without requests to its hub leaves the buffers, one that asks it to clear one doesn't; and a keyboard below a hub may use up its
-- errors, where a stick's bulk and control endpoints don't.
use Rattle.std.proofs.Common.{◌≡◌, ℕ, zero, suc, true, false, [], slice_get, Some, ap, refl, sym, ◌∙◌}
use Rattle.std.proofs.lemmas.Bool.{true≢false}
use Rattle.std.proofs.lemmas.Option.{same_Some}
use Rattle.usb_base.specs.declared.endpoints.EndCause.TheVariants as causes
use Rattle.usb_base.specs.declared.endpoints.EpDesc.{EpDesc}
use Rattle.usb_base.specs.declared.reports.Report.{Report}
use Rattle.usb_base.specs.declared.reports.What.TheVariants as lines
use Rattle.drv_table.specs.declared.content.Endpoint.{Endpoint}
use Rattle.drv_table.specs.Offers.{new_endpoint}
use Rattle.claims_world.specs.Misses.{IsLineOf}
use Rattle.claims_world.specs.Quiet.{LeavesBuffers, is_unfailing, ErrorsAreOfInterrupts}
use Rattle.law_world.specs.memory.Samples.{keyboard}
use Rattle.law_reports.specs.quiet.HeardSamples.{lost_below, told_of}
use Rattle.law_reports.specs.quiet.SparedSamples.{clears_buffer, stick, asker}

pub lines_leave_buffers : LeavesBuffers lost_below
lines_leave_buffers = ((tt, (tt, (tt, (tt, (tt, (tt, (tt, tt))))))), tt)

pub one_clears_a_buffer : LeavesBuffers clears_buffer → ⊥
one_clears_a_buffer k = true≢false (k.0.0 refl)

pub a_keyboard_is_told : ErrorsAreOfInterrupts (told_of keyboard)
a_keyboard_is_told zero line here is = record {
  number = 0;
  endpoint = new_endpoint keyboard 130 132;
  here = refl;
  name = ap (λ (v : Report). v.name) (sym (same_Some (record {
    name = keyboard.name;
    what = lines.Halt causes.Error;
    from = 0;
    len = 0;
  }) line here));
  so = refl;
}
a_keyboard_is_told (suc i) line here is = absurd (none i here)
  where
    none : (j : ℕ) → slice_get [] j ≡ Some line → ⊥
    none zero e = cc
    none (suc j) e = cc

none_told : (x : EpDesc) → is_unfailing x ≡ true → ErrorsAreOfInterrupts (told_of x) → ⊥
none_told x fine k = by (k 0 (record { name = x.name; what = lines.Halt causes.Error; from = 0; len = 0 }) refl refl)
  where
    by : IsLineOf (told_of x) (record { name = x.name; what = lines.Halt causes.Error; from = 0; len = 0 }) (λ y. is_unfailing y ≡ false) → ⊥
    by o = at o.number o.here
      where
        none : (j : ℕ) → slice_get [] j ≡ Some o.endpoint → ⊥
        none zero e = cc
        none (suc j) e = cc

        at : (n : ℕ) → slice_get (told_of x).endpoints n ≡ Some o.endpoint → ⊥
        at zero there =
            true≢false (sym fine ∙ ap (λ (z : Endpoint). is_unfailing z.desc) (same_Some (new_endpoint x 130 132) o.endpoint there) ∙ o.so)
        at (suc n) there = none n there

pub no_stick_is_told : ErrorsAreOfInterrupts (told_of stick) → ⊥
no_stick_is_told = none_told stick refl

pub no_asker_is_told : ErrorsAreOfInterrupts (told_of asker) → ⊥
no_asker_is_told = none_told asker refl
