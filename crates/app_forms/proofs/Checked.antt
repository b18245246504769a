-- What `check` says of an input that begins as an image and is none.
use Rattle.std.proofs.Common.{◌≡◌, ℕ, List, true, false, Some, subst, sym, ap}
use Rattle.std.specs.Prelude.{is_none}
use Rattle.image_show.specs.ImageAt.{any_fault}
use Rattle.image_show.specs.Text.{refusal_line}
use Rattle.image_codec.specs.declared.image.Refusal.{Refusal}
use Rattle.script_text.specs.Faults.{is_image}
use Rattle.app_forms.specs.Output.{Checks, checked_as, image_line, is_sound_as}

pub refused_check : (input : List ℕ) (r : Refusal) → any_fault input ≡ Some r → is_image input ≡ true → Checks input false (refusal_line r)
refused_check input r fault is = record {
  is = subst (λ b. is_sound_as b input ≡ false) (sym is) (ap is_none fault);
  line = subst (λ b. refusal_line r ≡ checked_as b input) (sym is) (ap image_line (sym fault));
}
