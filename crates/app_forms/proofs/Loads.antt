-- The text of a load script has no fault.
use Rattle.std.proofs.Common.{◌≡◌, ℕ, List, Option, Some, None, Err, sym, ap, ◌∙◌}
use Rattle.std.specs.Result.{result_err}
use Rattle.script_forms.specs.declared.causes.TextWhy.{TextWhy}
use Rattle.script_text.specs.Reading.{script_read}
use Rattle.script_load.specs.Load.{load_text}
use Rattle.script_load.proofs.Texts.{load_texts_have_no_fault}

pub load_has_no_fault : (text : List ℕ) (n line : ℕ) (why : TextWhy) → script_read text ≡ Err (line, why) → text ≡ load_text n → ⊥
load_has_no_fault text n line why faulty is =
    let none : ◌≡◌ {A = Option (ℕ × TextWhy)} None (Some (line, why)) =
    sym (load_texts_have_no_fault n) ∙ ap (λ t. result_err (script_read t)) (sym is) ∙ ap result_err faulty in
    cc
