-- So it is in the run of each script that a text spells.
use Rattle.std.proofs.Common.{ℕ, List}
use Rattle.script_types.specs.declared.scripts.Script.{Script}
use Rattle.script_text.specs.Faults.{Spells}
use Rattle.script_fits.proofs.Texts.{spelled_fits}
use Rattle.law_scripts.proofs.lemmas.script_bytes.Texts.{a_text_spells_bytes}
use Rattle.law_world.proofs.lemmas.memory.Texts.{texts_fit}
use Rattle.law_world.proofs.lemmas.memory.FittingTexts.{texts_open_fitting}
use Rattle.bus_world.specs.Budgets.{moment}
use Rattle.claims_world.specs.WithinLoad.{payments, IsWithinLoad}
use Rattle.law_microframes.proofs.lemmas.visits.VisitTexts.{lines_fit}
use Rattle.law_microframes.proofs.lemmas.time.PaymentMoments.{scripts_pay_within_load}
use Rattle.law_microframes.proofs.lemmas.time.SlotTexts.{texts_fit_slots}

pub texts_load : (text : List ℕ) (s : Script) → Spells text s → (k : ℕ)
    → IsWithinLoad (moment s k).world (payments s k)
texts_load text s spelled =
    scripts_pay_within_load s (spelled_fits text s spelled) (a_text_spells_bytes text s spelled)
    (lines_fit s.lines (texts_fit text s spelled) (texts_open_fitting text s spelled)) (texts_fit_slots text s spelled)
