-- Worked rows of what is told.
use Rattle.std.proofs.Common.{◌≡◌, ℕ, ◌==◌, ◌&&◌, Bool, true, false, if◌then◌else◌, List, [], ◌∷◌, length, Option, Some, None, ap, refl, sym, subst, ◌∙◌, arith}
use Rattle.std.proofs.lemmas.Option.{same_Some}
use Rattle.usb_base.specs.declared.endpoints.EpName.{EpName}
use Rattle.usb_base.specs.declared.endpoints.EndCause.{EndCause}
use Rattle.usb_base.specs.declared.endpoints.EndCause.TheVariants.{Error}
use Rattle.usb_base.specs.declared.reports.Report.{Report}
use Rattle.usb_base.specs.declared.reports.What.TheVariants.{Done, Halt}
use Rattle.claims_report.specs.Samples.{sender, line_of}
use Rattle.report_text.specs.ReportText.{AreStored}
use Rattle.bus_wire.specs.Fates.{is_same_name}
use Rattle.law_queues.specs.told_endpoints.Telling.{Named, IsToldTo, TellsEach, lines_in}
use Rattle.law_queues.specs.told_endpoints.Samples.{only_sender}

found_by : (b : Bool) (x y : Named) → (if b then Some x else None) ≡ Some y → (b ≡ true) × (x ≡ y)
found_by true x y e = (refl, same_Some x y e)
found_by false x y e = absurd cc

it_is : (ended : Option EndCause) (e : ℕ) (x : Named) → only_sender ended e ≡ Some x → (e ≡ 0) × (record { name = sender; stream = true; ended = ended } ≡ x)
it_is ended e x there =
    let f = found_by (e == 0) (record { name = sender; stream = true; ended = ended }) x there in
    (let b = f.0 in grind arith, f.1)

tells_by : (reports : List Report) (store : List ℕ) (ended : Option EndCause) (held told : List ℕ) → IsToldTo reports store (record { name = sender; stream = true; ended = ended }) held told
    → ((name : EpName) → is_same_name sender name ≡ false → lines_in name reports ≡ []) → AreStored reports (length store) → TellsEach reports store (only_sender ended) (λ (e : ℕ). held) (λ (e : ℕ). told)
tells_by reports store ended held told one none stored = record {
  stored = stored;
  each = λ e x there on. subst (λ (y : Named). IsToldTo reports store y held told) (it_is ended e x there).1 one;
  only = λ name others. none name (others 0 (record { name = sender; stream = true; ended = ended }) refl);
  apart = λ e k x y here there alike. (it_is ended e x here).0 ∙ sym (it_is ended k y there).0;
}

pub none_told : TellsEach [] [] (only_sender None) (λ (e : ℕ). []) (λ (e : ℕ). [])
none_told = tells_by [] [] None [] [] (record { sum = refl; going = λ still. refl; over = λ cause ended. absurd (no_end cause ended) }) (λ name unlike. refl) tt
  where
    no_end : (cause : EndCause) → None ≡ Some cause → ⊥
    no_end cause e = cc

pub one_held : TellsEach (line_of sender Done 0 2 ∷ []) (1 ∷ 2 ∷ []) (only_sender None) (λ (e : ℕ). 3 ∷ []) (λ (e : ℕ). 1 ∷ 2 ∷ 3 ∷ [])
one_held =
    tells_by (line_of sender Done 0 2 ∷ []) (1 ∷ 2 ∷ []) None (3 ∷ []) (1 ∷ 2 ∷ 3 ∷ []) (record { sum = refl; going = λ still. refl; over = λ cause ended. absurd (no_end cause ended) })
    (λ name unlike. ap (λ (b : Bool). if b && true then line_of sender Done 0 2 ∷ [] else []) unlike) (omega arith, tt)
  where
    no_end : (cause : EndCause) → None ≡ Some cause → ⊥
    no_end cause e = cc

pub then_ended : TellsEach (line_of sender Done 0 2 ∷ line_of sender (Halt Error) 2 2 ∷ []) (1 ∷ 2 ∷ 3 ∷ 4 ∷ []) (only_sender (Some Error)) (λ (e : ℕ). []) (λ (e : ℕ). 1 ∷ 2 ∷ 3 ∷ 4 ∷ [])
then_ended =
    tells_by (line_of sender Done 0 2 ∷ line_of sender (Halt Error) 2 2 ∷ []) (1 ∷ 2 ∷ 3 ∷ 4 ∷ []) (Some Error) [] (1 ∷ 2 ∷ 3 ∷ 4 ∷ [])
    (record { sum = refl; going = λ still. absurd (going still); over = λ cause ended. (refl, refl) })
    (λ name unlike. ap (λ (b : Bool). if b && true then line_of sender Done 0 2 ∷ (if b && true then line_of sender (Halt Error) 2 2 ∷ [] else []) else (if b && true then line_of sender (Halt Error) 2 2 ∷ [] else [])) unlike)
    (omega arith, (omega arith, tt))
  where
    going : Some Error ≡ None → ⊥
    going e = cc
