-- How the program may end on worked inputs.
use Rattle.std.proofs.Common.{◌≡◌, ℕ, List, [], Option, Some, None, refl, inl, inr, arith}
use Rattle.std.specs.Prelude.{codes}
use Rattle.std.specs.Io.KnownBytes.{Keeps}
use Rattle.usb_base.specs.Outside.{Rose}
use Rattle.script_types.specs.declared.scripts.Script.{Script}
use Rattle.bus_world.specs.AtWork.{StandingAtWork}
use Rattle.app_ends.specs.declared.status.Status.TheVariants.{Refused, WriteFault, Memory}
use Rattle.app_forms.specs.Finished.{IsFinished, whole, lacks_memory, FinishesForm}
use Rattle.app_forms.specs.Samples.{calm, failing}
use Rattle.app_forms.specs.declared.form.Form.{Form}
use Rattle.app_forms.specs.declared.form.Form.TheVariants.{Load}

stays_calm : Rose 0 0 → ⊥
stays_calm (inl h) = absurd (omega (arith, h))
stays_calm (inr h) = absurd (omega (arith, h))

module _ (runs : Script → StandingAtWork → Type 0) where
  no_refusal : (form : Form) (input : List ℕ) (old new : Option (List ℕ)) → IsFinished runs form input old new Refused → ⊥
  no_refusal form input old new h = elim h [ ]

  kept : (form : Form) (input : List ℕ) (old new : Option (List ℕ)) → IsFinished runs form input old new Memory → Keeps old new
  kept form input old new (lacks_memory k) = k

  pub memory_may_lack : FinishesForm runs (Load 1) Memory calm [] (Some []) (Some [])
  memory_may_lack = λ sound reads writes. lacks_memory refl

  pub nothing_is_refused : FinishesForm runs (Load 1) Refused calm [] None None → ⊥
  nothing_is_refused h = no_refusal (Load 1) [] None None (h tt stays_calm stays_calm)

  pub nothing_is_written : FinishesForm runs (Load 1) Memory calm [] (Some []) (Some (codes "load")) → ⊥
  nothing_is_written h =
      let k : codes "load" ≡ [] = kept (Load 1) [] (Some []) (Some (codes "load")) (h tt stays_calm stays_calm) in
      cc

  pub a_fault_may_end_it : FinishesForm runs (Load 1) WriteFault failing [] None None
  a_fault_may_end_it = λ sound reads writes. absurd (writes (inl (omega arith)))
