-- Each run of a script that a text spells and that clears no halt carries out all its lines, so what the program says of a run it says of a
-- whole one.
use Rattle.std.proofs.Common.{ℕ, List, Option, Some, None, IfSome}
use Rattle.script_types.specs.declared.scripts.Script.{Script}
use Rattle.script_text.specs.Faults.{Spells}
use Rattle.law_reports.proofs.HandedOn.{texts_carry_out_all}
use Rattle.app_ends.specs.Input.{input_of}
use Rattle.app_ends.specs.declared.status.Status.{Status}
use Rattle.bus_world.specs.AtWork.{StandingAtWork}
use Rattle.bus_world.specs.Plain.{IsPlain}
use Rattle.bus_world.specs.PlainEnds.{RunsPlain, IsPlainEnd, IsRunCarriedOut}
use Rattle.bus_world.specs.RunsAtWork.{IsRunOfAtWork}
use Rattle.bus_world.proofs.PlainRuns.{steady_scripts_run_plain, plain_scripts_run}
use Rattle.app_forms.specs.Output.{IsLoad, IsProgram}
use Rattle.app_forms.specs.Scripts.{OfEachScript, FirstIsPlain}
use Rattle.app_forms.proofs.FirstPlain.{first_scripts_are_plain}
use Rattle.app_forms.proofs.Whole.{load_follows, program_follows}
use Rattle.ehci_cli.proofs.Each.{of_each}

plain_end : (text : List ℕ) (s : Script) (w : StandingAtWork) → Spells text s → IsRunOfAtWork s w → IsPlain s → IsPlainEnd s w
plain_end text s w spelled ran plain =
    let p = plain_scripts_run s w plain ran in
    record { work = p.work; ran = record { fixed = ran.fixed; led = texts_carry_out_all text s spelled w.work.world p.ran } }

whole_run : (text : List ℕ) (s : Script) (w : StandingAtWork) → Spells text s → IsRunOfAtWork s w → IsRunCarriedOut s w
whole_run text s w spelled ran = record { ran = ran; plain = plain_end text s w spelled ran }

pub whole_program : (left : Option (List ℕ)) (words : List (List ℕ)) (status : Status) (old new : Option (List ℕ))
    → IfSome left (λ xs. IsProgram IsRunOfAtWork words status (input_of xs) old new)
    → IfSome left (λ xs. IsProgram IsRunCarriedOut words status (input_of xs) old new)
whole_program None words status old new said = tt
whole_program (Some xs) words status old new said =
    program_follows IsRunOfAtWork IsRunCarriedOut whole_run words status (input_of xs) old new said

pub whole_load : (words : List (List ℕ)) (status : Status) (old new : Option (List ℕ)) → IsLoad IsRunOfAtWork words status old new
    → IsLoad IsRunCarriedOut words status old new
whole_load words status old new said = load_follows IsRunOfAtWork IsRunCarriedOut whole_run words status old new said

pub source_runs_plain : (words : List (List ℕ)) (left : Option (List ℕ)) → OfEachScript RunsPlain words left
source_runs_plain = of_each RunsPlain (λ text s spelled. steady_scripts_run_plain s)

pub source_first_is_plain : (words : List (List ℕ)) (left : Option (List ℕ)) → OfEachScript FirstIsPlain words left
source_first_is_plain = of_each FirstIsPlain first_scripts_are_plain
