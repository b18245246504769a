use Rattle.std.proofs.Common.{subst}
use Rattle.script_text.specs.Faults.{IsRight}
use Rattle.app_forms.proofs.Loads.{load_has_no_fault}
use Rattle.app_forms.proofs.loading.load_script.Goals as goal

pub unreachable-requires : goal.unreachable-requires
unreachable-requires g c =
    load_has_no_fault c.args.text.now c.args.n c.in-Err-Fault.field-0-0 c.in-Err-Fault.field-0-1
    (subst (IsRight c.args.text.now) c.in-Err-Fault.field-0-is c.in-Err-Fault.ensures.refused) c.requires
