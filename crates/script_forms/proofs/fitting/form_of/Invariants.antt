use Rattle.std.proofs.Common.{◌≡◌, drop, None}
use Rattle.std.specs.List.{fold}
use Rattle.script_forms.specs.Table.{forms_of}
use Rattle.script_forms.specs.Fitting.{held}
use Rattle.script_forms.proofs.fitting.form_of.Given as goal

abbrev pub invariant-loop-form : goal.invariant-loop-form
invariant-loop-form l =
    fold (held l.words) l.best (drop l.form-index (forms_of l.fn.version l.fn.first)) ≡ fold (held l.words) None (forms_of l.fn.version l.fn.first)
