-- What a line that fits a form says of the bytes of a qTD, and of the speed behind a hub.
use Rattle.std.proofs.Common.{◌≡◌, ℕ, List, Option, Some, None, refl}
use Rattle.std.specs.Prelude.{false}
use Rattle.script_forms.specs.declared.table.Form.{Form}
use Rattle.script_forms.specs.declared.table.Form.TheVariants as form
use Rattle.script_forms.specs.declared.statements.Statement.{Statement}
use Rattle.script_forms.specs.declared.statements.Statement.TheVariants as says
use Rattle.script_forms.specs.Table.{slots_of}
use Rattle.script_forms.specs.Values.{statement_of}
use Rattle.drv_table.specs.Words.{is_high}
use Rattle.script_fits.specs.Fits.{IsPiece}
use Rattle.script_fits.proofs.Numbers.{IsRanged, number_in}

abbrev pub IsPieceIf : Option ℕ → Type 0
IsPieceIf None = Unit {0}
IsPieceIf (Some by) = IsPiece by

abbrev pub IsSaid : Statement → Type 0
IsSaid (says.Mem n) = Unit {0}
IsSaid (says.Hub addr ports multi) = Unit {0}
IsSaid (says.DevHigh addr) = Unit {0}
IsSaid (says.DevBelow b) = is_high b.speed ≡ false
IsSaid (says.Ep l) = Unit {0}
IsSaid (says.Reply name a) = Unit {0}
IsSaid (says.Fate f) = Unit {0}
IsSaid (says.Stuff name p) = Unit {0}
IsSaid (says.Hold first last) = Unit {0}
IsSaid (says.Open name) = Unit {0}
IsSaid (says.Cancel name) = Unit {0}
IsSaid (says.Clear name) = Unit {0}
IsSaid (says.Get l) = IsPieceIf l.by
IsSaid (says.Put l) = IsPieceIf l.by
IsSaid (says.Control c) = Unit {0}
IsSaid (says.Iso l) = Unit {0}
IsSaid (says.Order event n) = Unit {0}
IsSaid (says.Micro n) = Unit {0}
IsSaid says.Unbuilt = Unit {0}

pub form_said : (f : Form) (ws : List (List ℕ)) → IsRanged f ws → IsSaid (statement_of f ws)
unfolding statement_of
form_said form.DevFull ws r = refl
form_said form.DevLow ws r = refl
form_said form.GetBy ws r = number_in (slots_of form.GetBy) ws 5 1 20480 r.ranged r.long refl
form_said form.PutBy ws r = number_in (slots_of form.PutBy) ws 5 1 20480 r.ranged r.long refl
form_said form.PutFillBy ws r = number_in (slots_of form.PutFillBy) ws 7 1 20480 r.ranged r.long refl
form_said _ ws r = tt
