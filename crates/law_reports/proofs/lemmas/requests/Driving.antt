-- Each event of the driver leaves the requests of a world as they must stand.
use Rattle.std.proofs.Common.{◌≡◌, ℕ, cond, nat_eq, Bool, true, false, refl, sym, subst}
use Rattle.usb_base.specs.declared.endpoints.EndCause.{EndCause}
use Rattle.usb_base.specs.declared.endpoints.EndCause.TheVariants as causes
use Rattle.usb_base.specs.declared.reports.What.{What}
use Rattle.usb_base.specs.declared.reports.What.TheVariants as lines
use Rattle.qh_qtd.specs.declared.token.Token.{Token}
use Rattle.drv_table.specs.declared.content.QtdNote.{QtdNote}
use Rattle.drv_table.specs.declared.content.Sort.{Sort}
use Rattle.drv_table.specs.declared.rows.Found.TheVariants as founds
use Rattle.drv_table.specs.Harvests.{found_in, done_of, ends_by, moved_of, halt_of}

-- ---- what a harvest tells

pub data EndsAs (what : What) : Type 0 where
  as_done : what ≡ lines.Done → EndsAs what
  as_halt : (cause : EndCause) → what ≡ lines.Halt cause → EndsAs what
  as_miss : what ≡ lines.Miss → EndsAs what

halt_as : (a b c : Bool)
    → EndsAs (cond a lines.Miss (cond b (lines.Halt causes.Babble) (cond c (lines.Halt causes.Error) (lines.Halt causes.Stall))))
halt_as true b c = as_miss refl
halt_as false true c = as_halt causes.Babble refl
halt_as false false true = as_halt causes.Error refl
halt_as false false false = as_halt causes.Stall refl

ends_as : (a h e : Bool) (m n : ℕ) (halt what : What) → EndsAs halt
    → cond a founds.Active (cond h (founds.Ended m halt) (done_of e m)) ≡ founds.Ended n what → EndsAs what
ends_as true h e m n halt what ends is = absurd cc
ends_as false true e m n halt what ends is = subst EndsAs (cc) ends
ends_as false false true m n halt what ends is = as_done (cc)
ends_as false false false m n halt what ends is = absurd cc

pub read_as : (sort : Sort) (last : Bool) (note : QtdNote) (t : Token) (n : ℕ) (what : What)
    → founds.Ended n what ≡ found_in sort last note t
    → EndsAs what
read_as sort last note t n what is =
    ends_as t.active t.halted (ends_by sort last t.total) (moved_of note.told t.total) n (halt_of t) what (halt_as t.missed t.babble (nat_eq t.cerr 0)) (sym is)
