-- Lemmas that several files need.
use Rattle.std.proofs.Common.{Bool, ℕ, cond, ◌≡◌, true, false}
use Rattle.usb_base.specs.declared.reports.What.{What}
use Rattle.drv_table.specs.declared.rows.Found.TheVariants as founds

pub none_ended : (b : Bool) (n k : ℕ) (what : What) → cond b (founds.Served n) founds.Active ≡ founds.Ended k what → ⊥
none_ended true n k what is = cc
none_ended false n k what is = cc
