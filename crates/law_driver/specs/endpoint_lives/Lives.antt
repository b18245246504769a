-- An endpoint on its way out of the ring (EHCI 1.0, 4.8.2): it is linked, or it waits for a doorbell that isn't answered yet, or it can't be met any more.
--     any_at f xs              one of the elements is so, told with its number
--     is_one_of e es           the number is one of these
--     told_end x               why it has ended, as far as its report has it: the line of a cancel is written when the endpoint is given back
--     may_meet d e x           a walk of the ring may still meet the queue head of endpoint e, which is x
use Rattle.std.specs.Prelude.{ℕ, zero, suc, ◌==◌, Bool, false, ◌||◌, List, [], ◌∷◌, Option, None, if◌then◌else◌}
use Rattle.usb_base.specs.declared.endpoints.EndCause.{EndCause}
use Rattle.drv_table.specs.declared.content.Endpoint.{Endpoint}
use Rattle.drv_table.specs.DriverContent.{DriverContent}
use Rattle.drv_table.specs.Releases.{is_told}

abbrev pub any_at : (ℕ → Endpoint → Bool) → List Endpoint → Bool
any_at f [] = false
any_at f (x ∷ xs) = f zero x || any_at (λ e y. f (suc e) y) xs

abbrev pub is_one_of : ℕ → List ℕ → Bool
is_one_of e [] = false
is_one_of e (f ∷ es) = (e == f) || is_one_of e es

abbrev pub told_end : Endpoint → Option EndCause
told_end x = if is_told x then None else x.ended

abbrev pub may_meet : DriverContent → ℕ → Endpoint → Bool
may_meet d e x = x.linked || (is_one_of e d.waiting || is_one_of e d.rung)
