-- An endpoint that goes on is in the ring, and of which drivers nothing leaves.
use Rattle.std.proofs.Common.{◌≡◌, Bool, true, false, None, sym, ◌∙◌, ⊎_elim, refl}
use Rattle.std.proofs.lemmas.Bool.{false≢true}
use Rattle.drv_table.specs.declared.content.Endpoint.{Endpoint}
use Rattle.drv_table.specs.Releases.{is_told}
use Rattle.law_driver.specs.endpoint_lives.Lives.{told_end}
use Rattle.law_driver.proofs.lemmas.endpoint_lives.Lives.{told_none, by_cancel}
use Rattle.law_driver.specs.chained_transfers.Bulk.{IsStanding}
use Rattle.law_driver.specs.chained_transfers.Asynchronous.{StandsAsynchronous}
use Rattle.law_driver.proofs.lemmas.chained_transfers.BulkAndControl.{standing}

-- an endpoint that goes on wasn't given back
pub stands_alive : (x : Endpoint) → StandsAsynchronous x → x.ended ≡ None → x.gone ≡ false
stands_alive x s goes = by x.gone refl
  where
    by : (b : Bool) → x.gone ≡ b → x.gone ≡ false
    by false is = is
    by true is = absurd (s.ended (s.unlinked (s.gone is)) goes)

-- it wasn't cancelled
pub stands_fresh : (x : Endpoint) → StandsAsynchronous x → x.ended ≡ None → x.cancelled ≡ false
stands_fresh x s goes = by x.cancelled refl
  where
    by : (b : Bool) → x.cancelled ≡ b → x.cancelled ≡ false
    by false is = is
    by true is = absurd (s.ended is goes)

-- what isn't cancelled is in the ring
pub fresh_stands_linked : (x : Endpoint) → StandsAsynchronous x → x.cancelled ≡ false → x.linked ≡ true
fresh_stands_linked x s fresh = by x.linked refl
  where
    by : (b : Bool) → x.linked ≡ b → x.linked ≡ true
    by true is = is
    by false is = absurd (false≢true (sym fresh ∙ s.unlinked is))

pub stands_linked : (x : Endpoint) → StandsAsynchronous x → x.ended ≡ None → x.linked ≡ true
stands_linked x s goes = fresh_stands_linked x s (stands_fresh x s goes)

-- what is in the ring wasn't given back
pub linked_stands_alive : (x : Endpoint) → StandsAsynchronous x → x.linked ≡ true → x.gone ≡ false
linked_stands_alive x s on = by x.gone refl
  where
    by : (b : Bool) → x.gone ≡ b → x.gone ≡ false
    by false is = is
    by true is = absurd (false≢true (sym (s.gone is) ∙ on))

-- .. and so is what goes on as far as its report has it
pub told_stands_alive : (x : Endpoint) → StandsAsynchronous x → told_end x ≡ None → x.gone ≡ false
told_stands_alive x s goes = ⊎_elim (λ (none : x.ended ≡ None). stands_alive x s none) (λ (told : is_told x ≡ true). (by_cancel x told).kept) (told_none x goes)

-- ---- the same of a bulk endpoint

pub alive : (x : Endpoint) → IsStanding x → x.ended ≡ None → x.gone ≡ false
alive x s goes = stands_alive x (standing x s) goes

pub going_fresh : (x : Endpoint) → IsStanding x → x.ended ≡ None → x.cancelled ≡ false
going_fresh x s goes = stands_fresh x (standing x s) goes

pub fresh_linked : (x : Endpoint) → IsStanding x → x.cancelled ≡ false → x.linked ≡ true
fresh_linked x s fresh = fresh_stands_linked x (standing x s) fresh

pub going_linked : (x : Endpoint) → IsStanding x → x.ended ≡ None → x.linked ≡ true
going_linked x s goes = stands_linked x (standing x s) goes

pub linked_alive : (x : Endpoint) → IsStanding x → x.linked ≡ true → x.gone ≡ false
linked_alive x s on = linked_stands_alive x (standing x s) on

pub told_alive : (x : Endpoint) → IsStanding x → told_end x ≡ None → x.gone ≡ false
told_alive x s goes = told_stands_alive x (standing x s) goes
