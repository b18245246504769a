-- What an answer of the driver leaves of what is watched.
use Rattle.std.proofs.Common.{◌≡◌, Option, Some, None, Result, Ok, Err, IfOk, IfErr, ap, sym, ◌∙◌, subst}
use Rattle.usb_base.specs.declared.commands.Cmd.{Cmd}
use Rattle.usb_base.specs.declared.reports.OfferError.{OfferError}
use Rattle.word_mem.specs.Memory.{Mem}
use Rattle.drv_jobs.specs.AtWork.{DriverAtWork}
use Rattle.drv_jobs.specs.JobOffers.{offered_any}
use Rattle.ehci_driver.specs.JobEvents.{working}
use Rattle.app_trace.specs.Watched.{Watched, driver_of, answer_to, refusal_of, with_offered}

pub offer_next : {X : Type 0} (m n : Watched) (cmd : Cmd) (r : Result X OfferError)
    → IfOk r (λ x. offered_any (driver_of m) m.memory cmd ≡ Ok (working (driver_of n) n.memory))
    → IfErr r (λ why. offered_any (driver_of m) m.memory cmd ≡ Err why)
    → IfErr r (λ why. (driver_of n ≡ driver_of m) × (n.memory ≡ m.memory))
    → n ≡ record m { driver = n.driver; job = n.job; memory = n.memory } → n ≡ with_offered m (answer_to m cmd)
unfolding answer_to
offer_next m n cmd (Ok x) accepted refused same is = is ∙ sym (ap (with_offered m) accepted)
offer_next m n cmd (Err why) accepted refused same is =
    is ∙ ap (λ (d : DriverAtWork). record m { driver = d.driver; job = d.job; memory = n.memory }) same.0
    ∙ ap (λ (x : Mem). record m { memory = x }) same.1
    ∙ sym (ap (with_offered m) refused)

-- .. as it is seen before
pub offer_seen : {X : Type 0} (m n seen : Watched) (cmd : Cmd) (r : Result X OfferError) → m ≡ seen
    → IfOk r (λ x. offered_any (driver_of m) m.memory cmd ≡ Ok (working (driver_of n) n.memory))
    → IfErr r (λ why. offered_any (driver_of m) m.memory cmd ≡ Err why)
    → IfErr r (λ why. (driver_of n ≡ driver_of m) × (n.memory ≡ m.memory))
    → n ≡ record m { driver = n.driver; job = n.job; memory = n.memory } → n ≡ with_offered seen (answer_to seen cmd)
offer_seen m n seen cmd r view accepted refused same is =
    subst (λ (x : Watched). n ≡ with_offered x (answer_to x cmd)) view (offer_next m n cmd r accepted refused same is)

-- why it refuses, if it does
abbrev pub why_of : {X : Type 0} → Result X OfferError → Option OfferError
why_of (Ok x) = None
why_of (Err why) = Some why

refused_by : {X : Type 0} (m : Watched) (cmd : Cmd) (r : Result X OfferError) (w : DriverAtWork) (y : Mem)
    → IfOk r (λ x. offered_any (driver_of m) m.memory cmd ≡ Ok (working w y))
    → IfErr r (λ why. offered_any (driver_of m) m.memory cmd ≡ Err why) → why_of r ≡ refusal_of (answer_to m cmd)
unfolding answer_to
refused_by m cmd (Ok x) w y accepted refused = sym (ap refusal_of accepted)
refused_by m cmd (Err why) w y accepted refused = sym (ap refusal_of refused)

pub refused_seen : {X : Type 0} (m seen : Watched) (cmd : Cmd) (r : Result X OfferError) (o : Option OfferError) (w : DriverAtWork)
    (y : Mem) → m ≡ seen → IfOk r (λ x. offered_any (driver_of m) m.memory cmd ≡ Ok (working w y))
    → IfErr r (λ why. offered_any (driver_of m) m.memory cmd ≡ Err why) → o ≡ why_of r → o ≡ refusal_of (answer_to seen cmd)
refused_seen m seen cmd r o w y view accepted refused is =
    subst (λ (x : Watched). o ≡ refusal_of (answer_to x cmd)) view (is ∙ refused_by m cmd r w y accepted refused)
