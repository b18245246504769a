-- Where host and device of a request stand to each other as they must, the work of hubs leaves them so.
use Rattle.std.proofs.Common.{◌≤◌}
use Rattle.claims_report.specs.Requests.{Request}
use Rattle.law_request.specs.Host.{Endpoint}
use Rattle.law_translated.specs.Lift.{Buffered, Wait, Idle, Waits, Late, Empty, Asked, Hidden, There, Told, IsQuiet, At}
use Rattle.law_translated.specs.KeySlots.{KeySlot}
use Rattle.law_translated.specs.KeyEvents.{mapped, with_slot}
use Rattle.law_translated.specs.Windows.{Line, window_halves, window_claims}
use Rattle.law_translated.proofs.Lifting.{run_keeps}
use Rattle.law_translated.proofs.Settling.{window_keeps}
use Rattle.law_below_hubs.specs.ControlWork.{control_call, control_answer, AnswerFits}
use Rattle.law_below_hubs.specs.ControlStands.{RequestGoesOn}
use Rattle.law_below_hubs.proofs.ControlTurns.{request_work_is_events}
use Rattle.law_below_hubs.proofs.ControlFits.{answers_fit}

pub quiet_before : (s : KeySlot) → IsQuiet (mapped control_call control_answer s) → IsQuiet s
quiet_before Empty q = tt
quiet_before (Asked a) q = q
quiet_before (Hidden a r) q = q
quiet_before (There a r) q = q
quiet_before (Told a r) q = tt

module _ (e : Endpoint) (r : Request) (room : e.max ≤ 1024) where
  fits_so : (s : KeySlot) (u : Wait) (l : Line)
      → At (window_halves e r) (window_claims e r) Buffered (mapped control_call control_answer s) u l → AnswerFits e s l
  fits_so Empty u l at = tt
  fits_so (Asked a) Idle l at = answers_fit e r a l room at.0 at.1
  fits_so (Asked a) Waits l at = answers_fit e r a l room at.0 at.1
  fits_so (Asked a) Late l at = absurd at
  fits_so (Hidden a reply) u l at = tt
  fits_so (There a reply) u l at = tt
  fits_so (Told a reply) u l at = tt

pub request_goes_on : RequestGoesOn
request_goes_on e r dir hub place frindex s aside l u w q room has other right is holds =
    let x = request_work_is_events e r dir hub place frindex s aside l u w has other (quiet_before aside holds.aside) right
    (fits_so e r room s u l holds.at) is in
    record {
      work = x;
      holds = run_keeps (window_halves e r) (window_claims e r) (window_keeps e r q) Buffered
          (with_slot (window_halves e r) control_call control_answer l u s (mapped control_call control_answer aside))
          (with_slot (window_halves e r) control_call control_answer x.line u x.slot (mapped control_call control_answer aside))
          x.run holds;
    }
