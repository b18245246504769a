-- The answers of a control endpoint fit where host and device stand to each other as they must (USB 2.0, 8.5.3 and 8.6): so a translator,
-- which takes up to 1,024 bytes, acknowledges what the host itself would.
use Rattle.std.specs.Prelude.{◌≤◌}
use Rattle.tt_bulk.specs.Contents.{Taken}
use Rattle.claims_report.specs.Requests.{Request}
use Rattle.law_request.specs.Host.{Endpoint}
use Rattle.law_request.specs.Standing.{Stands}
use Rattle.law_translated.specs.Windows.{Line, Is}
use Rattle.law_below_hubs.specs.ControlWork.{control_call, IsFit}

abbrev pub AnswersFit : Type 0
AnswersFit = (e : Endpoint) (r : Request) (a : Taken) (l : Line) → e.max ≤ 1024 → Is e r l (control_call a)
    → Stands e r l.window → IsFit e a l
