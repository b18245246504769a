-- Each start of a request's host is a control ask by a token of the request.
use Rattle.std.proofs.Common.{◌≡◌, false}
use Rattle.usb_base.specs.declared.packets.Pid.{Pid}
use Rattle.claims_report.specs.Requests.{Request}
use Rattle.law_request.specs.Host.{Stage, Setup, Data, Status, Done, Halted, is_over, token_at}
use Rattle.law_below_hubs.specs.ControlAsks.{IsRequestToken, RequestStartsAreRight}
use Rattle.law_below_hubs.specs.ControlAsks.IsRequestToken.{setup, data_stage, status}

token_is : (r : Request) (stage : Stage) (pid : Pid) → is_over stage ≡ false → pid ≡ token_at r stage → IsRequestToken r pid
token_is r Setup pid on is = setup is
token_is r Data pid on is = data_stage is
token_is r Status pid on is = status is
token_is r Done pid on is = absurd cc
token_is r (Halted cause) pid on is = absurd cc

pub request_starts_are_right : RequestStartsAreRight
request_starts_are_right r addr num h pipe on token kind _ _ = record { kind = kind; token = token_is r h.stage pipe.pid on token }
