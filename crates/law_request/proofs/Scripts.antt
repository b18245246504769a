-- A scripted control endpoint is the device of a line.
use Rattle.std.proofs.Common.{◌≡◌, ℕ, List, Option, Some, None, refl, ap}
use Rattle.usb_base.specs.declared.packets.Ask.{Ask}
use Rattle.dev_control.specs.declared.control.Request.{Request as UnderWay}
use Rattle.dev_control.specs.Stages.{stages_reply, stages_after, stages_acked}
use Rattle.endpoint_script.specs.Controlling.{Controlling, reply_under as script_reply, controlling_reply, controlling_answered, controlling_acked}
use Rattle.endpoint_script.specs.declared.control_endpoint.KnownRequest.{KnownRequest}
use Rattle.law_request.specs.Line.{reply_under, answer_of, answered, acked}
use Rattle.law_request.specs.Scripted.{scripted}

same_reply : (addr num max : ℕ) (requests : List KnownRequest) (q : Option UnderWay) → script_reply requests q ≡ reply_under (scripted addr num max requests).known q
same_reply addr num max requests None = refl
same_reply addr num max requests (Some u) = refl

pub same_answer : (addr num max : ℕ) (c : Controlling) (ask : Ask) (out : List ℕ) → controlling_reply c ask out ≡ answer_of (scripted addr num max c.requests) ask out c.stages
same_answer addr num max c ask out = ap (λ reply. stages_reply reply c.stages ask out) (same_reply addr num max c.requests c.stages.request)

pub same_left : (addr num max : ℕ) (c : Controlling) (ask : Ask) (out : List ℕ) → controlling_answered c ask out ≡ record c { stages = answered (scripted addr num max c.requests) ask out c.stages }
same_left addr num max c ask out = ap (λ reply. record c { stages = stages_after reply c.stages ask out }) (same_reply addr num max c.requests c.stages.request)

pub same_acked : (addr num max : ℕ) (c : Controlling) → controlling_acked c ≡ record c { stages = acked (scripted addr num max c.requests) c.stages }
same_acked addr num max c = ap (λ reply. record c { stages = stages_acked reply c.stages }) (same_reply addr num max c.requests c.stages.request)
