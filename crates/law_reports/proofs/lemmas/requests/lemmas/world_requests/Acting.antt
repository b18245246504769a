-- On what a device acts in a transaction is told by its stages before and after.
use Rattle.std.proofs.Common.{◌≡◌, ℕ, Bool, true, false, not, ◌&&◌, List, [], ◌++◌, if◌then◌else◌, Option, Some, None, refl, ap, ◌∙◌, sym}
use Rattle.std.specs.Option.{option_to_list}
use Rattle.usb_base.specs.declared.packets.Ask.{Ask}
use Rattle.dev_control.specs.declared.control.Request.{Request as UnderWay}
use Rattle.dev_control.specs.declared.rows.Stage.{Stage}
use Rattle.dev_control.specs.declared.rows.Stage.TheVariants.{Refusing, Reading, AllRead, Writing, AllWritten, NoData}
use Rattle.dev_control.specs.declared.rows.StageRow.{StageRow}
use Rattle.dev_control.specs.declared.rows.StageRow.TheVariants.{Begins, Takes, Acknowledges, Confirms}
use Rattle.dev_control.specs.Stages.{Stages, stage_of, stage_row, setup_of, moved_to, acted_at, acted_with, after_stage_row, acked_with}
use Rattle.claims_report.specs.Acts.{done_of, acts_if}
use Rattle.law_device.specs.Acts.{is_status_row}
use Rattle.bus_wire.specs.declared.asked.Losses.{Losses}
use Rattle.bus_wire.specs.declared.who_heard.WhoHeard.{WhoHeard}
use Rattle.bus_wire.specs.declared.who_heard.WhoHeard.TheVariants.{SentUnheard, AckHeard}
use Rattle.claims_report.specs.Requests.{Request}
use Rattle.law_request.specs.Host.{Endpoint, is_over, call_at}
use Rattle.law_request.specs.Line.{Line, reply_under, answered, acked, device_after, acts_by, row_at, made, transacted}
use Rattle.claims_world.specs.Requests.{acted_between}

-- ---- what is acted on once

acts_none : (x : Bool) → acts_if x None ≡ []
acts_none true = refl
acts_none false = refl

none_left : (x : Bool) (xs : List (List ℕ)) → (if x && false then xs else []) ≡ []
none_left true xs = refl
none_left false xs = refl

same_by : (x y : Bool) (u : UnderWay) (b : Bool) → u.done ≡ b → (u.done ≡ false → x ≡ y) → acts_if x (Some u) ≡ acts_if y (Some u)
same_by x y u true is same =
    ap (λ (b : Bool). if x && not b then option_to_list (setup_of (Some u)) else []) is ∙ none_left x (option_to_list (setup_of (Some u)))
    ∙ sym (none_left y (option_to_list (setup_of (Some u)))) ∙ sym (ap (λ (b : Bool). if y && not b then option_to_list (setup_of (Some u)) else []) is)
same_by x y u false is same = ap (λ (z : Bool). acts_if z (Some u)) (same is)

acts_same : (x y : Bool) (o : Option UnderWay) → ((u : UnderWay) → o ≡ Some u → u.done ≡ false → x ≡ y) → acts_if x o ≡ acts_if y o
acts_same x y None same = acts_none x ∙ sym (acts_none y)
acts_same x y (Some u) same = same_by x y u u.done refl (same u refl)

pub none_acted : (c : Stages) → acted_between c c ≡ []
none_acted c = acts_same (done_of c.request) false c.request (λ u is not_done. ap done_of is ∙ not_done)

-- ---- a row

row_done : (row : StageRow) (c : Stages) (u : UnderWay) → c.request ≡ Some u → u.done ≡ false → done_of (after_stage_row row c).request ≡ is_status_row row
row_done (Begins setup) c u is not_done = refl
row_done (Takes to) c u is not_done = ap (λ (o : Option UnderWay). done_of (moved_to to o)) is ∙ not_done
row_done Acknowledges c u is not_done = ap (λ (o : Option UnderWay). done_of (acted_with o c).request) is ∙ ap (λ (b : Bool). done_of (acted_at b u c).request) not_done
row_done Confirms c u is not_done = ap (λ (o : Option UnderWay). done_of (acted_with o c).request) is ∙ ap (λ (b : Bool). done_of (acted_at b u c).request) not_done
row_done _ c u is not_done = ap done_of is ∙ not_done

answer_acts : (e : Endpoint) (ask : Ask) (out : List ℕ) (c : Stages) → acts_if (done_of (answered e ask out c).request) c.request ≡ acts_if (is_status_row (stage_row (reply_under e.known c.request) c ask out)) c.request
answer_acts e ask out c =
    let row : StageRow = stage_row (reply_under e.known c.request) c ask out in
    acts_same (done_of (after_stage_row row c).request) (is_status_row row) c.request (λ u is not_done. row_done row c u is not_done)

-- an acknowledgement ends nothing
acked_by : (s : Stage) (o : Option UnderWay) (c : Stages) → c.request ≡ o → done_of (acked_with s o c).request ≡ done_of o
acked_by Refusing o c is = ap done_of is
acked_by Reading None c is = ap done_of is
acked_by Reading (Some u) c is = refl
acked_by AllRead o c is = ap done_of is
acked_by Writing o c is = ap done_of is
acked_by AllWritten o c is = ap done_of is
acked_by NoData o c is = ap done_of is

acked_done : (e : Endpoint) (c : Stages) → done_of (acked e c).request ≡ done_of c.request
acked_done e c = acked_by (stage_of (reply_under e.known c.request) c) c.request c refl

-- ---- a transaction

pub device_acts : (e : Endpoint) (row : WhoHeard) (ask : Ask) (out : List ℕ) (c : Stages) → acted_between c (device_after e row ask out c) ≡ acts_by e row ask out c
device_acts e SentUnheard ask out c = none_acted c
device_acts e AckHeard ask out c = ap (λ (b : Bool). acts_if b c.request) (acked_done e (answered e ask out c)) ∙ answer_acts e ask out c
device_acts e _ ask out c = answer_acts e ask out c

acts_unless : (e : Endpoint) (r : Request) (losses : Losses) (l : Line) (over : Bool)
    → acted_between l.device (if over then l else made e r losses (call_at e r l.host) l).device ++ l.acts ≡ (if over then l else made e r losses (call_at e r l.host) l).acts
acts_unless e r losses l true = ap (λ (xs : List (List ℕ)). xs ++ l.acts) (none_acted l.device)
acts_unless e r losses l false =
    ap (λ (xs : List (List ℕ)). xs ++ l.acts) (device_acts e (row_at e losses (call_at e r l.host) l.device) (call_at e r l.host).ask (call_at e r l.host).out l.device)

pub transaction_acts : (e : Endpoint) (r : Request) (losses : Losses) (l : Line) → acted_between l.device (transacted e r losses l).device ++ l.acts ≡ (transacted e r losses l).acts
transaction_acts e r losses l = acts_unless e r losses l (is_over l.host.stage)
