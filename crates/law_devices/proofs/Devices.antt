-- What an ask leaves of the other endpoints of a device.
use Rattle.std.proofs.Common.{◌≡◌, ℕ, ◌==◌, true, false, if◌then◌else◌, List, slice_get, slice_set, Option, Some, None, ap, refl, sym, subst, ◌∙◌, ⊎_elim}
use Rattle.std.proofs.lemmas.Bool.{false≢true, eqb-true}
use Rattle.law_common.proofs.Booleans.{and_both}
use Rattle.law_devices.proofs.Common.{either_found}
use Rattle.law_common.proofs.Options.{if_found}
use Rattle.usb_base.specs.declared.packets.Ask.{Ask}
use Rattle.usb_base.specs.declared.packets.Pid.{Pid}
use Rattle.usb_base.specs.declared.packets.Pid.TheVariants as Pids
use Rattle.usb_base.specs.declared.packets.Way.{Way}
use Rattle.usb_base.specs.declared.packets.Way.TheVariants as Ways
use Rattle.dev_control.specs.declared.rows.StageToken.{StageToken}
use Rattle.dev_control.specs.declared.rows.StageToken.TheVariants as Tokens
use Rattle.dev_control.specs.Stages.{token_of}
use Rattle.endpoint_script.specs.declared.endpoint.Endpoint.{Endpoint}
use Rattle.endpoint_script.specs.Device.{Device, is_way, is_named, place_named, or_else, place_for, endpoint_asked, endpoint_answered, endpoint_acked, answered_at, answered_in, answered, acked_at, acked_in, acked_by}
use Rattle.bus_wire.specs.declared.who_heard.WhoHeard.{WhoHeard}
use Rattle.bus_wire.specs.declared.who_heard.WhoHeard.TheVariants.{SentUnheard, AckHeard}
use Rattle.bus_wire.specs.Asking.{device_after}
use Rattle.law_devices.proofs.Places.{set_beside, position_set, position_passes}

-- ---- a device of which one endpoint alone has changed

pub record ChangesAt (es now : List Endpoint) (o : Option ℕ) : Type 0 where
  pub names : (num : ℕ) (way : Way) → place_named now num way ≡ place_named es num way
  pub others : (j : ℕ) → (o ≡ Some j → ⊥) → slice_get now j ≡ slice_get es j

none_changed : (es : List Endpoint) (o : Option ℕ) → ChangesAt es es o
none_changed es o = record { names = λ num way. refl; others = λ j other. refl }

one_changed : (es : List Endpoint) (k : ℕ) (e new : Endpoint) → slice_get es k ≡ Some e → ((num : ℕ) (way : Way) → is_named num way new ≡ is_named num way e) → ChangesAt es (slice_set es k new) (Some k)
one_changed es k e new here same = record {
  names = λ num way. position_set (is_named num way) es k e new here (same num way);
  others = λ j other. set_beside es k j new (λ is. other (ap Some (sym is)));
}

both_changed : (es mid now : List Endpoint) (o : Option ℕ) → ChangesAt es mid o → ChangesAt mid now o → ChangesAt es now o
both_changed es mid now o one two = record {
  names = λ num way. two.names num way ∙ one.names num way;
  others = λ j other. two.others j other ∙ one.others j other;
}

answered_by : (es : List Endpoint) (k : ℕ) (o : Option Endpoint) (ask : Ask) (out : List ℕ) → slice_get es k ≡ o → ChangesAt es (answered_at es k o ask out) (Some k)
answered_by es k None ask out here = none_changed es (Some k)
answered_by es k (Some e) ask out here = one_changed es k e (endpoint_answered e ask out) here (λ num way. refl)

answered_changes : (es : List Endpoint) (o : Option ℕ) (ask : Ask) (out : List ℕ) → ChangesAt es (answered_in es o ask out) o
answered_changes es None ask out = none_changed es None
answered_changes es (Some k) ask out = answered_by es k (slice_get es k) ask out refl

acked_by_place : (es : List Endpoint) (k : ℕ) (o : Option Endpoint) → slice_get es k ≡ o → ChangesAt es (acked_at es k o) (Some k)
acked_by_place es k None here = none_changed es (Some k)
acked_by_place es k (Some e) here = one_changed es k e (endpoint_acked e) here (λ num way. refl)

acked_changes : (es : List Endpoint) (o : Option ℕ) → ChangesAt es (acked_in es o) o
acked_changes es None = none_changed es None
acked_changes es (Some k) = acked_by_place es k (slice_get es k) refl

-- an ask is for the same place
place_same : (token : StageToken) (es now : List Endpoint) (num : ℕ) → ((n : ℕ) (way : Way) → place_named now n way ≡ place_named es n way) → place_for token now num ≡ place_for token es num
place_same Tokens.Setup es now num same = same num Ways.Ctl
place_same Tokens.In es now num same = ap (λ (o : Option ℕ). or_else o (place_named now num Ways.Ctl)) (same num Ways.In) ∙ ap (or_else (place_named es num Ways.In)) (same num Ways.Ctl)
place_same Tokens.Other es now num same = refl
place_same _ es now num same = ap (λ (o : Option ℕ). or_else o (place_named now num Ways.Ctl)) (same num Ways.Out) ∙ ap (or_else (place_named es num Ways.Out)) (same num Ways.Ctl)

pub place_answered : (d : Device) (ask : Ask) (out : List ℕ) → endpoint_asked (answered d ask out) ask ≡ endpoint_asked d ask
place_answered d ask out =
    ap (λ (o : Option ℕ). if ask.addr == d.address then o else None) (place_same (token_of ask.pid) d.endpoints (answered d ask out).endpoints ask.ep (answered_changes d.endpoints (endpoint_asked d ask) ask out).names)

answer_changes : (d : Device) (ask : Ask) (out : List ℕ) → ChangesAt d.endpoints (answered d ask out).endpoints (endpoint_asked d ask)
answer_changes d ask out = answered_changes d.endpoints (endpoint_asked d ask) ask out

ack_changes : (d : Device) (ask : Ask) (out : List ℕ) → ChangesAt d.endpoints (acked_by (answered d ask out) ask).endpoints (endpoint_asked d ask)
ack_changes d ask out =
    both_changed d.endpoints (answered d ask out).endpoints (acked_by (answered d ask out) ask).endpoints (endpoint_asked d ask) (answer_changes d ask out)
    (subst (λ (o : Option ℕ). ChangesAt (answered d ask out).endpoints (acked_in (answered d ask out).endpoints (endpoint_asked (answered d ask out) ask)) o) (place_answered d ask out) (acked_changes (answered d ask out).endpoints (endpoint_asked (answered d ask out) ask)))

pub device_changes : (row : WhoHeard) (d : Device) (ask : Ask) (out : List ℕ) → ChangesAt d.endpoints (device_after row ask out d).endpoints (endpoint_asked d ask)
device_changes SentUnheard d ask out = none_changed d.endpoints (endpoint_asked d ask)
device_changes AckHeard d ask out = ack_changes d ask out
device_changes _ d ask out = answer_changes d ask out

pub address_after : (row : WhoHeard) (d : Device) (ask : Ask) (out : List ℕ) → (device_after row ask out d).address ≡ d.address
address_after SentUnheard d ask out = refl
address_after _ d ask out = refl

-- ---- which ask is for an IN endpoint

-- two names of one endpoint
pub record AreOne (e : Endpoint) (num : ℕ) (way : Way) : Type 0 where
  pub number : e.desc.name.num ≡ num
  pub way_is : is_way e.desc.name.way way ≡ true

pub named_is : (es : List Endpoint) (num : ℕ) (way : Way) (k : ℕ) (e : Endpoint) → place_named es num way ≡ Some k → slice_get es k ≡ Some e → AreOne e num way
named_is es num way k e found here =
    let both = and_both (e.desc.name.num == num) (is_way e.desc.name.way way) (position_passes (is_named num way) es k e found here) in
    record { number = eqb-true e.desc.name.num num both.0; way_is = both.1 }

-- an endpoint has one way
one_way : (own : Way) → is_way own Ways.In ≡ true → (is_way own Ways.Ctl ≡ false) × (is_way own Ways.Out ≡ false)
one_way Ways.In e = (refl, refl)
one_way _ e = absurd (false≢true e)

-- an ask for the IN endpoint of this number is an IN with this number
pub record IsForIn (ask : Ask) (num : ℕ) : Type 0 where
  pub token : token_of ask.pid ≡ Tokens.In
  pub number : num ≡ ask.ep

module _ (es : List Endpoint) (num : ℕ) (k : ℕ) (e : Endpoint) (found : place_named es num Ways.In ≡ Some k) (here : slice_get es k ≡ Some e) where
  no_control : (n : ℕ) → place_named es n Ways.Ctl ≡ Some k → ⊥
  no_control n is = false≢true (sym (one_way e.desc.name.way (named_is es num Ways.In k e found here).way_is).0 ∙ (named_is es n Ways.Ctl k e is here).way_is)

  no_out : (n : ℕ) → place_named es n Ways.Out ≡ Some k → ⊥
  no_out n is = false≢true (sym (one_way e.desc.name.way (named_is es num Ways.In k e found here).way_is).1 ∙ (named_is es n Ways.Out k e is here).way_is)

  for_in_by : (token : StageToken) (n : ℕ) → place_for token es n ≡ Some k → (token ≡ Tokens.In) × (num ≡ n)
  for_in_by Tokens.Setup n is = absurd (no_control n is)
  for_in_by Tokens.In n is = (
    refl,
    ⊎_elim (λ (first : place_named es n Ways.In ≡ Some k). sym (named_is es num Ways.In k e found here).number ∙ (named_is es n Ways.In k e first here).number)
        (λ (second : place_named es n Ways.Ctl ≡ Some k). absurd (no_control n second)) (either_found (place_named es n Ways.In) (place_named es n Ways.Ctl) k is),
  )
  for_in_by Tokens.Other n is = absurd cc
  for_in_by _ n is = absurd (⊎_elim {C = ⊥} (no_out n) (no_control n) (either_found (place_named es n Ways.Out) (place_named es n Ways.Ctl) k is))

pub in_only : (pid : Pid) → token_of pid ≡ Tokens.In → pid ≡ Pids.In
in_only Pids.In e = refl
in_only _ e = absurd cc

pub record IsOfIn (d : Device) (ask : Ask) (num : ℕ) : Type 0 where
  pub token : ask.pid ≡ Pids.In
  pub address : ask.addr ≡ d.address
  pub number : num ≡ ask.ep

pub of_in : (d : Device) (ask : Ask) (num : ℕ) (k : ℕ) (e : Endpoint) → place_named d.endpoints num Ways.In ≡ Some k → slice_get d.endpoints k ≡ Some e → endpoint_asked d ask ≡ Some k → IsOfIn d ask num
of_in d ask num k e found here is =
    let f = if_found (ask.addr == d.address) (place_for (token_of ask.pid) d.endpoints ask.ep) k is in
    let t = for_in_by d.endpoints num k e found here (token_of ask.pid) ask.ep f.1 in
    record { token = in_only ask.pid t.0; address = eqb-true ask.addr d.address f.0; number = t.1 }
