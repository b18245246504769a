-- Which asks are for an OUT endpoint of a device: OUTs and PINGs of its number.
use Rattle.std.proofs.Common.{◌≡◌, ℕ, ◌==◌, true, false, List, slice_get, Some, refl, sym, ◌∙◌, ⊎_elim, inl, inr}
use Rattle.std.specs.Prelude.{◌⊎◌}
use Rattle.std.proofs.lemmas.Bool.{false≢true, eqb-true}
use Rattle.law_devices.proofs.Common.{either_found}
use Rattle.law_common.proofs.Options.{if_found}
use Rattle.usb_base.specs.declared.packets.Ask.{Ask}
use Rattle.usb_base.specs.declared.packets.Pid.{Pid}
use Rattle.usb_base.specs.declared.packets.Pid.TheVariants as Pids
use Rattle.usb_base.specs.declared.packets.Way.{Way}
use Rattle.usb_base.specs.declared.packets.Way.TheVariants as Ways
use Rattle.dev_control.specs.declared.rows.StageToken.{StageToken}
use Rattle.dev_control.specs.declared.rows.StageToken.TheVariants as Tokens
use Rattle.dev_control.specs.Stages.{token_of}
use Rattle.endpoint_script.specs.declared.endpoint.Endpoint.{Endpoint}
use Rattle.endpoint_script.specs.Device.{Device, is_way, place_named, place_for, endpoint_asked}
use Rattle.law_devices.proofs.Devices.{named_is}

one_way : (own : Way) → is_way own Ways.Out ≡ true → (is_way own Ways.Ctl ≡ false) × (is_way own Ways.In ≡ false)
one_way Ways.Out e = (refl, refl)
one_way _ e = absurd (false≢true e)

-- which of the tokens it is
abbrev pub IsOutToken : Pid → Type 0
IsOutToken pid = (pid ≡ Pids.Out) ⊎ (pid ≡ Pids.Ping)

abbrev IsOutStage : StageToken → Type 0
IsOutStage token = (token ≡ Tokens.Out) ⊎ (token ≡ Tokens.Ping)

module _ (es : List Endpoint) (num : ℕ) (k : ℕ) (e : Endpoint) (found : place_named es num Ways.Out ≡ Some k) (here : slice_get es k ≡ Some e) where
  no_control : (n : ℕ) → place_named es n Ways.Ctl ≡ Some k → ⊥
  no_control n is = false≢true (sym (one_way e.desc.name.way (named_is es num Ways.Out k e found here).way_is).0 ∙ (named_is es n Ways.Ctl k e is here).way_is)

  no_in : (n : ℕ) → place_named es n Ways.In ≡ Some k → ⊥
  no_in n is = false≢true (sym (one_way e.desc.name.way (named_is es num Ways.Out k e found here).way_is).1 ∙ (named_is es n Ways.In k e is here).way_is)

  number_by : (n : ℕ) → (place_named es n Ways.Out ≡ Some k) ⊎ (place_named es n Ways.Ctl ≡ Some k) → num ≡ n
  number_by n either =
      ⊎_elim (λ (first : place_named es n Ways.Out ≡ Some k). sym (named_is es num Ways.Out k e found here).number ∙ (named_is es n Ways.Out k e first here).number)
      (λ (second : place_named es n Ways.Ctl ≡ Some k). absurd (no_control n second)) either

  for_out_by : (token : StageToken) (n : ℕ) → place_for token es n ≡ Some k → IsOutStage token × (num ≡ n)
  for_out_by Tokens.Setup n is = absurd (no_control n is)
  for_out_by Tokens.In n is = absurd (⊎_elim {C = ⊥} (no_in n) (no_control n) (either_found (place_named es n Ways.In) (place_named es n Ways.Ctl) k is))
  for_out_by Tokens.Out n is = (inl refl, number_by n (either_found (place_named es n Ways.Out) (place_named es n Ways.Ctl) k is))
  for_out_by Tokens.Ping n is = (inr refl, number_by n (either_found (place_named es n Ways.Out) (place_named es n Ways.Ctl) k is))
  for_out_by Tokens.Other n is = absurd cc

out_only : (pid : Pid) → token_of pid ≡ Tokens.Out → pid ≡ Pids.Out
out_only Pids.Out e = refl
out_only _ e = absurd cc

ping_only : (pid : Pid) → token_of pid ≡ Tokens.Ping → pid ≡ Pids.Ping
ping_only Pids.Ping e = refl
ping_only _ e = absurd cc

pub record IsOfOut (d : Device) (ask : Ask) (num : ℕ) : Type 0 where
  pub token : IsOutToken ask.pid
  pub address : ask.addr ≡ d.address
  pub number : num ≡ ask.ep

pub of_out : (d : Device) (ask : Ask) (num : ℕ) (k : ℕ) (e : Endpoint) → place_named d.endpoints num Ways.Out ≡ Some k → slice_get d.endpoints k ≡ Some e → endpoint_asked d ask ≡ Some k → IsOfOut d ask num
of_out d ask num k e found here is =
    let f = if_found (ask.addr == d.address) (place_for (token_of ask.pid) d.endpoints ask.ep) k is in
    let t = for_out_by d.endpoints num k e found here (token_of ask.pid) ask.ep f.1 in
    record {
      token = ⊎_elim (λ (x : token_of ask.pid ≡ Tokens.Out). inl (out_only ask.pid x)) (λ (x : token_of ask.pid ≡ Tokens.Ping). inr (ping_only ask.pid x)) t.0;
      address = eqb-true ask.addr d.address f.0;
      number = t.1;
    }
