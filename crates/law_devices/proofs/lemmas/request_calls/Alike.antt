-- The call that a queue head makes is that of the request's stage.
use Rattle.std.proofs.Common.{◌≡◌, ◌≢◌, ℕ, ◌==◌, Bool, true, false, if◌then◌else◌, List, [], take, length, ap, refl, sym, subst, ◌∙◌, ⊎_elim}
use Rattle.std.proofs.lemmas.Bool.{cases_eq}
use Rattle.law_common.proofs.Lists.{take_again}
use Rattle.law_common.proofs.Numbers.{other_number}
use Rattle.usb_base.specs.declared.packets.EpKind.TheVariants.{Control}
use Rattle.usb_base.specs.declared.packets.DataPart.TheVariants.{All}
use Rattle.usb_base.specs.declared.packets.Pid.{Pid}
use Rattle.usb_base.specs.declared.packets.Pid.TheVariants as Packets
use Rattle.usb_base.specs.declared.packets.Reply.{Reply}
use Rattle.usb_base.specs.declared.packets.Reply.TheVariants.{Silent, Bytes, Hand}
use Rattle.usb_base.specs.declared.packets.Speed.TheVariants.{High}
use Rattle.usb_base.specs.declared.packets.Split.TheVariants as Splits
use Rattle.toggle_error.specs.declared.host.HostSide.{HostSide}
use Rattle.toggle_error.specs.declared.host.Outcome.{Outcome}
use Rattle.toggle_error.specs.declared.host.Outcome.TheVariants.{Moved}
use Rattle.toggle_error.specs.Columns.{limit_of, heard_of}
use Rattle.toggle_error.specs.PlainRows.{plain_outcome, after_plain}
use Rattle.toggle_error.specs.Settle.{outcome_of, settled}
use Rattle.transactions.specs.declared.pipe.Pipe.{Pipe}
use Rattle.transactions.specs.Calls.{Call, call_of, high_call, got_of}
use Rattle.hc_copy.specs.Planning.{pid_at, bytes_out}
use Rattle.hc_copy.specs.WriteBack.{moved_by}
use Rattle.law_request.specs.Host.{Endpoint, endpoint_pipe, got_with}
use Rattle.law_devices.proofs.lemmas.request_calls.Moving.{sent_moves, ping_row, ping_moves}

abbrev pub own_pipe : Endpoint → ℕ → ℕ → Pid → Pipe
own_pipe e hub port pid = record { addr = e.addr; ep = e.num; speed = High; kind = Control; pid = pid; hub = hub; port = port; part = All }

abbrev pub own_call : Endpoint → ℕ → ℕ → Pid → HostSide → List ℕ → Call
own_call e hub port pid host source = call_of Splits.Plain (own_pipe e hub port pid) host (take (bytes_out Splits.Plain pid host) source) false

abbrev pub moved_with : Bool → Pid → Outcome → Reply → List ℕ → List ℕ
moved_with in_token pid o reply source = if in_token then got_of pid o reply else take (moved_by o) source

pub record AreAlike (reply : Reply) (host : HostSide) (in_token : Bool) (pid : Pid) (source : List ℕ) (a b : Call) : Type 0 where
  pub ask : a.ask ≡ b.ask
  pub out : a.out ≡ b.out
  pub outcome : outcome_of a.ask a.sent false reply host ≡ outcome_of b.ask b.sent false reply host
  pub settles : settled a.ask a.sent false reply host ≡ settled b.ask b.sent false reply host
  pub bytes : (n : ℕ) → outcome_of b.ask b.sent false reply host ≡ Moved n → got_with reply b.out ≡ moved_with in_token pid (outcome_of b.ask b.sent false reply host) reply source

in_bytes : (o : Outcome) (n : ℕ) (reply : Reply) → o ≡ Moved n → got_with reply [] ≡ got_of Packets.In o reply
in_bytes o n Silent e = sym (ap (λ (p : Outcome). got_of Packets.In p Silent) e)
in_bytes o n (Hand pid) e = sym (ap (λ (p : Outcome). got_of Packets.In p (Hand pid)) e)
in_bytes o n (Bytes pid bs) e = sym (ap (λ (p : Outcome). got_of Packets.In p (Bytes pid bs)) e)

out_bytes : (o : Outcome) (n k : ℕ) (reply : Reply) (source : List ℕ) → o ≡ Moved n → (got_with reply (take k source) ≡ take k source) × (n ≡ length (take k source)) → got_with reply (take k source) ≡ take (moved_by o) source
out_bytes o n k reply source e both = both.0 ∙ sym (ap (λ (i : ℕ). take i source) (ap moved_by e ∙ both.1) ∙ take_again k source)

module _ (e : Endpoint) (hub port : ℕ) (reply : Reply) (source : List ℕ) where
  in_alike : (host : HostSide) → AreAlike reply host true Packets.In source (own_call e hub port Packets.In host source) (high_call (endpoint_pipe e Packets.In) host [])
  in_alike host = record {
    ask = refl;
    out = refl;
    outcome = refl;
    settles = refl;
    bytes = λ n is. in_bytes (outcome_of (high_call (endpoint_pipe e Packets.In) host []).ask 0 false reply host) n reply is;
  }

  setup_alike : (host : HostSide) → AreAlike reply host false Packets.Setup source (own_call e hub port Packets.Setup host source) (high_call (endpoint_pipe e Packets.Setup) host (take (limit_of host) source))
  setup_alike host =
      let b : Call = high_call (endpoint_pipe e Packets.Setup) host (take (limit_of host) source) in
      record {
        ask = refl;
        out = refl;
        outcome = refl;
        settles = refl;
        bytes = λ n is. out_bytes (outcome_of b.ask b.sent false reply host) n (limit_of host) reply source is (sent_moves false host reply b.sent n b.out is);
      }

  out_alike : (host : HostSide) (ping : Bool)
      → AreAlike reply (record host { ping = ping }) false Packets.Out source (own_call e hub port Packets.Out (record host { ping = ping }) source) (high_call (endpoint_pipe e Packets.Out) (record host { ping = ping }) (take (limit_of host) source))
  out_alike host false =
      let h : HostSide = record host { ping = false } in
      let b : Call = high_call (endpoint_pipe e Packets.Out) h (take (limit_of host) source) in
      record {
        ask = refl;
        out = refl;
        outcome = refl;
        settles = refl;
        bytes = λ n is. out_bytes (outcome_of b.ask b.sent false reply h) n (limit_of host) reply source is (sent_moves true h reply b.sent n b.out is);
      }
  out_alike host true =
      let h : HostSide = record host { ping = true } in
      let b : Call = high_call (endpoint_pipe e Packets.Out) h (take (limit_of host) source) in
      record {
        ask = refl;
        out = refl;
        outcome = ap (λ row. plain_outcome row h) (ping_row (heard_of h reply) 0 b.sent);
        settles = ap (λ row. after_plain row h) (ping_row (heard_of h reply) 0 b.sent);
        bytes = λ n is. absurd (ping_moves h (heard_of h reply) b.sent n is);
      }

  -- the bytes of the stage that go out with a token
  abbrev pub given_with : Bool → HostSide → List ℕ
  given_with in_token host = if in_token then [] else take (limit_of host) source

  abbrev Alike : HostSide → Bool → Pid → Type 0
  Alike host in_token pid = AreAlike reply host in_token pid source (own_call e hub port pid host source) (high_call (endpoint_pipe e pid) host (given_with in_token host))

  pub alike : (code : ℕ) (host : HostSide) → AreAlike reply host (code == 1) (pid_at code) source (own_call e hub port (pid_at code) host source) (high_call (endpoint_pipe e (pid_at code)) host (given_with (code == 1) host))
  alike code host =
      ⊎_elim {C = Alike host (code == 1) (pid_at code)} (λ (is : code ≡ 0). subst (λ (c : ℕ). Alike host (c == 1) (pid_at c)) (sym is) (out_alike host host.ping))
      (λ (other : code ≢ 0). ⊎_elim {C = Alike host (code == 1) (pid_at code)} (λ (is : code ≡ 1). subst (λ (c : ℕ). Alike host (c == 1) (pid_at c)) (sym is) (in_alike host))
      (λ (neither : code ≢ 1).
      subst (λ (b : Bool). Alike host b (if code == 0 then Packets.Out else if b then Packets.In else Packets.Setup)) (sym (other_number code 1 neither))
      (subst (λ (b : Bool). Alike host false (if b then Packets.Out else Packets.Setup)) (sym (other_number code 0 other)) (setup_alike host))) (cases_eq code 1)) (cases_eq code 0)
