-- The host's side of a transfer as a token has it (EHCI 1.0, 3.5.3 and 3.6.3).
use Rattle.std.specs.Prelude.{ℕ}
use Rattle.qh_qtd.specs.declared.token.Token.{Token}
use Rattle.toggle_error.specs.declared.host.HostSide.{HostSide}

-- the host's side that a token tells, for packets of at most `max` bytes
abbrev pub host_at : Token → ℕ → HostSide
host_at t max = record {
  toggle = t.toggle;
  ping = t.ping;
  cerr = t.cerr;
  left = t.total;
  max = max;
  active = t.active;
  halted = t.halted;
  babble = t.babble;
  xact_err = t.xact_err;
  missed = t.missed;
  waiting = t.split_state;
}

-- the token with a host's side; its PID, page, interrupt and buffer error stay
abbrev pub with_host : Token → HostSide → Token
with_host t host = record t {
  toggle = host.toggle;
  ping = host.ping;
  cerr = host.cerr;
  total = host.left;
  active = host.active;
  halted = host.halted;
  babble = host.babble;
  xact_err = host.xact_err;
  missed = host.missed;
  split_state = host.waiting;
}
