-- One transaction of a queue head, over a wire of which only a relation is known (EHCI 1.0, 4.10.3 and 4.12).
use Rattle.std.specs.Prelude.{ℕ, Bool, List}
use Rattle.usb_base.specs.declared.packets.Reply.{Reply}
use Rattle.toggle_error.specs.declared.host.HostSide.{HostSide}
use Rattle.toggle_error.specs.declared.host.Outcome.{Outcome}
use Rattle.toggle_error.specs.Settle.{outcome_of, settled}
use Rattle.transactions.specs.Calls.{Call, call_of}
use Rattle.hc_copy.specs.declared.held.Held.{Held}
use Rattle.hc_copy.specs.declared.held.Transaction.{Transaction}
use Rattle.hc_copy.specs.Overlay.{settled_copy}

-- what goes onto the wire; `last` tells a complete-split that has the highest bit of its C-mask
abbrev pub call_in : Transaction → List ℕ → Bool → Call
call_in t out last = call_of t.split t.pipe t.host out last

-- what a reply comes to, and the host's side after it
abbrev pub outcome_in : Transaction → List ℕ → Bool → Reply → Outcome
outcome_in t out last reply = outcome_of (call_in t out last).ask (call_in t out last).sent last reply t.host

abbrev pub host_after : Transaction → List ℕ → Bool → Reply → HostSide
host_after t out last reply = settled (call_in t out last).ask (call_in t out last).sent last reply t.host

-- the copy after it
abbrev pub copy_after : Transaction → List ℕ → Bool → Reply → Held → Held
copy_after t out last reply h = settled_copy (host_after t out last reply) (outcome_in t out last reply) h
