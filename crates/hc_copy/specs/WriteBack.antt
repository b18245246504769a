-- What a write-back writes and raises (EHCI 1.0, 4.10.4 to 4.10.6 and 4.15.1): the received bytes, words 3 to 11 of the queue head, and
-- where the qTD isn't active any more its token. The first word that the controller may not touch ends it.
use Rattle.std.specs.Prelude.{ℕ, Bool, true, false, not, ◌&&◌, ◌||◌, ◌==◌, nat_lt, List, if◌then◌else◌}
use Rattle.usb_base.specs.declared.packets.Reply.{Reply}
use Rattle.op_registers.specs.RegisterFile.{RegisterFile}
use Rattle.word_mem.specs.Memory.{Mem, reaches}
use Rattle.qh_qtd.specs.declared.queue_head.Qh.{Qh}
use Rattle.toggle_error.specs.declared.host.Outcome.{Outcome}
use Rattle.toggle_error.specs.declared.host.Outcome.TheVariants as outcomes
use Rattle.transactions.specs.Calls.{got_of}
use Rattle.mem_queues.specs.Structures.{reaches_queue_head, overlay_words, overlay_written, token_written}
use Rattle.hc_copy.specs.Planning.{pid_at}
use Rattle.hc_copy.specs.Overlay.{pages_of, buffer_place, moved}
use Rattle.hc_copy.specs.Buffer.{Writing, bytes_written}

-- words 3 to 11 of the queue head are written to the address a
unfoldable pub overlay_after : Mem → ℕ → Qh → Mem
overlay_after m a q = overlay_written m a (overlay_words q)

-- ---- what a transaction moved

abbrev pub moved_by : Outcome → ℕ
moved_by (outcomes.Moved n) = n
moved_by _ = 0

-- the bytes that it received: those of an IN that moved
abbrev pub received : Qh → Outcome → Reply → List ℕ
received q outcome reply = got_of (pid_at q.token.pid) outcome reply

-- ---- what is written

-- further writes, where those before were all made
abbrev pub then_write : Writing → (Mem → Writing) → Writing
then_write w next = if w.all then next w.memory else w

abbrev pub overlay_back : ℕ → Qh → Mem → Writing
overlay_back a q m = record { memory = overlay_after m a q; all = reaches_queue_head m a }

-- the token of the current qTD, where it isn't active any more
abbrev pub token_back : Qh → Mem → Writing
token_back q m =
    if q.token.active then record { memory = m; all = true }
    else record { memory = token_written m q.current q.token; all = reaches m q.current }

-- the queue head at the address a, after its transaction came to this with these bytes received
unfoldable pub written_back : ℕ → Qh → Outcome → List ℕ → Mem → Writing
written_back a q outcome got m =
    let new : Qh = moved q (moved_by outcome) in
    then_write (then_write (bytes_written (pages_of q) (buffer_place q) got m) (overlay_back a new)) (token_back new)

-- ---- what is raised

-- an IN brought fewer bytes than a packet holds
abbrev pub is_short : Qh → Outcome → Bool
is_short q (outcomes.Moved n) = q.token.pid == 1 && nat_lt n q.max
is_short q _ = false

abbrev pub is_error : Outcome → Bool
is_error outcomes.Error = true
is_error (outcomes.Halt cause) = true
is_error _ = false

-- the USB interrupt: the qTD ended, and it has IOC or its last packet was short
abbrev pub interrupts : Qh → Outcome → Bool
interrupts q outcome = not q.token.active && (q.token.ioc || is_short q outcome)

unfoldable pub raised : Qh → Outcome → RegisterFile → RegisterFile
raised q outcome r = record r { interrupt = interrupts q outcome || r.interrupt; error = is_error outcome || r.error }
