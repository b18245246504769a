-- What a visit makes of the overlay of a queue head (EHCI 1.0, 3.5.4, 3.6 and 4.10).
use Rattle.std.specs.Prelude.{ℕ, ◌+◌, ◌*◌, ◌/◌, ◌%◌, min, ◌==◌, List, [], ◌∷◌, Some, if◌then◌else◌}
use Rattle.qh_qtd.specs.declared.qtd.Qtd.{Qtd}
use Rattle.qh_qtd.specs.declared.queue_head.Qh.{Qh}
use Rattle.qh_qtd.specs.declared.token.Token.{Token}
use Rattle.toggle_error.specs.declared.host.HostSide.{HostSide}
use Rattle.toggle_error.specs.declared.host.Outcome.{Outcome}
use Rattle.hc_host_side.specs.HostToken.{with_host}
use Rattle.hc_copy.specs.declared.held.Held.{Held}

-- ---- a qTD is taken (4.10.2)

-- the token of the qTD; the toggle stays the queue head's unless DTC says otherwise, and so does the ping state at high speed
abbrev pub taken_token : Qh → Token → Token
taken_token q t = record t {
  toggle = if q.dtc then t.toggle else q.token.toggle;
  ping = if q.eps == 2 then q.token.ping else t.ping;
}

-- the queue head with the qTD at the address a as its overlay
unfoldable pub advanced : Qh → ℕ → Qtd → Qh
advanced q a t = record q {
  current = a;
  next = t.next;
  alternate = t.alternate;
  nak_cnt = q.rl;
  token = taken_token q t.token;
  offset = t.offset;
  page0 = t.page0;
  c_prog = 0;
  page1 = t.page1;
  frame_tag = 0;
  s_bytes = 0;
  page2 = t.page2;
  page3 = t.page3;
  page4 = t.page4;
}

-- ---- a transaction (4.10.3)

-- the queue head with the host's side that a transaction left
unfoldable pub settled_queue : HostSide → Qh → Qh
settled_queue host q = record q { token = with_host q.token host }

-- a transaction left the host's side so and came to this: the copy has it, and the words will have it by the write-back
abbrev pub settled_copy : HostSide → Outcome → Held → Held
settled_copy host outcome h = record h { queue_head = settled_queue host h.queue_head; settled = Some outcome }

-- ---- the place in the buffer (3.5.4, 4.10.6)

abbrev pub pages_of : Qh → List ℕ
pages_of q = q.page0 ∷ q.page1 ∷ q.page2 ∷ q.page3 ∷ q.page4 ∷ []

-- the place of the next byte, counted from the start of the first page
abbrev pub buffer_place : Qh → ℕ
buffer_place q = q.token.c_page * 4096 + q.offset

-- n bytes were moved: the page rises by one for each page end that was reached, up to the last page
unfoldable pub moved : Qh → ℕ → Qh
moved q n = record q {
  offset = (q.offset + n) % 4096;
  token = record q.token { c_page = min 4 (q.token.c_page + (q.offset + n) / 4096) };
}
