-- A queue head stays in its ranges, whatever a visit makes of it.
use Rattle.std.proofs.Common.{◌≡◌, ℕ, ◌%◌, ◌<◌, ◌≤◌, arith}
use Rattle.qh_qtd.specs.declared.qtd.Qtd.{Qtd}
use Rattle.qh_qtd.specs.declared.queue_head.Qh.{Qh}
use Rattle.qh_qtd.specs.Qtd.{IsQtdInRange}
use Rattle.qh_qtd.specs.QueueHead.{IsQhInRange}
use Rattle.toggle_error.specs.declared.host.HostSide.{HostSide}
use Rattle.hc_host_side.proofs.Token.{with_host_in_range}
use Rattle.hc_copy.specs.Overlay.{advanced, settled_queue, moved}

pub advanced_in_range : (q : Qh) (a : ℕ) (t : Qtd) → IsQhInRange q → a % 32 ≡ 0 → IsQtdInRange t → IsQhInRange (advanced q a t)
unfolding advanced
advanced_in_range q a t (link, (chars, (caps, _))) aligned (next, (alternate, (token, ((page0, (offset, _)), ((page1, _), ((page2, _), (page3, (page4, _)))))))) =
    (link, (chars, (caps, ((aligned, tt), (next, ((alternate.0, (chars.0, tt)), (token, ((page0, (offset, tt)), ((page1, (omega arith, tt)), ((page2, (omega arith, (omega arith, tt))), (page3, (page4, tt))))))))))))

pub settled_in_range : (host : HostSide) (q : Qh) → IsQhInRange q → host.cerr < 4 → host.left ≤ 20480 → IsQhInRange (settled_queue host q)
unfolding settled_queue
settled_in_range host q (link, (chars, (caps, (current, (next, (alternate, (token, rest))))))) errors left =
    (link, (chars, (caps, (current, (next, (alternate, (with_host_in_range q.token host token errors left, rest)))))))

pub moved_in_range : (q : Qh) (n : ℕ) → IsQhInRange q → IsQhInRange (moved q n)
unfolding moved
moved_in_range q n (link, (chars, (caps, (current, (next, (alternate, ((total, (page, (errors, pid))), ((page0, (offset, _)), rest)))))))) =
    (link, (chars, (caps, (current, (next, (alternate, ((total, (omega arith, (errors, pid))), ((page0, (omega arith, tt)), rest))))))))
