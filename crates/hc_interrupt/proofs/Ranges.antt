-- A queue head stays in its ranges, whatever its split transaction is at.
use Rattle.std.proofs.Common.{ℕ, arith}
use Rattle.usb_base.specs.declared.packets.Split.{Split}
use Rattle.usb_base.specs.declared.packets.Split.TheVariants.{Plain, Start, Complete}
use Rattle.qh_qtd.specs.declared.queue_head.Qh.{Qh}
use Rattle.qh_qtd.specs.QueueHead.{IsQhInRange}
use Rattle.hc_masks.proofs.Room.{with_bit_small}
use Rattle.hc_interrupt.specs.Turns.{microframe_of}
use Rattle.hc_interrupt.specs.Copies.{with_split, missed_queue}

pub split_in_range : (f : ℕ) (split : Split) (q : Qh) → IsQhInRange q → IsQhInRange (with_split f split q)
unfolding with_split
split_in_range f Plain q range = range
split_in_range f (Start _ _ _) q (link, (chars, (caps, (current, (next, (alternate, (token, (first, ((page1, (prog, _)), ((page2, (bytes, (tag, _))), rest)))))))))) =
    (link, (chars, (caps, (current, (next, (alternate, (token, (first, ((page1, (omega arith, tt)), ((page2, (bytes, (omega arith, tt))), rest))))))))))
split_in_range f (Complete _ _) q (link, (chars, (caps, (current, (next, (alternate, (token, (first, ((page1, (prog, _)), rest))))))))) =
    (link, (chars, (caps, (current, (next, (alternate, (token, (first, ((page1, (with_bit_small q.c_prog (microframe_of f) (omega (arith, prog)) (omega arith), tt)), rest)))))))))

pub missed_in_range : (q : Qh) → IsQhInRange q → IsQhInRange (missed_queue q)
unfolding missed_queue
missed_in_range q range = range
