-- Lemmas that several files need.
use Rattle.std.proofs.Common.{ℕ, ◌≤◌, arith, Bool, if◌then◌else◌, ◌≡◌, true, refl, false, ap, None, Option, ◌∙◌, min, ◌-◌, zero, inl, suc, inr}
use Rattle.std.specs.Prelude.{◌⊎◌}
use Rattle.usb_base.specs.Cost.{bus_time}
use Rattle.usb_base.specs.declared.packets.Speed.TheVariants.{High}
use Rattle.usb_base.specs.declared.packets.EpKind.TheVariants.{Interrupt, Iso}
use Rattle.usb_base.specs.declared.packets.Reply.{Reply}
use Rattle.usb_base.specs.declared.packets.Pid.TheVariants.{Out, In}
use Rattle.usb_base.specs.declared.packets.Pid.{Pid}
use Rattle.usb_base.specs.declared.packets.Split.TheVariants.{Plain}
use Rattle.law_common.proofs.Numbers.{most_limit}
use Rattle.toggle_error.specs.declared.host.Outcome.{Outcome}
use Rattle.drv_members.proofs.Splits.{one_if}
use Rattle.qh_qtd.specs.declared.queue_head.Qh.{Qh}
use Rattle.transactions.specs.Asks.{dir_of, token_pid, pinged}
use Rattle.transactions.specs.Prices.{priced_bytes}
use Rattle.hc_copy.specs.Planning.{pid_at, bytes_out, host_in}
use Rattle.hc_interrupt.specs.Copies.{again_copy}
use Rattle.hc_interrupt.specs.Turns.{planned}
use Rattle.hc_iso.specs.declared.held.HeldItd.{HeldItd}
use Rattle.hc_iso.specs.Itd.{itd_in, itd_out}
use Rattle.periodic_walk.specs.declared.state.HeldQueue.{HeldQueue}
use Rattle.periodic_walk.specs.Walk.{Walk}
use Rattle.periodic_walk.specs.Place.{holding, passed, FramePlace, reading}
use Rattle.periodic_walk.specs.declared.chain.ChainRow.{ChainRow}
use Rattle.periodic_walk.specs.Chain.{chain_row, chain_after, chain_read}
use Rattle.periodic_walk.specs.declared.state.Hand.{Hand}
use Rattle.periodic_walk.specs.Rows.{effect_at}
use Rattle.law_budgets.specs.visit_prices.Prices.{after, left_by}
use Rattle.usb_base.specs.declared.packets.Dir.TheVariants as ways
use Rattle.periodic_walk.specs.declared.state.Hand.TheVariants as hands

pub dearer : (n m : ℕ) → n ≤ m → bus_time High Interrupt ways.In n ≤ bus_time High Interrupt ways.In m
dearer n m h = omega (arith, h)

pub visit_index : (h : HeldQueue) (outcome : Outcome) (w : Walk) (b : Bool)
    → (if b then holding (hands.Queue (record h { copy = again_copy outcome h.copy })) w else passed h.copy.queue_head.link w).index ≡
    w.index
visit_index h outcome w true = refl
visit_index h outcome w false = refl

pub visit_left : (h : HeldQueue) (outcome : Outcome) (w : Walk) (b : Bool)
    → (if b then holding (hands.Queue (record h { copy = again_copy outcome h.copy })) w else passed h.copy.queue_head.link w).left ≡ w.left
visit_left h outcome w true = refl
visit_left h outcome w false = refl

pub one_more : (b : Bool) → b ≡ true → one_if b ≡ 1
one_more b e = ap one_if e

pub fetched : (p : FramePlace) (r : Reply) (row : ChainRow) → p.walk.hand ≡ None → chain_row p.memory p.walk.cursor ≡ row
    → after p r ≡ chain_after row (reading (chain_read p.memory p.walk.cursor) p)
fetched p r row free is =
    ap (λ (o : Option Hand). left_by (effect_at p o) r) free
    ∙ ap (λ (w : ChainRow). chain_after w (reading (chain_read p.memory p.walk.cursor) p)) is

pub out_price : (size n : ℕ) → bus_time High Iso ways.Out (min size n) ≤ bus_time High Iso ways.In size
out_price size n = omega (arith, most_limit size n)

pub by_way : (b : Bool) (h : HeldItd) → (if b then itd_in h else itd_out h).price.0 ≤ bus_time High Iso ways.In h.itd.max
by_way true h = omega arith
by_way false h = out_price h.itd.max (h.slot.length - h.moved)

pub pid_few : (n : ℕ) → n ≤ 1 → (pid_at n ≡ Out) ⊎ (pid_at n ≡ In)
pid_few zero h = inl refl
pid_few (suc zero) h = inr refl
pid_few (suc (suc n)) h = absurd (omega (arith, h))

pub priced : (q : Qh) (pid : Pid) → q.eps ≡ 2 → pid_at q.token.pid ≡ pid
    → (planned q).price.0 ≡ bus_time High Interrupt (dir_of (token_pid Plain pid (pinged Interrupt q.token.ping)))
    (priced_bytes Plain (token_pid Plain pid (pinged Interrupt q.token.ping)) Interrupt q.max (bytes_out Plain pid (host_in q)))
priced q pid high is = rw (high, is) refl

pub plain : (q : Qh) → q.eps ≡ 2 → (planned q).split ≡ Plain
plain q high = rw high refl
