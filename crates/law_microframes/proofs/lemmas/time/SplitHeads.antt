-- What the placement of an interrupt endpoint below a hub has for a start-split and for a complete-split, and that the copy of its queue head stays one of the endpoint (EHCI 1.0, 3.6.2,
-- 4.10.3, 4.12.2 and 4.12.2.4; USB 2.0, 5.11.3).
use Rattle.std.proofs.Common.{◌≡◌, ℕ, ◌*◌, ◌≤◌, true, false, refl, sym, subst, ◌∙◌, arith}
use Rattle.std.specs.Prelude.{min}
use Rattle.std.proofs.Math.Nat.{mul-le-mul_right}
use Rattle.law_common.proofs.Numbers.{most_limit}
use Rattle.law_budgets.proofs.Common.{dearer}
use Rattle.usb_base.specs.Cost.{bus_time}
use Rattle.usb_base.specs.declared.packets.Dir.{Dir}
use Rattle.usb_base.specs.declared.packets.Dir.TheVariants as ways
use Rattle.usb_base.specs.declared.packets.EpKind.TheVariants.{Interrupt}
use Rattle.usb_base.specs.declared.packets.Speed.TheVariants.{High}
use Rattle.usb_base.specs.declared.packets.Split.{Split}
use Rattle.usb_base.specs.declared.packets.Split.TheVariants.{Plain, Start, Complete}
use Rattle.qh_qtd.specs.declared.qtd.Qtd.{Qtd}
use Rattle.qh_qtd.specs.declared.queue_head.Qh.{Qh}
use Rattle.toggle_error.specs.declared.host.HostSide.{HostSide}
use Rattle.hc_copy.specs.Overlay.{advanced, settled_queue, moved}
use Rattle.hc_interrupt.specs.Copies.{with_split, missed_queue}
use Rattle.bandwidth.specs.declared.placements.Want.{Want}
use Rattle.bandwidth.specs.declared.placements.Placement.{Placement}
use Rattle.bandwidth.specs.declared.placements.Placed.{Placed}
use Rattle.bandwidth.specs.Placements.{has, is_classic}
use Rattle.bandwidth.specs.Sums.{cost_in}
use Rattle.claims_world.specs.Prices.{queue_bytes}
use Rattle.law_microframes.specs.time.DataQueues.{pid_of}
use Rattle.law_microframes.specs.time.SplitCharges.{IsSplitHeadOf}

-- ---- the prices

pub some_times : (c m cost : ℕ) → 1 ≤ m → cost ≡ m * c → c ≤ cost
some_times c m cost some is = let more : 1 * c ≤ m * c = mul-le-mul_right c some in omega (arith, is, more)

in_start : (w : Want) (p : Placement) (m : ℕ) → has p.smask m ≡ true → is_classic w.speed ≡ true → w.kind ≡ Interrupt → w.dir ≡ ways.In
    → 1 ≤ w.multi
    → bus_time High Interrupt ways.In 0 ≤ cost_in w p m
in_start w p m own classic kind dir some =
    some_times (bus_time High Interrupt ways.In 0) w.multi (cost_in w p m) some (rw (own, classic, kind, dir) refl)

out_start : (w : Want) (p : Placement) (m : ℕ) → has p.smask m ≡ true → is_classic w.speed ≡ true → w.kind ≡ Interrupt → w.dir ≡ ways.Out
    → 1 ≤ w.multi
    → bus_time High Interrupt ways.In w.max ≤ cost_in w p m
out_start w p m own classic kind dir some =
    some_times (bus_time High Interrupt ways.In w.max) w.multi (cost_in w p m) some (rw (own, classic, kind, dir) refl)

in_complete : (w : Want) (p : Placement) (m : ℕ) → has p.smask m ≡ false → has p.cmask m ≡ true → w.kind ≡ Interrupt → w.dir ≡ ways.In
    → 1 ≤ w.multi
    → bus_time High Interrupt ways.In w.max ≤ cost_in w p m
in_complete w p m off own kind dir some =
    some_times (bus_time High Interrupt ways.In w.max) w.multi (cost_in w p m) some (rw (off, own, kind, dir) refl)

out_complete : (w : Want) (p : Placement) (m : ℕ) → has p.smask m ≡ false → has p.cmask m ≡ true → w.kind ≡ Interrupt → w.dir ≡ ways.Out
    → 1 ≤ w.multi
    → bus_time High Interrupt ways.In 0 ≤ cost_in w p m
out_complete w p m off own kind dir some =
    some_times (bus_time High Interrupt ways.In 0) w.multi (cost_in w p m) some (rw (off, own, kind, dir) refl)

-- the price of a start-split
pub start_by : (x : Placed) (q : Qh) (m : ℕ) (dir : Dir) → x.want.dir ≡ dir → IsSplitHeadOf x q → q.token.split_state ≡ false
    → q.token.pid ≡ pid_of dir → has x.placement.smask m ≡ true
    → bus_time High Interrupt ways.In (queue_bytes q) ≤ cost_in x.want x.placement m
start_by x q m ways.In dir head starts pid own =
    let same : queue_bytes q ≡ 0 = rw (head.below, starts, pid) refl in
    subst (λ (n : ℕ). bus_time High Interrupt ways.In n ≤ cost_in x.want x.placement m) (sym same)
    (in_start x.want x.placement m own head.classic head.kind dir head.some)
start_by x q m ways.Out dir head starts pid own =
    let same : queue_bytes q ≡ min q.max q.token.total = rw (head.below, starts, pid) refl in
    let few : queue_bytes q ≤ x.want.max = omega (arith, same, most_limit q.max q.token.total, head.max) in
    let most = out_start x.want x.placement m own head.classic head.kind dir head.some in
    let less = dearer (queue_bytes q) x.want.max few in
    omega (arith, most, less)

-- and of a complete-split
pub complete_by : (x : Placed) (q : Qh) (m : ℕ) (dir : Dir) → x.want.dir ≡ dir → IsSplitHeadOf x q → q.token.split_state ≡ true
    → q.token.pid ≡ pid_of dir → has x.placement.smask m ≡ false
    → has x.placement.cmask m ≡ true → bus_time High Interrupt ways.In (queue_bytes q) ≤ cost_in x.want x.placement m
complete_by x q m ways.In dir head completes pid off own =
    let same : queue_bytes q ≡ q.max = rw (head.below, completes, pid) refl in
    subst (λ (n : ℕ). bus_time High Interrupt ways.In n ≤ cost_in x.want x.placement m) (sym (same ∙ head.max))
    (in_complete x.want x.placement m off own head.kind dir head.some)
complete_by x q m ways.Out dir head completes pid off own =
    let same : queue_bytes q ≡ 0 = rw (head.below, completes, pid) refl in
    subst (λ (n : ℕ). bus_time High Interrupt ways.In n ≤ cost_in x.want x.placement m) (sym same)
    (out_complete x.want x.placement m off own head.kind dir head.some)

-- ---- it stays a queue head of the endpoint

pub settled_head : (x : Placed) (host : HostSide) (q : Qh) → IsSplitHeadOf x q → IsSplitHeadOf x (settled_queue host q)
unfolding settled_queue
settled_head x host q h = record
    { classic = h.classic; kind = h.kind; some = h.some; masks = h.masks; below = h.below; max = h.max; smask = h.smask; cmask = h.cmask }

pub settled_pid : (host : HostSide) (q : Qh) → (settled_queue host q).token.pid ≡ q.token.pid
unfolding settled_queue
settled_pid host q = refl

pub moved_head : (x : Placed) (n : ℕ) (q : Qh) → IsSplitHeadOf x q → IsSplitHeadOf x (moved q n)
unfolding moved
moved_head x n q h = record
    { classic = h.classic; kind = h.kind; some = h.some; masks = h.masks; below = h.below; max = h.max; smask = h.smask; cmask = h.cmask }

pub moved_pid : (n : ℕ) (q : Qh) → (moved q n).token.pid ≡ q.token.pid
unfolding moved
moved_pid n q = refl

pub moved_active : (q : Qh) (n : ℕ) → (moved q n).token.active ≡ q.token.active
unfolding moved
moved_active q n = refl

pub advanced_head : (x : Placed) (q : Qh) (a : ℕ) (t : Qtd) → IsSplitHeadOf x q → IsSplitHeadOf x (advanced q a t)
unfolding advanced
advanced_head x q a t h = record
    { classic = h.classic; kind = h.kind; some = h.some; masks = h.masks; below = h.below; max = h.max; smask = h.smask; cmask = h.cmask }

pub advanced_pid : (q : Qh) (a : ℕ) (t : Qtd) → (advanced q a t).token.pid ≡ t.token.pid
unfolding advanced
advanced_pid q a t = refl

pub split_head : (x : Placed) (f : ℕ) (s : Split) (q : Qh) → IsSplitHeadOf x q → IsSplitHeadOf x (with_split f s q)
unfolding with_split
split_head x f Plain q h = h
split_head x f (Start hub port part) q h =
    record {
      classic = h.classic;
      kind = h.kind;
      some = h.some;
      masks = h.masks;
      below = h.below;
      max = h.max;
      smask = h.smask;
      cmask =
          h.cmask;
    }
split_head x f (Complete hub port) q h =
    record {
      classic = h.classic;
      kind = h.kind;
      some = h.some;
      masks = h.masks;
      below = h.below;
      max = h.max;
      smask = h.smask;
      cmask =
          h.cmask;
    }

pub split_pid : (f : ℕ) (s : Split) (q : Qh) → (with_split f s q).token.pid ≡ q.token.pid
unfolding with_split
split_pid f Plain q = refl
split_pid f (Start hub port part) q = refl
split_pid f (Complete hub port) q = refl

pub missed_head : (x : Placed) (q : Qh) → IsSplitHeadOf x q → IsSplitHeadOf x (missed_queue q)
unfolding missed_queue
missed_head x q h = record
    { classic = h.classic; kind = h.kind; some = h.some; masks = h.masks; below = h.below; max = h.max; smask = h.smask; cmask = h.cmask }

pub missed_active : (q : Qh) → (missed_queue q).token.active ≡ false
unfolding missed_queue
missed_active q = refl
