-- The fetch with which a visit begins (EHCI 1.0, 4.6, 4.7.1 and 4.10.1).
--     FetchesHead x p a q           the next event fetches the queue head q at the address a, of the placed endpoint x, in a frame of its
--                                   placement; its overlay is active, and not with a SETUP
--     FetchesDescriptor x p a v     the same of a descriptor, in a microframe of the placement
--     queue_copy, itd_copy          the copy in hand after it
use Rattle.std.specs.Prelude.{◌≡◌, ℕ, ◌/◌, ◌%◌, ◌≤◌, true, None}
use Rattle.qh_qtd.specs.declared.queue_head.Qh.{Qh}
use Rattle.itd_sitd.specs.declared.itd.Itd.{Itd}
use Rattle.hc_interrupt.specs.Turns.{microframe_of}
use Rattle.hc_interrupt.specs.Copies.{most_of}
use Rattle.hc_iso.specs.declared.held.HeldItd.{HeldItd}
use Rattle.hc_iso.specs.Itd.{fetched_itd}
use Rattle.bandwidth.specs.declared.placements.Placed.{Placed}
use Rattle.bandwidth.specs.Placements.{has}
use Rattle.bandwidth.specs.Sums.{is_active}
use Rattle.periodic_walk.specs.declared.chain.ChainRow.TheVariants as rows
use Rattle.periodic_walk.specs.declared.state.HeldQueue.{HeldQueue}
use Rattle.periodic_walk.specs.Chain.{chain_row}
use Rattle.periodic_walk.specs.Place.{FramePlace}
use Rattle.law_budgets.specs.visit_prices.Spent.{IsHeadOf, IsItdOf}

abbrev pub queue_copy : ℕ → Qh → HeldQueue
queue_copy a q = record { copy = record { at = a; queue_head = q; settled = None }; made = 0 }

abbrev pub itd_copy : FramePlace → ℕ → Itd → HeldItd
itd_copy p a v = fetched_itd a (microframe_of p.walk.index) v

pub record FetchesHead (x : Placed) (p : FramePlace) (a : ℕ) (q : Qh) : Type 0 where
  pub free : p.walk.hand ≡ None
  pub row : chain_row p.memory p.walk.cursor ≡ rows.Queue a q
  pub head : IsHeadOf x q
  pub active : q.token.active ≡ true
  pub pid : q.token.pid ≤ 1
  pub few : most_of q ≤ 3
  pub frame : is_active x.placement (p.walk.index / 8) ≡ true

pub record FetchesDescriptor (x : Placed) (p : FramePlace) (a : ℕ) (v : Itd) : Type 0 where
  pub free : p.walk.hand ≡ None
  pub row : chain_row p.memory p.walk.cursor ≡ rows.Itd a v
  pub descriptor : IsItdOf x v
  pub some : 1 ≤ v.multi
  pub multi : v.multi ≡ x.want.multi
  pub frame : is_active x.placement (p.walk.index / 8) ≡ true
  pub own : has x.placement.smask (p.walk.index % 8) ≡ true
