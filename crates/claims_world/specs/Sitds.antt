-- The transactions of split isochronous transfer descriptors that the walk of the frames comes to in a microframe, and those that it made
-- (EHCI 1.0, 3.4, 4.4, 4.6, 4.12.3; USB 2.0, 5.6.4 and 11.18): an OUT sends its bytes in parts, each in a microframe of its S-mask; an IN
-- has a start-split, and then complete-splits in the microframes of its C-mask.
--     SitdMade               a transaction that was written back: the byte address of the siTD, the siTD as that left it, and what the host
--                            heard
--     Sitds                  the siTDs that were fetched with a transaction to come in the microframe, each as it was read, with its byte
--                            address; and those transactions that were written back; the newest first
--     no_sitds               as a microframe begins
--     came_as turn a v cs    the walk comes to the siTD v at a, of which this is to be done
--     came_by u row cs ..    by a fetch of this row in microframe u; came_at hand u row cs: with a copy in hand nothing is fetched
--     made_as s a v r ms     a visit to the siTD at a ends, with the copy v: with s, what its transaction came to, if one was made, and in
--                            which the host heard r
--     made_in hand r step ms .. by an event of this kind with this copy in hand: a write-back
--     sitds_after row w t    both after an event of this row of the controller in the world w
--     sitds_next fixed w t   .. after the next event of the controller of a world
--     sitds s k              both after k events and commands of the run of a script
--     IsPartMade u v x       a part of the OUT v was sent in microframe u, which leaves x: there is one part fewer to send, and so many
--                            bytes fewer, the microframe is marked, and with the last part it is no longer active
--     HasTaken v x n         x has taken n bytes of the IN v, and has no error bit more
--     IsCompleteMade u v m   m is a complete-split of the IN v in microframe u, which is marked: MDATA that v has room for are taken, and
--                            it goes on; DATA0 are taken, and it is no longer active; with NYET, but by the last, it goes on as it was
--     IsServed u v m         m is the transaction of the siTD v in microframe u: of an OUT a part; of an IN its start-split, after which
--                            complete-splits come, or a complete-split
--     AreServed u cs ms      what was made is what came, one for one
--     SitdsAreServed s       at each moment of the run of a script at which the walk of the frames is over, in a microframe that isn't
--                            held: so it is, where no more than 4 microseconds went for complete-splits that were made again
use Rattle.std.specs.Prelude.{◌≡◌, ℕ, ◌-◌, ◌≤◌, true, false, not, ◌&&◌, nat_le, List, [], ◌∷◌, length, Option, Some, None}
use Rattle.usb_base.specs.declared.packets.Pid.TheVariants.{Mdata, Data0, Nyet}
use Rattle.usb_base.specs.declared.packets.Reply.{Reply}
use Rattle.usb_base.specs.declared.packets.Reply.TheVariants as replies
use Rattle.script_types.specs.declared.scripts.Script.{Script}
use Rattle.itd_sitd.specs.declared.sitd.Sitd.{Sitd}
use Rattle.hc_masks.specs.Masks.{is_last, with_bit}
use Rattle.hc_iso.specs.declared.held.SitdTurn.{SitdTurn}
use Rattle.hc_iso.specs.declared.held.SitdTurn.TheVariants as turns
use Rattle.hc_iso.specs.declared.held.SplitOutcome.{SplitOutcome}
use Rattle.hc_iso.specs.Sitd.{sitd_turn, part_bytes}
use Rattle.hc_interrupt.specs.Turns.{microframe_of}
use Rattle.periodic_walk.specs.declared.chain.ChainRow.{ChainRow}
use Rattle.periodic_walk.specs.declared.chain.ChainRow.TheVariants as chains
use Rattle.periodic_walk.specs.declared.state.Hand.{Hand}
use Rattle.periodic_walk.specs.declared.state.Hand.TheVariants as hands
use Rattle.periodic_walk.specs.Chain.{chain_row}
use Rattle.hc_core.specs.declared.controller.ControllerRow.{ControllerRow}
use Rattle.hc_core.specs.declared.controller.ControllerRow.TheVariants as rows
use Rattle.hc_core.specs.declared.controller.HcStep.{HcStep}
use Rattle.hc_core.specs.declared.controller.HcStep.TheVariants as steps
use Rattle.bus_wire.specs.Bus.{Fixed, fixed_of}
use Rattle.bus_world.specs.Budgets.{moment}
use Rattle.bus_world.specs.World.{World, controller_row, kind_next}
use Rattle.claims_world.specs.Carried.{carried}
use Rattle.claims_world.specs.Visits.{IsPastFrames, is_held_now}
use Rattle.claims_world.specs.WithinLoad.{repeats}

pub record SitdMade : Type 0 where
  pub at : ℕ
  pub sitd : Sitd
  pub heard : Reply

pub record Sitds : Type 0 where
  pub came : List (ℕ × Sitd)
  pub made : List SitdMade

abbrev pub no_sitds : Sitds
no_sitds = record { came = []; made = [] }

-- ---- the walk comes to one

abbrev pub came_as : SitdTurn → ℕ → Sitd → List (ℕ × Sitd) → List (ℕ × Sitd)
came_as turns.Work a v cs = (a, v) ∷ cs
came_as turns.Rest a v cs = cs
came_as turns.Miss a v cs = cs

abbrev pub came_by : ℕ → ChainRow → List (ℕ × Sitd) → List (ℕ × Sitd)
came_by u chains.Fault cs = cs
came_by u chains.Ends cs = cs
came_by u (chains.Queue a q) cs = cs
came_by u (chains.Itd a v) cs = cs
came_by u (chains.Sitd a v) cs = came_as (sitd_turn u v) a v cs

abbrev pub came_at : Option Hand → ℕ → ChainRow → List (ℕ × Sitd) → List (ℕ × Sitd)
came_at None u row cs = came_by u row cs
came_at (Some hand) u row cs = cs

-- ---- its transaction is written back

abbrev pub made_as : Option SplitOutcome → ℕ → Sitd → Reply → List SitdMade → List SitdMade
made_as None a v r ms = ms
made_as (Some outcome) a v r ms = record { at = a; sitd = v; heard = r } ∷ ms

abbrev pub made_in : Option Hand → Reply → HcStep → List SitdMade → List SitdMade
made_in (Some (hands.Sitd h)) r steps.WriteBack ms = made_as h.settled h.at h.sitd r ms
made_in _ r step ms = ms

-- ---- along a run

abbrev pub sitds_after : ControllerRow → World → Sitds → Sitds
sitds_after rows.Begin w t = no_sitds
sitds_after rows.Frame w t = record {
  came = came_at w.control.frame.hand (microframe_of w.control.frame.index) (chain_row w.memory w.control.frame.cursor) t.came;
  made = made_in w.control.frame.hand w.control.frame.reply (kind_next w) t.made;
}
sitds_after rows.Idle w t = t
sitds_after rows.Enter w t = t
sitds_after rows.Go w t = t
sitds_after rows.End w t = t

abbrev pub sitds_next : Fixed → World → Sitds → Sitds
sitds_next fixed w t = sitds_after (controller_row w) w t

abbrev pub sitds : Script → ℕ → Sitds
sitds s k = carried sitds_next s no_sitds k

-- ---- what a transaction leaves

pub record IsPartMade (u : ℕ) (v x : Sitd) : Type 0 where
  pub parts : x.t_count ≡ v.t_count - 1
  pub bytes : x.total ≡ v.total - part_bytes v
  pub marked : x.c_prog ≡ with_bit v.c_prog u
  pub active : x.active ≡ (v.active && not (nat_le v.t_count 1))

-- the error bits (3.4.3)
pub record HasTaken (v x : Sitd) (n : ℕ) : Type 0 where
  pub bytes : x.total ≡ v.total - n
  pub err : x.err ≡ v.err
  pub babble : x.babble ≡ v.babble
  pub transaction : x.xact_err ≡ v.xact_err
  pub missed : x.missed ≡ v.missed

pub record IsCompleteMade (u : ℕ) (v : Sitd) (m : SitdMade) : Type 0 where
  pub marked : m.sitd.c_prog ≡ with_bit v.c_prog u
  pub more : (bytes : List ℕ) → m.heard ≡ replies.Bytes Mdata bytes → length bytes ≤ v.total
      → HasTaken v m.sitd (length bytes) × (m.sitd.active ≡ v.active)
  pub last : (bytes : List ℕ) → m.heard ≡ replies.Bytes Data0 bytes → length bytes ≤ v.total
      → HasTaken v m.sitd (length bytes) × (m.sitd.active ≡ false)
  pub not_yet : m.heard ≡ replies.Hand Nyet → is_last v.cmask u ≡ false → HasTaken v m.sitd 0 × (m.sitd.active ≡ v.active)

pub record IsServed (u : ℕ) (v : Sitd) (m : SitdMade) : Type 0 where
  pub part : v.dir_in ≡ false → IsPartMade u v m.sitd
  pub started : v.dir_in ≡ true → v.split_state ≡ false → m.sitd.split_state ≡ true
  pub completed : v.dir_in ≡ true → v.split_state ≡ true → IsCompleteMade u v m

abbrev pub AreServed : ℕ → List (ℕ × Sitd) → List SitdMade → Type 0
AreServed u [] [] = Unit {0}
AreServed u (c ∷ cs) (m ∷ ms) = (m.at ≡ c.0) × (IsServed u c.1 m × AreServed u cs ms)
AreServed u _ _ = ⊥

-- 4,000,000 of the 125,000,000 ps of a microframe
abbrev pub SitdsAreServed : Script → Type 0
SitdsAreServed s = (k : ℕ) → IsPastFrames (moment s k).world → is_held_now (fixed_of s) (moment s k).world ≡ false → repeats s k ≤ 4000000
    → AreServed (microframe_of (moment s k).world.control.frame.index) (sitds s k).came (sitds s k).made
