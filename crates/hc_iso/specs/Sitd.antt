-- One microframe of a split-transaction isochronous transfer descriptor (EHCI 1.0, 3.4 and 4.12.3).
--     sitd_turn u v           what there is to do in microframe u
--     sitd_transaction v      its next transaction
--     sitd_outcome u v reply  what that comes to
--     sitd_after u v reply    the descriptor after it
--     missed_sitd v           the descriptor of which a microframe was missed
--     moved_sitd n v          after n bytes were moved, its place
use Rattle.std.specs.Prelude.{◌≡◌, ℕ, ◌+◌, ◌-◌, ◌*◌, ◌%◌, min, Bool, true, false, not, ◌&&◌, ◌||◌, ◌==◌, nat_le, Some, length, if◌then◌else◌}
use Rattle.usb_base.specs.Cost.{bus_time}
use Rattle.usb_base.specs.declared.packets.Ask.{Ask}
use Rattle.usb_base.specs.declared.packets.Dir.{Dir}
use Rattle.usb_base.specs.declared.packets.Dir.TheVariants as Directions
use Rattle.usb_base.specs.declared.packets.EpKind.TheVariants.{Iso}
use Rattle.usb_base.specs.declared.packets.DataPart.{DataPart}
use Rattle.usb_base.specs.declared.packets.DataPart.TheVariants.{All, Begin, Middle, End}
use Rattle.usb_base.specs.declared.packets.Pid.{Pid}
use Rattle.usb_base.specs.declared.packets.Pid.TheVariants.{In, Out, Data0, Mdata, Nyet, Err}
use Rattle.usb_base.specs.declared.packets.Reply.{Reply}
use Rattle.usb_base.specs.declared.packets.Reply.TheVariants.{Bytes, Hand}
use Rattle.usb_base.specs.declared.packets.Speed.TheVariants.{High, Full}
use Rattle.usb_base.specs.declared.packets.Split.{Split}
use Rattle.usb_base.specs.declared.packets.Split.TheVariants.{Start, Complete}
use Rattle.usb_base.specs.Limits.{byte_times_of_microframe}
use Rattle.itd_sitd.specs.declared.sitd.Sitd.{Sitd}
use Rattle.itd_sitd.specs.Sitd.{IsSitdInRange}
use Rattle.hc_masks.specs.Masks.{has, is_first, is_last, lacks, with_bit}
use Rattle.hc_iso.specs.declared.held.HeldSitd.{HeldSitd}
use Rattle.hc_iso.specs.declared.held.IsoTransaction.{IsoTransaction}
use Rattle.hc_iso.specs.declared.held.SplitOutcome.{SplitOutcome}
use Rattle.hc_iso.specs.declared.held.SplitOutcome.TheVariants.{Moved, Nothing, Failed}
use Rattle.hc_iso.specs.declared.held.SplitHeard.{SplitHeard}
use Rattle.hc_iso.specs.declared.held.SplitHeard.TheVariants as heards
use Rattle.hc_iso.specs.declared.held.SitdTurn.{SitdTurn}
use Rattle.hc_iso.specs.declared.held.SitdTurn.TheVariants.{Rest, Work, Miss}

pub record IsSitdHeld (h : HeldSitd) : Type 0 where
  pub aligned : h.at % 32 ≡ 0
  pub range : IsSitdInRange h.sitd

-- ---- what there is to do

-- the mask whose microframes are marked as done: of complete-splits for an IN, of start-splits for an OUT
abbrev pub marked_mask : Sitd → ℕ
marked_mask v = if v.dir_in then v.cmask else v.smask

-- its split transaction is under way
abbrev pub is_begun : Sitd → Bool
is_begun v = if v.dir_in then v.split_state else not (v.c_prog == 0)

-- and one of its microframes before this one was missed
abbrev pub sitd_missed : ℕ → Sitd → Bool
sitd_missed u v = is_begun v && lacks (marked_mask v) v.c_prog u

-- A transaction comes in this microframe: an IN's start-split, and once it is in Do-Complete its complete-splits; an OUT's parts, of which
-- the first comes in the first microframe of the S-mask only.
abbrev pub in_comes : ℕ → Sitd → Bool
in_comes u v = if v.split_state then has v.cmask u else has v.smask u

abbrev pub out_comes : ℕ → Sitd → Bool
out_comes u v = if v.c_prog == 0 then is_first v.smask u else has v.smask u

abbrev pub comes : ℕ → Sitd → Bool
comes u v = if v.dir_in then in_comes u v else out_comes u v

abbrev pub turn_at : Bool → Bool → Bool → SitdTurn
turn_at false _ _ = Rest
turn_at true true _ = Miss
turn_at true false true = Work
turn_at true false false = Rest

abbrev pub sitd_turn : ℕ → Sitd → SitdTurn
sitd_turn u v = turn_at v.active (sitd_missed u v) (comes u v)

-- ---- the transaction

-- the transaction position (3.4.4)
abbrev pub sent_part : ℕ → DataPart
sent_part tp = if tp == 0 then All else if tp == 1 then Begin else if tp == 2 then Middle else End

-- a part has at most 188 bytes, as many as a full-speed bus moves in a microframe (USB 2.0, 11.18.4)
abbrev pub part_bytes : Sitd → ℕ
part_bytes v = min byte_times_of_microframe v.total

abbrev pub sitd_ask : Sitd → Split → Pid → Ask
sitd_ask v split pid = record {
  split = split;
  pid = pid;
  addr = v.addr;
  ep = v.ep;
  speed = Full;
  kind = Iso;
  toggle = Data0;
  limit = v.total;
}

-- on the host's bus it is a high-speed isochronous transaction
abbrev pub sitd_with : Ask → Dir → ℕ → ℕ → IsoTransaction
sitd_with ask dir bytes priced = record { ask = ask; bytes = bytes; price = record { 0 = bus_time High Iso dir priced } }

abbrev pub sitd_in : Sitd → IsoTransaction
sitd_in v =
    if v.split_state then sitd_with (sitd_ask v (Complete v.hub v.port) In) Directions.In 0 (part_bytes v)
    else sitd_with (sitd_ask v (Start v.hub v.port All) In) Directions.In 0 0

abbrev pub sitd_out : Sitd → IsoTransaction
sitd_out v = sitd_with (sitd_ask v (Start v.hub v.port (sent_part v.tp)) Out) Directions.Out (part_bytes v) (part_bytes v)

abbrev pub sitd_transaction : Sitd → IsoTransaction
sitd_transaction v = if v.dir_in then sitd_in v else sitd_out v

-- ---- what a complete-split heard (4.12.3.3)

abbrev pub heard_data : Bool → ℕ → ℕ → SplitHeard
heard_data last n total = if nat_le n total then heards.Data last n else heards.TooLong

-- the last complete-split of the frame has no more time for the data
abbrev pub heard_nyet : Bool → SplitHeard
heard_nyet true = heards.Wrong
heard_nyet false = heards.Later

abbrev pub split_heard : Bool → ℕ → Reply → SplitHeard
split_heard last total (Bytes Mdata bytes) = heard_data false (length bytes) total
split_heard last total (Bytes Data0 bytes) = heard_data true (length bytes) total
split_heard last total (Hand Nyet) = heard_nyet last
split_heard last total (Hand Err) = heards.Error
split_heard _ _ _ = heards.Wrong

abbrev pub heard_outcome : SplitHeard → SplitOutcome
heard_outcome (heards.Data last n) = Moved n
heard_outcome heards.Later = Nothing
heard_outcome heards.TooLong = Failed
heard_outcome heards.Error = Failed
heard_outcome heards.Wrong = Failed

-- ---- the descriptor after it

abbrev pub after_split_heard : SplitHeard → Sitd → Sitd
after_split_heard (heards.Data last n) v = record v { total = v.total - n; active = v.active && not last }
after_split_heard heards.Later v = v
after_split_heard heards.TooLong v = record v { babble = true; active = false }
after_split_heard heards.Error v = record v { err = true; active = false }
after_split_heard heards.Wrong v = record v { xact_err = true; active = false }

-- this microframe is done
abbrev pub marked : ℕ → Sitd → Sitd
marked u v = record v { c_prog = with_bit v.c_prog u }

unfoldable pub after_complete : ℕ → SplitHeard → Sitd → Sitd
after_complete u heard v = marked u (after_split_heard heard v)

-- the answer to a start-split isn't looked at
unfoldable pub after_start : Sitd → Sitd
after_start v = record v { split_state = true }

-- the parts that are left after this one, and the position of the next of them
abbrev pub next_position : Sitd → ℕ
next_position v = if nat_le v.t_count 1 then v.tp else if v.t_count == 2 then 3 else 2

unfoldable pub after_part : ℕ → Sitd → Sitd
after_part u v =
    marked u (record v {
      total = v.total - part_bytes v;
      t_count = v.t_count - 1;
      tp = next_position v;
      active = v.active && not (nat_le v.t_count 1);
    })

abbrev pub heard_by : ℕ → Sitd → Reply → SplitHeard
heard_by u v reply = split_heard (is_last v.cmask u) v.total reply

abbrev pub in_after : ℕ → Reply → Sitd → Sitd
in_after u reply v = if v.split_state then after_complete u (heard_by u v reply) v else after_start v

abbrev pub sitd_after : ℕ → Reply → Sitd → Sitd
sitd_after u reply v = if v.dir_in then in_after u reply v else after_part u v

abbrev pub in_outcome : ℕ → Reply → Sitd → SplitOutcome
in_outcome u reply v = if v.split_state then heard_outcome (heard_by u v reply) else Nothing

abbrev pub sitd_outcome : ℕ → Reply → Sitd → SplitOutcome
sitd_outcome u reply v = if v.dir_in then in_outcome u reply v else Moved (part_bytes v)

abbrev pub sitd_copy : ℕ → Reply → HeldSitd → HeldSitd
sitd_copy u reply h = record h { sitd = sitd_after u reply h.sitd; settled = Some (sitd_outcome u reply h.sitd) }

-- ---- a miss

unfoldable pub missed_sitd : Sitd → Sitd
missed_sitd v = record v { missed = true; active = false }

abbrev pub missed_copy : HeldSitd → HeldSitd
missed_copy h = record h { sitd = missed_sitd h.sitd; settled = Some Failed }

-- ---- the place in the buffer (3.4.4): the second page is the last

abbrev pub bit : Bool → ℕ
bit false = 0
bit true = 1

abbrev pub sitd_place : Sitd → ℕ
sitd_place v = bit v.page_select * 4096 + v.offset

unfoldable pub moved_sitd : ℕ → Sitd → Sitd
moved_sitd n v = record v {
  offset = (v.offset + n) % 4096;
  page_select = v.page_select || nat_le 4096 (v.offset + n);
}
