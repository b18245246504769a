-- The copy of a siTD that a transaction changed, or of which a microframe was missed, is one of the same siTD.
use Rattle.std.proofs.Common.{◌≡◌, ℕ, ◌+◌, ◌<◌, Bool, true, false, if◌then◌else◌, length, slice_index, Option, None, ap, refl, sym, subst, ◌∙◌, arith}
use Rattle.std.specs.Prelude.{nat_le}
use Rattle.std.proofs.lemmas.Bool.{leb-true}
use Rattle.law_frames.proofs.Common.{missing}
use Rattle.usb_base.specs.declared.packets.Pid.TheVariants as pids
use Rattle.usb_base.specs.declared.packets.Reply.{Reply}
use Rattle.usb_base.specs.declared.packets.Reply.TheVariants.{Silent, Bytes, Hand}
use Rattle.word_mem.specs.Memory.{Mem}
use Rattle.link_words.specs.declared.fields.LinkBits.{LinkBits}
use Rattle.link_words.specs.Links.{link_of}
use Rattle.itd_sitd.specs.declared.sitd.Sitd.{Sitd}
use Rattle.itd_sitd.specs.Sitd.{IsSitdInRange}
use Rattle.hc_iso.specs.declared.held.SitdTurn.TheVariants as turns
use Rattle.hc_iso.specs.declared.held.SplitHeard.{SplitHeard}
use Rattle.hc_iso.specs.declared.held.SplitHeard.TheVariants as heards
use Rattle.hc_iso.specs.declared.held.SplitOutcome.{SplitOutcome}
use Rattle.hc_iso.specs.declared.held.SplitOutcome.TheVariants as outcomes
use Rattle.hc_iso.specs.Sitd.{turn_at, sitd_turn, sitd_missed, comes, part_bytes, split_heard, heard_outcome, after_split_heard, heard_by, after_complete, after_start, after_part, sitd_after, sitd_outcome, missed_sitd}
use Rattle.hc_iso.specs.WriteBack.{moved_by, bytes_of, sitd_received}
use Rattle.hc_iso.proofs.Ranges.{part_in_range, complete_in_range, start_in_range}
use Rattle.law_structures.specs.lent_structures.Structures.{StructureSets}
use Rattle.law_frames.specs.Met.{Kind, LeadsTo}
use Rattle.law_frames.specs.FrameHand.{SitdCopy}
use Rattle.law_frames.specs.Frame.{received_of, turned, IsTurned, IsCopiedSitd}
use Rattle.law_frames.proofs.PartTurning.{turn_same, miss_same}
use Rattle.law_frames.specs.SitdBacks.{IsSitdInHand, transacted, missed}

-- ---- its turn

working : (b lost now : Bool) → turn_at b lost now ≡ turns.Work → b ≡ true
working true lost now is = refl
working false lost now is = cc

pub works_active : (u : ℕ) (v : Sitd) → sitd_turn u v ≡ turns.Work → v.active ≡ true
works_active u v is = working v.active (sitd_missed u v) (comes u v) is

pub misses_active : (u : ℕ) (v : Sitd) → sitd_turn u v ≡ turns.Miss → v.active ≡ true
misses_active u v is = missing v.active (sitd_missed u v) (comes u v) is

-- ---- what a complete-split heard

-- the bytes that are left, and the bytes that came
record HeardFits (heard : SplitHeard) (v : Sitd) (reply : Reply) : Type 0 where
  left : (after_split_heard heard v).total + moved_by (heard_outcome heard) ≡ v.total
  count : length (sitd_received true (heard_outcome heard) reply) ≡ moved_by (heard_outcome heard)

data_fits : (last : Bool) (v : Sitd) (reply : Reply) (n : ℕ) (b : Bool) → nat_le n v.total ≡ b → length (bytes_of reply) ≡ n → HeardFits (if b then heards.Data last n else heards.TooLong) v reply
data_fits last v reply n true le long = let fits = leb-true n v.total le in record { left = omega (arith, fits); count = long }
data_fits last v reply n false le long = record { left = omega arith; count = refl }

nyet_fits : (last : Bool) (v : Sitd) (reply : Reply) → HeardFits (if last then heards.Wrong else heards.Later) v reply
nyet_fits true v reply = record { left = omega arith; count = refl }
nyet_fits false v reply = record { left = omega arith; count = refl }

wrong_fits : (v : Sitd) (reply : Reply) → HeardFits heards.Wrong v reply
wrong_fits v reply = record { left = omega arith; count = refl }

heard_fits : (last : Bool) (v : Sitd) (reply : Reply) → HeardFits (split_heard last v.total reply) v reply
heard_fits last v Silent = wrong_fits v Silent
heard_fits last v (Bytes pids.Out bs) = wrong_fits v (Bytes pids.Out bs)
heard_fits last v (Bytes pids.In bs) = wrong_fits v (Bytes pids.In bs)
heard_fits last v (Bytes pids.Sof bs) = wrong_fits v (Bytes pids.Sof bs)
heard_fits last v (Bytes pids.Setup bs) = wrong_fits v (Bytes pids.Setup bs)
heard_fits last v (Bytes pids.Data0 bs) = data_fits true v (Bytes pids.Data0 bs) (length bs) (nat_le (length bs) v.total) refl refl
heard_fits last v (Bytes pids.Data1 bs) = wrong_fits v (Bytes pids.Data1 bs)
heard_fits last v (Bytes pids.Data2 bs) = wrong_fits v (Bytes pids.Data2 bs)
heard_fits last v (Bytes pids.Mdata bs) = data_fits false v (Bytes pids.Mdata bs) (length bs) (nat_le (length bs) v.total) refl refl
heard_fits last v (Bytes pids.Ack bs) = wrong_fits v (Bytes pids.Ack bs)
heard_fits last v (Bytes pids.Nak bs) = wrong_fits v (Bytes pids.Nak bs)
heard_fits last v (Bytes pids.Stall bs) = wrong_fits v (Bytes pids.Stall bs)
heard_fits last v (Bytes pids.Nyet bs) = wrong_fits v (Bytes pids.Nyet bs)
heard_fits last v (Bytes pids.Err bs) = wrong_fits v (Bytes pids.Err bs)
heard_fits last v (Bytes pids.Split bs) = wrong_fits v (Bytes pids.Split bs)
heard_fits last v (Bytes pids.Ping bs) = wrong_fits v (Bytes pids.Ping bs)
heard_fits last v (Hand pids.Out) = wrong_fits v (Hand pids.Out)
heard_fits last v (Hand pids.In) = wrong_fits v (Hand pids.In)
heard_fits last v (Hand pids.Sof) = wrong_fits v (Hand pids.Sof)
heard_fits last v (Hand pids.Setup) = wrong_fits v (Hand pids.Setup)
heard_fits last v (Hand pids.Data0) = wrong_fits v (Hand pids.Data0)
heard_fits last v (Hand pids.Data1) = wrong_fits v (Hand pids.Data1)
heard_fits last v (Hand pids.Data2) = wrong_fits v (Hand pids.Data2)
heard_fits last v (Hand pids.Mdata) = wrong_fits v (Hand pids.Mdata)
heard_fits last v (Hand pids.Ack) = wrong_fits v (Hand pids.Ack)
heard_fits last v (Hand pids.Nak) = wrong_fits v (Hand pids.Nak)
heard_fits last v (Hand pids.Stall) = wrong_fits v (Hand pids.Stall)
heard_fits true v (Hand pids.Nyet) = wrong_fits v (Hand pids.Nyet)
heard_fits false v (Hand pids.Nyet) = nyet_fits false v (Hand pids.Nyet)
heard_fits last v (Hand pids.Err) = record { left = omega arith; count = refl }
heard_fits last v (Hand pids.Split) = wrong_fits v (Hand pids.Split)
heard_fits last v (Hand pids.Ping) = wrong_fits v (Hand pids.Ping)

-- ---- what a transaction moved

record Moves (after : Sitd) (o : SplitOutcome) (dir_in : Bool) (total : ℕ) (reply : Reply) : Type 0 where
  left : after.total + moved_by o ≡ total
  count : length (sitd_received dir_in o reply) ≡ received_of dir_in (moved_by o)

moves_at : (u : ℕ) (v : Sitd) (reply : Reply) (dir split : Bool)
    → Moves (if dir then (if split then after_complete u (heard_by u v reply) v else after_start v) else after_part u v)
    (if dir then (if split then heard_outcome (heard_by u v reply) else outcomes.Nothing) else outcomes.Moved (part_bytes v)) dir v.total reply
unfolding after_complete after_start after_part
moves_at u v reply true true = let fits = heard_fits _ v reply in record { left = fits.left; count = fits.count }
moves_at u v reply true false = record { left = omega arith; count = refl }
moves_at u v reply false split = record { left = omega arith; count = refl }

moves : (u : ℕ) (v : Sitd) (reply : Reply) → Moves (sitd_after u reply v) (sitd_outcome u reply v) v.dir_in v.total reply
moves u v reply = moves_at u v reply v.dir_in v.split_state

received_small : (dir : Bool) (o : SplitOutcome) (reply : Reply) → ((i : ℕ) → slice_index (bytes_of reply) i < 256) → (i : ℕ) → slice_index (sitd_received dir o reply) i < 256
received_small true (outcomes.Moved n) reply small i = small i
received_small true outcomes.Nothing reply small i = omega arith
received_small true outcomes.Failed reply small i = omega arith
received_small false o reply small i = omega arith

-- ---- the copy

-- nothing of it was changed but its link, before its transaction
pub unmoved : (met : ℕ → Option Kind) (parts : StructureSets) (reply : Reply) (c : SitdCopy) → IsCopiedSitd met parts reply c → c.held.settled ≡ None
    → record c.held.sitd { link = c.sitd.link } ≡ c.sitd
unmoved met parts reply c copied none = subst (λ (o : Option SplitOutcome). IsTurned c reply o) none copied.turn

same_turned : (v w d : Sitd) (l : LinkBits) → record v { link = l } ≡ d → turned v w ≡ w → record (turned d w) { link = w.link } ≡ w
same_turned v w d l copy turn = ap (λ (x : Sitd). record (turned x w) { link = w.link }) (sym copy) ∙ ap (λ (z : Sitd). record z { link = w.link }) turn

after_range_at : (u : ℕ) (v : Sitd) (reply : Reply) (dir split : Bool) → u < 8 → IsSitdInRange v
    → IsSitdInRange (if dir then (if split then after_complete u (heard_by u v reply) v else after_start v) else after_part u v)
after_range_at u v reply true true low range = complete_in_range u (heard_by u v reply) v low range
after_range_at u v reply true false low range = start_in_range v range
after_range_at u v reply false split low range = part_in_range u v low range

after_range : (u : ℕ) (v : Sitd) (reply : Reply) → u < 8 → IsSitdInRange v → IsSitdInRange (sitd_after u reply v)
after_range u v reply low range = after_range_at u v reply v.dir_in v.split_state low range

pub transacted_copy : (met : ℕ → Option Kind) (parts : StructureSets) (before reply : Reply) (c : SitdCopy) (u : ℕ) → IsCopiedSitd met parts before c → c.held.settled ≡ None
    → sitd_turn u c.held.sitd ≡ turns.Work → u < 8
    → ((i : ℕ) → slice_index (bytes_of reply) i < 256) → IsCopiedSitd met parts reply (transacted u reply c)
transacted_copy met parts before reply c u copied none turn low small =
    let v : Sitd = c.held.sitd in
    let w : Sitd = sitd_after u reply v in
    let o : SplitOutcome = sitd_outcome u reply v in
    let copy = unmoved met parts before c copied none in
    let same : turned v w ≡ w = turn_same u reply v in
    let moved = moves u v reply in
    let dir : v.dir_in ≡ w.dir_in = ap (λ (x : Sitd). x.dir_in) same in
    let whole = ap (λ (x : Sitd). x.total) copy in
    let left = moved.left in
    record {
      on = copied.on;
      here = copied.here;
      link = subst (λ (l : LinkBits). LeadsTo met (link_of l)) (ap (λ (x : Sitd). x.link) same) copied.link;
      range = after_range u v reply low copied.range;
      turn = record {
        works = sym (ap (λ (x : Sitd). x.active) copy) ∙ works_active u v turn;
        same = same_turned v w c.sitd c.sitd.link copy same;
        left = omega (arith, left, whole);
        count = subst (λ (b : Bool). length (sitd_received b o reply) ≡ received_of b (moved_by o)) dir moved.count;
        small = received_small w.dir_in o reply small;
      };
    }

-- ---- a miss

missed_kept : (v : Sitd) → ((missed_sitd v).total ≡ v.total) × ((missed_sitd v).link ≡ v.link)
unfolding missed_sitd
missed_kept v = (refl, refl)

missed_range : (v : Sitd) → IsSitdInRange v → IsSitdInRange (missed_sitd v)
unfolding missed_sitd
missed_range v range = range

none_received : (dir : Bool) (reply : Reply) → length (sitd_received dir outcomes.Failed reply) ≡ received_of dir 0
none_received true reply = refl
none_received false reply = refl

none_small : (dir : Bool) (reply : Reply) (i : ℕ) → slice_index (sitd_received dir outcomes.Failed reply) i < 256
none_small true reply i = omega arith
none_small false reply i = omega arith

pub missed_copied : (met : ℕ → Option Kind) (parts : StructureSets) (before reply : Reply) (c : SitdCopy) (u : ℕ) → IsCopiedSitd met parts before c → c.held.settled ≡ None
    → sitd_turn u c.held.sitd ≡ turns.Miss → IsCopiedSitd met parts reply (missed c)
missed_copied met parts before reply c u copied none turn =
    let v : Sitd = c.held.sitd in
    let w : Sitd = missed_sitd v in
    let copy = unmoved met parts before c copied none in
    let kept = missed_kept v in
    let total = kept.0 in
    let whole = ap (λ (x : Sitd). x.total) copy in
    record {
      on = copied.on;
      here = copied.here;
      link = subst (λ (l : LinkBits). LeadsTo met (link_of l)) (sym kept.1) copied.link;
      range = missed_range v copied.range;
      turn = record {
        works = sym (ap (λ (x : Sitd). x.active) copy) ∙ misses_active u v turn;
        same = same_turned v w c.sitd c.sitd.link copy (miss_same v);
        left = omega (arith, total, whole);
        count = none_received w.dir_in reply;
        small = none_small w.dir_in reply;
      };
    }

-- ---- in hand

pub transacted_is_in_hand : (met : ℕ → Option Kind) (parts : StructureSets) (m : Mem) (before reply : Reply) (c : SitdCopy) (u : ℕ) → IsSitdInHand met parts m before c → c.held.settled ≡ None
    → sitd_turn u c.held.sitd ≡ turns.Work → u < 8
    → ((i : ℕ) → slice_index (bytes_of reply) i < 256) → IsSitdInHand met parts m reply (transacted u reply c)
transacted_is_in_hand met parts m before reply c u k none turn low small = record {
  tells = k.tells;
  is_met = k.is_met;
  copied = transacted_copy met parts before reply c u k.copied none turn low small;
}

pub missed_is_in_hand : (met : ℕ → Option Kind) (parts : StructureSets) (m : Mem) (before reply : Reply) (c : SitdCopy) (u : ℕ) → IsSitdInHand met parts m before c → c.held.settled ≡ None
    → sitd_turn u c.held.sitd ≡ turns.Miss → IsSitdInHand met parts m reply (missed c)
missed_is_in_hand met parts m before reply c u k none turn = record {
  tells = k.tells;
  is_met = k.is_met;
  copied = missed_copied met parts before reply c u k.copied none turn;
}
