-- Keys of isochronous OUTs, and what a part of one leaves of its own key (USB 2.0, 11.18.4; EHCI 1.0, 3.4.4 and 4.12.3).
use Rattle.std.proofs.Common.{◌≡◌, ℕ, Bool, true, false, List, refl, sym, ap, ◌∙◌, if◌then◌else◌}
use Rattle.std.specs.Prelude.{◌==◌, ◌&&◌}
use Rattle.law_common.proofs.Booleans.{and_false}
use Rattle.law_microframes.proofs.Common.{heard_way}
use Rattle.usb_base.specs.declared.packets.Ask.{Ask}
use Rattle.usb_base.specs.declared.packets.DataPart.{DataPart}
use Rattle.usb_base.specs.declared.packets.DataPart.TheVariants as parts
use Rattle.usb_base.specs.declared.packets.Dir.TheVariants as dirs
use Rattle.usb_base.specs.declared.packets.EpKind.{EpKind}
use Rattle.usb_base.specs.declared.packets.EpKind.TheVariants as kinds
use Rattle.usb_base.specs.declared.packets.Pid.TheVariants as pids
use Rattle.usb_base.specs.declared.packets.Reply.{Reply}
use Rattle.usb_base.specs.declared.packets.Split.TheVariants as splits
use Rattle.hub_keys.specs.Keys.{key_of, is_same_key, is_same_direction, is_same_kind, direction_of}
use Rattle.hub_keys.specs.declared.key.Key.{Key}
use Rattle.itd_sitd.specs.declared.sitd.Sitd.{Sitd}
use Rattle.hc_iso.specs.declared.held.IsoTransaction.{IsoTransaction}
use Rattle.hc_iso.specs.Sitd.{sitd_after, after_part, part_bytes, sitd_ask, sitd_with, sitd_out, sitd_in, sitd_transaction, in_after, after_complete, after_start, heard_by}
use Rattle.tt_pipeline.specs.Work.{asked_part}
use Rattle.bus_wire.specs.Bus.{Bus, Fixed, transact_after}
use Rattle.law_microframes.specs.time.SitdParts.{position_of, IsInParts}
use Rattle.law_microframes.specs.translators.Parts.{EachOf, Lacks, key_asked}
use Rattle.law_microframes.specs.translators.Turns.{pipeline_for}
use Rattle.law_microframes.proofs.lemmas.translators.Parts.{part_of, still_left}
use Rattle.law_microframes.proofs.lemmas.translators.SitdStarts.{out_transaction}
use Rattle.law_microframes.proofs.lemmas.translators.TurnsAsks.{begin_asks}
use Rattle.law_microframes.proofs.lemmas.translators.TurnsWalk.{AsksAnother}

-- ---- keys

not_iso : (k : EpKind) → (k ≡ kinds.Iso → ⊥) → is_same_kind k kinds.Iso ≡ false
not_iso kinds.Control differs = refl
not_iso kinds.Iso differs = absurd (differs refl)
not_iso kinds.Bulk differs = refl
not_iso kinds.Interrupt differs = refl

-- a start of an endpoint that isn't isochronous is of another key
pub other_key : (ask : Ask) (k : Key) (hub port : ℕ) (part : DataPart) → AsksAnother ask → k.kind ≡ kinds.Iso
    → ask.split ≡ splits.Start hub port part → is_same_key (key_of ask) k ≡ false
other_key ask k hub port part another iso split =
    ap (λ (kind : EpKind). ask.addr == k.addr && ask.ep == k.ep && is_same_direction (direction_of ask.pid) k.dir && is_same_kind ask.kind kind)
    iso
    ∙ ap (λ (b : Bool). ask.addr == k.addr && ask.ep == k.ep && is_same_direction (direction_of ask.pid) k.dir && b)
    (not_iso ask.kind (another hub port part split))
    ∙ and_false _

-- each transaction of a siTD of an IN has the key of one
in_way : (v : Sitd) → (key_of (sitd_in v).ask).dir ≡ dirs.In
in_way v = by v.split_state
  where
    by : (c : Bool) → (key_of (if c then sitd_with (sitd_ask v (splits.Complete v.hub v.port) pids.In) dirs.In 0 (part_bytes v)
        else sitd_with (sitd_ask v (splits.Start v.hub v.port parts.All) pids.In) dirs.In 0 0).ask).dir ≡ dirs.In
    by true = refl
    by false = refl

pub way_by_key : (v : Sitd) (k : Key) → key_of (sitd_transaction v).ask ≡ k → k.dir ≡ dirs.Out → v.dir_in ≡ false
way_by_key v k is out = by v.dir_in refl
  where
    by : (b : Bool) → v.dir_in ≡ b → v.dir_in ≡ false
    by true way =
        let inward : (key_of (sitd_transaction v).ask).dir ≡ dirs.In =
        ap (λ (c : Bool). (key_of (if c then sitd_in v else sitd_out v).ask).dir) way ∙ in_way v in
        absurd (let e = sym inward ∙ ap (λ (z : Key). z.dir) is ∙ out in cc)
    by false way = way

-- ---- after a transaction

in_way_after : (u : ℕ) (reply : Reply) (v : Sitd) → (in_after u reply v).dir_in ≡ v.dir_in
unfolding after_complete after_start
in_way_after u reply v = by v.split_state
  where
    by : (c : Bool) → (if c then after_complete u (heard_by u v reply) v else after_start v).dir_in ≡ v.dir_in
    by true = heard_way (heard_by u v reply) v
    by false = refl

pub way_after : (u : ℕ) (reply : Reply) (v : Sitd) → (sitd_after u reply v).dir_in ≡ v.dir_in
unfolding after_part
way_after u reply v = by v.dir_in refl
  where
    by : (b : Bool) → v.dir_in ≡ b → (if b then in_after u reply v else after_part u v).dir_in ≡ v.dir_in
    by true is = in_way_after u reply v
    by false is = refl

pub out_after : (u : ℕ) (reply : Reply) (v : Sitd) → v.dir_in ≡ false
    → (key_asked (sitd_after u reply v) ≡ key_asked v) × (((sitd_after u reply v).hub ≡ v.hub) × ((sitd_after u reply v).port ≡ v.port))
unfolding after_part
out_after u reply v way =
    let is : sitd_after u reply v ≡ after_part u v = ap (λ (b : Bool). if b then in_after u reply v else after_part u v) way in
    let key : key_asked (after_part u v) ≡ key_asked v =
    ap (λ (z : IsoTransaction). key_of z.ask) (out_transaction (after_part u v) way)
    ∙ sym (ap (λ (z : IsoTransaction). key_of z.ask) (out_transaction v way)) in (
      ap key_asked is ∙ key,
      (ap (λ (z : Sitd). z.hub) is, ap (λ (z : Sitd). z.port) is),
    )

-- ---- the first part of a frame, where another comes behind it

pub first_position : (v : Sitd) (most u : ℕ) (reply : Reply) → IsInParts v most → v.active ≡ true → v.dir_in ≡ false
    → (v.c_prog == 0) ≡ true → (sitd_after u reply v).active ≡ true → asked_part (sitd_transaction v).ask ≡ parts.Begin
first_position v most u reply of active way none on =
    let at = of.position active way in
    let first = part_of true v (at ∙ ap (λ (c : Bool). position_of c v.t_count) none) (still_left v u reply way on) in
    ap (λ (z : IsoTransaction). asked_part z.ask) (out_transaction v way) ∙ first

pub first_part_leaves : (v : Sitd) (fixed : Fixed) (b : Bus) (out : List ℕ) → v.dir_in ≡ false
    → asked_part (sitd_transaction v).ask ≡ parts.Begin → (hub port : ℕ) → EachOf Lacks (key_asked v) (pipeline_for b.hubs hub port)
    → EachOf Lacks (key_asked v) (pipeline_for (transact_after fixed b (sitd_transaction v).ask out).hubs hub port)
first_part_leaves v fixed b out way first hub port all = begin_asks fixed b (sitd_transaction v).ask out first hub port all
