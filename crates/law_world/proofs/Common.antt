-- Lemmas that several files need.
use Rattle.std.proofs.Common.{ℕ, List, Option, Some, ◌≡◌, Bool, cond, true, false, refl, None, ◌≢◌, ap, if◌then◌else◌, ◌||◌, ⊎_elim, inl, inr, Ok, ◌∷◌, [], zero, suc, ◌/◌, ◌*◌, arith, ◌++◌, sym, ◌∙◌, ◌≤◌, ◌-◌, take, length, ◌+◌, length-append, ◌&&◌, not, max, ◌<◌, slice_get, ◌==◌, drop, subst, filter_map}
use Rattle.std.specs.Prelude.{◌⊎◌, nat_le, find}
use Rattle.std.proofs.lemmas.Bool.{cases_eq, false≢true, cases_lt, eq-eqb, eqb-true, or_cases}
use Rattle.std.specs.List.{AllByRecursion}
use Rattle.std.proofs.lemmas.List.{append_assoc}
use Rattle.std.proofs.Math.Seq.{take-append_seam}
use Rattle.std.proofs.Math.Nat.{lt-div-mul-add}
use Rattle.std.proofs.lemmas.Option.{same_Some}
use Rattle.usb_base.specs.declared.packets.EpKind.{EpKind}
use Rattle.usb_base.specs.declared.packets.Speed.{Speed}
use Rattle.usb_base.specs.declared.commands.Cmd.{Cmd}
use Rattle.usb_base.specs.declared.endpoints.EpName.{EpName}
use Rattle.usb_base.specs.declared.packets.Way.{Way}
use Rattle.script_types.specs.declared.scripts.Line.{Line}
use Rattle.endpoint_script.specs.Device.{Device}
use Rattle.word_mem.specs.Runs.{Run}
use Rattle.mem_runs.specs.Book.{Holding, slot_at}
use Rattle.mem_runs.specs.declared.slots.Slot.TheVariants.{Keeps, Lends}
use Rattle.mem_runs.specs.declared.slots.Slot.{Slot}
use Rattle.op_registers.specs.RegisterFile.{RegisterFile}
use Rattle.law_common.proofs.Numbers.{other_number as not_same}
use Rattle.law_common.proofs.Lists.{first_found, pushed_last}
use Rattle.law_common.proofs.Booleans.{owed_by}
use Rattle.claims_base.specs.Prefix.{IsPrefix}
use Rattle.bus_wire.specs.Fates.{is_same_name}
use Rattle.claims_report.specs.Streams.{has_stream, is_refused}
use Rattle.claims_report.specs.Reports.{WholeReport, taken_in, Pending}
use Rattle.bandwidth.specs.Placements.{most_multi}
use Rattle.itd_sitd.specs.declared.sitd.Sitd.{Sitd}
use Rattle.itd_sitd.specs.declared.itd.Itd.{Itd}
use Rattle.qh_qtd.specs.declared.queue_head.Qh.{Qh}
use Rattle.qh_qtd.specs.declared.qtd.Qtd.{Qtd}
use Rattle.drv_table.specs.declared.content.Command.{Command}
use Rattle.drv_table.specs.DriverContent.{DriverContent, waits_for}
use Rattle.drv_table.specs.declared.content.Transfer.{Transfer}
use Rattle.drv_table.specs.Releases.{let_go}
use Rattle.drv_table.specs.Words.{is_control, pieces, dummy_qtd, queue_head_link}
use Rattle.drv_table.specs.Accepting.{take_runs, oldest_of}
use Rattle.drv_table.specs.Harvests.{moved_of}
use Rattle.drv_table.specs.declared.content.Endpoint.{Endpoint}
use Rattle.drv_table.specs.Parts.{Parts}
use Rattle.drv_table.specs.Removals.{after_descriptor, after_placed}
use Rattle.drv_table.specs.Kinds.{is_iso}
use Rattle.drv_table.specs.Harvesting.{behind_one}
use Rattle.drv_table.specs.FrameChoice.{framed_by}
use Rattle.async_walk.specs.declared.state.WalkStep.{WalkStep}
use Rattle.periodic_walk.specs.Walk.{Walk as FrameWalk, is_over}
use Rattle.hc_core.specs.Controller.{hc_step, enter_row, ring_row, part_row}
use Rattle.hc_core.specs.declared.controller.MicroframePart.{MicroframePart}
use Rattle.hc_core.specs.declared.controller.MicroframePart.TheVariants.{Over, Periodic, Asynchronous}
use Rattle.law_structures.specs.lent_structures.Structures.{Structure, QueueHead, SplitIsochronous, Isochronous, Has, Structures}
use Rattle.law_ring.specs.Hand.{Hand, Empty}
use Rattle.law_ring.specs.Sparing.{SameHand}
use Rattle.law_ring.proofs.SparedSparing.{linked_hand_is_same}
use Rattle.law_ring.specs.Order.{IsSorted}
use Rattle.law_ring.specs.Stores.{hand_stale}
use Rattle.law_ring.specs.Pipes.{grown}
use Rattle.law_frames.specs.Met.{Kind}
use Rattle.law_controller.specs.frame_stores.Stores.{HasLink}
use Rattle.law_controller.proofs.Common.{same_hand as hand_itself}
use Rattle.claims_driver.specs.Owners.{TransferRuns, transfer_in, NoteRuns, SlotHas}
use Rattle.law_driver.specs.AsynchronousScripts.{IsKindOf}
use Rattle.claims_driver.specs.Leaving.{owes, HasOwners, times}
use Rattle.law_driver.specs.in_place.InPlace.{IsGood}
use Rattle.law_driver.proofs.lemmas.run_owners.Taking.{runs_taken}
use Rattle.law_driver.proofs.lemmas.ring_members.Accepted.{shaped_taken}
use Rattle.law_driver.specs.queued_drivers.Commands.{OpensFitting}
use Rattle.law_driver.specs.queued_drivers.Queued.{IsOfWay}
use Rattle.law_driver.specs.chained_transfers.Out.{out_of_transfer, passed, pieces_from}
use Rattle.law_driver.proofs.Common.{times_of as times_some, leads_now}
use Rattle.law_driver.specs.endpoint_lives.Lives.{may_meet, is_one_of}
use Rattle.law_driver.proofs.lemmas.endpoint_lives.Lives.{met_where, IsNear, in_ring, has_left, is_rung}
use Rattle.law_driver.proofs.lemmas.ring_members.Placed.{in_ring_alive, left_alive}
use Rattle.law_driver.proofs.lemmas.run_owners.Orders.{one_same}
use Rattle.law_driver.specs.chained_transfers.Bulk.{IsBulkCommand}
use Rattle.law_driver.specs.ring_members.Words.{AreLinked}
use Rattle.law_driver_ring.specs.Published.{partly}
use Rattle.law_driver_ring.specs.Linked.{with_member}
use Rattle.law_queues.specs.mended_heads.Owed.{store_by}
use Rattle.law_queues.specs.standing_fronts.Tails.{tail_of, tail_block}
use Rattle.law_queues.proofs.lemmas.told_endpoints.Names.{same_name_is}
use Rattle.law_queues.specs.leaving_drivers.Before.{UnlinksAtMost}
use Rattle.law_queues.proofs.Common2.{one_among}
use Rattle.law_descriptors.specs.Meeting.{standing, met, or_recent}
use Rattle.law_world.specs.streams.Releases.{released}
use Rattle.law_world.specs.memory.PlacedLaws.{MixedLine}
use Rattle.law_world.specs.steps.receiving_runs.Runs.{KindOfLine}
use Rattle.law_world.specs.memory.Laws.{OpensMixed}
use Rattle.law_world.specs.memory.framed_memory.IsochronousLaws.{OpensNumbered}
use Rattle.law_world.specs.memory.Scripts.{FitsLine, FittingLine}
use Rattle.law_world.specs.memory.Steps.{HandStays, same_hand, linked_hand}
use Rattle.law_world.specs.streams.put_laws.Rings.{BuffersStay}
use Rattle.law_world.specs.streams.put_laws.Buffers.{IsPublishingTo}
use Rattle.law_world.specs.streams.taken_reports.Seats.{AreApart}
use Rattle.law_world.specs.streams.Feeding.{acc_after}
use Rattle.usb_base.specs.declared.packets.EpKind.TheVariants as kinds
use Rattle.usb_base.specs.declared.packets.Speed.TheVariants as speeds
use Rattle.usb_base.specs.declared.commands.Cmd.TheVariants as commands
use Rattle.usb_base.specs.declared.packets.Way.TheVariants as ways
use Rattle.script_types.specs.declared.scripts.Line.TheVariants as lines
use Rattle.drv_table.specs.declared.content.Command.TheVariants as unfinished
use Rattle.async_walk.specs.declared.state.WalkStep.TheVariants as walks
use Rattle.hc_core.specs.declared.controller.HcStep.TheVariants as steps
use Rattle.hc_core.specs.declared.controller.ControllerRow.TheVariants as rows

pub no_open : (b c : ℕ) (words : List ℕ) → ◌≡◌ {A = Option Command} (Some (unfinished.Publish b words)) (Some (unfinished.Open c)) → ⊥
no_open b c words same = cc

pub same_queue : (b c : ℕ) → ◌≡◌ {A = Option Command} (Some (unfinished.Open b)) (Some (unfinished.Open c)) → b ≡ c
same_queue b c is = cc

pub unlink_open : (e b link q : ℕ) → ◌≡◌ {A = Option Command} (Some (unfinished.Unlink e b link)) (Some (unfinished.Open q)) → ⊥
unlink_open e b link q is = cc

pub told_same : {X : Type 0} (f : DriverContent → X) (g d : DriverContent) (b : Bool) → f g ≡ f d → f (cond b g d) ≡ f d
told_same f g d true same = same
told_same f g d false same = refl

pub none_some : (c : Command) → ◌≡◌ {A = Option Command} None (Some c) → ⊥
none_some c e = cc

pub kept_by : (e : ℕ) (cut : Bool) (y : Transfer) → y.endpoint ≢ e → let_go e cut y ≡ y
kept_by e cut y differs =
    ap (λ (b : Bool). if b then record y { reported = y.reported || cut; released = true } else y) (not_same y.endpoint e differs)

pub none_opens : (c : Option Command) (b : ℕ) → c ≡ None → c ≡ Some (unfinished.Open b) → ⊥
none_opens c b idle opens = cc

pub met_or_not : (o : Option Command) (q : ℕ) → (o ≡ Some (unfinished.Open q)) ⊎ (o ≢ Some (unfinished.Open q))
met_or_not (Some (unfinished.Open b)) q =
    ⊎_elim (λ (is : b ≡ q). inl (ap (λ (c : ℕ). Some (unfinished.Open c)) is))
    (λ (differs : b ≢ q). inr (λ is. differs (same_queue b q is))) (cases_eq b q)
met_or_not _ q = inr (λ is. cc)

pub control_kind : (kind : EpKind) → is_control kind ≡ true → kind ≡ kinds.Control
control_kind kinds.Control on = refl
control_kind _ on = absurd (false≢true on)

pub taken_good : (h g : Holding) (ns : List ℕ) → IsGood h.book h.memory → take_runs h ns ≡ Ok g → IsGood g.book g.memory
taken_good h g ns good runs =
    let t = runs_taken h g ns good.stands runs in
    record { stands = t.are.stands; shape = shaped_taken t.are good.stands good.shape }

pub line_can : (l : Line) → MixedLine l → KindOfLine OpensMixed l
line_can (lines.Command cmd) fits = fits
line_can _ fits = tt

pub lines_can : (xs : List (ℕ × Line)) → AllByRecursion (λ x. MixedLine x.1) xs → AllByRecursion (λ x. KindOfLine OpensMixed x.1) xs
lines_can [] fits = tt
lines_can (x ∷ xs) fits = (line_can x.1 fits.0, lines_can xs fits.1)

pub no_transfer : (t : ℕ) (y : TransferRuns) → transfer_in [] t ≡ Some y → ⊥
no_transfer zero y here = cc
no_transfer (suc t) y here = cc

pub in_first : (q b made : ℕ) → (store_by q b made).at / 32 ≡ 32 * q / 32
in_first q b (suc zero) = omega arith
in_first q b _ = omega arith

pub begins_both : (xs ys zs : List ℕ) → IsPrefix xs ys → IsPrefix ys zs → IsPrefix xs zs
begins_both xs ys zs (a, e) (b, f) = (a ++ b, sym (append_assoc xs a b) ∙ ap (λ (us : List ℕ). us ++ b) e ∙ f)

pub moved_few : (told left : ℕ) → moved_of told left ≤ told
moved_few told left = by (nat_le left told)
  where
    by : (b : Bool) → (if b then told - left else 0) ≤ told
    by true = omega arith
    by false = omega arith

pub without_last : (xs : List Endpoint) (y : Endpoint) → take (length (xs ++ y ∷ []) - 1) (xs ++ y ∷ []) ≡ xs
without_last xs y =
    let n : length (xs ++ y ∷ []) ≡ length xs + 1 = length-append xs (y ∷ []) in
    let e : length (xs ++ y ∷ []) - 1 ≡ length xs = omega (arith, n) in
    ap (λ (k : ℕ). take k (xs ++ y ∷ [])) e ∙ take-append_seam xs (y ∷ [])

pub descriptor_index : (p : Parts) (t : ℕ) (o : Option Transfer) → (after_descriptor p t o).registers ≡ p.registers
descriptor_index p t None = refl
descriptor_index p t (Some z) = refl

pub placed_index : (p : Parts) (f : ℕ) (o : Option Endpoint) → (after_placed p f o).registers ≡ p.registers
placed_index p f None = refl
placed_index p f (Some z) = refl

pub multi_few : (speed : Speed) (n : ℕ) → n ≤ most_multi speed → n ≤ 3
multi_few speeds.High n most = most
multi_few _ n most = omega (arith, most)

pub head_no_sitd : (o : Option Structure) (q : Qh) (v : Sitd) → o ≡ Some (QueueHead q) → o ≡ Some (SplitIsochronous v) → ⊥
head_no_sitd o q v head descriptor = cc

pub head_no_itd : (o : Option Structure) (q : Qh) (v : Itd) → o ≡ Some (QueueHead q) → o ≡ Some (Isochronous v) → ⊥
head_no_itd o q v head descriptor = cc

pub skipped : (k : WalkStep) → hc_step k ≡ steps.Skip → k ≡ walks.Skip
skipped walks.Skip is = refl
skipped _ is = absurd cc

pub own_block : (n : ℕ) (s : Structure) → HasLink s → Has n s (n / 32)
own_block n (QueueHead q) has = inl refl
own_block n (Isochronous v) has = inl refl
own_block n (SplitIsochronous v) has = refl
own_block n _ has = absurd has

pub no_enter : (b : Bool) → enter_row b ≡ rows.Begin → ⊥
no_enter true is = cc
no_enter false is = cc

pub no_ring : (b : Bool) → ring_row b ≡ rows.Begin → ⊥
no_ring true is = cc
no_ring false is = cc

pub no_frame : (goes async : Bool) → (if goes then rows.Frame else enter_row async) ≡ rows.Begin → ⊥
no_frame true async is = cc
no_frame false async is = no_enter async is

pub not_idle : rows.Idle ≡ rows.Begin → ⊥
not_idle is = cc

pub part_over : (r : RegisterFile) (frame : FrameWalk) (part : MicroframePart) → part_row r frame part ≡ rows.Begin → part ≡ Over
part_over r frame Over is = refl
part_over r frame Periodic is = absurd (no_frame (r.periodic_enable && not (is_over frame)) r.async_enable is)
part_over r frame Asynchronous is = absurd (no_ring r.async_enable is)

pub begins_over : (runs : Bool) (r : RegisterFile) (frame : FrameWalk) (part : MicroframePart)
    → (if runs then part_row r frame part else rows.Idle) ≡ rows.Begin → part ≡ Over
begins_over true r frame part is = part_over r frame part is
begins_over false r frame part is = absurd (not_idle is)

pub opens_mixed : (cmd : Cmd) → OpensNumbered cmd → OpensFitting cmd → OpensMixed cmd
opens_mixed (commands.OpenEp x) numbers kind = record { numbers = numbers; kind = kind }
opens_mixed _ numbers kind = tt

pub line_fits : (l : Line) → FitsLine l → FittingLine l → MixedLine l
line_fits (lines.Command cmd) numbers kind = opens_mixed cmd numbers kind
line_fits _ numbers kind = tt

pub enough : (len by : ℕ) → 1 ≤ by → len ≤ (0 + max 1 (pieces len by)) * by
enough len by some =
    let q = (len + (by - 1)) / by in
    let below = lt-div-mul-add {a = len + (by - 1)} {b = by} (omega (arith, some)) in
    let few : len ≤ q * by = omega (arith, below, some) in
    ⊎_elim
    (λ (none : q < 1).
    let zero_pieces : q * by ≡ 0 = ap (λ (i : ℕ). i * by) (let e : q ≡ 0 = omega (arith, none) in e) ∙
    (let z : 0 * by ≡ 0 = omega arith in z) in
    omega (arith, few, zero_pieces))
    (λ (one : 1 ≤ q). let same : (0 + max 1 q) * by ≡ q * by = ap (λ (i : ℕ). i * by) (let e : 0 + max 1 q ≡ q = omega (arith, one) in e) in
    omega (arith, few, same))
    (cases_lt q 1)

pub hand_tells : (hand later : Hand) → HandStays hand later → SameHand hand later
hand_tells hand _ same_hand = hand_itself hand
hand_tells hand _ (linked_hand n l) = linked_hand_is_same n l hand

pub no_end : (x : Endpoint) → ◌≡◌ {A = Option Endpoint} None (Some x) → ⊥
no_end x e = cc

pub no_control : (kind : EpKind) → has_stream kind ≡ true → is_control kind ≡ false
no_control kinds.Control on = absurd (false≢true on)
no_control _ on = refl

pub empty_prefix : (xs ys : List ℕ) → IsPrefix xs [] → IsPrefix xs ys
empty_prefix [] ys k = (ys, refl)
empty_prefix (x ∷ xs) ys k = absurd (no_first k.1)
  where
    no_first : x ∷ (xs ++ k.0) ≡ [] → ⊥
    no_first is = cc

pub named_in : (name : EpName) → name.way ≡ ways.In → record { addr = name.addr; num = name.num; way = ways.In } ≡ name
named_in name is = ap (λ (way : Way). record { addr = name.addr; num = name.num; way = way }) (sym is)

pub same_buffers : (part now : Structures) → now ≡ part → BuffersStay part now
same_buffers part now same a pages k bs here = ap (λ (p : Structures). p a) same ∙ here

pub tail_at : (d : DriverContent) (e b : ℕ) (z : Endpoint) → IsPublishingTo d e b → tail_of d e z ≡ 32 * b
tail_at d e b z k =
    let newest : slice_get d.transfers (length d.transfers - 1) ≡ Some k.transfer =
    ap (slice_get d.transfers) (let last : length d.transfers - 1 ≡ k.number = (let one = k.newest in omega (arith, one)) in last)
    ∙ k.there in
    ap (λ (o : Option Command). 32 * tail_block o (slice_get d.transfers (length d.transfers - 1)) e z.dummy) k.command
    ∙ ap (λ (o : Option Transfer). 32 * tail_block (Some (unfinished.Publish b k.words)) o e z.dummy) newest
    ∙ ap (λ (t : Bool). 32 * (if t then b else z.dummy)) (eq-eqb k.transfer.endpoint e k.its_endpoint)

pub token_is : (t : Qtd) (k : ℕ) → k < 8 → (partly t k).token ≡ dummy_qtd.token
token_is t (suc (suc (suc (suc (suc (suc (suc (suc k)))))))) below = absurd (omega (arith, below))
token_is t _ below = refl

pub sorted_behind : (order : ℕ → ℕ) (e : ℕ) (before behind : List ℕ) → IsSorted order (before ++ e ∷ behind) → IsSorted order behind
sorted_behind order e [] behind sorted = sorted.1
sorted_behind order e (d ∷ ds) behind sorted = sorted_behind order e ds behind sorted.1

pub its_way : (way : Way) (kind : EpKind) → IsOfWay way kind → is_control kind ≡ true → way ≡ ways.Ctl
its_way ways.Ctl kind fits control = refl
its_way ways.In kinds.Control fits control = absurd fits
its_way ways.Out kinds.Control fits control = absurd fits
its_way _ _ fits control = absurd (false≢true control)

pub queue_kind : (way : Way) (kind : EpKind) → IsKindOf way kind → is_iso kind ≡ false
queue_kind ways.Ctl kind is = ap is_iso is
queue_kind ways.In kind is = ap is_iso is
queue_kind ways.Out kind is = ap is_iso is

pub member_beside : (near : ℕ → Bool) (n k : ℕ) → k ≢ n → with_member near n k ≡ true → near k ≡ true
member_beside near n k differs on = sym (ap (λ (b : Bool). b || near k) (not_same k n differs)) ∙ on

pub same_block : (b c : ℕ) (xs ys : List ℕ)
    → ◌≡◌ {A = Option Command} (Some (unfinished.Publish b xs)) (Some (unfinished.Publish c ys)) → b ≡ c
same_block b c xs ys is = cc

pub either : (d f g : DriverContent) (b : Bool) → f.notes ≡ d.notes → g.notes ≡ d.notes → (cond b f g).notes ≡ d.notes
either d f g true one two = one
either d f g false one two = two

pub one_notes : (d : DriverContent) (e : ℕ) (name : EpName) (k : ℕ) (o : Option Transfer) → (behind_one d e name k o).notes ≡ d.notes
one_notes d e name k None = refl
one_notes d e name k (Some y) = either d _ d (waits_for e y) refl refl

pub name_differs : (a b : EpName) (t : Bool) → is_same_name a b ≡ t → a ≢ b → t ≡ false
name_differs a b true is differs = absurd (differs (same_name_is a b is))
name_differs a b false is differs = refl

pub each_alike : (r now : WholeReport) (taken : List (ℕ × Line)) → ((n : ℕ) → is_refused now n ≡ is_refused r n)
    → AllByRecursion (λ (l : ℕ × Line). is_refused now l.0 ≡ is_refused r l.0) taken
each_alike r now [] same = tt
each_alike r now (l ∷ ls) same = (same l.0, each_alike r now ls same)

pub device_found : (devices : List Device) (n a : ℕ) (d : Device) → AreApart devices → slice_get devices n ≡ Some d → a ≡ d.address
    → find (λ e. e.address == a) devices ≡ Some d
device_found devices n a d apart here same =
    first_found (λ e. e.address == a) devices n d here (eq-eqb d.address a (sym same))
    (λ i e less there. others i e less there (e.address == a) refl)
  where
    others : (i : ℕ) (e : Device) → i < n → slice_get devices i ≡ Some e → (b : Bool) → (e.address == a) ≡ b → (e.address == a) ≡ false
    others i e less there true is = let alike : i ≡ n =
        apart i n e d there here (eqb-true e.address a is ∙ same) in absurd (omega (arith, less, alike))
    others i e less there false is = is

pub unlinks_block : (c : Option Command) (y : Option Transfer) (e n : ℕ) → UnlinksAtMost c → tail_block c y e n ≡ n
unlinks_block None y e n may = refl
unlinks_block (Some (unfinished.Unlink i b link)) y e n may = refl
unlinks_block _ y e n may = absurd may

pub open_block : (queue : ℕ) (o : Option Transfer) (e dummy : ℕ) → tail_block (Some (unfinished.Open queue)) o e dummy ≡ dummy
open_block queue None e dummy = refl
open_block queue (Some y) e dummy = refl

pub open_tail : (d : DriverContent) (e queue : ℕ) (x : Endpoint) → d.command ≡ Some (unfinished.Open queue) → tail_of d e x ≡ 32 * x.dummy
open_tail d e queue x is =
    let o = slice_get d.transfers (length d.transfers - 1) in
    ap (λ (c : Option Command). 32 * tail_block c o e x.dummy) is ∙ ap (λ (b : ℕ). 32 * b) (open_block queue o e x.dummy)

pub newest_there : (ts : List Transfer) (y : Transfer) → slice_get (ts ++ y ∷ []) (length (ts ++ y ∷ []) - 1) ≡ Some y
newest_there ts y =
    let long = length-append ts (y ∷ []) in
    let last : length (ts ++ y ∷ []) - 1 ≡ length ts = omega (arith, long) in
    ap (slice_get (ts ++ y ∷ [])) last ∙ pushed_last ts y

pub one_out : (note : ℕ → NoteRuns) (e first : ℕ) (y : Transfer) → y.released ≡ true → out_of_transfer note e first y ≡ []
one_out note e first y gone =
    let all = drop (first + passed y.reported) (pieces_from note y.place y.left) in
    ap (λ (t : Bool). cond ((y.endpoint == e) && not t) all []) gone ∙ by (y.endpoint == e) all
  where
    by : (t : Bool) (all : List ℕ) → cond (t && not true) all [] ≡ []
    by true all = refl
    by false all = refl

pub still_empty : (n : ℕ) (hand : Hand) → hand ≡ Empty → hand_stale n hand ≡ Empty
still_empty n hand is = ap (hand_stale n) is

pub owed_told : (o : Option Transfer) (y : Transfer) → o ≡ Some y → 1 ≤ owes o → y.reported ≡ true
owed_told None y here some = absurd (omega (arith, some))
owed_told (Some z) y here some = ap (λ (r : Transfer). r.reported) (sym (same_Some z y here)) ∙ (owed_by z.reported z.released some).0

pub harvested_told : (d : DriverContent) (i u : ℕ) (y : Transfer) → HasOwners d → slice_get d.harvested i ≡ Some u
    → slice_get d.transfers u ≡ Some y → y.reported ≡ true
harvested_told d i u y owners listed here =
    let some = times_some d.harvested i u listed in
    let most = owners.orderly.harvests u in
    owed_told (slice_get d.transfers u) y here (omega (arith, some, most))

pub near_alive : (d : DriverContent) (e : ℕ) (x : Endpoint) → HasOwners d → slice_get d.endpoints e ≡ Some x → may_meet d e x ≡ true
    → is_iso x.desc.kind || x.gone ≡ false
near_alive d e x owners here near = by (met_where d e x near)
  where
    by : IsNear d e x → is_iso x.desc.kind || x.gone ≡ false
    by (in_ring on) = in_ring_alive d e x owners.orderly here on
    by (has_left on) = (left_alive d e x d.waiting owners.orderly (omega arith) (one_among e d.waiting on) here).0
    by (is_rung on) = (left_alive d e x d.rung owners.orderly (omega arith) (one_among e d.rung on) here).0

pub met_alike : (d new : DriverContent) (recent : ℕ → Option Kind) → ((n : ℕ) → standing new n ≡ standing d n) → (n : ℕ)
    → met new recent n ≡ met d recent n
met_alike d new recent same n = ap (λ (o : Option Kind). or_recent o (recent n)) (same n)

pub kept_has : (h g : Holding) (b c k : ℕ) (r : Run) → slot_at h b ≡ Keeps r → slot_at g b ≡ Lends r → c ≡ b → SlotHas (slot_at h c) k
    → SlotHas (slot_at g c) k
kept_has h g b c k r kept lent same inside =
    let has : SlotHas (Keeps r) k = subst (λ (s : Slot). SlotHas s k) (ap (slot_at h) same ∙ kept) inside in
    subst (λ (s : Slot). SlotHas s k) (sym (ap (slot_at g) same ∙ lent)) has

pub not_opened : (o : Option Command) (e b link c : ℕ) → o ≡ Some (unfinished.Unlink e b link) → o ≡ Some (unfinished.Open c) → ⊥
not_opened o e b link c one two = cc

pub times_one : (e : ℕ) (es : List ℕ) → is_one_of e es ≡ true → 1 ≤ times e es
times_one e [] on = absurd (false≢true on)
times_one e (f ∷ es) on =
    ⊎_elim (λ (same : (e == f) ≡ true).
    let is : f ≡ e = sym (eqb-true e f same) in
    let one : ◌≡◌ {A = ℕ} (if f == e then 1 else 0) 1 = ap (λ (g : ℕ). if g == e then 1 else 0) is ∙ one_same e in
    omega (arith, one))
    (λ (later : is_one_of e es ≡ true). let some = times_one e es later in omega (arith, some)) (or_cases (e == f) (is_one_of e es) on)

pub after_off : (streams : ℕ → Bool) (acc : ℕ → List (List ℕ)) (at : ℕ) (more : List (List ℕ)) (bytes : ℕ → List ℕ) (n : ℕ)
    → streams n ≡ false → acc_after streams acc at more bytes n ≡ acc n ++ bytes n ∷ []
after_off streams acc at more bytes n off = ap (λ (b : Bool). if b then grown acc at more n else acc n ++ bytes n ∷ []) off

pub no_command : (o : Option Command) (c : Command) → o ≡ None → o ≡ Some c → ⊥
no_command o c idle busy = let e : ◌≡◌ {A = Option Command} None (Some c) = sym idle ∙ busy in cc

pub framed_same : (d : DriverContent) (n : ℕ) (o : Option Command) → IsBulkCommand o → framed_by d n o ≡ d
framed_same d n (Some unfinished.Chain) is = absurd is
framed_same d n (Some (unfinished.Iso e t count)) is = absurd is
framed_same d n (Some (unfinished.Unchain e)) is = absurd is
framed_same d n _ is = refl

pub begins_all : (xs ys : List ℕ) → xs ≡ [] → IsPrefix xs ys
begins_all xs ys none = (ys, ap (λ (zs : List ℕ). zs ++ ys) none)

pub waiting_none : (name other : EpName) (k : ℕ) (b : Bool) → filter_map (taken_in name) (if b then Pending other k ∷ [] else []) ≡ []
waiting_none name other k true = refl
waiting_none name other k false = refl

pub oldest_leads : (word : ℕ → ℕ) (b : ℕ) (xs : List Endpoint) → AreLinked word b xs → word (oldest_of xs) ≡ queue_head_link b
oldest_leads word b [] linked = linked
oldest_leads word b (x ∷ xs) linked = by (λ rest. oldest_leads word b xs rest) x.linked refl
  where
    by : (AreLinked word b xs → word (oldest_of xs) ≡ queue_head_link b) → (t : Bool) → x.linked ≡ t
        → word (if t then x.queue else oldest_of xs) ≡ queue_head_link b
    by more true on = leads_now word x b on linked.0
    by more false off = more (subst (λ (c : ℕ). AreLinked word c xs) (ap (λ (t : Bool). if t then x.queue else b) off) linked.1)
