-- Lemmas that several files need.
use Rattle.std.proofs.Common.{◌≡◌, None, ℕ, ◌<◌, arith, Result, Some, Ok, ap, Err, Option, ◌≤◌, Bool, if◌then◌else◌, ◌∙◌, ◌&&◌, not, true, false, ◌≢◌, refl, List, ◌∷◌, [], sym, ◌++◌, take, length, ◌-◌}
use Rattle.std.specs.Result.{result_ok}
use Rattle.std.proofs.lemmas.Option.{same_Some}
use Rattle.std.specs.List.{AllByRecursion}
use Rattle.std.proofs.lemmas.Bool.{true≢false, false≢true}
use Rattle.usb_base.specs.declared.packets.Dir.{Dir}
use Rattle.usb_base.specs.declared.packets.EpKind.{EpKind}
use Rattle.word_mem.specs.Memory.{Mem}
use Rattle.word_mem.specs.Views.{words_at}
use Rattle.law_common.proofs.Numbers.{no_less, not_higher, between}
use Rattle.claims_base.specs.Controller.{base_of, opening_base, Base}
use Rattle.drv_periodic.specs.declared.work.Work.{Work}
use Rattle.link_words.specs.declared.refusal.Bad.{Bad}
use Rattle.itd_sitd.specs.declared.sitd.Sitd.{Sitd}
use Rattle.itd_sitd.specs.Sitd.{sitd_at, sitd_words}
use Rattle.itd_sitd.proofs.SitdLaws.{sitd_read-is, sitd_read-words}
use Rattle.itd_sitd.specs.declared.itd.Itd.{Itd}
use Rattle.qh_qtd.specs.declared.queue_head.Qh.{Qh}
use Rattle.qh_qtd.specs.QueueHead.{qh_read}
use Rattle.drv_table.specs.DriverContent.{DriverContent}
use Rattle.drv_table.specs.Accepting.{Offered}
use Rattle.drv_table.specs.declared.content.Endpoint.{Endpoint}
use Rattle.drv_table.specs.Kinds.{is_iso}
use Rattle.async_walk.specs.declared.state.WalkStep.{WalkStep}
use Rattle.hc_iso.specs.declared.held.HeldItd.{HeldItd}
use Rattle.hc_iso.specs.declared.held.Heard.{Heard}
use Rattle.hc_iso.specs.Itd.{after_heard}
use Rattle.hc_iso.specs.declared.held.Heard.TheVariants.{Packet, TooLong, Wrong}
use Rattle.hc_iso.specs.declared.held.SplitHeard.{SplitHeard}
use Rattle.hc_iso.specs.Sitd.{after_split_heard}
use Rattle.periodic_walk.specs.declared.state.Hand.{Hand}
use Rattle.periodic_walk.specs.Walk.{over_at}
use Rattle.periodic_walk.specs.Chain.{queue_fetch, itd_fetch, sitd_fetch}
use Rattle.hc_core.specs.declared.controller.HcStep.{HcStep}
use Rattle.hc_core.specs.declared.controller.MicroframePart.TheVariants.{Periodic, Asynchronous, Over}
use Rattle.hc_core.specs.Controller.{part_row, enter_row, part_after}
use Rattle.bus_world.specs.World.{World, controller_row}
use Rattle.law_structures.specs.lent_structures.Structures.{HoldsSplitIsochronous}
use Rattle.law_driver.specs.run_owners.Accepts.{Accepts, opens, chains, places, transfers, describes, cancels, unchains}
use Rattle.claims_world.specs.Visits.{frame_in}
use Rattle.claims_world.specs.WithinLoad.{repeats_at, is_again}
use Rattle.claims_world.specs.Prices.{cost_of}
use Rattle.claims_world.specs.Memory.{IsNone}
use Rattle.law_world.specs.memory.Mixed.{IsMixedWorld}
use Rattle.law_world.proofs.Common.{without_last}
use Rattle.law_microframes.specs.time.SitdParts.{is_in}
use Rattle.usb_base.specs.declared.packets.Dir.TheVariants as ways
use Rattle.usb_base.specs.declared.packets.EpKind.TheVariants as kinds
use Rattle.async_walk.specs.declared.state.WalkStep.TheVariants as walk_steps
use Rattle.hc_iso.specs.declared.held.SplitHeard.TheVariants as heards
use Rattle.periodic_walk.specs.declared.chain.ChainRow.TheVariants as chains
use Rattle.hc_core.specs.declared.controller.ControllerRow.TheVariants as rows

pub idle_by : (d : DriverContent) (m : Mem) (o : Offered) → Accepts d m o → d.command ≡ None
idle_by d m o (opens why) = why.idle
idle_by d m o (chains why) = why.idle
idle_by d m o (places why) = why.idle
idle_by d m o (transfers why) = why.idle
idle_by d m o (describes why) = why.idle
idle_by d m o (cancels why) = why.idle
idle_by d m o (unchains why) = why.idle

pub in_list : (index : ℕ) → frame_in index < 1024
in_list index = omega arith

pub ok_is : {X : Type 0} (r : Result X Bad) (x : X) → result_ok r ≡ Some x → r ≡ Ok x
ok_is (Ok y) x is = ap Ok (same_Some y x is)
ok_is (Err bad) x is = absurd cc

pub repeats_less : (hand : Option Hand) (step : HcStep) (n : ℕ) → n ≤ repeats_at hand step n
repeats_less None step n = omega arith
repeats_less (Some hand) step n = no_less (is_again hand) n (cost_of step hand)

pub frame_row : (w : World) (hand : Hand) → IsMixedWorld w → w.control.part ≡ Periodic → w.control.frame.hand ≡ Some hand
    → controller_row w ≡ rows.Frame
frame_row w hand k part is =
    let base : base_of w.registers ≡ opening_base = k.mixed.now.framed.runs.ring.registers in
    ap (λ (b : Bool). if b then part_row w.registers w.control.frame w.control.part else rows.Idle) (ap (λ (b : Base). b.run) base)
    ∙ ap (part_row w.registers w.control.frame) part
    ∙ ap (λ (b : Bool). if b && not
    (over_at w.control.frame.hand w.control.frame.cursor) then rows.Frame else enter_row w.registers.async_enable)
    (ap (λ (b : Base). b.periodic_enable) base)
    ∙ ap (λ (o : Option Hand). if not (over_at o w.control.frame.cursor) then rows.Frame else enter_row w.registers.async_enable) is

pub read_ok : (m : Mem) (a : ℕ) (q : Qh) (b : Bool) → (if b then result_ok (qh_read (words_at m a 12)) else None) ≡ Some q
    → qh_read (words_at m a 12) ≡ Ok q
read_ok m a q true is = ok_is (qh_read (words_at m a 12)) q is
read_ok m a q false is = absurd (cc)

pub ring_no : (step : WalkStep) → part_after Asynchronous step ≢ Periodic
ring_no walk_steps.Fetch e = cc
ring_no _ e = cc

pub over_no : Over ≢ Periodic
over_no e = cc

pub heard_at : (h : HeldItd) (x : Heard) → (after_heard h x).at ≡ h.at
heard_at h (Packet k n) = refl
heard_at h TooLong = refl
heard_at h Wrong = refl

pub none_higher : (height : ℕ → ℕ) (a : ℕ) (vs : List ℕ) → AllByRecursion (λ v. height a < height v) vs → IsNone a vs
none_higher height a [] all = tt
none_higher height a (v ∷ vs) all = (not_higher height a v all.0, none_higher height a vs all.1)

pub words_are : (m : Mem) (a : ℕ) (v : Sitd) → HoldsSplitIsochronous m a v → sitd_at (words_at m a 7) ≡ v
words_are m a v h = ap sitd_at h.words ∙ sym (sitd_read-is (sitd_words v) v (sitd_read-words v h.range))

pub out_dir : (w : Dir) → is_in w ≡ false → w ≡ ways.Out
out_dir ways.In is = absurd (true≢false is)
out_dir ways.Out is = refl

pub no_work : (w : Work) → None ≡ Some w → ⊥
no_work w e = cc

pub no_queue_end : (a : ℕ) (o : Option Qh) → queue_fetch a o ≡ chains.Ends → ⊥
no_queue_end a None is = cc
no_queue_end a (Some q) is = cc

pub no_itd_end : (a : ℕ) (o : Option Itd) → itd_fetch a o ≡ chains.Ends → ⊥
no_itd_end a None is = cc
no_itd_end a (Some v) is = cc

pub no_sitd_end : (a : ℕ) (o : Option Sitd) → sitd_fetch a o ≡ chains.Ends → ⊥
no_sitd_end a None is = cc
no_sitd_end a (Some v) is = cc

pub same_before : (xs ys : List Endpoint) (x y : Endpoint) → xs ++ x ∷ [] ≡ ys ++ y ∷ [] → xs ≡ ys
same_before xs ys x y same = sym (without_last xs x) ∙ ap (λ (zs : List Endpoint). take (length zs - 1) zs) same ∙ without_last ys y

pub all_higher : (height : ℕ → ℕ) (k a : ℕ) (vs : List ℕ) → height k < height a → AllByRecursion (λ v. height a < height v) vs
    → AllByRecursion (λ v. height k < height v) vs
all_higher height k a [] less all = tt
all_higher height k a (v ∷ vs) less all = (between (height k) (height a) (height v) less all.0, all_higher height k a vs less all.1)

pub heard_way : (heard : SplitHeard) (v : Sitd) → (after_split_heard heard v).dir_in ≡ v.dir_in
heard_way (heards.Data last n) v = refl
heard_way heards.Later v = refl
heard_way heards.TooLong v = refl
heard_way heards.Error v = refl
heard_way heards.Wrong v = refl

pub iso_kind : (k : EpKind) → is_iso k ≡ true → k ≡ kinds.Iso
iso_kind kinds.Iso is = refl
iso_kind _ is = absurd (false≢true is)
