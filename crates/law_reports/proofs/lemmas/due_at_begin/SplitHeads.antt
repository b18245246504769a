-- The queue head of an interrupt endpoint below a hub has the endpoint's address, number, hub and port, and the size of its packets (EHCI
-- 1.0, 3.6.2).
use Rattle.std.proofs.Common.{◌≡◌, ℕ, ◌≤◌, ◌<◌, Bool, true, false, if◌then◌else◌, slice_get, Some, ap, sym, refl, ◌∙◌, arith}
use Rattle.std.specs.Prelude.{unwrap_or}
use Rattle.std.proofs.lemmas.Bool.{false≢true}
use Rattle.usb_base.specs.declared.endpoints.EpDesc.{EpDesc}
use Rattle.usb_base.specs.declared.packets.Speed.{Speed}
use Rattle.usb_base.specs.declared.packets.Speed.TheVariants as speeds
use Rattle.link_words.specs.Layout.{bits}
use Rattle.qh_qtd.specs.declared.queue_head.Qh.{Qh}
use Rattle.bandwidth.specs.declared.placements.Placement.{Placement}
use Rattle.bandwidth.specs.Placements.{is_classic}
use Rattle.drv_table.specs.declared.content.Endpoint.{Endpoint}
use Rattle.drv_table.specs.DriverContent.{DriverContent}
use Rattle.drv_table.specs.Words.{interrupt_head, is_high}
use Rattle.hc_copy.specs.Overlay.{advanced}
use Rattle.qh_qtd.specs.declared.qtd.Qtd.{Qtd}
use Rattle.law_world.specs.memory.framed_memory.Isochronous.{NumbersFit}
use Rattle.law_world.specs.memory.framed_memory.Masks.{HasMasks}
use Rattle.law_world.proofs.lemmas.memory.lemmas.framed_memory.ChainedRuns.{chained_head_is_in_range}
use Rattle.law_microframes.specs.visits.Belonging.{HaveFields}
use Rattle.law_microframes.proofs.lemmas.due.lemmas.repeats.AskedHeads.{HasPlace, no_masks, written, few_more}
use Rattle.law_microframes.proofs.lemmas.visits.BelongReads.{HasReadFields}

pub record IsHeadOf (x : EpDesc) (q : Qh) : Type 0 where
  pub addr : q.addr ≡ x.name.addr
  pub ep : q.ep ≡ x.name.num
  pub hub : q.hub ≡ unwrap_or x.hub 0
  pub port : q.port ≡ x.port
  pub max : q.max ≡ x.max

pub advanced_of : (x : EpDesc) (q : Qh) (a : ℕ) (t : Qtd) → IsHeadOf x q → IsHeadOf x (advanced q a t)
unfolding advanced
advanced_of x q a t k = record { addr = k.addr; ep = k.ep; hub = k.hub; port = k.port; max = k.max }

-- ---- the sizes of its description

pub record IsSized (x : EpDesc) : Type 0 where
  pub max : x.max ≤ 1024
  pub port : x.port ≤ 127

abbrev pub AreSized : DriverContent → Type 0
AreSized d = (e : ℕ) (x : Endpoint) → slice_get d.endpoints e ≡ Some x → IsSized x.desc

pub not_high : (x : Speed) → is_classic x ≡ true → is_high x ≡ false
not_high speeds.High is = absurd (false≢true is)
not_high speeds.Full is = refl
not_high speeds.Low is = refl

-- ---- what is read of its words

low_mask : (n word : ℕ) → bits 7 0 word ≡ n → n < 256
low_mask n word is = omega (arith, is)

high_mask : (n word : ℕ) → bits 15 8 word ≡ n → n < 256
high_mask n word is = omega (arith, is)

pub its_fields : (x : EpDesc) (p : Placement) (first second : ℕ) (q : Qh) → IsSized x → NumbersFit x → is_high x.speed ≡ false
    → HaveFields first second x p → HasPlace first second q → HasReadFields first second q → IsHeadOf x q
its_fields x p first second q sized fits slow f pl read =
    let few = few_more x.multi second f.multi in
    let masks : HasMasks p = record { smask = low_mask p.smask second f.smask; cmask = high_mask p.cmask second f.cmask } in
    let one = written (interrupt_head x 0 0 0 0) (chained_head_is_in_range x (no_masks p) 0 0 fits sized.max sized.port few
    (record { smask = omega arith; cmask = omega arith })) in
    let two = written (interrupt_head x p.smask p.cmask 0 0) (chained_head_is_in_range x p 0 0 fits sized.max sized.port few masks) in
    record {
      addr = pl.addr ∙ ap (bits 6 0) f.characteristics ∙ sym one.addr;
      ep = pl.ep ∙ ap (bits 11 8) f.characteristics ∙ sym one.ep;
      hub = pl.hub ∙ ap (bits 22 16) f.capabilities ∙ sym two.hub ∙ ap (λ (b : Bool). if b then 0 else unwrap_or x.hub 0) slow;
      port = pl.port ∙ ap (bits 29 23) f.capabilities ∙ sym two.port ∙ ap (λ (b : Bool). if b then 0 else x.port) slow;
      max = read.longest ∙ f.longest;
    }
