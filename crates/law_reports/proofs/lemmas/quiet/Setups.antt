-- The qTDs of a transfer that is lent: a SETUP among them has eight bytes (USB 2.0, 8.5.3), and none is a queue head.
use Rattle.std.proofs.Common.{◌≡◌, ℕ, zero, suc, Bool, true, false, not, List, [], ◌∷◌, if◌then◌else◌, ap, refl, sym, subst, ◌∙◌, inl, inr}
use Rattle.std.proofs.Common.{⊎_elim}
use Rattle.std.specs.List.{AllByRecursion}
use Rattle.std.specs.Prelude.{nat_eq}
use Rattle.usb_base.specs.declared.packets.Pid.TheVariants.{Setup}
use Rattle.usb_base.specs.declared.packets.Way.{Way}
use Rattle.usb_base.specs.declared.packets.Way.TheVariants as ways
use Rattle.word_mem.specs.Memory.{Mem}
use Rattle.qh_qtd.specs.declared.qtd.Qtd.{Qtd}
use Rattle.qh_qtd.specs.declared.queue_head.Qh.{Qh}
use Rattle.hc_copy.specs.Planning.{pid_at}
use Rattle.drv_table.specs.declared.content.QtdNote.{QtdNote}
use Rattle.drv_table.specs.declared.content.Stage.{Stage}
use Rattle.drv_table.specs.Harvests.{note_at}
use Rattle.drv_table.specs.Offers.{is_last}
use Rattle.drv_table.specs.Words.{asks_in, data_stage, dummy_qtd, request_length, request_stages, setup_stage, status_stage}
use Rattle.law_driver.specs.chained_transfers.Bulk.{stage_by}
use Rattle.law_structures.specs.lent_structures.Structures.{QueueHead, Element}
use Rattle.law_ring.specs.Together.{Item}
use Rattle.law_driver_ring.specs.Pieces.{stage_qtd, with_buffer, qtd_items, buffer_items, lent_items}
use Rattle.law_driver_ring.proofs.Lots.{IsItem, item_either}
use Rattle.law_driver_ring.proofs.Pieces.{no_qtd}
use Rattle.law_queues.specs.fed_lends.ToLend.{AreStagesBy}

-- ---- stages

abbrev pub IsWholeSetup : Stage → Type 0
IsWholeSetup s = pid_at s.pid ≡ Setup → s.long ≡ 8

out_other : pid_at 0 ≡ Setup → ⊥
out_other e = cc

in_other : pid_at 1 ≡ Setup → ⊥
in_other e = cc

data_other : (b : Bool) → pid_at (if b then 1 else 0) ≡ Setup → ⊥
data_other true e = cc
data_other false e = cc

status_whole : (b : Bool) → AllByRecursion IsWholeSetup (status_stage b ∷ [])
status_whole b = ((λ pid. absurd (data_other b pid)), tt)

request_whole : (setup : List ℕ) → AllByRecursion IsWholeSetup (request_stages setup)
request_whole setup = by (nat_eq (request_length setup) 0)
  where
    by : (b : Bool) → AllByRecursion IsWholeSetup (if b then setup_stage ∷ status_stage true ∷ []
        else setup_stage ∷ data_stage (asks_in setup) (request_length setup) ∷ status_stage (not (asks_in setup)) ∷ [])
    by true = ((λ pid. refl), status_whole true)
    by false = ((λ pid. refl), ((λ pid. absurd (data_other (asks_in setup) pid)), status_whole (not (asks_in setup))))

all_out : (ss : List Stage) → AllByRecursion (λ s. s ≡ stage_by ways.Out s.long) ss → AllByRecursion IsWholeSetup ss
all_out [] are = tt
all_out (s ∷ ss) are = ((λ pid. absurd (out_other (sym (ap (λ (t : Stage). pid_at t.pid) are.0) ∙ pid))), all_out ss are.1)

all_in : (ss : List Stage) → AllByRecursion (λ s. s ≡ stage_by ways.In s.long) ss → AllByRecursion IsWholeSetup ss
all_in [] are = tt
all_in (s ∷ ss) are = ((λ pid. absurd (in_other (sym (ap (λ (t : Stage). pid_at t.pid) are.0) ∙ pid))), all_in ss are.1)

pub stages_whole : (way : Way) (ss : List Stage) → AreStagesBy way ss → AllByRecursion IsWholeSetup ss
stages_whole ways.In ss are = all_in ss are
stages_whole ways.Out ss are = all_out ss are
stages_whole ways.Ctl ss are = subst (AllByRecursion IsWholeSetup) (sym are.1) (request_whole are.0)

-- ---- what is lent

module _ (P : Qtd → Type 0) (notes : List QtdNote) (dummy : ℕ) (idle : P dummy_qtd)
    (each : (s : Stage) (b : ℕ) (last : Bool) → IsWholeSetup s → P (stage_qtd notes s b dummy last)) where
  qtds_are : (ss : List Stage) (b a : ℕ) (t : Qtd) → AllByRecursion IsWholeSetup ss → IsItem (qtd_items notes dummy ss b) a (Element t)
      → P t
  qtds_are [] b a t whole (inl here) = subst P (sym (same here.1)) idle
    where
      same : Element t ≡ Element dummy_qtd → t ≡ dummy_qtd
      same e = cc
  qtds_are [] b a t whole (inr there) = absurd there
  qtds_are (s ∷ ss) b a t whole (inl here) = subst P (sym (same here.1)) (each s b (is_last ss) whole.0)
    where
      same : Element t ≡ Element (stage_qtd notes s b dummy (is_last ss)) → t ≡ stage_qtd notes s b dummy (is_last ss)
      same e = cc
  qtds_are (s ∷ ss) b a t whole (inr there) = qtds_are ss (note_at notes b).next a t whole.1 there

  pub items_are : (m : Mem) (s : Stage) (ss : List Stage) (b a : ℕ) (t : Qtd) → AllByRecursion IsWholeSetup ss
      → IsItem (lent_items m notes dummy s ss b) a (Element t) → P t
  items_are m s ss b a t whole there =
      ⊎_elim (λ (qtd : IsItem (qtd_items notes dummy ss (note_at notes b).next) a (Element t)). qtds_are ss
      (note_at notes b).next a t whole qtd)
      (λ (buffer : IsItem (buffer_items m notes dummy (s ∷ ss) b) a (Element t)). absurd (no_qtd m notes dummy (s ∷ ss) b a t buffer))
      (item_either (qtd_items notes dummy ss (note_at notes b).next) (buffer_items m notes dummy (s ∷ ss) b) a (Element t) there)

-- ---- none of it is a queue head

module _ (notes : List QtdNote) (dummy : ℕ) where
  qtds_no_head : (ss : List Stage) (b a : ℕ) (q : Qh) → IsItem (qtd_items notes dummy ss b) a (QueueHead q) → ⊥
  qtds_no_head [] b a q (inl here) = apart here.1
    where
      apart : QueueHead q ≡ Element dummy_qtd → ⊥
      apart e = cc
  qtds_no_head [] b a q (inr there) = there
  qtds_no_head (s ∷ ss) b a q (inl here) = apart here.1
    where
      apart : QueueHead q ≡ Element (stage_qtd notes s b dummy (is_last ss)) → ⊥
      apart e = cc
  qtds_no_head (s ∷ ss) b a q (inr there) = qtds_no_head ss (note_at notes b).next a q there

  its_no_head : (m : Mem) (t : Qtd) (n : ℕ) (is : List Item) (a : ℕ) (q : Qh) → IsItem (with_buffer m t n is) a (QueueHead q)
      → (IsItem is a (QueueHead q) → ⊥) → ⊥
  its_no_head m t zero is a q there none = none there
  its_no_head m t (suc n) is a q (inl here) none = absurd (let e = here.1 in cc)
  its_no_head m t (suc n) is a q (inr there) none = none there

  buffers_no_head : (m : Mem) (ss : List Stage) (b a : ℕ) (q : Qh) → IsItem (buffer_items m notes dummy ss b) a (QueueHead q) → ⊥
  buffers_no_head m [] b a q there = there
  buffers_no_head m (s ∷ ss) b a q there =
      its_no_head m (stage_qtd notes s b dummy (is_last ss)) s.long (buffer_items m notes dummy ss (note_at notes b).next) a q there
      (buffers_no_head m ss (note_at notes b).next a q)

  pub items_no_head : (m : Mem) (s : Stage) (ss : List Stage) (b a : ℕ) (q : Qh)
      → IsItem (lent_items m notes dummy s ss b) a (QueueHead q) → ⊥
  items_no_head m s ss b a q there =
      ⊎_elim (λ (qtd : IsItem (qtd_items notes dummy ss (note_at notes b).next) a (QueueHead q)).
      qtds_no_head ss (note_at notes b).next a q qtd)
      (λ (buffer : IsItem (buffer_items m notes dummy (s ∷ ss) b) a (QueueHead q)). buffers_no_head m (s ∷ ss) b a q buffer)
      (item_either (qtd_items notes dummy ss (note_at notes b).next) (buffer_items m notes dummy (s ∷ ss) b) a (QueueHead q) there)
