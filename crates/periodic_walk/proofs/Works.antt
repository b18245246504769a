-- A structure that is active has its transaction, or there is a reason.
use Rattle.std.proofs.Common.{◌≡◌, Bool, true, false, Some, None, if◌then◌else◌, refl, ap, sym, subst, ◌∙◌}
use Rattle.std.specs.Prelude.{nat_lt}
use Rattle.std.proofs.lemmas.Bool.{ltb-true}
use Rattle.link_words.specs.declared.kinds.QtdLink.{QtdLink}
use Rattle.link_words.specs.Links.{qtd_link_of}
use Rattle.hc_masks.specs.Masks.{has}
use Rattle.hc_copy.specs.Visits.{next_pointer, visit_at}
use Rattle.hc_copy.specs.Buffer.{sending}
use Rattle.hc_interrupt.specs.declared.turns.Turn.TheVariants as turns
use Rattle.hc_interrupt.specs.Turns.{microframe_of, waits, is_missed, complete_turn, start_turn, planned}
use Rattle.hc_iso.specs.declared.held.HeldItd.{HeldItd}
use Rattle.hc_iso.specs.declared.held.HeldSitd.{HeldSitd}
use Rattle.hc_iso.specs.declared.held.SitdTurn.TheVariants as sitd_turns
use Rattle.hc_iso.specs.declared.held.SplitOutcome.TheVariants.{Failed}
use Rattle.hc_iso.specs.Itd.{itd_transaction}
use Rattle.hc_iso.specs.Sitd.{sitd_missed, comes, turn_at, sitd_transaction, missed_copy}
use Rattle.hc_iso.specs.WriteBack.{itd_sending, sitd_sending}
use Rattle.async_walk.specs.declared.state.WalkStep.{WalkStep}
use Rattle.async_walk.specs.declared.state.WalkStep.TheVariants as steps
use Rattle.periodic_walk.specs.declared.state.Hand.TheVariants as hands
use Rattle.periodic_walk.specs.declared.state.HeldQueue.{HeldQueue}
use Rattle.periodic_walk.specs.declared.queue.QueueRow.TheVariants as queue_rows
use Rattle.periodic_walk.specs.declared.itd.ItdRow.TheVariants as itd_rows
use Rattle.periodic_walk.specs.declared.sitd.SitdRow.TheVariants as sitd_rows
use Rattle.periodic_walk.specs.Place.{FramePlace}
use Rattle.periodic_walk.specs.Queue.{queue_step, writing, missed, miss_outcome}
use Rattle.periodic_walk.specs.Itd.{itd_step}
use Rattle.periodic_walk.specs.Sitd.{sitd_step, writing as sitd_writing}
use Rattle.periodic_walk.specs.Rows.{step_of}
use Rattle.periodic_walk.specs.Causes.{QueueWorked, ItdWorked, SitdWorked, IsWorked, IsGoing}
use Rattle.periodic_walk.specs.Causes.QueueWorked.{transacts as queue_transacts, halted as queue_halted, not_in_its_s_mask as queue_not_in_its_s_mask, not_in_its_c_mask as queue_not_in_its_c_mask, out_of_time as queue_out_of_time, bytes_foreign as queue_bytes_foreign, misses as queue_misses, miss_foreign as queue_miss_foreign}
use Rattle.periodic_walk.specs.Causes.ItdWorked.{transacts as itd_transacts, out_of_time as itd_out_of_time, bytes_foreign as itd_bytes_foreign}
use Rattle.periodic_walk.specs.Causes.SitdWorked.{transacts as sitd_transacts, comes_in_others as sitd_comes_in_others, out_of_time as sitd_out_of_time, bytes_foreign as sitd_bytes_foreign, misses as sitd_misses, miss_foreign as sitd_miss_foreign}
use Rattle.periodic_walk.proofs.Causing.{queue_turned, sitd_turned}
use Rattle.periodic_walk.proofs.Caused.{queue_here, going_here, sitd_here}

module _ (p : FramePlace) (h : HeldQueue) where
  queue_sent : (all : Bool) → (sending (planned h.copy.queue_head) h.copy.queue_head p.memory).all ≡ all → QueueWorked p h (if all then steps.Transact else steps.Fault)
  queue_sent true is = queue_transacts
  queue_sent false is = queue_bytes_foreign is

  queue_worked : (late : Bool) → nat_lt p.walk.left (planned h.copy.queue_head).price.0 ≡ late → QueueWorked p h (queue_step (if late then queue_rows.Skip else queue_rows.Transact (planned h.copy.queue_head)) h p)
  queue_worked true late = queue_out_of_time (ltb-true _ _ late)
  queue_worked false late = queue_sent (sending (planned h.copy.queue_head) h.copy.queue_head p.memory).all refl

  queue_missed : waits h.copy.queue_head ≡ true → is_missed p.walk.index h.copy.queue_head ≡ true → (all : Bool) → (writing (missed h).copy miss_outcome p.walk.reply p.memory).all ≡ all → QueueWorked p h (if all then steps.WriteBack else steps.Fault)
  queue_missed waiting is true all = queue_misses waiting is
  queue_missed waiting is false all = queue_miss_foreign is all

  completed : (lost comes_now : Bool) → waits h.copy.queue_head ≡ true → is_missed p.walk.index h.copy.queue_head ≡ lost → has h.copy.queue_head.cmask (microframe_of p.walk.index) ≡ comes_now → QueueWorked p h (queue_turned p h (complete_turn lost comes_now))
  completed true comes_now waiting lost now = queue_missed waiting lost (writing (missed h).copy miss_outcome p.walk.reply p.memory).all refl
  completed false true waiting lost now = queue_worked (nat_lt p.walk.left (planned h.copy.queue_head).price.0) refl
  completed false false waiting lost now = queue_not_in_its_c_mask waiting now

  started : (may is_halted : Bool) (link : QtdLink) → waits h.copy.queue_head ≡ false → has h.copy.queue_head.smask (microframe_of p.walk.index) ≡ may → h.copy.queue_head.token.halted ≡ is_halted → QueueWorked p h (queue_turned p h (start_turn (visit_at may is_halted true link)))
  started false is_halted link waiting may halts = queue_not_in_its_s_mask waiting may
  started true true link waiting may halts = queue_halted halts
  started true false link waiting may halts = queue_worked (nat_lt p.walk.left (planned h.copy.queue_head).price.0) refl

  turned : (waiting : Bool) → waits h.copy.queue_head ≡ waiting → h.copy.queue_head.token.active ≡ true → QueueWorked p h (queue_turned p h (if waiting then complete_turn (is_missed p.walk.index h.copy.queue_head) (has h.copy.queue_head.cmask (microframe_of p.walk.index)) else start_turn (visit_at (has h.copy.queue_head.smask (microframe_of p.walk.index)) h.copy.queue_head.token.halted h.copy.queue_head.token.active (qtd_link_of (next_pointer h.copy.queue_head)))))
  turned true waiting active = completed (is_missed p.walk.index h.copy.queue_head) (has h.copy.queue_head.cmask (microframe_of p.walk.index)) waiting refl refl
  turned false waiting active =
      let may : Bool = has h.copy.queue_head.smask (microframe_of p.walk.index) in
      let link : QtdLink = qtd_link_of (next_pointer h.copy.queue_head) in
      subst (λ (b : Bool). QueueWorked p h (queue_turned p h (start_turn (visit_at may h.copy.queue_head.token.halted b link)))) (sym active)
      (started may h.copy.queue_head.token.halted link waiting refl refl)

module _ (p : FramePlace) (h : HeldItd) where
  itd_sent : (all : Bool) → (itd_sending (itd_transaction h) h p.memory).all ≡ all → ItdWorked p h (if all then steps.Transact else steps.Fault)
  itd_sent true is = itd_transacts
  itd_sent false is = itd_bytes_foreign is

  itd_worked : (late : Bool) → nat_lt p.walk.left (itd_transaction h).price.0 ≡ late → ItdWorked p h (itd_step (if late then itd_rows.Skip else itd_rows.Transact (itd_transaction h)) h p)
  itd_worked true late = itd_out_of_time (ltb-true _ _ late)
  itd_worked false late = itd_sent (itd_sending (itd_transaction h) h p.memory).all refl

module _ (p : FramePlace) (h : HeldSitd) where
  sitd_sent : (all : Bool) → (sitd_sending (sitd_transaction h.sitd) h.sitd p.memory).all ≡ all → SitdWorked p h (if all then steps.Transact else steps.Fault)
  sitd_sent true is = sitd_transacts
  sitd_sent false is = sitd_bytes_foreign is

  sitd_worked : (late : Bool) → nat_lt p.walk.left (sitd_transaction h.sitd).price.0 ≡ late → SitdWorked p h (sitd_step (if late then sitd_rows.Skip else sitd_rows.Transact (sitd_transaction h.sitd)) h p)
  sitd_worked true late = sitd_out_of_time (ltb-true _ _ late)
  sitd_worked false late = sitd_sent (sitd_sending (sitd_transaction h.sitd) h.sitd p.memory).all refl

  sitd_lost : sitd_missed (microframe_of p.walk.index) h.sitd ≡ true → (all : Bool) → (sitd_writing (missed_copy h) Failed p.walk.reply p.memory).all ≡ all → SitdWorked p h (if all then steps.WriteBack else steps.Fault)
  sitd_lost is true all = sitd_misses is
  sitd_lost is false all = sitd_miss_foreign is all

  sitd_active : (lost now : Bool) → sitd_missed (microframe_of p.walk.index) h.sitd ≡ lost → comes (microframe_of p.walk.index) h.sitd ≡ now → SitdWorked p h (sitd_turned p h (turn_at true lost now))
  sitd_active true now lost comes_now = sitd_lost lost (sitd_writing (missed_copy h) Failed p.walk.reply p.memory).all refl
  sitd_active false true lost comes_now = sitd_worked (nat_lt p.walk.left (sitd_transaction h.sitd).price.0) refl
  sitd_active false false lost comes_now = sitd_comes_in_others comes_now

queue_works : (p : FramePlace) (h : HeldQueue) → p.walk.hand ≡ Some (hands.Queue h) → h.copy.settled ≡ None → h.copy.queue_head.token.active ≡ true → QueueWorked p h (step_of p)
queue_works p h in_hand fresh active =
    subst (λ (step : WalkStep). QueueWorked p h step) (sym (queue_here p h None in_hand fresh)) (turned p h (waits h.copy.queue_head) refl active)

itd_works : (p : FramePlace) (h : HeldItd) → p.walk.hand ≡ Some (hands.Itd h) → h.ended ≡ None → h.slot.active ≡ true → ItdWorked p h (step_of p)
itd_works p h in_hand going active =
    let late : Bool = nat_lt p.walk.left (itd_transaction h).price.0 in
    let goes : IsGoing p h = record { in_hand = in_hand; not_ended = going } in
    subst (λ (step : WalkStep). ItdWorked p h step)
    (sym (going_here p h goes ∙ ap (λ (x : Bool). itd_step (if x then (if late then itd_rows.Skip else itd_rows.Transact (itd_transaction h)) else itd_rows.Skip) h p) active))
    (itd_worked p h late refl)

sitd_works : (p : FramePlace) (h : HeldSitd) → p.walk.hand ≡ Some (hands.Sitd h) → h.settled ≡ None → h.sitd.active ≡ true → SitdWorked p h (step_of p)
sitd_works p h in_hand fresh active =
    let lost : Bool = sitd_missed (microframe_of p.walk.index) h.sitd in
    let now : Bool = comes (microframe_of p.walk.index) h.sitd in
    subst (λ (step : WalkStep). SitdWorked p h step)
    (sym (sitd_here p h None in_hand fresh ∙ ap (λ (x : Bool). sitd_turned p h (turn_at x lost now)) active))
    (sitd_active p h lost now refl refl)

pub works : (p : FramePlace) → IsWorked p (step_of p)
works p = record { queue = queue_works p; itd = itd_works p; sitd = sitd_works p }
