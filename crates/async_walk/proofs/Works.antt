-- A queue head whose overlay is active has its transaction, or there is a reason.
use Rattle.std.proofs.Common.{◌≡◌, Bool, true, false, Some, not, ◌||◌, ◌==◌, if◌then◌else◌, refl, ap, sym, subst, ◌∙◌}
use Rattle.std.specs.Prelude.{nat_lt}
use Rattle.std.proofs.lemmas.Bool.{ltb-true, eqb-true, eqb-false}
use Rattle.link_words.specs.declared.kinds.QtdLink.{QtdLink}
use Rattle.link_words.specs.Links.{qtd_link_of}
use Rattle.qh_qtd.specs.declared.queue_head.Qh.{Qh}
use Rattle.hc_copy.specs.declared.held.Held.{Held}
use Rattle.hc_copy.specs.Visits.{next_pointer, visit_at}
use Rattle.hc_copy.specs.Buffer.{sending}
use Rattle.async_walk.specs.declared.rows.WalkRow.{WalkRow}
use Rattle.async_walk.specs.declared.state.WalkStep.{WalkStep}
use Rattle.async_walk.specs.declared.state.WalkStep.TheVariants as steps
use Rattle.async_walk.specs.Naks.{may_work, planned}
use Rattle.async_walk.specs.Rows.{WalkPlace, work_row, visit_row, held_row, row_at, walk_row, started, at_event, event_row, step_of, sent_step}
use Rattle.async_walk.specs.Causes.{NaksAreUsedUp, Worked, IsWorked}
use Rattle.async_walk.specs.Causes.Worked.{transacts, naks_used_up, halted, out_of_time, bytes_foreign}
use Rattle.async_walk.proofs.Steps.{step_here}

used_up_at : (q : Qh) (uncounted none_left : Bool) → (q.rl == 0) ≡ uncounted → (q.nak_cnt == 0) ≡ none_left → (uncounted || not none_left) ≡ false → NaksAreUsedUp q
used_up_at q true none_left rl naks is = absurd cc
used_up_at q false false rl naks is = absurd cc
used_up_at q false true rl naks is = record { counted = λ e. eqb-false q.rl 0 rl e; none_left = eqb-true q.nak_cnt 0 naks }

used_up : (q : Qh) → may_work q ≡ false → NaksAreUsedUp q
used_up q is = used_up_at q (q.rl == 0) (q.nak_cnt == 0) refl refl is

module _ (p : WalkPlace) (h : Held) (in_hand : p.walk.held ≡ Some h) where
  sent_at : (all : Bool) → (sending (planned h.queue_head) h.queue_head p.memory).all ≡ all → Worked p.walk.left p.memory h.queue_head (if all then steps.Transact else steps.Fault)
  sent_at true all = transacts
  sent_at false all = bytes_foreign all

  sent : Worked p.walk.left p.memory h.queue_head (sent_step (planned h.queue_head) p.memory p.walk.held)
  sent =
      subst (λ (step : WalkStep). Worked p.walk.left p.memory h.queue_head step) (sym (ap (sent_step (planned h.queue_head) p.memory) in_hand))
      (sent_at (sending (planned h.queue_head) h.queue_head p.memory).all refl)

  worked_at : (late : Bool) → nat_lt p.walk.left (planned h.queue_head).price.0 ≡ late → Worked p.walk.left p.memory h.queue_head (step_of (work_row late (planned h.queue_head)) p)
  worked_at true late = out_of_time (ltb-true p.walk.left (planned h.queue_head).price.0 late)
  worked_at false late = sent

  visited : (may is_halted : Bool) (link : QtdLink) → may_work h.queue_head ≡ may → h.queue_head.token.halted ≡ is_halted → Worked p.walk.left p.memory h.queue_head (step_of (visit_row p.memory p.walk.left h.queue_head (visit_at may is_halted true link)) p)
  visited false is_halted link may_is halted_is = naks_used_up (used_up h.queue_head may_is)
  visited true true link may_is halted_is = halted halted_is
  visited true false link may_is halted_is = worked_at (nat_lt p.walk.left (planned h.queue_head).price.0) refl

works_here : (p : WalkPlace) → IsWorked p (step_of (walk_row p) p)
works_here p h in_hand not_settled active =
    let q : Qh = h.queue_head in
    let link : QtdLink = qtd_link_of (next_pointer q) in
    let row : walk_row p ≡ visit_row p.memory p.walk.left q (visit_at (may_work q) q.token.halted true link) =
    ap (row_at p) in_hand
    ∙ ap (held_row p.memory p.walk.left q) not_settled
    ∙ ap (λ (b : Bool). visit_row p.memory p.walk.left q (visit_at (may_work q) q.token.halted b link)) active in
    subst (λ (r : WalkRow). Worked p.walk.left p.memory q (step_of r p)) (sym row)
    (visited p h in_hand (may_work q) q.token.halted link refl refl)

pub works : (p : WalkPlace) → IsWorked p (step_of (event_row p) (at_event p))
works p = subst (λ (step : WalkStep). IsWorked (started p) step) (sym (step_here (started p))) (works_here (started p))
