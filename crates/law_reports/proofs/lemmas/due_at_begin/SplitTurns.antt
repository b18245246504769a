-- Which transaction comes for the queue head of an interrupt endpoint below a hub, and what it leaves of the copy (EHCI 1.0, 4.10, 4.10.2
-- and 4.12.2.4).
use Rattle.std.proofs.Common.{◌≡◌, ℕ, Bool, true, false, List, ap, refl, sym, subst, ◌∙◌}
use Rattle.std.specs.Prelude.{not, ◌&&◌, ◌||◌, ◌==◌, if◌then◌else◌}
use Rattle.std.proofs.lemmas.Bool.{eqb-true}
use Rattle.usb_base.specs.declared.packets.EpKind.TheVariants.{Interrupt}
use Rattle.usb_base.specs.declared.packets.Pid.TheVariants as pids
use Rattle.usb_base.specs.declared.packets.Reply.{Reply}
use Rattle.usb_base.specs.declared.packets.Reply.TheVariants.{Hand}
use Rattle.link_words.specs.declared.kinds.QtdLink.{QtdLink}
use Rattle.link_words.specs.Links.{qtd_link_of}
use Rattle.qh_qtd.specs.declared.queue_head.Qh.{Qh}
use Rattle.qh_qtd.specs.declared.token.Token.{Token}
use Rattle.hc_copy.specs.declared.held.Transaction.{Transaction}
use Rattle.hc_copy.specs.Overlay.{settled_queue}
use Rattle.hc_copy.specs.Planning.{queue_pipe, host_in, split_at, transaction_at}
use Rattle.hc_copy.specs.Transacting.{host_after, outcome_in}
use Rattle.hc_copy.specs.Visits.{next_pointer, visit_at}
use Rattle.hc_masks.specs.Masks.{has}
use Rattle.hc_interrupt.specs.declared.turns.Turn.{Turn}
use Rattle.hc_interrupt.specs.declared.turns.Turn.TheVariants as turns
use Rattle.hc_interrupt.specs.Copies.{with_split}
use Rattle.hc_interrupt.specs.Turns.{microframe_of, tag_of, waits, is_missed, complete_turn, start_turn, turn_of, planned, is_last_of}
use Rattle.claims_world.specs.Due.{IsActiveToken}
use Rattle.claims_world.specs.QueuesMade.{QueueMade}
use Rattle.claims_world.specs.SplitsAtBegin.{IsStarted, IsCompleted}
use Rattle.claims_world.specs.SplitFrames.{IsAsFar}

-- ---- queue heads that are alike in what tells the turn and the transaction

pub record IsAsDue (v q : Qh) : Type 0 where
  pub token : q.token ≡ v.token
  pub eps : q.eps ≡ v.eps
  pub smask : q.smask ≡ v.smask
  pub cmask : q.cmask ≡ v.cmask
  pub progress : q.c_prog ≡ v.c_prog
  pub tag : q.frame_tag ≡ v.frame_tag

pub itself_as_due : (v : Qh) → IsAsDue v v
itself_as_due v = record { token = refl; eps = refl; smask = refl; cmask = refl; progress = refl; tag = refl }

-- as far as one, which is as far as another
pub as_far_as : (u v q : Qh) → IsAsFar u v → IsAsFar v q → IsAsFar u q
as_far_as u v q x y = record { toggle = y.toggle ∙ x.toggle; left = y.left ∙ x.left }

pub far_as_due : (v q : Qh) → IsAsDue v q → IsAsFar v q
far_as_due v q k = record { toggle = ap (λ (t : Token). t.toggle) k.token; left = ap (λ (t : Token). t.total) k.token }

-- ---- the turn

abbrev turned : Bool → Bool → Bool → Bool → Bool → Bool → QtdLink → Turn
turned w missed completes starts halted active link =
    if w then complete_turn missed completes else start_turn (visit_at starts halted active link)

-- where it is active the link isn't looked at
active_turn : (w missed completes starts : Bool) (l m : QtdLink) → turned w missed completes starts false true l
    ≡ turned w missed completes starts false true m
active_turn true missed completes starts l m = refl
active_turn false missed completes true l m = refl
active_turn false missed completes false l m = refl

pub waits_same : (v q : Qh) → IsAsDue v q → waits q ≡ waits v
waits_same v q k = rw (k.token, k.eps) refl

pub missed_same : (f : ℕ) (v q : Qh) → IsAsDue v q → is_missed f q ≡ is_missed f v
missed_same f v q k = rw (k.tag, k.smask, k.cmask, k.progress) refl

turn_now : (f : ℕ) (q : Qh) → IsActiveToken q.token → turn_of f q
    ≡ turned (waits q) (is_missed f q) (has q.cmask (microframe_of f)) (has q.smask (microframe_of f)) false true
    (qtd_link_of (next_pointer q))
turn_now f q work =
    ap (λ (b : Bool). turned (waits q) (is_missed f q) (has q.cmask (microframe_of f)) (has q.smask (microframe_of f)) b q.token.active
    (qtd_link_of (next_pointer q))) work.unhalted
    ∙ ap (λ (b : Bool). turned (waits q) (is_missed f q) (has q.cmask (microframe_of f)) (has q.smask (microframe_of f)) false b
    (qtd_link_of (next_pointer q))) work.active

pub same_turn : (f : ℕ) (v q : Qh) → IsAsDue v q → IsActiveToken q.token → IsActiveToken v.token → turn_of f q ≡ turn_of f v
same_turn f v q k work was =
    let u : ℕ = microframe_of f in
    turn_now f q work
    ∙ ap (λ (b : Bool). turned b (is_missed f q) (has q.cmask u) (has q.smask u) false true (qtd_link_of (next_pointer q)))
    (waits_same v q k)
    ∙ ap (λ (b : Bool). turned (waits v) b (has q.cmask u) (has q.smask u) false true (qtd_link_of (next_pointer q))) (missed_same f v q k)
    ∙ ap (λ (m : ℕ). turned (waits v) (is_missed f v) (has m u) (has q.smask u) false true (qtd_link_of (next_pointer q))) k.cmask
    ∙ ap (λ (m : ℕ). turned (waits v) (is_missed f v) (has v.cmask u) (has m u) false true (qtd_link_of (next_pointer q))) k.smask
    ∙ active_turn (waits v) (is_missed f v) (has v.cmask u) (has v.smask u) (qtd_link_of (next_pointer q)) (qtd_link_of (next_pointer v))
    ∙ sym (turn_now f v was)

-- with an overlay that isn't active it goes on to a qTD in a microframe of its S-mask
idle_waits : (a b c : Bool) → (not a && (b && (false && c))) ≡ false
idle_waits true b c = refl
idle_waits false true c = refl
idle_waits false false c = refl

pub take_turn : (f : ℕ) (q : Qh) → q.token.active ≡ false → q.token.halted ≡ false → has q.smask (microframe_of f) ≡ true
    → turn_of f q ≡ turns.Take (qtd_link_of (next_pointer q))
take_turn f q idle unhalted bit =
    let u : ℕ = microframe_of f in
    let quiet : waits q ≡ false =
    ap (λ (b : Bool). not (q.eps == 2) && (q.token.split_state && (b && not q.token.halted))) idle
    ∙ idle_waits (q.eps == 2) q.token.split_state (not q.token.halted) in
    ap (λ (b : Bool). turned b (is_missed f q) (has q.cmask u) (has q.smask u) q.token.halted q.token.active
    (qtd_link_of (next_pointer q))) quiet
    ∙ ap (λ (b : Bool). start_turn (visit_at b q.token.halted q.token.active (qtd_link_of (next_pointer q)))) bit
    ∙ ap (λ (b : Bool). start_turn (visit_at true b q.token.active (qtd_link_of (next_pointer q)))) unhalted
    ∙ ap (λ (b : Bool). start_turn (visit_at true false b (qtd_link_of (next_pointer q)))) idle

-- ---- what is due comes

both_so : (a b : Bool) → (a && b) ≡ true → (a ≡ true) × (b ≡ true)
both_so true b is = (refl, is)
both_so false b is = absurd cc

pub record IsWaitingSplit (q : Qh) : Type 0 where
  pub low : (q.eps == 2) ≡ false
  pub split : q.token.split_state ≡ true
  pub work : IsActiveToken q.token

not_so : (b : Bool) → not b ≡ true → b ≡ false
not_so true is = absurd cc
not_so false is = refl

pub waiting_split : (q : Qh) → waits q ≡ true → IsWaitingSplit q
waiting_split q is =
    let first = both_so (not (q.eps == 2)) (q.token.split_state && (q.token.active && not q.token.halted)) is in
    let second = both_so q.token.split_state (q.token.active && not q.token.halted) first.1 in
    let third = both_so q.token.active (not q.token.halted) second.1 in
    record {
      low = not_so (q.eps == 2) first.0;
      split = second.0;
      work = record { active = third.0; unhalted = not_so q.token.halted third.1 };
    }

unsplit_waits : (a b c : Bool) → (not a && (false && b)) ≡ false
unsplit_waits true b c = refl
unsplit_waits false b c = refl

pub start_comes : (f : ℕ) (v : Qh) → v.token.split_state ≡ false → IsActiveToken v.token → has v.smask (microframe_of f) ≡ true
    → turn_of f v ≡ turns.Work
start_comes f v unsplit work bit =
    let u : ℕ = microframe_of f in
    let quiet : waits v ≡ false =
    ap (λ (b : Bool). not (v.eps == 2) && (b && (v.token.active && not v.token.halted))) unsplit
    ∙ unsplit_waits (v.eps == 2) (v.token.active && not v.token.halted) true in
    turn_now f v work
    ∙ ap (λ (b : Bool). turned b (is_missed f v) (has v.cmask u) (has v.smask u) false true (qtd_link_of (next_pointer v))) quiet
    ∙ ap (λ (b : Bool). start_turn (visit_at b false true (qtd_link_of (next_pointer v)))) bit

pub complete_comes : (f : ℕ) (v : Qh) → waits v ≡ true → is_missed f v ≡ false → has v.cmask (microframe_of f) ≡ true
    → turn_of f v ≡ turns.Work
complete_comes f v waiting unmissed bit =
    let u : ℕ = microframe_of f in
    ap (λ (b : Bool). turned b (is_missed f v) (has v.cmask u) (has v.smask u) v.token.halted v.token.active (qtd_link_of (next_pointer v)))
    waiting
    ∙ ap (λ (b : Bool). complete_turn b (has v.cmask u)) unmissed ∙ ap (complete_turn false) bit

-- ---- what a transaction leaves of the copy

-- the copy after the transaction of its queue head
abbrev pub left_as : ℕ → Qh → List ℕ → Bool → Reply → Qh
left_as f q out last reply = with_split f (planned q).split (settled_queue (host_after (planned q) out last reply) q)

abbrev pub made_as_due : ℕ → ℕ → Qh → List ℕ → Bool → Reply → QueueMade
made_as_due f n q out last reply =
    record { at = n; queue = left_as f q out last reply; heard = reply; outcome = outcome_in (planned q) out last reply }

module _ (f n : ℕ) (q : Qh) (out : List ℕ) (last : Bool) (reply : Reply) (low : (q.eps == 2) ≡ false) where
  abbrev by_plan : Transaction → QueueMade
  by_plan t = record {
    at = n;
    queue = with_split f t.split (settled_queue (host_after t out last reply) q);
    heard = reply;
    outcome = outcome_in t out last reply;
  }

  abbrev split_by : Bool → Bool → Transaction
  split_by high state = transaction_at (split_at high state (queue_pipe Interrupt q)) (queue_pipe Interrupt q) (host_in q)

  -- a start-split: whatever is heard it waits
  started_so : (a b c : Bool) → a ≡ false → b ≡ true → c ≡ false → (not a && (true && (b && not c))) ≡ true
  started_so false true false x y z = refl
  started_so true b c x y z = absurd cc
  started_so false false c x y z = absurd cc
  started_so false true true x y z = absurd cc

  pub start_made : q.token.split_state ≡ false → IsActiveToken q.token → IsStarted n f (made_as_due f n q out last reply)
  unfolding with_split settled_queue
  start_made unsplit work =
      let plan : planned q ≡ split_by false false = ap (λ (b : Bool). split_by b q.token.split_state) low ∙ ap (split_by false) unsplit in
      subst (λ (t : Transaction). IsStarted n f (by_plan t)) (sym plan) (record {
        at = refl;
        waiting = started_so (q.eps == 2) q.token.active q.token.halted low work.active work.unhalted;
        frame = refl;
        none = refl;
      })

  -- .. and it is as far as before
  pub start_far : q.token.split_state ≡ false → IsAsFar q (left_as f q out last reply)
  unfolding with_split settled_queue
  start_far unsplit =
      let plan : planned q ≡ split_by false false = ap (λ (b : Bool). split_by b q.token.split_state) low ∙ ap (split_by false) unsplit in
      subst (λ (t : Transaction). IsAsFar q (by_plan t).queue) (sym plan) (record { toggle = refl; left = refl })

  -- a complete-split: where the translator has nothing yet it waits further
  tag_is : (a b : ℕ) (later : Bool) → (not (a == b) || later) ≡ false → a ≡ b
  tag_is a b later is = eqb-true a b (by (a == b) is)
    where
      by : (c : Bool) → (not c || later) ≡ false → c ≡ true
      by true is = refl
      by false is = absurd cc

  pub complete_made : waits q ≡ true → is_missed f q ≡ false → last ≡ is_last_of f q
      → IsCompleted q n f (made_as_due f n q out last reply)
  unfolding with_split settled_queue
  complete_made waiting unmissed is =
      let w : IsWaitingSplit q = waiting_split q waiting in
      let plan : planned q ≡ split_by false true = ap (λ (b : Bool). split_by b q.token.split_state) low ∙ ap (split_by false) w.split in
      subst (λ (t : Transaction). IsCompleted q n f (by_plan t)) (sym plan) (record {
        at = refl;
        progress = refl;
        frame = tag_is q.frame_tag (tag_of f) _ unmissed;
        goes_on = λ nyet more. further nyet (is ∙ more);
      })
    where
      further : reply ≡ Hand pids.Nyet → last ≡ false → waits (by_plan (split_by false true)).queue ≡ true
      further nyet more =
          ap (λ (r : Reply). waits (with_split f (split_by false true).split
          (settled_queue (host_after (split_by false true) out last r) q)))
          nyet
          ∙ ap (λ (b : Bool). waits (with_split f (split_by false true).split
          (settled_queue (host_after (split_by false true) out b (Hand pids.Nyet)) q))) more
          ∙ waiting
