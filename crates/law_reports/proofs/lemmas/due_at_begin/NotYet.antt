-- A complete-split that is due and is answered NYET before the last microframe of its C-mask comes to nothing but to wait (EHCI 1.0,
-- 4.12.2.4.2).
use Rattle.std.proofs.Common.{◌≡◌, ◌≢◌, ℕ, ◌*◌, ◌≤◌, Bool, true, false, List, [], ◌∷◌, ap, refl, sym, subst, ◌∙◌, inl, inr, ◌⊎◌}
use Rattle.std.specs.Prelude.{◌==◌}
use Rattle.std.proofs.lemmas.Bool.{cases_Bool}
use Rattle.usb_base.specs.declared.packets.Pid.{Pid}
use Rattle.usb_base.specs.declared.packets.Pid.TheVariants as pids
use Rattle.usb_base.specs.declared.packets.Reply.{Reply}
use Rattle.usb_base.specs.declared.packets.Reply.TheVariants as replies
use Rattle.script_types.specs.declared.scripts.Script.{Script}
use Rattle.script_text.specs.Faults.{Spells}
use Rattle.qh_qtd.specs.declared.queue_head.Qh.{Qh}
use Rattle.qh_qtd.specs.declared.token.Token.{Token}
use Rattle.toggle_error.specs.declared.host.Outcome.TheVariants.{Wait}
use Rattle.hc_copy.specs.Overlay.{settled_queue}
use Rattle.hc_copy.specs.Transacting.{host_after, outcome_in}
use Rattle.hc_copy.specs.declared.held.Transaction.{Transaction}
use Rattle.hc_masks.specs.Masks.{is_last, with_bit}
use Rattle.hc_interrupt.specs.Copies.{with_split}
use Rattle.hc_interrupt.specs.Turns.{microframe_of, tag_of, waits, planned}
use Rattle.bus_wire.specs.Bus.{Fixed, fixed_of}
use Rattle.bus_world.specs.Budgets.{moment}
use Rattle.bus_world.specs.World.{World}
use Rattle.claims_world.specs.DueAtBegin.{begun, IsUncancelled}
use Rattle.claims_world.specs.QueuesMade.{QueueMade, queues_made, HasMade}
use Rattle.claims_world.specs.SplitsAtBegin.{IsCompleteDue, IsCompleted}
use Rattle.claims_world.specs.Visits.{IsPastFrames}
use Rattle.claims_world.specs.WithinLoad.{repeats}
use Rattle.law_world.specs.memory.Mixed.{IsMixedWorld}
use Rattle.law_microframes.specs.visits.Belonging.{HeadsHaveFields}
use Rattle.claims_world.specs.SplitFrames.{IsAnswer, IsNotYet}
use Rattle.claims_world.specs.SplitFrames.{IsAsFar}
use Rattle.law_reports.proofs.lemmas.due_at_begin.Answered.{complete_of, is_complete}
use Rattle.law_reports.proofs.lemmas.due_at_begin.SplitDue.{Anything, Leaves, complete_due, complete_leaves}
use Rattle.law_reports.proofs.lemmas.due_at_begin.SplitMoments.{IsDueOf}
use Rattle.law_reports.proofs.lemmas.due_at_begin.SplitRuns.{splits_are_made}
use Rattle.law_reports.proofs.lemmas.due_at_begin.SplitStages.{reply_to}
use Rattle.law_reports.proofs.lemmas.due_at_begin.SplitTurns.{IsWaitingSplit, waiting_split, left_as, as_far_as, far_as_due}
use Rattle.law_reports.proofs.lemmas.due_at_begin.WrittenMoments.{LeavesWaiting}

-- ---- a transaction

pub record IsAskedOnce (q : Qh) (n f : ℕ) (m : QueueMade) : Type 0 where
  pub completed : IsCompleted q n f m
  pub wait : m.heard ≡ replies.Hand pids.Nyet → is_last q.cmask (microframe_of f) ≡ false → m.outcome ≡ Wait
  pub far : m.heard ≡ replies.Hand pids.Nyet → is_last q.cmask (microframe_of f) ≡ false → IsAsFar q m.queue

not_yet_waits : (q : Qh) (out : List ℕ) (last : Bool) (reply : Reply) → (q.eps == 2) ≡ false → q.token.split_state ≡ true
    → reply ≡ replies.Hand pids.Nyet → last ≡ false → outcome_in (planned q) out last reply ≡ Wait
not_yet_waits q out last reply low split nyet more =
    ap (λ (t : Transaction). outcome_in t out last reply) (is_complete q low split)
    ∙ ap (outcome_in (complete_of q) out last) nyet
    ∙ ap (λ (b : Bool). outcome_in (complete_of q) out b (replies.Hand pids.Nyet)) more

-- .. and the queue head is as far as before
not_yet_far : (f : ℕ) (q : Qh) (out : List ℕ) (last : Bool) (reply : Reply) → (q.eps == 2) ≡ false → q.token.split_state ≡ true
    → reply ≡ replies.Hand pids.Nyet → last ≡ false → IsAsFar q (left_as f q out last reply)
unfolding with_split settled_queue
not_yet_far f q out last reply low split nyet more =
    subst (λ (t : Transaction). IsAsFar q (with_split f t.split (settled_queue (host_after t out last reply) q)))
    (sym (is_complete q low split))
    (subst (λ (r : Reply). IsAsFar q (with_split f (complete_of q).split (settled_queue (host_after (complete_of q) out last r) q)))
    (sym nyet)
    (subst (λ (b : Bool). IsAsFar q (with_split f (complete_of q).split
    (settled_queue (host_after (complete_of q) out b (replies.Hand pids.Nyet)) q))) (sym more) (record { toggle = refl; left = refl })))

pub asked_leaves : (fixed : Fixed) (b : World) (k : IsMixedWorld b) (heads : HeadsHaveFields b.driver b.memory) (e q : ℕ)
    (d : IsCompleteDue fixed b e q)
    → Leaves fixed b k heads e q d Anything (IsAskedOnce d.split.queue (32 * q) b.control.frame.index) tt
asked_leaves fixed b k heads e q d z same head c hears any out last is =
    let w : IsWaitingSplit d.split.queue = waiting_split d.split.queue d.waiting in
    record {
      completed = complete_leaves fixed b k heads e q d z same head c hears any out last is;
      wait = λ nyet more.
          not_yet_waits z out last (reply_to fixed c z out last) (ap (λ (n : ℕ). n == 2) same.eps ∙ w.low)
          (ap (λ (t : Token). t.split_state) same.token ∙ w.split) nyet
          (is ∙ ap (λ (mask : ℕ). is_last mask (microframe_of b.control.frame.index)) same.cmask ∙ more);
      far = λ nyet more.
          as_far_as d.split.queue z (left_as b.control.frame.index z out last (reply_to fixed c z out last))
          (far_as_due d.split.queue z same)
          (not_yet_far b.control.frame.index z out last (reply_to fixed c z out last) (ap (λ (n : ℕ). n == 2) same.eps ∙ w.low)
          (ap (λ (t : Token). t.split_state) same.token ∙ w.split) nyet
          (is ∙ ap (λ (mask : ℕ). is_last mask (microframe_of b.control.frame.index)) same.cmask ∙ more));
    }

asked_due : (fixed : Fixed) (b : World) (k : IsMixedWorld b) (heads : HeadsHaveFields b.driver b.memory) (e q : ℕ)
    (d : IsCompleteDue fixed b e q)
    → IsDueOf fixed b e q d.split.there.endpoint.desc Anything (IsAskedOnce d.split.queue (32 * q) b.control.frame.index)
asked_due fixed b k heads e q d =
    complete_due fixed b k heads e q d Anything (IsAskedOnce d.split.queue (32 * q) b.control.frame.index) tt
    (asked_leaves fixed b k heads e q d)

-- ---- what is heard

is_nyet : Reply → Bool
is_nyet (replies.Hand pids.Nyet) = true
is_nyet _ = false

pub nyet_or_not : (r : Reply) → (r ≡ replies.Hand pids.Nyet) ⊎ (r ≢ replies.Hand pids.Nyet)
nyet_or_not (replies.Hand pids.Nyet) = inl refl
nyet_or_not r = inr (λ is. cc is)

-- it was answered so, it was the last one, or it waits further
pub data GoesOn (A : Type 0) (q : Qh) (n f : ℕ) (ms : List QueueMade) : Type 0 where
  is_answered : A → GoesOn A q n f ms
  was_last : is_last q.cmask (microframe_of f) ≡ true → HasMade (IsNotYet n) ms → GoesOn A q n f ms
  is_left : (z : Qh) → HasMade (LeavesWaiting n z) ms → HasMade (IsNotYet n) ms → z.c_prog ≡ with_bit q.c_prog (microframe_of f)
      → z.frame_tag ≡ tag_of f → IsAsFar q z → GoesOn A q n f ms

pub more_on : (A B : Type 0) (q : Qh) (n f : ℕ) (m : QueueMade) (ms : List QueueMade) → (A → B) → GoesOn A q n f ms
    → GoesOn B q n f (m ∷ ms)
more_on A B q n f m ms more (is_answered a) = is_answered (more a)
more_on A B q n f m ms more (was_last last a) = was_last last (inr a)
more_on A B q n f m ms more (is_left z left a progress tag far) = is_left z (inr left) (inr a) progress tag far

module _ (A : Type 0) (q : Qh) (n f : ℕ) (m : QueueMade) (ms : List QueueMade) (a : IsAskedOnce q n f m)
    (nyet : m.heard ≡ replies.Hand pids.Nyet) where
  by_last : (b : Bool) → is_last q.cmask (microframe_of f) ≡ b → GoesOn A q n f (m ∷ ms)
  by_last true last = was_last last (inl (record { at = a.completed.at; told = nyet }))
  by_last false last =
      is_left m.queue
      (inl (record { at = a.completed.at; queue = refl; waiting = a.completed.goes_on nyet last; wait = a.wait nyet last }))
      (inl (record { at = a.completed.at; told = nyet })) a.completed.progress a.completed.frame (a.far nyet last)

  pub not_yet : GoesOn A q n f (m ∷ ms)
  not_yet = by_last (is_last q.cmask (microframe_of f)) refl

module _ (q : Qh) (n f : ℕ) where
  by_heard : (m : QueueMade) (ms : List QueueMade) → IsAskedOnce q n f m
      → (m.heard ≡ replies.Hand pids.Nyet) ⊎ (m.heard ≢ replies.Hand pids.Nyet) → GoesOn (HasMade (IsAnswer n) (m ∷ ms)) q n f (m ∷ ms)
  by_heard m ms a (inl nyet) = not_yet (HasMade (IsAnswer n) (m ∷ ms)) q n f m ms a nyet
  by_heard m ms a (inr told) = is_answered (inl (record { at = a.completed.at; told = told }))

  found_on : (ms : List QueueMade) → HasMade (IsAskedOnce q n f) ms → GoesOn (HasMade (IsAnswer n) ms) q n f ms
  found_on [] was = absurd was
  found_on (m ∷ ms) (inl a) = by_heard m ms a (nyet_or_not m.heard)
  found_on (m ∷ ms) (inr was) =
      more_on (HasMade (IsAnswer n) ms) (HasMade (IsAnswer n) (m ∷ ms)) q n f m ms (λ a. inr a) (found_on ms was)

-- ---- in a run

pub completes_go_on : (text : List ℕ) (s : Script) → Spells text s → (k e q : ℕ) → IsPastFrames (moment s k).world
    → repeats s k ≤ 4000000 → (d : IsCompleteDue (fixed_of s) (begun s k) e q) → IsUncancelled (moment s k).world.driver e
    → GoesOn (HasMade (IsAnswer (32 * q)) (queues_made s k)) d.split.queue (32 * q) (begun s k).control.frame.index (queues_made s k)
completes_go_on text s spelled k e q past few d off =
    found_on d.split.queue (32 * q) (begun s k).control.frame.index (queues_made s k)
    (splits_are_made text s spelled (IsCompleteDue (fixed_of s)) (λ b x y due. due.split.there.endpoint.desc) (λ b x y due. Anything)
    (λ b x y due. IsAskedOnce due.split.queue (32 * y) b.control.frame.index)
    (λ b mixed heads sends x y due. asked_due (fixed_of s) b mixed heads x y due)
    (λ sides at lines hs w piped named b x y due z here kind same c goes had. tt) (λ x y due. cc due.split.there.here) k e q past few d
    off)
