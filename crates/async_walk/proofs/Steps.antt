-- The part ends, a visit is skipped, and the walk is stuck, each exactly for its causes.
use Rattle.std.proofs.Common.{◌≡◌, ℕ, Bool, true, false, Option, Some, None, if◌then◌else◌, refl, ap, sym, ◌∙◌, inl, inr, ◌⊎◌, ⊎_elim}
use Rattle.word_mem.specs.Memory.{Mem, reaches, refused}
use Rattle.link_words.specs.declared.kinds.QtdLink.TheVariants as qtd_links
use Rattle.qh_qtd.specs.declared.qtd.Qtd.{Qtd}
use Rattle.qh_qtd.specs.declared.queue_head.Qh.{Qh}
use Rattle.toggle_error.specs.declared.host.Outcome.{Outcome}
use Rattle.mem_queues.specs.Structures.{reaches_queue_head}
use Rattle.hc_copy.specs.declared.held.Held.{Held}
use Rattle.hc_copy.specs.declared.held.Visit.{Visit}
use Rattle.hc_copy.specs.declared.held.Visit.TheVariants as visits
use Rattle.hc_copy.specs.Buffer.{sending}
use Rattle.async_walk.specs.declared.rows.WalkRow.{WalkRow}
use Rattle.async_walk.specs.declared.rows.WalkRow.TheVariants as rows
use Rattle.async_walk.specs.declared.state.WalkStep.{WalkStep}
use Rattle.async_walk.specs.declared.state.WalkStep.TheVariants as steps
use Rattle.async_walk.specs.Naks.{planned}
use Rattle.async_walk.specs.Rows.{WalkPlace, cursor_link, writing, ring_read, visit_read, held_read, read_at, walk_row, was_read, started, at_event, event_row, step_of, took_step, sent_step, wrote_step, wrote_step_settled}
use Rattle.async_walk.specs.Causes.{LeadsTo, IsVisited, HasTime, Comes, IsSettled, HasReason, HasNothing, IsStuck, Cause}
use Rattle.async_walk.specs.Causes.Cause.{ring_is_broken, head_is_quiet, leads_to, is_resting, queue_ends, qtd_is_done, queue_is_broken, takes_qtd, is_out_of_time, has_time, is_settled}
use Rattle.async_walk.proofs.Causes.{each_row_has_its_cause, broken_ring_row, quiet_head_row, visited_row, late_row, timely_row, broken_queue_row, done_row, taking_row, settled_row}

-- ---- what is read where the walk goes on leaves memory

found : {A : Type 0} (b : Bool) (o : Option A) (v : A) → (if b then o else None) ≡ Some v → b ≡ true
found true o v e = refl
found false o v e = absurd cc

unrefused : (m : Mem) (b : Bool) → b ≡ true → (if b then m else refused m) ≡ m
unrefused m true is = refl
unrefused m false is = absurd cc

module _ (p : WalkPlace) where
  with_memory : (m : Mem) → m ≡ p.memory → record p { memory = m } ≡ p
  with_memory m same = ap (λ (x : Mem). record p { memory = x }) same

  led_here : (at : ℕ) (q : Qh) → LeadsTo p at q → was_read p ≡ p
  led_here at q leads =
      with_memory (read_at p p.walk.held)
      (ap (read_at p) leads.no_copy ∙ ap (ring_read p.memory) leads.leads_there
      ∙ unrefused p.memory (reaches_queue_head p.memory at) (found (reaches_queue_head p.memory at) _ q leads.stands_there))

  visited_here : (copy : Held) (visit : Visit) → IsVisited p copy visit → visit_read p.memory visit ≡ p.memory → was_read p ≡ p
  visited_here copy visit v same =
      with_memory (read_at p p.walk.held)
      (ap (read_at p) v.in_hand ∙ ap (held_read p.memory copy.queue_head) v.not_settled ∙ ap (visit_read p.memory) v.visits ∙ same)

  comes_here : (copy : Held) (at : ℕ) (qtd : Qtd) → Comes p copy at qtd → was_read p ≡ p
  comes_here copy at qtd c =
      visited_here copy (visits.Take (qtd_links.To at)) c.visited (unrefused p.memory (reaches p.memory at) (found (reaches p.memory at) _ qtd c.stands_there))

  settled_here : (copy : Held) (outcome : Outcome) → IsSettled p copy outcome → was_read p ≡ p
  settled_here copy outcome s =
      with_memory (read_at p p.walk.held) (ap (read_at p) s.in_hand ∙ ap (held_read p.memory copy.queue_head) s.settled)

  -- nothing was refused in the reading, or it is the fault
  pub reads_here : (row : WalkRow) → Cause p row → (row ≡ rows.Fault) ⊎ (was_read p ≡ p)
  reads_here _ (ring_is_broken c) = inl refl
  reads_here _ (head_is_quiet c) = inr (led_here c.at c.queue_head c.leads)
  reads_here _ (leads_to at q c) = inr (led_here at q c)
  reads_here _ (is_resting c) = inr (visited_here c.copy visits.Rest c.visited refl)
  reads_here _ (queue_ends c) = inr (visited_here c.copy (visits.Take qtd_links.End) c.visited refl)
  reads_here _ (qtd_is_done c) = inr (comes_here c.copy c.at c.qtd c.comes)
  reads_here _ (queue_is_broken c) = inl refl
  reads_here _ (takes_qtd at qtd c) = inr (comes_here c.copy at qtd c.comes)
  reads_here _ (is_out_of_time c) = inr (visited_here c.copy visits.Work c.visited refl)
  reads_here _ (has_time copy c) = inr (visited_here copy visits.Work c.visited refl)
  reads_here _ (is_settled copy outcome c) = inr (settled_here copy outcome c)

  -- the kind of an event, told by what stands before it
  pub step_here : step_of (walk_row p) (was_read p) ≡ step_of (walk_row p) p
  step_here =
      ⊎_elim (λ (e : walk_row p ≡ rows.Fault). ap (λ (row : WalkRow). step_of row (was_read p)) e ∙ sym (ap (λ (row : WalkRow). step_of row p) e))
      (λ (same : was_read p ≡ p). ap (step_of (walk_row p)) same) (reads_here (walk_row p) (each_row_has_its_cause p))

-- ---- the events that read or write

either_step : (goes : WalkStep) (b : Bool) (x : WalkStep) → (if b then goes else steps.Fault) ≡ x → (goes ≡ x → ⊥) → (steps.Fault ≡ x → ⊥) → ⊥
either_step goes true x is other fault = other is
either_step goes false x is other fault = fault is

is_refused : (goes : WalkStep) (b : Bool) → (if b then goes else steps.Fault) ≡ steps.Fault → (goes ≡ steps.Fault → ⊥) → b ≡ false
is_refused goes true is other = absurd (other is)
is_refused goes false is other = refl

module _ (p : WalkPlace) where
  took_in : (copy : Held) (at : ℕ) (qtd : Qtd) → Comes p copy at qtd → took_step p.memory p.walk.held ≡ (if reaches_queue_head p.memory copy.at then steps.Advance else steps.Fault)
  took_in copy at qtd c = ap (took_step p.memory) c.visited.in_hand

  sent_in : (copy : Held) → HasTime p copy → sent_step (planned copy.queue_head) p.memory p.walk.held ≡ (if (sending (planned copy.queue_head) copy.queue_head p.memory).all then steps.Transact else steps.Fault)
  sent_in copy c = ap (sent_step (planned copy.queue_head) p.memory) c.visited.in_hand

  wrote_in : (copy : Held) (outcome : Outcome) → IsSettled p copy outcome → wrote_step p p.walk.held ≡ (if (writing copy outcome p.walk.reply p.memory).all then steps.WriteBack else steps.Fault)
  wrote_in copy outcome c = ap (wrote_step p) c.in_hand ∙ ap (wrote_step_settled p copy) c.settled

  -- ---- for a reason

  ends_of : (row : WalkRow) → Cause p row → step_of row p ≡ steps.Ended → HasReason p
  ends_of _ (ring_is_broken c) is = absurd cc
  ends_of _ (head_is_quiet c) is = inl c
  ends_of _ (leads_to at q c) is = absurd cc
  ends_of _ (is_resting c) is = absurd cc
  ends_of _ (queue_ends c) is = absurd cc
  ends_of _ (qtd_is_done c) is = absurd cc
  ends_of _ (queue_is_broken c) is = absurd cc
  ends_of _ (takes_qtd at qtd c) is = absurd (either_step steps.Advance (reaches_queue_head p.memory c.copy.at) steps.Ended (sym (took_in c.copy at qtd c.comes) ∙ is) (λ e. cc) (λ e. cc))
  ends_of _ (is_out_of_time c) is = inr c
  ends_of _ (has_time copy c) is = absurd (either_step steps.Transact (sending (planned copy.queue_head) copy.queue_head p.memory).all steps.Ended (sym (sent_in copy c) ∙ is) (λ e. cc) (λ e. cc))
  ends_of _ (is_settled copy outcome c) is = absurd (either_step steps.WriteBack (writing copy outcome p.walk.reply p.memory).all steps.Ended (sym (wrote_in copy outcome c) ∙ is) (λ e. cc) (λ e. cc))

  skips_of : (row : WalkRow) → Cause p row → step_of row p ≡ steps.Skip → HasNothing p
  skips_of _ (ring_is_broken c) is = absurd cc
  skips_of _ (head_is_quiet c) is = absurd cc
  skips_of _ (leads_to at q c) is = absurd cc
  skips_of _ (is_resting c) is = inl c
  skips_of _ (queue_ends c) is = inr (inl c)
  skips_of _ (qtd_is_done c) is = inr (inr c)
  skips_of _ (queue_is_broken c) is = absurd cc
  skips_of _ (takes_qtd at qtd c) is = absurd (either_step steps.Advance (reaches_queue_head p.memory c.copy.at) steps.Skip (sym (took_in c.copy at qtd c.comes) ∙ is) (λ e. cc) (λ e. cc))
  skips_of _ (is_out_of_time c) is = absurd cc
  skips_of _ (has_time copy c) is = absurd (either_step steps.Transact (sending (planned copy.queue_head) copy.queue_head p.memory).all steps.Skip (sym (sent_in copy c) ∙ is) (λ e. cc) (λ e. cc))
  skips_of _ (is_settled copy outcome c) is = absurd (either_step steps.WriteBack (writing copy outcome p.walk.reply p.memory).all steps.Skip (sym (wrote_in copy outcome c) ∙ is) (λ e. cc) (λ e. cc))

  faults_of : (row : WalkRow) → Cause p row → step_of row p ≡ steps.Fault → IsStuck p
  faults_of _ (ring_is_broken c) is = inl (inl c)
  faults_of _ (head_is_quiet c) is = absurd cc
  faults_of _ (leads_to at q c) is = absurd cc
  faults_of _ (is_resting c) is = absurd cc
  faults_of _ (queue_ends c) is = absurd cc
  faults_of _ (qtd_is_done c) is = absurd cc
  faults_of _ (queue_is_broken c) is = inl (inr c)
  faults_of _ (takes_qtd at qtd c) is =
      inr (inl (record { copy = c.copy; at = at; qtd = qtd; comes = c.comes; active = c.active; refused = is_refused steps.Advance (reaches_queue_head p.memory c.copy.at) (sym (took_in c.copy at qtd c.comes) ∙ is) (λ e. cc) }))
  faults_of _ (is_out_of_time c) is = absurd cc
  faults_of _ (has_time copy c) is =
      inr (inr (inl (record { copy = copy; works = c; refused = is_refused steps.Transact (sending (planned copy.queue_head) copy.queue_head p.memory).all (sym (sent_in copy c) ∙ is) (λ e. cc) })))
  faults_of _ (is_settled copy outcome c) is =
      inr (inr (inr (record { copy = copy; outcome = outcome; settled = c; refused = is_refused steps.WriteBack (writing copy outcome p.walk.reply p.memory).all (sym (wrote_in copy outcome c) ∙ is) (λ e. cc) })))

  -- ---- and for each reason

  kind_is : (row : WalkRow) → walk_row p ≡ row → step_of (walk_row p) p ≡ step_of row p
  kind_is row is = ap (λ (r : WalkRow). step_of r p) is

  reason_ends : HasReason p → step_of (walk_row p) p ≡ steps.Ended
  reason_ends (inl quiet) = kind_is rows.HeadEnds (quiet_head_row p quiet)
  reason_ends (inr late) = kind_is rows.OutOfTime (late_row p late)

  nothing_skips : HasNothing p → step_of (walk_row p) p ≡ steps.Skip
  nothing_skips (inl c) = kind_is rows.Skip (visited_row p c.copy visits.Rest c.visited)
  nothing_skips (inr (inl c)) = kind_is rows.Skip (visited_row p c.copy (visits.Take qtd_links.End) c.visited)
  nothing_skips (inr (inr c)) = kind_is rows.Skip (done_row p c)

  stuck_faults : IsStuck p → step_of (walk_row p) p ≡ steps.Fault
  stuck_faults (inl (inl c)) =
      kind_is rows.Fault (broken_ring_row p (cursor_link p.registers p.walk.cursor) c.no_copy c.nothing_there refl)
  stuck_faults (inl (inr c)) = kind_is rows.Fault (broken_queue_row p c)
  stuck_faults (inr (inl c)) =
      kind_is (rows.Advance c.at c.qtd) (taking_row p c.copy c.at c.qtd c.comes c.active) ∙ took_in c.copy c.at c.qtd c.comes
      ∙ ap (λ (b : Bool). if b then steps.Advance else steps.Fault) c.refused
  stuck_faults (inr (inr (inl c))) =
      kind_is (rows.Transact (planned c.copy.queue_head)) (timely_row p c.copy c.works) ∙ sent_in c.copy c.works
      ∙ ap (λ (b : Bool). if b then steps.Transact else steps.Fault) c.refused
  stuck_faults (inr (inr (inr c))) =
      kind_is rows.WriteBack (settled_row p c.copy c.outcome c.settled) ∙ wrote_in c.copy c.outcome c.settled
      ∙ ap (λ (b : Bool). if b then steps.WriteBack else steps.Fault) c.refused

-- ---- of an event

pub ends_for_a_reason : (p : WalkPlace) → step_of (event_row p) (at_event p) ≡ steps.Ended → HasReason (started p)
ends_for_a_reason p is = ends_of (started p) (event_row p) (each_row_has_its_cause (started p)) (sym (step_here (started p)) ∙ is)

pub ends_for_each_reason : (p : WalkPlace) → HasReason (started p) → step_of (event_row p) (at_event p) ≡ steps.Ended
ends_for_each_reason p reason = step_here (started p) ∙ reason_ends (started p) reason

pub skips_for_a_reason : (p : WalkPlace) → step_of (event_row p) (at_event p) ≡ steps.Skip → HasNothing (started p)
skips_for_a_reason p is = skips_of (started p) (event_row p) (each_row_has_its_cause (started p)) (sym (step_here (started p)) ∙ is)

pub skips_for_each_reason : (p : WalkPlace) → HasNothing (started p) → step_of (event_row p) (at_event p) ≡ steps.Skip
skips_for_each_reason p nothing = step_here (started p) ∙ nothing_skips (started p) nothing

pub faults_for_a_reason : (p : WalkPlace) → step_of (event_row p) (at_event p) ≡ steps.Fault → IsStuck (started p)
faults_for_a_reason p is = faults_of (started p) (event_row p) (each_row_has_its_cause (started p)) (sym (step_here (started p)) ∙ is)

pub faults_for_each_reason : (p : WalkPlace) → IsStuck (started p) → step_of (event_row p) (at_event p) ≡ steps.Fault
faults_for_each_reason p stuck = step_here (started p) ∙ stuck_faults (started p) stuck
