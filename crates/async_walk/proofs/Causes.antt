-- Each row has its cause, and each cause makes its row.
use Rattle.std.proofs.Common.{◌≡◌, ℕ, Bool, true, false, not, ◌&&◌, Option, Some, None, if◌then◌else◌, refl, ap, subst, ◌∙◌}
use Rattle.std.specs.Prelude.{nat_lt}
use Rattle.std.proofs.lemmas.Bool.{ltb-true, ltb-false, lt-ltb, le-ltb}
use Rattle.link_words.specs.declared.kinds.Link.{Link}
use Rattle.link_words.specs.declared.kinds.Link.TheVariants as links
use Rattle.link_words.specs.declared.kinds.QtdLink.{QtdLink}
use Rattle.link_words.specs.declared.kinds.QtdLink.TheVariants as qtd_links
use Rattle.qh_qtd.specs.declared.qtd.Qtd.{Qtd}
use Rattle.qh_qtd.specs.declared.queue_head.Qh.{Qh}
use Rattle.toggle_error.specs.declared.host.Outcome.{Outcome}
use Rattle.mem_queues.specs.Structures.{qtd_at_address, queue_head_at_address}
use Rattle.hc_copy.specs.declared.held.Held.{Held}
use Rattle.hc_copy.specs.declared.held.Visit.{Visit}
use Rattle.hc_copy.specs.declared.held.Visit.TheVariants as visits
use Rattle.hc_copy.specs.Visits.{visit_of}
use Rattle.async_walk.specs.declared.rows.WalkRow.TheVariants as rows
use Rattle.async_walk.specs.Naks.{may_work, planned}
use Rattle.async_walk.specs.Rows.{WalkPlace, fetch_row, ring_row, work_row, taken_row, take_row, visit_row, held_row, cursor_link, row_at, walk_row}
use Rattle.async_walk.specs.Causes.{LeadsTo, HeadIsQuiet, IsVisited, IsOutOfTime, HasTime, QueueIsBroken, Comes, QtdIsDone, IsSettled, Cause}
use Rattle.async_walk.specs.Causes.Cause.{ring_is_broken, head_is_quiet, leads_to, is_resting, queue_ends, qtd_is_done, queue_is_broken, takes_qtd, is_out_of_time, has_time, is_settled}

-- ---- each row has its cause

module _ (p : WalkPlace) where
  fetch_cause : (at : ℕ) (q : Qh) (head reclamation : Bool) → LeadsTo p at q → q.head ≡ head → p.registers.reclamation ≡ reclamation → Cause p (if head && not reclamation then rows.HeadEnds else rows.Fetch at q)
  fetch_cause at q true false leads head_is quiet = head_is_quiet (record { at = at; queue_head = q; leads = leads; is_head = head_is; quiet = quiet })
  fetch_cause at q true true leads head_is quiet = leads_to at q leads
  fetch_cause at q false true leads head_is quiet = leads_to at q leads
  fetch_cause at q false false leads head_is quiet = leads_to at q leads

  read_cause : (at : ℕ) (o : Option Qh) → p.walk.held ≡ None → cursor_link p.registers p.walk.cursor ≡ links.Qh at → queue_head_at_address p.memory at ≡ o → Cause p (fetch_row p.registers.reclamation at o)
  read_cause at None none leads stands = ring_is_broken (record { no_copy = none; nothing_there = λ a is. let same : at ≡ a = cc in subst (λ (b : ℕ). queue_head_at_address p.memory b ≡ None) same stands })
  read_cause at (Some q) none leads stands = fetch_cause at q q.head p.registers.reclamation (record { no_copy = none; leads_there = leads; stands_there = stands }) refl refl

  ring_cause : (link : Link) → p.walk.held ≡ None → cursor_link p.registers p.walk.cursor ≡ link → Cause p (ring_row p.memory p.registers.reclamation link)
  ring_cause (links.Qh at) none leads = read_cause at (queue_head_at_address p.memory at) none leads refl
  ring_cause _ none leads = ring_is_broken (record { no_copy = none; nothing_there = λ a is. absurd cc })

  work_cause : (h : Held) (late : Bool) → IsVisited p h visits.Work → nat_lt p.walk.left (planned h.queue_head).price.0 ≡ late → Cause p (work_row late (planned h.queue_head))
  work_cause h true visited late = is_out_of_time (record { copy = h; visited = visited; late = ltb-true p.walk.left (planned h.queue_head).price.0 late })
  work_cause h false visited late = has_time h (record { visited = visited; in_time = ltb-false p.walk.left (planned h.queue_head).price.0 late })

  taken_cause : (h : Held) (at : ℕ) (qtd : Qtd) (active : Bool) → Comes p h at qtd → qtd.token.active ≡ active → Cause p (if active then rows.Advance at qtd else rows.Skip)
  taken_cause h at qtd true comes active = takes_qtd at qtd (record { copy = h; comes = comes; active = active })
  taken_cause h at qtd false comes active = qtd_is_done (record { copy = h; at = at; qtd = qtd; comes = comes; inactive = active })

  read_qtd_cause : (h : Held) (at : ℕ) (o : Option Qtd) → IsVisited p h (visits.Take (qtd_links.To at)) → qtd_at_address p.memory at ≡ o → Cause p (taken_row at o)
  read_qtd_cause h at None visited stands = queue_is_broken (record { copy = h; at = at; visited = visited; nothing_there = stands })
  read_qtd_cause h at (Some qtd) visited stands = taken_cause h at qtd qtd.token.active (record { visited = visited; stands_there = stands }) refl

  take_cause : (h : Held) (link : QtdLink) → IsVisited p h (visits.Take link) → Cause p (take_row p.memory link)
  take_cause h qtd_links.End visited = queue_ends (record { copy = h; visited = visited })
  take_cause h (qtd_links.To at) visited = read_qtd_cause h at (qtd_at_address p.memory at) visited refl

  visit_cause : (h : Held) (visit : Visit) → IsVisited p h visit → Cause p (visit_row p.memory p.walk.left h.queue_head visit)
  visit_cause h visits.Rest visited = is_resting (record { copy = h; visited = visited })
  visit_cause h visits.Work visited = work_cause h (nat_lt p.walk.left (planned h.queue_head).price.0) visited refl
  visit_cause h (visits.Take link) visited = take_cause h link visited

  copy_cause : (h : Held) (settled : Option Outcome) → p.walk.held ≡ Some h → h.settled ≡ settled → Cause p (held_row p.memory p.walk.left h.queue_head settled)
  copy_cause h None held not_settled = visit_cause h (visit_of (may_work h.queue_head) h.queue_head) (record { in_hand = held; not_settled = not_settled; visits = refl })
  copy_cause h (Some outcome) held settled = is_settled h outcome (record { in_hand = held; settled = settled })

  row_cause : (o : Option Held) → p.walk.held ≡ o → Cause p (row_at p o)
  row_cause None held = ring_cause (cursor_link p.registers p.walk.cursor) held refl
  row_cause (Some h) held = copy_cause h h.settled held refl

pub each_row_has_its_cause : (p : WalkPlace) → Cause p (walk_row p)
each_row_has_its_cause p = row_cause p p.walk.held refl

-- ---- each cause makes its row

module _ (p : WalkPlace) where
  ring_is : (link : Link) → p.walk.held ≡ None → cursor_link p.registers p.walk.cursor ≡ link → walk_row p ≡ ring_row p.memory p.registers.reclamation link
  ring_is link none leads = ap (row_at p) none ∙ ap (ring_row p.memory p.registers.reclamation) leads

  pub broken_ring_row : (link : Link) → p.walk.held ≡ None → ((at : ℕ) → link ≡ links.Qh at → queue_head_at_address p.memory at ≡ None) → cursor_link p.registers p.walk.cursor ≡ link → walk_row p ≡ rows.Fault
  broken_ring_row links.End none nothing leads = ring_is links.End none leads
  broken_ring_row (links.Itd b) none nothing leads = ring_is (links.Itd b) none leads
  broken_ring_row (links.Qh at) none nothing leads = ring_is (links.Qh at) none leads ∙ ap (fetch_row p.registers.reclamation at) (nothing at refl)
  broken_ring_row (links.Sitd b) none nothing leads = ring_is (links.Sitd b) none leads
  broken_ring_row (links.Fstn b) none nothing leads = ring_is (links.Fstn b) none leads

  pub quiet_head_row : HeadIsQuiet p → walk_row p ≡ rows.HeadEnds
  quiet_head_row h =
      ring_is (links.Qh h.at) h.leads.no_copy h.leads.leads_there
      ∙ ap (fetch_row p.registers.reclamation h.at) h.leads.stands_there
      ∙ ap (λ (b : Bool). if b && not p.registers.reclamation then rows.HeadEnds else rows.Fetch h.at h.queue_head) h.is_head
      ∙ ap (λ (b : Bool). if true && not b then rows.HeadEnds else rows.Fetch h.at h.queue_head) h.quiet

  pub visited_row : (copy : Held) (visit : Visit) → IsVisited p copy visit → walk_row p ≡ visit_row p.memory p.walk.left copy.queue_head visit
  visited_row copy visit v =
      ap (row_at p) v.in_hand ∙ ap (held_row p.memory p.walk.left copy.queue_head) v.not_settled
      ∙ ap (visit_row p.memory p.walk.left copy.queue_head) v.visits

  pub late_row : IsOutOfTime p → walk_row p ≡ rows.OutOfTime
  late_row h =
      visited_row h.copy visits.Work h.visited
      ∙ ap (λ (b : Bool). work_row b (planned h.copy.queue_head)) (lt-ltb p.walk.left (planned h.copy.queue_head).price.0 h.late)

  pub timely_row : (copy : Held) → HasTime p copy → walk_row p ≡ rows.Transact (planned copy.queue_head)
  timely_row copy h =
      visited_row copy visits.Work h.visited
      ∙ ap (λ (b : Bool). work_row b (planned copy.queue_head)) (le-ltb p.walk.left (planned copy.queue_head).price.0 h.in_time)

  pub comes_row : (copy : Held) (at : ℕ) (qtd : Qtd) → Comes p copy at qtd → walk_row p ≡ (if qtd.token.active then rows.Advance at qtd else rows.Skip)
  comes_row copy at qtd c = visited_row copy (visits.Take (qtd_links.To at)) c.visited ∙ ap (taken_row at) c.stands_there

  pub broken_queue_row : QueueIsBroken p → walk_row p ≡ rows.Fault
  broken_queue_row b = visited_row b.copy (visits.Take (qtd_links.To b.at)) b.visited ∙ ap (taken_row b.at) b.nothing_there

  pub done_row : QtdIsDone p → walk_row p ≡ rows.Skip
  done_row d = comes_row d.copy d.at d.qtd d.comes ∙ ap (λ (b : Bool). if b then rows.Advance d.at d.qtd else rows.Skip) d.inactive

  pub taking_row : (copy : Held) (at : ℕ) (qtd : Qtd) → Comes p copy at qtd → qtd.token.active ≡ true → walk_row p ≡ rows.Advance at qtd
  taking_row copy at qtd comes active = comes_row copy at qtd comes ∙ ap (λ (b : Bool). if b then rows.Advance at qtd else rows.Skip) active

  pub settled_row : (copy : Held) (outcome : Outcome) → IsSettled p copy outcome → walk_row p ≡ rows.WriteBack
  settled_row copy outcome s = ap (row_at p) s.in_hand ∙ ap (held_row p.memory p.walk.left copy.queue_head) s.settled
