-- Each event of the walk of the ring that doesn't end the part lowers the events that may still come in it: a transaction takes the least price or more, a read of the head begins a round,
-- a read of another queue head makes it longer, and any other event leaves fewer of its visit (EHCI 1.0, 4.8, 4.8.3 and 4.10.3).
use Rattle.std.proofs.Common.{◌≡◌, ◌≢◌, ℕ, suc, ◌+◌, ◌-◌, ◌*◌, ◌/◌, ◌<◌, ◌≤◌, ◌==◌, Bool, true, false, List, [], ◌∷◌, length, Option, Some, None, if◌then◌else◌, refl, sym, subst, ap, ◌∙◌, arith}
use Rattle.std.specs.Prelude.{slice_index}
use Rattle.std.proofs.lemmas.Bool.{false≢true, eqb-true}
use Rattle.word_mem.specs.Memory.{Mem}
use Rattle.link_words.specs.Layout.{is_set}
use Rattle.qh_qtd.specs.QueueHead.{qh_words}
use Rattle.qh_qtd.specs.declared.queue_head.Qh.{Qh}
use Rattle.mem_queues.specs.Structures.{queue_head_at_address}
use Rattle.hc_copy.specs.declared.held.Held.{Held}
use Rattle.hc_copy.specs.declared.held.Transaction.{Transaction}
use Rattle.hc_copy.specs.Buffer.{sending}
use Rattle.async_walk.specs.declared.rows.WalkRow.{WalkRow}
use Rattle.async_walk.specs.declared.rows.WalkRow.TheVariants as walks
use Rattle.async_walk.specs.declared.state.WalkStep.{WalkStep}
use Rattle.async_walk.specs.declared.state.WalkStep.TheVariants as walk_steps
use Rattle.async_walk.specs.Naks.{planned}
use Rattle.async_walk.specs.Walk.{Walk}
use Rattle.async_walk.specs.Causes.{Cause, LeadsTo}
use Rattle.async_walk.specs.Causes.Cause.{ring_is_broken, head_is_quiet, leads_to, is_resting, queue_ends, qtd_is_done, queue_is_broken, takes_qtd, is_out_of_time, has_time, is_settled}
use Rattle.async_walk.specs.Rows.{WalkPlace, was_read, step_of, sent_step}
use Rattle.hc_core.specs.declared.controller.HcStep.TheVariants as steps
use Rattle.hc_core.specs.Controller.{hc_step}
use Rattle.drv_table.specs.DriverContent.{DriverContent}
use Rattle.drv_table.specs.Words.{head_block, opening_head}
use Rattle.claims_driver.specs.InPlace.{AreFixed}
use Rattle.law_driver_ring.proofs.lemmas.walk_members.Decoding.{read_head}
use Rattle.law_microframes.specs.time.Heights.{head_at}
use Rattle.law_microframes.specs.time.Rounds.{round_by}
use Rattle.claims_world.specs.Microframes.{most_blocks, least_price, round_length, rounds_ahead}
use Rattle.law_microframes.specs.time.HeadReads.{reads_head, heads_by}
use Rattle.law_microframes.specs.time.Taken.{Takes}
use Rattle.law_microframes.specs.time.VisitSteps.{ring_steps}
use Rattle.law_microframes.specs.time.Ahead.{ring_ahead}

-- ---- the numbers

-- a transaction, after which the head may be read anew
paid : (left new rest held now n : ℕ) → 1 * least_price + new ≤ left → now < held → round_length * rounds_ahead new 0 + rest + now < round_length * rounds_ahead left n + rest + held
paid left new rest held now n takes falls =
    let fewer : new / least_price + 1 ≤ left / least_price = omega (arith, takes) in
    omega (arith, fewer, falls)

-- another event of a visit
worked : (left new rest held now n : ℕ) → new ≤ left → now < held → round_length * rounds_ahead new n + rest + now < round_length * rounds_ahead left n + rest + held
worked left new rest held now n less falls =
    let fewer : new / least_price ≤ left / least_price = omega (arith, less) in
    omega (arith, fewer, falls)

-- the first read of the head
begun : (left new before after now n : ℕ) → new ≤ left → n ≡ 0 → now ≤ 3
    → round_length * rounds_ahead new (suc n) + 4 * (most_blocks - after) + now < round_length * rounds_ahead left n + 4 * (most_blocks - before) + 0
begun left new before after now n less none few =
    let fewer : new / least_price ≤ left / least_price = omega (arith, less) in
    omega (arith, fewer, none, few)

-- another queue head is read
longer : (left new before now n : ℕ) → new ≤ left → suc before ≤ most_blocks → now ≤ 3
    → round_length * rounds_ahead new n + 4 * (most_blocks - suc before) + now < round_length * rounds_ahead left n + 4 * (most_blocks - before) + 0
longer left new before now n less room few =
    let fewer : new / least_price ≤ left / least_price = omega (arith, less) in
    omega (arith, fewer, room, few)

fetch_by : (left new now n a : ℕ) (rs : List ℕ) (head same : Bool) → new ≤ left → now ≤ 3 → (head ≡ true → n ≡ 0) → (same ≡ true → head ≡ true)
    → length (if same then head_at ∷ [] else a ∷ rs) ≤ most_blocks
    → round_length * rounds_ahead new (if head then suc n else n) + 4 * (most_blocks - length (if same then head_at ∷ [] else a ∷ rs)) + now
    < round_length * rounds_ahead left n + 4 * (most_blocks - length rs) + 0
fetch_by left new now n a rs true same less few none bit room = begun left new (length rs) (length (if same then head_at ∷ [] else a ∷ rs)) now n less (none refl) few
fetch_by left new now n a rs false true less few none bit room = absurd (false≢true (bit refl))
fetch_by left new now n a rs false false less few none bit room = longer left new (length rs) now n less room few

-- ---- the head of the ring has the bit H

abbrev pub HeadHasBit : Mem → Type 0
HeadHasBit m = (q : Qh) → queue_head_at_address m head_at ≡ Some q → q.head ≡ true

opening_bit : is_set 15 (slice_index (qh_words opening_head) 1) ≡ true
unfolding qh_words
opening_bit = refl

pub head_has_bit : (m : Mem) (d : DriverContent) → AreFixed m d → HeadHasBit m
head_has_bit m d fixed q there = read_head m head_block q there ∙ (ap (is_set 15) fixed.head.characteristics ∙ opening_bit)

-- ---- an event

-- what is known of it, at the place where it begins, and of the walk that it leaves; `n`: how often the head was read
pub record IsOfPart (p : WalkPlace) (row : WalkRow) (step : WalkStep) (new : Walk) (rs : List ℕ) (n : ℕ) : Type 0 where
  pub goes_on : hc_step step ≢ steps.End
  pub takes : Takes step new.left p.walk.left
  pub falls : (h : Held) → p.walk.held ≡ Some h → ring_steps new.held < ring_steps p.walk.held
  pub begins : p.walk.held ≡ None → ring_steps new.held ≤ 3
  pub round : length (round_by row rs) ≤ most_blocks
  pub first : reads_head row ≡ true → n ≡ 0
  pub has_bit : HeadHasBit p.memory

no_more : (step : WalkStep) (new old : ℕ) → Takes step new old → new ≤ old
no_more walk_steps.Fetch new old takes = omega (arith, takes)
no_more _ new old takes = omega (arith, takes)

sent_or : (all : Bool) → hc_step (if all then walk_steps.Transact else walk_steps.Fault) ≢ steps.End → (if all then walk_steps.Transact else walk_steps.Fault) ≡ walk_steps.Transact
sent_or true goes = refl
sent_or false goes = absurd (goes refl)

is_made : (t : Transaction) (m : Mem) (o : Option Held) → hc_step (sent_step t m o) ≢ steps.End → sent_step t m o ≡ walk_steps.Transact
is_made t m None goes = refl
is_made t m (Some h) goes = sent_or (sending t h.queue_head m).all goes

module _ (p : WalkPlace) (new : Walk) (rs : List ℕ) (n : ℕ) where
  abbrev Known : WalkRow → Type 0
  Known row = IsOfPart p row (step_of row (was_read p)) new rs n

  abbrev Lowers : WalkRow → Type 0
  Lowers row = ring_ahead new.left new.held (round_by row rs) (heads_by row n) < ring_ahead p.walk.left p.walk.held rs n

  at_bit : (a : ℕ) (q : Qh) → LeadsTo p a q → HeadHasBit p.memory → (a == head_at) ≡ true → q.head ≡ true
  at_bit a q c bit same = bit q (subst (λ (x : ℕ). queue_head_at_address p.memory x ≡ Some q) (eqb-true a head_at same) c.stands_there)

  fetch_lowers : (a : ℕ) (q : Qh) → LeadsTo p a q → Known (walks.Fetch a q) → Lowers (walks.Fetch a q)
  fetch_lowers a q c k =
      subst (λ (o : Option Held). ring_ahead new.left new.held (round_by (walks.Fetch a q) rs) (heads_by (walks.Fetch a q) n) < ring_ahead p.walk.left o rs n) (sym c.no_copy)
      (fetch_by p.walk.left new.left (ring_steps new.held) n a rs q.head (a == head_at) (no_more walk_steps.Fetch new.left p.walk.left k.takes) (k.begins c.no_copy) k.first (at_bit a q c k.has_bit) k.round)

  visit_lowers : (step : WalkStep) → Takes step new.left p.walk.left → ring_steps new.held < ring_steps p.walk.held
      → ring_ahead new.left new.held rs n < ring_ahead p.walk.left p.walk.held rs n
  visit_lowers step takes falls =
      worked p.walk.left new.left (4 * (most_blocks - length rs)) (ring_steps p.walk.held) (ring_steps new.held) n (no_more step new.left p.walk.left takes) falls

  transact_lowers : (t : Transaction) (h : Held) → p.walk.held ≡ Some h → Known (walks.Transact t) → Lowers (walks.Transact t)
  transact_lowers t h in_hand k =
      let takes : Takes walk_steps.Transact new.left p.walk.left = subst (λ (s : WalkStep). Takes s new.left p.walk.left) (is_made t (was_read p).memory p.walk.held k.goes_on) k.takes in
      paid p.walk.left new.left (4 * (most_blocks - length rs)) (ring_steps p.walk.held) (ring_steps new.held) n takes (k.falls h in_hand)

  pub row_lowers : (row : WalkRow) → Cause p row → Known row → Lowers row
  row_lowers _ (ring_is_broken c) k = absurd (k.goes_on refl)
  row_lowers _ (head_is_quiet c) k = absurd (k.goes_on refl)
  row_lowers _ (leads_to at q c) k = fetch_lowers at q c k
  row_lowers _ (is_resting c) k = visit_lowers walk_steps.Skip k.takes (k.falls c.copy c.visited.in_hand)
  row_lowers _ (queue_ends c) k = visit_lowers walk_steps.Skip k.takes (k.falls c.copy c.visited.in_hand)
  row_lowers _ (qtd_is_done c) k = visit_lowers walk_steps.Skip k.takes (k.falls c.copy c.comes.visited.in_hand)
  row_lowers _ (queue_is_broken c) k = absurd (k.goes_on refl)
  row_lowers _ (takes_qtd at qtd c) k =
      visit_lowers (step_of (walks.Advance at qtd) (was_read p)) k.takes (k.falls c.copy c.comes.visited.in_hand)
  row_lowers _ (is_out_of_time c) k = absurd (k.goes_on refl)
  row_lowers _ (has_time copy c) k = transact_lowers (planned copy.queue_head) copy c.visited.in_hand k
  row_lowers _ (is_settled copy outcome c) k = visit_lowers (step_of walks.WriteBack (was_read p)) k.takes (k.falls copy c.in_hand)
