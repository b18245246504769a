-- The walk of the ring: with no time left it asks nothing; a copy in hand is of the queue head at the cursor; and where a part of a microframe begins, the queue head at the
-- cursor is read.
use Rattle.std.proofs.Common.{◌≡◌, ◌≢◌, ℕ, Bool, true, false, ◌&&◌, if◌then◌else◌, List, Option, Some, None, ap, sym, ◌∙◌, refl}
use Rattle.std.proofs.lemmas.Option.{same_Some, none-some}
use Rattle.word_mem.specs.Memory.{Mem}
use Rattle.link_words.specs.declared.kinds.Link.{Link}
use Rattle.link_words.specs.declared.kinds.Link.TheVariants as links
use Rattle.qh_qtd.specs.declared.qtd.Qtd.{Qtd}
use Rattle.qh_qtd.specs.declared.queue_head.Qh.{Qh}
use Rattle.toggle_error.specs.declared.host.Outcome.{Outcome}
use Rattle.mem_queues.specs.Structures.{queue_head_at_address, reaches_queue_head}
use Rattle.hc_copy.specs.declared.held.Held.{Held}
use Rattle.hc_copy.specs.declared.held.Transaction.{Transaction}
use Rattle.hc_copy.specs.Buffer.{sending}
use Rattle.async_walk.specs.declared.rows.WalkRow.{WalkRow}
use Rattle.async_walk.specs.declared.rows.WalkRow.TheVariants as walks
use Rattle.async_walk.specs.declared.state.Cursor.TheVariants as cursors
use Rattle.async_walk.specs.declared.state.WalkStep.TheVariants as steps
use Rattle.async_walk.specs.Walk.{Walk}
use Rattle.async_walk.specs.Causes.{Cause, ring_is_broken, head_is_quiet, leads_to, is_resting, queue_ends, qtd_is_done, queue_is_broken, takes_qtd, is_out_of_time, has_time, is_settled}
use Rattle.async_walk.specs.Rows.{WalkPlace, started, head_ended, at_event, event_row, step_of, fetch_row, ring_row, passed_walk, took, took_step, writing, wrote_place, wrote_settled, wrote, wrote_step_settled, wrote_step}
use Rattle.async_walk.proofs.Causes.{each_row_has_its_cause}
use Rattle.async_walk.proofs.Times.{none_without_time}
use Rattle.bus_wire.specs.Bus.{Fixed, Bus}
use Rattle.bus_world.specs.World.{sent_by, sends_by, walk_by, walk_next}

-- ---- the time left, where nothing is asked

abbrev IsLeft : WalkPlace → Type 0
IsLeft p = p.walk.left ≡ 0

pub passed_left : (w : Walk) (o : Option Held) → (passed_walk w o).left ≡ w.left
passed_left w None = refl
passed_left w (Some h) = refl

either_left : (b : Bool) (p q : WalkPlace) → IsLeft p → IsLeft q → IsLeft (if b then p else q)
either_left true p q one other = one
either_left false p q one other = other

took_left : (a : ℕ) (t : Qtd) (p : WalkPlace) (o : Option Held) → IsLeft p → IsLeft (took a t p o)
took_left a t p None none = none
took_left a t p (Some h) none = either_left (reaches_queue_head p.memory h.at) _ _ none none

wrote_place_left : (b : Bool) (q : Qh) (o : Outcome) (p : WalkPlace) → IsLeft p → IsLeft (wrote_place b q o p)
wrote_place_left true q o p none = passed_left p.walk p.walk.held ∙ none
wrote_place_left false q o p none = none

wrote_settled_left : (p : WalkPlace) (h : Held) (o : Option Outcome) → IsLeft p → IsLeft (wrote_settled p h o)
wrote_settled_left p h None none = none
wrote_settled_left p h (Some o) none =
    wrote_place_left (writing h o p.walk.reply p.memory).all h.queue_head o (record p { memory = (writing h o p.walk.reply p.memory).memory }) none

wrote_left : (p : WalkPlace) (o : Option Held) → IsLeft p → IsLeft (wrote p o)
wrote_left p None none = none
wrote_left p (Some h) none = wrote_settled_left p h h.settled none

-- ---- which step it is

pub either_step : (b : Bool) → (if b then steps.Advance else steps.Fault) ≢ steps.Transact
either_step true same = cc
either_step false same = cc

took_no_transaction : (m : Mem) (o : Option Held) → took_step m o ≢ steps.Transact
took_no_transaction m None same = cc
took_no_transaction m (Some h) same = either_step (reaches_queue_head m h.at) same

pub either_written : (b : Bool) → (if b then steps.WriteBack else steps.Fault) ≢ steps.Transact
either_written true same = cc
either_written false same = cc

settled_no_transaction : (p : WalkPlace) (h : Held) (o : Option Outcome) → wrote_step_settled p h o ≢ steps.Transact
settled_no_transaction p h None same = cc
settled_no_transaction p h (Some o) same = either_written (writing h o p.walk.reply p.memory).all same

wrote_no_transaction : (p : WalkPlace) (o : Option Held) → wrote_step p o ≢ steps.Transact
wrote_no_transaction p None same = cc
wrote_no_transaction p (Some h) same = settled_no_transaction p h h.settled same

-- ---- an event with no time left

pub record IsRingStill (fixed : Fixed) (p : WalkPlace) (b : Bus) : Type 0 where
  pub bus : (walk_next fixed p b).bus ≡ b
  pub left : (walk_next fixed p b).place.walk.left ≡ 0
  pub step : step_of (event_row p) (at_event p) ≢ steps.Transact

record IsRowStill (fixed : Fixed) (row : WalkRow) (p : WalkPlace) (b : Bus) : Type 0 where
  bus : (walk_by fixed row p b).bus ≡ b
  left : (walk_by fixed row p b).place.walk.left ≡ 0
  step : step_of row p ≢ steps.Transact

row_still : (fixed : Fixed) (row : WalkRow) (p : WalkPlace) (b : Bus) → ((t : Transaction) → row ≡ walks.Transact t → ⊥) → IsLeft p → IsRowStill fixed row p b
row_still fixed walks.Skip p b others none = record { bus = refl; left = passed_left p.walk p.walk.held ∙ none; step = λ same. cc }
row_still fixed (walks.Advance a t) p b others none =
    record { bus = refl; left = took_left a t p p.walk.held none; step = λ same. took_no_transaction p.memory p.walk.held same }
row_still fixed (walks.Transact t) p b others none = absurd (others t refl)
row_still fixed walks.WriteBack p b others none = record { bus = refl; left = wrote_left p p.walk.held none; step = λ same. wrote_no_transaction p p.walk.held same }
row_still fixed _ p b others none = record { bus = refl; left = none; step = λ same. cc }

pub ring_still : (fixed : Fixed) (p : WalkPlace) (b : Bus) → p.walk.left ≡ 0 → IsRingStill fixed p b
ring_still fixed p b none =
    let still = row_still fixed (event_row p) (at_event p) b (λ t is. none_without_time p t none is) none in
    record { bus = still.bus; left = still.left; step = still.step }

-- ---- the cursor is at the copy in hand

abbrev pub IsAtCursor : Walk → Type 0
IsAtCursor w = (h : Held) → w.held ≡ Some h → w.cursor ≡ cursors.At (links.Qh h.at)

abbrev IsAt : WalkPlace → Type 0
IsAt p = IsAtCursor p.walk

nothing_at : (w : Walk) → w.held ≡ None → IsAtCursor w
nothing_at w none h is = absurd (none-some h (sym none ∙ is))

-- a copy of the queue head at the cursor's address
copy_at : (w : Walk) (k : Held) → w.held ≡ Some k → w.cursor ≡ cursors.At (links.Qh k.at) → IsAtCursor w
copy_at w k here cursor h is = cursor ∙ ap (λ (x : Held). cursors.At (links.Qh x.at)) (same_Some k h (sym here ∙ is))

passed_at : (w : Walk) (o : Option Held) → IsAtCursor w → IsAtCursor (passed_walk w o)
passed_at w None at = at
passed_at w (Some h) at = nothing_at (passed_walk w (Some h)) refl

either_at : (b : Bool) (p q : WalkPlace) → IsAt p → IsAt q → IsAt (if b then p else q)
either_at true p q one other = one
either_at false p q one other = other

took_at : (a : ℕ) (t : Qtd) (p : WalkPlace) (o : Option Held) → p.walk.held ≡ o → IsAt p → IsAt (took a t p o)
took_at a t p None is at = at
took_at a t p (Some h) is at =
    either_at (reaches_queue_head p.memory h.at) _ _ (λ k here. at h is ∙ ap (λ (x : Held). cursors.At (links.Qh x.at)) (same_Some _ k here)) (λ k here. absurd (none-some k here))

wrote_place_at : (b : Bool) (q : Qh) (o : Outcome) (p : WalkPlace) → IsAt p → IsAt (wrote_place b q o p)
wrote_place_at true q o p at = passed_at p.walk p.walk.held at
wrote_place_at false q o p at = λ k here. absurd (none-some k here)

wrote_settled_at : (p : WalkPlace) (h : Held) (o : Option Outcome) → IsAt p → IsAt (wrote_settled p h o)
wrote_settled_at p h None at = at
wrote_settled_at p h (Some o) at =
    wrote_place_at (writing h o p.walk.reply p.memory).all h.queue_head o (record p { memory = (writing h o p.walk.reply p.memory).memory }) at

wrote_at : (p : WalkPlace) (o : Option Held) → IsAt p → IsAt (wrote p o)
wrote_at p None at = at
wrote_at p (Some h) at = wrote_settled_at p h h.settled at

sent_at : (fixed : Fixed) (all : Bool) (t : Transaction) (h : Held) (bytes : List ℕ) (p : WalkPlace) (b : Bus) → p.walk.held ≡ Some h → IsAt p → IsAt (sent_by fixed all t h bytes p b).place
sent_at fixed true t h bytes p b is at = λ k here. at h is ∙ ap (λ (x : Held). cursors.At (links.Qh x.at)) (same_Some _ k here)
sent_at fixed false t h bytes p b is at = λ k here. absurd (none-some k here)

sends_at : (fixed : Fixed) (t : Transaction) (p : WalkPlace) (o : Option Held) (b : Bus) → p.walk.held ≡ o → IsAt p → IsAt (sends_by fixed t p o b).place
sends_at fixed t p None b is at = at
sends_at fixed t p (Some h) b is at =
    sent_at fixed (sending t h.queue_head p.memory).all t h (sending t h.queue_head p.memory).bytes (record p { memory = (sending t h.queue_head p.memory).memory }) b is at

row_at : (fixed : Fixed) (row : WalkRow) (p : WalkPlace) (b : Bus) → (row ≡ walks.HeadEnds → p.walk.held ≡ None) → IsAt p → IsAt (walk_by fixed row p b).place
row_at fixed walks.HeadEnds p b quiet at = nothing_at (head_ended p).walk (quiet refl)
row_at fixed (walks.Fetch a q) p b quiet at = λ k here. ap (λ (x : Held). cursors.At (links.Qh x.at)) (same_Some _ k here)
row_at fixed walks.Skip p b quiet at = passed_at p.walk p.walk.held at
row_at fixed (walks.Advance a t) p b quiet at = took_at a t p p.walk.held refl at
row_at fixed (walks.Transact t) p b quiet at = sends_at fixed t p p.walk.held b refl at
row_at fixed walks.WriteBack p b quiet at = wrote_at p p.walk.held at
row_at fixed _ p b quiet at = λ k here. absurd (none-some k here)

-- the head of the ring is read with no copy in hand
quiet_none : (p : WalkPlace) (row : WalkRow) → Cause p row → row ≡ walks.HeadEnds → p.walk.held ≡ None
quiet_none p _ (ring_is_broken c) is = absurd cc
quiet_none p _ (head_is_quiet c) is = c.leads.no_copy
quiet_none p _ (leads_to at q c) is = absurd cc
quiet_none p _ (is_resting c) is = absurd cc
quiet_none p _ (queue_ends c) is = absurd cc
quiet_none p _ (qtd_is_done c) is = absurd cc
quiet_none p _ (queue_is_broken c) is = absurd cc
quiet_none p _ (takes_qtd at qtd c) is = absurd cc
quiet_none p _ (is_out_of_time c) is = absurd cc
quiet_none p _ (has_time copy c) is = absurd cc
quiet_none p _ (is_settled copy outcome c) is = absurd cc

pub ring_at_cursor : (fixed : Fixed) (p : WalkPlace) (b : Bus) → IsAtCursor p.walk → IsAtCursor (walk_next fixed p b).place.walk
ring_at_cursor fixed p b at = row_at fixed (event_row p) (at_event p) b (quiet_none (started p) (event_row p) (each_row_has_its_cause (started p))) at

-- ---- a part of a microframe begins: the head of the ring doesn't end it

pub data IsRead (m : Mem) (link : Link) : WalkRow → Type 0 where
  broken : IsRead m link walks.Fault
  read : (a : ℕ) (q : Qh) → link ≡ links.Qh a → queue_head_at_address m a ≡ Some q → IsRead m link (walks.Fetch a q)

never_quiet : (m : Mem) (a : ℕ) (q : Qh) (b : Bool) → IsRead m (links.Qh a) (walks.Fetch a q) → IsRead m (links.Qh a) (if b && false then walks.HeadEnds else walks.Fetch a q)
never_quiet m a q true k = k
never_quiet m a q false k = k

fetched : (m : Mem) (a : ℕ) (o : Option Qh) → queue_head_at_address m a ≡ o → IsRead m (links.Qh a) (fetch_row true a o)
fetched m a None is = broken
fetched m a (Some q) is = never_quiet m a q q.head (read a q refl is)

pub first_row : (m : Mem) (link : Link) → IsRead m link (ring_row m true link)
first_row m (links.Qh a) = fetched m a (queue_head_at_address m a) refl
first_row m _ = broken
