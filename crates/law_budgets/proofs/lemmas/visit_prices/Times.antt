-- The time left falls by what is paid alone, and a visit for which there is time enough is never late.
use Rattle.std.proofs.Common.{◌≡◌, ℕ, ◌+◌, ◌-◌, ◌*◌, ◌≤◌, Bool, true, false, List, [], ◌∷◌, ◌++◌, Option, Some, None, refl, ap, sym, subst, ◌∙◌, arith}
use Rattle.std.specs.Prelude.{is_none, is_some, ◌&&◌, ◌||◌, if◌then◌else◌}
use Rattle.std.proofs.lemmas.List.Sums.{sum_by-cons}
use Rattle.law_common.proofs.Booleans.{none_late}
use Rattle.law_budgets.proofs.Common.{visit_left}
use Rattle.usb_base.specs.declared.packets.Ask.{Ask}
use Rattle.usb_base.specs.declared.packets.Reply.{Reply}
use Rattle.toggle_error.specs.declared.host.Outcome.{Outcome}
use Rattle.hc_copy.specs.Buffer.{sending}
use Rattle.hc_copy.specs.Transacting.{call_in}
use Rattle.hc_interrupt.specs.Copies.{goes_on}
use Rattle.hc_interrupt.specs.Turns.{is_last_of}
use Rattle.mem_queues.specs.Structures.{reaches_queue_head}
use Rattle.hc_iso.specs.declared.held.HeldItd.{HeldItd}
use Rattle.hc_iso.specs.declared.held.IsoEnd.{IsoEnd}
use Rattle.hc_iso.specs.WriteBack.{itd_sending, itd_written}
use Rattle.periodic_walk.specs.declared.queue.QueueRow.{QueueRow}
use Rattle.periodic_walk.specs.declared.queue.QueueRow.TheVariants as queue_rows
use Rattle.periodic_walk.specs.declared.itd.ItdRow.{ItdRow}
use Rattle.periodic_walk.specs.declared.itd.ItdRow.TheVariants as itd_rows
use Rattle.periodic_walk.specs.declared.state.HeldQueue.{HeldQueue}
use Rattle.periodic_walk.specs.declared.state.Hand.{Hand}
use Rattle.periodic_walk.specs.declared.state.Hand.TheVariants as hands
use Rattle.periodic_walk.specs.Place.{FramePlace, Effect, sent}
use Rattle.periodic_walk.specs.Place.Effect.{Leaves, Asks}
use Rattle.periodic_walk.specs.Rows.{effect_at, effect_of}
use Rattle.periodic_walk.specs.Queue.{queue_effect, queue_row, queue_left_by, wrote_at as queue_wrote_at, writing, missed, miss_outcome}
use Rattle.periodic_walk.specs.Itd.{itd_effect, itd_row, itd_left_by, wrote_at as itd_wrote_at}
use Rattle.law_budgets.specs.visit_prices.Prices.{left_by, after, paid, prices}
use Rattle.law_budgets.specs.visit_prices.Spent.{total}
use Rattle.claims_world.specs.InTime.{is_late}
use Rattle.law_budgets.specs.visit_prices.Time.{late_in, ending}
use Rattle.law_budgets.proofs.lemmas.visit_prices.Visits.{Goes}

-- ---- the time left

-- an event without a transaction leaves it, and one with a transaction doesn't raise it
abbrev pub Timed : ℕ → Effect → Type 0
Timed left (Leaves q) = q.walk.left ≡ left
Timed left (Asks ask out by) = (r : Reply) → (by r).walk.left ≤ left

wrote_left : (all : Bool) (h : HeldQueue) (outcome : Outcome) (p : FramePlace) → (queue_wrote_at all h outcome p).walk.left ≡ p.walk.left
wrote_left true h outcome p = visit_left h outcome p.walk (goes_on h.made h.copy.queue_head outcome)
wrote_left false h outcome p = refl

sent_left : (left : ℕ) (all : Bool) (ask : Ask) (out : List ℕ) (by : Reply → FramePlace) (there : FramePlace) → ((r : Reply) → (by r).walk.left ≤ left) → there.walk.left ≡ left → Timed left (sent all ask out by there)
sent_left left true ask out by there h e = h
sent_left left false ask out by there h e = e

either_left : (b : Bool) (p q : FramePlace) (left : ℕ) → p.walk.left ≡ left → q.walk.left ≡ left → (if b then p else q).walk.left ≡ left
either_left true p q left h k = h
either_left false p q left h k = k

queue_timed : (row : QueueRow) (h : HeldQueue) (p : FramePlace) → Timed p.walk.left (queue_effect row h p)
queue_timed (queue_rows.Advance a t) h p = either_left (reaches_queue_head p.memory h.copy.at) _ _ p.walk.left refl refl
queue_timed (queue_rows.Transact t) h p =
    sent_left p.walk.left (sending t h.copy.queue_head p.memory).all (call_in t (sending t h.copy.queue_head p.memory).bytes (is_last_of p.walk.index h.copy.queue_head)).ask
    (call_in t (sending t h.copy.queue_head p.memory).bytes (is_last_of p.walk.index h.copy.queue_head)).out
    (queue_left_by t (sending t h.copy.queue_head p.memory).bytes h (record p { memory = (sending t h.copy.queue_head p.memory).memory }))
    (record p { memory = (sending t h.copy.queue_head p.memory).memory }) (λ r. omega arith) refl
queue_timed queue_rows.Miss h p =
    wrote_left (writing (missed h).copy miss_outcome p.walk.reply p.memory).all (missed h) miss_outcome (record p { memory = (writing (missed h).copy miss_outcome p.walk.reply p.memory).memory })
queue_timed (queue_rows.WriteBack outcome) h p =
    wrote_left (writing h.copy outcome p.walk.reply p.memory).all h outcome (record p { memory = (writing h.copy outcome p.walk.reply p.memory).memory })
queue_timed _ h p = refl

itd_wrote_left : (all : Bool) (h : HeldItd) (ended : IsoEnd) (p : FramePlace) → (itd_wrote_at all h ended p).walk.left ≡ p.walk.left
itd_wrote_left true h ended p = refl
itd_wrote_left false h ended p = refl

itd_timed : (row : ItdRow) (h : HeldItd) (p : FramePlace) → Timed p.walk.left (itd_effect row h p)
itd_timed itd_rows.Skip h p = refl
itd_timed (itd_rows.Transact t) h p =
    sent_left p.walk.left (itd_sending t h p.memory).all t.ask (itd_sending t h p.memory).bytes (itd_left_by t h (record p { memory = (itd_sending t h p.memory).memory }))
    (record p { memory = (itd_sending t h p.memory).memory }) (λ r. omega arith) refl
itd_timed (itd_rows.WriteBack ended) h p =
    itd_wrote_left (itd_written h p.walk.got p.memory).all h ended (record p { memory = (itd_written h p.walk.got p.memory).memory })

-- with a queue head or a descriptor in hand
abbrev pub IsHighHand : Hand → Type 0
IsHighHand (hands.Queue h) = Unit {0}
IsHighHand (hands.Itd h) = Unit {0}
IsHighHand (hands.Sitd h) = ⊥

pub hand_timed : (p : FramePlace) (hand : Hand) → IsHighHand hand → p.walk.hand ≡ Some hand → Timed p.walk.left (effect_of p)
hand_timed p (hands.Queue h) high e = subst (λ (o : Option Hand). Timed p.walk.left (effect_at p o)) (sym e) (queue_timed (queue_row p h) h _)
hand_timed p (hands.Itd h) high e = subst (λ (o : Option Hand). Timed p.walk.left (effect_at p o)) (sym e) (itd_timed (itd_row p.walk.left h) h p)
hand_timed p (hands.Sitd h) high e = absurd high

-- ---- a visit

-- what holds of it says that it is of these kinds, and is kept
pub record Keeps (Holds : ℕ → FramePlace → Type 0) (c : ℕ) : Type 0 where
  pub high : (n : ℕ) (p : FramePlace) (hand : Hand) → p.walk.hand ≡ Some hand → Holds n p → IsHighHand hand
  pub goes : (n : ℕ) (p : FramePlace) (hand : Hand) → p.walk.hand ≡ Some hand → Holds n p → Goes Holds c n p (effect_of p)

pub record Prompt (Holds : ℕ → FramePlace → Type 0) (c : ℕ) : Type 0 where
  pub keeps : Keeps Holds c
  pub prompt : (n : ℕ) (p : FramePlace) (hand : Hand) → p.walk.hand ≡ Some hand → Holds n p → n * c ≤ p.walk.left → is_late p ≡ false

one_less : (n c left now : ℕ) → 1 ≤ n → n * c ≤ left → left - now ≤ c → (n - 1) * c ≤ now
one_less n c left now some enough less =
    let is : n ≡ n - 1 + 1 = omega (arith, some) in
    let whole : (n - 1 + 1) * c ≡ (n - 1) * c + c = omega arith in
    let same : n * c ≡ (n - 1) * c + c = ap (λ k. k * c) is ∙ whole in
    omega (arith, same, enough, less)

prompt_by : (Holds : ℕ → FramePlace → Type 0) (c n : ℕ) (p : FramePlace) (r : Reply) (rs : List Reply) (e : Effect) → ((m : ℕ) (q : FramePlace) → Holds m q → m * c ≤ q.walk.left → late_in q rs ≡ false) → Goes Holds c n p e
    → Timed p.walk.left e → n * c ≤ p.walk.left → late_in (left_by e r) rs ≡ false
prompt_by Holds c n p r rs (Leaves q) rest g t enough = rest n q g (omega (arith, t, enough))
prompt_by Holds c n p r rs (Asks ask out by) rest g t enough = rest (n - 1) (by r) (g.1 r).1 (one_less n c p.walk.left (by r).walk.left g.0 enough (g.1 r).0)

prompt_hand : (c n : ℕ) (p : FramePlace) (r : Reply) (rs : List Reply) (hand : Option Hand) → ((k : Hand) → hand ≡ Some k → is_late p ≡ false) → ((k : Hand) → hand ≡ Some k → late_in (after p r) rs ≡ false)
    → (is_some hand && (is_late p || late_in (after p r) rs)) ≡ false
prompt_hand c n p r rs None now rest = refl
prompt_hand c n p r rs (Some k) now rest = none_late (is_late p) (late_in (after p r) rs) (now k refl) (rest k refl)

pub never_late : (Holds : ℕ → FramePlace → Type 0) (c : ℕ) → Prompt Holds c → (n : ℕ) (p : FramePlace) (rs : List Reply) → Holds n p → n * c ≤ p.walk.left → late_in p rs ≡ false
unfolding late_in
never_late Holds c how n p [] h enough = refl
never_late Holds c how n p (r ∷ rs) h enough =
    prompt_hand c n p r rs p.walk.hand (λ k e. how.prompt n p k e h enough)
    (λ k e.
    prompt_by Holds c n p r rs (effect_of p) (λ m q g. never_late Holds c how m q rs g) (how.keeps.goes n p k e h) (hand_timed p k (how.keeps.high n p k e h) e) enough)

-- ---- what is paid is what the time left falls by

paid_by : (Holds : ℕ → FramePlace → Type 0) (c n : ℕ) (p : FramePlace) (r : Reply) (rs : List Reply) (e : Effect) → ((m : ℕ) (q : FramePlace) → Holds m q → total (prices q rs) + (ending q rs).walk.left ≡ q.walk.left)
    → Goes Holds c n p e → Timed p.walk.left e → total (paid p e r ++ prices (left_by e r) rs) + (ending (left_by e r) rs).walk.left ≡ p.walk.left
paid_by Holds c n p r rs (Leaves q) rest g t = rest n q g ∙ t
paid_by Holds c n p r rs (Asks ask out by) rest g t =
    omega (arith, rest (n - 1) (by r) (g.1 r).1, t r, sum_by-cons (λ (price : ℕ). price) (p.walk.left - (by r).walk.left) (prices (by r) rs))

paid_hand : (p : FramePlace) (xs : List ℕ) (q : FramePlace) (hand : Option Hand) → ((k : Hand) → hand ≡ Some k → total xs + q.walk.left ≡ p.walk.left)
    → total (if is_none hand then [] else xs) + (if is_none hand then p else q).walk.left ≡ p.walk.left
paid_hand p xs q None h = omega arith
paid_hand p xs q (Some k) h = h k refl

pub all_paid : (Holds : ℕ → FramePlace → Type 0) (c : ℕ) → Keeps Holds c → (n : ℕ) (p : FramePlace) (rs : List Reply) → Holds n p → total (prices p rs) + (ending p rs).walk.left ≡ p.walk.left
unfolding prices ending
all_paid Holds c how n p [] h = omega arith
all_paid Holds c how n p (r ∷ rs) h =
    paid_hand p (paid p (effect_of p) r ++ prices (after p r) rs) (ending (after p r) rs) p.walk.hand
    (λ k e. paid_by Holds c n p r rs (effect_of p) (λ m q g. all_paid Holds c how m q rs g) (how.goes n p k e h) (hand_timed p k (how.high n p k e h) e))
