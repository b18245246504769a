-- An event of the periodic part that doesn't end the microframe leaves fewer events of it (EHCI 1.0, 4.6, 4.7.1, 4.10 and 4.12).
use Rattle.std.proofs.Common.{◌≡◌, ◌≢◌, ℕ, suc, ◌+◌, ◌-◌, ◌*◌, ◌/◌, ◌<◌, ◌≤◌, List, ◌∷◌, length, Option, Some, None, refl, sym, subst, arith}
use Rattle.async_walk.specs.declared.state.WalkStep.{WalkStep}
use Rattle.async_walk.specs.declared.state.WalkStep.TheVariants as walk_steps
use Rattle.periodic_walk.specs.declared.chain.ChainRow.{ChainRow}
use Rattle.periodic_walk.specs.declared.chain.ChainRow.TheVariants as chains
use Rattle.periodic_walk.specs.declared.state.Hand.{Hand}
use Rattle.periodic_walk.specs.Place.{FramePlace, Effect, reading}
use Rattle.periodic_walk.specs.Place.Effect.{Leaves, Asks}
use Rattle.periodic_walk.specs.Chain.{chain_row, chain_read, chain_after, chain_step}
use Rattle.periodic_walk.specs.Rows.{effect_at, step_at}
use Rattle.hc_core.specs.declared.controller.ControllerRow.{ControllerRow}
use Rattle.hc_core.specs.declared.controller.ControllerRow.TheVariants as rows
use Rattle.hc_core.specs.declared.controller.HcStep.TheVariants as steps
use Rattle.hc_core.specs.declared.controller.MicroframePart.{MicroframePart}
use Rattle.hc_core.specs.declared.controller.MicroframePart.TheVariants.{Periodic}
use Rattle.hc_core.specs.Controller.{Control, Content, hc_step, part_after, frame_place, frame_step, kind_of}
use Rattle.bus_wire.specs.Bus.{Bus, Fixed, reply_of}
use Rattle.bus_world.specs.World.{controller_parts, frame_by, turned_by}
use Rattle.claims_world.specs.Visits.{fetched_by, visited_too, visits_at, visits_after}
use Rattle.law_microframes.proofs.lemmas.visits.ReasonParts.{InPart, row_in}
use Rattle.law_microframes.specs.time.Rounds.{round_after}
use Rattle.claims_world.specs.Microframes.{most_blocks, least_price, least_in_frames, round_length, ring_whole}
use Rattle.law_microframes.specs.time.HeadReads.{heads_after}
use Rattle.law_microframes.specs.time.ChainEvents.{hand_rest, visit_rest, visit_ahead}
use Rattle.law_microframes.specs.time.Ahead.{chain_ahead, events_in, events_ahead, RowLowers}
use Rattle.law_microframes.proofs.lemmas.time.ChainPrices.{IsUnder, Falls}
use Rattle.law_microframes.proofs.lemmas.time.ChainFalls.{hand_falls, row_begins}

-- ---- less time leaves no more events of the part that follows

fewer_prices : (new old : ℕ) → new ≤ old → new / least_price ≤ old / least_price
fewer_prices new old less = omega (arith, less)

more_rounds : (new old : ℕ) → new ≤ old → round_length * (new + 1) + 4 * most_blocks + 1 ≤ round_length * (old + 1) + 4 * most_blocks + 1
more_rounds new old fewer = omega (arith, fewer)

whole_falls : (new old : ℕ) → new ≤ old → ring_whole new ≤ ring_whole old
whole_falls new old less = more_rounds (new / least_price) (old / least_price) (fewer_prices new old less)

-- ---- an event that doesn't end the part

abbrev GoesOn : WalkStep → Type 0
GoesOn step = hc_step step ≢ steps.End

stays : (step : WalkStep) → GoesOn step → part_after Periodic step ≡ Periodic
stays walk_steps.Ended goes = absurd (goes refl)
stays walk_steps.Fault goes = absurd (goes refl)
stays _ goes = refl

-- ---- with a copy in hand

joined : (a x y u v : ℕ) → x < y → u ≤ v → a + x + u < a + y + v
joined a x y u v less few = omega (arith, less, few)

under_lowers : (p q : FramePlace) (hand : Hand) (vs : List ℕ) → IsUnder (hand_rest hand) p.walk.left q
    → 4 * (most_blocks - length vs) + visit_ahead q.walk.hand q.walk.left + ring_whole q.walk.left < 4 * (most_blocks - length vs) + visit_ahead (Some hand) p.walk.left + ring_whole p.walk.left
under_lowers p q hand vs under =
    joined (4 * (most_blocks - length vs)) (visit_ahead q.walk.hand q.walk.left) (visit_ahead (Some hand) p.walk.left) (ring_whole q.walk.left) (ring_whole p.walk.left) under.0
    (whole_falls q.walk.left p.walk.left under.1)

effect_lowers : (fixed : Fixed) (b : Bus) (p : FramePlace) (hand : Hand) (vs : List ℕ) (effect : Effect) → Falls (hand_rest hand) p.walk.left effect
    → chain_ahead (frame_by fixed effect b).place.walk vs < 4 * (most_blocks - length vs) + visit_ahead (Some hand) p.walk.left + ring_whole p.walk.left
effect_lowers fixed b p hand vs (Leaves q) falls = under_lowers p q hand vs falls
effect_lowers fixed b p hand vs (Asks ask out left_by) falls = under_lowers p (left_by (reply_of fixed b ask out)) hand vs (falls (reply_of fixed b ask out))

-- ---- with none in hand: a fetch

longer_by : (n more k x y : ℕ) → more ≡ suc n → more ≤ most_blocks → k ≤ 3 → 4 * (most_blocks - more) + (k + x) + y < 4 * (most_blocks - n) + (0 + x) + y
longer_by n more k x y one few rest = omega (arith, one, few, rest)

longer : (new old n more k : ℕ) → more ≡ suc n → more ≤ most_blocks → k ≤ 3 → new ≡ old
    → 4 * (most_blocks - more) + (k + 2 * (new / least_in_frames)) + ring_whole new < 4 * (most_blocks - n) + (0 + 2 * (old / least_in_frames)) + ring_whole old
longer new old n more k one few rest same =
    subst (λ (x : ℕ). 4 * (most_blocks - more) + (k + 2 * (x / least_in_frames)) + ring_whole x < 4 * (most_blocks - n) + (0 + 2 * (old / least_in_frames)) + ring_whole old) (sym same)
    (longer_by n more k (2 * (old / least_in_frames)) (ring_whole old) one few rest)

fetch_lowers : (p q : FramePlace) (row : ChainRow) (vs : List ℕ) → GoesOn (chain_step row) → length (visited_too (fetched_by row) vs) ≤ most_blocks → visit_rest q.walk.hand ≤ 3
    → q.walk.left ≡ p.walk.left
    → chain_ahead q.walk (visited_too (fetched_by row) vs) < 4 * (most_blocks - length vs) + visit_ahead None p.walk.left + ring_whole p.walk.left
fetch_lowers p q (chains.Queue a h) vs goes few rest same = longer q.walk.left p.walk.left (length vs) (length (a ∷ vs)) (visit_rest q.walk.hand) refl few rest same
fetch_lowers p q (chains.Itd a v) vs goes few rest same = longer q.walk.left p.walk.left (length vs) (length (a ∷ vs)) (visit_rest q.walk.hand) refl few rest same
fetch_lowers p q (chains.Sitd a v) vs goes few rest same = longer q.walk.left p.walk.left (length vs) (length (a ∷ vs)) (visit_rest q.walk.hand) refl few rest same
fetch_lowers p q _ vs goes few rest same = absurd (goes refl)

-- ---- any event

hand_lowers : (fixed : Fixed) (b : Bus) (p : FramePlace) (o : Option Hand) (vs : List ℕ) → GoesOn (step_at p o) → length (visits_at o (chain_row p.memory p.walk.cursor) vs) ≤ most_blocks
    → chain_ahead (frame_by fixed (effect_at p o) b).place.walk (visits_at o (chain_row p.memory p.walk.cursor) vs)
    < 4 * (most_blocks - length vs) + visit_ahead o p.walk.left + ring_whole p.walk.left
hand_lowers fixed b p None vs goes few =
    let row : ChainRow = chain_row p.memory p.walk.cursor in
    let there : FramePlace = reading (chain_read p.memory p.walk.cursor) p in
    let begins = row_begins there row in
    fetch_lowers p (chain_after row there) row vs goes few begins.0 begins.1
hand_lowers fixed b p (Some hand) vs goes few = effect_lowers fixed b p hand vs (effect_at p (Some hand)) (hand_falls p hand)

-- ---- the row

in_part : (part : MicroframePart) (c : Control) (vs rs : List ℕ) (n m : ℕ) → part ≡ Periodic → chain_ahead c.frame vs < m → events_in part c vs rs n < m
in_part part c vs rs n m is less = subst (λ (x : MicroframePart). events_in x c vs rs n < m) (sym is) less

row_lowers : (fixed : Fixed) (c : Content) (b : Bus) (vs rs : List ℕ) (n : ℕ) → c.control.part ≡ Periodic → GoesOn (frame_step c) → length (visits_after rows.Frame c vs) ≤ most_blocks
    → events_ahead (turned_by fixed rows.Frame c b).content.control (visits_after rows.Frame c vs) rs n < chain_ahead c.control.frame vs
row_lowers fixed c b vs rs n part goes few =
    in_part (part_after Periodic (frame_step c)) (turned_by fixed rows.Frame c b).content.control (visits_after rows.Frame c vs) rs n (chain_ahead c.control.frame vs) (stays (frame_step c) goes)
    (hand_lowers fixed b (frame_place c) c.control.frame.hand vs goes few)

pub frame_lowers : RowLowers rows.Frame
frame_lowers fixed w vs rs n counted is goes =
    let c : Content = controller_parts w in
    let part : w.control.part ≡ Periodic = subst (λ (row : ControllerRow). InPart row w.control.part) is (row_in w) in
    let on : GoesOn (frame_step c) = subst (λ (row : ControllerRow). kind_of row c ≢ steps.End) is goes in
    let few = subst (λ (row : ControllerRow). length (visits_after row c vs) ≤ most_blocks) is counted.visits in
    let lowers = row_lowers fixed c w.bus vs rs n part on few in
    subst (λ (row : ControllerRow).
    events_ahead (turned_by fixed row c w.bus).content.control (visits_after rows.Frame c vs) (round_after rows.Frame c rs) (heads_after rows.Frame c n) < events_ahead w.control vs rs n) (sym is)
    (subst (λ (x : MicroframePart). events_ahead (turned_by fixed rows.Frame c w.bus).content.control (visits_after rows.Frame c vs) rs n < events_in x w.control vs rs n) (sym part) lowers)
