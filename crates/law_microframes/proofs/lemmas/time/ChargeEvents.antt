-- What an event costs, by the kind of the copy in hand, whatever the bus replies (EHCI 1.0, 4.6, 4.7, 4.10 and 4.10.3; USB 2.0, 5.11.3).
use Rattle.std.proofs.Common.{◌≡◌, ◌≤◌, false, ℕ, List, Option, Some, None, refl, ap, sym, subst, ◌∙◌, arith, inl, inr}
use Rattle.usb_base.specs.declared.packets.Ask.{Ask}
use Rattle.usb_base.specs.declared.packets.Reply.{Reply}
use Rattle.bandwidth.specs.declared.placements.Placed.{Placed}
use Rattle.periodic_walk.specs.declared.chain.ChainRow.{ChainRow}
use Rattle.periodic_walk.specs.declared.chain.ChainRow.TheVariants as chain_rows
use Rattle.periodic_walk.specs.declared.state.Hand.{Hand}
use Rattle.periodic_walk.specs.declared.state.Hand.TheVariants as hands
use Rattle.periodic_walk.specs.Walk.{Walk}
use Rattle.periodic_walk.specs.Place.{FramePlace, Effect, HasEffect}
use Rattle.periodic_walk.specs.Place.Effect.{Leaves, Asks}
use Rattle.periodic_walk.specs.Chain.{chain_row, chain_walk}
use Rattle.periodic_walk.specs.Rows.{effect_at, effect_of, Leads}
use Rattle.claims_world.specs.InTime.{is_late, is_late_at}
use Rattle.law_budgets.specs.visit_prices.Spent.{largest}
use Rattle.law_budgets.specs.visit_prices.Prices.{left_by, after}
use Rattle.law_microframes.specs.time.Charges.{charge, IsInHandOf, TakesData, IsPriced, IsCharging, IsFree}
use Rattle.law_microframes.proofs.lemmas.time.ChargeQueues.{queue_priced, queue_in_time}
use Rattle.law_microframes.proofs.lemmas.time.ChargeItds.{itd_priced, itd_in_time}

by_hand : (x : Placed) (p : FramePlace) (hand : Hand) → IsInHandOf x p.walk.index hand → TakesData p hand → IsPriced x p hand (effect_at p (Some hand))
by_hand x p (hands.Queue h) held tame = queue_priced x p h held tame
by_hand x p (hands.Itd h) held tame = itd_priced x p h held
by_hand x p (hands.Sitd h) held tame = absurd held

pub events_are_priced : (x : Placed) (p : FramePlace) (hand : Hand) → p.walk.hand ≡ Some hand → IsInHandOf x p.walk.index hand → TakesData p hand → IsPriced x p hand (effect_of p)
events_are_priced x p hand e held tame = subst (λ (o : Option Hand). IsPriced x p hand (effect_at p o)) (sym e) (by_hand x p hand held tame)

-- ---- by the reply

pub priced_charging : (x : Placed) (p : FramePlace) (hand : Hand) (e : Effect) (r : Reply) → IsPriced x p hand e → IsCharging x p hand (left_by e r)
priced_charging x p hand (Leaves q) r priced = inl priced
priced_charging x p hand (Asks ask out by) r priced = inr (priced r)

pub events_are_charged : (x : Placed) (p : FramePlace) (hand : Hand) (r : Reply) → p.walk.hand ≡ Some hand → IsInHandOf x p.walk.index hand → TakesData p hand → IsCharging x p hand (after p r)
events_are_charged x p hand r e held tame = priced_charging x p hand (effect_of p) r (events_are_priced x p hand e held tame)

effect_charged : {W : Type 0} (transacts : W → Ask → List ℕ → Reply → W → Type 0) (x : Placed) (p q : FramePlace) (before later : W) (hand : Hand) (e : Effect) → IsPriced x p hand e
    → HasEffect transacts e before q later → IsCharging x p hand q
effect_charged transacts x p q before later hand (Leaves new) priced has = inl (subst (λ (z : FramePlace). IsPriced x p hand (Leaves z)) (sym has.0) priced)
effect_charged transacts x p q before later hand (Asks ask out by) priced has = subst (IsCharging x p hand) (sym has.place) (inr (priced has.reply))

pub leads_are_charged : {W : Type 0} (transacts : W → Ask → List ℕ → Reply → W → Type 0) (x : Placed) (p q : FramePlace) (before later : W) (hand : Hand) → p.walk.hand ≡ Some hand → IsInHandOf x p.walk.index hand
    → TakesData p hand → Leads transacts p before q later → IsCharging x p hand q
leads_are_charged transacts x p q before later hand e held tame has = effect_charged transacts x p q before later hand (effect_of p) (events_are_priced x p hand e held tame) has

-- ---- with nothing in hand

chain_left : (row : ChainRow) (w : Walk) → (chain_walk row w).left ≡ w.left
chain_left chain_rows.Fault w = refl
chain_left _ w = refl

chain_index : (row : ChainRow) (w : Walk) → (chain_walk row w).index ≡ w.index
chain_index chain_rows.Fault w = refl
chain_index _ w = refl

pub chains_are_free : (p : FramePlace) → p.walk.hand ≡ None → IsFree p (effect_of p)
chains_are_free p e = subst (λ (o : Option Hand). IsFree p (effect_at p o)) (sym e) (chain_left (chain_row p.memory p.walk.cursor) p.walk, chain_index (chain_row p.memory p.walk.cursor) p.walk)

free_stays : (p : FramePlace) (e : Effect) (r : Reply) → IsFree p e → (left_by e r).walk.left ≡ p.walk.left
free_stays p (Leaves q) r free = free.0
free_stays p (Asks ask out by) r free = absurd free

pub chain_stays : (p : FramePlace) (r : Reply) → p.walk.hand ≡ None → (after p r).walk.left ≡ p.walk.left
chain_stays p r e = free_stays p (effect_of p) r (chains_are_free p e)

effect_stays : {W : Type 0} (transacts : W → Ask → List ℕ → Reply → W → Type 0) (p q : FramePlace) (before later : W) (e : Effect) → IsFree p e → HasEffect transacts e before q later → q.walk.left ≡ p.walk.left
effect_stays transacts p q before later (Leaves new) free has = ap (λ (z : FramePlace). z.walk.left) has.0 ∙ free.0
effect_stays transacts p q before later (Asks ask out by) free has = absurd free

pub chains_cost_nothing : {W : Type 0} (transacts : W → Ask → List ℕ → Reply → W → Type 0) (p q : FramePlace) (before later : W) → p.walk.hand ≡ None → Leads transacts p before q later → charge p q ≡ 0
chains_cost_nothing transacts p q before later e has = let same = effect_stays transacts p q before later (effect_of p) (chains_are_free p e) has in omega (arith, same)

-- ---- in time

hand_in_time : (x : Placed) (p : FramePlace) (hand : Hand) → IsInHandOf x p.walk.index hand → largest x.want ≤ p.walk.left → is_late_at p (Some hand) ≡ false
hand_in_time x p (hands.Queue h) held enough = queue_in_time x p h held enough
hand_in_time x p (hands.Itd h) held enough = itd_in_time x p h held enough
hand_in_time x p (hands.Sitd h) held enough = absurd held

pub enough_time_skips_nothing : (x : Placed) (p : FramePlace) (hand : Hand) → p.walk.hand ≡ Some hand → IsInHandOf x p.walk.index hand → largest x.want ≤ p.walk.left → is_late p ≡ false
enough_time_skips_nothing x p hand e held enough =
    subst (λ (o : Option Hand). is_late_at p o ≡ false) (sym e) (hand_in_time x p hand held enough)
