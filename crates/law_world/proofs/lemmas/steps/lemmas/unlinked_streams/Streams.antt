-- The streams, once the queue head before that of the cancelled endpoint leads past it.
use Rattle.std.proofs.Common.{◌≡◌, ℕ, ◌+◌, ◌*◌, Bool, false, List, length, Option, ap, refl, sym, subst, ◌∙◌, ⊎_elim, inl, inr}
use Rattle.link_words.specs.declared.fields.LinkBits.{LinkBits}
use Rattle.link_words.specs.declared.fields.ShortLink.{ShortLink}
use Rattle.link_words.specs.Links.{qtd_link_of}
use Rattle.qh_qtd.specs.declared.token.Token.{Token}
use Rattle.qh_qtd.specs.declared.queue_head.Qh.{Qh}
use Rattle.drv_table.specs.declared.content.Endpoint.{Endpoint}
use Rattle.drv_table.specs.DriverContent.{DriverContent}
use Rattle.drv_table.specs.Words.{to_queue_head}
use Rattle.law_structures.specs.lent_structures.Structures.{StructureSets}
use Rattle.law_ring.specs.Hand.{Hand}
use Rattle.law_ring.specs.Told.{Endpoint as Told}
use Rattle.law_ring.specs.Order.{IsPlaced, IsOrdered}
use Rattle.law_ring.specs.Front.{SameRest, HadRest, IsPassed, HasFront, LinksWithin, HasTail}
use Rattle.law_ring.proofs.SparedSparing.{linked_hand_is_same, spared_endpoint, spared_pipes_agree, accounts_are_spared}
use Rattle.law_ring.specs.Bus.{Sender}
use Rattle.law_ring.specs.Pipes.{IsIn, IsNotIn, IsElsewhere}
use Rattle.law_ring.specs.OutBus.{Taker}
use Rattle.law_ring.specs.OutPipes.{IsOut}
use Rattle.law_ring.specs.OutPipeLaws.{SendsNone}
use Rattle.law_controller.proofs.lemmas.controlled_streams.Outs.{linked_is_unmoved}
use Rattle.law_controller.specs.controlled_streams.Reported.{IsReported}
use Rattle.law_queues.specs.released_queues.Fronts.{piece_address}
use Rattle.law_queues.proofs.lemmas.whole_sends.Keeping.{linked_ends_whole, spared_is_whole}
use Rattle.law_queues.specs.standing_fronts.Reaching.{Reaches}
use Rattle.law_world.specs.steps.Outs.{IsAside}
use Rattle.law_world.proofs.lemmas.steps.Spared.{spared_out_pipes_agree}
use Rattle.law_world.specs.steps.unlinked_streams.Unlinks.{IsAtUnlink, driver_then, parts_unlinked, hand_unlinked, UnlinkLeavesPipes, UnlinkLeavesOutPipes, UnlinkLeavesReports, UnlinkLeavesSent, UnlinkSparesHeads, UnlinkSparesElements, UnlinkSparesHand, UnlinkLeavesFronts}
use Rattle.law_world.proofs.lemmas.steps.lemmas.unlinked_streams.Passing.{driver_is}
use Rattle.law_world.proofs.lemmas.steps.lemmas.unlinked_streams.Sparing.{spares_head, had_rest, element_was, buffer_stays, spares_element, front_stays, passed_stays, within_stays, tail_stays}

-- ---- what is spared

pub unlink_spares_heads : UnlinkSparesHeads
unlink_spares_heads d member parts k n = spares_head parts (32 * k.before) k.queue (to_queue_head k.after) k.head n

pub unlink_spares_elements : UnlinkSparesElements
unlink_spares_elements d member parts k n e = spares_element parts (32 * k.before) k.queue (to_queue_head k.after) k.head n e

pub unlink_spares_hand : UnlinkSparesHand
unlink_spares_hand hand d member parts k = linked_hand_is_same (32 * k.before) (to_queue_head k.after) hand

-- the overlay stands in its place still
placed_still : (order : ℕ → ℕ) (place : ℕ) (q r : Qh) → SameRest q r → IsPlaced order place q → IsPlaced order place r
placed_still order place q r same k = record {
  next = λ b to. k.next b (ap (λ (l : ShortLink). qtd_link_of l) (sym same.next) ∙ to);
  alternate = λ b to. k.alternate b (ap (λ (l : ShortLink). qtd_link_of l) (sym same.alternate) ∙ to);
  current = λ on. ap (λ (i : ℕ). order i + 1) same.current ∙ k.current (ap (λ (t : Token). t.active) (sym same.token) ∙ on);
}

module _ (d : DriverContent) (member : ℕ → Bool) (parts : StructureSets) (k : IsAtUnlink d member parts) where
  abbrev at : ℕ
  at = 32 * k.before

  abbrev l : LinkBits
  l = to_queue_head k.after

  abbrev then : StructureSets
  then = parts_unlinked parts k.before k.queue k.after

  -- ---- IN pipes

  ins_stay : (n : ℕ) → IsIn (parts n) → IsIn (then n)
  ins_stay n ins a t is on = ins a t (element_was parts at k.queue l k.head n a t is) on

  nots_stay : (n : ℕ) → IsNotIn (parts n) → IsNotIn (then n)
  nots_stay n nots a t is on = nots a t (element_was parts at k.queue l k.head n a t is) on

  elsewhere_stays : (stream : ℕ → ℕ → Bool) (n : ℕ) (x : Told) → IsElsewhere stream parts n x → IsElsewhere stream then n x
  elsewhere_stays stream n x was = (
    spared_endpoint parts then n x (spares_head parts at k.queue l k.head n) was.0,
    ⊎_elim (λ (none : stream x.addr x.ep ≡ false). inl none) (λ (nots : IsNotIn (parts n)). inr (nots_stay n nots)) was.1,
  )

  -- ---- OUT pipes

  outs_stay : (n : ℕ) → IsOut (parts n) → IsOut (then n)
  outs_stay n outs a t is on = outs a t (element_was parts at k.queue l k.head n a t is) on

  nothing_stays : (n : ℕ) → SendsNone (parts n) → SendsNone (then n)
  nothing_stays n nothing a t is on = nothing a t (element_was parts at k.queue l k.head n a t is) on

  aside_stays : (stream : ℕ → ℕ → Bool) (n : ℕ) (x : Told) → IsAside stream parts n x → IsAside stream then n x
  aside_stays stream n x was = (
    spared_endpoint parts then n x (spares_head parts at k.queue l k.head n) was.0,
    ⊎_elim (λ (none : stream x.addr x.ep ≡ false). inl none) (λ (nothing : SendsNone (parts n)). inr (nothing_stays n nothing)) was.1,
  )

  -- ---- reports

  ordered_still : (order : ℕ → ℕ) (place n : ℕ) → IsOrdered order place n (parts n) → IsOrdered order place n (then n)
  ordered_still order place n o = record {
    next = λ a t b is to. o.next a t b (element_was parts at k.queue l k.head n a t is) to;
    alternate = λ a t b is to. o.alternate a t b (element_was parts at k.queue l k.head n a t is) to;
    queue = λ r is.
        let had : HadRest (parts n) n r = had_rest parts at k.queue l k.head n r is in
        placed_still order place had.queue r had.rest (o.queue had.queue had.here);
    fresh = λ a t is on from. o.fresh a t (element_was parts at k.queue l k.head n a t is) on from ∙ ap length (sym (buffer_stays parts at k.queue l k.head n t));
  }

  report_stays : (order : ℕ → ℕ) (out : List ℕ) (hand : Hand) (n : ℕ) (acc : List (List ℕ)) (reported : List ℕ) → IsReported order out hand parts n acc reported
      → IsReported order out (hand_unlinked hand k.before k.after) then n acc reported
  report_stays order out hand n acc reported r = record {
    place = r.place;
    told = r.told;
    accounts = accounts_are_spared order order r.place r.place out hand (hand_unlinked hand k.before k.after) parts then n r.told (linked_hand_is_same at l hand) (spares_head parts at k.queue l k.head n)
        (λ e among. spares_element parts at k.queue l k.head n e) (ordered_still order r.place n r.accounts.ordered) r.accounts.sorted
        (λ a t among is from. r.accounts.published a t among (element_was parts at k.queue l k.head n a t is) from)
        (λ a t is active. r.accounts.complete a t (element_was parts at k.queue l k.head n a t is) active) r.accounts;
    sum = r.sum;
  }

-- ---- the laws

pub unlink_leaves_pipes : {W : Type 0} (sender : W → ℕ → ℕ → Option Sender) → UnlinkLeavesPipes sender
unlink_leaves_pipes sender stream packets streams ends acc wire hand d member parts k piped =
    spared_pipes_agree sender stream packets member member streams ends acc hand (hand_unlinked hand k.before k.after) parts (parts_unlinked parts k.before k.queue k.after) wire
    (unlink_spares_hand hand d member parts k) (λ n on. unlink_spares_heads d member parts k n) (λ n on. ins_stay d member parts k n (piped.pipes n on).ins)
    (λ n on off. elsewhere_stays d member parts k stream n (ends n) (piped.others n on off)) piped

pub unlink_leaves_out_pipes : {W : Type 0} (taker : W → ℕ → ℕ → Option Taker) → UnlinkLeavesOutPipes taker
unlink_leaves_out_pipes taker stream outs ends known wire hand d member parts k piped =
    spared_out_pipes_agree taker stream member member outs ends ends known hand (hand_unlinked hand k.before k.after) parts (parts_unlinked parts k.before k.queue k.after) wire
    (unlink_spares_hand hand d member parts k) (λ n on un. linked_is_unmoved (32 * k.before) (to_queue_head k.after) hand n un)
    (λ n on. record { head = unlink_spares_heads d member parts k n; work = λ q is active. unlink_spares_elements d member parts k n q.current })
    (λ n on. outs_stay d member parts k n (piped.pipes n on).outs) (λ n on. refl) (λ n on off. aside_stays d member parts k stream n (ends n) (piped.others n on off)) piped

pub unlink_leaves_reports : UnlinkLeavesReports
unlink_leaves_reports heads order out acc reported hand d member parts k right n on = report_stays d member parts k (order n) (out n) hand n (acc n) (reported n) (right n on)

pub unlink_leaves_sent : UnlinkLeavesSent
unlink_leaves_sent n order out hand d member parts k sent =
    spared_is_whole order out out hand (hand_unlinked hand k.before k.after) n (parts n) (parts_unlinked parts k.before k.queue k.after n)
    (λ ends_so. linked_ends_whole (32 * k.before) (to_queue_head k.after) hand n ends_so) (λ b among. among) (λ r is. had_rest parts (32 * k.before) k.queue (to_queue_head k.after) k.head n r is)
    (λ a t is. element_was parts (32 * k.before) k.queue (to_queue_head k.after) k.head n a t is) sent

-- ---- fronts and tails

reaches_then : (order : ℕ → ℕ) (out : List ℕ) (i c : ℕ) (x y : Endpoint) (d : DriverContent) (member : ℕ → Bool) (parts : StructureSets) (k : IsAtUnlink d member parts) → y.queue ≡ x.queue → Reaches d (parts (32 * x.queue)) order out i x c
    → Reaches (driver_then d k.number k.endpoint) (parts_unlinked parts k.before k.queue k.after (32 * y.queue)) order out i y c
reaches_then order out i c x y d member parts k same old =
    let at = 32 * k.before in
    let l = to_queue_head k.after in
    let n = 32 * x.queue in
    let m = 32 * y.queue in
    let is : n ≡ m = ap (λ (b : ℕ). 32 * b) (sym same) in
    let f = old.stands in
    record {
      stands = record {
        front = f.front;
        has = front_stays parts at k.queue l k.head order f.front out m (subst (λ (j : ℕ). HasFront order f.front out j (parts j)) is f.has);
        ended = λ h t z at_h there held own. f.ended h t z at_h there held own;
        passed = λ h t j z at_h there held own from below.
            passed_stays parts at k.queue l k.head order f.front m (piece_address d z j) (subst (λ (b : ℕ). IsPassed order f.front (parts b) (piece_address d z j)) is (f.passed h t j z at_h there held own from below));
      };
      within = within_stays parts at k.queue l k.head order c m (subst (λ (j : ℕ). LinksWithin order c (parts j)) is old.within);
      tail = tail_stays parts at k.queue l k.head order c f.front m (subst (λ (j : ℕ). HasTail order c f.front j (parts j)) is old.tail);
    }

pub unlink_leaves_fronts : UnlinkLeavesFronts
unlink_leaves_fronts order out i c x y p member parts k same old =
    subst (λ (f : DriverContent). Reaches f (parts_unlinked parts k.before k.queue k.after (32 * y.queue)) order out i y c) (sym (driver_is p member parts k))
    (reaches_then order out i c x y p.driver member parts k same old)
