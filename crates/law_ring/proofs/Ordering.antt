-- Where a queue head's structures are altered no more than the controller may, its qTDs stay in their order.
use Rattle.std.proofs.Common.{◌≡◌, ◌≢◌, ℕ, ◌-◌, ◌≤◌, ◌==◌, ◌&&◌, Bool, true, false, if◌then◌else◌, List, [], length, take, Some, ap, refl, sym, subst, ◌∙◌, arith}
use Rattle.std.proofs.lemmas.Bool.{false≢true}
use Rattle.link_words.specs.declared.kinds.QtdLink.TheVariants as qtd_links
use Rattle.link_words.specs.Links.{qtd_link_of}
use Rattle.qh_qtd.specs.declared.qtd.Qtd.{Qtd}
use Rattle.qh_qtd.specs.declared.queue_head.Qh.{Qh}
use Rattle.law_structures.specs.lent_structures.Structures.{QueueHead, Element, Structures, StructureSets}
use Rattle.law_structures.specs.lent_structures.Sound.{buffer_name, IsWorking, IsSoundQueue, IsMember}
use Rattle.law_structures.specs.lent_structures.Alters.{HadElement, Alters}
use Rattle.law_structures.proofs.lemmas.lent_structures.Altering.{found_queue, found_element}
use Rattle.law_structures.proofs.lemmas.lent_structures.Members.{still_active}
use Rattle.law_ring.specs.Hand.{Hand, Empty, Copied, Settled, Stale}
use Rattle.law_ring.specs.Effects.{buffer_of}
use Rattle.law_ring.specs.Told.{works_on, told_bytes, settled_bytes, hand_bytes, Told}
use Rattle.law_ring.proofs.Altered.{length_still}
use Rattle.law_ring.proofs.Growing.{works_not}
use Rattle.law_ring.specs.Order.{IsPlaced, IsOrdered}

-- ---- the order stays

pub ordered_still : (order : ℕ → ℕ) (place later n : ℕ) (part now : Structures) → IsOrdered order place n part → Alters part now → place ≤ later → ((q : Qh) → now n ≡ Some (QueueHead q) → IsPlaced order later q) → IsOrdered order later n now
ordered_still order place later n part now k alters grows queue = record {
  next = λ a u b here leads.
      let had : HadElement part a u = alters.element_before a u here in
      k.next a had.qtd b had.here (ap (λ (x : Qtd). qtd_link_of x.next) (sym had.after.is) ∙ leads);
  alternate = λ a u b here leads.
      let had : HadElement part a u = alters.element_before a u here in
      k.alternate a had.qtd b had.here (ap (λ (x : Qtd). qtd_link_of x.alternate) (sym had.after.is) ∙ leads);
  queue = queue;
  fresh = λ a u here on from.
      let had : HadElement part a u = alters.element_before a u here in
      let same : u ≡ had.qtd = still_active had.qtd u had.after on in
      ap (λ (x : Qtd). x.token.total) same
      ∙ k.fresh a had.qtd had.here (ap (λ (x : Qtd). x.token.active) (sym same) ∙ on) (omega (arith, from, grows))
      ∙ sym (length_still part now (buffer_name had.qtd) alters) ∙ ap (λ (x : Qtd). length (buffer_of now x)) (sym same);
}

-- the link that is followed
pub pointer_placed : (order : ℕ → ℕ) (place : ℕ) (q : Qh) (b : Bool) (a : ℕ) → IsPlaced order place q → qtd_link_of (if b then q.alternate else q.next) ≡ qtd_links.To a → place ≤ order a
pointer_placed order place q true a k leads = k.alternate a leads
pointer_placed order place q false a k leads = k.next a leads

-- ---- what is told of a qTD on which the overlay doesn't work

pub not_worked : (hand : Hand) (n : ℕ) (q : Qh) (e : ℕ) (t : Qtd) (bs : List ℕ) → works_on q e ≡ false → hand_bytes hand n q e t bs ≡ take (length bs - t.token.total) bs
not_worked Empty n q e t bs off = ap (λ (b : Bool). take (length bs - (if b then q.token.total else t.token.total)) bs) off
not_worked (Copied c) n q e t bs off = ap (λ (b : Bool). take (length bs - (if b then q.token.total else t.token.total)) bs) off
not_worked (Stale at old) n q e t bs off = ap (λ (b : Bool). take (length bs - (if b then q.token.total else t.token.total)) bs) off
not_worked (Settled c z) n q e t bs off =
    ap (λ (b : Bool). if c.at == n && b then settled_bytes q t z bs else told_bytes q e t bs) off ∙ not_here (c.at == n)
    ∙ ap (λ (b : Bool). take (length bs - (if b then q.token.total else t.token.total)) bs) off
  where
    not_here : (b : Bool) → (if b && false then settled_bytes q t z bs else told_bytes q e t bs) ≡ told_bytes q e t bs
    not_here true = refl
    not_here false = refl

pub works_by : (q : Qh) (e : ℕ) (b : Bool) → q.token.active ≡ b → (b ≡ true → q.current ≢ e) → works_on q e ≡ false
works_by q e true on differs = works_not q e (differs refl)
works_by q e false off differs = ap (λ (b : Bool). b && q.current == e) off

-- a fresh one has no bytes
pub fresh_none : (order : ℕ → ℕ) (place n : ℕ) (hand : Hand) (parts : StructureSets) (b : ℕ) (x : List ℕ) (t : Qtd) → IsOrdered order place n (parts n) → parts n b ≡ Some (Element t) → t.token.active ≡ true → place ≤ order b → Told hand parts n b x → x ≡ []
fresh_none order place n hand parts b x t k here on from told =
    let same : told.qtd ≡ t = found_element (parts n b) told.qtd t told.here here in
    let placed : IsPlaced order place told.queue = k.queue told.queue told.head in
    let off : works_on told.queue b ≡ false = works_by told.queue b told.queue.token.active refl (λ active is. let now = placed.current active in let e = ap order is in omega (arith, now, e, from)) in
    let bs : List ℕ = buffer_of (parts n) told.qtd in
    let fresh = ap (λ (z : Qtd). z.token.total) same ∙ k.fresh b t here on from ∙ ap (λ (z : Qtd). length (buffer_of (parts n) z)) (sym same) in
    let none : length bs - told.qtd.token.total ≡ 0 = omega (arith, fresh) in
    told.are ∙ not_worked hand n told.queue b told.qtd bs off ∙ ap (λ (i : ℕ). take i bs) none

-- ---- a done qTD

done_apart : (member : ℕ → Bool) (n : ℕ) (part : Structures) (q : Qh) (e : ℕ) (t : Qtd) → IsMember member n part → part n ≡ Some (QueueHead q) → part e ≡ Some (Element t) → t.token.active ≡ false → q.token.active ≡ true → q.current ≢ e
done_apart member n part q e t m head here off on same =
    let is : m.queue ≡ q = found_queue (part n) m.queue q m.here head in
    let sound : IsSoundQueue part q = subst (IsSoundQueue part) is m.sound in
    let w : IsWorking part q = sound.work on in
    false≢true (sym off ∙ ap (λ (x : Qtd). x.token.active) (found_element (part e) t w.element here (ap part (sym same) ∙ w.here)) ∙ w.published)

pub a_done_qtd_is_told_by_memory : (member : ℕ → Bool) (parts : StructureSets) (hand : Hand) (n e : ℕ) (t : Qtd) (x : List ℕ) → IsMember member n (parts n) → parts n e ≡ Some (Element t) → t.token.active ≡ false → Told hand parts n e x → x ≡ take (length (buffer_of (parts n) t) - t.token.total) (buffer_of (parts n) t)
a_done_qtd_is_told_by_memory member parts hand n e t x m here off told =
    let same : told.qtd ≡ t = found_element (parts n e) told.qtd t told.here here in
    told.are ∙ not_worked hand n told.queue e told.qtd (buffer_of (parts n) told.qtd) (works_by told.queue e told.queue.token.active refl (λ on. done_apart member n (parts n) told.queue e t m told.head here off on))
    ∙ ap (λ (z : Qtd). take (length (buffer_of (parts n) z) - z.token.total) (buffer_of (parts n) z)) same
