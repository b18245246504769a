-- The front goes on with each event of a queue, and links lead where they led.
use Rattle.std.proofs.Common.{◌≡◌, ◌≢◌, ℕ, ◌+◌, ◌<◌, ◌≤◌, ◌==◌, ◌&&◌, not, Bool, true, false, if◌then◌else◌, List, length, Some, ap, refl, sym, subst, ◌∙◌, ⊎_elim, arith}
use Rattle.std.proofs.lemmas.Bool.{cases_eq, true≢false}
use Rattle.law_ring.proofs.Common.{pointer_rises, same_pointer, pointer_within, behind_later, passed_later}
use Rattle.link_words.specs.declared.kinds.QtdLink.{QtdLink}
use Rattle.link_words.specs.declared.kinds.QtdLink.TheVariants as qtd_links
use Rattle.link_words.specs.Links.{qtd_link_of}
use Rattle.qh_qtd.specs.declared.qtd.Qtd.{Qtd}
use Rattle.qh_qtd.specs.declared.queue_head.Qh.{Qh}
use Rattle.hc_copy.specs.Visits.{next_pointer}
use Rattle.law_structures.specs.lent_structures.Structures.{Element, Structures, StructureSets}
use Rattle.law_structures.specs.lent_structures.Sound.{buffer_name}
use Rattle.law_structures.specs.lent_structures.Alters.{HadElement, Alters}
use Rattle.law_structures.proofs.lemmas.lent_structures.Members.{still_active}
use Rattle.law_structures.proofs.lemmas.lent_structures.Altering.{found_queue, found_element}
use Rattle.law_ring.specs.Effects.{buffer_of}
use Rattle.law_ring.proofs.Altered.{length_still}
use Rattle.law_ring.specs.Order.{IsFresh, IsAmong}
use Rattle.law_ring.specs.Front.{HasTail, own_pointer, IsFront, IsBehind, IsPassed, Passes, LinksRise, HasFront, FrontGoesOn}
use Rattle.law_frames.proofs.lemmas.framed_fronts.Queues.{Advances, Settles, QueueEvent, stays, advances, settles}

-- ---- links

pub links_rise : (order : ℕ → ℕ) (part now : Structures) → Alters part now → LinksRise order part → LinksRise order now
links_rise order part now alters rise = record {
  next = λ a u b here to.
      let had : HadElement part a u = alters.element_before a u here in
      rise.next a had.qtd b had.here (ap (λ (t : Qtd). qtd_link_of t.next) (sym had.after.is) ∙ to);
  alternate = λ a u b here to.
      let had : HadElement part a u = alters.element_before a u here in
      rise.alternate a had.qtd b had.here (ap (λ (t : Qtd). qtd_link_of t.alternate) (sym had.after.is) ∙ to);
}

-- ---- where the front stands once a qTD is done

abbrev front_at : (ℕ → ℕ) → ℕ → QtdLink → ℕ
front_at order a qtd_links.End = order a + 1
front_at order a (qtd_links.To b) = order b

front_to : (order : ℕ → ℕ) (a b : ℕ) (l : QtdLink) → l ≡ qtd_links.To b → front_at order a l ≡ order b
front_to order a b l is = ap (front_at order a) is

front_past : (order : ℕ → ℕ) (a : ℕ) (l : QtdLink) → ((b : ℕ) → l ≡ qtd_links.To b → order a < order b) → order a < front_at order a l
front_past order a qtd_links.End rises = omega arith
front_past order a (qtd_links.To b) rises = rises b refl

-- and no further than its links lead
front_within : (order : ℕ → ℕ) (a top : ℕ) (l : QtdLink) → order a < top → ((b : ℕ) → l ≡ qtd_links.To b → order b ≤ top) → front_at order a l ≤ top
front_within order a top qtd_links.End below leads = omega (arith, below)
front_within order a top (qtd_links.To b) below leads = leads b refl

-- ---- the events

module _ (parts now : StructureSets) (order : ℕ → ℕ) (front : ℕ) (out : List ℕ) (n : ℕ) (rise : LinksRise order (parts n)) (k : HasFront order front out n (parts n)) (alters : Alters (parts n) (now n)) where
  -- what is published yet is fresh still
  fresh_now : (a : ℕ) (u : Qtd) → IsAmong a out → now n a ≡ Some (Element u) → u.token.active ≡ true → IsFresh (now n) u
  fresh_now a u among here on =
      let had : HadElement (parts n) a u = alters.element_before a u here in
      let same : u ≡ had.qtd = still_active had.qtd u had.after on in
      ap (λ (x : Qtd). x.token.total) same ∙ k.fresh a had.qtd among had.here (ap (λ (x : Qtd). x.token.active) (sym same) ∙ on)
      ∙ sym (length_still (parts n) (now n) (buffer_name had.qtd) alters) ∙ ap (λ (x : Qtd). length (buffer_of (now n) x)) (sym same)

  same_front : now n ≡ parts n → FrontGoesOn order front out n parts now
  same_front is = record {
    front_now = front;
    goes_on = omega arith;
    has = subst (HasFront order front out n) (sym is) k;
    still = λ a old. subst (λ (part : Structures). IsBehind order front part a) (sym is) old;
    passed = λ a old. subst (λ (part : Structures). IsPassed order front part a) (sym is) old;
    tail = λ c within old. subst (HasTail order c front n) (sym is) old;
  }

  -- ---- a qTD is taken

  advanced_front : Advances n (parts n) (now n) → FrontGoesOn order front out n parts now
  advanced_front t =
      let from : front ≤ order t.element = (k.queue t.queue t.here).rest t.element t.goes_on t.idle t.leads in
      let later_one : (a : ℕ) → IsBehind order front (parts n) a → IsBehind order (order t.element) (now n) a = λ a old. behind_later order front (order t.element) (parts n) (now n) a from (λ u here off. t.still a u here) old in
      record {
        front_now = order t.element;
        goes_on = from;
        has = record {
          queue = λ q here. subst (IsFront order (order t.element)) (found_queue (now n n) t.new q t.head_now here) (record { work = λ on. ap order t.current; rest = λ b off idle to. absurd (true≢false (sym t.works ∙ idle)) });
          behind = λ a u among found off. later_one a (k.behind a u among (t.before a u found) off);
          fresh = fresh_now;
          passes = λ a b e v u among also here there over. k.passes a b e v u among also (t.before a v here) (t.before e u there) over;
        };
        still = later_one;
        passed = λ a old. passed_later order front (order t.element) (parts n) (now n) a from (t.still a) old;
        tail = λ c within old. record {
          most = old.rest t.queue t.element t.here t.goes_on t.idle t.leads;
          rest = λ q b here off idle to. absurd (true≢false (sym t.works ∙ ap (λ (r : Qh). r.token.active) (found_queue (now n n) t.new q t.head_now here) ∙ idle));
        };
      }

  -- ---- a transaction is written back

  module _ (s : Settles n (parts n) (now n)) where
    at_front : order s.queue.current ≡ front
    at_front = (k.queue s.queue s.here).work s.works

    done_still : (a : ℕ) (u : Qtd) → parts n a ≡ Some (Element u) → u.token.active ≡ false → now n a ≡ Some (Element u)
    done_still a u there off =
        s.still a u there (λ same. true≢false (sym s.published ∙ ap (λ (t : Qtd). t.token.active) (found_element (parts n a) s.element u (ap (parts n) same ∙ s.there) there) ∙ off))

    -- what stands before the front isn't worked on
    not_passed : (a : ℕ) → order a < front → a ≢ s.queue.current
    not_passed a less same = let at = ap order same in omega (arith, less, at, at_front)

    -- it works on
    works_on : s.new.token.active ≡ true → FrontGoesOn order front out n parts now
    works_on on =
        let later_one : (a : ℕ) → IsBehind order front (parts n) a → IsBehind order front (now n) a = λ a old. behind_later order front front (parts n) (now n) a (omega arith) (done_still a) old in
        let at_work : IsFront order front s.new = record { work = λ active. ap order s.current ∙ at_front; rest = λ b off idle to. absurd (true≢false (sym on ∙ idle)) } in
        let same_one : now n s.queue.current ≡ Some (Element s.element) = s.written ∙ ap (λ (b : Bool). Some (Element (if b then s.element else record s.element { token = s.new.token }))) on in
        record {
          front_now = front;
          goes_on = omega arith;
          has = record {
            queue = λ q found. subst (IsFront order front) (found_queue (now n n) s.new q s.head_now found) at_work;
            behind = λ a u among found off.
                ⊎_elim (λ (same : a ≡ s.queue.current). absurd (true≢false (sym s.published ∙ ap (λ (t : Qtd). t.token.active) (found_element (now n s.queue.current) s.element u same_one (ap (now n) (sym same) ∙ found)) ∙ off)))
                (λ (differs : a ≢ s.queue.current). later_one a (k.behind a u among (s.before a u found differs) off)) (cases_eq a s.queue.current);
            fresh = fresh_now;
            passes = λ a b e v u among also found there over.
                let first : a ≢ s.queue.current = λ same. true≢false (sym s.published ∙ ap (λ (t : Qtd). t.token.active) (found_element (now n s.queue.current) s.element v same_one (ap (now n) (sym same) ∙ found)) ∙ over.done) in
                ⊎_elim (λ (same : e ≡ s.queue.current). ap (λ (t : Qtd). t.token.active) (found_element (now n s.queue.current) u s.element (ap (now n) (sym same) ∙ there) same_one) ∙ s.published)
                (λ (differs : e ≢ s.queue.current). k.passes a b e v u among also (s.before a v found first) (s.before e u there differs) over) (cases_eq e s.queue.current);
          };
          still = later_one;
          passed = λ a old. passed_later order front front (parts n) (now n) a (omega arith) (λ t there. s.still a t there (not_passed a old.before)) old;
          tail = λ c within old. record {
            most = old.most;
            rest = λ q b found rests idle to. absurd (true≢false (sym on ∙ ap (λ (r : Qh). r.token.active) (found_queue (now n n) s.new q s.head_now found) ∙ idle));
          };
        }

    -- what it passes over is published, for all that is done stood before it
    waits_yet : (e : ℕ) (u : Qtd) → IsAmong e out → parts n e ≡ Some (Element u) → front ≤ order e → u.token.active ≡ true
    waits_yet e u among there from = by_test u.token.active refl
      where
        by_test : (c : Bool) → u.token.active ≡ c → u.token.active ≡ true
        by_test true on = on
        by_test false over = absurd (let less = (k.behind e u among there over).before in omega (arith, less, from))

    passes_on : (a b e : ℕ) (v u : Qtd) → IsAmong a out → IsAmong e out → now n a ≡ Some (Element v) → now n e ≡ Some (Element u) → Passes order a b v e → u.token.active ≡ true
    passes_on a b e v u among also found there over =
        ⊎_elim (λ (first : a ≡ s.queue.current).
        let after = over.after in
        let at = ap order first in
        let differs : e ≢ s.queue.current = λ same. let other = ap order same in omega (arith, after, at, other) in
        waits_yet e u also (s.before e u there differs) (omega (arith, after, at, at_front)))
        (λ (not_first : a ≢ s.queue.current).
        let old : parts n a ≡ Some (Element v) = s.before a v found not_first in
        let behind = k.behind a v among old over.done in
        let most : order b ≤ front = behind.leads b (ap (λ (t : Qtd). t.token.halted) (found_element (parts n a) behind.qtd v behind.here old) ∙ over.goes_on) (ap (λ (t : Qtd). qtd_link_of (own_pointer t)) (found_element (parts n a) behind.qtd v behind.here old) ∙ over.leads) in
        let less = over.before in
        let differs : e ≢ s.queue.current = λ same. let other = ap order same in omega (arith, less, most, other, at_front) in
        k.passes a b e v u among also old (s.before e u there differs) over) (cases_eq a s.queue.current)

    -- the qTD is done
    ends : s.new.token.active ≡ false → FrontGoesOn order front out n parts now
    ends off =
        let ended : Qtd = record s.element { token = s.new.token } in
        let pointer : next_pointer s.new ≡ own_pointer ended = same_pointer s.new ended s.next s.alternate refl in
        let link : QtdLink = qtd_link_of (next_pointer s.new) in
        let to : ℕ = front_at order s.queue.current link in
        let past : order s.queue.current < to = front_past order s.queue.current link
        (λ b leads. pointer_rises order (parts n) s.queue.current s.element (not (s.new.token.total == 0) && not s.element.alternate.t) b rise s.there (sym (ap qtd_link_of pointer) ∙ leads)) in
        let grows : front ≤ to = omega (arith, past, at_front) in
        let later_one : (a : ℕ) → IsBehind order front (parts n) a → IsBehind order to (now n) a = λ a old. behind_later order front to (parts n) (now n) a grows (done_still a) old in
        let at_rest : IsFront order to s.new = record {
          work = λ on. absurd (true≢false (sym on ∙ off));
          rest = λ b goes_on rests leads. let e = front_to order s.queue.current b link leads in omega (arith, e);
        } in
        let this_one : IsBehind order to (now n) s.queue.current = record {
          qtd = ended;
          here = s.written ∙ ap (λ (b : Bool). Some (Element (if b then s.element else record s.element { token = s.new.token }))) off;
          done = off;
          before = past;
          leads = λ b goes_on leads. let e = front_to order s.queue.current b link (ap qtd_link_of pointer ∙ leads) in omega (arith, e);
        } in
        record {
          front_now = to;
          goes_on = grows;
          has = record {
            queue = λ q found. subst (IsFront order to) (found_queue (now n n) s.new q s.head_now found) at_rest;
            behind = λ a u among found over.
                ⊎_elim (λ (same : a ≡ s.queue.current). subst (IsBehind order to (now n)) (sym same) this_one)
                (λ (differs : a ≢ s.queue.current). later_one a (k.behind a u among (s.before a u found differs) over)) (cases_eq a s.queue.current);
            fresh = fresh_now;
            passes = passes_on;
          };
          still = later_one;
          passed = λ a old. passed_later order front to (parts n) (now n) a grows (λ t there. s.still a t there (not_passed a old.before)) old;
          tail = λ c within old.
              let most = old.most in
              let reached : order s.queue.current ≤ order c = omega (arith, most, at_front) in
              let leads_within : (b : ℕ) → link ≡ qtd_links.To b → order b ≤ order c = λ b leads.
              pointer_within order c (parts n) s.queue.current s.element (not (s.new.token.total == 0) && not s.element.alternate.t) b within s.there s.published reached (sym (ap qtd_link_of pointer) ∙ leads) in
              record {
                most = front_within order s.queue.current (order c) link (within.below s.queue.current s.element s.there s.published reached) leads_within;
                rest = λ q b found rests is_idle leads. leads_within b (ap (λ (r : Qh). qtd_link_of (next_pointer r)) (found_queue (now n n) s.new q s.head_now found) ∙ leads);
              };
        }

    settled_front : (b : Bool) → s.new.token.active ≡ b → FrontGoesOn order front out n parts now
    settled_front true on = works_on on
    settled_front false off = ends off

  pub front_by : QueueEvent n (parts n) (now n) → FrontGoesOn order front out n parts now
  front_by (stays same) = same_front same
  front_by (advances t) = advanced_front t
  front_by (settles s) = settled_front s s.new.token.active refl
