-- Where nothing is told otherwise: a queue head is read, the visit is over, or a qTD is taken.
use Rattle.std.proofs.Common.{◌≡◌, ◌≢◌, ℕ, ◌-◌, Bool, true, false, ◌&&◌, ◌==◌, if◌then◌else◌, List, length, take, Some, ap, refl, sym, subst, ◌∙◌, ⊎_elim}
use Rattle.std.proofs.lemmas.Bool.{cases_eq, eq-eqb}
use Rattle.law_ring.proofs.Common.{endpoint_kept}
use Rattle.law_common.proofs.Numbers.{other_number}
use Rattle.qh_qtd.specs.declared.qtd.Qtd.{Qtd}
use Rattle.qh_qtd.specs.declared.queue_head.Qh.{Qh}
use Rattle.hc_copy.specs.Overlay.{advanced}
use Rattle.law_structures.specs.lent_structures.Structures.{QueueHead, Element, Structures, StructureSets, with_structure}
use Rattle.law_structures.proofs.lemmas.lent_structures.Names.{put_here, put_beside, with_here, with_there}
use Rattle.law_structures.specs.lent_structures.Sound.{buffer_name}
use Rattle.law_structures.proofs.lemmas.lent_structures.Altering.{found_queue, found_element, no_two}
use Rattle.law_ring.specs.Hand.{Copy, Settlement, Hand, Empty, Copied, Settled}
use Rattle.law_ring.specs.Effects.{bytes_in, buffer_of, taken, Takes}
use Rattle.law_ring.specs.Told.{left_of, told_bytes, hand_bytes, Told, hand_toggle, HasToggle, Endpoint, endpoint_of, HasEndpoint, SameTold}

-- ---- a hand without a transaction

abbrev pub IsUnsettled : Hand → Type 0
IsUnsettled hand = (c : Copy) (z : Settlement) → hand ≢ Settled c z

pub unsettled_bytes : (hand : Hand) (n : ℕ) (q : Qh) (e : ℕ) (t : Qtd) (bs : List ℕ) → IsUnsettled hand → hand_bytes hand n q e t bs ≡ told_bytes q e t bs
unsettled_bytes (Settled c z) n q e t bs un = absurd (un c z refl)
unsettled_bytes _ n q e t bs un = refl

pub unsettled_toggle : (hand : Hand) (n : ℕ) (q : Qh) → IsUnsettled hand → hand_toggle hand n q ≡ q.token.toggle
unsettled_toggle (Settled c z) n q un = absurd (un c z refl)
unsettled_toggle _ n q un = refl

pub empty_unsettled : (hand : Hand) → hand ≡ Empty → IsUnsettled hand
empty_unsettled hand is c z e = other (sym is ∙ e)
  where
    other : Empty ≡ Settled c z → ⊥
    other e = cc

pub copied_unsettled : (hand : Hand) (d : Copy) → hand ≡ Copied d → IsUnsettled hand
copied_unsettled hand d is c z e = other (sym is ∙ e)
  where
    other : Copied d ≡ Settled c z → ⊥
    other e = cc

-- ---- the structures of an owner stay

pub bytes_kept : (hand later : Hand) (parts now : StructureSets) (n e : ℕ) (xs : List ℕ) → now n ≡ parts n → ((q : Qh) (t : Qtd) (bs : List ℕ) → hand_bytes later n q e t bs ≡ hand_bytes hand n q e t bs) → Told hand parts n e xs → Told later now n e xs
bytes_kept hand later parts now n e xs same hands told = record {
  queue = told.queue;
  head = ap (λ (part : Structures). part n) same ∙ told.head;
  qtd = told.qtd;
  here = ap (λ (part : Structures). part e) same ∙ told.here;
  are = told.are ∙ sym (hands told.queue told.qtd (buffer_of (parts n) told.qtd)) ∙ ap (λ (part : Structures). hand_bytes later n told.queue e told.qtd (buffer_of part told.qtd)) (sym same);
}

pub toggle_kept : (hand later : Hand) (parts now : StructureSets) (n : ℕ) (b : Bool) → now n ≡ parts n → ((q : Qh) → hand_toggle later n q ≡ hand_toggle hand n q) → HasToggle hand parts n b → HasToggle later now n b
toggle_kept hand later parts now n b same hands has = record {
  queue = has.queue;
  head = ap (λ (part : Structures). part n) same ∙ has.head;
  own = has.own;
  is = has.is ∙ sym (hands has.queue);
}

-- neither hand has a transaction, and all structures stay
pub same_kept : (hand later : Hand) (parts now : StructureSets) → now ≡ parts → IsUnsettled hand → IsUnsettled later → SameTold hand parts later now
same_kept hand later parts now same before after = record {
  bytes = λ n e xs told. bytes_kept hand later parts now n e xs (ap (λ (ps : StructureSets). ps n) same) (λ q t bs. unsettled_bytes later n q e t bs after ∙ sym (unsettled_bytes hand n q e t bs before)) told;
  toggle = λ n b has. toggle_kept hand later parts now n b (ap (λ (ps : StructureSets). ps n) same) (λ q. unsettled_toggle later n q after ∙ sym (unsettled_toggle hand n q before)) has;
  endpoint = λ n x has. endpoint_kept parts now n x (ap (λ (ps : StructureSets). ps n) same) has;
}

-- ---- a qTD is taken

-- a part's bytes stay where a queue head is put in the place of one
pub bytes_beside_head : (part : Structures) (a : ℕ) (q new : Qh) (b : ℕ) → part a ≡ Some (QueueHead q) → bytes_in (with_structure part a (QueueHead new) b) ≡ bytes_in (part b)
bytes_beside_head part a q new b here =
    ⊎_elim (λ (same : b ≡ a). ap bytes_in (ap (with_structure part a (QueueHead new)) same ∙ with_here part a (QueueHead new)) ∙ sym (ap bytes_in (ap part same ∙ here)))
    (λ (differs : b ≢ a). ap bytes_in (with_there part a (QueueHead new) b differs)) (cases_eq b a)

-- what an advance leaves of a queue head
record IsAdvanced (q : Qh) (a : ℕ) (t : Qtd) (new : Qh) : Type 0 where
  active : new.token.active ≡ t.token.active
  current : new.current ≡ a
  total : new.token.total ≡ t.token.total
  toggle : new.token.toggle ≡ (if q.dtc then t.token.toggle else q.token.toggle)
  endpoint : endpoint_of new ≡ endpoint_of q

is_advanced : (q : Qh) (a : ℕ) (t : Qtd) → IsAdvanced q a t (advanced q a t)
unfolding advanced
is_advanced q a t = record { active = refl; current = refl; total = refl; toggle = refl; endpoint = refl }

pub left_idle : (q : Qh) (e : ℕ) (t : Qtd) → q.token.active ≡ false → left_of q e t ≡ t.token.total
left_idle q e t idle = ap (λ (b : Bool). if b && q.current == e then q.token.total else t.token.total) idle

pub left_on : (q : Qh) (e : ℕ) (t : Qtd) → q.token.active ≡ true → left_of q e t ≡ (if q.current == e then q.token.total else t.token.total)
left_on q e t on = ap (λ (b : Bool). if b && q.current == e then q.token.total else t.token.total) on

-- the qTD taken has as many left as the overlay, and another one as many as before
left_taken : (part : Structures) (q : Qh) (a : ℕ) (t : Qtd) (e : ℕ) (u : Qtd) → part a ≡ Some (Element t) → part e ≡ Some (Element u) → t.token.active ≡ true → left_of (advanced q a t) e u ≡ u.token.total
left_taken part q a t e u taken here on =
    let v = is_advanced q a t in
    left_on (advanced q a t) e u (v.active ∙ on)
    ∙ ap (λ (x : ℕ). if x == e then (advanced q a t).token.total else u.token.total) v.current
    ∙ ⊎_elim (λ (same : a ≡ e). ap (λ (b : Bool). if b then (advanced q a t).token.total else u.token.total) (eq-eqb a e same) ∙ v.total ∙ ap (λ (x : Qtd). x.token.total) (found_element (part e) t u (ap part (sym same) ∙ taken) here))
    (λ (differs : a ≢ e). ap (λ (b : Bool). if b then (advanced q a t).token.total else u.token.total) (other_number a e differs)) (cases_eq a e)

-- what a taking knows
module _ (parts : StructureSets) (hand : Hand) (now : StructureSets) (later : Hand) (k : Takes parts hand now later) where
  at_is : now k.copy.at ≡ with_structure (parts k.copy.at) k.copy.at (QueueHead (advanced k.copy.queue k.element k.qtd))
  at_is = ap (λ (ps : StructureSets). ps k.copy.at) k.now_is ∙ put_here parts k.copy.at k.copy.at (QueueHead (advanced k.copy.queue k.element k.qtd))

  beside : (n : ℕ) → n ≢ k.copy.at → now n ≡ parts n
  beside n differs = ap (λ (ps : StructureSets). ps n) k.now_is ∙ put_beside parts k.copy.at k.copy.at (QueueHead (advanced k.copy.queue k.element k.qtd)) n differs

  head_now : now k.copy.at k.copy.at ≡ Some (QueueHead (advanced k.copy.queue k.element k.qtd))
  head_now = ap (λ (part : Structures). part k.copy.at) at_is ∙ with_here (parts k.copy.at) k.copy.at (QueueHead (advanced k.copy.queue k.element k.qtd))

  before : IsUnsettled hand
  before = copied_unsettled hand k.copy k.in_hand

  after : IsUnsettled later
  after = copied_unsettled later (taken k.copy k.element k.qtd) k.later_is

  bytes_at_owner : (here : parts k.copy.at k.copy.at ≡ Some (QueueHead k.copy.queue)) (e : ℕ) (xs : List ℕ) → Told hand parts k.copy.at e xs → Told later now k.copy.at e xs
  bytes_at_owner here e xs told =
      let q : Qh = advanced k.copy.queue k.element k.qtd in
      let same : told.queue ≡ k.copy.queue = found_queue (parts k.copy.at k.copy.at) told.queue k.copy.queue told.head here in
      let buffer : buffer_of (now k.copy.at) told.qtd ≡ buffer_of (parts k.copy.at) told.qtd =
      ap (λ (part : Structures). buffer_of part told.qtd) at_is ∙ bytes_beside_head (parts k.copy.at) k.copy.at k.copy.queue q (buffer_name told.qtd) here in
      let bs : List ℕ = buffer_of (parts k.copy.at) told.qtd in
      let left : left_of q e told.qtd ≡ left_of told.queue e told.qtd =
      left_taken (parts k.copy.at) k.copy.queue k.element k.qtd e told.qtd k.here told.here k.published
      ∙ sym (left_idle told.queue e told.qtd (ap (λ (x : Qh). x.token.active) same ∙ k.idle)) in
      record {
        queue = q;
        head = head_now;
        qtd = told.qtd;
        here = ap (λ (part : Structures). part e) at_is
            ∙ with_there (parts k.copy.at) k.copy.at (QueueHead q) e (no_two (parts k.copy.at) e k.copy.at (Element told.qtd) (QueueHead k.copy.queue) told.here here (λ z. cc)) ∙ told.here;
        are = told.are ∙ unsettled_bytes hand k.copy.at told.queue e told.qtd bs before ∙ ap (λ (i : ℕ). take (length bs - i) bs) (sym left)
            ∙ ap (λ (ys : List ℕ). told_bytes q e told.qtd ys) (sym buffer) ∙ sym (unsettled_bytes later k.copy.at q e told.qtd (buffer_of (now k.copy.at) told.qtd) after);
      }

  toggle_at_owner : (here : parts k.copy.at k.copy.at ≡ Some (QueueHead k.copy.queue)) (b : Bool) → HasToggle hand parts k.copy.at b → HasToggle later now k.copy.at b
  toggle_at_owner here b has =
      let q : Qh = advanced k.copy.queue k.element k.qtd in
      let same : has.queue ≡ k.copy.queue = found_queue (parts k.copy.at k.copy.at) has.queue k.copy.queue has.head here in
      let v = is_advanced k.copy.queue k.element k.qtd in
      let own : k.copy.queue.dtc ≡ false = ap (λ (x : Qh). x.dtc) (sym same) ∙ has.own in
      record {
        queue = q;
        head = head_now;
        own = ap (λ (x : Endpoint). x.dtc) v.endpoint ∙ own;
        is = has.is ∙ unsettled_toggle hand k.copy.at has.queue before ∙ ap (λ (x : Qh). x.token.toggle) same
            ∙ sym (v.toggle ∙ ap (λ (d : Bool). if d then k.qtd.token.toggle else k.copy.queue.token.toggle) own) ∙ sym (unsettled_toggle later k.copy.at q after);
      }

  endpoint_at_owner : (here : parts k.copy.at k.copy.at ≡ Some (QueueHead k.copy.queue)) (x : Endpoint) → HasEndpoint parts k.copy.at x → HasEndpoint now k.copy.at x
  endpoint_at_owner here x has =
      let same : has.queue ≡ k.copy.queue = found_queue (parts k.copy.at k.copy.at) has.queue k.copy.queue has.head here in
      record {
        queue = advanced k.copy.queue k.element k.qtd;
        head = head_now;
        is = has.is ∙ ap endpoint_of same ∙ sym (is_advanced k.copy.queue k.element k.qtd).endpoint;
      }

  pub taking_tells_the_same : parts k.copy.at k.copy.at ≡ Some (QueueHead k.copy.queue) → SameTold hand parts later now
  taking_tells_the_same here = record {
    bytes = λ n e xs.
        ⊎_elim {C = Told hand parts n e xs → Told later now n e xs} (λ (same : n ≡ k.copy.at). subst (λ (i : ℕ). Told hand parts i e xs → Told later now i e xs) (sym same) (bytes_at_owner here e xs))
        (λ (differs : n ≢ k.copy.at). bytes_kept hand later parts now n e xs (beside n differs) (λ q t bs. unsettled_bytes later n q e t bs after ∙ sym (unsettled_bytes hand n q e t bs before))) (cases_eq n k.copy.at);
    toggle = λ n b.
        ⊎_elim {C = HasToggle hand parts n b → HasToggle later now n b} (λ (same : n ≡ k.copy.at). subst (λ (i : ℕ). HasToggle hand parts i b → HasToggle later now i b) (sym same) (toggle_at_owner here b))
        (λ (differs : n ≢ k.copy.at). toggle_kept hand later parts now n b (beside n differs) (λ q. unsettled_toggle later n q after ∙ sym (unsettled_toggle hand n q before))) (cases_eq n k.copy.at);
    endpoint = λ n x.
        ⊎_elim {C = HasEndpoint parts n x → HasEndpoint now n x} (λ (same : n ≡ k.copy.at). subst (λ (i : ℕ). HasEndpoint parts i x → HasEndpoint now i x) (sym same) (endpoint_at_owner here x))
        (λ (differs : n ≢ k.copy.at). endpoint_kept parts now n x (beside n differs)) (cases_eq n k.copy.at);
  }
