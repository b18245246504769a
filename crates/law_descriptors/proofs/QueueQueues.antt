-- An event of the ring's walk over both is one over the queues' structures.
use Rattle.std.proofs.Common.{◌≡◌, ◌≢◌, ℕ, Bool, true, false, List, Some, if◌then◌else◌, ap, refl, sym, subst, ◌∙◌, ⊎_elim}
use Rattle.std.proofs.lemmas.Bool.{cases_eq, true≢false}
use Rattle.usb_base.specs.declared.packets.Ask.{Ask}
use Rattle.usb_base.specs.declared.packets.Reply.{Reply}
use Rattle.mem_bytes.specs.Bytes.{place}
use Rattle.qh_qtd.specs.declared.qtd.Qtd.{Qtd}
use Rattle.qh_qtd.specs.declared.queue_head.Qh.{Qh}
use Rattle.hc_copy.specs.Overlay.{advanced, moved}
use Rattle.hc_copy.specs.WriteBack.{moved_by}
use Rattle.async_walk.specs.declared.state.WalkStep.{WalkStep}
use Rattle.async_walk.specs.Naks.{planned}
use Rattle.async_walk.specs.Rows.{WalkPlace}
use Rattle.claims_driver.specs.Owners.{Views}
use Rattle.law_structures.specs.lent_structures.Structures.{Structure, QueueHead, Element, Buffer, Structures, StructureSets, with_structure, put}
use Rattle.law_structures.specs.lent_structures.Changes.{relinked, overwritten}
use Rattle.law_structures.proofs.lemmas.lent_structures.Names.{put_here, put_beside}
use Rattle.law_structures.specs.lent_structures.WriteBack.{Received, Nothing, Into, IsReceived, received_parts, qtd_after, parts_back}
use Rattle.law_ring.specs.Hand.{Copy, Settlement, settled_queue_of, Hand, Copied, Settled}
use Rattle.claims_base.specs.Controller.{Base}
use Rattle.law_ring.specs.Ring.{IsCopied, IsSettled, IsInHand, IsRing}
use Rattle.law_ring.specs.Effects.{AreSent, received_into, Effect, reads, passes, ends, takes, makes, writes_back}
use Rattle.law_descriptors.specs.Described.{AreDescribed}
use Rattle.law_descriptors.specs.Both.{owns, both, parts_now}
use Rattle.law_descriptors.proofs.Standing.{both_off}
use Rattle.law_descriptors.proofs.Rings.{other_off}
use Rattle.law_descriptors.proofs.Events.{back_beside}
use Rattle.law_descriptors.specs.QueueLaws.{EffectIsOfQueues}

-- ---- one owner

-- what is put for an owner depends on what it had
put_alike : (one other : StructureSets) (n a : ℕ) (s : Structure) → one n ≡ other n → put one n a s n ≡ put other n a s n
put_alike one other n a s same = put_here one n a s ∙ ap (λ (part : Structures). with_structure part a s) same ∙ sym (put_here other n a s)

received_alike : (one other : StructureSets) (n : ℕ) (got : List ℕ) (r : Received) → one n ≡ other n → received_parts one n got r n ≡ received_parts other n got r n
received_alike one other n got Nothing same = same
received_alike one other n got (Into pages k bs j) same = put_alike one other n (place pages k) (Buffer pages k (overwritten bs j got)) same

back_alike : (one other : StructureSets) (n a : ℕ) (q c : Qh) (count : ℕ) (got : List ℕ) (r : Received) (t : Qtd) → one n ≡ other n → parts_back one n a q c count got r t n ≡ parts_back other n a q c count got r t n
back_alike one other n a q c count got r t same =
    let first = received_parts one n got r in
    let second = received_parts other n got r in
    let head = QueueHead (relinked q (moved c count)) in
    put_alike (put first n a head) (put second n a head) n c.current (Element (qtd_after (moved c count) t)) (put_alike first second n a head (received_alike one other n got r same))

module _ (v : Views) (descs parts : StructureSets) (k : AreDescribed v descs) where
  off_now : (now : StructureSets) (n : ℕ) → owns descs n ≡ false → parts_now descs parts now n ≡ now n
  off_now now n off = ap (λ (b : Bool). if b then parts n else now n) off

  on_now : (now : StructureSets) (n : ℕ) → owns descs n ≡ true → parts_now descs parts now n ≡ parts n
  on_now now n on = ap (λ (b : Bool). if b then parts n else now n) on

  -- nothing changes
  pub parts_same : (now : StructureSets) → now ≡ both descs parts → parts_now descs parts now ≡ parts
  parts_same now same = λ i n. at n (owns descs n) refl i
    where
      at : (n : ℕ) (b : Bool) → owns descs n ≡ b → parts_now descs parts now n ≡ parts n
      at n true on = on_now now n on
      at n false off = off_now now n off ∙ ap (λ (x : StructureSets). x n) same ∙ both_off descs parts n off

  -- one owner of the queues changes
  parts_changed : (now other : StructureSets) (at : ℕ) → owns descs at ≡ false → ((n : ℕ) → n ≢ at → now n ≡ both descs parts n) → ((n : ℕ) → n ≢ at → other n ≡ parts n) → now at ≡ other at → parts_now descs parts now ≡ other
  parts_changed now other at off beside rest there = λ i n. by n (owns descs n) refl i
    where
      off_on : (n : ℕ) → owns descs n ≡ true → n ≢ at
      off_on n on same = true≢false (sym on ∙ ap (owns descs) same ∙ off)

      by : (n : ℕ) (b : Bool) → owns descs n ≡ b → parts_now descs parts now n ≡ other n
      by n true on = on_now now n on ∙ sym (rest n (off_on n on))
      by n false none =
          off_now now n none
          ∙ ⊎_elim (λ (same : n ≡ at). ap now same ∙ there ∙ ap other (sym same)) (λ (differs : n ≢ at). beside n differs ∙ both_off descs parts n none ∙ sym (rest n differs)) (cases_eq n at)

  -- a queue head is of the queues
  head_off : (n : ℕ) (q : Qh) → both descs parts n n ≡ Some (QueueHead q) → owns descs n ≡ false
  head_off n q here = other_off v descs parts n (QueueHead q) k refl here

  there : (n a : ℕ) (s : Structure) → owns descs n ≡ false → both descs parts n a ≡ Some s → parts n a ≡ Some s
  there n a s off here = ap (λ (part : Structures). part a) (sym (both_off descs parts n off)) ∙ here

  module _ {W : Type 0} (transacts : W → Ask → List ℕ → Reply → W → Type 0) (base : Base) (member : ℕ → Bool) (hand : Hand) (p : WalkPlace) (ring : IsRing base member (both descs parts) hand p) where
    copied_off : (c : Copy) → hand ≡ Copied c → owns descs c.at ≡ false
    copied_off c is = let copy : IsCopied member (both descs parts) c = subst (IsInHand member (both descs parts) p.walk.reply) is ring.in_hand in head_off c.at c.queue copy.here

    settled_off : (c : Copy) (s : Settlement) → hand ≡ Settled c s → owns descs c.at ≡ false
    settled_off c s is =
        let copy : IsCopied member (both descs parts) c × IsSettled c.queue p.walk.reply s = subst (IsInHand member (both descs parts) p.walk.reply) is ring.in_hand in head_off c.at c.queue copy.0.here

    pub effect_is : (wire after : W) (now : StructureSets) (later : Hand) (kind : WalkStep) → Effect transacts (both descs parts) hand wire after now later kind → Effect transacts parts hand wire after (parts_now descs parts now) later kind
    effect_is wire after now later _ (reads r same quiet) =
        reads (record { nothing = r.nothing; copy = r.copy; here = there r.copy.at r.copy.at (QueueHead r.copy.queue) (head_off r.copy.at r.copy.queue r.here) r.here; link = r.link; in_hand = r.in_hand })
        (parts_same now same) quiet
    effect_is wire after now later _ (passes r same quiet) = passes r (parts_same now same) quiet
    effect_is wire after now later _ (ends r same quiet) = ends r (parts_same now same) quiet
    effect_is wire after now later _ (takes r quiet) =
        let n = r.copy.at in
        let off = copied_off r.copy r.in_hand in
        let new : Structure = QueueHead (advanced r.copy.queue r.element r.qtd) in
        takes
        (record {
          copy = r.copy;
          in_hand = r.in_hand;
          idle = r.idle;
          goes_on = r.goes_on;
          element = r.element;
          qtd = r.qtd;
          leads = r.leads;
          here = there n r.element (Element r.qtd) off r.here;
          published = r.published;
          now_is = ap (parts_now descs parts) r.now_is
              ∙ parts_changed (put (both descs parts) n n new) (put parts n n new) n off (λ i differs. put_beside (both descs parts) n n new i differs) (λ i differs. put_beside parts n n new i differs)
              (put_alike (both descs parts) parts n n new (both_off descs parts n off));
          later_is = r.later_is;
        }) quiet
    effect_is wire after now later _ (makes r same) =
        let off = copied_off r.copy r.in_hand in
        makes
        (record {
          copy = r.copy;
          in_hand = r.in_hand;
          works = r.works;
          out = r.out;
          sent = subst (λ (part : Structures). AreSent part r.copy.queue (planned r.copy.queue).bytes r.out)
              (both_off descs parts r.copy.at off) r.sent;
          reply = r.reply;
          made = r.made;
          later_is = r.later_is;
        }) (parts_same now same)
    effect_is wire after now later _ (writes_back r quiet) =
        let n = r.copy.at in
        let off = settled_off r.copy r.settled r.in_hand in
        let same : both descs parts n ≡ parts n = both_off descs parts n off in
        let q : Qh = settled_queue_of r.copy r.settled in
        let count : ℕ = moved_by r.settled.outcome in
        let into : Received = received_into (both descs parts n) r.copy.queue r.element r.settled.got in
        writes_back
        (record {
          copy = r.copy;
          settled = r.settled;
          in_hand = r.in_hand;
          element = r.element;
          here = there n r.copy.queue.current (Element r.element) off r.here;
          received_is = subst (λ (part : Structures). IsReceived part q r.settled.got (received_into part r.copy.queue r.element r.settled.got)) same r.received_is;
          now_is = ap (parts_now descs parts) r.now_is
              ∙ parts_changed (parts_back (both descs parts) n n r.copy.queue q count r.settled.got into r.element) (parts_back parts n n r.copy.queue q count r.settled.got into r.element) n off
              (λ i differs. back_beside (both descs parts) n n r.copy.queue q count r.settled.got into r.element i differs)
              (λ i differs. back_beside parts n n r.copy.queue q count r.settled.got into r.element i differs)
              (back_alike (both descs parts) parts n n r.copy.queue q count r.settled.got into r.element same)
              ∙ ap (λ (part : Structures). parts_back parts n n r.copy.queue q count r.settled.got (received_into part r.copy.queue r.element r.settled.got) r.element) same;
          nothing = r.nothing;
        }) quiet

pub effect_is_of_queues : {W : Type 0} (transacts : W → Ask → List ℕ → Reply → W → Type 0) → EffectIsOfQueues transacts
effect_is_of_queues transacts v descs parts base member hand p wire after now later kind k ring effect = effect_is v descs parts k transacts base member hand p ring wire after now later kind effect
