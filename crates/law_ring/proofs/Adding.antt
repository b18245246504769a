-- Each event adds to the end of what was moved of the published qTDs.
use Rattle.std.proofs.Common.{◌≡◌, ◌≢◌, ℕ, ◌+◌, ◌≤◌, ◌==◌, ◌&&◌, not, Bool, true, if◌then◌else◌, List, [], ◌∷◌, ◌++◌, Some, ap, refl, sym, subst, ◌∙◌, ⊎_elim, inl, inr, arith}
use Rattle.std.proofs.lemmas.Bool.{cases_eq, eq-eqb}
use Rattle.std.proofs.lemmas.List.{append_assoc, append-nil}
use Rattle.law_ring.proofs.Common.{through_head, through_bytes}
use Rattle.law_common.proofs.Numbers.{other_number}
use Rattle.usb_base.specs.declared.packets.Ask.{Ask}
use Rattle.usb_base.specs.declared.packets.Reply.{Reply}
use Rattle.link_words.specs.Links.{qtd_link_of}
use Rattle.qh_qtd.specs.declared.qtd.Qtd.{Qtd}
use Rattle.qh_qtd.specs.declared.queue_head.Qh.{Qh}
use Rattle.hc_copy.specs.Overlay.{advanced, moved}
use Rattle.hc_copy.specs.WriteBack.{moved_by}
use Rattle.async_walk.specs.declared.state.WalkStep.{WalkStep}
use Rattle.law_structures.specs.lent_structures.Changes.{relinked}
use Rattle.law_structures.specs.lent_structures.Structures.{QueueHead, Element, Structures, StructureSets, put}
use Rattle.law_structures.proofs.lemmas.lent_structures.Names.{put_same, put_beside, put_found}
use Rattle.law_structures.specs.lent_structures.WriteBack.{Received, received_parts, qtd_after}
use Rattle.law_structures.specs.lent_structures.Sound.{IsWorking, IsSoundQueue}
use Rattle.law_structures.specs.lent_structures.Alters.{HadElement, Alters}
use Rattle.law_structures.proofs.lemmas.lent_structures.Altering.{found_queue}
use Rattle.law_structures.proofs.lemmas.lent_structures.Members.{still_active}
use Rattle.law_ring.specs.Hand.{Copy, Settlement, settled_queue_of, Hand}
use Rattle.law_ring.specs.Ring.{IsCopied, IsSettled, IsInHand}
use Rattle.law_ring.specs.Effects.{received_into, buffer_of, Takes, WritesBack, Effect, Asks, came_to}
use Rattle.law_ring.specs.QueueParts.{IsQueuePart}
use Rattle.law_ring.specs.Effects.Effect.{reads, passes, ends, takes, makes, writes_back}
use Rattle.law_ring.proofs.Writing.{IsWritten}
use Rattle.law_ring.proofs.Written.{WritesCopy, head_now, beside, ring_writes}
use Rattle.law_ring.specs.Told.{Told, SameTold}
use Rattle.law_ring.specs.Streams.{AreMembers, moved_bytes, Grows, StreamEffect}
use Rattle.law_ring.specs.Streams.StreamEffect.{same, aside, grows}
use Rattle.law_ring.proofs.Altered.{effect_alters}
use Rattle.law_ring.specs.Order.{IsPlaced, IsOrdered, AreAfter, IsSorted, IsAmong, AllTold, none_out, one_out, Accounts, bytes_of_effect, GoesOnInOrder}
use Rattle.law_ring.proofs.Ordering.{ordered_still, pointer_placed, fresh_none}

-- ---- the bytes of all

told_still : (hand later : Hand) (parts now : StructureSets) (n : ℕ) (out xs : List ℕ) → ((e : ℕ) (x : List ℕ) → IsAmong e out → Told hand parts n e x → Told later now n e x) → AllTold hand parts n out xs → AllTold later now n out xs
told_still hand later parts now n out xs still none_out = none_out
told_still hand later parts now n out xs still (one_out e es x ys first rest) = one_out e es x ys (still e x (inl refl) first) (told_still hand later parts now n es ys (λ b y among. still b y (inr among)) rest)

-- none of those from the place on has any
none_told : (order : ℕ → ℕ) (place n : ℕ) (hand : Hand) (parts : StructureSets) (e : ℕ) (es xs : List ℕ) → IsOrdered order place n (parts n) → order e + 1 ≡ place → AreAfter order e es → ((b : ℕ) (t : Qtd) → IsAmong b es → parts n b ≡ Some (Element t) → place ≤ order b → t.token.active ≡ true) → AllTold hand parts n es xs → xs ≡ []
none_told order place n hand parts e es xs k at after published none_out = refl
none_told order place n hand parts e es xs k at after published (one_out b bs x ys first rest) =
    let from : place ≤ order b = let less = after.0 in omega (arith, at, less) in
    let none : x ≡ [] = fresh_none order place n hand parts b x first.qtd k first.here (published b first.qtd (inl refl) first.here from) from first in
    ap (λ (zs : List ℕ). zs ++ ys) none ∙ none_told order place n hand parts e bs ys k at after.1 (λ c t among. published c t (inr among)) rest

-- the current one grows, and those after it have nothing
grown_told : (order : ℕ → ℕ) (place n : ℕ) (hand later : Hand) (parts : StructureSets) (e : ℕ) (more : List ℕ) (out xs : List ℕ) → IsOrdered order place n (parts n) → order e + 1 ≡ place → IsSorted order out → IsAmong e out
    → ((b : ℕ) (t : Qtd) → IsAmong b out → parts n b ≡ Some (Element t) → place ≤ order b → t.token.active ≡ true)
    → ((x : List ℕ) → Told hand parts n e x → Told later parts n e (x ++ more)) → ((b : ℕ) (x : List ℕ) → b ≢ e → Told hand parts n b x → Told later parts n b x)
    → AllTold hand parts n out xs → AllTold later parts n out (xs ++ more)
grown_told order place n hand later parts e more out xs k at sorted among published here others none_out = absurd among
grown_told order place n hand later parts e more out xs k at sorted among published here others (one_out b bs x ys first rest) =
    ⊎_elim (λ (is : b ≡ e).
    let after : AreAfter order e bs = subst (λ (i : ℕ). AreAfter order i bs) is sorted.0 in
    let none : ys ≡ [] = none_told order place n hand parts e bs ys k at after (λ c t in_it. published c t (inr in_it)) rest in
    let grown : Told later parts n b (x ++ more) = subst (λ (i : ℕ). Told later parts n i (x ++ more)) (sym is) (here x (subst (λ (i : ℕ). Told hand parts n i x) is first)) in
    let same_rest : AllTold later parts n bs ys = told_still hand later parts parts n bs ys (λ c y in_it told. others c y (λ same_one. not_after order e c bs after in_it same_one) told) rest in
    subst (AllTold later parts n (b ∷ bs)) (sums x ys more none) (one_out b bs (x ++ more) ys grown same_rest))
    (λ (differs : b ≢ e).
    let inside : IsAmong e bs = ⊎_elim (λ (is : e ≡ b). absurd (differs (sym is))) (λ (in_it : IsAmong e bs). in_it) among in
    subst (AllTold later parts n (b ∷ bs)) (sym (append_assoc x ys more))
    (one_out b bs x (ys ++ more) (others b x differs first) (grown_told order place n hand later parts e more bs ys k at sorted.1 inside (λ c t in_it. published c t (inr in_it)) here others rest))) (cases_eq b e)
  where
    not_after : (order : ℕ → ℕ) (e c : ℕ) (es : List ℕ) → AreAfter order e es → IsAmong c es → c ≡ e → ⊥
    not_after order e c [] after in_it is = in_it
    not_after order e c (d ∷ ds) after (inl same_one) is = let less = after.0 in let i = ap order (sym same_one ∙ is) in omega (arith, less, i)
    not_after order e c (d ∷ ds) after (inr in_it) is = not_after order e c ds after.1 in_it is

    sums : (x ys more : List ℕ) → ys ≡ [] → (x ++ more) ++ ys ≡ (x ++ ys) ++ more
    sums x ys more none = ap (λ (zs : List ℕ). (x ++ more) ++ zs) none ∙ append-nil (x ++ more) ∙ ap (λ (zs : List ℕ). zs ++ more) (sym (append-nil x)) ∙ ap (λ (zs : List ℕ). (x ++ zs) ++ more) (sym none)

-- ---- the queue head's place

-- where the queue head is after an event
pub record Placed (order : ℕ → ℕ) (place n : ℕ) (now : StructureSets) : Type 0 where
  pub at : ℕ
  pub goes_on : place ≤ at
  pub queue : (q : Qh) → now n n ≡ Some (QueueHead q) → IsPlaced order at q

pub same_placed : (order : ℕ → ℕ) (place n : ℕ) (parts now : StructureSets) → IsOrdered order place n (parts n) → now n ≡ parts n
    → Placed order place n now
same_placed order place n parts now k is = record
    { at = place; goes_on = omega arith; queue = λ q here. k.queue q (ap (λ (part : Structures). part n) (sym is) ∙ here) }

-- an event that alters no more than it may, leaves the queue head at a place, and no qTD from its old place on, whatever walk it is of
module _ {W : Type 0} (Beside : Ask → Type 0) (transacts : W → Ask → List ℕ → Reply → W → Type 0) (parts : StructureSets) (hand : Hand)
    (wire after : W) (now : StructureSets) (later : Hand) (order : ℕ → ℕ) (place : ℕ) (out : List ℕ) (n : ℕ)
    (alters : Alters (parts n) (now n)) (placed : IsOrdered order place n (parts n) → Placed order place n now)
    (before : IsOrdered order place n (parts n) → (a : ℕ) (u : Qtd) → now n a ≡ Some (Element u) → place ≤ order a
    → parts n a ≡ Some (Element u)) where
  -- ---- the published qTDs

  complete_still : ((a : ℕ) (t : Qtd) → parts n a ≡ Some (Element t) → t.token.active ≡ true → IsAmong a out) → (a : ℕ) (u : Qtd)
      → now n a ≡ Some (Element u) → u.token.active ≡ true → IsAmong a out
  complete_still complete a u here on =
      let had : HadElement (parts n) a u = alters.element_before a u here in
      let is : u ≡ had.qtd = still_active had.qtd u had.after on in
      complete a had.qtd had.here (ap (λ (x : Qtd). x.token.active) (sym is) ∙ on)

  -- ---- their bytes

  abbrev moved_by_it : Asks transacts parts hand wire after later → List ℕ
  moved_by_it m = moved_bytes m.copy.queue m.sent.element (came_to m) (buffer_of (parts m.copy.at) m.sent.element)

  current_grows : (xs : List ℕ) (m : Asks transacts parts hand wire after later)
      → Grows hand parts later m.copy (came_to m) m.sent.element → Accounts order place out hand parts m.copy.at xs
      → AllTold later parts m.copy.at out (xs ++ moved_by_it m)
  current_grows xs m g acc =
      let k : IsQueuePart m.copy.at (parts m.copy.at) = m.part_is in
      let same_head : k.queue ≡ m.copy.queue = found_queue (parts m.copy.at m.copy.at) k.queue m.copy.queue k.here m.here in
      let sound : IsSoundQueue (parts m.copy.at) m.copy.queue = subst (IsSoundQueue (parts m.copy.at)) same_head k.sound in
      let w : IsWorking (parts m.copy.at) m.copy.queue = sound.work m.works in
      grown_told order place m.copy.at hand later parts m.copy.queue.current (moved_by_it m) out xs acc.ordered
      ((acc.ordered.queue m.copy.queue m.here).current m.works) acc.sorted
      (acc.complete m.copy.queue.current w.element w.here w.published) acc.published g.bytes
      (λ b x differs. g.other_bytes m.copy.at b x (λ both. differs both.1)) acc.told

  none_told_more : (xs : List ℕ) → SameTold hand parts later now → Accounts order place out hand parts n xs
      → AllTold later now n out (xs ++ [])
  none_told_more xs s acc = subst (AllTold later now n out) (sym (append-nil xs))
      (told_still hand later parts now n out xs (λ e x among. s.bytes n e x) acc.told)

  told_by : (xs : List ℕ) (z : StreamEffect Beside transacts parts hand wire after now later) → Accounts order place out hand parts n xs
      → AllTold later now n out (xs ++ bytes_of_effect n z)
  told_by xs (same s quiet) acc = none_told_more xs s acc
  told_by xs (aside s ask sent reply beside made) acc = none_told_more xs s acc
  told_by xs (grows m all g) acc =
      subst (λ (ps : StructureSets). AllTold later ps n out (xs ++ (if m.copy.at == n then moved_by_it m else []))) (sym all)
      (⊎_elim (λ (is : n ≡ m.copy.at).
      subst (λ (b : Bool). AllTold later parts n out (xs ++ (if b then moved_by_it m else []))) (sym (eq-eqb m.copy.at n (sym is)))
      (subst (λ (i : ℕ). AllTold later parts i out (xs ++ moved_by_it m)) (sym is)
      (current_grows xs m g (subst (λ (i : ℕ). Accounts order place out hand parts i xs) is acc))))
      (λ (differs : n ≢ m.copy.at).
      subst (λ (b : Bool). AllTold later parts n out (xs ++ (if b then moved_by_it m else [])))
      (sym (other_number m.copy.at n (λ is. differs (sym is))))
      (subst (AllTold later parts n out) (sym (append-nil xs))
      (told_still hand later parts parts n out xs (λ e x among. g.other_bytes n e x (λ both. differs both.0)) acc.told)))
      (cases_eq n m.copy.at))

  pub goes_on_in_order : (xs : List ℕ) (z : StreamEffect Beside transacts parts hand wire after now later)
      → Accounts order place out hand parts n xs → GoesOnInOrder order out later now n xs (bytes_of_effect n z)
  goes_on_in_order xs z acc =
      let p : Placed order place n now = placed acc.ordered in
      record {
        place = p.at;
        accounts = record {
          ordered = ordered_still order place p.at n (parts n) (now n) acc.ordered alters p.goes_on p.queue;
          sorted = acc.sorted;
          published = λ a u among here from.
              let start : place ≤ order a = let on = p.goes_on in omega (arith, on, from) in
              acc.published a u among (before acc.ordered a u here start) start;
          complete = complete_still acc.complete;
          told = told_by xs z acc;
        };
      }

-- ---- a qTD is taken

taken_placed : (order : ℕ → ℕ) (place n : ℕ) (part : Structures) (q : Qh) (a : ℕ) (t : Qtd) → IsOrdered order place n part → part a ≡ Some (Element t) → IsPlaced order (order a + 1) (advanced q a t)
unfolding advanced
taken_placed order place n part q a t k here = record {
  next = λ b leads. let less = k.next a t b here leads in omega (arith, less);
  alternate = λ b leads. let less = k.alternate a t b here leads in omega (arith, less);
  current = λ on. refl;
}

module _ (parts : StructureSets) (hand : Hand) (now : StructureSets) (later : Hand) (order : ℕ → ℕ) (place n : ℕ)
    (t : Takes parts hand now later) (there : parts t.copy.at t.copy.at ≡ Some (QueueHead t.copy.queue)) where
  pub take_placed : IsOrdered order place n (parts n) → Placed order place n now
  take_placed k =
      let new : Qh = advanced t.copy.queue t.element t.qtd in
      ⊎_elim (λ (is : n ≡ t.copy.at).
      let head : parts n n ≡ Some (QueueHead t.copy.queue) = ap (λ (i : ℕ). parts i i) is ∙ there in
      let from : place ≤ order t.element = pointer_placed order place t.copy.queue (not (t.copy.queue.token.total == 0) && not t.copy.queue.alternate.t) t.element (k.queue t.copy.queue head) t.leads in
      record {
        at = order t.element + 1;
        goes_on = omega (arith, from);
        queue = λ q here.
            subst (IsPlaced order (order t.element + 1)) (found_queue (now n n) new q (ap (λ (ps : StructureSets). ps n n) t.now_is ∙ ap (λ (i : ℕ). put parts t.copy.at t.copy.at (QueueHead new) i i) is ∙ put_same parts t.copy.at t.copy.at (QueueHead new)) here)
            (taken_placed order place n (parts n) t.copy.queue t.element t.qtd k (ap (λ (i : ℕ). parts i t.element) is ∙ t.here));
      })
      (λ (differs : n ≢ t.copy.at). same_placed order place n parts now k
      (ap (λ (ps : StructureSets). ps n) t.now_is ∙ put_beside parts t.copy.at t.copy.at (QueueHead new) n differs))
      (cases_eq n t.copy.at)

  pub take_before : (a : ℕ) (u : Qtd) → now n a ≡ Some (Element u) → parts n a ≡ Some (Element u)
  take_before a u here = through_head parts t.copy.at (advanced t.copy.queue t.element t.qtd) n a u
      (sym (ap (λ (ps : StructureSets). ps n a) t.now_is) ∙ here)

-- ---- a transaction is written back: only the current qTD ends

written_placed : (order : ℕ → ℕ) (place : ℕ) (c : Copy) (z : Settlement) (new : Qh) → IsWritten c z new → c.queue.token.active ≡ true
    → IsPlaced order place c.queue → IsPlaced order place new
written_placed order place c z new v on k = record {
  next = λ b leads. k.next b (ap qtd_link_of (sym v.next) ∙ leads);
  alternate = λ b leads. k.alternate b (ap qtd_link_of (sym v.alternate) ∙ leads);
  current = λ active. ap (λ (i : ℕ). order i + 1) v.current ∙ k.current on;
}

module _ (parts : StructureSets) (hand : Hand) (now : StructureSets) (later : Hand) (c : Copy) (z : Settlement) (x : Qh)
    (w : WritesCopy parts hand now later c z x) (order : ℕ → ℕ) (place n : ℕ) where
  abbrev new : Qh
  new = relinked c.queue (moved x (moved_by z.outcome))

  pub write_placed : IsOrdered order place n (parts n) → Placed order place n now
  write_placed k =
      ⊎_elim (λ (is : n ≡ c.at).
      record {
        at = place;
        goes_on = omega arith;
        queue = λ q here.
            subst (IsPlaced order place) (found_queue (now n n) new q
            (ap (λ (i : ℕ). now i i) is ∙ head_now parts hand now later c z x w) here)
            (written_placed order place c z new w.written w.works (k.queue c.queue (ap (λ (i : ℕ). parts i i) is ∙ w.head)));
      })
      (λ (differs : n ≢ c.at). same_placed order place n parts now k (beside parts hand now later c z x w n differs)) (cases_eq n c.at)

  pub write_before : IsOrdered order place n (parts n) → (a : ℕ) (u : Qtd) → now n a ≡ Some (Element u) → place ≤ order a
      → parts n a ≡ Some (Element u)
  write_before k a u here from =
      let r : Received = received_into (parts c.at) c.queue w.element z.got in
      let first : StructureSets = received_parts parts c.at z.got r in
      let mid : StructureSets = put first c.at c.at (QueueHead new) in
      let ended : Qtd = qtd_after (moved x (moved_by z.outcome)) w.element in
      ⊎_elim (λ (is : (n ≡ c.at) × (a ≡ x.current) × (Element u ≡ Element ended)).
      let placed : IsPlaced order place c.queue = k.queue c.queue (ap (λ (i : ℕ). parts i i) is.0 ∙ w.head) in
      let last = placed.current w.works in
      let e = ap order (is.1 ∙ w.settled.current) in
      absurd (omega (arith, last, e, from)))
      (λ (before : mid n a ≡ Some (Element u)). through_bytes parts c.at z.got r n a u (through_head first c.at new n a u before))
      (put_found mid c.at x.current (Element ended) n a (Element u) (sym (ap (λ (ps : StructureSets). ps n a) w.now_is) ∙ here))

-- ---- an event of a ring's walk

module _ {W : Type 0} (transacts : W → Ask → List ℕ → Reply → W → Type 0) (member : ℕ → Bool) (parts : StructureSets) (hand : Hand)
    (reply : Reply) (wire after : W) (now : StructureSets) (later : Hand) (order : ℕ → ℕ) (place n : ℕ)
    (in_hand : IsInHand member parts reply hand) where
  there : (t : Takes parts hand now later) → parts t.copy.at t.copy.at ≡ Some (QueueHead t.copy.queue)
  there t = let copied : IsCopied member parts t.copy = subst (IsInHand member parts reply) t.in_hand in_hand in copied.here

  writes : (w : WritesBack parts hand now later) → WritesCopy parts hand now later w.copy w.settled (settled_queue_of w.copy w.settled)
  writes w =
      let both : IsCopied member parts w.copy × IsSettled w.copy.queue reply w.settled = subst (IsInHand member parts reply) w.in_hand in_hand in
      ring_writes member parts hand now later w reply both.0 both.1

  pub placed_by : (kind : WalkStep) → Effect transacts parts hand wire after now later kind → IsOrdered order place n (parts n)
      → Placed order place n now
  placed_by kind (reads r all quiet) k = same_placed order place n parts now k (ap (λ (ps : StructureSets). ps n) all)
  placed_by kind (passes r all quiet) k = same_placed order place n parts now k (ap (λ (ps : StructureSets). ps n) all)
  placed_by kind (ends r all quiet) k = same_placed order place n parts now k (ap (λ (ps : StructureSets). ps n) all)
  placed_by kind (takes t quiet) k = take_placed parts hand now later order place n t (there t) k
  placed_by kind (makes m all) k = same_placed order place n parts now k (ap (λ (ps : StructureSets). ps n) all)
  placed_by kind (writes_back w quiet) k = write_placed parts hand now later w.copy w.settled (settled_queue_of w.copy w.settled)
      (writes w) order place n k

  pub element_before : (kind : WalkStep) → Effect transacts parts hand wire after now later kind → IsOrdered order place n (parts n)
      → (a : ℕ) (u : Qtd) → now n a ≡ Some (Element u) → place ≤ order a → parts n a ≡ Some (Element u)
  element_before kind (reads r all quiet) k a u here from = sym (ap (λ (ps : StructureSets). ps n a) all) ∙ here
  element_before kind (passes r all quiet) k a u here from = sym (ap (λ (ps : StructureSets). ps n a) all) ∙ here
  element_before kind (ends r all quiet) k a u here from = sym (ap (λ (ps : StructureSets). ps n a) all) ∙ here
  element_before kind (takes t quiet) k a u here from = take_before parts hand now later order place n t (there t) a u here
  element_before kind (makes m all) k a u here from = sym (ap (λ (ps : StructureSets). ps n a) all) ∙ here
  element_before kind (writes_back w quiet) k a u here from = write_before parts hand now later w.copy w.settled
      (settled_queue_of w.copy w.settled) (writes w) order place n k a u here from

pub each_event_adds_to_the_end : {W : Type 0} {Beside : Ask → Type 0} (transacts : W → Ask → List ℕ → Reply → W → Type 0)
    (member : ℕ → Bool)
    (parts : StructureSets) (hand : Hand) (reply : Reply) (wire after : W) (now : StructureSets) (later : Hand) (kind : WalkStep)
    (order : ℕ → ℕ) (place : ℕ) (out : List ℕ) (n : ℕ) (xs : List ℕ)
    → AreMembers member parts → IsInHand member parts reply hand → Effect transacts parts hand wire after now later kind
    → (z : StreamEffect Beside transacts parts hand wire after now later) → Accounts order place out hand parts n xs
    → GoesOnInOrder order out later now n xs (bytes_of_effect n z)
each_event_adds_to_the_end {Beside = Beside} transacts member parts hand reply wire after now later kind order place out n xs members
    in_hand effect z acc =
    goes_on_in_order Beside transacts parts hand wire after now later order place out n
    (effect_alters transacts member parts hand reply wire after now later kind in_hand effect n)
    (placed_by transacts member parts hand reply wire after now later order place n in_hand kind effect)
    (element_before transacts member parts hand reply wire after now later order place n in_hand kind effect) xs z acc
