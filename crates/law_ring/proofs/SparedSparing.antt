-- What is spared is told as before.
use Rattle.std.proofs.Common.{◌≡◌, ℕ, ◌≤◌, ◌==◌, Bool, true, false, if◌then◌else◌, List, [], ◌∷◌, ◌++◌, Option, Some, ap, refl, sym, subst, ◌∙◌, inl, inr}
use Rattle.std.proofs.lemmas.List.{append_assoc, append-nil}
use Rattle.link_words.specs.declared.fields.LinkBits.{LinkBits}
use Rattle.qh_qtd.specs.declared.token.Token.{Token}
use Rattle.qh_qtd.specs.declared.qtd.Qtd.{Qtd}
use Rattle.qh_qtd.specs.declared.queue_head.Qh.{Qh}
use Rattle.law_structures.specs.lent_structures.Structures.{QueueHead, Element, StructureSets}
use Rattle.law_ring.specs.Hand.{Copy, Hand, Empty, Copied, Stale, copied_queue}
use Rattle.law_ring.specs.Effects.{buffer_of}
use Rattle.law_ring.specs.Stores.{hand_linked, hand_stale}
use Rattle.law_ring.specs.Told.{hand_bytes, hand_toggle, Told, HasToggle, Endpoint, HasEndpoint}
use Rattle.law_ring.specs.Order.{IsOrdered, IsSorted, IsAmong, AllTold, none_out, one_out, Accounts}
use Rattle.law_ring.proofs.Ordering.{fresh_none}
use Rattle.law_ring.specs.Bus.{Sender}
use Rattle.law_ring.specs.Sparing.{SameHand, SameOverlay, HasOverlay, SparesHead, SparesElement}
use Rattle.law_ring.specs.SparedLaws.{PipesAreSpared}

-- ---- what is in hand

pub linked_hand_is_same : (n : ℕ) (l : LinkBits) (hand : Hand) → SameHand hand (hand_linked n l hand)
linked_hand_is_same n l (Stale m q) = record { bytes = λ i r e t bs. refl; toggle = λ i r. refl }
linked_hand_is_same n l _ = record { bytes = λ m q e t bs. refl; toggle = λ m q. refl }

stale_by : (n : ℕ) (c : Copy) (b : Bool) → SameHand (Copied c) (if b then Stale n (copied_queue c) else Copied c)
stale_by n c true = record { bytes = λ m q e t bs. refl; toggle = λ m q. refl }
stale_by n c false = record { bytes = λ m q e t bs. refl; toggle = λ m q. refl }

pub stale_hand_is_same : (n : ℕ) (hand : Hand) → SameHand hand (hand_stale n hand)
stale_hand_is_same n (Copied c) = stale_by n c (c.at == n)
stale_hand_is_same n (Stale m q) = record { bytes = λ i r e t bs. refl; toggle = λ i r. refl }
stale_hand_is_same n _ = record { bytes = λ m q e t bs. refl; toggle = λ m q. refl }

-- ---- a queue head with the same overlay

-- the queue head with this overlay
abbrev with_overlay : Qh → Token → ℕ → ℕ → Qh
with_overlay q token current offset = record q { token = token; current = current; offset = offset }

bytes_by : (hand : Hand) (n : ℕ) (q r : Qh) (e : ℕ) (t : Qtd) (bs : List ℕ) → hand_bytes hand n r e t bs ≡ hand_bytes hand n (with_overlay q r.token r.current r.offset) e t bs
bytes_by Empty n q r e t bs = refl
bytes_by _ n q r e t bs = refl

overlay_bytes : (hand : Hand) (n : ℕ) (q r : Qh) (e : ℕ) (t : Qtd) (bs : List ℕ) → SameOverlay q r → hand_bytes hand n r e t bs ≡ hand_bytes hand n q e t bs
overlay_bytes hand n q r e t bs k =
    bytes_by hand n q r e t bs
    ∙ ap (λ (z : Token). hand_bytes hand n (with_overlay q z r.current r.offset) e t bs) k.token
    ∙ ap (λ (i : ℕ). hand_bytes hand n (with_overlay q q.token i r.offset) e t bs) k.current
    ∙ ap (λ (i : ℕ). hand_bytes hand n (with_overlay q q.token q.current i) e t bs) k.offset

toggle_by : (hand : Hand) (n : ℕ) (q r : Qh) → hand_toggle hand n r ≡ hand_toggle hand n (record q { token = r.token })
toggle_by Empty n q r = refl
toggle_by _ n q r = refl

overlay_toggle : (hand : Hand) (n : ℕ) (q r : Qh) → SameOverlay q r → hand_toggle hand n r ≡ hand_toggle hand n q
overlay_toggle hand n q r k = toggle_by hand n q r ∙ ap (λ (z : Token). hand_toggle hand n (record q { token = z })) k.token

-- ---- what is told

pub spared_is_told : (hand later : Hand) (parts now : StructureSets) (n e : ℕ) (xs : List ℕ) → SameHand hand later → SparesHead parts now n → SparesElement parts now n e → Told hand parts n e xs → Told later now n e xs
spared_is_told hand later parts now n e xs hands head element told =
    let h : HasOverlay now n told.queue = head told.queue told.head in
    record {
      queue = h.queue;
      head = h.here;
      qtd = told.qtd;
      here = element.element told.qtd told.here;
      are = told.are ∙ sym (hands.bytes n told.queue e told.qtd (buffer_of (parts n) told.qtd))
          ∙ sym (overlay_bytes later n told.queue h.queue e told.qtd (buffer_of (parts n) told.qtd) h.overlay)
          ∙ ap (hand_bytes later n h.queue e told.qtd) (sym (element.bytes told.qtd told.here));
    }

pub spared_has_toggle : (hand later : Hand) (parts now : StructureSets) (n : ℕ) (b : Bool) → SameHand hand later → SparesHead parts now n → HasToggle hand parts n b → HasToggle later now n b
spared_has_toggle hand later parts now n b hands head has =
    let h : HasOverlay now n has.queue = head has.queue has.head in
    record {
      queue = h.queue;
      head = h.here;
      own = ap (λ (x : Endpoint). x.dtc) h.overlay.endpoint ∙ has.own;
      is = has.is ∙ sym (hands.toggle n has.queue) ∙ sym (overlay_toggle later n has.queue h.queue h.overlay);
    }

pub spared_endpoint : (parts now : StructureSets) (n : ℕ) (x : Endpoint) → SparesHead parts now n → HasEndpoint parts n x → HasEndpoint now n x
spared_endpoint parts now n x head has =
    let h : HasOverlay now n has.queue = head has.queue has.head in
    record { queue = h.queue; head = h.here; is = has.is ∙ sym h.overlay.endpoint }

-- ---- the pipes

pub spared_pipes_agree : {W : Type 0} (sender : W → ℕ → ℕ → Option Sender) → PipesAreSpared sender
spared_pipes_agree sender stream packets member wider streams endpoint acc hand later parts now wire hands heads ins others k = record {
  pipes = λ n on.
      let p = k.pipes n on in
      record {
        named = spared_endpoint parts now n (endpoint n) (heads n on) p.named;
        ins = ins n on;
        toggle = p.toggle;
        expects = spared_has_toggle hand later parts now n p.toggle hands (heads n on) p.expects;
        sender = p.sender;
        is = p.is;
        half = p.half;
      };
  others = others;
}

-- ---- what is to be harvested

pub all_spared : (hand later : Hand) (parts now : StructureSets) (n : ℕ) (out xs : List ℕ) → SameHand hand later → SparesHead parts now n → ((e : ℕ) → IsAmong e out → SparesElement parts now n e) → AllTold hand parts n out xs → AllTold later now n out xs
all_spared hand later parts now n out xs hands head elements none_out = none_out
all_spared hand later parts now n out xs hands head elements (one_out e es x ys first rest) =
    one_out e es x ys (spared_is_told hand later parts now n e x hands head (elements e (inl refl)) first) (all_spared hand later parts now n es ys hands head (λ b among. elements b (inr among)) rest)

pub accounts_are_spared : (order order_now : ℕ → ℕ) (place place_now : ℕ) (out : List ℕ) (hand later : Hand) (parts now : StructureSets) (n : ℕ) (xs : List ℕ) → SameHand hand later
    → SparesHead parts now n → ((e : ℕ) → IsAmong e out → SparesElement parts now n e) → IsOrdered order_now place_now n (now n) → IsSorted order_now out
    → ((a : ℕ) (t : Qtd) → IsAmong a out → now n a ≡ Some (Element t) → place_now ≤ order_now a → t.token.active ≡ true)
    → ((a : ℕ) (t : Qtd) → now n a ≡ Some (Element t) → t.token.active ≡ true → IsAmong a out)
    → Accounts order place out hand parts n xs → Accounts order_now place_now out later now n xs
accounts_are_spared order order_now place place_now out hand later parts now n xs hands head elements ordered sorted published complete k = record {
  ordered = ordered;
  sorted = sorted;
  published = published;
  complete = complete;
  told = all_spared hand later parts now n out xs hands head elements k.told;
}

at_end : (hand : Hand) (parts : StructureSets) (n e : ℕ) (y out xs : List ℕ) → Told hand parts n e y → AllTold hand parts n out xs → AllTold hand parts n (out ++ e ∷ []) (xs ++ y)
at_end hand parts n e y out xs told none_out = subst (AllTold hand parts n (e ∷ [])) (append-nil y) (one_out e [] y [] told none_out)
at_end hand parts n e y out xs told (one_out b bs x ys first rest) =
    subst (AllTold hand parts n (b ∷ (bs ++ e ∷ []))) (sym (append_assoc x ys y)) (one_out b (bs ++ e ∷ []) x (ys ++ y) first (at_end hand parts n e y bs ys told rest))

pub published_adds_nothing : (order : ℕ → ℕ) (place : ℕ) (out : List ℕ) (hand : Hand) (parts : StructureSets) (n e : ℕ) (q : Qh) (t : Qtd) (xs : List ℕ) → IsOrdered order place n (parts n) → parts n n ≡ Some (QueueHead q) → parts n e ≡ Some (Element t) → t.token.active ≡ true → place ≤ order e
    → AllTold hand parts n out xs → AllTold hand parts n (out ++ e ∷ []) xs
published_adds_nothing order place out hand parts n e q t xs ordered head here on from all =
    let y : List ℕ = hand_bytes hand n q e t (buffer_of (parts n) t) in
    let told : Told hand parts n e y = record { queue = q; head = head; qtd = t; here = here; are = refl } in
    let none : y ≡ [] = fresh_none order place n hand parts e y t ordered here on from told in
    subst (AllTold hand parts n (out ++ e ∷ [])) (ap (λ (zs : List ℕ). xs ++ zs) none ∙ append-nil xs) (at_end hand parts n e y out xs told all)
