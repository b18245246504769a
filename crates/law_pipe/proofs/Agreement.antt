-- Pipe agreement is kept by every transaction.
use Rattle.std.proofs.Common.{◌≡◌, ℕ, ◌+◌, ◌%◌, ◌==◌, Bool, true, false, not, List, [], ◌∷◌, ◌++◌, length, take, drop, subst, slice_get, ◌⊎◌, inl, inr, Option, Some, None, if◌then◌else◌, refl, ap, sym, ◌∙◌, arith, rules}
use Rattle.std.proofs.lemmas.Grind.{common_steps}
use Rattle.std.specs.List.{concat}
use Rattle.std.proofs.lemmas.List.{take_more, take-append-drop}
use Rattle.std.proofs.lemmas.List.Folds.{concat-append}
use Rattle.std.proofs.lemmas.Option.{slice_get_within, get_or_from_slice_get}
use Rattle.claims_base.specs.Prefix.{IsPrefix}
use Rattle.law_pipe.specs.Pipe.{Pipe, Hearing, Unheard, Heard, PipeAgrees, opening, after, after_all, sent, received, acknowledged, toggle_after, alike}

turned : (n r t : ℕ) → n % 2 ≡ r → (n + 1) % 2 ≡ t → (t == 1) ≡ not (r == 1) → toggle_after (n + 1) ≡ not (toggle_after n)
turned n r t h k e = rw (h, k) e

even_or_odd : (n : ℕ) → (n % 2 ≡ 0) ⊎ (n % 2 ≡ 1)
even_or_odd n = grind arith

pub toggle_turns : (n : ℕ) → toggle_after (n + 1) ≡ not (toggle_after n)
toggle_turns n = elim (even_or_odd n) [
  | inl h ↦ turned n 0 1 h (omega (arith, h)) refl
  | inr h ↦ turned n 1 0 h (omega (arith, h)) refl
]

pub alike_itself : (b : Bool) → alike b b ≡ true
alike_itself true = refl
alike_itself false = refl

pub alike_of : (a b : Bool) → a ≡ b → alike a b ≡ true
alike_of a b e = rw e (alike_itself b)

pub alike_other : (b : Bool) → alike b (not b) ≡ false
alike_other true = refl
alike_other false = refl

pub unlike_of : (a b : Bool) → b ≡ not a → alike a b ≡ false
unlike_of a b e = rw e (alike_other a)

-- the first n + 1 of a list are the first n and the one after them
pub take_next : {A : Type 0} (xs : List A) (n : ℕ) (x : A) → slice_get xs n ≡ Some x → take (n + 1) xs ≡ take n xs ++ x ∷ []
take_next xs n x h = take_more xs n x (slice_get_within xs n x h) ∙ ap (λ v. take n xs ++ v ∷ []) (get_or_from_slice_get xs n x x h)

-- the receiver accepts the packet that it expects
accepts : {A : Type 0} (packets : List A) (w : Pipe A) (x : A) → slice_get packets w.known ≡ Some x → PipeAgrees packets w → length w.accepted ≡ w.known → received x w ≡ record w { accepted = w.accepted ++ x ∷ []; expects = not w.expects }
accepts packets w x h a e = rw (alike_of w.sends w.expects (a.sends_parity ∙ ap toggle_after (sym e) ∙ sym a.expects_parity)) refl

-- it drops the one that it has
drops : {A : Type 0} (packets : List A) (w : Pipe A) (x : A) → PipeAgrees packets w → length w.accepted ≡ w.known + 1 → received x w ≡ w
drops packets w x a e = rw (unlike_of w.sends w.expects (a.expects_parity ∙ ap toggle_after e ∙ toggle_turns w.known ∙ ap not (sym a.sends_parity))) refl

longer : {A : Type 0} (xs : List A) (x : A) (n : ℕ) → length xs ≡ n → length (xs ++ x ∷ []) ≡ n + 1
longer xs x n e = grind (arith, common_steps)

next_in_order : {A : Type 0} (packets xs : List A) (x : A) (n : ℕ) → slice_get packets n ≡ Some x → length xs ≡ n → xs ≡ take (length xs) packets → xs ++ x ∷ [] ≡ take (length (xs ++ x ∷ [])) packets
next_in_order packets xs x n h e o = ap (λ v. v ++ x ∷ []) (o ∙ ap (λ k. take k packets) e) ∙ sym (take_next packets n x h) ∙ ap (λ k. take k packets) (sym (longer xs x n e))

accepted_agrees : {A : Type 0} (packets : List A) (w : Pipe A) (heard : Bool) (x : A) → slice_get packets w.known ≡ Some x → PipeAgrees packets w → length w.accepted ≡ w.known → PipeAgrees packets (acknowledged heard (record w { accepted = w.accepted ++ x ∷ []; expects = not w.expects }))
accepted_agrees packets w true x h a e = record {
  near = inl (longer w.accepted x w.known e);
  sends_parity = ap not a.sends_parity ∙ sym (toggle_turns w.known);
  expects_parity = ap not (a.expects_parity ∙ ap toggle_after e) ∙ sym (toggle_turns w.known) ∙ ap toggle_after (sym (longer w.accepted x w.known e));
  in_order = next_in_order packets w.accepted x w.known h e a.in_order;
}
accepted_agrees packets w false x h a e = record {
  near = inr (longer w.accepted x w.known e);
  sends_parity = a.sends_parity;
  expects_parity = ap not (a.expects_parity ∙ ap toggle_after e) ∙ sym (toggle_turns w.known) ∙ ap toggle_after (sym (longer w.accepted x w.known e));
  in_order = next_in_order packets w.accepted x w.known h e a.in_order;
}

dropped_agrees : {A : Type 0} (packets : List A) (w : Pipe A) (heard : Bool) → PipeAgrees packets w → length w.accepted ≡ w.known + 1 → PipeAgrees packets (acknowledged heard w)
dropped_agrees packets w true a e = record {
  near = inl e;
  sends_parity = ap not a.sends_parity ∙ sym (toggle_turns w.known);
  expects_parity = a.expects_parity;
  in_order = a.in_order;
}
dropped_agrees packets w false a e = a

sent_agrees : {A : Type 0} (packets : List A) (w : Pipe A) (heard : Bool) (o : Option A) → slice_get packets w.known ≡ o → PipeAgrees packets w → PipeAgrees packets (sent heard o w)
sent_agrees packets w heard None h a = a
sent_agrees packets w heard (Some x) h a = elim a.near [
  | inl e ↦ rw (accepts packets w x h a e) (accepted_agrees packets w heard x h a e)
  | inr e ↦ rw (drops packets w x a e) (dropped_agrees packets w heard a e)
]

-- one transaction keeps the agreement
pub agrees_after : {A : Type 0} (packets : List A) (w : Pipe A) (h : Hearing) → PipeAgrees packets w → PipeAgrees packets (after packets w h)
agrees_after packets w Unheard a = a
agrees_after packets w (Heard heard) a = sent_agrees packets w heard (slice_get packets w.known) refl a

pub agrees_after_all : {A : Type 0} (packets : List A) (w : Pipe A) (hs : List Hearing) → PipeAgrees packets w → PipeAgrees packets (after_all packets w hs)
agrees_after_all packets w [] a = a
agrees_after_all packets w (h ∷ hs) a = agrees_after_all packets (after packets w h) hs (agrees_after packets w h a)

pub opening_agrees : {A : Type 0} (packets : List A) → PipeAgrees packets opening
opening_agrees packets = record { near = inl refl; sends_parity = refl; expects_parity = refl; in_order = refl }

-- the bytes of the first packets begin the stream
pub first_packets_begin : (packets : List (List ℕ)) (n : ℕ) → IsPrefix (concat (take n packets)) (concat packets)
first_packets_begin packets n = (concat (drop n packets), sym (concat-append (take n packets) (drop n packets)) ∙ ap concat (take-append-drop n packets))

pub accepted_begins : (packets : List (List ℕ)) (w : Pipe (List ℕ)) → PipeAgrees packets w → IsPrefix (concat w.accepted) (concat packets)
accepted_begins packets w a = subst (λ xs. IsPrefix (concat xs) (concat packets)) (sym a.in_order) (first_packets_begin packets (length w.accepted))

-- the receiver takes the packet where the toggles are alike
pub took : {A : Type 0} (packets : List A) (w : Pipe A) (heard : Bool) (x : A) → slice_get packets w.known ≡ Some x → alike w.sends w.expects ≡ true → PipeAgrees packets w → PipeAgrees packets (acknowledged heard (record w { accepted = w.accepted ++ x ∷ []; expects = not w.expects }))
took packets w heard x h e a =
    subst (λ b. PipeAgrees packets (acknowledged heard (if b then record w { accepted = w.accepted ++ x ∷ []; expects = not w.expects } else w))) e
    (subst (λ o. PipeAgrees packets (sent heard o w)) h (agrees_after packets w (Heard heard) a))

-- and drops it where they differ
pub dropped : {A : Type 0} (packets : List A) (w : Pipe A) (heard : Bool) (x : A) → slice_get packets w.known ≡ Some x → alike w.sends w.expects ≡ false → PipeAgrees packets w → PipeAgrees packets (acknowledged heard w)
dropped packets w heard x h e a =
    subst (λ b. PipeAgrees packets (acknowledged heard (if b then record w { accepted = w.accepted ++ x ∷ []; expects = not w.expects } else w))) e
    (subst (λ o. PipeAgrees packets (sent heard o w)) h (agrees_after packets w (Heard heard) a))
