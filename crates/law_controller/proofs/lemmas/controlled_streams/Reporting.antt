-- What is reported stays right.
use Rattle.std.proofs.Common.{◌≡◌, ◌≢◌, ℕ, ◌-◌, Bool, true, false, if◌then◌else◌, List, [], ◌∷◌, ◌++◌, length, take, Option, Some, ap, refl, sym, subst, ◌∙◌, ⊎_elim, inr}
use Rattle.std.specs.List.{concat}
use Rattle.std.proofs.lemmas.Bool.{cases_eq, eq-eqb, false≢true}
use Rattle.std.proofs.lemmas.List.{append_assoc, append-nil}
use Rattle.std.proofs.lemmas.List.Folds.{concat-append}
use Rattle.law_common.proofs.Numbers.{other_number}
use Rattle.usb_base.specs.declared.packets.Ask.{Ask}
use Rattle.usb_base.specs.declared.packets.Reply.{Reply}
use Rattle.qh_qtd.specs.declared.qtd.Qtd.{Qtd}
use Rattle.hc_core.specs.Controller.{Content, walk_place}
use Rattle.law_structures.specs.lent_structures.Structures.{Element, StructureSets}
use Rattle.law_structures.specs.lent_structures.Sound.{IsMember}
use Rattle.law_structures.proofs.lemmas.lent_structures.Altering.{found_element}
use Rattle.law_ring.specs.Hand.{Hand}
use Rattle.claims_base.specs.Controller.{Base}
use Rattle.law_ring.specs.Ring.{IsRing}
use Rattle.law_ring.specs.Effects.{buffer_of, came_to}
use Rattle.law_ring.specs.Told.{Told, Endpoint}
use Rattle.law_ring.specs.Streams.{moved_bytes, StreamEffect}
use Rattle.law_ring.specs.Streams.StreamEffect.{same, aside, grows}
use Rattle.law_controller.specs.controlled_streams.Control.{IsControlled, BeginsMicroframe, WalksRing, ControlEffect, a_microframe, a_step}
use Rattle.law_ring.specs.Order.{IsAmong, AllTold, one_out, bytes_of_effect, GoesOnInOrder}
use Rattle.law_ring.proofs.Ordering.{a_done_qtd_is_told_by_memory}
use Rattle.law_ring.proofs.Adding.{each_event_adds_to_the_end}
use Rattle.claims_base.specs.Prefix.{IsPrefix}
use Rattle.law_ring.specs.Bus.{Sender}
use Rattle.law_ring.specs.Pipes.{ArePiped, grown, IsToldBy}
use Rattle.law_ring.proofs.PipeAgreeing.{grown_here, grown_beside, grown_none, accepted_bytes_begin_each_stream}
use Rattle.law_controller.specs.controlled_streams.Events.{IsControlToldBy, ControlGoesOn}
use Rattle.law_controller.specs.controlled_streams.Reported.{IsReported, AreReported}

-- ---- sums

none_more : (reported told : List ℕ) (acc now : List (List ℕ)) → now ≡ acc → reported ++ told ≡ concat acc → reported ++ (told ++ []) ≡ concat now
none_more reported told acc now is sum = ap (λ (xs : List ℕ). reported ++ xs) (append-nil told) ∙ sum ∙ ap concat (sym is)

some_more : (reported told bytes : List ℕ) (acc more : List (List ℕ)) → bytes ≡ concat more → reported ++ told ≡ concat acc → reported ++ (told ++ bytes) ≡ concat (acc ++ more)
some_more reported told bytes acc more is sum = sym (append_assoc reported told bytes) ∙ ap (λ (xs : List ℕ). xs ++ bytes) sum ∙ ap (λ (xs : List ℕ). concat acc ++ xs) is ∙ sym (concat-append acc more)

grown_empty : (acc : ℕ → List (List ℕ)) (at : ℕ) (more : List (List ℕ)) (n : ℕ) → more ≡ [] → grown acc at more n ≡ acc n
grown_empty acc at more n is = ap (λ (xs : List (List ℕ)). grown acc at xs n) is ∙ grown_none acc at n

-- what an event moved of a queue head with a stream is what was taken of it
sum_after : {W : Type 0} {Beside : Ask → Type 0} {transacts : W → Ask → List ℕ → Reply → W → Type 0} {parts : StructureSets} {hand : Hand}
    {wire after : W} {now : StructureSets} {later : Hand} (streams : ℕ → Bool) (acc : ℕ → List (List ℕ)) (at : ℕ) (more : List (List ℕ))
    (n : ℕ) (reported told : List ℕ) (z : StreamEffect Beside transacts parts hand wire after now later)
    → streams n ≡ true → IsToldBy streams at more z → reported ++ told ≡ concat (acc n) → reported ++ (told ++ bytes_of_effect n z) ≡ concat (grown acc at more n)
sum_after streams acc at more n reported told (same s quiet) on is sum = none_more reported told (acc n) (grown acc at more n) (grown_empty acc at more n is) sum
sum_after streams acc at more n reported told (aside s ask out reply beside made) on is sum = none_more reported told (acc n)
    (grown acc at more n) (grown_empty acc at more n is) sum
sum_after {parts = parts} streams acc at more n reported told (grows m all g) on is sum =
    let moved : List ℕ = moved_bytes m.copy.queue m.sent.element (came_to m) (buffer_of (parts m.copy.at) m.sent.element) in
    ⊎_elim (λ (here : m.copy.at ≡ n).
    let k = is.0 (ap streams here ∙ on) in
    ap (λ (b : Bool). reported ++ (told ++ (if b then moved else []))) (eq-eqb m.copy.at n here)
    ∙ some_more reported told moved (acc n) more k.1 sum ∙ ap concat (sym (grown_here acc n more) ∙ ap (λ (i : ℕ). grown acc i more n) (sym (k.0 ∙ here))))
    (λ (differs : m.copy.at ≢ n).
    ap (λ (b : Bool). reported ++ (told ++ (if b then moved else []))) (other_number m.copy.at n differs)
    ∙ none_more reported told (acc n) (grown acc at more n) (beside (streams m.copy.at) refl differs) sum) (cases_eq m.copy.at n)
  where
    beside : (b : Bool) → streams m.copy.at ≡ b → m.copy.at ≢ n → grown acc at more n ≡ acc n
    beside true streamed differs = grown_beside acc at more n (λ here. differs (sym (here ∙ (is.0 streamed).0)))
    beside false off differs = grown_empty acc at more n (is.1 off)

-- ---- an event of the controller

module _ {W : Type 0} (begins : W → ℕ → Bool → W → Type 0) (transacts : W → Ask → List ℕ → Reply → W → Type 0) (base : Base) (member streams : ℕ → Bool) (acc : ℕ → List (List ℕ)) (parts : StructureSets) (hand : Hand) (c : Content) (wire after : W) (controlled : IsControlled base member parts hand c) (now : StructureSets) (later : Hand) (at : ℕ) (more : List (List ℕ)) (n : ℕ) (on : streams n ≡ true) (order : ℕ → ℕ) (out reported : List ℕ) where
  microframe_right : BeginsMicroframe begins parts hand wire after now later → more ≡ [] → IsReported order out hand parts n (acc n) reported → IsReported order out later now n (grown acc at more n) reported
  microframe_right b none k =
      subst (λ (h : Hand). IsReported order out h now n (grown acc at more n) reported) (sym b.hand_stays)
      (subst (λ (ps : StructureSets). IsReported order out hand ps n (grown acc at more n) reported) (sym b.parts_stay)
      (subst (λ (xs : List (List ℕ)). IsReported order out hand parts n xs reported) (sym (grown_empty acc at more n none)) k))

  step_right : (k : WalksRing transacts parts hand wire after now later) → IsToldBy streams at more k.streams → IsReported order out hand parts n (acc n) reported → IsReported order out later now n (grown acc at more n) reported
  step_right k told r =
      let ring : IsRing base member parts hand (walk_place c) = controlled.ring in
      let goes : GoesOnInOrder order out later now n r.told (bytes_of_effect n k.streams) = each_event_adds_to_the_end transacts member parts hand (walk_place c).walk.reply wire after now later k.kind order r.place out n r.told ring.members ring.in_hand k.effect k.streams r.accounts in
      record { place = goes.place; told = r.told ++ bytes_of_effect n k.streams; accounts = goes.accounts; sum = sum_after streams acc at more n reported r.told k.streams on told r.sum }

  event_right : (z : ControlEffect begins transacts parts hand wire after now later) → IsControlToldBy streams at more z → IsReported order out hand parts n (acc n) reported → IsReported order out later now n (grown acc at more n) reported
  event_right (a_microframe b) told r = microframe_right b told r
  event_right (a_step k) told r = step_right k told r

pub an_event_leaves_the_report_right : {W : Type 0} (begins : W → ℕ → Bool → W → Type 0) (transacts : W → Ask → List ℕ → Reply → W → Type 0) (stream : ℕ → ℕ → Bool) (packets : ℕ → ℕ → List (List ℕ)) (sender : W → ℕ → ℕ → Option Sender) (base : Base) (member streams : ℕ → Bool) (endpoint : ℕ → Endpoint) (acc : ℕ → List (List ℕ)) (parts : StructureSets) (hand : Hand) (c : Content) (wire after : W) (new : Content) (order : ℕ → ℕ → ℕ) (out : ℕ → List ℕ) (reported : ℕ → List ℕ)
    → IsControlled base member parts hand c → (g : ControlGoesOn begins transacts stream packets sender base member streams endpoint acc parts hand wire after new)
    → AreReported streams order out hand parts acc reported → AreReported streams order out g.event.later g.event.now (grown acc g.at g.more) reported
an_event_leaves_the_report_right begins transacts stream packets sender base member streams endpoint acc parts hand c wire after new order out reported controlled g right n on =
    event_right begins transacts base member streams acc parts hand c wire after controlled g.event.now g.event.later g.at g.more n on (order n) (out n) (reported n) g.event.effect g.told (right n on)

-- ---- a harvest

-- the first of them and the rest
record FirstTold (hand : Hand) (parts : StructureSets) (n e : ℕ) (out xs : List ℕ) : Type 0 where
  first : List ℕ
  rest : List ℕ
  told : Told hand parts n e first
  others : AllTold hand parts n out rest
  sum : xs ≡ first ++ rest

first_told : (hand : Hand) (parts : StructureSets) (n e : ℕ) (out xs : List ℕ) → AllTold hand parts n (e ∷ out) xs → FirstTold hand parts n e out xs
first_told hand parts n e out xs (one_out b bs x ys told rest) = record { first = x; rest = ys; told = told; others = rest; sum = refl }

harvest_by : (order : ℕ → ℕ) (e : ℕ) (out : List ℕ) (hand : Hand) (parts : StructureSets) (n : ℕ) (acc : List (List ℕ)) (reported bytes : List ℕ) (t : Qtd) → parts n e ≡ Some (Element t) → t.token.active ≡ false → (r : IsReported order (e ∷ out) hand parts n acc reported) → (f : FirstTold hand parts n e out r.told) → f.first ≡ bytes
    → IsReported order out hand parts n acc (reported ++ bytes)
harvest_by order e out hand parts n acc reported bytes t here off r f is = record {
  place = r.place;
  told = f.rest;
  accounts = record {
    ordered = r.accounts.ordered;
    sorted = r.accounts.sorted.1;
    published = λ a u among there from. r.accounts.published a u (inr among) there from;
    complete = λ a u there on.
        ⊎_elim (λ (same_one : a ≡ e). absurd (false≢true (sym off ∙ ap (λ (x : Qtd). x.token.active) (found_element (parts n e) t u here (ap (parts n) (sym same_one) ∙ there)) ∙ on)))
        (λ (among : IsAmong a out). among) (r.accounts.complete a u there on);
    told = f.others;
  };
  sum = append_assoc reported bytes f.rest ∙ ap (λ (xs : List ℕ). reported ++ (xs ++ f.rest)) (sym is) ∙ ap (λ (xs : List ℕ). reported ++ xs) (sym f.sum) ∙ r.sum;
}

pub a_harvest_adds_to_the_report : (member : ℕ → Bool) (order : ℕ → ℕ) (e : ℕ) (out : List ℕ) (hand : Hand) (parts : StructureSets) (n : ℕ) (acc : List (List ℕ)) (reported : List ℕ) (t : Qtd) → IsMember member n (parts n) → parts n e ≡ Some (Element t) → t.token.active ≡ false → IsReported order (e ∷ out) hand parts n acc reported
    → IsReported order out hand parts n acc (reported ++ take (length (buffer_of (parts n) t) - t.token.total) (buffer_of (parts n) t))
a_harvest_adds_to_the_report member order e out hand parts n acc reported t m here off r =
    let f : FirstTold hand parts n e out r.told = first_told hand parts n e out r.told r.accounts.told in
    harvest_by order e out hand parts n acc reported (take (length (buffer_of (parts n) t) - t.token.total) (buffer_of (parts n) t)) t here off r f (a_done_qtd_is_told_by_memory member parts hand n e t f.first m here off f.told)

-- ---- it begins the stream

pub reported_begins : {W : Type 0} (stream : ℕ → ℕ → Bool) (packets : ℕ → ℕ → List (List ℕ)) (sender : W → ℕ → ℕ → Option Sender) (member streams : ℕ → Bool) (endpoint : ℕ → Endpoint) (acc : ℕ → List (List ℕ)) (parts : StructureSets) (hand : Hand) (wire : W) (order : ℕ → ℕ → ℕ) (out : ℕ → List ℕ) (reported : ℕ → List ℕ) (n : ℕ)
    → ArePiped stream packets sender member streams endpoint acc parts hand wire → AreReported streams order out hand parts acc reported → streams n ≡ true → IsPrefix (reported n) (concat (packets (endpoint n).addr (endpoint n).ep))
reported_begins stream packets sender member streams endpoint acc parts hand wire order out reported n piped right on =
    let taken : IsPrefix (concat (acc n)) (concat (packets (endpoint n).addr (endpoint n).ep)) = accepted_bytes_begin_each_stream stream packets sender member streams endpoint acc parts hand wire n piped on in
    let r = right n on in
    (r.told ++ taken.0, sym (append_assoc (reported n) r.told taken.0) ∙ ap (λ (xs : List ℕ). xs ++ taken.0) r.sum ∙ taken.1)
