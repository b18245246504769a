-- The streams beside a store.
use Rattle.std.proofs.Common.{◌≡◌, ◌≢◌, ℕ, ◌-◌, ◌==◌, ◌&&◌, Bool, true, false, if◌then◌else◌, List, [], ◌∷◌, ◌++◌, length, take, Option, Some, ap, refl, sym, subst, ◌∙◌, ⊎_elim, inl, inr, arith}
use Rattle.std.proofs.lemmas.Bool.{cases_eq, eq-eqb, false≢true}
use Rattle.law_common.proofs.Numbers.{other_number}
use Rattle.law_controller.proofs.Common.{same_hand, here_among}
use Rattle.qh_qtd.specs.declared.qtd.Qtd.{Qtd}
use Rattle.qh_qtd.specs.declared.queue_head.Qh.{Qh}
use Rattle.law_structures.specs.lent_structures.Structures.{QueueHead, Element, StructureSets}
use Rattle.law_structures.proofs.lemmas.lent_structures.Names.{put_same}
use Rattle.law_structures.specs.lent_structures.Sound.{buffer_name, IsWorking, IsSoundQueue}
use Rattle.law_structures.proofs.lemmas.lent_structures.Altering.{found_queue, found_element}
use Rattle.law_ring.specs.Hand.{Hand}
use Rattle.law_ring.specs.Effects.{buffer_of}
use Rattle.law_ring.specs.QueueParts.{IsQueuePart}
use Rattle.law_ring.specs.Told.{works_on, Told}
use Rattle.law_ring.proofs.Growing.{works_not}
use Rattle.law_ring.specs.Order.{IsFresh, IsOrdered, IsSorted, IsAmong, AllTold, one_out}
use Rattle.law_ring.proofs.Ordering.{not_worked}
use Rattle.law_ring.specs.Bus.{Sender}
use Rattle.law_ring.specs.Pipes.{IsIn, IsNotIn, IsElsewhere}
use Rattle.law_controller.specs.controlled_streams.Reported.{IsReported}
use Rattle.law_ring.proofs.SparedSparing.{spared_endpoint, spared_pipes_agree, accounts_are_spared, all_spared}
use Rattle.law_controller.specs.controlled_streams.Storing.{LeadsLater, out_with, with_out, stored_parts}
use Rattle.law_controller.specs.controlled_streams.PublishedLaws.{IdleStoreLeavesReports, LastStoreLeavesReports, StoreLeavesPipes}
use Rattle.law_controller.proofs.lemmas.controlled_streams.Storing.{head_stays, bytes_stay, element_found, spares_head, spares_element, ordered_beside, ordered_here, out_apart, among_with, among_either}

module _ (parts : StructureSets) (n e : ℕ) (old new : Qtd) (here : parts n e ≡ Some (Element old)) (hand : Hand) where
  abbrev now : StructureSets
  now = stored_parts parts n e new

  -- ---- another queue head

  element_beside : (m a : ℕ) (u : Qtd) → m ≢ n → now m a ≡ Some (Element u) → parts m a ≡ Some (Element u)
  element_beside m a u differs is =
      ⊎_elim (λ (put_there : (m ≡ n) × (a ≡ e) × (u ≡ new)). absurd (differs put_there.0)) (λ (was : parts m a ≡ Some (Element u)). was) (element_found parts n e old new here m a u is)

  reported_beside : (order : ℕ → ℕ) (out : List ℕ) (m : ℕ) (acc : List (List ℕ)) (reported : List ℕ) → m ≢ n → IsReported order out hand parts m acc reported → IsReported order out hand now m acc reported
  reported_beside order out m acc reported differs k = record {
    place = k.place;
    told = k.told;
    accounts = accounts_are_spared order order k.place k.place out hand hand parts now m k.told (same_hand hand) (spares_head parts n e old new here m)
        (λ a among. spares_element parts n e old new here m a (λ name owner. differs owner))
        (ordered_beside parts n e old new here order k.place m differs k.accounts.ordered) k.accounts.sorted
        (λ a u among is from. k.accounts.published a u among (element_beside m a u differs is) from)
        (λ a u is on. k.accounts.complete a u (element_beside m a u differs is) on) k.accounts;
    sum = k.sum;
  }

  -- ---- this one, while it isn't active

  idle_beside : (a : ℕ) (u : Qtd) → new.token.active ≡ false → now n a ≡ Some (Element u) → u.token.active ≡ true → parts n a ≡ Some (Element u)
  idle_beside a u off is on =
      ⊎_elim (λ (put_there : (n ≡ n) × (a ≡ e) × (u ≡ new)). absurd (false≢true (sym off ∙ ap (λ (x : Qtd). x.token.active) (sym put_there.2) ∙ on)))
      (λ (was : parts n a ≡ Some (Element u)). was) (element_found parts n e old new here n a u is)

  apart_beside : (a : ℕ) (u : Qtd) → a ≢ e → now n a ≡ Some (Element u) → parts n a ≡ Some (Element u)
  apart_beside a u differs is =
      ⊎_elim (λ (put_there : (n ≡ n) × (a ≡ e) × (u ≡ new)). absurd (differs put_there.1)) (λ (was : parts n a ≡ Some (Element u)). was) (element_found parts n e old new here n a u is)

  idle_here : (order : ℕ → ℕ) (before after : List ℕ) (acc : List (List ℕ)) (reported : List ℕ) → IsSorted order (before ++ e ∷ after) → LeadsLater order e new → new.token.active ≡ false
      → IsReported order (before ++ after) hand parts n acc reported → IsReported order (before ++ after) hand now n acc reported
  idle_here order before after acc reported sorted later off k = record {
    place = k.place;
    told = k.told;
    accounts = accounts_are_spared order order k.place k.place (before ++ after) hand hand parts now n k.told (same_hand hand) (spares_head parts n e old new here n)
        (λ a among. spares_element parts n e old new here n a (λ name owner. out_apart order e before after sorted a among name))
        (ordered_here parts n e old new here order k.place later (λ on. absurd (false≢true (sym off ∙ on))) k.accounts.ordered) k.accounts.sorted
        (λ a u among is from. k.accounts.published a u among (apart_beside a u (out_apart order e before after sorted a among) is) from)
        (λ a u is on. k.accounts.complete a u (idle_beside a u off is on) on) k.accounts;
    sum = k.sum;
  }

  -- ---- this one, once it is active

  works_by : (q : Qh) (b : Bool) → q.token.active ≡ b → (b ≡ true → q.current ≢ e) → works_on q e ≡ false
  works_by q true on differs = works_not q e (differs refl)
  works_by q false off differs = ap (λ (b : Bool). b && q.current == e) off

  -- the overlay doesn't work on it
  unworked : (q : Qh) → old.token.active ≡ false → IsQueuePart n (parts n) → parts n n ≡ Some (QueueHead q) → works_on q e ≡ false
  unworked q off m head =
      works_by q q.token.active refl (λ on same.
      let is : m.queue ≡ q = found_queue (parts n n) m.queue q m.here head in
      let sound : IsSoundQueue (parts n) q = subst (IsSoundQueue (parts n)) is m.sound in
      let w : IsWorking (parts n) q = sound.work on in
      false≢true (sym off ∙ ap (λ (x : Qtd). x.token.active) (found_element (parts n e) old w.element here (ap (parts n) (sym same) ∙ w.here)) ∙ w.published))

  told_new : old.token.active ≡ false → IsFresh (now n) new → (m : IsQueuePart n (parts n)) → Told hand now n e []
  told_new off fresh m =
      let bs : List ℕ = buffer_of (now n) new in
      let none : length bs - new.token.total ≡ 0 = omega (arith, fresh) in
      record {
        queue = m.queue;
        head = head_stays parts n e old new here n n m.queue m.here;
        qtd = new;
        here = put_same parts n e (Element new);
        are = sym (not_worked hand n m.queue e new bs (unworked m.queue off m m.here) ∙ ap (λ (i : ℕ). take i bs) none);
      }

  all_with : (before after xs : List ℕ) → Told hand now n e [] → AllTold hand now n (before ++ after) xs → AllTold hand now n (before ++ e ∷ after) xs
  all_with [] after xs told all = one_out e after [] xs told all
  all_with (b ∷ bs) after _ told (one_out b2 bs2 x ys first rest) = one_out b (bs ++ e ∷ after) x ys first (all_with bs after ys told rest)

  last_here : (order : ℕ → ℕ) (before after : List ℕ) (acc : List (List ℕ)) (reported : List ℕ) → IsSorted order (before ++ e ∷ after) → LeadsLater order e new → old.token.active ≡ false → new.token.active ≡ true → IsFresh (parts n) new → IsQueuePart n (parts n)
      → IsReported order (before ++ after) hand parts n acc reported → IsReported order (before ++ e ∷ after) hand now n acc reported
  last_here order before after acc reported sorted later off on fresh m k =
      let ordered : IsOrdered order k.place n (now n) = ordered_here parts n e old new here order k.place later (λ active. fresh) k.accounts.ordered in
      let spared : AllTold hand now n (before ++ after) k.told =
      all_spared hand hand parts now n (before ++ after) k.told (same_hand hand) (spares_head parts n e old new here n)
      (λ a among. spares_element parts n e old new here n a (λ name owner. out_apart order e before after sorted a among name)) k.accounts.told in
      record {
        place = k.place;
        told = k.told;
        accounts = record {
          ordered = ordered;
          sorted = sorted;
          published = λ a u among is from.
              ⊎_elim (λ (put_there : (n ≡ n) × (a ≡ e) × (u ≡ new)). ap (λ (x : Qtd). x.token.active) put_there.2 ∙ on)
              (λ (was : parts n a ≡ Some (Element u)).
              ⊎_elim (λ (name : a ≡ e). ap (λ (x : Qtd). x.token.active) (found_element (now n a) u new is (ap (now n) name ∙ put_same parts n e (Element new))) ∙ on)
              (λ (other : IsAmong a (before ++ after)). k.accounts.published a u other was from) (among_either e before after a among)) (element_found parts n e old new here n a u is);
          complete = λ a u is active.
              ⊎_elim (λ (put_there : (n ≡ n) × (a ≡ e) × (u ≡ new)). subst (λ (i : ℕ). IsAmong i (before ++ e ∷ after)) (sym put_there.1) (here_among e before after))
              (λ (was : parts n a ≡ Some (Element u)). among_with e before after a (k.accounts.complete a u was active)) (element_found parts n e old new here n a u is);
          told = all_with before after k.told (told_new off (fresh ∙ ap length (sym (bytes_stay parts n e old new here n (buffer_name new)))) m) spared;
        };
        sum = k.sum;
      }

-- ---- all of them

pub idle_store_leaves_reports : IdleStoreLeavesReports
idle_store_leaves_reports streams order out hand parts acc reported n e old new s off k m on =
    ⊎_elim (λ (same : m ≡ n).
    subst (λ (i : ℕ). IsReported (order i) (out i) hand (stored_parts parts n e new) i (acc i) (reported i)) (sym same)
    (subst (λ (xs : List ℕ). IsReported (order n) xs hand (stored_parts parts n e new) n (acc n) (reported n)) (sym s.out_is)
    (idle_here parts n e old new s.here hand (order n) s.before s.after (acc n) (reported n) s.sorted s.later off
    (subst (λ (xs : List ℕ). IsReported (order n) xs hand parts n (acc n) (reported n)) s.out_is (k n (ap streams (sym same) ∙ on))))))
    (λ (differs : m ≢ n). reported_beside parts n e old new s.here hand (order m) (out m) m (acc m) (reported m) differs (k m on)) (cases_eq m n)

pub out_here : (out : ℕ → List ℕ) (n : ℕ) (now : List ℕ) → with_out out n now n ≡ now
out_here out n now = ap (λ (b : Bool). if b then now else out n) (eq-eqb n n refl)

pub out_beside : (out : ℕ → List ℕ) (n : ℕ) (now : List ℕ) (m : ℕ) → m ≢ n → with_out out n now m ≡ out m
out_beside out n now m differs = ap (λ (b : Bool). if b then now else out m) (other_number m n differs)

pub last_store_leaves_reports : LastStoreLeavesReports
last_store_leaves_reports streams order out hand parts acc reported n e old new s on fresh mem k m streamed =
    let new_out : ℕ → List ℕ = with_out out n (out_with s) in
    ⊎_elim (λ (same : m ≡ n).
    subst (λ (i : ℕ). IsReported (order i) (new_out i) hand (stored_parts parts n e new) i (acc i) (reported i)) (sym same)
    (subst (λ (xs : List ℕ). IsReported (order n) xs hand (stored_parts parts n e new) n (acc n) (reported n)) (sym (out_here out n (out_with s)))
    (last_here parts n e old new s.here hand (order n) s.before s.after (acc n) (reported n) s.sorted s.later s.idle on fresh mem
    (subst (λ (xs : List ℕ). IsReported (order n) xs hand parts n (acc n) (reported n)) s.out_is (k n (ap streams (sym same) ∙ streamed))))))
    (λ (differs : m ≢ n).
    subst (λ (xs : List ℕ). IsReported (order m) xs hand (stored_parts parts n e new) m (acc m) (reported m)) (sym (out_beside out n (out_with s) m differs))
    (reported_beside parts n e old new s.here hand (order m) (out m) m (acc m) (reported m) differs (k m streamed))) (cases_eq m n)

-- ---- the pipes

in_after : (parts : StructureSets) (n e : ℕ) (old new : Qtd) → parts n e ≡ Some (Element old) → (m : ℕ) → (m ≡ n → new.token.active ≡ true → new.token.pid ≡ 1) → IsIn (parts m) → IsIn (stored_parts parts n e new m)
in_after parts n e old new here m pid ins a u is on =
    ⊎_elim (λ (put_there : (m ≡ n) × (a ≡ e) × (u ≡ new)). ap (λ (x : Qtd). x.token.pid) put_there.2 ∙ pid put_there.0 (ap (λ (x : Qtd). x.token.active) (sym put_there.2) ∙ on))
    (λ (was : parts m a ≡ Some (Element u)). ins a u was on) (element_found parts n e old new here m a u is)

not_in_after : (parts : StructureSets) (n e : ℕ) (old new : Qtd) → parts n e ≡ Some (Element old) → (m : ℕ) → (m ≡ n → new.token.active ≡ true → new.token.pid ≢ 1) → IsNotIn (parts m) → IsNotIn (stored_parts parts n e new m)
not_in_after parts n e old new here m pid others a u is on =
    ⊎_elim (λ (put_there : (m ≡ n) × (a ≡ e) × (u ≡ new)). λ (asked : u.token.pid ≡ 1). pid put_there.0 (ap (λ (x : Qtd). x.token.active) (sym put_there.2) ∙ on) (ap (λ (x : Qtd). x.token.pid) (sym put_there.2) ∙ asked))
    (λ (was : parts m a ≡ Some (Element u)). others a u was on) (element_found parts n e old new here m a u is)

pub store_pipes : {W : Type 0} (sender : W → ℕ → ℕ → Option Sender) → StoreLeavesPipes sender
store_pipes sender stream packets member streams endpoint acc hand parts wire n e old new here may k =
    let now : StructureSets = stored_parts parts n e new in
    let with_stream : (m : ℕ) → streams m ≡ true → m ≡ n → new.token.active ≡ true → new.token.pid ≡ 1 = λ m on same active.
    ⊎_elim (λ (one : (streams n ≡ true) × (new.token.pid ≡ 1)). one.1)
    (λ (other : (streams n ≡ false) × (new.token.pid ≢ 1)). absurd (false≢true (sym other.0 ∙ ap streams (sym same) ∙ on))) (may active) in
    let without : (m : ℕ) → streams m ≡ false → m ≡ n → new.token.active ≡ true → new.token.pid ≢ 1 = λ m off same active.
    ⊎_elim (λ (one : (streams n ≡ true) × (new.token.pid ≡ 1)). absurd (false≢true (sym off ∙ ap streams same ∙ one.0)))
    (λ (other : (streams n ≡ false) × (new.token.pid ≢ 1)). other.1) (may active) in
    spared_pipes_agree sender stream packets member member streams endpoint acc hand hand parts now wire (same_hand hand) (λ m on. spares_head parts n e old new here m)
    (λ m on. in_after parts n e old new here m (with_stream m on) (k.pipes m on).ins)
    (λ m on off.
    let was : IsElsewhere stream parts m (endpoint m) = k.others m on off in (
      spared_endpoint parts now m (endpoint m) (spares_head parts n e old new here m) was.0,
      ⊎_elim (λ (none : stream (endpoint m).addr (endpoint m).ep ≡ false). inl none)
          (λ (others : IsNotIn (parts m)). inr (not_in_after parts n e old new here m (without m off) others)) was.1,
    )) k
