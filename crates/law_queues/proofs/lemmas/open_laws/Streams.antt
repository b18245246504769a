-- The stream of the new queue head begins, if it is that of an IN endpoint; that of an OUT or a control one has none.
use Rattle.std.proofs.Common.{◌≡◌, ◌≢◌, ℕ, ◌*◌, ◌||◌, ◌==◌, Bool, true, false, if◌then◌else◌, List, slice_get, Option, Some, ap, refl, sym, ◌∙◌, ⊎_elim, inl, inr}
use Rattle.std.proofs.lemmas.Bool.{cases_eq, false≢true}
use Rattle.std.proofs.lemmas.Option.{same_Some}
use Rattle.law_driver_ring.proofs.Common.{one_element}
use Rattle.law_common.proofs.Numbers.{other_number, same_blocks}
use Rattle.law_driver.proofs.Common.{in_way as way_comes_in}
use Rattle.usb_base.specs.declared.packets.Reply.{Reply}
use Rattle.usb_base.specs.declared.packets.EpKind.{EpKind}
use Rattle.usb_base.specs.declared.packets.Way.{Way}
use Rattle.usb_base.specs.declared.packets.Way.TheVariants as ways
use Rattle.link_words.specs.Links.{qtd_link_of}
use Rattle.qh_qtd.specs.declared.qtd.Qtd.{Qtd}
use Rattle.qh_qtd.specs.declared.queue_head.Qh.{Qh}
use Rattle.drv_table.specs.declared.content.Endpoint.{Endpoint}
use Rattle.drv_table.specs.declared.content.Command.TheVariants as unfinished
use Rattle.drv_table.specs.DriverContent.{DriverContent}
use Rattle.drv_table.specs.Parts.{Parts as DriverParts}
use Rattle.drv_table.specs.Words.{head_block, to_queue_head, queue_head, dummy_qtd, is_control, speed_field}
use Rattle.claims_driver.specs.Owners.{Head, QueueHead as QueueOf, runs_of_endpoint}
use Rattle.async_walk.specs.Walk.{Walk}
use Rattle.async_walk.specs.Rows.{place}
use Rattle.law_structures.specs.lent_structures.Structures.{QueueHead, Element, Structures, StructureSets}
use Rattle.law_structures.proofs.lemmas.lent_structures.Names.{put_beside, put_same}
use Rattle.law_structures.proofs.lemmas.lent_structures.Altering.{found_queue}
use Rattle.law_ring.specs.Hand.{Hand, Settled}
use Rattle.claims_base.specs.Controller.{Base}
use Rattle.law_ring.specs.Ring.{IsInHand}
use Rattle.law_ring.specs.Told.{hand_toggle, HasToggle, Endpoint as Told, endpoint_of}
use Rattle.law_driver_ring.specs.Driven.{DrivesRing}
use Rattle.law_driver_ring.specs.Linked.{with_member, head_at}
use Rattle.law_ring.specs.Sparing.{SparesHead}
use Rattle.law_ring.proofs.SparedSparing.{linked_hand_is_same, spared_endpoint}
use Rattle.law_controller.specs.controlled_streams.Reported.{AreReported}
use Rattle.law_ring.specs.Bus.{Sender}
use Rattle.law_ring.specs.Pipes.{IsNotIn, AreEndpoints, IsElsewhere, ArePiped}
use Rattle.law_controller.specs.controlled_streams.Unopened.{IsUnopened, AreUnopened}
use Rattle.law_controller.specs.controlled_streams.Opened.{with_stream, with_end, with_none, IsBeginning, IsOneMore}
use Rattle.law_controller.proofs.lemmas.controlled_streams.Beginning.{ends_with_one, pipes_with_one, reports_with_one, unopened_less_one, ends_with_other, pipes_with_other, unopened_with_other}
use Rattle.law_controller.proofs.lemmas.controlled_streams.Alike.{alike_ends, alike_pipes, alike_unopened}
use Rattle.claims_driver.specs.Scripts.{comes_in}
use Rattle.law_driver.specs.AsynchronousScripts.{IsKindOf}
use Rattle.law_driver_ring.specs.fed_queues.Places.{HasHead, HasThere}
use Rattle.law_queues.proofs.lemmas.publish_laws.Apart.{queue_placed}
use Rattle.law_queues.specs.open_laws.Opens.{AreNamesApart, IsAtOpen, head_then, hand_then, end_then, streams_then, OpenPipes, OpenReports}
use Rattle.law_queues.proofs.lemmas.open_laws.Linking.{here}
use Rattle.law_queues.proofs.lemmas.open_laws.Standing.{then_here, then_beside, member_here, member_old, member_beside, element_was, its_alive, same_number}

-- ---- its way

either_true : (b c : Bool) → (if b then true else c) ≡ (b || c)
either_true true c = refl
either_true false c = refl

-- ---- its toggle

-- the queue head of an IN endpoint keeps the toggle itself
own_toggle : (way : Way) (kind : EpKind) → IsKindOf way kind → comes_in way ≡ true → is_control kind ≡ false
own_toggle ways.In kind is gets = ap is_control is
own_toggle _ kind is gets = absurd (false≢true gets)

-- no transaction in hand is its
toggle_off : (member : ℕ → Bool) (parts : StructureSets) (reply : Reply) (n : ℕ) (q : Qh) (hand : Hand) → member n ≡ false → q.token.toggle ≡ false → IsInHand member parts reply hand → hand_toggle hand n q ≡ false
toggle_off member parts reply n q (Settled c z) off none k =
    ap (λ (b : Bool). if b then z.host.toggle else q.token.toggle) (other_number c.at n (λ same. false≢true (sym off ∙ ap member (sym same) ∙ k.0.on))) ∙ none
toggle_off member parts reply n q _ off none k = none

module _ (base : Base) (w : Walk) (hand : Hand) (p : DriverParts) (member streams : ℕ → Bool) (ends : ℕ → Told) (parts : StructureSets) (order : ℕ → ℕ → ℕ) (out : ℕ → List ℕ) (k : IsAtOpen p.driver p.memory member streams ends parts order out) (drives : DrivesRing base member parts hand (place w p.registers p.memory) p.driver) where
  abbrev d : DriverContent
  d = p.driver

  abbrev x : Endpoint
  x = k.lent.endpoint

  abbrev n : ℕ
  n = 32 * x.queue

  abbrev q : Qh
  q = queue_head x.desc k.lent.link x.dummy

  abbrev now : StructureSets
  now = head_then parts k.queue x

  abbrev later : Hand
  later = hand_then hand x

  -- a queue head of an endpoint isn't the head of the ring
  not_head : (e : ℕ) (y : Endpoint) → slice_get d.endpoints e ≡ Some y → y.gone ≡ false → 32 * y.queue ≢ head_at
  not_head e y there kept same =
      never (sym (queue_placed d k.sound.owners e y there (k.turns.asynchronous.endpoints e y there) kept).owned ∙ ap k.sound.owners.owner (same_blocks y.queue head_block same) ∙ k.sound.owners.owned.each.head.owned)
    where
      never : QueueOf e ≡ Head → ⊥
      never z = cc

  stay : (m : ℕ) → m ≢ head_at → now m ≡ parts m
  stay m differs = put_beside parts head_at head_at (QueueHead (record k.queue { link = to_queue_head x.queue })) m differs

  n_differs : n ≢ head_at
  n_differs = not_head k.lent.number x k.lent.here (its_alive p member streams ends parts order out k)

  here_now : now n n ≡ Some (QueueHead q)
  here_now = ap (λ (part : Structures). part n) (stay n n_differs) ∙ here p member streams ends parts order out k

  its_dummy : (a : ℕ) (t : Qtd) → now n a ≡ Some (Element t) → dummy_qtd ≡ t
  its_dummy a t is = one_element (runs_of_endpoint x) q a t (sym (k.lent.part a) ∙ sym (ap (λ (part : Structures). part a) (stay n n_differs)) ∙ is)

  begins : IsBeginning (now n) n q
  begins = record {
    here = here_now;
    idle = refl;
    none = λ a t is. ap (λ (u : Qtd). u.token.active) (sym (its_dummy a t is));
    ends = λ a t is. (ap (λ (u : Qtd). qtd_link_of u.next) (sym (its_dummy a t is)), ap (λ (u : Qtd). qtd_link_of u.alternate) (sym (its_dummy a t is)));
  }

  expects : (end_then x).dtc ≡ false → HasToggle later now n false
  expects own = record {
    queue = q;
    head = here_now;
    own = own;
    is = sym ((linked_hand_is_same head_at (to_queue_head x.queue) hand).toggle n q ∙ toggle_off member parts w.reply n q hand k.lent.unmet refl drives.ring.in_hand);
  }

  -- ---- beside queue heads that the walk may meet already

  module _ (those : ℕ → Bool) (had : (m : ℕ) → those m ≡ true → HasThere d m) where
    apart_from_head : (m : ℕ) → those m ≡ true → m ≢ head_at
    apart_from_head m on same = let h : HasThere d m = had m on in not_head h.number h.endpoint h.here h.there.kept (sym h.at ∙ same)

    pub not_yet : those n ≡ false
    not_yet = by_test (those n) refl
      where
        by_test : (b : Bool) → those n ≡ b → those n ≡ false
        by_test true on =
            let h : HasThere d n = had n on in
            let number = same_number p member streams ends parts order out k h.number h.endpoint h.here h.there.kept (same_blocks h.endpoint.queue x.queue (sym h.at)) in
            let same : h.endpoint ≡ x = same_Some h.endpoint x (sym h.here ∙ ap (slice_get d.endpoints) number ∙ k.lent.here) in
            absurd (h.there.linked (k.lent.command ∙ ap (λ (z : Endpoint). Some (unfinished.Open z.queue)) (sym same)))
        by_test false off = off

    pub one_more : IsOneMore those hand later parts now n (end_then x)
    one_more = record {
      hands = linked_hand_is_same head_at (to_queue_head x.queue) hand;
      stay = λ m on. stay m (apart_from_head m on);
      new = not_yet;
      queue = q;
      begins = begins;
      named = record { queue = q; head = here_now; is = refl };
      expects = expects;
    }

    pub reports_by : (acc : ℕ → List (List ℕ)) (reported : ℕ → List ℕ) → AreReported those order out hand parts acc reported
        → AreReported (with_stream those n) order (with_none out n) later now (with_none acc n) (with_none reported n)
    reports_by acc reported right = reports_with_one those order out hand later parts now acc reported n (end_then x) one_more right

  streams_there : (m : ℕ) → streams m ≡ true → HasThere d m
  streams_there m on = let h = k.stand.streams_are.only m on in record { number = h.number; endpoint = h.endpoint; here = h.here; there = h.met.there; at = h.at }

  more : IsOneMore streams hand later parts now n (end_then x)
  more = one_more streams streams_there

  new : streams n ≡ false
  new = not_yet streams streams_there

  -- as its endpoint is an IN endpoint or not
  with_one : comes_in x.desc.name.way ≡ true → (m : ℕ) → streams_then streams x m ≡ with_stream streams n m
  with_one on m = ap (λ (b : Bool). if m == n then b else streams m) on ∙ either_true (m == n) (streams m)

  with_other : comes_in x.desc.name.way ≡ false → (m : ℕ) → streams_then streams x m ≡ streams m
  with_other off m =
      ⊎_elim (λ (same : m ≡ n). ap (streams_then streams x) same ∙ then_here streams x ∙ off ∙ sym new ∙ ap streams (sym same)) (λ (differs : m ≢ n). then_beside streams x m differs) (cases_eq m n)

  -- ---- the pipes

  spares : (m : ℕ) → SparesHead parts now m
  spares m r is =
      ⊎_elim (λ (same : m ≡ head_at).
      let queue : r ≡ k.queue = found_queue (parts m m) r k.queue is (ap (λ (i : ℕ). parts i i) same ∙ k.head) in
      record {
        queue = record k.queue { link = to_queue_head x.queue };
        here = ap (λ (i : ℕ). now i i) same ∙ put_same parts head_at head_at (QueueHead (record k.queue { link = to_queue_head x.queue }));
        overlay = record {
          token = ap (λ (z : Qh). z.token) (sym queue);
          current = ap (λ (z : Qh). z.current) (sym queue);
          offset = ap (λ (z : Qh). z.offset) (sym queue);
          endpoint = ap endpoint_of (sym queue);
        };
      })
      (λ (differs : m ≢ head_at). record {
        queue = r;
        here = ap (λ (part : Structures). part m) (stay m differs) ∙ is;
        overlay = record { token = refl; current = refl; offset = refl; endpoint = refl };
      }) (cases_eq m head_at)

  module _ {W : Type 0} (sender : W → ℕ → ℕ → Option Sender) (stream : ℕ → ℕ → Bool) (packets : ℕ → ℕ → List (List ℕ)) (acc : ℕ → List (List ℕ)) (wire : W) (names : AreNamesApart d) where
    abbrev ends_now : ℕ → Told
    ends_now = with_end ends n (end_then x)

    met_not : (y : Endpoint) → y ≡ x → d.command ≢ Some (unfinished.Open y.queue) → ⊥
    met_not y same met = met (k.lent.command ∙ ap (λ (z : Endpoint). Some (unfinished.Open z.queue)) (sym same))

    in_way : (e : ℕ) (y : Endpoint) → slice_get d.endpoints e ≡ Some y → comes_in y.desc.name.way ≡ true → y.desc.name.way ≡ ways.In
    in_way e y there gets = way_comes_in y.desc.name.way gets

    unopened : comes_in x.desc.name.way ≡ true → IsUnopened streams ends x.desc.name.addr x.desc.name.num
    unopened gets m streamed addr ep =
        let h : HasHead d m = k.stand.streams_are.only m streamed in
        let told = k.stand.streams_are.each h.number h.endpoint h.here h.met in
        let is : ends m ≡ endpoint_of (queue_head h.endpoint.desc 0 h.endpoint.dummy) = ap ends h.at ∙ told.1 in
        let too : comes_in h.endpoint.desc.name.way ≡ true = sym told.0 ∙ ap streams (sym h.at) ∙ streamed in
        let number : h.number ≡ k.lent.number =
        names h.number k.lent.number h.endpoint x h.here k.lent.here (sym (ap (λ (z : Told). z.addr) is) ∙ addr) (sym (ap (λ (z : Told). z.ep) is) ∙ ep)
        (in_way h.number h.endpoint h.here too ∙ sym (in_way k.lent.number x k.lent.here gets)) in
        met_not h.endpoint (same_Some h.endpoint x (sym h.here ∙ ap (slice_get d.endpoints) number ∙ k.lent.here)) h.met.there.linked

    elsewhere : (m : ℕ) → IsElsewhere stream parts m (ends m) → IsElsewhere stream now m (ends m)
    elsewhere m was = (
      spared_endpoint parts now m (ends m) (spares m) was.0,
      ⊎_elim (λ (none : stream (ends m).addr (ends m).ep ≡ false). inl none)
          (λ (nots : IsNotIn (parts m)). inr (λ a t is active. nots a t (element_was p member streams ends parts order out k m a t is) active)) was.1,
    )

    abbrev Goes : (ℕ → Bool) → Type 0
    Goes others = AreEndpoints stream (with_member member n) others ends_now × ArePiped stream packets sender (with_member member n) others ends_now (with_none acc n) now later wire × AreUnopened stream packets sender others ends_now wire

    alike : (these others : ℕ → Bool) → ((m : ℕ) → others m ≡ these m) → Goes these → Goes others
    alike these others same g = (
      alike_ends these others same stream (with_member member n) ends_now g.0,
      alike_pipes these others same sender stream packets (with_member member n) ends_now (with_none acc n) now later wire g.1,
      alike_unopened these others same sender stream packets ends_now wire g.2,
    )

    module _ (are : AreEndpoints stream member streams ends) (waits : AreUnopened stream packets sender streams ends wire) (piped : ArePiped stream packets sender member streams ends acc parts hand wire) where
      others_stay : (m : ℕ) → with_member member n m ≡ true → m ≢ n → streams m ≡ false → IsElsewhere stream now m (ends m)
      others_stay m met differs off = elsewhere m (piped.others m (member_beside member n m differs met) off)

      goes_one : comes_in x.desc.name.way ≡ true → stream x.desc.name.addr x.desc.name.num ≡ true → Goes (with_stream streams n)
      goes_one gets on = (
        ends_with_one stream member (with_member member n) streams ends n (end_then x) (member_old member n) (member_here member n) on
            (ap speed_field (k.turns.asynchronous.endpoints k.lent.number x k.lent.here).asynchronous.speed) (unopened gets) are,
        pipes_with_one sender stream packets member (with_member member n) streams ends acc hand later parts now wire n (end_then x) more
            (own_toggle x.desc.name.way x.desc.kind (k.turns.asynchronous.endpoints k.lent.number x k.lent.here).asynchronous.kind gets) (waits x.desc.name.addr x.desc.name.num on (unopened gets)) others_stay piped,
        unopened_less_one sender stream packets streams ends wire n (end_then x) new waits,
      )

      goes_other : Goes streams
      goes_other = (
        ends_with_other stream member (with_member member n) streams ends n (end_then x) (member_old member n) new are,
        pipes_with_other sender stream packets member (with_member member n) streams ends acc hand later parts now wire n (end_then x) more others_stay piped,
        unopened_with_other sender stream packets streams ends wire n (end_then x) new waits,
      )

      goes_if : (b : Bool) → comes_in x.desc.name.way ≡ b → (comes_in x.desc.name.way ≡ true → stream x.desc.name.addr x.desc.name.num ≡ true) → Goes (streams_then streams x)
      goes_if true is on = alike (with_stream streams n) (streams_then streams x) (with_one is) (goes_one is (on is))
      goes_if false is on = alike streams (streams_then streams x) (with_other is) goes_other

      pub goes_by : (comes_in x.desc.name.way ≡ true → stream x.desc.name.addr x.desc.name.num ≡ true) → Goes (streams_then streams x)
      goes_by on = goes_if (comes_in x.desc.name.way) refl on

pub open_pipes : {W : Type 0} (sender : W → ℕ → ℕ → Option Sender) → OpenPipes sender
open_pipes sender stream packets acc wire base w hand p member streams ends parts order out k drives names on are waits piped =
    goes_by base w hand p member streams ends parts order out k drives sender stream packets acc wire names are waits piped on

pub open_reports : OpenReports
open_reports acc reported heads base w hand p member streams ends parts order out k drives had right = reports_by base w hand p member streams ends parts order out k drives heads had acc reported right
