-- An endpoint was opened: its queue head is met, and its stream begins.
use Rattle.std.proofs.Common.{◌≡◌, ◌≢◌, ℕ, ◌==◌, ◌*◌, ◌||◌, Bool, true, false, if◌then◌else◌, List, [], Option, Some, ap, refl, sym, subst, ◌∙◌}
use Rattle.std.specs.List.{concat}
use Rattle.law_common.proofs.Booleans.{off_by}
use Rattle.law_driver_ring.proofs.Common.{new_on}
use Rattle.law_world.proofs.Common.{member_beside}
use Rattle.law_controller.proofs.Common.{same_hand}
use Rattle.link_words.specs.declared.kinds.QtdLink.TheVariants as qtd_links
use Rattle.link_words.specs.Links.{qtd_link_of}
use Rattle.qh_qtd.specs.declared.qtd.Qtd.{Qtd}
use Rattle.qh_qtd.specs.declared.queue_head.Qh.{Qh}
use Rattle.drv_table.specs.Words.{dummy_qtd}
use Rattle.law_driver.specs.queued_drivers.Queued.{queued}
use Rattle.law_driver.proofs.lemmas.queued_drivers.RowOwners.{queued_has_owners}
use Rattle.law_structures.specs.lent_structures.Structures.{Element}
use Rattle.law_structures.proofs.lemmas.lent_structures.Altering.{found_element}
use Rattle.law_ring.specs.Hand.{Hand}
use Rattle.law_ring.specs.Told.{Endpoint as Told, HasToggle, HasEndpoint}
use Rattle.law_ring.specs.Bus.{Sender}
use Rattle.law_ring.specs.Pipes.{AreEndpoints, IsElsewhere, ArePiped}
use Rattle.law_ring.specs.OutBus.{Taker}
use Rattle.law_ring.specs.OutPipes.{IsOutPipe}
use Rattle.law_controller.specs.controlled_streams.Opened.{with_stream, with_end, with_none, IsBeginning, IsOneMore}
use Rattle.law_controller.specs.controlled_streams.Unopened.{IsUntouched, IsUnopened}
use Rattle.law_controller.proofs.lemmas.controlled_streams.Beginning.{ends_with_one, ends_with_other, pipes_with_one, pipes_with_other}
use Rattle.law_controller.specs.frame_control.Joined.{joined}
use Rattle.law_driver_ring.specs.Linked.{with_member}
use Rattle.law_queues.specs.open_laws.Queues.{IsOpenThere}
use Rattle.law_world.specs.steps.Outs.{AreOutPiped, IsUntaken}
use Rattle.law_world.specs.steps.Opens.{IsOneMoreHead}
use Rattle.law_world.proofs.lemmas.steps.Opening.{out_pipes_with_one, out_pipes_with_another}
use Rattle.bus_world.specs.World.{World}
use Rattle.law_world.specs.memory.Mixed.{Standing, IsMixedAt}
use Rattle.law_world.specs.memory.SameQueues.{IsRelinked, IsSameQueue}
use Rattle.law_world.specs.memory.Steps.{HasOpened}
use Rattle.law_world.specs.memory.pipe_steps.Pipes.{PipesStand}
use Rattle.law_world.specs.memory.pipe_steps.Laws.{IsBegun, as_in, as_out, as_none, OpenBeginsPipes}
use Rattle.law_world.proofs.lemmas.memory.lemmas.pipe_steps.Sparing.{spared}
use Rattle.law_world.proofs.lemmas.memory.lemmas.pipe_steps.Stays.{stays_spares}
use Rattle.law_world.proofs.lemmas.memory.lemmas.pipe_steps.Begins.{opening_apart}
use Rattle.law_world.proofs.lemmas.memory.lemmas.pipe_steps.Packets.{same_packets, none_and_others}

dummy_rests : (dummy_qtd.token.active ≡ false)
    × (qtd_link_of dummy_qtd.next ≡ qtd_links.End) × (qtd_link_of dummy_qtd.alternate ≡ qtd_links.End)
dummy_rests = (refl, refl, refl)

-- no packets moved of it yet
known_none : (acc : ℕ → List (List ℕ)) (n k : ℕ) → with_none (λ i. concat (acc i)) n k ≡ concat (with_none acc n k)
known_none acc n k = by (k == n)
  where
    by : (b : Bool) → (if b then [] else concat (acc k)) ≡ concat (if b then [] else acc k)
    by true = refl
    by false = refl

member_more : (near : ℕ → Bool) (n k : ℕ) → near k ≡ true → with_member near n k ≡ true
member_more near n k on = ap (λ (b : Bool). (k == n) || b) on ∙ by (k == n)
  where
    by : (b : Bool) → (b || true) ≡ true
    by true = refl
    by false = refl

module _ {W : Type 0} (sends takes : ℕ → ℕ → Bool) (packets : ℕ → ℕ → List (List ℕ)) (sender : W → ℕ → ℕ → Option Sender)
    (taker : W → ℕ → ℕ → Option Taker) (ins outs : ℕ → Bool) (ends : ℕ → Told) (acc : ℕ → List (List ℕ)) (wire : W) (s t : Standing)
    (w : World) (x : Told) (mixed : IsMixedAt s w) (k : IsOpenThere (queued w.driver) s.parts) (o : HasOpened s t k.endpoint)
    (named : HasEndpoint t.parts (32 * k.endpoint.queue) x)
    (first : x.dtc ≡ false → HasToggle (joined t.hand t.frame) t.parts (32 * k.endpoint.queue) false)
    (before : PipesStand sends takes packets sender taker s.near ins outs ends acc s.parts (joined s.hand s.frame) wire) where
  abbrev n : ℕ
  n = 32 * k.endpoint.queue

  abbrev hand : Hand
  hand = joined t.hand t.frame

  abbrev wider : ℕ → Bool
  wider = with_member s.near (32 * k.endpoint.queue)

  abbrev known : ℕ → List ℕ
  known i = concat (acc i)

  -- ---- what stood

  moved : PipesStand sends takes packets sender taker s.near ins outs ends acc t.parts (joined t.hand t.frame) wire
  moved = spared sends takes s.near ins outs ends s.parts t.parts (joined s.hand s.frame) (joined t.hand t.frame)
      (stays_spares sends takes ins outs ends s t o.told) packets sender taker acc wire before

  unmet : s.near (32 * k.endpoint.queue) ≡ true → ⊥
  unmet on = opening_apart (queued w.driver) s.near k.number k.endpoint
      (queued_has_owners w.driver mixed.now.framed.place.sound.owners mixed.turns) mixed.queues.queues.met k.here k.command k.fresh
      (32 * k.endpoint.queue) on refl

  ins_off : ins (32 * k.endpoint.queue) ≡ false
  ins_off = off_by (ins n) (λ on. unmet (moved.in_ends.members n on))

  outs_off : outs (32 * k.endpoint.queue) ≡ false
  outs_off = off_by (outs n) (λ on. unmet (moved.out_ends.members n on))

  -- ---- the new queue head

  same : IsSameQueue (32 * k.endpoint.queue) (s.parts (32 * k.endpoint.queue)) (t.parts (32 * k.endpoint.queue))
  same = o.told.parts n

  relinked : IsRelinked (t.parts (32 * k.endpoint.queue)) (32 * k.endpoint.queue) k.part.queue
  relinked = same.head k.part.queue k.part.here

  abbrev queue : Qh
  queue = record k.part.queue { link = relinked.link }

  is_dummy : (a : ℕ) (u : Qtd) → t.parts (32 * k.endpoint.queue) a ≡ Some (Element u) → u ≡ dummy_qtd
  is_dummy a u here =
      let was : s.parts n a ≡ Some (Element u) = same.elements_were a u here in
      found_element (s.parts n a) u dummy_qtd was (ap (s.parts n) (k.part.only a u was) ∙ k.part.dummy)

  begins : IsBeginning (t.parts (32 * k.endpoint.queue)) (32 * k.endpoint.queue) (record k.part.queue { link = relinked.link })
  begins = record {
    here = relinked.here;
    idle = k.part.rests.idle;
    none = λ a u here. ap (λ (y : Qtd). y.token.active) (is_dummy a u here) ∙ dummy_rests.0;
    ends = λ a u here. (
      ap (λ (y : Qtd). qtd_link_of y.next) (is_dummy a u here) ∙ dummy_rests.1,
      ap (λ (y : Qtd). qtd_link_of y.alternate) (is_dummy a u here) ∙ dummy_rests.2,
    );
  }

  one_more : (those : ℕ → Bool) → those (32 * k.endpoint.queue) ≡ false
      → IsOneMore those (joined t.hand t.frame) (joined t.hand t.frame) t.parts t.parts (32 * k.endpoint.queue) x
  one_more those off = record {
    hands = same_hand (joined t.hand t.frame);
    stay = λ i on. refl;
    new = off;
    queue = queue;
    begins = begins;
    named = named;
    expects = first;
  }

  others_in : (i : ℕ) → with_member s.near (32 * k.endpoint.queue) i ≡ true → i ≢ 32 * k.endpoint.queue → ins i ≡ false
      → IsElsewhere sends t.parts i (ends i)
  others_in i met differs off = moved.in_pipes.others i (member_beside s.near n i differs met) off

  head_out : IsOneMoreHead takes (with_member s.near (32 * k.endpoint.queue)) outs ends (joined t.hand t.frame) (joined t.hand t.frame)
      t.parts t.parts (32 * k.endpoint.queue) x
  head_out = record {
    more = one_more outs outs_off;
    unmoved = λ i on un. un;
    others = λ i met differs off. moved.out_pipes.others i (member_beside s.near n i differs met) off;
  }

  -- ---- with a stream, or without

  abbrev InStands : (ℕ → Bool) → Type 0
  InStands those = AreEndpoints sends wider those (with_end ends n x)
      × ArePiped sends packets sender wider those (with_end ends n x) (with_none acc n) t.parts hand wire

  abbrev OutStands : (ℕ → Bool) → Type 0
  OutStands those = AreEndpoints takes wider those (with_end ends n x)
      × AreOutPiped takes taker wider those (with_end ends n x) (λ i. concat (with_none acc n i)) t.parts hand wire

  in_other : InStands ins
  in_other = (
    ends_with_other sends s.near wider ins ends n x (member_more s.near n) ins_off moved.in_ends,
    pipes_with_other sender sends packets s.near wider ins ends acc hand hand t.parts t.parts wire n x (one_more ins ins_off) others_in
        moved.in_pipes,
  )

  in_one : x.speed ≡ 2 → x.dtc ≡ false → sends x.addr x.ep ≡ true → IsUnopened ins ends x.addr x.ep
      → IsUntouched (packets x.addr x.ep) (sender wire x.addr x.ep) → InStands (with_stream ins n)
  in_one high own on unopened untouched = (
    ends_with_one sends s.near wider ins ends n x (member_more s.near n) (new_on s.near n) on high unopened moved.in_ends,
    pipes_with_one sender sends packets s.near wider ins ends acc hand hand t.parts t.parts wire n x (one_more ins ins_off) own untouched
        others_in moved.in_pipes,
  )

  same_known : (those : ℕ → Bool)
      → AreOutPiped takes taker wider those (with_end ends n x) (with_none (λ i. concat (acc i)) n) t.parts hand wire
      → AreOutPiped takes taker wider those (with_end ends n x) (λ i. concat (with_none acc n i)) t.parts hand wire
  same_known those z = record {
    pipes = λ i on. subst (λ (xs : List ℕ). IsOutPipe
        (taker wire (with_end ends n x i).addr (with_end ends n x i).ep) xs t.parts hand i (with_end ends n x i)) (known_none acc n i)
        (z.pipes i on);
    others = z.others;
  }

  out_other : OutStands outs
  out_other = (
    ends_with_other takes s.near wider outs ends n x (member_more s.near n) outs_off moved.out_ends,
    same_known outs (out_pipes_with_another taker takes s.near wider outs ends known hand hand t.parts t.parts wire n x head_out
        moved.out_pipes),
  )

  out_one : x.speed ≡ 2 → x.dtc ≡ false → takes x.addr x.ep ≡ true → IsUnopened outs ends x.addr x.ep
      → IsUntaken (taker wire x.addr x.ep) → OutStands (with_stream outs n)
  out_one high own on unopened untaken = (
    ends_with_one takes s.near wider outs ends n x (member_more s.near n) (new_on s.near n) on high unopened moved.out_ends,
    same_known (with_stream outs n) (out_pipes_with_one taker takes s.near wider outs ends known hand hand t.parts t.parts wire n x
        head_out own untaken moved.out_pipes),
  )

  together : (ins_then outs_then : ℕ → Bool) → InStands ins_then → OutStands outs_then
      → PipesStand sends takes packets sender taker t.near ins_then outs_then (with_end ends n x) (with_none acc n) t.parts hand wire
  together ins_then outs_then i u =
      subst (λ (near : ℕ → Bool). PipesStand sends takes packets sender taker near ins_then outs_then (with_end ends n x)
      (with_none acc n) t.parts hand wire) (sym o.near)
      (record { in_ends = i.0; in_pipes = i.1; out_ends = u.0; out_pipes = u.1 })

  pub begun : (ins_then outs_then : ℕ → Bool)
      → IsBegun sends takes packets sender taker ins outs ends wire (32 * k.endpoint.queue) x ins_then outs_then
      → PipesStand sends takes packets sender taker t.near ins_then outs_then (with_end ends (32 * k.endpoint.queue) x)
      (with_none acc (32 * k.endpoint.queue)) t.parts (joined t.hand t.frame) wire
  begun _ _ (as_in high own on unopened untouched) = together (with_stream ins n) outs (in_one high own on unopened untouched) out_other
  begun _ _ (as_out high own on unopened untaken) = together ins (with_stream outs n) in_other (out_one high own on unopened untaken)
  begun _ _ as_none = together ins outs in_other out_other

pub an_open_begins_pipes : {W : Type 0} (sender : W → ℕ → ℕ → Option Sender) (taker : W → ℕ → ℕ → Option Taker)
    → OpenBeginsPipes sender taker
an_open_begins_pipes sender taker sends takes packets ins outs ins_then outs_then ends acc acc_then wire s t w x mixed k o named first
    none rest begins before =
    same_packets sends takes packets sender taker t.near ins_then outs_then (with_end ends (32 * k.endpoint.queue) x)
    (with_none acc (32 * k.endpoint.queue)) acc_then t.parts (joined t.hand t.frame) wire
    (none_and_others acc acc_then (32 * k.endpoint.queue) none rest)
    (begun sends takes packets sender taker ins outs ends acc wire s t w x mixed k o named first before ins_then outs_then begins)
