-- The inactive qTD at the end of a queue is the last, so it is the tail; where the overlay tells no front, the tail is the front.
use Rattle.std.proofs.Common.{◌≡◌, ◌≢◌, ℕ, suc, ◌+◌, ◌-◌, ◌*◌, ◌<◌, ◌≤◌, ◌==◌, ◌&&◌, ◌||◌, not, Bool, true, false, if◌then◌else◌, List, length, slice_get, Some, None, option_map, ap, refl, sym, subst, ◌∙◌, ⊎_elim, arith}
use Rattle.std.specs.Prelude.{nat_eq}
use Rattle.std.proofs.lemmas.Bool.{cases_eq, cases_lt, true≢false}
use Rattle.law_driver_ring.proofs.Common.{lent_slot}
use Rattle.law_queues.proofs.Common.{piece_more}
use Rattle.law_driver.proofs.Common.{piece_next}
use Rattle.link_words.specs.declared.fields.ShortLink.{ShortLink}
use Rattle.link_words.specs.declared.kinds.QtdLink.{QtdLink}
use Rattle.link_words.specs.declared.kinds.QtdLink.TheVariants as qtd_links
use Rattle.link_words.specs.Links.{qtd_link_of}
use Rattle.qh_qtd.specs.declared.qtd.Qtd.{Qtd}
use Rattle.qh_qtd.specs.declared.queue_head.Qh.{Qh}
use Rattle.mem_runs.specs.Book.{slot_of}
use Rattle.hc_copy.specs.Visits.{next_pointer}
use Rattle.drv_table.specs.declared.content.Endpoint.{Endpoint}
use Rattle.drv_table.specs.declared.content.Transfer.{Transfer}
use Rattle.drv_table.specs.DriverContent.{DriverContent}
use Rattle.drv_table.specs.Words.{dummy_qtd}
use Rattle.drv_table.specs.Harvests.{note_at}
use Rattle.claims_driver.specs.Leaving.{HasOwners}
use Rattle.claims_driver.specs.Owners.{Dummy, NoteRuns, runs_of_endpoint, note_in}
use Rattle.law_driver.proofs.lemmas.run_owners.Runs.{placed_run}
use Rattle.law_driver.specs.chained_transfers.Chains.{piece_at}
use Rattle.law_driver.specs.chained_transfers.AsynchronousTurns.{AsynchronousTakesTurns}
use Rattle.law_driver.proofs.lemmas.chained_transfers.BulkAndControl.{not_iso}
use Rattle.law_driver.specs.chained_transfers.Turns.{IsAtPlace}
use Rattle.claims_driver.specs.LentRuns.{AreLent}
use Rattle.law_driver.proofs.lemmas.lent_runs.Laws.{all_are_lent_between_commands}
use Rattle.law_structures.specs.lent_structures.Structures.{QueueHead, Element, Structures, StructureSets}
use Rattle.law_structures.specs.lent_structures.Sound.{IsElement, LeadsOn, IsSoundQueue}
use Rattle.law_structures.proofs.lemmas.lent_structures.Altering.{found_element, found_queue}
use Rattle.law_frames.specs.Met.{IsQueuePart}
use Rattle.law_frames.proofs.Queues.{a_members_part_is_linked}
use Rattle.law_driver_ring.specs.Inventory.{IsLent}
use Rattle.law_ring.specs.Order.{IsAmong}
use Rattle.law_ring.specs.Front.{own_pointer, IsFront, IsBehind, HasFront, LinksWithin}
use Rattle.law_driver_ring.specs.fed_queues.Fed.{IsPieceFed, unpublished_of, AreFed, sized}
use Rattle.law_driver_ring.specs.fed_queues.Places.{IsMet, IsLast, AreLast, AreStillOut}
use Rattle.law_queues.specs.released_queues.Fronts.{piece_address, end_at, StandsAt}
use Rattle.law_queues.proofs.lemmas.released_queues.Queues.{none_yet}
use Rattle.law_queues.proofs.lemmas.released_queues.Outs.{out_is, IsOutIn, out_in}
use Rattle.law_queues.specs.standing_fronts.Reaching.{Reaches}
use Rattle.law_queues.specs.idle_tails.Idle.{SoundQueuesReach, IdleQueuesReach}

either_leads : (part : Structures) (b : Bool) (l r : ShortLink) → LeadsOn part (qtd_link_of l) → LeadsOn part (qtd_link_of r) → LeadsOn part (qtd_link_of (if b then l else r))
either_leads part true l r one two = one
either_leads part false l r one two = two

module _ (d : DriverContent) (parts : StructureSets) (order : ℕ → ℕ → ℕ) (out : ℕ → List ℕ) (idle : d.command ≡ None) (owners : HasOwners d) (lent : AreLent d) (turns : AsynchronousTakesTurns d) (fed : AreFed d parts) (last : AreLast d parts order) (still : AreStillOut d out) (e : ℕ) (x : Endpoint) (here : slice_get d.endpoints e ≡ Some x) (meets : IsMet d e x) (on : IsQueuePart (32 * x.queue) (parts (32 * x.queue))) where
  abbrev n : ℕ
  n = 32 * x.queue

  abbrev c : ℕ
  c = 32 * x.dummy

  abbrev part : Structures
  part = parts (32 * x.queue)

  abbrev o : ℕ → ℕ
  o = order (32 * x.queue)

  abbrev note : ℕ → NoteRuns
  note = note_in d.notes

  -- ---- the qTD at the end

  dummy_lent : IsLent (slot_of d.book.slots x.dummy)
  dummy_lent =
      let s = turns.asynchronous.endpoints e x here in
      lent_slot (slot_of d.book.slots x.dummy)
      (all_are_lent_between_commands d x.dummy idle lent
      (placed_run x.dummy (Dummy e) (owners.owned.each.dummy e (runs_of_endpoint x) (ap (option_map runs_of_endpoint) here) (ap (λ (k : Bool). k || x.gone) (not_iso x.desc s.asynchronous) ∙ meets.there.kept))))

  there : part c ≡ Some (Element dummy_qtd)
  there = fed.dummies e x here meets.there.kept dummy_lent

  is_last : IsLast o part c
  is_last = last.dummies e x here meets.there.kept dummy_lent

  most : (b : ℕ) → IsElement part b → o b ≤ o c
  most b k =
      ⊎_elim (λ (same : b ≡ c). let i = ap o same in omega (arith, i)) (λ (differs : b ≢ c). let less = is_last b k.qtd k.here differs in omega (arith, less)) (cases_eq b c)

  below : (a : ℕ) (t : Qtd) → part a ≡ Some (Element t) → t.token.active ≡ true → o a < o c
  below a t at active =
      is_last a t at (λ same. true≢false (sym active ∙ ap (λ (q : Qtd). q.token.active) (found_element (part a) t dummy_qtd at (ap part same ∙ there))))

  leads : (b : ℕ) (l : QtdLink) → LeadsOn part l → l ≡ qtd_links.To b → o b ≤ o c
  leads b l on_it is = most b (subst (LeadsOn part) is on_it)

  sound : (q : Qh) → part n ≡ Some (QueueHead q) → IsSoundQueue part q
  sound q at = subst (IsSoundQueue part) (found_queue (part n) on.queue q on.here at) on.sound

  -- ---- the pieces of its transfers

  piece : (t i : ℕ) (y : Transfer) → slice_get d.transfers t ≡ Some y → y.released ≡ false → y.endpoint ≡ e → i < y.qtds → IsPieceFed y.sort part (sized y.sort i (note_at d.notes (piece_at note y.first i))) (piece_at note y.first i) (piece_at note y.first y.qtds)
  piece t i y at held same less =
      let none : unpublished_of d t y ≡ 0 = none_yet d.command d.made y.qtds (nat_eq (suc t) (length d.transfers)) idle in
      fed.pieces t i y x at held (ap (slice_get d.endpoints) same ∙ here) (omega (arith, none)) less

  end_there : (t : ℕ) (y : Transfer) → slice_get d.transfers t ≡ Some y → y.released ≡ false → y.endpoint ≡ e → IsElement part (end_at d y)
  end_there t y at held same =
      let place : IsAtPlace note y = turns.turns.places t y at held in
      let some = place.some in
      let more = place.most in
      let i : ℕ = y.qtds - 1 in
      let f = piece t i y at held same (omega (arith, some, more)) in
      let next : qtd_link_of f.qtd.next ≡ qtd_links.To (piece_address d y (suc i)) = ap qtd_link_of f.noted.next ∙ ap (λ (b : ℕ). qtd_links.To (32 * b)) (sym (piece_next note y.first i)) in
      let all : suc i ≡ y.qtds = omega (arith, some, more) in
      subst (λ (j : ℕ). IsElement part (piece_address d y j)) all (subst (LeadsOn part) next (on.elements (piece_address d y i) f.qtd f.here).next)

  -- it isn't one of them, since it leads nowhere
  not_out : IsAmong c (out n) → ⊥
  not_out among =
      let k : IsOutIn note e d.transfers c = out_in note e d.transfers c (subst (IsAmong c) (still e x here meets.there ∙ out_is d e idle) among) in
      let place : IsAtPlace note k.transfer = turns.turns.places k.number k.transfer k.here k.is.held in
      let more = place.most in
      let less = k.is.dropped.below in
      let i : ℕ = k.transfer.qtds - k.transfer.left + k.is.dropped.number in
      let f = piece k.number i k.transfer k.here k.is.held k.is.endpoint (omega (arith, more, less)) in
      let address : c ≡ piece_address d k.transfer i =
      k.is.dropped.at ∙ ap (λ (b : ℕ). 32 * piece_at note b k.is.dropped.number) place.place ∙ ap (λ (b : ℕ). 32 * b) (piece_more note k.transfer.first (k.transfer.qtds - k.transfer.left) k.is.dropped.number) in
      let same : f.qtd ≡ dummy_qtd = found_element (part c) f.qtd dummy_qtd (ap part address ∙ f.here) there in
      true≢false (sym (ap (λ (q : Qtd). q.next.t) same) ∙ ap (λ (l : ShortLink). l.t) f.noted.next)

  -- ---- the front

  within : LinksWithin o c part
  within = record {
    below = λ a t at active reached. below a t at active;
    next = λ a b t at active reached to. leads b (qtd_link_of t.next) (on.elements a t at).next to;
    alternate = λ a b t at active reached to. leads b (qtd_link_of t.alternate) (on.elements a t at).alternate to;
  }

  rest : (q : Qh) (b : ℕ) → part n ≡ Some (QueueHead q) → q.token.halted ≡ false → q.token.active ≡ false → qtd_link_of (next_pointer q) ≡ qtd_links.To b → o b ≤ o c
  rest q b at off idle_now to = leads b (qtd_link_of (next_pointer q)) ((sound q at).rest off idle_now) to

  -- an overlay that works on a qTD, or goes on at one, tells its front, which isn't past the tail
  front_there : (f : ℕ) (q : Qh) → part n ≡ Some (QueueHead q) → o c < f → IsFront o f q → IsFront o (o c) q
  front_there f q at past is = record {
    work = λ active.
        let w = (sound q at).work active in
        let same = is.work active in
        let few = most q.current (record { qtd = w.element; here = w.here }) in
        absurd (omega (arith, past, same, few));
    rest = λ b off idle_now to. let least = is.rest b off idle_now to in omega (arith, past, least);
  }

  behind_there : (f a : ℕ) (t : Qtd) → IsAmong a (out n) → part a ≡ Some (Element t) → IsBehind o f part a → IsBehind o (o c) part a
  behind_there f a t among at b = record {
    qtd = b.qtd;
    here = b.here;
    done = b.done;
    before = is_last a t at (λ same. not_out (subst (λ (k : ℕ). IsAmong k (out n)) same among));
    leads = λ to goes_on is.
        let s = on.elements a b.qtd b.here in
        leads to (qtd_link_of (own_pointer b.qtd)) (either_leads part (not (b.qtd.token.total == 0) && not b.qtd.alternate.t) b.qtd.alternate b.qtd.next s.alternate s.next) is;
  }

  has_there : (f : ℕ) → o c < f → HasFront o f (out n) n part → HasFront o (o c) (out n) n part
  has_there f past has = record {
    queue = λ q at. front_there f q at past (has.queue q at);
    behind = λ a t among at off. behind_there f a t among at (has.behind a t among at off);
    fresh = has.fresh;
    passes = has.passes;
  }

  pub reaches : StandsAt d part o (out n) e x → Reaches d part o (out n) e x c
  reaches g =
      ⊎_elim (λ (past : o c < g.front).
      record {
        stands = record {
          front = o c;
          has = has_there g.front past g.has;
          ended = λ h t y at owed held same. most (end_at d y) (end_there t y owed held same);
          passed = λ h t j y at owed held same from less.
              let k = g.passed h t j y at owed held same from less in
              record { qtd = k.qtd; here = k.here; published = k.published; before = below (piece_address d y j) k.qtd k.here k.published };
        };
        within = within;
        tail = record { most = omega arith; rest = rest };
      })
      (λ (few : g.front ≤ o c). record { stands = g; within = within; tail = record { most = few; rest = rest } }) (cases_lt (o c) g.front)

pub sound_queues_reach : SoundQueuesReach
sound_queues_reach d parts order out idle owners lent turns fed last still fronts e x here meets on =
    reaches d parts order out idle owners lent turns fed last still e x here meets on (fronts e x here meets)

pub idle_queues_reach : IdleQueuesReach
idle_queues_reach member d parts order out idle owners lent turns fed last still fronts e x here meets on =
    sound_queues_reach d parts order out idle owners lent turns fed last still fronts e x here meets (a_members_part_is_linked member (32 * x.queue) (parts (32 * x.queue)) on).part_is
