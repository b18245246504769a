-- The structures of an endpoint that is opened are lent, and its queue is told once the open is finished: nothing is told of it yet, and
-- what is told of each other queue stays.
use Rattle.std.proofs.Common.{◌≡◌, ◌≢◌, ℕ, ◌*◌, Bool, true, false, List, [], slice_get, Some, ap, refl, sym, subst, ◌∙◌, ⊎_elim, arith}
use Rattle.std.specs.Prelude.{◌||◌, if◌then◌else◌}
use Rattle.std.proofs.lemmas.Bool.{cases_eq, eq-eqb, false≢true}
use Rattle.law_common.proofs.Numbers.{other_number, same_blocks}
use Rattle.law_controller.proofs.Common.{same_hand}
use Rattle.law_world.proofs.Common.{same_queue, none_some}
use Rattle.link_words.specs.declared.kinds.QtdLink.{QtdLink}
use Rattle.link_words.specs.declared.kinds.QtdLink.TheVariants as qtd_links
use Rattle.link_words.specs.Links.{qtd_link_of}
use Rattle.qh_qtd.specs.declared.qtd.Qtd.{Qtd}
use Rattle.qh_qtd.specs.declared.queue_head.Qh.{Qh}
use Rattle.drv_table.specs.declared.content.Command.TheVariants as unfinished
use Rattle.drv_table.specs.declared.content.Endpoint.{Endpoint}
use Rattle.drv_table.specs.declared.content.Transfer.{Transfer}
use Rattle.drv_table.specs.DriverContent.{DriverContent}
use Rattle.drv_table.specs.Words.{dummy_qtd}
use Rattle.law_driver.specs.endpoint_lives.Lives.{is_one_of, may_meet}
use Rattle.law_driver.specs.queued_drivers.Queued.{queued}
use Rattle.law_driver.specs.queued_drivers.Rows.{QueuesAlike, TellsAlike}
use Rattle.law_driver.proofs.lemmas.chained_transfers.Staying.{told_stands_alive, linked_stands_alive}
use Rattle.law_structures.specs.lent_structures.Structures.{QueueHead, Element, StructureSets, put}
use Rattle.law_structures.proofs.lemmas.lent_structures.Altering.{found_queue, found_element}
use Rattle.law_structures.proofs.lemmas.lent_structures.Names.{put_beside}
use Rattle.law_ring.specs.Hand.{Hand}
use Rattle.law_ring.specs.Order.{none_out}
use Rattle.law_ring.specs.QueueParts.{IsQueuePart}
use Rattle.law_controller.specs.controlled_streams.Opened.{with_none}
use Rattle.law_controller.specs.controlled_streams.Reported.{IsReported}
use Rattle.law_driver_ring.proofs.lemmas.told_harvests.Keeping.{spared_is_done}
use Rattle.law_queues.proofs.lemmas.publish_laws.Apart.{queue_placed, queues_same}
use Rattle.law_queues.specs.harvest_laws.Holds.{IsNextOf}
use Rattle.law_queues.specs.harvest_laws.Told.{ToldStands}
use Rattle.law_queues.proofs.lemmas.harvest_laws.Standing.{still_told, alike_is_told, met_is_told}
use Rattle.law_queues.specs.open_laws.Queues.{IsOpenToLend, IsOpenThere, IsNewPart, parts_opened, open_lent, open_finished}
use Rattle.law_world.specs.streams.Feeding.{there_of}
use Rattle.law_world.proofs.lemmas.streams.Told.{HasBulkThere, there_by, bulk_there, there_same}
use Rattle.law_world.proofs.lemmas.streams.lemmas.left_reports.Leaver.{next_waits}
use Rattle.law_world.specs.memory.Mixed.{Standing, IsMixedAt}
use Rattle.law_world.specs.memory.SameQueues.{IsSameQueue}
use Rattle.law_world.specs.memory.Steps.{HasOpened}
use Rattle.law_world.proofs.lemmas.memory.Alike.{queue_part}
use Rattle.law_world.proofs.lemmas.memory.HarvestKept.{owners_of}
use Rattle.bus_world.specs.World.{World}
use Rattle.law_reports.specs.lines.Lined.{in_hand, Lines, IsTelling}
use Rattle.law_reports.specs.lines.TellingLaws.{IsNewlyTold}
use Rattle.law_reports.specs.lines.TellingSteps.{OpenTells}
use Rattle.law_reports.proofs.lemmas.lines.Heads.{opening_uncounted}
use Rattle.law_reports.proofs.lemmas.lines.Same.{hands_tell, same_at, relinked_head, relinked_element, relinked_reported, relinked_told}

-- ---- its structures are lent

module _ (s : Standing) (m : Lines) (w new : World) (k : IsMixedAt s w) (g : IsTelling s m w) (at : IsOpenToLend (queued w.driver) w.memory)
    (alike : QueuesAlike (open_lent (queued w.driver) w.memory) (queued new.driver))
    (tells : TellsAlike (queued w.driver) (queued new.driver)) where
  abbrev d : DriverContent
  d = queued w.driver

  abbrev f : DriverContent
  f = queued new.driver

  abbrev n : ℕ
  n = 32 * at.endpoint.queue

  abbrev now : StructureSets
  now = parts_opened at s.parts

  beside : (i : ℕ) → i ≢ 32 * at.endpoint.queue → parts_opened at s.parts i ≡ s.parts i
  beside i differs =
      put_beside (put s.parts n n (QueueHead at.queue)) n (32 * at.endpoint.dummy) (Element dummy_qtd) i differs
      ∙ put_beside s.parts n n (QueueHead at.queue) i differs

  command_same : (queued new.driver).command ≡ (queued w.driver).command
  command_same = alike.command

  lent_was : (i : ℕ) → there_of (queued new.driver) i ≡ true → there_of (queued w.driver) i ≡ true
  lent_was i on = sym (there_same d f i alike.endpoints alike.command) ∙ on

  lent_apart : (i : ℕ) → there_of (queued new.driver) i ≡ true → i ≢ 32 * at.endpoint.queue
  lent_apart i on same = opening_uncounted d at.endpoint.queue at.command (ap (there_of d) (sym same) ∙ lent_was i on)

  alive : at.endpoint.gone ≡ false
  alive = linked_stands_alive at.endpoint (k.turns.turns.asynchronous.endpoints at.number at.endpoint at.here) at.fresh

  -- no transfer is its
  next_apart : (e u : ℕ) (x : Endpoint) (y : Transfer) → IsNextOf (queued w.driver) e u x y → 32 * x.queue ≢ 32 * at.endpoint.queue
  next_apart e u x y is same =
      let stands = k.turns.turns.asynchronous.endpoints e x is.endpoint in
      let number : e ≡ at.number =
      queues_same x.queue at.endpoint.queue e at.number (same_blocks x.queue at.endpoint.queue same)
      (queue_placed d (owners_of s w k) e x is.endpoint stands (told_stands_alive x stands is.going))
      (queue_placed d (owners_of s w k) at.number at.endpoint at.here (k.turns.turns.asynchronous.endpoints at.number at.endpoint at.here)
      alive) in
      at.none u y is.transfer ((next_waits d k.turns.turns.turns e u x y is).0 ∙ number)

  lent_told : ToldStands (queued new.driver) (in_hand s) (parts_opened at s.parts) m.reported
  lent_told =
      alike_is_told d f (in_hand s) now m.reported
      (record {
        reports = tells.reports;
        store = tells.store;
        endpoints = alike.endpoints;
        transfers = alike.transfers;
        notes = alike.notes;
      })
      (λ x there. record { linked = λ opens. there.linked (alike.command ∙ opens); kept = there.kept })
      (λ x opens. sym alike.command ∙ opens)
      (still_told d (in_hand s) (in_hand s) s.parts now m.reported
      (λ e u x y a i z next on one done.
      let same : IsSameQueue (32 * x.queue) (s.parts (32 * x.queue)) (now (32 * x.queue)) =
      same_at s.parts now (32 * x.queue) (beside (32 * x.queue) (next_apart e u x y next)) in
      spared_is_done (in_hand s) (in_hand s) s.parts now (32 * x.queue) a i z (same_hand (in_hand s))
      (relinked_head s.parts now (32 * x.queue) same)
      (relinked_element s.parts now (32 * x.queue) same (32 * a)) done) g.told)

  pub begin_telling : IsTelling (record s { parts = parts_opened at s.parts }) m new
  begin_telling = record {
    told = lent_told;
    moved = λ i on.
        relinked_reported s.parts now i (same_at s.parts now i (beside i (lent_apart i on))) (s.order i) (s.out i) (in_hand s) (in_hand s)
        (m.acc i)
        (m.reported i) (same_hand (in_hand s)) (g.moved i (lent_was i on));
    sound = λ i on. subst (IsQueuePart i) (sym (beside i (lent_apart i on))) (g.sound i (lent_was i on));
  }

-- ---- the open is finished

-- nothing was moved of a queue whose one qTD is the inactive one at its end
pub new_reported : (x : Endpoint) (hand : Hand) (parts : StructureSets) (order : ℕ → ℕ) → IsNewPart x (parts (32 * x.queue))
    → IsReported order [] hand parts (32 * x.queue) [] []
new_reported x hand parts order p = record {
  place = 0;
  told = [];
  accounts = record {
    ordered = record {
      next = λ a t b here leads. absurd (dummy_leads a t here (λ (u : Qtd). qtd_link_of u.next) refl b leads);
      alternate = λ a t b here leads. absurd (dummy_leads a t here (λ (u : Qtd). qtd_link_of u.alternate) refl b leads);
      queue = λ q here. record {
        next = λ b leads. omega arith;
        alternate = λ b leads. omega arith;
        current = λ on. absurd (false≢true (sym (resting q here) ∙ on));
      };
      fresh = λ a t here on from. absurd (false≢true (sym (idle a t here) ∙ on));
    };
    sorted = tt;
    published = λ a t among here from. absurd among;
    complete = λ a t here on. absurd (false≢true (sym (idle a t here) ∙ on));
    told = none_out;
  };
  sum = refl;
}
  where
    is_dummy : (a : ℕ) (t : Qtd) → parts (32 * x.queue) a ≡ Some (Element t) → dummy_qtd ≡ t
    is_dummy a t here =
        found_element (parts (32 * x.queue) (32 * x.dummy)) dummy_qtd t p.dummy (ap (parts (32 * x.queue)) (sym (p.only a t here)) ∙ here)

    idle : (a : ℕ) (t : Qtd) → parts (32 * x.queue) a ≡ Some (Element t) → t.token.active ≡ false
    idle a t here = ap (λ (u : Qtd). u.token.active) (sym (is_dummy a t here))

    resting : (q : Qh) → parts (32 * x.queue) (32 * x.queue) ≡ Some (QueueHead q) → q.token.active ≡ false
    resting q here =
        ap (λ (r : Qh). r.token.active) (sym (found_queue (parts (32 * x.queue) (32 * x.queue)) p.queue q p.here here)) ∙ p.rests.idle

    ends_not : (b : ℕ) → qtd_links.End ≡ qtd_links.To b → ⊥
    ends_not b is = cc

    dummy_leads : (a : ℕ) (t : Qtd) → parts (32 * x.queue) a ≡ Some (Element t) → (link : Qtd → QtdLink) → link dummy_qtd ≡ qtd_links.End
        → (b : ℕ)
        → link t ≡ qtd_links.To b → ⊥
    dummy_leads a t here link ends b leads = ends_not b (sym ends ∙ (ap link (is_dummy a t here) ∙ leads))

module _ (s t : Standing) (m : Lines) (w new : World) (k : IsMixedAt s w) (g : IsTelling s m w) (at : IsOpenThere (queued w.driver) s.parts)
    (alike : QueuesAlike (open_finished (queued w.driver)) (queued new.driver)) (tells : TellsAlike (queued w.driver) (queued new.driver))
    (opened : HasOpened s t at.endpoint) (mixed : IsMixedAt t new) where
  abbrev q : ℕ
  q = at.endpoint.queue

  abbrev own : ℕ
  own = 32 * at.endpoint.queue

  abbrev pub lines_then : Lines
  lines_then = record { acc = with_none m.acc (32 * at.endpoint.queue); reported = with_none m.reported (32 * at.endpoint.queue) }

  none_here : {A : Type 0} (lists : ℕ → List A) → with_none lists (32 * at.endpoint.queue) (32 * at.endpoint.queue) ≡ []
  none_here lists = ap (λ (b : Bool). if b then [] else lists own) (eq-eqb own own refl)

  none_beside : {A : Type 0} (lists : ℕ → List A) (i : ℕ) → i ≢ 32 * at.endpoint.queue
      → with_none lists (32 * at.endpoint.queue) i ≡ lists i
  none_beside lists i differs = ap (λ (b : Bool). if b then [] else lists i) (other_number i own differs)

  pub newly : IsNewlyTold (32 * at.endpoint.queue) m lines_then
  newly = record {
    none = none_here m.acc;
    untold = none_here m.reported;
    moved = λ i differs. none_beside m.acc i differs;
    beside = λ i differs. none_beside m.reported i differs;
  }

  -- the others were there before
  opened_was : (i : ℕ) → i ≢ 32 * at.endpoint.queue → there_of (queued new.driver) i ≡ true → there_of (queued w.driver) i ≡ true
  opened_was i differs on =
      let b : HasBulkThere (queued new.driver) i = bulk_there (queued new.driver) i on in
      there_by (queued w.driver) i
      (record {
        has = record {
          number = b.has.number;
          endpoint = b.has.endpoint;
          here = ap (λ (xs : List Endpoint). slice_get xs b.has.number) (sym alike.endpoints) ∙ b.has.here;
          there = record {
            linked = λ opens. differs (b.has.at ∙ ap (λ (c : ℕ). 32 * c) (same_queue b.has.endpoint.queue q (sym opens ∙ at.command)));
            kept = b.has.there.kept;
          };
          at = b.has.at;
        };
        stream = b.stream;
      })

  told_here : ToldStands (queued new.driver) (in_hand s) s.parts lines_then.reported
  told_here =
      met_is_told (queued w.driver) (queued new.driver) (in_hand s) s.parts m.reported lines_then.reported q
      (record {
        reports = tells.reports;
        store = tells.store;
        endpoints = alike.endpoints;
        transfers = alike.transfers;
        notes = alike.notes;
      })
      at.command alike.command (none_here m.reported) (λ i differs. none_beside m.reported i differs) g.told

  reported_then : (i : ℕ) → IsReported (s.order i) (with_none s.out own i) (in_hand s) s.parts i (lines_then.acc i) (lines_then.reported i)
      → IsReported (t.order i) (t.out i) (in_hand t) t.parts i (lines_then.acc i) (lines_then.reported i)
  reported_then i r =
      subst (λ (o : ℕ → ℕ → ℕ). IsReported (o i) (t.out i) (in_hand t) t.parts i (lines_then.acc i) (lines_then.reported i))
      (sym opened.order)
      (subst (λ (o : ℕ → List ℕ). IsReported (s.order i) (o i) (in_hand t) t.parts i (lines_then.acc i) (lines_then.reported i))
      (sym opened.out)
      (relinked_reported s.parts t.parts i (opened.told.parts i) (s.order i) (with_none s.out own i) (in_hand s) (in_hand t)
      (lines_then.acc i)
      (lines_then.reported i) (hands_tell s t opened.told) r))

  moved_before : (i : ℕ) → there_of (queued new.driver) i ≡ true
      → IsReported (s.order i) (with_none s.out own i) (in_hand s) s.parts i (lines_then.acc i) (lines_then.reported i)
  moved_before i on =
      ⊎_elim
      (λ (same : i ≡ own).
      subst (λ (j : ℕ). IsReported (s.order j) (with_none s.out own j) (in_hand s) s.parts j (lines_then.acc j) (lines_then.reported j))
      (sym same)
      (subst (λ (es : List ℕ). IsReported (s.order own) es (in_hand s) s.parts own (lines_then.acc own) (lines_then.reported own))
      (sym (none_here s.out))
      (subst (λ (xs : List (List ℕ)). IsReported (s.order own) [] (in_hand s) s.parts own xs (lines_then.reported own))
      (sym (none_here m.acc))
      (subst (λ (bs : List ℕ). IsReported (s.order own) [] (in_hand s) s.parts own [] bs) (sym (none_here m.reported))
      (new_reported at.endpoint (in_hand s) s.parts (s.order own) at.part)))))
      (λ (differs : i ≢ own).
      subst (λ (es : List ℕ). IsReported (s.order i) es (in_hand s) s.parts i (lines_then.acc i) (lines_then.reported i))
      (sym (none_beside s.out i differs))
      (subst (λ (xs : List (List ℕ)). IsReported (s.order i) (s.out i) (in_hand s) s.parts i xs (lines_then.reported i))
      (sym (none_beside m.acc i differs))
      (subst (λ (bs : List ℕ). IsReported (s.order i) (s.out i) (in_hand s) s.parts i (m.acc i) bs) (sym (none_beside m.reported i differs))
      (g.moved i (opened_was i differs on))))) (cases_eq i own)

  -- it is met from now on
  sound_then : (i : ℕ) → there_of (queued new.driver) i ≡ true → IsQueuePart i (t.parts i)
  sound_then i on =
      ⊎_elim
      (λ (same : i ≡ own).
      subst (λ (j : ℕ). IsQueuePart j (t.parts j)) (sym same)
      (mixed.queues.sound at.number at.endpoint (ap (λ (xs : List Endpoint). slice_get xs at.number) alike.endpoints ∙ at.here)
      (record {
        there = record { linked = λ opens. none_some (unfinished.Open at.endpoint.queue) (sym alike.command ∙ opens); kept = alive };
        near = near;
      })))
      (λ (differs : i ≢ own). queue_part i (s.parts i) (t.parts i) (opened.told.parts i) (g.sound i (opened_was i differs on)))
      (cases_eq i own)
    where
      alive : at.endpoint.gone ≡ false
      alive = linked_stands_alive at.endpoint (k.turns.turns.asynchronous.endpoints at.number at.endpoint at.here) at.fresh

      near : may_meet (queued new.driver) at.number at.endpoint ≡ true
      near = ap (λ (b : Bool). b || (is_one_of at.number (queued new.driver).waiting || is_one_of at.number (queued new.driver).rung))
          at.fresh

  pub open_telling : IsTelling t lines_then new
  open_telling = record {
    told = relinked_told (queued new.driver) (in_hand s) (in_hand t) s.parts t.parts lines_then.reported (hands_tell s t opened.told)
        (λ e x here on. opened.told.parts (32 * x.queue)) told_here;
    moved = λ i on. reported_then i (moved_before i on);
    sound = sound_then;
  }

pub open_tells : OpenTells
open_tells s t m w new k g at alike tells opened mixed = record {
  lines = lines_then s t m w new k g at alike tells opened mixed;
  newly = newly s t m w new k g at alike tells opened mixed;
  telling = open_telling s t m w new k g at alike tells opened mixed;
}
