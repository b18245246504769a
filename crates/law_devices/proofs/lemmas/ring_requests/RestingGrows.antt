-- The store that makes the qTD at the end of a queue at rest the SETUP of a request begins a queue that asks.
use Rattle.std.proofs.Common.{◌≡◌, ℕ, ◌-◌, true, false, List, [], length, take, Option, Some, ap, sym, subst, ◌∙◌, arith}
use Rattle.std.proofs.lemmas.Bool.{false≢true}
use Rattle.link_words.specs.declared.kinds.QtdLink.TheVariants.{To}
use Rattle.qh_qtd.specs.declared.qtd.Qtd.{Qtd}
use Rattle.qh_qtd.specs.declared.queue_head.Qh.{Qh}
use Rattle.law_structures.specs.lent_structures.Structures.{QueueHead, Element, StructureSets, put}
use Rattle.law_structures.specs.lent_structures.Sound.{HasBuffer}
use Rattle.law_structures.proofs.lemmas.lent_structures.Names.{put_else}
use Rattle.law_structures.proofs.lemmas.lent_structures.Altering.{no_two}
use Rattle.dev_control.specs.Stages.{Stages}
use Rattle.law_request.specs.Host.{Data, has_data}
use Rattle.claims_report.specs.ControlSides.{Device}
use Rattle.law_ring.specs.Hand.{Hand}
use Rattle.law_ring.specs.Effects.{bytes_in, buffer_of}
use Rattle.law_ring.specs.Told.{Told}
use Rattle.law_ring.proofs.Ordering.{not_worked, works_by}
use Rattle.law_devices.specs.ring_requests.Laid.{IsFresh}
use Rattle.law_devices.specs.ring_requests.Windows.{Queue, sent_at, IsLaid, AreLaid}
use Rattle.law_devices.specs.ring_requests.Resting.{IsAtRest, IsFirstStore, HasBegun, QueueGrows}
use Rattle.law_devices.proofs.lemmas.ring_requests.Telling.{requests_open_their_windows}

module _ (v : Queue) (c : Stages) (b n : ℕ) (hand : Hand) (parts : StructureSets) (o : Option Device) (new : Qtd) (k : IsAtRest v.endpoint c b hand parts n o) (goes_on : k.queue.token.halted ≡ false) (store : IsFirstStore v b (put parts n b (Element new) n)) where
  abbrev now : StructureSets
  now = put parts n b (Element new)

  abbrev q : Qh
  q = k.queue

  head : put parts n b (Element new) n n ≡ Some (QueueHead k.queue)
  head = put_else parts n b (Element new) n (no_two (parts n) n b (QueueHead q) (Element k.tail.qtd) k.head k.tail.here (λ z. cc)) ∙ k.head

  -- nothing is told of it yet
  none_told : has_data (v.requests 0) ≡ true → Told hand (put parts n b (Element new)) n (v.places 0).data_at []
  none_told some =
      let f : IsFresh v.endpoint (v.requests 0) (v.places 0) (now n) Data = store.fresh Data some in
      let has : HasBuffer (now n) f.stage.qtd f.stage.qtd.token.total = store.buffer some f.stage.qtd f.stage.here in
      let bs : List ℕ = buffer_of (now n) f.stage.qtd in
      let size = ap length (ap bytes_in has.here) ∙ has.size in
      let none : length bs - f.stage.qtd.token.total ≡ 0 = omega (arith, size) in
      record {
        queue = q;
        head = head;
        qtd = f.stage.qtd;
        here = f.stage.here;
        are = sym (not_worked hand n q (v.places 0).data_at f.stage.qtd bs (works_by q (v.places 0).data_at false k.idle (λ on. absurd (false≢true on))) ∙ ap (λ (i : ℕ). take i bs) none);
      }

  first : IsLaid (sent_at v 0) hand (put parts n b (Element new)) n k.queue
  first = record {
    head = head;
    control = k.control;
    idle = k.idle;
    nothing_made = k.unsettled;
    leads = k.leads goes_on ∙ ap To (sym store.setup);
    fresh = store.fresh;
    none_told = none_told;
  }

  laid : AreLaid v hand (put parts n b (Element new)) n k.queue
  laid = record {
    some = let one = store.one in omega (arith, one);
    first = first;
    behind = λ i more few. let one = store.one in absurd (omega (arith, more, few, one));
    tail = λ i a last is. let one = store.one in store.tail a (subst (λ (j : ℕ). (v.places j).behind ≡ Some a) (let none : i ≡ 0 = omega (arith, last, one) in none) is);
  }

  begun : HasBegun v c hand (put parts n b (Element new)) n o k.queue
  begun = record { laid = laid; asks = requests_open_their_windows v hand now n q c o laid k.max k.device }

pub queue_grows : QueueGrows
queue_grows v c b n hand parts o new k goes_on store = begun v c b n hand parts o new k goes_on store
