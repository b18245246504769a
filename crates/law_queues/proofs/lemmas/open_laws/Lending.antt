-- The lend of an accepted open.
use Rattle.std.proofs.Common.{◌≡◌, ◌≢◌, ℕ, ◌*◌, Bool, true, false, List, Option, Some, ap, refl, sym, subst, ◌∙◌, ⊎_elim, inl, inr}
use Rattle.std.proofs.lemmas.Bool.{false≢true}
use Rattle.law_controller.proofs.Common.{heads_stay, elements_stay, same_hand}
use Rattle.law_common.proofs.Numbers.{same_blocks}
use Rattle.word_mem.specs.Memory.{Mem}
use Rattle.qh_qtd.specs.declared.queue_head.Qh.{Qh}
use Rattle.async_walk.specs.Walk.{Walk}
use Rattle.async_walk.specs.Rows.{place}
use Rattle.mem_runs.specs.Book.{Book, holding, lend_taken}
use Rattle.drv_table.specs.declared.content.Endpoint.{Endpoint}
use Rattle.drv_table.specs.declared.content.Command.TheVariants as unfinished
use Rattle.drv_table.specs.declared.rows.DriverRow.{DriverRow}
use Rattle.drv_table.specs.declared.rows.DriverRow.TheVariants as rows
use Rattle.drv_table.specs.DriverContent.{DriverContent}
use Rattle.drv_table.specs.Parts.{Parts as DriverParts}
use Rattle.drv_table.specs.Rows.{row_for, driver_row, after_driver_row}
use Rattle.drv_table.specs.Commands.{command_row}
use Rattle.drv_table.specs.Words.{queue_head}
use Rattle.claims_driver.specs.Owners.{EndpointRuns, runs_of_endpoint}
use Rattle.law_structures.specs.lent_structures.Structures.{Structures, StructureSets}
use Rattle.law_ring.specs.Hand.{Hand}
use Rattle.claims_base.specs.Controller.{Base}
use Rattle.law_ring.specs.Told.{Endpoint as Told}
use Rattle.law_ring.specs.Order.{IsOrdered}
use Rattle.law_driver_ring.specs.Driven.{DrivesRing}
use Rattle.law_driver_ring.specs.LendOpened.{opened_parts}
use Rattle.law_driver_ring.specs.Linked.{opened_part}
use Rattle.law_driver_ring.proofs.LendOpening.{lend_opens_drives}
use Rattle.law_driver_ring.proofs.Unmet.{open_is_unmet}
use Rattle.law_ring.proofs.SparedSparing.{spared_has_toggle, spared_endpoint, accounts_are_spared}
use Rattle.law_ring.specs.Bus.{Sender}
use Rattle.law_ring.specs.Pipes.{IsIn, IsNotIn, ArePiped}
use Rattle.law_controller.specs.controlled_streams.Reported.{AreReported}
use Rattle.law_driver_ring.specs.fed_queues.Places.{HasThere}
use Rattle.law_queues.specs.publish_laws.Stores.{QueuesThen}
use Rattle.law_queues.specs.open_laws.Opens.{IsOpenLent, next_of}
use Rattle.law_queues.specs.open_laws.Lends.{IsOpenReady, IsAtLend, LendDrives, LendStands, LendPipes, LendReports}
use Rattle.law_queues.specs.open_laws.Queues.{IsOpenToLend}
use Rattle.law_queues.proofs.lemmas.open_laws.LentQueues as queues
use Rattle.law_queues.proofs.lemmas.open_laws.Newest.{new_heads_rest}

-- what is to be lent, whatever is to lead to it
abbrev pub to_lend : {d : DriverContent} {m : Mem} → IsOpenReady d m → IsOpenToLend d m
to_lend k = record {
  number = k.number;
  endpoint = k.endpoint;
  here = k.here;
  command = k.command;
  made = k.made;
  fresh = k.fresh;
  none = k.none;
  queue = queue_head k.endpoint.desc k.link k.endpoint.dummy;
  rests = (new_heads_rest k.endpoint.desc 0 0 k.link k.endpoint.dummy).0;
  opened = k.opened;
}

module _ (base : Base) (w : Walk) (hand : Hand) (p : DriverParts) (member streams : ℕ → Bool) (ends : ℕ → Told) (parts : StructureSets) (order : ℕ → ℕ → ℕ) (out : ℕ → List ℕ) (k : IsAtLend p.driver p.memory member streams ends parts order out) (drives : DrivesRing base member parts hand (place w p.registers p.memory) p.driver) where
  abbrev d : DriverContent
  d = p.driver

  abbrev x : Endpoint
  x = k.ready.endpoint

  abbrev number : ℕ
  number = k.ready.number

  abbrev n : ℕ
  n = 32 * x.queue

  abbrev q : Qh
  q = queue_head x.desc k.ready.link x.dummy

  abbrev r : EndpointRuns
  r = runs_of_endpoint x

  abbrev now : StructureSets
  now = opened_parts parts r q

  abbrev lent_book : Book
  lent_book = (lend_taken (holding d.book p.memory)).book

  abbrev f : DriverContent
  f = record d { book = lent_book; made = 1 }

  -- ---- the row

  pub row_is : driver_row p ≡ rows.Lend
  row_is = ap (row_for p) k.ready.command ∙ ap (command_row (unfinished.Open x.queue)) k.ready.made

  pub driver_is : (next_of p).driver ≡ f
  driver_is = ap (λ (row : DriverRow). (after_driver_row row p).driver) row_is ∙ queues.open_lend_is_made p (to_lend k.ready)

  pub drives_by : DrivesRing base member now hand (place w (next_of p).registers (next_of p).memory) (next_of p).driver
  drives_by =
      subst (λ (row : DriverRow). DrivesRing base member now hand (place w (after_driver_row row p).registers (after_driver_row row p).memory) (after_driver_row row p).driver) (sym row_is)
      (lend_opens_drives base member parts hand w p.registers p.memory d number r q k.ready.opened k.sound.owners k.sound.stands drives)

  -- ---- the structures

  pub unmet : (member n ≡ false) × ((b : ℕ) → now n b ≡ opened_part r q b)
  unmet = open_is_unmet base member parts hand (place w p.registers p.memory) d p.memory number r q k.ready.opened k.sound.owners drives

  pub stay : (m : ℕ) → m ≢ n → now m ≡ parts m
  stay m differs = queues.stay p.driver p.memory member streams ends parts order out k.sound.owners k.turns drives.driven k.stand (to_lend k.ready) m differs

  met_apart : (m : ℕ) → member m ≡ true → m ≢ n
  met_apart m on same = false≢true (sym unmet.0 ∙ ap member (sym same) ∙ on)

  -- ---- what is told of the queues

  lent_then : IsOpenLent f member now
  lent_then = record {
    number = number;
    endpoint = x;
    here = k.ready.here;
    command = k.ready.command;
    made = refl;
    fresh = k.ready.fresh;
    unmet = unmet.0;
    none = k.ready.none;
    link = k.ready.link;
    part = unmet.1;
  }

  pub stands_by : QueuesThen (next_of p).driver member streams ends now order out × IsOpenLent (next_of p).driver member now
  stands_by =
      subst (λ (g : DriverContent). QueuesThen g member streams ends now order out × IsOpenLent g member now) (sym driver_is)
      ((queues.open_lend_stands p.driver p.memory member streams ends parts order out k.sound.owners k.turns drives.driven k.stand (to_lend k.ready)).0, lent_then)

  -- ---- the streams

  pub pipes_by : {W : Type 0} (sender : W → ℕ → ℕ → Option Sender) (stream : ℕ → ℕ → Bool) (packets : ℕ → ℕ → List (List ℕ)) (acc : ℕ → List (List ℕ)) (wire : W) → ((m : ℕ) → streams m ≡ true → member m ≡ true)
      → ArePiped stream packets sender member streams ends acc parts hand wire → ArePiped stream packets sender member streams ends acc now hand wire
  pipes_by sender stream packets acc wire members piped = record {
    pipes = λ m on.
        let g = piped.pipes m on in
        let same : now m ≡ parts m = stay m (met_apart m (members m on)) in
        record {
          named = spared_endpoint parts now m (ends m) (heads_stay parts now m same) g.named;
          ins = subst IsIn (sym same) g.ins;
          toggle = g.toggle;
          expects = spared_has_toggle hand hand parts now m g.toggle (same_hand hand) (heads_stay parts now m same) g.expects;
          sender = g.sender;
          is = g.is;
          half = g.half;
        };
    others = λ m on off.
        let was = piped.others m on off in
        let same : now m ≡ parts m = stay m (met_apart m on) in (
          spared_endpoint parts now m (ends m) (heads_stay parts now m same) was.0,
          ⊎_elim (λ (none : stream (ends m).addr (ends m).ep ≡ false). inl none) (λ (nots : IsNotIn (parts m)). inr (subst IsNotIn (sym same) nots)) was.1,
        );
  }

  -- no endpoint that is there has its queue head
  there_apart : (m : ℕ) → HasThere d m → m ≢ n
  there_apart m h same =
      let number = queues.same_number p.driver p.memory member streams ends parts order out k.sound.owners k.turns drives.driven k.stand (to_lend k.ready) h.number h.endpoint h.here h.there.kept (same_blocks h.endpoint.queue x.queue (sym h.at ∙ same)) in
      h.there.linked (k.ready.command ∙ ap (λ (z : Endpoint). Some (unfinished.Open z.queue)) (sym (queues.is_new p.driver p.memory member streams ends parts order out k.sound.owners k.turns drives.driven k.stand (to_lend k.ready) h.number h.endpoint h.here number)))

  pub reports_by : (acc : ℕ → List (List ℕ)) (reported : ℕ → List ℕ) (heads : ℕ → Bool) → ((m : ℕ) → heads m ≡ true → HasThere d m) → AreReported heads order out hand parts acc reported → AreReported heads order out hand now acc reported
  reports_by acc reported heads members right m on =
      let g = right m on in
      let same : now m ≡ parts m = stay m (there_apart m (members m on)) in
      record {
        place = g.place;
        told = g.told;
        accounts = accounts_are_spared (order m) (order m) g.place g.place (out m) hand hand parts now m g.told (same_hand hand) (heads_stay parts now m same) (λ e among. elements_stay parts now m e same)
            (subst (IsOrdered (order m) g.place m) (sym same) g.accounts.ordered) g.accounts.sorted
            (λ a t among here from. g.accounts.published a t among (ap (λ (part : Structures). part a) (sym same) ∙ here) from)
            (λ a t here active. g.accounts.complete a t (ap (λ (part : Structures). part a) (sym same) ∙ here) active) g.accounts;
        sum = g.sum;
      }

pub lend_drives : LendDrives
lend_drives base w hand p member streams ends parts order out k drives = drives_by base w hand p member streams ends parts order out k drives

pub lend_stands : LendStands
lend_stands base w hand p member streams ends parts order out k drives = stands_by base w hand p member streams ends parts order out k drives

pub lend_pipes : {W : Type 0} (sender : W → ℕ → ℕ → Option Sender) → LendPipes sender
lend_pipes sender stream packets acc wire base w hand p member streams ends parts order out k drives members piped = pipes_by base w hand p member streams ends parts order out k drives sender stream packets acc wire members piped

pub lend_reports : LendReports
lend_reports acc reported heads base w hand p member streams ends parts order out k drives members right = reports_by base w hand p member streams ends parts order out k drives acc reported heads members right
