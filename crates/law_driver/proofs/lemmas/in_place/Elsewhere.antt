-- What the controller writes elsewhere leaves everything in place; and so does any move, and any run.
use Rattle.std.proofs.Common.{◌≡◌, ℕ, ◌+◌, ◌*◌, ◌%◌, ◌≤◌, true, List, [], ◌∷◌, ◌++◌, length, slice_get, Option, Some, None, Result, Ok, Err, ap, sym, ◌∙◌, ⊎_elim, refl, arith}
use Rattle.law_driver.proofs.Common.{ring_queue, pushed, newest_get}
use Rattle.usb_base.specs.declared.commands.Cmd.{Cmd}
use Rattle.usb_base.specs.declared.reports.OfferError.{OfferError}
use Rattle.word_mem.specs.Memory.{Mem, word_at}
use Rattle.word_mem.specs.declared.blocks.BlockState.{BlockState}
use Rattle.word_mem.proofs.Frames.{shaped_same}
use Rattle.word_mem.proofs.Holders.{held_states}
use Rattle.mem_runs.specs.Book.{kept_in, lent_in}
use Rattle.drv_table.specs.declared.content.Endpoint.{Endpoint}
use Rattle.drv_table.specs.declared.content.Reserve.{Reserve}
use Rattle.drv_table.specs.declared.content.Command.{Command}
use Rattle.drv_table.specs.declared.content.Command.TheVariants as unfinished
use Rattle.drv_table.specs.DriverContent.{DriverContent}
use Rattle.drv_table.specs.Words.{head_block}
use Rattle.drv_table.specs.Opening.{opening}
use Rattle.drv_table.specs.Accepting.{Offered}
use Rattle.drv_table.specs.Offers.{offered, IsOffered}
use Rattle.drv_table.specs.Parts.{Parts}
use Rattle.claims_driver.specs.Leaving.{IsOrderly}
use Rattle.law_driver.proofs.lemmas.run_owners.Orders.{times_both}
use Rattle.claims_driver.specs.Ring.{link_in, IsAmong}
use Rattle.law_driver.specs.ring_members.Words.{IsOpening, StandsFor, IsRing}
use Rattle.law_driver.proofs.lemmas.ring_members.Links.{linked_kept}
use Rattle.law_driver.proofs.lemmas.ring_members.Placed.{left_ring, linked_alive}
use Rattle.law_driver.proofs.lemmas.ring_members.Events.{KeepsRing, linked_apart, leaving_apart, command_apart}
use Rattle.claims_driver.specs.InPlace.{IsMet, IsFixed}
use Rattle.law_driver.specs.in_place.InPlace.{IsInPlace}
use Rattle.law_driver.specs.queue_head_words.Overlay.{HasQueueHead, of_ring, of_endpoint}
use Rattle.law_driver.specs.in_place.Run.{IsElsewhere, Move, Offer, Event, Controller, accepted, moved, IsAllowed, run, AreAllowed}
use Rattle.law_driver.proofs.lemmas.in_place.Opened.{opening_is_in_place}
use Rattle.law_driver.proofs.lemmas.in_place.Laws.{commands_keep_all_in_place, events_keep_all_in_place}

-- ---- the ring

keeps_links : (d : DriverContent) (m new : Mem) → IsElsewhere d m new → KeepsRing d (link_in m) (link_in new)
keeps_links d m new is = ((λ e x here ring alive. first x.queue (of_endpoint e x here (ring_queue x.desc.kind ring) alive refl)), first head_block (of_ring refl))
  where
    first : (b : ℕ) → HasQueueHead d b → link_in new b ≡ link_in m b
    first b there =
        let e : 32 * b ≡ 32 * b + 4 * 0 = omega arith in
        ap (word_at new) e ∙ is.heads b 0 there (omega arith) ∙ sym (ap (word_at m) e)

-- between the stores of an open
opening_apart : (word now : ℕ → ℕ) (d : DriverContent) (q : ℕ) → IsOrderly d → KeepsRing d word now → IsOpening word d.endpoints q → IsOpening now d.endpoints q
opening_apart word now d q order keeps s =
    let there : (i : ℕ) (x : Endpoint) → slice_get s.older i ≡ Some x → slice_get d.endpoints i ≡ Some x = λ i x here. ap (λ (xs : List Endpoint). slice_get xs i) s.all ∙ pushed s.older s.new i x here in
    let at : slice_get d.endpoints (length s.older) ≡ Some s.new = ap (λ (xs : List Endpoint). slice_get xs (length s.older)) s.all ∙ newest_get s.older s.new in
    let alive = linked_alive d (length s.older) s.new order at s.linked in
    record {
      older = s.older;
      new = s.new;
      all = s.all;
      linked = s.linked;
      here = s.here;
      ring = linked_kept word now head_block s.older (λ i x here on. let l = linked_alive d i x order (there i x here) on in keeps.0 i x (there i x here) l.0 l.1) keeps.1 s.ring;
      link = sym (ap now s.here) ∙ keeps.0 (length s.older) s.new at alive.0 alive.1 ∙ ap word s.here ∙ s.link;
    }

stands_apart : (word now : ℕ → ℕ) (d : DriverContent) (o : Option Command) → IsOrderly d → KeepsRing d word now → StandsFor word d.endpoints d.transfers o → StandsFor now d.endpoints d.transfers o
stands_apart word now d None order keeps s = linked_apart word now d order keeps s
stands_apart word now d (Some (unfinished.Open q)) order keeps s = opening_apart word now d q order keeps s
stands_apart word now d (Some (unfinished.Publish b words)) order keeps s =
    record { ring = linked_apart word now d order keeps s.ring; number = s.number; transfer = s.transfer; there = s.there; first = s.first; released = s.released; some = s.some }
stands_apart word now d (Some (unfinished.Unlink e b link)) order keeps s =
    record { ring = linked_apart word now d order keeps s.ring; endpoint = s.endpoint; here = s.here; linked = s.linked; cancelled = s.cancelled; from = s.from; over = s.over }
stands_apart word now d (Some unfinished.Chain) order keeps s = command_apart word now d unfinished.Chain refl order keeps s
stands_apart word now d (Some (unfinished.Iso e t count)) order keeps s = command_apart word now d (unfinished.Iso e t count) refl order keeps s
stands_apart word now d (Some (unfinished.Unchain e)) order keeps s = command_apart word now d (unfinished.Unchain e) refl order keeps s

ring_stays : (word now : ℕ → ℕ) (d : DriverContent) → IsOrderly d → KeepsRing d word now → IsRing word d → IsRing now d
ring_stays word now d order keeps old = record {
  ring = stands_apart word now d d.command order keeps old.ring;
  leaving = leaving_apart word now d order keeps old.leaving;
  mends = old.mends;
  kept = old.kept;
}

-- ---- the fixed words

fixed_stay : (d : DriverContent) (m new : Mem) (b first second : ℕ) → IsElsewhere d m new → HasQueueHead d b → IsFixed m b first second → IsFixed new b first second
fixed_stay d m new b first second is there old =
    let e : 32 * b + 4 ≡ 32 * b + 4 * 1 = omega arith in
    let f : 32 * b + 8 ≡ 32 * b + 4 * 2 = omega arith in
    record {
      characteristics = ap (word_at new) e ∙ is.heads b 1 there (omega arith) ∙ sym (ap (word_at m) e) ∙ old.characteristics;
      capabilities = ap (word_at new) f ∙ is.heads b 2 there (omega arith) ∙ sym (ap (word_at m) f) ∙ old.capabilities;
    }

met_there : (d : DriverContent) (e : ℕ) (x : Endpoint) → IsOrderly d → slice_get d.endpoints e ≡ Some x → IsMet d e x → HasQueueHead d x.queue
met_there d e x order here met =
    ⊎_elim (λ (on : x.linked ≡ true). let l =
    linked_alive d e x order here on in of_endpoint e x here (ring_queue x.desc.kind l.0) l.1 refl)
    (λ (left : IsAmong e (d.rung ++ d.waiting)).
    let l = left_ring d e x (d.rung ++ d.waiting) order (omega (arith, times_both e d.rung d.waiting)) left here in of_endpoint e x here (ring_queue x.desc.kind l.0) l.1 refl) met

-- ---- the controller

pub the_controller_keeps_all_in_place : (d : DriverContent) (m new : Mem) → IsElsewhere d m new → IsInPlace m d → IsInPlace new d
the_controller_keeps_all_in_place d m new is old =
    let s = old.sound in
    record {
      sound = record {
        stands = record {
          held = held_states m new (kept_in d.book.slots) (lent_in d.book.slots) is.states s.stands.held;
          placed = s.stands.placed;
          clean = λ b i free below. let was = sym (ap (λ (ss : List BlockState). slice_get ss b) is.states) ∙ free in is.free b i was below ∙ s.stands.clean b i was below;
          sizes = s.stands.sizes ∙ sym (ap (λ (ss : List BlockState). length ss) is.states);
          few = s.stands.few;
        };
        shape = shaped_same m new is.size is.states s.shape;
        owners = s.owners;
        listed = s.listed;
        ring = ring_stays (link_in m) (link_in new) d s.owners.orderly (keeps_links d m new is) s.ring;
      };
      lent = old.lent;
      queues = old.queues;
      fixed = record {
        each = λ e x here met. fixed_stay d m new x.queue _ _ is (met_there d e x s.owners.orderly here met) (old.fixed.each e x here met);
        head = fixed_stay d m new head_block _ _ is (of_ring refl) old.fixed.head;
      };
    }

-- ---- any move

accepted_in_place : (p : Parts) (cmd : Cmd) (r : Result Offered OfferError) → IsOffered p.driver.room cmd → offered p.driver p.memory cmd ≡ r → IsInPlace p.memory p.driver → IsInPlace (accepted p r).memory (accepted p r).driver
accepted_in_place p cmd (Ok o) room is old = commands_keep_all_in_place p.driver p.memory cmd o room old is
accepted_in_place p cmd (Err why) room is old = old

move_in_place : (p : Parts) (move : Move) → IsAllowed p move → IsInPlace p.memory p.driver → IsInPlace (moved p move).memory (moved p move).driver
move_in_place p (Offer cmd) room old = accepted_in_place p cmd (offered p.driver p.memory cmd) room refl old
move_in_place p Event room old = events_keep_all_in_place p old
move_in_place p (Controller registers memory) is old = the_controller_keeps_all_in_place p.driver p.memory memory is old

pub run_in_place : (p : Parts) (moves : List Move) → AreAllowed p moves → IsInPlace p.memory p.driver → IsInPlace (run p moves).memory (run p moves).driver
unfolding run AreAllowed
run_in_place p [] allowed old = old
run_in_place p (move ∷ moves) allowed old = run_in_place (moved p move) moves allowed.1 (move_in_place p move allowed.0 old)

pub a_run_stays_in_place : (n : ℕ) (room : Reserve) (moves : List Move) → 2048 ≤ n → n ≤ 262144 → n % 1024 ≡ 0 → AreAllowed (opening n room) moves → IsInPlace (run (opening n room) moves).memory (run (opening n room) moves).driver
a_run_stays_in_place n room moves many few whole allowed =
    run_in_place (opening n room) moves allowed (opening_is_in_place n room many few whole)
