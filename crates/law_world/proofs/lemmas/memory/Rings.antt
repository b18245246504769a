-- The ring of a driver, as the words of memory tell it.
use Rattle.std.proofs.Common.{◌≡◌, ◌≢◌, ℕ, zero, suc, ◌-◌, Bool, true, false, not, cond, if◌then◌else◌, List, [], ◌∷◌, length, take, slice_get, Option, Some, option_map, ap, sym, subst, ◌∙◌, ⊎_elim, refl, arith}
use Rattle.std.proofs.lemmas.Bool.{cases_Bool, false≢true}
use Rattle.std.proofs.lemmas.Option.{slice_get-map}
use Rattle.law_world.proofs.Common.{without_last}
use Rattle.law_driver.proofs.Common.{ring_queue}
use Rattle.word_mem.specs.Memory.{Mem}
use Rattle.drv_periodic_table.specs.Periodic.{is_periodic}
use Rattle.drv_table.specs.Kinds.{is_iso}
use Rattle.drv_table.specs.declared.content.Endpoint.{Endpoint}
use Rattle.drv_table.specs.declared.content.Transfer.{Transfer}
use Rattle.drv_table.specs.declared.content.Command.{Command}
use Rattle.drv_table.specs.declared.content.Command.TheVariants as unfinished
use Rattle.drv_table.specs.DriverContent.{DriverContent}
use Rattle.drv_table.specs.Words.{head_block}
use Rattle.claims_driver.specs.Ring.{link_in, members_from, members}
use Rattle.law_driver.specs.ring_members.Words.{AreLinked, StandsFor}
use Rattle.law_driver.specs.in_place.InPlace.{IsSound}
use Rattle.law_driver.proofs.lemmas.ring_members.Links.{AreDistinct, rest_distinct, ring_is_read}
use Rattle.law_driver.proofs.lemmas.ring_members.Placed.{ring_distinct}
use Rattle.law_driver.specs.chained_transfers.Asynchronous.{StandsAsynchronous}
use Rattle.law_driver.specs.queued_drivers.Queued.{without_queue, with_queue, queued_endpoint, QueuesTakeTurns}
use Rattle.claims_world.specs.Memory.{linked_to, IsNone, AreOnce, ReadsRing}

-- ---- each once

none_grown : (b q : ℕ) (bs : List ℕ) (on : Bool) → IsNone b bs → (on ≡ true → b ≢ q) → IsNone b (cond on (q ∷ bs) bs)
none_grown b q bs true none apart = (apart refl, none)
none_grown b q bs false none apart = none

none_from : (b : ℕ) (bs : List ℕ) (xs : List Endpoint) → IsNone b bs → ((i : ℕ) (x : Endpoint) → slice_get xs i ≡ Some x → x.linked ≡ true → b ≢ x.queue) → IsNone b (members_from bs xs)
none_from b bs [] none each = none
none_from b bs (x ∷ xs) none each =
    none_from b (cond x.linked (x.queue ∷ bs) bs) xs (none_grown b x.queue bs x.linked none (each 0 x refl)) (λ i y there on. each (suc i) y there on)

once_grown : (q : ℕ) (bs : List ℕ) (on : Bool) → AreOnce bs → (on ≡ true → IsNone q bs) → AreOnce (cond on (q ∷ bs) bs)
once_grown q bs true once none = (none refl, once)
once_grown q bs false once none = once

once_from : (bs : List ℕ) (xs : List Endpoint) → AreOnce bs → ((i : ℕ) (x : Endpoint) → slice_get xs i ≡ Some x → x.linked ≡ true → IsNone x.queue bs) → AreDistinct xs
    → AreOnce (members_from bs xs)
once_from bs [] once none distinct = once
once_from bs (x ∷ xs) once none distinct =
    once_from (cond x.linked (x.queue ∷ bs) bs) xs (once_grown x.queue bs x.linked once (none 0 x refl))
    (λ i y there on. none_grown y.queue x.queue bs x.linked (none (suc i) y there on) (λ also. distinct.apart (suc i) 0 y x there refl on also (λ k. omega (arith, k))))
    (rest_distinct x xs distinct)

ring_once : (xs : List Endpoint) → AreDistinct xs → AreOnce (head_block ∷ members xs)
ring_once xs distinct = (
  none_from head_block [] xs tt (λ i x there on same. distinct.off_head i x there on (sym same)),
  once_from [] xs tt (λ i x there on. tt) distinct,
)

-- ---- those before the newest

taken_there : (n : ℕ) (xs : List Endpoint) (i : ℕ) (x : Endpoint) → slice_get (take n xs) i ≡ Some x → slice_get xs i ≡ Some x
taken_there zero [] i x here = absurd (cc)
taken_there zero (y ∷ xs) i x here = absurd (cc)
taken_there (suc n) [] i x here = absurd (cc)
taken_there (suc n) (y ∷ xs) zero x here = here
taken_there (suc n) (y ∷ xs) (suc i) x here = taken_there n xs i x here

taken_distinct : (n : ℕ) (xs : List Endpoint) → AreDistinct xs → AreDistinct (take n xs)
taken_distinct n xs distinct = record {
  off_head = λ i x here on. distinct.off_head i x (taken_there n xs i x here) on;
  apart = λ i j x y here there on also differ. distinct.apart i j x y (taken_there n xs i x here) (taken_there n xs j y there) on also differ;
}

-- ---- the ring as it is read

pub linked_now : (word : ℕ → ℕ) (xs : List Endpoint) (ts : List Transfer) (o : Option Command) → StandsFor word xs ts o → AreLinked word head_block (linked_to o xs)
linked_now word xs ts (Some (unfinished.Open queue)) s =
    subst (λ (ys : List Endpoint). AreLinked word head_block (take (length ys - 1) ys)) (sym s.all) (subst (λ (ys : List Endpoint). AreLinked word head_block ys) (sym (without_last s.older s.new)) s.ring)
linked_now word xs ts (Some (unfinished.Publish b words)) s = s.ring
linked_now word xs ts (Some (unfinished.Unlink e b link)) s = s.ring
linked_now word xs ts (Some (unfinished.Iso e t count)) s = s.ring
linked_now word xs ts _ s = s

distinct_now : (xs : List Endpoint) (o : Option Command) → AreDistinct xs → AreDistinct (linked_to o xs)
distinct_now xs (Some (unfinished.Open queue)) distinct = taken_distinct (length xs - 1) xs distinct
distinct_now xs _ distinct = distinct

-- a bulk or control endpoint that isn't cancelled is in the ring
ring_fresh : (x : Endpoint) → is_iso x.desc.kind ≡ false → is_periodic x.desc.kind ≡ false → StandsAsynchronous (queued_endpoint x) → x.cancelled ≡ false → x.linked ≡ true
ring_fresh x iso off stands fresh =
    let with : queued_endpoint x ≡ with_queue x = ap (λ (b : Bool). if b then without_queue x else with_queue x) iso in
    let same : (with_queue x).linked ≡ x.linked = ap (λ (b : Bool). if b then not x.gone else x.linked) off in
    ⊎_elim (λ (on : x.linked ≡ true). on)
    (λ (not_on : x.linked ≡ false).
    absurd (false≢true (sym fresh ∙ sym (ap (λ (y : Endpoint). y.cancelled) with) ∙ stands.unlinked (ap (λ (y : Endpoint). y.linked) with ∙ same ∙ not_on)))) (cases_Bool x.linked)

pub reads_ring : (m : Mem) (d : DriverContent) → IsSound m d → QueuesTakeTurns d → ReadsRing m d
reads_ring m d sound turns = record {
  all = λ e x here off fresh. ring_fresh x (ring_queue x.desc.kind off) off (turns.turns.asynchronous.endpoints e (queued_endpoint x) (slice_get-map queued_endpoint d.endpoints e ∙ ap (option_map queued_endpoint) here)) fresh;
  chain = ring_is_read (link_in m) (linked_to d.command d.endpoints) (linked_now (link_in m) d.endpoints d.transfers d.command sound.ring.ring);
  once = ring_once (linked_to d.command d.endpoints) (distinct_now d.endpoints d.command (ring_distinct d sound.owners));
}
