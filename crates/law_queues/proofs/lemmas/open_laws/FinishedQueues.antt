-- What is told of the driver's queues once an open is finished, whatever leads to its queue head.
use Rattle.std.proofs.Common.{◌≡◌, ◌≢◌, ℕ, suc, ◌*◌, ◌||◌, ◌==◌, Bool, true, false, nat_eq, if◌then◌else◌, List, [], ◌∷◌, ◌++◌, length, slice_get, Option, Some, None, ap, refl, sym, ◌∙◌, ⊎_elim, inl, inr, arith}
use Rattle.std.proofs.lemmas.Bool.{cases_eq, eq-eqb}
use Rattle.std.proofs.lemmas.Option.{same_Some}
use Rattle.law_common.proofs.Numbers.{other_number, same_blocks}
use Rattle.law_queues.proofs.Common.{not_its_out}
use Rattle.drv_table.specs.declared.content.Endpoint.{Endpoint}
use Rattle.drv_table.specs.declared.content.Transfer.{Transfer}
use Rattle.drv_table.specs.declared.content.Command.{Command}
use Rattle.drv_table.specs.declared.content.Command.TheVariants as unfinished
use Rattle.drv_table.specs.DriverContent.{DriverContent}
use Rattle.drv_table.specs.Words.{head_block, queue_head}
use Rattle.claims_driver.specs.Leaving.{HasOwners}
use Rattle.claims_driver.specs.Owners.{NoteRuns, note_in}
use Rattle.law_structures.specs.lent_structures.Structures.{StructureSets}
use Rattle.law_ring.specs.Told.{Endpoint as Told, endpoint_of}
use Rattle.law_driver_ring.specs.Linked.{with_member, head_at}
use Rattle.law_controller.specs.controlled_streams.Opened.{with_end, with_none}
use Rattle.law_controller.proofs.lemmas.controlled_streams.Beginning.{end_here, end_beside, list_here, list_beside}
use Rattle.claims_driver.specs.Scripts.{comes_in}
use Rattle.law_driver.specs.chained_transfers.Asynchronous.{StandsAsynchronous}
use Rattle.law_driver.specs.chained_transfers.AsynchronousTurns.{AsynchronousTakesTurns}
use Rattle.law_driver.specs.chained_transfers.Out.{unpublished, out_of_transfer, out_of, out_now}
use Rattle.law_driver_ring.specs.fed_queues.Fed.{unpublished_of, AreFed}
use Rattle.law_driver_ring.specs.fed_queues.Places.{IsMet, HasHead, AreMet, HaveStreams, AreLast, AreStillOut, IsThere}
use Rattle.law_queues.specs.publish_laws.Stores.{QueuesThen}
use Rattle.law_queues.proofs.lemmas.publish_laws.Apart.{queue_placed, queues_same}
use Rattle.law_queues.specs.open_laws.Opens.{end_then, streams_then}
use Rattle.law_queues.specs.open_laws.Queues.{IsOpenThere, open_finished, OpenFinishes}
use Rattle.law_driver.proofs.lemmas.chained_transfers.Staying.{linked_stands_alive}
use Rattle.law_driver.proofs.lemmas.endpoint_lives.Lives.{linked_met}

-- ---- lists of what is out

pub none_out : (note : ℕ → NoteRuns) (e : ℕ) (ts : List Transfer) → ((t : ℕ) (y : Transfer) → slice_get ts t ≡ Some y → y.endpoint ≢ e) → out_of note e None 0 ts ≡ []
none_out note e [] none = refl
none_out note e (z ∷ []) none = ap (λ (xs : List ℕ). xs ++ []) (not_its_out note e 0 z (none 0 z refl))
none_out note e (z ∷ w ∷ zs) none =
    ap (λ (xs : List ℕ). xs ++ out_of note e None 0 (w ∷ zs)) (not_its_out note e 0 z (none 0 z refl)) ∙ none_out note e (w ∷ zs) (λ t y there. none (suc t) y there)

pub open_out : (note : ℕ → NoteRuns) (e queue made : ℕ) (ts : List Transfer) → out_of note e (Some (unfinished.Open queue)) made ts ≡ out_of note e None 0 ts
open_out note e queue made (z ∷ w ∷ zs) = ap (λ (xs : List ℕ). out_of_transfer note e 0 z ++ xs) (open_out note e queue made (w ∷ zs))
open_out note e queue made _ = refl

abbrev pub none_if : Bool → ℕ
none_if b = if b then 0 else 0

pub none_either : (b : Bool) → none_if b ≡ 0
none_either true = refl
none_either false = refl

-- ---- who has a stream then

pub then_here : (streams : ℕ → Bool) (x : Endpoint) → streams_then streams x (32 * x.queue) ≡ comes_in x.desc.name.way
then_here streams x = ap (λ (b : Bool). if b then comes_in x.desc.name.way else streams (32 * x.queue)) (eq-eqb (32 * x.queue) (32 * x.queue) refl)

pub then_beside : (streams : ℕ → Bool) (x : Endpoint) (m : ℕ) → m ≢ 32 * x.queue → streams_then streams x m ≡ streams m
then_beside streams x m differs =
    ap (λ (b : Bool). if b then comes_in x.desc.name.way else streams m) (other_number m (32 * x.queue) differs)

-- ---- members

pub member_here : (member : ℕ → Bool) (n : ℕ) → with_member member n n ≡ true
member_here member n = ap (λ (b : Bool). b || member n) (eq-eqb n n refl)

pub member_old : (member : ℕ → Bool) (n m : ℕ) → member m ≡ true → with_member member n m ≡ true
member_old member n m on = by_test (m == n)
  where
    by_test : (b : Bool) → (b || member m) ≡ true
    by_test true = refl
    by_test false = on

pub member_beside : (member : ℕ → Bool) (n m : ℕ) → m ≢ n → with_member member n m ≡ true → member m ≡ true
member_beside member n m differs on = ap (λ (b : Bool). b || member m) (sym (other_number m n differs)) ∙ on

module _ (d : DriverContent) (member streams : ℕ → Bool) (ends : ℕ → Told) (parts : StructureSets) (order : ℕ → ℕ → ℕ) (out : ℕ → List ℕ) (owners : HasOwners d) (turns : AsynchronousTakesTurns d) (k : IsOpenThere d parts) (stand : QueuesThen d member streams ends parts order out) where
  abbrev x : Endpoint
  x = k.endpoint

  abbrev n : ℕ
  n = 32 * k.endpoint.queue

  abbrev f : DriverContent
  f = open_finished d

  no_command : {b : ℕ} {words : List ℕ} → ◌≡◌ {A = Option Command} None (Some (unfinished.Publish b words)) → ⊥
  no_command same = cc

  none_before : (t : ℕ) (y : Transfer) → unpublished_of d t y ≡ 0
  none_before t y = ap (λ (o : Option Command). if nat_eq (suc t) (length d.transfers) then unpublished o d.made y.qtds else 0) k.command ∙ none_either (nat_eq (suc t) (length d.transfers))

  fed_then : AreFed f parts
  fed_then = record {
    dummies = λ e y there kept lent. stand.fed.dummies e y there kept lent;
    pieces = λ t j y z there held here from below. let none = none_before t y in stand.fed.pieces t j y z there held here (omega (arith, none)) below;
    publishes = λ b words command. absurd (no_command command);
  }

  last_then : AreLast f parts order
  last_then = record {
    dummies = λ e y there kept lent. stand.last.dummies e y there kept lent;
    taken = λ b words t y z command made newest there first here. absurd (no_command command);
    sorted = λ b words t y z command made newest there first here. absurd (no_command command);
  }

  -- ---- whom the walk meets

  none_open : (c : ℕ) → ◌≡◌ {A = Option Command} None (Some (unfinished.Open c)) → ⊥
  none_open c same = cc

  queue_of : Option Command → ℕ
  queue_of (Some (unfinished.Open c)) = c
  queue_of o = 0

  standing : StandsAsynchronous x
  standing = turns.asynchronous.endpoints k.number x k.here

  pub its_alive : x.gone ≡ false
  its_alive = linked_stands_alive x standing k.fresh

  pub same_number : (e : ℕ) (y : Endpoint) → slice_get d.endpoints e ≡ Some y → y.gone ≡ false → y.queue ≡ x.queue → e ≡ k.number
  same_number e y there kept same =
      queues_same y.queue x.queue e k.number same (queue_placed d owners e y there (turns.asynchronous.endpoints e y there) kept)
      (queue_placed d owners k.number x k.here standing its_alive)

  pub there_before : (e : ℕ) (y : Endpoint) → slice_get d.endpoints e ≡ Some y → e ≢ k.number → IsThere f y → IsThere d y
  unfolding queue_of
  there_before e y there differs is = record { linked = λ same. differs (same_number e y there is.kept (ap queue_of (sym same ∙ k.command))); kept = is.kept }

  pub met_before : (e : ℕ) (y : Endpoint) → slice_get d.endpoints e ≡ Some y → e ≢ k.number → IsMet f e y → IsMet d e y
  met_before e y there differs met = record { there = there_before e y there differs met.there; near = met.near }

  pub is_new : (e : ℕ) (y : Endpoint) → slice_get d.endpoints e ≡ Some y → e ≡ k.number → y ≡ x
  is_new e y there same = same_Some y x (sym there ∙ ap (slice_get d.endpoints) same ∙ k.here)

  pub apart : (e : ℕ) (y : Endpoint) → slice_get d.endpoints e ≡ Some y → y.gone ≡ false → e ≢ k.number → 32 * y.queue ≢ n
  apart e y there kept differs same = differs (same_number e y there kept (same_blocks y.queue x.queue same))

  head_new : (m : ℕ) → m ≡ n → HasHead f m
  head_new m same = record { number = k.number; endpoint = x; here = k.here; met = record { there = record { linked = none_open x.queue; kept = its_alive }; near = linked_met f k.number x k.fresh }; at = same }

  head_old : (m : ℕ) → HasHead d m → HasHead f m
  head_old m h = record { number = h.number; endpoint = h.endpoint; here = h.here; met = record { there = record { linked = none_open h.endpoint.queue; kept = h.met.there.kept }; near = h.met.near }; at = h.at }

  met_then : AreMet f (with_member member n)
  met_then = record {
    head = member_old member n head_at stand.met.head;
    each = λ e y there met.
        ⊎_elim (λ (same : e ≡ k.number). ap (λ (z : Endpoint). with_member member n (32 * z.queue)) (is_new e y there same) ∙ member_here member n)
        (λ (differs : e ≢ k.number). member_old member n (32 * y.queue) (stand.met.each e y there (met_before e y there differs met))) (cases_eq e k.number);
    only = λ m on.
        ⊎_elim (λ (same : m ≡ n). inr (head_new m same))
        (λ (differs : m ≢ n). ⊎_elim (λ (head : m ≡ 32 * head_block). inl head) (λ (h : HasHead d m). inr (head_old m h)) (stand.met.only m (member_beside member n m differs on))) (cases_eq m n);
  }

  streams_are_then : HaveStreams f (streams_then streams x) (with_end ends n (end_then x))
  streams_are_then = record {
    each = λ e y there met.
        ⊎_elim (λ (same : e ≡ k.number).
        let is : y ≡ x = is_new e y there same in (
          ap (λ (z : Endpoint). streams_then streams x (32 * z.queue)) is ∙ then_here streams x ∙ ap (λ (z : Endpoint). comes_in z.desc.name.way) (sym is),
          ap (λ (z : Endpoint). with_end ends n (end_then x) (32 * z.queue)) is ∙ end_here ends n (end_then x) ∙ ap (λ (z : Endpoint). endpoint_of (queue_head z.desc 0 z.dummy)) (sym is),
        ))
        (λ (differs : e ≢ k.number).
        let was = stand.streams_are.each e y there (met_before e y there differs met) in
        let other = apart e y there met.there.kept differs in (
          then_beside streams x (32 * y.queue) other ∙ was.0,
          end_beside ends n (end_then x) (32 * y.queue) other ∙ was.1,
        )) (cases_eq e k.number);
    only = λ m on.
        ⊎_elim (λ (same : m ≡ n). head_new m same) (λ (differs : m ≢ n). head_old m (stand.streams_are.only m (sym (then_beside streams x m differs) ∙ on))) (cases_eq m n);
  }

  out_before : (e : ℕ) → out_now d e ≡ out_now f e
  out_before e = ap (λ (o : Option Command). out_of (note_in d.notes) e o d.made d.transfers) k.command ∙ open_out (note_in d.notes) e x.queue d.made d.transfers

  out_then : AreStillOut f (with_none out n)
  out_then e y there met =
      ⊎_elim (λ (same : e ≡ k.number).
      ap (λ (z : Endpoint). with_none out n (32 * z.queue)) (is_new e y there same) ∙ list_here out n ∙ sym (none_out (note_in d.notes) k.number d.transfers k.none) ∙ ap (out_now f) (sym same))
      (λ (differs : e ≢ k.number).
      list_beside out n (32 * y.queue) (apart e y there met.kept differs) ∙ stand.out_are e y there (there_before e y there differs met) ∙ out_before e) (cases_eq e k.number)

  pub queues_then : QueuesThen f (with_member member n) (streams_then streams x) (with_end ends n (end_then x)) parts order (with_none out n)
  queues_then = record { met = met_then; streams_are = streams_are_then; fed = fed_then; last = last_then; out_are = out_then }

pub open_finishes : OpenFinishes
open_finishes d member streams ends parts order out owners turns k stand = queues_then d member streams ends parts order out owners turns k stand
