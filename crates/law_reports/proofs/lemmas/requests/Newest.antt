-- The newest transfer of a driver, while it is being published, is none of those that are asked.
use Rattle.std.proofs.Common.{◌≡◌, ◌≢◌, ℕ, suc, ◌+◌, ◌-◌, ◌*◌, ◌<◌, ◌≤◌, Bool, true, List, length, slice_get, Option, Some, None, if◌then◌else◌, ap, refl, sym, subst, ◌∙◌, ⊎_elim, inr, arith}
use Rattle.std.specs.Prelude.{◌⊎◌}
use Rattle.std.proofs.lemmas.Bool.{eq-eqb, false≢true}
use Rattle.std.proofs.lemmas.Option.{same_Some}
use Rattle.law_world.proofs.Common.{no_open}
use Rattle.word_mem.specs.Memory.{Mem}
use Rattle.bus_wire.specs.Bus.{Wired}
use Rattle.drv_table.specs.declared.content.Command.{Command}
use Rattle.drv_table.specs.declared.content.Command.TheVariants as unfinished
use Rattle.drv_table.specs.declared.content.Endpoint.{Endpoint}
use Rattle.drv_table.specs.declared.content.Transfer.{Transfer}
use Rattle.drv_table.specs.DriverContent.{DriverContent}
use Rattle.claims_driver.specs.Owners.{Element, note_in}
use Rattle.claims_driver.specs.Leaving.{HasOwners}
use Rattle.law_driver.specs.chained_transfers.Asynchronous.{OnlyAsynchronous}
use Rattle.law_driver_ring.proofs.lemmas.fed_queues.Places.{stands_met}
use Rattle.law_structures.specs.lent_structures.Structures.{StructureSets}
use Rattle.claims_report.specs.Requests.{Request}
use Rattle.law_request.specs.Host.{Stage, Setup, Data}
use Rattle.law_ring.specs.Hand.{Hand}
use Rattle.law_devices.specs.ring_requests.Laid.{Places, place_at}
use Rattle.law_devices.specs.ring_requests.Windows.{Sent}
use Rattle.claims_world.specs.Requests.{Windows}
use Rattle.law_reports.specs.requests.driver_requests.Requests.{IsLaidOut}
use Rattle.law_reports.proofs.lemmas.requests.lemmas.driver_requests.Owning.{qtds_case, first_piece, setup_place, IsQtdAt, status_place, data_place, owned_piece}
use Rattle.law_reports.specs.requests.Courses.{queue_in, have_queues}
use Rattle.law_reports.specs.requests.Records.{IsRecord}
use Rattle.law_queues.specs.standing_fronts.Tails.{tail_block}
use Rattle.law_reports.specs.requests.Asking.{Sides, Asking, is_publishing, is_next_of, HasCourse, IsMetControl, AsksIn}

-- ---- where the tail is

tail_at : (o : Option Transfer) (e dummy b : ℕ) (words : List ℕ) → is_publishing (Some (unfinished.Publish b words)) o e ≡ true
    → tail_block (Some (unfinished.Publish b words)) o e dummy ≡ b
tail_at None e dummy b words is = absurd (false≢true is)
tail_at (Some y) e dummy b words is = ap (λ (z : Bool). if z then b else dummy) is

pub tail_next : (c : Option Command) (o : Option Transfer) (e dummy b : ℕ) (words : List ℕ) → c ≡ Some (unfinished.Publish b words)
    → is_publishing c o e ≡ true → tail_block c o e dummy ≡ b
tail_next c o e dummy b words command is =
    ap (λ (z : Option Command). tail_block z o e dummy) command ∙ tail_at o e dummy b words (sym (ap (λ (z : Option Command). is_publishing z o e) command) ∙ is)

-- ---- where its qTDs stand

module _ (d : DriverContent) (t : ℕ) (r : Request) (x : Places) (k : IsLaidOut d t r x) where
  setup_at : IsQtdAt d k.own x.setup
  setup_at = record {
    block = k.own.first;
    at = sym (setup_place d t r x k);
    piece = first_piece (note_in d.notes) k.own.first k.own.qtds
        (let q = k.qtds in ⊎_elim {C = 1 ≤ k.own.qtds} (λ none. let m = none.1 in omega (arith, q, m)) (λ some. let m = some.1 in omega (arith, q, m)) (qtds_case r));
  }

  stands_at : (s : Stage) → (place_at x s ≡ 32 * k.own.first + 1) ⊎ IsQtdAt d k.own (place_at x s)
  stands_at Setup = inr setup_at
  stands_at Data = data_place d t r x k
  stands_at _ = inr (status_place d t r x k)

module _ (g : Sides) (member : ℕ → Bool) (parts : StructureSets) (hand : Hand) (a : Asking) (v : Windows) (asks : ℕ → Request)
    (d : DriverContent) (m : Mem) (wire : Wired)
    (q : AsksIn g member parts hand a v asks d m wire) (has : HasOwners d) where
  abbrev record_at : (n : ℕ) → have_queues a.courses n ≡ true → IsRecord d asks n (a.courses n) (a.numbers n) v
  record_at n on = q.records.each n on

  pub fewer : (n i : ℕ) → have_queues a.courses n ≡ true → i < (queue_in (a.courses n)).count → i < (a.numbers n).requests.count
  fewer n i on few = let least = (record_at n on).numbered.ahead.few in omega (arith, few, least)

  pub same_places : (n i : ℕ) → have_queues a.courses n ≡ true → i < (queue_in (a.courses n)).count
      → (a.numbers n).requests.places i ≡ (queue_in (a.courses n)).places i
  same_places n i on few = ap (λ (s : Sent). s.places) ((record_at n on).numbered.ahead.same i few)

  pub laid_at : (n i : ℕ) → have_queues a.courses n ≡ true → i < (a.numbers n).requests.count
      → IsLaidOut d ((a.numbers n).number i) ((a.numbers n).requests.requests i) ((a.numbers n).requests.places i)
  laid_at n i on few = (record_at n on).numbered.own.laid i (omega arith) few

  -- the block of a qTD of a request is its transfer's
  pub owner_at : (n i c : ℕ) (s : Stage) → have_queues a.courses n ≡ true → i < (queue_in (a.courses n)).count
      → place_at ((queue_in (a.courses n)).places i) s ≡ 32 * c
      → has.owner c ≡ Element ((a.numbers n).number i)
  owner_at n i c s on few at =
      let t = (a.numbers n).number i in
      let r = (a.numbers n).requests.requests i in
      let x = (a.numbers n).requests.places i in
      let k : IsLaidOut d t r x = laid_at n i on (fewer n i on few) in
      let here : place_at x s ≡ 32 * c = ap (λ (p : Places). place_at p s) (same_places n i on few) ∙ at in
      ⊎_elim {C = has.owner c ≡ Element t} (λ (odd : place_at x s ≡ 32 * k.own.first + 1). absurd (omega (arith, here, odd)))
      (λ (p : IsQtdAt d k.own (place_at x s)).
      let one = p.at in
      subst (λ (j : ℕ). has.owner j ≡ Element t) (let same : p.block ≡ c = omega (arith, here, one) in same) (owned_piece d has t p.block k.own k.here k.held p.piece))
      (stands_at d t r x k s)

  -- ---- the newest transfer

  module _ (t b : ℕ) (words : List ℕ) (y : Transfer) (z : Endpoint) (only : OnlyAsynchronous d)
      (command : d.command ≡ Some (unfinished.Publish b words)) (newest : suc t ≡ length d.transfers)
      (there : slice_get d.transfers t ≡ Some y) (here : slice_get d.endpoints y.endpoint ≡ Some z) (going : z.ended ≡ None) where
    last_is : slice_get d.transfers (length d.transfers - 1) ≡ Some y
    last_is = let same : length d.transfers - 1 ≡ t = omega (arith, newest) in ap (slice_get d.transfers) same ∙ there

    pub its_next : is_next_of d y.endpoint ≡ true
    its_next =
        ap (λ (c : Option Command). is_publishing c (slice_get d.transfers (length d.transfers - 1)) y.endpoint) command
        ∙ ap (λ (o : Option Transfer). is_publishing (Some (unfinished.Publish b words)) o y.endpoint) last_is ∙ eq-eqb y.endpoint y.endpoint refl

    pub its_control : g.asks z.desc ≡ true → IsMetControl g d y.endpoint z
    its_control control = record {
      is = record { here = here; control = control };
      met = stands_met d y.endpoint z (only.endpoints y.endpoint z here) going (λ opens. no_open b z.queue words (sym command ∙ opens));
    }

    pub not_asked : (n i : ℕ) → have_queues a.courses n ≡ true → i < (queue_in (a.courses n)).count → (a.numbers n).number i ≢ t
    not_asked n i on few same =
        let r : IsRecord d asks n (a.courses n) (a.numbers n) v = record_at n on in
        let e = (a.numbers n).endpoint in
        let of = r.numbered.own.transfers i (fewer n i on few) in
        let end = r.numbered.own.endpoint in
        let is : of.own ≡ y = same_Some of.own y (sym of.here ∙ ap (slice_get d.transfers) same ∙ there) in
        let number : y.endpoint ≡ e = sym (ap (λ (u : Transfer). u.endpoint) is) ∙ of.endpoint in
        let own : end.own ≡ z = same_Some end.own z (sym end.here ∙ ap (slice_get d.endpoints) (sym number) ∙ here) in
        let place : n ≡ 32 * z.queue = end.queue ∙ ap (λ (u : Endpoint). 32 * u.queue) own in
        let control : g.asks z.desc ≡ true = q.asked n z on (ap (slice_get d.endpoints) (sym number) ∙ here) in
        let k : HasCourse g d y.endpoint z (a.courses n) (a.numbers n) =
        subst (λ (j : ℕ). HasCourse g d y.endpoint z (a.courses j) (a.numbers j)) (sym place) (q.each y.endpoint z (its_control control)) in
        let last = k.newest its_next in
        let many = k.count ∙ ap (λ (u : Bool). if u then suc (queue_in (a.courses n)).count else (queue_in (a.courses n)).count) its_next in
        let less = r.numbered.own.rising i (queue_in (a.courses n)).count few (let more : (queue_in (a.courses n)).count < (a.numbers n).requests.count = omega (arith, many) in more) in
        omega (arith, last, newest, same, less)
