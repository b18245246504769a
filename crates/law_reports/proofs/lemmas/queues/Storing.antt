-- The qTDs of a transfer that is being stored stand behind its first: those that are lent were written before.
use Rattle.std.proofs.Common.{◌≡◌, ◌≢◌, ℕ, zero, suc, ◌*◌, ◌<◌, ◌≤◌, ◌⊎◌, Bool, true, false, if◌then◌else◌, List, [], ◌∷◌, length, slice_get, Option, Some, None, ap, refl, sym, subst, ◌∙◌, ⊎_elim, inl, inr, arith}
use Rattle.std.specs.Prelude.{nat_eq}
use Rattle.std.specs.List.{AllByRecursion}
use Rattle.std.proofs.lemmas.Bool.{cases_eq}
use Rattle.std.proofs.lemmas.Option.{same_Some}
use Rattle.law_common.proofs.Numbers.{other_number}
use Rattle.law_world.proofs.Common.{none_some}
use Rattle.link_words.specs.Links.{qtd_link_of}
use Rattle.mem_runs.specs.declared.slots.Slot.{Slot}
use Rattle.mem_runs.specs.Book.{slot_of}
use Rattle.drv_table.specs.declared.content.Command.{Command}
use Rattle.drv_table.specs.declared.content.Command.TheVariants as unfinished
use Rattle.drv_table.specs.declared.content.Endpoint.{Endpoint}
use Rattle.drv_table.specs.declared.content.QtdNote.{QtdNote}
use Rattle.drv_table.specs.declared.content.Stage.{Stage}
use Rattle.drv_table.specs.declared.content.Transfer.{Transfer}
use Rattle.drv_table.specs.DriverContent.{DriverContent}
use Rattle.drv_table.specs.Harvests.{note_at}
use Rattle.claims_driver.specs.Owners.{NoteRuns, note_in}
use Rattle.law_driver.specs.chained_transfers.Chains.{piece_at}
use Rattle.law_driver.specs.chained_transfers.Out.{unpublished}
use Rattle.law_driver.specs.queued_drivers.Queued.{queued, queued_command, queued_made}
use Rattle.law_driver.proofs.lemmas.queued_drivers.RowOwners.{queued_are_lent}
use Rattle.law_ring.specs.Front.{LinksRise}
use Rattle.law_driver_ring.specs.Inventory.{IsLent}
use Rattle.law_driver_ring.specs.Written.{IsPageRun, next_blocks}
use Rattle.law_driver_ring.specs.fed_queues.Fed.{unpublished_of, IsPublished}
use Rattle.law_queues.specs.fed_lends.ToLend.{IsToBeLent}
use Rattle.law_queues.specs.released_queues.Fronts.{piece_address}
use Rattle.bus_world.specs.World.{World}
use Rattle.law_world.specs.memory.Mixed.{Standing, IsUnderWay, IsMixedAt}
use Rattle.law_world.specs.memory.Steps.{told_parts}
use Rattle.law_world.proofs.lemmas.memory.HarvestKept.{owners_of}
use Rattle.law_world.proofs.lemmas.memory.PublishStores.{IsStoring, links}
use Rattle.law_reports.proofs.lemmas.queues.Ordered.{along}

-- ---- commands

pub publish_is : (xs : List Endpoint) (c : Option Command) (b : ℕ) (words : List ℕ)
    → queued_command xs c ≡ Some (unfinished.Publish b words) → c ≡ Some (unfinished.Publish b words)
publish_is xs (Some (unfinished.Publish b words)) c ws is = is
publish_is xs (Some (unfinished.Open queue)) c ws is = absurd (cc)
publish_is xs (Some (unfinished.Unlink e b link)) c ws is = absurd (cc)
publish_is xs (Some unfinished.Chain) c ws is = absurd (cc)
publish_is xs (Some (unfinished.Iso e t count)) c ws is = absurd (cc)
publish_is xs (Some (unfinished.Unchain e)) c ws is = absurd (cc)
publish_is xs None c ws is = absurd (cc)

pub all_published : (c : Option Command) (made n : ℕ) → ((b : ℕ) (words : List ℕ) → c ≢ Some (unfinished.Publish b words))
    → unpublished c made n ≡ 0
all_published (Some (unfinished.Publish b words)) made n none = absurd (none b words refl)
all_published (Some (unfinished.Open queue)) made n none = refl
all_published (Some (unfinished.Unlink e b link)) made n none = refl
all_published (Some unfinished.Chain) made n none = refl
all_published (Some (unfinished.Iso e t count)) made n none = refl
all_published (Some (unfinished.Unchain e)) made n none = refl
all_published None made n none = refl

pub none_left : (b : Bool) (n : ℕ) → n ≡ 0 → (if b then n else 0) ≡ 0
none_left true n is = is
none_left false n is = refl

-- once they are lent, the first alone is left
one_left : (b : Bool) (made : ℕ) (block : ℕ) (words : List ℕ) (n : ℕ) → 1 ≤ made
    → (if b then unpublished (Some (unfinished.Publish block words)) made n else 0) ≤ 1
one_left true zero block words n lent = absurd (omega (arith, lent))
one_left true (suc made) block words n lent = omega arith
one_left false made block words n lent = omega arith

abbrev IsPublish : Option Command → Type 0
IsPublish c = (b : ℕ) × (words : List ℕ) × (c ≡ Some (unfinished.Publish b words))

publish_or_not : (c : Option Command) → IsPublish c ⊎ ((b : ℕ) (words : List ℕ) → c ≢ Some (unfinished.Publish b words))
publish_or_not (Some (unfinished.Publish b words)) = inl (b, words, refl)
publish_or_not (Some (unfinished.Open queue)) = inr (λ b words same. cc)
publish_or_not (Some (unfinished.Unlink e b link)) = inr (λ c words same. cc)
publish_or_not (Some unfinished.Chain) = inr (λ b words same. cc)
publish_or_not (Some (unfinished.Iso e t count)) = inr (λ b words same. cc)
publish_or_not (Some (unfinished.Unchain e)) = inr (λ b words same. cc)
publish_or_not None = inr (λ b words same. cc)

-- ---- not lent yet

kept_at : (P : ℕ → Type 0) (notes : List QtdNote) (ss : List Stage) (b i : ℕ) → AllByRecursion P (next_blocks notes ss b) → i < length ss
    → P (piece_at (note_in notes) b (suc i))
kept_at P notes [] b i each less = absurd (omega (arith, less))
kept_at P notes (s ∷ ss) b zero each less = each.0
kept_at P notes (s ∷ ss) b (suc i) each less = kept_at P notes ss (note_at notes b).next i each.1 (omega (arith, less))

not_lent : (slot : Slot) (n : ℕ) → IsPageRun slot n → IsLent slot → ⊥
not_lent slot n run lent = subst IsLent run.is lent

module _ (s : Standing) (w : World) (mixed : IsMixedAt s w) (e : ℕ) (z : Endpoint)
    (there : slice_get (queued w.driver).endpoints e ≡ Some z)
    (rise : LinksRise (s.order (32 * z.queue)) (s.parts (32 * z.queue))) (v : ℕ) (t : Transfer)
    (at : slice_get (queued w.driver).transfers v ≡ Some t) (held : t.released ≡ false) (own : t.endpoint ≡ e) where
  abbrev d : DriverContent
  d = queued w.driver

  abbrev o : ℕ → ℕ
  o = s.order (32 * z.queue)

  abbrev note : ℕ → NoteRuns
  note = note_in (queued w.driver).notes

  waits : (b : ℕ) (words : List ℕ) (get : IsToBeLent (queued w.driver) w.memory b words) → suc v ≡ length (queued w.driver).transfers
      → (i : ℕ) → suc i < t.qtds → IsLent (slot_of (queued w.driver).book.slots
      (piece_at (note_in (queued w.driver).notes) t.first (suc i))) → ⊥
  waits b words get newest i below lent =
      let number : get.number ≡ v = (let one = get.newest in omega (arith, one, newest)) in
      let same : get.transfer ≡ t = same_Some get.transfer t (sym get.there ∙ ap (slice_get d.transfers) number ∙ at) in
      let many = get.awaits.qtds in
      let qtds = ap (λ (y : Transfer). y.qtds) same in
      let run = kept_at (λ c. IsPageRun (slot_of d.book.slots c) 1) d.notes (get.stage ∷ get.further) get.transfer.first i
      get.awaits.qtds_kept (omega (arith, many, qtds, below)) in
      not_lent (slot_of d.book.slots (piece_at note t.first (suc i))) 1
      (subst (λ (y : Transfer). IsPageRun (slot_of d.book.slots (piece_at note y.first (suc i))) 1) same run) lent

  -- the first of them leads to a later one
  first_step : (b : ℕ) (words : List ℕ) → (queued w.driver).command ≡ Some (unfinished.Publish b words) → 1 ≤ (queued w.driver).made
      → suc v ≡ length (queued w.driver).transfers → o (32 * t.first) < o (piece_address (queued w.driver) t 1)
  first_step b words command made newest =
      let not_iso = λ (f : ℕ) (u : ℕ) (count : ℕ) (iso : w.driver.command ≡ Some (unfinished.Iso f u count)).
      none_some (unfinished.Publish b words) (sym (ap (queued_command w.driver.endpoints) iso) ∙ command) in
      let storing : IsStoring (queued w.driver) s.near s.streams s.ends s.parts s.order s.out b words = record {
        command = command;
        made = made;
        owners = owners_of s w mixed;
        lent = queued_are_lent w.driver mixed.now.framed.place.lent (λ f u count iso. absurd (not_iso f u count iso));
        turns = mixed.turns.turns;
        queues = mixed.queues.queues;
      } in
      let g : IsPublished (queued w.driver) s.parts b words = mixed.queues.queues.fed.publishes b words command in
      let number : g.number ≡ v = (let one = g.newest in omega (arith, one, newest)) in
      let same : g.transfer ≡ t = same_Some g.transfer t (sym g.there ∙ ap (slice_get d.transfers) number ∙ at) in
      let endpoint : g.endpoint ≡ z = same_Some g.endpoint z
      (sym g.here ∙ ap (λ (y : Transfer). slice_get d.endpoints y.endpoint) same ∙ ap (slice_get d.endpoints) own ∙ there) in
      let first : t.first ≡ b = sym (ap (λ (y : Transfer). y.first) same) ∙ g.place.0 in
      let less : s.order (32 * g.endpoint.queue) (32 * b) < s.order (32 * g.endpoint.queue) (32 * (note_at d.notes b).next) =
      (links (told_parts w) s.near s.streams s.ends s.parts s.order s.out b words storing).next
      (32 * (note_at d.notes b).next) (ap qtd_link_of g.noted.next) in
      subst (λ (c : ℕ). o (32 * c) < o (32 * (note_at d.notes c).next)) (sym first)
      (subst (λ (x : Endpoint). s.order (32 * x.queue) (32 * b) < s.order (32 * x.queue) (32 * (note_at d.notes b).next)) endpoint less)

  by_command : (b : ℕ) (words : List ℕ) → w.driver.command ≡ Some (unfinished.Publish b words) → suc v ≡ length (queued w.driver).transfers
      → (i : ℕ) → suc i < t.qtds → IsLent (slot_of (queued w.driver).book.slots
      (piece_at (note_in (queued w.driver).notes) t.first (suc i)))
      → o (32 * t.first) ≤ o (piece_address (queued w.driver) t (suc i))
  by_command b words is newest i below lent =
      ⊎_elim
      (λ (get : IsToBeLent (queued w.driver) w.memory b words). absurd (waits b words get newest i below lent))
      (λ (some : 1 ≤ w.driver.made).
      let command : d.command ≡ Some (unfinished.Publish b words) = ap (queued_command w.driver.endpoints) is in
      let made : d.made ≡ w.driver.made = ap (λ (c : Option Command). queued_made c w.driver.made) is in
      let enough : 1 ≤ d.made = omega (arith, made, some) in
      let less = first_step b words command enough newest in
      let left : unpublished_of d v t ≤ 1 =
      subst (λ (c : Option Command). (if nat_eq (suc v) (length d.transfers) then unpublished c d.made t.qtds else 0) ≤ 1) (sym command)
      (one_left (nat_eq (suc v) (length d.transfers)) d.made b words t.qtds enough) in
      let rest = along d s.parts o mixed.turns.turns mixed.queues.queues.fed e z there rise v 1 (suc i) t at held own left (omega arith)
      (omega (arith, below)) in
      omega (arith, less, rest))
      (subst (IsUnderWay w.driver w.memory s.member s.recent s.parts) is mixed.under_way)

  pub from_first : (i : ℕ) → i < t.qtds → IsLent (slot_of (queued w.driver).book.slots
      (piece_at (note_in (queued w.driver).notes) t.first i))
      → o (32 * t.first) ≤ o (piece_address (queued w.driver) t i)
  from_first zero below lent = omega arith
  from_first (suc i) below lent =
      ⊎_elim
      (λ (none : unpublished_of d v t ≡ 0).
      along d s.parts o mixed.turns.turns mixed.queues.queues.fed e z there rise v 0 (suc i) t at held own (omega (arith, none))
      (omega arith)
      (omega (arith, below)))
      (λ (some : unpublished_of d v t ≢ 0).
      ⊎_elim
      (λ (p : IsPublish w.driver.command).
      ⊎_elim (λ (newest : suc v ≡ length d.transfers). by_command p.0 p.1 p.2 newest i below lent)
      (λ (older : suc v ≢ length d.transfers).
      absurd (some (ap (λ (b : Bool). if b then unpublished d.command d.made t.qtds else 0)
      (other_number (suc v) (length d.transfers) older))))
      (cases_eq (suc v) (length d.transfers)))
      (λ (never : (b : ℕ) (words : List ℕ) → w.driver.command ≢ Some (unfinished.Publish b words)).
      absurd (some (none_left (nat_eq (suc v) (length d.transfers)) (unpublished d.command d.made t.qtds)
      (all_published d.command d.made t.qtds (λ b words same. never b words
      (publish_is w.driver.endpoints w.driver.command b words same))))))
      (publish_or_not w.driver.command))
      (cases_eq (unpublished_of d v t) 0)
