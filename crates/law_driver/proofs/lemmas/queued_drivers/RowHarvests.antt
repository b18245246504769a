-- The harvest of a get, a put or a request, as the queues tell it.
use Rattle.std.proofs.Common.{◌≡◌, ◌≢◌, ℕ, zero, suc, ◌-◌, Bool, true, false, cond, List, [], ◌∷◌, ◌++◌, length, map, set, take, slice_get, Option, Some, None, option_map, ap, ap₂, sym, ◌∙◌, ⊎_elim, refl}
use Rattle.std.proofs.lemmas.Bool.{cases_Bool, false≢true}
use Rattle.std.proofs.lemmas.List.{map-set}
use Rattle.std.proofs.lemmas.Option.{slice_get-map}
use Rattle.law_driver.proofs.Common.{others_wait}
use Rattle.law_driver.proofs.Common.{same_control, of_queue}
use Rattle.usb_base.specs.declared.endpoints.EpName.{EpName}
use Rattle.usb_base.specs.declared.endpoints.EpDesc.{EpDesc}
use Rattle.usb_base.specs.declared.endpoints.EndCause.{EndCause}
use Rattle.usb_base.specs.declared.endpoints.EndCause.TheVariants as causes
use Rattle.usb_base.specs.declared.packets.EpKind.{EpKind}
use Rattle.usb_base.specs.declared.reports.What.{What}
use Rattle.usb_base.specs.declared.reports.What.TheVariants as lines
use Rattle.word_mem.specs.Memory.{Mem}
use Rattle.drv_table.specs.declared.content.Endpoint.{Endpoint}
use Rattle.drv_table.specs.declared.content.Transfer.{Transfer}
use Rattle.drv_table.specs.declared.content.QtdNote.{QtdNote}
use Rattle.drv_table.specs.declared.rows.Found.{Found}
use Rattle.drv_table.specs.declared.rows.Found.TheVariants as founds
use Rattle.drv_table.specs.DriverContent.{DriverContent, waits_for, next_after}
use Rattle.drv_table.specs.Words.{is_control}
use Rattle.drv_table.specs.Harvests.{note_at, end_of, is_stall, moved_bytes, reported, noted}
use Rattle.drv_table.specs.Kinds.{is_iso}
use Rattle.drv_table.specs.Harvesting.{served, moved_on, told_with, goes_on, behind_one, behind, mends_of, stalled, after_end, harvested_as, after_harvest}
use Rattle.claims_driver.specs.Owners.{is_descriptor}
use Rattle.law_driver.specs.queued_drivers.Queued.{queued_kind, with_queue, queued_endpoint, queued_transfer, queued_command, queued, FitsKind}
use Rattle.law_driver.proofs.lemmas.queued_drivers.RowLists.{transfer_told, queue_at, transfer_at, moves_at, transfers_stay, endpoints_set, command_stays, with_told, lists_told, HasNoDescriptors, waits_told, next_told, transfers_many, none_set}

-- ---- how the endpoint ends

end_by : (k l : EpKind) (what : What) → is_control k ≡ is_control l → end_of k what ≡ end_of l what
end_by k l (lines.Halt causes.Stall) same = ap (λ (b : Bool). cond b None (Some causes.Stall)) same
end_by k l _ same = refl

end_told : (x : EpDesc) (what : What) → FitsKind x → end_of (queued_kind x.name.way) what ≡ end_of x.kind what
end_told x what fits = end_by (queued_kind x.name.way) x.kind what (same_control x.name.way x.kind fits)

-- ---- one transfer is changed

set_told : (xs : List Endpoint) (ts : List Transfer) (t : ℕ) (z : Transfer) → is_descriptor z.sort ≡ false → map (queued_transfer xs) (set ts t z) ≡ set (map (queued_transfer xs) ts) t z
set_told xs ts t z moves = map-set (queued_transfer xs) ts t z ∙ ap (λ (w : Transfer). set (map (queued_transfer xs) ts) t w) (transfer_told xs z moves)

pub moved_told : (d : DriverContent) (t : ℕ) (y : Transfer) (n : ℕ) → is_descriptor y.sort ≡ false → queued (moved_on d t y n) ≡ moved_on (queued d) t y n
moved_told d t y n moves =
    let z : Transfer = record y { place = (note_at d.notes y.place).next; left = y.left - 1 } in
    ap (λ (us : List Transfer). record (queued d) { notes = noted d.notes y.place n; transfers = us }) (set_told d.endpoints d.transfers t z moves)

pub line_told : (d : DriverContent) (m : Mem) (t : ℕ) (y : Transfer) (what : What) (name : EpName) (notes : List QtdNote) → is_descriptor y.sort ≡ false → queued (told_with d m t y what name notes) ≡ told_with (queued d) m t y what name notes
line_told d m t y what name notes moves =
    let z : Transfer = record y { reported = true } in
    ap (λ (us : List Transfer). record (reported (queued d) what name (take y.most (moved_bytes notes m y.first y.qtds))) { notes = notes; transfers = us }) (set_told d.endpoints d.transfers t z moves)

-- ---- the requests behind a stalled one

module _ (e : ℕ) (name : EpName) where
  abbrev told_behind : DriverContent → ℕ → Transfer → DriverContent
  told_behind d k y = record (reported d (lines.Halt causes.Stall) name []) { transfers = set d.transfers k (record y { reported = true }); harvested = d.harvested ++ k ∷ [] }

  one_told : (d : DriverContent) (k : ℕ) (o : Option Transfer) → slice_get d.transfers k ≡ o → HasNoDescriptors e d.transfers → queued (behind_one d e name k o) ≡ behind_one (queued d) e name k (slice_get (queued d).transfers k)
  one_told d k None there none = sym (ap (behind_one (queued d) e name k) (slice_get-map (queued_transfer d.endpoints) d.transfers k ∙ ap (option_map (queued_transfer d.endpoints)) there))
  one_told d k (Some y) there none = ⊎_elim
      (λ (is : is_descriptor y.sort ≡ true).
      let differs : y.endpoint ≢ e = λ at. false≢true (sym (none k y there at) ∙ is) in
      ap (λ (b : Bool). queued (cond b (told_behind d k y) d)) (others_wait e y differs)
      ∙ sym (ap (behind_one (queued d) e name k) (transfer_at d.endpoints d.transfers k y there)
      ∙ ap (λ (b : Bool). cond b (told_behind (queued d) k (queued_transfer d.endpoints y)) (queued d)) (waits_told d.endpoints e y (none k y there) ∙ others_wait e y differs)))
      (λ (moves : is_descriptor y.sort ≡ false). by (waits_for e y) moves ∙ sym (ap (behind_one (queued d) e name k) (moves_at d.endpoints d.transfers k y there moves)))
      (cases_Bool (is_descriptor y.sort))
    where
      by : (b : Bool) → is_descriptor y.sort ≡ false → queued (cond b (told_behind d k y) d) ≡ cond b (told_behind (queued d) k y) (queued d)
      by true moves = ap (λ (us : List Transfer). record (reported (queued d) (lines.Halt causes.Stall) name []) { transfers = us; harvested = d.harvested ++ k ∷ [] }) (set_told d.endpoints d.transfers k (record y { reported = true }) moves)
      by false moves = refl

  one_none : (d : DriverContent) (k : ℕ) (o : Option Transfer) → slice_get d.transfers k ≡ o → HasNoDescriptors e d.transfers → HasNoDescriptors e (behind_one d e name k o).transfers
  one_none d k None there none = none
  one_none d k (Some y) there none = by (waits_for e y)
    where
      by : (b : Bool) → HasNoDescriptors e (cond b (told_behind d k y) d).transfers
      by true = none_set e k y (record y { reported = true }) d.transfers there refl refl none
      by false = none

  pub behind_told : (n : ℕ) (d : DriverContent) (k : ℕ) → HasNoDescriptors e d.transfers → queued (behind d e name k n) ≡ behind (queued d) e name k n
  unfolding behind
  behind_told zero d k none = refl
  behind_told (suc n) d k none =
      behind_told n (behind_one d e name k (slice_get d.transfers k)) (suc k) (one_none d k (slice_get d.transfers k) refl none)
      ∙ ap (λ (f : DriverContent). behind f e name (suc k) n) (one_told d k (slice_get d.transfers k) refl none)

-- ---- what stands after it

module _ (e t : ℕ) (x : Endpoint) (queue : is_iso x.desc.kind ≡ false) where
  -- the endpoint's end, or its next transfer, is changed
  ends_told : (d f : DriverContent) (z w : Endpoint) → slice_get d.endpoints e ≡ Some x → z.desc ≡ x.desc → z.queue ≡ x.queue → queued_endpoint z ≡ w
      → with_told f (map queued_endpoint (set d.endpoints e z)) (map (queued_transfer (set d.endpoints e z)) d.transfers) (queued_command (set d.endpoints e z) d.command)
      ≡ with_told f (set (map queued_endpoint d.endpoints) e w) (map (queued_transfer d.endpoints) d.transfers) (queued_command d.endpoints d.command)
  ends_told d f z w here same one is =
      lists_told f (set (map queued_endpoint d.endpoints) e w) (map queued_endpoint (set d.endpoints e z)) (map (queued_transfer d.endpoints) d.transfers) (map (queued_transfer (set d.endpoints e z)) d.transfers)
      (queued_command d.endpoints d.command) (queued_command (set d.endpoints e z) d.command)
      (endpoints_set d.endpoints e x z w here is) (transfers_stay d.endpoints e x z here same d.transfers) (command_stays d.endpoints e x z here one d.command)

  goes_told : (d : DriverContent) → slice_get d.endpoints e ≡ Some x → HasNoDescriptors e d.transfers → queued (goes_on d e t x) ≡ goes_on (queued d) e t (with_queue x)
  goes_told d here none =
      let z : Endpoint = record x { next = next_after d.transfers e t } in
      ends_told d (record (queued d) { harvested = d.harvested ++ t ∷ [] }) z (record (with_queue x) { next = next_after d.transfers e t }) here refl refl (of_queue z queue)
      ∙ ap (λ (n : Option ℕ). record (queued d) { harvested = d.harvested ++ t ∷ []; endpoints = set (map queued_endpoint d.endpoints) e (record (with_queue x) { next = n }) }) (sym (next_told d.endpoints e t d.transfers none))

  stall_told : (d : DriverContent) → slice_get d.endpoints e ≡ Some x → HasNoDescriptors e d.transfers → queued (stalled d e t x) ≡ stalled (queued d) e t (with_queue x)
  stall_told d here none =
      let z : Endpoint = record x { next = None } in
      let begun : DriverContent = record d { harvested = d.harvested ++ t ∷ []; endpoints = set d.endpoints e z; mends = d.mends ++ mends_of x } in
      behind_told e x.desc.name (length d.transfers - suc t) begun (suc t) none
      ∙ ap (λ (f : DriverContent). behind f e x.desc.name (suc t) (length d.transfers - suc t))
      (ends_told d (record (queued d) { harvested = d.harvested ++ t ∷ []; mends = d.mends ++ mends_of x }) z (record (with_queue x) { next = None }) here refl refl (of_queue z queue))
      ∙ ap (λ (n : ℕ). behind (record (queued d) { harvested = d.harvested ++ t ∷ []; endpoints = set (map queued_endpoint d.endpoints) e (record (with_queue x) { next = None }); mends = d.mends ++ mends_of x }) e x.desc.name (suc t) (n - suc t))
      (sym (transfers_many d.endpoints d.transfers))

  after_told : (d : DriverContent) (stall : Bool) (o : Option EndCause) → slice_get d.endpoints e ≡ Some x → HasNoDescriptors e d.transfers → queued (after_end d e t x stall o) ≡ after_end (queued d) e t (with_queue x) stall o
  after_told d stall (Some cause) here none =
      let z : Endpoint = record x { ended = Some cause } in
      ends_told d (queued d) z (record (with_queue x) { ended = Some cause }) here refl refl (of_queue z queue)
  after_told d true None here none = stall_told d here none
  after_told d false None here none = goes_told d here none

  module _ (d : DriverContent) (m : Mem) (y : Transfer) (here : slice_get d.endpoints e ≡ Some x) (there : slice_get d.transfers t ≡ Some y) (fits : FitsKind x.desc) (none : HasNoDescriptors e d.transfers) (moves : is_descriptor y.sort ≡ false) where
    found_told : (found : Found) → ((n : ℕ) → found ≢ founds.Served n) → queued (harvested_as d m e t x y found) ≡ harvested_as (queued d) m e t (with_queue x) y found
    found_told founds.Active not_served = refl
    found_told (founds.Moved n) not_served = moved_told d t y n moves
    found_told (founds.Served errors) not_served = absurd (not_served errors refl)
    found_told (founds.Ended n what) not_served =
        let told = told_with d m t y what x.desc.name (noted d.notes y.place n) in
        after_told told (is_stall what) (end_of x.desc.kind what) here (none_set e t y (record y { reported = true }) d.transfers there refl refl none)
        ∙ ap₂ (λ f o. after_end f e t (with_queue x) (is_stall what) o) (line_told d m t y what x.desc.name (noted d.notes y.place n) moves) (sym (end_told x.desc what fits))

    harvest_told : (found : Found) → ((n : ℕ) → found ≢ founds.Served n) → queued (after_harvest d m e t found (Some x) (Some y)) ≡ after_harvest (queued d) m e t found (Some (with_queue x)) (Some y)
    harvest_told found not_served = by (waits_for e y)
      where
        by : (b : Bool) → queued (cond b (served (harvested_as d m e t x y found) e) d) ≡ cond b (served (harvested_as (queued d) m e t (with_queue x) y found) e) (queued d)
        by true = ap (λ (f : DriverContent). served f e) (found_told found not_served)
        by false = refl

    pub harvest_row_told : (found : Found) → ((n : ℕ) → found ≢ founds.Served n)
        → queued (after_harvest d m e t found (slice_get d.endpoints e) (slice_get d.transfers t)) ≡ after_harvest (queued d) m e t found (slice_get (queued d).endpoints e) (slice_get (queued d).transfers t)
    harvest_row_told found not_served =
        ap₂ (λ o q. queued (after_harvest d m e t found o q)) here there
        ∙ harvest_told found not_served
        ∙ sym (ap₂ (λ o q. after_harvest (queued d) m e t found o q) (queue_at d.endpoints e x here queue) (moves_at d.endpoints d.transfers t y there moves))
