-- What is owed after the harvest of a control endpoint's qTD: it tells nothing of OUT endpoints, also where a STALL ends the request and all behind it.
use Rattle.std.proofs.Common.{◌≡◌, ◌≢◌, ℕ, zero, suc, ◌-◌, ◌*◌, Bool, true, false, cond, if◌then◌else◌, List, [], ◌∷◌, ◌++◌, length, set, slice_get, Option, Some, None, option_map, ap, refl, sym, subst, ◌∙◌, ⊎_elim, inl, inr}
use Rattle.std.specs.Prelude.{◌⊎◌}
use Rattle.std.specs.List.{concat}
use Rattle.std.proofs.lemmas.Option.{same_Some}
use Rattle.law_driver.proofs.Common.{others_wait}
use Rattle.law_queues.proofs.Common.{none_open}
use Rattle.law_common.proofs.Lists.{set_there}
use Rattle.law_driver.proofs.Common.{out_way, waits_is}
use Rattle.usb_base.specs.declared.endpoints.EndCause.{EndCause}
use Rattle.usb_base.specs.declared.endpoints.EndCause.TheVariants as causes
use Rattle.usb_base.specs.declared.endpoints.EpDesc.{EpDesc}
use Rattle.usb_base.specs.declared.endpoints.EpName.{EpName}
use Rattle.usb_base.specs.declared.packets.EpKind.{EpKind}
use Rattle.usb_base.specs.declared.packets.EpKind.TheVariants as kinds
use Rattle.usb_base.specs.declared.packets.Way.{Way}
use Rattle.usb_base.specs.declared.reports.What.TheVariants as lines
use Rattle.word_mem.specs.Memory.{Mem}
use Rattle.drv_table.specs.declared.content.Endpoint.{Endpoint}
use Rattle.drv_table.specs.declared.content.QtdNote.{QtdNote}
use Rattle.drv_table.specs.declared.content.Transfer.{Transfer}
use Rattle.drv_table.specs.declared.rows.DriverRow.TheVariants as rows
use Rattle.drv_table.specs.declared.rows.Found.{Found}
use Rattle.drv_table.specs.declared.rows.Found.TheVariants as founds
use Rattle.drv_table.specs.DriverContent.{DriverContent, waits_for, next_after}
use Rattle.drv_table.specs.Harvests.{note_at, noted, is_stall, end_of, reported}
use Rattle.drv_table.specs.Parts.{Parts}
use Rattle.drv_table.specs.Harvesting.{served, told_with, behind_one, behind, mends_of, after_end, harvested_as, after_harvest}
use Rattle.drv_table.specs.Rows.{after_driver_row}
use Rattle.law_driver.specs.run_owners.Due.{IsHarvestDue}
use Rattle.claims_driver.specs.Scripts.{receives}
use Rattle.law_driver.specs.AsynchronousScripts.{IsKindOf, IsAsynchronous}
use Rattle.law_driver.specs.chained_transfers.AsynchronousTurns.{AsynchronousTakesTurns}
use Rattle.law_driver.proofs.lemmas.chained_transfers.Rows.{set_which}
use Rattle.law_driver_ring.proofs.lemmas.walk_members.Descriptions.{desc_of, row_left}
use Rattle.law_world.specs.streams.put_laws.TakenPuts.{puts_from, puts_of}
use Rattle.law_world.specs.streams.put_laws.Owed.{rest_from, rest_of, Owes}
use Rattle.law_world.proofs.lemmas.streams.lemmas.put_laws.HeldAlike.{held_alike}
use Rattle.law_world.proofs.lemmas.streams.lemmas.put_laws.Harvested.{Likes, harvest_like}
use Rattle.law_world.proofs.lemmas.streams.lemmas.put_laws.Rests.{prefix_to, prefix_of, one_none, rest_alike, rest_set, puts_set}
use Rattle.law_world.proofs.lemmas.streams.lemmas.put_laws.Same.{idle_there}

-- ---- contents that tell the same of all endpoints but e

pub record AreBeside (d f : DriverContent) (e : ℕ) : Type 0 where
  pub rests : (m : Mem) (notes : List QtdNote) (i : ℕ) → i ≢ e → rest_from m notes i f.transfers ≡ rest_from m notes i d.transfers
  pub puts : (puts : ℕ → List ℕ) (i : ℕ) → puts_from puts i 0 f.transfers ≡ puts_from puts i 0 d.transfers
  pub was : (t : ℕ) (y : Transfer) → slice_get f.transfers t ≡ Some y → (y.endpoint ≡ e) ⊎ (slice_get d.transfers t ≡ Some y)
  pub ends : (i : ℕ) (z : Endpoint) → i ≢ e → slice_get f.endpoints i ≡ Some z → slice_get d.endpoints i ≡ Some z
  pub command : f.command ≡ d.command

itself : (d : DriverContent) (e : ℕ) → AreBeside d d e
itself d e = record { rests = λ m notes i differs. refl; puts = λ puts i. refl; was = λ t y here. inr here; ends = λ i z differs here. here; command = refl }

both : (d f g : DriverContent) (e : ℕ) → AreBeside d f e → AreBeside f g e → AreBeside d g e
both d f g e one two = record {
  rests = λ m notes i differs. two.rests m notes i differs ∙ one.rests m notes i differs;
  puts = λ puts i. two.puts puts i ∙ one.puts puts i;
  was = λ t y here. ⊎_elim (λ (own : y.endpoint ≡ e). inl own) (λ (there : slice_get f.transfers t ≡ Some y). one.was t y there) (two.was t y here);
  ends = λ i z differs here. one.ends i z differs (two.ends i z differs here);
  command = two.command ∙ one.command;
}

-- one of its transfers changes
transfer_set : (d f : DriverContent) (e t : ℕ) (y z : Transfer) → slice_get d.transfers t ≡ Some y → y.endpoint ≡ e → z.endpoint ≡ e → f.transfers ≡ set d.transfers t z
    → ((i : ℕ) (v : Endpoint) → i ≢ e → slice_get f.endpoints i ≡ Some v → slice_get d.endpoints i ≡ Some v) → f.command ≡ d.command → AreBeside d f e
transfer_set d f e t y z here own now is ends command = record {
  rests = λ m notes i differs.
      ap (rest_from m notes i) is
      ∙ rest_set m notes i t d.transfers y z here
      (one_none m notes i z (others_wait i z (λ same. differs (sym same ∙ now)))
      ∙ sym (one_none m notes i y (others_wait i y (λ same. differs (sym same ∙ own)))));
  puts = λ puts i. ap (puts_from puts i 0) is ∙ puts_set puts i t d.transfers y z here (now ∙ sym own);
  was = λ u w at.
      ⊎_elim (λ (its : (u ≡ t) × (w ≡ z)). inl (ap (λ (r : Transfer). r.endpoint) its.1 ∙ now)) (λ (other : slice_get d.transfers u ≡ Some w). inr other)
      (set_which d.transfers t u y z w here (ap (λ (ts : List Transfer). slice_get ts u) (sym is) ∙ at));
  ends = ends;
  command = command;
}

-- .. or it itself
endpoint_set : (d f : DriverContent) (e : ℕ) (w : Endpoint) → f.transfers ≡ d.transfers → f.endpoints ≡ set d.endpoints e w → f.command ≡ d.command → AreBeside d f e
endpoint_set d f e w transfers endpoints command = record {
  rests = λ m notes i differs. ap (rest_from m notes i) transfers;
  puts = λ puts i. ap (puts_from puts i 0) transfers;
  was = λ t y here. inr (ap (λ (ts : List Transfer). slice_get ts t) (sym transfers) ∙ here);
  ends = λ i z differs at. sym (set_there d.endpoints e i w differs) ∙ ap (λ (xs : List Endpoint). slice_get xs i) (sym endpoints) ∙ at;
  command = command;
}

-- ---- a harvest

one_beside : (d : DriverContent) (e : ℕ) (name : EpName) (k : ℕ) (o : Option Transfer) → slice_get d.transfers k ≡ o → AreBeside d (behind_one d e name k o) e
one_beside d e name k None there = itself d e
one_beside d e name k (Some y) there = by (waits_for e y) refl
  where
    by : (b : Bool) → waits_for e y ≡ b
        → AreBeside d (cond b (record (reported d (lines.Halt causes.Stall) name []) { transfers = set d.transfers k (record y { reported = true }); harvested = d.harvested ++ k ∷ [] }) d) e
    by true waits = transfer_set d _ e k y (record y { reported = true }) there (waits_is e y waits).0 (waits_is e y waits).0 refl (λ i v differs at. at) refl
    by false waits = itself d e

behind_beside : (d : DriverContent) (e : ℕ) (name : EpName) (k n : ℕ) → AreBeside d (behind d e name k n) e
unfolding behind
behind_beside d e name k zero = itself d e
behind_beside d e name k (suc n) =
    let one = behind_one d e name k (slice_get d.transfers k) in
    both d one (behind one e name (suc k) n) e (one_beside d e name k (slice_get d.transfers k) refl) (behind_beside one e name (suc k) n)

end_beside : (d : DriverContent) (e t : ℕ) (x : Endpoint) (stall : Bool) (o : Option EndCause) → AreBeside d (after_end d e t x stall o) e
end_beside d e t x stall (Some cause) = endpoint_set d _ e (record x { ended = Some cause }) refl refl refl
end_beside d e t x true None =
    let f : DriverContent = record d { harvested = d.harvested ++ t ∷ []; endpoints = set d.endpoints e (record x { next = None }); mends = d.mends ++ mends_of x } in
    both d f (behind f e x.desc.name (suc t) (length d.transfers - suc t)) e (endpoint_set d f e (record x { next = None }) refl refl refl) (behind_beside f e x.desc.name (suc t) (length d.transfers - suc t))
end_beside d e t x false None = endpoint_set d _ e (record x { next = next_after d.transfers e t }) refl refl refl

read_beside : (d : DriverContent) (m : Mem) (e t : ℕ) (x : Endpoint) (y : Transfer) (found : Found) → slice_get d.transfers t ≡ Some y → y.endpoint ≡ e → AreBeside d (harvested_as d m e t x y found) e
read_beside d m e t x y founds.Active there own = itself d e
read_beside d m e t x y (founds.Moved n) there own =
    transfer_set d _ e t y (record y { place = (note_at d.notes y.place).next; left = y.left - 1 }) there own own refl (λ i v differs at. at) refl
read_beside d m e t x y (founds.Served errors) there own =
    transfer_set d _ e t y (record y { reported = true }) there own own refl (λ i v differs at. sym (set_there d.endpoints e i (record x { next = next_after d.transfers e t }) differs) ∙ at) refl
read_beside d m e t x y (founds.Ended n what) there own =
    let f = told_with d m t y what x.desc.name (noted d.notes y.place n) in
    both d f (after_end f e t x (is_stall what) (end_of x.desc.kind what)) e (transfer_set d f e t y (record y { reported = true }) there own own refl (λ i v differs at. at) refl)
    (end_beside f e t x (is_stall what) (end_of x.desc.kind what))

served_beside : (d f : DriverContent) (e : ℕ) → AreBeside d f e → AreBeside d (served f e) e
served_beside d f e k = record { rests = k.rests; puts = k.puts; was = k.was; ends = k.ends; command = k.command }

pub harvest_beside : (p : Parts) (e t : ℕ) (found : Found) → IsHarvestDue p e t found → AreBeside p.driver (after_driver_row (rows.Harvest e t found) p).driver e
harvest_beside p e t found due =
    let d = p.driver in
    let now : AreBeside d (after_harvest d p.memory e t found (Some due.endpoint) (Some due.transfer)) e =
    subst (λ (b : Bool). AreBeside d (if b then served (harvested_as d p.memory e t due.endpoint due.transfer found) e else d) e) (sym due.waits)
    (served_beside d (harvested_as d p.memory e t due.endpoint due.transfer found) e (read_beside d p.memory e t due.endpoint due.transfer found due.there (waits_is e due.transfer due.waits).0)) in
    subst (λ (o : Option Endpoint). AreBeside d (after_harvest d p.memory e t found o (slice_get d.transfers t)) e) (sym due.here)
    (subst (λ (o : Option Transfer). AreBeside d (after_harvest d p.memory e t found (Some due.endpoint) o) e) (sym due.there) now)

-- ---- the OUT endpoints

out_is_bulk : (way : Way) (kind : EpKind) → IsKindOf way kind → receives way ≡ false → kind ≡ kinds.Control → ⊥
out_is_bulk way kind is sends control = let same : ◌≡◌ {A = EpKind} kinds.Bulk kinds.Control = sym (subst (λ (w : Way). IsKindOf w kind) (out_way way sends) is) ∙ control in cc

-- an OUT endpoint is another one than a control endpoint that is harvested
pub other_out : (p : Parts) (e t : ℕ) (found : Found) (due : IsHarvestDue p e t found) → due.endpoint.desc.kind ≡ kinds.Control → AsynchronousTakesTurns p.driver → (f : ℕ) (v : Endpoint) → slice_get (after_driver_row (rows.Harvest e t found) p).driver.endpoints f ≡ Some v
    → receives v.desc.name.way ≡ false → (f ≢ e) × (slice_get p.driver.endpoints f ≡ Some v)
other_out p e t found due control turns f v at sends =
    let d = p.driver in
    let differs : f ≢ e = λ same.
    let desc : v.desc ≡ due.endpoint.desc =
    same_Some v.desc due.endpoint.desc
    (sym (ap (option_map desc_of) at) ∙ row_left (rows.Harvest e t found) p f ∙ ap (λ (i : ℕ). option_map desc_of (slice_get d.endpoints i)) same ∙ ap (option_map desc_of) due.here) in
    let own : IsAsynchronous due.endpoint.desc = (turns.asynchronous.endpoints e due.endpoint due.here).asynchronous in
    out_is_bulk due.endpoint.desc.name.way due.endpoint.desc.kind own.kind (ap (λ (r : EpDesc). receives r.name.way) (sym desc) ∙ sends) control in
    (differs, (harvest_beside p e t found due).ends f v differs at)

module _ (p : Parts) (e t : ℕ) (found : Found) (due : IsHarvestDue p e t found) (control : due.endpoint.desc.kind ≡ kinds.Control) (turns : AsynchronousTakesTurns p.driver) (puts reported told : ℕ → List ℕ)
    (told_is : (f : ℕ) (v : Endpoint) → slice_get (after_driver_row (rows.Harvest e t found) p).driver.endpoints f ≡ Some v → v.gone ≡ false → receives v.desc.name.way ≡ false → told (32 * v.queue) ≡ reported (32 * v.queue)) (owes : Owes p.driver p.memory puts reported) where
  abbrev d : DriverContent
  d = p.driver

  abbrev m : Mem
  m = p.memory

  abbrev new : DriverContent
  new = (after_driver_row (rows.Harvest e t found) p).driver

  k : AreBeside p.driver (after_driver_row (rows.Harvest e t found) p).driver e
  k = harvest_beside p e t found due

  rest_same : (i : ℕ) → i ≢ e → rest_of new m i ≡ rest_of d m i
  rest_same i differs =
      let like : Likes d new = harvest_like d m e t found (slice_get d.endpoints e) (slice_get d.transfers t) refl in
      rest_alike m m d.notes new.notes i new.transfers (λ u z at waits. held_alike m m d.notes new.notes z.place z.left (λ j below. like.notes _) (λ j below. refl)) ∙ k.rests m d.notes i differs

  puts_same : (i : ℕ) → concat (puts_of new puts i) ≡ concat (puts_of d puts i)
  puts_same i = ap concat (k.puts puts i)

  pub other_owes : Owes (after_driver_row (rows.Harvest e t found) p).driver p.memory puts told
  other_owes = record {
    going = λ f v at meets sends none.
        let was = other_out p e t found due control turns f v at sends in
        ap (λ (us : List ℕ). us ++ rest_of new m f) (told_is f v at meets.kept sends) ∙ ap (λ (us : List ℕ). reported (32 * v.queue) ++ us) (rest_same f was.0)
        ∙ owes.going f v was.1 (idle_there d due.idle v meets.kept) sends none ∙ sym (puts_same f);
    over = λ f v cause at meets sends ends.
        let was = other_out p e t found due control turns f v at sends in
        prefix_of (told (32 * v.queue)) (reported (32 * v.queue)) (concat (puts_of new puts f)) (told_is f v at meets.kept sends)
        (prefix_to (reported (32 * v.queue)) (concat (puts_of d puts f)) (concat (puts_of new puts f)) (sym (puts_same f)) (owes.over f v cause was.1 (idle_there d due.idle v meets.kept) sends ends));
    opening = λ f u v z at still is there. absurd (none_open v.queue (sym due.idle ∙ sym k.command ∙ is));
    last = λ u z v at_u at_v sends none is held.
        let was = other_out p e t found due control turns z.endpoint v at_v sends in
        ⊎_elim (λ (own : z.endpoint ≡ e). absurd (was.0 own)) (λ (there : slice_get d.transfers u ≡ Some z). owes.last u z v there was.1 sends none is held) (k.was u z at_u);
  }
