-- The line of a cancelled endpoint, over all its transfers.
use Rattle.std.proofs.Common.{◌≡◌, ◌≢◌, ℕ, zero, suc, ◌+◌, ◌-◌, ◌*◌, ◌<◌, ◌==◌, ◌&&◌, not, Bool, true, false, if◌then◌else◌, List, [], ◌∷◌, ◌++◌, take, drop, slice_get, Option, Some, None, ap, refl, sym, subst, ◌∙◌, ⊎_elim, inl, inr, arith}
use Rattle.std.specs.Prelude.{◌⊎◌}
use Rattle.std.specs.List.{concat}
use Rattle.std.specs.Option.{option_map}
use Rattle.std.proofs.lemmas.Bool.{cases_eq, eq-eqb}
use Rattle.std.proofs.lemmas.Option.{same_Some}
use Rattle.std.proofs.lemmas.List.{append_assoc, take_all}
use Rattle.law_queues.proofs.Common.{none_of, first_out}
use Rattle.law_common.proofs.Numbers.{other_number}
use Rattle.word_mem.specs.Memory.{Mem}
use Rattle.law_structures.specs.lent_structures.Structures.{StructureSets}
use Rattle.law_ring.specs.Hand.{Hand}
use Rattle.law_ring.specs.Told.{Told}
use Rattle.law_ring.specs.Order.{IsAmong, AllTold, none_out, one_out, Accounts}
use Rattle.drv_table.specs.declared.content.Endpoint.{Endpoint}
use Rattle.drv_table.specs.declared.content.Transfer.{Transfer}
use Rattle.drv_table.specs.declared.content.QtdNote.{QtdNote}
use Rattle.drv_table.specs.declared.content.Command.{Command}
use Rattle.drv_table.specs.DriverContent.{DriverContent, waits_for}
use Rattle.drv_table.specs.Harvests.{note_at, bytes_now}
use Rattle.drv_table.specs.Releases.{cancelled_bytes}
use Rattle.claims_driver.specs.Owners.{NoteRuns, note_in}
use Rattle.law_driver.specs.chained_transfers.Turns.{Turn, turn_of, turn_in, IsNext, AreReportedTo}
use Rattle.law_driver.specs.chained_transfers.Out.{pieces_from, passed, out_of_transfer, out_of, out_now}
use Rattle.law_driver_ring.specs.told_harvests.Held.{AreHeld, none_held}
use Rattle.law_queues.specs.harvest_laws.Holds.{IsUnderWay, IsToCome}
use Rattle.law_controller.specs.controlled_streams.Reported.{IsReported}
use Rattle.law_queues.specs.cancelled_bytes.Cancelled.{IsReadable, CanBeTold}
use Rattle.law_queues.proofs.lemmas.cancelled_bytes.Transfers.{transfer_counted}

-- ---- what is told of some qTDs, and then of others

record Parted (hand : Hand) (parts : StructureSets) (n : ℕ) (front back xs : List ℕ) : Type 0 where
  first : List ℕ
  rest : List ℕ
  in_front : AllTold hand parts n front first
  behind : AllTold hand parts n back rest
  sum : xs ≡ first ++ rest

part_told : (hand : Hand) (parts : StructureSets) (n : ℕ) (front back xs : List ℕ) → AllTold hand parts n (front ++ back) xs → Parted hand parts n front back xs
part_told hand parts n [] back xs all = record { first = []; rest = xs; in_front = none_out; behind = all; sum = refl }
part_told hand parts n (a ∷ front) back xs (one_out e es x ys told others) =
    let p : Parted hand parts n front back ys = part_told hand parts n front back ys others in
    record {
      first = x ++ p.first;
      rest = p.rest;
      in_front = one_out a front x p.first told p.in_front;
      behind = p.behind;
      sum = ap (λ (zs : List ℕ). x ++ zs) p.sum ∙ sym (append_assoc x p.first p.rest);
    }

no_bytes_told : (hand : Hand) (parts : StructureSets) (n : ℕ) (out xs : List ℕ) → ((p : ℕ) (z : List ℕ) → IsAmong p out → Told hand parts n p z → z ≡ []) → AllTold hand parts n out xs → xs ≡ []
no_bytes_told hand parts n [] xs none none_out = refl
no_bytes_told hand parts n (a ∷ out) xs none (one_out e es x ys told others) =
    ap (λ (zs : List ℕ). zs ++ ys) (none a x (inl refl) told) ∙ no_bytes_told hand parts n out ys (λ p z among. none p z (inr among)) others

-- ---- which qTDs are out while no command is unfinished

left_out : (note : ℕ → NoteRuns) (e : ℕ) (y : Transfer) → y.endpoint ≡ e → y.released ≡ false → y.reported ≡ false → out_of_transfer note e 0 y ≡ pieces_from note y.place y.left
left_out note e y at kept waits =
    ap (λ (b : Bool). if b && not y.released then drop (0 + passed y.reported) (pieces_from note y.place y.left) else []) (eq-eqb y.endpoint e at)
    ∙ ap (λ (b : Bool). if true && not b then drop (0 + passed y.reported) (pieces_from note y.place y.left) else []) kept
    ∙ ap (λ (b : Bool). drop (0 + passed b) (pieces_from note y.place y.left)) waits

-- ---- what the line has of one transfer

abbrev bytes_in_line : List QtdNote → Mem → ℕ → ℕ → Transfer → List ℕ
bytes_in_line notes m e queue y = if waits_for e y then take y.most (bytes_now notes m queue y.first y.qtds y.left) else []

first_in_line : (notes : List QtdNote) (m : Mem) (e queue : ℕ) (y : Transfer) (ys : List Transfer) → cancelled_bytes notes m e queue (y ∷ ys) ≡ bytes_in_line notes m e queue y ++ cancelled_bytes notes m e queue ys
unfolding cancelled_bytes
first_in_line notes m e queue y ys = refl

none_in_line : (notes : List QtdNote) (m : Mem) (e queue : ℕ) → cancelled_bytes notes m e queue [] ≡ []
unfolding cancelled_bytes
none_in_line notes m e queue = refl

other_in_line : (notes : List QtdNote) (m : Mem) (e queue : ℕ) (y : Transfer) → y.endpoint ≢ e → bytes_in_line notes m e queue y ≡ []
other_in_line notes m e queue y differs = ap (λ (b : Bool). if b && not y.reported then take y.most (bytes_now notes m queue y.first y.qtds y.left) else []) (other_number y.endpoint e differs)

reported_in_line : (notes : List QtdNote) (m : Mem) (e queue : ℕ) (y : Transfer) → y.reported ≡ true → bytes_in_line notes m e queue y ≡ []
reported_in_line notes m e queue y told =
    ap (λ (b : Bool). if y.endpoint == e && not b then take y.most (bytes_now notes m queue y.first y.qtds y.left) else []) told
    ∙ by_endpoint (y.endpoint == e)
  where
    by_endpoint : (b : Bool) → (if b && not true then take y.most (bytes_now notes m queue y.first y.qtds y.left) else []) ≡ []
    by_endpoint true = refl
    by_endpoint false = refl

waiting_in_line : (notes : List QtdNote) (m : Mem) (e queue : ℕ) (y : Transfer) → y.endpoint ≡ e → y.reported ≡ false → bytes_in_line notes m e queue y ≡ take y.most (bytes_now notes m queue y.first y.qtds y.left)
waiting_in_line notes m e queue y at waits =
    ap (λ (b : Bool). if b && not y.reported then take y.most (bytes_now notes m queue y.first y.qtds y.left) else []) (eq-eqb y.endpoint e at)
    ∙ ap (λ (b : Bool). if true && not b then take y.most (bytes_now notes m queue y.first y.qtds y.left) else []) waits

-- ---- all of them

by_report : (y : Transfer) → (y.reported ≡ true) ⊎ (y.reported ≡ false)
by_report y = on y.reported
  where
    on : (b : Bool) → (b ≡ true) ⊎ (b ≡ false)
    on true = inl refl
    on false = inr refl

module _ (notes : List QtdNote) (m : Mem) (parts : StructureSets) (hand : Hand) (n e queue : ℕ) where
  -- the line has of the transfer what is held back of it, and what is told of its qTDs that are out
  abbrev Counts : Transfer → List ℕ → Type 0
  Counts y held = (z : List ℕ) → AllTold hand parts n (out_of_transfer (note_in notes) e 0 y) z → bytes_in_line notes m e queue y ≡ held ++ z

  rest_counts : (made : ℕ) (ts : List Transfer) (xs : List ℕ) → ((t : ℕ) (y : Transfer) → slice_get ts t ≡ Some y → Counts y []) → AllTold hand parts n (out_of (note_in notes) e None made ts) xs
      → cancelled_bytes notes m e queue ts ≡ xs
  rest_counts made [] xs each none_out = none_in_line notes m e queue
  rest_counts made (y ∷ ys) xs each all =
      let p : Parted hand parts n (out_of_transfer (note_in notes) e 0 y) (out_of (note_in notes) e None made ys) xs =
      part_told hand parts n (out_of_transfer (note_in notes) e 0 y) (out_of (note_in notes) e None made ys) xs (subst (λ (out : List ℕ). AllTold hand parts n out xs) (first_out (note_in notes) e made y ys) all) in
      first_in_line notes m e queue y ys ∙ ap (λ (bs : List ℕ). bs ++ cancelled_bytes notes m e queue ys) (each 0 y refl p.first p.in_front)
      ∙ ap (λ (bs : List ℕ). p.first ++ bs) (rest_counts made ys p.rest (λ t z there. each (suc t) z there) p.behind) ∙ sym p.sum

  -- nothing is told of those before it
  next_counts : (made t : ℕ) (ts : List Transfer) (y : Transfer) (held xs : List ℕ) → slice_get ts t ≡ Some y
      → ((u : ℕ) (z : Transfer) → u < t → slice_get ts u ≡ Some z → Counts z [] × ((v : List ℕ) → AllTold hand parts n (out_of_transfer (note_in notes) e 0 z) v → v ≡ []))
      → Counts y held → ((u : ℕ) (z : Transfer) → t < u → slice_get ts u ≡ Some z → Counts z []) → AllTold hand parts n (out_of (note_in notes) e None made ts) xs
      → cancelled_bytes notes m e queue ts ≡ held ++ xs
  next_counts made t [] y held xs here before at after all = absurd cc
  next_counts made zero (a ∷ ys) y held xs here before at after all =
      let p : Parted hand parts n (out_of_transfer (note_in notes) e 0 a) (out_of (note_in notes) e None made ys) xs =
      part_told hand parts n (out_of_transfer (note_in notes) e 0 a) (out_of (note_in notes) e None made ys) xs (subst (λ (out : List ℕ). AllTold hand parts n out xs) (first_out (note_in notes) e made a ys) all) in
      let counts : Counts a held = subst (λ (v : Transfer). Counts v held) (sym (same_Some a y here)) at in
      first_in_line notes m e queue a ys ∙ ap (λ (bs : List ℕ). bs ++ cancelled_bytes notes m e queue ys) (counts p.first p.in_front)
      ∙ ap (λ (bs : List ℕ). (held ++ p.first) ++ bs) (rest_counts made ys p.rest (λ u z there. after (suc u) z (omega arith) there) p.behind)
      ∙ append_assoc held p.first p.rest ∙ ap (λ (bs : List ℕ). held ++ bs) (sym p.sum)
  next_counts made (suc t) (a ∷ ys) y held xs here before at after all =
      let p : Parted hand parts n (out_of_transfer (note_in notes) e 0 a) (out_of (note_in notes) e None made ys) xs =
      part_told hand parts n (out_of_transfer (note_in notes) e 0 a) (out_of (note_in notes) e None made ys) xs (subst (λ (out : List ℕ). AllTold hand parts n out xs) (first_out (note_in notes) e made a ys) all) in
      let none = before 0 a (omega arith) refl in
      let nothing : p.first ≡ [] = none.1 p.first p.in_front in
      first_in_line notes m e queue a ys ∙ ap (λ (bs : List ℕ). bs ++ cancelled_bytes notes m e queue ys) (none.0 p.first p.in_front ∙ nothing)
      ∙ next_counts made t ys y held p.rest here (λ u z less there. before (suc u) z (omega (arith, less)) there) at (λ u z less there. after (suc u) z (omega (arith, less)) there) p.behind
      ∙ ap (λ (bs : List ℕ). held ++ bs) (ap (λ (bs : List ℕ). bs ++ p.rest) (sym nothing) ∙ sym p.sum)

-- ---- the endpoint's

module _ (d : DriverContent) (m : Mem) (parts : StructureSets) (hand : Hand) (e : ℕ) (x : Endpoint) (held : List ℕ) (k : CanBeTold d m parts hand e x held) where
  abbrev n : ℕ
  n = 32 * x.queue

  abbrev CountsIt : Transfer → List ℕ → Type 0
  CountsIt y more = Counts d.notes m parts hand n e x.queue y more

  abbrev HasNone : Transfer → Type 0
  HasNone y = (v : List ℕ) → AllTold hand parts n (out_of_transfer (note_in d.notes) e 0 y) v → v ≡ []

  -- one of another endpoint
  other_none : (y : Transfer) → y.endpoint ≢ e → HasNone y
  other_none y differs v all = no_bytes_told hand parts n [] v (λ p z among. absurd among) (subst (λ (out : List ℕ). AllTold hand parts n out v) (none_of (note_in d.notes) e y differs) all)

  other_counts : (y : Transfer) → y.endpoint ≢ e → CountsIt y []
  other_counts y differs = λ z all. other_in_line d.notes m e x.queue y differs ∙ sym (other_none y differs z all)

  -- one that was reported
  reported_none : (t : ℕ) (y : Transfer) → slice_get d.transfers t ≡ Some y → y.reported ≡ true → HasNone y
  reported_none t y there told v all =
      no_bytes_told hand parts n (out_of_transfer (note_in d.notes) e 0 y) v (λ p z among. k.passed p z (record { number = t; transfer = y; here = there; reported = told; among = among })) all

  reported_counts : (t : ℕ) (y : Transfer) → slice_get d.transfers t ≡ Some y → y.reported ≡ true → CountsIt y []
  reported_counts t y there told = λ z all. reported_in_line d.notes m e x.queue y told ∙ sym (reported_none t y there told z all)

  -- one that isn't
  held_counts : (t : ℕ) (y : Transfer) (more : List ℕ) → slice_get d.transfers t ≡ Some y → y.endpoint ≡ e → y.reported ≡ false → AreHeld hand parts n (note_at d.notes) y.first (y.qtds - y.left) y.place more → CountsIt y more
  held_counts t y more there own waits done = λ z all.
      let r : IsReadable (parts n) (note_at d.notes) y = k.waiting t y there own waits in
      let most = r.most in
      let within = r.within in
      let both =
      transfer_counted m parts hand x.queue d.notes k.tells k.settled y.first (y.qtds - y.left) y.place y.left y.qtds more z (omega (arith, most)) done r.read
      (subst (λ (out : List ℕ). AllTold hand parts n out z) (left_out (note_in d.notes) e y own r.kept waits) all) in
      let long = both.1 in
      waiting_in_line d.notes m e x.queue y own waits ∙ ap (take y.most) both.0 ∙ take_all y.most (more ++ z) (omega (arith, long, within))

  to_come_counts : (t : ℕ) (y : Transfer) → slice_get d.transfers t ≡ Some y → y.endpoint ≡ e → y.reported ≡ false → x.next ≢ Some t → CountsIt y []
  to_come_counts t y there own waits differs =
      let c : IsToCome (note_at d.notes) y = k.to_come t y there own waits differs in
      let left = c.left in
      let none : 0 ≡ y.qtds - y.left = omega (arith, left) in
      held_counts t y [] there own waits
      (subst (λ (i : ℕ). AreHeld hand parts n (note_at d.notes) y.first i y.place []) none (subst (λ (b : ℕ). AreHeld hand parts n (note_at d.notes) y.first 0 b []) (sym c.place) (none_held y.first)))

  -- any but the next one
  counts_else : (t : ℕ) (y : Transfer) → slice_get d.transfers t ≡ Some y → x.next ≢ Some t → CountsIt y []
  counts_else t y there differs =
      ⊎_elim (λ (own : y.endpoint ≡ e).
      ⊎_elim (λ (told : y.reported ≡ true). reported_counts t y there told) (λ (waits : y.reported ≡ false). to_come_counts t y there own waits differs) (by_report y))
      (λ (other : y.endpoint ≢ e). other_counts y other) (cases_eq y.endpoint e)

  none_else : (t : ℕ) (y : Transfer) → slice_get d.transfers t ≡ Some y → (y.endpoint ≡ e → y.reported ≡ true) → HasNone y
  none_else t y there told =
      ⊎_elim (λ (own : y.endpoint ≡ e). reported_none t y there (told own)) (λ (other : y.endpoint ≢ e). other_none y other) (cases_eq y.endpoint e)

  turn_is : (t : ℕ) (y : Transfer) → slice_get d.transfers t ≡ Some y → turn_in d.transfers t ≡ Some (turn_of y)
  turn_is t y there = ap (option_map turn_of) there

  no_number : (t : ℕ) → None ≡ Some t → ⊥
  no_number t is = cc

  same_number : (t u : ℕ) → Some t ≡ Some u → t ≡ u
  same_number t u is = same_Some t u is

  by_next : (o : Option ℕ) → x.next ≡ o → (xs : List ℕ) → AllTold hand parts n (out_of (note_in d.notes) e None d.made d.transfers) xs → cancelled_bytes d.notes m e x.queue d.transfers ≡ held ++ xs
  by_next None is xs all =
      rest_counts d.notes m parts hand n e x.queue d.made d.transfers xs (λ t y there. counts_else t y there (λ next. no_number t (sym is ∙ next))) all
      ∙ ap (λ (bs : List ℕ). bs ++ xs) (sym (k.none is))
  by_next (Some t) is xs all =
      let r : IsNext (turn_in d.transfers) e t = subst (AreReportedTo (turn_in d.transfers) e) is k.reported in
      at_next t is xs all r (slice_get d.transfers t) refl
    where
      at_next : (t : ℕ) → x.next ≡ Some t → (xs : List ℕ) → AllTold hand parts n (out_of (note_in d.notes) e None d.made d.transfers) xs → IsNext (turn_in d.transfers) e t → (o : Option Transfer) → slice_get d.transfers t ≡ o
          → cancelled_bytes d.notes m e x.queue d.transfers ≡ held ++ xs
      at_next t is xs all r None there = absurd (no_turn r.transfer (sym (ap (option_map turn_of) there) ∙ r.here))
        where
          no_turn : (v : Turn) → None ≡ Some v → ⊥
          no_turn v is = cc
      at_next t is xs all r (Some y) there =
          let turn : r.transfer ≡ turn_of y = same_Some r.transfer (turn_of y) (sym r.here ∙ turn_is t y there) in
          let own : y.endpoint ≡ e = sym (ap (λ (v : Turn). v.endpoint) turn) ∙ r.endpoint in
          let waits : y.reported ≡ false = sym (ap (λ (v : Turn). v.reported) turn) ∙ r.waits in
          let way : IsUnderWay hand parts n (note_at d.notes) y held = k.next t y is there in
          next_counts d.notes m parts hand n e x.queue d.made t d.transfers y held xs there
          (λ u z less here. (
            counts_else u z here (λ next. let same = same_number t u (sym is ∙ next) in omega (arith, same, less)),
            none_else u z here (λ at. r.before u (turn_of z) less (turn_is u z here) at),
          ))
          (held_counts t y held there own waits way.done)
          (λ u z more here. counts_else u z here (λ next. let same = same_number t u (sym is ∙ next) in omega (arith, same, more))) all

pub cancel_tells : (order : ℕ → ℕ) (place : ℕ) (d : DriverContent) (m : Mem) (parts : StructureSets) (hand : Hand) (e : ℕ) (x : Endpoint) (held xs : List ℕ) → CanBeTold d m parts hand e x held
    → Accounts order place (out_now d e) hand parts (32 * x.queue) xs → cancelled_bytes d.notes m e x.queue d.transfers ≡ held ++ xs
cancel_tells order place d m parts hand e x held xs k acc =
    by_next d m parts hand e x held k x.next refl xs
    (subst (λ (c : Option Command). AllTold hand parts (32 * x.queue) (out_of (note_in d.notes) e c d.made d.transfers) xs) k.command acc.told)

-- ---- behind what was reported

pub cancel_tells_all : (order : ℕ → ℕ) (d : DriverContent) (m : Mem) (parts : StructureSets) (hand : Hand) (e : ℕ) (x : Endpoint) (acc : List (List ℕ)) (said held reported : List ℕ)
    → CanBeTold d m parts hand e x held → said ++ held ≡ reported → IsReported order (out_now d e) hand parts (32 * x.queue) acc reported → said ++ cancelled_bytes d.notes m e x.queue d.transfers ≡ concat acc
cancel_tells_all order d m parts hand e x acc said held reported k is r =
    ap (λ (bs : List ℕ). said ++ bs) (cancel_tells order r.place d m parts hand e x held r.told k r.accounts)
    ∙ sym (append_assoc said held r.told) ∙ ap (λ (bs : List ℕ). bs ++ r.told) is ∙ r.sum
