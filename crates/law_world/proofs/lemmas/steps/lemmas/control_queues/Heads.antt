-- Stores of words of queue heads leave what stands of control queues: of a queue that was stalled, and of the link past a queue head that leaves the ring.
use Rattle.std.proofs.Common.{◌≡◌, ◌≢◌, ℕ, ◌*◌, Bool, false, ◌||◌, List, [], ◌∷◌, ◌++◌, Option, Some, ap, refl, sym, subst, ◌∙◌, ⊎_elim, inl}
use Rattle.std.proofs.lemmas.Bool.{cases_eq}
use Rattle.law_common.proofs.Numbers.{other_number}
use Rattle.link_words.specs.declared.fields.LinkBits.{LinkBits}
use Rattle.qh_qtd.specs.declared.queue_head.Qh.{Qh}
use Rattle.drv_table.specs.declared.content.Command.{Command}
use Rattle.drv_table.specs.declared.content.Command.TheVariants as unfinished
use Rattle.drv_table.specs.DriverContent.{DriverContent}
use Rattle.drv_table.specs.Parts.{Parts as DriverParts}
use Rattle.drv_table.specs.Words.{to_queue_head}
use Rattle.law_driver.specs.endpoint_lives.Lives.{is_one_of}
use Rattle.law_structures.specs.lent_structures.Structures.{QueueHead, StructureSets, put}
use Rattle.law_ring.specs.Front.{LinksRise, HadRest}
use Rattle.law_ring.specs.Halted.{HaltStops, KeepsRest}
use Rattle.law_ring.specs.Order.{IsAmong}
use Rattle.law_ring.proofs.HaltSparing.{halt_is_spared}
use Rattle.law_queues.specs.mended_heads.Mended.{parts_then as parts_mended}
use Rattle.law_queues.specs.mended_heads.Standing.{KeepsHalted, is_beside}
use Rattle.law_queues.proofs.lemmas.mended_heads.Parts.{own_is, had_rest, element_was}
use Rattle.law_queues.proofs.lemmas.mended_heads.Queues.{mend_leaves_rising}
use Rattle.law_queues.proofs.lemmas.mended_heads.Row.{mend_row, mend_keeps_mends, mend_leaves_halts}
use Rattle.law_queues.proofs.lemmas.mended_heads.Standing.{link_keeps_halted, rows_keep_mends}
use Rattle.law_queues.specs.publish_laws.Stores.{next_of}
use Rattle.law_world.specs.steps.unlinked_streams.Unlinks.{IsAtUnlink, driver_then, parts_unlinked}
use Rattle.law_world.proofs.lemmas.steps.lemmas.unlinked_streams.Passing.{unlink_row}
use Rattle.law_world.specs.steps.control_queues.Rows.{MendKeepsControls, UnlinkKeepsControls}
use Rattle.law_world.proofs.lemmas.steps.lemmas.control_queues.Alike.{ThereAlike, same_there, told_anew, stand_by}
use Rattle.law_world.proofs.lemmas.steps.lemmas.control_queues.Beside.{joined}

-- ---- a stalled queue

pub mend_keeps_controls : MendKeepsControls
mend_keeps_controls p parts order out k c =
    let row = mend_row p parts out k in
    stand_by p.driver (next_of p).driver parts (parts_mended k) order order out out
    (same_there p.driver (next_of p).driver (ap (λ (d : DriverContent). d.endpoints) row.driver) (λ q is. ap (λ (d : DriverContent). d.command) row.driver ∙ is) (ap (λ (d : DriverContent). d.waiting) row.driver)
    (ap (λ (d : DriverContent). d.rung) row.driver))
    (λ i x here there r. mend_leaves_rising (order (32 * x.queue)) (32 * x.queue) p parts out k r) (λ i x here there s. s) (λ i x here met s. mend_leaves_halts order p parts out k (32 * x.queue) s) (mend_keeps_mends p parts out k) c

-- ---- a link

-- the queue head q, at m, gets another link
module _ (parts : StructureSets) (m : ℕ) (q : Qh) (l : LinkBits) (head : parts m m ≡ Some (QueueHead q)) where
  abbrev new : Qh
  new = record q { link = l }

  abbrev now : StructureSets
  now = put parts m m (QueueHead new)

  pub rises_linked : (order : ℕ → ℕ) (n : ℕ) → LinksRise order (parts n) → LinksRise order (now n)
  rises_linked order n r = record {
    next = λ a t b is to. r.next a t b (element_was parts m q new head n a t is) to;
    alternate = λ a t b is to. r.alternate a t b (element_was parts m q new head n a t is) to;
  }

  rest_linked : (n : ℕ) → KeepsRest (parts n) (now n) n
  rest_linked n r is =
      ⊎_elim {C = HadRest (parts n) n r}
      (λ (same : n ≡ m).
      subst (λ (z : Qh). HadRest (parts n) n z) (sym (own_is parts m q new head n r same is))
      (record { queue = q; here = ap (λ (i : ℕ). parts i i) same ∙ head; rest = record { token = refl; current = refl; next = refl; alternate = refl } }))
      (λ (differs : n ≢ m). had_rest parts m q new head n r differs is) (cases_eq n m)

  pub stops_linked : (order : ℕ → ℕ) (out later : List ℕ) (n : ℕ) → ((a : ℕ) → IsAmong a later → IsAmong a out) → HaltStops order out n (parts n) → HaltStops order later n (now n)
  stops_linked order out later n fewer s =
      halt_is_spared order out later n (parts n) (now n) (rest_linked n) (λ a t among is. inl (fewer a among, element_was parts m q new head n a t is)) s

  pub halted_linked : (out later : ℕ → List ℕ) (n : ℕ) → ((a : ℕ) → IsAmong a (later n) → IsAmong a (out n)) → KeepsHalted parts now out later n
  halted_linked out later n fewer =
      let k = link_keeps_halted parts out n m q l head in
      record { head = k.head; published = λ a t among is. k.published a t (fewer a among) is }

-- ---- an endpoint leaves the ring

module _ (p : DriverParts) (member : ℕ → Bool) (parts : StructureSets) (k : IsAtUnlink p.driver member parts) where
  abbrev d : DriverContent
  d = p.driver

  abbrev f : DriverContent
  f = driver_then p.driver k.number k.endpoint

  never_opens : (q : ℕ) → ◌≡◌ {A = Option Command} d.command (Some (unfinished.Open q)) → ⊥
  never_opens q is = never (sym k.command ∙ is)
    where
      never : {e b l : ℕ} → ◌≡◌ {A = Option Command} (Some (unfinished.Unlink e b l)) (Some (unfinished.Open q)) → ⊥
      never same = cc

  unlinked_alike : ThereAlike d f
  unlinked_alike =
      told_anew d f k.number k.endpoint (record k.endpoint { linked = false }) k.here refl refl refl (λ q is. absurd (never_opens q is))
      (λ near. ap (λ (b : Bool). b || (is_one_of k.number d.waiting || is_one_of k.number d.rung)) k.linked)
      (λ i z differs near.
      let one : is_one_of i (d.waiting ++ k.number ∷ []) ≡ is_one_of i d.waiting = joined i d.waiting (k.number ∷ []) ∙ ap (λ (b : Bool). (b || false) || is_one_of i d.waiting) (other_number i k.number differs) in
      ap (λ (b : Bool). z.linked || (b || is_one_of i d.rung)) (sym one) ∙ near)

pub unlink_keeps_controls : UnlinkKeepsControls
unlink_keeps_controls p member parts order out k c =
    let m = 32 * k.before in
    let l = to_queue_head k.after in
    let row = unlink_row p member parts k in
    stand_by p.driver (next_of p).driver parts (parts_unlinked parts k.before k.queue k.after) order order out out
    (subst (ThereAlike p.driver) (sym row.driver) (unlinked_alike p member parts k)) (λ i x here there r. rises_linked parts m k.queue l k.head (order (32 * x.queue)) (32 * x.queue) r) (λ i x here there s. s)
    (λ i x here met s. stops_linked parts m k.queue l k.head (order (32 * x.queue)) (out (32 * x.queue)) (out (32 * x.queue)) (32 * x.queue) (λ a among. among) s)
    (rows_keep_mends p parts (parts_unlinked parts k.before k.queue k.after) out out (ap is_beside row.row) (λ s owed. halted_linked parts m k.queue l k.head out out (32 * s.queue) (λ a among. among)) c.mends) c
