-- Of a transfer the bytes are told that are held back of it, and then those that are told of its qTDs that are left.
use Rattle.std.proofs.Common.{◌≡◌, ℕ, zero, suc, ◌+◌, ◌*◌, ◌≤◌, nat_lt, Bool, List, [], ◌++◌, length, ap, refl, sym, subst, ◌∙◌, arith}
use Rattle.std.proofs.lemmas.Bool.{lt-ltb, le-ltb}
use Rattle.std.proofs.lemmas.List.{append_assoc, length-append}
use Rattle.word_mem.specs.Memory.{Mem}
use Rattle.law_structures.specs.lent_structures.Structures.{StructureSets, Tells}
use Rattle.law_ring.specs.Hand.{Hand}
use Rattle.law_ring.specs.Order.{AllTold, none_out, one_out}
use Rattle.drv_table.specs.declared.content.QtdNote.{QtdNote}
use Rattle.drv_table.specs.Harvests.{note_at, buffer_bytes, moved_now, bytes_now}
use Rattle.claims_driver.specs.Owners.{note_in}
use Rattle.law_driver.specs.chained_transfers.Out.{pieces_from}
use Rattle.law_driver_ring.specs.told_harvests.Held.{AreHeld, none_held, one_held, told_of, AreRead}
use Rattle.law_queues.specs.cancelled_bytes.Cancelled.{SettlesElsewhere}
use Rattle.law_queues.proofs.lemmas.cancelled_bytes.Counting.{qtd_counted, done_counted, told_long}

module _ (m : Mem) (parts : StructureSets) (hand : Hand) (queue : ℕ) (notes : List QtdNote) (tells : Tells m parts) (elsewhere : SettlesElsewhere hand (32 * queue)) where
  none_now : (b left : ℕ) → bytes_now notes m queue b 0 left ≡ []
  unfolding bytes_now
  none_now b left = refl

  one_now : (b k left : ℕ) → bytes_now notes m queue b (suc k) left
      ≡ buffer_bytes m (note_at notes b) (moved_now m queue b (note_at notes b) (nat_lt left (suc k))) ++ bytes_now notes m queue (note_at notes b).next k left
  unfolding bytes_now
  one_now b k left = refl

  -- ---- those that are left

  left_counted : (k left b : ℕ) (z : List ℕ) → k ≤ left → AreRead (parts (32 * queue)) (note_at notes) b k → AllTold hand parts (32 * queue) (pieces_from (note_in notes) b k) z
      → (bytes_now notes m queue b k left ≡ z) × (length z ≤ told_of (note_at notes) b k)
  left_counted zero left b z below r none_out = (none_now b left, omega arith)
  left_counted (suc k) left b z below r (one_out e es x xs told rest) =
      let later = left_counted k left (note_at notes b).next xs (omega (arith, below)) r.1 rest in
      let more = later.1 in
      let long = told_long m parts hand queue tells elsewhere b (note_at notes b) x r.0 told in
      let both = length-append x xs in (
        one_now b k left
            ∙ ap (λ (c : Bool). buffer_bytes m (note_at notes b) (moved_now m queue b (note_at notes b) c) ++ bytes_now notes m queue (note_at notes b).next k left) (le-ltb left (suc k) below)
            ∙ ap (λ (bs : List ℕ). bs ++ bytes_now notes m queue (note_at notes b).next k left) (qtd_counted m parts hand queue tells elsewhere b (note_at notes b) x r.0 told)
            ∙ ap (λ (bs : List ℕ). x ++ bs) later.0,
        omega (arith, more, long, both),
      )

  -- ---- the whole transfer

  pub transfer_counted : (b i c l k : ℕ) (held z : List ℕ) → k ≡ i + l → AreHeld hand parts (32 * queue) (note_at notes) b i c held → AreRead (parts (32 * queue)) (note_at notes) b k
      → AllTold hand parts (32 * queue) (pieces_from (note_in notes) c l) z → (bytes_now notes m queue b k l ≡ held ++ z) × (length (held ++ z) ≤ told_of (note_at notes) b k)
  transfer_counted b i c l k held z is (none_held a) r told =
      let same : l ≡ k = omega (arith, is) in
      left_counted k l a z (omega (arith, same)) r (subst (λ (j : ℕ). AllTold hand parts (32 * queue) (pieces_from (note_in notes) a j) z) same told)
  transfer_counted b i c l zero held z is (one_held a j d y ys first rest) r told = absurd (omega (arith, is))
  transfer_counted b i c l (suc k) held z is (one_held a j d y ys first rest) r told =
      let later = transfer_counted (note_at notes a).next j d l k ys z (omega (arith, is)) rest r.1 told in
      let more = later.1 in
      let long = told_long m parts hand queue tells elsewhere a (note_at notes a) y r.0 first.told in
      let assoc = append_assoc y ys z in
      let both = length-append y (ys ++ z) in
      let all = ap length assoc in (
        one_now a k l
            ∙ ap (λ (c : Bool). buffer_bytes m (note_at notes a) (moved_now m queue a (note_at notes a) c) ++ bytes_now notes m queue (note_at notes a).next k l) (lt-ltb l (suc k) (omega (arith, is)))
            ∙ ap (λ (bs : List ℕ). bs ++ bytes_now notes m queue (note_at notes a).next k l) (done_counted m parts hand queue tells elsewhere a (note_at notes a).moved (note_at notes a) y r.0 first)
            ∙ ap (λ (bs : List ℕ). y ++ bs) later.0 ∙ sym assoc,
        omega (arith, more, long, both, all),
      )

pub transfer_is_counted : (m : Mem) (parts : StructureSets) (hand : Hand) (queue : ℕ) (notes : List QtdNote) (b i c l k : ℕ) (held z : List ℕ) → Tells m parts
    → SettlesElsewhere hand (32 * queue) → k ≡ i + l → AreHeld hand parts (32 * queue) (note_at notes) b i c held → AreRead (parts (32 * queue)) (note_at notes) b k
    → AllTold hand parts (32 * queue) (pieces_from (note_in notes) c l) z → bytes_now notes m queue b k l ≡ held ++ z
transfer_is_counted m parts hand queue notes b i c l k held z tells elsewhere is first read told = (transfer_counted m parts hand queue notes tells elsewhere b i c l k held z is first read told).0
