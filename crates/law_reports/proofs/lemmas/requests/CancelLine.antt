-- The line of a cancel tells beginnings of the data of the requests that wait.
use Rattle.std.proofs.Common.{◌≡◌, ℕ, suc, ◌*◌, ◌<◌, ◌≤◌, nat_lt, Bool, true, false, if◌then◌else◌, List, [], ◌∷◌, ◌++◌}
use Rattle.std.proofs.Common.{◌-◌, length, map, take, ap, refl, sym, subst, ◌∙◌, ⊎_elim, arith}
use Rattle.std.proofs.lemmas.Bool.{ltb-true}
use Rattle.std.proofs.lemmas.List.{append-nil}
use Rattle.std.proofs.lemmas.List.FromFn.{length-map-range_with_len}
use Rattle.law_common.proofs.Lists.{take_whole}
use Rattle.word_mem.specs.Memory.{Mem}
use Rattle.word_mem.specs.Views.{byte_at}
use Rattle.claims_driver.specs.Owners.{note_in}
use Rattle.claims_report.specs.Requests.{Request, Window, AreBegun}
use Rattle.claims_world.specs.Requests.{Windows, window_at}
use Rattle.drv_table.specs.declared.content.QtdNote.{QtdNote}
use Rattle.drv_table.specs.declared.content.Transfer.{Transfer}
use Rattle.drv_table.specs.DriverContent.{waits_for}
use Rattle.drv_table.specs.Harvests.{note_at, buffer_address, buffer_bytes, moved_now, left_now, bytes_now}
use Rattle.drv_table.specs.Releases.{cancelled_bytes}
use Rattle.law_driver.specs.chained_transfers.Chains.{piece_at}
use Rattle.law_driver_ring.proofs.Common.{moved_is}
use Rattle.law_driver_ring.specs.told_harvests.Held.{told_of}
use Rattle.law_queues.specs.cancelled_bytes.Cancelled.{SettlesElsewhere}
use Rattle.law_queues.proofs.lemmas.cancelled_bytes.Counting.{qtd_counted, told_long}
use Rattle.law_ring.specs.Hand.{Hand}
use Rattle.law_structures.specs.lent_structures.Structures.{StructureSets, Tells}
use Rattle.law_reports.specs.requests.CancelLine.{IsDataTold, IsCounted, RequestIsCounted, waiting_from, HasBegun, HaveBegun, CancelIsBegun}
use Rattle.law_reports.specs.requests.request_bytes.Fresh.{next_of}
use Rattle.law_reports.proofs.lemmas.requests.lemmas.driver_requests.Owning.{qtds_case}

-- ---- one request

no_bytes : (m : Mem) (note : QtdNote) → buffer_bytes m note 0 ≡ []
unfolding buffer_bytes
no_bytes m note = refl

buffer_long : (m : Mem) (note : QtdNote) (n : ℕ) → length (buffer_bytes m note n) ≡ n
unfolding buffer_bytes
buffer_long m note n = length-map-range_with_len (λ (j : ℕ). byte_at m (buffer_address note j)) 0 n

module _ (m : Mem) (queue : ℕ) (notes : List QtdNote) where
  none_now : (b left : ℕ) → bytes_now notes m queue b 0 left ≡ []
  unfolding bytes_now
  none_now b left = refl

  one_now : (b k left : ℕ) → bytes_now notes m queue b (suc k) left
      ≡ buffer_bytes m (note_at notes b) (moved_now m queue b (note_at notes b) (nat_lt left (suc k)))
      ++ bytes_now notes m queue (note_at notes b).next k left
  unfolding bytes_now
  one_now b k left = refl

  none_moved : (b left k : ℕ) (c : Bool) → nat_lt left k ≡ c → (note_at notes b).told ≡ 0 → (left < k → (note_at notes b).moved ≡ 0)
      → moved_now m queue b (note_at notes b) c ≡ 0
  none_moved b left k true is silent unmoved = unmoved (ltb-true left k is)
  none_moved b left k false is silent unmoved =
      let few = moved_is (note_at notes b).told (left_now m queue b) in omega (arith, few, silent)

  -- nothing is told of it
  silent_now : (b k left : ℕ) → (note_at notes b).told ≡ 0 → (left < suc k → (note_at notes b).moved ≡ 0)
      → bytes_now notes m queue b (suc k) left ≡ bytes_now notes m queue (note_at notes b).next k left
  silent_now b k left silent unmoved =
      one_now b k left
      ∙ ap (λ (i : ℕ). buffer_bytes m (note_at notes b) i ++ bytes_now notes m queue (note_at notes b).next k left)
      (none_moved b left (suc k) (nat_lt left (suc k)) refl silent unmoved)
      ∙ ap (λ (bs : List ℕ). bs ++ bytes_now notes m queue (note_at notes b).next k left) (no_bytes m (note_at notes b))

module _ (m : Mem) (hand : Hand) (parts : StructureSets) (queue : ℕ) (notes : List QtdNote) (tells : Tells m parts)
    (elsewhere : SettlesElsewhere hand (32 * queue)) where
  module _ (y : Transfer) (r : Request) (bytes : List ℕ) (k : IsCounted hand parts (32 * queue) notes y r bytes) where
    abbrev note : ℕ → QtdNote
    note = note_at notes

    abbrev next : ℕ
    next = next_of notes y.first

    -- its status is silent, and not read
    last_silent : (b : ℕ) → (note_at notes b).told ≡ 0 → bytes_now notes m queue b 1 y.left ≡ []
    last_silent b silent =
        silent_now m queue notes b 0 y.left silent (λ (less : y.left < 1). absurd (let some = k.left in omega (arith, less, some)))
        ∙ none_now m queue notes (note_at notes b).next y.left

    status_at : (i : ℕ) → y.qtds ≡ suc i → (note_at notes (piece_at (note_in notes) y.first i)).told ≡ 0
    status_at i is =
        ap (λ (j : ℕ). (note_at notes (piece_at (note_in notes) y.first j)).told) (let e : i ≡ y.qtds - 1 = omega (arith, is) in e)
        ∙ k.silent.status

    two : y.qtds ≡ 2 → bytes_now notes m queue y.first y.qtds y.left ≡ []
    two is =
        ap (λ (i : ℕ). bytes_now notes m queue y.first i y.left) is
        ∙ silent_now m queue notes y.first 1 y.left k.silent.setup
        (λ (less : y.left < 2). k.setup (omega (arith, less, is)))
        ∙ last_silent next (status_at 1 is)

    -- of its data the bytes that were moved
    data_now : IsDataTold hand parts (32 * queue) notes (next_of notes y.first) y.left bytes → (c : Bool) → nat_lt y.left 2 ≡ c
        → buffer_bytes m (note_at notes (next_of notes y.first))
        (moved_now m queue (next_of notes y.first) (note_at notes (next_of notes y.first)) c) ≡ bytes
    data_now t true is =
        let less = ltb-true y.left 2 is in
        let some = k.left in
        let by_token = qtd_counted m parts hand queue tells elsewhere next (note next) bytes t.read t.told in
        ap (buffer_bytes m (note next))
        (sym (t.done (omega (arith, less, some))) ∙ ap length (sym by_token)
        ∙ buffer_long m (note next) (moved_now m queue next (note next) false)) ∙ by_token
    data_now t false is = qtd_counted m parts hand queue tells elsewhere next (note next) bytes t.read t.told

    three : IsDataTold hand parts (32 * queue) notes (next_of notes y.first) y.left bytes → y.qtds ≡ 3
        → bytes_now notes m queue y.first y.qtds y.left ≡ bytes
    three t is =
        ap (λ (i : ℕ). bytes_now notes m queue y.first i y.left) is
        ∙ silent_now m queue notes y.first 2 y.left k.silent.setup
        (λ (less : y.left < 3). k.setup (omega (arith, less, is)))
        ∙ one_now m queue notes next 1 y.left
        ∙ ap (λ (bs : List ℕ). bs ++ bytes_now notes m queue (note next).next 1 y.left) (data_now t (nat_lt y.left 2) refl)
        ∙ ap (λ (bs : List ℕ). bytes ++ bs) (last_silent (note next).next (status_at 2 is))
        ∙ append-nil bytes

    few : IsDataTold hand parts (32 * queue) notes (next_of notes y.first) y.left bytes → y.qtds ≡ 3 → length bytes ≤ y.most
    few t is =
        let long = told_long m parts hand queue tells elsewhere next (note next) bytes t.read t.told in
        let all : told_of (note_at notes) y.first 3 ≡ told_of (note_at notes) y.first y.qtds =
        ap (told_of (note_at notes) y.first) (sym is) in
        let less = k.within in
        omega (arith, long, all, less)

    pub counted : take y.most (bytes_now notes m queue y.first y.qtds y.left) ≡ bytes
    counted =
        ⊎_elim
        (λ none.
        ap (take y.most) (two (k.qtds ∙ none.1)) ∙ take_whole y.most [] (omega arith) ∙ sym (k.none none.0))
        (λ some.
        ap (take y.most) (three (k.told some.0) (k.qtds ∙ some.1))
        ∙ take_whole y.most bytes (few (k.told some.0) (k.qtds ∙ some.1))) (qtds_case r)

  -- ---- all of an endpoint

  none_left : (e : ℕ) → cancelled_bytes notes m e queue [] ≡ []
  unfolding cancelled_bytes
  none_left e = refl

  one_more : (e : ℕ) (y : Transfer) (ys : List Transfer) → cancelled_bytes notes m e queue (y ∷ ys)
      ≡ (if waits_for e y then take y.most (bytes_now notes m queue y.first y.qtds y.left) else [])
      ++ cancelled_bytes notes m e queue ys
  unfolding cancelled_bytes
  one_more e y ys = refl

  module _ (whole : Request → List ℕ) (asks : ℕ → Request) (v : Windows) (e : ℕ) where
    abbrev Begun : List ℕ → List ℕ → Type 0
    Begun bytes ts = AreBegun bytes (map (λ (w : Window). whole w.request) (map (window_at asks v) ts))

    by : (k : ℕ) (y : Transfer) (ys : List Transfer) (b : Bool) → waits_for e y ≡ b
        → (b ≡ true → HasBegun hand parts (32 * queue) notes whole y (asks k))
        → Begun (cancelled_bytes notes m e queue ys) (waiting_from e (suc k) ys)
        → Begun ((if b then take y.most (bytes_now notes m queue y.first y.qtds y.left) else []) ++ cancelled_bytes notes m e queue ys)
        (if b then k ∷ waiting_from e (suc k) ys else waiting_from e (suc k) ys)
    by k y ys true is has rest =
        let h = has refl in (
          h.bytes,
          cancelled_bytes notes m e queue ys,
          ap (λ (bs : List ℕ). bs ++ cancelled_bytes notes m e queue ys) (counted y (asks k) h.bytes h.counted),
          h.begins,
          rest,
        )
    by k y ys false is has rest = rest

    begun : (k : ℕ) (ts : List Transfer) → HaveBegun hand parts (32 * queue) notes whole asks e k ts
        → AreBegun (cancelled_bytes notes m e queue ts)
        (map (λ (w : Window). whole w.request) (map (window_at asks v) (waiting_from e k ts)))
    begun k [] all = none_left e
    begun k (y ∷ ys) all =
        subst (λ (bs : List ℕ). Begun bs (waiting_from e k (y ∷ ys))) (sym (one_more e y ys))
        (by k y ys (waits_for e y) refl all.0 (begun (suc k) ys all.1))

pub request_is_counted : RequestIsCounted
request_is_counted m hand parts queue notes y r bytes tells elsewhere k = counted m hand parts queue notes tells elsewhere y r bytes k

pub cancel_is_begun : CancelIsBegun
cancel_is_begun m hand parts queue notes whole asks v e k ts tells elsewhere all =
    begun m hand parts queue notes tells elsewhere whole asks v e k ts all
